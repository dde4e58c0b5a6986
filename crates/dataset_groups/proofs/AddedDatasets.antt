-- The datasets of a group with a volume more, and behind actions one after the other.
use Rattle.std.proofs.Common.{◌≡◌, ◌+◌, ◌<◌, ◌≤◌, ℕ, true, List, [], replicate, Option, Some, None, Contains, refl, sym, ap, subst, ◌∙◌, arith}
use Rattle.std.proofs.lemmas.List.{length-replicate}
use Rattle.block_pointer.specs.declared.block.Block.{Block}
use Rattle.block_store.specs.Blocks.{Contents, Extends}
use Rattle.dataset_destroys.proofs.ChainStaying.{chains_stay}
use Rattle.dataset_destroys.specs.Chains.{LeadsTo, Reading}
use Rattle.dataset_destroys.specs.ChainMaking.{volume_with}
use Rattle.dead_list.specs.Blocks.{AreDistinct}
use Rattle.dead_list.specs.Datasets.{Head, Pool}
use Rattle.dead_list.specs.Operations.{AreNew, IsUnused}
use Rattle.dnode_tree.proofs.SameBlocks.{counted, distinct_counted, found, once_counted, same_as}
use Rattle.meta_objset.specs.declared.directory.DirectoryRow.{DirectoryRow}
use Rattle.meta_objset.specs.declared.record.DatasetRecord.{DatasetRecord}
use Rattle.meta_objset.specs.Directory.{LacksName}
use Rattle.objset.specs.Objects.{Object}
use Rattle.pool_model.specs.declared.item.Change.TheVariants.{Create}
use Rattle.pool_model.specs.Names.{is_name}
use Rattle.pool_model.specs.Pools.{PlainPool, changed, created}
use Rattle.volume.specs.Volume.{IsVolume}
use Rattle.volume.specs.Walking.{blocks_of_volume}
use Rattle.dataset_groups.specs.Actions.{AreActed}
use Rattle.dataset_groups.specs.Adding.{IsAdded}
use Rattle.dataset_groups.specs.Groups.{SpellsGroup}
use Rattle.dataset_groups.specs.Leaving.{AddsData, IsReachExchanged}
use Rattle.dataset_groups.specs.Names.{reach_by}
use Rattle.dataset_groups.specs.NewVolumes.{IsNewVolume, new_record, numbers_end}
use Rattle.dataset_groups.specs.declared.datasets.GroupDatasets.{GroupDatasets}
use Rattle.dataset_groups.specs.declared.new_volume.NewVolume.{NewVolume}
use Rattle.dataset_groups.proofs.AddedReach.{reach_with}
use Rattle.dataset_groups.proofs.Copied.{adds_on}
use Rattle.dataset_groups.proofs.Exchanges.{given_then}
use Rattle.dataset_groups.proofs.KnownBlocks.{reached_known}
use Rattle.dataset_groups.proofs.MakingVolumes.{volumes_same}
use Rattle.dataset_groups.proofs.MoreDatasets.{acts_with, new_numbers, next_unused, passed_over}
use Rattle.dataset_groups.proofs.MoreNames.{names_with, not_new}
use Rattle.dataset_groups.proofs.NameParts.{volume_is_part}
use Rattle.dataset_groups.proofs.OneMore.{one_with}
use Rattle.dataset_groups.proofs.RowMore.{IsRowMore}
use Rattle.dataset_groups.proofs.ToldMore.{told_volume}

-- ---- new blocks

module _ (group : ℕ) (planned later : Contents) (blocks : List Block) (one : IsReachExchanged group planned later [] blocks []) where
  is_added : (block : Block) → Contains blocks block → Contains one.added block
  is_added block held = found block one.added (omega (arith, counted block blocks held, one.after_are (same_as block), one.before_are (same_as block)))

  born_now : (block : Block) → Contains blocks block → block.birth ≡ group
  born_now block held = one.born block (is_added block held)

  not_known : (block : Block) → Contains blocks block → planned block ≡ None
  not_known block held = one.fresh block (is_added block held)

  each_once : AreDistinct blocks
  each_once = distinct_counted blocks (λ block. omega (arith, once_counted block one.added one.once, one.after_are (same_as block), one.before_are (same_as block)))

-- ---- the datasets

-- the volume of a change is made
pub volume_made : (old new : GroupDatasets) (name : List ℕ) (size block_size : ℕ) (v : NewVolume) (group : ℕ) (object_set : Block) (r : DatasetRecord) (planned later : Contents)
    (objects : ℕ → Option Object) (pool : Pool) (readings : ℕ → Reading) (plain : PlainPool) → IsNewVolume name size block_size v → is_name name ≡ true → 0 < group → 4 < old.next
    → old.next + 2 ≤ numbers_end → old.next + 2 ≤ old.bounds.end → LacksName old.directory v.name → IsAdded old v.name r new → r ≡ new_record v group (old.next + 1) object_set → Extends planned later
    → (bytes : IsVolume later group object_set v.size v.block_size (replicate v.size 0))
    → IsReachExchanged group planned later [] (blocks_of_volume object_set bytes.set bytes.has.own bytes.has.blocks) [] → AddsData planned later
    → SpellsGroup planned group objects old pool readings plain → AreActed group objects planned later old new pool (changed group plain (Create name size block_size))
volume_made old new name size block_size v group object_set r planned later objects pool readings plain is good some behind within left lacks added r_is more bytes one adds spells =
    let made : DatasetRecord = new_record v group (old.next + 1) object_set in
    let it : IsAdded old v.name made new = subst (λ (r : DatasetRecord). IsAdded old v.name r new) r_is added in
    let blocks : List Block = blocks_of_volume object_set bytes.set bytes.has.own bytes.has.blocks in
    let reading : Reading = record { array = replicate v.size 0; block_size = v.block_size } in
    let n : ℕ = old.next in
    let row : DirectoryRow = record { name = v.name; object = n } in
    let unused : IsUnused pool.datasets n = next_unused old group planned objects pool readings plain spells left behind in
    let one_more = one_with pool n (volume_with pool blocks) unused refl in
    let in_group = spells.chains.now in
    let are_new : AreNew pool blocks = λ block held. (
      born_now group planned later blocks one block held ∙ sym in_group,
      λ reached.
          let known = reached_known planned group objects old.changes pool readings spells.chains block reached in
          let clash : None ≡ Some known.0 = sym (not_known group planned later blocks one block held) ∙ known.1 in
          cc,
    ) in
    let leads : LeadsTo later group made blocks reading = record { size = sym (length-replicate v.size 0); block_size = refl; bytes = bytes; blocks_are = refl } in
    let row_more : IsRowMore pool readings old.directory plain n new.directory (created group name size block_size) = record {
      unused = unused;
      sound = spells.chains.sound;
      names = spells.names;
      row = row;
      among = it.row;
      lacks = lacks;
      at = refl;
      named = is.0;
    } in
    let told = told_volume pool readings old.directory plain n new.directory (created group name size block_size) row_more (volume_is_part name good) (volume_with pool blocks) refl refl refl in
    let chains = it.adds later group objects pool readings blocks reading some (chains_stay.more planned later group objects old.changes pool readings more spells.chains) unused
    (record { kind = refl; created = refl; previous = refl; next = refl; clones = refl })
    (new_numbers old group planned objects pool readings plain spells left behind within) leads are_new (each_once group planned later blocks one) in
    acts_with old group planned objects pool readings plain spells left later new _ _ Head reading one_more chains
    (names_with pool _ n Head one_more readings old.directory plain spells.names reading new.directory row (created group name size block_size) it.row lacks refl is.0 good refl in_group
    (ap (λ k. replicate k 0) is.1) is.2 told)
    it.next it.bounds it.touched.lists
    (reach_with group planned later pool spells.chains.sound n unused blocks old.directory new.directory row it.row.at
    (λ block held. let birth = born_now group planned later blocks one block held in omega (arith, birth, some)) refl
    (not_new pool _ n Head one_more readings old.directory plain spells.names) it.row.placed one)
    adds

-- or its name is there
pub volume_passed : (datasets : GroupDatasets) (name : List ℕ) (size block_size : ℕ) (v : NewVolume) (group object : ℕ) (stored : Contents) (objects : ℕ → Option Object) (pool : Pool)
    (readings : ℕ → Reading) (plain : PlainPool) → IsNewVolume name size block_size v → Contains datasets.directory (record { name = v.name; object = object })
    → SpellsGroup stored group objects datasets pool readings plain → AreActed group objects stored stored datasets datasets pool (changed group plain (Create name size block_size))
volume_passed datasets name size block_size v group object stored objects pool readings plain is held spells =
    passed_over datasets group stored objects pool readings plain _
    (volumes_same _ (λ r volume named. named.name) datasets.directory (record { name = v.name; object = object }) plain (created group name size block_size) held is.0 spells.names.volumes) spells

-- ---- one after the other

-- nothing was done yet
pub acts_none : (datasets : GroupDatasets) (group : ℕ) (stored : Contents) (objects : ℕ → Option Object) (pool : Pool) (readings : ℕ → Reading) (plain : PlainPool)
    → SpellsGroup stored group objects datasets pool readings plain → AreActed group objects stored stored datasets datasets pool plain
acts_none datasets group stored objects pool readings plain spells = passed_over datasets group stored objects pool readings plain plain refl spells

-- and then more
pub acts_on : (first mid last : GroupDatasets) (group : ℕ) (planned now later : Contents) (objects : ℕ → Option Object) (pool : Pool) (plain then_plain : PlainPool) → Extends planned now
    → Extends now later → (one : AreActed group objects planned now first mid pool plain) → AreActed group objects now later mid last one.after then_plain
    → AreActed group objects planned later first last pool then_plain
acts_on first mid last group planned now later objects pool plain then_plain more further one two = record {
  after = two.after;
  readings = two.readings;
  spells = two.spells;
  exchanged = given_then group planned now later (reach_by pool first.directory) (reach_by one.after mid.directory) (reach_by two.after last.directory) [] more further one.exchanged two.exchanged;
  adds = adds_on planned now later one.adds two.adds;
}
