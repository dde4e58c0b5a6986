-- The datasets of a group with a clone more.
use Rattle.std.proofs.Common.{[], ◌≡◌, ◌+◌, ◌<◌, ◌≤◌, ℕ, Bool, true, false, List, Option, Some, None, Contains, cond, refl, sym, ap, subst, ◌∙◌}
use Rattle.block_pointer.specs.declared.block.Block.{Block}
use Rattle.block_store.specs.Blocks.{Contents}
use Rattle.block_store.specs.Steps.{AnswersTell}
use Rattle.block_store.specs.Store.{Holds, Store}
use Rattle.dataset_destroys.specs.Chains.{Reading}
use Rattle.dataset_destroys.specs.States.{birth_of, set_of}
use Rattle.dead_list.specs.Datasets.{Head, Pool}
use Rattle.dead_list.specs.Operations.{IsSnapshot, IsUnused, MakeClone, clone_of, with_dataset}
use Rattle.dead_list.specs.Reach.{ReachHasEachOnce}
use Rattle.meta_objset.specs.declared.directory.DirectoryRow.{DirectoryRow}
use Rattle.meta_objset.specs.Directory.{IsDirectory, LacksName}
use Rattle.meta_objset.specs.Names.{IsNamed}
use Rattle.objset.specs.Objects.{AreObjects, Object}
use Rattle.pool_model.specs.declared.item.Change.TheVariants.{Clone}
use Rattle.pool_model.specs.declared.volume.PlainVolume.{PlainVolume}
use Rattle.pool_model.specs.declared.volume.VolumeKind.TheVariants.{Snapshot}
use Rattle.pool_model.specs.Names.{is_name, is_name_for}
use Rattle.pool_model.specs.Pools.{PlainPool, changed, clone_of as plain_clone_of, is_snapshot, volume_at, with_clone, with_volume}
use Rattle.dataset_groups.specs.Actions.{AreActed}
use Rattle.dataset_groups.specs.Adding.{IsCloned}
use Rattle.dataset_groups.specs.Demands.{IsNameThere}
use Rattle.dataset_groups.specs.Groups.{SpellsGroup}
use Rattle.dataset_groups.specs.Names.{NamesPool, NamesVolume, objects_of_rows}
use Rattle.dataset_groups.specs.NewVolumes.{numbers_end}
use Rattle.dataset_groups.specs.declared.datasets.GroupDatasets.{GroupDatasets}
use Rattle.dataset_groups.proofs.Copied.{adds_none}
use Rattle.dataset_groups.proofs.KindNames.{names_snapshot, snapshot_is_one}
use Rattle.dataset_groups.proofs.MakingVolumes.{volumes_same}
use Rattle.dataset_groups.proofs.MoreDatasets.{acts_with, new_numbers, next_unused}
use Rattle.dataset_groups.proofs.MoreNames.{names_with}
use Rattle.dataset_groups.proofs.NameParts.{volume_is_part}
use Rattle.dataset_groups.proofs.NamedRows.{IsLedTo, led_to, none_at}
use Rattle.dataset_groups.proofs.OneMore.{one_with}
use Rattle.dataset_groups.proofs.RowMore.{IsRowMore}
use Rattle.dataset_groups.proofs.SameReach.{same_reach}
use Rattle.dataset_groups.proofs.ToldMore.{told_clone}

-- ---- nothing is made

either_same : (b : Bool) (one other : PlainPool) → one ≡ other → cond b one other ≡ other
either_same true one other same = same
either_same false one other same = refl

clone_same : (group : ℕ) (name : List ℕ) (found : Option PlainVolume) (plain : PlainPool) → ((v : PlainVolume) → with_volume (plain_clone_of group name v) plain ≡ plain)
    → with_clone group name found plain ≡ plain
clone_same group name None plain same = refl
clone_same group name (Some v) plain same = either_same (is_snapshot v.kind) (with_volume (plain_clone_of group name v) plain) plain (same v)

-- the clone's name is there
pub clone_there : (group : ℕ) (pool : Pool) (readings : ℕ → Reading) (rows : List DirectoryRow) (plain : PlainPool) (row : DirectoryRow) (snapshot name : List ℕ) → Contains rows row
    → IsNamed row.name name → NamesPool pool readings rows plain → changed group plain (Clone snapshot name) ≡ plain
clone_there group pool readings rows plain row snapshot name held named names =
    clone_same group name (volume_at snapshot plain) plain
    (λ v. volumes_same (NamesVolume pool readings) (λ r v is. is.name) rows row plain (plain_clone_of group name v) held named names.volumes)

-- or the snapshot's isn't
pub snapshot_not_there : (group : ℕ) (pool : Pool) (readings : ℕ → Reading) (rows : List DirectoryRow) (plain : PlainPool) (snapshot name : List ℕ) → ¬ IsNameThere rows snapshot
    → NamesPool pool readings rows plain → changed group plain (Clone snapshot name) ≡ plain
snapshot_not_there group pool readings rows plain snapshot name none names =
    ap (λ (found : Option PlainVolume). with_clone group name found plain) (none_at pool readings rows plain snapshot none names)

-- ---- a clone is made

module _ (pool : Pool) (readings : ℕ → Reading) (rows : List DirectoryRow) (plain : PlainPool) (row : DirectoryRow) (snapshot : List ℕ) (order : IsDirectory rows) (held : Contains rows row)
    (named : IsNamed row.name snapshot) (good : is_name_for Snapshot snapshot ≡ true) (names : NamesPool pool readings rows plain) where
  leads : IsLedTo pool readings plain row snapshot
  leads = led_to pool readings rows plain row snapshot order held named names

  is_one : is_snapshot leads.v.kind ≡ true
  is_one = names_snapshot leads.v.kind snapshot leads.good good

  -- its object is a snapshot's
  pub row_is_snapshot : IsSnapshot pool.datasets row.object
  row_is_snapshot = snapshot_is_one leads.v.kind (pool.datasets row.object).kind leads.names.kind is_one

  -- its clone comes to the plain pool
  plain_cloned : (group : ℕ) (name : List ℕ) → changed group plain (Clone snapshot name) ≡ with_volume (plain_clone_of group name leads.v) plain
  plain_cloned group name =
      ap (λ (found : Option PlainVolume). with_clone group name found plain) leads.found ∙ ap (λ b. cond b (with_volume (plain_clone_of group name leads.v) plain) plain) is_one

pub clone_made : ReachHasEachOnce → (before after : Store) (old new : GroupDatasets) (group : ℕ) (padded snapshot name : List ℕ) (row : DirectoryRow) (stored known : Contents) (objects : ℕ → Option Object)
    (own : List Block) (blocks : ℕ → List Block) (pool : Pool) (readings : ℕ → Reading) (plain : PlainPool) → 4 < old.next → old.next + 2 ≤ numbers_end
    → old.next + 2 ≤ old.bounds.end → IsDirectory old.directory
    → IsNamed padded name → is_name_for Snapshot snapshot ≡ true → is_name name ≡ true → LacksName old.directory padded → Contains old.directory row → IsNamed row.name snapshot
    → IsCloned before after group row.object old padded new → Holds before stored → AreObjects stored (birth_of old.changes) (set_of old.changes) objects own blocks → AnswersTell before after []
    → SpellsGroup known group objects old pool readings plain → AreActed group objects known known old new pool (changed group plain (Clone snapshot name))
clone_made law before after old new group padded snapshot name row stored known objects own blocks pool readings plain behind within left order padded_is good good_name lacks held named cloned holds are tell spells =
    let n : ℕ = old.next in
    let origin : ℕ = row.object in
    let there = leads pool readings old.directory plain row snapshot order held named good spells.names in
    let is : IsSnapshot pool.datasets origin = row_is_snapshot pool readings old.directory plain row snapshot order held named good spells.names in
    let unused : IsUnused pool.datasets n = next_unused old group known objects pool readings plain spells left behind in
    let one_more = one_with pool n (clone_of pool origin) unused refl in
    let chains = cloned.adds stored known objects own blocks pool readings holds are tell spells.chains is unused (new_numbers old group known objects pool readings plain spells left behind within) in
    let more : PlainVolume = plain_clone_of group name there.v in
    let row_more : IsRowMore pool readings old.directory plain n new.directory more = record {
      unused = unused;
      sound = spells.chains.sound;
      names = spells.names;
      row = record { name = padded; object = n };
      among = cloned.row;
      lacks = lacks;
      at = refl;
      named = padded_is;
    } in
    let told = told_clone pool readings old.directory plain n new.directory more row_more (volume_is_part name good_name) (clone_of pool origin) refl is there.v.name
    (row, held, refl, there.names.name) refl in
    let names = names_with pool _ n Head one_more readings old.directory plain spells.names (readings origin) new.directory (record { name = padded; object = n }) more cloned.row lacks refl padded_is
    good_name refl spells.chains.now there.names.array there.names.block_size told in
    subst (AreActed group objects known known old new pool) (sym (plain_cloned pool readings old.directory plain row snapshot order held named good spells.names group name))
    (acts_with old group known objects pool readings plain spells left known new _ _ Head (readings origin) one_more chains names cloned.next cloned.bounds cloned.touched.lists
    (same_reach law pool (with_dataset pool n (clone_of pool origin)) spells.chains.sound (MakeClone origin n) (is, unused) (refl, refl) refl (objects_of_rows old.directory)
    (objects_of_rows new.directory) spells.names.numbers names.numbers group known)
    (adds_none known))
