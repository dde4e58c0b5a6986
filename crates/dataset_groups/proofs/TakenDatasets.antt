-- The datasets of a group with a snapshot more.
use Rattle.std.proofs.Common.{[], ◌≡◌, ◌+◌, ◌<◌, ◌≤◌, ℕ, Bool, true, false, List, Option, Some, None, Contains, cond, refl, sym, ap, subst, ◌∙◌}
use Rattle.block_pointer.specs.declared.block.Block.{Block}
use Rattle.block_store.specs.Blocks.{Contents}
use Rattle.block_store.specs.Steps.{AnswersTell}
use Rattle.block_store.specs.Store.{Holds, Store}
use Rattle.dataset_destroys.specs.Chains.{Reading}
use Rattle.dataset_destroys.specs.States.{birth_of, set_of}
use Rattle.dead_list.specs.Datasets.{Pool, Snapshot as ASnapshot}
use Rattle.dead_list.specs.Operations.{IsHead, IsUnused, TakeSnapshot, with_snapshot}
use Rattle.dead_list.specs.Reach.{ReachHasEachOnce}
use Rattle.meta_objset.specs.declared.directory.DirectoryRow.{DirectoryRow}
use Rattle.meta_objset.specs.Directory.{IsDirectory, LacksName}
use Rattle.meta_objset.specs.Names.{IsNamed}
use Rattle.objset.specs.Objects.{AreObjects, Object}
use Rattle.pool_model.proofs.Letters.{volumes_part}
use Rattle.pool_model.specs.declared.item.Change.TheVariants.{Snapshot}
use Rattle.pool_model.specs.declared.volume.PlainVolume.{PlainVolume}
use Rattle.pool_model.specs.Names.{is_name, snapshot_name}
use Rattle.pool_model.specs.Pools.{PlainPool, changed, is_snapshot, snapshot_of, volume_at, with_snapshot as with_plain_snapshot, with_volume}
use Rattle.dataset_groups.specs.Actions.{AreActed}
use Rattle.dataset_groups.specs.Adding.{IsTaken}
use Rattle.dataset_groups.specs.Demands.{IsNameThere}
use Rattle.dataset_groups.specs.Groups.{SpellsGroup}
use Rattle.dataset_groups.specs.Names.{NamesPool, NamesVolume, objects_of_rows}
use Rattle.dataset_groups.specs.NewVolumes.{numbers_end}
use Rattle.dataset_groups.specs.declared.datasets.GroupDatasets.{GroupDatasets}
use Rattle.dataset_groups.proofs.Copied.{adds_none}
use Rattle.dataset_groups.proofs.KindNames.{good_snapshot, names_volume, volume_is_head}
use Rattle.dataset_groups.proofs.MakingVolumes.{volumes_same}
use Rattle.dataset_groups.proofs.MoreDatasets.{acts_with, new_numbers, next_unused}
use Rattle.dataset_groups.proofs.MoreNames.{names_with}
use Rattle.dataset_groups.proofs.NameParts.{volume_is_part}
use Rattle.dataset_groups.proofs.NamedRows.{IsLedTo, led_to, none_at}
use Rattle.dataset_groups.proofs.RowMore.{IsRowMore}
use Rattle.dataset_groups.proofs.SameReach.{same_reach}
use Rattle.dataset_groups.proofs.TakenPools.{one_taken}
use Rattle.dataset_groups.proofs.ToldTaken.{told_taken}

-- ---- nothing is made

either_same : (b : Bool) (one other : PlainPool) → other ≡ one → cond b one other ≡ one
either_same true one other same = refl
either_same false one other same = same

snapshot_same : (group : ℕ) (name : List ℕ) (found : Option PlainVolume) (plain : PlainPool) → ((v : PlainVolume) → with_volume (snapshot_of group name v) plain ≡ plain)
    → with_plain_snapshot group name found plain ≡ plain
snapshot_same group name None plain same = refl
snapshot_same group name (Some v) plain same = either_same (is_snapshot v.kind) plain (with_volume (snapshot_of group name v) plain) (same v)

-- the snapshot's name is there
pub name_there : (group : ℕ) (pool : Pool) (readings : ℕ → Reading) (rows : List DirectoryRow) (plain : PlainPool) (row : DirectoryRow) (volume part : List ℕ) → Contains rows row
    → IsNamed row.name (snapshot_name volume part) → NamesPool pool readings rows plain → changed group plain (Snapshot volume part) ≡ plain
name_there group pool readings rows plain row volume part held named names =
    let name : List ℕ = snapshot_name volume part in
    snapshot_same group name (volume_at volume plain) plain
    (λ v. volumes_same (NamesVolume pool readings) (λ r v is. is.name) rows row plain (snapshot_of group name v) held named names.volumes)

-- or the volume's isn't
pub volume_not_there : (group : ℕ) (pool : Pool) (readings : ℕ → Reading) (rows : List DirectoryRow) (plain : PlainPool) (volume part : List ℕ) → ¬ IsNameThere rows volume
    → NamesPool pool readings rows plain → changed group plain (Snapshot volume part) ≡ plain
volume_not_there group pool readings rows plain volume part none names =
    ap (λ (found : Option PlainVolume). with_plain_snapshot group (snapshot_name volume part) found plain) (none_at pool readings rows plain volume none names)

-- ---- a snapshot is made

module _ (pool : Pool) (readings : ℕ → Reading) (rows : List DirectoryRow) (plain : PlainPool) (row : DirectoryRow) (volume : List ℕ) (order : IsDirectory rows) (held : Contains rows row)
    (named : IsNamed row.name volume) (good : is_name volume ≡ true) (names : NamesPool pool readings rows plain) where
  leads : IsLedTo pool readings plain row volume
  leads = led_to pool readings rows plain row volume order held named names

  is_volume : is_snapshot leads.v.kind ≡ false
  is_volume = names_volume leads.v.kind volume leads.good good

  -- its object is a head's
  pub row_is_head : IsHead pool.datasets row.object
  row_is_head = volume_is_head leads.v.kind (pool.datasets row.object).kind leads.names.kind is_volume

  -- its snapshot comes to the plain pool
  plain_taken : (group : ℕ) (part : List ℕ) → changed group plain (Snapshot volume part) ≡ with_volume (snapshot_of group (snapshot_name volume part) leads.v) plain
  plain_taken group part =
      let name : List ℕ = snapshot_name volume part in
      ap (λ (found : Option PlainVolume). with_plain_snapshot group name found plain) leads.found ∙ ap (λ b. cond b plain (with_volume (snapshot_of group name leads.v) plain)) is_volume

pub snapshot_made : ReachHasEachOnce → (before after : Store) (old new : GroupDatasets) (group : ℕ) (padded volume part : List ℕ) (row : DirectoryRow) (stored known : Contents) (objects : ℕ → Option Object)
    (own : List Block) (blocks : ℕ → List Block) (pool : Pool) (readings : ℕ → Reading) (plain : PlainPool) → 4 < old.next → old.next + 2 ≤ numbers_end
    → old.next + 2 ≤ old.bounds.end → IsDirectory old.directory
    → IsNamed padded (snapshot_name volume part) → is_name volume ≡ true → LacksName old.directory padded → Contains old.directory row → IsNamed row.name volume
    → IsTaken before after group row.object old padded new → Holds before stored → AreObjects stored (birth_of old.changes) (set_of old.changes) objects own blocks → AnswersTell before after []
    → SpellsGroup known group objects old pool readings plain → AreActed group objects known known old new pool (changed group plain (Snapshot volume part))
snapshot_made law before after old new group padded volume part row stored known objects own blocks pool readings plain behind within left order padded_is good lacks held named taken holds are tell spells =
    let n : ℕ = old.next in
    let head : ℕ = row.object in
    let there = leads pool readings old.directory plain row volume order held named good spells.names in
    let is : IsHead pool.datasets head = row_is_head pool readings old.directory plain row volume order held named good spells.names in
    let unused : IsUnused pool.datasets n = next_unused old group known objects pool readings plain spells left behind in
    let one_more = one_taken pool head n is unused in
    let chains = taken.adds stored known objects own blocks pool readings holds are tell spells.chains is unused (new_numbers old group known objects pool readings plain spells left behind within) in
    let name : List ℕ = snapshot_name volume part in
    let more : PlainVolume = snapshot_of group name there.v in
    let row_more : IsRowMore pool readings old.directory plain n new.directory more = record {
      unused = unused;
      sound = spells.chains.sound;
      names = spells.names;
      row = record { name = padded; object = n };
      among = taken.row;
      lacks = lacks;
      at = refl;
      named = padded_is;
    } in
    let told = told_taken pool readings old.directory plain n new.directory more row_more head is volume (row, held, refl, named)
    (volumes_part volume part good ∙ sym (volume_is_part volume good)) refl in
    let names = names_with pool _ n ASnapshot one_more readings old.directory plain spells.names (readings head) new.directory (record { name = padded; object = n }) more taken.row lacks refl padded_is
    (good_snapshot volume part good) refl spells.chains.now there.names.array there.names.block_size told in
    subst (AreActed group objects known known old new pool) (sym (plain_taken pool readings old.directory plain row volume order held named good spells.names group part))
    (acts_with old group known objects pool readings plain spells left known new _ _ ASnapshot (readings head) one_more chains names taken.next taken.bounds taken.touched.touched.lists
    (same_reach law pool (with_snapshot pool head n) spells.chains.sound (TakeSnapshot head n) (is, unused) (refl, refl) refl (objects_of_rows old.directory) (objects_of_rows new.directory)
    spells.names.numbers names.numbers group known)
    (adds_none known))
