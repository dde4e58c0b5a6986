-- Names of volumes and of snapshots.
use Rattle.std.proofs.Common.{◌≡◌, Bool, true, false, true≢false, ℕ, List, refl, sym, ap, ◌∙◌}
use Rattle.std.specs.Prelude.{◌&&◌}
use Rattle.dead_list.specs.Datasets.{Head, Kind, Snapshot as ASnapshot}
use Rattle.pool_model.proofs.Letters.{snapshots_name, volume_name, volumes_part}
use Rattle.pool_model.specs.declared.volume.VolumeKind.{VolumeKind}
use Rattle.pool_model.specs.declared.volume.VolumeKind.TheVariants.{Snapshot, Volume}
use Rattle.pool_model.specs.Names.{is_name, is_name_for, is_snapshot_name, snapshot_name, volume_part}
use Rattle.pool_model.specs.Pools.{is_snapshot}
use Rattle.dataset_groups.specs.Names.{IsOfKind}
use Rattle.dataset_groups.proofs.GoodNames.{both}

-- a snapshot's name has an '@'
pub has_at : (name : List ℕ) → is_name_for Snapshot name ≡ true → is_snapshot_name name ≡ true
has_at name good = (both (is_name (volume_part name)) (is_snapshot_name name) good).1

-- a volume's name isn't a snapshot's
pub names_volume : (kind : VolumeKind) (name : List ℕ) → is_name_for kind name ≡ true → is_name name ≡ true → is_snapshot kind ≡ false
names_volume Volume name good volume = refl
names_volume Snapshot name good volume = absurd (true≢false (sym (has_at name good) ∙ volume_name name volume))

pub names_snapshot : (kind : VolumeKind) (name : List ℕ) → is_name_for kind name ≡ true → is_name_for Snapshot name ≡ true → is_snapshot kind ≡ true
names_snapshot Volume name good snapshot = absurd (true≢false (sym (has_at name snapshot) ∙ volume_name name good))
names_snapshot Snapshot name good snapshot = refl

pub volume_is_head : (kind : VolumeKind) (of : Kind) → IsOfKind kind of → is_snapshot kind ≡ false → of ≡ Head
volume_is_head Volume of is no_snapshot = is
volume_is_head Snapshot of is no_snapshot = absurd (true≢false no_snapshot)

pub snapshot_is_one : (kind : VolumeKind) (of : Kind) → IsOfKind kind of → is_snapshot kind ≡ true → of ≡ ASnapshot
snapshot_is_one Volume of is snapshot = absurd (true≢false (sym snapshot))
snapshot_is_one Snapshot of is snapshot = is

pub both_true : (a b : Bool) → a ≡ true → b ≡ true → (a && b) ≡ true
both_true true b one two = two
both_true false b one two = absurd (true≢false (sym one))

pub good_snapshot : (volume part : List ℕ) → is_name volume ≡ true → is_name_for Snapshot (snapshot_name volume part) ≡ true
good_snapshot volume part good =
    both_true (is_name (volume_part (snapshot_name volume part))) (is_snapshot_name (snapshot_name volume part)) (ap is_name (volumes_part volume part good) ∙ good) (snapshots_name volume part)
