-- Changes that are not refused.
use Rattle.std.proofs.Common.{◌≡◌, ℕ, Bool, true, false, true≢false, List, [], ◌∷◌, Option, Some, None, refl, sym}
use Rattle.std.specs.Prelude.{◌%◌, ◌^◌, ◌==◌, ◌&&◌, is_some, nat_le, not}
use Rattle.pool_model.specs.declared.item.Change.{Change}
use Rattle.pool_model.specs.declared.item.Change.TheVariants.{Clone, Create, Destroy, Snapshot}
use Rattle.pool_model.specs.declared.refusal.Refusal.TheVariants.{BadName, Exists, Misaligned, NoSuchName, OutOfRange}
use Rattle.pool_model.specs.declared.volume.PlainVolume.{PlainVolume}
use Rattle.pool_model.specs.declared.volume.VolumeKind.{VolumeKind}
use Rattle.pool_model.specs.declared.volume.VolumeKind.TheVariants.{Volume, Snapshot as SnapshotKind}
use Rattle.pool_model.specs.Names.{is_block_size, is_name, is_name_for, snapshot_name}
use Rattle.pool_model.specs.Pools.{PlainPool, is_snapshot, volume_at}
use Rattle.pool_model.specs.Refusals.{first_cause, is_snapshot_there, is_volume, change_refusal}
use Rattle.pool_model.proofs.Causes.{first_none, not_false}
use Rattle.volume_rules.specs.GoodChanges.{is_good_change}
use Rattle.volume_rules.specs.NowMoves.{HasGoodNames}

-- what the missing cause of a creation says, and that of a snapshot or a clone
creation_is_good : (named there block whole ranged : Bool)
    → first_cause ((not named, BadName) ∷ (there, Exists) ∷ (not (block && whole), Misaligned) ∷ (not ranged, OutOfRange) ∷ []) ≡ None
    → (named && (block && (whole && ranged))) ≡ true
creation_is_good false there block whole ranged e = absurd (cc)
creation_is_good true true block whole ranged e = absurd (cc)
creation_is_good true false false whole ranged e = absurd (cc)
creation_is_good true false true false ranged e = absurd (cc)
creation_is_good true false true true false e = absurd (cc)
creation_is_good true false true true true e = refl

from_there_is_good : (named found there : Bool)
    → first_cause ((not named, BadName) ∷ (not found, NoSuchName) ∷ (there, Exists) ∷ []) ≡ None
    → (found ≡ true) × (named ≡ true)
from_there_is_good false found there e = absurd (cc)
from_there_is_good true false there e = absurd (cc)
from_there_is_good true true there e = (refl, refl)

name_of_volume : (kind : VolumeKind) (name : List ℕ) → not (is_snapshot kind) ≡ true → is_name_for kind name ≡ true → is_name name ≡ true
name_of_volume Volume name e f = f
name_of_volume SnapshotKind name e f = absurd (true≢false (sym e))

-- a volume that is no snapshot has a volume's name
pub volume_named : (pool : PlainPool) (name : List ℕ) (found : Option PlainVolume)
    → HasGoodNames pool → volume_at name pool ≡ found → is_volume found ≡ true → is_name name ≡ true
volume_named pool name None h m e = absurd (true≢false (sym e))
volume_named pool name (Some volume) h m e = name_of_volume volume.kind name e (h name volume m)

name_of_snapshot : (kind : VolumeKind) (name : List ℕ) → is_snapshot kind ≡ true → is_name_for kind name ≡ true → is_name_for SnapshotKind name ≡ true
name_of_snapshot Volume name e f = absurd (true≢false (sym e))
name_of_snapshot SnapshotKind name e f = f

-- a snapshot has a snapshot's name
pub snapshot_named : (pool : PlainPool) (name : List ℕ) (found : Option PlainVolume)
    → HasGoodNames pool → volume_at name pool ≡ found → is_snapshot_there found ≡ true → is_name_for SnapshotKind name ≡ true
snapshot_named pool name None h m e = absurd (true≢false (sym e))
snapshot_named pool name (Some volume) h m e = name_of_snapshot volume.kind name e (h name volume m)

pub not_refused : (change : Change) (pool : PlainPool) → HasGoodNames pool → change_refusal change pool ≡ None → is_good_change change ≡ true
not_refused (Create name size block_size) pool h e =
    creation_is_good (is_name name) (is_some (volume_at name pool)) (is_block_size block_size) (size % block_size == 0)
    (nat_le block_size size && nat_le size (2 ^ 40)) e
not_refused (Snapshot volume part) pool h e =
    let good = from_there_is_good (is_name part) (is_volume (volume_at volume pool)) (is_some (volume_at (snapshot_name volume part) pool)) e in
    λ i. volume_named pool volume (volume_at volume pool) h refl good.0 i && good.1 i
not_refused (Clone snapshot name) pool h e =
    let good = from_there_is_good (is_name name) (is_snapshot_there (volume_at snapshot pool)) (is_some (volume_at name pool)) e in
    λ i. snapshot_named pool snapshot (volume_at snapshot pool) h refl good.0 i && good.1 i
not_refused (Destroy name) pool h e = not_false _ (first_none _ _ _ e).0
