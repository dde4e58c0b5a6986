-- The groups above the committed one.
use Rattle.std.proofs.Common.{◌≡◌, ℕ, suc, ◌<◌, ◌≤◌, true, false, List, Some, refl, sym, ap, ◌∙◌, subst, arith}
use Rattle.std.specs.Prelude.{cond, is_some}
use Rattle.pool_model.specs.declared.volume.PlainVolume.{PlainVolume}
use Rattle.pool_model.specs.Groups.{taken_upto}
use Rattle.pool_model.specs.Pools.{volume_at, applied}
use Rattle.pool_model.specs.View.{View, Given, Vdev, started, is_syncing, waiting_after, waiting_group, open_group, now_of}
use Rattle.pool_model.specs.declared.step.Step.{Step}
use Rattle.pool_model.specs.declared.step.Reply.{Reply}
use Rattle.pool_model.specs.Machine.{StepOf}
use Rattle.pool_model.proofs.Moves.{EachMove, by_move}
use Rattle.pool_model.proofs.Uptos.{itself}
use Rattle.volume_rules.specs.declared.shape.VolumeShape.{VolumeShape}
use Rattle.volume_rules.specs.Shapes.{shape_of}
use Rattle.volume_rules.specs.NowMoves.{AreGood, GroupsAreBelow, IsMadeBy}
use Rattle.volume_rules.specs.Overlay.{closed_in, IsCommitted}
use Rattle.volume_rules.proofs.Overlays.{made_by_applied}
use Rattle.volume_rules.proofs.Later.{made_by_upto, shape_later, stood_below}

-- ---- where they are

pub waits_after : (v : View) → waiting_group v ≡ suc (taken_upto v)
waits_after v = elim (is_syncing v.sync) as (λ b. waiting_after v.committed b ≡ suc (cond b (suc v.committed) v.committed)) [ true ↦ refl | false ↦ refl ]

pub opens_after : (v : View) → open_group v ≡ suc (closed_in v)
opens_after v = let e = waits_after v in elim (is_some v.waiting) as (λ b. cond b (suc (waiting_group v)) (waiting_group v) ≡ suc (cond b (suc (taken_upto v)) (taken_upto v))) [ true ↦ ap suc e | false ↦ e ]

pub taken_above : (v : View) → v.committed ≤ taken_upto v
taken_above v = elim (is_syncing v.sync) as (λ b. v.committed ≤ cond b (suc v.committed) v.committed) [ true ↦ omega arith | false ↦ omega arith ]

pub closed_above : (v : View) → taken_upto v ≤ closed_in v
closed_above v = elim (is_some v.waiting) as (λ b. taken_upto v ≤ cond b (suc (taken_upto v)) (taken_upto v)) [ true ↦ omega arith | false ↦ omega arith ]

pub open_is_pending : (v : View) → v.committed < open_group v
open_is_pending v = let a = taken_above v in let b = closed_above v in let o = opens_after v in omega arith

-- ---- a volume of NOW

pub committed_iff : (v : View) (name : List ℕ) (volume : PlainVolume) → GroupsAreBelow v → volume_at name (now_of v) ≡ Some volume → (volume.group ≤ v.committed → IsCommitted v name volume) × (IsCommitted v name volume → volume.group ≤ v.committed)
committed_iff v name volume m e = (
  λ old.
      let was = stood_below v.committed (open_group v) (v.pools v.committed) v.ledger name volume (let below = open_is_pending v in omega arith) e old in
      (was.0, was.1, sym (shape_later v.committed (open_group v) v.ledger was.0) ∙ ap shape_of was.2),
  λ k. let low = m.older name k.0 k.1 in let same : k.0.group ≡ volume.group = ap (λ (s : VolumeShape). s.group) k.2 in omega arith,
)

-- ---- the groups that made the committed volumes

abbrev KeepsBelow : View → Given → Step → Reply → View → Type 0
KeepsBelow v given step reply w = AreGood v.ledger → GroupsAreBelow v → GroupsAreBelow w

below_moves : EachMove KeepsBelow
below_moves = record {
  stays = λ v given step cause may e good m. m;
  begun = λ v given t cause is good m. m;
  again = λ v given t cause is good m. m;
  failed = λ v given disk left e good m. m;
  replanned = λ v given disk left e good m. m;
  out_unplanned = λ v given disk e good m. m;
  out_early = λ v given disk left good m. m;
  out_late = λ v given disk left good m. m;
  moved = λ v given phase left rest out e good m. m;
  read = λ v given name offset len bytes a good m. m;
  read_under = λ v given g name offset len bytes k a good m. m;
  held = λ v given by n good m. m;
  wrote = λ v given x g h n le good m. m;
  acted = λ v given a g h n le op good m. m;
  released = λ v given by good m. m;
  closed = λ v given b good m. m;
  quiesced = λ v given e good m. m;
  planned = λ v given t calls good m. m;
  replanned_group = λ v given t calls good m. m;
  committed = λ v given left out e good m. subst (λ b. IsMadeBy (suc v.committed) (cond b (applied (suc v.committed) (v.pools v.committed) (v.ledger (suc v.committed))) (v.pools (suc v.committed)))) (sym (itself (suc v.committed))) (made_by_applied v.committed (v.pools v.committed) (v.ledger (suc v.committed)) m (good (suc v.committed)));
}

pub below_step : (v : View) (given : Given) (step : Step) (reply : Reply) (w : View) → AreGood v.ledger → StepOf v given step reply w → GroupsAreBelow v → GroupsAreBelow w
below_step v given step reply w good h m = by_move KeepsBelow below_moves v given step reply w h good m

pub below_start : (vdevs : List Vdev) → GroupsAreBelow (started vdevs)
below_start vdevs = record { older = λ name volume e. absurd (cc); named = λ name volume e. absurd (cc) }

pub below_now : (v : View) → AreGood v.ledger → GroupsAreBelow v → IsMadeBy (open_group v) (now_of v)
below_now v good m = made_by_upto v.committed (open_group v) (v.pools v.committed) v.ledger good m (let le = open_is_pending v in omega arith)
