-- Where all that was accepted is committed.
use Rattle.std.proofs.Common.{◌≡◌, inl, inr, suc, Bool, false, true≢false, Option, Some, None, refl, ap, ◌∙◌, subst, arith}
use Rattle.std.specs.Prelude.{is_some}
use Rattle.std.proofs.lemmas.Bool.{cases_lt}
use Rattle.pool_model.specs.Pools.{applied, no_items, upto}
use Rattle.pool_model.specs.View.{View, is_syncing, open_after, open_group}
use Rattle.pool_model.specs.Sound.{IsSound}
use Rattle.pool_model.proofs.Uptos.{upto_one}
use Rattle.pool_intake.specs.Rest.{IsAtRest, NowIsCommitted}

-- the open group is the one after the committed one
next_open : (v : View) → is_syncing v.sync ≡ false → v.waiting ≡ None → open_group v ≡ suc v.committed
next_open v unsynced unwaited =
    ap (λ (syncing : Bool). open_after v.committed syncing (is_some v.waiting)) unsynced ∙ ap (λ waiting. open_after v.committed false (is_some waiting)) unwaited

pub now_is_committed : NowIsCommitted
now_is_committed v rest =
    let pool = v.pools v.committed in
    ap (upto v.committed pool v.ledger) (next_open v rest.unsynced rest.unwaited)
    ∙ (upto_one v.committed pool v.ledger ∙ ap (applied (suc v.committed) pool) (rest.empty (suc v.committed) (omega arith)))

pub rests : (v : View) → IsSound v → is_syncing v.sync ≡ false → v.waiting ≡ None → v.ledger (open_group v) ≡ no_items → IsAtRest v
rests v sound unsynced unwaited empty =
    let next : open_group v ≡ suc v.committed = next_open v unsynced unwaited in
    record {
      unsynced = unsynced;
      unwaited = unwaited;
      empty = λ group above. elim (cases_lt (open_group v) group) [
        | inl beyond ↦ sound.flow.beyond group beyond
        | inr within ↦
            let same : open_group v ≡ group = omega (arith, next, above, within) in
            subst (λ g. v.ledger g ≡ no_items) same empty
      ];
    }

pub open_is_empty : (v : View) → IsAtRest v → v.ledger (open_group v) ≡ no_items
open_is_empty v rest = rest.empty (open_group v) (let next : open_group v ≡ suc v.committed = next_open v rest.unsynced rest.unwaited in omega (arith, next))

pub not_none : {A : Type 0} (x : Option A) → is_some x ≡ false → x ≡ None
not_none None e = refl
not_none (Some a) e = absurd (true≢false e)
