-- What is sound is accounted for.
use Rattle.std.proofs.Common.{◌≡◌, ℕ, suc, ◌⊎◌, inl, inr, true, None, List, [], ◌∷◌, ◌++◌, refl, ◌∙◌, arith}
use Rattle.std.specs.Prelude.{◌≢◌}
use Rattle.std.specs.List.{AllByRecursion}
use Rattle.metaslab.specs.State.{State, Free, InUse, Released, is_due, settled}
use Rattle.metaslab.specs.Pool.{Pool, Step, Begin, Take, Give, Commit, Drop, Settle, Pin, Unpin, MayStep, after, after_all, Run, IsOpened, IsOfPlan}
use Rattle.metaslab.specs.Accounted.{next_state, IsFreedIn, IsWaiting, IsAccounted}
use Rattle.metaslab.proofs.Pins.{cases, not_due}
use Rattle.metaslab.proofs.Sound.{IsGone, IsSound}
use Rattle.metaslab.proofs.Steps.{settled_apart, sound_run, opened_is_sound}

freed : (pool : Pool) (m s : ℕ) → IsGone pool m s → IsFreedIn pool m s
freed pool m s (before, next, since, to_last, was, gone) = record { before = before; next = next; since_open = since; committed = to_last; was = was; is_gone = gone m (omega arith) to_last }

-- a sector that is not handed out is reached, or was freed and is held back
held : (pool : Pool) (s : ℕ) (state : State) → IsSound pool → pool.states s ≡ state → settled pool.pins (suc pool.last) state ≢ Free
    → (pool.reach pool.last s ≡ true) ⊎ ((group : ℕ) × IsFreedIn pool group s × IsWaiting pool group)
held pool s Free sound is other = absurd (other refl)
held pool s InUse sound is other = inl (sound.in_use s is)
held pool s (Released m) sound is other =
    elim (cases (is_due pool.pins (suc pool.last) m)) [
      | inl now ↦ absurd (other (rw now refl))
      | inr not_now ↦ inr (m, freed pool m s (sound.released s m is), elim (not_due pool.pins (suc pool.last) m not_now) [ inl early ↦ inl (omega arith) | inr pinned ↦ inr pinned ])
    ]

accounts : (pool : Pool) → IsSound pool → IsAccounted pool
accounts pool sound = record {
  no_double_use = λ s k free readable. settled_apart pool s k sound free readable;
  plan_apart = λ plan s k is taken readable. (sound.plan plan is).apart s k taken readable;
  may_give = λ plan s is reached stays. (sound.plan plan is).reached s reached stays;
  no_leak = λ s other. held pool s (pool.states s) sound refl other;
  in_use = λ s. (sound.in_use s, sound.reached s);
}

pub accounted : (pool : Pool) (steps : List Step) → IsOpened pool → Run pool steps → IsAccounted (after_all pool steps)
accounted pool steps opened run = accounts (after_all pool steps) (sound_run pool steps (opened_is_sound pool opened) run)

-- ---- plans that are dropped

one_less : (pool : Pool) (step : Step) → IsOfPlan step → after (after pool step) Drop ≡ after pool Drop
one_less pool Begin h = refl
one_less pool (Take set) h = refl
one_less pool (Give set) h = refl
one_less pool (Commit tree) h = absurd h
one_less pool Drop h = refl
one_less pool Settle h = absurd h
one_less pool (Pin group) h = absurd h
one_less pool (Unpin group) h = absurd h

pub dropped : (pool : Pool) (steps : List Step) → AllByRecursion IsOfPlan steps → after (after_all pool steps) Drop ≡ record pool { plan = None }
dropped pool [] each = refl
dropped pool (step ∷ steps) each = dropped (after pool step) steps each.1 ∙ one_less pool step each.0

-- ---- a run goes on

pub run_snoc : (pool : Pool) (steps : List Step) (step : Step) → Run pool steps → MayStep (after_all pool steps) step → Run pool (steps ++ step ∷ [])
run_snoc pool [] step run may = (may, tt)
run_snoc pool (first ∷ steps) step run may = (run.0, run_snoc (after pool first) steps step run.1 may)

pub after_snoc : (pool : Pool) (steps : List Step) (step : Step) → after_all pool (steps ++ step ∷ []) ≡ after (after_all pool steps) step
after_snoc pool [] step = refl
after_snoc pool (first ∷ steps) step = after_snoc (after pool first) steps step

-- ---- what is settled early

settled_twice : (pins : List ℕ) (g : ℕ) (state : State) → settled pins g (settled pins g state) ≡ settled pins g state
settled_twice pins g Free = refl
settled_twice pins g InUse = refl
settled_twice pins g (Released m) = elim (cases (is_due pins g m)) [ inl now ↦ rw now refl | inr not_now ↦ rw (not_now, not_now) refl ]

pub early : (pool : Pool) (s : ℕ) → next_state (after pool Settle) s ≡ next_state pool s
early pool s = settled_twice pool.pins (suc pool.last) (pool.states s)
