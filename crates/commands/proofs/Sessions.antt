-- How a served volume ends.
use Rattle.std.proofs.Common.{◌≡◌, inl, inr, ℕ, Bool, List, Option, Result, Ok, Err, refl, ap}
use Rattle.nbd_serve.specs.declared.ended.Ended.{Ended}
use Rattle.nbd_serve.specs.declared.ended.Ended.TheVariants as ended
use Rattle.pool_model.specs.declared.refusal.Refusal.{Refusal}
use Rattle.pool_steps.specs.declared.steps.PoolSteps.{Ghosts as StepGhosts}
use Rattle.commands.specs.Serves.{IsServedBy, IsServedOf, IsServeStopped, stop_by}
use Rattle.commands.specs.declared.pools.Pools.{Ghosts}
use Rattle.commands.specs.declared.stop.Stop.{Stop}
use Rattle.commands.specs.declared.stop.Stop.TheVariants as stop

-- no session ends so
abbrev IsOthers : {R : Type 0} → Stop R → Type 0
IsOthers (stop.Pools cause) = Unit {0}
IsOthers stop.DiskLost = Unit {0}
IsOthers s = ⊥

not_others : {R : Type 0} (s : Stop R) (e : Result (Unit {0}) Ended) → IsOthers s → Err s ≡ stop_by e → ⊥
not_others s (Ok done) is e = cc
not_others (stop.Pools cause) (Err ended.Torn) is e = cc
not_others (stop.Pools cause) (Err ended.Hostile) is e = cc
not_others (stop.Pools cause) (Err ended.Output) is e = cc
not_others (stop.Pools cause) (Err (ended.Refused other)) is e = cc
not_others (stop.Pools cause) (Err ended.NoMemory) is e = cc
not_others stop.DiskLost (Err ended.Torn) is e = cc
not_others stop.DiskLost (Err ended.Hostile) is e = cc
not_others stop.DiskLost (Err ended.Output) is e = cc
not_others stop.DiskLost (Err (ended.Refused other)) is e = cc
not_others stop.DiskLost (Err ended.NoMemory) is e = cc
not_others s e is f = absurd is

abbrev got : {R : Type 0} → Stop R → Result (Unit {0}) (Stop R) → Stop R
got s (Ok done) = s
got s (Err e) = e

not_refused : {R : Type 0} (s : Stop R) (cause : Refusal) → IsOthers s → s ≡ stop.Pool cause → ⊥
not_refused (stop.Pools other) cause is e = cc
not_refused stop.DiskLost cause is e = cc
not_refused s cause is e = absurd is

module _ {S P F R : Type 0} (pools : Ghosts S P F R) (steps : StepGhosts P) (old : S) (files : List (List ℕ)) (name : List ℕ) (input left output written : Option (List ℕ)) (new : S) where
  others : (s : Stop R) (lost : Bool) → IsOthers s → IsServedOf pools steps old files name input left output written new (Err s) lost → ⊥
  others s lost is of = by of.served
    where
      by : IsServedBy steps of.pool of.last name input left output written (Err s) → ⊥
      by (inl session) = not_others s session.ended is session.stopped_is
      by (inr none) = not_refused s none.cause is (ap (got s) none.stopped_is)

  pub serve_stopped : (s : Stop R) → ((ended : Result (Unit {0}) (Stop R)) → ended ≡ Err s → (lost : Bool) × IsServedOf pools steps old files name input left output written new ended lost)
      → IsServeStopped pools steps old files name input left output written new s
  serve_stopped (stop.Pools cause) of = absurd (let it = of (Err (stop.Pools cause)) refl in others (stop.Pools cause) it.0 tt it.1)
  serve_stopped (stop.Pool cause) of = (Err (stop.Pool cause), inl refl, of (Err (stop.Pool cause)) refl)
  serve_stopped stop.DiskLost of = absurd (let it = of (Err stop.DiskLost) refl in others stop.DiskLost it.0 tt it.1)
  serve_stopped stop.Input of = of (Err stop.Input) refl
  serve_stopped stop.Protocol of = of (Err stop.Protocol) refl
  serve_stopped stop.Output of = of (Err stop.Output) refl
  serve_stopped stop.NotThere of = of (Err stop.NotThere) refl
