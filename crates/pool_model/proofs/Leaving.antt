-- What a Device step leaves of the calls of a plan.
use Rattle.std.proofs.Common.{◌≡◌, ◌⊎◌, ⊎_elim, inl, inr, ℕ, zero, suc, List, [], ◌∷◌, ◌++◌, Bool, true, false, refl, sym, ap, ◌∙◌, subst, arith}
use Rattle.std.specs.Prelude.{filter, not, Contains, ◌==◌, ◌||◌, if◌then◌else◌}
use Rattle.std.proofs.lemmas.List.Elements.{Contains-append_cases}
use Rattle.std.proofs.lemmas.List.Sorted.{Contains-permutation}
use Rattle.pool_model.specs.declared.refusal.Refusal.{Refusal}
use Rattle.pool_model.specs.declared.step.Phase.{Phase}
use Rattle.pool_model.specs.declared.step.Step.TheVariants.{Device}
use Rattle.pool_model.specs.declared.step.Reply.TheVariants.{Moved, Committed, Refused}
use Rattle.pool_model.specs.View.{View, Given, DueCall, Due}
use Rattle.pool_model.specs.Machine.{Makes, MakesAll, GoesWithout, GoesOn, Ends, without_disk, StepOf}

pub same_due : (one other : List DueCall) → Due one ≡ Due other → one ≡ other
same_due one other e = cc

no_commit : (group : ℕ) (cause : Refusal) → ¬ (Committed group ≡ Refused cause)
no_commit group cause e = cc

no_move : (phase : Phase) (cause : Refusal) → ¬ (Moved phase ≡ Refused cause)
no_move phase cause e = cc

none_in : (call : DueCall) → ¬ Contains [] call
none_in call (k, within, is) = omega (arith, within)

-- a call on another disk stays
pub stays_left : (disk : ℕ) (calls : List DueCall) (call : DueCall) → Contains calls call → (call.disk == disk) ≡ false → Contains (filter (λ c. not (c.disk == disk)) calls) call
stays_left disk [] call held other = absurd (none_in call held)
stays_left disk (first ∷ calls) call (zero, within, is) other =
    subst (λ b. Contains (if not b then first ∷ filter (λ c. not (c.disk == disk)) calls else filter (λ c. not (c.disk == disk)) calls) call)
    (sym (ap (λ (c : DueCall). c.disk == disk) is ∙ other)) (0, omega arith, is)
stays_left disk (first ∷ calls) call (suc k, within, is) other =
    behind (first.disk == disk) (stays_left disk calls call (k, omega (arith, within), is) other)
  where
    behind : (b : Bool) → Contains (filter (λ c. not (c.disk == disk)) calls) call
        → Contains (if not b then first ∷ filter (λ c. not (c.disk == disk)) calls else filter (λ c. not (c.disk == disk)) calls) call
    behind true there = there
    behind false (n, low, at) = (suc n, omega (arith, low), at)

-- of the calls that were left each is made, or left
made_or_left : (left made rest : List DueCall) (phase : Phase) (call : DueCall) → Makes left made rest phase → Contains left call → Contains made call ⊎ Contains rest call
made_or_left left made rest phase call makes held = Contains-append_cases made rest call (Contains-permutation left (made ++ rest) call makes.parts held)

made_all : (left made : List DueCall) (call : DueCall) → MakesAll left made → Contains left call → Contains made call
made_all left made call all held = ⊎_elim
    (λ none. absurd (none_in call (subst (λ calls. Contains calls call) none.0 held)))
    (λ some. ⊎_elim (λ made. made) (λ rest. absurd (none_in call rest)) (made_or_left left made [] some.0 call some.1 held))
    all

pub still_in_use : (v : View) (disk other : ℕ) → (without_disk v disk).out other ≡ false → (other == disk) ≡ false
still_in_use v disk other = elim (other == disk) as (λ b. (b || v.out other) ≡ false → b ≡ false) [ true ↦ λ e. e | false ↦ λ e. refl ]

without : (v : View) (given : Given) (phase : Phase) (rest : List DueCall) (w : View) (left : List DueCall) (call : DueCall) → v.sync ≡ Due left → GoesWithout v given phase rest w
    → Contains left call → w.out call.disk ≡ false → Contains given.made call ⊎ Contains rest call
without v given phase rest w left call planned g held in_use = ⊎_elim inl
    (λ later. inr (subst (λ calls. Contains calls call) (sym g.others)
    (stays_left g.disk g.fails.rest call later (still_in_use v g.disk call.disk (sym (ap (λ (x : View). x.out call.disk) g.after) ∙ in_use)))))
    (made_or_left g.fails.left given.made g.fails.rest g.fails.call.phase call g.fails.makes (subst (λ calls. Contains calls call) (same_due left g.fails.left (sym planned ∙ g.fails.planned)) held))

goes : (v : View) (given : Given) (phase : Phase) (rest : List DueCall) (w : View) (left : List DueCall) (call : DueCall) → v.sync ≡ Due left → GoesOn v given phase rest w
    → Contains left call → w.out call.disk ≡ false → Contains given.made call ⊎ Contains rest call
goes v given phase rest w left call planned on held in_use = ⊎_elim
    (λ g. made_or_left g.left given.made rest phase call g.makes (subst (λ calls. Contains calls call) (same_due left g.left (sym planned ∙ g.planned)) held))
    (λ g. without v given phase rest w left call planned g held in_use)
    on

sync_after : (v : View) (given : Given) (phase : Phase) (rest : List DueCall) (w : View) → GoesOn v given phase rest w → w.sync ≡ Due rest
sync_after v given phase rest w on = ⊎_elim (λ g. ap (λ (x : View). x.sync) g.after) (λ g. ap (λ (x : View). x.sync) g.after) on

pub moves_leave : (v : View) (given : Given) (phase : Phase) (w : View) (left : List DueCall) (call : DueCall) → StepOf v given Device (Moved phase) w → v.sync ≡ Due left
    → Contains left call → w.out call.disk ≡ false → (rest : List DueCall) × (w.sync ≡ Due rest) × (Contains given.made call ⊎ Contains rest call)
moves_leave v given phase w left call step planned held in_use = ⊎_elim
    (λ r. absurd (no_move phase r.cause r.answer))
    (λ s. ⊎_elim
    (λ l. absurd (no_move phase _ l.answer))
    (λ a. (a.answered.0, sync_after v given phase a.answered.0 w a.answered.2, goes v given phase a.answered.0 w left call planned a.answered.2 held in_use))
    s)
    step

ends : (v : View) (given : Given) (done : View) (left : List DueCall) (call : DueCall) → v.sync ≡ Due left → Ends v given done
    → Contains left call → done.out call.disk ≡ false → Contains given.made call
ends v given done left call planned end held in_use = ⊎_elim
    (λ d. made_all d.0.left given.made call d.0.makes (subst (λ calls. Contains calls call) (same_due left d.0.left (sym planned ∙ d.0.planned)) held))
    (λ g. ⊎_elim (λ made. made) (λ rest. absurd (none_in call rest)) (without v given g.0 [] done left call planned g.1 held in_use))
    end

pub commits_leave : (v : View) (given : Given) (group : ℕ) (w : View) (left : List DueCall) (call : DueCall) → StepOf v given Device (Committed group) w → v.sync ≡ Due left
    → Contains left call → w.out call.disk ≡ false → Contains given.made call
commits_leave v given group w left call step planned held in_use = ⊎_elim
    (λ r. absurd (no_commit group r.cause r.answer))
    (λ s. ⊎_elim
    (λ l. absurd (no_commit group _ l.answer))
    (λ a. ends v given a.answered.1 left call planned a.answered.2 held (sym (ap (λ (x : View). x.out call.disk) a.answered.3) ∙ in_use))
    s)
    step
