-- Commands between two reopenings.
use Rattle.std.proofs.Common.{◌≡◌, ◌⊎◌, ℕ, List, [], ◌∷◌, Bool, true, false, Option, Some, None, inl, inr, ⊎_elim, refl, sym, ap, ◌∙◌, subst, if◌then◌else◌}
use Rattle.std.specs.List.{AllByRecursion}
use Rattle.pool_create.specs.Represents.{Represents}
use Rattle.pool_create.specs.CoreState.{CoreState}
use Rattle.pool_model.specs.View.{View}
use Rattle.schedule_lines.specs.declared.command.Command.{Command}
use Rattle.schedule_lines.specs.declared.command.StopPoint.{StopPoint}
use Rattle.programs.specs.declared.outcome.Outcome.{Outcome}
use Rattle.programs.specs.declared.stopping.Point.{Point}
use Rattle.programs.specs.Answers.{IsNoStep}
use Rattle.programs.specs.OnDisks.{ComesOf, PoolState, RunsWhole, StopsThere, TakesSteps, point_of}
use Rattle.programs.specs.Outcomes.{Replies}
use Rattle.programs.specs.Plays.{Plays}
use Rattle.programs.specs.Runs.{IsOneRun, IsStoppedRun, StepsTruly}
use Rattle.programs.specs.Stops.{commit_point}
use Rattle.programs.proofs.Chains.{plays_run, stopped_run}

no_point : (b : Bool) (count : ℕ) (absent : List ℕ) (stop : Option StopPoint) → stop ≡ None → (if b then commit_point count absent stop else None) ≡ None
no_point true count absent None unset = refl
no_point true count absent (Some point) unset = absurd (let no : Some point ≡ None = unset in cc)
no_point false count absent stop unset = refl

-- with no stop set there is no point at which a command stops
no_stop : (old : PoolState) (command : Command) (point : Point) → old.stop ≡ None → ¬ (point_of old command ≡ Some point)
no_stop old command point unset set = absurd (let no : Some point ≡ None = sym set ∙ no_point _ _ _ old.stop unset in cc)

-- what goes on to the next core
abbrev GoesTo : CoreState → Command → Outcome → PoolState → Type 0
GoesTo core command outcome new = (later : CoreState) × (new.core ≡ Some later) × (new.stop ≡ None) × Replies StepsTruly core command outcome later

whole_goes : (old : PoolState) (command : Command) (outcome : Outcome) (new : PoolState) (core : CoreState) → old.core ≡ Some core → old.stop ≡ None
    → RunsWhole old command outcome new → GoesTo core command outcome new
whole_goes old command outcome new core runs unset whole =
    let one : whole.core ≡ core = let both : Some whole.core ≡ Some core = sym whole.runs ∙ runs in cc in (
      whole.later,
      ap (λ s. s.core) whole.same,
      ap (λ s. s.stop) whole.same ∙ unset,
      subst (λ it. Replies StepsTruly it command outcome whole.later) one whole.replies,
    )

-- with no stop set, the core that runs goes on to the next one
pub goes_on : (old : PoolState) (command : Command) (outcome : Outcome) (new : PoolState) (core : CoreState) → old.core ≡ Some core → old.stop ≡ None
    → TakesSteps old command outcome new → (later : CoreState) × (new.core ≡ Some later) × (new.stop ≡ None) × Replies StepsTruly core command outcome later
goes_on old command outcome new core runs unset takes = ⊎_elim
    (λ whole. whole_goes old command outcome new core runs unset whole)
    (λ stopped. ⊎_elim
    (λ short. absurd (no_stop old command short.point unset short.set))
    (λ stops. absurd (no_stop old command stops.point unset stops.set)) stopped) takes

module _ {M : Type 0} (show : M → PoolState) where
  abbrev Came : M → Command → Outcome → M → Type 0
  Came old command outcome new = ComesOf (show old) command outcome (show new)

  one_command : (old : M) (command : Command) (outcome : Outcome) (new : M) (core : CoreState) → (show old).core ≡ Some core → (show old).stop ≡ None → ¬ IsNoStep command
      → Came old command outcome new → (later : CoreState) × ((show new).core ≡ Some later) × ((show new).stop ≡ None) × Replies StepsTruly core command outcome later
  one_command old command outcome new core runs unset step (inl stop) = absurd (step (subst IsNoStep (sym stop.1) tt))
  one_command old command outcome new core runs unset step (inr (inl reopen)) = absurd (step (subst IsNoStep (sym reopen.1) tt))
  one_command old command outcome new core runs unset step (inr (inr takes)) = goes_on (show old) command outcome (show new) core runs unset takes.1

  core_plays : (old : M) (commands : List Command) (text : List ℕ) (new : M) (core : CoreState) → (show old).core ≡ Some core → (show old).stop ≡ None
      → AllByRecursion (λ command. ¬ IsNoStep command) commands → Plays Came old commands text new
      → (end : CoreState) × ((show new).core ≡ Some end) × Plays (Replies StepsTruly) core commands text end
  core_plays old [] text new core runs unset steps plays = (core, subst (λ (m : M). (show m).core ≡ Some core) plays.0 runs, (refl, plays.1))
  core_plays old (command ∷ commands) text new core runs unset steps plays =
      let one = one_command old command plays.1 plays.0 core runs unset steps.0 plays.4 in
      let rest = core_plays plays.0 commands plays.3 new one.0 one.1 one.2 steps.1 plays.6 in
      (rest.0, rest.1, (one.0, plays.1, plays.2, plays.3, one.3, plays.5, rest.2, plays.7))

  pub one_run : (old : M) (commands : List Command) (text : List ℕ) (new : M) (core : CoreState) (v : View) → (show old).core ≡ Some core → (show old).stop ≡ None
      → Represents core v → AllByRecursion (λ command. ¬ IsNoStep command) commands → Plays Came old commands text new
      → (end : CoreState) × ((show new).core ≡ Some end) × IsOneRun core v commands text end
  one_run old commands text new core v runs unset r steps plays =
      let all = core_plays old commands text new core runs unset steps plays in
      (all.0, all.1, plays_run (λ (s : CoreState). s) core v commands text all.0 r all.2)

pub stopped : (old : PoolState) (command : Command) (outcome : Outcome) (new : PoolState) (core : CoreState) (v : View) → old.core ≡ Some core → Represents core v
    → (stops : StopsThere old command outcome new) → IsStoppedRun core v stops.first stops.later
stopped old command outcome new core v runs r stops =
    let one : core ≡ stops.core = let both : Some core ≡ Some stops.core = sym runs ∙ stops.runs in cc in
    let there = subst (λ it. Represents it v) one r in
    subst (λ it. IsStoppedRun it v stops.first stops.later) (sym one) (stopped_run stops.core v stops.first stops.stops.replies _ stops.later there stops.stops.leads)
