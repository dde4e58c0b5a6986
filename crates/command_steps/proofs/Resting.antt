-- A commit leaves a pool at rest.
use Rattle.std.proofs.Common.{◌≡◌, ℕ, List, [], ◌∷◌, Bool, true, false, Option, Some, None, refl, sym, ap, ◌∙◌, subst}
use Rattle.std.specs.Prelude.{if◌then◌else◌}
use Rattle.std.specs.List.{last_or}
use Rattle.pool_model.specs.declared.group.Holder.{Holder}
use Rattle.pool_model.specs.declared.group.Stage.{Stage}
use Rattle.pool_model.specs.declared.refusal.Refusal.{Refusal}
use Rattle.pool_model.specs.declared.step.Step.{Step}
use Rattle.pool_model.specs.declared.step.Step.TheVariants as step
use Rattle.pool_model.specs.declared.step.Reply.{Reply}
use Rattle.pool_model.specs.declared.step.Reply.TheVariants as reply
use Rattle.pool_model.specs.Flow.{Flow, FlowRun, FlowStep}
use Rattle.pool_model.specs.View.{Sync, Idle, Unplanned, Due, is_syncing}
use Rattle.command_steps.specs.Due.{AreTaken, due_after}
use Rattle.command_steps.proofs.Courses.{IsSilent}
use Rattle.command_steps.proofs.Accepting.{last_later, refused_last}

-- how far groups are where this step of a commit is due: behind a plan none waits
abbrev pub IsDueIn : Step → Flow → Type 0
IsDueIn step.Close f = f.syncing ≡ false
IsDueIn step.Quiesce f = f.syncing ≡ false
IsDueIn (step.Plan timestamp) f = (if f.syncing then f.waiting else None) ≡ None
IsDueIn step.Device f = f.waiting ≡ None
IsDueIn s f = ⊥

-- none is synced, none waits, and these holds are left
pub record RestsWith (left : List Holder) (f : Flow) : Type 0 where
  pub syncing : f.syncing ≡ false
  pub waiting : f.waiting ≡ None
  pub holds : f.holds ≡ left

-- where a step of a commit leads
pub data Leads (t : ℕ) (f mid : Flow) (r : Reply) : Type 0 where
  On : (next : Step) → due_after t [] r ≡ next ∷ [] → IsSilent r → IsDueIn next mid → mid.holds ≡ f.holds → Leads t f mid r
  Stops : (cause : Refusal) → r ≡ reply.Refused cause → Leads t f mid r
  Ends : (group : ℕ) → r ≡ reply.Committed group → RestsWith f.holds mid → Leads t f mid r

not_synced : (syncing : Bool) (waiting : Option Stage) → syncing ≡ false → (if syncing then waiting else None) ≡ None
not_synced syncing waiting e = ap (λ (b : Bool). if b then waiting else None) e

none_left : (syncing : Bool) (waiting : Option Stage) → waiting ≡ None → (if syncing then waiting else None) ≡ None
none_left true waiting e = e
none_left false waiting e = refl

leads : (t : ℕ) (s : Step) (f mid : Flow) (r : Reply) → IsDueIn s f → FlowStep f s r mid → Leads t f mid r
leads t s f mid (reply.Refused cause) due taken = Stops cause refl
leads t step.Close f mid (reply.Closed n) due taken = On step.Quiesce refl tt (ap (λ (x : Flow). x.syncing) taken.3 ∙ due) (ap (λ (x : Flow). x.holds) taken.3)
leads t step.Quiesce f mid (reply.Quiesced n) due taken =
    On (step.Plan t) refl tt (not_synced mid.syncing mid.waiting (ap (λ (x : Flow). x.syncing) taken.3 ∙ due)) (ap (λ (x : Flow). x.holds) taken.3)
leads t (step.Plan timestamp) f mid (reply.Planned n) due taken = On step.Device refl tt (ap (λ (x : Flow). x.waiting) taken.1.1 ∙ due) (ap (λ (x : Flow). x.holds) taken.1.1)
leads t step.Device f mid (reply.Moved phase) due taken = On step.Device refl tt (ap (λ (x : Flow). x.waiting) taken ∙ due) (ap (λ (x : Flow). x.holds) taken)
leads t step.Device f mid (reply.Replan disk) due taken =
    On (step.Plan t) refl tt (none_left mid.syncing mid.waiting (ap (λ (x : Flow). x.waiting) taken ∙ due)) (ap (λ (x : Flow). x.holds) taken)
leads t step.Device f mid (reply.Committed n) due taken =
    Ends n refl (record { syncing = ap (λ (x : Flow). x.syncing) taken.2; waiting = ap (λ (x : Flow). x.waiting) taken.2 ∙ due; holds = ap (λ (x : Flow). x.holds) taken.2 })
leads t step.Close f mid r due taken = absurd taken
leads t step.Quiesce f mid r due taken = absurd taken
leads t (step.Plan timestamp) f mid r due taken = absurd taken
leads t step.Device f mid r due taken = absurd taken
leads t s f mid r due taken = absurd due

rests_there : (t : ℕ) (f g : Flow) (holds : List Holder) (steps : List Step) (replies : List Reply) (left : List Step) → AreTaken t [] steps replies left → FlowRun f steps replies g → RestsWith holds f → RestsWith holds g
rests_there t f g holds [] [] left taken run rests = subst (RestsWith holds) (sym run) rests
rests_there t f g holds [] (r ∷ replies) left taken run rests = absurd run
rests_there t f g holds (x ∷ steps) [] left taken run rests = absurd run
rests_there t f g holds (x ∷ steps) (r ∷ replies) left taken run rests = absurd taken

pub commit_rests : (t : ℕ) (s : Step) (f g : Flow) (steps : List Step) (replies : List Reply) (left : List Step) (group : ℕ) → IsDueIn s f → AreTaken t (s ∷ []) steps replies left → FlowRun f steps replies g
    → last_or None replies ≡ Some (reply.Committed group) → RestsWith f.holds g
commit_rests t s f g [] [] left group due taken run e = absurd cc
commit_rests t s f g [] (r ∷ replies) left group due taken run e = absurd run
commit_rests t s f g (x ∷ steps) [] left group due taken run e = absurd run
commit_rests t s f g (x ∷ steps) (r ∷ replies) left group due taken run e =
    elim (leads t s f run.0 r due (subst (λ (y : Step). FlowStep f y r run.0) taken.0 run.1)) as (λ _. RestsWith f.holds g) [
      | On next follows silent further holds ↦
          let more = commit_rests t next run.0 g steps replies left group further (subst (λ (d : List Step). AreTaken t d steps replies left) follows taken.1) run.2 (last_later r replies group silent e) in
          subst (λ (l : List Holder). RestsWith l g) holds more
      | Stops cause is ↦
          absurd (refused_last t cause steps replies left group (subst (λ (y : Reply). AreTaken t (due_after t [] y) steps replies left) is taken.1) (subst (λ (y : Reply). last_or (Some y) replies ≡ Some (reply.Committed group)) is e))
      | Ends n is rests ↦ rests_there t run.0 g f.holds steps replies left (subst (λ (y : Reply). AreTaken t (due_after t [] y) steps replies left) is taken.1) run.2 rests
    ]

pub idle_of : (sync : Sync) → is_syncing sync ≡ false → sync ≡ Idle
idle_of Idle e = refl
idle_of Unplanned e = absurd cc
idle_of (Due calls) e = absurd cc
