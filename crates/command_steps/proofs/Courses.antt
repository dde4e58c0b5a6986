-- How sessions end: with an answer, and only the last reply commits.
use Rattle.std.proofs.Common.{◌≡◌, ◌≢◌, ◌⊎◌, inl, inr, ℕ, List, [], ◌∷◌, Some, None, refl, ap, ◌∙◌, subst}
use Rattle.std.specs.List.{last_or}
use Rattle.pool_model.specs.declared.step.Step.{Step}
use Rattle.pool_model.specs.declared.step.Step.TheVariants as step
use Rattle.pool_model.specs.declared.step.Reply.{Reply}
use Rattle.pool_model.specs.declared.step.Reply.TheVariants as reply
use Rattle.pool_model.specs.declared.refusal.Refusal.TheVariants.{NoMemory}
use Rattle.pool_model.specs.Flow.{Flow, FlowRun, FlowStep}
use Rattle.pool_model.specs.Groups.{commits}
use Rattle.command_steps.specs.Changes.{IsAnswer}
use Rattle.command_steps.specs.Due.{AreTaken, due_after}
use Rattle.command_steps.specs.Made.{IsItem}
use Rattle.command_steps.proofs.Stepping.{last_further}

pub some_is : {A : Type 0} (x y : A) → Some x ≡ Some y → x ≡ y
some_is x y e = cc

abbrev pub IsCommitStep : Step → Type 0
IsCommitStep step.Close = Unit {0}
IsCommitStep step.Quiesce = Unit {0}
IsCommitStep (step.Plan timestamp) = Unit {0}
IsCommitStep step.Device = Unit {0}
IsCommitStep s = ⊥

abbrev pub NotDevice : Step → Type 0
NotDevice step.Device = ⊥
NotDevice s = Unit {0}

pub item_not_device : (item : Step) → IsItem item → NotDevice item
item_not_device (step.Write w) is = tt
item_not_device (step.Act a) is = tt
item_not_device s is = absurd is

-- ---- the steps that are due end with one of a commit

abbrev pub EndInCommit : List Step → Type 0
EndInCommit [] = ⊥
EndInCommit (s ∷ []) = IsCommitStep s
EndInCommit (s ∷ next ∷ behind) = EndInCommit (next ∷ behind)

-- so they do behind a reply, or it was an answer
abbrev HasCourse : List Step → Reply → Type 0
HasCourse due r = EndInCommit due ⊎ ((due ≡ []) × IsAnswer r)

course_behind : (t : ℕ) (next : Step) (behind : List Step) (r : Reply) → EndInCommit (next ∷ behind) → HasCourse (due_after t (next ∷ behind) r) r
course_behind t next behind (reply.Refused cause) ends = inr (refl, tt)
course_behind t next behind r ends = inl ends

course_last : (t : ℕ) (f mid : Flow) (s : Step) (r : Reply) → IsCommitStep s → FlowStep f s r mid → HasCourse (due_after t [] r) r
course_last t f mid s (reply.Refused cause) is taken = inr (refl, tt)
course_last t f mid s (reply.Committed group) is taken = inr (refl, tt)
course_last t f mid s (reply.Closed group) is taken = inl tt
course_last t f mid s (reply.Quiesced group) is taken = inl tt
course_last t f mid s (reply.Planned group) is taken = inl tt
course_last t f mid s (reply.Moved phase) is taken = inl tt
course_last t f mid s (reply.Replan disk) is taken = inl tt
course_last t f mid step.Close r is taken = absurd taken
course_last t f mid step.Quiesce r is taken = absurd taken
course_last t f mid (step.Plan timestamp) r is taken = absurd taken
course_last t f mid step.Device r is taken = absurd taken
course_last t f mid s r is taken = absurd is

course : (t : ℕ) (f mid : Flow) (s : Step) (behind : List Step) (r : Reply) → EndInCommit (s ∷ behind) → FlowStep f s r mid → HasCourse (due_after t behind r) r
course t f mid s [] r ends taken = course_last t f mid s r ends taken
course t f mid s (next ∷ behind) r ends taken = course_behind t next behind r ends

answered_behind : (t : ℕ) (f g : Flow) (due steps : List Step) (before : Reply) (replies : List Reply) (last : Reply) → HasCourse due before → AreTaken t due steps replies [] → FlowRun f steps replies g
    → last_or (Some before) replies ≡ Some last → IsAnswer last
answered_behind t f g [] [] before [] last (inl ends) taken run e = absurd ends
answered_behind t f g [] [] before [] last (inr answer) taken run e = subst IsAnswer (some_is before last e) answer.1
answered_behind t f g (s ∷ due) [] before [] last has taken run e = absurd cc
answered_behind t f g (s ∷ due) (x ∷ steps) before (r ∷ replies) last (inl ends) taken run e =
    answered_behind t run.0 g (due_after t due r) steps r replies last (course t f run.0 s due r ends (subst (λ (y : Step). FlowStep f y r run.0) taken.0 run.1)) taken.1 run.2 e
answered_behind t f g (s ∷ due) (x ∷ steps) before (r ∷ replies) last (inr answer) taken run e = let none = answer.0 in absurd cc
answered_behind t f g [] (x ∷ steps) before (r ∷ replies) last has taken run e = absurd taken
answered_behind t f g due [] before (r ∷ replies) last has taken run e = absurd run
answered_behind t f g due (x ∷ steps) before [] last has taken run e = absurd run

-- where nothing is left the last reply is an answer
pub answered : (t : ℕ) (f g : Flow) (due steps : List Step) (replies : List Reply) (last : Reply) → EndInCommit due → AreTaken t due steps replies [] → FlowRun f steps replies g
    → last_or None replies ≡ Some last → IsAnswer last
answered t f g due steps replies last ends taken run e =
    answered_behind t f g due steps (reply.Refused NoMemory) replies last (inl ends) taken run (last_further (Some (reply.Refused NoMemory)) replies last e)

-- ---- only the last reply commits

-- no step is Device but the last
abbrev pub OnlyLastCommits : List Step → Type 0
OnlyLastCommits [] = Unit {0}
OnlyLastCommits (s ∷ []) = Unit {0}
OnlyLastCommits (s ∷ next ∷ behind) = NotDevice s × OnlyLastCommits (next ∷ behind)

abbrev pub IsSilent : Reply → Type 0
IsSilent (reply.Committed group) = ⊥
IsSilent r = Unit {0}

pub silent : (f mid : Flow) (s : Step) (r : Reply) → NotDevice s → FlowStep f s r mid → IsSilent r
silent f mid step.Device r not taken = absurd not
silent f mid (step.Hold w) (reply.Committed group) not taken = absurd taken
silent f mid s (reply.Committed group) not taken = absurd taken
silent f mid s r not taken = tt

passes : (r : Reply) (replies : List Reply) → IsSilent r → commits (r ∷ replies) ≡ commits replies
passes (reply.Committed group) replies is = absurd is
passes r replies is = refl

pub commits_none : (r : Reply) → ((group : ℕ) → r ≢ reply.Committed group) → commits (r ∷ []) ≡ []
commits_none (reply.Committed group) other = absurd (other group refl)
commits_none r other = refl

only_behind : (t : ℕ) (s : Step) (behind : List Step) (r : Reply) → OnlyLastCommits (s ∷ behind) → OnlyLastCommits (due_after t behind r)
only_behind t s behind (reply.Refused cause) only = tt
only_behind t s [] (reply.Closed group) only = tt
only_behind t s [] (reply.Quiesced group) only = tt
only_behind t s [] (reply.Planned group) only = tt
only_behind t s [] (reply.Moved phase) only = tt
only_behind t s [] (reply.Replan disk) only = tt
only_behind t s [] r only = tt
only_behind t s (next ∷ behind) r only = only.1

-- something is due behind the reply to it
silent_behind : (t : ℕ) (f mid : Flow) (s : Step) (behind : List Step) (r : Reply) (steps : List Step) (y : Step) (replies : List Reply) (z : Reply) (left : List Step) → OnlyLastCommits (s ∷ behind) → FlowStep f s r mid
    → AreTaken t (due_after t behind r) (y ∷ steps) (z ∷ replies) left → IsSilent r
silent_behind t f mid s [] (reply.Committed group) steps y replies z left only taken more = absurd more
silent_behind t f mid s [] r steps y replies z left only taken more = tt
silent_behind t f mid s (next ∷ behind) r steps y replies z left only taken more = silent f mid s r only.0 taken

pub commits_last : (t : ℕ) (f g : Flow) (due steps : List Step) (replies : List Reply) (left : List Step) (last : Reply) → OnlyLastCommits due → AreTaken t due steps replies left → FlowRun f steps replies g
    → last_or None replies ≡ Some last → commits replies ≡ commits (last ∷ [])
commits_last t f g due [] [] left last only taken run e = absurd cc
commits_last t f g [] (x ∷ steps) (r ∷ replies) left last only taken run e = absurd taken
commits_last t f g (s ∷ due) (x ∷ []) (r ∷ []) left last only taken run e = ap (λ (y : Reply). commits (y ∷ [])) (some_is r last e)
commits_last t f g (s ∷ due) (x ∷ y ∷ steps) (r ∷ z ∷ replies) left last only taken run e =
    passes r (z ∷ replies) (silent_behind t f run.0 s due r steps y replies z left only (subst (λ (w : Step). FlowStep f w r run.0) taken.0 run.1) taken.1)
    ∙ commits_last t run.0 g (due_after t due r) (y ∷ steps) (z ∷ replies) left last (only_behind t s due r only) taken.1 run.2 e
commits_last t f g (s ∷ due) (x ∷ []) (r ∷ z ∷ replies) left last only taken run e = absurd run.2
commits_last t f g (s ∷ due) (x ∷ y ∷ steps) (r ∷ []) left last only taken run e = absurd run.2
commits_last t f g due [] (r ∷ replies) left last only taken run e = absurd run
commits_last t f g due (x ∷ steps) [] left last only taken run e = absurd run
