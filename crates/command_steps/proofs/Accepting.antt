-- What a session that commits has accepted, step by step.
use Rattle.std.proofs.Common.{◌≡◌, ℕ, List, [], ◌∷◌, false, Some, None, refl, sym, ap, ◌∙◌, subst}
use Rattle.std.specs.List.{last_or}
use Rattle.pool_model.specs.declared.group.Holder.{Holder}
use Rattle.pool_model.specs.declared.item.Write.{Write}
use Rattle.pool_model.specs.declared.item.Action.{Action}
use Rattle.pool_model.specs.declared.item.Item.TheVariants.{Write as WriteItem, Action as ActionItem}
use Rattle.pool_model.specs.declared.step.Step.{Step}
use Rattle.pool_model.specs.declared.step.Step.TheVariants as step
use Rattle.pool_model.specs.declared.step.Reply.{Reply}
use Rattle.pool_model.specs.declared.step.Reply.TheVariants as reply
use Rattle.pool_model.specs.Accepted.{Accepted, accepted, with_item}
use Rattle.pool_model.specs.Flow.{Flow, FlowRun, FlowStep, opened, with_hold, without_hold}
use Rattle.pool_model.specs.View.{hold_group}
use Rattle.command_steps.specs.Due.{AreTaken, due_after, is_refused}
use Rattle.command_steps.specs.Made.{IsItem}
use Rattle.command_steps.proofs.Courses.{IsSilent, NotDevice, silent, some_is}

-- ---- the first of the steps that are due, where more stand behind it

-- so the session goes on behind its first reply
pub record GoesOn (t : ℕ) (s : Step) (behind : List Step) (f g : Flow) (steps : List Step) (replies : List Reply) (left : List Step) (group : ℕ) : Type 0 where
  pub first : Reply
  pub mid : Flow
  pub rest : List Step
  pub others : List Reply
  pub step : FlowStep f s first mid
  pub accepts : is_refused first ≡ false
  pub steps_are : steps ≡ s ∷ rest
  pub replies_are : replies ≡ first ∷ others
  pub taken : AreTaken t behind rest others left
  pub run : FlowRun mid rest others g
  pub last : last_or None others ≡ Some (reply.Committed group)

-- behind a silent reply the last one comes later
pub last_later : (r : Reply) (replies : List Reply) (group : ℕ) → IsSilent r → last_or (Some r) replies ≡ Some (reply.Committed group) → last_or None replies ≡ Some (reply.Committed group)
last_later r [] group is e = absurd (subst IsSilent (some_is r (reply.Committed group) e) is)
last_later r (x ∷ replies) group is e = e

-- a refusal is the last reply
pub refused_last : (t : ℕ) (cause : _) (steps : List Step) (replies : List Reply) (left : List Step) (group : ℕ) → AreTaken t [] steps replies left → last_or (Some (reply.Refused cause)) replies ≡ Some (reply.Committed group) → ⊥
refused_last t cause [] [] left group taken e = cc
refused_last t cause [] (r ∷ replies) left group taken e = taken
refused_last t cause (x ∷ steps) [] left group taken e = taken
refused_last t cause (x ∷ steps) (r ∷ replies) left group taken e = taken

-- what is due behind a reply in a session that commits
follows : (t : ℕ) (next : Step) (behind : List Step) (r : Reply) (steps : List Step) (replies : List Reply) (left : List Step) (group : ℕ) → AreTaken t (due_after t (next ∷ behind) r) steps replies left
    → last_or (Some r) replies ≡ Some (reply.Committed group) → (is_refused r ≡ false) × AreTaken t (next ∷ behind) steps replies left
follows t next behind (reply.Refused cause) steps replies left group taken e = absurd (refused_last t cause steps replies left group taken e)
follows t next behind r steps replies left group taken e = (refl, taken)

pub goes_on : (t : ℕ) (s next : Step) (behind : List Step) (f g : Flow) (steps : List Step) (replies : List Reply) (left : List Step) (group : ℕ) → NotDevice s → AreTaken t (s ∷ next ∷ behind) steps replies left
    → FlowRun f steps replies g → last_or None replies ≡ Some (reply.Committed group) → GoesOn t s (next ∷ behind) f g steps replies left group
goes_on t s next behind f g [] [] left group not taken run e = absurd cc
goes_on t s next behind f g [] (r ∷ replies) left group not taken run e = absurd run
goes_on t s next behind f g (x ∷ steps) [] left group not taken run e = absurd run
goes_on t s next behind f g (x ∷ steps) (r ∷ replies) left group not taken run e =
    let taken_here = subst (λ (y : Step). FlowStep f y r run.0) taken.0 run.1 in
    let more = follows t next behind r steps replies left group taken.1 e in record {
      first = r;
      mid = run.0;
      rest = steps;
      others = replies;
      step = taken_here;
      accepts = more.0;
      steps_are = ap (λ (y : Step). y ∷ steps) taken.0;
      replies_are = refl;
      taken = more.1;
      run = run.2;
      last = last_later r replies group (silent f run.0 s r not taken_here) e;
    }

-- ---- what the steps before the commit do

abbrev pub held_by : ℕ → List Holder
held_by n = record { writer = 1; group = n } ∷ []

pub held : (f mid : Flow) (r : Reply) → is_refused r ≡ false → FlowStep f (step.Hold 1) r mid → mid ≡ with_hold f 1 (opened f)
held f mid (reply.Held n) e s = s.2 ∙ ap (with_hold f 1) s.1
held f mid (reply.Refused cause) e s = absurd cc
held f mid r e s = absurd s

pub released : (f mid : Flow) (r : Reply) → is_refused r ≡ false → FlowStep f (step.Release 1) r mid → mid ≡ without_hold f 1
released f mid reply.Released e s = s
released f mid (reply.Refused cause) e s = absurd cc
released f mid r e s = absurd s

same_group : (writer n group : ℕ) (holds : List Holder) → writer ≡ 1 → holds ≡ held_by n → hold_group writer holds ≡ Some group → group ≡ n
same_group writer n group holds w e h =
    let all : hold_group 1 (held_by n) ≡ Some group = subst (λ (x : ℕ). hold_group x (held_by n) ≡ Some group) w (subst (λ (x : List Holder). hold_group writer x ≡ Some group) e h) in
    sym (some_is n group all)

-- an item that is taken under the one hold of this group
pub record IsTaken (f mid : Flow) (n : ℕ) (item : Step) (r : Reply) : Type 0 where
  pub receipt : r ≡ reply.Receipt n
  pub holds : mid.holds ≡ f.holds
  pub syncing : mid.syncing ≡ f.syncing
  pub waiting : mid.waiting ≡ f.waiting

write_taken : (f mid : Flow) (n : ℕ) (w : Write) (r : Reply) → w.writer ≡ 1 → f.holds ≡ held_by n → is_refused r ≡ false → FlowStep f (step.Write w) r mid → IsTaken f mid n (step.Write w) r
write_taken f mid n w (reply.Receipt group) is h e s = record {
  receipt = ap reply.Receipt (same_group w.writer n group f.holds is h s.0);
  holds = ap (λ (x : Flow). x.holds) s.3;
  syncing = ap (λ (x : Flow). x.syncing) s.3;
  waiting = ap (λ (x : Flow). x.waiting) s.3;
}
write_taken f mid n w (reply.Refused cause) is h e s = absurd cc
write_taken f mid n w r is h e s = absurd s

act_taken : (f mid : Flow) (n : ℕ) (a : Action) (r : Reply) → a.writer ≡ 1 → f.holds ≡ held_by n → is_refused r ≡ false → FlowStep f (step.Act a) r mid → IsTaken f mid n (step.Act a) r
act_taken f mid n a (reply.Receipt group) is h e s = record {
  receipt = ap reply.Receipt (same_group a.writer n group f.holds is h s.0);
  holds = ap (λ (x : Flow). x.holds) s.4;
  syncing = ap (λ (x : Flow). x.syncing) s.4;
  waiting = ap (λ (x : Flow). x.waiting) s.4;
}
act_taken f mid n a (reply.Refused cause) is h e s = absurd cc
act_taken f mid n a r is h e s = absurd s

pub item_taken : (f mid : Flow) (n : ℕ) (item : Step) (r : Reply) → IsItem item → f.holds ≡ held_by n → is_refused r ≡ false → FlowStep f item r mid → IsTaken f mid n item r
item_taken f mid n (step.Write w) r is h e s = write_taken f mid n w r is h e s
item_taken f mid n (step.Act a) r is h e s = act_taken f mid n a r is h e s
item_taken f mid n item r is h e s = absurd is

-- ---- nothing but the item is accepted

abbrev pub IsPlain : Step → Type 0
IsPlain (step.Write w) = ⊥
IsPlain (step.Act a) = ⊥
IsPlain s = Unit {0}

abbrev pub ArePlain : List Step → Type 0
ArePlain [] = Unit {0}
ArePlain (s ∷ steps) = IsPlain s × ArePlain steps

adds_none : (s : Step) (r : Reply) (items : List Accepted) → IsPlain s → with_item s r items ≡ items
adds_none (step.Write w) r items is = absurd is
adds_none (step.Act a) r items is = absurd is
adds_none s r items is = refl

plain_behind : (t : ℕ) (behind : List Step) (r : Reply) → ArePlain behind → ArePlain (due_after t behind r)
plain_behind t behind (reply.Refused cause) are = tt
plain_behind t [] (reply.Closed group) are = (tt, tt)
plain_behind t [] (reply.Quiesced group) are = (tt, tt)
plain_behind t [] (reply.Planned group) are = (tt, tt)
plain_behind t [] (reply.Moved phase) are = (tt, tt)
plain_behind t [] (reply.Replan disk) are = (tt, tt)
plain_behind t [] r are = tt
plain_behind t (s ∷ behind) r are = are

pub accepts_none : (t : ℕ) (due steps : List Step) (replies : List Reply) (left : List Step) → ArePlain due → AreTaken t due steps replies left → accepted steps replies ≡ []
accepts_none t due [] replies left are taken = refl
accepts_none t due (x ∷ steps) [] left are taken = refl
accepts_none t [] (x ∷ steps) (r ∷ replies) left are taken = absurd taken
accepts_none t (s ∷ due) (x ∷ steps) (r ∷ replies) left are taken =
    adds_none x r (accepted steps replies) (subst IsPlain (sym taken.0) are.0) ∙ accepts_none t (due_after t due r) steps replies left (plain_behind t due r are.1) taken.1

-- of an item and what comes behind it the item is accepted
pub accepts_item : (t n : ℕ) (item : Step) (rest : List Step) (others : List Reply) (left : List Step) → IsItem item → AreTaken t (step.Release 1 ∷ step.Close ∷ []) rest others left
    → accepted (item ∷ rest) (reply.Receipt n ∷ others) ≡ accepted (item ∷ []) (reply.Receipt n ∷ [])
accepts_item t n (step.Write w) rest others left is taken =
    ap (λ (l : List Accepted). record { item = WriteItem w; group = n } ∷ l) (accepts_none t (step.Release 1 ∷ step.Close ∷ []) rest others left (tt, (tt, tt)) taken)
accepts_item t n (step.Act a) rest others left is taken =
    ap (λ (l : List Accepted). record { item = ActionItem a; group = n } ∷ l) (accepts_none t (step.Release 1 ∷ step.Close ∷ []) rest others left (tt, (tt, tt)) taken)
accepts_item t n item rest others left is taken = absurd is
