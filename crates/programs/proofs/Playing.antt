-- Texts that are printed one behind the other.
use Rattle.std.proofs.Common.{◌≡◌, ℕ, List, [], ◌∷◌, ◌++◌, Option, Some, None, MatchOption, Result, Ok, Err, OnOk, refl, sym, ap, ◌∙◌, subst, append_assoc, codes, inl, inr}
use Rattle.std.proofs.lemmas.List.{append-nil}
use Rattle.std.specs.Io.KnownBytes.{Appends}
use Rattle.pool_model.specs.declared.refusal.Refusal.{Refusal}
use Rattle.schedule_lines.specs.declared.command.Command.{Command}
use Rattle.schedule_lines.specs.declared.command.Command.TheVariants.{Pool}
use Rattle.schedule_lines.specs.declared.command.PoolLine.{PoolLine}
use Rattle.schedule_lines.specs.Replies.{refusal_text}
use Rattle.programs.specs.declared.outcome.Outcome.{Outcome}
use Rattle.programs.specs.Outcomes.{IsOutcomeText}
use Rattle.programs.specs.Plays.{Plays, AnswersAll, RunsSchedule}
use Rattle.programs.specs.Reads.{Reads, IsSchedule}
use Rattle.programs.proofs.Reading.{schedule_behind}

pub appends_more : (old between new : Option (List ℕ)) (text more : List ℕ) → Appends old between text → Appends between new more → Appends old new (text ++ more)
appends_more None between new text more h k = tt
appends_more (Some bytes) None new text more h k = absurd h
appends_more (Some bytes) (Some longer) None text more h k = absurd k
appends_more (Some bytes) (Some longer) (Some longest) text more h k = k ∙ (ap (λ (b : List ℕ). b ++ more) h ∙ append_assoc bytes text more)

-- one command more
pub plays_more : {M : Type 0} (Outcomes : M → Command → Outcome → M → Type 0) (commands : List Command) (old between new : M) (text : List ℕ) (command : Command) (outcome : Outcome) (line : List ℕ) → Plays Outcomes old commands text between → Outcomes between command outcome new → IsOutcomeText outcome line → Plays Outcomes old (commands ++ command ∷ []) (text ++ (line ++ 10 ∷ [])) new
plays_more {M = M} Outcomes [] old between new text command outcome line played answered said = (
  new,
  outcome,
  line,
  [],
  subst (λ (m : M). Outcomes m command outcome new) (sym played.0) answered,
  said,
  (refl, refl),
  ap (λ (t : List ℕ). t ++ (line ++ 10 ∷ [])) played.1,
)
plays_more Outcomes (c ∷ commands) old between new text command outcome line played answered said = (
  played.0,
  played.1,
  played.2,
  played.3 ++ (line ++ 10 ∷ []),
  played.4,
  played.5,
  plays_more Outcomes commands played.0 between new played.3 command outcome line played.6 answered said,
  ap (λ (t : List ℕ). t ++ (line ++ 10 ∷ [])) played.7 ∙ append_assoc played.2 (10 ∷ played.3) (line ++ 10 ∷ []),
)

pub schedule_ends : (old between : Option (List ℕ)) (commands : List Command) → Reads old commands between → IsSchedule between [] → IsSchedule old commands
schedule_ends old between commands h k = subst (λ (c : List Command). IsSchedule old c) (append-nil commands) (schedule_behind old between commands [] h k)

-- a pool was made, and answered all that follows
pub runs_with_pool : {M : Type 0} (Creates : PoolLine → M → Type 0) (Refuses : PoolLine → Refusal → Type 0) (Outcomes : M → Command → Outcome → M → Type 0) (line : PoolLine) (pool : M) (input behind old between new : Option (List ℕ)) → Reads input (Pool line ∷ []) behind → Creates line pool → Appends old between (codes "pool 3 claim 1" ++ 10 ∷ []) → AnswersAll Outcomes pool behind between new → RunsSchedule Creates Refuses Outcomes input old new
runs_with_pool Creates Refuses Outcomes line pool input behind old between new first created told answered =
    let text = answered.1 in (
      Pool line ∷ answered.0,
      codes "pool 3 claim 1" ++ (10 ∷ text),
      schedule_behind input behind (Pool line ∷ []) answered.0 first answered.3,
      inl (pool, answered.2, text, created, answered.4, refl),
      appends_more old between new (codes "pool 3 claim 1" ++ 10 ∷ []) text told answered.5,
    )

-- no pool was made, and nothing follows
pub runs_without_pool : {M : Type 0} (Creates : PoolLine → M → Type 0) (Refuses : PoolLine → Refusal → Type 0) (Outcomes : M → Command → Outcome → M → Type 0) (line : PoolLine) (cause : Refusal) (input behind old new : Option (List ℕ)) → Reads input (Pool line ∷ []) behind → Refuses line cause → IsSchedule behind [] → Appends old new (refusal_text cause ++ 10 ∷ []) → RunsSchedule Creates Refuses Outcomes input old new
runs_without_pool Creates Refuses Outcomes line cause input behind old new first refused ended told = (
  Pool line ∷ [],
  refusal_text cause ++ 10 ∷ [],
  schedule_ends input behind (Pool line ∷ []) first ended,
  inr (cause, refused, refl, refl),
  told,
)

pub on_ok : {T E : Type 0} (r : Result T E) (P Q : Type 0) → OnOk r P → (P → Q) → OnOk r Q
on_ok (Ok x) P Q h f = f h
on_ok (Err e) P Q h f = tt

pub if_none : {T : Type 0} (o : Option T) (P : Type 0) (Q : T → Type 0) → MatchOption o P Q → ((x : T) → o ≡ Some x → ⊥) → P
if_none None P Q h other = h
if_none (Some x) P Q h other = absurd (other x refl)
