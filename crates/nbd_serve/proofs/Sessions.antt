-- Whole sessions.
use Rattle.std.proofs.Common.{◌≡◌, ◌⊎◌, inl, inr, ℕ, List, [], ◌∷◌, Option, Result, Ok, Err, refl, sym, ◌∙◌, subst}
use Rattle.std.specs.Prelude.{MatchOption, Some, None}
use Rattle.nbd_wire.specs.Requests.{command_of}
use Rattle.nbd_wire.specs.declared.errors.ErrorCode.{ErrorCode}
use Rattle.nbd_wire.specs.declared.requests.Command.{Command}
use Rattle.nbd_wire.specs.declared.requests.Command.TheVariants.{Disconnect, Flush, Read, Write}
use Rattle.pool_steps.specs.declared.steps.PoolSteps.{Ghosts}
use Rattle.volume_device.specs.Contents.{Contents, IsFlushed, IsSame}
use Rattle.volume_device.specs.Devices.{Leads, core_of, name_of}
use Rattle.volume_device.specs.declared.device.Device.{Device}
use Rattle.nbd_serve.specs.Answers.{Answers, Performs, Serves}
use Rattle.nbd_serve.specs.Exchanges.{Becomes, BecomesOf, Exchange, Exchanged}
use Rattle.nbd_serve.specs.Haggling.{Haggles}
use Rattle.nbd_serve.specs.Serving.{EndsEarly, EndsSession, ExchangedAnd, Says}
use Rattle.nbd_serve.specs.Verdicts.{judged}
use Rattle.nbd_serve.specs.declared.course.Course.{Course}
use Rattle.nbd_serve.specs.declared.course.Course.TheVariants.{Agreed, GoesOn, Left}
use Rattle.nbd_serve.specs.declared.ended.Ended.{Ended}
use Rattle.nbd_serve.specs.declared.ended.Ended.TheVariants.{Hostile, NoMemory, Output, Refused, Torn}
use Rattle.pool_model.specs.declared.refusal.Refusal.{Refusal}
use Rattle.nbd_serve.specs.declared.export.Export.{Export}
use Rattle.nbd_serve.proofs.Leading.{leads_also, leads_nowhere, leads_on}

-- what is refused before the pool is asked changes nothing
same_becomes : (name : List ℕ) (e : Exchange) (command : Option Command) (code : ErrorCode) (c d : Contents) → IsSame c d → BecomesOf name e command (Some code) c d
same_becomes name e None code c d same = same
same_becomes name e (Some Read) code c d same = same
same_becomes name e (Some Write) code c d same = inl same
same_becomes name e (Some Flush) code c d same = same
same_becomes name e (Some Disconnect) code c d same = same

-- an answered request follows, keeps the name, and becomes what it says
pub record Links {P : Type 0} (steps : Ghosts P) (old : Device P) (e : Exchange) (new : Device P) : Type 0 where
  pub follows : steps.came_from (core_of old) (core_of new)
  pub named : name_of new ≡ name_of old
  pub leads : Leads steps old new (Becomes (name_of old) e)

module _ {P : Type 0} (steps : Ghosts P) (itself : (core : P) → steps.came_from core core) where
  linked : (export : Export) (old new : Device P) (e : Exchange) (verdict : Option ErrorCode) → MatchOption verdict (Performs steps (command_of e.head.kind) old e new) (λ code. (e.error ≡ Some code) × (e.bytes ≡ []) × (new ≡ old)) → Links steps old e new
  linked export old new e None performs = record { follows = performs.follows; named = performs.named; leads = performs.leads }
  linked export old new e (Some code) refused =
      let stays : Leads steps old old (Becomes (name_of old) e) =
      subst (λ (x : Option ErrorCode). Leads steps old old (BecomesOf (name_of old) e (command_of e.head.kind) x)) (sym refused.0)
      (leads_also steps old old IsSame (BecomesOf (name_of old) e (command_of e.head.kind) (Some code)) (same_becomes (name_of old) e (command_of e.head.kind) code) (leads_nowhere steps old)) in
      subst (Links steps old e) (sym refused.2) (record { follows = itself (core_of old); named = refl; leads = stays })

  pub links : (export : Export) (old new : Device P) (e : Exchange) → Answers steps export old e new → Links steps old e new
  links export old new e answers = linked export old new e (judged export e.head) answers.responds

  module _ (further : (first mid last : P) → steps.came_from first mid → steps.came_from mid last → steps.came_from first last)
      (parts_tell : (first mid last : P) → steps.came_from first mid → steps.came_from mid last → steps.answers_tell first last → steps.answers_tell first mid × steps.answers_tell mid last) where
    -- what is served leads through the exchanges
    pub record Leading (old new : Device P) (exchanges : List Exchange) : Type 0 where
      pub follows : steps.came_from (core_of old) (core_of new)
      pub named : name_of new ≡ name_of old
      pub leads : Leads steps old new (Exchanged (name_of old) exchanges)

    pub leading : (export : Export) (old new : Device P) (exchanges : List Exchange) → Serves steps export old exchanges new → Leading old new exchanges
    leading export old new [] same = subst (λ (d : Device P). Leading old d []) (sym same) (record { follows = itself (core_of old); named = refl; leads = leads_nowhere steps old })
    leading export old new (e ∷ exchanges) serves =
        let mid = serves.0 in
        let first = links export old mid e serves.1 in
        let rest = leading export mid new exchanges serves.2 in
        let behind : Leads steps mid new (Exchanged (name_of old) exchanges) = subst (λ (n : List ℕ). Leads steps mid new (Exchanged n exchanges)) first.named rest.leads in record {
          follows = further (core_of old) (core_of mid) (core_of new) first.follows rest.follows;
          named = rest.named ∙ first.named;
          leads = leads_on steps parts_tell old mid new (Becomes (name_of old) e) (Exchanged (name_of old) exchanges) first.follows rest.follows first.leads behind;
        }

-- ---- the handshake's part

module _ (export : Export) (input left output written : Option (List ℕ)) where
  haggles_not : (cause : Refusal) → Haggles export input left output written (Err (Refused cause)) → ⊥
  haggles_not cause h = elim h.flags [ inl none ↦ none.1 | inr flags ↦ flags.ends ]

  abbrev pub HagglesOrNot : Result Course Ended → Type 0
  HagglesOrNot result = (result ≡ Err Output) ⊎ Haggles export input left output written result

  -- the handshake failed
  pub early : (ended : Ended) → HagglesOrNot (Err ended) → EndsEarly export input left output written (Err ended)
  early Torn (inl same) = absurd cc
  early Torn (inr h) = h
  early Hostile (inl same) = absurd cc
  early Hostile (inr h) = h
  early NoMemory (inl same) = absurd cc
  early NoMemory (inr h) = h
  early Output h = tt
  early (Refused cause) (inl same) = absurd cc
  early (Refused cause) (inr h) = absurd (haggles_not cause h)

  haggles_on : Haggles export input left output written (Ok GoesOn) → ⊥
  haggles_on h = elim h.flags [ inl none ↦ none.1 | inr flags ↦ flags.ends.ends refl ]

  -- the handshake led elsewhere than to the next option
  pub agreed_or_left : (course : Course) → HagglesOrNot (Ok course) → (course ≡ Left → ⊥) → Haggles export input left output written (Ok Agreed)
  agreed_or_left course (inl same) not_left = absurd cc
  agreed_or_left Agreed (inr h) not_left = h
  agreed_or_left Left (inr h) not_left = absurd (not_left refl)
  agreed_or_left GoesOn (inr h) not_left = absurd (haggles_on h)

  pub has_left : (course : Course) → HagglesOrNot (Ok course) → course ≡ Left → Haggles export input left output written (Ok Left)
  has_left course (inl same) is = absurd cc
  has_left course (inr h) is = subst (λ (x : Course). Haggles export input left output written (Ok x)) is h

-- ---- the whole session

-- no session ends as refused but by its last flush
says_not : (export : Export) (input left output written : Option (List ℕ)) (exchanges : List Exchange) (cause : Refusal) → Says export input left output written exchanges (Err (Refused cause)) → ⊥
says_not export input left output written exchanges cause (inl on) = on.transmits
says_not export input left output written exchanges cause (inr early) = early.1

pub flushed_at_end : {P : Type 0} (steps : Ghosts P) (export : Export) (old new : Device P) (input left output written : Option (List ℕ)) (exchanges : List Exchange) (before : Device P) → Serves steps export old exchanges before
    → (result : Result (Unit {0}) Ended) → Says export input left output written exchanges result → Leads steps old new (ExchangedAnd (name_of old) exchanges IsFlushed) → EndsSession steps export old new input left output written result
flushed_at_end steps export old new input left output written exchanges before serves (Err (Refused cause)) says leads = absurd (says_not export input left output written exchanges cause says)
flushed_at_end steps export old new input left output written exchanges before serves (Ok done) says leads = record { exchanges = exchanges; before = before; serves = serves; says = says; leads = leads }
flushed_at_end steps export old new input left output written exchanges before serves (Err Torn) says leads = record { exchanges = exchanges; before = before; serves = serves; says = says; leads = leads }
flushed_at_end steps export old new input left output written exchanges before serves (Err Hostile) says leads = record { exchanges = exchanges; before = before; serves = serves; says = says; leads = leads }
flushed_at_end steps export old new input left output written exchanges before serves (Err Output) says leads = record { exchanges = exchanges; before = before; serves = serves; says = says; leads = leads }
flushed_at_end steps export old new input left output written exchanges before serves (Err NoMemory) says leads = record { exchanges = exchanges; before = before; serves = serves; says = says; leads = leads }
