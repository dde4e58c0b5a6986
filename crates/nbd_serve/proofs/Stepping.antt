-- Requests that are answered one after another.
use Rattle.std.proofs.Common.{◌≡◌, ℕ, List, [], ◌∷◌, ◌++◌, Option, Result, Ok, Err, OnOk, IfErr, inr, length, refl, sym, ap, ◌∙◌, subst}
use Rattle.std.specs.Io.KnownBytes.{Appends, Consumes}
use Rattle.nbd_wire.specs.Requests.{SpellsRequest, request_bytes}
use Rattle.nbd_wire.specs.declared.requests.RequestHead.{RequestHead}
use Rattle.pool_steps.specs.declared.steps.PoolSteps.{Ghosts}
use Rattle.volume_device.specs.declared.device.Device.{Device}
use Rattle.nbd_serve.specs.Answers.{Answers, Serves}
use Rattle.nbd_serve.specs.Exchanges.{Exchange, all_asked, all_replied, asked, replied}
use Rattle.nbd_serve.specs.Sessions.{Transmits}
use Rattle.nbd_serve.specs.Steps.{IsAnswered, Steps}
use Rattle.nbd_serve.specs.declared.ended.Ended.{Ended}
use Rattle.nbd_serve.specs.declared.ended.Ended.TheVariants.{Hostile, NoMemory, Output, Refused, Torn}
use Rattle.nbd_serve.specs.declared.export.Export.{Export}
use Rattle.nbd_serve.proofs.Consuming.{appended_more, appended_none, consumed_more, consumed_none, one_more}

-- the reply to a request that was answered was sent, or it couldn't be
pub sent_or_not : {P : Type 0} (steps : Ghosts P) (export : Export) (head : RequestHead) (old new : Device P) (input left output written : Option (List ℕ)) (answered : IsAnswered steps export head old new input left output written)
    (r : Result (Unit {0}) Ended) → OnOk r (Appends output written (replied answered.exchange)) → IfErr r (λ ended. ended ≡ Output) → Steps steps export head old new input left output written r
sent_or_not steps export head old new input left output written answered (Ok done) sent failed = record { answered = answered; sent = sent }
sent_or_not steps export head old new input left output written answered (Err Output) sent failed = answered
sent_or_not steps export head old new input left output written answered (Err Torn) sent failed = absurd cc
sent_or_not steps export head old new input left output written answered (Err Hostile) sent failed = absurd cc
sent_or_not steps export head old new input left output written answered (Err (Refused cause)) sent failed = absurd cc
sent_or_not steps export head old new input left output written answered (Err NoMemory) sent failed = absurd cc

module _ {P : Type 0} (steps : Ghosts P) (export : Export) where
  pub serves_more : (old mid new : Device P) (es : List Exchange) (e : Exchange) → Serves steps export old es mid → Answers steps export mid e new → Serves steps export old (es ++ e ∷ []) new
  serves_more old mid new [] e serves answers = (new, subst (λ (d : Device P). Answers steps export d e new) serves answers, refl)
  serves_more old mid new (x ∷ es) e serves answers = (serves.0, serves.1, serves_more serves.0 mid new es e serves.2 answers)

  -- these exchanges were made so far
  pub record SoFar (old now : Device P) (input left output written : Option (List ℕ)) : Type 0 where
    pub exchanges : List Exchange
    pub serves : Serves steps export old exchanges now
    pub asked : Consumes input left (all_asked exchanges)
    pub replied : Appends output written (all_replied exchanges)

  pub at_first : (old : Device P) (input output : Option (List ℕ)) → SoFar old old input input output output
  at_first old input output = record { exchanges = []; serves = refl; asked = consumed_none input; replied = appended_none output }

  -- one more was answered
  module _ (old now new : Device P) (input left head_read further output written : Option (List ℕ)) (so_far : SoFar old now input left output written) (e : Exchange)
      (bytes : List ℕ) (head : Consumes left head_read bytes) (is : bytes ≡ request_bytes e.head) (payload : Consumes head_read further e.payload) where
    pub asked_more : Consumes input further (all_asked (so_far.exchanges ++ e ∷ []))
    asked_more =
        subst (Consumes input further) (one_more asked so_far.exchanges e)
        (consumed_more input left further (all_asked so_far.exchanges) (asked e) so_far.asked
        (consumed_more left head_read further (request_bytes e.head) e.payload (subst (Consumes left head_read) is head) payload))

    pub answered_more : (sent : Option (List ℕ)) → Answers steps export now e new → Appends written sent (replied e) → SoFar old new input further output sent
    answered_more sent answers appends = record {
      exchanges = so_far.exchanges ++ e ∷ [];
      serves = serves_more old now new so_far.exchanges e so_far.serves answers;
      asked = asked_more;
      replied = subst (Appends output sent) (one_more replied so_far.exchanges e) (appended_more output written sent (all_replied so_far.exchanges) (replied e) so_far.replied appends);
    }

  -- how the session ends at a request
  pub ends_at : (old now new : Device P) (input left head_read further output written sent : Option (List ℕ)) (so_far : SoFar old now input left output written) (head : RequestHead) (bytes : List ℕ)
      → Consumes left head_read bytes → SpellsRequest bytes head → (ended : Ended) → Steps steps export head now new head_read further written sent (Err ended)
      → (exchanges : List Exchange) × Serves steps export old exchanges new × Transmits input further output sent exchanges (Err ended)
  ends_at old now new input left head_read further output written sent so_far head bytes consumed spelled Torn step =
      (so_far.exchanges, subst (Serves steps export old so_far.exchanges) (sym step.same) so_far.serves, record { asked = (left, so_far.asked); replied = subst (λ (o : Option (List ℕ)). Appends output o (all_replied so_far.exchanges)) (sym step.silent) so_far.replied })
  ends_at old now new input left head_read further output written sent so_far head bytes consumed spelled Hostile step = (
    so_far.exchanges,
    subst (Serves steps export old so_far.exchanges) (sym step.0.same) so_far.serves,
    record {
      last = bytes;
      mid = left;
      asked = so_far.asked;
      broken = subst (λ (o : Option (List ℕ)). Consumes left o bytes) (sym step.1) consumed;
      hostile = (ap length spelled.bytes_are, inr (head, spelled, step.2, step.3));
      replied = subst (λ (o : Option (List ℕ)). Appends output o (all_replied so_far.exchanges)) (sym step.0.silent) so_far.replied;
    },
  )
  ends_at old now new input left head_read further output written sent so_far head bytes consumed spelled Output step =
      let e = step.exchange in
      let is : bytes ≡ request_bytes e.head = spelled.bytes_are ∙ ap request_bytes (sym step.head_is) in
      (so_far.exchanges ++ e ∷ [], serves_more old now new so_far.exchanges e so_far.serves step.answers, (further, asked_more old now new input left head_read further output written so_far e bytes consumed is step.consumed))
  ends_at old now new input left head_read further output written sent so_far head bytes consumed spelled (Refused cause) step = absurd step
  ends_at old now new input left head_read further output written sent so_far head bytes consumed spelled NoMemory step = absurd step
