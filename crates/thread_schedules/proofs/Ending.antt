-- How a schedule ends of which threads run a part.
use Rattle.std.proofs.Common.{◌≡◌, ℕ, ◌+◌, List, [], length, false, Option, Some, None, option_map, inl, inr, refl, sym, ap, ◌∙◌, subst, arith}
use Rattle.std.specs.Io.KnownBytes.{IsAtEnd}
use Rattle.pool_create.specs.CoreState.{CoreState}
use Rattle.pool_model.specs.declared.refusal.Refusal.{Refusal as Cause}
use Rattle.schedule_lines.specs.declared.command.Command.{Command}
use Rattle.schedule_lines.specs.declared.command.PoolLine.{PoolLine}
use Rattle.programs.specs.declared.outcome.Outcome.{Outcome}
use Rattle.programs.specs.declared.refusal.Refusal.{Refusal}
use Rattle.programs.specs.declared.refusal.Refusal.TheVariants.{Line as LineFault, Input, Output, Memory}
use Rattle.programs.specs.Faults.{IsNoLine, counted}
use Rattle.programs.specs.Reads.{commands_of}
use Rattle.thread_schedules.specs.declared.stage.Stage.{Stage}
use Rattle.thread_schedules.specs.Ends.{CannotFollow, IsThreadsFault, RunsBehind, RunsInThreads}
use Rattle.thread_schedules.specs.Inputs.{IsBack, IsBackFault, IsFront, IsFrontFault, ReadsThreads}
use Rattle.thread_schedules.specs.Stages.{core_at}

pub none_there : {T S : Type 0} (f : T → S) (o : Option T) → ((x : T) → o ≡ Some x → ⊥) → option_map f o ≡ None
none_there f None none = refl
none_there f (Some x) none = absurd (none x refl)

module _ {P : Type 0} (Creates : PoolLine → P → Type 0) (Refuses : PoolLine → Cause → Type 0) (Outcomes : P → Command → Outcome → P → Type 0) (Faults : P → Command → Type 0) (core_of : P → Option CoreState) where
  pub front_fault : (input old new : Option (List ℕ)) (cause : Refusal) → IsFrontFault Creates Refuses Outcomes Faults input old new cause → IsThreadsFault Creates Refuses Outcomes Faults core_of input old new cause
  front_fault input old new (LineFault n) stops = inl stops
  front_fault input old new Input stops = tt
  front_fault input old new Output stops = tt
  front_fault input old new Memory stops = tt

  pub no_line : (input old new : Option (List ℕ)) (cause : Refusal) → IsNoLine cause → IsThreadsFault Creates Refuses Outcomes Faults core_of input old new cause
  no_line input old new (LineFault n) none = absurd none
  no_line input old new Input none = tt
  no_line input old new Output none = tt
  no_line input old new Memory none = tt

  -- a line behind `threads`, of which k lines were read by then
  pub back_fault : (input old told : Option (List ℕ)) (stage : Stage P) (core : Option CoreState) (marked behind : Option (List ℕ)) (k : ℕ) (cause : Refusal)
      → (front : IsFront Creates Refuses Outcomes input old stage marked told) → ReadsThreads marked behind → k ≡ counted (length front.lines + 1) → core ≡ core_at core_of stage
      → IsBackFault (CannotFollow core) behind k cause → IsThreadsFault Creates Refuses Outcomes Faults core_of input old told cause
  back_fault input old told stage core marked behind k (LineFault n) front threads number same stops =
      let there = subst (λ (c : Option CoreState). IsBackFault (CannotFollow c) behind k (LineFault n)) same stops in
      inr (record {
        stage = stage;
        marked = marked;
        front = front;
        behind = behind;
        threads = threads;
        stops = record { rest = there.rest; back = there.back; number = omega (arith, number, there.number); cause = there.cause };
      })
  back_fault input old told stage core marked behind k Input front threads number same stops = tt
  back_fault input old told stage core marked behind k Output front threads number same stops = tt
  back_fault input old told stage core marked behind k Memory front threads number same stops = tt

  pub runs : (input old told new : Option (List ℕ)) (stage : Stage P) (core : Option CoreState) (marked behind end : Option (List ℕ))
      → IsFront Creates Refuses Outcomes input old stage marked told → ReadsThreads marked behind → core ≡ core_at core_of stage
      → (back : IsBack behind end) → IsAtEnd end → RunsBehind core (commands_of back.lines) told new → RunsInThreads Creates Refuses Outcomes core_of input old new
  runs input old told new stage core marked behind end front threads same back ended printed = record {
    stage = stage;
    marked = marked;
    told = told;
    front = front;
    behind = behind;
    threads = threads;
    end = end;
    back = back;
    ended = ended;
    runs = subst (λ (c : Option CoreState). RunsBehind c (commands_of back.lines) told new) same printed;
  }
