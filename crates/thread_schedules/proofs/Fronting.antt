-- The lines before `threads`, so far.
use Rattle.std.proofs.Common.{◌≡◌, ◌≢◌, ◌⊎◌, ℕ, ◌+◌, List, [], ◌∷◌, ◌++◌, length, Option, inl, inr, refl, sym, ap, ◌∙◌, subst, append_assoc, length-append, arith}
use Rattle.std.proofs.lemmas.List.{append-nil}
use Rattle.std.specs.Io.KnownBytes.{Appends, IsAtEnd}
use Rattle.pool_model.specs.declared.refusal.Refusal.{Refusal as Cause}
use Rattle.schedule_lines.specs.declared.command.Command.{Command}
use Rattle.schedule_lines.specs.declared.command.Line.{Line}
use Rattle.schedule_lines.specs.declared.command.Line.TheVariants.{Skipped, Threads, Command as CommandLine}
use Rattle.schedule_lines.specs.declared.command.PoolLine.{PoolLine}
use Rattle.programs.specs.declared.outcome.Outcome.{Outcome}
use Rattle.programs.specs.declared.refusal.Refusal.{Refusal}
use Rattle.programs.specs.declared.refusal.Refusal.TheVariants.{Line as LineFault, Input, Output, Memory}
use Rattle.programs.specs.Faults.{IsNextFault, IsNoLine, counted}
use Rattle.programs.specs.Reads.{ReadsLines, commands_of}
use Rattle.thread_schedules.specs.declared.stage.Stage.{Stage}
use Rattle.thread_schedules.specs.declared.stage.Stage.TheVariants.{Unmade}
use Rattle.thread_schedules.specs.Inputs.{IsFront, IsFrontFault}
use Rattle.thread_schedules.specs.Stages.{Comes, Misplaced, Recounts, recounted}
use Rattle.thread_schedules.proofs.Reading.{all_more, appends_more, command_is_plain, commands_append, commands_same, none_read, nothing_appended, read_more, skipped_is_plain}

module _ {P : Type 0} (Creates : PoolLine → P → Type 0) (Refuses : PoolLine → Cause → Type 0) (Outcomes : P → Command → Outcome → P → Type 0) where
  -- one command more
  recounts_more : (old between new : Stage P) (commands : List Command) (text said : List ℕ) (command : Command)
      → Recounts Creates Refuses Outcomes old commands text between → Comes Creates Refuses Outcomes between command said new
      → Recounts Creates Refuses Outcomes old (commands ++ command ∷ []) (text ++ recounted command said) new
  recounts_more old between new [] text said command told came = (
    new,
    said,
    [],
    subst (λ (s : Stage P). Comes Creates Refuses Outcomes s command said new) (sym told.0) came,
    (refl, refl),
    ap (λ (t : List ℕ). t ++ recounted command said) told.1 ∙ sym (append-nil (recounted command said)),
  )
  recounts_more old between new (c ∷ commands) text said command told came = (
    told.0,
    told.1,
    told.2 ++ recounted command said,
    told.3,
    recounts_more told.0 between new commands told.2 said command told.4 came,
    ap (λ (t : List ℕ). t ++ recounted command said) told.5 ∙ append_assoc (recounted c told.1) told.2 (recounted command said),
  )

  -- the lines that were read, and how many they are
  pub record FrontSoFar (input old : Option (List ℕ)) (stage : Stage P) (rest new : Option (List ℕ)) (count : ℕ) : Type 0 where
    pub front : IsFront Creates Refuses Outcomes input old stage rest new
    pub number : count ≡ counted (length front.lines)

  pub front_none : (input old : Option (List ℕ)) (count : ℕ) → count ≡ 0 → FrontSoFar input old Unmade input old count
  front_none input old count none = record {
    front = record { lines = []; read = none_read input; plain = tt; text = []; recounts = (refl, refl); told = nothing_appended old };
    number = omega (arith, none);
  }

  -- a line more that is skipped
  pub front_skipped : (input old : Option (List ℕ)) (stage : Stage P) (rest next new : Option (List ℕ)) (count after : ℕ) → FrontSoFar input old stage rest new count
      → ReadsLines rest (Skipped ∷ []) next → after ≡ counted (count + 1) → FrontSoFar input old stage next new after
  front_skipped input old stage rest next new count after so_far read number =
      let front = so_far.front in
      record {
        front = record {
          lines = front.lines ++ Skipped ∷ [];
          read = read_more input rest next front.lines (Skipped ∷ []) front.read read;
          plain = all_more (λ (line : Line). line ≢ Threads) front.lines Skipped front.plain skipped_is_plain;
          text = front.text;
          recounts = subst (λ (c : List Command). Recounts Creates Refuses Outcomes Unmade c front.text stage) (sym (commands_same front.lines)) front.recounts;
          told = front.told;
        };
        number = omega (arith, number, so_far.number, length-append front.lines (Skipped ∷ []));
      }

  -- a command more
  pub front_more : (input old : Option (List ℕ)) (stage later : Stage P) (rest next between new : Option (List ℕ)) (count after : ℕ) (command : Command) (said : List ℕ)
      → FrontSoFar input old stage rest between count → ReadsLines rest (CommandLine command ∷ []) next → after ≡ counted (count + 1)
      → Comes Creates Refuses Outcomes stage command said later → Appends between new (recounted command said) → FrontSoFar input old later next new after
  front_more input old stage later rest next between new count after command said so_far read number came told =
      let front = so_far.front in
      record {
        front = record {
          lines = front.lines ++ CommandLine command ∷ [];
          read = read_more input rest next front.lines (CommandLine command ∷ []) front.read read;
          plain = all_more (λ (line : Line). line ≢ Threads) front.lines (CommandLine command) front.plain (command_is_plain command);
          text = front.text ++ recounted command said;
          recounts = subst (λ (c : List Command). Recounts Creates Refuses Outcomes Unmade c (front.text ++ recounted command said) later)
              (sym (commands_append front.lines (CommandLine command ∷ [])))
              (recounts_more Unmade stage later (commands_of front.lines) front.text said command front.recounts came);
          told = appends_more old between new front.text (recounted command said) front.told told;
        };
        number = omega (arith, number, so_far.number, length-append front.lines (CommandLine command ∷ []));
      }

  module _ (Faults : P → Command → Type 0) where
    -- the end, where `threads` is wanting
    pub front_ends : (input old : Option (List ℕ)) (stage : Stage P) (rest new : Option (List ℕ)) (count : ℕ) → FrontSoFar input old stage rest new count → IsAtEnd rest
        → IsFrontFault Creates Refuses Outcomes Faults input old new (LineFault (counted (count + 1)))
    front_ends input old stage rest new count so_far end =
        record { stage = stage; rest = rest; front = so_far.front; number = omega (arith, so_far.number); cause = inl end }

    -- the next line, or what is about no line
    pub front_fault : (input old : Option (List ℕ)) (stage : Stage P) (rest new : Option (List ℕ)) (count : ℕ) (cause : Refusal) → FrontSoFar input old stage rest new count
        → IsNextFault rest count cause → IsFrontFault Creates Refuses Outcomes Faults input old new cause
    front_fault input old stage rest new count (LineFault n) so_far fault =
        record { stage = stage; rest = rest; front = so_far.front; number = omega (arith, so_far.number, fault.1); cause = inr (inl fault.0) }
    front_fault input old stage rest new count Input so_far fault = tt
    front_fault input old stage rest new count Output so_far fault = tt
    front_fault input old stage rest new count Memory so_far fault = tt

    pub front_no_line : (input old new : Option (List ℕ)) (cause : Refusal) → IsNoLine cause → IsFrontFault Creates Refuses Outcomes Faults input old new cause
    front_no_line input old new (LineFault n) none = absurd none
    front_no_line input old new Input none = tt
    front_no_line input old new Output none = tt
    front_no_line input old new Memory none = tt

    -- a command that can't stand there
    pub front_misplaced : (input old : Option (List ℕ)) (stage : Stage P) (rest next new : Option (List ℕ)) (count after : ℕ) (command : Command) → FrontSoFar input old stage rest new count
        → ReadsLines rest (CommandLine command ∷ []) next → after ≡ counted (count + 1) → Misplaced Faults stage command
        → IsFrontFault Creates Refuses Outcomes Faults input old new (LineFault after)
    front_misplaced input old stage rest next new count after command so_far read number wrong =
        record { stage = stage; rest = rest; front = so_far.front; number = omega (arith, number, so_far.number); cause = inr (inr (command, (next, read), wrong)) }
