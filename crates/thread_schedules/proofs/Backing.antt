-- The lines behind `threads`, so far.
use Rattle.std.proofs.Common.{◌≡◌, ◌≢◌, ◌⊎◌, ℕ, ◌+◌, List, [], ◌∷◌, ◌++◌, length, Option, inl, inr, refl, sym, ap, ◌∙◌, subst, length-append, arith}
use Rattle.std.proofs.lemmas.List.{append-nil}
use Rattle.schedule_lines.specs.declared.command.Command.{Command}
use Rattle.schedule_lines.specs.declared.command.Line.{Line}
use Rattle.schedule_lines.specs.declared.command.Line.TheVariants.{Skipped, Threads, Command as CommandLine}
use Rattle.programs.specs.declared.refusal.Refusal.{Refusal}
use Rattle.programs.specs.declared.refusal.Refusal.TheVariants.{Line as LineFault, Input, Output, Memory}
use Rattle.programs.specs.Faults.{IsNextFault, counted}
use Rattle.programs.specs.Reads.{ReadsLines, commands_of}
use Rattle.thread_schedules.specs.Inputs.{IsBack, IsBackFault, ReadsThreads}
use Rattle.thread_schedules.proofs.Reading.{all_more, command_is_plain, commands_append, commands_same, none_read, read_more, skipped_is_plain}

-- Lines were read, of which k were before. Their commands are these.
pub record BackSoFar (input : Option (List ℕ)) (k : ℕ) (rest : Option (List ℕ)) (count : ℕ) (commands : List Command) : Type 0 where
  pub back : IsBack input rest
  pub number : counted count ≡ counted (k + length back.lines)
  pub are : commands_of back.lines ≡ commands

pub back_none : (input : Option (List ℕ)) (k : ℕ) → BackSoFar input k input k []
back_none input k = record { back = record { lines = []; read = none_read input; plain = tt }; number = omega arith; are = refl }

pub back_skipped : (input : Option (List ℕ)) (k : ℕ) (rest next : Option (List ℕ)) (count after : ℕ) (commands : List Command) → BackSoFar input k rest count commands
    → ReadsLines rest (Skipped ∷ []) next → after ≡ counted (count + 1) → BackSoFar input k next after commands
back_skipped input k rest next count after commands so_far read number =
    let back = so_far.back in
    record {
      back = record {
        lines = back.lines ++ Skipped ∷ [];
        read = read_more input rest next back.lines (Skipped ∷ []) back.read read;
        plain = all_more (λ (line : Line). line ≢ Threads) back.lines Skipped back.plain skipped_is_plain;
      };
      number = omega (arith, number, so_far.number, length-append back.lines (Skipped ∷ []));
      are = commands_same back.lines ∙ so_far.are;
    }

pub back_more : (input : Option (List ℕ)) (k : ℕ) (rest next : Option (List ℕ)) (count after : ℕ) (commands : List Command) (command : Command) → BackSoFar input k rest count commands
    → ReadsLines rest (CommandLine command ∷ []) next → after ≡ counted (count + 1) → BackSoFar input k next after (commands ++ command ∷ [])
back_more input k rest next count after commands command so_far read number =
    let back = so_far.back in
    record {
      back = record {
        lines = back.lines ++ CommandLine command ∷ [];
        read = read_more input rest next back.lines (CommandLine command ∷ []) back.read read;
        plain = all_more (λ (line : Line). line ≢ Threads) back.lines (CommandLine command) back.plain (command_is_plain command);
      };
      number = omega (arith, number, so_far.number, length-append back.lines (CommandLine command ∷ []));
      are = commands_append back.lines (CommandLine command ∷ []) ∙ ap (λ (c : List Command). c ++ command ∷ []) so_far.are;
    }

module _ (CannotFollow : List Command → Command → Type 0) where
  pub back_fault : (input : Option (List ℕ)) (k : ℕ) (rest : Option (List ℕ)) (count : ℕ) (commands : List Command) (cause : Refusal) → BackSoFar input k rest count commands
      → IsNextFault rest count cause → IsBackFault CannotFollow input k cause
  back_fault input k rest count commands (LineFault n) so_far fault =
      record { rest = rest; back = so_far.back; number = omega (arith, so_far.number, fault.1); cause = inr (inl fault.0) }
  back_fault input k rest count commands Input so_far fault = tt
  back_fault input k rest count commands Output so_far fault = tt
  back_fault input k rest count commands Memory so_far fault = tt

  pub back_threads : (input : Option (List ℕ)) (k : ℕ) (rest next : Option (List ℕ)) (count after : ℕ) (commands : List Command) → BackSoFar input k rest count commands
      → ReadsThreads rest next → after ≡ counted (count + 1) → IsBackFault CannotFollow input k (LineFault after)
  back_threads input k rest next count after commands so_far read number =
      record { rest = rest; back = so_far.back; number = omega (arith, number, so_far.number); cause = inl (next, read) }

  pub back_misplaced : (input : Option (List ℕ)) (k : ℕ) (rest next : Option (List ℕ)) (count after : ℕ) (commands : List Command) (command : Command) → BackSoFar input k rest count commands
      → ReadsLines rest (CommandLine command ∷ []) next → after ≡ counted (count + 1) → CannotFollow commands command → IsBackFault CannotFollow input k (LineFault after)
  back_misplaced input k rest next count after commands command so_far read number wrong = record {
    rest = rest;
    back = so_far.back;
    number = omega (arith, number, so_far.number);
    cause = inr (inr (command, (next, read), subst (λ (c : List Command). CannotFollow c command) (sym so_far.are) wrong));
  }
