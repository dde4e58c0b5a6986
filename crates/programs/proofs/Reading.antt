-- Lines that are read one behind the other.
use Rattle.std.proofs.Common.{◌≡◌, ℕ, List, [], ◌∷◌, ◌++◌, Option, Some, None, refl, sym, ap, ◌∙◌, subst}
use Rattle.std.specs.Io.BufRead.{drop_through}
use Rattle.schedule_lines.specs.declared.command.Line.{Line}
use Rattle.schedule_lines.specs.declared.command.Line.TheVariants.{Skipped, Threads, Command as CommandLine}
use Rattle.schedule_lines.specs.declared.command.Command.{Command}
use Rattle.programs.specs.Reads.{AreLines, ReadsLines, Reads, IsSchedule, commands_of}

are_lines_more : (bytes : List ℕ) (lines more : List Line) (rest end : List ℕ) → AreLines bytes lines rest → AreLines rest more end → AreLines bytes (lines ++ more) end
are_lines_more bytes [] more rest end h k = subst (λ (b : List ℕ). AreLines b more end) (sym h) k
are_lines_more bytes (line ∷ lines) more rest end h k = (h.0, h.1, are_lines_more (drop_through 10 bytes) lines more rest end h.2 k)

pub reads_lines_more : (old between new : Option (List ℕ)) (lines more : List Line) → ReadsLines old lines between → ReadsLines between more new → ReadsLines old (lines ++ more) new
reads_lines_more None between new lines more h k = tt
reads_lines_more (Some bytes) None new lines more h k = absurd h
reads_lines_more (Some bytes) (Some rest) None lines more h k = absurd k
reads_lines_more (Some bytes) (Some rest) (Some end) lines more h k = are_lines_more bytes lines more rest end h k

pub commands_append : (lines more : List Line) → commands_of (lines ++ more) ≡ commands_of lines ++ commands_of more
commands_append [] more = refl
commands_append (Skipped ∷ lines) more = commands_append lines more
commands_append (Threads ∷ lines) more = commands_append lines more
commands_append (CommandLine command ∷ lines) more = ap (λ (commands : List Command). command ∷ commands) (commands_append lines more)

pub reads_append : (old between new : Option (List ℕ)) (commands more : List Command) → Reads old commands between → Reads between more new → Reads old (commands ++ more) new
reads_append old between new commands more h k = (h.0 ++ k.0, reads_lines_more old between new h.0 k.0 h.1 k.1, commands_append h.0 k.0 ∙ (ap (λ (c : List Command). c ++ commands_of k.0) h.2 ∙ ap (λ (c : List Command). commands ++ c) k.2))

-- a line behind what was read
pub reads_line : (old between new : Option (List ℕ)) (commands : List Command) (line : Line) → Reads old commands between → ReadsLines between (line ∷ []) new → Reads old (commands ++ commands_of (line ∷ [])) new
reads_line old between new commands line h k = reads_append old between new commands (commands_of (line ∷ [])) h (line ∷ [], k, refl)

pub schedule_behind : (old between : Option (List ℕ)) (commands more : List Command) → Reads old commands between → IsSchedule between more → IsSchedule old (commands ++ more)
schedule_behind old between commands more h k = (k.0, reads_append old between k.0 commands more h k.1, k.2)
