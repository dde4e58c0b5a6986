use Rattle.std.proofs.Common.{length}
use Rattle.schedule_lines.proofs.Numbers.{AreFront}
use Rattle.schedule_lines.proofs.reading.numbers.Given as goal

abbrev pub invariant-loop-numbers : goal.invariant-loop-numbers
invariant-loop-numbers l = AreFront l.fn.words l.numbers.items l.words

abbrev pub decreases-loop-numbers : goal.decreases-loop-numbers
decreases-loop-numbers l = length l.words
