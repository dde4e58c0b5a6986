use denote.Text.{Utf8}
use denote.Shadow.{shadow}
use Rattle.tests_objects.proofs.lines.Call.parse.Given as goal

-- the kind so far is text
abbrev pub invariant-loop-word : goal.invariant-loop-word
invariant-loop-word l = shadow (Utf8 l.kind)
