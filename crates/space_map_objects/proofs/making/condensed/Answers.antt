use Rattle.std.proofs.Common.{arith, length, ap, map}
use Rattle.words.proofs.WordLemmas.{length-word_bytes}
use Rattle.space_map.specs.Entry.{entry_word}
use Rattle.space_map_objects.proofs.making.condensed.Goals as goal

pub returns-clause-rows : goal.returns-clause-rows
returns-clause-rows g =
    let spelled = g.in_ok-rows.ensures.spelled.1 in
    omega (arith, ap length spelled, length-word_bytes (map entry_word g.in_ok-rows.ensures.entries))
