use Rattle.std.proofs.lemmas.List.Sorted.{IsPermutation-sym, IsPermutation-trans}
use Rattle.dead_list_objects.proofs.reading.list_of.Goals as goal

pub returns-in-Ok-clause-only : goal.returns-in-Ok-clause-only
returns-in-Ok-clause-only c = λ list spelled.
    IsPermutation-trans _ _ _ (IsPermutation-sym _ _ spelled.1) (c.in-Ok.ensures.only spelled.0 spelled.2)
