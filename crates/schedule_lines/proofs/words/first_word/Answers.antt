use Rattle.std.proofs.Common.{◌∙◌, ap, sym, ◌+◌, List, ℕ, ◌∷◌, take}
use Rattle.std.specs.List.{slice_split}
use Rattle.std.proofs.lemmas.List.{take_rest}
use Rattle.schedule_lines.proofs.Splitting.{is_space, split_at_space, split_at_none}
use Rattle.schedule_lines.proofs.words.first_word.Goals as goal

pub returns-in-Some : goal.returns-in-Some
returns-in-Some c =
    let bytes = c.args.bytes.now in
    let end = c.in-Some.end in
    split_at_space bytes end (sym c.first_space.ensures ∙ c.in-Some.is)
    ∙ ap (λ (rest : List ℕ). take end bytes ∷ slice_split is_space rest) (sym (take_rest bytes (end + 1)))

pub returns-in-None : goal.returns-in-None
returns-in-None c = split_at_none c.args.bytes.now (sym c.first_space.ensures ∙ c.in-None.is)
