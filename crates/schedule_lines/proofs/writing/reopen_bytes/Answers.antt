use Rattle.std.proofs.Common.{ap, ◌∙◌, ◌++◌, ◌∷◌, List, ℕ, codes}
use Rattle.std.specs.Fmt.{decimal}
use Rattle.std.specs.List.{flat_map}
use Rattle.schedule_lines.proofs.Spelling.{with_numbers}
use Rattle.schedule_lines.proofs.writing.reopen_bytes.Goals as goal

pub returns : goal.returns
returns c =
    let front = 32 ∷ decimal c.args.reopen.now.rewind in
    let absent = c.args.reopen.now.absent in
    let numbers = flat_map (λ (n : ℕ). 32 ∷ decimal n) absent in
    let begun = c.in_ok-push_number.ensures ∙ ap (λ (l : List ℕ). l ++ front) c.in_ok-line.ensures.items in
    let seen = ap (λ (ns : List ℕ). c.push_number.new.line.items ++ flat_map (λ (n : ℕ). 32 ∷ decimal n) ns) c.as_slice.ensures in
    rw (with_numbers (codes "reopen" ++ front) absent) (c.in_ok-push_numbers.ensures ∙ seen ∙ ap (λ (l : List ℕ). l ++ numbers) begun)
