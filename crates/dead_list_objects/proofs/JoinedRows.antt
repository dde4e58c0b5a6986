-- The rows of two lists of blocks, one behind the other.
use Rattle.std.proofs.Common.{◌≡◌, ◌∙◌, List, ℕ, [], ◌∷◌, ◌++◌, ap, append_assoc, refl, sym}
use Rattle.std.specs.List.{AllByRecursion}
use Rattle.block_pointer.specs.declared.block.Block.{Block}
use Rattle.dead_list.specs.Rows.{FitsRow, SpellsRows, row, rows}

fit_both : (first second : List Block) → AllByRecursion FitsRow first → AllByRecursion FitsRow second → AllByRecursion FitsRow (first ++ second)
fit_both [] second none each = each
fit_both (block ∷ first) second fits each = (fits.0, fit_both first second fits.1 each)

rows_both : (first second : List Block) → rows (first ++ second) ≡ rows first ++ rows second
rows_both [] second = refl
rows_both (block ∷ first) second =
    ap (λ (bytes : List ℕ). row block ++ bytes) (rows_both first second) ∙ sym (append_assoc (row block) (rows first) (rows second))

pub joined_rows : (bytes more : List ℕ) (first second : List Block) → SpellsRows bytes first → SpellsRows more second → SpellsRows (bytes ++ more) (first ++ second)
joined_rows bytes more first second one two = record {
  each = fit_both first second one.each two.each;
  spelled = ap (λ (front : List ℕ). front ++ more) one.spelled ∙ ap (λ (back : List ℕ). rows first ++ back) two.spelled ∙ sym (rows_both first second);
}
