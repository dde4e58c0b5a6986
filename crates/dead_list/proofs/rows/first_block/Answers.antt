use Rattle.std.proofs.Common.{◌≡◌, ℕ, List, ◌++◌, take, drop, sym, ap, ◌∙◌}
use Rattle.std.proofs.lemmas.List.{take_at, drop_at, take-append-drop}
use Rattle.block_pointer.specs.declared.pointer.BlockPtr.TheVariants as pointers
use Rattle.block_pointer.specs.Pointer.{spelling}
use Rattle.dead_list.specs.Rows.{row}
use Rattle.dead_list.proofs.rows.first_block.Goals as goal
use Rattle.dead_list.proofs.rows.first_block.Goals.{in_default-decode-via-in-Ok+in_default, in_default-decode-via-in_default}

pub returns-in_default-decode-clause-only : goal.returns-in_default-decode-clause-only
returns-in_default-decode-clause-only c = λ block rest fits e.
    let first : c.in-Some.first.now ≡ row block = c.in-Some.ensures.cases.0 ∙ ap (take 128) e ∙ take_at (row block) rest 128 fits.1 in
    let read = c.decode.ensures.only (pointers.Block block) (fits.0, first) in
    elim c.in_default-decode.branch [
      | in_default-decode-via-in-Ok+in_default w ↦ let same = w.in_default-decode.ensures.only (pointers.Block block) (fits.0, first) in let is = w.in_default-decode.is in absurd (cc (same, is))
      | in_default-decode-via-in_default w ↦ let is = w.in_default-decode.is in absurd (cc (read, is))
    ]

pub returns-clause-found : goal.returns-clause-found
returns-clause-found c =
    let bytes = c.args.bytes.now in
    let cases = c.in-Some.ensures.cases in
    let first : take 128 bytes ≡ row c.in-Ok-Block.block = sym cases.0 ∙ c.in-Ok-Block.ensures.found.1 ∙ ap spelling c.in-Ok-Block.field-0-is in
    sym (take-append-drop 128 bytes) ∙ ap (λ (x : List ℕ). x ++ drop 128 bytes) first ∙ ap (λ (x : List ℕ). row c.in-Ok-Block.block ++ x) (sym cases.1)

pub returns-clause-only : goal.returns-clause-only
returns-clause-only c = λ block rest fits e.
    let first : c.in-Some.first.now ≡ row block = c.in-Some.ensures.cases.0 ∙ ap (take 128) e ∙ take_at (row block) rest 128 fits.1 in
    let read = c.in-Ok-Block.ensures.only (pointers.Block block) (fits.0, first) in
    let behind : c.in-Some.rest.now ≡ rest = c.in-Some.ensures.cases.1 ∙ ap (drop 128) e ∙ drop_at (row block) rest 128 fits.1 in
    let is = c.in-Ok-Block.field-0-is in
    (cc (read, is), behind)
