use Rattle.std.proofs.Common.{◌≡◌, ℕ, List, ◌++◌, take, drop, sym, ap, ◌∙◌}
use Rattle.std.proofs.lemmas.List.{take_at, drop_at, take-append-drop}
use Rattle.meta_objset.specs.Directory.{row_bytes}
use Rattle.meta_objset.proofs.Rows.{row_len}
use Rattle.meta_objset.proofs.directory.first_row.Goals as goal

pub returns-in_err-row-clause-only : goal.returns-in_err-row-clause-only
returns-in_err-row-clause-only c = λ row rest fits e.
    let first : c.in-Some.first.now ≡ row_bytes row = c.in-Some.ensures.cases.0 ∙ ap (take 64) e ∙ take_at (row_bytes row) rest 64 (row_len row fits) in
    let read = c.in_err-row.ensures.only row (fits, first) in
    absurd cc

pub returns-clause-found : goal.returns-clause-found
returns-clause-found c =
    let bytes = c.args.bytes.now in
    let cases = c.in-Some.ensures.cases in
    let first : take 64 bytes ≡ row_bytes c.in_ok-row.row = sym cases.0 ∙ c.in_ok-row.ensures.found.1 in
    sym (take-append-drop 64 bytes) ∙ ap (λ (x : List ℕ). x ++ drop 64 bytes) first ∙ ap (λ (x : List ℕ). row_bytes c.in_ok-row.row ++ x) (sym cases.1)

pub returns-clause-only : goal.returns-clause-only
returns-clause-only c = λ row rest fits e.
    let first : c.in-Some.first.now ≡ row_bytes row = c.in-Some.ensures.cases.0 ∙ ap (take 64) e ∙ take_at (row_bytes row) rest 64 (row_len row fits) in
    let read = c.in_ok-row.ensures.only row (fits, first) in
    let behind : c.in-Some.rest.now ≡ rest = c.in-Some.ensures.cases.1 ∙ ap (drop 64) e ∙ drop_at (row_bytes row) rest 64 (row_len row fits) in
    (cc, behind)
