use Rattle.std.proofs.Common.{◌≡◌, List, ℕ, sym, ap, ◌∙◌, arith}
use Rattle.std.proofs.lemmas.Result.{err_from_is_err_and}
use Rattle.nvlist.specs.Plain.{PlainList}
use Rattle.nvlist.specs.View.{list_view}
use Rattle.nvlist.proofs.Fields.{some_is}
use Rattle.nvlist.proofs.Fronts.{front_found, front_read, front_len, only_memory}
use Rattle.nvlist.proofs.reading.decode.Goals as goal

pub returns-in_err-list-clause-only : goal.returns-in_err-list-clause-only
returns-in_err-list-clause-only c = λ l rest fits e.
    let p = err_from_is_err_and c.from_residual.result c.from_residual.ensures.1 in
    let refusal = only_memory c.in_err-list.field-0.0 c.args.bytes.now (l, rest) (front_read c.args.bytes.now l rest fits e) c.in_err-list.ensures in
    rw (p.1, p.2) refusal

pub overflow_sub-result : goal.overflow_sub-result
overflow_sub-result c = (front_found c.args.bytes.now (list_view c.in_ok-list.list) c.in_ok-list.rest.now (λ i. omega (arith, c.type_inv.bytes i)) c.in_ok-list.ensures).shorter

pub returns-clause-found : goal.returns-clause-found
returns-clause-found c = (front_found c.args.bytes.now (list_view c.in_ok-list.list) c.in_ok-list.rest.now (λ i. omega (arith, c.type_inv.bytes i)) c.in_ok-list.ensures).spelled

pub returns-clause-only : goal.returns-clause-only
returns-clause-only c = λ l rest fits e.
    let read = front_read c.args.bytes.now l rest fits e in
    let same = some_is (list_view c.in_ok-list.list, c.in_ok-list.rest.now) (l, rest) (sym c.in_ok-list.ensures ∙ read) in
    let after : c.in_ok-list.rest.now ≡ rest = ap (λ (x : PlainList × List ℕ). x.1) same in
    (ap (λ (x : PlainList × List ℕ). x.0) same, rw after (front_len c.args.bytes.now l rest e))
