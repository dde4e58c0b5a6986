use Rattle.std.proofs.Common.{◌≡◌, List, ℕ, true, sym, ap, ◌∙◌, arith}
use Rattle.nvlist.specs.Plain.{last_name}
use Rattle.nvlist.specs.Grammar.{is_printable, is_behind}
use Rattle.nvlist.specs.View.{list_view, pairs_view, value_view}
use Rattle.nvlist.specs.Find.{with_pair}
use Rattle.nvlist.specs.declared.list.Pair.{Pair}
use Rattle.nvlist.specs.declared.list.Value.TheViews.{roll-Pair}
use Rattle.nvlist.proofs.Laws.{behind_not_empty}
use Rattle.nvlist.proofs.Views.{list_view-pairs}
use Rattle.nvlist.proofs.Finding.{pushed}
use Rattle.nvlist.proofs.list.NvList.push.Goals as goal

pub returns-clause-ok : goal.returns-clause-ok
returns-clause-ok c =
    let p : Pair = roll-Pair (record { name = c.in_ok-name.name; value = c.args.value }) in
    pushed c.args.self.now c.push.new.self p c.in_ok-push.ensures.items ∙ ap (λ (n : List ℕ). with_pair (list_view c.args.self.now) n (value_view c.args.value)) c.in_ok-name.ensures.ok

pub returns-clause-named : goal.returns-clause-named
returns-clause-named c =
    let last : c.last_name.result.now ≡ last_name (list_view c.args.self.now) = c.last_name.ensures ∙ ap (λ (ps : List Pair). last_name (pairs_view ps)) c.deref.ensures.value ∙ ap last_name (sym (list_view-pairs c.args.self.now)) in
    let printable : is_printable c.args.name.now ≡ true = ap is_printable (sym c.as_bytes.ensures.value) ∙ sym c.is_printable.ensures ∙ c.if-not-is_printable.false in
    let behind : is_behind c.args.name.now (last_name (list_view c.args.self.now)) ≡ true =
    ap (λ (n : List ℕ). is_behind n (last_name (list_view c.args.self.now))) (sym c.as_bytes-else-not-is_printable.ensures.value) ∙ ap (is_behind c.as_bytes-else-not-is_printable.result.now) (sym last) ∙ sym c.is_behind.ensures ∙ c.if-not-is_behind.false in
    record { not_empty = behind_not_empty (last_name (list_view c.args.self.now)) c.args.name.now behind; len = omega arith; printable = printable; behind = behind }
