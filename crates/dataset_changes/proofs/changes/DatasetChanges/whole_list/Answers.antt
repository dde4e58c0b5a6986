use Rattle.std.proofs.Common.{◌≡◌, List, Option, Some, IfSome, ap, sym, subst, ◌∙◌}
use Rattle.std.proofs.lemmas.Result.{IfOk-weaker, IfErr-weaker}
use Rattle.dnode_tree.proofs.Refusing.{caused_by_memory, ok_both, passed_on}
use Rattle.block_pointer.specs.declared.block.Block.{Block}
use Rattle.object_table.specs.declared.ends.TableEnd.{TableEnd}
use Rattle.dataset_changes.specs.Fitting.{FitsListState}
use Rattle.dataset_changes.specs.Over.{IsListNow, IsListOver}
use Rattle.dataset_changes.specs.declared.states.ListState.{ListState}
use Rattle.dataset_changes.specs.declared.states.ListState.TheVariants.{Added}
use Rattle.dataset_changes.proofs.Joining.{fit_joined, list_of_end, whole_with_added}
use Rattle.dataset_changes.proofs.changes.DatasetChanges.whole_list.Goals as goal

pub returns-in-None-clause-value : goal.returns-in-None-clause-value
returns-in-None-clause-value g c =
    IfOk-weaker c.read_list.result _ _
    (λ found h stored objects own blocks held are tell over.
    let object = objects c.args.number in (
      subst (λ (state : Option ListState). IsListNow object state found) (sym c.in-None.is) (h.0 stored objects own blocks held are tell),
      λ list now. h.1 stored objects own blocks held are tell list (subst (λ (state : Option ListState). IsListNow object state list) c.in-None.is now),
    ))
    (ok_both c.read_list.result _ _ c.read_list.ensures.value c.read_list.ensures.one)

pub returns-in-None-clause-known : goal.returns-in-None-clause-known
returns-in-None-clause-known g c =
    IfErr-weaker c.read_list.result _ _
    (λ refusal known stored objects own blocks held are tell list now.
    known stored objects own blocks held are tell list (subst (λ (state : Option ListState). IsListNow (objects c.args.number) state list) c.in-None.is now))
    c.read_list.ensures.known

-- what became of the list: blocks are added
abbrev WasAdded : Option ListState → TableEnd → List Block → Type 0
WasAdded state end blocks = state ≡ Some (Added end blocks)

pub returns-in_err-list-in-Some-Added-clause-known : goal.returns-in_err-list-in-Some-Added-clause-known
returns-in_err-list-in-Some-Added-clause-known g c =
    let was : WasAdded c.args.state c.in-Some-Added.field-0-0 c.in-Some-Added.added = c.in-Some-Added.is ∙ ap (λ (s : ListState). Some s) c.in-Some-Added.field-0-is in
    passed_on _ _ _ c.from_residual.ensures.1
    (λ stored objects own blocks held are tell list now.
    let old = list_of_end (objects c.args.number) list c.in-Some-Added.added c.in-Some-Added.field-0-0 (subst (λ (state : Option ListState). IsListNow (objects c.args.number) state list) was now) in
    c.in_err-list-in-Some-Added.ensures.known stored objects own blocks held are tell old.0 old.1)

pub returns-in-Some-Added-clause-fits : goal.returns-in-Some-Added-clause-fits
returns-in-Some-Added-clause-fits g c =
    let was : WasAdded c.args.state c.in-Some-Added.field-0-0 c.in-Some-Added.added = c.in-Some-Added.is ∙ ap (λ (s : ListState). Some s) c.in-Some-Added.field-0-is in
    let fits = subst (λ (state : Option ListState). IfSome state FitsListState) was c.requires in
    IfOk-weaker c.joined.result _ _
    (λ found joined. fit_joined c.in_ok-list-in-Some-Added.list c.in-Some-Added.added found c.in_ok-list-in-Some-Added.ensures.fits fits joined)
    c.joined.ensures.value

pub returns-in-Some-Added-clause-value : goal.returns-in-Some-Added-clause-value
returns-in-Some-Added-clause-value g c =
    let was : WasAdded c.args.state c.in-Some-Added.field-0-0 c.in-Some-Added.added = c.in-Some-Added.is ∙ ap (λ (s : ListState). Some s) c.in-Some-Added.field-0-is in
    IfOk-weaker c.joined.result _ _
    (λ found joined stored objects own blocks held are tell over.
    let object = objects c.args.number in
    let whole = whole_with_added object c.in-Some-Added.field-0-0 c.in-Some-Added.added c.in_ok-list-in-Some-Added.list found (subst (λ (state : Option ListState). IsListOver object state) was over)
    (c.in_ok-list-in-Some-Added.ensures.one stored objects own blocks held are tell) joined in (
      subst (λ (state : Option ListState). IsListNow object state found) (sym was) whole.0,
      λ list now. whole.1 list (subst (λ (state : Option ListState). IsListNow object state list) was now),
    ))
    c.joined.ensures.value

pub returns-in_err-list-in-Some-Added-clause-caused : goal.returns-in_err-list-in-Some-Added-clause-caused
returns-in_err-list-in-Some-Added-clause-caused g c = passed_on _ _ _ c.from_residual.ensures.1 c.in_err-list-in-Some-Added.ensures.caused

pub returns-in-Some-Added-clause-caused : goal.returns-in-Some-Added-clause-caused
returns-in-Some-Added-clause-caused g c = IfErr-weaker c.joined.result _ _ (λ refusal. caused_by_memory _ _ _ refusal) c.joined.ensures.refused
