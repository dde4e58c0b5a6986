use Rattle.std.proofs.Common.{◌≡◌, Some, inl, inr, ⊎_elim, refl, sym, ap, ◌∙◌}
use Rattle.block_store.proofs.Steps.{reads_none, reads_on}
use Rattle.block_store.proofs.Causes.{caused_behind_reads}
use Rattle.dnode_tree.proofs.FurtherReads.{told_before, told_after}
use Rattle.dnode_tree.proofs.Refusing.{passed_on}
use Rattle.object_table.proofs.ends.read_ends.Goals as goal

pub returns-in_err-first-clause-refused : goal.returns-in_err-first-clause-refused
returns-in_err-first-clause-refused g c =
    passed_on _ _ _ c.from_residual.ensures.1
    (inr (record {
      id = 0;
      which = inl refl;
      mid = c.args.store.now;
      before = reads_none c.args.store.now c.args.missing.now;
      why = c.in_err-first.ensures.refused;
    }))

pub returns-in_err-first-clause-known : goal.returns-in_err-first-clause-known
returns-in_err-first-clause-known g c =
    passed_on _ _ _ c.from_residual.ensures.1
    (λ stored objects own blocks held are tell there is.
    ⊎_elim (λ loss. inl loss) (λ bad. inr (bad.0, inl bad.1)) (c.in_err-first.ensures.known stored objects own blocks held are tell there is))

pub returns-then-highest-eq0-clause-value : goal.returns-then-highest-eq0-clause-value
returns-then-highest-eq0-clause-value g c = λ stored objects own blocks held are tell there is.
    let first = c.in_ok-first.ensures.value stored objects own blocks held are tell there is in
    let same : c.in_ok-last.last.items ≡ c.in_ok-first.first.items = c.in_ok-last.ensures.items ∙ c.deref.ensures.value in
    (first, ap there.array c.if-highest-eq0.true ∙ first ∙ ap Some (sym same))

pub returns-in_err-last-2-clause-reads : goal.returns-in_err-last-2-clause-reads
returns-in_err-last-2-clause-reads g c = reads_on _ _ _ _ c.in_ok-first.ensures.reads c.in_err-last-2.ensures.reads

pub returns-in_err-last-2-clause-known : goal.returns-in_err-last-2-clause-known
returns-in_err-last-2-clause-known g c =
    let first = c.in_ok-first.ensures.reads in
    let rest = c.in_err-last-2.ensures.reads in
    passed_on _ _ _ c.from_residual-in_err-last-2.ensures.1
    (λ stored objects own blocks held are tell there is.
    ⊎_elim (λ loss. inl loss) (λ bad. inr (bad.0, inr bad.1))
    (c.in_err-last-2.ensures.known stored objects own blocks (first.keeps stored held) are (told_after _ _ _ _ first rest tell) there is))

pub returns-clause-reads : goal.returns-clause-reads
returns-clause-reads g c = reads_on _ _ _ _ c.in_ok-first.ensures.reads c.in_ok-last-2.ensures.reads

pub returns-clause-value : goal.returns-clause-value
returns-clause-value g c =
    let first = c.in_ok-first.ensures.reads in
    let rest = c.in_ok-last-2.ensures.reads in
    λ stored objects own blocks held are tell there is. (
      c.in_ok-first.ensures.value stored objects own blocks held are (told_before _ _ _ _ first rest tell) there is,
      c.in_ok-last-2.ensures.value stored objects own blocks (first.keeps stored held) are (told_after _ _ _ _ first rest tell) there is,
    )

pub returns-in_err-last-2-clause-caused : goal.returns-in_err-last-2-clause-caused
returns-in_err-last-2-clause-caused g c =
    passed_on _ _ _ c.from_residual-in_err-last-2.ensures.1 (caused_behind_reads _ _ _ _ _ c.in_ok-first.ensures.reads c.in_err-last-2.ensures.caused)
