use Rattle.std.proofs.Common.{◌≡◌, ℕ, ◌+◌, ◌-◌, List, inl, inr, ⊎_elim, sym, ap, subst, ◌∙◌, arith}
use Rattle.std.proofs.lemmas.Result.{IfOk-weaker, IfErr-weaker}
use Rattle.block_store.proofs.Steps.{reads_on}
use Rattle.block_store.proofs.Causes.{caused_behind_reads}
use Rattle.dnode_tree.proofs.FurtherReads.{told_before, told_after}
use Rattle.dnode_tree.proofs.Refusing.{ok_both, passed_on}
use Rattle.object_table.specs.Ends.{AreEndsOfSome}
use Rattle.object_table.proofs.EndsRead.{ends_at, end_is, ends_read, ends_refused}
use Rattle.object_table.proofs.SoundTables.{whole_blocks}
use Rattle.object_table.proofs.Tables.{ok_for_all, table_of}
use Rattle.object_table.proofs.Causes.{judged_is_caused}
use Rattle.object_table.proofs.ends.read_end.Goals as goal

pub returns-in_err-first-clause-reads : goal.returns-in_err-first-clause-reads
returns-in_err-first-clause-reads g c = reads_on _ _ _ _ c.in_ok-count.ensures.reads c.in_err-first.ensures.reads

pub returns-in_err-first-clause-refused : goal.returns-in_err-first-clause-refused
returns-in_err-first-clause-refused g c =
    let object = c.in_ok-count.ensures.found in
    let at : c.in_ok-count.count - 1 ≡ object.0 = omega (arith, object.1) in
    passed_on _ _ _ c.from_residual-in_err-first.ensures.1
    (⊎_elim (λ memory. inl memory) (λ block. inr (inr (inr (ends_refused _ _ _ _ _ _ _ _ _ _ _ object.2 c.in_ok-count.ensures.reads at block)))) c.in_err-first.ensures.refused)

pub returns-in_err-first-clause-known : goal.returns-in_err-first-clause-known
returns-in_err-first-clause-known g c =
    let first = c.in_ok-count.ensures.reads in
    let rest = c.in_err-first.ensures.reads in
    passed_on _ _ _ c.from_residual-in_err-first.ensures.1
    (λ stored objects own blocks held are tell.
    let object = c.in_ok-count.ensures.value stored objects own blocks held are (told_before _ _ _ _ first rest tell) in
    ⊎_elim (λ loss. inl loss)
    (λ bad. inr (
      bad.0,
      λ rows has.
          let table = (table_of _ _ object.0 rows object.1 has).1 in
          ⊎_elim (λ hole. table.no_hole 0 (omega arith) hole) (λ hole. table.no_hole (c.in_ok-count.count - 1) (omega (arith, object.4)) hole) bad.1,
    ))
    (c.in_err-first.ensures.known stored objects own blocks (first.keeps stored held) are (told_after _ _ _ _ first rest tell) object.0 object.1))

pub returns-clause-reads : goal.returns-clause-reads
returns-clause-reads g c = reads_on _ _ _ _ c.in_ok-count.ensures.reads c.in_ok-first.ensures.reads

pub returns-clause-value : goal.returns-clause-value
returns-clause-value g c =
    let first = c.in_ok-count.ensures.reads in
    let rest = c.in_ok-first.ensures.reads in
    let only = ok_for_all c.end_of.result (λ (count : ℕ). AreEndsOfSome c.args.kind.rows (c.in_ok-count.count - 1) count c.in_ok-first.first.items c.in_ok-first.last.items)
    (λ end count. end.rows ≡ count) c.end_of.ensures.only in
    IfOk-weaker c.end_of.result _ _
    (λ end both stored objects own blocks held are tell rows has.
    let object = c.in_ok-count.ensures.value stored objects own blocks held are (told_before _ _ _ _ first rest tell) in
    let ends = c.in_ok-first.ensures.value stored objects own blocks (first.keeps stored held) are (told_after _ _ _ _ first rest tell) object.0 object.1 in
    let whole = whole_blocks c.args.store.now stored c.args.birth c.args.set.now objects own blocks c.args.number object.0 held are object.1 object.2.1 in
    end_is c.args.kind (objects c.args.number) rows object.0 end c.in_ok-first.first.items c.in_ok-first.last.items (c.in_ok-count.count - 1) has object.1 whole (omega (arith, object.4))
    ends.0 ends.1 both.0.0 both.0.1 both.1)
    (ok_both c.end_of.result _ _ c.end_of.ensures.kept only)

pub returns-clause-refused : goal.returns-clause-refused
returns-clause-refused g c =
    let object = c.in_ok-count.ensures.found in
    let at : c.in_ok-count.count - 1 ≡ object.0 = omega (arith, object.1) in
    let ends = c.in_ok-first.ensures.found in
    IfErr-weaker c.end_of.result _ _
    (λ refusal bad. inr (inr (inl (
      bad.0,
      inr (record {
        highest = object.0;
        first = c.in_ok-first.first.items;
        last = c.in_ok-first.last.items;
        read = ends_read _ _ _ _ _ _ _ _ _ _ _ object.2 c.in_ok-count.ensures.reads at ends.0 ends.1;
        none = λ count some.
            bad.1 count (subst (λ n. AreEndsOfSome c.args.kind.rows n count c.in_ok-first.first.items c.in_ok-first.last.items) (sym at) some);
      }),
    ))))
    c.end_of.ensures.refused

pub returns-clause-known : goal.returns-clause-known
returns-clause-known g c =
    let first = c.in_ok-count.ensures.reads in
    let rest = c.in_ok-first.ensures.reads in
    IfErr-weaker c.end_of.result _ _
    (λ refusal bad stored objects own blocks held are tell. inr (
      bad.0,
      λ rows has.
          let object = c.in_ok-count.ensures.value stored objects own blocks held are (told_before _ _ _ _ first rest tell) in
          let ends = c.in_ok-first.ensures.value stored objects own blocks (first.keeps stored held) are (told_after _ _ _ _ first rest tell) object.0 object.1 in
          let whole = whole_blocks c.args.store.now stored c.args.birth c.args.set.now objects own blocks c.args.number object.0 held are object.1 object.2.1 in
          bad.1 has.table.spelled.count
          (ends_at c.args.kind (objects c.args.number) rows object.0 c.in_ok-first.first.items c.in_ok-first.last.items (c.in_ok-count.count - 1) has object.1 whole
          (omega (arith, object.4)) ends.0 ends.1),
    ))
    c.end_of.ensures.refused

pub returns-in_err-first-clause-caused : goal.returns-in_err-first-clause-caused
returns-in_err-first-clause-caused g c =
    passed_on _ _ _ c.from_residual-in_err-first.ensures.1 (caused_behind_reads _ _ _ _ _ c.in_ok-count.ensures.reads c.in_err-first.ensures.caused)

pub returns-clause-caused : goal.returns-clause-caused
returns-clause-caused g c = IfErr-weaker c.end_of.result _ _ (λ refusal why. judged_is_caused _ _ _ _ refusal (inr why)) c.end_of.ensures.refused
