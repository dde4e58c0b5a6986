use Rattle.std.proofs.Common.{◌≡◌, ℕ, List, inl, inr, ⊎_elim, sym, ap, subst, ◌∙◌, arith}
use Rattle.std.proofs.lemmas.Result.{IfOk-weaker, IfErr-weaker}
use Rattle.block_store.proofs.Steps.{reads_on}
use Rattle.block_store.proofs.Causes.{caused_behind_reads}
use Rattle.dnode_tree.proofs.FurtherReads.{told_before, told_after}
use Rattle.dnode_tree.proofs.Refusing.{passed_on}
use Rattle.object_table.specs.Rows.{SpellsRows}
use Rattle.object_table.specs.Tables.{bytes_to}
use Rattle.object_table.proofs.Tables.{table_of, ok_for_all, bytes_read, rows_refused}
use Rattle.object_table.proofs.Causes.{judged_is_caused}
use Rattle.object_table.proofs.reading.read.Goals as goal

pub returns-in_err-count-clause-known : goal.returns-in_err-count-clause-known
returns-in_err-count-clause-known g c =
    passed_on _ _ _ c.from_residual.ensures.1 (λ stored objects own blocks held are tell. c.in_err-count.ensures.known stored objects own blocks held are tell)

pub returns-in_err-bytes-clause-reads : goal.returns-in_err-bytes-clause-reads
returns-in_err-bytes-clause-reads g c = reads_on _ _ _ _ c.in_ok-count.ensures.reads c.in_err-bytes.ensures.reads

pub returns-in_err-bytes-clause-known : goal.returns-in_err-bytes-clause-known
returns-in_err-bytes-clause-known g c =
    let first = c.in_ok-count.ensures.reads in
    let rest = c.in_err-bytes.ensures.reads in
    passed_on _ _ _ c.from_residual-in_err-bytes.ensures.1
    (λ stored objects own blocks held are tell.
    let object = c.in_ok-count.ensures.value stored objects own blocks held are (told_before _ _ _ _ first rest tell) in
    ⊎_elim (λ memory. inl memory)
    (λ bad. inr (bad.0, λ rows has. (table_of _ _ object.0 rows object.1 has).1.no_hole bad.1.0 (omega (arith, bad.1.1, object.4)) bad.1.2))
    (c.in_err-bytes.ensures.known stored objects own blocks (first.keeps stored held) are (told_after _ _ _ _ first rest tell) object.0 object.1))

pub returns-clause-reads : goal.returns-clause-reads
returns-clause-reads g c = reads_on _ _ _ _ c.in_ok-count.ensures.reads c.in_ok-bytes.ensures.reads

pub returns-clause-value : goal.returns-clause-value
returns-clause-value g c =
    let first = c.in_ok-count.ensures.reads in
    let rest = c.in_ok-bytes.ensures.reads in
    IfOk-weaker c.rows_of.result _ _
    (λ rows spells stored objects own blocks held are tell.
    let object = c.in_ok-count.ensures.value stored objects own blocks held are (told_before _ _ _ _ first rest tell) in
    let front = c.in_ok-bytes.ensures.value stored objects own blocks (first.keeps stored held) are (told_after _ _ _ _ first rest tell) object.0 object.1 in
    record {
      there = object.0;
      is = object.1;
      of_kind = object.2;
      table = record {
        no_hole = λ id le. front.0 id (omega (arith, le, object.4));
        behind = object.3;
        spelled = subst (λ (bytes : List ℕ). SpellsRows c.args.kind.rows bytes rows.items) (c.deref.ensures.value ∙ front.1 ∙ ap (bytes_to object.0.array) (sym object.4)) spells;
      };
    })
    c.rows_of.ensures.found

pub returns-clause-known : goal.returns-clause-known
returns-clause-known g c =
    let first = c.in_ok-count.ensures.reads in
    let rest = c.in_ok-bytes.ensures.reads in
    IfErr-weaker c.rows_of.result _ _
    (λ refusal why stored objects own blocks held are tell.
    let object = c.in_ok-count.ensures.value stored objects own blocks held are (told_before _ _ _ _ first rest tell) in
    let front = c.in_ok-bytes.ensures.value stored objects own blocks (first.keeps stored held) are (told_after _ _ _ _ first rest tell) object.0 object.1 in
    ⊎_elim (λ memory. inl (inl memory))
    (λ bad. inr (
      bad.0,
      λ rows has. bad.1 rows (subst (λ (bytes : List ℕ). SpellsRows c.args.kind.rows bytes rows) (sym (c.deref.ensures.value ∙ front.1 ∙ ap (bytes_to object.0.array) (sym object.4))) (table_of _ _ object.0 rows object.1 has).1.spelled),
    ))
    why)
    c.rows_of.ensures.refused

pub returns-clause-one : goal.returns-clause-one
returns-clause-one g c =
    let first = c.in_ok-count.ensures.reads in
    let rest = c.in_ok-bytes.ensures.reads in
    IfOk-weaker c.rows_of.result _ _
    (λ rows one stored objects own blocks held are tell other has.
    let object = c.in_ok-count.ensures.value stored objects own blocks held are (told_before _ _ _ _ first rest tell) in
    let front = c.in_ok-bytes.ensures.value stored objects own blocks (first.keeps stored held) are (told_after _ _ _ _ first rest tell) object.0 object.1 in
    one other (subst (λ (bytes : List ℕ). SpellsRows c.args.kind.rows bytes other) (sym (c.deref.ensures.value ∙ front.1 ∙ ap (bytes_to object.0.array) (sym object.4))) (table_of _ _ object.0 other object.1 has).1.spelled))
    (ok_for_all c.rows_of.result (λ (rows : List ℕ). SpellsRows c.args.kind.rows c.deref.result.now rows) (λ found rows. found.items ≡ rows) c.rows_of.ensures.only)

pub returns-in_err-count-clause-refused : goal.returns-in_err-count-clause-refused
returns-in_err-count-clause-refused g c =
    passed_on _ _ _ c.from_residual.ensures.1
    (⊎_elim (λ node. inr (inl node)) (λ other. inr (inr (inl (other.0, inl other.1)))) c.in_err-count.ensures.refused)

pub returns-in_err-bytes-clause-refused : goal.returns-in_err-bytes-clause-refused
returns-in_err-bytes-clause-refused g c =
    let object = c.in_ok-count.ensures.found in
    passed_on _ _ _ c.from_residual-in_err-bytes.ensures.1
    (inr (inr (inr (rows_refused _ _ _ _ _ _ _ _ _ _ _ object.1 object.2 c.in_ok-count.ensures.reads c.in_err-bytes.ensures.refused))))

pub returns-clause-found : goal.returns-clause-found
returns-clause-found g c =
    let object = c.in_ok-count.ensures.found in
    let read = bytes_read _ _ _ _ _ _ _ _ _ _ object.1 object.2 c.in_ok-count.ensures.reads c.in_ok-bytes.ensures.found in
    IfOk-weaker c.rows_of.result _ _
    (λ rows spells. record {
      bytes = c.in_ok-bytes.bytes.items;
      read = read;
      spelled = subst (λ (bytes : List ℕ). SpellsRows c.args.kind.rows bytes rows.items) c.deref.ensures.value spells;
    })
    c.rows_of.ensures.found

pub returns-clause-refused : goal.returns-clause-refused
returns-clause-refused g c =
    let object = c.in_ok-count.ensures.found in
    let read = bytes_read _ _ _ _ _ _ _ _ _ _ object.1 object.2 c.in_ok-count.ensures.reads c.in_ok-bytes.ensures.found in
    IfErr-weaker c.rows_of.result _ _
    (λ refusal why. ⊎_elim (λ memory. inl memory)
    (λ bad. inr (inr (inl (
      bad.0,
      inr (record {
        bytes = c.in_ok-bytes.bytes.items;
        read = read;
        none = λ rows spells. bad.1 rows (subst (λ (bytes : List ℕ). SpellsRows c.args.kind.rows bytes rows) (sym c.deref.ensures.value) spells);
      }),
    ))))
    why)
    c.rows_of.ensures.refused

pub returns-in_err-bytes-clause-caused : goal.returns-in_err-bytes-clause-caused
returns-in_err-bytes-clause-caused g c =
    passed_on _ _ _ c.from_residual-in_err-bytes.ensures.1 (caused_behind_reads _ _ _ _ _ c.in_ok-count.ensures.reads c.in_err-bytes.ensures.caused)

pub returns-clause-caused : goal.returns-clause-caused
returns-clause-caused g c = IfErr-weaker c.rows_of.result _ _ (λ refusal why. judged_is_caused _ _ _ _ refusal why) c.rows_of.ensures.refused
