use Rattle.std.proofs.Common.{◌≡◌, ℕ, List, Option, Some, None, length, inl, inr, ⊎_elim, refl, sym, ap, subst, ◌∙◌}
use Rattle.std.specs.Prelude.{Vec, IsSomeAnd}
use Rattle.std.specs.declared.alloc.Global.{Global}
use Rattle.std.proofs.lemmas.Result.{IfOk-weaker, IfErr-weaker}
use Rattle.block_store.proofs.Steps.{reads_on}
use Rattle.block_store.proofs.Causes.{caused_behind_reads}
use Rattle.dnode_tree.proofs.FurtherReads.{told_before, told_after}
use Rattle.dnode_tree.proofs.Refusing.{passed_on, ok_both}
use Rattle.dnode_tree.specs.Ways.{bytes_of}
use Rattle.objset.specs.Found.{IsDataFound}
use Rattle.object_table.proofs.Tables.{ok_for_all, some_is, spaces_stay}
use Rattle.object_table.proofs.Causes.{judged_is_caused}
use Rattle.meta_objset.specs.Record.{SpellsRecord}
use Rattle.meta_objset.proofs.RecordObjects.{record_there}
use Rattle.meta_objset.proofs.datasets.read_record.Goals as goal

pub returns-in_err-expect_record-clause-known : goal.returns-in_err-expect_record-clause-known
returns-in_err-expect_record-clause-known g c =
    passed_on _ _ _ c.from_residual.ensures.1 (λ stored objects own blocks held are tell. c.in_err-expect_record.ensures.known stored objects own blocks held are tell)

pub returns-in_err-bytes-clause-reads : goal.returns-in_err-bytes-clause-reads
returns-in_err-bytes-clause-reads g c = reads_on _ _ _ _ c.in_ok-expect_record.ensures.reads c.in_err-bytes.ensures.reads

pub returns-in_err-bytes-clause-known : goal.returns-in_err-bytes-clause-known
returns-in_err-bytes-clause-known g c =
    let first = c.in_ok-expect_record.ensures.reads in
    let rest = c.in_err-bytes.ensures.reads in
    passed_on _ _ _ c.from_residual-in_err-bytes.ensures.1
    (λ stored objects own blocks held are tell.
    let there = c.in_ok-expect_record.ensures.value stored objects own blocks held are (told_before _ _ _ _ first rest tell) in
    ⊎_elim (λ memory. inl memory) (λ bad. let clash : Some there.0 ≡ None = sym there.1 ∙ bad.1 in absurd cc)
    (c.in_err-bytes.ensures.known stored objects own blocks (first.keeps stored held) are (told_after _ _ _ _ first rest tell)))

pub returns-in_default-clause-reads : goal.returns-in_default-clause-reads
returns-in_default-clause-reads g c = reads_on _ _ _ _ c.in_ok-expect_record.ensures.reads c.in_ok-bytes.ensures.reads

pub returns-in_default-clause-known : goal.returns-in_default-clause-known
returns-in_default-clause-known g c = λ stored objects own blocks held are tell.
    let first = c.in_ok-expect_record.ensures.reads in
    let rest = c.in_ok-bytes.ensures.reads in
    let there = c.in_ok-expect_record.ensures.value stored objects own blocks held are (told_before _ _ _ _ first rest tell) in
    let hole = some_is (objects c.args.number) there.0 (λ object. bytes_of c.in_ok-bytes.field-0 ≡ object.array 0)
    (c.in_ok-bytes.ensures.value stored objects own blocks (first.keeps stored held) are (told_after _ _ _ _ first rest tell)) there.1 in
    inr (
      refl,
      λ r has.
          let block = (record_there (objects c.args.number) there.0 r there.1 has).0 in
          let clash : None ≡ Some has.bytes = sym (ap bytes_of c.in_default.is) ∙ hole ∙ block in
          absurd cc,
    )

pub returns-clause-reads : goal.returns-clause-reads
returns-clause-reads g c = reads_on _ _ _ _ c.in_ok-expect_record.ensures.reads c.in_ok-bytes.ensures.reads

pub returns-clause-value : goal.returns-clause-value
returns-clause-value g c =
    let first = c.in_ok-expect_record.ensures.reads in
    let rest = c.in_ok-bytes.ensures.reads in
    IfOk-weaker c.record_of.result _ _
    (λ found is stored objects own blocks held are tell.
    let there = c.in_ok-expect_record.ensures.value stored objects own blocks held are (told_before _ _ _ _ first rest tell) in
    let block = some_is (objects c.args.number) there.0 (λ object. Some c.in-Some.bytes.items ≡ object.array 0)
    (subst (λ (found : Option (Vec ℕ Global)). IsSomeAnd (objects c.args.number) (λ object. bytes_of found ≡ object.array 0)) c.in-Some.is
    (c.in_ok-bytes.ensures.value stored objects own blocks (first.keeps stored held) are (told_after _ _ _ _ first rest tell))) there.1 in
    record {
      there = there.0;
      is = there.1;
      of_record = there.2;
      bytes = c.in-Some.bytes.items;
      block = sym block;
      size = subst (λ (bytes : List ℕ). length bytes ≡ 512) c.deref.ensures.value is.0;
      spelled = subst (λ (bytes : List ℕ). SpellsRecord bytes found) c.deref.ensures.value is.1;
    })
    (ok_both c.record_of.result _ _ c.record_of.ensures.size c.record_of.ensures.found)

pub returns-clause-known : goal.returns-clause-known
returns-clause-known g c =
    let first = c.in_ok-expect_record.ensures.reads in
    let rest = c.in_ok-bytes.ensures.reads in
    IfErr-weaker c.record_of.result _ _
    (λ refusal why stored objects own blocks held are tell.
    let there = c.in_ok-expect_record.ensures.value stored objects own blocks held are (told_before _ _ _ _ first rest tell) in
    let block = some_is (objects c.args.number) there.0 (λ object. Some c.in-Some.bytes.items ≡ object.array 0)
    (subst (λ (found : Option (Vec ℕ Global)). IsSomeAnd (objects c.args.number) (λ object. bytes_of found ≡ object.array 0)) c.in-Some.is
    (c.in_ok-bytes.ensures.value stored objects own blocks (first.keeps stored held) are (told_after _ _ _ _ first rest tell))) there.1 in
    inr (
      why.0,
      λ r has.
          let both : Some c.in-Some.bytes.items ≡ Some has.bytes = block ∙ (record_there (objects c.args.number) there.0 r there.1 has).0 in
          let same : has.bytes ≡ c.deref.result.now = let e : has.bytes ≡ c.in-Some.bytes.items = cc in e ∙ sym c.deref.ensures.value in
          why.1 (subst (λ (bytes : List ℕ). length bytes ≡ 512) same has.size) r (subst (λ (bytes : List ℕ). SpellsRecord bytes r) same has.spelled),
    ))
    c.record_of.ensures.refused

pub returns-in_err-expect_record-clause-refused : goal.returns-in_err-expect_record-clause-refused
returns-in_err-expect_record-clause-refused g c =
    passed_on _ _ _ c.from_residual.ensures.1
    (⊎_elim (λ node. inr (inl node)) (λ other. inr (inr (inl (other.0, inl other.1)))) c.in_err-expect_record.ensures.refused)

pub returns-in_err-bytes-clause-refused : goal.returns-in_err-bytes-clause-refused
returns-in_err-bytes-clause-refused g c =
    passed_on _ _ _ c.from_residual-in_err-bytes.ensures.1
    (inr (inr (inr (record {
      there = c.in_ok-expect_record.ensures.found;
      mid = c.expect_record.new.store;
      before = c.in_ok-expect_record.ensures.reads;
      why = c.in_err-bytes.ensures.refused;
    }))))

pub returns-in_default-clause-refused : goal.returns-in_default-clause-refused
returns-in_default-clause-refused g c =
    let hole = subst (λ (found : Option (Vec ℕ Global)). IsDataFound c.expect_record.new.store.spaces c.args.set.now c.args.birth c.args.number 0 (bytes_of found)) c.in_default.is c.in_ok-bytes.ensures.found in
    inr (inr (inl (refl, inr (inl (subst (λ spaces. IsDataFound spaces c.args.set.now c.args.birth c.args.number 0 None) (spaces_stay _ _ _ c.in_ok-expect_record.ensures.reads) hole)))))

pub returns-clause-found : goal.returns-clause-found
returns-clause-found g c =
    let there = subst (λ (found : Option (Vec ℕ Global)). IsDataFound c.expect_record.new.store.spaces c.args.set.now c.args.birth c.args.number 0 (bytes_of found)) c.in-Some.is c.in_ok-bytes.ensures.found in
    let block = subst (λ spaces. IsDataFound spaces c.args.set.now c.args.birth c.args.number 0 (Some c.in-Some.bytes.items)) (spaces_stay _ _ _ c.in_ok-expect_record.ensures.reads) there in
    IfOk-weaker c.record_of.result _ _
    (λ found is. record {
      there = c.in_ok-expect_record.ensures.found;
      bytes = c.in-Some.bytes.items;
      block = block;
      size = subst (λ (bytes : List ℕ). length bytes ≡ 512) c.deref.ensures.value is.0;
      spelled = subst (λ (bytes : List ℕ). SpellsRecord bytes found) c.deref.ensures.value is.1;
    })
    (ok_both c.record_of.result _ _ c.record_of.ensures.size c.record_of.ensures.found)

pub returns-clause-refused : goal.returns-clause-refused
returns-clause-refused g c =
    let there = subst (λ (found : Option (Vec ℕ Global)). IsDataFound c.expect_record.new.store.spaces c.args.set.now c.args.birth c.args.number 0 (bytes_of found)) c.in-Some.is c.in_ok-bytes.ensures.found in
    let block = subst (λ spaces. IsDataFound spaces c.args.set.now c.args.birth c.args.number 0 (Some c.in-Some.bytes.items)) (spaces_stay _ _ _ c.in_ok-expect_record.ensures.reads) there in
    IfErr-weaker c.record_of.result _ _
    (λ refusal why. inr (inr (inl (
      why.0,
      inr (inr (record {
        bytes = c.in-Some.bytes.items;
        block = block;
        none = λ size r spelled. why.1 (subst (λ (bytes : List ℕ). length bytes ≡ 512) (sym c.deref.ensures.value) size) r (subst (λ (bytes : List ℕ). SpellsRecord bytes r) (sym c.deref.ensures.value) spelled);
      })),
    ))))
    c.record_of.ensures.refused

pub returns-clause-one : goal.returns-clause-one
returns-clause-one g c =
    let first = c.in_ok-expect_record.ensures.reads in
    let rest = c.in_ok-bytes.ensures.reads in
    IfOk-weaker c.record_of.result _ _
    (λ found one stored objects own blocks held are tell other has.
    let there = c.in_ok-expect_record.ensures.value stored objects own blocks held are (told_before _ _ _ _ first rest tell) in
    let block = some_is (objects c.args.number) there.0 (λ object. Some c.in-Some.bytes.items ≡ object.array 0)
    (subst (λ (found : Option (Vec ℕ Global)). IsSomeAnd (objects c.args.number) (λ object. bytes_of found ≡ object.array 0)) c.in-Some.is
    (c.in_ok-bytes.ensures.value stored objects own blocks (first.keeps stored held) are (told_after _ _ _ _ first rest tell))) there.1 in
    let both : Some c.in-Some.bytes.items ≡ Some has.bytes = block ∙ (record_there (objects c.args.number) there.0 other there.1 has).0 in
    let same : has.bytes ≡ c.deref.result.now = let e : has.bytes ≡ c.in-Some.bytes.items = cc in e ∙ sym c.deref.ensures.value in
    one other (subst (λ (bytes : List ℕ). SpellsRecord bytes other) same has.spelled))
    (ok_for_all c.record_of.result (SpellsRecord c.deref.result.now) (λ found r. found ≡ r) c.record_of.ensures.only)

pub returns-in_err-bytes-clause-caused : goal.returns-in_err-bytes-clause-caused
returns-in_err-bytes-clause-caused g c =
    passed_on _ _ _ c.from_residual-in_err-bytes.ensures.1 (caused_behind_reads _ _ _ _ _ c.in_ok-expect_record.ensures.reads c.in_err-bytes.ensures.caused)

pub returns-clause-caused : goal.returns-clause-caused
returns-clause-caused g c = IfErr-weaker c.record_of.result _ _ (λ refusal why. judged_is_caused _ _ _ _ refusal (inr why)) c.record_of.ensures.refused
