use Rattle.std.proofs.Common.{◌≡◌, ◌∙◌, inl, inr, refl, sym, ap, false, true, true≢false}
use Rattle.meta_objset.specs.declared.record.DatasetRecord.{DatasetRecord}
use Rattle.dataset_destroys.proofs.Refusing.{passed_on}
use Rattle.dataset_destroys.proofs.places.lone_snapshot.Goals as goal

pub returns-in_err-gone-clause-refused : goal.returns-in_err-gone-clause-refused
returns-in_err-gone-clause-refused g c = passed_on _ _ _ c.from_residual.ensures.1 (inr (inr (inr (inl c.in_err-gone.ensures.refused))))

pub returns-in_err-gone-clause-known : goal.returns-in_err-gone-clause-known
returns-in_err-gone-clause-known g c =
    passed_on _ _ _ c.from_residual.ensures.1 (λ stored objects told over number r has kind clones. c.in_err-gone.ensures.known stored objects told number r has)

pub returns-then-not-is_snapshot-clause-refused : goal.returns-then-not-is_snapshot-clause-refused
returns-then-not-is_snapshot-clause-refused g c =
    inr (inr (inr (inr (inr (refl, (c.in_ok-gone.gone, c.in_ok-gone.ensures.known_as, λ same. let no : false ≡ true = c.if-not-is_snapshot.ensures.1 same in true≢false (sym no)))))))

pub returns-then-not-is_snapshot-clause-known : goal.returns-then-not-is_snapshot-clause-known
returns-then-not-is_snapshot-clause-known g c = λ stored objects told over number r has kind clones.
    let same : r ≡ c.in_ok-gone.gone = (c.in_ok-gone.ensures.value stored objects told over).1.one r has in
    let no : false ≡ true = c.if-not-is_snapshot.ensures.1 (ap (λ (x : DatasetRecord). x.kind) (sym same) ∙ kind) in
    absurd (true≢false (sym no))

pub returns-then-gone-ne0-clause-known : goal.returns-then-gone-ne0-clause-known
returns-then-gone-ne0-clause-known g c = λ stored objects told over number r has kind clones.
    let same : r ≡ c.in_ok-gone.gone = (c.in_ok-gone.ensures.value stored objects told over).1.one r has in
    absurd (c.if-gone-ne0.true (ap (λ (x : DatasetRecord). x.clones) (sym same) ∙ clones))

pub returns-in_err-gone-clause-caused : goal.returns-in_err-gone-clause-caused
returns-in_err-gone-clause-caused g c = passed_on _ _ _ c.from_residual.ensures.1 c.in_err-gone.ensures.caused
