use Rattle.std.proofs.Common.{◌≡◌, ◌∙◌, inl, inr, refl, sym, ap}
use Rattle.meta_objset.specs.declared.record.DatasetRecord.{DatasetRecord}
use Rattle.dataset_destroys.proofs.Refusing.{passed_on}
use Rattle.dataset_destroys.proofs.places.follower.Goals as goal

pub returns-in_err-after-clause-refused : goal.returns-in_err-after-clause-refused
returns-in_err-after-clause-refused g c = passed_on _ _ _ c.from_residual.ensures.1 (λ known. inr (inr (inr (inl c.in_err-after.ensures.refused))))

pub returns-in_err-after-clause-known : goal.returns-in_err-after-clause-known
returns-in_err-after-clause-known g c =
    passed_on _ _ _ c.from_residual.ensures.1 (λ stored objects told over number r has linked. c.in_err-after.ensures.known stored objects told number r has)

pub returns-then-after-number-clause-refused : goal.returns-then-after-number-clause-refused
returns-then-after-number-clause-refused g c = λ known.
    inr (inl (refl, (c.args.gone.now, c.in_ok-after.after, c.in_ok-after.ensures.keeps c.args.number c.args.gone.now known, c.in_ok-after.ensures.known_as, c.if-after-number.true)))

pub returns-then-after-number-clause-known : goal.returns-then-after-number-clause-known
returns-then-after-number-clause-known g c = λ stored objects told over number r has linked.
    let same : r ≡ c.in_ok-after.after = (c.in_ok-after.ensures.value stored objects told over).1.one r has in
    absurd (c.if-after-number.true (ap (λ (x : DatasetRecord). x.previous) (sym same) ∙ linked))

pub returns-in_err-after-clause-caused : goal.returns-in_err-after-clause-caused
returns-in_err-after-clause-caused g c = passed_on _ _ _ c.from_residual.ensures.1 c.in_err-after.ensures.caused
