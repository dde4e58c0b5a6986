use Rattle.std.proofs.Common.{◌≡◌, ◌∙◌, true, false, true≢false, sym, ap, inl, inr, refl}
use Rattle.dataset_destroys.proofs.Refusing.{passed_on}
use Rattle.dataset_destroys.proofs.younger.counted_set.Goals as goal

pub returns-in_err-set-clause-known : goal.returns-in_err-set-clause-known
returns-in_err-set-clause-known g c =
    passed_on _ _ _ c.from_residual.ensures.1 (λ stored other held is kind some tell. c.in_err-set.ensures.known stored other held is tell)

pub returns-then-not-is_of_volume-clause-known : goal.returns-then-not-is_of_volume-clause-known
returns-then-not-is_of_volume-clause-known g c = λ stored other held is kind some tell.
    let same : c.in_ok-set.set ≡ other = c.in_ok-set.ensures.value stored other held is tell in
    let no : false ≡ true = c.if-not-is_of_volume.ensures.1 (ap (λ set. set.kind) same ∙ kind) in
    absurd (true≢false (sym no))

pub returns-in_err-set-clause-caused : goal.returns-in_err-set-clause-caused
returns-in_err-set-clause-caused g c = passed_on _ _ _ c.from_residual.ensures.1 c.in_err-set.ensures.caused

pub returns-in_err-set-clause-refused : goal.returns-in_err-set-clause-refused
returns-in_err-set-clause-refused g c = passed_on _ _ _ c.from_residual.ensures.1 (inr (inl c.in_err-set.ensures.refused))

pub returns-then-not-is_of_volume-clause-refused : goal.returns-then-not-is_of_volume-clause-refused
returns-then-not-is_of_volume-clause-refused g c = inr (inr (refl, (c.in_ok-set.set, c.in_ok-set.ensures.found, λ same. let no : false ≡ true = c.if-not-is_of_volume.ensures.1 same in true≢false (sym no))))
