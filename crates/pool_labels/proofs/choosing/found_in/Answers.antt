use Rattle.std.proofs.Common.{List, subst}
use Rattle.pool_labels.specs.Choices.{HasValid, IsFirstBad}
use Rattle.pool_labels.specs.declared.scanned.ScannedLabel.{ScannedLabel}
use Rattle.pool_labels.proofs.choosing.found_in.Goals as goal

pub returns-then-not-has_valid-clause-refused : goal.returns-then-not-has_valid-clause-refused
returns-then-not-has_valid-clause-refused c =
    let P : List ScannedLabel → Type 0 = λ them. HasValid them → ⊥ in
    let Q : List ScannedLabel → Type 0 = λ them. IsFirstBad them c.first_bad.result in (
      subst P c.deref.ensures.value (λ valid. let yes = c.has_valid.ensures.1 valid in let fails = c.if-not-has_valid.true in cc),
      subst Q c.deref-then-not-has_valid.ensures.value c.first_bad.ensures,
    )
