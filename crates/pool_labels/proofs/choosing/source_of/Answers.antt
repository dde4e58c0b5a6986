use Rattle.std.proofs.Common.{inr, ℕ, List, Option, sym, subst}
use Rattle.vdev_label.specs.declared.label.Label.{Label}
use Rattle.pool_labels.specs.Choices.{HasLabelAt, IsFit, IsValidAt, SourceIs}
use Rattle.pool_labels.specs.declared.scanned.ScannedLabel.{ScannedLabel}
use Rattle.pool_labels.proofs.LabelLemmas.{one_label}
use Rattle.pool_labels.proofs.choosing.source_of.Goals as goal

pub label_at-requires-clause-valid : goal.label_at-requires-clause-valid
label_at-requires-clause-valid c =
    let P : Option ℕ → Type 0 = SourceIs c.deref.result.now c.args.taken.now.config_digest in
    let src = subst P c.in-Some.is c.in_ok-i.ensures in
    let Q : List ScannedLabel → Type 0 = λ them. HasLabelAt them c.in-Some.i in
    subst Q (sym c.deref-2.ensures.value) (subst Q c.deref.ensures.value (src.0, src.1, src.2.at))

pub returns-then-branch-clause-found : goal.returns-then-branch-clause-found
returns-then-branch-clause-found c =
    let P : Option ℕ → Type 0 = SourceIs c.args.scan.now.labels.items c.args.taken.now.config_digest in
    let R : List ScannedLabel → Type 0 = λ them. SourceIs them c.args.taken.now.config_digest c.in_ok-i.field-0 in
    let src = subst P c.in-Some.is (subst R c.deref.ensures.value c.in_ok-i.ensures) in
    let Q : List ScannedLabel → Type 0 = λ them. IsValidAt them c.in-Some.i c.label_at.ensures.0 c.label_at.result.now in
    let at = subst Q c.deref-2.ensures.value c.label_at.ensures.1 in
    let same = one_label c.args.scan.now.labels.items c.in-Some.i c.label_at.ensures.0 src.0 c.label_at.result.now src.1 at src.2.at in
    let S : Label → Type 0 = λ l. IsFit l c.args.taken.now in
    (src.0, src.1, src.2, subst S same (c.in_ok-is_fit.ensures.0 c.if-branch.true))

pub returns-else-branch-clause-refused : goal.returns-else-branch-clause-refused
returns-else-branch-clause-refused c =
    let P : Option ℕ → Type 0 = SourceIs c.args.scan.now.labels.items c.args.taken.now.config_digest in
    let R : List ScannedLabel → Type 0 = λ them. SourceIs them c.args.taken.now.config_digest c.in_ok-i.field-0 in
    let src = subst P c.in-Some.is (subst R c.deref.ensures.value c.in_ok-i.ensures) in
    let Q : List ScannedLabel → Type 0 = λ them. IsValidAt them c.in-Some.i c.label_at.ensures.0 c.label_at.result.now in
    let at = subst Q c.deref-2.ensures.value c.label_at.ensures.1 in
    let same = one_label c.args.scan.now.labels.items c.in-Some.i c.label_at.ensures.0 src.0 c.label_at.result.now src.1 at src.2.at in
    let S : Label → Type 0 = λ l. IsFit l c.args.taken.now in
    inr (c.in-Some.i, src.0, src.1, src.2, λ fit. let holds = c.in_ok-is_fit.ensures.1 (subst S (sym same) fit) in let fails = c.if-branch.false in cc)
