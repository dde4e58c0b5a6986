use Rattle.std.proofs.Common.{◌<◌, List, length, sym, subst}
use Rattle.std.proofs.lemmas.Option.{slice_get_within}
use Rattle.pool_slots.proofs.Results.{if_err_is}
use Rattle.pool_labels.specs.Choices.{ChoiceRefuses, HasLabelAt, IsValidAt}
use Rattle.pool_labels.specs.declared.scanned.ScannedLabel.{ScannedLabel}
use Rattle.pool_labels.proofs.ChoiceLemmas.{configured_at, no_source, too_few}
use Rattle.pool_labels.proofs.choosing.choose.Goals as goal

pub returns-in_err-source-clause-refused : goal.returns-in_err-source-clause-refused
returns-in_err-source-clause-refused c =
    if_err_is c.from_residual-in_err-source.result c.in_err-source.field-0.0 (ChoiceRefuses c.args.scan.now c.args.rewind) c.from_residual-in_err-source.ensures.1
    (no_source c.args.scan.now c.args.rewind c.in_ok-highest.highest c.in_ok-highest.taken c.in_err-source.field-0.0 c.in_ok-highest.ensures.found c.in_err-source.ensures.refused)

pub label_at-requires-clause-i : goal.label_at-requires-clause-i
label_at-requires-clause-i c =
    let src = c.in_ok-source.ensures.found in
    let P : List ScannedLabel → Type 0 = λ them. c.in_ok-source.source < length them in
    subst P (sym c.deref.ensures.value) (slice_get_within c.args.scan.now.labels.items c.in_ok-source.source src.0 src.2.at.at)

pub label_at-requires-clause-valid : goal.label_at-requires-clause-valid
label_at-requires-clause-valid c =
    let src = c.in_ok-source.ensures.found in
    let P : List ScannedLabel → Type 0 = λ them. HasLabelAt them c.in_ok-source.source in
    subst P (sym c.deref.ensures.value) (src.0, src.1, src.2.at)

pub returns-in_err-members-clause-refused : goal.returns-in_err-members-clause-refused
returns-in_err-members-clause-refused c =
    let i = c.in_ok-source.source in
    let l = c.label_at.result.now in
    let P : List ScannedLabel → Type 0 = λ them. IsValidAt them i c.label_at.ensures.0 l in
    let configured = configured_at c.args.scan.now c.args.rewind c.in_ok-highest.highest c.in_ok-highest.taken i c.label_at.ensures.0 l c.in_ok-highest.ensures.found c.in_ok-source.ensures.found
    (subst P c.deref.ensures.value c.label_at.ensures.1) in
    if_err_is c.from_residual-in_err-members.result c.in_err-members.field-0.0 (ChoiceRefuses c.args.scan.now c.args.rewind) c.from_residual-in_err-members.ensures.1
    (too_few c.args.scan.now c.args.rewind c.in_ok-highest.highest c.in_ok-highest.taken i l c.in_err-members.field-0.0 configured c.in_err-members.ensures.refused)

pub returns-clause-chosen : goal.returns-clause-chosen
returns-clause-chosen c =
    let i = c.in_ok-source.source in
    let l = c.label_at.result.now in
    let P : List ScannedLabel → Type 0 = λ them. IsValidAt them i c.label_at.ensures.0 l in
    record {
      l = l;
      configured = configured_at c.args.scan.now c.args.rewind c.in_ok-highest.highest c.in_ok-highest.taken i c.label_at.ensures.0 l c.in_ok-highest.ensures.found c.in_ok-source.ensures.found
          (subst P c.deref.ensures.value c.label_at.ensures.1);
      members = c.in_ok-members.ensures.found.0;
      enough = c.in_ok-members.ensures.found.1;
    }
