use Rattle.std.proofs.Common.{◌∙◌, List, map, OnOk, subst}
use Rattle.pool_format.specs.Labels.{AreLabeled, label_of}
use Rattle.pool_format.specs.declared.children.Child.{Child}
use Rattle.pool_format.specs.declared.refusal.Refusal.TheVariants.{NoMemory}
use Rattle.pool_format.proofs.Failures.{failed_err, none_failed}
use Rattle.pool_format.proofs.Words.{all_valid}
use Rattle.pool_format.proofs.labeling.write_labels.Goals as goal

pub returns-in_err-children-clause-failed : goal.returns-in_err-children-clause-failed
returns-in_err-children-clause-failed g c = failed_err c.from_residual.result NoMemory c.args.disks.now c.args.disks.now c.from_residual.ensures.1 (none_failed c.args.disks.now)

pub label_disks-requires-clause-valid : goal.label_disks-requires-clause-valid
label_disks-requires-clause-valid g c =
    all_valid c.allowed_has_room.ensures (label_of c.args.pool c.args.config c.args.claim c.args.group (record { top_guid = 0; guid = 0 })) c.deref.result.now
    (c.deref.ensures.value ∙ c.in_ok-children.ensures.items) c.in_ok-children.ensures.words c.is_word.ensures
    (record { claim_from = c.requires.claim.0; claim_to = c.requires.claim.1; group_from = c.requires.group.0; group_to = c.requires.group.1; name = c.requires.name }) c.requires.allowed

pub returns-clause-shown : goal.returns-clause-shown
returns-clause-shown g c =
    let P : List Child → Type 0 = λ them. OnOk c.label_disks.result (AreLabeled c.label_disks.new.disks (map (label_of c.args.pool c.args.config c.args.claim c.args.group) them)) in
    subst P (c.deref.ensures.value ∙ c.in_ok-children.ensures.items) c.label_disks.ensures.shown
