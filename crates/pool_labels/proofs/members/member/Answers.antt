use Rattle.std.proofs.Common.{◌≡◌, ◌<◌, ◌≤◌, List, length, get_or, slice_get, Some, sym, subst}
use Rattle.pool_labels.specs.Choices.{IsPresentAs}
use Rattle.pool_labels.specs.declared.scanned.ScannedDisk.{ScannedDisk}
use Rattle.pool_labels.specs.declared.scanned.ScannedLabel.{ScannedLabel}
use Rattle.pool_labels.proofs.Lists.{here, none_more}
use Rattle.pool_labels.proofs.MemberLemmas.{member_found, member_none}
use Rattle.pool_labels.proofs.members.member.Goals as goal

pub returns-then-is_present_as : goal.returns-then-is_present_as
returns-then-is_present_as c =
    let i = c.loop-label.label-index in
    let item = c.label-item.result in
    let P : List ScannedLabel → Type 0 = λ them. slice_get them i ≡ Some item in
    let Q : List ScannedDisk → Type 0 = λ them. IsPresentAs them c.args.sectors c.args.guid item.disk item.reading in
    member_found c.args.scan.now c.args.sectors c.args.guid i item (subst P c.deref-label-items.ensures.value (here c.deref-label-items.result.now i item c.loop-label-test.true c.label-item.is))
    (subst Q c.deref.ensures.value (c.is_present_as.ensures.0 c.if-is_present_as.true))

pub loop-label-preserved : goal.loop-label-preserved
loop-label-preserved c =
    let i = c.loop-label.label-index in
    let item = c.label-item.result in
    let P : List ScannedLabel → Type 0 = λ them. item ≡ get_or them i item in
    let Q : List ScannedDisk → Type 0 = λ them. IsPresentAs them c.args.sectors c.args.guid item.disk item.reading in
    let R : List ScannedLabel → Type 0 = λ them. i < length them in
    none_more (λ s. IsPresentAs c.args.scan.now.disks.items c.args.sectors c.args.guid s.disk s.reading) c.args.scan.now.labels.items i item c.loop-label.invariant
    (subst R c.deref-label-items.ensures.value c.loop-label-test.true) (subst P c.deref-label-items.ensures.value c.label-item.is)
    (λ present. let holds = c.is_present_as.ensures.1 (subst Q (sym c.deref.ensures.value) present) in let fails = c.if-is_present_as.false in cc)

pub returns : goal.returns
returns c =
    let i = c.loop-label.label-index in
    let R : List ScannedLabel → Type 0 = λ them. length them ≤ i in
    member_none c.args.scan.now c.args.sectors c.args.guid i (subst R c.deref-label-items.ensures.value c.loop-label-test.false) c.loop-label.invariant
