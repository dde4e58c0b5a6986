use Rattle.std.proofs.Common.{◌∙◌, List, Option, sym, ap, subst}
use Rattle.uberblock_ring.specs.declared.uberblock.Uberblock.{Uberblock}
use Rattle.pool_slots.specs.Labels.{AreasFit, AreasOn, AreClaimed, AreSlotted}
use Rattle.pool_slots.specs.Surveys.{Surveyed}
use Rattle.pool_slots.specs.declared.labeled.Area.{Area}
use Rattle.pool_slots.proofs.ClaimSteps.{claim_configures, claim_gives, claim_keeps, claim_marks, claim_marks_first, claim_relabels, claim_rewrites}
use Rattle.pool_slots.proofs.opening.claim.Goals as goal

pub write_claim-requires-clause-on : goal.write_claim-requires-clause-on
write_claim-requires-clause-on g c =
    let P : List (Option Area) → Type 0 = AreasOn c.args.out.now in
    subst P (sym (c.deref-2.ensures.value ∙ ap (λ (s : Surveyed). s.areas) c.survey.view_is)) c.requires.whole.areas_on

pub write_claim-requires-clause-areas : goal.write_claim-requires-clause-areas
write_claim-requires-clause-areas g c =
    let P : List (Option Area) → Type 0 = AreasFit c.args.survey.now.claimed in
    let Q : Uberblock → Type 0 = λ u. AreasFit u c.deref-2.result.now in
    subst Q (sym c.claimed-claimed.ensures) (subst P (sym (c.deref-2.ensures.value ∙ ap (λ (s : Surveyed). s.areas) c.survey.view_is)) c.requires.whole.areas_fit)

pub returns-in_err-write_claim-clause-any_moment : goal.returns-in_err-write_claim-clause-any_moment
returns-in_err-write_claim-clause-any_moment g c =
    claim_keeps c.args.out.now c.args.disks.now c.write_claim.new.disks c.args.survey.now c.claimed-claimed.result c.deref.result.now c.deref-2.result.now c.requires.out c.requires.whole c.claimed-claimed.ensures (c.deref.ensures.value ∙ ap (λ (s : Surveyed). s.found) c.survey.view_is) c.write_claim.ensures.makes.makes c.write_claim.ensures.any_moment

pub returns-in_err-write_claim-clause-rewrites : goal.returns-in_err-write_claim-clause-rewrites
returns-in_err-write_claim-clause-rewrites g c =
    claim_rewrites c.args.out.now c.args.disks.now c.write_claim.new.disks c.args.survey.now c.claimed-claimed.result c.deref-2.result.now c.requires.whole c.claimed-claimed.ensures (c.deref-2.ensures.value ∙ ap (λ (s : Surveyed). s.areas) c.survey.view_is) c.write_claim.ensures.makes.makes c.write_claim.ensures.alone

pub returns-in_err-write_claim-clause-labels_any_moment : goal.returns-in_err-write_claim-clause-labels_any_moment
returns-in_err-write_claim-clause-labels_any_moment g c =
    claim_marks c.args.out.now c.args.disks.now c.write_claim.new.disks c.args.survey.now c.claimed-claimed.result c.deref.result.now c.deref-2.result.now c.requires.out c.requires.whole c.claimed-claimed.ensures (c.deref.ensures.value ∙ ap (λ (s : Surveyed). s.found) c.survey.view_is) (c.deref-2.ensures.value ∙ ap (λ (s : Surveyed). s.areas) c.survey.view_is) c.write_claim.ensures.makes.makes c.write_claim.ensures.any_moment

pub returns-in_err-write_claim-clause-configured_any_moment : goal.returns-in_err-write_claim-clause-configured_any_moment
returns-in_err-write_claim-clause-configured_any_moment g c =
    claim_configures c.args.out.now c.args.disks.now c.write_claim.new.disks c.args.survey.now c.claimed-claimed.result c.deref-2.result.now c.requires.out c.requires.whole c.claimed-claimed.ensures (c.deref-2.ensures.value ∙ ap (λ (s : Surveyed). s.areas) c.survey.view_is) c.write_claim.ensures.makes.makes c.write_claim.ensures.configured

pub returns-clause-any_moment : goal.returns-clause-any_moment
returns-clause-any_moment g c =
    claim_keeps c.args.out.now c.args.disks.now c.write_claim.new.disks c.args.survey.now c.claimed-claimed.result c.deref.result.now c.deref-2.result.now c.requires.out c.requires.whole c.claimed-claimed.ensures (c.deref.ensures.value ∙ ap (λ (s : Surveyed). s.found) c.survey.view_is) c.write_claim.ensures.makes.makes c.write_claim.ensures.any_moment

pub returns-clause-rewrites : goal.returns-clause-rewrites
returns-clause-rewrites g c =
    claim_rewrites c.args.out.now c.args.disks.now c.write_claim.new.disks c.args.survey.now c.claimed-claimed.result c.deref-2.result.now c.requires.whole c.claimed-claimed.ensures (c.deref-2.ensures.value ∙ ap (λ (s : Surveyed). s.areas) c.survey.view_is) c.write_claim.ensures.makes.makes c.write_claim.ensures.alone

pub returns-clause-labels_any_moment : goal.returns-clause-labels_any_moment
returns-clause-labels_any_moment g c =
    claim_marks c.args.out.now c.args.disks.now c.write_claim.new.disks c.args.survey.now c.claimed-claimed.result c.deref.result.now c.deref-2.result.now c.requires.out c.requires.whole c.claimed-claimed.ensures (c.deref.ensures.value ∙ ap (λ (s : Surveyed). s.found) c.survey.view_is) (c.deref-2.ensures.value ∙ ap (λ (s : Surveyed). s.areas) c.survey.view_is) c.write_claim.ensures.makes.makes c.write_claim.ensures.any_moment

pub returns-clause-configured_any_moment : goal.returns-clause-configured_any_moment
returns-clause-configured_any_moment g c =
    claim_configures c.args.out.now c.args.disks.now c.write_claim.new.disks c.args.survey.now c.claimed-claimed.result c.deref-2.result.now c.requires.out c.requires.whole c.claimed-claimed.ensures (c.deref-2.ensures.value ∙ ap (λ (s : Surveyed). s.areas) c.survey.view_is) c.write_claim.ensures.makes.makes c.write_claim.ensures.configured

pub returns-clause-opened : goal.returns-clause-opened
returns-clause-opened g c =
    claim_gives c.args.out.now c.args.disks.now c.write_claim.new.disks c.args.survey.now c.claimed-claimed.result c.deref.result.now c.requires.whole c.claimed-claimed.ensures (c.deref.ensures.value ∙ ap (λ (s : Surveyed). s.found) c.survey.view_is) c.write_claim.ensures.makes.makes c.in_ok-write_claim.ensures.claimed

pub returns-clause-slotted : goal.returns-clause-slotted
returns-clause-slotted g c =
    let P : Uberblock → Type 0 = AreSlotted c.args.out.now c.write_claim.new.disks in
    subst P c.claimed-claimed.ensures c.in_ok-write_claim.ensures.slotted

pub returns-clause-labeled : goal.returns-clause-labeled
returns-clause-labeled g c =
    let P : Uberblock → Type 0 = AreClaimed c.args.out.now c.write_claim.new.disks in
    subst P c.claimed-claimed.ensures c.in_ok-write_claim.ensures.labeled

pub returns-clause-relabeled : goal.returns-clause-relabeled
returns-clause-relabeled g c =
    claim_relabels c.args.out.now c.args.disks.now c.write_claim.new.disks c.args.survey.now c.claimed-claimed.result c.deref-2.result.now c.requires.whole c.claimed-claimed.ensures (c.deref-2.ensures.value ∙ ap (λ (s : Surveyed). s.areas) c.survey.view_is) c.write_claim.ensures.makes.makes c.in_ok-write_claim.ensures.stand

pub returns-clause-marked_first : goal.returns-clause-marked_first
returns-clause-marked_first g c =
    claim_marks_first c.args.out.now c.args.disks.now c.write_claim.new.disks c.args.survey.now c.claimed-claimed.result c.deref-2.result.now c.requires.whole c.claimed-claimed.ensures (c.deref-2.ensures.value ∙ ap (λ (s : Surveyed). s.areas) c.survey.view_is) c.write_claim.ensures.makes.makes c.in_ok-write_claim.ensures.first
