use Rattle.std.proofs.Common.{inr, length, ◌∙◌, ◌++◌, List, true, false, refl, sym, ap, subst, append_assoc, arith}
use Rattle.model_disk.specs.Joint.{JointCall, content}
use Rattle.pool_slots.specs.Failures.{IsFailure}
use Rattle.pool_slots.proofs.Failing.{failure_later, fails_later}
use Rattle.pool_slots.specs.Labels.{AreClaimed, AreSlotted, AreasStand, InAreaTurn, IsAreaWrite, IsClaimWrite}
use Rattle.pool_slots.specs.Configs.{LeavesConfiguredOn, ShowsConfig}
use Rattle.pool_slots.specs.Opens.{ClaimGives, ClaimsAt}
use Rattle.pool_slots.specs.Relabels.{AreFirst, InAllLabels, of_areas}
use Rattle.pool_slots.specs.Slots.{AreSettled, HaveLabels, InUse}
use Rattle.pool_slots.specs.Writes.{IsSlotWrite, in_use}
use Rattle.pool_slots.specs.Commits.{AreOffLabels}
use Rattle.std.proofs.Common.{ℕ}
use Rattle.pool_slots.proofs.LabelPhases.{FirstStands, all_claimed, all_stand, are_whole, areas_alone, areas_made, at_later, each_joined, fewer_configured, first_claims, first_configured, first_stays, may_later, others_claim, others_configured, slots_alone, slots_claim, slots_configured, slots_made, slotted_later}
use Rattle.model_disk.proofs.RunLemmas.{Makes-more}
use Rattle.pool_slots.proofs.Phases.{MakesOn-more}
use Rattle.pool_slots.proofs.Reading.{longer}
use Rattle.pool_slots.proofs.Results.{on_ok_is, on_ok_use, if_err_is}
use Rattle.pool_slots.proofs.Used.{are_there}
use Rattle.pool_slots.proofs.claiming.write_claim.Goals as goal

pub settle_areas-requires-clause-whole : goal.settle_areas-requires-clause-whole
settle_areas-requires-clause-whole g c = are_whole c.args.uberblock.now c.args.areas.now c.requires.areas _

pub settle_areas-requires-2-clause-whole : goal.settle_areas-requires-2-clause-whole
settle_areas-requires-2-clause-whole g c = are_whole c.args.uberblock.now c.args.areas.now c.requires.areas _

pub returns-in_err-settle_areas-clause-makes : goal.returns-in_err-settle_areas-clause-makes
returns-in_err-settle_areas-clause-makes g c =
    let out = c.args.out.now in
    let old = c.args.disks.now in
    let all = c.args.all.now in
    let areas = c.args.areas.now in
    let u = c.args.uberblock.now in
    let mid = c.settle_areas.new.disks in
    areas_made old mid old.starts out u areas true c.requires.on c.requires.areas refl c.settle_areas.ensures.makes

pub returns-in_err-claim_slots-clause-makes : goal.returns-in_err-claim_slots-clause-makes
returns-in_err-claim_slots-clause-makes g c =
    let out = c.args.out.now in
    let old = c.args.disks.now in
    let all = c.args.all.now in
    let areas = c.args.areas.now in
    let u = c.args.uberblock.now in
    let mid = c.settle_areas.new.disks in
    let wrote = c.claim_slots.new.disks in
    MakesOn-more (InUse out) (IsClaimWrite old.starts out u) old mid wrote
    (areas_made old mid old.starts out u areas true c.requires.on c.requires.areas refl c.settle_areas.ensures.makes)
    (slots_made mid wrote old.starts out u c.settle_areas.ensures.makes.makes.starts c.claim_slots.ensures.makes)

pub returns-clause-makes : goal.returns-clause-makes
returns-clause-makes g c =
    let out = c.args.out.now in
    let old = c.args.disks.now in
    let all = c.args.all.now in
    let areas = c.args.areas.now in
    let u = c.args.uberblock.now in
    let mid = c.settle_areas.new.disks in
    let wrote = c.claim_slots.new.disks in
    let new = c.settle_areas-2.new.disks in
    let before = MakesOn-more (InUse out) (IsClaimWrite old.starts out u) old mid wrote
    (areas_made old mid old.starts out u areas true c.requires.on c.requires.areas refl c.settle_areas.ensures.makes)
    (slots_made mid wrote old.starts out u c.settle_areas.ensures.makes.makes.starts c.claim_slots.ensures.makes) in
    MakesOn-more (InUse out) (IsClaimWrite old.starts out u) old wrote new before
    (areas_made wrote new old.starts out u areas false c.requires.on c.requires.areas before.makes.starts c.settle_areas-2.ensures.makes)

pub returns-in_err-settle_areas-clause-alone : goal.returns-in_err-settle_areas-clause-alone
returns-in_err-settle_areas-clause-alone g c =
    let old = c.args.disks.now in
    areas_alone old c.settle_areas.new.disks old.starts c.args.out.now c.args.uberblock.now c.args.areas.now true refl c.settle_areas.ensures.makes

pub returns-in_err-claim_slots-clause-alone : goal.returns-in_err-claim_slots-clause-alone
returns-in_err-claim_slots-clause-alone g c =
    let out = c.args.out.now in
    let old = c.args.disks.now in
    let areas = c.args.areas.now in
    let u = c.args.uberblock.now in
    let mid = c.settle_areas.new.disks in
    let wrote = c.claim_slots.new.disks in
    Makes-more (of_areas old.starts out u areas) old mid wrote
    (areas_alone old mid old.starts out u areas true refl c.settle_areas.ensures.makes)
    (slots_alone mid wrote old.starts out u areas c.settle_areas.ensures.makes.makes.starts c.claim_slots.ensures.makes)

pub returns-clause-alone : goal.returns-clause-alone
returns-clause-alone g c =
    let out = c.args.out.now in
    let old = c.args.disks.now in
    let areas = c.args.areas.now in
    let u = c.args.uberblock.now in
    let mid = c.settle_areas.new.disks in
    let wrote = c.claim_slots.new.disks in
    let before = Makes-more (of_areas old.starts out u areas) old mid wrote
    (areas_alone old mid old.starts out u areas true refl c.settle_areas.ensures.makes)
    (slots_alone mid wrote old.starts out u areas c.settle_areas.ensures.makes.makes.starts c.claim_slots.ensures.makes) in
    Makes-more (of_areas old.starts out u areas) old wrote c.settle_areas-2.new.disks before
    (areas_alone wrote c.settle_areas-2.new.disks old.starts out u areas false before.starts c.settle_areas-2.ensures.makes)

pub returns-in_err-settle_areas-clause-any_moment : goal.returns-in_err-settle_areas-clause-any_moment
returns-in_err-settle_areas-clause-any_moment g c = λ trees p may.
    let out = c.args.out.now in
    let old = c.args.disks.now in
    let all = c.args.all.now in
    let areas = c.args.areas.now in
    let u = c.args.uberblock.now in
    let mid = c.settle_areas.new.disks in
    let there = are_there out old.starts c.requires.out in
    first_claims trees out old mid p u all areas there c.requires.labels (are_whole u areas c.requires.areas true) c.requires.on may c.settle_areas.ensures.makes.makes

pub returns-in_err-claim_slots-clause-any_moment : goal.returns-in_err-claim_slots-clause-any_moment
returns-in_err-claim_slots-clause-any_moment g c = λ trees p may.
    let out = c.args.out.now in
    let old = c.args.disks.now in
    let all = c.args.all.now in
    let areas = c.args.areas.now in
    let u = c.args.uberblock.now in
    let mid = c.settle_areas.new.disks in
    let wrote = c.claim_slots.new.disks in
    let whole = are_whole u areas c.requires.areas in
    let there = are_there out old.starts c.requires.out in
    let first : FirstStands out old mid u areas = record { starts = c.settle_areas.ensures.makes.makes.starts; stand = c.in_ok-settle_areas.ensures.stand; settled = c.in_ok-settle_areas.ensures.settled } in
    let may' = may_later trees out old mid (InAreaTurn areas true) p u all there c.requires.labels (whole true) c.settle_areas.ensures.makes.makes first.settled may in
    each_joined (ClaimsAt trees out old p u areas) (IsSlotWrite mid.starts u (in_use out)) old mid wrote c.claim_slots.ensures.makes.makes
    (first_claims trees out old mid p u all areas there c.requires.labels (whole true) c.requires.on may c.settle_areas.ensures.makes.makes)
    (slots_claim trees out old mid wrote p u areas there c.requires.labels c.requires.fits c.requires.on c.requires.areas first c.claim_slots.ensures.makes.makes (c.claim_slots.ensures.any_moment trees p may'))

pub returns-clause-any_moment : goal.returns-clause-any_moment
returns-clause-any_moment g c = λ trees p may.
    let out = c.args.out.now in
    let old = c.args.disks.now in
    let all = c.args.all.now in
    let areas = c.args.areas.now in
    let u = c.args.uberblock.now in
    let mid = c.settle_areas.new.disks in
    let wrote = c.claim_slots.new.disks in
    let new = c.settle_areas-2.new.disks in
    let whole = are_whole u areas c.requires.areas in
    let there = are_there out old.starts c.requires.out in
    let first : FirstStands out old mid u areas = record { starts = c.settle_areas.ensures.makes.makes.starts; stand = c.in_ok-settle_areas.ensures.stand; settled = c.in_ok-settle_areas.ensures.settled } in
    let second = first_stays out old mid wrote u areas c.requires.labels (omega (arith, c.requires.count)) c.requires.fits first c.claim_slots.ensures.makes.makes c.in_ok-claim_slots.ensures.settled in
    let may' = may_later trees out old mid (InAreaTurn areas true) p u all there c.requires.labels (whole true) c.settle_areas.ensures.makes.makes first.settled may in
    each_joined (ClaimsAt trees out old p u areas) (IsAreaWrite wrote.starts (InAreaTurn areas false)) old wrote new c.settle_areas-2.ensures.makes.makes
    (each_joined (ClaimsAt trees out old p u areas) (IsSlotWrite mid.starts u (in_use out)) old mid wrote c.claim_slots.ensures.makes.makes
    (first_claims trees out old mid p u all areas there c.requires.labels (whole true) c.requires.on may c.settle_areas.ensures.makes.makes)
    (slots_claim trees out old mid wrote p u areas there c.requires.labels c.requires.fits c.requires.on c.requires.areas first c.claim_slots.ensures.makes.makes (c.claim_slots.ensures.any_moment trees p may')))
    (others_claim trees out old wrote new p u areas there c.requires.labels (whole false) may.off_labels c.requires.on c.requires.areas second (c.in_ok-claim_slots.ensures.claimed trees p may').1
    c.settle_areas-2.ensures.makes.makes)

pub returns-in_err-settle_areas-clause-configured : goal.returns-in_err-settle_areas-clause-configured
returns-in_err-settle_areas-clause-configured g c = λ digest may.
    let out = c.args.out.now in
    let old = c.args.disks.now in
    let areas = c.args.areas.now in
    let u = c.args.uberblock.now in
    let mid = c.settle_areas.new.disks in
    let whole = are_whole u areas c.requires.areas in
    let there = are_there out old.starts c.requires.out in
    first_configured out old mid areas digest there c.requires.labels (whole true) c.requires.on may c.settle_areas.ensures.makes.makes

pub returns-in_err-claim_slots-clause-configured : goal.returns-in_err-claim_slots-clause-configured
returns-in_err-claim_slots-clause-configured g c = λ digest may.
    let out = c.args.out.now in
    let old = c.args.disks.now in
    let areas = c.args.areas.now in
    let u = c.args.uberblock.now in
    let mid = c.settle_areas.new.disks in
    let whole = are_whole u areas c.requires.areas in
    let there = are_there out old.starts c.requires.out in
    let wrote = c.claim_slots.new.disks in
    let first : FirstStands out old mid u areas = record { starts = c.settle_areas.ensures.makes.makes.starts; stand = c.in_ok-settle_areas.ensures.stand; settled = c.in_ok-settle_areas.ensures.settled } in
    each_joined (LeavesConfiguredOn (ShowsConfig out old digest) old.starts digest) (IsSlotWrite mid.starts u (in_use out)) old mid wrote c.claim_slots.ensures.makes.makes
    (first_configured out old mid areas digest there c.requires.labels (whole true) c.requires.on may c.settle_areas.ensures.makes.makes)
    (fewer_configured out old digest (length mid.calls) wrote.calls
    (slots_configured out old mid wrote u areas digest there c.requires.labels c.requires.fits c.requires.on c.requires.areas may first c.claim_slots.ensures.makes.makes))

pub returns-clause-configured : goal.returns-clause-configured
returns-clause-configured g c = λ digest may.
    let out = c.args.out.now in
    let old = c.args.disks.now in
    let areas = c.args.areas.now in
    let u = c.args.uberblock.now in
    let mid = c.settle_areas.new.disks in
    let whole = are_whole u areas c.requires.areas in
    let there = are_there out old.starts c.requires.out in
    let wrote = c.claim_slots.new.disks in
    let first : FirstStands out old mid u areas = record { starts = c.settle_areas.ensures.makes.makes.starts; stand = c.in_ok-settle_areas.ensures.stand; settled = c.in_ok-settle_areas.ensures.settled } in
    let new = c.settle_areas-2.new.disks in
    let second = first_stays out old mid wrote u areas c.requires.labels (omega (arith, c.requires.count)) c.requires.fits first c.claim_slots.ensures.makes.makes c.in_ok-claim_slots.ensures.settled in
    each_joined (LeavesConfiguredOn (ShowsConfig out old digest) old.starts digest) (IsAreaWrite wrote.starts (InAreaTurn areas false)) old wrote new c.settle_areas-2.ensures.makes.makes
    (each_joined (LeavesConfiguredOn (ShowsConfig out old digest) old.starts digest) (IsSlotWrite mid.starts u (in_use out)) old mid wrote c.claim_slots.ensures.makes.makes
    (first_configured out old mid areas digest there c.requires.labels (whole true) c.requires.on may c.settle_areas.ensures.makes.makes)
    (fewer_configured out old digest (length mid.calls) wrote.calls
    (slots_configured out old mid wrote u areas digest there c.requires.labels c.requires.fits c.requires.on c.requires.areas may first c.claim_slots.ensures.makes.makes)))
    (fewer_configured out old digest (length wrote.calls) new.calls
    (others_configured out old wrote new u areas digest there c.requires.labels (whole false) c.requires.on c.requires.areas may second c.settle_areas-2.ensures.makes.makes))

pub returns-clause-claimed : goal.returns-clause-claimed
returns-clause-claimed g c =
    let out = c.args.out.now in
    let old = c.args.disks.now in
    let all = c.args.all.now in
    let areas = c.args.areas.now in
    let u = c.args.uberblock.now in
    let mid = c.settle_areas.new.disks in
    let wrote = c.claim_slots.new.disks in
    let new = c.settle_areas-2.new.disks in
    let whole = are_whole u areas c.requires.areas in
    let there = are_there out old.starts c.requires.out in
    let first : FirstStands out old mid u areas = record { starts = c.settle_areas.ensures.makes.makes.starts; stand = c.in_ok-settle_areas.ensures.stand; settled = c.in_ok-settle_areas.ensures.settled } in
    let second = first_stays out old mid wrote u areas c.requires.labels (omega (arith, c.requires.count)) c.requires.fits first c.claim_slots.ensures.makes.makes c.in_ok-claim_slots.ensures.settled in
    on_ok_use c.settle_areas-2.result (AreSettled out new.calls) (ClaimGives out old u all new)
    (λ settled trees p may.
    let may' = may_later trees out old mid (InAreaTurn areas true) p u all there c.requires.labels (whole true) c.settle_areas.ensures.makes.makes first.settled may in
    let R : List (List ℕ) → Type 0 = HaveLabels in
    let O : List (List ℕ) → Type 0 = AreOffLabels trees out in
    at_later trees out wrote new (InAreaTurn areas false) u (subst R (sym second.starts) c.requires.labels) (whole false) (subst O (sym second.starts) may.off_labels) c.settle_areas-2.ensures.makes.makes settled
    (c.in_ok-claim_slots.ensures.claimed trees p may').0)
    c.settle_areas-2.ensures.settled

pub returns-clause-slotted : goal.returns-clause-slotted
returns-clause-slotted g c =
    let out = c.args.out.now in
    let areas = c.args.areas.now in
    let u = c.args.uberblock.now in
    let wrote = c.claim_slots.new.disks in
    let new = c.settle_areas-2.new.disks in
    let same = c.claim_slots.ensures.makes.makes.starts ∙ c.settle_areas.ensures.makes.makes.starts in
    let R : List (List ℕ) → Type 0 = HaveLabels in
    on_ok_use c.settle_areas-2.result (AreSettled out new.calls) (AreSlotted out new u)
    (λ settled. slotted_later out wrote new (InAreaTurn areas false) u c.requires.fits (subst R (sym same) c.requires.labels) (are_whole u areas c.requires.areas false)
    c.settle_areas-2.ensures.makes.makes c.in_ok-claim_slots.ensures.slotted)
    c.settle_areas-2.ensures.settled

pub returns-clause-labeled : goal.returns-clause-labeled
returns-clause-labeled g c =
    let out = c.args.out.now in
    let old = c.args.disks.now in
    let all = c.args.all.now in
    let areas = c.args.areas.now in
    let u = c.args.uberblock.now in
    let mid = c.settle_areas.new.disks in
    let wrote = c.claim_slots.new.disks in
    let new = c.settle_areas-2.new.disks in
    let whole = are_whole u areas c.requires.areas in
    let there = are_there out old.starts c.requires.out in
    let first : FirstStands out old mid u areas = record { starts = c.settle_areas.ensures.makes.makes.starts; stand = c.in_ok-settle_areas.ensures.stand; settled = c.in_ok-settle_areas.ensures.settled } in
    let second = first_stays out old mid wrote u areas c.requires.labels (omega (arith, c.requires.count)) c.requires.fits first c.claim_slots.ensures.makes.makes c.in_ok-claim_slots.ensures.settled in
    on_ok_use c.settle_areas-2.result (AreasStand (content new) wrote.starts (InAreaTurn areas false)) (AreClaimed out new u)
    (λ stand. all_claimed out old new u areas c.requires.on c.requires.areas (c.settle_areas-2.ensures.makes.makes.starts ∙ second.starts)
    (all_stand out old wrote new u areas there c.requires.labels (whole false) c.requires.on second c.settle_areas-2.ensures.makes.makes stand))
    c.settle_areas-2.ensures.stand

pub returns-clause-stand : goal.returns-clause-stand
returns-clause-stand g c =
    let out = c.args.out.now in
    let old = c.args.disks.now in
    let all = c.args.all.now in
    let areas = c.args.areas.now in
    let u = c.args.uberblock.now in
    let mid = c.settle_areas.new.disks in
    let wrote = c.claim_slots.new.disks in
    let new = c.settle_areas-2.new.disks in
    let whole = are_whole u areas c.requires.areas in
    let there = are_there out old.starts c.requires.out in
    let first : FirstStands out old mid u areas = record { starts = c.settle_areas.ensures.makes.makes.starts; stand = c.in_ok-settle_areas.ensures.stand; settled = c.in_ok-settle_areas.ensures.settled } in
    let second = first_stays out old mid wrote u areas c.requires.labels (omega (arith, c.requires.count)) c.requires.fits first c.claim_slots.ensures.makes.makes c.in_ok-claim_slots.ensures.settled in
    on_ok_use c.settle_areas-2.result (AreasStand (content new) wrote.starts (InAreaTurn areas false)) (AreasStand (content new) old.starts (InAllLabels areas))
    (λ stand. all_stand out old wrote new u areas there c.requires.labels (whole false) c.requires.on second c.settle_areas-2.ensures.makes.makes stand)
    c.settle_areas-2.ensures.stand

pub returns-clause-first : goal.returns-clause-first
returns-clause-first g c =
    let out = c.args.out.now in
    let old = c.args.disks.now in
    let areas = c.args.areas.now in
    let mid = c.settle_areas.new.disks in
    let wrote = c.claim_slots.new.disks in
    let new = c.settle_areas-2.new.disks in
    let slots = c.claim_slots.ensures.makes.makes in
    let others = c.settle_areas-2.ensures.makes.makes in
    on_ok_is c.settle_areas-2.result (AreFirst out old areas new) (record {
      now = mid;
      moment = record {
        newer = others.newer ++ slots.newer;
        is = others.calls ∙ ap (λ (them : List JointCall). others.newer ++ them) slots.calls ∙ sym (append_assoc others.newer slots.newer mid.calls);
        since = inr (longer old mid (IsAreaWrite old.starts (InAreaTurn areas true)) c.settle_areas.ensures.makes.makes);
      };
      alone = c.settle_areas.ensures.makes.makes;
      settled = c.in_ok-settle_areas.ensures.settled;
      stand = c.in_ok-settle_areas.ensures.stand;
    })

pub returns-in_err-claim_slots-clause-fault : goal.returns-in_err-claim_slots-clause-fault
returns-in_err-claim_slots-clause-fault g c =
    let out = c.args.out.now in
    let old = c.args.disks.now in
    let all = c.args.all.now in
    let areas = c.args.areas.now in
    let u = c.args.uberblock.now in
    let mid = c.settle_areas.new.disks in
    let wrote = c.claim_slots.new.disks in
    if_err_is c.from_residual-in_err-claim_slots.result c.in_err-claim_slots.field-0.0 (IsFailure old wrote) c.from_residual-in_err-claim_slots.ensures.1
    (fails_later (IsAreaWrite old.starts (InAreaTurn areas true)) old mid wrote c.settle_areas.ensures.makes.makes c.in_err-claim_slots.field-0.0.disk c.in_err-claim_slots.ensures.fault)

pub returns-clause-fault : goal.returns-clause-fault
returns-clause-fault g c =
    let out = c.args.out.now in
    let old = c.args.disks.now in
    let all = c.args.all.now in
    let areas = c.args.areas.now in
    let u = c.args.uberblock.now in
    let mid = c.settle_areas.new.disks in
    let wrote = c.claim_slots.new.disks in
    let new = c.settle_areas-2.new.disks in
    let before = MakesOn-more (InUse out) (IsClaimWrite old.starts out u) old mid wrote
    (areas_made old mid old.starts out u areas true c.requires.on c.requires.areas refl c.settle_areas.ensures.makes)
    (slots_made mid wrote old.starts out u c.settle_areas.ensures.makes.makes.starts c.claim_slots.ensures.makes) in
    failure_later c.settle_areas-2.result (IsClaimWrite old.starts out u) old wrote new before.makes c.settle_areas-2.ensures.fault
