use Rattle.std.proofs.Common.{Bool, List, subst, sym}
use Rattle.uberblock_ring.specs.declared.uberblock.Uberblock.{Uberblock}
use Rattle.pool_open.specs.Opening.{IsNotOpenedOver}
use Rattle.pool_open.specs.Known.{IsKnownBy}
use Rattle.pool_open.specs.Roots.{AreReadBeside, IsKnownRoot, IsRootNotKnown}
use Rattle.pool_open.specs.Words.{most_blocks}
use Rattle.stale_disks.specs.Rules.{guids_in}
use Rattle.vdev_label.specs.Plain.{config_view}
use Rattle.pool_open.proofs.Stages.{AreSurveyed, refused_by_root, refused_by_survey}
use Rattle.pool_open.proofs.attempts.read_pool.Goals as goal

pub returns-in-Err-clause-refused : goal.returns-in-Err-clause-refused
returns-in-Err-clause-refused g c =
    refused_by_survey (guids_in (config_view c.args.config.now.value)) c.args.out.items c.survey_disks.new.out.items c.args.rewind c.args.disks c.survey_disks.new.disks c.args.shapes.now c.in-Err.refusal
    c.survey_disks.ensures.absent c.survey_disks.ensures.count c.in-Err.ensures.refused

pub returns-in-Err-read_known-clause-refused : goal.returns-in-Err-read_known-clause-refused
returns-in-Err-read_known-clause-refused g c =
    let cause = c.in-Err-read_known.refusal in
    let new = c.in-Err-read_known.disks in
    let s = c.in-Ok.survey in
    let later = c.survey_disks.new.out.items in
    let surveyed = c.survey_disks.new.disks in
    let are : AreSurveyed c.args.out.items later c.args.rewind c.args.disks surveyed s = record {
      absent = c.survey_disks.ensures.absent;
      count = c.survey_disks.ensures.count;
      whole = c.in-Ok.ensures.whole;
      is = c.in-Ok.ensures.surveyed;
    } in
    let W : List Bool → Uberblock → Type 0 = λ xs u. IsRootNotKnown (guids_in (config_view c.args.config.now.value)) surveyed new c.args.shapes.now xs u.group u.root (most_blocks c.args.shapes.now) cause in
    let unread = subst (λ (xs : List Bool). W xs s.claimed) c.deref.ensures.value
    (subst (λ (u : Uberblock). W c.deref.result.now u) c.claimed-taken.ensures c.in-Err-read_known.ensures.refused) in
    subst (IsNotOpenedOver (guids_in (config_view c.args.config.now.value)) c.args.disks c.args.shapes.now c.args.out.items c.args.rewind new) (sym c.from.ensures)
    (refused_by_root (guids_in (config_view c.args.config.now.value)) c.args.out.items later c.args.rewind c.args.disks surveyed new c.args.shapes.now s cause are unread.only unread.why)

pub returns-in-Ok-read_known-clause-read : goal.returns-in-Ok-read_known-clause-read
returns-in-Ok-read_known-clause-read g c =
    let s = c.in-Ok.survey in
    let later = c.survey_disks.new.out.items in
    let surveyed = c.survey_disks.new.disks in
    let read = c.in-Ok-read_known.read.disks in
    let root = c.in-Ok-read_known.read.root in
    let R : List Bool → Uberblock → Type 0 = λ xs u. IsKnownRoot surveyed read c.args.shapes.now xs u.group u.root root.contents root.stale.items in
    record {
      surveyed = surveyed;
      absent = c.survey_disks.ensures.absent;
      count = c.survey_disks.ensures.count;
      whole = c.in-Ok.ensures.whole;
      is = c.in-Ok.ensures.surveyed;
      below = c.in-Ok.ensures.below;
      tolerable = c.in-Ok.ensures.tolerable;
      blocks = subst (λ (xs : List Bool). AreReadBeside xs surveyed read) c.deref.ensures.value c.in-Ok-read_known.ensures.only;
      root = subst (λ (xs : List Bool). R xs s.claimed) c.deref.ensures.value
          (subst (λ (u : Uberblock). R c.deref.result.now u) c.claimed-taken.ensures c.in-Ok-read_known.ensures.root);
    }

pub returns-in-Ok-read_known-clause-known : goal.returns-in-Ok-read_known-clause-known
returns-in-Ok-read_known-clause-known g c =
    let K : List Bool → Uberblock → Type 0 = λ xs u. IsKnownBy xs u.group c.in-Ok-read_known.read.root in
    subst (λ (xs : List Bool). K xs c.in-Ok.survey.claimed) c.deref.ensures.value
    (subst (λ (u : Uberblock). K c.deref.result.now u) c.claimed-taken.ensures c.in-Ok-read_known.ensures.known)
