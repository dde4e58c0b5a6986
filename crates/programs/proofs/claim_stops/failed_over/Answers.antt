use Rattle.std.proofs.Common.{Bool, List, subst}
use Rattle.pool_slots.specs.Configs.{OpenConfigures}
use Rattle.pool_slots.specs.Labels.{IsClaimWrite}
use Rattle.pool_slots.specs.Opens.{OpenKeeps, OpenMarks}
use Rattle.pool_slots.specs.Slots.{InUse, MakesOn}
use Rattle.pool_slots.specs.Surveys.{OfSurveyed}
use Rattle.programs.proofs.claim_stops.failed_over.Goals as goal

pub returns-in-Err : goal.returns-in-Err
returns-in-Err g c =
    let read = c.survey_present.new.disks in
    let new = c.claim.new.disks in
    let s = c.in-Ok.survey in
    let is = c.in-Ok.ensures.surveyed in
    let Begun : List Bool → Type 0 = λ out.
    MakesOn (InUse out) (IsClaimWrite read.starts out s.claimed) read new
    × OfSurveyed out s read (λ rewind first. OpenKeeps out rewind first new)
    × OfSurveyed out s read (λ rewind first. OpenMarks out rewind first new)
    × OfSurveyed out s read (λ rewind first. OpenConfigures out rewind first new) in
    let begun = subst Begun c.deref.ensures.value
    (c.claim.ensures.makes, c.claim.ensures.any_moment, c.claim.ensures.labels_any_moment, c.claim.ensures.configured_any_moment) in (
      new,
      record {
        later = c.survey_present.new.out.items;
        read = read;
        absent = c.survey_present.ensures.absent;
        s = s;
        surveyed = is;
        makes = begun.0;
        leads = begun.1 c.args.rewind c.args.disks c.requires.rewind is;
        marks = begun.2 c.args.rewind c.args.disks c.requires.rewind is;
        configures = begun.3 c.args.rewind c.args.disks c.requires.rewind is;
        which = c.in-Err.field-0.disk;
        failed = c.in-Err.ensures.fault;
      },
      c.into_disks.ensures.starts,
      c.into_disks.ensures.calls,
    )
