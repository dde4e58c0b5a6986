use Rattle.std.proofs.Common.{◌∙◌, sym, ap}
use Rattle.model_disk.specs.Call.{failures}
use Rattle.programs.proofs.DisksTold.{none_failed}
use Rattle.programs.proofs.claim_stops.done.Goals as goal

pub returns : goal.returns
returns c = record {
  start = c.into_inner-below.ensures.start;
  calls = c.into_inner-below.ensures.calls ∙ none_failed c.args.disk.fault _ c.fails_as_told.ensures.failed (ap failures (sym c.into_inner-below.ensures.calls) ∙ c.bytes.ensures.reliable);
}
