use Rattle.std.proofs.Common.{◌≡◌, ℕ, map}
use Rattle.std.proofs.lemmas.Result.{IfOk-weaker}
use Rattle.model_disk.specs.Joint.{Disks, calls_on, log_of}
use Rattle.model_disk.specs.Member.{calls_of, start_of}
use Rattle.programs.specs.ClaimStops.{EndsInClaim, FailsInClaim}
use Rattle.programs.proofs.claim_stops.failed_claim.Goals as goal

pub returns : goal.returns
returns g c =
    let found = c.in-Ok.found in
    IfOk-weaker c.failed_over.result
    (λ left. (new : Disks) × FailsInClaim found.out.items c.args.rewind c.new.result new × (map (start_of g.D.Disk) left.items ≡ new.starts)
    × ((which : ℕ) → log_of (map (calls_of g.D.Disk) left.items) which ≡ calls_on which new.calls))
    (λ members. EndsInClaim {D = g.row.D.Denot} g.D.Disk c.args.disks.items c.args.rewind members.items)
    (λ members ends. record {
      old = c.new.result;
      shapes = found.shapes.items;
      out = found.out.items;
      ordered = record {
        members = found.disks.items;
        config = found.config.value;
        highest = found.highest;
        taken = found.taken;
        found = c.in-Ok.ensures.found.found;
        starts = c.new.ensures.starts;
        calls = c.new.ensures.calls;
        places = found.handed;
        handed = c.in-Ok.ensures.found.handed;
      };
      new = ends.0;
      fails = ends.1;
      starts = ends.2;
      calls = ends.3;
    }) c.failed_over.ensures
