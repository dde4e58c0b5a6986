use Rattle.std.proofs.Common.{None, refl, subst}
use Rattle.programs.specs.ClaimStops.{AreTold}
use Rattle.programs.specs.DisksKept.{present}
use Rattle.programs.specs.OnDisks.{state_of}
use Rattle.programs.proofs.StatesOf.{state_with}
use Rattle.programs.proofs.pool_on_disks.PoolOnDisks.stop_claim.Goals as goal

pub returns : goal.returns
returns c =
    let disks = c.args.self.now.disks.items in
    record {
      told = c.in_ok-told.told.items;
      are_told = subst (λ out. AreTold c.args.reached 0 (present out disks) c.in_ok-told.told.items) c.deref-2.ensures.value
          (subst (λ all. AreTold c.args.reached 0 (present c.deref-2.result.now all) c.in_ok-told.told.items) c.deref.ensures.value c.in_ok-told.ensures);
      left = c.in_ok-left.left.items;
      ends = c.in_ok-left.ensures;
      members = c.in_ok-members.members.items;
      kept = c.in_ok-members.ensures;
      stopped = refl;
      same = λ i. state_with (state_of c.args.self.now).core (c.put_back.ensures i) (state_of c.args.self.now).absent None;
    }
