use Rattle.std.proofs.Common.{◌⊎◌, option_map, inl, subst}
use Rattle.std.proofs.lemmas.Result.{IfOk-weaker}
use Rattle.pool_create.specs.CoreStateOf.{state_of as core_state}
use Rattle.programs.specs.DisksKept.{AreCopies, present}
use Rattle.programs.specs.OnDisks.{GoesOn, PoolState, Reopens, StopsInClaim, state_of}
use Rattle.programs.proofs.Reopening.{AreHandedIn, reopened, unopened}
use Rattle.programs.proofs.StatesOf.{state_with}
use Rattle.programs.proofs.pool_on_disks.PoolOnDisks.reopen.Goals as goal

pub returns-in-Ok : goal.returns-in-Ok
returns-in-Ok c =
    let old = state_of c.args.self.now in
    let handed_in = c.in_ok-handed_in.handed_in.items in
    let disks = c.close.new.self.disks.items in
    let before : PoolState = state_with (option_map core_state c.close.new.self.core) disks c.into_vec.result.items c.close.new.self.stop in
    let are : AreHandedIn old c.args.line before handed_in = record {
      none = c.close.ensures.core;
      closes = c.close.ensures.disks;
      absent = c.into_vec.ensures;
      stop = c.close.ensures.stop;
      copied = subst (λ out. AreCopies (present out disks) handed_in) c.deref-2.ensures.value
          (subst (λ all. AreCopies (present c.deref-2.result.now all) handed_in) c.deref.ensures.value c.in_ok-handed_in.ensures);
    } in
    IfOk-weaker c.go_on.result (λ outcome. GoesOn before (core_state c.in-Ok.opened.core) c.in-Ok.opened.uberblock c.args.line.rewind outcome (state_of c.go_on.new.self))
    (λ outcome. Reopens old c.args.line outcome (state_of c.go_on.new.self) ⊎ StopsInClaim old c.args.line outcome (state_of c.go_on.new.self))
    (λ outcome goes. reopened old before (state_of c.go_on.new.self) c.args.line handed_in (core_state c.in-Ok.opened.core) c.in-Ok.opened.uberblock outcome are c.in-Ok.ensures.opened.0 goes)
    c.go_on.ensures

pub returns : goal.returns
returns c =
    let old = state_of c.args.self.now in
    let handed_in = c.in_ok-handed_in.handed_in.items in
    let disks = c.close.new.self.disks.items in
    let before : PoolState = state_with (option_map core_state c.close.new.self.core) disks c.into_vec.result.items c.close.new.self.stop in
    let are : AreHandedIn old c.args.line before handed_in = record {
      none = c.close.ensures.core;
      closes = c.close.ensures.disks;
      absent = c.into_vec.ensures;
      stop = c.close.ensures.stop;
      copied = subst (λ out. AreCopies (present out disks) handed_in) c.deref-2.ensures.value
          (subst (λ all. AreCopies (present c.deref-2.result.now all) handed_in) c.deref.ensures.value c.in_ok-handed_in.ensures);
    } in
    inl (unopened old before c.args.line handed_in c.in-Err.failed c.refusal.result are c.refusal.ensures c.in-Err.ensures.refused)
