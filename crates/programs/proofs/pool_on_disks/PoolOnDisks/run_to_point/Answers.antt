use Rattle.std.proofs.Common.{◌≡◌, None, option_map, inl, inr, refl, ap}
use Rattle.pool_create.specs.CoreStateOf.{state_of as core_state}
use Rattle.programs.specs.Answers.{Begins}
use Rattle.programs.specs.Runs.{StepsTruly}
use Rattle.programs.specs.Stops.{FallsShort, StopsAt}
use Rattle.programs.proofs.StatesOf.{Shown, same_state, short_shown, stops_shown}
use Rattle.programs.proofs.pool_on_disks.PoolOnDisks.run_to_point.Goals as goal

pub returns-in_default-run_to : goal.returns-in_default-run_to
returns-in_default-run_to g c =
    let begins : Begins c.args.command c.in-Some.step = rw c.in-Some.is at c.in_ok-step.ensures in
    let stops : StopsAt (Shown core_state StepsTruly) c.args.point c.in-Some-core.core c.in-Some.step c.run_to.new.pool = rw c.in_default-run_to.is at c.run_to.ensures in
    inr (record {
      core = core_state c.in-Some-core.core;
      runs = ap (option_map core_state) c.in-Some-core.is;
      point = c.args.point;
      set = c.requires.set;
      first = c.in-Some.step;
      begins = begins;
      stopped = refl;
      later = core_state c.run_to.new.pool;
      stops = stops_shown core_state StepsTruly c.args.point c.in-Some-core.core c.run_to.new.pool c.in-Some.step stops;
      disks = c.close.new.self.disks.items;
      closes = c.close.ensures.disks;
      same = same_state (option_map core_state c.close.new.self.core) None c.close.new.self.disks.items c.close.new.self.absent.items c.args.self.now.absent.items None
          c.close.ensures.core c.close.ensures.absent;
    })

pub returns : goal.returns
returns g c =
    let begins : Begins c.args.command c.in-Some.step = rw c.in-Some.is at c.in_ok-step.ensures in
    let short : FallsShort (Shown core_state StepsTruly) c.args.point c.in-Some-core.core c.in-Some.step c.in-Some-run_to.reply c.run_to.new.pool = rw c.in-Some-run_to.is at c.run_to.ensures in
    inl (record {
      core = core_state c.in-Some-core.core;
      runs = ap (option_map core_state) c.in-Some-core.is;
      point = c.args.point;
      set = c.requires.set;
      first = c.in-Some.step;
      begins = begins;
      last = c.in-Some-run_to.reply;
      replied = refl;
      later = core_state c.run_to.new.pool;
      short = short_shown core_state StepsTruly c.args.point c.in-Some-core.core c.run_to.new.pool c.in-Some.step c.in-Some-run_to.reply short;
      same = refl;
    })
