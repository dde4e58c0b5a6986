use Rattle.std.proofs.Common.{refl, ap}
use Rattle.pool_model.specs.Pools.{Entry}
use Rattle.volume_device.proofs.Nows.{now_at_rest}
use Rattle.volume_device.proofs.device.Device.new.Goals as goal

pub returns-clause-shows : goal.returns-clause-shows
returns-clause-shows g c = λ v represents rests first. record {
  view = v;
  represents = represents;
  now = now_at_rest v rests;
  safe = refl;
  goes_on = record {
    idle = rests.idle;
    none_waits = rests.none_waits;
    holds = rests.no_holds;
    numbers = first;
    only_writes = ap (λ (e : Entry). e.actions) rests.nothing;
    counts = λ none. rests.nothing;
  };
}
