use Rattle.std.proofs.Common.{inl}
use Rattle.commands.proofs.serving.served.Goals as goal

pub returns : goal.returns
returns g c = inl (record {
  export = c.in-Ok.export;
  told = c.in-Ok.ensures;
  device = c.new-device.result;
  core = c.new-device.ensures.core;
  named = c.new-device.ensures.name;
  shows = c.new-device.ensures.shows;
  new = c.serve.new.device;
  ended = c.serve.result;
  ends = c.serve.ensures.ends;
  last_is = c.into_core.ensures.core;
  stopped_is = c.stop_of-ended.ensures;
})
