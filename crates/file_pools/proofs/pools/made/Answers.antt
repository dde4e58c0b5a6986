use Rattle.std.proofs.Common.{inr}
use Rattle.pool_create.specs.CoreStateOf.{state_of}
use Rattle.file_pools.proofs.pools.made.Goals as goal

pub returns-in-Ok-create-clause-made : goal.returns-in-Ok-create-clause-made
returns-in-Ok-create-clause-made g c = record {
  disks = c.args.disks.items;
  identity = c.in-Ok.asked.0;
  config = c.in-Ok.asked.1;
  asked = c.in-Ok.ensures.asked;
  first = c.in-Ok-create.field-0.uberblock;
  core = state_of c.in-Ok-create.field-0.core;
  made = c.in-Ok-create.ensures.created;
}

pub returns-in-Err-create-clause-refused : goal.returns-in-Err-create-clause-refused
returns-in-Err-create-clause-refused g c = inr (inr (record {
  disks = c.args.disks.items;
  identity = c.in-Ok.asked.0;
  config = c.in-Ok.asked.1;
  asked = c.in-Ok.ensures.asked;
  back = c.in-Err-create.field-0-1.items;
  refused = c.in-Err-create.ensures.refused;
}))
