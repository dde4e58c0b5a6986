use Rattle.std.proofs.Common.{inr}
use Rattle.pool_create.specs.CoreStateOf.{state_of}
use Rattle.programs.proofs.MadeOn.{is_made}
use Rattle.programs.proofs.making.made.Goals as goal

pub returns-in-Ok-create-clause-made : goal.returns-in-Ok-create-clause-made
returns-in-Ok-create-clause-made c =
    let disks = c.in-Ok-several.ensures in
    is_made c.args.line.now c.in-Ok-several.disks.items c.in-Ok.pool c.in-Ok.config c.in-Ok-create.opened.uberblock (state_of c.in-Ok-create.opened.core)
    (record { count = disks.count; sizes = disks.sizes; zeros = disks.zeros; fresh = disks.fresh }) c.in-Ok.ensures c.in-Ok-create.ensures.created
    c.answers_are_true.ensures.truly

pub returns-clause-refused : goal.returns-clause-refused
returns-clause-refused c =
    let disks = c.in-Ok-several.ensures in
    inr (record {
      disks = c.in-Ok-several.disks.items;
      blank = record { count = disks.count; sizes = disks.sizes; zeros = disks.zeros; fresh = disks.fresh };
      pool = c.in-Ok.pool;
      config = c.in-Ok.config;
      asked = c.in-Ok.ensures;
      refusal = c.in-Err.refusal;
      back = c.in-Err.field-0-1.items;
      refused = c.in-Err.ensures.refused;
      same = c.cause_of.ensures;
    })
