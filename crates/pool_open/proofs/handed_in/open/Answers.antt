use Rattle.std.proofs.Common.{List, refl, subst}
use Rattle.block_store.specs.declared.shape.VdevShape.{VdevShape}
use Rattle.pool_core.specs.StateOf.{state_of}
use Rattle.pool_open.specs.Retried.{IsNotOpenedAtLast, IsOpenedAtLast}
use Rattle.stale_disks.specs.Rules.{guids_in}
use Rattle.vdev_label.specs.Plain.{config_view}
use Rattle.pool_open.proofs.handed_in.open.Goals as goal

pub returns-in-Ok-open_over-clause-opened : goal.returns-in-Ok-open_over-clause-opened
returns-in-Ok-open_over-clause-opened g c =
    let found = c.in-Ok.found in
    let pool = c.in-Ok-open_over.pool in (
      record {
        array = c.new.result;
        shapes = found.shapes.items;
        out = found.out.items;
        ordered = record {
          members = found.disks.items;
          config = found.config.value;
          highest = found.highest;
          taken = found.taken;
          found = c.in-Ok.ensures.found.found;
          starts = c.new.ensures.starts;
          calls = c.new.ensures.calls;
          places = found.handed;
          handed = c.in-Ok.ensures.found.handed;
        };
        opened = subst (λ (s : List VdevShape). IsOpenedAtLast c.new.result s found.out.items c.args.rewind pool.uberblock (state_of pool.core)) c.deref.ensures.value
            c.in-Ok-open_over.ensures.opened;
        configured = c.in-Ok-open_over.ensures.config;
      },
      refl,
      c.in-Ok.ensures.found.named,
    )

pub returns-in-Err-clause-refused : goal.returns-in-Err-clause-refused
returns-in-Err-clause-refused g c = (c.in-Err.cause, c.from-refusal.ensures, c.in-Err.ensures.refused)

pub returns-clause-refused : goal.returns-clause-refused
returns-clause-refused g c =
    let found = c.in-Ok.found in
    let new = c.in-Err-open_over.disks in
    let refusal = c.in-Err-open_over.refusal in
    record {
      array = c.new.result;
      shapes = found.shapes.items;
      out = found.out.items;
      ordered = record {
        members = found.disks.items;
        config = found.config.value;
        highest = found.highest;
        taken = found.taken;
        found = c.in-Ok.ensures.found.found;
        starts = c.new.ensures.starts;
        calls = c.new.ensures.calls;
        places = found.handed;
        handed = c.in-Ok.ensures.found.handed;
      };
      new = new;
      refused = subst (λ (s : List VdevShape). IsNotOpenedAtLast (guids_in (config_view found.config.value)) c.new.result s found.out.items c.args.rewind new refusal) c.deref.ensures.value c.in-Err-open_over.ensures.refused;
      given = record { members = c.into_disks.result.items; starts = c.into_disks.ensures.starts; calls = c.into_disks.ensures.calls; given = c.restore.ensures };
    }
