use Rattle.std.proofs.Common.{inr, refl}
use Rattle.pool_scrub.proofs.scrubbing.look_over.Goals as goal

pub returns-in-Ok-whole_of-clause-looked : goal.returns-in-Ok-whole_of-clause-looked
returns-in-Ok-whole_of-clause-looked g c = record {
  blocks = c.in-Ok-walk.walked.0.items;
  mid = c.in-Ok-walk.walked.1;
  walked = c.in-Ok-walk.ensures.walked;
  healed =
      rw (c.as_slice-shapes.ensures.value, c.deref.ensures.value, c.deref-2.ensures.value, c.in-Ok.ensures, c.as_slice-out.ensures.value) at c.in-Ok-heal.ensures.healed;
  whole = rw (c.as_slice-out.ensures.value, c.as_slice.ensures.value, c.as_slice-2.ensures.value) at c.in-Ok-whole_of.ensures;
}

pub returns-clause-refused : goal.returns-clause-refused
returns-clause-refused g c = inr (record {
  blocks = c.in-Ok-walk.walked.0.items;
  mid = c.in-Ok-walk.walked.1;
  walked = c.in-Ok-walk.ensures.walked;
  why = inr (
    refl,
    (
      c.in-Ok-heal.healed,
      rw (c.as_slice-shapes.ensures.value, c.deref.ensures.value, c.deref-2.ensures.value, c.in-Ok.ensures, c.as_slice-out.ensures.value) at c.in-Ok-heal.ensures.healed,
    ),
  );
})
