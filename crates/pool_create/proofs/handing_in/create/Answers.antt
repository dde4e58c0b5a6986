use Rattle.std.proofs.Common.{inl, inr, refl, ap, ◌∙◌}
use Rattle.model_disk.specs.Joint.{log_of}
use Rattle.pool_members.specs.HandedIn.{disks_back}
use Rattle.pool_create.proofs.handing_in.create.Goals as goal

pub returns-in-Err-clause-refused : goal.returns-in-Err-clause-refused
returns-in-Err-clause-refused g c = inl (refl, ap (λ v. v.items) c.in-Err.ensures.back)

pub returns-in-Ok-create_over-clause-created : goal.returns-in-Ok-create_over-clause-created
returns-in-Ok-create_over-clause-created g c = record {
  array = c.new.result;
  is_array = (c.new.ensures.starts ∙ c.in-Ok.ensures.starts, λ which. c.new.ensures.calls which ∙ ap (λ logs. log_of logs which) c.in-Ok.ensures.calls);
  created = c.in-Ok-create_over.ensures.created;
}

pub returns-in-Err-create_over-clause-refused : goal.returns-in-Err-create_over-clause-refused
returns-in-Err-create_over-clause-refused g c = inr (record {
  array = c.new.result;
  is_array = (c.new.ensures.starts ∙ c.in-Ok.ensures.starts, λ which. c.new.ensures.calls which ∙ ap (λ logs. log_of logs which) c.in-Ok.ensures.calls);
  new = c.in-Err-create_over.array;
  refused = c.in-Err-create_over.ensures.refused;
  given = record {
    members = c.into_disks.result.items;
    starts = c.into_disks.ensures.starts;
    calls = c.into_disks.ensures.calls;
    given = c.restore.ensures ∙ ap (disks_back c.into_disks.result.items) c.in-Ok.ensures.handed;
  };
})
