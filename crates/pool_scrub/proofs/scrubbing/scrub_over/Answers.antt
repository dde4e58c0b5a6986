use Rattle.std.proofs.Common.{inl, inr, refl, ◌∙◌}
use Rattle.pool_open.specs.CoreState.{config_of, spans_of}
use Rattle.pool_open.specs.CoreStateOf.{state_of}
use Rattle.pool_scrub.specs.Scrubbing.{IsNotScrubbedOver}
use Rattle.pool_scrub.proofs.Begun.{begun_alike, not_begun_alike}
use Rattle.pool_scrub.proofs.Results.{err_at}
use Rattle.pool_scrub.proofs.scrubbing.scrub_over.Goals as goal

pub returns-in-Err-clause-refused : goal.returns-in-Err-clause-refused
returns-in-Err-clause-refused g c =
    inr (c.in-Ok.layout, c.in-Ok.ensures, inl (rw (c.in-Err.is, c.into_array-2.ensures) at c.look_over-looked.ensures.refused))

pub returns-in_err-core-clause-refused : goal.returns-in_err-core-clause-refused
returns-in_err-core-clause-refused g c =
    err_at c.from_residual.result c.in_err-core.field-0.0 (λ failed. IsNotScrubbedOver (state_of c.args.core) c.args.uberblock.now failed.1 failed.0) c.from_residual.ensures.1
    (inr (
      c.in-Ok.layout,
      c.in-Ok.ensures,
      inr (record {
        looked = c.in-Ok-looked.looked;
        mid = c.look_over-looked.result.1;
        looked_is = rw (c.in-Ok-looked.is, c.into_array-2.ensures) at c.look_over-looked.ensures.looked;
        why =
            not_begun_alike c.look_over-looked.result.1 c.in-Ok.layout c.args.uberblock.now (config_of (state_of c.args.core)) _ (spans_of (state_of c.args.core)) _
            c.in-Ok-looked.looked _ _ c.in-Ok-known_disks.ensures.config c.in-Ok-known_disks.ensures.spans c.in_err-core.ensures.refused;
      }),
    ))

pub returns-clause-scrubbed : goal.returns-clause-scrubbed
returns-clause-scrubbed g c = record {
  layout = c.in-Ok.layout;
  is_layout = c.in-Ok.ensures;
  looked = c.in-Ok-looked.looked;
  mid = c.look_over-looked.result.1;
  looked_is = rw (c.in-Ok-looked.is, c.into_array-2.ensures) at c.look_over-looked.ensures.looked;
  begun =
      begun_alike c.look_over-looked.result.1 c.in-Ok.layout c.args.uberblock.now (config_of (state_of c.args.core)) _ (spans_of (state_of c.args.core)) _
      c.in-Ok-looked.looked (state_of c.in_ok-core.core) c.in-Ok-known_disks.ensures.config c.in-Ok-known_disks.ensures.spans c.in_ok-core.ensures.again;
  group = refl;
  findings = c.len.ensures ∙ c.in-Ok-looked.looked.healed.found.ok.0;
  left = c.len-2.ensures ∙ c.in-Ok-looked.looked.healed.left.ok.0;
}
