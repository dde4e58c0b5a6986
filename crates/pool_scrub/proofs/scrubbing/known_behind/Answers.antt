use Rattle.std.proofs.Common.{ℕ, List, ap, ◌∙◌, subst}
use Rattle.stale_disks.specs.Rules.{AreSpansWithout, guids_in}
use Rattle.vdev_label.specs.Plain.{config_view}
use Rattle.vdev_label.specs.declared.label.Config.{Config}
use Rattle.pool_scrub.proofs.Cleared.{one_for_each}
use Rattle.pool_scrub.proofs.scrubbing.known_behind.Goals as goal

pub returns-clause-spans : goal.returns-clause-spans
returns-clause-spans c =
    subst (λ (guids : List ℕ). AreSpansWithout guids c.args.whole.now c.args.known.spans c.in_ok-spans.spans)
    (c.deref.ensures.value ∙ c.in_ok-guids.ensures ∙ ap (λ (config : Config). guids_in (config_view config)) c.as_ref.ensures) c.in_ok-spans.ensures.spans

pub returns-clause-once : goal.returns-clause-once
returns-clause-once c = one_for_each c.args.known.spans c.in_ok-spans.ensures.order
