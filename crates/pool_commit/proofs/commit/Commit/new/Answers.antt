use Rattle.std.proofs.Common.{◌≡◌, List, refl, ap, arith, subst, sym, ◌∙◌}
use Rattle.pool_model.specs.Pools.{no_volumes}
use Rattle.vdev_label.specs.Plain.{PlainVdev, config_view}
use Rattle.vdev_label.specs.declared.label.Config.{Config}
use Rattle.volume_rules.specs.Index.{Knows}
use Rattle.pool_commit.specs.declared.kept.KeptGroup.{KeptGroup}
use Rattle.pool_commit.specs.Slots.{IsStampOf}
use Rattle.pool_commit.proofs.Labels.{labels_lie}
use Rattle.pool_commit.proofs.Starting.{starts}
use Rattle.pool_commit.proofs.commit.Commit.new.Goals as goal

pub returns-clause-backs : goal.returns-clause-backs
returns-clause-backs g c =
    starts c.in-Ok.store c.new-3.result c.in_ok-stamp.stamp c.args.vdevs.now c.in-Ok.ensures.shapes c.in-Ok.ensures.out c.in-Ok.ensures.stale c.in-Ok.ensures.plans c.in-Ok.ensures.empty (record {
      committed = c.new-3.ensures.committed;
      root = ap (λ (kept : KeptGroup). kept.root) c.new-3.ensures.last;
      directory = ap (λ (kept : KeptGroup). kept.directory.value) c.new-3.ensures.last ∙ c.in_ok-no_directory.ensures;
      table = ap (λ (kept : KeptGroup). kept.spans_under.value) c.new-3.ensures.last ∙ c.in_ok-no_spans.ensures;
      names = subst (λ (kept : KeptGroup). Knows kept.names.value no_volumes) (sym c.new-3.ensures.last) c.in_ok-no_names.ensures;
      before = c.new-3.ensures.before;
      earliest = c.new-3.ensures.earliest;
    }) stamped
  where
    last_config : (c.new-3.result).last.config.value ≡ c.in_ok-config.config
    last_config = ap (λ (kept : KeptGroup). kept.config.value) c.new-3.ensures.last ∙ c.in_ok-shared.ensures.value

    stamped : IsStampOf (config_view (c.new-3.result).last.config.value) (c.in_ok-stamp.stamp).claim c.in_ok-stamp.stamp
    stamped =
        subst (λ (config : Config). IsStampOf (config_view config) (c.in_ok-stamp.stamp).claim c.in_ok-stamp.stamp) (sym last_config)
        (record { claim_is = refl; guids = c.in_ok-stamp.ensures.guids; digest = c.in_ok-stamp.ensures.digest })

pub returns-clause-stamp : goal.returns-clause-stamp
returns-clause-stamp g c = subst (λ (vdevs : List PlainVdev). IsStampOf vdevs 1 c.in_ok-stamp.stamp) c.in_ok-config.ensures.is c.in_ok-stamp.ensures

pub invariant_of-result : goal.invariant_of-result
invariant_of-result g c = record {
  disks = λ plan is. absurd (cc);
  suspension = c.lacks_disks-suspended.ensures;
  labels = labels_lie c.in-Ok.store.disks.starts c.in-Ok.store.spaces c.args.vdevs.now c.in-Ok.ensures.shapes;
  claim = (omega (arith, c.in_ok-stamp.ensures.claim_is), omega (arith, c.in_ok-stamp.ensures.claim_is));
}
