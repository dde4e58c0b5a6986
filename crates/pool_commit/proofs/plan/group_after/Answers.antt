use Rattle.std.proofs.Common.{List, [], Some, inr, subst, sym}
use Rattle.dnode_tree.proofs.Refusing.{passed_on}
use Rattle.block_store.proofs.Steps.{steps_none}
use Rattle.meta_objset.specs.declared.directory.DirectoryRow.{DirectoryRow}
use Rattle.meta_objset.specs.declared.stale_spans.StaleSpan.{StaleSpan}
use Rattle.pool_model.specs.Pools.{applied}
use Rattle.stale_disks.specs.Rules.{AreSpansAfter, guids_in}
use Rattle.vdev_label.specs.Plain.{config_view}
use Rattle.vdev_label.specs.declared.label.Config.{Config}
use Rattle.pool_commit.specs.Directories.{SpellsBy}
use Rattle.pool_commit.proofs.plan.group_after.Goals as goal

pub returns-in_err-config-clause-steps : goal.returns-in_err-config-clause-steps
returns-in_err-config-clause-steps g c = steps_none c.args.store.now []

pub returns-in_err-spans-clause-steps : goal.returns-in_err-spans-clause-steps
returns-in_err-spans-clause-steps g c = steps_none c.args.store.now []

pub returns-in_err-names-clause-steps : goal.returns-in_err-names-clause-steps
returns-in_err-names-clause-steps g c = steps_none c.args.store.now []

pub returns-in_err-made-clause-known : goal.returns-in_err-made-clause-known
returns-in_err-made-clause-known g c =
    passed_on _ _ _ c.from_residual-in_err-made.ensures.1 (λ stored planned pool plans spells begins tell good effects.
    c.in_err-made.ensures.known stored planned pool plans spells begins tell good effects)

pub returns-clause-value : goal.returns-clause-value
returns-clause-value g c = λ stored planned pool before plans spells leads begins tell effects.
    let there = c.in_ok-made.ensures.value stored planned pool before plans spells leads begins tell effects in (
      there.0,
      there.1,
      there.2,
      record {
        root = there.3;
        directory = subst (λ (config : Config). SpellsBy there.0 c.args.group (Some c.in_ok-made.made.root) (applied c.args.group pool c.args.items.now) (c.in_ok-directory.directory).value (config_view config) (c.in_ok-spans_under.spans_under).value)
            (sym c.in_ok-config.ensures)
            (subst (λ (rows : List DirectoryRow). SpellsBy there.0 c.args.group (Some c.in_ok-made.made.root) (applied c.args.group pool c.args.items.now) rows (config_view c.args.last.now.config.value) (c.in_ok-spans_under.spans_under).value)
            (sym c.in_ok-directory.ensures)
            (subst (λ (table : List StaleSpan). SpellsBy there.0 c.args.group (Some c.in_ok-made.made.root) (applied c.args.group pool c.args.items.now) c.in_ok-made.made.directory (config_view c.args.last.now.config.value) table)
            (sym c.in_ok-spans_under.ensures) there.7));
        names = c.in_ok-names.ensures pool spells.names;
      },
      there.4,
      there.5,
      there.6,
      there.8,
    )

pub returns-in_err-made-clause-refused : goal.returns-in_err-made-clause-refused
returns-in_err-made-clause-refused g c =
    passed_on _ _ _ c.from_residual-in_err-made.ensures.1
    (inr (record { spans = c.in_ok-spans.spans; are = c.in_ok-spans.ensures.after; why = c.in_err-made.ensures.refused }))

pub returns-clause-spans : goal.returns-clause-spans
returns-clause-spans g c = record {
  table = subst (λ (table : List StaleSpan). AreSpansAfter (guids_in (config_view c.args.last.now.config.value)) c.args.store.now.out c.args.group c.args.last.now.spans.value table)
      (sym c.in_ok-spans_under.ensures) c.in_ok-spans.ensures.after;
  known = c.in_ok-try_clone.ensures;
}
