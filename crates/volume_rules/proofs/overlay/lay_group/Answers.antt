use Rattle.std.proofs.Common.{ap, sym, ◌∙◌}
use Rattle.std.specs.Option.{option_copied}
use Rattle.volume_rules.proofs.Laying.{lays_nowhere, lays_over_snapshot, lays_over_volume}
use Rattle.volume_rules.proofs.overlay.lay_group.Goals as goal

pub returns-in_default : goal.returns-in_default
returns-in_default c =
    lays_nowhere c.args.items.now (option_copied c.args.name) c.args.size c.args.offset c.args.buffer.now
    (sym c.source_before.ensures ∙ ap option_copied c.in_default.is)

pub returns-then-not-is_of_snapshot : goal.returns-then-not-is_of_snapshot
returns-then-not-is_of_snapshot c =
    lays_over_volume c.args.items.now (option_copied c.args.name) c.args.size c.args.offset c.in-Some.source.now c.args.buffer.now c.lay_pending.new.buffer
    (sym c.source_before.ensures ∙ ap option_copied c.in-Some.is) (sym c.is_of_snapshot.ensures ∙ c.if-not-is_of_snapshot.true) c.lay_pending.ensures

pub returns-else-not-is_of_snapshot : goal.returns-else-not-is_of_snapshot
returns-else-not-is_of_snapshot c =
    lays_over_snapshot c.args.items.now (option_copied c.args.name) c.args.size c.args.offset c.in-Some.source.now c.args.buffer.now
    (sym c.source_before.ensures ∙ ap option_copied c.in-Some.is) (sym c.is_of_snapshot.ensures ∙ c.if-not-is_of_snapshot.false)
