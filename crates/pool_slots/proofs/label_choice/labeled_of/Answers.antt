use Rattle.std.proofs.Common.{inl}
use Rattle.pool_slots.proofs.Choices.{other_none, other_some}
use Rattle.pool_slots.proofs.label_choice.labeled_of.Goals as goal

pub returns-in-Some-clause-some : goal.returns-in-Some-clause-some
returns-in-Some-clause-some c = record { summary = c.in-Some.ensures.some; config = inl c.in-Some.ensures.config }

pub returns-in_ok-other-in-None-clause-some : goal.returns-in_ok-other-in-None-clause-some
returns-in_ok-other-in-None-clause-some c = other_some c.args.shown.now c.args.digest.now c.summary-in-None.result c.in-None.ensures.none c.summary-in-None.ensures.some

pub returns-in_ok-other-in-None-clause-none : goal.returns-in_ok-other-in-None-clause-none
returns-in_ok-other-in-None-clause-none c = other_none c.args.shown.now c.in_ok-other-in-None.other c.summary-in-None.result c.in_ok-other-in-None.ensures.some c.summary-in-None.ensures.none
