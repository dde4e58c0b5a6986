use Rattle.pool_slots.proofs.Choices.{chosen_least}
use Rattle.pool_slots.proofs.label_choice.claim_label.Goals as goal

pub returns-clause-chosen : goal.returns-clause-chosen
returns-clause-chosen c =
    chosen_least c.args.shown.now c.args.claim c.first_least.result c.in_default.ensures.none c.in_default-first_spare.ensures.none c.first_least.ensures.within c.first_least.ensures.least
