use Rattle.pool_slots.proofs.Choices.{greatest_is}
use Rattle.pool_slots.proofs.label_choice.summary.Goals as goal

pub returns-clause-some : goal.returns-clause-some
returns-clause-some c =
    let source = c.in_ok-source.ensures.some in
    record {
      greatest = greatest_is c.args.shown.now c.greatest_claim-claim.result c.in_ok-source.source source.s source.at c.greatest_claim-claim.ensures;
      source = source;
      first = c.claim_label.ensures.chosen;
    }
