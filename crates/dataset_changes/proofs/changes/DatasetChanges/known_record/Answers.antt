use Rattle.std.proofs.Common.{Some, sym, ap, ◌∙◌}
use Rattle.dataset_changes.specs.declared.states.RecordState.{RecordState}
use Rattle.dataset_changes.proofs.changes.DatasetChanges.known_record.Goals as goal

pub returns-in-Some-Read-clause-fits : goal.returns-in-Some-Read-clause-fits
returns-in-Some-Read-clause-fits c =
    c.args.self.now.records_fit.fit _ _ (sym c.in-Some-Read.ensures.value ∙ ap (λ (state : RecordState). Some state) c.in-Some-Read.field-0-is)

pub returns-in-Some-Changed-clause-fits : goal.returns-in-Some-Changed-clause-fits
returns-in-Some-Changed-clause-fits c =
    c.args.self.now.records_fit.fit _ _ (sym c.in-Some-Changed.ensures.value ∙ ap (λ (state : RecordState). Some state) c.in-Some-Changed.field-0-is)

pub returns-in-Some-Made-clause-fits : goal.returns-in-Some-Made-clause-fits
returns-in-Some-Made-clause-fits c =
    c.args.self.now.records_fit.fit _ _ (sym c.in-Some-Made.ensures.value ∙ ap (λ (state : RecordState). Some state) c.in-Some-Made.field-0-is)
