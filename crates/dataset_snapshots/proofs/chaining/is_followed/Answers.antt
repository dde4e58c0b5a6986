use Rattle.std.proofs.Common.{◌≡◌, sym}
use Rattle.std.proofs.lemmas.Bool.{eq-eqb, eqb-true}
use Rattle.meta_objset.specs.declared.record.DatasetRecord.{DatasetRecord}
use Rattle.dataset_snapshots.proofs.ChainIndexes.{none_there, of_one_there, one_there}
use Rattle.dataset_snapshots.proofs.chaining.is_followed.Goals as goal

pub returns-in-Some : goal.returns-in-Some
returns-in-Some c = λ records is.
    let object = c.args.one.now.object in
    let Names : DatasetRecord → Type 0 = λ r. r.previous ≡ object in
    let found = sym c.in-Some.ensures.value in (
      λ yes. one_there records c.args.index.now is c.args.one.now.record.next Names c.in-Some.next.now found (eqb-true c.in-Some.next.now.previous object yes),
      λ followed. eq-eqb c.in-Some.next.now.previous object (of_one_there records c.args.index.now is c.args.one.now.record.next Names c.in-Some.next.now found followed),
    )

pub returns-in-None : goal.returns-in-None
returns-in-None c = λ records is.
    let object = c.args.one.now.object in
    let Names : DatasetRecord → Type 0 = λ r. r.previous ≡ object in (
      λ yes. absurd (cc),
      λ followed. absurd (none_there records c.args.index.now is c.args.one.now.record.next Names (sym c.in-None.ensures.value) followed),
    )
