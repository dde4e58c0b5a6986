use Rattle.std.proofs.Common.{◌≡◌, ⊎_elim, inr, sym}
use Rattle.meta_objset.specs.declared.record.DatasetKind.TheVariants as kinds
use Rattle.meta_objset.specs.declared.record.DatasetRecord.{DatasetRecord}
use Rattle.dataset_snapshots.proofs.ChainIndexes.{none_there, of_one_there, one_there}
use Rattle.dataset_snapshots.proofs.chaining.is_behind_one.Goals as goal

abbrev IsSnapshot : DatasetRecord → Type 0
IsSnapshot r = r.kind ≡ kinds.Snapshot

pub returns-in-Some : goal.returns-in-Some
returns-in-Some c = λ records is.
    let found = sym c.in-Some.ensures.value in (
      λ yes. inr (one_there records c.args.index.now is c.args.record.now.previous IsSnapshot c.in-Some.before.now found (c.is_snapshot.ensures.0 yes)),
      λ one. c.is_snapshot.ensures.1 (⊎_elim (λ none. absurd (c.if-record-eq0.false none))
          (λ there. of_one_there records c.args.index.now is c.args.record.now.previous IsSnapshot c.in-Some.before.now found there) one),
    )

pub returns-in-None : goal.returns-in-None
returns-in-None c = λ records is. (
  λ yes. absurd (cc),
  λ one. absurd (⊎_elim (λ none. c.if-record-eq0.false none)
      (λ there. none_there records c.args.index.now is c.args.record.now.previous IsSnapshot (sym c.in-None.ensures.value) there) one),
)
