use Rattle.std.proofs.Common.{◌≡◌, sym, ap, ◌∙◌, arith, true≢false}
use Rattle.std.specs.Prelude.{not}
use Rattle.meta_objset.specs.declared.record.DatasetKind.TheVariants as kinds
use Rattle.dataset_snapshots.proofs.ChainCounts.{counted_by}
use Rattle.dataset_snapshots.proofs.chaining.is_chained.Goals as goal

pub returns-then-not-is_snapshot : goal.returns-then-not-is_snapshot
returns-then-not-is_snapshot c = λ records is counted.
    let none : ¬ (c.args.one.now.record.kind ≡ kinds.Snapshot) = λ snapshot. true≢false (sym (c.is_snapshot.ensures.1 snapshot) ∙ c.if-not-is_snapshot.true) in (
      λ yes. record {
        behind = (c.is_behind_one.ensures records is).0 c.if-is_behind_one.true;
        followed = λ snapshot. absurd (none snapshot);
        counted = λ snapshot. absurd (none snapshot);
      },
      λ chained. ap not c.if-not-is_snapshot.true,
    )

pub returns-then-is_followed : goal.returns-then-is_followed
returns-then-is_followed c = λ records is counted.
    let followed = (c.is_followed.ensures records is).0 c.if-is_followed.true in
    let count = counted_by records c.args.counts.now c.args.one.now is.once counted followed in (
      λ yes. record {
        behind = (c.is_behind_one.ensures records is).0 c.if-is_behind_one.true;
        followed = λ snapshot. followed;
        counted = λ snapshot. omega (arith, count, c.is_counted.ensures.0 yes);
      },
      λ chained. c.is_counted.ensures.1 (omega (arith, count, chained.counted (c.is_snapshot.ensures.0 c.if-not-is_snapshot.false))),
    )

pub returns-else-is_followed : goal.returns-else-is_followed
returns-else-is_followed c = λ records is counted. (
  λ yes. absurd (true≢false (sym yes ∙ c.if-is_followed.false)),
  λ chained. (c.is_followed.ensures records is).1 (chained.followed (c.is_snapshot.ensures.0 c.if-not-is_snapshot.false)),
)

pub returns-else-is_behind_one : goal.returns-else-is_behind_one
returns-else-is_behind_one c = λ records is counted. (
  λ yes. absurd (true≢false (sym yes ∙ c.if-is_behind_one.false)),
  λ chained. (c.is_behind_one.ensures records is).1 chained.behind,
)
