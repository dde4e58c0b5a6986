use Rattle.std.proofs.Common.{◌<◌, ◌≤◌, [], inl, subst, arith}
use Rattle.block_store.proofs.Steps.{reads_none}
use Rattle.dataset_snapshots.proofs.ChangedRows.{none_behind}
use Rattle.dataset_snapshots.proofs.Renumbered.{has_numbers}
use Rattle.dataset_snapshots.proofs.numbering.reuse_numbers.Goals as goal

pub returns-in_default-clause-reads : goal.returns-in_default-clause-reads
returns-in_default-clause-reads g c = reads_none c.args.store.now []

pub returns-in_default-clause-numbers : goal.returns-in_default-clause-numbers
returns-in_default-clause-numbers g c = has_numbers c.args.set.now c.args.datasets.now c.requires.numbers

pub returns-in_default-clause-room : goal.returns-in_default-clause-room
returns-in_default-clause-room g c = inl c.requires.numbers.end

pub returns-in_default-clause-unused : goal.returns-in_default-clause-unused
returns-in_default-clause-unused g c = λ stored objects own blocks held are tell number low high.
    let next = c.requires.numbers.next in
    none_behind stored c.args.birth c.args.set.now objects own blocks number are (omega (arith, next, low))

pub returns-then-are_unused-clause-unused : goal.returns-then-are_unused-clause-unused
returns-then-are_unused-clause-unused g c = λ stored objects own blocks held are tell number low high.
    c.are_unused.ensures.unused c.if-are_unused.true stored objects own blocks held are tell number (subst (λ n. n ≤ number) c.number_from.ensures.next low)
    (subst (λ n. number < n) c.number_from.ensures.bounds.0 high)
