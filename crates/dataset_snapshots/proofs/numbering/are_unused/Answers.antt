use Rattle.std.proofs.Common.{◌≡◌, [], inl, inr, sym, ap, ◌∙◌, arith}
use Rattle.std.proofs.lemmas.Bool.{cases_lt}
use Rattle.block_store.proofs.Steps.{reads_none, reads_on}
use Rattle.dnode_tree.proofs.FurtherReads.{told_before, told_after}
use Rattle.dataset_snapshots.proofs.numbering.are_unused.Goals as goal

pub loop-number-init : goal.loop-number-init
loop-number-init g c = record {
  reads = reads_none c.args.store.now [];
  unused = λ stored objects own blocks held are tell number low high. absurd (omega (arith, low, high));
}

pub returns-then-not-is_unused-clause-reads : goal.returns-then-not-is_unused-clause-reads
returns-then-not-is_unused-clause-reads g c = reads_on _ _ _ _ c.loop-number.invariant.reads c.is_unused.ensures.reads

pub loop-number-preserved : goal.loop-number-preserved
loop-number-preserved g c =
    let so_far = c.loop-number.invariant in
    let first = so_far.reads in
    let second = c.is_unused.ensures.reads in
    record {
      reads = reads_on _ _ _ _ first second;
      unused = λ stored objects own blocks held are tell number low high. elim (cases_lt number c.loop-number.number) [
        | inl before ↦ so_far.unused stored objects own blocks held are (told_before _ _ _ _ first second tell) number low before
        | inr behind ↦
            let at : c.loop-number.number ≡ number = omega (arith, behind, high) in
            ap objects (sym at)
            ∙ c.is_unused.ensures.unused c.if-not-is_unused.false stored objects own blocks (first.keeps stored held) are (told_after _ _ _ _ first second tell)
      ];
    }

pub returns-clause-unused : goal.returns-clause-unused
returns-clause-unused g c = λ told stored objects own blocks held are tell number low high.
    c.loop-number.invariant.unused stored objects own blocks held are tell number low (omega (arith, high, c.loop-number-test.false))
