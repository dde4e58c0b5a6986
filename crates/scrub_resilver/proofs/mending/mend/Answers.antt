use Rattle.std.proofs.Common.{refl, List, Contains, length, subst, arith}
use Rattle.std.proofs.lemmas.List.{take_all}
use Rattle.std.proofs.lemmas.List.Elements.{Contains-get_or}
use Rattle.block_pointer.specs.declared.block.Block.{Block}
use Rattle.scrub_resilver.specs.Mending.{AreMendedInTurn, IsBlockMended, IsRightColumn}
use Rattle.scrub_resilver.proofs.Mended.{blocks_later, flushed_from, goes_on, none_written, one_more_block, one_of, repairs_none, repairs_on}
use Rattle.scrub_resilver.proofs.Turns.{one_more_turn}
use Rattle.scrub_resilver.proofs.mending.mend.Goals as goal

pub loop-block-init : goal.loop-block-init
loop-block-init g c = record { mends = repairs_none _ _ _; in_turn = refl; mended = λ block held. absurd (omega (arith, held.1)) }

pub returns-in_err-mend_block-clause-mends : goal.returns-in_err-mend_block-clause-mends
returns-in_err-mend_block-clause-mends g c =
    repairs_on _ _ c.args.disks.now c.loop-block.disks c.mend_block.new.disks c.loop-block.invariant.mends
    (one_of _ _ c.args.blocks.now _ _ _ (Contains-get_or c.args.blocks.now c.loop-block.block-index _ c.loop-block-test.true) c.in_err-mend_block.ensures.mends)

pub loop-block-preserved : goal.loop-block-preserved
loop-block-preserved g c = record {
  mends = repairs_on _ _ c.args.disks.now c.loop-block.disks c.mend_block.new.disks c.loop-block.invariant.mends
      (one_of _ _ c.args.blocks.now _ _ _ (Contains-get_or c.args.blocks.now c.loop-block.block-index _ c.loop-block-test.true) c.in_ok-mend_block.ensures.mends);
  in_turn = one_more_turn c.args.shapes.now c.args.missing.now c.args.blocks.now c.loop-block.block-index _ c.args.disks.now c.loop-block.disks c.mend_block.new.disks
      c.loop-block-test.true c.loop-block.invariant.in_turn c.in_ok-mend_block.ensures.turn;
  mended = one_more_block c.args.shapes.now c.args.disks.now c.loop-block.disks c.mend_block.new.disks c.args.missing.now c.args.blocks.now c.loop-block.block-index _
      c.loop-block-test.true (goes_on _ _ _ _ c.loop-block.invariant.mends) (goes_on _ _ _ _ c.in_ok-mend_block.ensures.mends) c.loop-block.invariant.mended
      c.in_ok-mend_block.ensures.mended;
}

pub returns-in_err-flush_each-clause-mends : goal.returns-in_err-flush_each-clause-mends
returns-in_err-flush_each-clause-mends g c =
    repairs_on _ _ c.args.disks.now c.loop-block.disks c.flush_each.new.disks c.loop-block.invariant.mends
    (none_written (IsRightColumn c.args.shapes.now c.args.blocks.now) _ _ _ c.in_err-flush_each.ensures.mends)

pub returns-clause-mends : goal.returns-clause-mends
returns-clause-mends g c =
    repairs_on _ _ c.args.disks.now c.loop-block.disks c.flush_each.new.disks c.loop-block.invariant.mends
    (none_written (IsRightColumn c.args.shapes.now c.args.blocks.now) _ _ _ c.in_ok-flush_each.ensures.mends)

pub returns-clause-mended : goal.returns-clause-mended
returns-clause-mended g c =
    blocks_later c.args.shapes.now c.args.disks.now c.loop-block.disks c.flush_each.new.disks c.args.missing.now c.args.blocks.now
    (goes_on _ _ _ _ c.in_ok-flush_each.ensures.mends)
    (subst (λ (them : List Block). (block : Block) → Contains them block → IsBlockMended c.args.shapes.now c.args.disks.now c.loop-block.disks c.args.missing.now block)
    (take_all c.loop-block.block-index c.args.blocks.now c.loop-block-test.false) c.loop-block.invariant.mended)

pub returns-clause-in_turn : goal.returns-clause-in_turn
returns-clause-in_turn g c = (
  c.loop-block.disks,
  subst (λ (them : List Block). AreMendedInTurn c.args.shapes.now c.args.missing.now them c.args.disks.now c.loop-block.disks)
      (take_all c.loop-block.block-index c.args.blocks.now c.loop-block-test.false) c.loop-block.invariant.in_turn,
  c.in_ok-flush_each.ensures.mends,
)

pub returns-clause-flushed : goal.returns-clause-flushed
returns-clause-flushed g c =
    flushed_from c.args.disks.now c.loop-block.disks c.flush_each.new.disks c.args.missing.now _ (length c.flush_each.new.disks.starts)
    (goes_on _ _ _ _ c.loop-block.invariant.mends) c.in_ok-flush_each.ensures.flushed
