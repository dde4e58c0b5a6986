use Rattle.std.proofs.Common.{inl, inr, ◌++◌, ◌∷◌, [], List, get_or, take, sym, subst}
use Rattle.std.proofs.lemmas.List.{take_more}
use Rattle.block_pointer.specs.declared.block.Block.{Block}
use Rattle.block_pointer.specs.declared.copies.Copies.TheVariants.{One}
use Rattle.raidz_io.proofs.Calls.{OnlyReads-none}
use Rattle.scrub_resilver.specs.Checking.{AreChecked}
use Rattle.scrub_resilver.specs.declared.fault.Finding.{Finding}
use Rattle.scrub_resilver.proofs.Found.{block_around, blocks_around, one_more_block}
use Rattle.scrub_resilver.proofs.Logs.{err_at, held_at, reads_on, untouched_on}
use Rattle.scrub_resilver.proofs.blocks.check.Goals as goal

-- what stands behind the end of a list of blocks
abbrev no_block : Block
no_block = record { copies = One (record { vdev = 0; offset = 0; allocated = 0 }); property = record { level = 0; object_type = 0; sectors = 0 }; birth = 0; fill = 0; checksum = [] }

pub returns-in_err-check_block-clause-reads : goal.returns-in_err-check_block-clause-reads
returns-in_err-check_block-clause-reads g c =
    reads_on c.args.disks.now c.loop-block.disks c.check_block.new.disks c.loop-block.invariant.reads c.in_err-check_block.ensures.reads

pub returns-in_err-check_block-clause-refused : goal.returns-in_err-check_block-clause-refused
returns-in_err-check_block-clause-refused g c =
    err_at c.from_residual.result c.in_err-check_block.field-0.0 _ c.from_residual.ensures.1
    (elim c.in_err-check_block.ensures.refused [
      | inl is ↦ inl is
      | inr (is, none) ↦ inr (is, (_, held_at c.args.blocks.now c.loop-block.block-index no_block c.loop-block-test.true, none))
    ])

pub loop-block-preserved : goal.loop-block-preserved
loop-block-preserved g c =
    let (more, is, at) = c.in_ok-check_block.ensures.checked in
    record {
      reads = reads_on c.args.disks.now c.loop-block.disks c.check_block.new.disks c.loop-block.invariant.reads c.in_ok-check_block.ensures.reads;
      untouched =
          untouched_on c.args.missing.now c.args.disks.now c.loop-block.disks c.check_block.new.disks c.loop-block.invariant.untouched c.in_ok-check_block.ensures.untouched;
      so_far =
          subst (λ (blocks : List Block). AreChecked c.args.shapes.now c.args.disks.now c.check_block.new.disks c.args.missing.now blocks c.check_block.new.found.items)
          (sym (take_more c.args.blocks.now c.loop-block.block-index no_block c.loop-block-test.true))
          (subst (λ (found : List Finding). AreChecked c.args.shapes.now c.args.disks.now c.check_block.new.disks c.args.missing.now
          (take c.loop-block.block-index c.args.blocks.now ++ get_or c.args.blocks.now c.loop-block.block-index no_block ∷ []) found) (sym is)
          (one_more_block c.args.shapes.now c.args.disks.now c.check_block.new.disks c.args.missing.now (take c.loop-block.block-index c.args.blocks.now)
          (get_or c.args.blocks.now c.loop-block.block-index no_block) c.loop-block.found.items more
          (blocks_around c.args.shapes.now c.args.disks.now c.args.disks.now c.loop-block.disks c.check_block.new.disks c.args.missing.now
          (take c.loop-block.block-index c.args.blocks.now) c.loop-block.found.items (OnlyReads-none c.args.disks.now) c.in_ok-check_block.ensures.reads
          c.loop-block.invariant.so_far)
          (block_around c.args.shapes.now c.args.disks.now c.loop-block.disks c.check_block.new.disks c.check_block.new.disks c.args.missing.now
          (get_or c.args.blocks.now c.loop-block.block-index no_block) more c.loop-block.invariant.reads (OnlyReads-none c.check_block.new.disks) at)));
    }
