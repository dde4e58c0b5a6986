use Rattle.block_pointer.specs.declared.pointer.BlockPtr.TheVariants as pointers
use Rattle.meta_objset.proofs.record.block_in.Goals as goal

pub returns-in-Block-clause-only : goal.returns-in-Block-clause-only
returns-in-Block-clause-only c = λ block spells.
    let read = c.in-Ok.ensures.only (pointers.Block block) spells in
    let is = c.in-Block.is in
    cc

pub returns-in-Hole-clause-only : goal.returns-in-Hole-clause-only
returns-in-Hole-clause-only c = λ block spells.
    let read = c.in-Ok.ensures.only (pointers.Block block) spells in
    let is = c.in-Hole.is in
    absurd cc

pub returns-in_default-clause-only : goal.returns-in_default-clause-only
returns-in_default-clause-only c = λ block spells.
    let read = c.in_default.ensures.only (pointers.Block block) spells in
    absurd cc
