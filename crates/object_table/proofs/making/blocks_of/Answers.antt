use Rattle.std.proofs.Common.{◌≡◌, ℕ, ◌+◌, ◌-◌, ◌*◌, ◌≤◌, List, length, take, drop, refl, sym, ap, subst, ◌∙◌, arith}
use Rattle.dnode_tree.specs.declared.writes.BlockWrite.{BlockWrite}
use Rattle.object_table.specs.Made.{AreBlocksOf}
use Rattle.object_table.proofs.Written.{no_blocks, next_block}
use Rattle.object_table.proofs.making.blocks_of.Goals as goal

pub loop-place-init : goal.loop-place-init
loop-place-init c = subst (λ (writes : List BlockWrite). AreBlocksOf c.args.first c.args.bytes.now 0 writes) (sym c.new-writes.ensures.items) (no_blocks c.args.first c.args.bytes.now)

pub loop-place-preserved : goal.loop-place-preserved
loop-place-preserved c =
    let bytes : List ℕ = c.args.bytes.now in
    let at : ℕ = c.loop-place.place * 4096 in
    let room : at + 4096 ≤ length bytes = omega (arith, c.loop-place-test.true) in
    let less : at + 4096 - at ≡ 4096 = omega arith in
    let is : c.in_ok-block.block.items ≡ take 4096 (drop at bytes) = c.in_ok-block.ensures.items ∙ ap (λ n. take n (drop at bytes)) less in
    subst (λ (writes : List BlockWrite). AreBlocksOf c.args.first bytes (c.loop-place.place + 1) writes) (sym c.in_ok-push.ensures)
    (next_block c.args.first bytes c.loop-place.place c.loop-place.writes.items (record { id = c.args.first + c.loop-place.place; bytes = c.in_ok-block.block }) c.loop-place.invariant refl is room)
