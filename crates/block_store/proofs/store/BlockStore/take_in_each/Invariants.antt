use Rattle.std.proofs.Common.{◌≡◌, drop}
use Rattle.block_store.specs.Releases.{copies_of_all}
use Rattle.block_store.proofs.TakenEach.{TakenUpTo}
use Rattle.block_store.proofs.store.BlockStore.take_in_each.Given as goal

-- the copies of the blocks that are left are left, and the others were taken in
abbrev pub invariant-loop-block : goal.invariant-loop-block
invariant-loop-block g l =
    (l.self.disks ≡ l.fn.self.disks) × (l.self.out ≡ l.fn.self.out) × (l.self.spans ≡ l.fn.self.spans) × (l.self.due ≡ l.fn.self.due)
    × (l.self.stray ≡ l.fn.self.stray)
    × TakenUpTo l.fn.self.spaces (copies_of_all l.blocks) (copies_of_all (drop l.block-index l.blocks)) l.self.spaces
