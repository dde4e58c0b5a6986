-- The uberblock of the committed group.
use Rattle.std.specs.Prelude.{◌≡◌, ◌⊎◌, None, Some}
use Rattle.block_pointer.specs.declared.block.Block.{Block}
use Rattle.uberblock_ring.specs.Uberblock.{IsNumber}
use Rattle.uberblock_ring.specs.declared.uberblock.Uberblock.{Uberblock}
use Rattle.pool_commit.specs.Slots.{uberblock_of}
use Rattle.pool_commit.specs.State.{State}

-- it leads to that group's root; its timestamp, which isn't kept, is 0
pub record IsLastUberblock (s : State) (u : Uberblock) : Type 0 where
  pub root : Block
  pub is_root : s.kept.last.root ≡ Some root
  pub is : u ≡ uberblock_of s.stamp s.kept.committed root 0
  pub group : IsNumber u.group
  pub claim : IsNumber u.claim

-- the group has no root, or a number that no uberblock has
abbrev pub LacksUberblock : State → Type 0
LacksUberblock s = (s.kept.last.root ≡ None) ⊎ ¬ IsNumber s.kept.committed
