-- One operation after another.
use Rattle.std.specs.Prelude.{◌≡◌, List, [], ◌∷◌, ◌++◌, Contains}
use Rattle.block_pointer.specs.declared.block.Block.{Block}
use Rattle.dead_list.specs.Blocks.{AreDistinct}
use Rattle.dead_list.specs.Datasets.{Pool, IsReached}
use Rattle.dead_list.specs.Operations.{Operation, NextGroup, Create, Overwrite, TakeSnapshot, MakeClone, DestroyHead, DestroySnapshot, MayDo, Makes}

-- an operation, and what it freed
pub record Step : Type 0 where
  pub operation : Operation
  pub freed : List Block

-- each may be done and makes of the pool what it says
abbrev pub Run : Pool → List Step → Pool → Type 0
Run old [] new = new ≡ old
Run old (step ∷ steps) new = (mid : Pool) × MayDo old step.operation × Makes old step.operation step.freed mid × Run mid steps new

-- the blocks that enter a head by the operation: none but by an overwrite
abbrev pub entered_by : Operation → List Block
entered_by NextGroup = []
entered_by (Create n) = []
entered_by (Overwrite head left entered) = entered
entered_by (TakeSnapshot head n) = []
entered_by (MakeClone snapshot n) = []
entered_by (DestroyHead head) = []
entered_by (DestroySnapshot snapshot) = []

-- all that entered heads
abbrev pub all_entered : List Step → List Block
all_entered [] = []
all_entered (step ∷ steps) = entered_by step.operation ++ all_entered steps

-- all that was freed
abbrev pub all_freed : List Step → List Block
all_freed [] = []
all_freed (step ∷ steps) = step.freed ++ all_freed steps

-- no block that was freed enters again
abbrev pub NoneComesBack : List Step → Type 0
NoneComesBack [] = Unit {0}
NoneComesBack (step ∷ steps) = ((block : Block) → Contains step.freed block → ¬ Contains (all_entered steps) block) × NoneComesBack steps

-- what was freed was freed once, and isn't reached again
pub record IsFreedForGood (steps : List Step) (new : Pool) : Type 0 where
  pub once : AreDistinct (all_freed steps)
  pub never : (block : Block) → Contains (all_freed steps) block → ¬ IsReached new.datasets block
