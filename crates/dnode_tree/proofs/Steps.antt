-- Reads and plans one after the other.
use Rattle.std.proofs.Common.{ℕ, List}
use Rattle.dnode.specs.declared.node.ObjectNode.{ObjectNode}
use Rattle.block_store.specs.Steps.{OnlyReadsAndPlans, AnswersTell}
use Rattle.block_store.specs.Store.{Store}
use Rattle.block_store.proofs.Steps.{no_room_on as no_room_for_on}
use Rattle.block_store.proofs.Telling.{tell_before, tell_after}
use Rattle.dnode_tree.specs.declared.writes.CopyCounts.{CopyCounts}
use Rattle.dnode_tree.specs.Writes.{HasNoRoom}

module _ (old mid new : Store) (missing : List ℕ) (first : OnlyReadsAndPlans old mid missing) (rest : OnlyReadsAndPlans mid new missing) where
  pub told_sooner : AnswersTell old new missing → AnswersTell old mid missing
  told_sooner tell = tell_before old mid new missing first rest tell

  pub told_later : AnswersTell old new missing → AnswersTell mid new missing
  told_later tell = tell_after old mid new missing first rest tell

pub no_room_on : (old mid new : Store) (missing : List ℕ) (node : ObjectNode) (copies : CopyCounts) → OnlyReadsAndPlans old mid missing → HasNoRoom mid new missing node copies → HasNoRoom old new missing node copies
no_room_on old mid new missing node copies steps (level, none) = (level, no_room_for_on old mid new missing _ _ steps none)
