-- What holds of reads one after the other holds of each.
use Rattle.std.proofs.Common.{ℕ, List}
use Rattle.block_store.specs.Steps.{OnlyReadsBlocks, AnswersTell}
use Rattle.block_store.specs.Store.{Store}
use Rattle.block_store.proofs.Telling.{read_before, read_after}

module _ (old mid new : Store) (missing : List ℕ) (first : OnlyReadsBlocks old mid missing) (rest : OnlyReadsBlocks mid new missing) where
  pub told_before : AnswersTell old new missing → AnswersTell old mid missing
  told_before tell = read_before old mid new missing first rest tell

  pub told_after : AnswersTell old new missing → AnswersTell mid new missing
  told_after tell = read_after old mid new missing first rest tell
