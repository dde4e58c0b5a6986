-- Blocks that are no longer known.
use Rattle.std.specs.Prelude.{ℕ, ◌≡◌, Some, None, List}
use Rattle.block_pointer.specs.declared.block.Block.{Block}
use Rattle.block_store.specs.Blocks.{Contents, Extends}
use Rattle.block_store.specs.Plans.{Plans}
use Rattle.block_store.specs.Store.{Store, Holds, Stores}

-- what a store holds, or stores, it does of fewer blocks
abbrev pub FewerAreHeld : Type 0
FewerAreHeld = (store : Store) (stored fewer : Contents) → Extends fewer stored
    → (Holds store stored → Holds store fewer) × (Stores store stored → Stores store fewer)

-- Of blocks that are stored and planned fewer are known: one that was stored is left out of both or of none, and one that
-- the plan adds is never left out, as its sectors stay in use.
pub record Forgets (store : Store) (stored planned fewer left : Contents) : Type 0 where
  pub kept : Extends fewer left
  pub of_stored : Extends fewer stored
  pub of_planned : Extends left planned
  pub both : (block : Block) (bytes : List ℕ) → stored block ≡ Some bytes → left block ≡ Some bytes → fewer block ≡ Some bytes
  pub of_new : (block : Block) (bytes : List ℕ) → planned block ≡ Some bytes → stored block ≡ None → left block ≡ Some bytes

-- a plan may forget such blocks
abbrev pub FewerArePlanned : Type 0
FewerArePlanned =
    (store : Store) (stored planned fewer left : Contents) → Forgets store stored planned fewer left → Plans store stored planned → Plans store fewer left
