-- What becomes unused of a metaslab as blocks are given back.
use Rattle.std.specs.Prelude.{ℕ, ◌≡◌, List}
use Rattle.block_pointer.specs.declared.block.Block.{Block}
use Rattle.space_map.specs.FreeRuns.{FreeRuns}
use Rattle.block_store.specs.declared.gone.MetaslabAt.{MetaslabAt}
use Rattle.block_store.specs.Maps.{LeavesUnused}
use Rattle.block_store.specs.Places.{planned}
use Rattle.block_store.specs.Releases.{CopyAt, AreReleased, copies_of_all}
use Rattle.block_store.specs.Spaces.{VdevSpace}

-- these blocks can't all be given back
abbrev pub AreNotReleasable : List VdevSpace → List Block → Type 0
AreNotReleasable spaces blocks = (after : List VdevSpace) (group : ℕ) → ¬ AreReleased spaces (copies_of_all blocks) group after

-- ---- Only the crate's own functions say these.

-- with the plan the set has what is unused of that metaslab
abbrev pub HasUnused : List VdevSpace → MetaslabAt → FreeRuns → Type 0
HasUnused spaces at free = (is : LeavesUnused spaces planned at.vdev at.metaslab free) × (is.space.shape ≡ at.shape)

-- wherever these copies are given back, the other set has what is unused then, if the one has before
abbrev pub GivesBack : MetaslabAt → List CopyAt → FreeRuns → FreeRuns → Type 0
GivesBack at copies free later = (spaces after : List VdevSpace) (group : ℕ) → AreReleased spaces copies group after
    → HasUnused spaces at free → HasUnused after at later

-- where the set has what is unused, these copies can't all be given back
abbrev pub CannotGiveBack : MetaslabAt → List CopyAt → FreeRuns → Type 0
CannotGiveBack at copies free = (spaces after : List VdevSpace) (group : ℕ) → HasUnused spaces at free → ¬ AreReleased spaces copies group after
