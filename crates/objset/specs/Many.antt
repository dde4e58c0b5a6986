-- Several data blocks of an object that are read at once.
use Rattle.std.specs.List.{AllZip}
use Rattle.std.specs.Prelude.{ℕ, ◌≡◌, List, Option, Contains, IsSomeAnd}
use Rattle.block_store.specs.declared.refusal.Refusal.{Refusal}
use Rattle.block_store.specs.Spaces.{VdevSpace}
use Rattle.block_store.specs.Store.{Store}
use Rattle.dnode.specs.declared.object_set.ObjectSet.{ObjectSet}
use Rattle.dnode_tree.specs.Many.{FoundBlocks}
use Rattle.dnode_tree.specs.Ways.{bytes_of}
use Rattle.objset.specs.Found.{IsDataFound, IsDataRefused}
use Rattle.objset.specs.Objects.{Object}

-- there is an object, and for each of the ids there is what its array has
abbrev pub AreDataOf : Option Object → List ℕ → FoundBlocks → Type 0
AreDataOf object ids found = AllZip (λ id block. IsSomeAnd object (λ it. bytes_of block ≡ it.array id)) ids found

-- for each of the ids there is what was found of the object's data block
abbrev pub AreDataFound : List VdevSpace → ObjectSet → ℕ → ℕ → List ℕ → FoundBlocks → Type 0
AreDataFound spaces set birth number ids found =
    AllZip (λ id block. IsDataFound spaces set birth number id (bytes_of block)) ids found

-- one of the object's data blocks was not read
abbrev pub IsOneDataRefused : Store → Store → List ℕ → ObjectSet → ℕ → ℕ → List ℕ → Refusal → Type 0
IsOneDataRefused old new missing set birth number ids refusal =
    (id : ℕ) × Contains ids id × IsDataRefused old new missing set birth number id refusal
