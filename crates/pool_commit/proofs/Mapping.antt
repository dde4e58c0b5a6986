-- The space maps of kept groups, on other vdevs of the same shapes, and where other blocks are known.
use Rattle.std.proofs.Common.{◌≡◌, ℕ, List, Option, Some, None, sym, subst, ◌∙◌, arith}
use Rattle.block_pointer.specs.declared.block.Block.{Block}
use Rattle.block_store.specs.Blocks.{Contents, Extends}
use Rattle.block_store.specs.Places.{shapes_of}
use Rattle.block_store.specs.Spaces.{VdevSpace}
use Rattle.dataset_snapshots.proofs.Readings.{roots_spell_one_pool}
use Rattle.dataset_snapshots.proofs.Standing.{roots_stand}
use Rattle.dataset_snapshots.specs.Laws.{KeepsEach}
use Rattle.dataset_snapshots.specs.Mapped.{HasItsMaps}
use Rattle.dataset_snapshots.specs.Pools.{SpellsPool}
use Rattle.dataset_snapshots.specs.Reach.{reach_of}
use Rattle.pool_model.specs.Pools.{PlainPool}
use Rattle.pool_commit.specs.declared.kept.KeptGroup.{KeptGroup}
use Rattle.pool_commit.specs.Backs.{HasMaps, KeptHasMaps, KeptLeadsTo, LeadsTo}
use Rattle.dataset_snapshots.proofs.MapsReaching.{maps_for_stay}

-- ---- other vdevs of the same shapes

pub its_maps_over : (spaces after : List VdevSpace) (stored : Contents) (group : ℕ) (root : Block) (pool : PlainPool) (is : SpellsPool stored group root pool)
    → shapes_of after ≡ shapes_of spaces → HasItsMaps spaces is → HasItsMaps after is
its_maps_over spaces after stored group root pool is shapes has = record {
  copied = has.copied;
  once = has.once;
  apart = has.apart;
  maps = maps_for_stay is.objects spaces after (reach_of is) shapes has.maps;
}

pub maps_over : (spaces after : List VdevSpace) (stored : Contents) (group : ℕ) (root : Option Block) (pool : PlainPool) → shapes_of after ≡ shapes_of spaces
    → HasMaps spaces stored group root pool → HasMaps after stored group root pool
maps_over spaces after stored group (Some root) pool shapes has = (has.0, its_maps_over spaces after stored group root pool has.0 shapes has.1)
maps_over spaces after stored group None pool shapes has = has

pub kept_maps_over : (spaces after : List VdevSpace) (stored : Contents) (group : ℕ) (kept : Option KeptGroup) (pool : Option PlainPool) → shapes_of after ≡ shapes_of spaces
    → KeptHasMaps spaces stored group kept pool → KeptHasMaps after stored group kept pool
kept_maps_over spaces after stored group (Some kept) (Some pool) shapes has = maps_over spaces after stored group kept.root pool shapes has
kept_maps_over spaces after stored group (Some kept) None shapes has = has
kept_maps_over spaces after stored group None pool shapes has = has

-- ---- other blocks

-- the maps are those of a root still where the blocks that it leads to stay known
pub maps_stand : (spaces : List VdevSpace) (old new : Contents) (group : ℕ) (root : Option Block) (pool : PlainPool) (blocks : List Block) → KeepsEach old new blocks
    → LeadsTo old group root pool blocks → HasMaps spaces old group root pool → HasMaps spaces new group root pool
maps_stand spaces old new group (Some root) pool blocks keeps leads has =
    let one = roots_spell_one_pool old group group root pool pool leads.0 has.0 in
    let reach : blocks ≡ reach_of has.0 = sym leads.1 ∙ one.1 in
    let there = roots_stand old new group group root pool (omega arith) has.0 (subst (KeepsEach old new) reach keeps) in
    (there.0, there.3 spaces has.1)
maps_stand spaces old new group None pool blocks keeps leads has = has

pub kept_maps_stand : (spaces : List VdevSpace) (old new : Contents) (group : ℕ) (kept : Option KeptGroup) (pool : Option PlainPool) (blocks : List Block) → KeepsEach old new blocks
    → KeptLeadsTo old group kept pool blocks → KeptHasMaps spaces old group kept pool → KeptHasMaps spaces new group kept pool
kept_maps_stand spaces old new group (Some kept) (Some pool) blocks keeps leads has = maps_stand spaces old new group kept.root pool blocks keeps leads has
kept_maps_stand spaces old new group (Some kept) None blocks keeps leads has = has
kept_maps_stand spaces old new group None pool blocks keeps leads has = has

-- and where more is known
pub maps_stay : (spaces : List VdevSpace) (before later : Contents) (group : ℕ) (root : Option Block) (pool : PlainPool) → Extends before later
    → HasMaps spaces before group root pool → HasMaps spaces later group root pool
maps_stay spaces before later group (Some root) pool more has =
    let there = roots_stand before later group group root pool (omega arith) has.0 (λ block bytes held known. more block bytes known) in
    (there.0, there.3 spaces has.1)
maps_stay spaces before later group None pool more has = has

pub kept_maps_stay : (spaces : List VdevSpace) (before later : Contents) (group : ℕ) (kept : Option KeptGroup) (pool : Option PlainPool) → Extends before later
    → KeptHasMaps spaces before group kept pool → KeptHasMaps spaces later group kept pool
kept_maps_stay spaces before later group (Some kept) (Some pool) more has = maps_stay spaces before later group kept.root pool more has
kept_maps_stay spaces before later group (Some kept) None more has = has
kept_maps_stay spaces before later group None pool more has = has
