-- Numbers of the objects of space maps.
use Rattle.std.specs.Prelude.{ℕ, ◌+◌, ◌<◌, List, [], ◌∷◌}
use Rattle.block_store.specs.Shapes.{first_meta}
use Rattle.block_store.specs.Spaces.{VdevSpace}
use Rattle.pool_maps.specs.Plans.{numbers_end}

-- how many metaslabs may have a map: those before the meta regions
abbrev pub map_places : List VdevSpace → ℕ
map_places [] = 0
map_places (space ∷ spaces) = first_meta space.shape + map_places spaces

-- from the next number on there are fewer numbers of objects than such metaslabs
abbrev pub LacksNumbers : List VdevSpace → ℕ → Type 0
LacksNumbers spaces next = numbers_end < next + map_places spaces
