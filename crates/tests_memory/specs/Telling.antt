-- What is told of an opened pool.
use Rattle.std.specs.Prelude.{Bool, false, not, ◌&&◌, ◌||◌, List, [], ◌∷◌}
use Rattle.commands.specs.Rows.{Listed}
use Rattle.pool_create.specs.NamedShape.{NamedShape}

-- the row of a name
abbrev pub listed_at : NamedShape → Listed
listed_at row = record { name = row.name; size = row.shape.size; block_size = row.shape.block_size; group = row.shape.group }

-- one of the disks is out that wasn't: so many of each there are
abbrev pub has_lost : List Bool → List Bool → Bool
has_lost [] now = false
has_lost (was ∷ before) [] = false
has_lost (was ∷ before) (is ∷ now) = is && not was || has_lost before now
