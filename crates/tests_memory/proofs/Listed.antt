-- The rows of volumes tell what is told of them.
use Rattle.std.proofs.Common.{◌≡◌, List, [], ◌∷◌, map, refl, ap}
use Rattle.commands.specs.Rows.{listed_of}
use Rattle.pool_create.specs.VolumeShapes.{shape_of}
use Rattle.pool_model.specs.declared.volume.PlainVolume.{PlainVolume}
use Rattle.tests_memory.specs.Telling.{listed_at}

pub volumes_listed : (volumes : List PlainVolume) → map listed_at (map (λ v. record { name = v.name; shape = shape_of v }) volumes) ≡ map listed_of volumes
volumes_listed [] = refl
volumes_listed (v ∷ volumes) = ap (λ l. listed_of v ∷ l) (volumes_listed volumes)
