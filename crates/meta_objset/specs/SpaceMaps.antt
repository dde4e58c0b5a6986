-- Space maps: which object has the space map of a metaslab.
use Rattle.std.specs.Prelude.{ℕ, ◌≡◌, ◌≢◌, ◌⊎◌, ◌↔◌, ◌^◌, ◌<◌, List, [], ◌∷◌, All, AllPairs, Contains}
use Rattle.std.specs.List.{flat_map}
use Rattle.words.specs.Words.{word_bytes}
use Rattle.object_table.specs.declared.kind.TableKind.{TableKind}
use Rattle.object_table.specs.declared.shape.RowShape.{RowShape}
use Rattle.object_table.specs.Rows.{SpellsRows}
use Rattle.meta_objset.specs.declared.space_maps.MetaslabMap.{MetaslabMap}
use Rattle.meta_objset.specs.declared.space_maps.MetaslabPlace.{MetaslabPlace}

-- a vdev, and the place of a metaslab in it
pub record FitsPlace (place : MetaslabPlace) : Type 0 where
  pub vdev : place.vdev < 2 ^ 64
  pub index : place.index < 2 ^ 64

-- a metaslab, and the number of an object
pub record FitsMap (map : MetaslabMap) : Type 0 where
  pub metaslab : FitsPlace map.metaslab
  pub object : map.object < 2 ^ 64

-- in a vdev before, or before in the same one
abbrev pub IsEarlier : MetaslabPlace → MetaslabPlace → Type 0
IsEarlier place later =
    (place.vdev < later.vdev) ⊎ ((place.vdev ≡ later.vdev) × (place.index < later.index))

-- the metaslabs ascend, so each is there once
pub record AreSpaceMaps (maps : List MetaslabMap) : Type 0 where
  pub each : All FitsMap maps
  pub order : AllPairs (λ map later. IsEarlier map.metaslab later.metaslab) maps

-- no row is the metaslab's
abbrev pub LacksMetaslab : List MetaslabMap → MetaslabPlace → Type 0
LacksMetaslab maps metaslab = All (λ map. map.metaslab ≢ metaslab) maps

-- these are the rows before, but for this one of its metaslab
abbrev pub IsWithMap : List MetaslabMap → MetaslabMap → List MetaslabMap → Type 0
IsWithMap before map after = (other : MetaslabMap) → Contains after other
    ↔ ((Contains before other × (other.metaslab ≢ map.metaslab)) ⊎ (other ≡ map))

-- these are the rows before, but for the metaslab's
abbrev pub IsWithoutMetaslab : List MetaslabMap → MetaslabPlace → List MetaslabMap → Type 0
IsWithoutMetaslab before metaslab after = (other : MetaslabMap)
    → Contains after other ↔ (Contains before other × (other.metaslab ≢ metaslab))

-- four words, and the last is zero
abbrev pub map_words : MetaslabMap → List ℕ
map_words map = map.metaslab.vdev ∷ map.metaslab.index ∷ map.object ∷ 0 ∷ []

-- the 32 bytes of a row
abbrev pub map_bytes : MetaslabMap → List ℕ
map_bytes map = word_bytes (map_words map)

-- the bytes of the rows, one after another
abbrev pub maps_bytes : List MetaslabMap → List ℕ
maps_bytes maps = flat_map map_bytes maps

-- rows of 32 bytes behind a first row of 32
abbrev pub maps_shape : RowShape
maps_shape = record { first_len = 32; row_len = 32 }

-- space maps have type 205
abbrev pub maps_kind : TableKind
maps_kind = record { object_type = 205; rows = maps_shape }

-- the bytes of whole blocks, and no others, spell the rows
abbrev pub SpellsMaps : List ℕ → List MetaslabMap → Type 0
SpellsMaps bytes maps = AreSpaceMaps maps × SpellsRows maps_shape bytes (maps_bytes maps)
