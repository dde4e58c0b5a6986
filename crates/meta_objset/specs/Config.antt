-- The configuration as a table.
use Rattle.std.specs.Prelude.{ℕ, List}
use Rattle.object_table.specs.declared.shape.RowShape.{RowShape}
use Rattle.object_table.specs.Rows.{SpellsRows}
use Rattle.vdev_label.specs.Config.{FitsConfig, config_bytes}
use Rattle.vdev_label.specs.Plain.{PlainVdev}

-- a byte a row behind a first row of a word
abbrev pub config_shape : RowShape
config_shape = record { first_len = 8; row_len = 1 }

-- the rows of the table are the bytes of the configuration's list
abbrev pub SpellsConfigTable : List ℕ → List PlainVdev → Type 0
SpellsConfigTable bytes vdevs = FitsConfig vdevs × SpellsRows config_shape bytes (config_bytes vdevs)
