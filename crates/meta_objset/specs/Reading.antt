-- The pool's tables in the meta object set.
use Rattle.std.specs.Prelude.{List, Option}
use Rattle.objset.specs.Objects.{Object}
use Rattle.object_table.specs.declared.kind.TableKind.{TableKind}
use Rattle.object_table.specs.Tables.{HasTable}
use Rattle.vdev_label.specs.Config.{FitsConfig, config_bytes}
use Rattle.vdev_label.specs.Plain.{PlainVdev}
use Rattle.meta_objset.specs.declared.directory.DirectoryRow.{DirectoryRow}
use Rattle.meta_objset.specs.Config.{config_shape}
use Rattle.meta_objset.specs.declared.space_maps.MetaslabMap.{MetaslabMap}
use Rattle.meta_objset.specs.declared.stale_spans.StaleSpan.{StaleSpan}
use Rattle.meta_objset.specs.Directory.{IsDirectory, rows_bytes, directory_shape}
use Rattle.meta_objset.specs.SpaceMaps.{AreSpaceMaps, maps_bytes, maps_kind}
use Rattle.meta_objset.specs.StaleSpans.{AreStaleSpans, spans_bytes, spans_kind}

-- the directory has type 200, and the configuration 203
abbrev pub directory_kind : TableKind
directory_kind = record { object_type = 200; rows = directory_shape }

-- the configuration has type 203
abbrev pub config_kind : TableKind
config_kind = record { object_type = 203; rows = config_shape }

-- the object has the table of this directory
abbrev pub HasDirectory : Option Object → List DirectoryRow → Type 0
HasDirectory object rows = IsDirectory rows × HasTable directory_kind object (rows_bytes rows)

-- or of this configuration
abbrev pub HasConfig : Option Object → List PlainVdev → Type 0
HasConfig object vdevs = FitsConfig vdevs × HasTable config_kind object (config_bytes vdevs)

-- or of these stale spans
abbrev pub HasStaleSpans : Option Object → List StaleSpan → Type 0
HasStaleSpans object spans = AreStaleSpans spans × HasTable spans_kind object (spans_bytes spans)

-- or of these space maps
abbrev pub HasSpaceMaps : Option Object → List MetaslabMap → Type 0
HasSpaceMaps object maps = AreSpaceMaps maps × HasTable maps_kind object (maps_bytes maps)
