-- A configuration by its bytes, and the numbers in it.
use Rattle.std.specs.Prelude.{◌≡◌, ◌≢◌, ℕ, ◌%◌, ◌^◌, List, ◌∷◌, Result, Ok, Err}
use Rattle.std.specs.List.{flat_map, sum}
use Rattle.nvlist.specs.Grammar.{Fits, Spells, spelling}
use Rattle.nvlist.specs.Plain.{PlainList}
use Rattle.vdev_label.specs.Pairs.{tree_pairs}
use Rattle.vdev_label.specs.Plain.{PlainVdev, config_view}
use Rattle.vdev_label.specs.declared.label.Config.{Config}
use Rattle.vdev_label.specs.declared.refusal.Breach.{Breach}
use Rattle.vdev_label.specs.declared.refusal.Breach.TheVariants as breach
use Rattle.vdev_label.specs.declared.refusal.Refusal.{Refusal}
use Rattle.vdev_label.specs.declared.refusal.Refusal.TheVariants.{NoMemory, DiskFault, BadLabel}

-- the encoding of the list of `vdev_tree`
abbrev pub config_bytes : List PlainVdev → List ℕ
config_bytes vdevs = spelling (tree_pairs vdevs)

-- what has an encoding
abbrev pub FitsConfig : List PlainVdev → Type 0
FitsConfig vdevs = Fits (tree_pairs vdevs)

-- these bytes, and no others, spell the configuration
abbrev pub SpellsConfig : List ℕ → List PlainVdev → Type 0
SpellsConfig bytes vdevs = FitsConfig vdevs × (bytes ≡ config_bytes vdevs)

-- this configuration was found, unless memory ran out
abbrev pub FindsConfig : Result Config Refusal → List PlainVdev → Type 0
FindsConfig (Ok config) vdevs = config_view config ≡ vdevs
FindsConfig (Err refusal) vdevs = refusal ≡ NoMemory

-- what is wrong with the bytes of a configuration: they spell no list, or one of other pairs
abbrev pub IsConfigBreach : List ℕ → Breach → Type 0
IsConfigBreach bytes breach.Tail = ⊥
IsConfigBreach bytes breach.Digest = ⊥
IsConfigBreach bytes breach.List = (l : PlainList) → ¬ Spells bytes l
IsConfigBreach bytes breach.Pairs = (l : PlainList) × Spells bytes l × ((vdevs : List PlainVdev) → l ≢ tree_pairs vdevs)

-- why the bytes of a configuration are not read
abbrev pub IsConfigCause : List ℕ → Refusal → Type 0
IsConfigCause bytes NoMemory = Unit {0}
IsConfigCause bytes DiskFault = ⊥
IsConfigCause bytes (BadLabel it) = IsConfigBreach bytes it

-- the guids of the vdevs, each with those of its disks behind it
abbrev pub guids : List PlainVdev → List ℕ
guids vdevs = flat_map (λ v. v.guid ∷ v.children) vdevs

-- their sum in 64 bits
abbrev pub guid_sum : List PlainVdev → ℕ
guid_sum vdevs = sum (guids vdevs) % 2 ^ 64
