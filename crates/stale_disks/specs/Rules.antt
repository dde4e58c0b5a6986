-- Which spans the disks of a pool have, by what was known and which of them are out.
use Rattle.std.specs.Prelude.{ℕ, ◌≡◌, ◌<◌, ◌≤◌, ◌==◌, ◌-◌, ◌^◌, ◌⊎◌, ◌↔◌, min, Bool, true, false, List, Option, Some, option_map, slice_get, map, flat_map, find, Contains}
use Rattle.disk_set.specs.Outs.{is_out}
use Rattle.disk_set.specs.declared.stale.GroupSpan.{GroupSpan}
use Rattle.meta_objset.specs.declared.stale_spans.StaleSpan.{StaleSpan}
use Rattle.meta_objset.specs.StaleSpans.{LacksDisk}
use Rattle.vdev_label.specs.Plain.{PlainVdev}

-- the guids of a configuration's disks, in the order of their numbers
abbrev pub guids_in : List PlainVdev → List ℕ
guids_in vdevs = flat_map (λ vdev. vdev.children) vdevs

-- the end of a span of a disk that is away
abbrev pub no_end : ℕ
no_end = 2 ^ 64 - 1

-- one of the first so many disks has this guid, and is out, or isn't
abbrev pub IsOfFirst : ℕ → List ℕ → List Bool → Bool → ℕ → Type 0
IsOfFirst count guids out is guid = (disk : ℕ) × (disk < count) × (slice_get guids disk ≡ Some guid) × (is_out out disk ≡ is)

-- so it is of one of all disks
abbrev pub IsOfDisk : List ℕ → List Bool → Bool → ℕ → Type 0
IsOfDisk guids out is guid = (disk : ℕ) × (slice_get guids disk ≡ Some guid) × (is_out out disk ≡ is)

-- a disk that is out as a group is planned lacks blocks from that group on, or from the beginning of the span that it has
abbrev pub LacksFrom : List StaleSpan → ℕ → ℕ → ℕ → Type 0
LacksFrom before guid group from =
    (LacksDisk before guid × (from ≡ group)) ⊎ ((span : StaleSpan) × Contains before span × (span.disk ≡ guid) × (from ≡ min span.from group))

-- The spans as a group is planned: each disk that is out has one without an end, and the others have those before.
abbrev pub AreSpansAfter : List ℕ → List Bool → ℕ → List StaleSpan → List StaleSpan → Type 0
AreSpansAfter guids out group before after = (span : StaleSpan)
    → Contains after span
    ↔ ((IsOfDisk guids out true span.disk × (span.to ≡ no_end) × LacksFrom before span.disk group span.from)
    ⊎ ((¬ IsOfDisk guids out true span.disk) × Contains before span))

-- the spans of the disks that aren't marked, and no others
abbrev pub AreSpansWithout : List ℕ → List Bool → List StaleSpan → List StaleSpan → Type 0
AreSpansWithout guids marks before after = (span : StaleSpan) → Contains after span ↔ ((¬ IsOfDisk guids marks true span.disk) × Contains before span)

-- the span has no end, and its disk is back
abbrev pub IsBack : List ℕ → List Bool → StaleSpan → Type 0
IsBack guids out span = (span.to ≡ no_end) × IsOfDisk guids out false span.disk

-- A row of the table as a group is opened. Where the disk is back its span ends with the group: it is none if it would begin later.
abbrev pub OpensAs : List ℕ → List Bool → ℕ → StaleSpan → StaleSpan → Type 0
OpensAs guids out group row span =
    (IsBack guids out row × (row.from ≤ group) × (span ≡ record row { to = group })) ⊎ ((¬ IsBack guids out row) × (span ≡ row))

-- The spans as a group is opened are those of the rows of its table.
abbrev pub AreSpansOpened : List ℕ → List Bool → ℕ → List StaleSpan → List StaleSpan → Type 0
AreSpansOpened guids out group table spans = (span : StaleSpan)
    → Contains spans span ↔ ((row : StaleSpan) × Contains table row × OpensAs guids out group row span)

-- the groups of the span that the disk of this guid has, if it has one
abbrev pub groups_of : List StaleSpan → ℕ → Option GroupSpan
groups_of spans guid = option_map (λ span. record { from = span.from; to = span.to }) (find (λ span. span.disk == guid) spans)

-- so it is of each disk
abbrev pub stale_groups : List StaleSpan → List ℕ → List (Option GroupSpan)
stale_groups spans guids = map (groups_of spans) guids
