-- Stale spans: the groups whose blocks a disk missed.
use Rattle.std.specs.Prelude.{ℕ, ◌≡◌, ◌≢◌, ◌⊎◌, ◌↔◌, ◌^◌, ◌<◌, ◌≤◌, List, [], ◌∷◌, All, AllPairs, Contains}
use Rattle.std.specs.List.{flat_map}
use Rattle.words.specs.Words.{word_bytes}
use Rattle.object_table.specs.declared.kind.TableKind.{TableKind}
use Rattle.object_table.specs.declared.shape.RowShape.{RowShape}
use Rattle.object_table.specs.Rows.{SpellsRows}
use Rattle.meta_objset.specs.declared.stale_spans.StaleSpan.{StaleSpan}

-- a disk's guid, and the first and the last group
pub record FitsSpan (span : StaleSpan) : Type 0 where
  pub disk : span.disk < 2 ^ 64
  pub order : span.from ≤ span.to
  pub last : span.to < 2 ^ 64

-- the disks ascend, so each is there once
pub record AreStaleSpans (spans : List StaleSpan) : Type 0 where
  pub each : All FitsSpan spans
  pub order : AllPairs (λ span later. span.disk < later.disk) spans

-- no span is the disk's
abbrev pub LacksDisk : List StaleSpan → ℕ → Type 0
LacksDisk spans disk = All (λ span. span.disk ≢ disk) spans

-- these are the spans before, but for this one of its disk
abbrev pub IsWithSpan : List StaleSpan → StaleSpan → List StaleSpan → Type 0
IsWithSpan before span after = (other : StaleSpan)
    → Contains after other ↔ ((Contains before other × (other.disk ≢ span.disk)) ⊎ (other ≡ span))

-- these are the spans before, but for the disk's
abbrev pub IsWithoutDisk : List StaleSpan → ℕ → List StaleSpan → Type 0
IsWithoutDisk before disk after = (other : StaleSpan)
    → Contains after other ↔ (Contains before other × (other.disk ≢ disk))

-- four words, and the last is zero
abbrev pub span_words : StaleSpan → List ℕ
span_words span = span.disk ∷ span.from ∷ span.to ∷ 0 ∷ []

-- the 32 bytes of a span's row
abbrev pub span_bytes : StaleSpan → List ℕ
span_bytes span = word_bytes (span_words span)

-- the bytes of the spans' rows, one after another
abbrev pub spans_bytes : List StaleSpan → List ℕ
spans_bytes spans = flat_map span_bytes spans

-- rows of 32 bytes behind a first row of 32
abbrev pub spans_shape : RowShape
spans_shape = record { first_len = 32; row_len = 32 }

-- stale spans have type 204
abbrev pub spans_kind : TableKind
spans_kind = record { object_type = 204; rows = spans_shape }

-- the bytes of whole blocks, and no others, spell the spans
abbrev pub SpellsSpans : List ℕ → List StaleSpan → Type 0
SpellsSpans bytes spans = AreStaleSpans spans × SpellsRows spans_shape bytes (spans_bytes spans)
