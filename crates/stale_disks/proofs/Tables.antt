-- Tables of stale spans.
use Rattle.std.proofs.Common.{◌≡◌, ℕ, Option, List, [], ◌∷◌, ◌++◌, length, refl, sym, ap, arith}
use Rattle.std.proofs.lemmas.List.{length-append}
use Rattle.words.proofs.WordLemmas.{length-word_bytes}
use Rattle.objset.specs.Objects.{Object}
use Rattle.object_table.proofs.Readings.{table_once}
use Rattle.meta_objset.specs.Reading.{HasStaleSpans}
use Rattle.meta_objset.specs.StaleSpans.{span_bytes, span_words, spans_bytes, spans_kind}
use Rattle.meta_objset.specs.declared.stale_spans.StaleSpan.{StaleSpan}

-- a span has bytes
no_bytes : (spans : List StaleSpan) → spans_bytes spans ≡ [] → spans ≡ []
no_bytes [] none = refl
no_bytes (span ∷ spans) none =
    absurd (omega (arith, ap length none, length-append (span_bytes span) (spans_bytes spans), length-word_bytes (span_words span)))

-- an object with an empty table has no other
pub empty_once : (object : Option Object) (spans : List StaleSpan) → HasStaleSpans object [] → HasStaleSpans object spans → spans ≡ []
empty_once object spans none some = no_bytes spans (table_once spans_kind object (spans_bytes spans) [] some.1 none.1)
