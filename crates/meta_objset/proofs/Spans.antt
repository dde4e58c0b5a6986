-- Stale spans in the order of their disks.
use Rattle.std.proofs.Common.{◌≡◌, ℕ, ◌^◌, ◌<◌, List, length, inl, inr, arith, rules}
use Rattle.std.proofs.lemmas.Bool.{cases_lt}
use Rattle.words.specs.Words.{AreWords}
use Rattle.words.proofs.WordLemmas.{length-word_bytes}
use Rattle.meta_objset.specs.declared.stale_spans.StaleSpan.{StaleSpan}
use Rattle.meta_objset.specs.StaleSpans.{FitsSpan, AreStaleSpans, span_bytes, span_words}
use Rattle.meta_objset.proofs.Ordered.{IsOrder, AreOrdered}

abbrev pub disk_of : StaleSpan → ℕ
disk_of span = span.disk

abbrev pub Earlier : StaleSpan → StaleSpan → Type 0
Earlier span later = span.disk < later.disk

pub number_order : IsOrder ◌<◌
number_order = record {
  apart = λ a b lt same. absurd (omega (arith, lt, same));
  behind = λ a b not differ. elim (cases_lt a b) [
    | inl lt ↦ absurd (not lt)
    | inr most ↦ elim (cases_lt b a) [ inl lt ↦ lt | inr least ↦ absurd (differ (omega (arith, most, least))) ]
  ];
  through = λ a b c low high. omega (arith, low, high);
}

pub in_order : (spans : List StaleSpan) → AreStaleSpans spans → AreOrdered FitsSpan Earlier spans
in_order spans is = record { each = is.each; order = is.order }

pub are_spans : (spans : List StaleSpan) → AreOrdered FitsSpan Earlier spans → AreStaleSpans spans
are_spans spans is = record { each = is.each; order = is.order }

pub span_len : (span : StaleSpan) → length (span_bytes span) ≡ 32
span_len span = length-word_bytes (span_words span)

pub are_words : (span : StaleSpan) → FitsSpan span → AreWords (span_words span)
are_words span fits = let from : span.from < 2 ^ 64 = omega (arith, fits.order, fits.last) in search rules
