use Rattle.std.proofs.Common.{refl}
use Rattle.meta_objset.specs.StaleSpans.{span_words}
use Rattle.meta_objset.proofs.Spans.{are_words}
use Rattle.meta_objset.proofs.stale_spans.first_span.Goals as goal

pub returns-in_err-words-clause-only : goal.returns-in_err-words-clause-only
returns-in_err-words-clause-only c = λ span rest fits e. absurd (c.in_err-words.ensures.only (span_words span) rest (are_words span fits) refl e)

pub returns-in_err-span-clause-only : goal.returns-in_err-span-clause-only
returns-in_err-span-clause-only c = λ span rest fits e.
    let read = c.in_ok-words.ensures.only (span_words span) rest (are_words span fits) refl e in
    let made = c.in_err-span.ensures.only span fits.order read.0 in
    absurd cc
