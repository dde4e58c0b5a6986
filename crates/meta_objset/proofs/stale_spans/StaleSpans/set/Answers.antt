use Rattle.std.proofs.Common.{◌≡◌, ◌<◌, ℕ, List, length, take, get_or, set, All, sym, subst, rules}
use Rattle.std.proofs.lemmas.List.{get_or_default}
use Rattle.meta_objset.specs.declared.stale_spans.StaleSpan.{StaleSpan}
use Rattle.meta_objset.specs.StaleSpans.{AreStaleSpans, FitsSpan, IsWithSpan, LacksDisk}
use Rattle.meta_objset.proofs.Ordered.{inserted_ordered, inserted_set, put_set}
use Rattle.meta_objset.proofs.Spans.{Earlier, disk_of, number_order, in_order, are_spans}
use Rattle.meta_objset.proofs.stale_spans.StaleSpans.set.Goals as goal

pub returns-in-Some-clause-set : goal.returns-in-Some-clause-set
returns-in-Some-clause-set c =
    let spans : List StaleSpan = c.self.inside.rows.items in
    let span : StaleSpan = c.args.span in
    let at : ℕ = c.in-Some.at in
    let same : spans ≡ c.args.self.now = cc in
    let low : at < length spans = subst (λ (all : List StaleSpan). at < length all) c.deref.ensures.value c.in-Some.ensures.0 in
    let disk : (get_or spans at span).disk ≡ span.disk = subst (λ (all : List StaleSpan). (get_or all at span).disk ≡ span.disk) c.deref.ensures.value (c.in-Some.ensures.1 span) in
    subst (λ (all : List StaleSpan). IsWithSpan all span (set spans at span)) same
    (put_set disk_of ◌<◌ number_order FitsSpan spans at (get_or spans at span) (in_order spans c.self.invariant) low (get_or_default spans at (get_or spans at span) span low) span disk)

pub invariant_of-self-2 : goal.invariant_of-self-2
invariant_of-self-2 c =
    let spans : List StaleSpan = c.self.inside.rows.items in
    let span : StaleSpan = c.args.span in
    let at : ℕ = c.count_before-at.result in
    let lacks : LacksDisk spans span.disk = subst (λ (all : List StaleSpan). LacksDisk all span.disk) c.deref.ensures.value c.in_default.ensures in
    let before : All (λ other. Earlier other span) (take at spans) = subst (λ (all : List StaleSpan). All (λ other. Earlier other span) (take at all)) c.deref-2.ensures.value c.count_before-at.ensures.before in
    let behind : (other : StaleSpan) → at < length spans → ¬ ((get_or spans at other).disk < span.disk) =
    subst (λ (all : List StaleSpan). (other : StaleSpan) → at < length all → ¬ ((get_or all at other).disk < span.disk)) c.deref-2.ensures.value c.count_before-at.ensures.behind in
    subst AreStaleSpans (sym c.in_ok-insert.ensures.items)
    (are_spans _ (inserted_ordered disk_of ◌<◌ number_order FitsSpan spans span at (in_order spans c.self.invariant) lacks before behind
    (record { disk = search rules; order = c.requires; last = search rules })))

pub returns-clause-set : goal.returns-clause-set
returns-clause-set c =
    let spans : List StaleSpan = c.self.inside.rows.items in
    let span : StaleSpan = c.args.span in
    let same : spans ≡ c.args.self.now = cc in
    let lacks : LacksDisk spans span.disk = subst (λ (all : List StaleSpan). LacksDisk all span.disk) c.deref.ensures.value c.in_default.ensures in
    subst (λ (all : List StaleSpan). IsWithSpan all span c.insert.new.self.items) same
    (subst (λ (all : List StaleSpan). IsWithSpan spans span all) (sym c.in_ok-insert.ensures.items) (inserted_set disk_of spans span c.count_before-at.result lacks))

pub returns-clause-order : goal.returns-clause-order
returns-clause-order c = invariant_of-self-2 c
