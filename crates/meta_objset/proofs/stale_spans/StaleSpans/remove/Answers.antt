use Rattle.std.proofs.Common.{◌≡◌, ◌<◌, ℕ, List, length, get_or, Contains, sym, ap, subst, ◌∙◌}
use Rattle.meta_objset.specs.declared.stale_spans.StaleSpan.{StaleSpan}
use Rattle.meta_objset.specs.StaleSpans.{AreStaleSpans, FitsSpan, IsWithoutDisk}
use Rattle.meta_objset.proofs.Ordered.{taken_ordered, is_taken, old_there}
use Rattle.meta_objset.proofs.Spans.{disk_of, number_order, in_order, are_spans}
use Rattle.meta_objset.proofs.stale_spans.StaleSpans.remove.Goals as goal

pub invariant_of-self : goal.invariant_of-self
invariant_of-self c =
    let spans : List StaleSpan = c.self.inside.rows.items in
    let low : c.in_ok-at.at < length spans = subst (λ (all : List StaleSpan). c.in_ok-at.at < length all) c.deref.ensures.value c.in_ok-at.ensures.0 in
    subst AreStaleSpans (sym c.remove-span.ensures.items)
    (are_spans _ (taken_ordered disk_of ◌<◌ number_order FitsSpan spans c.in_ok-at.at c.remove-span.result (in_order spans c.self.invariant) low (sym c.remove-span.ensures.value)))

pub returns-clause-removed : goal.returns-clause-removed
returns-clause-removed c =
    let spans : List StaleSpan = c.self.inside.rows.items in
    let span : StaleSpan = c.remove-span.result in
    let same : spans ≡ c.args.self.now = cc in
    let here : get_or spans c.in_ok-at.at span ≡ span = sym c.remove-span.ensures.value in
    let low : c.in_ok-at.at < length spans = subst (λ (all : List StaleSpan). c.in_ok-at.at < length all) c.deref.ensures.value c.in_ok-at.ensures.0 in
    let disk : (get_or spans c.in_ok-at.at span).disk ≡ c.args.disk = subst (λ (all : List StaleSpan). (get_or all c.in_ok-at.at span).disk ≡ c.args.disk) c.deref.ensures.value (c.in_ok-at.ensures.1 span) in
    let is : span.disk ≡ c.args.disk = ap disk_of (sym here) ∙ disk in
    subst (λ (all : List StaleSpan). Contains all span × (span.disk ≡ c.args.disk) × IsWithoutDisk all c.args.disk c.remove-span.new.self.items) same (
      old_there disk_of ◌<◌ number_order FitsSpan spans c.in_ok-at.at span (in_order spans c.self.invariant) low here,
      is,
      subst (λ (n : ℕ). IsWithoutDisk spans n c.remove-span.new.self.items) is
          (subst (λ (all : List StaleSpan). IsWithoutDisk spans span.disk all) (sym c.remove-span.ensures.items)
          (is_taken disk_of ◌<◌ number_order FitsSpan spans c.in_ok-at.at span (in_order spans c.self.invariant) low here)),
    )
