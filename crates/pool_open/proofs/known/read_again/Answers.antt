use Rattle.std.proofs.Common.{◌≡◌, ◌&&◌, ℕ, Option, List, true, false, true≢false, inl, inr, nat_eq, refl, subst, sym, ap, ◌∙◌}
use Rattle.std.specs.Bool.{Decides}
use Rattle.std.proofs.lemmas.Bool.Decides.{Decides-and, Decides-eqb}
use Rattle.std.proofs.lemmas.Slice.Eq.{slice_eq-Decides}
use Rattle.disk_set.specs.declared.stale.GroupSpan.{GroupSpan}
use Rattle.meta_objset.specs.declared.stale_spans.StaleSpan.{StaleSpan}
use Rattle.pool_slots.proofs.Results.{if_err_is}
use Rattle.stale_disks.specs.Rules.{guids_in}
use Rattle.vdev_label.specs.Plain.{config_view}
use Rattle.pool_open.specs.Roots.{AreReadBeside, IsNotReadAgain, IsReadOfRoot, IsRootNotRead}
use Rattle.pool_open.specs.Words.{most_blocks}
use Rattle.pool_open.proofs.Knowing.{known_spans, missed_of}
use Rattle.pool_open.proofs.known.read_again.Goals as goal

-- `==` of spans tells whether they are the same
span_decides : (a b : StaleSpan) → Decides (nat_eq a.disk b.disk && (nat_eq a.from b.from && nat_eq a.to b.to)) (a ≡ b)
span_decides a b =
    let both = Decides-and (nat_eq a.disk b.disk) (nat_eq a.from b.from && nat_eq a.to b.to) (Decides-eqb a.disk b.disk)
    (Decides-and (nat_eq a.from b.from) (nat_eq a.to b.to) (Decides-eqb a.from b.from) (Decides-eqb a.to b.to)) in (
      λ yes. let parts = both.0 yes in let disk = parts.0 in let from = parts.1.0 in let to = parts.1.1 in (λ i. record { disk = disk i; from = from i; to = to i }),
      λ same. both.1 (ap (λ (s : StaleSpan). s.disk) same, (ap (λ (s : StaleSpan). s.from) same, ap (λ (s : StaleSpan). s.to) same)),
    )

pub returns-in_err-read-clause-refused : goal.returns-in_err-read-clause-refused
returns-in_err-read-clause-refused g c =
    let failed = c.in_err-read.field-0.0 in
    let first = c.args.first in
    let guids = guids_in (config_view c.args.config.value) in
    let stale = c.in-Ok.it.again.items in
    let u = c.args.taken.now in
    let missed = missed_of c.args.out.now u.group first.contents.spans c.in-Ok.it.spans c.in-Ok.it.stale.items stale c.as_ref.result.now c.args.config.value
    c.as_ref.ensures c.in-Ok.ensures.again c.in-Ok.ensures.spans c.in-Ok.ensures.stale in
    let it : IsRootNotRead first.disks failed.1 c.args.shapes.now c.args.out.now stale u.group u.root (most_blocks c.args.shapes.now) failed.0 =
    subst (λ (most : ℕ). IsRootNotRead first.disks failed.1 c.args.shapes.now c.args.out.now stale u.group u.root most failed.0) c.count_sectors-left.ensures c.in_err-read.ensures.refused in
    if_err_is c.from_residual.result failed
    (λ f. AreReadBeside c.args.out.now first.disks f.1
    × IsNotReadAgain guids first.disks f.1 c.args.shapes.now c.args.out.now u.group u.root (most_blocks c.args.shapes.now) first.contents f.0) c.from_residual.ensures.1
    (it.only, elim it.why [ inl memory ↦ inl memory | inr refuses ↦ inr (stale, missed, inl refuses) ])

pub returns-clause-refused : goal.returns-clause-refused
returns-clause-refused g c = (
  c.in_ok-read.ensures.only,
  inr (
    c.in-Ok.it.again.items,
    missed_of c.args.out.now c.args.taken.now.group c.args.first.contents.spans c.in-Ok.it.spans c.in-Ok.it.stale.items c.in-Ok.it.again.items c.as_ref.result.now c.args.config.value
        c.as_ref.ensures c.in-Ok.ensures.again c.in-Ok.ensures.spans c.in-Ok.ensures.stale,
    inr (
      refl,
      record {
        again = c.in_ok-read.read.contents;
        read = c.in_ok-read.ensures.contents;
        other = λ same.
            let yes : false ≡ true = (slice_eq-Decides span_decides _ _ _ c.if-eq.ensures).1 (c.rows.ensures.value ∙ same ∙ sym c.rows-2.ensures.value) in
            absurd (true≢false (sym yes));
      },
    ),
  ),
)

pub returns-then-eq-clause-root : goal.returns-then-eq-clause-root
returns-then-eq-clause-root g c =
    subst (λ (stale : List (Option GroupSpan)).
    IsReadOfRoot c.args.first.disks c.in_ok-read.read.disks c.args.shapes.now c.args.out.now stale c.args.taken.now.group c.args.taken.now.root c.in_ok-read.read.contents)
    c.in-Ok.ensures.again c.in_ok-read.ensures.contents

pub returns-then-eq-clause-known : goal.returns-then-eq-clause-known
returns-then-eq-clause-known g c =
    let same = (slice_eq-Decides span_decides _ _ _ c.if-eq.ensures).0 refl in
    known_spans c.args.out.now c.args.taken.now.group _ c.as_ref.result.now c.args.first.contents.spans c.as_ref.ensures
    (sym (sym c.rows.ensures.value ∙ same ∙ c.rows-2.ensures.value)) c.in-Ok.ensures.spans c.in-Ok.ensures.stale
