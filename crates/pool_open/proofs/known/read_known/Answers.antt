use Rattle.std.proofs.Common.{◌≡◌, ◌∙◌, Option, List, [], ◌∷◌, length, inl, inr, refl, subst, sym, ap, arith}
use Rattle.std.proofs.lemmas.Bool.Decides.{nat_tests}
use Rattle.meta_objset.specs.declared.stale_spans.StaleSpan.{StaleSpan}
use Rattle.std.proofs.lemmas.Result.{IfErr-weaker, IfOk-weaker}
use Rattle.disk_set.specs.declared.stale.GroupSpan.{GroupSpan}
use Rattle.raidz_io.proofs.Written.{IfOk-both}
use Rattle.pool_slots.proofs.Results.{if_err_is}
use Rattle.stale_disks.specs.Rules.{guids_in}
use Rattle.vdev_label.specs.Plain.{config_view}
use Rattle.vdev_label.specs.declared.label.Config.{Config}
use Rattle.pool_open.specs.Roots.{IsKnownRoot, IsNotReadAgain, IsRootNotKnown}
use Rattle.pool_open.specs.Words.{most_blocks}
use Rattle.pool_open.proofs.Knowing.{beside_on, known_again, known_at_once, known_none}
use Rattle.pool_open.proofs.known.read_known.Goals as goal

no_rows : (rows : List StaleSpan) → length rows ≡ 0 → rows ≡ []
no_rows [] none = refl
no_rows (row ∷ rows) none = absurd (omega (arith, none))

pub returns-in_err-first-clause-refused : goal.returns-in_err-first-clause-refused
returns-in_err-first-clause-refused g c =
    let failed = c.in_err-first.field-0.0 in
    let it = c.in_err-first.ensures.refused in
    if_err_is c.from_residual.result failed
    (λ f.
    IsRootNotKnown (guids_in (config_view c.args.config.now.value)) c.args.disks f.1 c.args.shapes.now c.args.out.now c.args.taken.now.group c.args.taken.now.root
    (most_blocks c.args.shapes.now) f.0) c.from_residual.ensures.1
    (record { only = it.only; why = elim it.why [ inl memory ↦ inl memory | inr once ↦ inr (inl once) ] })

pub returns-clause-only : goal.returns-clause-only
returns-clause-only g c =
    IfOk-weaker c.read_again.result _ _ (λ known only. beside_on c.args.out.now c.args.disks c.in_ok-first.first.disks known.disks c.in_ok-first.ensures.only only)
    c.read_again.ensures.only

pub returns-clause-root : goal.returns-clause-root
returns-clause-root g c =
    let first = c.in_ok-first.first in
    IfOk-both c.read_again.result _ _ _
    (λ known only root.
    known_again c.writes_elsewhere_keep.ensures c.args.disks first.disks known.disks c.args.shapes.now c.args.out.now known.root.stale.items c.args.taken.now.group c.args.taken.now.root
    first.contents known.root.contents c.in_ok-first.ensures.only.only only.only c.in_ok-first.ensures.contents
    (λ none. absurd (grind (arith, nat_tests, c.is_empty.ensures, c.if-is_empty.false, ap length (c.rows.ensures.value ∙ none)))) root)
    c.read_again.ensures.only c.read_again.ensures.root

pub returns-clause-refused : goal.returns-clause-refused
returns-clause-refused g c =
    let first = c.in_ok-first.first in
    IfErr-weaker c.read_again.result _ _
    (λ failed why. record {
      only = beside_on c.args.out.now c.args.disks first.disks failed.1 c.in_ok-first.ensures.only why.0;
      why = inr (inr (record {
        mid = first.disks;
        before = c.in_ok-first.ensures.only;
        after = why.0;
        first = first.contents;
        tells = record { read = c.in_ok-first.ensures.contents; some = λ none. absurd (grind (arith, nat_tests, c.is_empty.ensures, c.if-is_empty.false, ap length (c.rows.ensures.value ∙ none))) };
        why = subst (λ (config : Config). IsNotReadAgain (guids_in (config_view config)) first.disks failed.1 c.args.shapes.now c.args.out.now c.args.taken.now.group
            c.args.taken.now.root (most_blocks c.args.shapes.now) first.contents failed.0) c.in-Ok.ensures why.1;
      }));
    })
    c.read_again.ensures.refused

pub returns-then-is_empty-clause-root : goal.returns-then-is_empty-clause-root
returns-then-is_empty-clause-root g c =
    let first = c.in_ok-first.first in
    subst (λ (stale : List (Option GroupSpan)).
    IsKnownRoot c.args.disks first.disks c.args.shapes.now c.args.out.now c.args.taken.now.group c.args.taken.now.root first.contents stale) (sym c.new.ensures.items)
    (known_at_once c.args.disks first.disks c.args.shapes.now c.args.out.now c.args.taken.now.group c.args.taken.now.root first.contents c.in_ok-first.ensures.contents)

pub returns-then-is_empty-clause-known : goal.returns-then-is_empty-clause-known
returns-then-is_empty-clause-known g c = known_none c.args.out.now c.args.taken.now.group _ (no_rows c.in_ok-first.first.contents.spans (grind (arith, nat_tests, c.is_empty.ensures, c.if-is_empty.true, ap length c.rows.ensures.value)))
    c.new-spans.ensures c.new.ensures.items
