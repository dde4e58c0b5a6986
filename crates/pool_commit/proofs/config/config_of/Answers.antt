use Rattle.std.proofs.Common.{◌≡◌, ◌<◌, ◌≤◌, ◌∙◌, ◌+◌, ◌*◌, ◌^◌, ◌++◌, ℕ, zero, suc, List, [], ◌∷◌, Some, length, map, drop, refl, sym, ap, subst, arith, append_assoc}
use Rattle.std.specs.Prelude.{All, slice_get}
use Rattle.std.proofs.Math.Seq.{drop-cons}
use Rattle.std.proofs.lemmas.List.{append-nil, length-append, length-map, map-append, drop_all}
use Rattle.std.proofs.lemmas.List.Elements.{All-nil, All-cons, All-push}
use Rattle.std.proofs.lemmas.Option.{slice_get-map, slice_get_within, get_or_from_slice_get}
use Rattle.block_store.specs.Places.{shapes_of}
use Rattle.block_store.specs.declared.shape.VdevShape.{VdevShape}
use Rattle.block_store.specs.Spaces.{VdevSpace}
use Rattle.pool_model.specs.View.{counted}
use Rattle.vdev_label.specs.Config.{FitsConfig, config_bytes}
use Rattle.vdev_label.specs.Plain.{PlainVdev, vdev_view}
use Rattle.vdev_label.specs.Room.{IsSmallVdev, SmallConfigsFit}
use Rattle.pool_commit.specs.Configs.{FitsTable, configs_from, vdev_with}
use Rattle.pool_commit.proofs.config.config_of.Goals as goal

-- ---- one vdev more

drop_next : (shapes : List VdevShape) (i : ℕ) (shape : VdevShape) → slice_get shapes i ≡ Some shape → drop i shapes ≡ shape ∷ drop (i + 1) shapes
drop_next shapes i shape at =
    let sum : suc i ≡ i + 1 = omega arith in
    drop-cons shapes i shape (slice_get_within shapes i shape at) ∙ ap (λ first. first ∷ drop (suc i) shapes) (get_or_from_slice_get shapes i shape shape at)
    ∙ ap (λ n. shape ∷ drop n shapes) sum

one_more : (shapes : List VdevShape) (i guid next : ℕ) (shape : VdevShape) (before after all : List PlainVdev) → slice_get shapes i ≡ Some shape
    → next ≡ guid + 100 → after ≡ before ++ vdev_with guid shape ∷ [] → before ++ configs_from guid (drop i shapes) ≡ all
    → after ++ configs_from next (drop (i + 1) shapes) ≡ all
one_more shapes i guid next shape before after all at is pushed so_far =
    ap (λ them. them ++ configs_from next (drop (i + 1) shapes)) pushed
    ∙ append_assoc before (vdev_with guid shape ∷ []) (configs_from next (drop (i + 1) shapes))
    ∙ ap (λ n. before ++ vdev_with guid shape ∷ configs_from n (drop (i + 1) shapes)) is
    ∙ ap (λ them. before ++ configs_from guid them) (sym (drop_next shapes i shape at)) ∙ so_far

pub loop-index-preserved : goal.loop-index-preserved
loop-index-preserved g c =
    let shapes : List VdevShape = shapes_of c.args.store.now.spaces in
    let shape : VdevShape = c.shape-shape.result in
    let before : List PlainVdev = map vdev_view c.loop-index.vdevs.items in
    let at : slice_get shapes c.loop-index.index ≡ Some shape =
    slice_get-map (λ (space : VdevSpace). space.shape) c.args.store.now.spaces c.loop-index.index ∙ c.shape-shape.ensures.shape in
    let pushed : map vdev_view c.push.new.self.items ≡ before ++ vdev_with c.loop-index.guid shape ∷ [] =
    ap (map vdev_view) c.in_ok-push.ensures.items ∙ map-append vdev_view c.loop-index.vdevs.items (c.in_ok-vdev_of.field-0 ∷ [])
    ∙ ap (λ one. before ++ one ∷ []) c.in_ok-vdev_of.ensures in
    let next : ℕ = c.loop-index.guid + 100 in (
      one_more shapes c.loop-index.index c.loop-index.guid next shape before (map vdev_view c.push.new.self.items) (configs_from 100 shapes) at refl pushed c.loop-index.invariant.0,
      omega (arith, c.loop-index.invariant.1),
    )

-- ---- the numbers are small

counted_length : (first n : ℕ) → length (counted first n) ≡ n
counted_length first zero = refl
counted_length first (suc n) = omega (arith, length-append (counted first n) ((first + n) ∷ []), counted_length first n)

counted_words : (first n : ℕ) → first + n ≤ 2 ^ 64 → All (λ guid. guid < 2 ^ 64) (counted first n)
counted_words first zero few = All-nil (λ guid. guid < 2 ^ 64)
counted_words first (suc n) few =
    All-push (λ guid. guid < 2 ^ 64) (counted first n) (first + n) (counted_words first n (omega (arith, few))) (omega (arith, few))

vdev_small : (guid : ℕ) (shape : VdevShape) → guid + 33 < 2 ^ 64 → IsSmallVdev (vdev_with guid shape)
vdev_small guid shape few =
    record {
      guid = omega (arith, few);
      parity = omega (arith, shape.vdev.geometry.most_parity);
      child_sectors = omega (arith, shape.most_sectors);
      slab_shift = omega (arith, shape.most_shift);
      meta_slabs = omega (arith, shape.most_meta);
      few = omega (arith, counted_length (suc guid) shape.vdev.geometry.children, shape.vdev.geometry.most_children);
      children = counted_words (suc guid) shape.vdev.geometry.children (omega (arith, few, shape.vdev.geometry.most_children));
    }

vdevs_small : (guid : ℕ) (shapes : List VdevShape) → guid + 100 * length shapes < 2 ^ 64 → All IsSmallVdev (configs_from guid shapes)
vdevs_small guid [] few = All-nil IsSmallVdev
vdevs_small guid (shape ∷ shapes) few =
    let next = guid + 100 in
    All-cons IsSmallVdev (vdev_with guid shape) (configs_from next shapes) (vdev_small guid shape (omega (arith, few)))
    (vdevs_small next shapes (omega (arith, few)))

vdevs_length : (guid : ℕ) (shapes : List VdevShape) → length (configs_from guid shapes) ≡ length shapes
vdevs_length guid [] = refl
vdevs_length guid (shape ∷ shapes) = ap suc (vdevs_length (guid + 100) shapes)

-- so the configuration of these vdevs has an encoding
abbrev HasEncoding : List PlainVdev → Type 0
HasEncoding vdevs = FitsConfig vdevs × (length (config_bytes vdevs) < 2 ^ 46)

made : (spaces : List VdevSpace) (vdevs : List PlainVdev) (i guid : ℕ) → length spaces ≤ i
    → vdevs ++ configs_from guid (drop i (shapes_of spaces)) ≡ configs_from 100 (shapes_of spaces) → vdevs ≡ configs_from 100 (shapes_of spaces)
made spaces vdevs i guid end are =
    let none : drop i (shapes_of spaces) ≡ [] = drop_all i (shapes_of spaces) (omega (arith, end, length-map spaces (λ (space : VdevSpace). space.shape))) in
    sym (append-nil vdevs) ∙ ap (λ rest. vdevs ++ configs_from guid rest) (sym none) ∙ are

has_encoding : (spaces : List VdevSpace) (vdevs : List PlainVdev) (i guid count : ℕ) → SmallConfigsFit → count ≡ length spaces → count ≤ 8 → count ≤ i
    → vdevs ++ configs_from guid (drop i (shapes_of spaces)) ≡ configs_from 100 (shapes_of spaces) → HasEncoding vdevs
has_encoding spaces vdevs i guid count law is few end are =
    let shapes = shapes_of spaces in
    let eight : length shapes ≤ 8 = omega (arith, is, few, length-map spaces (λ (space : VdevSpace). space.shape)) in
    subst HasEncoding (sym (made spaces vdevs i guid (omega (arith, is, end)) are))
    (law (configs_from 100 shapes) (omega (arith, eight, vdevs_length 100 shapes)) (vdevs_small 100 shapes (omega (arith, eight))))

has_table : (spaces : List VdevSpace) (vdevs : List PlainVdev) (i guid count : ℕ) → count ≡ length spaces → count ≤ 8 → count ≤ i
    → vdevs ++ configs_from guid (drop i (shapes_of spaces)) ≡ configs_from 100 (shapes_of spaces) → FitsTable vdevs
has_table spaces vdevs i guid count is few end are =
    let shapes = shapes_of spaces in
    let eight : length shapes ≤ 8 = omega (arith, is, few, length-map spaces (λ (space : VdevSpace). space.shape)) in
    subst FitsTable (sym (made spaces vdevs i guid (omega (arith, is, end)) are))
    (record { few = omega (arith, eight, vdevs_length 100 shapes); each = vdevs_small 100 shapes (omega (arith, eight)) })

pub returns-clause-table : goal.returns-clause-table
returns-clause-table g c =
    has_table c.args.store.now.spaces (map vdev_view c.loop-index.vdevs.items) c.loop-index.index c.loop-index.guid c.vdev_count-index-end.result
    c.vdev_count-index-end.ensures.count c.vdev_count-index-end.ensures.few c.loop-index-test.false c.loop-index.invariant.0

pub returns-clause-fits : goal.returns-clause-fits
returns-clause-fits g c =
    (has_encoding c.args.store.now.spaces (map vdev_view c.loop-index.vdevs.items) c.loop-index.index c.loop-index.guid c.vdev_count-index-end.result
    c.small_configs_fit.ensures c.vdev_count-index-end.ensures.count c.vdev_count-index-end.ensures.few c.loop-index-test.false c.loop-index.invariant.0).0

pub returns-clause-few : goal.returns-clause-few
returns-clause-few g c =
    (has_encoding c.args.store.now.spaces (map vdev_view c.loop-index.vdevs.items) c.loop-index.index c.loop-index.guid c.vdev_count-index-end.result
    c.small_configs_fit.ensures c.vdev_count-index-end.ensures.count c.vdev_count-index-end.ensures.few c.loop-index-test.false c.loop-index.invariant.0).1
