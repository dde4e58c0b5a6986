-- Vdevs of a configuration on disks.
use Rattle.std.proofs.Common.{◌≡◌, Bool, ℕ, suc, ◌+◌, ◌*◌, ◌/◌, ◌^◌, ◌≤◌, ◌<◌, List, All, [], ◌∷◌, length, refl, sym, ap, ◌∙◌, subst, arith}
use Rattle.std.proofs.lemmas.List.{length-append}
use Rattle.block_store.specs.Config.{sectors_of, size_of}
use Rattle.block_store.specs.Opened.{FitsDisks, LieOn, MayBeOpened}
use Rattle.block_store.specs.Shapes.{metaslabs}
use Rattle.block_store.specs.declared.shape.VdevShape.{VdevShape}
use Rattle.pool_format.specs.Labels.{children_of, children_with}
use Rattle.pool_format.specs.declared.labeling.PoolIdentity.{PoolIdentity}
use Rattle.pool_open.specs.Shapes.{AreShapesOf, IsShapeOf}
use Rattle.vdev_label.specs.Limits.{IsAllowedVdev}
use Rattle.vdev_label.specs.Plain.{PlainVdev, config_view}
use Rattle.vdev_label.specs.declared.label.Config.{Config}
use Rattle.pool_create.specs.Planning.{IsAllowedPool, IsNewPool, MayBeMade, nobody}
use Rattle.pool_create.specs.declared.planning.NewPool.{NewPool}

children_count : (top : ℕ) (guids : List ℕ) → length (children_with top guids) ≡ length guids
children_count top [] = refl
children_count top (guid ∷ guids) = ap suc (children_count top guids)

-- vdevs that take all disks have as many children
pub counted : (vdevs : List PlainVdev) (starts : List (List ℕ)) (first : ℕ) (shapes : List VdevShape) → AreShapesOf vdevs first shapes → LieOn starts first shapes
    → first + length (children_of vdevs) ≡ length starts
counted [] starts first [] are lie = omega (arith, lie)
counted [] starts first (s ∷ ss) are lie = absurd are
counted (v ∷ vs) starts first [] are lie = absurd are
counted (v ∷ vs) starts first (s ∷ ss) are lie =
    let rest = counted vs starts (first + length v.children) ss are.1 (subst (λ (n : ℕ). LieOn starts (first + n) ss) are.0.children lie.2) in
    let parts = length-append (children_with v.guid v.children) (children_of vs) in
    let here = children_count v.guid v.children in
    omega (arith, rest, parts, here)

pub all_counted : (config : Config) (starts : List (List ℕ)) (shapes : List VdevShape) → AreShapesOf (config_view config) 0 shapes → LieOn starts 0 shapes
    → length (children_of (config_view config)) ≡ length starts
all_counted config starts shapes are lie = omega (arith, counted (config_view config) starts 0 shapes are lie)

-- an allowed configuration has a child
some_in : (vdevs : List PlainVdev) → 1 ≤ length vdevs → All IsAllowedVdev vdevs → 0 < length (children_of vdevs)
some_in [] some each = absurd (omega (arith, some))
some_in (v ∷ vs) some each =
    let first : IsAllowedVdev v = each 0 v (omega arith) in
    omega (arith, first.children_from, length-append (children_with v.guid v.children) (children_of vs), children_count v.guid v.children)

pub some_children : (config : Config) (pool : PoolIdentity) → IsAllowedPool pool config → 0 < length (children_of (config_view config))
some_children config pool allowed = some_in (config_view config) allowed.1.vdevs_from allowed.1.each

-- a vdev that a configuration describes fits as another one does
same_fit : (v : PlainVdev) (starts : List (List ℕ)) (first : ℕ) (one other : VdevShape) → IsShapeOf v first one → IsShapeOf v first other → FitsDisks starts one → FitsDisks starts other
same_fit v starts first one other is also fits =
    let first_same : other.vdev.first ≡ one.vdev.first = also.first_is ∙ sym is.first_is in
    let children_same : other.vdev.geometry.children ≡ one.vdev.geometry.children = also.children ∙ sym is.children in
    let sectors_same : other.child_sectors ≡ one.child_sectors = also.sectors ∙ sym is.sectors in
    let shift_same : other.metaslab_shift ≡ one.metaslab_shift = also.shift ∙ sym is.shift in
    let meta_same : other.meta_slabs ≡ one.meta_slabs = also.meta ∙ sym is.meta in
    let slabs_same : metaslabs other ≡ metaslabs one =
    ap (λ (n : ℕ). n * other.child_sectors / 2 ^ other.metaslab_shift) children_same
    ∙ ap (λ (n : ℕ). one.vdev.geometry.children * n / 2 ^ other.metaslab_shift) sectors_same
    ∙ ap (λ (n : ℕ). one.vdev.geometry.children * one.child_sectors / 2 ^ n) shift_same in
    record {
      there = omega (arith, fits.there, first_same, children_same);
      sizes = λ disk from before. fits.sizes disk (omega (arith, from, first_same)) (omega (arith, before, first_same, children_same));
      sectors = λ disk from before.
          subst (λ (n : ℕ). n ≤ sectors_of (size_of starts disk)) (sym sectors_same)
          (fits.sectors disk (omega (arith, from, first_same)) (omega (arith, before, first_same, children_same)));
      regions = record {
        meta = subst (λ (n : ℕ). 1 ≤ n) (sym meta_same) fits.regions.meta;
        others = subst (λ (n : ℕ). n < metaslabs other) (sym meta_same) (subst (λ (n : ℕ). one.meta_slabs < n) (sym slabs_same) fits.regions.others);
      };
      few = subst (λ (n : ℕ). n ≤ 1024) (sym slabs_same) fits.few;
    }

same_lie : (vdevs : List PlainVdev) (starts : List (List ℕ)) (first : ℕ) (ones others : List VdevShape) → AreShapesOf vdevs first ones → AreShapesOf vdevs first others → LieOn starts first ones
    → LieOn starts first others
same_lie [] starts first [] [] are also lie = lie
same_lie [] starts first (s ∷ ss) others are also lie = absurd are
same_lie [] starts first [] (s ∷ ss) are also lie = absurd also
same_lie (v ∷ vs) starts first [] others are also lie = absurd are
same_lie (v ∷ vs) starts first (s ∷ ss) [] are also lie = absurd also
same_lie (v ∷ vs) starts first (s ∷ ss) (t ∷ ts) are also lie =
    let rest = same_lie vs starts (first + length v.children) ss ts are.1 also.1 (subst (λ (n : ℕ). LieOn starts (first + n) ss) are.0.children lie.2) in (
      also.0.first_is,
      same_fit v starts first s t are.0 also.0 lie.1,
      subst (λ (n : ℕ). LieOn starts (first + n) ts) (sym also.0.children) rest,
    )

same_count : (vdevs : List PlainVdev) (first : ℕ) (shapes : List VdevShape) → AreShapesOf vdevs first shapes → length shapes ≡ length vdevs
same_count [] first [] are = refl
same_count [] first (s ∷ ss) are = absurd are
same_count (v ∷ vs) first [] are = absurd are
same_count (v ∷ vs) first (s ∷ ss) are = omega (arith, same_count vs (first + length v.children) ss are.1)

-- where vdevs lie on the disks so do all that the configuration describes
same_may : (vdevs : List PlainVdev) (starts : List (List ℕ)) (out : List Bool) (ones others : List VdevShape) → AreShapesOf vdevs 0 ones → AreShapesOf vdevs 0 others → MayBeOpened starts ones out
    → MayBeOpened starts others out
same_may vdevs starts out ones others are also may =
    let one = same_count vdevs 0 ones are in
    let other = same_count vdevs 0 others also in
    record {
      some = omega (arith, may.some, one, other);
      few = omega (arith, may.few, one, other);
      lie = same_lie vdevs starts 0 ones others are also may.lie;
      flags = may.flags;
    }

pub may_be_made : (starts : List (List ℕ)) (pool : PoolIdentity) (config : Config) (it : NewPool) → IsAllowedPool pool config → IsNewPool config (length starts) it
    → MayBeOpened starts it.shapes.items it.out.items → MayBeMade starts pool config
may_be_made starts pool config it allowed is may =
    let here : MayBeOpened starts it.shapes.items (nobody starts) = subst (λ (out : List Bool). MayBeOpened starts it.shapes.items out) is.none_is_out may in
    record {
      name = allowed.0;
      allowed = allowed.1;
      count = all_counted config starts it.shapes.items is.shapes_are may.lie;
      lie = λ shapes are. same_may (config_view config) starts (nobody starts) it.shapes.items shapes is.shapes_are are here;
    }

-- where these don't, no pool of the configuration may be made
pub may_not_be_made : (starts : List (List ℕ)) (pool : PoolIdentity) (config : Config) (it : NewPool) → IsNewPool config (length starts) it
    → ¬ MayBeOpened starts it.shapes.items it.out.items → ¬ MayBeMade starts pool config
may_not_be_made starts pool config it is none may =
    none (subst (λ (out : List Bool). MayBeOpened starts it.shapes.items out) (sym is.none_is_out) (may.lie it.shapes.items is.shapes_are))
