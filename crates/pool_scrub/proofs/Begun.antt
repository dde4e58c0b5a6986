-- Cores that are begun anew, by what is known of their disks.
use Rattle.std.proofs.Common.{◌≡◌, inl, inr, ℕ, Bool, List, sym, subst}
use Rattle.block_store.specs.declared.shape.VdevShape.{VdevShape}
use Rattle.meta_objset.specs.declared.stale_spans.StaleSpan.{StaleSpan}
use Rattle.model_disk.specs.Joint.{Disks}
use Rattle.pool_open.specs.Again.{IsCoreAgain, IsNoCoreAgain}
use Rattle.pool_open.specs.CoreState.{CoreState, spans_of}
use Rattle.pool_open.specs.Spans.{AreSameSpans}
use Rattle.pool_open.specs.declared.refusal.Refusal.{Refusal}
use Rattle.stale_disks.specs.Rules.{AreSpansWithout, guids_in}
use Rattle.uberblock_ring.specs.declared.uberblock.Uberblock.{Uberblock}
use Rattle.vdev_label.specs.Plain.{config_view}
use Rattle.vdev_label.specs.declared.label.Config.{Config}
use Rattle.pool_scrub.specs.Scrubbing.{ClearsWhole, IsBegunAgain, IsNotBegunAgain, IsOneForEach}
use Rattle.pool_scrub.specs.declared.scrubbing.Looked.{Looked}
use Rattle.pool_scrub.specs.declared.walking.PoolLayout.{PoolLayout}

abbrev guids_of : Config → List ℕ
guids_of config = guids_in (config_view config)

-- what is begun by a layout's lists
pub begun : (mid : Disks) (layout : PoolLayout) (u : Uberblock) (config its : Config) (known spans : List StaleSpan) (looked : Looked) (core : CoreState)
    (shapes : List VdevShape) (out whole : List Bool) → shapes ≡ layout.shapes.items → out ≡ layout.out.items → whole ≡ looked.whole.items → its ≡ config
    → AreSpansWithout (guids_of config) whole known spans → IsOneForEach known → IsCoreAgain mid shapes out u its spans core
    → IsBegunAgain mid layout u config known looked core
begun mid layout u config its known spans looked core shapes out whole of_shapes of_out of_whole of_config are once is =
    let by_shapes = subst (λ (them : List VdevShape). IsCoreAgain mid them out u its spans core) of_shapes is in
    let by_out = subst (λ (them : List Bool). IsCoreAgain mid layout.shapes.items them u its spans core) of_out by_shapes in
    let by_config = subst (λ (c : Config). IsCoreAgain mid layout.shapes.items layout.out.items u c spans core) of_config by_out in
    record {
      again = subst (λ (them : List StaleSpan). IsCoreAgain mid layout.shapes.items layout.out.items u config them core) (sym is.spans_are) by_config;
      cleared =
          subst (λ (them : List StaleSpan). AreSpansWithout (guids_of config) looked.whole.items known them) (sym is.spans_are)
          (subst (λ (them : List Bool). AreSpansWithout (guids_of config) them known spans) of_whole are);
      once = once;
    }

pub not_begun : (mid : Disks) (layout : PoolLayout) (u : Uberblock) (config its : Config) (known spans : List StaleSpan) (looked : Looked) (new : Disks)
    (refusal : Refusal) (shapes : List VdevShape) (out whole : List Bool) → shapes ≡ layout.shapes.items → out ≡ layout.out.items → whole ≡ looked.whole.items
    → its ≡ config → AreSpansWithout (guids_of config) whole known spans → IsNoCoreAgain mid shapes out u its spans new refusal
    → IsNotBegunAgain mid layout u config known looked new refusal
not_begun mid layout u config its known spans looked new refusal shapes out whole of_shapes of_out of_whole of_config are is =
    let by_shapes = subst (λ (them : List VdevShape). IsNoCoreAgain mid them out u its spans new refusal) of_shapes is in
    let by_out = subst (λ (them : List Bool). IsNoCoreAgain mid layout.shapes.items them u its spans new refusal) of_out by_shapes in
    inr (
      spans,
      subst (λ (them : List Bool). AreSpansWithout (guids_of config) them known spans) of_whole are,
      subst (λ (c : Config). IsNoCoreAgain mid layout.shapes.items layout.out.items u c spans new refusal) of_config by_out,
    )

-- ---- of the same spans

clears_alike : (config : Config) (looked : Looked) (known own after : List StaleSpan) → AreSameSpans known own → ClearsWhole config looked own after
    → ClearsWhole config looked known after
clears_alike config looked known own after same clears span = (
  λ held. let it = (clears span).0 held in (it.0, (same span).0 it.1),
  λ held. (clears span).1 (held.0, (same span).1 held.1),
)

pub begun_alike : (mid : Disks) (layout : PoolLayout) (u : Uberblock) (config its : Config) (known own : List StaleSpan) (looked : Looked) (core : CoreState)
    → its ≡ config → AreSameSpans known own → IsBegunAgain mid layout u its own looked core → IsBegunAgain mid layout u config known looked core
begun_alike mid layout u config its known own looked core of_config same is =
    let it = subst (λ (c : Config). IsBegunAgain mid layout u c own looked core) of_config is in
    record {
      again = it.again;
      cleared = clears_alike config looked known own (spans_of core) same it.cleared;
      once = λ span other held held'. it.once span other ((same span).1 held) ((same other).1 held');
    }

pub not_begun_alike : (mid : Disks) (layout : PoolLayout) (u : Uberblock) (config its : Config) (known own : List StaleSpan) (looked : Looked) (new : Disks)
    (refusal : Refusal) → its ≡ config → AreSameSpans known own → IsNotBegunAgain mid layout u its own looked new refusal
    → IsNotBegunAgain mid layout u config known looked new refusal
not_begun_alike mid layout u config its known own looked new refusal of_config same is =
    elim (subst (λ (c : Config). IsNotBegunAgain mid layout u c own looked new refusal) of_config is) [
      | inl memory ↦ inl memory
      | inr (spans, clears, none) ↦ inr (spans, clears_alike config looked known own spans same clears, none)
    ]
