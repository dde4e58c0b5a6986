-- The empty pool, as it is made.
use Rattle.std.proofs.Common.{◌≡◌, ◌≢◌, ℕ, ◌+◌, List, [], ◌∷◌, Option, Some, None, false, refl, sym, ap, ◌∙◌, subst, arith, inl, inr}
use Rattle.std.specs.Prelude.{map}
use Rattle.std.proofs.lemmas.Bool.{cases_eq}
use Rattle.std.proofs.lemmas.Bool.Decides.{nat_tests}
use Rattle.raidz_map.specs.declared.geometry.Geometry.{Geometry}
use Rattle.raidz_io.specs.declared.vdev.Vdev.{Vdev as VdevOnDisks}
use Rattle.block_store.specs.declared.create.VdevConfig.{VdevConfig}
use Rattle.block_store.specs.declared.shape.VdevShape.{VdevShape}
use Rattle.block_store.specs.Config.{AreShapes}
use Rattle.block_store.specs.Places.{shapes_of, AreEmpty}
use Rattle.block_pointer.specs.declared.block.Block.{Block}
use Rattle.block_store.specs.Blocks.{Contents, nothing_stored}
use Rattle.block_store.specs.Plans.{Plans}
use Rattle.block_store.specs.Spaces.{VdevSpace}
use Rattle.disk_set.specs.declared.stale.GroupSpan.{GroupSpan}
use Rattle.block_store.specs.Store.{Store, is_out, is_stale}
use Rattle.pool_commit.specs.declared.kept.KeptGroup.{KeptGroup}
use Rattle.pool_model.specs.Pools.{PlainPool, no_volumes}
use Rattle.pool_model.specs.View.{Vdev, started}
use Rattle.pool_commit.specs.declared.kept.Kept.{Kept}
use Rattle.pool_commit.specs.Backs.{AreStamped, Backs, HasMaps, KeptHasMaps, KeptLeadsTo, LeadsTo, SpellsKept, kept_pool, SpellsGroup, SpellsRoot}
use Rattle.pool_commit.specs.Config.{shown, vdevs_from}
use Rattle.pool_commit.specs.Directories.{SpellsBy}
use Rattle.pool_commit.specs.Slots.{IsStampOf}
use Rattle.pool_commit.specs.Started.{started_on_disks}
use Rattle.vdev_label.specs.Plain.{config_view}
use Rattle.pool_commit.specs.declared.stamp.Stamp.{Stamp}
use Rattle.pool_commit.specs.State.{IsFirst, group_at}
use Rattle.dataset_snapshots.proofs.ChangedRows.{nothing_in}
use Rattle.pool_commit.proofs.Accounting.{none_in_use, none_released}
use Rattle.pool_commit.proofs.Reaching.{none_distinct}

vdev_is : (first : ℕ) (config : Geometry) (vdev : VdevOnDisks) → vdev.first ≡ first → vdev.geometry ≡ config
    → record { first = first; children = config.children; parity = config.parity } ≡ shown vdev
vdev_is first config vdev f e =
    (λ i. record { first = sym f i; children = (ap (λ (g : Geometry). g.children) (sym e)) i; parity = (ap (λ (g : Geometry). g.parity) (sym e)) i })

vdevs_made : (starts : List (List ℕ)) (first : ℕ) (configs : List VdevConfig) (shapes : List VdevShape) → AreShapes starts first configs shapes
    → vdevs_from first configs ≡ map (λ (shape : VdevShape). shown shape.vdev) shapes
vdevs_made starts first [] [] are = refl
vdevs_made starts first [] (shape ∷ shapes) are = absurd are
vdevs_made starts first (config ∷ configs) [] are = absurd are
vdevs_made starts first (config ∷ configs) (shape ∷ shapes) are =
    (λ i. vdev_is first config.geometry shape.vdev are.0.first_is are.0.geometry i ∷ vdevs_made starts (first + config.geometry.children) configs shapes are.1 i)

pub same_some : {X : Type 0} (x y : X) → Some x ≡ Some y → x ≡ y
same_some x y is = cc

-- group 3 is kept, and no other
kept_first : (kept : Kept) (vdevs : List Vdev) → kept.committed ≡ 3 → kept.before ≡ None → kept.earliest ≡ None
    → ((stored : Contents) (birth : ℕ) → SpellsGroup stored birth kept.last no_volumes) → (group : ℕ)
    → SpellsKept nothing_stored group (group_at kept group) (kept_pool (started vdevs) group)
kept_first kept vdevs c b e empty group = elim (cases_eq group 3) [
  | inl at ↦
      subst (λ (o : Option KeptGroup). SpellsKept nothing_stored group o (kept_pool (started vdevs) group)) (sym (there at))
      (subst (λ (o : Option PlainPool). SpellsKept nothing_stored group (Some kept.last) o) (sym (pool_there at)) (empty nothing_stored group))
  | inr other ↦
      subst (λ (o : Option KeptGroup). SpellsKept nothing_stored group o (kept_pool (started vdevs) group)) (sym (gone other))
      (subst (λ (o : Option PlainPool). SpellsKept nothing_stored group None o) (sym (pool_gone other)) tt)
]
  where
    there : group ≡ 3 → group_at kept group ≡ Some kept.last
    there at = grind (arith, nat_tests, c, at)

    pool_there : group ≡ 3 → kept_pool (started vdevs) group ≡ Some no_volumes
    pool_there at = grind (arith, nat_tests, at)

    gone : group ≢ 3 → group_at kept group ≡ None
    gone other = grind (arith, nat_tests, c, b, e, other)

    pool_gone : group ≢ 3 → kept_pool (started vdevs) group ≡ None
    pool_gone other = grind (arith, nat_tests, other)

-- with no root and no names there are no volumes
no_volumes_first : (kept : Kept) → IsFirst kept → (stored : Contents) (birth : ℕ) → SpellsGroup stored birth kept.last no_volumes
no_volumes_first kept is stored birth = record {
  root = subst (λ (root : Option Block). SpellsRoot stored birth root no_volumes) (sym is.root) refl;
  directory = subst (λ (root : Option Block). SpellsBy stored birth root no_volumes kept.last.directory.value (config_view kept.last.config.value) kept.last.spans_under.value) (sym is.root) (is.directory, is.table);
  names = is.names;
}

-- and nothing is led to
leads_first : (kept : Kept) (vdevs : List Vdev) → IsFirst kept → (group : ℕ) → KeptLeadsTo nothing_stored group (group_at kept group) (kept_pool (started vdevs) group) []
leads_first kept vdevs is group = elim (cases_eq group 3) [
  | inl at ↦
      subst (λ (o : Option KeptGroup). KeptLeadsTo nothing_stored group o (kept_pool (started vdevs) group) []) (sym (there at))
      (subst (λ (o : Option PlainPool). KeptLeadsTo nothing_stored group (Some kept.last) o []) (sym (pool_there at))
      (subst (λ (root : Option Block). LeadsTo nothing_stored group root no_volumes []) (sym is.root) refl))
  | inr other ↦
      subst (λ (o : Option KeptGroup). KeptLeadsTo nothing_stored group o (kept_pool (started vdevs) group) []) (sym (gone other))
      (subst (λ (o : Option PlainPool). KeptLeadsTo nothing_stored group None o []) (sym (pool_gone other)) refl)
]
  where
    there : group ≡ 3 → group_at kept group ≡ Some kept.last
    there at = grind (arith, nat_tests, is.committed, at)

    pool_there : group ≡ 3 → kept_pool (started vdevs) group ≡ Some no_volumes
    pool_there at = grind (arith, nat_tests, at)

    gone : group ≢ 3 → group_at kept group ≡ None
    gone other = grind (arith, nat_tests, is.committed, is.before, is.earliest, other)

    pool_gone : group ≢ 3 → kept_pool (started vdevs) group ≡ None
    pool_gone other = grind (arith, nat_tests, other)

-- so there are no maps to be its own
mapped_first : (spaces : List VdevSpace) (kept : Kept) (vdevs : List Vdev) → IsFirst kept → (group : ℕ)
    → KeptHasMaps spaces nothing_stored group (group_at kept group) (kept_pool (started vdevs) group)
mapped_first spaces kept vdevs is group = elim (cases_eq group 3) [
  | inl at ↦
      subst (λ (o : Option KeptGroup). KeptHasMaps spaces nothing_stored group o (kept_pool (started vdevs) group)) (sym (there at))
      (subst (λ (o : Option PlainPool). KeptHasMaps spaces nothing_stored group (Some kept.last) o) (sym (pool_there at))
      (subst (λ (root : Option Block). HasMaps spaces nothing_stored group root no_volumes) (sym is.root) tt))
  | inr other ↦ subst (λ (o : Option KeptGroup). KeptHasMaps spaces nothing_stored group o (kept_pool (started vdevs) group)) (sym (gone other)) tt
]
  where
    there : group ≡ 3 → group_at kept group ≡ Some kept.last
    there at = grind (arith, nat_tests, is.committed, at)

    pool_there : group ≡ 3 → kept_pool (started vdevs) group ≡ Some no_volumes
    pool_there at = grind (arith, nat_tests, at)

    gone : group ≢ 3 → group_at kept group ≡ None
    gone other = grind (arith, nat_tests, is.committed, is.before, is.earliest, other)

-- its uberblocks name its configuration
stamped_first : (kept : Kept) → IsFirst kept → (stamp : Stamp) → IsStampOf (config_view kept.last.config.value) stamp.claim stamp → AreStamped stamp kept
stamped_first kept is stamp stamped group it at = elim (cases_eq group 3) [
  | inl here ↦ subst (λ (k : KeptGroup). IsStampOf (config_view k.config.value) stamp.claim stamp) (same_some kept.last it (sym (there here) ∙ at)) stamped
  | inr other ↦ absurd (let clash : None ≡ Some it = sym (gone other) ∙ at in cc)
]
  where
    there : group ≡ 3 → group_at kept group ≡ Some kept.last
    there at = grind (arith, nat_tests, is.committed, at)

    gone : group ≢ 3 → group_at kept group ≡ None
    gone other = grind (arith, nat_tests, is.committed, is.before, is.earliest, other)

pub starts : (store : Store) (kept : Kept) (stamp : Stamp) (configs : List VdevConfig) → AreShapes store.disks.starts 0 configs (shapes_of store.spaces)
    → ((disk : ℕ) → is_out store.out disk ≡ false) → store.spans.stale ≡ [] → Plans store nothing_stored nothing_stored → AreEmpty store.spaces → IsFirst kept
    → IsStampOf (config_view kept.last.config.value) stamp.claim stamp
    → Backs (record { store = store; kept = kept; planned = None; stamp = stamp }) (started_on_disks (vdevs_from 0 configs))
starts store kept stamp configs shapes out stale plans empty first stamped = record {
  vdevs = vdevs_made store.disks.starts 0 configs (shapes_of store.spaces) shapes;
  slots = refl;
  out = λ disk. sym (out disk);
  stale = λ disk birth. sym (ap (λ (them : List (Option GroupSpan)). is_stale them disk birth) stale);
  committed = first.committed;
  stamped = stamped_first kept first stamp stamped;
  blocks = record {
    stored = nothing_stored;
    planned = nothing_stored;
    plans = plans;
    kept = kept_first kept (vdevs_from 0 configs) first.committed first.before first.earliest (no_volumes_first kept first);
    plan = refl;
    reached = record {
      mapped = mapped_first store.spaces kept (vdevs_from 0 configs) first;
      reach = λ group. [];
      leads = leads_first kept (vdevs_from 0 configs) first;
      once = λ group. none_distinct;
      only = λ block bytes known. absurd (let clash : None ≡ Some bytes = known in cc);
      held = λ group block among. absurd (nothing_in block among);
      accounted = none_in_use store.spaces [] empty;
      released = none_released store.spaces kept.committed empty;
    };
    plan_reached = tt;
  };
}
