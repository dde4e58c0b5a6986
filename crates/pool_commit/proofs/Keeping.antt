-- The last three groups, before and after one more is committed.
use Rattle.std.proofs.Common.{◌≡◌, ◌≢◌, ◌⊎◌, ℕ, suc, ◌≤◌, Bool, true, false, Option, Some, None, refl, sym, ◌∙◌, subst, arith, inl, inr}
use Rattle.std.specs.Prelude.{if◌then◌else◌}
use Rattle.std.proofs.lemmas.Bool.{cases_eq}
use Rattle.std.proofs.lemmas.Bool.Decides.{nat_tests}
use Rattle.block_pointer.specs.declared.block.Block.{Block}
use Rattle.block_store.specs.Blocks.{Contents, Extends}
use Rattle.pool_commit.specs.declared.kept.KeptGroup.{KeptGroup}
use Rattle.dataset_snapshots.proofs.Staying.{roots_stay}
use Rattle.pool_model.specs.Pools.{PlainPool}
use Rattle.pool_model.specs.View.{View, is_kept}
use Rattle.pool_model.specs.Machine.{committed_next}
use Rattle.pool_commit.specs.declared.kept.Kept.{Kept}
use Rattle.pool_commit.specs.State.{group_at}
use Rattle.pool_commit.specs.Backs.{SpellsKept, kept_pool, pool_after, SpellsGroup, SpellsRoot}
use Rattle.pool_commit.proofs.Directories.{spells_by_stays}
use Rattle.vdev_label.specs.Plain.{config_view}

same_some : {X : Type 0} (x y : X) → Some x ≡ Some y → x ≡ y
same_some x y is = cc

root_stays : (before later : Contents) (group : ℕ) (root : Option Block) (pool : PlainPool) → Extends before later → SpellsRoot before group root pool → SpellsRoot later group root pool
root_stays before later group (Some root) pool more spells = roots_stay before later group group root pool (omega arith) more spells
root_stays before later group None pool more spells = spells

pub kept_stays : (before later : Contents) (group : ℕ) (kept : Option KeptGroup) (pool : Option PlainPool) → Extends before later
    → SpellsKept before group kept pool → SpellsKept later group kept pool
kept_stays before later group (Some kept) (Some pool) more spells = record {
  root = root_stays before later group kept.root pool more spells.root;
  directory = spells_by_stays before later group kept.root pool kept.directory.value (config_view kept.config.value) kept.spans_under.value more spells.directory;
  names = spells.names;
}
kept_stays before later group None None more spells = tt
kept_stays before later group (Some kept) None more spells = absurd spells
kept_stays before later group None (Some pool) more spells = absurd spells

-- the last one is kept
pub last_kept : (stored : Contents) (kept : Kept) (v : View) → kept.committed ≡ v.committed → SpellsKept stored v.committed (group_at kept v.committed) (kept_pool v v.committed)
    → (is_kept v v.committed ≡ true) × SpellsGroup stored v.committed kept.last (v.pools v.committed)
last_kept stored kept v c spells = go (is_kept v v.committed) refl (subst (λ (o : Option KeptGroup). SpellsKept stored v.committed o (kept_pool v v.committed)) last_is spells)
  where
    last_is : group_at kept v.committed ≡ Some kept.last
    last_is = grind (arith, nat_tests, c)

    go : (b : Bool) → is_kept v v.committed ≡ b → SpellsKept stored v.committed (Some kept.last) (kept_pool v v.committed)
        → (is_kept v v.committed ≡ true) × SpellsGroup stored v.committed kept.last (v.pools v.committed)
    go true e s = (e, subst (λ (t : Bool). SpellsKept stored v.committed (Some kept.last) (if t then Some (v.pools v.committed) else None)) e s)
    go false e s = absurd (subst (λ (t : Bool). SpellsKept stored v.committed (Some kept.last) (if t then Some (v.pools v.committed) else None)) e s)

pub first_low : (v : View) → is_kept v v.committed ≡ true → v.first ≤ v.committed
first_low v e = grind (arith, nat_tests, e)

-- what is kept after one more group is committed, group by group
pub new_group : (kept new : Kept) (c group : ℕ) → new.committed ≡ suc c → group ≡ suc c → group_at new group ≡ Some new.last
new_group kept new c group n e = grind (arith, nat_tests, n, e)

pub new_pool : (v : View) (group : ℕ) → v.first ≤ v.committed → group ≡ suc v.committed → kept_pool (committed_next v) group ≡ Some (pool_after v)
new_pool v group low e = subst (λ g. kept_pool (committed_next v) g ≡ Some (pool_after v)) (sym e) (there v low)
  where
    there : (v : View) → v.first ≤ v.committed → kept_pool (committed_next v) (suc v.committed) ≡ Some (pool_after v)
    there v low = grind (arith, nat_tests, low)

pub old_group : (kept new : Kept) (c group : ℕ) → kept.committed ≡ c → new.committed ≡ suc c → new.before ≡ Some kept.last → new.earliest ≡ kept.before
    → (group ≡ c) ⊎ (suc group ≡ c) → group_at new group ≡ group_at kept group
old_group kept new c group k n b e (inl at) = grind (arith, nat_tests, k, n, b, at)
old_group kept new c group k n b e (inr at) = grind (arith, nat_tests, k, n, e, at)

pub old_pool : (v : View) (group : ℕ) → (group ≡ v.committed) ⊎ (suc group ≡ v.committed) → kept_pool (committed_next v) group ≡ kept_pool v group
old_pool v group (inl at) = grind (arith, nat_tests, at)
old_pool v group (inr at) = grind (arith, nat_tests, at)

pub gone_group : (new : Kept) (c group : ℕ) → new.committed ≡ suc c → group ≢ suc c → group ≢ c → suc group ≢ c → group_at new group ≡ None
gone_group new c group n a b d = grind (arith, nat_tests, n, a, b, d)

pub gone_pool : (v : View) (group : ℕ) → group ≢ suc v.committed → group ≢ v.committed → suc group ≢ v.committed → kept_pool (committed_next v) group ≡ None
gone_pool v group a b d = grind (arith, nat_tests, a, b, d)

-- what is so of the new group and was of those before is so of all
pub groups_next : (kept new : Kept) (c : ℕ) (Is : KeptGroup → Type 0) → kept.committed ≡ c → new.committed ≡ suc c → new.before ≡ Some kept.last → new.earliest ≡ kept.before
    → Is new.last → ((group : ℕ) (it : KeptGroup) → group_at kept group ≡ Some it → Is it) → (group : ℕ) (it : KeptGroup) → group_at new group ≡ Some it → Is it
groups_next kept new c Is k n b e last old group it at = elim (cases_eq group (suc c)) [
  | inl here ↦ subst Is (same_some new.last it (sym (new_group kept new c group n here) ∙ at)) last
  | inr other ↦ elim (cases_eq group c) [
    | inl here ↦ old group it (sym (old_group kept new c group k n b e (inl here)) ∙ at)
    | inr another ↦ elim (cases_eq (suc group) c) [
      | inl here ↦ old group it (sym (old_group kept new c group k n b e (inr here)) ∙ at)
      | inr far ↦ absurd (let clash : None ≡ Some it = sym (gone_group new c group n other another far) ∙ at in cc)
    ]
  ]
]

-- the last one is at its number
pub last_at : (kept : Kept) → group_at kept kept.committed ≡ Some kept.last
last_at kept = grind (arith, nat_tests)

pub kept_next : (v : View) (kept new : Kept) (stored planned : Contents) → kept.committed ≡ v.committed → new.committed ≡ suc v.committed
    → new.before ≡ Some kept.last → new.earliest ≡ kept.before → Extends stored planned → SpellsGroup planned (suc v.committed) new.last (pool_after v)
    → ((group : ℕ) → SpellsKept stored group (group_at kept group) (kept_pool v group))
    → (group : ℕ) → SpellsKept planned group (group_at new group) (kept_pool (committed_next v) group)
kept_next v kept new stored planned k n b e more spells old group =
    let low : v.first ≤ v.committed = first_low v (last_kept stored kept v k (old v.committed)).0 in
    elim (cases_eq group (suc v.committed)) [
      | inl at ↦
          subst (λ (o : Option KeptGroup). SpellsKept planned group o (kept_pool (committed_next v) group)) (sym (new_group kept new v.committed group n at))
          (subst (λ (o : Option PlainPool). SpellsKept planned group (Some new.last) o) (sym (new_pool v group low at))
          (subst (λ g. SpellsGroup planned g new.last (pool_after v)) (sym at) spells))
      | inr other ↦ elim (cases_eq group v.committed) [
        | inl at ↦ before (inl at)
        | inr another ↦ elim (cases_eq (suc group) v.committed) [
          | inl at ↦ before (inr at)
          | inr far ↦
              subst (λ (o : Option KeptGroup). SpellsKept planned group o (kept_pool (committed_next v) group)) (sym (gone_group new v.committed group n other another far))
              (subst (λ (o : Option PlainPool). SpellsKept planned group None o) (sym (gone_pool v group other another far)) tt)
        ]
      ]
    ]
  where
    before : (group ≡ v.committed) ⊎ (suc group ≡ v.committed) → SpellsKept planned group (group_at new group) (kept_pool (committed_next v) group)
    before at =
        subst (λ (o : Option KeptGroup). SpellsKept planned group o (kept_pool (committed_next v) group)) (sym (old_group kept new v.committed group k n b e at))
        (subst (λ (o : Option PlainPool). SpellsKept planned group (group_at kept group) o) (sym (old_pool v group at))
        (kept_stays stored planned group (group_at kept group) (kept_pool v group) more (old group)))
