-- What a core represents whose disks lead to possible uberblocks.
use Rattle.std.proofs.Common.{◌≡◌, ◌⊎◌, inl, inr, ℕ, ◌<◌, Bool, Option, List, [], length, refl, sym, ap, subst}
use Rattle.model_disk.specs.Joint.{Disks, content}
use Rattle.model_disk.specs.Runs.{Makes, no_write}
use Rattle.raidz_io.specs.Reads.{IsHonestSince}
use Rattle.block_pointer.specs.declared.block.Block.{Block}
use Rattle.disk_set.specs.declared.stale.GroupSpan.{GroupSpan}
use Rattle.block_store.specs.Store.{is_out, is_stale}
use Rattle.block_store.specs.declared.shape.VdevShape.{VdevShape}
use Rattle.pool_core.specs.Mapped.{SpellsWithMaps}
use Rattle.pool_core.specs.Pools.{SpellsPool}
use Rattle.pool_core.specs.Represents.{Represents}
use Rattle.block_store.specs.Blocks.{Contents}
use Rattle.pool_core.specs.Spans.{HaveNoSpans}
use Rattle.pool_core.specs.State.{CoreState, disks_of}
use Rattle.pool_model.specs.Pools.{PlainPool}
use Rattle.pool_model.specs.View.{none_stale, opened_as}
use Rattle.pool_slots.specs.Opens.{AreOn}
use Rattle.pool_slots.specs.Possible.{TreeStands}
use Rattle.pool_slots.specs.Surveys.{Surveyed, IsSurveyed}
use Rattle.pool_slots.proofs.Finding.{honest_before}
use Rattle.pool_slots.proofs.OpenSteps.{chosen}
use Rattle.pool_slots.proofs.Phases.{MakesOn-none}
use Rattle.uberblock_ring.specs.declared.uberblock.Uberblock.{Uberblock}
use Rattle.volume_rules.specs.NowMoves.{IsMadeBy}
use Rattle.pool_open.specs.Held.{FewLieOver, HoldOver}
use Rattle.pool_open.specs.Opening.{RepresentsRoot}
use Rattle.pool_open.specs.Trees.{IsConfiguredFor, OpensPossible}
use Rattle.pool_open.specs.Words.{vdevs_in}

-- of a pool whose table has no span no disk missed a group by what the core knows, and no group that it keeps has a span
abbrev pub IsFreshFor : Disks → Disks → Disks → List VdevShape → List Bool → Uberblock → CoreState → Type 0
IsFreshFor old surveyed read shapes later claimed core =
    (stored : Contents) (pool : PlainPool) → HoldOver old shapes later [] stored → (is : SpellsPool stored claimed.group claimed.root pool) → is.stale ≡ []
    → IsHonestSince old (disks_of core) ⊎ FewLieOver surveyed read shapes later [] → (core.commit.store.spans.stale ≡ []) × HaveNoSpans core.commit

-- so it is under another claim
pub configured_claim : (taken : Uberblock) (claim : ℕ) (stored : Contents) (pool : PlainPool) → IsConfiguredFor taken stored pool
    → IsConfiguredFor (record taken { claim = claim }) stored pool
configured_claim taken claim stored pool is = (is.0, is.1, is.2, record { claim_is = refl; guids = is.3.guids; digest = is.3.digest })

pub opens_possible : (may : ℕ → ℕ → List ℕ → Type 0) (old surveyed read new : Disks) (shapes : List VdevShape) (later : List Bool) (rewind : ℕ) (s : Surveyed) (core : CoreState)
    → rewind < 3 → AreOn later s.found → IsSurveyed later rewind old surveyed s → Makes no_write surveyed read → Makes may read new → disks_of core ≡ new
    → IsFreshFor old surveyed read shapes later s.claimed core → RepresentsRoot old surveyed read shapes later s.claimed core
    → OpensPossible old surveyed read shapes later rewind s.claimed core
opens_possible may old surveyed read new shapes later rewind s core few on is reads makes disks fresh represents trees p pools can are named tell =
    let labels : IsHonestSince old surveyed = elim tell [
      | inl honest ↦ honest_before (length old.calls) no_write surveyed read reads
          (honest_before (length old.calls) may read new makes (subst (λ (d : Disks). IsHonestSince old d) disks honest))
      | inr both ↦ both.0
    ] in
    let told : IsHonestSince old (disks_of core) ⊎ FewLieOver surveyed read shapes later [] = elim tell [ inl honest ↦ inl honest | inr both ↦ inr both.1 ] in
    let says = is.says can.known labels in
    let it = chosen trees later rewind old old p s can few (MakesOn-none (λ (which : ℕ). ⊥) no_write old).makes on says in
    let taken = it.claim.taken in
    let tree = are taken it.claim.reached in
    let stands : TreeStands trees later (content old) taken.root = subst (λ (root : Block). TreeStands trees later (content old) root) (ap (λ (u : Uberblock). u.root) it.claim.is) it.may.tree in
    let Untouched : Uberblock → Type 0 = λ u. (spells : SpellsWithMaps tree.stored shapes u.group u.root (pools taken)) × (spells.0.stale ≡ []) in
    let untouched : Untouched s.claimed = subst Untouched (sym it.claim.is) ((tree.spells, tree.mapped), tree.untouched) in
    let spells : SpellsWithMaps tree.stored shapes s.claimed.group s.claimed.root (pools taken) = untouched.0 in
    let hold : HoldOver old shapes later [] tree.stored = tree.held old later refl refl (λ which used. used) stands in
    let clean = fresh tree.stored (pools taken) hold spells.0 untouched.1 told in
    let none : core.commit.store.spans.stale ≡ [] = clean.0 in
    let configured : IsConfiguredFor s.claimed tree.stored (pools taken) =
    subst (λ (u : Uberblock). IsConfiguredFor u tree.stored (pools taken)) (sym it.claim.is)
    (configured_claim taken s.claimed.claim tree.stored (pools taken) tree.configured) in
    let made : IsMadeBy s.claimed.group (pools taken) = subst (λ (u : Uberblock). IsMadeBy u.group (pools taken)) (sym it.claim.is) tree.made in
    record {
      claim = it.claim;
      represents = subst (λ (u : Uberblock). Represents core (opened_as (vdevs_in shapes) (is_out later) none_stale u.group (pools taken))) it.claim.is
          (subst (λ (them : List (Option GroupSpan)). Represents core (opened_as (vdevs_in shapes) (is_out later) (is_stale them) s.claimed.group (pools taken))) none
          (represents tree.stored (pools taken) (subst (λ (them : List (Option GroupSpan)). HoldOver old shapes later them tree.stored) (sym none) hold)
          spells configured named
          (subst (λ (them : List (Option GroupSpan)). IsHonestSince old (disks_of core) ⊎ FewLieOver surveyed read shapes later them) (sym none) told) made));
      fresh = λ disk birth. ap (λ (them : List (Option GroupSpan)). is_stale them disk birth) none;
      untouched = clean.1;
    }
