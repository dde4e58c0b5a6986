-- What a core represents that goes on from a root that was read before its claim.
use Rattle.std.proofs.Common.{◌≡◌, inl, inr, ℕ, Bool, Option, List, [], length, refl, sym, ap, ◌∙◌, subst}
use Rattle.model_disk.specs.Joint.{Disks}
use Rattle.model_disk.specs.Runs.{Makes, no_write}
use Rattle.raidz_io.specs.Reads.{IsHonestSince}
use Rattle.block_store.specs.Blocks.{Contents}
use Rattle.block_store.specs.Elsewhere.{WritesElsewhereKeep}
use Rattle.disk_set.specs.declared.stale.GroupSpan.{GroupSpan}
use Rattle.block_store.specs.Store.{Store, is_out, is_stale}
use Rattle.block_store.specs.declared.shape.VdevShape.{VdevShape}
use Rattle.pool_core.specs.Mapped.{SpellsWithMaps}
use Rattle.pool_core.specs.RootContents.{RootContents}
use Rattle.pool_core.specs.Slots.{LabelsLieAside}
use Rattle.pool_core.specs.Represents.{Represents}
use Rattle.pool_core.specs.State.{CoreState, disks_of}
use Rattle.pool_model.specs.Pools.{PlainPool}
use Rattle.pool_model.specs.View.{opened_as}
use Rattle.pool_slots.specs.Labels.{IsClaimWrite}
use Rattle.pool_slots.specs.Slots.{InUse, MakesOn}
use Rattle.pool_slots.proofs.Phases.{both_made, none_same}
use Rattle.uberblock_ring.specs.Uberblock.{Fits}
use Rattle.uberblock_ring.specs.declared.uberblock.Uberblock.{Uberblock}
use Rattle.volume_rules.specs.NowMoves.{IsMadeBy}
use Rattle.pool_open.specs.Held.{FewLieOver, HoldOver, IsLaidOver, IsStoreOver, TellOver}
use Rattle.pool_open.specs.Opening.{RepresentsRoot}
use Rattle.pool_open.specs.Trees.{IsConfiguredFor, NamesConfigOf}
use Rattle.pool_open.specs.Words.{vdevs_in}
use Rattle.pool_open.specs.Roots.{AreContentsOver, IsReadOfRoot}
use Rattle.pool_open.proofs.Claiming.{claims_spare_blocks}
use Rattle.pool_open.proofs.Holding.{held_on, held_where_same}
use Rattle.pool_open.proofs.Through.{honest_within}

-- the same store with other disks out, of which some missed these groups
marked : (old : Disks) (shapes : List VdevShape) (out later : List Bool) (stale : List (Option GroupSpan)) (store : Store) → IsStoreOver old shapes out [] store
    → IsStoreOver old shapes later stale (record store { out = later; spans = record store.spans { stale = stale } })
marked old shapes out later stale store over = record { disks_are = over.disks_are; shapes_are = over.shapes_are; out_is = refl; since = over.since; stale_is = refl }

-- reads keep what is held
pub held_behind_reads : WritesElsewhereKeep → (old new : Disks) (shapes : List VdevShape) (later : List Bool) (stale : List (Option GroupSpan)) (stored : Contents)
    → Makes no_write old new → HoldOver old shapes later stale stored → HoldOver new shapes later stale stored
held_behind_reads keep old new shapes later stale stored makes hold =
    held_on keep shapes later stale old new stored makes.starts (λ disk i. none_same old new disk i makes) hold

-- and so does a claim behind them
pub held_behind_claim : WritesElsewhereKeep → (old read new : Disks) (shapes : List VdevShape) (out later : List Bool) (stale : List (Option GroupSpan)) (u : Uberblock) (stored : Contents)
    (laid : IsLaidOver old shapes out) → Makes no_write old read → MakesOn (InUse later) (IsClaimWrite read.starts later u) read new → length later ≡ length old.starts → Fits u
    → HoldOver old shapes later stale stored → HoldOver new shapes later stale stored
held_behind_claim keep old read new shapes out later stale u stored laid makes claims count fits hold =
    let store : Store = record laid.store { out = later; spans = record laid.store.spans { stale = stale } } in
    let over = marked old shapes out later stale laid.store laid.over in
    let lie : LabelsLieAside read.starts laid.store.spaces = subst (λ (starts : List (List ℕ)). LabelsLieAside starts laid.store.spaces) (sym makes.starts) laid.lie in
    let there : length later ≡ length read.starts = count ∙ ap length (sym makes.starts) in
    held_where_same keep shapes later stale old new stored store over (hold store over) (claims.makes.starts ∙ makes.starts)
    (λ disk i is. claims_spare_blocks laid.store.spaces later u read new lie there fits claims disk i is ∙ none_same old read disk i makes)

-- what is said of a core over claimed disks, for what was read of the root
abbrev pub CoreRepresents : Disks → List VdevShape → List Bool → List (Option GroupSpan) → Uberblock → RootContents → CoreState → Type 0
CoreRepresents new shapes later stale claimed contents core =
    (stored : Contents) (pool : PlainPool) → HoldOver new shapes later stale stored → AreContentsOver shapes stored claimed.group claimed.root pool contents
    → SpellsWithMaps stored shapes claimed.group claimed.root pool → IsMadeBy claimed.group pool → IsConfiguredFor claimed stored pool → NamesConfigOf claimed core → Represents core (opened_as (vdevs_in shapes) (is_out later) (is_stale stale) claimed.group pool)

pub represents_root : WritesElsewhereKeep → (old surveyed read new : Disks) (shapes : List VdevShape) (out later : List Bool) (stale : List (Option GroupSpan)) (claimed : Uberblock) (contents : RootContents)
    (core : CoreState) → IsLaidOver old shapes out → length later ≡ length old.starts → Makes no_write old surveyed → Makes no_write surveyed read
    → MakesOn (InUse later) (IsClaimWrite read.starts later claimed) read new → Fits claimed → IsReadOfRoot surveyed read shapes later stale claimed.group claimed.root contents
    → disks_of core ≡ new → core.commit.store.spans.stale ≡ stale → CoreRepresents new shapes later stale claimed contents core
    → RepresentsRoot old surveyed read shapes later claimed core
represents_root keep old surveyed read new shapes out later stale claimed contents core laid count surveys reads claims fits root disks marks represents stored pool hold spells configured named tell made =
    let held : HoldOver old shapes later stale stored = subst (λ (them : List (Option GroupSpan)). HoldOver old shapes later them stored) marks hold in
    let told : TellOver surveyed read shapes later stale = elim tell [
      | inl honest ↦ inl (honest_within (IsClaimWrite read.starts later claimed) old surveyed read new surveys claims.makes (subst (λ (d : Disks). IsHonestSince old d) disks honest))
      | inr few ↦ inr (subst (λ (them : List (Option GroupSpan)). FewLieOver surveyed read shapes later them) marks few)
    ] in
    let before = both_made no_write old surveyed read surveys reads in
    subst (λ (them : List (Option GroupSpan)). Represents core (opened_as (vdevs_in shapes) (is_out later) (is_stale them) claimed.group pool)) (sym marks)
    (represents stored pool
    (held_behind_claim keep old read new shapes out later stale claimed stored laid before claims count fits held)
    (root.are stored pool (held_behind_reads keep old surveyed shapes later stale stored surveys held) spells.0 told)
    spells made configured named)
