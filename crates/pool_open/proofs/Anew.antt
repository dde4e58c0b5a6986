-- What a core that is begun anew represents, and why there is none.
use Rattle.std.proofs.Common.{◌≡◌, ◌⊎◌, inl, inr, ℕ, Bool, Option, List, refl, sym, ap, ◌∙◌, subst}
use Rattle.block_store.specs.Blocks.{Contents}
use Rattle.block_store.specs.Elsewhere.{WritesElsewhereKeep}
use Rattle.block_store.specs.Opened.{MayBeOpened}
use Rattle.block_store.specs.Store.{is_out, is_stale}
use Rattle.block_store.specs.declared.shape.VdevShape.{VdevShape}
use Rattle.disk_set.specs.declared.stale.GroupSpan.{GroupSpan}
use Rattle.meta_objset.specs.declared.stale_spans.StaleSpan.{StaleSpan}
use Rattle.model_disk.specs.Joint.{Disks}
use Rattle.pool_core.specs.Mapped.{SpellsWithMaps}
use Rattle.pool_core.specs.Represents.{Represents}
use Rattle.pool_core.specs.RootContents.{RootContents}
use Rattle.pool_core.specs.Spans.{LeavesOutStale}
use Rattle.pool_core.specs.State.{CoreState, config_of, disks_of, spans_of}
use Rattle.pool_model.specs.Pools.{PlainPool}
use Rattle.pool_model.specs.View.{opened_as}
use Rattle.raidz_io.specs.Reads.{IsHonestSince, OnlyReads}
use Rattle.space_map_objects.specs.declared.refusal.Refusal.{Refusal as RootRefusal}
use Rattle.stale_disks.specs.Rules.{guids_in, stale_groups}
use Rattle.uberblock_ring.specs.declared.uberblock.Uberblock.{Uberblock}
use Rattle.vdev_label.specs.Plain.{config_view}
use Rattle.vdev_label.specs.declared.label.Config.{Config}
use Rattle.volume_rules.specs.NowMoves.{IsMadeBy}
use Rattle.pool_open.specs.Again.{GoesOnFrom, IsNoCoreAgain}
use Rattle.pool_open.specs.Causes.{of_root}
use Rattle.pool_open.specs.Held.{FewLieOver, HoldOver, TellOver}
use Rattle.pool_open.specs.Opening.{AreMisplacedOver, RepresentsRoot}
use Rattle.pool_open.specs.Roots.{AreContentsOver, AreReadBeside, IsReadOfRoot, IsRootNotRead}
use Rattle.pool_open.specs.Trees.{IsConfiguredFor, NamesConfigOf}
use Rattle.pool_open.specs.Words.{most_blocks, vdevs_in}
use Rattle.pool_open.specs.declared.refusal.Refusal.{Refusal}
use Rattle.pool_open.specs.declared.refusal.Refusal.TheVariants.{NoMemory, NoUberblock, BadPointer, BadConfig}
use Rattle.pool_open.proofs.Reading.{none_read}
use Rattle.pool_open.proofs.Representing.{held_behind_reads}
use Rattle.pool_open.proofs.Through.{block_reads_made}

-- ---- a core

-- what a core over disks represents that were read
abbrev pub RepresentsRead : Disks → List VdevShape → List Bool → List (Option GroupSpan) → Uberblock → RootContents → CoreState → Type 0
RepresentsRead read shapes out stale u contents core =
    (stored : Contents) (pool : PlainPool) → HoldOver read shapes out stale stored → AreContentsOver shapes stored u.group u.root pool contents
    → SpellsWithMaps stored shapes u.group u.root pool → IsMadeBy u.group pool → IsConfiguredFor u stored pool → NamesConfigOf u core
    → Represents core (opened_as (vdevs_in shapes) (is_out out) (is_stale stale) u.group pool)

-- it represents the same by what could be held before
pub again_represents : WritesElsewhereKeep → (old read : Disks) (shapes : List VdevShape) (out : List Bool) (by stale : List (Option GroupSpan)) (u : Uberblock)
    (contents : RootContents) (core : CoreState) → OnlyReads old read → by ≡ stale → IsReadOfRoot old read shapes out by u.group u.root contents
    → core.commit.store.spans.stale ≡ stale → disks_of core ≡ read → RepresentsRead read shapes out stale u contents core
    → RepresentsRoot old old (disks_of core) shapes out u core
again_represents keep old read shapes out by stale u contents core reads same is left_out disks represents stored pool hold spells configured named tell made =
    let held : HoldOver old shapes out stale stored = subst (λ (them : List (Option GroupSpan)). HoldOver old shapes out them stored) left_out hold in
    let told : TellOver old read shapes out by = elim tell [
      | inl honest ↦ inl (subst (λ (d : Disks). IsHonestSince old d) disks honest)
      | inr few ↦ inr (subst (λ (d : Disks). FewLieOver old d shapes out by) disks
          (subst (λ (them : List (Option GroupSpan)). FewLieOver old (disks_of core) shapes out them) (left_out ∙ sym same) few))
    ] in
    subst (λ (them : List (Option GroupSpan)). Represents core (opened_as (vdevs_in shapes) (is_out out) (is_stale them) u.group pool)) (sym left_out)
    (represents stored pool (held_behind_reads keep old read shapes out stale stored (block_reads_made old read reads) held)
    (is.are stored pool (subst (λ (them : List (Option GroupSpan)). HoldOver old shapes out them stored) (sym same) held) spells.0 told) spells made configured named)

-- it leaves disks out by the spans that it knows
pub leaves_out : (core : CoreState) (stale : List (Option GroupSpan)) (spans : List StaleSpan) (config : Config) → core.commit.store.spans.stale ≡ stale
    → stale ≡ stale_groups spans (guids_in (config_view config)) → spans_of core ≡ spans → config_of core ≡ config → LeavesOutStale core.commit
leaves_out core stale spans config left_out is knows configured disk birth =
    ap (λ (them : List (Option GroupSpan)). is_stale them disk birth) (left_out ∙ is)
    ∙ sym (ap (λ (them : List StaleSpan). is_stale (stale_groups them (guids_in (config_view (config_of core)))) disk birth) knows
    ∙ ap (λ (c : Config). is_stale (stale_groups spans (guids_in (config_view c))) disk birth) configured)

-- ---- none

-- the groups that disks missed by these spans
abbrev missed_by : List StaleSpan → Config → List (Option GroupSpan)
missed_by spans config = stale_groups spans (guids_in (config_view config))

pub none_left : (old : Disks) (shapes : List VdevShape) (out : List Bool) (u : Uberblock) (config : Config) (spans : List StaleSpan) → ¬ GoesOnFrom u
    → IsNoCoreAgain old shapes out u config spans old NoUberblock
none_left old shapes out u config spans none = record { reads = none_read out old; why = inr (inl (refl, none)) }

pub out_of_memory : (old new : Disks) (shapes : List VdevShape) (out : List Bool) (u : Uberblock) (config : Config) (spans : List StaleSpan) → AreReadBeside out old new
    → IsNoCoreAgain old shapes out u config spans new NoMemory
out_of_memory old new shapes out u config spans reads = record { reads = reads; why = inl refl }

pub not_fitting : (old new : Disks) (shapes : List VdevShape) (out : List Bool) (u : Uberblock) (config : Config) (spans : List StaleSpan) (refusal : Refusal) → new ≡ old
    → (refusal ≡ NoMemory) ⊎ ((refusal ≡ BadConfig) × ¬ MayBeOpened old.starts shapes out) → IsNoCoreAgain old shapes out u config spans new refusal
not_fitting old new shapes out u config spans refusal same why = record {
  reads = subst (λ (d : Disks). AreReadBeside out old d) (sym same) (none_read out old);
  why = elim why [ inl memory ↦ inl memory | inr it ↦ inr (inr (inl it)) ];
}

pub root_not_read : (old new : Disks) (shapes : List VdevShape) (out : List Bool) (u : Uberblock) (config : Config) (spans : List StaleSpan) (by : List (Option GroupSpan))
    (most : ℕ) (cause : RootRefusal) (refusal : Refusal) → by ≡ missed_by spans config → most ≡ most_blocks shapes → refusal ≡ of_root cause
    → IsRootNotRead old new shapes out by u.group u.root most cause → IsNoCoreAgain old shapes out u config spans new refusal
root_not_read old new shapes out u config spans by most cause refusal same few told is =
    let it : IsRootNotRead old new shapes out (missed_by spans config) u.group u.root (most_blocks shapes) cause =
    subst (λ (m : ℕ). IsRootNotRead old new shapes out (missed_by spans config) u.group u.root m cause) few
    (subst (λ (them : List (Option GroupSpan)). IsRootNotRead old new shapes out them u.group u.root most cause) same is) in
    record {
      reads = it.only;
      why = elim it.why [
        | inl memory ↦ inl (told ∙ ap of_root memory)
        | inr refuses ↦ inr (inr (inr (inl (cause, told, refuses))))
      ];
    }

pub root_misplaced : (old new : Disks) (shapes : List VdevShape) (out : List Bool) (u : Uberblock) (config : Config) (spans : List StaleSpan)
    (by stale : List (Option GroupSpan)) (contents : RootContents) (refusal : Refusal) → AreReadBeside out old new → by ≡ missed_by spans config → stale ≡ missed_by spans config
    → IsReadOfRoot old new shapes out by u.group u.root contents
    → (refusal ≡ NoMemory) ⊎ ((refusal ≡ BadPointer) × AreMisplacedOver new shapes out stale contents) → IsNoCoreAgain old shapes out u config spans new refusal
root_misplaced old new shapes out u config spans by stale contents refusal reads same left_out is why = record {
  reads = reads;
  why = elim why [
    | inl memory ↦ inl memory
    | inr (bad, misplaced) ↦ inr (inr (inr (inr (
      bad,
      record {
        contents = contents;
        read = subst (λ (them : List (Option GroupSpan)). IsReadOfRoot old new shapes out them u.group u.root contents) same is;
        why = subst (λ (them : List (Option GroupSpan)). AreMisplacedOver new shapes out them contents) left_out misplaced;
      },
    ))))
  ];
}
