-- A pool that is read back.
use Rattle.std.proofs.Common.{◌≡◌, ◌⊎◌, inl, inr, ℕ, zero, suc, ◌<◌, ◌-◌, ◌^◌, Bool, true, false, List, [], length, Some, None, refl, sym, ap, ◌∙◌, subst, arith}
use Rattle.std.specs.Prelude.{slice_get}
use Rattle.std.proofs.lemmas.Option.{slice_get_within}
use Rattle.block_pointer.specs.declared.block.Block.{Block}
use Rattle.block_store.specs.Places.{shapes_of}
use Rattle.block_store.specs.Elsewhere.{WritesElsewhereKeep}
use Rattle.model_disk.specs.Joint.{Disks}
use Rattle.model_disk.specs.Runs.{Makes, no_write}
use Rattle.model_disk.proofs.RunLemmas.{Makes-none}
use Rattle.pool_open.specs.Spans.{HaveNoSpans}
use Rattle.pool_open.proofs.Knowing.{told_none}
use Rattle.pool_open.specs.CoreState.{CoreState, config_of, disks_of}
use Rattle.pool_model.specs.declared.volume.PlainVolume.{PlainVolume}
use Rattle.pool_model.specs.Pools.{no_volumes, volume_at}
use Rattle.pool_open.specs.Causes.{of_root, of_slots}
use Rattle.pool_open.specs.Held.{IsLaidOver}
use Rattle.pool_open.specs.Opening.{AreMisplacedOver, RootContents}
use Rattle.pool_open.specs.Roots.{AreReadBeside, IsReadOfRoot, IsRootNotRead}
use Rattle.pool_open.specs.Words.{stamp_of}
use Rattle.pool_open.specs.declared.refusal.Refusal.{Refusal}
use Rattle.pool_open.specs.declared.refusal.Refusal.TheVariants.{NoMemory, DiskFault, BadPointer}
use Rattle.pool_open.proofs.Representing.{CoreRepresents, held_behind_reads}
use Rattle.pool_open.proofs.Through.{block_reads_made, honest_within, surveyed_still}
use Rattle.pool_slots.specs.Failures.{HasFailedOn}
use Rattle.pool_slots.specs.Present.{GoOut, IsNoFault}
use Rattle.pool_open.specs.Slots.{IsStampOf}
use Rattle.pool_slots.specs.Slots.{InUse}
use Rattle.vdev_label.specs.Plain.{config_view}
use Rattle.vdev_label.specs.declared.label.Config.{Config}
use Rattle.pool_slots.specs.Surveys.{SurveyRefuses}
use Rattle.pool_slots.specs.declared.refusal.Refusal.{Refusal as SlotsRefusal}
use Rattle.pool_slots.proofs.Phases.{both_made}
use Rattle.raidz_io.specs.Reads.{IsHonestSince}
use Rattle.space_map_objects.specs.declared.refusal.Refusal.{Refusal as RootRefusal}
use Rattle.uberblock_ring.specs.declared.uberblock.Uberblock.{Uberblock}
use Rattle.volume_rules.specs.NowMoves.{IsMadeBy}
use Rattle.pool_create.specs.Alone.{AreReadAlone, IsCrowded, IsRefusedAlone}
use Rattle.pool_create.specs.Planning.{none_out}
use Rattle.pool_create.specs.ReadingBack.{IsCauseOfReading, IsFirstTaken, IsReadBack, IsSurveyRefused, IsTakenOf, IsUnread, first_uberblock}
use Rattle.pool_create.specs.declared.planning.NewPool.{NewPool}
use Rattle.pool_create.proofs.Alone.{all_alone_more, all_refused_since}

-- ---- a survey in which no disk may go out

pub used_at : (n which : ℕ) → which < n → InUse (none_out n) which
used_at zero which below = absurd (omega (arith, below))
used_at (suc n) zero below = refl
used_at (suc n) (suc which) below = used_at n which (omega (arith, below))

not_used : (out : List Bool) (which : ℕ) → slice_get out which ≡ Some true → ¬ InUse out which
not_used out which marked used = absurd (let clash : Some true ≡ Some false = sym marked ∙ used in cc)

-- a call failed on a disk that went out
pub gone_failed : (old new : Disks) (before later : List Bool) (n which : ℕ) → before ≡ none_out n → length later ≡ n → GoOut before later old new → slice_get later which ≡ Some true
    → HasFailedOn old new which
gone_failed old new before later n which none count go marked =
    let below : which < n = omega (arith, count, slice_get_within later which true marked) in
    go.failed which (subst (λ (flags : List Bool). InUse flags which) (sym none) (used_at n which below)) (not_used later which marked)

pub survey_refused : (old new : Disks) (later : List Bool) (cause : SlotsRefusal) → SurveyRefuses later 0 old new cause → IsNoFault cause → IsSurveyRefused old new (of_slots cause)
survey_refused old new later cause why none = record { later = later; cause = cause; same = refl; why = why; no_fault = none }

-- none is taken
pub untaken : (old new : Disks) (it : NewPool) (root : Block) (refusal : Refusal)
    → (refusal ≡ NoMemory) ⊎ (((refusal ≡ DiskFault) × ((which : ℕ) × HasFailedOn old new which)) ⊎ IsSurveyRefused old new refusal) → IsCauseOfReading old new it root refusal
untaken old new it root refusal (inl memory) = inl memory
untaken old new it root refusal (inr (inl fault)) = inr (inl fault)
untaken old new it root refusal (inr (inr why)) = inr (inr (inl why))

-- ---- slots that show it alone

pub taken_still : (old mid new : Disks) (out : List Bool) (u : Uberblock) → IsTakenOf old mid out u → Makes no_write mid new → IsTakenOf old new out u
taken_still old mid new out u taken makes = record { s = taken.s; whole = taken.whole; surveyed = surveyed_still out 0 old mid new taken.s taken.surveyed makes; taken_is = taken.taken_is }

-- one disk doesn't
pub among_others : (old mid new : Disks) (it : NewPool) (root : Block) (u : Uberblock) (refusal : Refusal) → IsTakenOf old mid it.out.items u → u ≡ first_uberblock it root → Makes no_write old mid
    → Makes no_write mid new → IsRefusedAlone u mid new refusal → IsCauseOfReading old new it root refusal
among_others old mid new it root u refusal taken is before after why =
    let since = all_refused_since u old mid new refusal before why in
    elim since.2 [
      | inl memory ↦ inl memory
      | inr (inl fault) ↦ inr (inl (fault.0, (since.0, fault.1)))
      | inr (inr crowded) ↦ inr (inr (inr (inl (
        crowded.0,
        inr (
          record { u = u; taken = taken_still old mid new it.out.items u taken after; is = is },
          subst (λ (v : Uberblock). IsCrowded v old new) is (since.0, since.1, crowded.1),
        ),
      ))))
    ]

-- ---- the core

nothing_there : {A : Type 0} (name : List ℕ) (volume : PlainVolume) → volume_at name no_volumes ≡ Some volume → A
nothing_there name volume found = absurd (let clash : None ≡ Some volume = found in cc)

none_made_by : (group : ℕ) → IsMadeBy group no_volumes
none_made_by group = record {
  older = λ name volume found. nothing_there name volume found;
  named = λ name volume found. nothing_there name volume found;
}

-- what was read of the root, and the core that was made of it
pub record AreRead (old surveyed read : Disks) (it : NewPool) (root : Block) (u : Uberblock) (contents : RootContents) : Type 0 where
  pub laid : IsLaidOver old it.shapes.items it.out.items
  pub only : Makes no_write old surveyed
  pub taken : IsTakenOf old surveyed it.out.items u
  pub is : u ≡ first_uberblock it root
  pub alone : AreReadAlone u old surveyed
  pub beside : AreReadBeside it.out.items surveyed read
  pub contents_are : IsReadOfRoot surveyed read it.shapes.items it.out.items [] 3 root contents

pub record IsCoreOf (read : Disks) (it : NewPool) (u : Uberblock) (contents : RootContents) (core : CoreState) : Type 0 where
  pub disks : disks_of core ≡ read
  pub stamped : core.commit.stamp ≡ stamp_of u
  pub root_is : core.commit.kept.last.root ≡ Some u.root
  pub outs : core.commit.store.out ≡ it.out.items
  pub vdevs : shapes_of core.commit.store.spaces ≡ it.shapes.items
  pub config : config_of core ≡ it.config.value
  pub fresh : core.commit.store.spans.stale ≡ []
  pub untouched : contents.spans ≡ [] → HaveNoSpans core.commit
  pub represents : CoreRepresents read it.shapes.items it.out.items [] u contents core

both_read : (old surveyed read : Disks) (it : NewPool) (root : Block) (u : Uberblock) (contents : RootContents) → AreRead old surveyed read it root u contents → Makes no_write old read
both_read old surveyed read it root u contents are = both_made no_write old surveyed read are.only (block_reads_made surveyed read are.beside.only)

pub back_of : WritesElsewhereKeep → (old surveyed read : Disks) (it : NewPool) (root : Block) (u : Uberblock) (contents : RootContents) (core : CoreState) → AreRead old surveyed read it root u contents
    → IsCoreOf read it u contents core → IsReadBack old it root u core
back_of keep old surveyed read it root u contents core are made =
    let shapes = it.shapes.items in
    let out = it.out.items in
    let both = both_read old surveyed read it root u contents are in
    let reads = block_reads_made surveyed read are.beside.only in
    let still : IsTakenOf old read out u × AreReadAlone u old read = (taken_still old surveyed read out u are.taken reads, all_alone_more u old surveyed read reads are.alone) in
    let at : CoreRepresents read shapes out [] (first_uberblock it root) contents core = subst (λ (v : Uberblock). CoreRepresents read shapes out [] v contents core) are.is made.represents in
    record {
      only = subst (λ (d : Disks). Makes no_write old d) (sym made.disks) both;
      is = are.is;
      taken = subst (λ (d : Disks). IsTakenOf old d out u) (sym made.disks) still.0;
      alone = subst (λ (d : Disks). AreReadAlone u old d) (sym made.disks) still.1;
      stamped = made.stamped;
      root_is = made.root_is;
      outs = made.outs;
      vdevs = made.vdevs;
      config = made.config;
      fresh = made.fresh;
      untouched = λ stored hold spells none honest.
          let honest_read = subst (λ (d : Disks). IsHonestSince old d) made.disks honest in
          let within = honest_within no_write old surveyed read read are.only (Makes-none no_write read) honest_read in
          made.untouched (told_none surveyed read shapes out 3 root contents are.contents_are stored no_volumes (held_behind_reads keep old surveyed shapes out [] stored are.only hold) spells none (inl within));
      represents = λ stored hold spells configured named honest.
          let honest_read = subst (λ (d : Disks). IsHonestSince old d) made.disks honest in
          let within = honest_within no_write old surveyed read read are.only (Makes-none no_write read) honest_read in
          at stored no_volumes (held_behind_reads keep old read shapes out [] stored both hold)
          (are.contents_are.are stored no_volumes (held_behind_reads keep old surveyed shapes out [] stored are.only hold) spells.0 (inl within)) spells (none_made_by 3)
          configured (subst (λ (kept : Config). IsStampOf (config_view kept) it.stamp.claim it.stamp) (sym made.config) named);
    }

-- ---- there is none

pub unread_root : (old surveyed new : Disks) (it : NewPool) (root : Block) (cause : RootRefusal) → Makes no_write old surveyed → IsFirstTaken old surveyed it root
    → IsRootNotRead surveyed new it.shapes.items it.out.items [] 3 root (2 ^ 64 - 1) cause → IsUnread old it root new (of_root cause)
unread_root old surveyed new it root cause only taken unread = (
  both_made no_write old surveyed new only (block_reads_made surveyed new unread.only.only),
  elim unread.why [
    | inl memory ↦ inl (ap of_root memory)
    | inr refused ↦ inr (inr (inr (inr (inl (surveyed, taken, record { cause = cause; same = refl; why = refused })))))
  ],
)

pub unread_core : (old surveyed read : Disks) (it : NewPool) (root : Block) (u : Uberblock) (contents : RootContents) (refusal : Refusal) → AreRead old surveyed read it root u contents
    → (refusal ≡ NoMemory) ⊎ ((refusal ≡ BadPointer) × AreMisplacedOver read it.shapes.items it.out.items [] contents) → IsUnread old it root read refusal
unread_core old surveyed read it root u contents refusal are why = (
  both_read old surveyed read it root u contents are,
  elim why [
    | inl memory ↦ inl memory
    | inr bad ↦ inr (inr (inr (inr (inr (bad.0, (surveyed, record { u = u; taken = are.taken; is = are.is }, record { contents = contents; reads = are.contents_are; why = bad.1 }))))))
  ],
)
