-- Where an open ends, stage by stage.
use Rattle.std.proofs.Common.{◌≡◌, ◌⊎◌, inl, inr, ℕ, ◌<◌, Bool, true, Option, Some, List, [], length, refl, sym, ap, ◌∙◌, subst}
use Rattle.model_disk.specs.Joint.{Disks}
use Rattle.model_disk.specs.Runs.{Makes, no_write}
use Rattle.block_store.specs.Elsewhere.{WritesElsewhereKeep}
use Rattle.block_store.specs.Opened.{MayBeOpened}
use Rattle.block_store.specs.Places.{shapes_of}
use Rattle.disk_set.specs.declared.stale.GroupSpan.{GroupSpan}
use Rattle.block_store.specs.Store.{Store, is_out, is_stale}
use Rattle.meta_objset.specs.declared.stale_spans.StaleSpan.{StaleSpan}
use Rattle.raidz_io.specs.Reads.{IsHonestSince}
use Rattle.stale_disks.specs.Rules.{AreSpansOpened, guids_in, stale_groups}
use Rattle.vdev_label.specs.Plain.{config_view}
use Rattle.vdev_label.specs.declared.label.Config.{Config}
use Rattle.block_store.specs.declared.shape.VdevShape.{VdevShape}
use Rattle.pool_core.specs.Spans.{HasSpansOpened, HaveNoSpans, LeavesOutStale}
use Rattle.pool_core.specs.RootContents.{RootContents}
use Rattle.pool_core.specs.Reopened.{LabelsOfOpenedLie}
use Rattle.pool_core.specs.Slots.{LabelsLieAside}
use Rattle.pool_core.specs.State.{CoreState, config_of, disks_of}
use Rattle.pool_model.specs.View.{is_tolerable}
use Rattle.pool_slots.specs.Configs.{OpenConfigures}
use Rattle.pool_slots.specs.Failures.{HasFailedOn}
use Rattle.pool_slots.specs.Labels.{AreClaimed, AreSlotted, IsClaimWrite}
use Rattle.pool_slots.specs.Opens.{OpenGives, OpenKeeps, OpenMarks}
use Rattle.pool_slots.specs.Present.{GoOut, is_out as is_away}
use Rattle.pool_slots.specs.Relabels.{OpenRelabels, OpenRewrites}
use Rattle.pool_slots.specs.Slots.{InUse, MakesOn}
use Rattle.pool_slots.specs.Surveys.{Surveyed, IsSurveyed, IsWholeOf, OfSurveyed}
use Rattle.pool_slots.proofs.Opened.{opened_from}
use Rattle.pool_slots.proofs.ReadRuns.{reads_none}
use Rattle.space_map_objects.specs.declared.refusal.Refusal.{Refusal as RootRefusal}
use Rattle.space_map_objects.specs.declared.refusal.Refusal.TheVariants as root
use Rattle.uberblock_ring.specs.declared.uberblock.Uberblock.{Uberblock}
use Rattle.pool_open.specs.Causes.{of_root}
use Rattle.pool_open.specs.Held.{IsLaidOver, IsStoreOver, TellOver}
use Rattle.pool_open.specs.Opening.{AreClaimedThrough, AreMisplacedOver, AreReadThrough, IsCauseOfReading, IsKeptThrough, IsNotOpenedOver, IsOpenedOver, IsSurveyRefused}
use Rattle.pool_open.specs.Retried.{IsFailedClaim, IsPoolRead}
use Rattle.pool_open.specs.Known.{IsKnownBy}
use Rattle.pool_open.specs.Roots.{AreMissedBy, AreReadBeside, IsKnownRoot, IsReadOfRoot, RootIsUnknown}
use Rattle.pool_open.specs.declared.known.KnownRoot.{KnownRoot}
use Rattle.pool_open.specs.Settling.{AreSettledWithout}
use Rattle.pool_open.specs.Words.{most_blocks, stamp_of, vdevs_in}
use Rattle.pool_open.specs.declared.refusal.Refusal.{Refusal}
use Rattle.pool_open.specs.declared.refusal.Refusal.TheVariants.{NoMemory, BadPointer, BadConfig}
use Rattle.stale_disks.proofs.NoSpans.{nothing_opened}
use Rattle.pool_open.proofs.FailedCalls.{failed_in_use}
use Rattle.pool_open.proofs.Knowing.{told_none}
use Rattle.pool_open.proofs.Representing.{CoreRepresents, held_behind_reads, represents_root}
use Rattle.pool_open.proofs.Through.{block_reads_made, honest_within, kept_by_reads, surveyed_still, through_made}
use Rattle.pool_open.proofs.Trees.{IsFreshFor, opens_possible}
use Rattle.pool_open.proofs.Unwritten.{configures_on, keeps_on, marks_on, rewrites_on}

-- ---- stores

pub lies_of : LabelsOfOpenedLie → (disks : Disks) (shapes : List VdevShape) (out : List Bool) (stale : List (Option GroupSpan)) (store : Store)
    → IsStoreOver disks shapes out stale store
    → MayBeOpened disks.starts shapes out → LabelsLieAside store.disks.starts store.spaces
lies_of law disks shapes out stale store over may =
    let P : Disks → List VdevShape → List Bool → Type 0 = λ d s o. MayBeOpened d.starts s o in
    law store (subst (λ (d : Disks). P d (shapes_of store.spaces) store.out) (sym over.disks_are)
    (subst (λ (s : List VdevShape). P disks s store.out) (sym over.shapes_are) (subst (λ (o : List Bool). P disks shapes o) (sym over.out_is) may)))

pub laid_of : LabelsOfOpenedLie → (disks : Disks) (shapes : List VdevShape) (out : List Bool) (store : Store) → IsStoreOver disks shapes out [] store
    → MayBeOpened disks.starts shapes out → IsLaidOver disks shapes out
laid_of law disks shapes out store over may = record {
  store = store;
  over = over;
  lie = subst (λ (d : Disks). LabelsLieAside d.starts store.spaces) over.disks_are (lies_of law disks shapes out [] store over may);
}

-- ---- nothing is called

none_goes : (out : List Bool) (disks : Disks) → GoOut out out disks disks
none_goes out disks = record { stay = λ which used. used; only = reads_none (InUse out) (is_away out) disks; failed = λ which used gone. absurd (gone used) }

none_beside : (out : List Bool) (disks : Disks) → AreReadBeside out disks disks
none_beside out disks = record { only = record { starts = refl; newer = []; calls = refl; are_reads = tt }; untouched = λ disk among. refl }

through_survey : (out later : List Bool) (old new : Disks) → GoOut out later old new → AreReadThrough out later old new
through_survey out later old new absent = record { surveyed = new; absent = absent; blocks = none_beside later new }

pub refused_at_once : (guids : List ℕ) (out : List Bool) (rewind : ℕ) (disks : Disks) (shapes : List VdevShape) (refusal : Refusal) → length out ≡ length disks.starts
    → (refusal ≡ NoMemory) ⊎ ((refusal ≡ BadConfig) × ¬ MayBeOpened disks.starts shapes out) → IsNotOpenedOver guids disks shapes out rewind disks refusal
refused_at_once guids out rewind disks shapes refusal count why =
    let through = through_survey out out disks disks (none_goes out disks) in
    record {
      later = out;
      count = count;
      kept = kept_by_reads out out rewind disks disks through count;
      cause = inl (through, elim why [ inl memory ↦ inl memory | inr bad ↦ inr (inl bad) ]);
    }

-- ---- disks are only read

pub refused_by_survey : (guids : List ℕ) (out later : List Bool) (rewind : ℕ) (old new : Disks) (shapes : List VdevShape) (refusal : Refusal) → GoOut out later old new
    → length later ≡ length old.starts → IsSurveyRefused shapes later rewind old new refusal → IsNotOpenedOver guids old shapes out rewind new refusal
refused_by_survey guids out later rewind old new shapes refusal absent count why =
    let through = through_survey out later old new absent in
    record { later = later; count = count; kept = kept_by_reads out later rewind old new through count; cause = inl (through, inr (inr (inl why))) }

-- what was surveyed
pub record AreSurveyed (out later : List Bool) (rewind : ℕ) (old surveyed : Disks) (s : Surveyed) : Type 0 where
  pub absent : GoOut out later old surveyed
  pub count : length later ≡ length old.starts
  pub whole : IsWholeOf later old.starts s
  pub is : IsSurveyed later rewind old surveyed s

-- with its root
pub surveyed_of : (old : Disks) (shapes : List VdevShape) (out later : List Bool) (rewind : ℕ) (s : Surveyed) (contents : RootContents) (stale : List (Option GroupSpan)) (new : Disks)
    → (it : IsPoolRead old shapes out later rewind s contents stale new) → AreSurveyed out later rewind old it.surveyed s
surveyed_of old shapes out later rewind s contents stale new it = record { absent = it.absent; count = it.count; whole = it.whole; is = it.is }

root_cause : (guids : List ℕ) (out later : List Bool) (rewind : ℕ) (old surveyed new : Disks) (shapes : List VdevShape) (s : Surveyed) (cause : RootRefusal) → IsSurveyed later rewind old surveyed s
    → (cause ≡ root.NoMemory) ⊎ RootIsUnknown guids surveyed new shapes later s.claimed.group s.claimed.root (most_blocks shapes) cause → IsCauseOfReading guids old surveyed new shapes out later rewind (of_root cause)
root_cause guids out later rewind old surveyed new shapes s cause is (inl memory) = inl (ap of_root memory)
root_cause guids out later rewind old surveyed new shapes s cause is (inr why) = inr (inr (inr (record { s = s; is = is; cause = cause; same = refl; why = why })))

pub refused_by_root : (guids : List ℕ) (out later : List Bool) (rewind : ℕ) (old surveyed new : Disks) (shapes : List VdevShape) (s : Surveyed) (cause : RootRefusal) → AreSurveyed out later rewind old surveyed s
    → AreReadBeside later surveyed new → (cause ≡ root.NoMemory) ⊎ RootIsUnknown guids surveyed new shapes later s.claimed.group s.claimed.root (most_blocks shapes) cause
    → IsNotOpenedOver guids old shapes out rewind new (of_root cause)
refused_by_root guids out later rewind old surveyed new shapes s cause are blocks why =
    let through : AreReadThrough out later old new = record { surveyed = surveyed; absent = are.absent; blocks = blocks } in
    record {
      later = later;
      count = are.count;
      kept = kept_by_reads out later rewind old new through are.count;
      cause = inl (through, root_cause guids out later rewind old surveyed new shapes s cause are.is why);
    }

-- ---- a claim is begun

pub record AreBegun (later : List Bool) (s : Surveyed) (read new : Disks) : Type 0 where
  pub makes : MakesOn (InUse later) (IsClaimWrite read.starts later s.claimed) read new
  pub leads : OfSurveyed later s read (λ rewind first. OpenKeeps later rewind first new)
  pub marks : OfSurveyed later s read (λ rewind first. OpenMarks later rewind first new)
  pub configures : OfSurveyed later s read (λ rewind first. OpenConfigures later rewind first new)
  pub rewrites : OfSurveyed later s read (λ rewind first. OpenRewrites later first new)

pub record AreDone (later : List Bool) (s : Surveyed) (read new : Disks) : Type 0 where
  pub gives : OfSurveyed later s read (λ rewind first. OpenGives later rewind first s.claimed new)
  pub slotted : AreSlotted later new s.claimed
  pub labeled : AreClaimed later new s.claimed
  pub relabels : OfSurveyed later s read (λ rewind first. OpenRelabels later first s.claimed new)

kept_by_claim : (later : List Bool) (rewind : ℕ) (old read new : Disks) (s : Surveyed) → rewind < 3 → IsSurveyed later rewind old read s → AreBegun later s read new → IsKeptThrough later rewind old new
kept_by_claim later rewind old read new s few is begun = record {
  leads = begun.leads rewind old few is;
  marks = begun.marks rewind old few is;
  configures = begun.configures rewind old few is;
  rewrites = begun.rewrites rewind old few is;
}

still : (out later : List Bool) (rewind : ℕ) (old surveyed read : Disks) (s : Surveyed) → AreSurveyed out later rewind old surveyed s → AreReadBeside later surveyed read → IsSurveyed later rewind old read s
still out later rewind old surveyed read s are blocks = surveyed_still later rewind old surveyed read s are.is (block_reads_made surveyed read blocks.only)

abbrev claimed_through : (out later : List Bool) (rewind : ℕ) (old surveyed read new : Disks) (s : Surveyed) → AreSurveyed out later rewind old surveyed s → AreReadBeside later surveyed read
    → AreBegun later s read new → AreClaimedThrough out later s.claimed old new
claimed_through out later rewind old surveyed read new s are blocks begun =
    record { read = read; before = record { surveyed = surveyed; absent = are.absent; blocks = blocks }; claims = begun.makes }

-- and calls that write nothing keep what is kept
kept_on : (later : List Bool) (rewind : ℕ) (old mid new : Disks) → Makes no_write mid new → IsKeptThrough later rewind old mid → IsKeptThrough later rewind old new
kept_on later rewind old mid new makes kept = record {
  leads = keeps_on later rewind old mid new makes kept.leads;
  marks = marks_on later rewind old mid new makes kept.marks;
  configures = configures_on later rewind old mid new makes kept.configures;
  rewrites = rewrites_on later rewind old mid new makes kept.rewrites;
}

-- a call of it failed
pub claim_fails : (out later left : List Bool) (rewind : ℕ) (old surveyed read ended new : Disks) (shapes : List VdevShape) (s : Surveyed) (which : ℕ) → rewind < 3
    → AreSurveyed out later rewind old surveyed s → AreReadBeside later surveyed read → is_tolerable (vdevs_in shapes) (is_out later) ≡ true → AreBegun later s read ended
    → HasFailedOn read ended which → AreSettledWithout which later left ended new → IsFailedClaim old shapes out rewind new left
claim_fails out later left rewind old surveyed read ended new shapes s which few are blocks tolerable begun failed settles = record {
  later = later;
  count = are.count;
  claimed = s.claimed;
  ended = ended;
  through = claimed_through out later rewind old surveyed read ended s are blocks begun;
  kept = kept_on later rewind old ended new settles.flushes.makes (kept_by_claim later rewind old read ended s few (still out later rewind old surveyed read s are blocks) begun);
  tolerable = tolerable;
  which = which;
  used = failed_in_use later (IsClaimWrite read.starts later s.claimed) read ended which begun.makes failed;
  failed = failed;
  settles = settles;
}

pub refused_by_core : (guids : List ℕ) (out later : List Bool) (rewind : ℕ) (old surveyed read new : Disks) (shapes : List VdevShape) (s : Surveyed) (contents : RootContents) (stale : List (Option GroupSpan)) (refusal : Refusal) → rewind < 3
    → AreSurveyed out later rewind old surveyed s → AreReadBeside later surveyed read → AreBegun later s read new
    → OfSurveyed later s read (λ rewind first. OpenGives later rewind first s.claimed new)
    → IsKnownRoot surveyed read shapes later s.claimed.group s.claimed.root contents stale → AreMissedBy guids later s.claimed.group contents.spans stale
    → (refusal ≡ NoMemory) ⊎ ((refusal ≡ BadPointer) × AreMisplacedOver new shapes later stale contents) → IsNotOpenedOver guids old shapes out rewind new refusal
refused_by_core guids out later rewind old surveyed read new shapes s contents stale refusal few are blocks begun gives root missed why = record {
  later = later;
  count = are.count;
  kept = kept_by_claim later rewind old read new s few (still out later rewind old surveyed read s are blocks) begun;
  cause = inr (
    s.claimed,
    claimed_through out later rewind old surveyed read new s are blocks begun,
    gives rewind old few (still out later rewind old surveyed read s are blocks),
    elim why [
      | inl memory ↦ inl memory
      | inr it ↦ inr (it.0, record { s = s; is = are.is; contents = contents; stale = stale; missed = missed; reads = root; why = it.1 })
    ],
  );
}

-- ---- it is opened

pub record IsMadeCore (later : List Bool) (new : Disks) (shapes : List VdevShape) (u : Uberblock) (known : KnownRoot) (core : CoreState) : Type 0 where
  pub disks : disks_of core ≡ new
  pub stamped : core.commit.stamp ≡ stamp_of u
  pub root : core.commit.kept.last.root ≡ Some u.root
  pub outs : core.commit.store.out ≡ later
  pub vdevs : shapes_of core.commit.store.spaces ≡ shapes
  pub config : config_of core ≡ known.disks.config.value
  pub table : core.commit.kept.last.spans_under.value ≡ known.contents.spans
  pub spans : core.commit.kept.last.spans.value ≡ known.disks.spans
  pub stale : core.commit.store.spans.stale ≡ known.stale.items
  pub untouched : known.contents.spans ≡ [] → known.disks.spans ≡ [] → HaveNoSpans core.commit
  pub represents : CoreRepresents new shapes later known.stale.items u known.contents core

-- what it knows of its disks is what was known of the root
spans_known : (later : List Bool) (new : Disks) (shapes : List VdevShape) (u : Uberblock) (root : KnownRoot) (core : CoreState) → IsMadeCore later new shapes u root core
    → IsKnownBy later u.group root → HasSpansOpened later u.group core.commit.kept.last × LeavesOutStale core.commit
spans_known later new shapes u root core made known =
    let guids : List ℕ → Type 0 = λ g. AreSpansOpened g later u.group core.commit.kept.last.spans_under.value core.commit.kept.last.spans.value in
    let config : guids_in (config_view root.disks.config.value) ≡ guids_in (config_view core.commit.kept.last.config.value) =
    ap (λ (c : Config). guids_in (config_view c)) (sym made.config) in (
      subst guids config
          (subst (λ (table : List StaleSpan). AreSpansOpened (guids_in (config_view root.disks.config.value)) later u.group table core.commit.kept.last.spans.value) (sym made.table)
          (subst (λ (spans : List StaleSpan). AreSpansOpened (guids_in (config_view root.disks.config.value)) later u.group root.contents.spans spans) (sym made.spans) known.spans)),
      λ disk birth. ap (λ (them : List (Option GroupSpan)). is_stale them disk birth) made.stale ∙ known.stale disk birth
          ∙ (λ i. is_stale (stale_groups (sym made.spans i) (config i)) disk birth),
    )

pub opened_over : WritesElsewhereKeep → (out later : List Bool) (rewind : ℕ) (old surveyed read new : Disks) (shapes : List VdevShape) (s : Surveyed) (root : KnownRoot) (core : CoreState)
    → rewind < 3 → MayBeOpened old.starts shapes out → IsLaidOver old shapes out → is_tolerable (vdevs_in shapes) (is_out later) ≡ true
    → AreSurveyed out later rewind old surveyed s → AreReadBeside later surveyed read
    → IsKnownRoot surveyed read shapes later s.claimed.group s.claimed.root root.contents root.stale.items → IsKnownBy later s.claimed.group root
    → AreBegun later s read new → AreDone later s read new → IsMadeCore later new shapes s.claimed root core → IsOpenedOver old shapes out rewind s.claimed core
opened_over keep out later rewind old surveyed read new shapes s root core few may laid tolerable are blocks its known begun done made =
    let is = still out later rewind old surveyed read s are blocks in
    let here : AreBegun later s read (disks_of core) = subst (λ (d : Disks). AreBegun later s read d) (sym made.disks) begun in
    let ended : AreDone later s read (disks_of core) = subst (λ (d : Disks). AreDone later s read d) (sym made.disks) done in
    let surveys = through_made out later old surveyed (through_survey out later old surveyed are.absent) in
    let reads = block_reads_made surveyed read blocks.only in
    let represents = represents_root keep old surveyed read new shapes out later root.stale.items s.claimed root.contents core laid are.count surveys reads begun.makes are.whole.fits its.read
    made.disks made.stale made.represents in
    let fresh : IsFreshFor old surveyed read shapes later s.claimed core = λ stored pool hold spells none tell.
    let there = held_behind_reads keep old surveyed shapes later [] stored surveys hold in
    let within : TellOver surveyed read shapes later [] = elim tell [
      | inl honest ↦ inl (honest_within (IsClaimWrite read.starts later s.claimed) old surveyed read new surveys begun.makes.makes (subst (λ (d : Disks). IsHonestSince old d) made.disks honest))
      | inr few ↦ inr few
    ] in
    let marks : root.stale.items ≡ [] = its.fresh stored pool there spells none within in
    let table : root.contents.spans ≡ [] =
    told_none surveyed read shapes later s.claimed.group s.claimed.root root.contents
    (subst (λ (them : List (Option GroupSpan)). IsReadOfRoot surveyed read shapes later them s.claimed.group s.claimed.root root.contents) marks its.read) stored pool there spells none within in
    let guids = guids_in (config_view root.disks.config.value) in
    let none_known : root.disks.spans ≡ [] =
    nothing_opened guids later s.claimed.group root.disks.spans
    (subst (λ (rows : List StaleSpan). AreSpansOpened guids later s.claimed.group rows root.disks.spans) table known.spans) in
    (made.stale ∙ marks, made.untouched table none_known) in
    let spans = spans_known later new shapes s.claimed root core made known in
    record {
      later = later;
      calls = claimed_through out later rewind old surveyed read (disks_of core) s are blocks here;
      kept = kept_by_claim later rewind old read (disks_of core) s few is here;
      gives = ended.gives rewind old few is;
      takes = opened_from later rewind old read (disks_of core) s are.whole.found_on is here.makes.makes;
      slotted = ended.slotted;
      labeled = ended.labeled;
      relabels = ended.relabels rewind old few is;
      tolerable = tolerable;
      stamped = made.stamped;
      root = made.root;
      may = may;
      outs = made.outs;
      vdevs = made.vdevs;
      spans = spans.0;
      stale = spans.1;
      represents = represents;
      possible = opens_possible (IsClaimWrite read.starts later s.claimed) old surveyed read new shapes later rewind s core few are.whole.found_on are.is reads begun.makes.makes
          made.disks fresh represents;
    }
