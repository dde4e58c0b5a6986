-- A pool that is made, stage by stage.
use Rattle.std.proofs.Common.{◌≡◌, ◌⊎◌, inl, inr, ℕ, Bool, true, false, Option, List, length, refl, sym, ap, ◌∙◌, subst, arith}
use Rattle.std.specs.Prelude.{Ok}
use Rattle.block_pointer.specs.declared.block.Block.{Block}
use Rattle.block_store.specs.Elsewhere.{WritesElsewhereKeep}
use Rattle.block_store.specs.Opened.{MayBeOpened}
use Rattle.block_store.specs.Store.{is_out, is_stale}
use Rattle.model_disk.specs.Joint.{Disks}
use Rattle.model_disk.specs.Runs.{AreSettled, Makes, no_write}
use Rattle.model_disk.proofs.RunLemmas.{AreSettled-kept, Makes-none}
use Rattle.disk_set.specs.declared.stale.GroupSpan.{GroupSpan}
use Rattle.pool_open.specs.Spans.{HaveNoSpans}
use Rattle.pool_open.specs.Calls.{GrewTo}
use Rattle.pool_open.specs.Represents.{Represents}
use Rattle.pool_open.specs.CoreState.{CoreState, disks_of}
use Rattle.pool_open.proofs.CommitGrowing.{GrewTo-on, true_after, true_before}
use Rattle.pool_format.specs.Blank.{TellsBlank}
use Rattle.pool_format.specs.Labels.{AreLabeled, IsLabelWrite, children_of, labels_of}
use Rattle.pool_format.specs.declared.labeling.PoolIdentity.{PoolIdentity}
use Rattle.pool_model.specs.Pools.{no_volumes}
use Rattle.pool_model.specs.View.{none_stale, opened_as}
use Rattle.pool_open.specs.Held.{IsLaidOver}
use Rattle.pool_open.specs.Words.{vdevs_in}
use Rattle.pool_open.specs.declared.refusal.Refusal.{Refusal}
use Rattle.pool_open.specs.declared.refusal.Refusal.TheVariants.{NoMemory, DiskFault, NoSpace, BadLabel, NoUberblock, BadPointer, BadDigest, TooManyMissing, PoolMismatch, BadConfig, BadMap}
use Rattle.pool_slots.specs.Failures.{HasFailedOn}
use Rattle.pool_slots.specs.Opens.{AreKnown, IsHighestShown}
use Rattle.pool_open.specs.Slots.{IsStampOf}
use Rattle.pool_slots.specs.Slots.{HaveLabels}
use Rattle.vdev_label.specs.Plain.{PlainVdev}
use Rattle.pool_slots.proofs.Finding.{known_later}
use Rattle.raidz_io.specs.Reads.{IsHonestSince}
use Rattle.uberblock_ring.specs.declared.uberblock.Uberblock.{Uberblock}
use Rattle.vdev_label.specs.Plain.{config_view}
use Rattle.vdev_label.specs.declared.label.Config.{Config}
use Rattle.pool_create.specs.Creating.{CreateRefuses, IsCreated, IsFirst, IsShownAlone, IsShownAloneSince, IsShownSince}
use Rattle.pool_create.specs.FirstGroup.{HasFirstGroup, LacksFirstGroup}
use Rattle.pool_create.specs.Planning.{IsAllowedPool, IsNewPool, nobody, none_out}
use Rattle.pool_create.specs.ReadingBack.{IsReadBack, IsUnread, first_uberblock, of_read}
use Rattle.pool_create.specs.Stages.{IsFit, IsLaid, IsMade, IsUnfit, IsUnmade}
use Rattle.pool_create.specs.declared.planning.NewPool.{NewPool}
use Rattle.pool_create.proofs.Fitting.{may_be_made, may_not_be_made, some_children}
use Rattle.pool_create.proofs.Grown.{fails_in, made_grew}
use Rattle.pool_create.proofs.FirstGroup.{unfinished_otherwise}
use Rattle.pool_create.proofs.Known.{known_unfailed}
use Rattle.pool_create.proofs.Showing.{alone_fits, alone_shown, taken_shown}
use Rattle.pool_create.proofs.Labels.{held_behind_labels, labeled_later, laid_later}
use Rattle.pool_open.proofs.CommitMade.{GrewTo-none}

-- ---- disks that the pool fits

pub laid_still : (old new : Disks) (it : NewPool) → new.starts ≡ old.starts → IsLaid old it → IsLaid new it
laid_still old new it starts is = record {
  may = subst (λ (them : List (List ℕ)). MayBeOpened them it.shapes.items it.out.items) (sym starts) is.may;
  labels = subst HaveLabels (sym starts) is.labels;
  laid = laid_later old new it.shapes.items it.out.items starts is.laid;
}

pub new_still : (config : Config) (it : NewPool) (old new : Disks) → new.starts ≡ old.starts → IsNewPool config (length old.starts) it → IsNewPool config (length new.starts) it
new_still config it old new starts is = subst (λ (them : List (List ℕ)). IsNewPool config (length them) it) (sym starts) is

pub fit_of : (old new : Disks) (it : NewPool) → MayBeOpened old.starts it.shapes.items it.out.items → HaveLabels old.starts → IsLaidOver old it.shapes.items it.out.items → Makes no_write old new
    → TellsBlank old new (Ok true) → IsFit old it new
fit_of old new it may labels laid only tells = record {
  only = only;
  blank = tells;
  is_laid = laid_still old new it only.starts (record { may = may; labels = labels; laid = laid });
}

-- the disks show a pool, or can't be read
pub unfit_of : (old new : Disks) (it : NewPool) (refusal : Refusal) → Makes no_write old new
    → (refusal ≡ NoMemory) ⊎ (((refusal ≡ BadConfig) × TellsBlank old new (Ok false)) ⊎ ((refusal ≡ DiskFault) × ((which : ℕ) × HasFailedOn old new which))) → IsUnfit old it new refusal
unfit_of old new it refusal only why = record {
  only = only;
  why = elim why [
    | inl memory ↦ inl memory
    | inr (inl used) ↦ inr (inl (used.0, inr used.1))
    | inr (inr fault) ↦ inr (inr fault)
  ];
}

pub unfit_at_once : (old : Disks) (it : NewPool) (refusal : Refusal) → (refusal ≡ NoMemory) ⊎ ((refusal ≡ BadConfig) × ¬ MayBeOpened old.starts it.shapes.items it.out.items) → IsUnfit old it old refusal
unfit_at_once old it refusal why = record {
  only = Makes-none no_write old;
  why = elim why [
    | inl memory ↦ inl memory
    | inr bad ↦ inr (inl (bad.0, inl bad.1))
  ];
}

-- ---- the pool is made

pub is_first : (config : Config) (count : ℕ) (it : NewPool) (root : Block) (u : Uberblock) → IsNewPool config count it → u ≡ first_uberblock it root → IsFirst config u
is_first config count it root u new is = subst (λ (v : Uberblock). IsFirst config v) (sym is) (record {
  group_is = refl;
  claim_is = new.stamp_is.claim_is;
  guids = new.stamp_is.guids;
  digest = new.stamp_is.digest;
})

-- the first group's disks, the labeled ones, and the core that was read of them
pub record AreStages (old first labeled : Disks) (pool : PoolIdentity) (config : Config) (it : NewPool) (root : Block) (u : Uberblock) (core : CoreState) : Type 0 where
  pub new : IsNewPool config (length old.starts) it
  pub laid : IsLaid old it
  pub allowed : IsAllowedPool pool config
  pub count : length (children_of (config_view config)) ≡ length old.starts
  pub group : HasFirstGroup old it first root
  pub labels : Makes (IsLabelWrite first.starts (labels_of pool config 1 3)) first labeled
  pub show : AreLabeled labeled (labels_of pool config 1 3)
  pub settled : AreSettled labeled
  pub unfailed : (disk : ℕ) → ¬ HasFailedOn first labeled disk
  pub back : IsReadBack labeled it root u core

grew_labels : (old first labeled : Disks) (pool : PoolIdentity) (config : Config) (it : NewPool) (root : Block) (u : Uberblock) (core : CoreState) → AreStages old first labeled pool config it root u core
    → GrewTo old labeled
grew_labels old first labeled pool config it root u core are =
    GrewTo-on old first labeled are.group.grew (made_grew (IsLabelWrite first.starts (labels_of pool config 1 3)) first labeled are.labels)

grew_first : (old first labeled : Disks) (pool : PoolIdentity) (config : Config) (it : NewPool) (root : Block) (u : Uberblock) (core : CoreState) → AreStages old first labeled pool config it root u core
    → GrewTo first (disks_of core)
grew_first old first labeled pool config it root u core are =
    GrewTo-on first labeled (disks_of core) (made_grew (IsLabelWrite first.starts (labels_of pool config 1 3)) first labeled are.labels)
    (made_grew no_write labeled (disks_of core) are.back.only)

-- its uberblocks name the configuration that it has
pub named_of : (config : Config) (count : ℕ) (it : NewPool) → IsNewPool config count it → IsStampOf (config_view it.config.value) it.stamp.claim it.stamp
named_of config count it new =
    subst (λ (vdevs : List PlainVdev). IsStampOf vdevs it.stamp.claim it.stamp) (sym new.config_is)
    (record { claim_is = refl; guids = new.stamp_is.guids; digest = new.stamp_is.digest })

represents_none : WritesElsewhereKeep → (old first labeled : Disks) (pool : PoolIdentity) (config : Config) (it : NewPool) (root : Block) (u : Uberblock) (core : CoreState)
    → AreStages old first labeled pool config it root u core → IsHonestSince old (disks_of core)
    → Represents core (opened_as (vdevs_in it.shapes.items) (is_out it.out.items) none_stale 3 no_volumes) × HaveNoSpans core.commit
represents_none keep old first labeled pool config it root u core are honest =
    let spelled = are.group.spells (true_before old first (disks_of core) (grew_first old first labeled pool config it root u core are) honest) in
    let laid = laid_later old first it.shapes.items it.out.items are.group.grew.starts are.laid.laid in
    let count = are.count ∙ ap length (sym are.group.grew.starts) in
    let hold = held_behind_labels keep first labeled it.shapes.items it.out.items pool config spelled.0 laid count are.labels are.show spelled.1 in
    let honest_back = true_after old labeled (disks_of core) (grew_labels old first labeled pool config it root u core are) honest in (
      are.back.represents spelled.0 hold spelled.2 spelled.4 (named_of config (length old.starts) it are.new) honest_back,
      are.back.untouched spelled.0 hold spelled.2.0 spelled.3 honest_back,
    )

-- what was known of the old disks is known of the labeled ones, and the reads of these were true
since_labels : (old first labeled : Disks) (pool : PoolIdentity) (config : Config) (it : NewPool) (root : Block) (u : Uberblock) (core : CoreState)
    → AreStages old first labeled pool config it root u core → AreKnown (nobody old.starts) old → IsHonestSince old (disks_of core)
    → AreKnown it.out.items labeled × IsHonestSince labeled (disks_of core)
since_labels old first labeled pool config it root u core are known honest =
    let out = it.out.items in
    let known_here : AreKnown out old = subst (λ (flags : List Bool). AreKnown flags old) (sym are.new.none_is_out) known in
    let known_first = are.group.known (true_before old first (disks_of core) (grew_first old first labeled pool config it root u core are) honest) known_here in (
      known_unfailed out first labeled (made_grew (IsLabelWrite first.starts (labels_of pool config 1 3)) first labeled are.labels) are.unfailed known_first,
      true_after old labeled (disks_of core) (grew_labels old first labeled pool config it root u core are) honest,
    )

shown_since : (old first labeled : Disks) (pool : PoolIdentity) (config : Config) (it : NewPool) (root : Block) (u : Uberblock) (core : CoreState)
    → AreStages old first labeled pool config it root u core → IsShownSince old (disks_of core) u
shown_since old first labeled pool config it root u core are known honest =
    let last = since_labels old first labeled pool config it root u core are known honest in
    subst (λ (flags : List Bool). IsHighestShown flags (disks_of core) u) are.new.none_is_out
    (taken_shown labeled (disks_of core) (disks_of core) it.out.items u are.back.taken are.back.only last.0 last.1)

alone_since : (old first labeled : Disks) (pool : PoolIdentity) (config : Config) (it : NewPool) (root : Block) (u : Uberblock) (core : CoreState)
    → AreStages old first labeled pool config it root u core → IsShownAloneSince old (disks_of core) u
alone_since old first labeled pool config it root u core are known honest =
    let last = since_labels old first labeled pool config it root u core are known honest in
    let grew = grew_labels old first labeled pool config it root u core are in
    subst (λ (starts : List (List ℕ)). IsShownAlone (length starts) (disks_of core) u) grew.starts
    (alone_shown labeled (disks_of core) it.out.items u are.back.only (are.new.none_is_out ∙ ap (λ (starts : List (List ℕ)). none_out (length starts)) (sym grew.starts)) are.back.alone last.0 last.1)

pub made_of : WritesElsewhereKeep → (old first labeled : Disks) (pool : PoolIdentity) (config : Config) (it : NewPool) (root : Block) (u : Uberblock) (core : CoreState)
    → AreStages old first labeled pool config it root u core → IsMade old pool config it u core
made_of keep old first labeled pool config it root u core are = record {
  grew = GrewTo-on old labeled (disks_of core) (grew_labels old first labeled pool config it root u core are) (made_grew no_write labeled (disks_of core) are.back.only);
  first = is_first config (length old.starts) it root u are.new are.back.is;
  labeled = labeled_later labeled (disks_of core) (labels_of pool config 1 3) are.back.only are.show;
  settled = AreSettled-kept labeled (disks_of core) are.back.only are.settled;
  shown = shown_since old first labeled pool config it root u core are;
  fits = alone_fits labeled (disks_of core) u
      (omega (arith, some_children config pool are.allowed, are.count, ap length (grew_labels old first labeled pool config it root u core are).starts)) are.back.alone;
  alone = alone_since old first labeled pool config it root u core are;
  stamped = are.back.stamped;
  root = are.back.root_is;
  outs = are.back.outs;
  vdevs = are.back.vdevs;
  configured = ap config_view are.back.config ∙ are.new.config_is;
  represents = λ honest. (represents_none keep old first labeled pool config it root u core are honest).0;
  fresh = λ disk birth. ap (λ (them : List (Option GroupSpan)). is_stale them disk birth) are.back.fresh;
  untouched = λ honest. (represents_none keep old first labeled pool config it root u core are honest).1;
}

pub created_of : (old blank : Disks) (pool : PoolIdentity) (config : Config) (it : NewPool) (u : Uberblock) (core : CoreState) → IsAllowedPool pool config → IsNewPool config (length old.starts) it
    → IsFit old it blank → IsMade blank pool config it u core → IsCreated old pool config u core
created_of old blank pool config it u core allowed new fit made =
    let first = made_grew no_write old blank fit.only in
    let before = laid_still blank old it (sym fit.only.starts) fit.is_laid in
    record {
      may = may_be_made old.starts pool config it allowed new before.may;
      shapes = it.shapes.items;
      shapes_are = new.shapes_are;
      grew = GrewTo-on old blank (disks_of core) first made.grew;
      blank = λ which there known honest. fit.blank which there known (true_before old blank (disks_of core) made.grew honest);
      first = made.first;
      labeled = made.labeled;
      settled = made.settled;
      shown = λ known honest.
          let here = known_later (nobody old.starts) old blank fit.only known in
          let S : List (List ℕ) → Type 0 = λ starts. AreKnown (nobody starts) blank → IsHighestShown (nobody starts) (disks_of core) u in
          subst S fit.only.starts (λ is. made.shown is (true_after old blank (disks_of core) first honest)) here;
      fits = made.fits;
      alone = λ known honest.
          let here = known_later (nobody old.starts) old blank fit.only known in
          let S : List (List ℕ) → Type 0 = λ starts. AreKnown (nobody starts) blank → IsShownAlone (length starts) (disks_of core) u in
          subst S fit.only.starts (λ is. made.alone is (true_after old blank (disks_of core) first honest)) here;
      stamped = made.stamped;
      root = made.root;
      outs = made.outs ∙ new.none_is_out;
      vdevs = made.vdevs;
      configured = made.configured;
      represents = λ honest.
          subst (λ (out : List Bool). Represents core (opened_as (vdevs_in it.shapes.items) (is_out out) none_stale 3 no_volumes)) new.none_is_out
          (made.represents (true_after old blank (disks_of core) first honest));
      fresh = made.fresh;
      untouched = λ honest. made.untouched (true_after old blank (disks_of core) first honest);
    }

-- ---- the pool isn't made

no_memory_of_config : (refusal : Refusal) → refusal ≡ NoMemory → ¬ (refusal ≡ BadConfig)
no_memory_of_config refusal is same = absurd (let clash : NoMemory ≡ BadConfig = sym is ∙ same in cc)

no_fault_of_config : (refusal : Refusal) → refusal ≡ DiskFault → ¬ (refusal ≡ BadConfig)
no_fault_of_config refusal is same = absurd (let clash : DiskFault ≡ BadConfig = sym is ∙ same in cc)

read_otherwise : (cause : Refusal) → ¬ (of_read cause ≡ BadConfig)
read_otherwise NoMemory is = absurd (let clash : NoMemory ≡ BadConfig = is in cc)
read_otherwise DiskFault is = absurd (let clash : DiskFault ≡ BadConfig = is in cc)
read_otherwise NoSpace is = absurd (let clash : NoSpace ≡ BadConfig = is in cc)
read_otherwise (BadLabel breach) is = absurd (let clash : BadLabel breach ≡ BadConfig = is in cc)
read_otherwise NoUberblock is = absurd (let clash : NoUberblock ≡ BadConfig = is in cc)
read_otherwise BadPointer is = absurd (let clash : BadPointer ≡ BadConfig = is in cc)
read_otherwise BadDigest is = absurd (let clash : BadDigest ≡ BadConfig = is in cc)
read_otherwise TooManyMissing is = absurd (let clash : TooManyMissing ≡ BadConfig = is in cc)
read_otherwise PoolMismatch is = absurd (let clash : PoolMismatch ≡ BadConfig = is in cc)
read_otherwise BadConfig is = absurd (let clash : NoUberblock ≡ BadConfig = is in cc)
read_otherwise BadMap is = absurd (let clash : BadMap ≡ BadConfig = is in cc)

pub unmade_group : (old new : Disks) (pool : PoolIdentity) (config : Config) (it : NewPool) (refusal : Refusal) → GrewTo old new → (refusal ≡ NoMemory) ⊎ LacksFirstGroup old it new refusal
    → IsUnmade old pool config it new refusal
unmade_group old new pool config it refusal grew (inl memory) = record { grew = grew; other = no_memory_of_config refusal memory; why = inl memory }
unmade_group old new pool config it refusal grew (inr lacks) =
    record { grew = grew; other = unfinished_otherwise it lacks.before lacks.after refusal lacks.why; why = inr (inr (inl lacks)) }

pub unmade_labels : (old first labeled : Disks) (pool : PoolIdentity) (config : Config) (it : NewPool) (refusal : Refusal) → GrewTo old first
    → Makes (IsLabelWrite first.starts (labels_of pool config 1 3)) first labeled → (refusal ≡ NoMemory) ⊎ ((refusal ≡ DiskFault) × ((which : ℕ) × HasFailedOn first labeled which))
    → IsUnmade old pool config it labeled refusal
unmade_labels old first labeled pool config it refusal grew makes (inl memory) = record {
  grew = GrewTo-on old first labeled grew (made_grew (IsLabelWrite first.starts (labels_of pool config 1 3)) first labeled makes);
  other = no_memory_of_config refusal memory;
  why = inl memory;
}
unmade_labels old first labeled pool config it refusal grew makes (inr fault) = record {
  grew = GrewTo-on old first labeled grew (made_grew (IsLabelWrite first.starts (labels_of pool config 1 3)) first labeled makes);
  other = no_fault_of_config refusal fault.0;
  why = inr (inl (fault.0, (fault.1.0, fails_in old first labeled labeled fault.1.0 grew (GrewTo-none labeled) fault.1.1)));
}

pub unmade_back : (old first labeled new : Disks) (pool : PoolIdentity) (config : Config) (it : NewPool) (root : Block) (cause refusal : Refusal) → HasFirstGroup old it first root
    → Makes (IsLabelWrite first.starts (labels_of pool config 1 3)) first labeled → AreLabeled labeled (labels_of pool config 1 3) → refusal ≡ of_read cause
    → IsUnread labeled it root new cause → IsUnmade old pool config it new refusal
unmade_back old first labeled new pool config it root cause refusal group makes show same unread = record {
  grew = GrewTo-on old labeled new (GrewTo-on old first labeled group.grew (made_grew (IsLabelWrite first.starts (labels_of pool config 1 3)) first labeled makes))
      (made_grew no_write labeled new unread.0);
  other = λ is. read_otherwise cause (sym same ∙ is);
  why = inr (inr (inr (record { first = first; root = root; group = group; labeled = labeled; labels = makes; show = show; cause = cause; same = same; unread = unread })));
}

-- ---- the pool is refused

pub refused_plan : (old : Disks) (pool : PoolIdentity) (config : Config) (refusal : Refusal)
    → (refusal ≡ NoMemory) ⊎ ((refusal ≡ BadConfig) × ¬ IsAllowedPool pool config) → CreateRefuses old pool config old refusal
refused_plan old pool config refusal why = record {
  grew = GrewTo-none old;
  unwritten = λ is. Makes-none no_write old;
  why = elim why [
    | inl memory ↦ inl memory
    | inr bad ↦ inr (inl (bad.0, Makes-none no_write old, inl (λ may. bad.1 (may.name, may.allowed))))
  ];
}

pub refused_fit : (old new : Disks) (pool : PoolIdentity) (config : Config) (it : NewPool) (refusal : Refusal) → IsNewPool config (length old.starts) it → IsUnfit old it new refusal
    → CreateRefuses old pool config new refusal
refused_fit old new pool config it refusal is unfit = record {
  grew = made_grew no_write old new unfit.only;
  unwritten = λ same. unfit.only;
  why = elim unfit.why [
    | inl memory ↦ inl memory
    | inr (inl (bad, inl none)) ↦ inr (inl (bad, unfit.only, inl (may_not_be_made old.starts pool config it is none)))
    | inr (inl (bad, inr used)) ↦ inr (inl (bad, unfit.only, inr used))
    | inr (inr fault) ↦ inr (inr (inl fault))
  ];
}

pub refused_make : (old blank new : Disks) (pool : PoolIdentity) (config : Config) (it : NewPool) (refusal : Refusal) → IsNewPool config (length old.starts) it → GrewTo old blank
    → IsUnmade blank pool config it new refusal → CreateRefuses old pool config new refusal
refused_make old blank new pool config it refusal is grew unmade = record {
  grew = GrewTo-on old blank new grew unmade.grew;
  unwritten = λ same. absurd (unmade.other same);
  why = elim unmade.why [
    | inl memory ↦ inl memory
    | inr (inl (fault, (which, failed))) ↦ inr (inr (inl (fault, (which, fails_in old blank new new which grew (GrewTo-none new) failed))))
    | inr (inr (inl lacks)) ↦ inr (inr (inr (inl (it, is, record { new = blank; grew = grew; holds = lacks }))))
    | inr (inr (inr unread)) ↦ inr (inr (inr (inr (it, is, record { new = blank; grew = grew; holds = unread }))))
  ];
}
