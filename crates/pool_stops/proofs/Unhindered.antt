-- Opens that nothing hinders are refused for want of memory alone.
use Rattle.std.proofs.Common.{ℕ, zero, suc, ◌≡◌, ◌⊎◌, inl, inr, ⊎_elim, ◌+◌, ◌<◌, ◌≤◌, Bool, true, false, List, [], ◌∷◌, length, Contains, Option, refl, sym, ap, subst, ◌∙◌, arith, true≢false, if◌then◌else◌, nat_le, ◌&&◌}
use Rattle.pool_model.specs.Refusals.{greatest}
use Rattle.std.proofs.lemmas.Bool.Decides.{nat_tests}
use Rattle.model_disk.specs.Joint.{Disks, JointCall, content, failed_since}
use Rattle.model_disk.specs.Runs.{Makes, no_write}
use Rattle.model_disk.proofs.FailureLemmas.{kept_through}
use Rattle.raidz_io.specs.Reads.{IsHonestSince}
use Rattle.block_store.specs.Blocks.{Contents}
use Rattle.block_store.specs.Losses.{LossesAreNotTolerable}
use Rattle.block_store.specs.Opened.{CannotTakeIn, MayBeOpened}
use Rattle.block_store.specs.Places.{AreEmpty, shapes_of}
use Rattle.block_store.specs.Releases.{copies_of_all}
use Rattle.block_store.specs.Spaces.{VdevSpace}
use Rattle.block_store.specs.Store.{is_out}
use Rattle.disk_set.specs.declared.stale.GroupSpan.{GroupSpan}
use Rattle.block_store.specs.declared.refusal.Refusal.TheVariants.{NoMemory as NoStoreMemory}
use Rattle.block_store.specs.declared.shape.VdevShape.{VdevShape}
use Rattle.block_pointer.specs.declared.block.Block.{Block}
use Rattle.pool_create.proofs.SnapshotsReadings.{roots_spell_one_pool}
use Rattle.pool_create.specs.Pools.{SpellsPool}
use Rattle.pool_create.specs.RootContents.{RootContents}
use Rattle.pool_create.specs.Contents.{AreContentsOf}
use Rattle.pool_create.specs.Mapped.{HasItsMaps, HasItsMapsOver}
use Rattle.pool_create.specs.Reach.{meta_blocks_of, reach_of, volume_blocks_of}
use Rattle.pool_model.specs.Pools.{PlainPool}
use Rattle.pool_model.specs.View.{Vdev, is_tolerable, lost_in}
use Rattle.pool_create.specs.Reopened.{AreMisplaced}
use Rattle.pool_create.specs.OpenCauses.{of_root}
use Rattle.pool_create.specs.Held.{HoldOver}
use Rattle.pool_create.specs.OpenOpening.{AreClaimedThrough, AreReadThrough, IsCauseOfClaim, IsCauseOfReading, IsReadMisplaced, IsRootUnread, IsSurveyRefused}
use Rattle.pool_create.specs.Roots.{IsRefusedAgain, IsRefusedAtOnce, IsRootRefused, IsSmallRoot, RootRefuses, told_as}
use Rattle.pool_create.specs.Trees.{IsTreeOf}
use Rattle.pool_create.specs.Words.{most_blocks, vdevs_in}
use Rattle.pool_create.specs.OpenRefusal.{Refusal}
use Rattle.pool_create.specs.OpenRefusal.TheVariants.{NoMemory}
use Rattle.pool_create.proofs.OpenKnowing.{never_again}
use Rattle.pool_create.proofs.OpenThrough.{block_reads_made, honest_within}
use Rattle.pool_slots.specs.Failures.{HasFailedOn}
use Rattle.pool_slots.specs.Marks.{IsUsedUp}
use Rattle.pool_slots.specs.Opens.{CanOpen, IsHighestShown, IsRead, IsShown, OpenGives}
use Rattle.pool_slots.specs.Possible.{IsPossible, Possible, TreeStands, Trees}
use Rattle.pool_slots.specs.Present.{GoOut}
use Rattle.pool_slots.specs.Slots.{InUse, IsOutOfReach}
use Rattle.pool_slots.specs.Surveys.{IsSurveyOf, IsSurveyed, Surveyed}
use Rattle.pool_slots.specs.declared.refusal.Refusal.TheVariants as slots
use Rattle.pool_slots.proofs.Failing.{fails_later}
use Rattle.pool_slots.proofs.OpenSteps.{cause_of, found_on}
use Rattle.model_disk.proofs.RunLemmas.{Makes-none}
use Rattle.pool_slots.proofs.Phases.{none_same}
use Rattle.pool_slots.proofs.ReadRuns.{reads_made}
use Rattle.space_map_objects.specs.declared.refusal.Refusal.{Refusal as RootRefusal}
use Rattle.space_map_objects.specs.declared.refusal.Refusal.TheVariants.{NoMemory as NoRootMemory, Unread}
use Rattle.uberblock_ring.proofs.Ranks.{ranks_through}
use Rattle.uberblock_ring.specs.Ranking.{IsRewound, RanksUpTo}
use Rattle.uberblock_ring.specs.declared.uberblock.Uberblock.{Uberblock}
use Rattle.pool_stops.specs.Unhindered.{AreAllThere, AreEnoughThere, LeadToWholePools, FaultFreeOpensSucceed}
use Rattle.pool_stops.specs.Whole.{IsWholeTree, LieApart}
use Rattle.pool_stops.proofs.Counting.{blocks_fit}
use Rattle.pool_stops.proofs.FreePlaces.{can_take_in}
use Rattle.pool_stops.proofs.Lost.{not_for_loss}
use Rattle.pool_stops.proofs.OwnMaps.{first_apart, read_maps_are_sets}

-- enough disks are there, and nothing hinders the open
record IsFree (old new : Disks) (shapes : List VdevShape) (out : List Bool) : Type 0 where
  pub tolerable : is_tolerable (vdevs_in shapes) (is_out out) ≡ true
  pub may : MayBeOpened old.starts shapes out
  pub groups : (u : Uberblock) → IsRead out old u → u.group < greatest
  pub claims : (u : Uberblock) → IsHighestShown out old u → ¬ IsUsedUp out old u
  pub honest : IsHonestSince old new
  pub none_failed : (disk : ℕ) → ¬ HasFailedOn old new disk

-- ---- no disk goes out

fails_before : (may : ℕ → ℕ → List ℕ → Type 0) (old mid new : Disks) (disk : ℕ) → Makes may mid new → HasFailedOn old mid disk → HasFailedOn old new disk
fails_before may old mid new disk makes failed =
    subst (λ (calls : List JointCall). Contains (failed_since (length old.calls) calls) disk) (sym makes.calls)
    (kept_through (length old.calls) makes.newer mid.calls disk failed)

pub is_used : (out : List Bool) (which : ℕ) → InUse out which ⊎ ¬ InUse out which
is_used [] which = inr (λ used. absurd (cc used))
is_used (true ∷ out) zero = inr (λ used. absurd (cc used))
is_used (false ∷ out) zero = inl refl
is_used (flag ∷ out) (suc which) = is_used out which

pub same_use : (out later : List Bool) → length later ≡ length out → ((which : ℕ) → InUse later which → InUse out which)
    → ((which : ℕ) → InUse out which → InUse later which) → later ≡ out
same_use [] [] count stay still = refl
same_use [] (b ∷ later) count stay still = absurd (cc)
same_use (a ∷ out) [] count stay still = absurd (cc)
same_use (true ∷ out) (false ∷ later) count stay still = let used = stay 0 refl in absurd (cc used)
same_use (false ∷ out) (true ∷ later) count stay still = let used = still 0 refl in absurd (cc used)
same_use (true ∷ out) (true ∷ later) count stay still =
    ap (λ flags. true ∷ flags) (same_use out later (omega (arith, count)) (λ which. stay (suc which)) (λ which. still (suc which)))
same_use (false ∷ out) (false ∷ later) count stay still =
    ap (λ flags. false ∷ flags) (same_use out later (omega (arith, count)) (λ which. stay (suc which)) (λ which. still (suc which)))

all_stay : (out later : List Bool) (old surveyed new : Disks) (may : ℕ → ℕ → List ℕ → Type 0) → length later ≡ length out
    → ((disk : ℕ) → ¬ HasFailedOn old new disk) → GoOut out later old surveyed → Makes may surveyed new → later ≡ out
all_stay out later old surveyed new may count well gone makes =
    same_use out later count gone.stay (λ which used. ⊎_elim
    (λ still. still)
    (λ unused. absurd (well which (fails_before may old surveyed new which makes (gone.failed which used unused))))
    (is_used later which))

-- so it is of a claim
pub none_goes_out : (old new : Disks) (out later : List Bool) (claimed : Uberblock) → length later ≡ length out
    → ((disk : ℕ) → ¬ HasFailedOn old new disk) → AreClaimedThrough out later claimed old new → later ≡ out
none_goes_out old new out later claimed count well through =
    let surveyed = through.before.surveyed in
    all_stay out later old surveyed through.read no_write count
    (λ disk failed. well disk (fails_before _ old through.read new disk through.claims.makes failed)) through.before.absent
    (block_reads_made surveyed through.read through.before.blocks.only)

-- ---- all disks are there

none_lost : (lost : ℕ → Bool) (first n : ℕ) → ((disk : ℕ) → lost disk ≡ false) → lost_in lost first n ≡ 0
none_lost lost first zero none = refl
none_lost lost first (suc n) none =
    let one : ◌≡◌ {A = ℕ} (if lost (first + n) then 1 else 0) 0 = ap (λ flag. if flag then 1 else 0) (none (first + n)) in
    omega (arith, none_lost lost first n none, one)

zero_up_to : (n : ℕ) → nat_le 0 n ≡ true
zero_up_to n = grind (arith, nat_tests)

pub none_is_tolerable : (vdevs : List Vdev) (lost : ℕ → Bool) → ((disk : ℕ) → lost disk ≡ false) → is_tolerable vdevs lost ≡ true
none_is_tolerable [] lost none = refl
none_is_tolerable (vdev ∷ vdevs) lost none =
    let first : nat_le (lost_in lost vdev.first vdev.children) vdev.parity ≡ true = ap (λ n. nat_le n vdev.parity) (none_lost lost vdev.first vdev.children none) ∙ zero_up_to vdev.parity in
    ap (λ flag. flag && is_tolerable vdevs lost) first ∙ none_is_tolerable vdevs lost none

pub all_are_enough : (starts : List (List ℕ)) (shapes : List VdevShape) (out : List Bool) → AreAllThere starts shapes out → AreEnoughThere starts shapes out
all_are_enough starts shapes out there = record { tolerable = none_is_tolerable (vdevs_in shapes) (is_out out) there.none; may = there.may }

-- ---- what is taken

higher_than_last : (last u v : Uberblock) → RanksUpTo last u → (v.claim ≡ u.claim) × (u.group ≤ v.group + 2) → IsOutOfReach v last → ⊥
higher_than_last last u v (inl a) near (inl b) = omega (arith, near.0)
higher_than_last last u v (inl a) near (inr b) = omega (arith, near.0, b.0)
higher_than_last last u v (inr a) near (inl b) = omega (arith, near.0, a.0)
higher_than_last last u v (inr a) near (inr b) = omega (arith, near.1, a.1, b.1)

-- what stands no groups below one that is no lower than the last is in reach, and its tree stands
taken_is : (trees : Trees) (out : List Bool) (disks : Disks) (p : Possible) (highest taken : Uberblock) → CanOpen trees out disks p → RanksUpTo p.last highest
    → IsRewound highest 0 taken → IsRead out disks taken → IsPossible trees out (content disks) p taken
taken_is trees out disks p highest taken can rank rewound read =
    let on = read.on.on in
    let it = (can.leads read.which read.used).only on.label on.slot on.is_slot taken on.shows in
    let P : Uberblock → Type 0 = λ w. IsOutOfReach w p.last ⊎ IsPossible trees out (content disks) p w in
    ⊎_elim
    (λ far. absurd (higher_than_last p.last highest taken rank (rewound.0, omega (arith, rewound.1)) far))
    (λ possible. possible)
    (subst P (read.on.alone it.u it.shows) it.rank)

rank_of_top : (trees : Trees) (out : List Bool) (disks : Disks) (p : Possible) (highest : Uberblock) → CanOpen trees out disks p → IsHighestShown out disks highest → RanksUpTo p.last highest
rank_of_top trees out disks p highest can top =
    let it = (can.leads can.some.0 can.some.1).top in
    let shown : IsShown out disks it.u = record { which = can.some.0; used = can.some.1; on = record { label = it.label; slot = it.slot; is_slot = it.is_slot; shows = it.shows } } in
    ranks_through p.last it.u highest it.rank (top.greatest it.u shown)

-- what was surveyed
surveyed_is : (trees : Trees) (out : List Bool) (disks : Disks) (p : Possible) (s : Surveyed) → CanOpen trees out disks p → IsSurveyOf out 0 disks s → IsPossible trees out (content disks) p s.taken
surveyed_is trees out disks p s can says =
    let one = says.highest in
    let mine = found_on out disks s.found one.which one.found says.found one.at in
    let top = (can.leads one.which mine.0).top in
    let rank : RanksUpTo p.last s.highest = subst (λ (u : Uberblock). RanksUpTo p.last u) (sym one.is)
    (ranks_through p.last top.u one.found.uberblock top.rank (mine.1.greatest top.label top.slot top.is_slot top.u top.shows)) in
    taken_is trees out disks p s.highest s.taken can rank says.rewound says.taken

-- ---- before anything is read of the root

survey_case : (old new : Disks) (shapes : List VdevShape) (out : List Bool) (p : Possible) (pools : Uberblock → PlainPool) (refusal : Refusal) → LeadToWholePools old shapes out p pools
    → IsFree old new shapes out → IsSurveyRefused shapes out 0 old new refusal → refusal ≡ NoMemory
survey_case old new shapes out p pools refusal led free (inr (inl (barred, (s, is, most)))) =
    let can = led.led.can in
    let says : IsSurveyOf out 0 old s = is.says can.known free.honest in
    let group : s.claimed.group ≡ s.taken.group = ap (λ (u : Uberblock). u.group) says.claimed in
    absurd (omega (arith, most, group, free.groups s.taken says.taken))
survey_case old new shapes out p pools refusal led free (inr (inr (barred, lost))) =
    absurd (true≢false (sym free.tolerable ∙ lost))
survey_case old new shapes out p pools refusal led free (inl (slots.NoMemory, same, refuses, no_fault)) = same
survey_case old new shapes out p pools refusal led free (inl (slots.DiskFault disk, same, refuses, no_fault)) = absurd (no_fault disk refl)
survey_case old new shapes out p pools refusal led free (inl (slots.NoUberblock, same, refuses, no_fault)) =
    let it = cause_of led.led.trees out 0 old new p slots.NoUberblock led.led.can free.honest refuses in absurd (omega (arith, it.0))
survey_case old new shapes out p pools refusal led free (inl (slots.NoLabel, same, refuses, no_fault)) =
    let can = led.led.can in
    let it = refuses can.known free.honest in
    let rank = rank_of_top led.led.trees out old p it.1.highest can it.1.top in
    let possible = taken_is led.led.trees out old p it.1.highest it.0 can rank it.1.rewound it.1.shown in
    ⊎_elim
    (λ unlabeled.
    let config = led.configured it.0 possible.0 unlabeled.which unlabeled.used in
    absurd (unlabeled.none config.number config.label config.shown))
    (λ without.
    let config = led.configured it.0 possible.0 can.some.0 can.some.1 in
    absurd (without can.some.0 can.some.1 config.number config.label config.shown config.config))
    it.2
survey_case old new shapes out p pools refusal led free (inl (slots.UsedUp, same, refuses, no_fault)) =
    let it = refuses led.led.can.known free.honest in absurd (free.claims it.0 it.1 it.2)

-- ---- the root

-- what is refused for want of memory is told so
told_memory : (out : List Bool) (cause : RootRefusal) → (cause ≡ NoRootMemory) ⊎ (cause ≡ Unread NoStoreMemory) → of_root (told_as out cause) ≡ NoMemory
told_memory out cause (inl memory) = ap (λ (c : RootRefusal). of_root (told_as out c)) memory
told_memory out cause (inr memory) = ap (λ (c : RootRefusal). of_root (told_as out c)) memory

-- what the root of an uberblock leads to, over these disks
record AtRoot (disks : Disks) (shapes : List VdevShape) (out : List Bool) (pool : PlainPool) (u : Uberblock) : Type 0 where
  pub stored : Contents
  pub spells : SpellsPool stored u.group u.root pool
  pub mapped : HasItsMapsOver shapes spells
  pub apart : LieApart shapes (reach_of spells)
  pub untouched : spells.stale ≡ []
  pub hold : HoldOver disks shapes out [] stored

at_root : (old surveyed new : Disks) (shapes : List VdevShape) (out : List Bool) (p : Possible) (pools : Uberblock → PlainPool) (s : Surveyed) → LeadToWholePools old shapes out p pools
    → IsFree old new shapes out → Makes no_write old surveyed → IsHonestSince old surveyed → IsSurveyed out 0 old surveyed s → AtRoot surveyed shapes out (pools s.taken) s.claimed
at_root old surveyed new shapes out p pools s led free makes honest is =
    let can = led.led.can in
    let says : IsSurveyOf out 0 old s = is.says can.known honest in
    let possible = surveyed_is led.led.trees out old p s can says in
    let tree : IsTreeOf led.led.trees old.starts shapes out s.taken (pools s.taken) = led.led.tree s.taken possible.0 in
    let whole : IsWholeTree tree = led.whole s.taken possible.0 in
    let stands : TreeStands led.led.trees out (content surveyed) s.taken.root = λ which i value used at. none_same old surveyed which i makes ∙ possible.1 which i value used at in
    let here : AtRoot surveyed shapes out (pools s.taken) (record s.taken { claim = s.claimed.claim }) = record {
      stored = tree.stored;
      spells = tree.spells;
      mapped = tree.mapped;
      untouched = tree.untouched;
      apart = whole.apart;
      hold = tree.held surveyed out (ap length makes.starts) refl (λ which used. used) stands;
    } in
    subst (λ (u : Uberblock). AtRoot surveyed shapes out (pools s.taken) u) (sym says.claimed) here

root_case : LossesAreNotTolerable → (guids : List ℕ) (old surveyed new : Disks) (shapes : List VdevShape) (out : List Bool) (p : Possible) (pools : Uberblock → PlainPool) (refusal : Refusal)
    → LeadToWholePools old shapes out p pools → IsFree old new shapes out → Makes no_write old surveyed → Makes no_write surveyed new
    → IsRootUnread guids old surveyed new shapes out 0 refusal → refusal ≡ NoMemory
root_case law guids old surveyed new shapes out p pools refusal led free makes reads unread =
    let honest : IsHonestSince old surveyed = honest_within no_write old old surveyed new (Makes-none no_write old) reads free.honest in
    let later : IsHonestSince surveyed new = honest_within no_write old surveyed new new makes (Makes-none no_write new) free.honest in
    let at = at_root old surveyed new shapes out p pools unread.s led free makes honest unread.is in
    let u : Uberblock = unread.s.claimed in
    let refused : (cause : RootRefusal) → RootRefuses surveyed new shapes out [] u.group u.root (most_blocks shapes) cause → of_root (told_as out cause) ≡ NoMemory = λ cause. ⊎_elim
    (λ (bad, not). absurd (not (subst (λ (starts : List (List ℕ)). MayBeOpened starts shapes out) (sym makes.starts) free.may)))
    (λ (it : IsRootRefused surveyed new shapes out [] u.group u.root (most_blocks shapes) cause).
    let small : IsSmallRoot at.stored shapes u.group u.root (pools unread.s.taken) (most_blocks shapes) = record {
      is = at.spells;
      mapped = at.mapped;
      few = blocks_fit it.store.spaces shapes (meta_blocks_of at.spells) it.over.shapes_are free.may.few
          (first_apart shapes (meta_blocks_of at.spells) (volume_blocks_of at.spells) at.apart);
    } in
    let Bears : List VdevShape × List Bool → Type 0 = λ x. is_tolerable (vdevs_in x.0) (is_out x.1) ≡ true in
    told_memory out cause (not_for_loss law it.store it.later u.group u.root (most_blocks shapes) it.after cause it.cause
    (subst Bears (λ j. (sym it.over.shapes_are j, sym it.over.out_is j)) free.tolerable) it.over.stale_is
    (λ disk failed.
    let P : Disks → Disks → Type 0 = λ a b. HasFailedOn a b disk in
    let here : HasFailedOn surveyed new disk = subst (λ (b : Disks). P surveyed b) it.now (subst (λ (a : Disks). P a it.later.disks) it.over.disks_are failed) in
    free.none_failed disk (fails_later no_write old surveyed new makes disk here))
    (it.whole at.stored (pools unread.s.taken) at.hold small (inl later)))) in
    let at_once : IsRefusedAtOnce surveyed new shapes out u.group u.root (most_blocks shapes) unread.cause → of_root unread.cause ≡ NoMemory =
    λ told. ap of_root told.told ∙ refused told.cause told.refused in
    let memory : of_root unread.cause ≡ NoMemory = ⊎_elim at_once
    (λ (again : IsRefusedAgain guids surveyed new shapes out u.group u.root (most_blocks shapes) unread.cause).
    absurd (never_again guids surveyed new shapes out u.group u.root (most_blocks shapes) unread.cause again at.stored (pools unread.s.taken) at.hold at.spells at.untouched (inl later)))
    unread.why in
    unread.same ∙ memory

reading_case : LossesAreNotTolerable → (guids : List ℕ) (old new : Disks) (shapes : List VdevShape) (out : List Bool) (p : Possible) (pools : Uberblock → PlainPool) (refusal : Refusal)
    → LeadToWholePools old shapes out p pools → IsFree old new shapes out → (through : AreReadThrough out out old new)
    → IsCauseOfReading guids old through.surveyed new shapes out out 0 refusal → refusal ≡ NoMemory
reading_case law guids old new shapes out p pools refusal led free through (inl memory) = memory
reading_case law guids old new shapes out p pools refusal led free through (inr (inl (bad, not))) = absurd (not free.may)
reading_case law guids old new shapes out p pools refusal led free through (inr (inr (inl survey))) = survey_case old new shapes out p pools refusal led free survey
reading_case law guids old new shapes out p pools refusal led free through (inr (inr (inr unread))) =
    root_case law guids old through.surveyed new shapes out p pools refusal led free (reads_made through.absent.only) (block_reads_made through.surveyed new through.blocks.only) unread

-- ---- the claim

-- on vdevs with no block, what a root with its space maps leads to has its places
never_misplaced : (spaces : List VdevSpace) (shapes : List VdevShape) (stored : Contents) (group : ℕ) (root : Block) (pool : PlainPool) (contents : RootContents) → shapes_of spaces ≡ shapes
    → AreEmpty spaces → (are : AreContentsOf stored spaces group root pool contents) → HasItsMaps spaces are.is → LieApart shapes (reach_of are.is) → ¬ AreMisplaced spaces contents
never_misplaced spaces shapes stored group root pool contents same empty are mapped apart (inl none) =
    none (read_maps_are_sets are.is.objects spaces contents.maps.items are.maps)
never_misplaced spaces shapes stored group root pool contents same empty are mapped apart (inr it) =
    let sets = read_maps_are_sets are.is.objects spaces contents.maps.items are.maps in
    let cannot : CannotTakeIn it.mid (copies_of_all (meta_blocks_of are.is)) it.after =
    subst (λ (them : List Block). CannotTakeIn it.mid (copies_of_all them) it.after) are.blocks it.cannot in
    can_take_in spaces it.mid it.after shapes contents.maps.items (meta_blocks_of are.is) same empty sets (it.loaded sets.apart)
    (first_apart shapes (meta_blocks_of are.is) (volume_blocks_of are.is) apart) mapped.copied.meta cannot

misplaced_case : (guids : List ℕ) (old surveyed read new : Disks) (shapes : List VdevShape) (out : List Bool) (p : Possible) (pools : Uberblock → PlainPool) (may : ℕ → ℕ → List ℕ → Type 0)
    → LeadToWholePools old shapes out p pools → IsFree old new shapes out → Makes no_write old surveyed → Makes no_write surveyed read → Makes may read new
    → IsReadMisplaced guids old surveyed read new shapes out 0 → ⊥
misplaced_case guids old surveyed read new shapes out p pools may led free makes reads claims it =
    let all : IsHonestSince old read = honest_within may old old read new (Makes-none no_write old) claims free.honest in
    let honest : IsHonestSince old surveyed = honest_within no_write old old surveyed read (Makes-none no_write old) reads all in
    let later : IsHonestSince surveyed read = honest_within may old surveyed read new makes claims free.honest in
    let at = at_root old surveyed new shapes out p pools it.s led free makes honest it.is in
    let u : Uberblock = it.s.claimed in
    let pool : PlainPool = pools it.s.taken in
    let spaces : List VdevSpace = it.why.store.spaces in
    let same : shapes_of spaces ≡ shapes = it.why.over.shapes_are in
    let fresh : it.stale ≡ [] = it.reads.fresh at.stored pool at.hold at.spells at.untouched (inl later) in
    let hold : HoldOver surveyed shapes out it.stale at.stored = subst (λ (stale : List (Option GroupSpan)). HoldOver surveyed shapes out stale at.stored) (sym fresh) at.hold in
    let are = it.reads.read.are at.stored pool hold at.spells (inl later) spaces same in
    let one = roots_spell_one_pool at.stored u.group u.group u.root pool pool at.spells are.is in
    never_misplaced spaces shapes at.stored u.group u.root pool it.contents same it.why.empty are (one.3 spaces (at.mapped spaces same))
    (subst (λ (them : List Block). LieApart shapes them) one.1 at.apart) it.why.misplaced

claim_case : (guids : List ℕ) (old new : Disks) (shapes : List VdevShape) (out : List Bool) (p : Possible) (pools : Uberblock → PlainPool) (claimed : Uberblock) (refusal : Refusal)
    → LeadToWholePools old shapes out p pools → IsFree old new shapes out → (through : AreClaimedThrough out out claimed old new)
    → IsCauseOfClaim guids old through.before.surveyed through.read new shapes out 0 refusal → refusal ≡ NoMemory
claim_case guids old new shapes out p pools claimed refusal led free through (inl memory) = memory
claim_case guids old new shapes out p pools claimed refusal led free through (inr (bad, misplaced)) =
    absurd (misplaced_case guids old through.before.surveyed through.read new shapes out p pools _ led free (reads_made through.before.absent.only)
    (block_reads_made through.before.surveyed through.read through.before.blocks.only) through.claims.makes misplaced)

-- ---- the law

pub fault_free_opens_succeed : LossesAreNotTolerable → FaultFreeOpensSucceed
fault_free_opens_succeed law guids old shapes out p pools refusal led there new is unhindered =
    let free : IsFree old new shapes out = record {
      tolerable = there.tolerable;
      may = there.may;
      groups = unhindered.left.groups;
      claims = unhindered.left.claims;
      honest = unhindered.truly.honest;
      none_failed = unhindered.truly.none_failed;
    } in
    let count : length is.later ≡ length out = is.count ∙ sym free.may.flags in
    let R : List Bool → Type 0 = λ later. (through : AreReadThrough out later old new) × IsCauseOfReading guids old through.surveyed new shapes out later 0 refusal in
    let C : List Bool → Type 0 = λ later. (claimed : Uberblock) × (through : AreClaimedThrough out later claimed old new) × OpenGives later 0 old claimed new
    × IsCauseOfClaim guids old through.before.surveyed through.read new shapes later 0 refusal in
    ⊎_elim
    (λ (it : R is.later).
    let all = all_stay out is.later old it.0.surveyed new no_write count free.none_failed it.0.absent (block_reads_made it.0.surveyed new it.0.blocks.only) in
    let at : R out = subst R all it in
    reading_case law guids old new shapes out p pools refusal led free at.0 at.1)
    (λ (it : C is.later).
    let through = it.1 in
    let all = none_goes_out old new out is.later it.0 count free.none_failed through in
    let at : C out = subst C all it in
    claim_case guids old new shapes out p pools at.0 refusal led free at.1 at.3)
    is.cause
