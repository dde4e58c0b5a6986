-- What a run of the first steps leaves.
use Rattle.std.specs.List.{AllByRecursion}
use Rattle.std.proofs.Common.{◌≡◌, ℕ, zero, suc, ◌+◌, ◌++◌, ◌==◌, Bool, true, false, List, [], ◌∷◌, length, Some, None, Option, refl, sym, ap, ◌∙◌, subst, arith, if◌then◌else◌}
use Rattle.std.specs.Prelude.{replicate, IsTrue}
use Rattle.std.specs.List.{list_any}
use Rattle.block_pointer.specs.declared.block.Block.{Block}
use Rattle.block_store.specs.Blocks.{Contents}
use Rattle.block_store.specs.Places.{shapes_of}
use Rattle.block_store.specs.Spaces.{VdevSpace}
use Rattle.block_store.specs.Store.{is_out, is_stale}
use Rattle.block_store.specs.declared.shape.VdevShape.{VdevShape}
use Rattle.model_disk.specs.Joint.{Disks}
use Rattle.disk_set.specs.declared.stale.GroupSpan.{GroupSpan}
use Rattle.meta_objset.specs.Reading.{HasStaleSpans}
use Rattle.meta_objset.specs.declared.stale_spans.StaleSpan.{StaleSpan}
use Rattle.stale_disks.proofs.Tables.{empty_once}
use Rattle.pool_open.specs.Pools.{SpellsPool}
use Rattle.pool_open.proofs.CommitDirectories.{spans_led}
use Rattle.pool_open.proofs.CoreRunning.{came_through, tell_in, trusts}
use Rattle.pool_open.proofs.CoreTelling.{truth_tells}
use Rattle.pool_open.proofs.CoreUntouched.{chain_keeps}
use Rattle.pool_open.specs.Mapped.{SpellsWithMaps}
use Rattle.pool_open.proofs.CommitMapping.{its_maps_over}
use Rattle.pool_open.specs.Backs.{HasMaps, KeptHasMaps, SpellsGroup, SpellsKept, kept_pool}
use Rattle.pool_open.specs.Calls.{GrewTo}
use Rattle.pool_open.specs.Directories.{SpellsBy}
use Rattle.pool_open.specs.Reopened.{IsConfiguredUnder}
use Rattle.pool_open.specs.Slots.{IsStampOf}
use Rattle.pool_open.specs.Stamp.{Stamp}
use Rattle.vdev_label.specs.Plain.{config_view}
use Rattle.pool_open.specs.CommitState.{NoneIsOut, group_at}
use Rattle.pool_open.specs.Kept.{Kept}
use Rattle.pool_open.specs.KeptGroup.{KeptGroup}
use Rattle.pool_open.specs.CoreState.{CoreState, disks_of}
use Rattle.pool_model.specs.Accepted.{Accepted, accepted, ledger_with}
use Rattle.pool_model.specs.Groups.{commits}
use Rattle.pool_model.specs.Pools.{Entry, PlainPool, applied, no_items, no_volumes}
use Rattle.pool_model.specs.View.{is_kept}
use Rattle.pool_model.specs.declared.step.Reply.{Reply}
use Rattle.pool_model.specs.declared.step.Step.{Step}
use Rattle.pool_model.specs.declared.step.Step.TheVariants.{Close, Quiesce, Plan, Device}
use Rattle.pool_open.proofs.Holding.{held_whole}
use Rattle.pool_open.specs.declared.refusal.Refusal.{Refusal}
use Rattle.pool_open.specs.declared.refusal.Refusal.TheVariants.{NoMemory, DiskFault, NoSpace, BadConfig}
use Rattle.pool_slots.specs.Failures.{HasFailedOn}
use Rattle.pool_slots.specs.Opens.{AreKnown}
use Rattle.raidz_io.specs.Reads.{IsHonestSince}
use Rattle.pool_create.specs.FirstGroup.{AreFirstSteps, AreStepsWith, HasFaultIfTrue, HasFirstGroup, IsCommitted, IsDone, IsInFront, IsUnfinished, KeepsKnown, LacksFirstGroup, SpellsNone, in_front, says_no_memory, says_no_space}
use Rattle.pool_create.specs.Planning.{none_out}
use Rattle.pool_create.specs.declared.planning.NewPool.{NewPool}
use Rattle.pool_create.proofs.Known.{TakesNoneOut, chain_fails, chain_known}
use Rattle.pool_create.proofs.Stamped.{chain_stamp}

-- ---- no item is accepted

none_by_device : (n : ℕ) (replies : List Reply) → accepted (replicate n Device) replies ≡ []
none_by_device zero [] = refl
none_by_device zero (reply ∷ replies) = refl
none_by_device (suc n) [] = refl
none_by_device (suc n) (reply ∷ replies) = none_by_device n replies

none_by_first : (n : ℕ) (replies : List Reply) → accepted (Close ∷ Quiesce ∷ Plan 0 ∷ replicate n Device) replies ≡ []
none_by_first n [] = refl
none_by_first n (a ∷ []) = refl
none_by_first n (a ∷ b ∷ []) = refl
none_by_first n (a ∷ b ∷ c ∷ replies) = none_by_device n replies

none_accepted : (steps : List Step) (replies : List Reply) → AreFirstSteps steps → accepted steps replies ≡ []
none_accepted steps replies are = ap (λ (them : List Step). accepted them replies) are.2 ∙ none_by_first are.0 replies

devices_more : (n : ℕ) → replicate n Device ++ Device ∷ [] ≡ replicate (suc n) Device
devices_more zero = refl
devices_more (suc n) = ap (λ (steps : List Step). Device ∷ steps) (devices_more n)

-- one step more
pub steps_more : (count : ℕ) (steps later : List Step) → AreStepsWith count steps → later ≡ steps ++ Device ∷ [] → AreStepsWith (count + 1) later
steps_more count steps later are more =
    let next : suc count ≡ count + 1 = omega arith in
    more ∙ ap (λ (them : List Step). them ++ Device ∷ []) are ∙ ap (λ (them : List Step). Close ∷ Quiesce ∷ Plan 0 ∷ them) (devices_more count)
    ∙ ap (λ (n : ℕ). Close ∷ Quiesce ∷ Plan 0 ∷ replicate n Device) next

-- ---- no disk is out

pub none_marked : (n disk : ℕ) → is_out (none_out n) disk ≡ false
none_marked zero disk = refl
none_marked (suc n) zero = refl
none_marked (suc n) (suc disk) = none_marked n disk

pub none_marked_in : (out : List Bool) (n disk : ℕ) → out ≡ none_out n → is_out out disk ≡ false
none_marked_in out n disk same = ap (λ (flags : List Bool). is_out flags disk) same ∙ none_marked n disk

-- ---- the committed group

last_at : (kept : Kept) (group : ℕ) → kept.committed ≡ 3 → group_at kept 3 ≡ Some kept.last
last_at kept group is =
    ap (λ (n : ℕ). if 3 == n then Some kept.last else (if 4 == n then kept.before else (if 5 == n then kept.earliest else None))) is

mapped_if : (spaces : List VdevSpace) (stored : Contents) (group : ℕ) (last : KeptGroup) (kept : Bool) (pool : PlainPool)
    → SpellsKept stored group (Some last) (if kept then Some pool else None) → KeptHasMaps spaces stored group (Some last) (if kept then Some pool else None)
    → HasMaps spaces stored group last.root pool
mapped_if spaces stored group last true pool it maps = maps
mapped_if spaces stored group last false pool it maps = absurd it

mapped_root : (spaces : List VdevSpace) (shapes : List VdevShape) (stored : Contents) (group : ℕ) (root : Option Block) (b : Block) (pool : PlainPool) → root ≡ Some b → pool ≡ no_volumes
    → shapes_of spaces ≡ shapes → HasMaps spaces stored group root pool → SpellsWithMaps stored shapes group b no_volumes
mapped_root spaces shapes stored group root b pool is none same maps =
    let has : HasMaps spaces stored group (Some b) no_volumes =
    subst (λ (p : PlainPool). HasMaps spaces stored group (Some b) p) none (subst (λ (r : Option Block). HasMaps spaces stored group r pool) is maps) in
    (has.0, λ after shapes_are. its_maps_over spaces after stored group b no_volumes has.0 (shapes_are ∙ sym same) has.1)

-- the configuration that uberblocks of this stamp name stands under it
configured_if : (stored : Contents) (group : ℕ) (last : KeptGroup) (kept : Bool) (pool : PlainPool) (b : Block) (stamp : Stamp)
    → SpellsKept stored group (Some last) (if kept then Some pool else None) → last.root ≡ Some b → pool ≡ no_volumes
    → IsStampOf (config_view last.config.value) stamp.claim stamp → IsConfiguredUnder stamp stored group b no_volumes
configured_if stored group last true pool b stamp it is none stamped =
    let by : SpellsBy stored group (Some b) no_volumes last.directory.value (config_view last.config.value) last.spans_under.value =
    subst (λ (p : PlainPool). SpellsBy stored group (Some b) p last.directory.value (config_view last.config.value) last.spans_under.value) none
    (subst (λ (r : Option Block). SpellsBy stored group r pool last.directory.value (config_view last.config.value) last.spans_under.value) is it.directory) in
    let (its, has, alike) = by.2 in
    (by.0, its, has, record { claim_is = refl; guids = stamped.guids ∙ sym alike.guids; digest = stamped.digest ∙ sym alike.digest })
configured_if stored group last false pool b stamp it is none stamped = absurd it

-- its table of stale spans has the kept ones: none
stale_if : (stored : Contents) (group : ℕ) (last : KeptGroup) (kept : Bool) (pool : PlainPool) (b : Block) (is : SpellsPool stored group b no_volumes)
    → SpellsKept stored group (Some last) (if kept then Some pool else None) → last.root ≡ Some b → pool ≡ no_volumes → last.spans_under.value ≡ [] → is.stale ≡ []
stale_if stored group last true pool b is it root none empty =
    let spells : SpellsGroup stored group last no_volumes = subst (λ (p : PlainPool). SpellsGroup stored group last p) none it in
    let table : HasStaleSpans (is.objects 3) [] =
    subst (λ (spans : List StaleSpan). HasStaleSpans (is.objects 3) spans) empty (spans_led stored group last no_volumes b is spells root) in
    empty_once (is.objects 3) is.stale table is.spans
stale_if stored group last false pool b is it root none empty = absurd it

pub spells_none : (old : Disks) (it : NewPool) (before after : CoreState) (root : Block) → it.out.items ≡ none_out (length old.starts) → IsInFront old it before → IsCommitted it before after root
    → SpellsNone old it (disks_of after) root
spells_none old it before after root none in_front_of done honest =
    let ran = done.ran in
    let here : IsHonestSince (disks_of before) (disks_of after) = subst (λ (d : Disks). IsHonestSince d (disks_of after)) (sym in_front_of.disks_are) honest in
    let replies = ran.ran.0 in
    let all = ran.ran.3 (in_front it) (trusts replies) in_front_of.represents (tell_in before ran.steps replies after ran.ran.2 (truth_tells before after here)) in
    let w = all.0.after in
    let head = all.2 in
    let one : length (commits replies) ≡ 1 = ap (λ (them : List Reply). length (commits them)) (sym ran.ran.1) ∙ done.done.0 in
    let at_end : w.committed ≡ 2 + length (commits replies) = head.committed in
    let committed : w.committed ≡ 3 = omega (arith, at_end, one) in
    let entry : w.ledger 3 ≡ no_items =
    head.once.ledger 3 ∙ ap (λ (items : List Accepted). ledger_with (in_front it).ledger items 3) (none_accepted ran.steps replies ran.are) in
    let pool : w.pools 3 ≡ no_volumes = head.pools 3 (omega (arith, committed)) ∙ ap (λ (e : Entry). applied 3 no_volumes e) entry in
    let backs = all.0.represents.backs in
    let blocks = backs.blocks in
    let kept = after.commit.kept in
    let at = last_at kept 3 (backs.committed ∙ committed) in
    let stamp : after.commit.stamp ≡ it.stamp =
    chain_stamp before (in_front it) ran.steps (all.0).givens replies after w (all.0).chain ∙ in_front_of.stamp_is in
    let spaces = after.commit.store.spaces in
    let maps = mapped_if spaces blocks.stored 3 kept.last (is_kept w 3) (w.pools 3)
    (subst (λ (g : Option KeptGroup). SpellsKept blocks.stored 3 g (kept_pool w 3)) at (blocks.kept 3))
    (subst (λ (g : Option KeptGroup). KeptHasMaps spaces blocks.stored 3 g (kept_pool w 3)) at (blocks.reached.mapped 3)) in
    let spells = mapped_root spaces it.shapes.items blocks.stored 3 kept.last.root root (w.pools 3) done.root_is pool done.done.2 maps in
    let keeps = chain_keeps before (in_front it) ran.steps (all.0).givens replies after w (all.0).chain done.done.1 in
    let fresh : (disk birth : ℕ) → is_stale after.commit.store.spans.stale disk birth ≡ false = λ disk birth.
    sym (backs.stale disk birth) ∙ ap (λ (lacks : ℕ → ℕ → Bool). lacks disk birth) keeps.1 in (
      blocks.stored,
      λ store over. held_whole after.commit.store store blocks.stored over.disks_are (over.shapes_are ∙ sym done.done.2) done.done.1
          (λ disk. none_marked_in store.out (length old.starts) disk (over.out_is ∙ none)) fresh
          (λ disk birth. ap (λ (them : List (Option GroupSpan)). is_stale them disk birth) over.stale_is) blocks.plans.held,
      spells,
      stale_if blocks.stored 3 kept.last (is_kept w 3) (w.pools 3) root spells.0
          (subst (λ (g : Option KeptGroup). SpellsKept blocks.stored 3 g (kept_pool w 3)) at (blocks.kept 3)) done.root_is pool (keeps.0.1 in_front_of.untouched).last.table,
      subst (λ (stamp : Stamp). IsConfiguredUnder stamp blocks.stored 3 root no_volumes) stamp
          (configured_if blocks.stored 3 kept.last (is_kept w 3) (w.pools 3) root after.commit.stamp
          (subst (λ (g : Option KeptGroup). SpellsKept blocks.stored 3 g (kept_pool w 3)) at (blocks.kept 3)) done.root_is pool (backs.stamped 3 kept.last at)),
    )

-- and no byte of the disks is lost
pub keeps_known : (old : Disks) (it : NewPool) (before after : CoreState) (root : Block) → IsInFront old it before → IsCommitted it before after root → KeepsKnown old it (disks_of after)
keeps_known old it before after root in_front_of done honest known =
    let ran = done.ran in
    let here : IsHonestSince (disks_of before) (disks_of after) = subst (λ (d : Disks). IsHonestSince d (disks_of after)) (sym in_front_of.disks_are) honest in
    let replies = ran.ran.0 in
    let all = ran.ran.3 (in_front it) (trusts replies) in_front_of.represents (tell_in before ran.steps replies after ran.ran.2 (truth_tells before after here)) in
    let links = all.0 in
    let kept = chain_known it.out.items before (in_front it) ran.steps links.givens replies after links.after (in_front it).out links.after.out links.chain all.2.outs
    (λ disk. links.represents.backs.out disk ∙ done.done.1 disk) in
    kept.1 (subst (λ (d : Disks). AreKnown it.out.items d) (sym in_front_of.disks_are) known)

pub first_of : (old : Disks) (it : NewPool) (before after : CoreState) (root : Block) (new : Disks) → it.out.items ≡ none_out (length old.starts) → IsInFront old it before → IsCommitted it before after root
    → new ≡ disks_of after → HasFirstGroup old it new root
first_of old it before after root new none in_front_of done same =
    let grew : GrewTo old (disks_of after) = subst (λ (d : Disks). GrewTo d (disks_of after)) in_front_of.disks_are
    (came_through before done.ran.steps done.ran.ran.0 after done.ran.ran.2).grew in
    let known = keeps_known old it before after root in_front_of done in
    let spells = spells_none old it before after root none in_front_of done in
    record {
      grew = subst (λ (d : Disks). GrewTo old d) (sym same) grew;
      committed = record { before = before; in_front_of = in_front_of; after = after; done = done; disks_are = same };
      known = subst (λ (d : Disks). KeepsKnown old it d) (sym same) known;
      spells = subst (λ (d : Disks). SpellsNone old it d root) (sym same) spells;
    }

-- ---- the group isn't committed

-- what it is put down to
abbrev cause_by : Bool → Bool → Bool → Refusal
cause_by space memory whole = if space then NoSpace else (if memory then NoMemory else (if whole then NoMemory else DiskFault))

disks_out : (space memory whole : Bool) → cause_by space memory whole ≡ DiskFault → whole ≡ false
disks_out true memory whole is = absurd (let clash : NoSpace ≡ DiskFault = is in cc)
disks_out false true whole is = absurd (let clash : NoMemory ≡ DiskFault = is in cc)
disks_out false false true is = absurd (let clash : NoMemory ≡ DiskFault = is in cc)
disks_out false false false is = refl

no_config : (space memory whole : Bool) → ¬ (cause_by space memory whole ≡ BadConfig)
no_config true memory whole is = absurd (let clash : NoSpace ≡ BadConfig = is in cc)
no_config false true whole is = absurd (let clash : NoMemory ≡ BadConfig = is in cc)
no_config false false true is = absurd (let clash : NoMemory ≡ BadConfig = is in cc)
no_config false false false is = absurd (let clash : DiskFault ≡ BadConfig = is in cc)

pub unfinished_otherwise : (it : NewPool) (before after : CoreState) (refusal : Refusal) → IsUnfinished it before after refusal → ¬ (refusal ≡ BadConfig)
unfinished_otherwise it before after refusal why is =
    no_config (list_any says_no_space why.replies) (list_any says_no_memory why.replies) why.whole (sym why.cause_is ∙ is)

none_first : (out : List Bool) → ((disk : ℕ) → is_out out disk ≡ false) → (disk : ℕ) → is_out (false ∷ out) disk ≡ false
none_first out none zero = refl
none_first out none (suc disk) = none disk

-- one of these disks is out
some_out : (out : List Bool) → ¬ ((disk : ℕ) → is_out out disk ≡ false) → (disk : ℕ) × (is_out out disk ≡ true)
some_out [] not = absurd (not (λ disk. refl))
some_out (true ∷ out) not = (0, refl)
some_out (false ∷ out) not =
    let rest = some_out out (λ none. not (λ disk. none_first out none disk)) in
    (suc rest.0, rest.1)

not_whole : (whole : Bool) → whole ≡ false → ¬ IsTrue whole
not_whole whole is holds = absurd (let clash : true ≡ false = sym holds ∙ is in cc)

-- its steps take no disk out
takes_none : (steps : List Step) → AreFirstSteps steps → AllByRecursion TakesNoneOut steps
takes_none steps are = subst (AllByRecursion TakesNoneOut) (sym are.2) (tt, (tt, (tt, devices are.0)))
  where
    devices : (n : ℕ) → AllByRecursion TakesNoneOut (replicate n Device)
    devices zero = tt
    devices (suc n) = (tt, devices n)

-- a call on it failed
pub fails_first : (old : Disks) (it : NewPool) (before after : CoreState) (refusal : Refusal) → it.out.items ≡ none_out (length old.starts) → IsInFront old it before
    → IsUnfinished it before after refusal → refusal ≡ DiskFault → HasFaultIfTrue old (disks_of after)
fails_first old it before after refusal none in_front_of why is honest =
    let ran = why.ran in
    let here : IsHonestSince (disks_of before) (disks_of after) = subst (λ (d : Disks). IsHonestSince d (disks_of after)) (sym in_front_of.disks_are) honest in
    let replies = ran.ran.0 in
    let all = ran.ran.3 (in_front it) (trusts replies) in_front_of.represents (tell_in before ran.steps replies after ran.ran.2 (truth_tells before after here)) in
    let links = all.0 in
    let lost : why.whole ≡ false = disks_out (list_any says_no_space why.replies) (list_any says_no_memory why.replies) why.whole (sym why.cause_is ∙ is) in
    let out = some_out after.commit.store.out (λ whole. not_whole why.whole lost (why.is_whole.1 whole)) in
    subst (λ (d : Disks). (which : ℕ) × HasFailedOn d (disks_of after) which) in_front_of.disks_are
    (chain_fails before (in_front it) ran.steps links.givens replies after links.after (in_front it).out links.after.out (takes_none ran.steps ran.are) links.chain all.2.outs
    (λ disk. none_marked_in it.out.items (length old.starts) disk none) out.0 (links.represents.backs.out out.0 ∙ out.1))

pub lacks_of : (old : Disks) (it : NewPool) (before after : CoreState) (new : Disks) (refusal : Refusal) → it.out.items ≡ none_out (length old.starts) → IsInFront old it before
    → IsUnfinished it before after refusal → new ≡ disks_of after → LacksFirstGroup old it new refusal
lacks_of old it before after new refusal none in_front_of why same = record {
  before = before;
  in_front_of = in_front_of;
  after = after;
  why = why;
  disks_are = same;
  failed = λ is. subst (λ (d : Disks). HasFaultIfTrue old d) (sym same) (fails_first old it before after refusal none in_front_of why is);
}

-- ---- what the code knows of it

-- what is tested is what is asked
pub done_of : (it : NewPool) (new : CoreState) (replies tested : List Reply) (shapes before after : List VdevShape) → tested ≡ replies → before ≡ it.shapes.items → after ≡ shapes
    → shapes ≡ shapes_of new.commit.store.spaces → (length (commits tested) ≡ 1) × NoneIsOut new.commit × (after ≡ before) → IsDone it new replies
done_of it new replies tested shapes before after same is_before is_after are test =
    (ap (λ (them : List Reply). length (commits them)) (sym same) ∙ test.0, test.1, sym are ∙ sym is_after ∙ test.2 ∙ is_before)

pub tested_of : (it : NewPool) (new : CoreState) (replies tested : List Reply) (shapes before after : List VdevShape) → tested ≡ replies → before ≡ it.shapes.items → after ≡ shapes
    → shapes ≡ shapes_of new.commit.store.spaces → IsDone it new replies → (length (commits tested) ≡ 1) × NoneIsOut new.commit × (after ≡ before)
tested_of it new replies tested shapes before after same is_before is_after are done =
    (ap (λ (them : List Reply). length (commits them)) same ∙ done.0, done.1, is_after ∙ are ∙ done.2 ∙ sym is_before)
