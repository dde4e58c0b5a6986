-- A pool that is opened.
use Rattle.std.proofs.Common.{◌≡◌, ◌≢◌, ◌<◌, ℕ, ◌==◌, Bool, List, [], ◌++◌, Option, Some, None, Contains, refl, sym, ap, ◌∙◌, subst, arith, inl, inr}
use Rattle.std.specs.Prelude.{if◌then◌else◌, map}
use Rattle.std.proofs.lemmas.Bool.{cases_eq}
use Rattle.std.proofs.lemmas.List.Elements.{Contains-append_right}
use Rattle.std.proofs.lemmas.Bool.Decides.{nat_tests}
use Rattle.block_pointer.specs.declared.block.Block.{Block}
use Rattle.block_store.specs.Blocks.{Contents, nothing_stored}
use Rattle.block_pointer.specs.Copies.{dvas}
use Rattle.block_store.specs.declared.shape.VdevShape.{VdevShape}
use Rattle.block_store.specs.Opened.{AreFound, Fills, FoundInUseAreStored}
use Rattle.block_store.specs.Places.{AreEmpty, ArePlacesIn, shapes_of, filled}
use Rattle.block_store.specs.Places.{planned as planned_marks}
use Rattle.block_store.specs.Plans.{Plans, KeepsPlans}
use Rattle.block_store.specs.Spaces.{VdevSpace}
use Rattle.disk_set.specs.declared.stale.GroupSpan.{GroupSpan}
use Rattle.block_store.specs.Store.{Store, Holds, Keeps, is_out, is_stale}
use Rattle.block_store.specs.Uses.{CopiesLieOn, IsInUse, Passes}
use Rattle.dataset_snapshots.specs.declared.contents.RootContents.{RootContents}
use Rattle.dataset_snapshots.specs.Contents.{AreContentsOf}
use Rattle.dataset_snapshots.specs.Laws.{KeepsEach}
use Rattle.dataset_snapshots.specs.Mapped.{HasItsMaps}
use Rattle.dataset_snapshots.specs.Pools.{SpellsPool}
use Rattle.dataset_snapshots.specs.Reach.{meta_blocks_of, reach_of, volume_blocks_of}
use Rattle.dataset_snapshots.proofs.ChangedRows.{nothing_in}
use Rattle.dataset_snapshots.proofs.Reaching.{reach_known}
use Rattle.dataset_snapshots.proofs.Readings.{roots_spell_one_pool}
use Rattle.dataset_snapshots.proofs.Standing.{roots_stand}
use Rattle.dnode_tree.specs.Rewriting.{AreDistinct}
use Rattle.metaslab.specs.State.{State as Mark, InUse, Released}
use Rattle.dataset_snapshots.specs.Beside.{LieBeforeMeta}
use Rattle.dataset_snapshots.specs.Loads.{AreApart, AreLoadedAs, NothingIsReleased, OnlyLoads}
use Rattle.dataset_snapshots.specs.Reached.{UseJust}
use Rattle.dataset_snapshots.specs.FreeMetaslab.{FreeMetaslab}
use Rattle.dataset_snapshots.proofs.MapsOpened.{loaded_for_blocks}
use Rattle.dataset_snapshots.proofs.MapsReadSets.{read_are_sets}
use Rattle.dataset_snapshots.proofs.MapsReaching.{lie_before_meta}
use Rattle.pool_model.specs.Pools.{PlainPool, no_volumes}
use Rattle.pool_model.specs.View.{Vdev, opened_as}
use Rattle.meta_objset.specs.Reading.{HasStaleSpans}
use Rattle.meta_objset.specs.declared.stale_spans.StaleSpan.{StaleSpan}
use Rattle.pool_commit.specs.Configs.{HasConfigAs}
use Rattle.pool_commit.proofs.Starting.{same_some}
use Rattle.objset.specs.Objects.{Object}
use Rattle.vdev_label.specs.Plain.{config_view}
use Rattle.vdev_label.specs.declared.label.Config.{Config}
use Rattle.volume_rules.specs.Index.{Knows}
use Rattle.pool_commit.specs.declared.kept.Kept.{Kept}
use Rattle.pool_commit.specs.declared.kept.KeptGroup.{KeptGroup}
use Rattle.pool_commit.specs.declared.kept.Planned.{Planned}
use Rattle.pool_commit.specs.declared.stamp.Stamp.{Stamp}
use Rattle.pool_commit.specs.Backs.{AreStamped, Backs, HasMaps, IsPlanOf, KeptHasMaps, KeptLeadsTo, LeadsTo, SpellsGroup, SpellsKept, SpellsRoot, kept_pool}
use Rattle.pool_commit.specs.Config.{shown, vdevs_of}
use Rattle.pool_commit.specs.Directories.{SpellsBy}
use Rattle.pool_commit.specs.Spans.{HasNoSpan, HaveNoSpans}
use Rattle.pool_commit.specs.Reopened.{IsConfiguredUnder, IsEmptyGroup, IsGroupOf, IsOfGroup}
use Rattle.pool_commit.specs.Slots.{IsStampOf}
use Rattle.pool_commit.specs.Space.{is_held_for, AreInBlocks, WereReleasedBy}
use Rattle.pool_commit.specs.State.{State, group_at}
use Rattle.pool_commit.proofs.Accounting.{none_in_use, none_released}
use Rattle.pool_commit.proofs.Holding.{weaker}
use Rattle.pool_commit.proofs.Mapping.{maps_over, maps_stand}
use Rattle.pool_commit.proofs.Reaching.{among, among_are, among_keeps, no_plan, none_distinct}

-- ---- one group is kept

pub record IsOnly (kept : Kept) (group : ℕ) : Type 0 where
  pub committed : kept.committed ≡ group
  pub before : kept.before ≡ None
  pub earliest : kept.earliest ≡ None

module _ (kept : Kept) (vdevs : List Vdev) (out : ℕ → Bool) (stale : ℕ → ℕ → Bool) (group : ℕ) (pool : PlainPool) (only : IsOnly kept group) where
  there : (other : ℕ) → other ≡ group → group_at kept other ≡ Some kept.last
  there other at = grind (arith, nat_tests, only.committed, at)

  pool_there : (other : ℕ) → other ≡ group → kept_pool (opened_as vdevs out stale group pool) other ≡ Some pool
  pool_there other at = grind (arith, nat_tests, at)

  gone : (other : ℕ) → other ≢ group → group_at kept other ≡ None
  gone other at = grind (arith, nat_tests, only.committed, only.before, only.earliest, at)

  pool_gone : (other : ℕ) → other ≢ group → kept_pool (opened_as vdevs out stale group pool) other ≡ None
  pool_gone other at = grind (arith, nat_tests, at)

  pub kept_opened : (stored : Contents) → SpellsGroup stored group kept.last pool → (other : ℕ)
      → SpellsKept stored other (group_at kept other) (kept_pool (opened_as vdevs out stale group pool) other)
  kept_opened stored spells other = elim (cases_eq other group) [
    | inl at ↦
        subst (λ (o : Option KeptGroup). SpellsKept stored other o (kept_pool (opened_as vdevs out stale group pool) other)) (sym (there other at))
        (subst (λ (o : Option PlainPool). SpellsKept stored other (Some kept.last) o) (sym (pool_there other at))
        (subst (λ g. SpellsGroup stored g kept.last pool) (sym at) spells))
    | inr another ↦
        subst (λ (o : Option KeptGroup). SpellsKept stored other o (kept_pool (opened_as vdevs out stale group pool) other)) (sym (gone other another))
        (subst (λ (o : Option PlainPool). SpellsKept stored other None o) (sym (pool_gone other another)) tt)
  ]

  -- uberblocks name its configuration
  pub stamped_only : (stamp : Stamp) → IsStampOf (config_view kept.last.config.value) stamp.claim stamp → AreStamped stamp kept
  stamped_only stamp stamped other it at = elim (cases_eq other group) [
    | inl here ↦ subst (λ (k : KeptGroup). IsStampOf (config_view k.config.value) stamp.claim stamp) (same_some kept.last it (sym (there other here) ∙ at)) stamped
    | inr another ↦ absurd (let clash : None ≡ Some it = sym (gone other another) ∙ at in cc)
  ]

  -- what it leads to
  abbrev pub only_reach : List Block → ℕ → List Block
  only_reach blocks other = if other == group then blocks else []

  reach_there : (blocks : List Block) (other : ℕ) → other ≡ group → only_reach blocks other ≡ blocks
  reach_there blocks other at = grind (arith, nat_tests, at)

  reach_gone : (blocks : List Block) (other : ℕ) → other ≢ group → only_reach blocks other ≡ []
  reach_gone blocks other at = grind (arith, nat_tests, at)

  pub reach_cases : (P : List Block → Type 0) (blocks : List Block) → P blocks → P [] → (other : ℕ) → P (only_reach blocks other)
  reach_cases P blocks some none other = elim (cases_eq other group) [
    | inl at ↦ subst P (sym (reach_there blocks other at)) some
    | inr another ↦ subst P (sym (reach_gone blocks other another)) none
  ]

  pub reach_here : (blocks : List Block) → only_reach blocks group ≡ blocks
  reach_here blocks = reach_there blocks group refl

  pub leads_opened : (stored : Contents) (blocks : List Block) → LeadsTo stored group kept.last.root pool blocks → (other : ℕ)
      → KeptLeadsTo stored other (group_at kept other) (kept_pool (opened_as vdevs out stale group pool) other) (only_reach blocks other)
  leads_opened stored blocks leads other = elim (cases_eq other group) [
    | inl at ↦
        subst (λ (o : Option KeptGroup). KeptLeadsTo stored other o (kept_pool (opened_as vdevs out stale group pool) other) (only_reach blocks other)) (sym (there other at))
        (subst (λ (o : Option PlainPool). KeptLeadsTo stored other (Some kept.last) o (only_reach blocks other)) (sym (pool_there other at))
        (subst (λ (list : List Block). LeadsTo stored other kept.last.root pool list) (sym (reach_there blocks other at))
        (subst (λ g. LeadsTo stored g kept.last.root pool blocks) (sym at) leads)))
    | inr another ↦
        subst (λ (o : Option KeptGroup). KeptLeadsTo stored other o (kept_pool (opened_as vdevs out stale group pool) other) (only_reach blocks other)) (sym (gone other another))
        (subst (λ (o : Option PlainPool). KeptLeadsTo stored other None o (only_reach blocks other)) (sym (pool_gone other another)) (reach_gone blocks other another))
  ]

  pub mapped_opened : (spaces : List VdevSpace) (stored : Contents) → HasMaps spaces stored group kept.last.root pool → (other : ℕ)
      → KeptHasMaps spaces stored other (group_at kept other) (kept_pool (opened_as vdevs out stale group pool) other)
  mapped_opened spaces stored has other = elim (cases_eq other group) [
    | inl at ↦
        subst (λ (o : Option KeptGroup). KeptHasMaps spaces stored other o (kept_pool (opened_as vdevs out stale group pool) other)) (sym (there other at))
        (subst (λ (o : Option PlainPool). KeptHasMaps spaces stored other (Some kept.last) o) (sym (pool_there other at))
        (subst (λ g. HasMaps spaces stored g kept.last.root pool) (sym at) has))
    | inr another ↦
        subst (λ (o : Option KeptGroup). KeptHasMaps spaces stored other o (kept_pool (opened_as vdevs out stale group pool) other)) (sym (gone other another)) tt
  ]

-- the stamp of the group's configuration is that of this one
stamped_by : (s : State) (stamp : Stamp) (last : KeptGroup) (config : Config) → last.config.value ≡ config → s.stamp ≡ stamp → IsStampOf (config_view config) stamp.claim stamp
    → IsStampOf (config_view last.config.value) s.stamp.claim s.stamp
stamped_by s stamp last config is same stamped =
    subst (λ (it : Stamp). IsStampOf (config_view last.config.value) it.claim it) (sym same)
    (subst (λ (c : Config). IsStampOf (config_view c) stamp.claim stamp) (sym is) stamped)

-- ---- the blocks that were taken in

-- what is in use is held for whichever group
held_in_use : (group last : ℕ) (state : Mark) → IsInUse state → Passes (is_held_for group last) state
held_in_use group last state is = subst (Passes (is_held_for group last)) (sym is) refl

not_released : (group : ℕ) → ¬ IsInUse (Released group)
not_released group is = absurd (cc)

-- the blocks of the root alone, of those that the disks have, are found
pub found_among : (store : Store) (blocks : List Block) (stored : Contents) → Holds store stored → AreFound store blocks nothing_stored (among blocks stored)
found_among store blocks stored holds block bytes known =
    let is = among_are blocks stored block bytes known in
    inr (is.0, record { written = holds.blocks block bytes is.1; stand = λ i extent copy. holds.stand block bytes i extent is.1 copy })

-- what a group leads to, of the blocks of its root alone
pub record IsFound (stored : Contents) (group : ℕ) (kept : KeptGroup) (pool : PlainPool) (blocks : List Block) : Type 0 where
  pub spells : SpellsGroup stored group kept pool
  pub leads : LeadsTo stored group kept.root pool blocks

found_by : (spaces : List VdevSpace) (stored : Contents) (group : ℕ) (root : Block) (pool : PlainPool) (contents : RootContents) (kept : KeptGroup)
    → (config : Config) → IsGroupOf root contents.directory contents.names config kept → kept.spans_under.value ≡ contents.spans
    → (are : AreContentsOf stored spaces group root pool contents) → HasConfigAs (are.is.objects 2) (config_view config) → IsFound (among (reach_of are.is) stored) group kept pool (reach_of are.is)
found_by spaces stored group root pool contents kept config is table are has =
    let blocks = reach_of are.is in
    let keeps : KeepsEach stored (among blocks stored) blocks = λ block bytes held known. among_keeps blocks stored block bytes held known in
    let still = roots_stand stored (among blocks stored) group group root pool (omega arith) are.is keeps in
    let has_still : HasConfigAs (still.0.objects 2) (config_view kept.config.value) =
    subst (λ (c : Config). HasConfigAs (still.0.objects 2) (config_view c)) (sym is.config_is)
    (subst (λ (objects : ℕ → Option Object). HasConfigAs (objects 2) (config_view config)) (sym still.4) has) in
    let spans_still : HasStaleSpans (still.0.objects 3) kept.spans_under.value =
    subst (λ (objects : ℕ → Option Object). HasStaleSpans (objects 3) kept.spans_under.value) (sym still.4)
    (subst (λ (spans : List StaleSpan). HasStaleSpans (are.is.objects 3) spans) (sym (table ∙ are.spans)) are.is.spans) in
    record {
      spells = record {
        root = subst (λ (o : Option Block). SpellsRoot (among blocks stored) group o pool) (sym is.root_is) still.0;
        directory = subst (λ (o : Option Block). SpellsBy (among blocks stored) group o pool kept.directory.value (config_view kept.config.value) kept.spans_under.value) (sym is.root_is)
            (still.0, is.directory_is ∙ are.rows ∙ sym still.2, has_still, spans_still);
        names = subst (λ index. Knows index pool) (sym is.names_are) are.names;
      };
      leads = subst (λ (o : Option Block). LeadsTo (among blocks stored) group o pool blocks) (sym is.root_is) (still.0, still.1);
    }

-- what loading the maps and taking the blocks in does
pub record AreTaken (old mid new : Store) (maps : List FreeMetaslab) (blocks : List Block) : Type 0 where
  pub loads : OnlyLoads old mid
  pub released : NothingIsReleased filled old.spaces mid.spaces
  pub loaded : AreApart maps → AreLoadedAs old.spaces maps mid.spaces
  pub out : new.out ≡ mid.out
  pub stale : new.spans.stale ≡ mid.spans.stale
  pub shapes : shapes_of new.spaces ≡ shapes_of mid.spaces
  pub fills : Fills mid.spaces filled blocks new.spaces
  pub fills_planned : Fills mid.spaces planned_marks blocks new.spaces
  pub keeps : Keeps mid new
  pub plans : KeepsPlans mid new

-- a state of which one group is kept, and what it leads to, backs the pool that the group spells
backs_only : (s : State) (spaces : List VdevSpace) (flags : List Bool) (missed : List (Option GroupSpan)) (group : ℕ) (last : KeptGroup) (pool : PlainPool) (mine : Contents) (blocks : List Block)
    → IsOfGroup s.store s.stamp group last s → shapes_of s.store.spaces ≡ shapes_of spaces → s.store.out ≡ flags → s.store.spans.stale ≡ missed → Plans s.store mine mine
    → IsFound mine group last pool blocks → AreDistinct blocks
    → ((block : Block) (bytes : List ℕ) → mine block ≡ Some bytes → Contains blocks block)
    → ((block : Block) → Contains blocks block → CopiesLieOn IsInUse s.store.spaces filled block)
    → AreInBlocks s.store.spaces filled blocks → WereReleasedBy s.store.spaces filled s.kept.committed → HasMaps s.store.spaces mine group last.root pool
    → IsStampOf (config_view last.config.value) s.stamp.claim s.stamp → Backs s (opened_as (vdevs_of spaces) (is_out flags) (is_stale missed) group pool)
backs_only s spaces flags missed group last pool mine blocks is shapes out stale plans found once known in_use accounted released mapped stamped =
    let vdevs = vdevs_of spaces in
    let only : IsOnly s.kept group = record { committed = is.committed; before = is.before; earliest = is.earliest } in
    let spells : SpellsGroup mine group s.kept.last pool = subst (λ k. SpellsGroup mine group k pool) (sym is.last_is) found.spells in
    let leads : LeadsTo mine group s.kept.last.root pool blocks = subst (λ (k : KeptGroup). LeadsTo mine group k.root pool blocks) (sym is.last_is) found.leads in
    record {
      vdevs = ap (λ them. map (λ (shape : VdevShape). shown shape.vdev) them) (sym shapes);
      slots = refl;
      out = λ disk. ap (λ them. is_out them disk) (sym out);
      stale = λ disk birth. ap (λ (them : List (Option GroupSpan)). is_stale them disk birth) (sym stale);
      committed = only.committed;
      stamped = stamped_only s.kept vdevs (is_out flags) (is_stale missed) group pool only s.stamp
          (subst (λ (k : KeptGroup). IsStampOf (config_view k.config.value) s.stamp.claim s.stamp) (sym is.last_is) stamped);
      blocks = record {
        stored = mine;
        planned = mine;
        plans = plans;
        kept = kept_opened s.kept vdevs (is_out flags) (is_stale missed) group pool only mine spells;
        plan = subst (λ (p : Option Planned). IsPlanOf s mine p (opened_as vdevs (is_out flags) (is_stale missed) group pool)) (sym is.unplanned) refl;
        reached = record {
          reach = only_reach s.kept vdevs (is_out flags) (is_stale missed) group pool only blocks;
          leads = leads_opened s.kept vdevs (is_out flags) (is_stale missed) group pool only mine blocks leads;
          once = reach_cases s.kept vdevs (is_out flags) (is_stale missed) group pool only AreDistinct blocks once none_distinct;
          only = λ block bytes there. (
            group,
            subst (λ (list : List Block). Contains list block)
                (sym (reach_here s.kept vdevs (is_out flags) (is_stale missed) group pool only blocks)) (known block bytes there),
          );
          held = λ other. reach_cases s.kept vdevs (is_out flags) (is_stale missed) group pool only
              (λ list. (block : Block) → Contains list block → CopiesLieOn (Passes (is_held_for other s.kept.committed)) s.store.spaces filled block) blocks
              (λ block held. weaker IsInUse (Passes (is_held_for other s.kept.committed)) s.store.spaces filled block (held_in_use other s.kept.committed) (in_use block held))
              (λ block held. absurd (nothing_in block held))
              other;
          accounted = subst (AreInBlocks s.store.spaces filled)
              (sym (ap (only_reach s.kept vdevs (is_out flags) (is_stale missed) group pool only blocks) only.committed ∙ reach_here s.kept vdevs (is_out flags) (is_stale missed) group pool only blocks)) accounted;
          released = released;
          mapped = mapped_opened s.kept vdevs (is_out flags) (is_stale missed) group pool only s.store.spaces mine
              (subst (λ (k : KeptGroup). HasMaps s.store.spaces mine group k.root pool) (sym is.last_is) mapped);
        };
        plan_reached = no_plan s.store.spaces (only_reach s.kept vdevs (is_out flags) (is_stale missed) group pool only blocks) mine mine s.planned
            (opened_as vdevs (is_out flags) (is_stale missed) group pool) is.unplanned;
      };
    }

-- the state is over this store
over : (store : Store) (stamp : Stamp) (group : ℕ) (last : KeptGroup) (s : State) → IsOfGroup store stamp group last s → IsOfGroup s.store s.stamp group last s
over store stamp group last s is = record {
  store_is = refl;
  stamp_is = refl;
  unplanned = is.unplanned;
  committed = is.committed;
  last_is = is.last_is;
  before = is.before;
  earliest = is.earliest;
}

-- Just the sectors of what the root leads to are in use then, without what is planned and with it.
record IsAllInUse (new : Store) {stored : Contents} {group : ℕ} {root : Block} {pool : PlainPool} (is : SpellsPool stored group root pool) : Type 0 where
  pub filled_just : UseJust new.spaces filled (reach_of is)
  pub planned_just : UseJust new.spaces planned_marks (reach_of is)
  pub holds : Holds new stored

all_in_use : (old mid new : Store) (stored : Contents) (group : ℕ) (root : Block) (pool : PlainPool) (contents : RootContents)
    → AreTaken old mid new contents.maps.items contents.blocks.items → AreEmpty old.spaces → Holds old stored
    → (are : AreContentsOf stored old.spaces group root pool contents) → HasItsMaps old.spaces are.is → IsAllInUse new are.is
all_in_use old mid new stored group root pool contents taken empty holds are its =
    let meta = meta_blocks_of are.is in
    let others = volume_blocks_of are.is in
    let placed : (block : Block) → Contains (meta ++ others) block → (0 < block.property.sectors) × ArePlacesIn old.spaces block.property.sectors (dvas block.copies) =
    λ block held. let it = reach_known stored group root pool are.is block held in ((holds.blocks block it.0 it.1).fits.property.not_empty, holds.places block it.0 it.1) in
    let before : LieBeforeMeta old.spaces others =
    lie_before_meta old.spaces others (λ block held. (placed block (Contains-append_right meta others block held)).1) its.copied.others in
    let loaded = taken.loaded (read_are_sets are.is.objects old.spaces contents.maps.items are.maps).apart in
    let just = loaded_for_blocks are.is.objects old.spaces mid.spaces new.spaces meta others contents.maps.items empty its.maps are.maps loaded before placed taken.shapes
    (subst (λ (them : List Block). Fills mid.spaces filled them new.spaces) are.blocks taken.fills)
    (subst (λ (them : List Block). Fills mid.spaces planned_marks them new.spaces) are.blocks taken.fills_planned) in
    record { filled_just = just.0; planned_just = just.1; holds = taken.keeps stored (taken.loads.keeps stored holds) }

pub backs_opened : FoundInUseAreStored → (old mid new : Store) (stamp : Stamp) (group : ℕ) (root : Block) (contents : RootContents) (last : KeptGroup)
    (s : State) → AreTaken old mid new contents.maps.items contents.blocks.items → (config : Config) → IsGroupOf root contents.directory contents.names config last → last.spans_under.value ≡ contents.spans
    → IsOfGroup new stamp group last s → Plans old nothing_stored nothing_stored → AreEmpty old.spaces → (stored : Contents) (pool : PlainPool)
    → Holds old stored → AreContentsOf stored old.spaces group root pool contents → HasMaps old.spaces stored group (Some root) pool
    → IsConfiguredUnder stamp stored group root pool → IsStampOf (config_view config) stamp.claim stamp
    → Backs s (opened_as (vdevs_of old.spaces) (is_out old.out) (is_stale old.spans.stale) group pool)
backs_opened in_use_stored old mid new stamp group root contents last s taken config is_group table_known is plans empty stored pool holds are has configured stamped =
    let reach = reach_of are.is in
    let mine = among reach stored in
    let at : s.store ≡ new = is.store_is in
    let its : HasItsMaps old.spaces are.is = (roots_spell_one_pool stored group group root pool pool has.0 are.is).3 old.spaces has.1 in
    let (shown, under, table_is, named) = configured in
    let table : HasConfigAs (are.is.objects 2) (config_view config) =
    subst (λ (objects : ℕ → Option Object). HasConfigAs (objects 2) (config_view config)) (roots_spell_one_pool stored group group root pool pool shown are.is).4
    (under, table_is, record { guids = sym named.guids ∙ stamped.guids; digest = sym named.digest ∙ stamped.digest }) in
    let all = all_in_use old mid new stored group root pool contents taken empty holds are its in
    let place : (block : Block) → Contains reach block → ArePlacesIn new.spaces block.property.sectors (dvas block.copies) =
    λ block held. let it = reach_known stored group root pool are.is block held in all.holds.places block it.0 it.1 in
    let plans_new : Plans new mine mine =
    in_use_stored new reach mine (taken.plans nothing_stored nothing_stored (taken.loads.plans nothing_stored nothing_stored plans))
    (found_among new reach stored all.holds) place (λ block held. (all.filled_just.in_use block held, all.planned_just.in_use block held)) its.apart in
    backs_only s old.spaces old.out old.spans.stale group last pool mine reach (over new stamp group last s is)
    (ap (λ (store : Store). shapes_of store.spaces) at ∙ taken.shapes ∙ taken.loads.shapes)
    (ap (λ (store : Store). store.out) at ∙ taken.out ∙ ap (λ (store : Store). store.out) taken.loads.rest)
    (ap (λ (store : Store). store.spans.stale) at ∙ taken.stale ∙ ap (λ (store : Store). store.spans.stale) taken.loads.rest)
    (subst (λ store. Plans store mine mine) (sym at) plans_new)
    (found_by old.spaces stored group root pool contents last config is_group table_known are table) its.once
    (λ block bytes known. (among_are reach stored block bytes known).0)
    (λ block held. subst (λ (store : Store). CopiesLieOn IsInUse store.spaces filled block) (sym at) (all.filled_just.in_use block held))
    (subst (λ (store : Store). AreInBlocks store.spaces filled reach) (sym at) all.filled_just.accounted)
    (subst (λ (store : Store). WereReleasedBy store.spaces filled s.kept.committed) (sym at) (λ by mark used. elim (taken.fills.rest (Released by) mark used) [
      | inl was ↦ none_released old.spaces s.kept.committed empty by mark (taken.released by mark was)
      | inr clash ↦ absurd (let no : InUse ≡ Released by = clash in cc)
    ]))
    (maps_over old.spaces s.store.spaces mine group last.root pool (ap (λ (store : Store). shapes_of store.spaces) at ∙ taken.shapes ∙ taken.loads.shapes)
    (subst (λ (o : Option Block). HasMaps old.spaces mine group o pool) (sym is_group.root_is)
    (maps_stand old.spaces stored mine group (Some root) pool reach
    (λ block bytes held known. among_keeps reach stored block bytes held known) (are.is, refl) has)))
    (stamped_by s stamp last config is_group.config_is is.stamp_is stamped)

-- ---- an empty pool

-- nothing is found of it
found_empty : (stored : Contents) (group : ℕ) (last : KeptGroup) (config : Config) → IsEmptyGroup config last → IsFound stored group last no_volumes []
found_empty stored group last config is = record {
  spells = record {
    root = subst (λ (o : Option Block). SpellsRoot stored group o no_volumes) (sym is.root_is) refl;
    directory = subst (λ (o : Option Block). SpellsBy stored group o no_volumes last.directory.value (config_view last.config.value) last.spans_under.value) (sym is.root_is) (is.directory, is.table);
    names = is.names;
  };
  leads = subst (λ (o : Option Block). LeadsTo stored group o no_volumes []) (sym is.root_is) refl;
}

pub backs_empty : (store : Store) (stamp : Stamp) (group : ℕ) (last : KeptGroup) (s : State) (config : Config) → IsEmptyGroup config last → IsOfGroup store stamp group last s
    → Plans store nothing_stored nothing_stored → AreEmpty store.spaces → IsStampOf (config_view config) stamp.claim stamp
    → Backs s (opened_as (vdevs_of store.spaces) (is_out store.out) (is_stale store.spans.stale) group no_volumes)
backs_empty store stamp group last s config empty_group is plans empty stamped =
    let at : s.store ≡ store = is.store_is in
    backs_only s store.spaces store.out store.spans.stale group last no_volumes nothing_stored [] (over store stamp group last s is)
    (ap (λ (st : Store). shapes_of st.spaces) at) (ap (λ (st : Store). st.out) at) (ap (λ (st : Store). st.spans.stale) at) (subst (λ st. Plans st nothing_stored nothing_stored) (sym at) plans)
    (found_empty nothing_stored group last config empty_group) none_distinct
    (λ block bytes known. absurd (let clash : None ≡ Some bytes = known in cc))
    (λ block held. absurd (nothing_in block held))
    (subst (λ (st : Store). AreInBlocks st.spaces filled []) (sym at) (none_in_use store.spaces [] empty))
    (subst (λ (st : Store). WereReleasedBy st.spaces filled s.kept.committed) (sym at) (none_released store.spaces s.kept.committed empty))
    (subst (λ (o : Option Block). HasMaps s.store.spaces nothing_stored group o no_volumes) (sym empty_group.root_is) tt)
    (stamped_by s stamp last config empty_group.config_is is.stamp_is stamped)

-- ---- stale spans

-- of one group alone no span is kept where it has none
pub no_spans : (store : Store) (stamp : Stamp) (group : ℕ) (last : KeptGroup) (s : State) → IsOfGroup store stamp group last s → HasNoSpan last → HaveNoSpans s
no_spans store stamp group last s is none = record {
  last = subst (λ (k : KeptGroup). HasNoSpan k) (sym is.last_is) none;
  before = λ it at. absurd (let no : None ≡ Some it = sym is.before ∙ at in cc);
  earliest = λ it at. absurd (let no : None ≡ Some it = sym is.earliest ∙ at in cc);
  planned = λ plan at. absurd (let no : None ≡ Some plan = sym is.unplanned ∙ at in cc);
}
