-- The tree below the uberblock of a kept group, and of one that is planned.
use Rattle.std.proofs.Common.{ℕ, zero, suc, ◌≡◌, ⊎_elim, ◌+◌, ◌++◌, ◌<◌, Bool, true, false, List, [], ◌∷◌, length, Contains, Option, Some, None, refl, sym, ap, subst, ◌∙◌, arith}
use Rattle.std.specs.Prelude.{◌==◌, if◌then◌else◌, filter, nat_le, replicate, slice_index}
use Rattle.model_disk.specs.Joint.{Disks, content}
use Rattle.block_pointer.specs.Copies.{dvas}
use Rattle.block_pointer.specs.declared.block.Block.{Block}
use Rattle.raidz_io.specs.declared.vdev.Extent.{Extent}
use Rattle.raidz_io.specs.Elsewhere.{IsOfExtent}
use Rattle.raidz_io.specs.Places.{disk_of, offset_of}
use Rattle.raidz_io.specs.Stands.{ExtentStands, all_columns}
use Rattle.raidz_io.proofs.Written.{same_some, size_at, slice_get_some}
use Rattle.block_store.specs.Blocks.{Contents, IsWrittenAs}
use Rattle.block_store.specs.Elsewhere.{IsForBlocks}
use Rattle.block_store.specs.Places.{ArePlacesIn, IsCopy, shapes_of}
use Rattle.block_store.specs.Places.{filled as filled_marks, planned as planned_marks}
use Rattle.block_store.specs.Plans.{Plans}
use Rattle.block_store.specs.Spaces.{VdevSpace}
use Rattle.block_store.specs.Store.{Store, is_out, lost, missed, outs, outs_from}
use Rattle.block_store.proofs.Lost.{is_lost}
use Rattle.block_store.proofs.Planning.{arrived, is_among, placed_lies, some_or_none, stored_by}
use Rattle.block_store.proofs.Sectors.{lie_in_sectors}
use Rattle.pool_create.specs.Mapped.{SpellsWithMaps}
use Rattle.pool_create.specs.Pools.{SpellsPool}
use Rattle.pool_create.specs.Reach.{reach_of}
use Rattle.uberblock_ring.specs.declared.uberblock.Uberblock.{Uberblock}
use Rattle.pool_create.specs.KeptGroup.{KeptGroup}
use Rattle.pool_create.specs.CommitPlanned.{Planned}
use Rattle.pool_create.specs.Backs.{Backs, HasMaps, HasPlan, IsPlanOf, IsReachOfPlan, KeptHasMaps, PlansReach, SpellsGroup, SpellsKept, pool_after}
use Rattle.pool_create.specs.Kept.{Kept}
use Rattle.pool_create.specs.Stamp.{Stamp}
use Rattle.pool_create.specs.Directories.{SpellsBy}
use Rattle.pool_create.specs.Reopened.{IsConfiguredUnder}
use Rattle.pool_create.specs.Slots.{IsStampOf}
use Rattle.pool_create.specs.Spans.{HasNoSpan, HaveNoSpans, NoneIsStale}
use Rattle.vdev_label.specs.Plain.{config_view}
use Rattle.vdev_label.specs.declared.label.Config.{Config}
use Rattle.std.proofs.lemmas.Bool.Decides.{nat_tests}
use Rattle.pool_create.specs.CommitState.{NoneIsOut, State, group_at}
use Rattle.meta_objset.specs.Reading.{HasStaleSpans}
use Rattle.meta_objset.specs.declared.stale_spans.StaleSpan.{StaleSpan}
use Rattle.pool_create.proofs.CommitDirectories.{spans_led}
use Rattle.pool_create.proofs.CommitMapping.{its_maps_over}
use Rattle.pool_model.specs.Pools.{PlainPool}
use Rattle.pool_model.specs.View.{View, is_kept}
use Rattle.pool_create.specs.Held.{HoldOver}
use Rattle.pool_create.specs.Trees.{IsConfiguredFor, IsTreeOf}
use Rattle.pool_create.proofs.OpenHolding.{alike_stores_hold_alike, none_missed}
use Rattle.pool_slots.specs.Possible.{TreeStands}
use Rattle.stale_disks.proofs.Tables.{empty_once}
use Rattle.volume_rules.specs.NowMoves.{IsMadeBy}
use Rattle.volume_rules.specs.GoodChanges.{MakesGoodVolumes}
use Rattle.volume_rules.proofs.Overlays.{made_by_applied}
use Rattle.pool_stops.specs.Filled.{is_filled, is_for_blocks}
use Rattle.pool_stops.specs.Running.{IsOfKept, IsWhole}
use Rattle.pool_stops.specs.Standing.{block_trees, filled_trees}
use Rattle.pool_stops.proofs.Filled.{filled_for_blocks, for_blocks_picked}
use Rattle.pool_stops.proofs.Holding.{filled_trees_hold_blocks, used_but}
use Rattle.pool_stops.proofs.Standing.{its_disk}
use Rattle.pool_stops.proofs.Trees.{if_so, is_so}
use Rattle.pool_stops.proofs.Whole.{WholeTreeOf, is_whole, led_kept, led_root}

-- ---- stores that hold blocks

none_from : (out : List Bool) (first : ℕ) → ((disk : ℕ) → is_out out disk ≡ false) → outs_from first out ≡ []
none_from [] first none = refl
none_from (flag ∷ out) first none =
    ap (λ b. if b then first ∷ outs_from (suc first) out else outs_from (suc first) out) (none 0) ∙ none_from out (suc first) (λ disk. none (suc disk))

-- with no disk out none is lost
pub no_outs : (s : State) → NoneIsOut s → outs s.store ≡ []
no_outs s none = none_from s.store.out 0 none

zero_at : (n k : ℕ) → slice_index (replicate {A = ℕ} n 0) k ≡ 0
zero_at zero k = refl
zero_at (suc n) zero = refl
zero_at (suc n) (suc k) = zero_at n k

-- whatever store is over these disks, with some away, holds what stands on the others
hold_over : (store : Store) (disks : Disks) (away : List Bool) (held : Contents)
    → ((block : Block) (bytes : List ℕ) → held block ≡ Some bytes → IsWrittenAs block bytes)
    → ((block : Block) (bytes : List ℕ) → held block ≡ Some bytes → ArePlacesIn store.spaces block.property.sectors (dvas block.copies))
    → ((block : Block) (bytes : List ℕ) (i : ℕ) (extent : Extent) → held block ≡ Some bytes → IsCopy store.spaces block i extent
    → ExtentStands (content disks) (outs_from 0 away) extent bytes)
    → HoldOver disks (shapes_of store.spaces) away [] held
hold_over store disks away held written places stand =
    let over : Store = record store { disks = disks; out = away; spans = record { since = replicate (length disks.starts) 0; group = 0; stale = [] } } in
    let gone : (birth disk : ℕ) → Contains (outs_from 0 away) disk → Contains (lost over birth) disk =
    λ birth disk out. is_lost over birth disk out (omega (arith, zero_at (length disks.starts) disk)) in
    alike_stores_hold_alike disks (shapes_of store.spaces) away [] held over
    (record { disks_are = refl; shapes_are = refl; out_is = refl; since = refl; stale_is = refl })
    (record {
      blocks = written;
      places = places;
      stand = λ block bytes i extent known copy.
          let stands = stand block bytes i extent known copy in
          record {
            layout = stands.layout;
            columns = stands.columns;
            is_layout = stands.is_layout;
            are_bytes = stands.are_bytes;
            stand = λ k column column_bytes at at' present. stands.stand k column column_bytes at at' (λ out. present (gone block.birth (disk_of extent.vdev column) out));
          };
    })

-- ---- a kept group

-- with its maps, on all vdevs of these shapes
root_with_maps : (spaces : List VdevSpace) (stored : Contents) (group : ℕ) (root : Block) (found : Option Block) (pool : PlainPool) → found ≡ Some root
    → HasMaps spaces stored group found pool → SpellsWithMaps stored (shapes_of spaces) group root pool
root_with_maps spaces stored group root found pool is has =
    let here : HasMaps spaces stored group (Some root) pool = subst (λ (o : Option Block). HasMaps spaces stored group o pool) is has in
    (here.0, λ after same. its_maps_over spaces after stored group root pool here.0 same here.1)

kept_with_maps : (spaces : List VdevSpace) (stored : Contents) (group : ℕ) (root : Block) (found : Option KeptGroup) (kept : KeptGroup) (pool : PlainPool) (here : Bool)
    → found ≡ Some kept → kept.root ≡ Some root → SpellsKept stored group found (if here then Some pool else None)
    → KeptHasMaps spaces stored group found (if here then Some pool else None) → SpellsWithMaps stored (shapes_of spaces) group root pool
kept_with_maps spaces stored group root found kept pool true is root_is spells has =
    root_with_maps spaces stored group root kept.root pool root_is (subst (λ (o : Option KeptGroup). KeptHasMaps spaces stored group o (Some pool)) is has)
kept_with_maps spaces stored group root found kept pool false is root_is spells has = absurd (subst (λ (o : Option KeptGroup). SpellsKept stored group o None) is spells)

-- its root has the configuration that uberblocks of this stamp name
configured_after : (stored : Contents) (group : ℕ) (kept : KeptGroup) (root : Block) (pool : PlainPool) (stamp : Stamp) → kept.root ≡ Some root → SpellsGroup stored group kept pool
    → IsStampOf (config_view kept.config.value) stamp.claim stamp → IsConfiguredUnder stamp stored group root pool
configured_after stored group kept root pool stamp is spells stamped =
    let by : SpellsBy stored group (Some root) pool kept.directory.value (config_view kept.config.value) kept.spans_under.value =
    subst (λ (o : Option Block). SpellsBy stored group o pool kept.directory.value (config_view kept.config.value) kept.spans_under.value) is spells.directory in
    let (its, has, alike) = by.2 in
    (by.0, its, has, record { claim_is = refl; guids = stamped.guids ∙ sym alike.guids; digest = stamped.digest ∙ sym alike.digest })

configured_kept : (stored : Contents) (group : ℕ) (root : Block) (found : Option KeptGroup) (kept : KeptGroup) (pool : PlainPool) (here : Bool) (stamp : Stamp) → found ≡ Some kept
    → kept.root ≡ Some root → SpellsKept stored group found (if here then Some pool else None) → IsStampOf (config_view kept.config.value) stamp.claim stamp
    → IsConfiguredUnder stamp stored group root pool
configured_kept stored group root found kept pool true stamp is root_is spells stamped =
    configured_after stored group kept root pool stamp root_is (subst (λ (o : Option KeptGroup). SpellsKept stored group o (Some pool)) is spells) stamped
configured_kept stored group root found kept pool false stamp is root_is spells stamped = absurd (subst (λ (o : Option KeptGroup). SpellsKept stored group o None) is spells)

-- its root has no stale span where none is known
untouched_after : (stored : Contents) (group : ℕ) (kept : KeptGroup) (root : Block) (pool : PlainPool) (is : SpellsPool stored group root pool) → kept.root ≡ Some root
    → SpellsGroup stored group kept pool → HasNoSpan kept → is.stale ≡ []
untouched_after stored group kept root pool is root_is spells none =
    empty_once (is.objects 3) is.stale
    (subst (λ (spans : List StaleSpan). HasStaleSpans (is.objects 3) spans) none.table (spans_led stored group kept pool root is spells root_is)) is.spans

untouched_kept : (stored : Contents) (group : ℕ) (root : Block) (found : Option KeptGroup) (kept : KeptGroup) (pool : PlainPool) (here : Bool) (is : SpellsPool stored group root pool)
    → found ≡ Some kept → kept.root ≡ Some root → SpellsKept stored group found (if here then Some pool else None) → HasNoSpan kept → is.stale ≡ []
untouched_kept stored group root found kept pool true is found_is root_is spells none =
    untouched_after stored group kept root pool is root_is (subst (λ (o : Option KeptGroup). SpellsKept stored group o (Some pool)) found_is spells) none
untouched_kept stored group root found kept pool false is found_is root_is spells none =
    absurd (subst (λ (o : Option KeptGroup). SpellsKept stored group o None) found_is spells)

one_of_three : (first second third : Bool) (s : State) (it : KeptGroup) → HaveNoSpans s
    → (if first then Some s.kept.last else (if second then s.kept.before else (if third then s.kept.earliest else None))) ≡ Some it → HasNoSpan it
one_of_three true second third s it none is =
    let same : s.kept.last ≡ it = cc in
    subst (λ (k : KeptGroup). HasNoSpan k) same none.last
one_of_three false true third s it none is = none.before it is
one_of_three false false true s it none is = none.earliest it is
one_of_three false false false s it none is = absurd (cc)

none_at : (s : State) (group : ℕ) (it : KeptGroup) → HaveNoSpans s → group_at s.kept group ≡ Some it → HasNoSpan it
none_at s group it none is = one_of_three (group == s.kept.committed) (suc group == s.kept.committed) (suc (suc group) == s.kept.committed) s it none is

last_at : (kept : Kept) → group_at kept kept.committed ≡ Some kept.last
last_at kept = grind (arith, nat_tests)

-- all that is filled is the tree of each kept group
pub kept_tree : (s : State) (v : View) (u : Uberblock) → Backs s v → IsWhole s → IsOfKept s v u
    → WholeTreeOf (filled_trees s.store.spaces s.store.disks) s.store.disks.starts (shapes_of s.store.spaces) s.store.out u (v.pools u.group)
kept_tree s v u backs whole of =
    let stored : Contents = backs.blocks.stored in
    let stores = stored_by s.store stored backs.blocks.planned backs.blocks.plans in
    let reached = backs.blocks.reached in
    let leads = led_kept stored u.group u.root (group_at s.kept u.group) of.kept (v.pools u.group) (is_kept v u.group) (reached.reach u.group) of.is of.root
    (reached.leads u.group) in
    let mapped : SpellsWithMaps stored (shapes_of s.store.spaces) u.group u.root (v.pools u.group) =
    kept_with_maps s.store.spaces stored u.group u.root (group_at s.kept u.group) of.kept (v.pools u.group) (is_kept v u.group) of.is of.root (backs.blocks.kept u.group)
    (reached.mapped u.group) in
    let tree : IsTreeOf (filled_trees s.store.spaces s.store.disks) s.store.disks.starts (shapes_of s.store.spaces) s.store.out u (v.pools u.group) = record {
      stored = stored;
      spells = mapped.0;
      untouched = untouched_kept stored u.group u.root (group_at s.kept u.group) of.kept (v.pools u.group) (is_kept v u.group) mapped.0 of.is of.root
          (backs.blocks.kept u.group) (none_at s u.group of.kept whole.untouched of.is);
      mapped = mapped.1;
      configured = subst (λ (stamp : Stamp). IsConfiguredUnder stamp stored u.group u.root (v.pools u.group)) (sym of.stamped)
          (configured_kept stored u.group u.root (group_at s.kept u.group) of.kept (v.pools u.group) (is_kept v u.group) s.stamp of.is of.root (backs.blocks.kept u.group)
          (backs.stamped u.group of.kept of.is));
      made = of.made;
      held = λ disks away many count stay tree.
          hold_over s.store disks away stored stores.held.blocks stores.held.places
          (filled_trees_hold_blocks s.store stored disks away u.root whole.lie whole.count count stay whole.fresh stores tree);
    } in
    record {
      tree = tree;
      whole = is_whole s.store.spaces filled_marks tree u.group (reached.reach u.group) backs.blocks.plans.stored_placed leads.0 leads.1 (reached.once u.group);
    }

-- ---- all bytes for blocks

-- they are no fewer than those that are filled
more_stand : (s : State) (disks : Disks) (away : List Bool) (root : Block) → TreeStands (block_trees s.store.spaces s.store.disks) away (content disks) root
    → TreeStands (filled_trees s.store.spaces s.store.disks) away (content disks) root
more_stand s disks away root tree which i value used is =
    let so = is_so (is_filled s.store.spaces which i) (content s.store.disks which i) value is in
    tree which i value used
    (if_so (is_for_blocks s.store.spaces which i) (content s.store.disks which i) None (filled_for_blocks s.store.spaces s.store.spaces which i refl so.0) ∙ so.1)

-- so they are the tree of each kept group too
pub kept_tree_too : (s : State) (u : Uberblock) (pool : PlainPool)
    → WholeTreeOf (filled_trees s.store.spaces s.store.disks) s.store.disks.starts (shapes_of s.store.spaces) s.store.out u pool
    → WholeTreeOf (block_trees s.store.spaces s.store.disks) s.store.disks.starts (shapes_of s.store.spaces) s.store.out u pool
kept_tree_too s u pool it = record {
  tree = record {
    stored = it.tree.stored;
    spells = it.tree.spells;
    untouched = it.tree.untouched;
    mapped = it.tree.mapped;
    configured = it.tree.configured;
    made = it.tree.made;
    held = λ disks away many count stay stands. it.tree.held disks away many count stay (more_stand s disks away u.root stands);
  };
  whole = record { once = it.whole.once; apart = it.whole.apart };
}

-- what stands on all disks stands wherever all bytes for blocks do
stands_too : (s : State) (disks : Disks) (away : List Bool) (root block : Block) (bytes : List ℕ) (i : ℕ) (extent : Extent) → IsWhole s → length away ≡ length s.store.out
    → ArePlacesIn s.store.spaces block.property.sectors (dvas block.copies) → IsCopy s.store.spaces block i extent
    → TreeStands (block_trees s.store.spaces s.store.disks) away (content disks) root → ExtentStands (content s.store.disks) [] extent bytes
    → ExtentStands (content disks) (outs_from 0 away) extent bytes
stands_too s disks away root block bytes i extent whole count places copy tree stands = record {
  layout = stands.layout;
  columns = stands.columns;
  is_layout = stands.is_layout;
  are_bytes = stands.are_bytes;
  stand = λ k column column_bytes at at' present j within.
      let disk : ℕ = disk_of extent.vdev column in
      let place : ℕ = offset_of column + j in
      let of : IsOfExtent extent disk place = record {
        k = k;
        column = column;
        is_column = stands.is_layout.places k column at;
        which = refl;
        from_first = omega arith;
        before_end = omega (arith, within, size_at (all_columns stands.columns) stands.layout k column column_bytes stands.are_bytes.sizes at at');
      } in
      let for_blocks : IsForBlocks s.store.spaces disk place =
      lie_in_sectors s.store.spaces block.property.sectors copy.place extent disk place
      (places copy.place (is_among (dvas block.copies) i copy.place copy.is_copy)).is_in copy.extent_is of in
      let there : disk < length away = omega (arith, its_disk s.store.disks.starts s.store.spaces disk place whole.lie.laid for_blocks, whole.count, count) in
      let value = slice_get_some column_bytes j within in
      let was : content s.store.disks disk place ≡ Some value.0 = stands.stand k column column_bytes at at' (λ held. absurd (omega (arith, held.1))) j within ∙ value.1 in
      tree disk place value.0 (used_but away disk there present)
      (if_so (is_for_blocks s.store.spaces disk place) (content s.store.disks disk place) None (for_blocks_picked s.store.spaces disk place for_blocks) ∙ was)
      ∙ sym value.1;
}

-- ---- a planned group

-- once no write is due the blocks of a plan stand on all disks
planned_stand : (s : State) (stored planned : Contents) (block : Block) (bytes : List ℕ) (i : ℕ) (extent : Extent) → outs s.store ≡ [] → NoneIsStale s → s.store.due ≡ []
    → Plans s.store stored planned → planned block ≡ Some bytes → IsCopy s.store.spaces block i extent → ExtentStands (content s.store.disks) [] extent bytes
planned_stand s stored planned block bytes i extent none fresh written plans known copy = ⊎_elim
    (λ (was, is).
    let same : was ≡ bytes = same_some was bytes (sym (plans.kept block was is) ∙ known) in
    let stale : missed s.store block.birth ≡ [] = none_missed s.store.spans.stale 0 block.birth (λ disk. fresh disk block.birth) in
    subst (λ (b : List ℕ). ExtentStands (content s.store.disks) [] extent b) same
    (subst (λ (them : List ℕ). ExtentStands (content s.store.disks) (filter (λ disk. nat_le (slice_index s.store.spans.since disk) block.birth) them ++ []) extent was) none
    (subst (λ (them : List ℕ). ExtentStands (content s.store.disks) (filter (λ disk. nat_le (slice_index s.store.spans.since disk) block.birth) (outs s.store) ++ them) extent was) stale
    (plans.held.stand block was i extent is copy))))
    (λ new.
    subst (λ (absent : List ℕ). ExtentStands (content s.store.disks) absent extent bytes) none
    (arrived s.store (plans.writes_of block i) extent bytes written (plans.on_the_way block bytes i extent known new copy)))
    (some_or_none (stored block))

-- all bytes for blocks are the tree of a planned group, once no write is due
pub plan_tree : (s : State) (v : View) (plan : Planned) → Backs s v → IsWhole s → s.planned ≡ Some plan → s.store.due ≡ [] → IsMadeBy v.committed (v.pools v.committed)
    → MakesGoodVolumes (v.ledger (suc v.committed))
    → WholeTreeOf (block_trees s.store.spaces s.store.disks) s.store.disks.starts (shapes_of s.store.spaces) s.store.out plan.uberblock (pool_after v)
plan_tree s v plan backs whole is written made good =
    let has : HasPlan s backs.blocks.planned plan v = subst (λ (o : Option Planned). IsPlanOf s backs.blocks.planned o v) is backs.blocks.plan in
    let none : outs s.store ≡ [] = no_outs s whole.none in
    let planned : Contents = backs.blocks.planned in
    let plans : Plans s.store backs.blocks.stored planned = backs.blocks.plans in
    let places = placed_lies s.store.spaces planned_marks planned plans.placed in
    let reached : PlansReach s.store.spaces backs.blocks.reached.reach backs.blocks.stored planned (suc v.committed) plan.after (pool_after v) =
    subst (λ (o : Option Planned). IsReachOfPlan s.store.spaces backs.blocks.reached.reach backs.blocks.stored planned o v) is backs.blocks.plan_reached in
    let Leads : Uberblock → Type 0 = λ u. (spells : SpellsPool planned (suc v.committed) u.root (pool_after v)) × (reach_of spells ≡ reached.reach) in
    let leads : Leads plan.uberblock = subst Leads (sym has.uberblock.is)
    (led_root planned (suc v.committed) plan.after.root has.uberblock.root (pool_after v) reached.reach has.uberblock.is_root reached.leads) in
    let WithMaps : Uberblock → Type 0 = λ u. SpellsWithMaps planned (shapes_of s.store.spaces) u.group u.root (pool_after v) in
    let mapped : WithMaps plan.uberblock = subst WithMaps (sym has.uberblock.is)
    (root_with_maps s.store.spaces planned (suc v.committed) has.uberblock.root plan.after.root (pool_after v) has.uberblock.is_root reached.mapped) in
    let NoSpans : Uberblock → Type 0 = λ u. (it : SpellsPool planned u.group u.root (pool_after v)) → it.stale ≡ [] in
    let none_in : NoSpans plan.uberblock = subst NoSpans (sym has.uberblock.is) (λ it.
    untouched_after planned (suc v.committed) plan.after has.uberblock.root (pool_after v) it has.uberblock.is_root has.spells (whole.untouched.planned plan is)) in
    let tree : IsTreeOf (block_trees s.store.spaces s.store.disks) s.store.disks.starts (shapes_of s.store.spaces) s.store.out plan.uberblock (pool_after v) = record {
      stored = planned;
      spells = mapped.0;
      untouched = none_in mapped.0;
      mapped = mapped.1;
      configured = subst (λ (u : Uberblock). IsConfiguredFor u planned (pool_after v)) (sym has.uberblock.is)
          (configured_after planned (suc v.committed) plan.after has.uberblock.root (pool_after v) s.stamp has.uberblock.is_root has.spells
          (subst (λ (c : Config). IsStampOf (config_view c) s.stamp.claim s.stamp) (sym has.config) (backs.stamped s.kept.committed s.kept.last (last_at s.kept))));
      made = subst (λ (u : Uberblock). IsMadeBy u.group (pool_after v)) (sym has.uberblock.is)
          (made_by_applied v.committed (v.pools v.committed) (v.ledger (suc v.committed)) made good);
      held = λ disks away many count stay tree.
          hold_over s.store disks away planned plans.placed.blocks places
          (λ block bytes i extent known copy.
          stands_too s disks away plan.uberblock.root block bytes i extent whole count (places block bytes known) copy tree
          (planned_stand s backs.blocks.stored planned block bytes i extent none whole.fresh written plans known copy));
    } in
    record {
      tree = tree;
      whole = is_whole s.store.spaces planned_marks tree (suc v.committed) reached.reach plans.placed leads.0 leads.1 reached.once;
    }
