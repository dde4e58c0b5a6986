-- The space maps of the committed group as a plan begins, and of the plan once it is made.
use Rattle.std.proofs.Common.{◌≡◌, ℕ, Bool, true, false, if◌then◌else◌, List, Option, Some, None, Contains, sym, ap, ◌∙◌, subst, refl}
use Rattle.block_pointer.specs.declared.block.Block.{Block}
use Rattle.block_store.specs.Blocks.{Contents}
use Rattle.block_store.specs.Opened.{AreBlocksApart}
use Rattle.block_store.specs.Places.{HaveMarks, Marks}
use Rattle.block_store.specs.Places.{filled as filled_marks, planned as planned_marks}
use Rattle.block_store.specs.Releases.{AreReleased, copies_of_all}
use Rattle.block_store.specs.Spaces.{VdevSpace}
use Rattle.block_store.specs.Store.{ArePlaced}
use Rattle.block_store.specs.Uses.{CopiesLieOn, IsInUse, Passes}
use Rattle.dataset_snapshots.proofs.ChangedRows.{nothing_in}
use Rattle.dataset_snapshots.proofs.Reaching.{reach_known}
use Rattle.dataset_snapshots.proofs.Readings.{roots_spell_one_pool}
use Rattle.dataset_snapshots.specs.Pools.{SpellsPool}
use Rattle.dataset_snapshots.specs.Reach.{reach_of}
use Rattle.dnode_tree.specs.Rewriting.{AreDistinct}
use Rattle.metaslab.specs.State.{is_in_use}
use Rattle.dataset_snapshots.specs.Reached.{UseJust}
use Rattle.pool_model.specs.Pools.{PlainPool}
use Rattle.pool_model.specs.View.{View}
use Rattle.pool_commit.specs.declared.kept.KeptGroup.{KeptGroup}
use Rattle.pool_commit.specs.Backs.{Backs, BeginsWithMaps, HasMaps, KeptHasMaps, KeptLeadsTo, LeadsTo, LeavesMaps, kept_pool}
use Rattle.pool_commit.specs.Space.{is_held_for, AreInBlocks, AreInUse}
use Rattle.pool_commit.specs.State.{State, group_at}
use Rattle.pool_commit.proofs.Backing.{last_at}
use Rattle.pool_commit.proofs.Holding.{weaker, by_marks, held_is_in_use, is_used}
use Rattle.dataset_snapshots.proofs.MapsReaching.{of_their_marks, for_their_blocks}
use Rattle.pool_commit.proofs.Reaching.{kept_leads}

-- ---- the committed group

-- the committed group leads to the blocks of its reach
pub last_leads : (s : State) (v : View) (backs : Backs s v) → LeadsTo backs.blocks.stored v.committed s.kept.last.root (v.pools v.committed) (backs.blocks.reached.reach v.committed)
last_leads s v backs =
    kept_leads backs.blocks.stored v v.committed (group_at s.kept v.committed) s.kept.last (backs.blocks.reached.reach v.committed)
    (ap (group_at s.kept) (sym backs.committed) ∙ last_at s.kept) (backs.blocks.reached.leads v.committed)

-- a group that is there has maps
has_maps : (spaces : List VdevSpace) (stored : Contents) (group : ℕ) (there : KeptGroup) (kept : Bool) (pool : PlainPool) (blocks : List Block)
    → KeptLeadsTo stored group (Some there) (if kept then Some pool else None) blocks → KeptHasMaps spaces stored group (Some there) (if kept then Some pool else None)
    → HasMaps spaces stored group there.root pool
has_maps spaces stored group there true pool blocks leads has = has
has_maps spaces stored group there false pool blocks leads has = absurd leads

kept_maps : (spaces : List VdevSpace) (stored : Contents) (v : View) (group : ℕ) (found : Option KeptGroup) (kept : KeptGroup) (blocks : List Block) → found ≡ Some kept
    → KeptLeadsTo stored group found (kept_pool v group) blocks → KeptHasMaps spaces stored group found (kept_pool v group) → HasMaps spaces stored group kept.root (v.pools group)
kept_maps spaces stored v group found kept blocks is leads has =
    has_maps spaces stored group kept _ (v.pools group) blocks (subst (λ (o : Option KeptGroup). KeptLeadsTo stored group o (kept_pool v group) blocks) is leads)
    (subst (λ (o : Option KeptGroup). KeptHasMaps spaces stored group o (kept_pool v group)) is has)

-- and so has the committed one
last_maps : (s : State) (v : View) (backs : Backs s v) → HasMaps s.store.spaces backs.blocks.stored v.committed s.kept.last.root (v.pools v.committed)
last_maps s v backs =
    kept_maps s.store.spaces backs.blocks.stored v v.committed (group_at s.kept v.committed) s.kept.last (backs.blocks.reached.reach v.committed)
    (ap (group_at s.kept) (sym backs.committed) ∙ last_at s.kept) (backs.blocks.reached.leads v.committed) (backs.blocks.reached.mapped v.committed)

-- just the sectors of what it leads to are in use
last_uses : (s : State) (v : View) (backs : Backs s v) → UseJust s.store.spaces filled_marks (backs.blocks.reached.reach v.committed)
last_uses s v backs = record {
  in_use = λ block among.
      weaker (Passes (is_held_for v.committed v.committed)) IsInUse s.store.spaces filled_marks block (λ state held. is_used state (held_is_in_use v.committed state held))
      (subst (λ c. CopiesLieOn (Passes (is_held_for v.committed c)) s.store.spaces filled_marks block) backs.committed (backs.blocks.reached.held v.committed block among));
  accounted = subst (λ c. AreInBlocks s.store.spaces filled_marks (backs.blocks.reached.reach c)) backs.committed backs.blocks.reached.accounted;
}

-- where just what a root leads to is in use, and nothing more is planned, a plan begins with its maps
begins_by : (spaces : List VdevSpace) (stored : Contents) (group : ℕ) (root : Option Block) (pool : PlainPool) (blocks : List Block)
    → HaveMarks spaces filled_marks spaces planned_marks → UseJust spaces filled_marks blocks → AreDistinct blocks → LeadsTo stored group root pool blocks
    → HasMaps spaces stored group root pool → BeginsWithMaps spaces stored group root pool
begins_by spaces stored group (Some root) pool blocks free just once leads has =
    let one = roots_spell_one_pool stored group group root pool pool leads.0 has.0 in
    let reach : blocks ≡ reach_of has.0 = sym leads.1 ∙ one.1 in
    let own : UseJust spaces filled_marks (reach_of has.0) = subst (UseJust spaces filled_marks) reach just in (
      has.0,
      record { copied = has.1.copied; maps = of_their_marks has.0.objects spaces filled_marks (reach_of has.0) has.1.maps own },
      record {
        once = subst AreDistinct reach once;
        in_use = λ block among. by_marks IsInUse spaces spaces filled_marks planned_marks block refl free (own.in_use block among);
      },
    )
begins_by spaces stored group None pool blocks free just once leads has = λ at used.
    let (block, among, in_block) = just.accounted at used in
    nothing_in block (subst (λ (list : List Block). Contains list block) leads among)

pub begins_with_maps : (s : State) (v : View) (backs : Backs s v) → HaveMarks s.store.spaces filled_marks s.store.spaces planned_marks
    → BeginsWithMaps s.store.spaces backs.blocks.stored v.committed s.kept.last.root (v.pools v.committed)
begins_with_maps s v backs free =
    begins_by s.store.spaces backs.blocks.stored v.committed s.kept.last.root (v.pools v.committed) (backs.blocks.reached.reach v.committed) free (last_uses s v backs)
    (backs.blocks.reached.once v.committed) (last_leads s v backs) (last_maps s v backs)

-- ---- the group that is planned

-- of blocks that are placed no two share a sector
placed_apart : (spaces : List VdevSpace) (marks : Marks) (stored : Contents) (group : ℕ) (root : Block) (pool : PlainPool) (is : SpellsPool stored group root pool)
    → ArePlaced spaces marks stored → AreBlocksApart (reach_of is)
placed_apart spaces marks stored group root pool is placed block other i k place behind one two at there =
    let first = reach_known stored group root pool is block one in
    let second = reach_known stored group root pool is other two in
    placed.apart block other first.0 second.0 i k place behind first.1 second.1 at there

-- where just what the root leads to is in use with the plan, and what was to be given back is, its maps are its own
pub maps_made : (made after : List VdevSpace) (gone : List Block) (later : Contents) (group : ℕ) (found : Option Block) (root : Block) (pool : PlainPool) (reach : List Block)
    → found ≡ Some root → LeavesMaps made gone later group root pool → LeadsTo later group found pool reach → AreReleased made (copies_of_all gone) group after
    → AreInUse after planned_marks reach → AreInBlocks after planned_marks reach → AreDistinct reach → ArePlaced made planned_marks later
    → HasMaps after later group found pool
maps_made made after gone later group found root pool reach is leaves leads released in_use accounted once placed =
    let led : LeadsTo later group (Some root) pool reach = subst (λ (o : Option Block). LeadsTo later group o pool reach) is leads in
    let next : SpellsPool later group root pool = leaves.0 in
    let one = roots_spell_one_pool later group group root pool pool led.0 next in
    let same : reach ≡ reach_of next = sym led.1 ∙ one.1 in
    let just : UseJust after planned_marks (reach_of next) =
    subst (UseJust after planned_marks) same (record {
      in_use = λ block among. weaker (Passes is_in_use) IsInUse after planned_marks block is_used (in_use block among);
      accounted = accounted;
    }) in
    let maps = leaves.1.maps after group released in
    subst (λ (o : Option Block). HasMaps after later group o pool) (sym is) (
      next,
      record {
        copied = leaves.1.copied;
        once = subst AreDistinct same once;
        apart = placed_apart made planned_marks later group root pool next placed;
        maps = for_their_blocks next.objects after planned_marks (reach_of next) maps.0 maps.1 just;
      },
    )
