-- What kept groups lead to, before and after one more is committed.
use Rattle.std.proofs.Common.{◌≡◌, ◌≢◌, ◌⊎◌, ⊎_elim, ℕ, suc, ◌-◌, ◌<◌, ◌≤◌, ◌||◌, ◌==◌, Bool, true, false, List, [], ◌++◌, Option, Some, None, Contains, refl, sym, ap, ◌∙◌, subst, arith, inl, inr}
use Rattle.std.specs.Prelude.{if◌then◌else◌, nat_lt}
use Rattle.std.specs.List.{count_by}
use Rattle.std.proofs.lemmas.Bool.{cases_eq}
use Rattle.std.proofs.lemmas.Bool.Decides.{nat_tests}
use Rattle.std.proofs.lemmas.List.Elements.{Contains-append_left, Contains-append_right, Contains-append_cases}
use Rattle.block_pointer.specs.declared.block.Block.{Block}
use Rattle.block_store.specs.Blocks.{Contents, Extends}
use Rattle.block_store.specs.Forgetting.{Forgets}
use Rattle.block_store.specs.Places.{Marks, shapes_of, HaveMarks}
use Rattle.block_store.specs.Places.{filled as filled_marks, planned as planned_marks}
use Rattle.block_store.specs.Spaces.{VdevSpace}
use Rattle.block_store.specs.Store.{Store}
use Rattle.block_store.specs.Uses.{CopiesLieOn, Passes}
use Rattle.block_store.proofs.Planning.{same_marks}
use Rattle.metaslab.specs.State.{is_in_use}
use Rattle.dataset_snapshots.proofs.ChangedRows.{nothing_in}
use Rattle.dataset_snapshots.proofs.GroupReach.{after_once}
use Rattle.dataset_snapshots.proofs.Reaching.{reach_known}
use Rattle.dataset_snapshots.proofs.Standing.{roots_stand}
use Rattle.dataset_snapshots.specs.Laws.{KeepsEach}
use Rattle.dataset_snapshots.specs.Groups.{IsReachExchanged}
use Rattle.dnode_tree.proofs.SameBlocks.{same_as, counted, found}
use Rattle.dnode_tree.specs.Rewriting.{AreDistinct}
use Rattle.pool_commit.specs.declared.kept.Kept.{Kept}
use Rattle.pool_commit.specs.declared.kept.KeptGroup.{KeptGroup}
use Rattle.pool_commit.specs.declared.kept.Planned.{Planned}
use Rattle.pool_commit.specs.Backs.{HasMaps, IsReachOfPlan, KeptHasMaps, KeptLeadsTo, LeadsTo, PlansReach, SpellsKept, SpellsRoot, StoresReach, kept_pool, pool_after}
use Rattle.pool_commit.specs.State.{group_at}
use Rattle.pool_commit.specs.Space.{is_held_for, AreHeld, AreInUse, AreInBlocks, WereReleasedBy}
use Rattle.pool_commit.proofs.Accounting.{in_blocks_by, released_by_marks}
use Rattle.pool_commit.proofs.Directories.{spells_by_stands}
use Rattle.vdev_label.specs.Plain.{config_view}
use Rattle.pool_commit.proofs.Holding.{weaker, held_by_marks, in_use_is_held}
use Rattle.pool_commit.proofs.Keeping.{gone_group, gone_pool, new_group, new_pool, old_group, old_pool}
use Rattle.pool_commit.proofs.Mapping.{kept_maps_over, kept_maps_stand, kept_maps_stay}
use Rattle.pool_model.specs.Machine.{committed_next}
use Rattle.pool_model.specs.Pools.{PlainPool}
use Rattle.pool_model.specs.View.{View}

-- ---- one group

pub none_distinct : AreDistinct []
none_distinct = λ i j d less low. absurd (omega (arith, low))

-- all that a group leads to is known
pub led_known : (stored : Contents) (group : ℕ) (root : Option Block) (pool : PlainPool) (blocks : List Block) → LeadsTo stored group root pool blocks
    → (block : Block) → Contains blocks block → (bytes : List ℕ) × (stored block ≡ Some bytes)
led_known stored group (Some root) pool blocks leads block held =
    reach_known stored group root pool leads.0 block (subst (λ (list : List Block). Contains list block) (sym leads.1) held)
led_known stored group None pool blocks leads block held = absurd (nothing_in block (subst (λ (list : List Block). Contains list block) leads held))

-- it leads to the same blocks where these stay known
pub leads_stand : (old new : Contents) (group : ℕ) (root : Option Block) (pool : PlainPool) (blocks : List Block) → KeepsEach old new blocks → LeadsTo old group root pool blocks
    → LeadsTo new group root pool blocks
leads_stand old new group (Some root) pool blocks keeps leads =
    let there = roots_stand old new group group root pool (omega arith) leads.0 (subst (KeepsEach old new) (sym leads.1) keeps) in
    (there.0, there.1 ∙ leads.1)
leads_stand old new group None pool blocks keeps leads = leads

spells_stand : (old new : Contents) (group : ℕ) (root : Option Block) (pool : PlainPool) (blocks : List Block) → LeadsTo new group root pool blocks → SpellsRoot old group root pool
    → SpellsRoot new group root pool
spells_stand old new group (Some root) pool blocks leads spells = leads.0
spells_stand old new group None pool blocks leads spells = spells

pub kept_leads_stand : (old new : Contents) (group : ℕ) (kept : Option KeptGroup) (pool : Option PlainPool) (blocks : List Block) → KeepsEach old new blocks
    → KeptLeadsTo old group kept pool blocks → KeptLeadsTo new group kept pool blocks
kept_leads_stand old new group (Some kept) (Some pool) blocks keeps leads = leads_stand old new group kept.root pool blocks keeps leads
kept_leads_stand old new group None None blocks keeps leads = leads
kept_leads_stand old new group (Some kept) None blocks keeps leads = absurd leads
kept_leads_stand old new group None (Some pool) blocks keeps leads = absurd leads

pub kept_spells_stand : (old new : Contents) (group : ℕ) (kept : Option KeptGroup) (pool : Option PlainPool) (blocks : List Block) → KeepsEach old new blocks
    → KeptLeadsTo old group kept pool blocks → SpellsKept old group kept pool → SpellsKept new group kept pool
kept_spells_stand old new group (Some kept) (Some pool) blocks keeps leads spells = record {
  root = spells_stand old new group kept.root pool blocks (leads_stand old new group kept.root pool blocks keeps leads) spells.root;
  directory = spells_by_stands old new group kept.root pool kept.directory.value (config_view kept.config.value) kept.spans_under.value blocks keeps leads spells.directory;
  names = spells.names;
}
kept_spells_stand old new group None None blocks keeps leads spells = tt
kept_spells_stand old new group (Some kept) None blocks keeps leads spells = absurd spells
kept_spells_stand old new group None (Some pool) blocks keeps leads spells = absurd spells

kept_cases : (stored : Contents) (group : ℕ) (there : KeptGroup) (kept : Bool) (pool : PlainPool) (blocks : List Block) → KeptLeadsTo stored group (Some there) (if kept then Some pool else None) blocks
    → LeadsTo stored group there.root pool blocks
kept_cases stored group there true pool blocks leads = leads
kept_cases stored group there false pool blocks leads = absurd leads

-- a group that is there leads to the blocks of its reach
pub kept_leads : (stored : Contents) (v : View) (group : ℕ) (found : Option KeptGroup) (kept : KeptGroup) (blocks : List Block) → found ≡ Some kept
    → KeptLeadsTo stored group found (kept_pool v group) blocks → LeadsTo stored group kept.root (v.pools group) blocks
kept_leads stored v group found kept blocks is leads =
    kept_cases stored group kept _ (v.pools group) blocks (subst (λ (o : Option KeptGroup). KeptLeadsTo stored group o (kept_pool v group) blocks) is leads)

-- ---- a plan

-- what is planned is what the next group leads to, beside what is stored
pub plan_reaches : (spaces : List VdevSpace) (earlier : ℕ → List Block) (stored later : Contents) (after : KeptGroup) (v : View) (root : Option Block) (pool : PlainPool)
    (before reach gone : List Block) → LeadsTo stored v.committed root pool before
    → AreDistinct before → LeadsTo later (suc v.committed) after.root (pool_after v) reach → IsReachExchanged (suc v.committed) stored later before reach gone
    → AreHeld spaces planned_marks (suc v.committed) earlier → AreInUse spaces planned_marks reach
    → AreInBlocks spaces planned_marks reach → WereReleasedBy spaces planned_marks (suc v.committed) → HasMaps spaces later (suc v.committed) after.root (pool_after v)
    → PlansReach spaces earlier stored later (suc v.committed) after (pool_after v)
plan_reaches spaces earlier stored later after v root pool before reach gone was distinct leads exchanged held in_use accounted released mapped = record {
  mapped = mapped;
  held = held;
  in_use = in_use;
  accounted = accounted;
  released = released;
  reach = reach;
  leads = leads;
  once = after_once (suc v.committed) stored later before reach gone (led_known stored v.committed root pool before was) distinct exchanged;
  only = λ block bytes known.
      ⊎_elim
      (λ added. inl (let some : 0 < count_by (same_as block) exchanged.added = counted block exchanged.added added in
      found block reach (omega (arith, some, exchanged.after_are (same_as block)))))
      inr (exchanged.only block bytes known);
}

pub no_plan : (spaces : List VdevSpace) (earlier : ℕ → List Block) (stored later : Contents) (plan : Option Planned) (v : View) → plan ≡ None
    → IsReachOfPlan spaces earlier stored later plan v
no_plan spaces earlier stored later None v none = tt
no_plan spaces earlier stored later (Some plan) v none = absurd (cc)

-- ---- the same blocks, where their sectors are used as before

abbrev pub reached_over : (spaces after : List VdevSpace) (stored : Contents) (kept : Kept) (pools : ℕ → Option PlainPool) → shapes_of after ≡ shapes_of spaces
    → HaveMarks spaces filled_marks after filled_marks → StoresReach spaces stored kept pools → StoresReach after stored kept pools
reached_over spaces after stored kept pools shapes are reached = record {
  reach = reached.reach;
  leads = reached.leads;
  once = reached.once;
  only = reached.only;
  held = held_by_marks spaces after filled_marks filled_marks kept.committed reached.reach shapes are reached.held;
  accounted = in_blocks_by spaces after filled_marks filled_marks (reached.reach kept.committed) shapes are reached.accounted;
  released = released_by_marks spaces after filled_marks filled_marks kept.committed shapes are reached.released;
  mapped = λ group. kept_maps_over spaces after stored group (group_at kept group) (pools group) shapes (reached.mapped group);
}

pub same_spaces : (spaces after : List VdevSpace) (marks : Marks) → after ≡ spaces → HaveMarks spaces marks after marks
same_spaces spaces after marks same = subst (λ them. HaveMarks spaces marks them marks) (sym same) (same_marks spaces marks)

-- ---- fewer blocks

-- these blocks alone, of all that are known
abbrev pub among : List Block → Contents → Contents
among blocks contents block = if nat_lt 0 (count_by (same_as block) blocks) then contents block else None

some_is : (n : ℕ) → 0 < n → nat_lt 0 n ≡ true
some_is n some = grind (arith, nat_tests, some)

is_some : (n : ℕ) → nat_lt 0 n ≡ true → 0 < n
is_some n is = grind (arith, nat_tests, is)

pub among_keeps : (blocks : List Block) (contents : Contents) (block : Block) (bytes : List ℕ) → Contains blocks block → contents block ≡ Some bytes → among blocks contents block ≡ Some bytes
among_keeps blocks contents block bytes held known =
    ap (λ (test : Bool). if test then contents block else None) (some_is (count_by (same_as block) blocks) (counted block blocks held)) ∙ known

pub among_are : (blocks : List Block) (contents : Contents) (block : Block) (bytes : List ℕ) → among blocks contents block ≡ Some bytes → Contains blocks block × (contents block ≡ Some bytes)
among_are blocks contents block bytes known = by_cases (nat_lt 0 (count_by (same_as block) blocks)) refl known
  where
    by_cases : (test : Bool) → nat_lt 0 (count_by (same_as block) blocks) ≡ test → (if test then contents block else None) ≡ Some bytes → Contains blocks block × (contents block ≡ Some bytes)
    by_cases true is known = (found block blocks (is_some (count_by (same_as block) blocks) is), known)
    by_cases false is known = let clash : None ≡ Some bytes = known in absurd (cc)

-- what is stored alone may be forgotten
pub forgets : (store : Store) (blocks : List Block) (stored : Contents) → Forgets store stored stored (among blocks stored) (among blocks stored)
forgets store blocks stored = record {
  kept = λ block bytes known. known;
  of_stored = λ block bytes known. (among_are blocks stored block bytes known).1;
  of_planned = λ block bytes known. (among_are blocks stored block bytes known).1;
  both = λ block bytes known left. left;
  of_new = λ block bytes known none. absurd (let clash : None ≡ Some bytes = sym none ∙ known in cc);
}

-- ---- one more group is committed

-- what the kept groups lead to then: the new one, and the two before it
abbrev pub next_reach : ℕ → (ℕ → List Block) → List Block → ℕ → List Block
next_reach c reach new group = if group == suc c then new else (if (group == c) || (suc group == c) then reach group else [])

next_new : (c : ℕ) (reach : ℕ → List Block) (new : List Block) (group : ℕ) → group ≡ suc c → next_reach c reach new group ≡ new
next_new c reach new group at = grind (arith, nat_tests, at)

next_old : (c : ℕ) (reach : ℕ → List Block) (new : List Block) (group : ℕ) → (group ≡ c) ⊎ (suc group ≡ c) → next_reach c reach new group ≡ reach group
next_old c reach new group (inl at) = grind (arith, nat_tests, at)
next_old c reach new group (inr at) = grind (arith, nat_tests, at)

next_gone : (c : ℕ) (reach : ℕ → List Block) (new : List Block) (group : ℕ) → group ≢ suc c → group ≢ c → suc group ≢ c → next_reach c reach new group ≡ []
next_gone c reach new group a b d = grind (arith, nat_tests, a, b, d)

-- which of them a group is
data Which (c group : ℕ) : Type 0 where
  IsNew : group ≡ suc c → Which c group
  IsOld : (group ≡ c) ⊎ (suc group ≡ c) → Which c group
  IsGone : group ≢ suc c → group ≢ c → suc group ≢ c → Which c group

which : (c group : ℕ) → Which c group
which c group = elim (cases_eq group (suc c)) [
  | inl at ↦ IsNew at
  | inr other ↦ elim (cases_eq group c) [
    | inl at ↦ IsOld (inl at)
    | inr another ↦ elim (cases_eq (suc group) c) [
      | inl at ↦ IsOld (inr at)
      | inr far ↦ IsGone other another far
    ]
  ]
]

-- the blocks of all three
abbrev pub kept_blocks : ℕ → (ℕ → List Block) → List Block → List Block
kept_blocks c reach new = new ++ (reach c ++ reach (c - 1))

module _ (c : ℕ) (reach : ℕ → List Block) (new : List Block) where
  in_old : (group : ℕ) (block : Block) → (group ≡ c) ⊎ (suc group ≡ c) → Contains (reach group) block → Contains (reach c ++ reach (c - 1)) block
  in_old group block (inl at) held = Contains-append_left (reach c) (reach (c - 1)) block (subst (λ g. Contains (reach g) block) at held)
  in_old group block (inr at) held =
      let before : group ≡ c - 1 = omega (arith, at) in
      Contains-append_right (reach c) (reach (c - 1)) block (subst (λ g. Contains (reach g) block) before held)

  next_within : (group : ℕ) (block : Block) → Contains (next_reach c reach new group) block → Contains (kept_blocks c reach new) block
  next_within group block held = by_cases (which c group)
    where
      by_cases : Which c group → Contains (kept_blocks c reach new) block
      by_cases (IsNew at) =
          Contains-append_left new (reach c ++ reach (c - 1)) block (subst (λ (list : List Block). Contains list block) (next_new c reach new group at) held)
      by_cases (IsOld at) =
          Contains-append_right new (reach c ++ reach (c - 1)) block (in_old group block at (subst (λ (list : List Block). Contains list block) (next_old c reach new group at) held))
      by_cases (IsGone a b d) = absurd (nothing_in block (subst (λ (list : List Block). Contains list block) (next_gone c reach new group a b d) held))

  at_before : (c - 1 ≡ c) ⊎ (suc (c - 1) ≡ c)
  at_before = elim (cases_eq c 0) [
    | inl none ↦ inl (omega (arith, none))
    | inr some ↦ inr (omega (arith, some))
  ]

  of_group : (group : ℕ) (block : Block) (list : List Block) → next_reach c reach new group ≡ list → Contains list block → (g : ℕ) × Contains (next_reach c reach new g) block
  of_group group block list is held = (group, subst (λ (blocks : List Block). Contains blocks block) (sym is) held)

  -- each of them is of one group
  next_holds : (block : Block) → Contains (kept_blocks c reach new) block → (group : ℕ) × Contains (next_reach c reach new group) block
  next_holds block held =
      ⊎_elim (of_group (suc c) block new (next_new c reach new (suc c) refl))
      (λ older. ⊎_elim
      (of_group c block (reach c) (next_old c reach new c (inl refl)))
      (of_group (c - 1) block (reach (c - 1)) (next_old c reach new (c - 1) at_before))
      (Contains-append_cases (reach c) (reach (c - 1)) block older))
      (Contains-append_cases new (reach c ++ reach (c - 1)) block held)

  next_once : ((group : ℕ) → AreDistinct (reach group)) → AreDistinct new → (group : ℕ) → AreDistinct (next_reach c reach new group)
  next_once old once group = by_cases (which c group)
    where
      by_cases : Which c group → AreDistinct (next_reach c reach new group)
      by_cases (IsNew at) = subst AreDistinct (sym (next_new c reach new group at)) once
      by_cases (IsOld at) = subst AreDistinct (sym (next_old c reach new group at)) (old group)
      by_cases (IsGone a b d) = subst AreDistinct (sym (next_gone c reach new group a b d)) none_distinct

-- each of the three leads to its blocks, where more is known than before
-- what the three of them lead to is held
next_held : (c : ℕ) (reach : ℕ → List Block) (new : List Block) (spaces : List VdevSpace) (marks : Marks) → AreHeld spaces marks (suc c) reach → AreInUse spaces marks new
    → AreHeld spaces marks (suc c) (next_reach c reach new)
next_held c reach new spaces marks held in_use group block among = by_cases (which c group)
  where
    by_cases : Which c group → CopiesLieOn (Passes (is_held_for group (suc c))) spaces marks block
    by_cases (IsNew at) =
        weaker (Passes is_in_use) (Passes (is_held_for group (suc c))) spaces marks block (in_use_is_held group (suc c))
        (in_use block (subst (λ (list : List Block). Contains list block) (next_new c reach new group at) among))
    by_cases (IsOld at) = held group block (subst (λ (list : List Block). Contains list block) (next_old c reach new group at) among)
    by_cases (IsGone a b d) = absurd (nothing_in block (subst (λ (list : List Block). Contains list block) (next_gone c reach new group a b d) among))

next_leads : (v : View) (kept new : Kept) (stored planned : Contents) (reach : ℕ → List Block) (blocks : List Block) → v.first ≤ v.committed → kept.committed ≡ v.committed → new.committed ≡ suc v.committed
    → new.before ≡ Some kept.last → new.earliest ≡ kept.before → Extends stored planned → LeadsTo planned (suc v.committed) new.last.root (pool_after v) blocks
    → ((group : ℕ) → KeptLeadsTo stored group (group_at kept group) (kept_pool v group) (reach group))
    → (group : ℕ) → KeptLeadsTo planned group (group_at new group) (kept_pool (committed_next v) group) (next_reach v.committed reach blocks group)
next_leads v kept new stored planned reach blocks low k n b e more leads old group = by_cases (which v.committed group)
  where
    by_cases : Which v.committed group → KeptLeadsTo planned group (group_at new group) (kept_pool (committed_next v) group) (next_reach v.committed reach blocks group)
    by_cases (IsNew at) =
        let is : LeadsTo planned group new.last.root (pool_after v) blocks = subst (λ g. LeadsTo planned g new.last.root (pool_after v) blocks) (sym at) leads in
        subst (λ (found : Option KeptGroup). KeptLeadsTo planned group found (kept_pool (committed_next v) group) (next_reach v.committed reach blocks group)) (sym (new_group kept new v.committed group n at))
        (subst (λ (pool : Option PlainPool). KeptLeadsTo planned group (Some new.last) pool (next_reach v.committed reach blocks group)) (sym (new_pool v group low at))
        (subst (λ (list : List Block). LeadsTo planned group new.last.root (pool_after v) list) (sym (next_new v.committed reach blocks group at)) is))
    by_cases (IsOld at) =
        subst (λ (found : Option KeptGroup). KeptLeadsTo planned group found (kept_pool (committed_next v) group) (next_reach v.committed reach blocks group)) (sym (old_group kept new v.committed group k n b e at))
        (subst (λ (pool : Option PlainPool). KeptLeadsTo planned group (group_at kept group) pool (next_reach v.committed reach blocks group)) (sym (old_pool v group at))
        (subst (λ (list : List Block). KeptLeadsTo planned group (group_at kept group) (kept_pool v group) list) (sym (next_old v.committed reach blocks group at))
        (kept_leads_stand stored planned group (group_at kept group) (kept_pool v group) (reach group) (λ block bytes held known. more block bytes known) (old group))))
    by_cases (IsGone far other another) =
        subst (λ (found : Option KeptGroup). KeptLeadsTo planned group found (kept_pool (committed_next v) group) (next_reach v.committed reach blocks group)) (sym (gone_group new v.committed group n far other another))
        (subst (λ (pool : Option PlainPool). KeptLeadsTo planned group None pool (next_reach v.committed reach blocks group)) (sym (gone_pool v group far other another))
        (next_gone v.committed reach blocks group far other another))

-- the maps of the three are their own still
next_mapped : (v : View) (kept new : Kept) (spaces : List VdevSpace) (stored planned : Contents) → v.first ≤ v.committed → kept.committed ≡ v.committed → new.committed ≡ suc v.committed
    → new.before ≡ Some kept.last → new.earliest ≡ kept.before → Extends stored planned → HasMaps spaces planned (suc v.committed) new.last.root (pool_after v)
    → ((group : ℕ) → KeptHasMaps spaces stored group (group_at kept group) (kept_pool v group))
    → (group : ℕ) → KeptHasMaps spaces planned group (group_at new group) (kept_pool (committed_next v) group)
next_mapped v kept new spaces stored planned low k n b e more mapped old group = by_cases (which v.committed group)
  where
    by_cases : Which v.committed group → KeptHasMaps spaces planned group (group_at new group) (kept_pool (committed_next v) group)
    by_cases (IsNew at) =
        let is : HasMaps spaces planned group new.last.root (pool_after v) = subst (λ g. HasMaps spaces planned g new.last.root (pool_after v)) (sym at) mapped in
        subst (λ (found : Option KeptGroup). KeptHasMaps spaces planned group found (kept_pool (committed_next v) group)) (sym (new_group kept new v.committed group n at))
        (subst (λ (pool : Option PlainPool). KeptHasMaps spaces planned group (Some new.last) pool) (sym (new_pool v group low at)) is)
    by_cases (IsOld at) =
        subst (λ (found : Option KeptGroup). KeptHasMaps spaces planned group found (kept_pool (committed_next v) group)) (sym (old_group kept new v.committed group k n b e at))
        (subst (λ (pool : Option PlainPool). KeptHasMaps spaces planned group (group_at kept group) pool) (sym (old_pool v group at))
        (kept_maps_stay spaces stored planned group (group_at kept group) (kept_pool v group) more (old group)))
    by_cases (IsGone far other another) =
        subst (λ (found : Option KeptGroup). KeptHasMaps spaces planned group found (kept_pool (committed_next v) group)) (sym (gone_group new v.committed group n far other another)) tt

module _ (v : View) (kept new : Kept) (spaces after : List VdevSpace) (stored planned : Contents) (reached : StoresReach spaces stored kept (kept_pool v))
    (plan : PlansReach spaces reached.reach stored planned (suc v.committed) new.last (pool_after v)) (shapes : shapes_of after ≡ shapes_of spaces)
    (filled_by : HaveMarks spaces planned_marks after filled_marks) (low : v.first ≤ v.committed)
    (k : kept.committed ≡ v.committed) (n : new.committed ≡ suc v.committed) (b : new.before ≡ Some kept.last) (e : new.earliest ≡ kept.before) (more : Extends stored planned) where
  -- what is stored from then on
  abbrev pub left : Contents
  left = among (kept_blocks v.committed reached.reach plan.reach) planned

  keeps_each : (group : ℕ) → KeepsEach planned left (next_reach v.committed reached.reach plan.reach group)
  keeps_each group block bytes held known =
      among_keeps (kept_blocks v.committed reached.reach plan.reach) planned block bytes (next_within v.committed reached.reach plan.reach group block held) known

  pub leads_next : (group : ℕ) → KeptLeadsTo left group (group_at new group) (kept_pool (committed_next v) group) (next_reach v.committed reached.reach plan.reach group)
  leads_next group =
      kept_leads_stand planned left group (group_at new group) (kept_pool (committed_next v) group) (next_reach v.committed reached.reach plan.reach group) (keeps_each group)
      (next_leads v kept new stored planned reached.reach plan.reach low k n b e more plan.leads reached.leads group)

  pub spells_next : ((group : ℕ) → SpellsKept planned group (group_at new group) (kept_pool (committed_next v) group))
      → (group : ℕ) → SpellsKept left group (group_at new group) (kept_pool (committed_next v) group)
  spells_next spells group =
      kept_spells_stand planned left group (group_at new group) (kept_pool (committed_next v) group) (next_reach v.committed reached.reach plan.reach group) (keeps_each group)
      (next_leads v kept new stored planned reached.reach plan.reach low k n b e more plan.leads reached.leads group) (spells group)

  held_next : AreHeld after filled_marks (suc v.committed) (next_reach v.committed reached.reach plan.reach)
  held_next =
      held_by_marks spaces after planned_marks filled_marks (suc v.committed) (next_reach v.committed reached.reach plan.reach) shapes filled_by
      (next_held v.committed reached.reach plan.reach spaces planned_marks plan.held plan.in_use)

  accounted_next : AreInBlocks after filled_marks (next_reach v.committed reached.reach plan.reach new.committed)
  accounted_next =
      subst (AreInBlocks after filled_marks) (sym (next_new v.committed reached.reach plan.reach new.committed n))
      (in_blocks_by spaces after planned_marks filled_marks plan.reach shapes filled_by plan.accounted)

  mapped_next : (group : ℕ) → KeptHasMaps after left group (group_at new group) (kept_pool (committed_next v) group)
  mapped_next group =
      kept_maps_over spaces after left group (group_at new group) (kept_pool (committed_next v) group) shapes
      (kept_maps_stand spaces planned left group (group_at new group) (kept_pool (committed_next v) group) (next_reach v.committed reached.reach plan.reach group) (keeps_each group)
      (next_leads v kept new stored planned reached.reach plan.reach low k n b e more plan.leads reached.leads group)
      (next_mapped v kept new spaces stored planned low k n b e more plan.mapped reached.mapped group))

  pub reached_next : StoresReach after left new (kept_pool (committed_next v))
  reached_next = record {
    mapped = mapped_next;
    accounted = accounted_next;
    released = subst (λ last. WereReleasedBy after filled_marks last) (sym n)
        (released_by_marks spaces after planned_marks filled_marks (suc v.committed) shapes filled_by plan.released);
    held = subst (λ last. AreHeld after filled_marks last (next_reach v.committed reached.reach plan.reach)) (sym n) held_next;
    reach = next_reach v.committed reached.reach plan.reach;
    leads = leads_next;
    once = next_once v.committed reached.reach plan.reach reached.once plan.once;
    only = λ block bytes known.
        next_holds v.committed reached.reach plan.reach block (among_are (kept_blocks v.committed reached.reach plan.reach) planned block bytes known).0;
  }
