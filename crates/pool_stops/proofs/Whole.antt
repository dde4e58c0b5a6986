-- Roots lead to blocks that lie apart.
use Rattle.std.proofs.Common.{ℕ, zero, suc, ◌≡◌, ◌⊎◌, ⊎_elim, ◌<◌, Bool, List, [], ◌∷◌, ◌++◌, length, Option, Some, None, AllPairs, Contains, ◌≢◌, if◌then◌else◌, true, false, refl, sym, ap, subst, ◌∙◌, arith, slice_get, slice_index_or}
use Rattle.std.proofs.lemmas.List.Elements.{Contains-append_cases, Contains-get_or}
use Rattle.block_pointer.specs.Copies.{dvas}
use Rattle.block_pointer.specs.declared.block.Block.{Block}
use Rattle.block_pointer.specs.declared.dva.Dva.{Dva}
use Rattle.block_store.specs.Blocks.{Contents}
use Rattle.block_store.specs.Places.{ArePlacesApart, Marks, shapes_of}
use Rattle.block_store.specs.Releases.{CopyAt, copy_of_at, copies_of, copies_of_at, copies_of_all}
use Rattle.block_store.specs.Spaces.{VdevSpace}
use Rattle.block_store.specs.Store.{ArePlaced}
use Rattle.block_store.specs.declared.shape.VdevShape.{VdevShape}
use Rattle.block_store.proofs.Planning.{placed_lies}
use Rattle.block_store.proofs.Taking.{places_too}
use Rattle.pool_create.specs.Pools.{SpellsPool}
use Rattle.pool_create.specs.Reach.{reach_of}
use Rattle.pool_create.proofs.SnapshotsReadings.{roots_spell_one_pool}
use Rattle.pool_create.proofs.SnapshotsStanding.{reach_is_known}
use Rattle.dnode_tree.specs.Rewriting.{AreDistinct}
use Rattle.pool_create.specs.KeptGroup.{KeptGroup}
use Rattle.pool_create.specs.Backs.{KeptLeadsTo, LeadsTo}
use Rattle.pool_model.specs.Pools.{PlainPool}
use Rattle.pool_create.specs.Trees.{IsTreeOf}
use Rattle.pool_slots.specs.Possible.{Trees}
use Rattle.uberblock_ring.specs.declared.uberblock.Uberblock.{Uberblock}
use Rattle.pool_stops.specs.Whole.{AreCopiesApart, IsWholeTree, LieApart}
use Rattle.pool_stops.proofs.Counting.{copy_of}

-- a tree, with what makes it whole
pub record WholeTreeOf (trees : Trees) (starts : List (List ℕ)) (shapes : List VdevShape) (out : List Bool) (u : Uberblock) (pool : PlainPool) : Type 0 where
  pub tree : IsTreeOf trees starts shapes out u pool
  pub whole : IsWholeTree tree

-- ---- pairs of a list

pairs_none : {X : Type 0} (R : X → X → Type 0) → AllPairs R []
pairs_none R i j d less within = absurd (omega (arith, within))

pairs_first : {X : Type 0} (R : X → X → Type 0) (x : X) (xs : List X) → ((k : ℕ) (d : X) → k < length xs → R x (slice_index_or xs k d)) → AllPairs R xs → AllPairs R (x ∷ xs)
pairs_first R x xs first rest i zero d less within = absurd (omega (arith, less))
pairs_first R x xs first rest zero (suc j) d less within = first j d (omega (arith, within))
pairs_first R x xs first rest (suc i) (suc j) d less within = rest i j d (omega (arith, less)) (omega (arith, within))

pairs_rest : {X : Type 0} (R : X → X → Type 0) (x : X) (xs : List X) → AllPairs R (x ∷ xs) → AllPairs R xs
pairs_rest R x xs all i j d less within = all (suc i) (suc j) d (omega (arith, less)) (omega (arith, within))

pairs_both : {X : Type 0} (R : X → X → Type 0) (xs ys : List X) → AllPairs R xs → AllPairs R ys → ((x y : X) → Contains xs x → Contains ys y → R x y) → AllPairs R (xs ++ ys)
pairs_both R [] ys left right across = right
pairs_both {X = X} R (x ∷ xs) ys left right across =
    pairs_first R x (xs ++ ys)
    (λ k d within. ⊎_elim
    (λ (j, below, is). subst (λ y. R x y) is (first_with x xs left j (slice_index_or (xs ++ ys) k d) below))
    (λ among. across x (slice_index_or (xs ++ ys) k d) (0, omega arith, refl) among)
    (Contains-append_cases xs ys (slice_index_or (xs ++ ys) k d) (Contains-get_or (xs ++ ys) k d within)))
    (pairs_both R xs ys (pairs_rest R x xs left) right (λ a b among. across a b (suc among.0, omega (arith, among.1), among.2)))
  where
    first_with : (y : X) (zs : List X) → AllPairs R (y ∷ zs) → (j : ℕ) (e : X) → j < length zs → R y (slice_index_or zs j e)
    first_with y zs all j e below = all 0 (suc j) e (omega arith) (omega (arith, below))

-- ---- blocks that are placed

-- what a plan or the store holds, by these marks
abbrev Apart : Block → Block → ℕ → ℕ → Dva → Dva → Type 0
Apart block other i k place behind = ((block ≡ other) × (i ≡ k)) ⊎ ArePlacesApart place behind

-- each copy of one of these blocks is apart from each other one
abbrev AreApart : List Block → Type 0
AreApart blocks = (block other : Block) (i k : ℕ) (place behind : Dva) → Contains blocks block → Contains blocks other
    → slice_get (dvas block.copies) i ≡ Some place → slice_get (dvas other.copies) k ≡ Some behind → Apart block other i k place behind

copies_apart : (block : Block) (places : List Dva) → ((i k : ℕ) (place behind : Dva) → i < k → slice_get places i ≡ Some place → slice_get places k ≡ Some behind → ArePlacesApart place behind)
    → AllPairs AreCopiesApart (copies_of_at block places)
copies_apart block [] each = pairs_none AreCopiesApart
copies_apart block (place ∷ places) each =
    pairs_first AreCopiesApart (copy_of_at block place) (copies_of_at block places)
    (λ k d within. let at = here places k d within in each 0 (suc k) place (slice_index_or (copies_of_at block places) k d).place (omega arith) refl at)
    (copies_apart block places (λ i k one two less at at'. each (suc i) (suc k) one two (omega (arith, less)) at at'))
  where
    here : (them : List Dva) (k : ℕ) (d : CopyAt) → k < length (copies_of_at block them) → slice_get them k ≡ Some (slice_index_or (copies_of_at block them) k d).place
    here [] k d within = absurd (omega (arith, within))
    here (it ∷ them) zero d within = refl
    here (it ∷ them) (suc k) d within = here them k d (omega (arith, within))

index_of : {X : Type 0} (xs : List X) (x : X) → Contains xs x → (k : ℕ) × (slice_get xs k ≡ Some x)
index_of [] x (k, within, is) = absurd (omega (arith, within))
index_of (y ∷ xs) x (zero, within, is) = (0, ap Some is)
index_of (y ∷ xs) x (suc k, within, is) = let rest = index_of xs x (k, omega (arith, within), is) in (suc rest.0, rest.1)

place_of : (block : Block) (places : List Dva) (copy : CopyAt) → Contains (copies_of_at block places) copy → Contains places copy.place
place_of block [] copy (k, within, is) = absurd (omega (arith, within))
place_of block (place ∷ places) copy (zero, within, is) = (0, omega arith, ap (λ (c : CopyAt). c.place) is)
place_of block (place ∷ places) copy (suc k, within, is) =
    let rest = place_of block places copy (k, omega (arith, within), is) in (suc rest.0, omega (arith, rest.1), rest.2)

differ : (i k : ℕ) → i < k → ¬ (i ≡ k)
differ i k less same = omega (arith, less, same)

all_apart : (blocks : List Block) → AreDistinct blocks → AreApart blocks → AllPairs AreCopiesApart (copies_of_all blocks)
all_apart [] once apart = pairs_none AreCopiesApart
all_apart (block ∷ blocks) once apart =
    let first : Contains (block ∷ blocks) block = (0, omega arith, refl) in
    pairs_both AreCopiesApart (copies_of block) (copies_of_all blocks)
    (copies_apart block (dvas block.copies) (λ i k place behind less at at'. ⊎_elim
    (λ same. absurd (differ i k less same.1)) (λ beside. beside) (apart block block i k place behind first first at at')))
    (all_apart blocks (pairs_rest (λ one two. one ≢ two) block blocks once)
    (λ one two i k place behind held held'. apart one two i k place behind (later one held) (later two held')))
    (λ copy other among among'.
    let at = index_of (dvas block.copies) copy.place (place_of block (dvas block.copies) copy among) in
    let of = copy_of blocks other among' in
    let at' = index_of (dvas of.0.copies) other.place of.3 in
    ⊎_elim
    (λ same. absurd (once 0 (suc of.1.0) block (omega arith) (omega (arith, of.1.1)) (same.0 ∙ sym (with_default blocks of.1.0 block of.0 of.1.1 of.1.2))))
    (λ beside. beside)
    (apart block of.0 at.0 at'.0 copy.place other.place first (later of.0 of.1) at.1 at'.1))
  where
    later : (one : Block) → Contains blocks one → Contains (block ∷ blocks) one
    later one (k, within, is) = (suc k, omega (arith, within), is)

    with_default : (them : List Block) (k : ℕ) (d one : Block) → k < length them → slice_index_or them k one ≡ one → slice_index_or them k d ≡ one
    with_default [] k d one within is = absurd (omega (arith, within))
    with_default (it ∷ them) zero d one within is = is
    with_default (it ∷ them) (suc k) d one within is = with_default them k d one (omega (arith, within)) is

-- blocks that are known lie apart, where each is there once
lie_apart : (spaces : List VdevSpace) (marks : Marks) (contents : Contents) (blocks : List Block) → ArePlaced spaces marks contents
    → ((block : Block) → Contains blocks block → (bytes : List ℕ) × (contents block ≡ Some bytes)) → AreDistinct blocks → LieApart (shapes_of spaces) blocks
lie_apart spaces marks contents blocks placed known once = record {
  some = λ block held. let it = known block held in (placed.blocks block it.0 it.1).fits.property.not_empty;
  places = λ others same block held.
      let it = known block held in
      places_too spaces others block.property.sectors (dvas block.copies) same (placed_lies spaces marks contents placed block it.0 it.1);
  apart = all_apart blocks once (λ block other i k place behind held held' at at'.
      let it = known block held in
      let that = known other held' in
      placed.apart block other it.0 that.0 i k place behind it.1 that.1 at at');
}

-- so a tree is whole whose root leads to each of its blocks once
pub is_whole : (spaces : List VdevSpace) (marks : Marks) {trees : Trees} {starts : List (List ℕ)} {out : List Bool} {u : Uberblock} {pool : PlainPool}
    (tree : IsTreeOf trees starts (shapes_of spaces) out u pool) (group : ℕ) (reach : List Block) → ArePlaced spaces marks tree.stored
    → (is : SpellsPool tree.stored group u.root pool) → reach_of is ≡ reach → AreDistinct reach → IsWholeTree tree
is_whole spaces marks {u = u} {pool = pool} tree group reach placed is same once =
    let alike : reach_of tree.spells ≡ reach = (roots_spell_one_pool tree.stored u.group group u.root pool pool tree.spells is).1 ∙ same in
    let here : AreDistinct (reach_of tree.spells) = subst (λ (them : List Block). AreDistinct them) (sym alike) once in
    record {
      once = here;
      apart = lie_apart spaces marks tree.stored (reach_of tree.spells) placed
          (λ block held. reach_is_known.known tree.stored u.group u.root pool tree.spells block held) here;
    }

-- a kept group's root, and a planned one's, is there
pub led_root : (stored : Contents) (group : ℕ) (found : Option Block) (root : Block) (pool : PlainPool) (blocks : List Block) → found ≡ Some root → LeadsTo stored group found pool blocks
    → (is : SpellsPool stored group root pool) × (reach_of is ≡ blocks)
led_root stored group found root pool blocks is leads = subst (λ (o : Option Block). LeadsTo stored group o pool blocks) is leads

pub led_kept : (stored : Contents) (group : ℕ) (root : Block) (found : Option KeptGroup) (kept : KeptGroup) (pool : PlainPool) (here : Bool) (blocks : List Block) → found ≡ Some kept
    → kept.root ≡ Some root → KeptLeadsTo stored group found (if here then Some pool else None) blocks → (is : SpellsPool stored group root pool) × (reach_of is ≡ blocks)
led_kept stored group root found kept pool true blocks is root_is leads =
    led_root stored group kept.root root pool blocks root_is (subst (λ (o : Option KeptGroup). KeptLeadsTo stored group o (Some pool) blocks) is leads)
led_kept stored group root found kept pool false blocks is root_is leads = absurd (subst (λ (o : Option KeptGroup). KeptLeadsTo stored group o None blocks) is leads)
