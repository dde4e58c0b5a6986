-- The blocks of a tree and the ids of its data blocks, in order.
use Rattle.std.proofs.Common.{◌≡◌, ℕ, zero, suc, ◌+◌, ◌*◌, ◌^◌, ◌<◌, ◌≤◌, List, [], ◌∷◌, ◌++◌, length, get_or, Option, Some, None, refl, sym, ap, ◌∙◌, subst, arith}
use Rattle.std.specs.List.{flat_map, range_with_len}
use Rattle.std.proofs.lemmas.List.Concat.{flat_map-append}
use Rattle.block_pointer.specs.declared.block.Block.{Block}
use Rattle.block_pointer.specs.declared.pointer.BlockPtr.{BlockPtr}
use Rattle.block_pointer.specs.declared.pointer.BlockPtr.TheVariants.{Hole, Block as At}
use Rattle.block_store.specs.Blocks.{Contents}
use Rattle.dnode.specs.declared.node.ObjectNode.{ObjectNode}
use Rattle.dnode_tree.proofs.Ages.{same_bytes}
use Rattle.dnode_tree.proofs.Spans.{span_up}
use Rattle.dnode_tree.proofs.Spellings.{spelled_once}
use Rattle.dnode_tree.specs.Births.{AreBirths}
use Rattle.dnode_tree.specs.Subtree.{IsSubtree, joined}
use Rattle.dnode_tree.specs.Tree.{property_of}

-- the block of that id, with its bytes and its birth
pub record IsDataOf (stored : Contents) (node : ObjectNode) (array : ℕ → Option (List ℕ)) (births : ℕ → ℕ → ℕ) (block : Block) (id : ℕ) : Type 0 where
  pub property : block.property ≡ property_of node 0
  pub bytes : List ℕ
  pub known : stored block ≡ Some bytes
  pub there : array id ≡ Some bytes
  pub born : births 0 id ≡ block.birth

-- the block has that id, or stands above the data
abbrev pub HasId : Contents → ObjectNode → (ℕ → Option (List ℕ)) → (ℕ → ℕ → ℕ) → Block → Option ℕ → Type 0
HasId stored node array births block None = 0 < block.property.level
HasId stored node array births block (Some id) = IsDataOf stored node array births block id

-- each block has that id
abbrev pub HaveIds : Contents → ObjectNode → (ℕ → Option (List ℕ)) → (ℕ → ℕ → ℕ) → List Block → List (Option ℕ) → Type 0
HaveIds stored node array births [] [] = Unit {0}
HaveIds stored node array births [] (id ∷ ids) = ⊥
HaveIds stored node array births (block ∷ blocks) [] = ⊥
HaveIds stored node array births (block ∷ blocks) (id ∷ ids) = HasId stored node array births block id × HaveIds stored node array births blocks ids

-- what there is at an id, nothing where there is none
abbrev pub at_id : {X : Type 0} → (ℕ → List X) → Option ℕ → List X
at_id f None = []
at_id f (Some id) = f id

-- The blocks have these ids, and what there is at them is all that there is at so many from the first on.
pub record HaveAllIds {X : Type 0} (stored : Contents) (node : ObjectNode) (array : ℕ → Option (List ℕ)) (births : ℕ → ℕ → ℕ) (f : ℕ → List X) (first count : ℕ) (blocks : List Block) : Type 0 where
  pub ids : List (Option ℕ)
  pub have : HaveIds stored node array births blocks ids
  pub all : flat_map (at_id f) ids ≡ flat_map f (range_with_len first count)

-- ---- ranges

pub range_split : (a n m : ℕ) → range_with_len a (n + m) ≡ range_with_len a n ++ range_with_len (a + n) m
range_split a zero m =
    let at : a ≡ a + 0 = omega arith in
    let count : 0 + m ≡ m = omega arith in
    ap (λ n. range_with_len a n) count ∙ ap (λ b. range_with_len b m) at
range_split a (suc n) m =
    let at : (a + 1) + n ≡ a + suc n = omega arith in
    let count : suc n + m ≡ suc (n + m) = omega arith in
    ap (λ k. range_with_len a k) count
    ∙ ap (λ rest. a ∷ rest) (range_split (a + 1) n m ∙ ap (λ b. range_with_len (a + 1) n ++ range_with_len b m) at)

pub nothing_in : {X : Type 0} (f : ℕ → List X) (a n : ℕ) → ((id : ℕ) → a ≤ id → id < a + n → f id ≡ []) → flat_map f (range_with_len a n) ≡ []
nothing_in f a zero none = refl
nothing_in f a (suc n) none =
    ap (λ front. front ++ flat_map f (range_with_len (a + 1) n)) (none a (omega arith) (omega arith))
    ∙ nothing_in f (a + 1) n (λ id from under. none id (omega (arith, from)) (omega (arith, under)))

-- ---- lists with ids

module _ (stored : Contents) (node : ObjectNode) (array : ℕ → Option (List ℕ)) (births : ℕ → ℕ → ℕ) where
  pub ids_joined : (blocks more : List Block) (ids further : List (Option ℕ)) → HaveIds stored node array births blocks ids → HaveIds stored node array births more further
      → HaveIds stored node array births (blocks ++ more) (ids ++ further)
  ids_joined [] more [] further have rest = rest
  ids_joined [] more (id ∷ ids) further have rest = absurd have
  ids_joined (block ∷ blocks) more [] further have rest = absurd have
  ids_joined (block ∷ blocks) more (id ∷ ids) further have rest = (have.0, ids_joined blocks more ids further have.1 rest)

  pub id_at : (blocks : List Block) (ids : List (Option ℕ)) (k : ℕ) (other : Block) → HaveIds stored node array births blocks ids → k < length blocks
      → HasId stored node array births (get_or blocks k other) (get_or ids k None) × (k < length ids)
  id_at [] ids k other have low = absurd (omega (arith, low))
  id_at (block ∷ blocks) [] k other have low = absurd have
  id_at (block ∷ blocks) (id ∷ ids) zero other have low = (have.0, omega arith)
  id_at (block ∷ blocks) (id ∷ ids) (suc k) other have low =
      let there = id_at blocks ids k other have.1 (omega (arith, low)) in (there.0, omega (arith, there.1))

  pub as_many : (blocks : List Block) (ids : List (Option ℕ)) → HaveIds stored node array births blocks ids → length ids ≡ length blocks
  as_many [] [] have = refl
  as_many [] (id ∷ ids) have = absurd have
  as_many (block ∷ blocks) [] have = absurd have
  as_many (block ∷ blocks) (id ∷ ids) have = ap suc (as_many blocks ids have.1)

  -- parts of as many ids, one after the other
  module _ {X : Type 0} (f : ℕ → List X) where
    parts_ids : (parts : List (List Block)) (first step : ℕ)
        → ((k : ℕ) → k < length parts → HaveAllIds stored node array births f (first + k * step) step (get_or parts k []))
        → HaveAllIds stored node array births f first (length parts * step) (joined parts)
    parts_ids [] first step each = record { ids = []; have = tt; all = let none : 0 ≡ 0 * step = omega arith in ap (λ n. flat_map f (range_with_len first n)) none }
    parts_ids (part ∷ parts) first step each =
        let here = each 0 (omega arith) in
        let rest = parts_ids parts (first + step) step
        (λ k low. let at : first + suc k * step ≡ (first + step) + k * step = omega arith in
        subst (λ a. HaveAllIds stored node array births f a step (get_or parts k [])) at (each (suc k) (omega (arith, low)))) in
        let from : first + 0 * step ≡ first = omega arith in
        let sum : step + length parts * step ≡ suc (length parts) * step = omega arith in
        record {
          ids = here.ids ++ rest.ids;
          have = ids_joined part (joined parts) here.ids rest.ids here.have rest.have;
          all = flat_map-append (at_id f) here.ids rest.ids
              ∙ ap (λ front. front ++ flat_map (at_id f) rest.ids) (here.all ∙ ap (λ a. flat_map f (range_with_len a step)) from)
              ∙ ap (λ back. flat_map f (range_with_len first step) ++ back) rest.all
              ∙ sym (flat_map-append f (range_with_len first step) (range_with_len (first + step) (length parts * step)))
              ∙ ap (flat_map f) (sym (range_split first step (length parts * step)))
              ∙ ap (λ n. flat_map f (range_with_len first n)) sum;
        }

    pub part_ids : (level first birth : ℕ) (pointer : BlockPtr) (blocks : List Block) → ((id : ℕ) → array id ≡ None → f id ≡ [])
        → IsSubtree stored (property_of node) level first birth pointer array blocks → AreBirths stored level first pointer births
        → HaveAllIds stored node array births f first (128 ^ level) blocks
    part_ids zero first birth Hole blocks none part born = record {
      ids = [];
      have = subst (λ bs. HaveIds stored node array births bs []) (sym part.1) tt;
      all = sym (nothing_in f first (128 ^ 0) (λ id from under. none id (part.0 id from under)));
    }
    part_ids zero first birth (At block) blocks none part born = record {
      ids = Some first ∷ [];
      have = subst (λ bs. HaveIds stored node array births bs (Some first ∷ [])) (sym part.3)
          (record { property = part.1.asks.property; bytes = part.0; known = part.1.known; there = part.2; born = born }, tt);
      all = refl;
    }
    part_ids (suc level) first birth Hole blocks none part born = record {
      ids = [];
      have = subst (λ bs. HaveIds stored node array births bs []) (sym part.1) tt;
      all = sym (nothing_in f first (128 ^ suc level) (λ id from under. none id (part.0 id from under)));
    }
    part_ids (suc level) first birth (At block) blocks none part born =
        let same = spelled_once part.bytes born.1.bytes part.pointers born.1.pointers (same_bytes (stored block) (stored block) part.bytes born.1.bytes refl part.known born.1.known) part.spelled born.1.spelled in
        let below = parts_ids part.parts first (128 ^ level) (λ k low.
        let under : k < 128 = omega (arith, low, part.count) in
        part_ids level (first + k * 128 ^ level) block.birth (get_or born.1.pointers k Hole) (get_or part.parts k []) none
        (subst (λ ps. IsSubtree stored (property_of node) level (first + k * 128 ^ level) block.birth (get_or ps k Hole) array (get_or part.parts k [])) same (part.below k under))
        (born.1.below k under)) in
        let above : 0 < block.property.level = let e : block.property.level ≡ suc level = ap (λ p. p.level) part.asks.property in omega (arith, e) in
        let count : length part.parts * 128 ^ level ≡ 128 ^ suc level =
        let up : 128 * 128 ^ level ≡ 128 ^ suc level = omega (arith, span_up (suc level) level refl) in ap (λ n. n * 128 ^ level) part.count ∙ up in
        record {
          ids = None ∷ below.ids;
          have = subst (λ bs. HaveIds stored node array births bs (None ∷ below.ids)) (sym part.blocks_are) (above, below.have);
          all = below.all ∙ ap (λ n. flat_map f (range_with_len first n)) count;
        }
