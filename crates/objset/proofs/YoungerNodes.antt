-- The blocks of the dnodes that were born after a group, and the objects that they have.
use Rattle.std.proofs.Common.{◌≡◌, ℕ, zero, suc, ◌+◌, ◌*◌, ◌/◌, ◌^◌, ◌-◌, ◌<◌, ◌≤◌, Bool, true, false, cond, List, [], ◌∷◌, ◌++◌, length, get_or, Option, Some, None, Contains, inl, inr, refl, sym, ap, ◌∙◌, subst, arith}
use Rattle.std.specs.Prelude.{nat_lt}
use Rattle.std.specs.List.{flat_map}
use Rattle.std.proofs.lemmas.List.Elements.{Contains-get_or, filter-append}
use Rattle.block_pointer.specs.declared.block.Block.{Block}
use Rattle.block_store.specs.Blocks.{Contents}
use Rattle.block_store.specs.declared.refusal.Refusal.{Refusal}
use Rattle.block_store.specs.Steps.{OnlyReadsBlocks}
use Rattle.block_store.specs.Store.{Store}
use Rattle.dnode.specs.declared.dnode.Dnode.{Dnode}
use Rattle.dnode.specs.declared.dnode.Dnode.TheVariants.{Free, Object}
use Rattle.dnode.specs.declared.node.ObjectNode.{ObjectNode}
use Rattle.dnode.specs.declared.object_set.ObjectSet.{ObjectSet}
use Rattle.dnode.specs.Levels.{levels_of}
use Rattle.dnode.specs.ObjectSet.{FitsObjectSet}
use Rattle.dnode_tree.proofs.Ages.{height_has}
use Rattle.dnode_tree.proofs.AllPicked.{born_after, sees_born, all_walked, within_refused, tree_born, all_younger}
use Rattle.dnode_tree.proofs.Ids.{HaveIds, HasId, at_id, part_ids}
use Rattle.dnode_tree.specs.Younger.{is_younger, younger, AreWalkedWhere}
use Rattle.objset.proofs.Objects.{none_there, as_many_objects}
use Rattle.objset.specs.declared.node_walks.FoundNode.{FoundNode}
use Rattle.objset.specs.Nodes.{HasNodes, birth_of}
use Rattle.objset.specs.NodesWithin.{used, objects_from, objects_in, objects_of, IsBlockRefused, AreNodesRefused}
use Rattle.objset.specs.NodesYounger.{younger_nodes, AreYoungerRefused}

-- ---- the objects of one block

-- the object of a dnode is younger as its block is
used_younger : (since birth : ℕ) (dnode : Dnode) → younger_nodes since (used dnode birth) ≡ cond (nat_lt since birth) (used dnode birth) []
used_younger since birth Free = same (nat_lt since birth)
  where
    same : (b : Bool) → [] ≡ cond b (used Free birth) []
    same true = refl
    same false = refl
used_younger since birth (Object node) = refl

both : {X : Type 0} (b : Bool) (xs ys : List X) → cond b xs [] ++ cond b ys [] ≡ cond b (xs ++ ys) []
both true xs ys = refl
both false xs ys = refl

some_younger : (since : ℕ) (nodes : ℕ → Dnode) (births : ℕ → ℕ → ℕ) (id first count : ℕ) → 32 * id ≤ first → first + count ≤ 32 * id + 32
    → younger_nodes since (objects_from nodes births first count) ≡ cond (nat_lt since (births 0 id)) (objects_from nodes births first count) []
some_younger since nodes births id first zero from within = same (nat_lt since (births 0 id))
  where
    same : (b : Bool) → [] ≡ cond b (objects_from nodes births first 0) []
    same true = refl
    same false = refl
some_younger since nodes births id first (suc count) from within =
    let of : first / 32 ≡ id = omega (arith, from, within) in
    let here : younger_nodes since (used (nodes first) (birth_of births first)) ≡ cond (nat_lt since (births 0 id)) (used (nodes first) (birth_of births first)) [] =
    used_younger since (birth_of births first) (nodes first) ∙ ap (λ k. cond (nat_lt since (births 0 k)) (used (nodes first) (birth_of births first)) []) of in
    filter-append (λ (it : FoundNode). nat_lt since it.birth) (used (nodes first) (birth_of births first)) (objects_from nodes births (first + 1) count)
    ∙ ap (λ front. front ++ younger_nodes since (objects_from nodes births (first + 1) count)) here
    ∙ ap (λ back. cond (nat_lt since (births 0 id)) (used (nodes first) (birth_of births first)) [] ++ back)
    (some_younger since nodes births id (first + 1) count (omega (arith, from)) (omega (arith, within)))
    ∙ both (nat_lt since (births 0 id)) (used (nodes first) (birth_of births first)) (objects_from nodes births (first + 1) count)

block_younger : (since : ℕ) (nodes : ℕ → Dnode) (births : ℕ → ℕ → ℕ) (id : ℕ)
    → younger_nodes since (objects_in nodes births id) ≡ cond (nat_lt since (births 0 id)) (objects_in nodes births id) []
unfolding objects_in
block_younger since nodes births id = some_younger since nodes births id (32 * id) 32 (omega arith) (omega arith)

-- ---- the younger blocks with their ids

-- the ids of the younger ones
abbrev pub younger_ids : ℕ → List Block → List (Option ℕ) → List (Option ℕ)
younger_ids since [] ids = []
younger_ids since (block ∷ blocks) [] = []
younger_ids since (block ∷ blocks) (id ∷ ids) = cond (is_younger since block) (id ∷ younger_ids since blocks ids) (younger_ids since blocks ids)

module _ (since : ℕ) (stored : Contents) (node : ObjectNode) (array : ℕ → Option (List ℕ)) (births : ℕ → ℕ → ℕ) where
  pub have_younger : (blocks : List Block) (ids : List (Option ℕ)) → HaveIds stored node array births blocks ids
      → HaveIds stored node array births (younger since blocks) (younger_ids since blocks ids)
  have_younger [] [] have = tt
  have_younger [] (id ∷ ids) have = absurd have
  have_younger (block ∷ blocks) [] have = absurd have
  have_younger (block ∷ blocks) (id ∷ ids) have = told (is_younger since block) (have_younger blocks ids have.1)
    where
      told : (b : Bool) → HaveIds stored node array births (younger since blocks) (younger_ids since blocks ids)
          → HaveIds stored node array births (cond b (block ∷ younger since blocks) (younger since blocks)) (cond b (id ∷ younger_ids since blocks ids) (younger_ids since blocks ids))
      told true rest = (have.0, rest)
      told false rest = rest

  at_younger : (nodes : ℕ → Dnode) (block : Block) (id : Option ℕ) → HasId stored node array births block id
      → younger_nodes since (at_id (objects_in nodes births) id) ≡ cond (is_younger since block) (at_id (objects_in nodes births) id) []
  at_younger nodes block None has = same (is_younger since block)
    where
      same : (b : Bool) → [] ≡ cond b (at_id (objects_in nodes births) None) []
      same true = refl
      same false = refl
  at_younger nodes block (Some id) has =
      block_younger since nodes births id ∙ ap (λ birth. cond (nat_lt since birth) (objects_in nodes births id) []) has.born

  pub objects_younger : (nodes : ℕ → Dnode) (blocks : List Block) (ids : List (Option ℕ)) → HaveIds stored node array births blocks ids
      → flat_map (at_id (objects_in nodes births)) (younger_ids since blocks ids) ≡ younger_nodes since (flat_map (at_id (objects_in nodes births)) ids)
  objects_younger nodes [] [] have = refl
  objects_younger nodes [] (id ∷ ids) have = absurd have
  objects_younger nodes (block ∷ blocks) [] have = absurd have
  objects_younger nodes (block ∷ blocks) (id ∷ ids) have =
      told (is_younger since block)
      ∙ ap (λ back. cond (is_younger since block) (at_id (objects_in nodes births) id) [] ++ back) (objects_younger nodes blocks ids have.1)
      ∙ ap (λ front. front ++ younger_nodes since (flat_map (at_id (objects_in nodes births)) ids)) (sym (at_younger nodes block id have.0))
      ∙ sym (filter-append (λ (it : FoundNode). nat_lt since it.birth) (at_id (objects_in nodes births) id) (flat_map (at_id (objects_in nodes births)) ids))
    where
      told : (b : Bool) → flat_map (at_id (objects_in nodes births)) (cond b (id ∷ younger_ids since blocks ids) (younger_ids since blocks ids))
          ≡ cond b (at_id (objects_in nodes births) id) [] ++ flat_map (at_id (objects_in nodes births)) (younger_ids since blocks ids)
      told true = refl
      told false = refl

-- ---- all objects

-- the blocks of the dnodes have ids, and the objects at them are all objects
pub record HaveObjects (stored : Contents) (set : ObjectSet) (nodes : ℕ → Dnode) (array : ℕ → Option (List ℕ)) (births : ℕ → ℕ → ℕ) (blocks : List Block) : Type 0 where
  pub ids : List (Option ℕ)
  pub have : HaveIds stored set.dnodes array births blocks ids
  pub all : flat_map (at_id (objects_in nodes births)) ids ≡ objects_of set nodes births

pub objects_there : (stored : Contents) (birth : ℕ) (set : ObjectSet) (nodes : ℕ → Dnode) (blocks : List Block) → FitsObjectSet set → (has : HasNodes stored birth set nodes blocks)
    → HaveObjects stored set nodes has.array has.births blocks
objects_there stored birth set nodes blocks fits has =
    let all = part_ids stored set.dnodes has.array has.births (objects_in nodes has.births) (levels_of set.dnodes.highest - 1) 0 birth set.dnodes.pointer blocks
    (λ id none. none_there has.array nodes has.births id has.each none) has.tree.root has.born in
    record {
      ids = all.ids;
      have = all.have;
      all = all.all ∙ as_many_objects nodes has.births (128 ^ (levels_of set.dnodes.highest - 1)) set.objects
          (omega (arith, fits.1.within, height_has set.dnodes.highest fits.0.0.highest)) has.behind;
    }

-- the same of the younger ones
pub record HaveYounger (since : ℕ) (stored : Contents) (set : ObjectSet) (nodes : ℕ → Dnode) (array : ℕ → Option (List ℕ)) (births : ℕ → ℕ → ℕ) (blocks : List Block) : Type 0 where
  pub ids : List (Option ℕ)
  pub have : HaveIds stored set.dnodes array births (younger since blocks) ids
  pub all : flat_map (at_id (objects_in nodes births)) ids ≡ younger_nodes since (objects_of set nodes births)

pub younger_there : (since : ℕ) (stored : Contents) (birth : ℕ) (set : ObjectSet) (nodes : ℕ → Dnode) (blocks : List Block) → FitsObjectSet set → (has : HasNodes stored birth set nodes blocks)
    → HaveYounger since stored set nodes has.array has.births blocks
younger_there since stored birth set nodes blocks fits has =
    let all = objects_there stored birth set nodes blocks fits has in
    record {
      ids = younger_ids since blocks all.ids;
      have = have_younger since stored set.dnodes has.array has.births blocks all.ids all.have;
      all = objects_younger since stored set.dnodes has.array has.births nodes blocks all.ids all.have ∙ ap (younger_nodes since) all.all;
    }

-- ---- all were born after group 0

pub blocks_born : (stored : Contents) (birth : ℕ) (set : ObjectSet) (nodes : ℕ → Dnode) (blocks : List Block) → FitsObjectSet set → HasNodes stored birth set nodes blocks → younger 0 blocks ≡ blocks
blocks_born stored birth set nodes blocks fits has = all_younger blocks (tree_born stored birth set.dnodes has.array blocks fits.0.1 has.tree)

ids_born : (stored : Contents) (node : ObjectNode) (array : ℕ → Option (List ℕ)) (births : ℕ → ℕ → ℕ) (blocks : List Block) (ids : List (Option ℕ)) → HaveIds stored node array births blocks ids
    → ((block : Block) → Contains blocks block → 0 < block.birth) → younger_ids 0 blocks ids ≡ ids
ids_born stored node array births [] [] have born = refl
ids_born stored node array births [] (id ∷ ids) have born = absurd have
ids_born stored node array births (block ∷ blocks) [] have born = absurd have
ids_born stored node array births (block ∷ blocks) (id ∷ ids) have born =
    ap (λ b. cond b (id ∷ younger_ids 0 blocks ids) (younger_ids 0 blocks ids)) (born_after block.birth (born block (0, omega arith, refl)))
    ∙ ap (λ rest. id ∷ rest) (ids_born stored node array births blocks ids have.1 (λ other held. born other (suc held.0, omega (arith, held.1), held.2)))

pub nodes_born : (stored : Contents) (birth : ℕ) (set : ObjectSet) (nodes : ℕ → Dnode) (blocks : List Block) → FitsObjectSet set → (has : HasNodes stored birth set nodes blocks)
    → younger_nodes 0 (objects_of set nodes has.births) ≡ objects_of set nodes has.births
nodes_born stored birth set nodes blocks fits has =
    let all = objects_there stored birth set nodes blocks fits has in
    ap (younger_nodes 0) (sym all.all)
    ∙ sym (objects_younger 0 stored set.dnodes has.array has.births nodes blocks all.ids all.have)
    ∙ ap (flat_map (at_id (objects_in nodes has.births)))
    (ids_born stored set.dnodes has.array has.births blocks all.ids all.have (tree_born stored birth set.dnodes has.array blocks fits.0.1 has.tree))
    ∙ all.all

-- ---- refusals

pub one_refused : (since : ℕ) (old mid new : Store) (missing : List ℕ) (set : ObjectSet) (birth left : ℕ) (refusal : Refusal) (blocks items : List Block) (k : ℕ) (block other : Block)
    → items ≡ blocks → AreWalkedWhere (is_younger since) old.spaces set.dnodes birth blocks → k < length items → block ≡ get_or items k other → block.property.level ≡ 0
    → OnlyReadsBlocks old mid missing → IsBlockRefused mid new missing block left refusal → AreYoungerRefused since old new missing set birth left refusal
one_refused since old mid new missing set birth left refusal blocks items k block other same walked low is data_level before why = inr (record {
  blocks = blocks;
  walked = walked;
  block = block;
  is_one = subst (λ bs. Contains bs block) same (subst (λ b. Contains items b) (sym is) (Contains-get_or items k other low));
  data_level = data_level;
  mid = mid;
  before = before;
  why = why;
})

-- since group 0 they are those of all blocks
pub all_refused : (old new : Store) (missing : List ℕ) (set : ObjectSet) (birth left : ℕ) (refusal : Refusal) → FitsObjectSet set
    → AreYoungerRefused 0 old new missing set birth left refusal → AreNodesRefused old new missing set birth left refusal
all_refused old new missing set birth left refusal fits (inl why) =
    inl (within_refused (is_younger 0) sees_born old new missing set.dnodes birth left refusal (sees_born set.dnodes.pointer fits.0.1) why)
all_refused old new missing set birth left refusal fits (inr why) = inr (record {
  blocks = why.blocks;
  walked = all_walked (is_younger 0) sees_born old.spaces set.dnodes birth why.blocks (sees_born set.dnodes.pointer fits.0.1) why.walked;
  block = why.block;
  is_one = why.is_one;
  data_level = why.data_level;
  mid = why.mid;
  before = why.before;
  why = why.why;
})
