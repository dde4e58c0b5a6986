-- Counting the blocks above the data, and blocks that are there once.
use Rattle.std.proofs.Common.{◌≡◌, ◌≢◌, ◌↔◌, ℕ, zero, suc, ◌+◌, ◌<◌, Bool, MatchBool, true, false, cond, List, [], ◌∷◌, ◌++◌, length, take, get_or, Contains, sym, ap, ◌∙◌, subst, arith, min, length-take}
use Rattle.std.specs.Prelude.{not, ◌==◌}
use Rattle.std.proofs.Math.Dec.{eqb-suc-zero}
use Rattle.std.proofs.lemmas.List.{take_more, get_or-take, get_or_default}
use Rattle.std.proofs.lemmas.List.Quantifiers.{all_pairs_push}
use Rattle.block_pointer.specs.declared.block.Block.{Block}
use Rattle.block_store.specs.declared.block.Asked.{Asked}
use Rattle.dnode.specs.declared.node.ObjectNode.{ObjectNode}
use Rattle.dnode_tree.proofs.Exchanging.{count_by-append}
use Rattle.dnode_tree.specs.Rewriting.{AreDistinct}
use Rattle.dnode_tree.specs.Subtree.{asked_of}
use Rattle.dnode_tree.specs.Tree.{property_of}
use Rattle.dnode_tree.specs.Within.{indirect_count}

level_is : (node : ObjectNode) (level birth : ℕ) (block : Block) (asked : Asked) → asked ≡ asked_of (property_of node level) birth → block.property ≡ asked.property → block.property.level ≡ level
level_is node level birth block asked e same = ap (λ p. p.level) (same ∙ ap (λ (a : Asked). a.property) e)

one_more : (found later : List Block) (block : Block) → later ≡ found ++ block ∷ [] → indirect_count later ≡ indirect_count found + indirect_count (block ∷ [])
one_more found later block e = ap indirect_count e ∙ count_by-append (λ b. not (b.property.level == 0)) found (block ∷ [])

pub data_counted : (node : ObjectNode) (level birth : ℕ) (block : Block) (asked : Asked) (found later : List Block) → level ≡ 0
    → asked ≡ asked_of (property_of node level) birth → block.property ≡ asked.property → later ≡ found ++ block ∷ [] → indirect_count later ≡ indirect_count found
data_counted node level birth block asked found later none e same more =
    let at : block.property.level ≡ 0 = level_is node level birth block asked e same ∙ none in
    let nothing : indirect_count (block ∷ []) ≡ 0 = ap (λ n. 0 + cond (not (n == 0)) 1 0) at in
    omega (arith, one_more found later block more, nothing)

pub indirect_counted : (node : ObjectNode) (level birth : ℕ) (block : Block) (asked : Asked) (found later : List Block) → 0 < level
    → asked ≡ asked_of (property_of node level) birth → block.property ≡ asked.property → later ≡ found ++ block ∷ [] → indirect_count later ≡ indirect_count found + 1
indirect_counted node zero birth block asked found later above e same more = absurd (omega (arith, above))
indirect_counted node (suc level) birth block asked found later above e same more =
    let at : block.property.level ≡ suc level = level_is node (suc level) birth block asked e same in
    let one : indirect_count (block ∷ []) ≡ 1 = ap (λ n. 0 + cond (not (n == 0)) 1 0) at ∙ ap (λ test. 0 + cond (not test) 1 0) (eqb-suc-zero level) in
    omega (arith, one_more found later block more, one)

-- one block more that is new
pub distinct_more : (blocks : List Block) (n : ℕ) (block other : Block) → n < length blocks → block ≡ get_or blocks n other → AreDistinct (take n blocks)
    → ¬ Contains (take n blocks) block → AreDistinct (take (n + 1) blocks)
distinct_more blocks n block other low is distinct new =
    let taken : take n blocks ++ block ∷ [] ≡ take (n + 1) blocks = ap (λ b. take n blocks ++ b ∷ []) is ∙ sym (take_more blocks n other low) in
    subst (λ bs. AreDistinct bs) taken
    (all_pairs_push (λ (one later : Block). one ≢ later) (take n blocks) block distinct (λ k d under same. new (k, under, get_or_default (take n blocks) k block d under ∙ same)))

-- or one that is there already
pub there_twice : (blocks : List Block) (n : ℕ) (block other : Block) → n < length blocks → block ≡ get_or blocks n other → Contains (take n blocks) block → ¬ AreDistinct blocks
there_twice blocks n block other low is held distinct =
    let at : get_or (take n blocks) held.0 block ≡ block = held.2 in
    let within : held.0 < min n (length blocks) = rw length-take at held.1 in
    let before : held.0 < n = omega (arith, within) in
    let here : get_or blocks held.0 block ≡ block = sym (get_or-take n blocks held.0 block before) ∙ at in
    distinct held.0 n block before low (here ∙ is ∙ get_or_default blocks n other block low)

-- a step of the search for a block that is there twice
module _ (blocks keys : List Block) (n : ℕ) (block other : Block) (test : Bool) (low : n < length blocks) (is : block ≡ get_or blocks n other) (distinct : AreDistinct (take n blocks))
    (same : (that : Block) → Contains keys that ↔ Contains (take n blocks) that) (told : MatchBool test (¬ Contains keys block) (Contains keys block)) where
  pub once_more : test ≡ true → AreDistinct (take (n + 1) blocks)
  once_more e =
      let new : ¬ Contains keys block = subst (λ b. MatchBool b (¬ Contains keys block) (Contains keys block)) e told in
      distinct_more blocks n block other low is distinct (λ held. new ((same block).1 held))

  pub found_twice : test ≡ false → ¬ AreDistinct blocks
  found_twice e =
      let known : Contains keys block = subst (λ b. MatchBool b (¬ Contains keys block) (Contains keys block)) e told in
      there_twice blocks n block other low is ((same block).0 known)
