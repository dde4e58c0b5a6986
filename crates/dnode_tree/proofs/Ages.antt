-- The births of the blocks of a tree: they are within its own, and stand on its blocks.
use Rattle.std.proofs.Common.{◌≡◌, ◌≢◌, ℕ, zero, suc, ◌+◌, ◌-◌, ◌*◌, ◌/◌, ◌^◌, ◌<◌, ◌≤◌, List, [], ◌∷◌, get_or, Option, Some, None, Contains, refl, sym, ap, ◌∙◌, subst, arith}
use Rattle.std.specs.Prelude.{nat_le, Bool, true, false, count_by}
use Rattle.std.proofs.lemmas.Bool.Decides.{nat_tests}
use Rattle.std.proofs.lemmas.Bool.{cases_lt}
use Rattle.std.proofs.Common.{inl, inr}
use Rattle.std.proofs.lemmas.List.Elements.{Contains-append_right}
use Rattle.std.proofs.Math.Nat.{div-lt_iff_lt-mul}
use Rattle.block_pointer.specs.declared.block.Block.{Block}
use Rattle.block_pointer.specs.declared.pointer.BlockPtr.{BlockPtr}
use Rattle.block_pointer.specs.declared.pointer.BlockPtr.TheVariants.{Hole, Block as At}
use Rattle.block_pointer.specs.declared.property.Property.{Property}
use Rattle.block_store.specs.Blocks.{Contents}
use Rattle.dnode_tree.specs.Births.{AreBirths}
use Rattle.dnode_tree.specs.Laws.{BirthsStandOnTheirBlocks, BirthsAreWithin}
use Rattle.dnode_tree.specs.Subtree.{IsSubtree, joined}
use Rattle.dnode_tree.specs.Tree.{property_of}
use Rattle.dnode.specs.Levels.{levels_of}
use Rattle.dnode_tree.proofs.Spans.{span_positive, span_up}
use Rattle.dnode_tree.proofs.Spellings.{spelled_once}
use Rattle.dnode_tree.proofs.Standing.{first_in, in_joined}

pub same_bytes : (known other : Option (List ℕ)) (bytes more : List ℕ) → known ≡ other → known ≡ Some bytes → other ≡ Some more → bytes ≡ more
same_bytes known other bytes more same one two = let e : Some bytes ≡ Some more = sym one ∙ same ∙ two in cc

part_stands : (old new : Contents) (property : ℕ → Property) (level first birth : ℕ) (pointer : BlockPtr) (array : ℕ → Option (List ℕ)) (blocks : List Block) (births : ℕ → ℕ → ℕ)
    → ((block : Block) (bytes : List ℕ) → Contains blocks block → old block ≡ Some bytes → new block ≡ Some bytes)
    → IsSubtree old property level first birth pointer array blocks → AreBirths old level first pointer births → AreBirths new level first pointer births
part_stands old new property zero first birth Hole array blocks births keeps part were = tt
part_stands old new property zero first birth (At block) array blocks births keeps part were = were
part_stands old new property (suc level) first birth Hole array blocks births keeps part were = tt
part_stands old new property (suc level) first birth (At block) array blocks births keeps part were = (
  were.0,
  record {
    bytes = were.1.bytes;
    known = keeps block were.1.bytes (subst (λ all. Contains all block) (sym part.blocks_are) (first_in block (joined part.parts))) were.1.known;
    pointers = were.1.pointers;
    spelled = were.1.spelled;
    below = λ k low.
        let same = spelled_once part.bytes were.1.bytes part.pointers were.1.pointers (same_bytes (old block) (old block) part.bytes were.1.bytes refl part.known were.1.known) part.spelled were.1.spelled in
        part_stands old new property level (first + k * 128 ^ level) block.birth (get_or were.1.pointers k Hole) array (get_or part.parts k []) births
        (λ other bytes held known. keeps other bytes (subst (λ all. Contains all other) (sym part.blocks_are)
        (Contains-append_right (block ∷ []) (joined part.parts) other (in_joined part.parts k other (omega (arith, low, part.count)) held))) known)
        (subst (λ ps. IsSubtree old property level (first + k * 128 ^ level) block.birth (get_or ps k Hole) array (get_or part.parts k [])) same (part.below k low))
        (were.1.below k low);
  },
)

pub births_stand : BirthsStandOnTheirBlocks
births_stand old new birth node array blocks births keeps tree were = part_stands old new (property_of node) _ 0 birth node.pointer array blocks births keeps tree.root were

-- the place of an id in one of the parts below a root
pub in_part : (first id span : ℕ) → first ≤ id → 0 < span → (first + (id - first) / span * span ≤ id) × (id < first + (id - first) / span * span + span)
in_part first id span from some = (omega (arith, from, some), omega (arith, from, some))

part_within : (stored : Contents) (property : ℕ → Property) (level first birth : ℕ) (pointer : BlockPtr) (array : ℕ → Option (List ℕ)) (blocks : List Block) (births : ℕ → ℕ → ℕ)
    → IsSubtree stored property level first birth pointer array blocks → AreBirths stored level first pointer births
    → (id : ℕ) → first ≤ id → id < first + 128 ^ level → array id ≢ None → births 0 id ≤ birth
part_within stored property zero first birth Hole array blocks births part were id from under some = absurd (some (part.0 id from under))
part_within stored property zero first birth (At block) array blocks births part were id from under some =
    let one : first ≡ id = omega (arith, from, under) in
    subst (λ n. births 0 n ≤ birth) one (omega (arith, were, part.1.asks.birth))
part_within stored property (suc level) first birth Hole array blocks births part were id from under some = absurd (some (part.0 id from under))
part_within stored property (suc level) first birth (At block) array blocks births part were id from under some =
    let span = 128 ^ level in
    let k = (id - first) / 128 ^ level in
    let room : id - first < 128 * 128 ^ level = omega (arith, from, under, span_up (suc level) level refl) in
    let low : (id - first) / 128 ^ level < 128 = (div-lt_iff_lt-mul (span_positive level)).1 room in
    let place = in_part first id (128 ^ level) from (span_positive level) in
    let same = spelled_once part.bytes were.1.bytes part.pointers were.1.pointers (same_bytes (stored block) (stored block) part.bytes were.1.bytes refl part.known were.1.known) part.spelled were.1.spelled in
    let below : births 0 id ≤ block.birth =
    part_within stored property level (first + (id - first) / 128 ^ level * 128 ^ level) block.birth (get_or were.1.pointers ((id - first) / 128 ^ level) Hole) array (get_or part.parts ((id - first) / 128 ^ level) []) births
    (subst (λ ps. IsSubtree stored property level (first + (id - first) / 128 ^ level * 128 ^ level) block.birth (get_or ps ((id - first) / 128 ^ level) Hole) array (get_or part.parts ((id - first) / 128 ^ level) [])) same (part.below ((id - first) / 128 ^ level) low))
    (were.1.below ((id - first) / 128 ^ level) low) id place.0 place.1 some in
    omega (arith, below, part.asks.birth)

-- ---- the height of a tree

le_true : (a b : ℕ) → a ≤ b → nat_le a b ≡ true
le_true a b le = grind (arith, nat_tests)

le_false : (a b : ℕ) → b < a → nat_le a b ≡ false
le_false a b lt = grind (arith, nat_tests)

levels_at : (highest : ℕ) (a b c d e : Bool) → nat_le 1 highest ≡ a → nat_le 128 highest ≡ b → nat_le (128 ^ 2) highest ≡ c → nat_le (128 ^ 3) highest ≡ d → nat_le (128 ^ 4) highest ≡ e
    → levels_of highest ≡ 1 + count_by (λ test. test) (a ∷ b ∷ c ∷ d ∷ e ∷ [])
levels_at highest a b c d e one two three four five = λ i. 1 + count_by (λ test. test) (one i ∷ two i ∷ three i ∷ four i ∷ five i ∷ [])

pub height_has : (highest : ℕ) → highest < 128 ^ 5 → highest < 128 ^ (levels_of highest - 1)
height_has highest low =
    elim (cases_lt highest 1) [
      | inl u ↦
          let is = levels_at highest false false false false false (le_false 1 highest u) (le_false 128 highest (omega (arith, u))) (le_false (128 ^ 2) highest (omega (arith, u))) (le_false (128 ^ 3) highest (omega (arith, u))) (le_false (128 ^ 4) highest (omega (arith, u))) in
          omega (arith, u, ap (λ n. 128 ^ (n - 1)) is)
      | inr a ↦ elim (cases_lt highest 128) [
        | inl u ↦
            let is = levels_at highest true false false false false (le_true 1 highest a) (le_false 128 highest u) (le_false (128 ^ 2) highest (omega (arith, u))) (le_false (128 ^ 3) highest (omega (arith, u))) (le_false (128 ^ 4) highest (omega (arith, u))) in
            omega (arith, u, ap (λ n. 128 ^ (n - 1)) is)
        | inr b ↦ elim (cases_lt highest (128 ^ 2)) [
          | inl u ↦
              let is = levels_at highest true true false false false (le_true 1 highest a) (le_true 128 highest b) (le_false (128 ^ 2) highest u) (le_false (128 ^ 3) highest (omega (arith, u))) (le_false (128 ^ 4) highest (omega (arith, u))) in
              omega (arith, u, ap (λ n. 128 ^ (n - 1)) is)
          | inr c ↦ elim (cases_lt highest (128 ^ 3)) [
            | inl u ↦
                let is = levels_at highest true true true false false (le_true 1 highest a) (le_true 128 highest b) (le_true (128 ^ 2) highest c) (le_false (128 ^ 3) highest u) (le_false (128 ^ 4) highest (omega (arith, u))) in
                omega (arith, u, ap (λ n. 128 ^ (n - 1)) is)
            | inr d ↦ elim (cases_lt highest (128 ^ 4)) [
              | inl u ↦
                  let is = levels_at highest true true true true false (le_true 1 highest a) (le_true 128 highest b) (le_true (128 ^ 2) highest c) (le_true (128 ^ 3) highest d) (le_false (128 ^ 4) highest u) in
                  omega (arith, u, ap (λ n. 128 ^ (n - 1)) is)
              | inr e ↦
                  let is = levels_at highest true true true true true (le_true 1 highest a) (le_true 128 highest b) (le_true (128 ^ 2) highest c) (le_true (128 ^ 3) highest d) (le_true (128 ^ 4) highest e) in
                  omega (arith, low, ap (λ n. 128 ^ (n - 1)) is)
            ]
          ]
        ]
      ]
    ]

pub births_within : BirthsAreWithin
births_within stored birth node array blocks births room tree were id some =
    elim (cases_lt node.highest id) [
      | inl past ↦ absurd (some (tree.behind id past))
      | inr within ↦ part_within stored (property_of node) _ 0 birth node.pointer array blocks births tree.root were id (omega arith) (omega (arith, within, height_has node.highest room)) some
    ]
