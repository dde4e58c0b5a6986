-- The births of a tree's blocks, before and after writes.
use Rattle.std.proofs.Common.{◌≡◌, ℕ, zero, suc, ◌+◌, ◌*◌, ◌^◌, ◌<◌, ◌≤◌, Bool, true, false, if◌then◌else◌, List, [], ◌∷◌, ◌++◌, length, take, drop, get_or, All, refl, sym, ap, ◌∙◌, subst, arith}
use Rattle.std.specs.Prelude.{nat_lt}
use Rattle.std.proofs.lemmas.Bool.Decides.{nat_tests}
use Rattle.std.proofs.lemmas.List.{get_or_default, take-append-drop}
use Rattle.std.proofs.lemmas.List.Elements.{All-head, All-tail, All-weaker}
use Rattle.block_pointer.specs.declared.block.Block.{Block}
use Rattle.block_pointer.specs.declared.pointer.BlockPtr.{BlockPtr}
use Rattle.block_pointer.specs.declared.pointer.BlockPtr.TheVariants.{Hole, Block as At}
use Rattle.block_store.specs.Blocks.{Contents, Extends}
use Rattle.dnode_tree.specs.declared.writes.BlockWrite.{BlockWrite}
use Rattle.dnode_tree.specs.Births.{AreBirths, HasBelow, reaches}
use Rattle.dnode_tree.specs.PartsRewritten.{AreBirthsAfter}
use Rattle.dnode_tree.proofs.Kept.{part_end}
use Rattle.dnode_tree.proofs.Spans.{span_up}

pub births_at_hole : (stored : Contents) (level first : ℕ) (births : ℕ → ℕ → ℕ) → AreBirths stored level first Hole births
births_at_hole stored zero first births = tt
births_at_hole stored (suc level) first births = tt

-- more is known, and the births are the same in the part
pub births_as : (old new : Contents) → Extends old new → (level first : ℕ) (pointer : BlockPtr) (births other : ℕ → ℕ → ℕ)
    → ((low from : ℕ) → low ≤ level → first ≤ from → from + 128 ^ low ≤ first + 128 ^ level → births low from ≡ other low from)
    → AreBirths old level first pointer births → AreBirths new level first pointer other
births_as old new kept zero first Hole births other same part = tt
births_as old new kept zero first (At block) births other same part = sym (same 0 first (omega arith) (omega arith) (omega arith)) ∙ part
births_as old new kept (suc level) first Hole births other same part = tt
births_as old new kept (suc level) first (At block) births other same part = (
  sym (same (suc level) first (omega arith) (omega arith) (omega arith)) ∙ part.0,
  record {
    bytes = part.1.bytes;
    known = kept block part.1.bytes part.1.known;
    pointers = part.1.pointers;
    spelled = part.1.spelled;
    below = λ k low. births_as old new kept level (first + k * 128 ^ level) (get_or part.1.pointers k Hole) births other
        (λ deep from under above before.
        same deep from (omega (arith, under)) (omega (arith, above)) (omega (arith, before, part_end k (128 ^ level) low, span_up (suc level) level refl)))
        (part.1.below k low);
  },
)

pub births_later : (old new : Contents) → Extends old new → (level first : ℕ) (pointer : BlockPtr) (births : ℕ → ℕ → ℕ)
    → AreBirths old level first pointer births → AreBirths new level first pointer births
births_later old new kept level first pointer births part = births_as old new kept level first pointer births births (λ low from under above before. refl) part

-- ---- which parts writes reach

lt_false : (a b : ℕ) → b ≤ a → nat_lt a b ≡ false
lt_false a b le = grind (arith, nat_tests)

lt_true : (a b : ℕ) → a < b → nat_lt a b ≡ true
lt_true a b lt = grind (arith, nat_tests)

same_arms : (test found : Bool) → (if test then found else found) ≡ found
same_arms true found = refl
same_arms false found = refl

-- a write before the part
before_it : (write : BlockWrite) (writes : List BlockWrite) (level first : ℕ) → write.id < first → reaches (write ∷ writes) level first ≡ reaches writes level first
before_it write writes level first lt =
    ap (λ test. if test then reaches writes level first else (if nat_lt write.id (first + 128 ^ level) then true else reaches writes level first)) (lt_true write.id first lt)

-- a write behind it
behind_it : (write : BlockWrite) (writes : List BlockWrite) (level first : ℕ) → first + 128 ^ level ≤ write.id → reaches (write ∷ writes) level first ≡ reaches writes level first
behind_it write writes level first le =
    ap (λ test. if nat_lt write.id first then reaches writes level first else (if test then true else reaches writes level first)) (lt_false write.id (first + 128 ^ level) le)
    ∙ same_arms (nat_lt write.id first) (reaches writes level first)

all_behind : (writes : List BlockWrite) (level first : ℕ) → All (λ write. first + 128 ^ level ≤ write.id) writes → reaches writes level first ≡ false
all_behind [] level first behind = refl
all_behind (write ∷ writes) level first behind =
    behind_it write writes level first (All-head (λ (w : BlockWrite). first + 128 ^ level ≤ w.id) write writes behind)
    ∙ all_behind writes level first (All-tail (λ (w : BlockWrite). first + 128 ^ level ≤ w.id) write writes behind)

pub behind_others : (writes rest : List BlockWrite) (level first : ℕ) → All (λ write. first + 128 ^ level ≤ write.id) rest → reaches (writes ++ rest) level first ≡ reaches writes level first
behind_others [] rest level first behind = all_behind rest level first behind
behind_others (write ∷ writes) rest level first behind =
    ap (λ found. if nat_lt write.id first then found else (if nat_lt write.id (first + 128 ^ level) then true else found)) (behind_others writes rest level first behind)

pub before_others : (writes rest : List BlockWrite) (level first : ℕ) → All (λ write. write.id < first) writes → reaches (writes ++ rest) level first ≡ reaches rest level first
before_others [] rest level first before = refl
before_others (write ∷ writes) rest level first before =
    before_it write (writes ++ rest) level first (All-head (λ (w : BlockWrite). w.id < first) write writes before)
    ∙ before_others writes rest level first (All-tail (λ (w : BlockWrite). w.id < first) write writes before)

-- the first write is in the part
pub reaches_first : (writes : List BlockWrite) (level first : ℕ) (other : BlockWrite) → 0 < length writes → first ≤ (get_or writes 0 other).id
    → (get_or writes 0 other).id < first + 128 ^ level → reaches writes level first ≡ true
reaches_first [] level first other some from under = absurd (omega (arith, some))
reaches_first (write ∷ writes) level first other some from under =
    ap (λ test. if test then reaches writes level first else (if nat_lt write.id (first + 128 ^ level) then true else reaches writes level first)) (lt_false write.id first from)
    ∙ ap (λ test. if test then true else reaches writes level first) (lt_true write.id (first + 128 ^ level) under)

module _ (writes : List BlockWrite) (n middle : ℕ) (level first : ℕ) where
  pub reaches_taken : All (λ write. middle ≤ write.id) (drop n writes) → first + 128 ^ level ≤ middle → reaches writes level first ≡ reaches (take n writes) level first
  reaches_taken behind le =
      ap (λ ws. reaches ws level first) (sym (take-append-drop n writes))
      ∙ behind_others (take n writes) (drop n writes) level first (All-weaker (λ w. middle ≤ w.id) (λ w. first + 128 ^ level ≤ w.id) (λ w there. omega (arith, there, le)) (drop n writes) behind)

  pub reaches_dropped : All (λ write. write.id < middle) (take n writes) → middle ≤ first → reaches writes level first ≡ reaches (drop n writes) level first
  reaches_dropped before le =
      ap (λ ws. reaches ws level first) (sym (take-append-drop n writes))
      ∙ before_others (take n writes) (drop n writes) level first (All-weaker (λ w. w.id < middle) (λ w. w.id < first) (λ w there. omega (arith, there, le)) (take n writes) before)

-- the births after those writes that are left
module _ (birth : ℕ) (writes : List BlockWrite) (births new_births : ℕ → ℕ → ℕ) (height from end : ℕ) (n middle : ℕ) (after : AreBirthsAfter birth writes births new_births height from end) where
  pub after_taken : All (λ write. middle ≤ write.id) (drop n writes) → (start stop : ℕ) → from ≤ start → stop ≤ middle → stop ≤ end → AreBirthsAfter birth (take n writes) births new_births height start stop
  after_taken behind start stop above le within level first low there before =
      after level first low (omega (arith, above, there)) (omega (arith, before, within))
      ∙ ap (λ test. if test then birth else births level first) (reaches_taken writes n middle level first behind (omega (arith, before, le)))

  pub after_dropped : All (λ write. write.id < middle) (take n writes) → (start : ℕ) → from ≤ start → middle ≤ start → AreBirthsAfter birth (drop n writes) births new_births height start end
  after_dropped sooner start above le level first low there before =
      after level first low (omega (arith, above, there)) before
      ∙ ap (λ test. if test then birth else births level first) (reaches_dropped writes n middle level first sooner (omega (arith, le, there)))

-- a part that writes reach, as a root and the parts below it
pub ages_below : (birth : ℕ) (writes : List BlockWrite) (births new_births : ℕ → ℕ → ℕ) (level next first : ℕ) → level ≡ suc next
    → AreBirthsAfter birth writes births new_births level first (first + 128 ^ level) → reaches writes level first ≡ true
    → (new_births (suc next) first ≡ birth) × AreBirthsAfter birth writes births new_births next (first + 0 * 128 ^ next) (first + 128 * 128 ^ next)
ages_below birth writes births new_births level next first e after reached = (
  ap (λ n. new_births n first) (sym e) ∙ after level first (omega arith) (omega arith) (omega arith) ∙ ap (λ test. if test then birth else births level first) reached,
  λ low from under above before. after low from (omega (arith, under, e)) (omega (arith, above)) (omega (arith, before, span_up level next e)),
)

-- the parts below a root, by the pointers that were read
pub births_below : (stored : Contents) (level next first : ℕ) (pointer : BlockPtr) (block : Block) (births : ℕ → ℕ → ℕ) (e : level ≡ suc next) (is : pointer ≡ At block)
    → AreBirths stored level first pointer births → HasBelow stored block (λ k child. AreBirths stored next (first + k * 128 ^ next) child births)
births_below stored level next first pointer block births e is were =
    let there : AreBirths stored (suc next) first (At block) births =
    subst (λ n. AreBirths stored n first (At block) births) e (subst (λ p. AreBirths stored level first p births) is were) in
    there.1

-- the part below the root that a pointer leads to
pub child_births : (stored : Contents) (next first : ℕ) (block : Block) (births : ℕ → ℕ → ℕ) (found : List BlockPtr) (child : BlockPtr) (k : ℕ)
    → (below : HasBelow stored block (λ k child. AreBirths stored next (first + k * 128 ^ next) child births))
    → found ≡ below.pointers → child ≡ get_or found k child → k < 128 → AreBirths stored next (first + k * 128 ^ next) child births
child_births stored next first block births found child k below found_is child_is low =
    let room : k < length below.pointers = rw below.spelled.0.count low in
    let same : child ≡ get_or below.pointers k Hole = child_is ∙ ap (λ pointers. get_or pointers k child) found_is ∙ get_or_default below.pointers k child Hole room in
    subst (λ p. AreBirths stored next (first + k * 128 ^ next) p births) (sym same) (below.below k low)
