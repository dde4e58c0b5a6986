-- Places of the blocks of a tree that grows, a level after the other.
use Rattle.std.proofs.Common.{◌≡◌, ◌≢◌, ◌⊎◌, inl, inr, ℕ, zero, suc, ◌+◌, ◌*◌, ◌^◌, ◌<◌, ◌≤◌, ◌||◌, Bool, true, false, if◌then◌else◌, max, List, [], ◌∷◌, ◌++◌, length, take, drop, All, refl, sym, ap, ◌∙◌, subst, arith, append_assoc, add-one}
use Rattle.std.proofs.lemmas.List.{take-append-drop}
use Rattle.std.proofs.lemmas.List.Elements.{All-append, All-weaker, All-nil, All-cons, All-head, All-tail}
use Rattle.block_pointer.specs.declared.pointer.BlockPtr.{BlockPtr}
use Rattle.block_pointer.specs.declared.pointer.BlockPtr.TheVariants.{Hole, Block as At}
use Rattle.block_store.specs.Spaces.{VdevSpace}
use Rattle.dnode.specs.declared.node.ObjectNode.{ObjectNode}
use Rattle.dnode_tree.specs.declared.writes.BlockWrite.{BlockWrite}
use Rattle.dnode_tree.specs.declared.writes.CopyCounts.{CopyCounts}
use Rattle.dnode_tree.specs.Births.{height_of, reaches}
use Rattle.dnode_tree.specs.Spots.{Spot, spots_in, spots_below, spots_raised, spots_of_raise, is_there, has_some}
use Rattle.dnode_tree.proofs.Births.{behind_others, before_others, reaches_first}
use Rattle.dnode_tree.proofs.Kept.{part_end}
use Rattle.dnode_tree.proofs.Spans.{span_up}
use Rattle.dnode_tree.proofs.Spots.{HavePlacesAt, LackPlacesAt, places_on, lacks_on, lacks_sooner, parts_as, same_reached, spots_taken}
use Rattle.dnode_tree.specs.Writes.{highest_with}
use Rattle.dnode_tree.proofs.WholeTree.{power_rises}
use Rattle.std.proofs.Math.Nat.{mul-le-mul_right}

-- ---- whether there are writes

pub or_false : (test : Bool) → (test || false) ≡ test
or_false true = refl
or_false false = refl

pub or_true : (test : Bool) → (test || true) ≡ true
or_true true = refl
or_true false = refl

or_assoc : (a b c : Bool) → ((a || b) || c) ≡ (a || (b || c))
or_assoc true b c = refl
or_assoc false b c = refl

some_or : (front run : List BlockWrite) → has_some (front ++ run) ≡ (has_some front || has_some run)
some_or [] run = refl
some_or (write ∷ front) run = refl

-- a root is there, or some write is
pub test_passes : (root : BlockPtr) (writes : List BlockWrite) → (root ≢ Hole) ⊎ (0 < length writes) → (is_there root || has_some writes) ≡ true
test_passes Hole [] (inl other) = absurd (other refl)
test_passes Hole [] (inr some) = absurd (omega (arith, some))
test_passes Hole (write ∷ writes) any = refl
test_passes (At block) writes any = refl

-- all of them are below the root
all_below : (writes : List BlockWrite) (level : ℕ) → All (λ write. write.id < 128 ^ level) writes → reaches writes level 0 ≡ has_some writes
all_below [] level below = refl
all_below (write ∷ writes) level below =
    reaches_first (write ∷ writes) level 0 write (omega arith) (omega arith) (omega (arith, below 0 write (omega arith)))

-- those before the others are below the root
pub front_below : (front rest : List BlockWrite) (level : ℕ) → All (λ write. write.id < 128 ^ level) front → All (λ write. 128 ^ level ≤ write.id) rest
    → reaches (front ++ rest) level 0 ≡ has_some front
front_below front rest level below behind =
    behind_others front rest level 0 (All-weaker (λ w. 128 ^ level ≤ w.id) (λ w. 0 + 128 ^ level ≤ w.id) (λ w there. omega (arith, there)) rest behind)
    ∙ all_below front level below

-- the spots of a tree that has grown so many levels
abbrev pub spots_grown : ObjectNode → List BlockWrite → ℕ → List Spot
spots_grown node writes n = spots_raised writes (is_there node.pointer) (height_of node) n

-- The tree has grown so far: what it has places for is placed.
pub record HaveRaised (node : ObjectNode) (copies : CopyCounts) (before now : List VdevSpace) (level : ℕ) (pointer : BlockPtr) (writes rest : List BlockWrite) : Type 0 where
  pub n : ℕ
  pub level_is : level ≡ height_of node + n
  pub front : List BlockWrite
  pub parts : writes ≡ front ++ rest
  pub below : All (λ write. write.id < 128 ^ level) front
  pub behind : All (λ write. 128 ^ level ≤ write.id) rest
  pub there : is_there pointer ≡ (is_there node.pointer || has_some front)
  pub have : HavePlacesAt node copies before (spots_grown node writes n) now

-- what a root is, with these writes below it
abbrev pub IsRootOf : ObjectNode → List BlockWrite → BlockPtr → Type 0
IsRootOf node writes pointer = is_there pointer ≡ (is_there node.pointer || has_some writes)

-- the writes before an id that is not below the end of the root reach its spots as all do
spots_before : (writes run : List BlockWrite) (n middle height : ℕ) → run ≡ take n writes → middle ≡ 128 ^ height → All (λ write. middle ≤ write.id) (drop n writes)
    → spots_in run height 0 ≡ spots_in writes height 0
spots_before writes run n middle height run_is middle_is later =
    ap (λ ws. spots_in ws height 0) run_is ∙ sym (spots_taken writes n middle height 0 later (omega (arith, middle_is)))

pub root_fails : (node : ObjectNode) (copies : CopyCounts) (before after : List VdevSpace) (writes run : List BlockWrite) (n middle : ℕ) → run ≡ take n writes
    → middle ≡ 128 ^ height_of node → All (λ write. middle ≤ write.id) (drop n writes)
    → LackPlacesAt node copies before (spots_in run (height_of node) 0) after → LackPlacesAt node copies before (spots_grown node writes 0) after
root_fails node copies before after writes run n middle run_is middle_is later lacks =
    subst (λ spots. LackPlacesAt node copies before spots after) (spots_before writes run n middle (height_of node) run_is middle_is later) lacks

pub raised_begins : (node : ObjectNode) (copies : CopyCounts) (before now : List VdevSpace) (level : ℕ) (pointer : BlockPtr) (writes run rest : List BlockWrite) (n middle : ℕ)
    → level ≡ height_of node → middle ≡ 128 ^ level → run ≡ take n writes → rest ≡ drop n writes
    → All (λ write. write.id < middle) (take n writes) → All (λ write. middle ≤ write.id) (drop n writes)
    → IsRootOf node run pointer → HavePlacesAt node copies before (spots_in run (height_of node) 0) now
    → HaveRaised node copies before now level pointer writes rest
raised_begins node copies before now level pointer writes run rest n middle level_is middle_is run_is rest_is sooner later there have = record {
  n = 0;
  level_is = omega (arith, level_is);
  front = run;
  parts = sym (take-append-drop n writes) ∙ ap (λ ws. ws ++ drop n writes) (sym run_is) ∙ ap (λ ws. run ++ ws) (sym rest_is);
  below = subst (λ m. All (λ write. write.id < m) run) middle_is (subst (λ ws. All (λ write. write.id < middle) ws) (sym run_is) sooner);
  behind = subst (λ m. All (λ write. m ≤ write.id) rest) middle_is (subst (λ ws. All (λ write. middle ≤ write.id) ws) (sym rest_is) later);
  there = there;
  have = subst (λ spots. HavePlacesAt node copies before spots now)
      (spots_before writes run n middle (height_of node) run_is (middle_is ∙ ap (λ l. 128 ^ l) level_is) later) have;
}

module _ (node : ObjectNode) (copies : CopyCounts) (before now : List VdevSpace) (level : ℕ) (pointer : BlockPtr) (writes rest run others : List BlockWrite)
    (so_far : HaveRaised node copies before now level pointer writes rest) (n middle : ℕ) (middle_is : middle ≡ 128 * 128 ^ level)
    (run_is : run ≡ take n rest) (others_are : others ≡ drop n rest)
    (sooner : All (λ write. write.id < middle) (take n rest)) (later : All (λ write. middle ≤ write.id) (drop n rest)) where
  up : middle ≡ 128 ^ (level + 1)
  up = middle_is ∙ omega (arith, span_up (level + 1) level (add-one level))

  rest_parts : rest ≡ run ++ others
  rest_parts = sym (take-append-drop n rest) ∙ ap (λ ws. ws ++ drop n rest) (sym run_is) ∙ ap (λ ws. run ++ ws) (sym others_are)

  new_parts : writes ≡ (so_far.front ++ run) ++ others
  new_parts = so_far.parts ∙ ap (λ ws. so_far.front ++ ws) rest_parts ∙ sym (append_assoc so_far.front run others)

  run_sooner : All (λ write. write.id < middle) run
  run_sooner = subst (λ ws. All (λ write. write.id < middle) ws) (sym run_is) sooner

  others_later : All (λ write. middle ≤ write.id) others
  others_later = subst (λ ws. All (λ write. middle ≤ write.id) ws) (sym others_are) later

  front_sooner : All (λ write. write.id < 128 ^ (level + 1)) (so_far.front ++ run)
  front_sooner =
      All-append (λ (w : BlockWrite). w.id < 128 ^ (level + 1)) so_far.front run
      (All-weaker (λ w. w.id < 128 ^ level) (λ w. w.id < 128 ^ (level + 1)) (λ w there. omega (arith, there, power_rises level (level + 1) (omega arith))) so_far.front so_far.below)
      (subst (λ m. All (λ write. write.id < m) run) up run_sooner)

  -- whether the higher root is reached
  reached_now : reaches writes (suc level) 0 ≡ (has_some so_far.front || has_some run)
  reached_now =
      ap (λ ws. reaches ws (suc level) 0) new_parts
      ∙ front_below (so_far.front ++ run) others (suc level) (rw add-one at front_sooner)
      (subst (λ m. All (λ write. m ≤ write.id) others) (rw add-one at up) others_later)
      ∙ some_or so_far.front run

  test_is : (is_there pointer || has_some run) ≡ (is_there node.pointer || reaches writes (suc (height_of node + so_far.n)) 0)
  test_is =
      ap (λ test. test || has_some run) so_far.there ∙ or_assoc (is_there node.pointer) (has_some so_far.front) (has_some run)
      ∙ ap (λ test. is_there node.pointer || test) (sym reached_now ∙ ap (λ l. reaches writes (suc l) 0) so_far.level_is)

  part_reached_by : (j : ℕ) → 1 ≤ j → j < 128 → spots_in run level (0 + j * 128 ^ level) ≡ spots_in writes level (0 + j * 128 ^ level)
  part_reached_by j above under =
      same_reached run writes level (0 + j * 128 ^ level)
      (λ low from le begin end.
      let far : 128 ^ level ≤ from = omega (arith, begin, mul-le-mul_right (128 ^ level) above) in
      let near : from + 128 ^ low ≤ middle = omega (arith, end, middle_is, part_end j (128 ^ level) under) in
      sym (ap (λ ws. reaches ws low from) (so_far.parts ∙ ap (λ ws. so_far.front ++ ws) rest_parts)
      ∙ before_others so_far.front (run ++ others) low from (All-weaker (λ w. w.id < 128 ^ level) (λ w. w.id < from) (λ w there. omega (arith, there, far)) so_far.front so_far.below)
      ∙ behind_others run others low from (All-weaker (λ w. middle ≤ w.id) (λ w. from + 128 ^ low ≤ w.id) (λ w there. omega (arith, there, near)) others others_later)))

  -- the spots of one more level
  level_spots : spots_of_raise pointer run level
      ≡ (if is_there node.pointer || reaches writes (suc (height_of node + so_far.n)) 0 then spots_below writes (height_of node + so_far.n) 0 1 127 else [])
  level_spots =
      ap (λ test. if test then spots_below run level 0 1 127 else []) test_is
      ∙ ap (λ spots. if is_there node.pointer || reaches writes (suc (height_of node + so_far.n)) 0 then spots ++ (record { level = suc level; first = 0 }) ∷ [] else [])
      (parts_as _ _ 1 127 (λ j above under. part_reached_by j above under))
      ∙ ap (λ l. if is_there node.pointer || reaches writes (suc (height_of node + so_far.n)) 0 then spots_below writes l 0 1 127 else []) so_far.level_is

  pub raised_on : (after : List VdevSpace) (new_pointer : BlockPtr) → is_there new_pointer ≡ (is_there pointer || has_some run)
      → HavePlacesAt node copies now (spots_of_raise pointer run level) after
      → HaveRaised node copies before after (level + 1) new_pointer writes others
  raised_on after new_pointer there more = record {
    n = suc so_far.n;
    level_is = omega (arith, so_far.level_is);
    front = so_far.front ++ run;
    parts = new_parts;
    below = front_sooner;
    behind = subst (λ m. All (λ write. m ≤ write.id) others) up others_later;
    there = there ∙ ap (λ test. test || has_some run) so_far.there ∙ or_assoc (is_there node.pointer) (has_some so_far.front) (has_some run)
        ∙ ap (λ test. is_there node.pointer || test) (sym (some_or so_far.front run));
    have = places_on node copies before now after (spots_grown node writes so_far.n) _ so_far.have (subst (λ spots. HavePlacesAt node copies now spots after) level_spots more);
  }

  pub raised_fails : (after : List VdevSpace) → LackPlacesAt node copies now (spots_of_raise pointer run level) after
      → LackPlacesAt node copies before (spots_grown node writes (suc so_far.n)) after
  raised_fails after lacks =
      lacks_on node copies before now after (spots_grown node writes so_far.n) _ so_far.have (subst (λ spots. LackPlacesAt node copies now spots after) level_spots lacks)

-- higher levels have further spots
pub fails_sooner : (node : ObjectNode) (copies : CopyCounts) (before after : List VdevSpace) (writes : List BlockWrite) (n more : ℕ)
    → LackPlacesAt node copies before (spots_grown node writes n) after → LackPlacesAt node copies before (spots_grown node writes (n + more)) after
fails_sooner node copies before after writes n zero lacks =
    let e : n ≡ n + 0 = omega arith in
    subst (λ m. LackPlacesAt node copies before (spots_grown node writes m) after) e lacks
fails_sooner node copies before after writes n (suc more) lacks =
    let e : suc (n + more) ≡ n + suc more = omega arith in
    subst (λ m. LackPlacesAt node copies before (spots_grown node writes m) after) e
    (lacks_sooner node copies before after (spots_grown node writes (n + more)) _ (fails_sooner node copies before after writes n more lacks))

-- ---- the highest id

pub highest_from : (writes : List BlockWrite) (highest : ℕ) → highest ≤ highest_with writes highest
highest_from [] highest = omega arith
highest_from (write ∷ writes) highest = omega (arith, highest_from writes (max highest write.id))

pub highest_room : (writes : List BlockWrite) (highest : ℕ) → All (λ write. write.id ≤ highest_with writes highest) writes
highest_room [] highest = All-nil (λ (w : BlockWrite). w.id ≤ highest)
highest_room (write ∷ writes) highest =
    All-cons (λ (w : BlockWrite). w.id ≤ highest_with writes (max highest write.id)) write writes (omega (arith, highest_from writes (max highest write.id))) (highest_room writes (max highest write.id))

pub highest_least : (writes : List BlockWrite) (highest bound : ℕ) → highest ≤ bound → All (λ write. write.id ≤ bound) writes → highest_with writes highest ≤ bound
highest_least [] highest bound le all = le
highest_least (write ∷ writes) highest bound le all =
    let first : write.id ≤ bound = All-head (λ (w : BlockWrite). w.id ≤ bound) write writes all in
    highest_least writes (max highest write.id) bound (omega (arith, le, first)) (All-tail (λ (w : BlockWrite). w.id ≤ bound) write writes all)
