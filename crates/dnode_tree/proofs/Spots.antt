-- Which blocks of a tree are planned anew.
use Rattle.std.proofs.Common.{◌≡◌, ℕ, zero, suc, ◌+◌, ◌-◌, ◌*◌, ◌^◌, ◌<◌, ◌≤◌, true, false, if◌then◌else◌, List, [], ◌∷◌, ◌++◌, length, take, drop, All, refl, sym, ap, ◌∙◌, subst, arith, append-nil, append_assoc}
use Rattle.block_pointer.specs.declared.dva.Dva.{Dva}
use Rattle.block_store.specs.Spaces.{VdevSpace}
use Rattle.block_store.specs.Demands.{HavePlaces, LackPlaces}
use Rattle.block_store.specs.Places.{AreChosen, RanOut}
use Rattle.block_store.proofs.Demands.{have_both, have_one, lack_later, lack_one, lack_sooner}
use Rattle.dnode.specs.declared.node.ObjectNode.{ObjectNode}
use Rattle.dnode_tree.specs.declared.writes.BlockWrite.{BlockWrite}
use Rattle.dnode_tree.specs.declared.writes.CopyCounts.{CopyCounts}
use Rattle.dnode_tree.specs.Births.{reaches}
use Rattle.dnode_tree.specs.Spots.{Spot, of_parts, spots_in, spots_below, demand_at, demands_at}
use Rattle.dnode_tree.specs.Tree.{property_of}
use Rattle.dnode_tree.specs.Writes.{copies_at}
use Rattle.std.proofs.lemmas.List.{map-append}
use Rattle.std.proofs.Math.Nat.{mul-le-mul_right}
use Rattle.dnode_tree.proofs.Births.{reaches_taken, reaches_dropped}
use Rattle.dnode_tree.proofs.Kept.{part_end}
use Rattle.dnode_tree.proofs.Spans.{span_up}

-- ---- places one after the other

-- the blocks at these spots have places, or lack them
abbrev pub HavePlacesAt : ObjectNode → CopyCounts → List VdevSpace → List Spot → List VdevSpace → Type 0
HavePlacesAt node copies before spots after = HavePlaces before (demands_at node copies spots) after

abbrev pub LackPlacesAt : ObjectNode → CopyCounts → List VdevSpace → List Spot → List VdevSpace → Type 0
LackPlacesAt node copies before spots after = LackPlaces before (demands_at node copies spots) after

demands_on : (node : ObjectNode) (copies : CopyCounts) (spots later : List Spot)
    → demands_at node copies spots ++ demands_at node copies later ≡ demands_at node copies (spots ++ later)
demands_on node copies spots later = sym (map-append (λ (spot : Spot). demand_at node copies spot.level) spots later)

pub places_on : (node : ObjectNode) (copies : CopyCounts) (before mid after : List VdevSpace) (spots later : List Spot)
    → HavePlacesAt node copies before spots mid → HavePlacesAt node copies mid later after → HavePlacesAt node copies before (spots ++ later) after
places_on node copies before mid after spots later have more =
    subst (λ demands. HavePlaces before demands after) (demands_on node copies spots later) (have_both before mid after _ _ have more)

pub lacks_on : (node : ObjectNode) (copies : CopyCounts) (before mid after : List VdevSpace) (spots later : List Spot)
    → HavePlacesAt node copies before spots mid → LackPlacesAt node copies mid later after → LackPlacesAt node copies before (spots ++ later) after
lacks_on node copies before mid after spots later have lack =
    subst (λ demands. LackPlaces before demands after) (demands_on node copies spots later) (lack_later before mid after _ _ have lack)

pub lacks_sooner : (node : ObjectNode) (copies : CopyCounts) (before after : List VdevSpace) (spots later : List Spot)
    → LackPlacesAt node copies before spots after → LackPlacesAt node copies before (spots ++ later) after
lacks_sooner node copies before after spots later lack =
    subst (λ demands. LackPlaces before demands after) (demands_on node copies spots later) (lack_sooner before after _ _ lack)

-- ---- parts

-- a later part begins behind the end of an earlier one
later_part : (k j span : ℕ) → k < j → k * span + span ≤ j * span
later_part k j span lt =
    let up : k + 1 ≤ j = omega (arith, lt) in omega (arith, mul-le-mul_right span up)

pub parts_as : (spots other : ℕ → List Spot) (from n : ℕ) → ((k : ℕ) → from ≤ k → k < from + n → spots k ≡ other k) → of_parts spots from n ≡ of_parts other from n
parts_as spots other from zero same = refl
parts_as spots other from (suc n) same =
    ap (λ front. front ++ spots (from + n)) (parts_as spots other from n (λ k above under. same k above (omega (arith, under))))
    ∙ ap (λ back. of_parts other from n ++ back) (same (from + n) (omega arith) (omega arith))

-- nothing is reached without writes
pub unreached : (level first : ℕ) → spots_in [] level first ≡ []
unreached zero first = refl
unreached (suc level) first = refl

pub none_reached : (writes : List BlockWrite) (level first : ℕ) → reaches writes level first ≡ false → spots_in writes level first ≡ []
none_reached writes zero first not =
    ap (λ test. if test then (record { level = 0; first = first }) ∷ [] else []) not
none_reached writes (suc level) first not =
    ap (λ test. if test then spots_below writes level first 0 128 else []) not

-- a part that is reached, as its root and what is below it
pub reached_below : (writes : List BlockWrite) (level next first : ℕ) → level ≡ suc next → reaches writes level first ≡ true
    → spots_in writes level first ≡ spots_below writes next first 0 128
reached_below writes level next first e reached =
    ap (λ n. spots_in writes n first) e
    ∙ ap (λ test. if test then spots_below writes next first 0 128 else []) (ap (λ n. reaches writes n first) (sym e) ∙ reached)

pub reached_leaf : (writes : List BlockWrite) (level first : ℕ) → level ≡ 0 → reaches writes level first ≡ true
    → spots_in writes level first ≡ (record { level = 0; first = first }) ∷ []
reached_leaf writes level first e reached =
    ap (λ n. spots_in writes n first) e
    ∙ ap (λ test. if test then (record { level = 0; first = first }) ∷ [] else []) (ap (λ n. reaches writes n first) (sym e) ∙ reached)

-- writes that reach the same spots of a part
pub same_reached : (writes other : List BlockWrite) (level first : ℕ)
    → ((low from : ℕ) → low ≤ level → first ≤ from → from + 128 ^ low ≤ first + 128 ^ level → reaches writes low from ≡ reaches other low from)
    → spots_in writes level first ≡ spots_in other level first
same_reached writes other zero first same =
    ap (λ test. if test then (record { level = 0; first = first }) ∷ [] else []) (same 0 first (omega arith) (omega arith) (omega arith))
same_reached writes other (suc level) first same =
    ap (λ test. if test then spots_below writes level first 0 128 else []) (same (suc level) first (omega arith) (omega arith) (omega arith))
    ∙ ap (λ spots. if reaches other (suc level) first then spots ++ (record { level = suc level; first = first }) ∷ [] else [])
    (parts_as _ _ 0 128 (λ k above under.
    same_reached writes other level (first + k * 128 ^ level)
    (λ low from le begin end. same low from (omega (arith, le)) (omega (arith, begin)) (omega (arith, end, part_end k (128 ^ level) under, span_up (suc level) level refl)))))

module _ (writes : List BlockWrite) (n middle level first : ℕ) where
  pub spots_taken : All (λ write. middle ≤ write.id) (drop n writes) → first + 128 ^ level ≤ middle → spots_in writes level first ≡ spots_in (take n writes) level first
  spots_taken behind le = same_reached writes (take n writes) level first (λ low from under begin end. reaches_taken writes n middle low from behind (omega (arith, end, le)))

  pub spots_dropped : All (λ write. write.id < middle) (take n writes) → middle ≤ first → spots_in writes level first ≡ spots_in (drop n writes) level first
  spots_dropped before le = same_reached writes (drop n writes) level first (λ low from under begin end. reaches_dropped writes n middle low from before (omega (arith, begin, le)))

-- ---- the parts below a root, one after the other

-- so many parts, and then the others
pub parts_split : (spots : ℕ → List Spot) (from a b : ℕ) → of_parts spots from (a + b) ≡ of_parts spots from a ++ of_parts spots (from + a) b
parts_split spots from a zero =
    let e : a + 0 ≡ a = omega arith in
    ap (λ n. of_parts spots from n) e ∙ sym (append-nil (of_parts spots from a))
parts_split spots from a (suc b) =
    let e : a + suc b ≡ suc (a + b) = omega arith in
    let f : from + (a + b) ≡ (from + a) + b = omega arith in
    ap (λ n. of_parts spots from n) e
    ∙ ap (λ front. front ++ spots (from + (a + b))) (parts_split spots from a b)
    ∙ append_assoc (of_parts spots from a) (of_parts spots (from + a) b) (spots (from + (a + b)))
    ∙ ap (λ n. of_parts spots from a ++ (of_parts spots (from + a) b ++ spots n)) f

-- The parts before the k-th have their places, and what is left to be written reaches the others as the writes do.
pub record HavePartsPlaced (node : ObjectNode) (copies : CopyCounts) (before now : List VdevSpace) (level first from : ℕ) (writes rest : List BlockWrite) (k : ℕ) : Type 0 where
  pub same : (j : ℕ) → k ≤ j → j < 128 → spots_in writes level (first + j * 128 ^ level) ≡ spots_in rest level (first + j * 128 ^ level)
  pub n : ℕ
  pub k_is : k ≡ from + n
  pub have : HavePlacesAt node copies before (of_parts (λ j. spots_in writes level (first + j * 128 ^ level)) from n) now

pub parts_begin : (node : ObjectNode) (copies : CopyCounts) (spaces : List VdevSpace) (level first from : ℕ) (writes : List BlockWrite)
    → HavePartsPlaced node copies spaces spaces level first from writes writes from
parts_begin node copies spaces level first from writes = record {
  same = λ j above under. refl;
  n = 0;
  k_is = omega arith;
  have = refl;
}

module _ (node : ObjectNode) (copies : CopyCounts) (before now : List VdevSpace) (level first from : ℕ) (writes rest : List BlockWrite) (k : ℕ)
    (so_far : HavePartsPlaced node copies before now level first from writes rest k) (low : k < 128) (count middle : ℕ)
    (middle_is : middle ≡ (first + k * 128 ^ level) + 128 ^ level)
    (sooner : All (λ write. write.id < middle) (take count rest)) (behind : All (λ write. middle ≤ write.id) (drop count rest)) where
  abbrev spots : ℕ → List Spot
  spots j = spots_in writes level (first + j * 128 ^ level)

  -- the next part, as those writes reach it that belong to it
  next_part : spots (from + so_far.n) ≡ spots_in (take count rest) level (first + k * 128 ^ level)
  next_part =
      ap spots (sym so_far.k_is) ∙ so_far.same k (omega arith) low
      ∙ spots_taken rest count middle level (first + k * 128 ^ level) behind (omega (arith, middle_is))

  pub parts_go_on : (after : List VdevSpace) (others : List BlockWrite) → others ≡ drop count rest
      → HavePlacesAt node copies now (spots_in (take count rest) level (first + k * 128 ^ level)) after
      → HavePartsPlaced node copies before after level first from writes others (k + 1)
  parts_go_on after others others_is more = record {
    same = λ j above under.
        so_far.same j (omega (arith, above)) under
        ∙ spots_dropped rest count middle level (first + j * 128 ^ level) sooner (omega (arith, middle_is, later_part k j (128 ^ level) (omega (arith, above))))
        ∙ ap (λ ws. spots_in ws level (first + j * 128 ^ level)) (sym others_is);
    n = suc so_far.n;
    k_is = omega (arith, so_far.k_is);
    have = places_on node copies before now after (of_parts spots from so_far.n) (spots (from + so_far.n)) so_far.have
        (subst (λ there. HavePlacesAt node copies now there after) (sym next_part) more);
  }

  pub parts_skip : (others : List BlockWrite) → others ≡ drop count rest → take count rest ≡ [] → HavePartsPlaced node copies before now level first from writes others (k + 1)
  parts_skip others others_is nothing =
      parts_go_on now others others_is
      (subst (λ there. HavePlacesAt node copies now there now) (sym (ap (λ ws. spots_in ws level (first + k * 128 ^ level)) nothing ∙ unreached level (first + k * 128 ^ level))) refl)

  pub parts_fail : (after : List VdevSpace) → LackPlacesAt node copies now (spots_in (take count rest) level (first + k * 128 ^ level)) after
      → LackPlacesAt node copies before (spots_below writes level first from (128 - from)) after
  parts_fail after lacks =
      let all : 128 - from ≡ suc so_far.n + (127 - k) = omega (arith, low, so_far.k_is) in
      subst (λ n. LackPlacesAt node copies before (spots_below writes level first from n) after) (sym all)
      (lacks_sooner node copies before after _ _
      (subst (λ there. LackPlacesAt node copies before there after) (sym (parts_split spots from (suc so_far.n) (127 - k)))
      (lacks_sooner node copies before after _ _
      (lacks_on node copies before now after (of_parts spots from so_far.n) (spots (from + so_far.n)) so_far.have
      (subst (λ there. LackPlacesAt node copies now there after) (sym next_part) lacks)))))

module _ (node : ObjectNode) (copies : CopyCounts) (before now after : List VdevSpace) (level first from : ℕ) (writes rest : List BlockWrite) (k : ℕ)
    (so_far : HavePartsPlaced node copies before now level first from writes rest k) (all : k ≡ 128) where
  count_is : so_far.n ≡ 128 - from
  count_is = omega (arith, all, so_far.k_is)

  pub parts_end : HavePlacesAt node copies now ((record { level = suc level; first = first }) ∷ []) after
      → HavePlacesAt node copies before (spots_below writes level first from (128 - from)) after
  parts_end root =
      subst (λ n. HavePlacesAt node copies before (spots_below writes level first from n) after) count_is
      (places_on node copies before now after _ _ so_far.have root)

  pub root_fails : LackPlacesAt node copies now ((record { level = suc level; first = first }) ∷ []) after
      → LackPlacesAt node copies before (spots_below writes level first from (128 - from)) after
  root_fails lacks =
      subst (λ n. LackPlacesAt node copies before (spots_below writes level first from n) after) count_is
      (lacks_on node copies before now after _ _ so_far.have lacks)

-- one block
pub one_placed : (node : ObjectNode) (copies : CopyCounts) (before after : List VdevSpace) (level first : ℕ) (places : List Dva)
    → length places ≡ copies_at copies level → AreChosen before [] (property_of node level).sectors (copies_at copies level) places after
    → HavePlacesAt node copies before ((record { level = level; first = first }) ∷ []) after
one_placed node copies before after level first places count chosen = have_one before after _ _ places count chosen

pub none_placed : (node : ObjectNode) (copies : CopyCounts) (before after : List VdevSpace) (level first : ℕ)
    → RanOut before (property_of node level).sectors (copies_at copies level) after
    → LackPlacesAt node copies before ((record { level = level; first = first }) ∷ []) after
none_placed node copies before after level first ran_out = lack_one before after _ _ ran_out
