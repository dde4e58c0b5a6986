-- A claim: one half of the labels, and then the other.
use Rattle.std.proofs.Common.{◌≡◌, ◌⊎◌, inl, inr, ◌<◌, ◌∙◌, ℕ, ◌+◌, ◌%◌, Bool, List, [], ◌∷◌, length, slice_get, get_or, Option, Some, None, Contains, refl, sym, subst, arith}
use Rattle.uberblock_ring.specs.declared.uberblock.Uberblock.{Uberblock}
use Rattle.uberblock_ring.specs.Uberblock.{Fits}
use Rattle.uberblock_ring.specs.Ranking.{RanksUpTo}
use Rattle.uberblock_ring.specs.Slot.{slot_number}
use Rattle.model_disk.specs.Joint.{Disks, bytes_of, content}
use Rattle.model_disk.specs.Runs.{Makes}
use Rattle.model_disk.proofs.RunLemmas.{off_content, Makes-more, Makes-wider, each_weaker}
use Rattle.pool_slots.specs.Labels.{AreSlotted}
use Rattle.pool_slots.specs.Slots.{AreThere, InUse, HaveLabels, MakesOn, AreSettled, spelled, slot_at, IsSlot, Shows}
use Rattle.pool_slots.specs.Possible.{Possible, IsInReach, IsAllowed, LeadsOn, Trees, TreeStands, IsPossible, Leads, LeavesLeading}
use Rattle.pool_slots.specs.Writes.{IsSlotWrite, in_use, InHalf, InTurn, SlotsStand, first_half_of}
use Rattle.pool_slots.specs.Commits.{AreOffLabels, AreAt, LeadAlways}
use Rattle.pool_slots.specs.Opens.{MayClaim, also_begun}
use Rattle.pool_slots.specs.declared.found.Found.{Found}
use Rattle.pool_slots.proofs.Among.{first_in, later_in, first_or_later}
use Rattle.pool_slots.proofs.OneDisk.{shows_same, kept_allowed}
use Rattle.pool_slots.proofs.Places.{same_or_not}
use Rattle.pool_slots.proofs.Phases.{IsPhase, phase_leaves, phases_leave, leads_more}
use Rattle.pool_slots.proofs.Writing.{off_slot_writes, stays_through, slot_number_small, more_picked, same_starts, slot_writes_more}
use Rattle.pool_slots.proofs.FreeWrites.{used_makes}
use Rattle.pool_slots.proofs.SlotPhases.{slot_phase, finished, tree_kept}

-- ---- halves

in_half_or_not : (half label : ℕ) → InHalf half label ⊎ (¬ InHalf half label)
in_half_or_not half label =
    elim (same_or_not label half) [
      | inl low ↦ inl (inl low)
      | inr not_low ↦ elim (same_or_not label (half + 2)) [
        | inl high ↦ inl (inr high)
        | inr not_high ↦ inr (λ it. elim it [ inl a ↦ not_low a | inr b ↦ not_high b ])
      ]
    ]

half_small : (found : Option Found) → first_half_of found < 2
half_small None = omega arith
half_small (Some found) = omega arith

either_half : (first label : ℕ) → first < 2 → label < 4 → InHalf ((first + 0) % 2) label ⊎ InHalf ((first + 1) % 2) label
either_half first label small is = grind (arith, small, is)

not_in_both : (first label : ℕ) → first < 2 → InHalf ((first + 0) % 2) label → InHalf ((first + 1) % 2) label → ⊥
not_in_both first label small (inl a) (inl b) = omega (arith, small)
not_in_both first label small (inl a) (inr b) = omega (arith, small)
not_in_both first label small (inr a) (inl b) = omega (arith, small)
not_in_both first label small (inr a) (inr b) = omega (arith, small)

-- no label has both turns
turns_apart : (out : List Bool) (all : List (Option Found)) (which label : ℕ) → InTurn out all 0 which label → InTurn out all 1 which label → ⊥
turns_apart out all which label first second = not_in_both (first_half_of (get_or all which None)) label (half_small (get_or all which None)) first.half second.half

-- each label of a disk in use has one
in_some_turn : (out : List Bool) (all : List (Option Found)) (which label : ℕ) → InUse out which → label < 4 → InTurn out all 0 which label ⊎ InTurn out all 1 which label
in_some_turn out all which label used is =
    elim (either_half (first_half_of (get_or all which None)) label (half_small (get_or all which None)) is) [
      | inl first ↦ inl (record { used = used; half = first })
      | inr second ↦ inr (record { used = used; half = second })
    ]

pub turn_used : (out : List Bool) (all : List (Option Found)) (turn : ℕ) (which label : ℕ) → InTurn out all turn which label → in_use out which label
turn_used out all turn which label it = it.used

pub turn_writes : (out : List Bool) (all : List (Option Found)) (turn : ℕ) (starts : List (List ℕ)) (old new : Disks) (u : Uberblock) → old.starts ≡ starts
    → MakesOn (InUse out) (IsSlotWrite old.starts u (InTurn out all turn)) old new → MakesOn (InUse out) (IsSlotWrite starts u (in_use out)) old new
turn_writes out all turn starts old new u same makes =
    more_picked (InUse out) (InUse out) starts u (InTurn out all turn) (in_use out) old new (λ which it. it) (turn_used out all turn)
    (same_starts (InUse out) starts old.starts u (InTurn out all turn) old new same makes)

pub also : (last u : Uberblock) (begun : List Uberblock) (v : Uberblock) → Contains (last ∷ begun) v → Contains (last ∷ u ∷ begun) v
also last u begun v it =
    elim (first_or_later last v begun it) [
      | inl is ↦ let P : Uberblock → Type 0 = λ w. Contains (last ∷ u ∷ begun) w in subst P is (first_in last (u ∷ begun))
      | inr later ↦ later_in last v (u ∷ begun) (later_in u v begun later)
    ]

-- what an open may come to stays so as more is begun
pub also_reached : (p : Possible) (u v : Uberblock) → IsInReach p v → IsInReach (also_begun u p) v
also_reached p u v (inl among) = inl (also p.last u p.begun v among)
also_reached p u v (inr earlier) = inr earlier

-- one disk, once one half is written: it leads where it led, or to the uberblock
half_leads : (size : ℕ) (held held' : ℕ → Option ℕ) (last u : Uberblock) (half : ℕ) (Good Good' : Uberblock → Type 0) → half < 2 → Fits u → RanksUpTo last u
    → ((v : Uberblock) → Good v → Good' v) → Good' u
    → ((label slot : ℕ) → IsSlot label slot → ¬ (InHalf half label × (slot ≡ slot_number u.group)) → (i : ℕ) → i < 1024 → held' (slot_at size label slot + i) ≡ held (slot_at size label slot + i))
    → ((label : ℕ) → label < 4 → InHalf half label → (i : ℕ) → i < length (spelled u) → held' (slot_at size label (slot_number u.group) + i) ≡ slice_get (spelled u) i)
    → LeadsOn size held last Good → LeadsOn size held' last Good'
half_leads size held held' last u half Good Good' small fits above goods good others done leads =
    record {
      only = λ label slot is v shows.
          let elsewhere : ¬ (InHalf half label × (slot ≡ slot_number u.group)) → IsAllowed held' (slot_at size label slot) slot last Good' = λ away.
          let same = others label slot is away in
          let before : Shows held (slot_at size label slot) slot v = shows_same held' held (slot_at size label slot) slot v (λ i inside. sym (same i inside)) shows in
          kept_allowed held held' (slot_at size label slot) slot last Good Good' goods same (leads.only label slot is v before) in
          elim (in_half_or_not half label) [
            | inl in_half ↦ elim (same_or_not slot (slot_number u.group)) [
              | inl here ↦
                  let P : ℕ → Type 0 = λ n. IsAllowed held' (slot_at size label n) n last Good' in
                  subst P (sym here) (record {
                    u = u;
                    shows = record { fits = fits; number = refl; bytes = λ i inside. done label is.is_label in_half i inside };
                    rank = inr good;
                  })
              | inr away ↦ elsewhere (λ both. away both.1)
            ]
            | inr away ↦ elsewhere (λ both. away both.0)
          ];
      top = record {
        label = half;
        slot = slot_number u.group;
        u = u;
        is_slot = record { is_label = omega arith; in_ring = slot_number_small u };
        shows = record { fits = fits; number = refl; bytes = λ i inside. done half (omega arith) (inl refl) i inside };
        rank = above;
      };
    }

-- ---- between the halves

pub record BetweenHalves (trees : Trees) (out : List Bool) (old mid : Disks) (p : Possible) (u : Uberblock) (all : List (Option Found)) : Type 0 where
  pub makes : Makes (IsSlotWrite old.starts u (InTurn out all 0)) old mid
  pub stand : SlotsStand (content mid) old.starts u (InTurn out all 0) (length old.starts)
  pub settled : AreSettled out mid.calls
  pub leads : Leads trees out mid.starts (content mid) (also_begun u p)
  pub tree : TreeStands trees out (content mid) u.root

pub between_halves : (trees : Trees) (out : List Bool) (old mid : Disks) (p : Possible) (u : Uberblock) (all : List (Option Found)) → AreThere out old.starts → HaveLabels old.starts → Fits u
    → MayClaim trees out old p u all → Makes (IsSlotWrite old.starts u (InTurn out all 0)) old mid → SlotsStand (content mid) old.starts u (InTurn out all 0) (length old.starts) → AreSettled out mid.calls
    → BetweenHalves trees out old mid p u all
between_halves trees out old mid p u all there room fits may makes stand settled =
    let P : List (List ℕ) → Type 0 = λ starts. Leads trees out starts (content mid) (also_begun u p) in
    let made = used_makes out (IsSlotWrite old.starts u (InTurn out all 0)) old mid makes in
    let tree : TreeStands trees out (content mid) u.root = tree_kept trees out old mid u u (InTurn out all 0) fits may.off_labels made may.tree in
    record {
      makes = makes;
      stand = stand;
      settled = settled;
      leads = subst P (sym makes.starts) (λ which used.
          half_leads (length (bytes_of old.starts which)) (content old which) (content mid which) p.last u ((first_half_of (get_or all which None) + 0) % 2)
          (IsPossible trees out (content old) p) (IsPossible trees out (content mid) (also_begun u p)) (omega arith) fits may.above
          (λ v possible. (also_reached p u v possible.0, tree_kept trees out old mid u v (InTurn out all 0) fits may.off_labels made possible.1))
          (inl (later_in p.last u (u ∷ p.begun) (first_in u p.begun)), tree)
          (λ label slot is away i inside. off_content (IsSlotWrite old.starts u (InTurn out all 0)) old mid which (slot_at (length (bytes_of old.starts which)) label slot + i) makes
          (off_slot_writes old.starts u (InTurn out all 0) which label slot fits (room which (there which used)) is
          (λ label' is' picked both. let R : ℕ → Type 0 = λ l. InTurn out all 0 which l in away ((subst R both.0 picked).half, sym both.1)) i inside))
          (λ label is in_half i inside. stand which label (there which used) is (record { used = used; half = in_half }) i inside)
          (may.leads which used));
      tree = tree;
    }

-- ---- the first half, at each moment

pub first_always : (trees : Trees) (out : List Bool) (old new : Disks) (p : Possible) (u : Uberblock) (all : List (Option Found)) → AreThere out old.starts → HaveLabels old.starts → Fits u
    → MayClaim trees out old p u all → Makes (IsSlotWrite old.starts u (InTurn out all 0)) old new → LeadAlways trees out old new (also_begun u p)
first_always trees out old new p u all there room fits may makes =
    phase_leaves trees out old new (IsSlotWrite old.starts u (InTurn out all 0)) (also_begun u p) there may.settled
    (leads_more trees out old.starts (content old) p.last p.begun (u ∷ p.begun) p.before (also p.last u p.begun) may.leads)
    (slot_phase trees out old (also_begun u p) u (InTurn out all 0) there room fits may.off_labels (inl (later_in p.last u (u ∷ p.begun) (first_in u p.begun))) may.tree
    (λ which used. record {
      top = may.top which used;
      off = off_slot_writes old.starts u (InTurn out all 0) which (may.top which used).label (may.top which used).slot fits (room which (there which used)) (may.top which used).is_slot
          (λ label' is' picked both. let R : ℕ → Type 0 = λ l. InTurn out all 0 which l in may.spared which used (subst R both.0 picked));
    }))
    makes

-- ---- the second half

second_phase : (trees : Trees) (out : List Bool) (old mid : Disks) (p : Possible) (u : Uberblock) (all : List (Option Found)) → AreThere out old.starts → HaveLabels old.starts → Fits u
    → MayClaim trees out old p u all → BetweenHalves trees out old mid p u all → IsPhase trees out mid (IsSlotWrite mid.starts u (InTurn out all 1)) (also_begun u p)
second_phase trees out old mid p u all there room fits may between =
    let starts = between.makes.starts in
    let T : List (List ℕ) → Type 0 = AreThere out in
    let R : List (List ℕ) → Type 0 = HaveLabels in
    let O : List (List ℕ) → Type 0 = AreOffLabels trees out in
    let S : List (List ℕ) → Type 0 = λ s. SlotsStand (content mid) s u (InTurn out all 0) (length s) in
    let there' : AreThere out mid.starts = subst T (sym starts) there in
    let room' : HaveLabels mid.starts = subst R (sym starts) room in
    let stand = subst S (sym starts) between.stand in
    slot_phase trees out mid (also_begun u p) u (InTurn out all 1) there' room' fits (subst O (sym starts) may.off_labels) (inl (later_in p.last u (u ∷ p.begun) (first_in u p.begun))) between.tree
    (λ which used.
    let half = (first_half_of (get_or all which None) + 0) % 2 in
    let small : half < 4 = omega arith in
    let mine : InTurn out all 0 which half = record { used = used; half = inl refl } in
    let is : IsSlot half (slot_number u.group) = record { is_label = small; in_ring = slot_number_small u } in
    record {
      top = record {
        label = half;
        slot = slot_number u.group;
        u = u;
        is_slot = is;
        shows = record { fits = fits; number = refl; bytes = λ i inside. stand which half (there' which used) small mine i inside };
        rank = may.above;
      };
      off = off_slot_writes mid.starts u (InTurn out all 1) which half (slot_number u.group) fits (room' which (there' which used)) is
          (λ label' is' picked both.
          let J : ℕ → Type 0 = λ l. InTurn out all 1 which l in
          turns_apart out all which half mine (subst J both.0 picked));
    })

pub second_always : (trees : Trees) (out : List Bool) (old mid new : Disks) (p : Possible) (u : Uberblock) (all : List (Option Found)) → AreThere out old.starts → HaveLabels old.starts → Fits u
    → MayClaim trees out old p u all → BetweenHalves trees out old mid p u all → Makes (IsSlotWrite mid.starts u (InTurn out all 1)) mid new → LeadAlways trees out old new (also_begun u p)
second_always trees out old mid new p u all there room fits may between makes =
    let T : List (List ℕ) → Type 0 = AreThere out in
    phases_leave trees out old mid new (also_begun u p) (sym between.makes.starts) makes.newer makes.calls
    (first_always trees out old mid p u all there room fits may between.makes)
    (phase_leaves trees out mid new (IsSlotWrite mid.starts u (InTurn out all 1)) (also_begun u p) (subst T (sym between.makes.starts) there) between.settled between.leads
    (second_phase trees out old mid p u all there room fits may between) makes)

-- the slots of both turns stand
both_turns : (out : List Bool) (old mid new : Disks) (u : Uberblock) (all : List (Option Found)) → HaveLabels old.starts → Fits u → mid.starts ≡ old.starts
    → SlotsStand (content mid) old.starts u (InTurn out all 0) (length old.starts) → Makes (IsSlotWrite mid.starts u (InTurn out all 1)) mid new
    → SlotsStand (content new) mid.starts u (InTurn out all 1) (length mid.starts) → SlotsStand (content new) old.starts u (in_use out) (length old.starts)
both_turns out old mid new u all room fits starts first_stands makes stand which label below is used =
    let S : List (List ℕ) → Type 0 = λ s. SlotsStand (content new) s u (InTurn out all 1) (length s) in
    let M : List (List ℕ) → Type 0 = λ s. Makes (IsSlotWrite s u (InTurn out all 1)) mid new in
    elim (in_some_turn out all which label used is) [
      | inl first ↦ stays_through old.starts u (InTurn out all 1) mid new which label room fits below is (subst M starts makes)
          (λ second. turns_apart out all which label first second) (first_stands which label below is first)
      | inr second ↦ (subst S starts stand) which label below is second
    ]

pub all_slotted : (out : List Bool) (old mid new : Disks) (u : Uberblock) (all : List (Option Found)) → HaveLabels old.starts → Fits u → mid.starts ≡ old.starts
    → SlotsStand (content mid) old.starts u (InTurn out all 0) (length old.starts) → Makes (IsSlotWrite mid.starts u (InTurn out all 1)) mid new
    → SlotsStand (content new) mid.starts u (InTurn out all 1) (length mid.starts) → AreSlotted out new u
all_slotted out old mid new u all room fits starts first_stands makes stand =
    let P : List (List ℕ) → Type 0 = λ s. SlotsStand (content new) s u (in_use out) (length s) in
    subst P (sym (makes.starts ∙ starts)) (both_turns out old mid new u all room fits starts first_stands makes stand)

pub claim_done : (trees : Trees) (out : List Bool) (old mid new : Disks) (p : Possible) (u : Uberblock) (all : List (Option Found)) → AreThere out old.starts → HaveLabels old.starts → Fits u
    → MayClaim trees out old p u all → BetweenHalves trees out old mid p u all → Makes (IsSlotWrite mid.starts u (InTurn out all 1)) mid new
    → SlotsStand (content new) mid.starts u (InTurn out all 1) (length mid.starts) → AreSettled out new.calls → AreAt trees out new u []
claim_done trees out old mid new p u all there room fits may between makes stand settled =
    let starts = between.makes.starts in
    let M : List (List ℕ) → Type 0 = λ s. Makes (IsSlotWrite s u (InTurn out all 1)) mid new in
    let makes' : Makes (IsSlotWrite old.starts u (InTurn out all 1)) mid new = subst M starts makes in
    let may_all = IsSlotWrite old.starts u (in_use out) in
    let whole : Makes may_all old new = Makes-more may_all old mid new
    (Makes-wider (IsSlotWrite old.starts u (InTurn out all 0)) may_all old mid (slot_writes_more old.starts u (InTurn out all 0) (in_use out) (turn_used out all 0)) between.makes)
    (Makes-wider (IsSlotWrite old.starts u (InTurn out all 1)) may_all mid new (slot_writes_more old.starts u (InTurn out all 1) (in_use out) (turn_used out all 1)) makes') in
    let both = both_turns out old mid new u all room fits starts between.stand makes stand in
    let T : List (List ℕ) → Type 0 = AreThere out in
    record { there = subst T (sym (makes.starts ∙ starts)) there; fits = fits; settled = settled; leads = finished trees out old new u [] (λ w. ⊥) there room fits may.off_labels (used_makes out may_all old new whole) both may.below (λ w none. absurd none) may.tree }

-- and the disks lead where they led before too
pub second_leads : (trees : Trees) (out : List Bool) (old mid new : Disks) (p : Possible) (u : Uberblock) (all : List (Option Found)) → AreThere out old.starts → HaveLabels old.starts → Fits u
    → MayClaim trees out old p u all → BetweenHalves trees out old mid p u all → Makes (IsSlotWrite mid.starts u (InTurn out all 1)) mid new
    → SlotsStand (content new) mid.starts u (InTurn out all 1) (length mid.starts) → Leads trees out new.starts (content new) (also_begun u p)
second_leads trees out old mid new p u all there room fits may between makes stand =
    let starts = between.makes.starts in
    let T : List (List ℕ) → Type 0 = AreThere out in
    let R : List (List ℕ) → Type 0 = HaveLabels in
    let O : List (List ℕ) → Type 0 = AreOffLabels trees out in
    let there' : AreThere out mid.starts = subst T (sym starts) there in
    let room' : HaveLabels mid.starts = subst R (sym starts) room in
    let off' : AreOffLabels trees out mid.starts = subst O (sym starts) may.off_labels in
    let P : List (List ℕ) → Type 0 = λ s. Leads trees out s (content new) (also_begun u p) in
    let made = used_makes out (IsSlotWrite mid.starts u (InTurn out all 1)) mid new makes in
    let tree : TreeStands trees out (content new) u.root = tree_kept trees out mid new u u (InTurn out all 1) fits off' made between.tree in
    subst P (sym makes.starts) (λ which used.
    half_leads (length (bytes_of mid.starts which)) (content mid which) (content new which) p.last u ((first_half_of (get_or all which None) + 1) % 2)
    (IsPossible trees out (content mid) (also_begun u p)) (IsPossible trees out (content new) (also_begun u p)) (omega arith) fits may.above
    (λ v possible. (possible.0, tree_kept trees out mid new u v (InTurn out all 1) fits off' made possible.1))
    (inl (later_in p.last u (u ∷ p.begun) (first_in u p.begun)), tree)
    (λ label slot is away i inside. off_content (IsSlotWrite mid.starts u (InTurn out all 1)) mid new which (slot_at (length (bytes_of mid.starts which)) label slot + i) makes
    (off_slot_writes mid.starts u (InTurn out all 1) which label slot fits (room' which (there' which used)) is
    (λ label' is' picked both. let S : ℕ → Type 0 = λ l. InTurn out all 1 which l in away ((subst S both.0 picked).half, sym both.1)) i inside))
    (λ label is in_half i inside. stand which label (there' which used) is (record { used = used; half = in_half }) i inside)
    (between.leads which used))

-- ---- what was possible stays so

pub also_leads : (trees : Trees) (out : List Bool) (old new : Disks) (p : Possible) (u : Uberblock) → LeadAlways trees out old new p → LeadAlways trees out old new (also_begun u p)
also_leads trees out old new p u always =
    each_weaker (LeavesLeading trees out old.starts p) (LeavesLeading trees out old.starts (also_begun u p)) (length old.calls) new.calls
    (λ calls leads images left untorn. leads_more trees out images _ p.last p.begun (u ∷ p.begun) p.before (also p.last u p.begun) (leads images left untorn)) always
