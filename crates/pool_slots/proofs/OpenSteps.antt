-- From what was read to what may be claimed.
use Rattle.std.proofs.Common.{◌≡◌, ◌⊎◌, inl, inr, ◌<◌, ◌≤◌, ◌∙◌, ℕ, ◌+◌, ◌-◌, ◌%◌, Bool, List, length, get_or, Option, Some, None, Contains, refl, sym, subst, arith}
use Rattle.uberblock_ring.specs.declared.uberblock.Uberblock.{Uberblock}
use Rattle.uberblock_ring.specs.Ranking.{RanksUpTo, IsRewound}
use Rattle.uberblock_ring.proofs.Ranks.{ranks_through}
use Rattle.model_disk.specs.Joint.{Disks, bytes_of, content, AreHonestSince}
use Rattle.model_disk.specs.Runs.{Makes, no_write}
use Rattle.pool_slots.specs.OpenRefusals.{IsCause}
use Rattle.pool_slots.specs.Opens.{IsShown, IsShownOn, IsHighest, IsBare, IsBareOn, IsFoundOn, FoundAt, AreFound, AreOn, IsHighestOf, IsRead, IsHighestShown, CanOpen, IsClaimOf, IsTakenFrom, also_begun, MayClaim}
use Rattle.pool_slots.specs.Commits.{AreOffLabels, LeadAlways}
use Rattle.pool_slots.specs.Possible.{Possible, IsBefore, all_of, Trees, TreeStands, IsPossible, Leads}
use Rattle.pool_slots.specs.Slots.{AreThere, InUse, AreSettled, IsOutOfReach, slot_at}
use Rattle.pool_slots.specs.Writes.{InHalf, first_half_of}
use Rattle.pool_slots.specs.Surveys.{Surveyed, IsSurveyOf, SurveyRefuses}
use Rattle.pool_slots.specs.declared.found.Found.{Found}
use Rattle.pool_slots.specs.declared.refusal.Refusal.{Refusal}
use Rattle.pool_slots.specs.declared.refusal.Refusal.TheVariants.{NoMemory, DiskFault, NoUberblock, NoLabel, UsedUp}
use Rattle.pool_slots.proofs.ClaimPhases.{also_leads}
use Rattle.pool_slots.proofs.Finding.{known_later, highest_same}
use Rattle.pool_slots.proofs.BackReads.{read_later}
use Rattle.pool_slots.proofs.OneDisk.{leads_kept_on, shows_same}
use Rattle.pool_slots.proofs.Phases.{IsPhase, phase_leaves, phases_leave, none_same, settled_later}

-- ---- calls that write nothing

leads_later : (trees : Trees) (out : List Bool) (old new : Disks) (p : Possible) → Makes no_write old new → Leads trees out old.starts (content old) p → Leads trees out new.starts (content new) p
leads_later trees out old new p makes leads =
    let P : List (List ℕ) → Type 0 = λ starts. Leads trees out starts (content new) p in
    subst P (sym makes.starts) (λ which used.
    leads_kept_on (length (bytes_of old.starts which)) (content old which) (content new which) p.last (IsPossible trees out (content old) p) (IsPossible trees out (content new) p)
    (λ v possible. (possible.0, λ d i value there is. none_same old new d i makes ∙ possible.1 d i value there is))
    (λ label slot is i inside. none_same old new which _ makes) (leads which used))

pub can_open_later : (trees : Trees) (out : List Bool) (old new : Disks) (p : Possible) → Makes no_write old new → CanOpen trees out old p → CanOpen trees out new p
can_open_later trees out old new p makes can =
    let O : List (List ℕ) → Type 0 = AreOffLabels trees out in
    record {
      some = can.some;
      off_labels = subst O (sym makes.starts) can.off_labels;
      known = known_later out old new makes can.known;
      settled = λ which used. settled_later old new which makes (can.settled which used);
      leads = leads_later trees out old new p makes can.leads;
    }

bare_later : (old new : Disks) (which : ℕ) → Makes no_write old new → IsBareOn (length (bytes_of old.starts which)) (content old which) → IsBareOn (length (bytes_of new.starts which)) (content new which)
bare_later old new which makes bare =
    let P : List (List ℕ) → Type 0 = λ starts. IsBareOn (length (bytes_of starts which)) (content new which) in
    let size = length (bytes_of old.starts which) in
    let here : IsBareOn size (content new which) = λ label slot is u shows.
    bare label slot is u (shows_same (content new which) (content old which) (slot_at size label slot) slot u (λ i below. sym (none_same old new which (slot_at size label slot + i) makes)) shows) in
    subst P (sym makes.starts) here

found_case : (out : List Bool) (old new : Disks) (which : ℕ) (found : Option Found) → Makes no_write old new → IsFoundOn out old which found → IsFoundOn out new which found
found_case out old new which None makes it = λ used. bare_later old new which makes (it used)
found_case out old new which (Some found) makes it =
    let P : List (List ℕ) → Type 0 = λ starts. IsHighest (length (bytes_of starts which)) (content new which) found in
    (it.0, subst P (sym makes.starts) (highest_same (length (bytes_of old.starts which)) (content old which) (content new which) found (λ i. none_same old new which i makes) it.1))

found_later : (out : List Bool) (old new : Disks) (all : List (Option Found)) → Makes no_write old new → AreFound out old all → AreFound out new all
found_later out old new all makes are which = found_case out old new which (get_or all which None) makes (are which)

-- ---- before the claim

nothing_phase : (trees : Trees) (out : List Bool) (old : Disks) (p : Possible) → Leads trees out old.starts (content old) p → IsPhase trees out old no_write p
nothing_phase trees out old p leads =
    record {
      whole = λ which label slot used is to written none. absurd none;
      off = λ v possible which i value used is at bytes none. absurd none;
      written = λ which label slot u used is fits none. absurd none;
      safe = λ which used. record { top = (leads which used).top; off = λ i inside at bytes none. absurd none };
    }

pub nothing_leaves : (trees : Trees) (out : List Bool) (old new : Disks) (p : Possible) → AreThere out old.starts → AreSettled out old.calls → Leads trees out old.starts (content old) p
    → Makes no_write old new → LeadAlways trees out old new p
nothing_leaves trees out old new p there settled leads makes =
    phase_leaves trees out old new no_write p there settled leads (nothing_phase trees out old p leads) makes

pub leads_before : (trees : Trees) (out : List Bool) (old new : Disks) (p : Possible) → AreThere out old.starts → CanOpen trees out old p → Makes no_write old new → LeadAlways trees out old new p
leads_before trees out old new p there can makes = nothing_leaves trees out old new p there can.settled can.leads makes

-- ---- what may be claimed

higher_than_last : (last u v : Uberblock) → RanksUpTo last u → (v.claim ≡ u.claim) × (u.group ≤ v.group + 2) → IsOutOfReach v last → ⊥
higher_than_last last u v (inl a) near (inl b) = omega (arith, near.0)
higher_than_last last u v (inl a) near (inr b) = omega (arith, near.0, b.0)
higher_than_last last u v (inr a) near (inl b) = omega (arith, near.0, a.0)
higher_than_last last u v (inr a) near (inr b) = omega (arith, near.1, a.1, b.1)

not_before : (last u : Uberblock) (before : List Uberblock) → RanksUpTo last u → IsBefore last before u → ⊥
not_before last u before (inl a) it = omega (arith, a, it.claim)
not_before last u before (inr a) it = omega (arith, a.1, it.lower)

claim_up_to : (a b : Uberblock) → RanksUpTo a b → a.claim ≤ b.claim
claim_up_to a b (inl x) = omega arith
claim_up_to a b (inr x) = omega (arith, x.0)

-- on a disk in use that shows an uberblock something was found
pub found_where_shown : (out : List Bool) (disks : Disks) (which : ℕ) (o : Option Found) (v : Uberblock) → InUse out which → IsShownOn (length (bytes_of disks.starts which)) (content disks which) v
    → IsFoundOn out disks which o → (found : Found) × (o ≡ Some found) × IsHighest (length (bytes_of disks.starts which)) (content disks which) found
found_where_shown out disks which None v used shown bare = absurd (bare used shown.label shown.slot shown.is_slot v shown.shows)
found_where_shown out disks which (Some found) v used shown it = (found, refl, it.1)

-- the highest of one disk
record OnDisk (disks : Disks) (p : Possible) (all : List (Option Found)) (which : ℕ) : Type 0 where
  pub found : Found
  pub at : FoundAt all which found
  pub highest : IsHighest (length (bytes_of disks.starts which)) (content disks which) found
  pub rank : RanksUpTo p.last found.uberblock

on_disk : (trees : Trees) (out : List Bool) (disks : Disks) (p : Possible) (all : List (Option Found)) (which : ℕ) → CanOpen trees out disks p → AreFound out disks all → InUse out which
    → OnDisk disks p all which
on_disk trees out disks p all which can are used =
    let top = (can.leads which used).top in
    let shown : IsShownOn (length (bytes_of disks.starts which)) (content disks which) top.u = record { label = top.label; slot = top.slot; is_slot = top.is_slot; shows = top.shows } in
    let it = found_where_shown out disks which (get_or all which None) top.u used shown (are which) in
    record {
      found = it.0;
      at = it.1;
      highest = it.2;
      rank = ranks_through p.last top.u it.0.uberblock top.rank (it.2.greatest top.label top.slot top.is_slot top.u top.shows);
    }

-- what was found on one disk is of it
pub found_on : (out : List Bool) (disks : Disks) (all : List (Option Found)) (which : ℕ) (found : Found) → AreFound out disks all → FoundAt all which found → IsFoundOn out disks which (Some found)
found_on out disks all which found are at = let P : Option Found → Type 0 = IsFoundOn out disks which in subst P at (are which)

-- the highest of all is shown, and all that is shown ranks up to it
pub highest_shown : (out : List Bool) (disks : Disks) (all : List (Option Found)) (u : Uberblock) → AreFound out disks all → AreOn out all → IsHighestOf all u → IsHighestShown out disks u
highest_shown out disks all u are on one =
    let here = found_on out disks all one.which one.found are one.at in
    let it = here.1 in
    let P : Uberblock → Type 0 = IsRead out disks in
    record {
      shown = subst P (sym one.is) (record { which = one.which; used = here.0; on = record { on = record { label = it.label; slot = it.slot; is_slot = it.is_slot; shows = it.shows }; alone = it.alone } });
      greatest = λ v shown.
          let mine = found_where_shown out disks shown.which (get_or all shown.which None) v shown.used shown.on (are shown.which) in
          ranks_through v mine.0.uberblock u (mine.2.greatest shown.on.label shown.on.slot shown.on.is_slot v shown.on.shows) (one.greatest shown.which mine.0 mine.1);
    }

-- what is shown is out of reach, or possible
shown_allowed : (trees : Trees) (out : List Bool) (disks : Disks) (p : Possible) (v : Uberblock) → CanOpen trees out disks p → IsRead out disks v
    → IsOutOfReach v p.last ⊎ IsPossible trees out (content disks) p v
shown_allowed trees out disks p v can shown =
    let on = shown.on.on in
    let it = (can.leads shown.which shown.used).only on.label on.slot on.is_slot v on.shows in
    let P : Uberblock → Type 0 = λ w. IsOutOfReach w p.last ⊎ IsPossible trees out (content disks) p w in
    subst P (shown.on.alone it.u it.shows) it.rank

-- the highest that is shown is one of the possible ones, and no lower than the last one
pub record IsTop (out : List Bool) (disks : Disks) (p : Possible) (highest : Uberblock) : Type 0 where
  pub shown : IsHighestShown out disks highest
  pub among : Contains (all_of p) highest
  pub rank : RanksUpTo p.last highest

pub is_top : (trees : Trees) (out : List Bool) (disks : Disks) (p : Possible) (all : List (Option Found)) (highest : Uberblock) → CanOpen trees out disks p → AreFound out disks all → AreOn out all
    → IsHighestOf all highest → IsTop out disks p highest
is_top trees out disks p all highest can are on one =
    let mine = on_disk trees out disks p all one.which can are (found_on out disks all one.which one.found are one.at).0 in
    let rank : RanksUpTo p.last highest = ranks_through p.last mine.found.uberblock highest mine.rank (one.greatest one.which mine.found mine.at) in
    let shown = highest_shown out disks all highest are on one in
    record {
      shown = shown;
      among = elim (shown_allowed trees out disks p highest can shown.shown) [
        | inl far ↦ absurd (higher_than_last p.last highest highest rank (refl, omega arith) far)
        | inr possible ↦ elim possible.0 [ inl among ↦ among | inr earlier ↦ absurd (not_before p.last highest p.before rank earlier) ]
      ];
      rank = rank;
    }

-- what is taken is possible
is_taken : (trees : Trees) (out : List Bool) (disks : Disks) (p : Possible) (highest taken : Uberblock) (rewind : ℕ) → CanOpen trees out disks p → rewind < 3 → IsTop out disks p highest
    → IsRewound highest rewind taken → IsRead out disks taken → IsPossible trees out (content disks) p taken
is_taken trees out disks p highest taken rewind can few top rewound shown =
    elim (shown_allowed trees out disks p taken can shown) [
      | inl far ↦ absurd (higher_than_last p.last highest taken top.rank (rewound.0, omega (arith, few, rewound.1)) far)
      | inr possible ↦ possible
    ]

-- what is taken, under a claim above that of the highest
pub record IsClaimed (highest taken u : Uberblock) : Type 0 where
  pub is : u ≡ record taken { claim = u.claim }
  pub above : highest.claim < u.claim

other_label : (label first : ℕ) → first ≡ 1 - label % 2 → InHalf ((first % 2 + 0) % 2) label → ⊥
other_label label first is (inl a) = omega arith
other_label label first is (inr a) = omega arith

claim_is : (trees : Trees) (out : List Bool) (disks : Disks) (p : Possible) (highest taken u : Uberblock) (rewind : ℕ) → IsTop out disks p highest → IsRewound highest rewind taken
    → IsPossible trees out (content disks) p taken → IsClaimed highest taken u → IsClaimOf p rewind u
claim_is trees out disks p highest taken u rewind top rewound possible claimed =
    record {
      highest = highest;
      possible = top.among;
      rank = top.rank;
      taken = taken;
      rewound = rewound;
      reached = possible.0;
      is = claimed.is;
      above = omega (arith, claim_up_to p.last highest top.rank, claimed.above);
    }

may_claim : (trees : Trees) (out : List Bool) (disks : Disks) (p : Possible) (all : List (Option Found)) (highest taken u : Uberblock) → CanOpen trees out disks p → AreFound out disks all → AreOn out all
    → IsHighestOf all highest → IsTop out disks p highest → IsPossible trees out (content disks) p taken → IsClaimed highest taken u → MayClaim trees out disks p u all
may_claim trees out disks p all highest taken u can are on one top possible claimed =
    let here : (which : ℕ) → InUse out which → OnDisk disks p all which = λ which used. on_disk trees out disks p all which can are used in
    record {
      off_labels = can.off_labels;
      settled = can.settled;
      leads = can.leads;
      below = λ which used label slot is v shows.
          let mine = here which used in
          let rank : RanksUpTo v highest = ranks_through v mine.found.uberblock highest (mine.highest.greatest label slot is v shows) (one.greatest which mine.found mine.at) in
          record { u = v; shows = shows; rank = inl (inl (omega (arith, claim_up_to v highest rank, claimed.above))) };
      above = inl (omega (arith, claim_up_to p.last highest top.rank, claimed.above));
      tree = (let R : Uberblock → Type 0 = λ v. TreeStands trees out (content disks) v.root in
          subst R (sym claimed.is) possible.1);
      top = λ which used.
          let mine = here which used in
          record { label = mine.highest.label; slot = mine.highest.slot; u = mine.found.uberblock; is_slot = mine.highest.is_slot; shows = mine.highest.shows; rank = mine.rank };
      spared = λ which used turn.
          let mine = here which used in
          let P : Option Found → Type 0 = λ o. InHalf ((first_half_of o + 0) % 2) mine.highest.label in
          other_label mine.highest.label mine.found.other_half mine.highest.half (subst P mine.at turn.half);
    }

-- an uberblock that is shown, and below none that is, is a possible one
highest_among : (trees : Trees) (out : List Bool) (disks : Disks) (p : Possible) (u : Uberblock) → CanOpen trees out disks p → IsHighestShown out disks u → Contains (all_of p) u
highest_among trees out disks p u can top =
    let it = (can.leads can.some.0 can.some.1).top in
    let shown : IsShown out disks it.u = record { which = can.some.0; used = can.some.1; on = record { label = it.label; slot = it.slot; is_slot = it.is_slot; shows = it.shows } } in
    let rank : RanksUpTo p.last u = ranks_through p.last it.u u it.rank (top.greatest it.u shown) in
    elim (shown_allowed trees out disks p u can top.shown) [
      | inl far ↦ absurd (higher_than_last p.last u u rank (refl, omega arith) far)
      | inr possible ↦ elim possible.0 [ inl among ↦ among | inr earlier ↦ absurd (not_before p.last u p.before rank earlier) ]
    ]

-- ---- what a survey says

pub takes_of : (out : List Bool) (rewind : ℕ) (disks : Disks) (s : Surveyed) → AreOn out s.found → IsSurveyOf out rewind disks s → IsTakenFrom out disks rewind s.claimed
takes_of out rewind disks s on says =
    record {
      highest = s.highest;
      top = highest_shown out disks s.found s.highest says.found on says.highest;
      taken = s.taken;
      shown = says.taken;
      rewound = says.rewound;
      is = says.claimed;
      next = says.planned.next;
    }

-- what an open has chosen after its reads
pub record IsChosen (trees : Trees) (out : List Bool) (rewind : ℕ) (disks : Disks) (p : Possible) (u : Uberblock) (all : List (Option Found)) : Type 0 where
  pub claim : IsClaimOf p rewind u
  pub may : MayClaim trees out disks p u all

pub chosen : (trees : Trees) (out : List Bool) (rewind : ℕ) (first disks : Disks) (p : Possible) (s : Surveyed) → CanOpen trees out first p → rewind < 3 → Makes no_write first disks → AreOn out s.found
    → IsSurveyOf out rewind first s → IsChosen trees out rewind disks p s.claimed s.found
chosen trees out rewind first disks p s can few makes on says =
    let can' = can_open_later trees out first disks p makes can in
    let are = found_later out first disks s.found makes says.found in
    let top = is_top trees out disks p s.found s.highest can' are on says.highest in
    let possible = is_taken trees out disks p s.highest s.taken rewind can' few top says.rewound (read_later out first disks s.taken makes says.taken) in
    let claimed : IsClaimed s.highest s.taken s.claimed = record { is = says.claimed; above = says.planned.next.above_slots } in
    record {
      claim = claim_is trees out disks p s.highest s.taken s.claimed rewind top says.rewound possible claimed;
      may = may_claim trees out disks p s.found s.highest s.taken s.claimed can' are on says.highest top possible claimed;
    }

-- ---- refusals

-- disks that lead somewhere show an uberblock
not_bare : (trees : Trees) (out : List Bool) (disks : Disks) (p : Possible) → CanOpen trees out disks p → IsBare out disks → ⊥
not_bare trees out disks p can bare =
    let top = (can.leads can.some.0 can.some.1).top in
    bare top.u (record { which = can.some.0; used = can.some.1; on = record { label = top.label; slot = top.slot; is_slot = top.is_slot; shows = top.shows } })

-- why a survey refused, of disks that lead somewhere
pub cause_of : (trees : Trees) (out : List Bool) (rewind : ℕ) (old new : Disks) (p : Possible) (refusal : Refusal) → CanOpen trees out old p → AreHonestSince (length old.calls) new.starts new.calls
    → SurveyRefuses out rewind old new refusal → IsCause out rewind old new p refusal
cause_of trees out rewind old new p NoMemory can honest refuses = tt
cause_of trees out rewind old new p (DiskFault d) can honest refuses = refuses.1
cause_of trees out rewind old new p NoUberblock can honest refuses =
    elim (refuses can.known honest) [ inl bare ↦ absurd (not_bare trees out old p can bare) | inr it ↦ it ]
cause_of trees out rewind old new p NoLabel can honest refuses = let it = refuses can.known honest in (it.0, it.1.shown, it.2)
cause_of trees out rewind old new p UsedUp can honest refuses = let it = refuses can.known honest in (it.0, highest_among trees out old p it.0 can it.1, it.2)

-- ---- the whole open

pub claim_always : (trees : Trees) (out : List Bool) (old mid new : Disks) (p : Possible) (u : Uberblock) → AreThere out old.starts → CanOpen trees out old p → Makes no_write old mid
    → (may : ℕ → ℕ → List ℕ → Type 0) → Makes may mid new → LeadAlways trees out mid new (also_begun u p) → LeadAlways trees out old new (also_begun u p)
claim_always trees out old mid new p u there can scan may makes later =
    phases_leave trees out old mid new (also_begun u p) (sym scan.starts) makes.newer makes.calls
    (also_leads trees out old mid p u (leads_before trees out old mid p there can scan)) later
