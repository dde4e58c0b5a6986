-- The next uberblock, seen from the last one.
use Rattle.std.proofs.Common.{◌≡◌, ◌⊎◌, inl, inr, ◌∙◌, ℕ, suc, ◌+◌, ◌%◌, Bool, List, [], ◌∷◌, Option, Contains, sym, ap, subst, arith}
use Rattle.std.proofs.lemmas.Bool.{cases_lt}
use Rattle.uberblock_ring.specs.declared.uberblock.Uberblock.{Uberblock}
use Rattle.uberblock_ring.specs.Ranking.{RanksUpTo}
use Rattle.uberblock_ring.specs.Slot.{slot_number}
use Rattle.pool_slots.specs.Slots.{slot_at, IsOutOfReach, IsSlot, Shows}
use Rattle.pool_slots.specs.Possible.{IsBefore, IsInReach, LeadsOn, Trees, IsPossible}
use Rattle.pool_slots.specs.Commits.{only_last}
use Rattle.pool_slots.proofs.Among.{first_in, later_in, only_one_in}
use Rattle.pool_slots.proofs.OneDisk.{AreAllowed}
use Rattle.pool_slots.proofs.Same.{SameRank}
use Rattle.pool_slots.proofs.SlotPhases.{same_shown}

pub lower_top : (last u v : Uberblock) → RanksUpTo last u → SameRank u v → IsOutOfReach v last → ⊥
lower_top last u v (inl a) same (inl b) = omega (arith, same.claim)
lower_top last u v (inl a) same (inr b) = omega (arith, same.claim, b.0)
lower_top last u v (inr a) same (inl b) = omega (arith, same.claim, a.0)
lower_top last u v (inr a) same (inr b) = omega (arith, same.group, a.1, b.1)

pub earlier_top : (last u v : Uberblock) (before : List Uberblock) → RanksUpTo last u → SameRank u v → IsBefore last before v → ⊥
earlier_top last u v before (inl a) same it = omega (arith, same.claim, a, it.claim)
earlier_top last u v before (inr a) same it = omega (arith, same.group, a.1, it.lower)

next_slot : (group : ℕ) → (suc group % 128 ≡ group % 128) → ⊥
next_slot group same = omega arith

-- the top of a disk that leads to the last uberblock alone has another slot than the next one
pub top_elsewhere : (size : ℕ) (held : ℕ → Option ℕ) (last u : Uberblock) (before : List Uberblock) (Good : Uberblock → Type 0) → ((v : Uberblock) → Good v → IsInReach (only_last last before) v)
    → u.group ≡ suc last.group → (leads : LeadsOn size held last Good) → ¬ (slot_number u.group ≡ leads.top.slot)
top_elsewhere size held last u before Good only group leads here =
    let top = leads.top in
    let it = leads.only top.label top.slot top.is_slot top.u top.shows in
    let same = same_shown held (slot_at size top.label top.slot) top.slot top.u it.u top.shows it.shows in
    elim it.rank [
      | inl lower ↦ lower_top last top.u it.u top.rank same lower
      | inr good ↦ elim (only it.u good) [
        | inl among ↦
            let is : slot_number last.group ≡ top.slot = ap (λ (v : Uberblock). slot_number v.group) (only_one_in last it.u among) ∙ sym it.shows.number in
            next_slot last.group (sym (ap slot_number group) ∙ here ∙ sym is)
        | inr earlier ↦ earlier_top last top.u it.u before top.rank same earlier
      ]
    ]

-- a disk that leads to the last uberblock alone doesn't show the next one
pub next_unseen : (size : ℕ) (held : ℕ → Option ℕ) (last u : Uberblock) (before : List Uberblock) (Good : Uberblock → Type 0) (label slot : ℕ)
    → ((v : Uberblock) → Good v → IsInReach (only_last last before) v) → u.claim ≡ last.claim → u.group ≡ suc last.group → IsSlot label slot → LeadsOn size held last Good
    → ¬ Shows held (slot_at size label slot) slot u
next_unseen size held last u before Good label slot only claim group is leads shows =
    let it = leads.only label slot is u shows in
    let same = same_shown held (slot_at size label slot) slot u it.u shows it.shows in
    elim it.rank [
      | inl (inl lower) ↦ omega (arith, lower, same.claim, claim)
      | inl (inr lower) ↦ omega (arith, lower.1, same.group, group)
      | inr good ↦ elim (only it.u good) [
        | inl among ↦ omega (arith, same.group, group, ap (λ (v : Uberblock). v.group) (only_one_in last it.u among))
        | inr earlier ↦ omega (arith, same.group, group, earlier.lower)
      ]
    ]

-- it shows the last one, which is good
pub last_is_good : (size : ℕ) (held : ℕ → Option ℕ) (last : Uberblock) (before : List Uberblock) (Good : Uberblock → Type 0) → ((v : Uberblock) → Good v → IsInReach (only_last last before) v)
    → LeadsOn size held last Good → Good last
last_is_good size held last before Good only leads =
    let top = leads.top in
    let it = leads.only top.label top.slot top.is_slot top.u top.shows in
    let same = same_shown held (slot_at size top.label top.slot) top.slot top.u it.u top.shows it.shows in
    elim it.rank [
      | inl lower ↦ absurd (lower_top last top.u it.u top.rank same lower)
      | inr good ↦ elim (only it.u good) [
        | inl among ↦ subst Good (sym (only_one_in last it.u among)) good
        | inr earlier ↦ absurd (earlier_top last top.u it.u before top.rank same earlier)
      ]
    ]

-- what was possible, seen from the next uberblock: out of its reach, or before it
seen_from_next : (last u v : Uberblock) (before : List Uberblock) → u.claim ≡ last.claim → u.group ≡ suc last.group → IsInReach (only_last last before) v
    → IsOutOfReach v u ⊎ IsInReach (only_last u (last ∷ before)) v
seen_from_next last u v before claim group (inl among) =
    let P : Uberblock → Type 0 = λ w. IsBefore u (last ∷ before) w in
    let it : IsBefore u (last ∷ before) last = record { among = first_in last before; claim = sym claim; lower = omega (arith, group); near = omega (arith, group) } in
    inr (inr (subst P (only_one_in last v among) it))
seen_from_next last u v before claim group (inr earlier) =
    elim (cases_lt (v.group + 2) u.group) [
      | inl far ↦ inl (inr (omega (arith, earlier.claim, claim), far))
      | inr near ↦ inr (inr (record {
        among = later_in last v before earlier.among;
        claim = omega (arith, earlier.claim, claim);
        lower = omega (arith, earlier.lower, group);
        near = omega (arith, near);
      }))
    ]

-- what shows before the slots are written, seen from the next uberblock
pub next_allowed : (trees : Trees) (out : List Bool) (held : ℕ → ℕ → Option ℕ) (size which : ℕ) (last u : Uberblock) (before : List Uberblock) → u.claim ≡ last.claim → u.group ≡ suc last.group
    → LeadsOn size (held which) last (IsPossible trees out held (only_last last before)) → AreAllowed size (held which) u (IsPossible trees out held (only_last u (last ∷ before)))
next_allowed trees out held size which last u before claim group leads label slot is w shows =
    let it = leads.only label slot is w shows in
    let rank : IsOutOfReach it.u u ⊎ IsPossible trees out held (only_last u (last ∷ before)) it.u = elim it.rank [
      | inl lower ↦ inl (elim lower [ inl a ↦ inl (omega (arith, a, claim)) | inr b ↦ inr (omega (arith, b.0, claim), omega (arith, b.1, group)) ])
      | inr good ↦ elim (seen_from_next last u it.u before claim group good.0) [ inl far ↦ inl far | inr reached ↦ inr (reached, good.1) ]
    ] in
    record { u = it.u; shows = it.shows; rank = rank }

pub more_begun : (last u v : Uberblock) → Contains (last ∷ []) v → Contains (last ∷ u ∷ []) v
more_begun last u v it =
    let P : Uberblock → Type 0 = λ w. Contains (last ∷ u ∷ []) w in
    subst P (only_one_in last v it) (first_in last (u ∷ []))
