-- What one disk leads to, in a phase and after it.
use Rattle.std.proofs.Common.{◌≡◌, ◌⊎◌, inl, inr, ◌<◌, ◌∙◌, ℕ, ◌+◌, List, length, get_or, slice_get, Option, Some, refl, sym, ap, subst, arith}
use Rattle.std.proofs.lemmas.Option.{slice_get-get_or}
use Rattle.uberblock_ring.specs.declared.uberblock.Uberblock.{Uberblock}
use Rattle.uberblock_ring.specs.Uberblock.{Fits}
use Rattle.uberblock_ring.specs.Slot.{slot_number}
use Rattle.model_disk.specs.Runs.{IsOff}
use Rattle.pool_slots.specs.Slots.{spelled, slot_at, IsSlot, Shows, IsOutOfReach}
use Rattle.pool_slots.specs.Possible.{IsAllowed, IsTopped, LeadsOn}
use Rattle.pool_slots.proofs.Places.{length-spelled, same_or_not}

-- a slot with the same bytes shows the same
pub shows_same : (held held' : ℕ → Option ℕ) (place slot : ℕ) (u : Uberblock) → ((i : ℕ) → i < 1024 → held' (place + i) ≡ held (place + i))
    → Shows held place slot u → Shows held' place slot u
shows_same held held' place slot u same shows =
    record {
      fits = shows.fits;
      number = shows.number;
      bytes = λ i below. same i (omega (arith, below, length-spelled u shows.fits)) ∙ shows.bytes i below;
    }

-- an uberblock that a phase may write to a slot
pub record IsWritten (slot : ℕ) (u : Uberblock) (IsGood : Uberblock → Type 0) : Type 0 where
  pub v : Uberblock
  pub fits : Fits v
  pub number : slot ≡ slot_number v.group
  pub same : spelled u ≡ spelled v
  pub good : IsGood v

-- the slot of the top is off all that the phase may write
pub record IsSafe (may : ℕ → List ℕ → Type 0) (size : ℕ) (held : ℕ → Option ℕ) (last : Uberblock) : Type 0 where
  pub top : IsTopped size held last
  pub off : (i : ℕ) → i < 1024 → IsOff may (slot_at size top.label top.slot + i)

-- a slot shows what it had, or what was written there
pub one_slot : (held imaged : ℕ → Option ℕ) (writes : List ℕ → Type 0) (place slot : ℕ) (last : Uberblock) (Good Good' : Uberblock → Type 0)
    → ((u : Uberblock) → Good u → Good' u)
    → ((u : Uberblock) → Shows held place slot u → IsAllowed held place slot last Good)
    → ((u : Uberblock) → Fits u → writes (spelled u) → IsWritten slot u Good')
    → (u : Uberblock) → Shows imaged place slot u
    → ((i : ℕ) → i < length (spelled u) → held (place + i) ≡ slice_get (spelled u) i) ⊎ writes (spelled u)
    → IsAllowed imaged place slot last Good'
one_slot held imaged writes place slot last Good Good' goods only written u shows it =
    let len : length (spelled u) ≡ 1024 = length-spelled u shows.fits in
    elim it [
      | inl before ↦
          let old = only u (record { fits = shows.fits; number = shows.number; bytes = before }) in
          let len' : length (spelled old.u) ≡ 1024 = length-spelled old.u old.shows.fits in
          let rank : IsOutOfReach old.u last ⊎ Good' old.u = elim old.rank [ inl lower ↦ inl lower | inr good ↦ inr (goods old.u good) ] in
          record {
            u = old.u;
            shows = record {
              fits = old.shows.fits;
              number = old.shows.number;
              bytes = λ i below.
                  let below' : i < length (spelled u) = omega (arith, below, len, len') in
                  shows.bytes i below' ∙ sym (before i below') ∙ old.shows.bytes i below;
            };
            rank = rank;
          }
      | inr wrote ↦
          let new = written u shows.fits wrote in
          record {
            u = new.v;
            shows = record {
              fits = new.fits;
              number = new.number;
              bytes = λ i below.
                  let below' : i < length (spelled u) = omega (arith, below, ap length new.same) in
                  shows.bytes i below' ∙ ap (λ them. slice_get them i) new.same;
            };
            rank = inr new.good;
          }
    ]

-- a top whose bytes are left is left
pub top_is_left : (held imaged : ℕ → Option ℕ) (size : ℕ) (last : Uberblock) → (top : IsTopped size held last)
    → ((i value : ℕ) → i < 1024 → held (slot_at size top.label top.slot + i) ≡ Some value → imaged (slot_at size top.label top.slot + i) ≡ Some value)
    → IsTopped size imaged last
top_is_left held imaged size last top left =
    record {
      label = top.label;
      slot = top.slot;
      u = top.u;
      is_slot = top.is_slot;
      shows = record {
        fits = top.shows.fits;
        number = top.shows.number;
        bytes = λ i below.
            let is : slice_get (spelled top.u) i ≡ Some (get_or (spelled top.u) i 0) = slice_get-get_or (spelled top.u) i 0 below in
            left i (get_or (spelled top.u) i 0) (omega (arith, below, length-spelled top.u top.shows.fits)) (top.shows.bytes i below ∙ is) ∙ sym is;
      };
      rank = top.rank;
    }

pub kept_allowed : (held held' : ℕ → Option ℕ) (place slot : ℕ) (last : Uberblock) (Good Good' : Uberblock → Type 0) → ((u : Uberblock) → Good u → Good' u)
    → ((i : ℕ) → i < 1024 → held' (place + i) ≡ held (place + i)) → IsAllowed held place slot last Good → IsAllowed held' place slot last Good'
kept_allowed held held' place slot last Good Good' goods same it =
    record { u = it.u; shows = shows_same held held' place slot it.u same it.shows; rank = elim it.rank [ inl lower ↦ inl lower | inr good ↦ inr (goods it.u good) ] }

-- a disk whose slots are as they were leads where it led
pub leads_kept_on : (size : ℕ) (held held' : ℕ → Option ℕ) (last : Uberblock) (Good Good' : Uberblock → Type 0) → ((u : Uberblock) → Good u → Good' u)
    → ((label slot : ℕ) → IsSlot label slot → (i : ℕ) → i < 1024 → held' (slot_at size label slot + i) ≡ held (slot_at size label slot + i))
    → LeadsOn size held last Good → LeadsOn size held' last Good'
leads_kept_on size held held' last Good Good' goods same leads =
    record {
      only = λ label slot is u shows.
          let before : Shows held (slot_at size label slot) slot u = shows_same held' held (slot_at size label slot) slot u (λ i inside. sym (same label slot is i inside)) shows in
          kept_allowed held held' (slot_at size label slot) slot last Good Good' goods (same label slot is) (leads.only label slot is u before);
      top = record {
        label = leads.top.label;
        slot = leads.top.slot;
        u = leads.top.u;
        is_slot = leads.top.is_slot;
        shows = shows_same held held' (slot_at size leads.top.label leads.top.slot) leads.top.slot leads.top.u (same leads.top.label leads.top.slot leads.top.is_slot) leads.top.shows;
        rank = leads.top.rank;
      };
    }

-- each reading of a slot is out of this one's reach, or has this
abbrev pub AreAllowed : ℕ → (ℕ → Option ℕ) → Uberblock → (Uberblock → Type 0) → Type 0
AreAllowed size held v Good =
    (label slot : ℕ) → IsSlot label slot → (u : Uberblock) → Shows held (slot_at size label slot) slot u → IsAllowed held (slot_at size label slot) slot v Good

-- Where all slots showed what is out of its reach or good, and now those of its number show the uberblock and the others are as they were,
-- the disk leads to it.
pub leads_finished : (size : ℕ) (held held' : ℕ → Option ℕ) (v : Uberblock) (Old Good : Uberblock → Type 0) → Fits v → Good v → ((w : Uberblock) → Old w → Good w)
    → AreAllowed size held v Old
    → ((label slot : ℕ) → IsSlot label slot → ¬ (slot ≡ slot_number v.group) → (i : ℕ) → i < 1024 → held' (slot_at size label slot + i) ≡ held (slot_at size label slot + i))
    → ((label : ℕ) → label < 4 → (i : ℕ) → i < length (spelled v) → held' (slot_at size label (slot_number v.group) + i) ≡ slice_get (spelled v) i)
    → slot_number v.group < 128
    → LeadsOn size held' v Good
leads_finished size held held' v Old Good fits good goods below others done small =
    record {
      only = λ label slot is u shows.
          elim (same_or_not slot (slot_number v.group)) [
            | inl here ↦
                let P : ℕ → Type 0 = λ n. IsAllowed held' (slot_at size label n) n v Good in
                subst P (sym here) (record {
                  u = v;
                  shows = record { fits = fits; number = refl; bytes = λ i inside. done label is.is_label i inside };
                  rank = inr good;
                })
            | inr elsewhere ↦
                let same = others label slot is elsewhere in
                let before : Shows held (slot_at size label slot) slot u = shows_same held' held (slot_at size label slot) slot u (λ i inside. sym (same i inside)) shows in
                kept_allowed held held' (slot_at size label slot) slot v Old Good goods same (below label slot is u before)
          ];
      top = record {
        label = 0;
        slot = slot_number v.group;
        u = v;
        is_slot = record { is_label = omega arith; in_ring = small };
        shows = record { fits = fits; number = refl; bytes = λ i inside. done 0 (omega arith) i inside };
        rank = inr (refl, omega arith);
      };
    }
