-- One half of the labels of all disks.
use Rattle.std.proofs.Common.{◌≡◌, ◌⊎◌, inl, inr, ◌<◌, ◌≤◌, ◌∙◌, ℕ, ◌+◌, Bool, List, length, Option, Some, sym, ap, subst, arith}
use Rattle.std.proofs.lemmas.Bool.{cases_lt}
use Rattle.std.proofs.lemmas.Option.{slice_get_within}
use Rattle.model_disk.specs.Call.{Call}
use Rattle.model_disk.specs.Contents.{byte_at}
use Rattle.model_disk.specs.Joint.{Disks, bytes_of, calls_on, content}
use Rattle.model_disk.specs.Runs.{Makes, no_write}
use Rattle.model_disk.proofs.RunLemmas.{off_content}
use Rattle.pool_slots.specs.Labels.{area_place}
use Rattle.pool_slots.specs.Slots.{HaveLabels, InUse, MakesOn, StayOut}
use Rattle.pool_slots.specs.Writes.{InHalf}
use Rattle.pool_slots.proofs.Phases.{MakesOn-more, MakesOn-wider, none_same}
use Rattle.pool_export.specs.Writes.{AreWhole, Areas, AreasStandOn, IsUsedWrite, StandsOn, is_any, on_one}
use Rattle.pool_export.proofs.Copies.{off_area_writes}

-- ---- disk by disk

abbrev pub StandBelow : List Bool → (ℕ → ℕ → Option ℕ) → List (List ℕ) → Areas → (ℕ → Type 0) → ℕ → Type 0
StandBelow out held starts areas picks count = (which : ℕ) → InUse out which → which < count → StandsOn which held starts areas picks

less_or_same : (n k : ℕ) → n < k + 1 → (n < k) ⊎ (n ≡ k)
less_or_same n k below = elim (cases_lt n k) [ inl less ↦ inl less | inr more ↦ inr (omega (arith, below, more)) ]

content_alone : (old new : Disks) (which i : ℕ) → new.starts ≡ old.starts → calls_on which new.calls ≡ calls_on which old.calls → content new which i ≡ content old which i
content_alone old new which i starts calls =
    ap (λ (them : List (List ℕ)). byte_at (bytes_of them which) (calls_on which new.calls) i) starts ∙ ap (λ (made : List Call). byte_at (bytes_of old.starts which) made i) calls

-- with more that is picked, and more disks in use
picked_more : (out also : List Bool) (starts : List (List ℕ)) (areas : Areas) (picks more : ℕ → Type 0) → StayOut also out → ((number : ℕ) → number < 4 → picks number → more number)
    → (which at : ℕ) (bytes : List ℕ) → IsUsedWrite out starts areas picks which at bytes → IsUsedWrite also starts areas more which at bytes
picked_more out also starts areas picks more stay any which at bytes it =
    let copy = it.write.copy in
    record {
      used = stay which it.used;
      write = record {
        area = it.write.area;
        has = it.write.has;
        copy = record { number = copy.number; is_label = copy.is_label; picked = any copy.number copy.is_label copy.picked; place = copy.place; same = copy.same };
      };
    }

-- a later part of a run, with fewer disks in use
pub made_more : (out mid : List Bool) (old loop new : Disks) (areas : Areas) (first second picks : ℕ → Type 0) → StayOut out mid → ((number : ℕ) → number < 4 → first number → picks number)
    → ((number : ℕ) → number < 4 → second number → picks number) → MakesOn (InUse out) (IsUsedWrite out old.starts areas first) old loop
    → MakesOn (InUse mid) (IsUsedWrite mid loop.starts areas second) loop new → MakesOn (InUse out) (IsUsedWrite out old.starts areas picks) old new
made_more out mid old loop new areas first second picks stay any also before makes =
    let P : List (List ℕ) → Type 0 = λ starts. MakesOn (InUse mid) (IsUsedWrite mid starts areas second) loop new in
    MakesOn-more (InUse out) (IsUsedWrite out old.starts areas picks) old loop new
    (MakesOn-wider (InUse out) (InUse out) (IsUsedWrite out old.starts areas first) (IsUsedWrite out old.starts areas picks) old loop (λ w it. it) (picked_more out out old.starts areas first picks (λ w it. it) any) before)
    (MakesOn-wider (InUse mid) (InUse out) (IsUsedWrite mid old.starts areas second) (IsUsedWrite out old.starts areas picks) loop new stay (picked_more mid out old.starts areas second picks stay also)
    (subst P before.makes.starts makes))

-- the writes of one disk
pub on_used : (out : List Bool) (may : ℕ → ℕ → List ℕ → Type 0) (which : ℕ) (old new : Disks) → MakesOn (on_one which (InUse out)) may old new → MakesOn (InUse out) may old new
on_used out may which old new makes = MakesOn-wider (on_one which (InUse out)) (InUse out) may may old new (λ w it. it.1) (λ w at bytes it. it) makes

pub stand_next : (out later : List Bool) (old loop new : Disks) (areas : Areas) (picks : ℕ → Type 0) (which : ℕ) → loop.starts ≡ old.starts → StayOut out later
    → MakesOn (on_one which (InUse out)) (IsUsedWrite out loop.starts areas picks) loop new → StandBelow out (content loop) old.starts areas picks which
    → (InUse later which → StandsOn which (content new) loop.starts areas picks) → StandBelow later (content new) old.starts areas picks (which + 1)
stand_next out later old loop new areas picks which starts stay makes before here d used below =
    elim (less_or_same d which below) [
      | inl less ↦ λ area at number is picked i inside.
          content_alone loop new d (area_place (length (bytes_of old.starts d)) number + i) makes.makes.starts (makes.alone d (λ it. omega (arith, less, it.0)))
          ∙ before d (stay d used) less area at number is picked i inside
      | inr same ↦
          let P : List (List ℕ) → Type 0 = λ them. StandsOn which (content new) them areas picks in
          let Q : ℕ → Type 0 = λ w. StandsOn w (content new) old.starts areas picks in
          let U : ℕ → Type 0 = InUse later in
          subst Q (sym same) (subst P starts (here (subst U same used)))
    ]

pub stand_all : (out : List Bool) (held : ℕ → ℕ → Option ℕ) (starts : List (List ℕ)) (areas : Areas) (picks : ℕ → Type 0) (count : ℕ) → length areas ≤ count
    → StandBelow out held starts areas picks count → AreasStandOn out held starts areas picks
stand_all out held starts areas picks count all stand which used area at = stand which used (omega (arith, all, slice_get_within areas which (Some area) at)) area at

pub stand_flushed : (out later : List Bool) (wrote new : Disks) (starts : List (List ℕ)) (areas : Areas) (picks : ℕ → Type 0) → StayOut out later → Makes no_write wrote new
    → AreasStandOn out (content wrote) starts areas picks → AreasStandOn later (content new) starts areas picks
stand_flushed out later wrote new starts areas picks stay flush stand which used area at number is picked i below =
    none_same wrote new which _ flush ∙ stand which (stay which used) area at number is picked i below

-- ---- both halves

odd_or_even : (number : ℕ) → number < 4 → InHalf 1 number ⊎ InHalf 0 number
odd_or_even number is = grind arith

pub not_both : (n number : ℕ) → InHalf 0 n → InHalf 1 number → ¬ (n ≡ number)
not_both n number (inl a) (inl b) same = omega arith
not_both n number (inl a) (inr b) same = omega arith
not_both n number (inr a) (inl b) same = omega arith
not_both n number (inr a) (inr b) same = omega arith

pub both_stand : (out later : List Bool) (old mid new : Disks) (areas : Areas) → AreWhole areas → HaveLabels old.starts → length areas ≤ length old.starts → mid.starts ≡ old.starts → StayOut out later
    → AreasStandOn out (content mid) old.starts areas (InHalf 1) → Makes (IsUsedWrite out mid.starts areas (InHalf 0)) mid new → AreasStandOn later (content new) mid.starts areas (InHalf 0)
    → AreasStandOn later (content new) old.starts areas is_any
both_stand out later old mid new areas whole room count starts stay odd makes even which used area at number is picked i below =
    let size = length (bytes_of old.starts which) in
    let M : List (List ℕ) → Type 0 = λ them. Makes (IsUsedWrite out them areas (InHalf 0)) mid new in
    let E : List (List ℕ) → Type 0 = λ them. AreasStandOn later (content new) them areas (InHalf 0) in
    let inside : which < length old.starts = omega (arith, count, slice_get_within areas which (Some area) at) in
    elim (odd_or_even number is) [
      | inl in_odd ↦
          off_content (IsUsedWrite out old.starts areas (InHalf 0)) mid new which (area_place size number + i) (subst M starts makes)
          (λ to written write. off_area_writes old.starts areas (InHalf 0) which number whole (room which inside) is (λ n in_even. not_both n number in_even in_odd) i below to written write.write)
          ∙ odd which (stay which used) area at number is in_odd i below
      | inr in_even ↦ (subst E starts even) which used area at number is in_even i below
    ]
