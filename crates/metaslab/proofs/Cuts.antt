-- The set by size where a run is allocated or freed.
use Rattle.std.proofs.Common.{ℕ, zero, suc, ◌≡◌, ◌≢◌, ◌⊎◌, inl, inr, ◌+◌, ◌-◌, ◌<◌, ◌≤◌, Bool, true, Some, None, Option, List, get_or, ◌^◌, refl, sym, ap, subst, ◌∙◌, arith}
use Rattle.std.specs.Prelude.{IfSome, IfNone, IsSomeAnd, is_some, ◌↔◌}
use Rattle.std.specs.BTreeSet.{BTreeSet}
use Rattle.std.proofs.lemmas.Bool.{cases_lt, cases_eq}
use Rattle.space_map.specs.declared.entry.Run.{Run}
use Rattle.space_map.specs.declared.entry.Kind.TheVariants.{Allocated, Freed}
use Rattle.space_map.specs.FreeRuns.{FreeRuns, AreFree, entry_of, CanEnter, IsEntered, HasRoom}
use Rattle.space_map.specs.Sectors.{names, contains, AreBetween}
use Rattle.space_map.proofs.RunLemmas.{named, is_named, is_before, is_past, none_past}
use Rattle.metaslab.specs.Fits.{HasRun, HasGainedPart, HasLostPart, AreSizesOf, IsStepOf, IsWhole, IsRaised, raised}
use Rattle.metaslab.proofs.Wholes.{IsCut, left_part, right_part, others_stay, parts_or_others, one_end, whole_at_index, has_index}

record IsGained (start end : ℕ) (old new : BTreeSet (ℕ × ℕ)) : Type 0 where
  has : (k : ℕ) → 0 < k → start + k ≡ end → HasRun new start k
  stay : (q k : ℕ) → HasRun old q k → HasRun new q k
  only : (q k : ℕ) → HasRun new q k → HasRun old q k ⊎ ((q ≡ start) × (0 < k) × (start + k ≡ end))

record IsLost (start end : ℕ) (old new : BTreeSet (ℕ × ℕ)) : Type 0 where
  stay : (q k : ℕ) → HasRun old q k → (q ≢ start) ⊎ (start + k ≢ end) → HasRun new q k
  only : (q k : ℕ) → HasRun new q k → HasRun old q k × (0 < k → (q ≢ start) ⊎ (start + k ≢ end))

length_of : (start end : ℕ) → start < end → (len : ℕ) × (0 < len) × (start + len ≡ end)
length_of start end below = (end - start, omega arith, omega arith)

is_gained : (start end : ℕ) (old new : BTreeSet (ℕ × ℕ)) → HasGainedPart start end old new → IsGained start end old new
is_gained start end old new part =
    elim (cases_lt start end) [
      | inl below ↦
          let (len, some, is) = length_of start end below in
          let gained = part.some len some is in record {
            has = λ k more ends. subst (λ (n : ℕ). HasRun new start n) (let same : len ≡ k = omega arith in same) gained.gained;
            stay = gained.stay;
            only = λ q k has. elim (gained.only q k has) [ inl had ↦ inl had | inr (here, long) ↦ inr (here, omega arith, omega arith) ];
          }
      | inr empty ↦
          let same = part.none empty in record {
            has = λ k more ends. absurd (omega arith);
            stay = λ q k had. subst (λ (s : BTreeSet (ℕ × ℕ)). HasRun s q k) (sym same) had;
            only = λ q k has. inl (subst (λ (s : BTreeSet (ℕ × ℕ)). HasRun s q k) same has);
          }
    ]

is_lost : (start end : ℕ) (old new : BTreeSet (ℕ × ℕ)) → HasLostPart start end old new → IsLost start end old new
is_lost start end old new part =
    elim (cases_lt start end) [
      | inl below ↦
          let (len, some, is) = length_of start end below in
          let lost = part.some len some is in record {
            stay = λ q k had differ. lost.stay q k had (elim differ [ inl there ↦ inl there | inr short ↦ inr (λ same. short (ap (λ (n : ℕ). start + n) same ∙ is)) ]);
            only = λ q k has. let was = lost.only q k has in (was.0, λ more. elim was.1 [ inl there ↦ inl there | inr short ↦ inr (λ ends. short (omega arith)) ]);
          }
      | inr empty ↦
          let same = part.none empty in record {
            stay = λ q k had differ. subst (λ (s : BTreeSet (ℕ × ℕ)). HasRun s q k) (sym same) had;
            only = λ q k has. (subst (λ (s : BTreeSet (ℕ × ℕ)). HasRun s q k) same has, λ more. inr (λ ends. omega arith));
          }
    ]

-- two runs as long as they can be that start together are as long
as_long : (set : ℕ → Bool) (p l k : ℕ) → IsWhole set p l → IsWhole set p k → k ≡ l
as_long set p l k one other =
    let some = one.some in
    let more = other.some in
    let low = one_end set p l p k p one other (omega arith) (omega arith) (omega arith) (omega arith) in
    let high = one_end set p k p l p other one (omega arith) (omega arith) (omega arith) (omega arith) in
    omega arith

cut_sizes : (big small : ℕ → Bool) (p l a m : ℕ) (s0 s1 s2 s3 : BTreeSet (ℕ × ℕ)) → IsCut big small p l a m → AreSizesOf big s0
    → HasLostPart p (p + l) s0 s1 → HasGainedPart p a s1 s2 → HasGainedPart (a + m) (p + l) s2 s3 → AreSizesOf small s3
cut_sizes big small p l a m s0 s1 s2 s3 cut sizes lost left right =
    let out = is_lost p (p + l) s0 s1 lost in
    let first = is_gained p a s1 s2 left in
    let second = is_gained (a + m) (p + l) s2 s3 right in
    let long = cut.whole.some in record {
      each = λ q k has. elim (second.only q k has) [
        | inr (here, some, ends) ↦ subst (λ (n : ℕ). IsWhole small n k) (sym here) (right_part big small p l a m cut (omega arith) k ends)
        | inl had ↦ elim (first.only q k had) [
          | inr (here, some, ends) ↦ subst (λ (n : ℕ). IsWhole small n k) (sym here) (left_part big small p l a m cut (omega arith) k ends)
          | inl before ↦
              let was = out.only q k before in
              let whole = sizes.each q k was.0 in
              others_stay big small p l a m q k cut whole (λ same.
              let is : k ≡ l = as_long big p l k cut.whole (subst (λ (n : ℕ). IsWhole big n k) same whole) in
              elim (was.1 whole.some) [ inl there ↦ there same | inr short ↦ short (ap (λ (n : ℕ). p + n) is) ])
        ]
      ];
      all = λ q k whole. elim (parts_or_others big small p l a m q k cut whole) [
        | inl (was, differ) ↦ second.stay q k (first.stay q k (out.stay q k (sizes.all q k was) (inl differ)))
        | inr part ↦ elim part [
          | inl (here, ends) ↦ second.stay q k (subst (λ (n : ℕ). HasRun s2 n k) (sym here) (first.has k whole.some ends))
          | inr (here, ends) ↦ subst (λ (n : ℕ). HasRun s3 n k) (sym here) (second.has k whole.some ends)
        ]
      ];
    }

not_behind : (big small : ℕ → Bool) (p l a m k : ℕ) → IsCut big small p l a m → IsWhole big (a + m) k → ⊥
not_behind big small p l a zero k cut whole = let some = cut.some in omega arith
not_behind big small p l a (suc m) k cut whole =
    let low = cut.low in
    let high = cut.high in
    let out = whole.before (a + m) (omega arith) in
    let is_in = cut.whole.each (a + m) (omega arith) (omega arith) in
    absurd cc

give_sizes : (big small : ℕ → Bool) (p l a m : ℕ) (s0 s1 s2 s3 : BTreeSet (ℕ × ℕ)) → IsCut big small p l a m → AreSizesOf small s0
    → HasLostPart p a s0 s1 → HasLostPart (a + m) (p + l) s1 s2 → HasGainedPart p (p + l) s2 s3 → AreSizesOf big s3
give_sizes big small p l a m s0 s1 s2 s3 cut sizes left right gained =
    let first = is_lost p a s0 s1 left in
    let second = is_lost (a + m) (p + l) s1 s2 right in
    let join = is_gained p (p + l) s2 s3 gained in
    let long = cut.whole.some in record {
      each = λ q k has. elim (join.only q k has) [
        | inr (here, some, ends) ↦ let same : k ≡ l = omega arith in subst (λ (n : ℕ). IsWhole big n k) (sym here) (subst (λ (n : ℕ). IsWhole big p n) (sym same) cut.whole)
        | inl had ↦
            let was = second.only q k had in
            let before = first.only q k was.0 in
            let whole = sizes.each q k before.0 in
            elim (parts_or_others big small p l a m q k cut whole) [
              | inl (is, differ) ↦ is
              | inr part ↦ elim part [
                | inl (here, ends) ↦ elim (before.1 whole.some) [ inl there ↦ absurd (there here) | inr short ↦ absurd (short ends) ]
                | inr (here, ends) ↦ elim (was.1 whole.some) [ inl there ↦ absurd (there here) | inr short ↦ absurd (short ends) ]
              ]
            ]
      ];
      all = λ q k whole. elim (cases_eq q p) [
        | inl here ↦
            let same : k ≡ l = as_long big p l k cut.whole (subst (λ (n : ℕ). IsWhole big n k) here whole) in
            subst (λ (n : ℕ). HasRun s3 n k) (sym here) (join.has k whole.some (ap (λ (n : ℕ). p + n) same))
        | inr differ ↦
            let had = sizes.all q k (others_stay big small p l a m q k cut whole differ) in
            join.stay q k (second.stay q k (first.stay q k had (inl differ)) (inl (λ here. not_behind big small p l a m k cut (subst (λ (n : ℕ). IsWhole big n k) here whole))))
      ];
    }

-- ---- the set by size may be missing

then_sizes : (o n : Option (BTreeSet (ℕ × ℕ))) (before after : BTreeSet (ℕ × ℕ) → Type 0) (step : BTreeSet (ℕ × ℕ) → BTreeSet (ℕ × ℕ) → Type 0)
    → IfSome o before → IsStepOf step o n → ((x y : BTreeSet (ℕ × ℕ)) → before x → step x y → after y) → IfSome n after
then_sizes o None before after step had went on = tt
then_sizes None (Some y) before after step had went on = absurd went
then_sizes (Some x) (Some y) before after step had went on = on x y had went

pub cut_sorted : (big small : ℕ → Bool) (p l a m : ℕ) (o0 o1 o2 o3 : Option (BTreeSet (ℕ × ℕ))) → IsCut big small p l a m → IfSome o0 (AreSizesOf big)
    → IsStepOf (HasLostPart p (p + l)) o0 o1 → IsStepOf (HasGainedPart p a) o1 o2 → IsStepOf (HasGainedPart (a + m) (p + l)) o2 o3 → IfSome o3 (AreSizesOf small)
cut_sorted big small p l a m o0 o1 o2 o3 cut sizes lost left right =
    let one = then_sizes o0 o1 (AreSizesOf big) (λ y. (x : BTreeSet (ℕ × ℕ)) × AreSizesOf big x × HasLostPart p (p + l) x y) (HasLostPart p (p + l)) sizes lost (λ x y is went. (x, is, went)) in
    let two = then_sizes o1 o2 (λ y. (x : BTreeSet (ℕ × ℕ)) × AreSizesOf big x × HasLostPart p (p + l) x y)
    (λ z. (x : BTreeSet (ℕ × ℕ)) × (y : BTreeSet (ℕ × ℕ)) × AreSizesOf big x × HasLostPart p (p + l) x y × HasGainedPart p a y z) (HasGainedPart p a) one left (λ y z had went. (had.0, y, had.1, had.2, went)) in
    then_sizes o2 o3 (λ z. (x : BTreeSet (ℕ × ℕ)) × (y : BTreeSet (ℕ × ℕ)) × AreSizesOf big x × HasLostPart p (p + l) x y × HasGainedPart p a y z) (AreSizesOf small) (HasGainedPart (a + m) (p + l)) two right
    (λ z w had went. cut_sizes big small p l a m had.0 had.1 z w cut had.2 had.3 had.4 went)

pub give_sorted : (big small : ℕ → Bool) (p l a m : ℕ) (o0 o1 o2 o3 : Option (BTreeSet (ℕ × ℕ))) → IsCut big small p l a m → IfSome o0 (AreSizesOf small)
    → IsStepOf (HasLostPart p a) o0 o1 → IsStepOf (HasLostPart (a + m) (p + l)) o1 o2 → IsStepOf (HasGainedPart p (p + l)) o2 o3 → IfSome o3 (AreSizesOf big)
give_sorted big small p l a m o0 o1 o2 o3 cut sizes left right gained =
    let one = then_sizes o0 o1 (AreSizesOf small) (λ y. (x : BTreeSet (ℕ × ℕ)) × AreSizesOf small x × HasLostPart p a x y) (HasLostPart p a) sizes left (λ x y is went. (x, is, went)) in
    let two = then_sizes o1 o2 (λ y. (x : BTreeSet (ℕ × ℕ)) × AreSizesOf small x × HasLostPart p a x y)
    (λ z. (x : BTreeSet (ℕ × ℕ)) × (y : BTreeSet (ℕ × ℕ)) × AreSizesOf small x × HasLostPart p a x y × HasLostPart (a + m) (p + l) y z) (HasLostPart (a + m) (p + l)) one right (λ y z had went. (had.0, y, had.1, had.2, went)) in
    then_sizes o2 o3 (λ z. (x : BTreeSet (ℕ × ℕ)) × (y : BTreeSet (ℕ × ℕ)) × AreSizesOf small x × HasLostPart p a x y × HasLostPart (a + m) (p + l) y z) (AreSizesOf big) (HasGainedPart p (p + l)) two gained
    (λ z w had went. give_sizes big small p l a m had.0 had.1 z w cut had.2 had.3 had.4 went)

-- ---- what a free set says of its changes

pub cut_of_taking : (old new : FreeRuns) (whole run : Run) → IsWhole (contains old.runs) whole.start whole.len → whole.start ≤ run.start → run.start + run.len ≤ whole.start + whole.len → 0 < run.len
    → IsEntered old new (entry_of Allocated run) → IsCut (contains old.runs) (contains new.runs) whole.start whole.len run.start run.len
cut_of_taking old new whole run is low high some entered = record {
  whole = is;
  low = low;
  high = high;
  some = some;
  inside = λ s from to. entered.1 s ∙ rw (is_named run s from to) refl;
  before = λ s early. entered.1 s ∙ rw (is_before run s early) refl;
  behind = λ s late. entered.1 s ∙ rw (is_past run s late) refl;
}

given_end : (old new : FreeRuns) (whole run : Run) → IsWhole (contains new.runs) whole.start whole.len → names whole run.start ≡ true → IsEntered old new (entry_of Freed run)
    → run.start + run.len ≤ whole.start + whole.len
given_end old new whole run is at entered =
    let has = named whole run.start at in
    elim (cases_lt (whole.start + whole.len) (run.start + run.len)) [
      | inl short ↦
          let out = is.behind in
          let is_in : contains new.runs (whole.start + whole.len) ≡ true = entered.1 (whole.start + whole.len) ∙ rw (is_named run (whole.start + whole.len) (omega (arith, has.1)) short) refl in
          absurd cc
      | inr enough ↦ enough
    ]

pub cut_of_giving : (old new : FreeRuns) (whole run : Run) → IsWhole (contains new.runs) whole.start whole.len → names whole run.start ≡ true → 0 < run.len
    → CanEnter old (entry_of Freed run) → IsEntered old new (entry_of Freed run) → IsCut (contains new.runs) (contains old.runs) whole.start whole.len run.start run.len
cut_of_giving old new whole run is at some can entered = record {
  whole = is;
  low = (named whole run.start at).0;
  high = given_end old new whole run is at entered;
  some = some;
  inside = λ s from to. can.each s (is_named run s from to);
  before = λ s early. sym (entered.1 s ∙ rw (is_before run s early) refl);
  behind = λ s late. sym (entered.1 s ∙ rw (is_past run s late) refl);
}

-- a run as long as it can be ends in the metaslab
pub ends_inside : (free : FreeRuns) (p l : ℕ) → AreFree free → IsWhole (contains free.runs) p l → p + l ≤ free.sectors
ends_inside free p zero are whole = let some = whole.some in absurd (omega arith)
ends_inside free p (suc l) are whole =
    elim (cases_lt (p + l) free.sectors) [
      | inl below ↦ omega arith
      | inr past ↦
          let out = none_past 0 (free.sectors + 1) (p + l) free.runs are.1 (omega arith) in
          let is_in = whole.each (p + l) (omega arith) (omega arith) in
          absurd cc
    ]

-- ---- the shortest that is found

pub found_ends : (sizes : Option (BTreeSet (ℕ × ℕ))) (free : FreeRuns) (result : Option Run) → AreFree free → IsSomeAnd sizes (AreSizesOf (contains free.runs))
    → IfSome result (λ run. IsSomeAnd sizes (λ s. HasRun s run.start run.len)) → IfSome result (λ run. run.start + run.len ≤ free.sectors)
found_ends sizes free None are sorted found = tt
found_ends None free (Some run) are sorted found = absurd sorted
found_ends (Some s) free (Some run) are sorted found = ends_inside free run.start run.len are (sorted.each run.start run.len found)

pub none_found : (sizes : Option (BTreeSet (ℕ × ℕ))) (free : FreeRuns) (n : ℕ) (result : Option Run) → AreFree free → 0 < n → IsSomeAnd sizes (AreSizesOf (contains free.runs))
    → IfNone result (IfSome sizes (λ s. (from long : ℕ) → HasRun s from long → long < n)) → IfNone result (¬ HasRoom free n)
none_found sizes free n (Some run) are some sorted none = tt
none_found None free n None are some sorted none = absurd sorted
none_found (Some s) free n None are some sorted none =
    λ (start, each).
    let at = has_index free.runs start (record { start = 0; len = 0 }) (each start (omega arith) (omega arith)) in
    let run = get_or free.runs at.0 (record { start = 0; len = 0 }) in
    let whole = whole_at_index 0 (free.sectors + 1) free.runs at.0 (record { start = 0; len = 0 }) are.1 at.1 in
    let has = named run start at.2 in
    let short = none run.start run.len (sorted.all run.start run.len whole) in
    let out = whole.behind in
    let is_in = each (run.start + run.len) (omega (arith, has.1)) (omega (arith, has.0, has.1, short)) in
    absurd cc

-- ---- counts

pub raised_more : (m n a b c : ℕ) → IsRaised m a b → IsRaised n b c → IsRaised (m + n) a c
raised_more m n a b c one more =
    let few = one.few in
    let further = more.few in
    let full = one.full in
    let at_most = more.full in record {
      some = elim more.some [
        | inr top ↦ inr top
        | inl above ↦ elim one.some [ inl rose ↦ inl (omega arith) | inr top ↦ absurd (omega arith) ]
      ];
      few = omega arith;
      full = at_most;
    }

pub raised_once : (a b : ℕ) → b ≡ raised a → IsRaised 1 a b
raised_once a b is = record {
  some = elim (cases_lt a (2 ^ 62)) [ inl below ↦ inl (omega arith) | inr top ↦ inr (omega arith) ];
  few = omega arith;
  full = omega arith;
}

-- ---- the one at a sector

pub whole_ends : (free : FreeRuns) (runs : List Run) (result : Option Run) → runs ≡ free.runs → AreFree free
    → IfSome result (λ run. (to : ℕ) → AreBetween 0 to runs → IsWhole (contains runs) run.start run.len) → IfSome result (λ run. run.start + run.len ≤ free.sectors)
whole_ends free runs None same are whole = tt
whole_ends free runs (Some run) same are whole =
    let between : AreBetween 0 (free.sectors + 1) runs = subst (λ (rs : List Run). AreBetween 0 (free.sectors + 1) rs) (sym same) are.1 in
    ends_inside free run.start run.len are (subst (λ (rs : List Run). IsWhole (contains rs) run.start run.len) same (whole (free.sectors + 1) between))

-- ---- whether there is room

pub room_by_size : (free : FreeRuns) (s : BTreeSet (ℕ × ℕ)) (n : ℕ) (result : Option Run) → AreFree free → 0 < n → AreSizesOf (contains free.runs) s
    → IfSome result (λ run. HasRun s run.start run.len) → IfSome result (λ run. n ≤ run.len) → IfNone result ((from long : ℕ) → HasRun s from long → long < n)
    → (is_some result ≡ true) ↔ HasRoom free n
room_by_size free s n (Some run) are some sizes found fits none = (λ is. (run.start, λ t low high. (sizes.each run.start run.len found).each t low (omega arith)), λ room. refl)
room_by_size free s n None are some sizes found fits none = (λ is. absurd cc, λ room. absurd (none_found (Some s) free n None are some sizes none room))

pub room_by_place : (free : FreeRuns) (n : ℕ) (result : Option Run) → IfSome result (λ run. run.len ≡ n) → IfSome result (λ run. CanEnter free (entry_of Allocated run)) → IfNone result (¬ HasRoom free n)
    → (is_some result ≡ true) ↔ HasRoom free n
room_by_place free n (Some run) long can none = (λ is. (run.start, λ t low high. can.each t (is_named run t low (omega arith))), λ room. refl)
room_by_place free n None long can none = (λ is. absurd cc, λ room. absurd (none room))
