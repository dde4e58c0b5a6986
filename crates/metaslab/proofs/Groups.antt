-- The metaslabs of a vdev as their calls leave them.
use Rattle.std.proofs.Common.{ℕ, ◌≡◌, inl, inr, ◌+◌, ◌<◌, ◌≤◌, Bool, true, false, Option, Some, None, Result, Ok, Err, List, length, get_or, refl, sym, ap, subst, ◌∙◌, arith}
use Rattle.std.specs.Prelude.{slice_set, map, IsSomeAnd, IfOk, ◌↔◌}
use Rattle.std.specs.Bool.{OnTrue}
use Rattle.std.specs.List.{slice_get}
use Rattle.std.proofs.lemmas.Bool.{cases_lt}
use Rattle.std.proofs.lemmas.List.{length-map}
use Rattle.std.proofs.lemmas.Option.{slice_get_read, get_or_from_slice_get}
use Rattle.space_map.specs.declared.entry.Run.{Run}
use Rattle.metaslab.specs.Space.{Space}
use Rattle.metaslab.specs.State.{State, Free, InUse}
use Rattle.metaslab.specs.Calls.{IsRunOf, Changes, HasFreeRun, SettlesUnder}
use Rattle.metaslab.specs.Spaces.{GroupSpaces, HasFreeRunIn, IsFreeIn, IsInUseIn, ChangesIn, AreSettled, AreSettledInPart}
use Rattle.metaslab.specs.declared.planned.PlannedMetaslab.{PlannedMetaslab}
use Rattle.metaslab.proofs.Elements.{same_some, map_set, map_stays, map_found, found_in_map, maps_agree, HasBecome, all_done, set_found, length_set}

-- ---- one metaslab changes

pub changes_in : (metaslabs : List PlannedMetaslab) (i : ℕ) (x y : PlannedMetaslab) (run : Run) (from to : State) → slice_get metaslabs i ≡ Some x
    → IsRunOf x.planned run from → Changes x.planned y.planned run to
    → ChangesIn (map (λ m. m.planned) metaslabs) (map (λ m. m.planned) (slice_set metaslabs i y)) i run from to
changes_in metaslabs i x y run from to found was changes = record {
  space = x.planned;
  later = y.planned;
  found = map_found (λ m. m.planned) metaslabs i x found;
  was = was;
  changes = changes;
  rest = map_set (λ m. m.planned) metaslabs i y;
}

pub in_use_now : (metaslabs : List PlannedMetaslab) (i : ℕ) (x y : PlannedMetaslab) (run : Run) (from : State) → slice_get metaslabs i ≡ Some x
    → IsRunOf x.planned run from → Changes x.planned y.planned run InUse → IsInUseIn (map (λ m. m.planned) (slice_set metaslabs i y)) i run
in_use_now metaslabs i x y run from found was changes =
    let is : IsRunOf y.planned run InUse = record {
      within = subst (λ n. run.start + run.len ≤ n) (sym changes.sectors) was.within;
      each = λ s named. changes.states s ∙ rw named refl;
    } in
    rw (map_found (λ m. m.planned) (slice_set metaslabs i y) i y (set_found metaslabs i x y found)) is

-- whether a run of one metaslab is free
is_free_in : (f : PlannedMetaslab → Space) (metaslabs : List PlannedMetaslab) (i : ℕ) (x : PlannedMetaslab) (run : Run) → slice_get metaslabs i ≡ Some x
    → IsRunOf (f x) run Free → IsFreeIn (map f metaslabs) i run
is_free_in f metaslabs i x run found is = rw (map_found f metaslabs i x found) is

of_free_in : (f : PlannedMetaslab → Space) (metaslabs : List PlannedMetaslab) (i : ℕ) (x : PlannedMetaslab) (run : Run) → slice_get metaslabs i ≡ Some x
    → IsFreeIn (map f metaslabs) i run → IsRunOf (f x) run Free
of_free_in f metaslabs i x run found is = rw (map_found f metaslabs i x found) at is

-- a run of it is free in both spaces, or not
pub free_in : {E : Type 0} (metaslabs : List PlannedMetaslab) (i : ℕ) (x : PlannedMetaslab) (run : Run) (result : Result Bool E) → slice_get metaslabs i ≡ Some x
    → IfOk result (λ is_free. (is_free ≡ true) ↔ (IsRunOf x.kept run Free × IsRunOf x.planned run Free))
    → IfOk result (λ is_free. (is_free ≡ true) ↔ (IsFreeIn (map (λ m. m.kept) metaslabs) i run × IsFreeIn (map (λ m. m.planned) metaslabs) i run))
free_in metaslabs i x run (Ok is_free) found both = (
  λ yes. let free = both.0 yes in (is_free_in (λ m. m.kept) metaslabs i x run found free.0, is_free_in (λ m. m.planned) metaslabs i x run found free.1),
  λ free. both.1 (of_free_in (λ m. m.kept) metaslabs i x run found free.0, of_free_in (λ m. m.planned) metaslabs i x run found free.1),
)
free_in metaslabs i x run (Err e) found both = tt

-- and where it was, one of the spaces changes
pub took_in : {E : Type 0} (f : PlannedMetaslab → Space) (metaslabs : List PlannedMetaslab) (i : ℕ) (x y : PlannedMetaslab) (run : Run) (result : Result Bool E)
    → slice_get metaslabs i ≡ Some x
    → IfOk result (λ is_free. (is_free ≡ true) ↔ (IsRunOf x.kept run Free × IsRunOf x.planned run Free))
    → ((IsRunOf x.kept run Free × IsRunOf x.planned run Free) → IsRunOf (f x) run Free)
    → IfOk result (λ is_free. OnTrue is_free (Changes (f x) (f y) run InUse))
    → IfOk result (λ is_free. OnTrue is_free (ChangesIn (map f metaslabs) (map f (slice_set metaslabs i y)) i run Free InUse))
took_in f metaslabs i x y run (Ok true) found both one changes = record {
  space = f x;
  later = f y;
  found = map_found f metaslabs i x found;
  was = one (both.0 refl);
  changes = changes;
  rest = map_set f metaslabs i y;
}
took_in f metaslabs i x y run (Ok false) found both one changes = tt
took_in f metaslabs i x y run (Err e) found both one changes = tt

abbrev pub group_of : List PlannedMetaslab → List ℕ → GroupSpaces
group_of metaslabs pins = record { kept = map (λ m. m.kept) metaslabs; planned = map (λ m. m.planned) metaslabs; pins = pins }

pub rest_stays : (metaslabs : List PlannedMetaslab) (pins : List ℕ) (i : ℕ) (x y : PlannedMetaslab) → slice_get metaslabs i ≡ Some x → y.kept ≡ x.kept
    → group_of (slice_set metaslabs i y) pins ≡ record (group_of metaslabs pins) { planned = map (λ m. m.planned) (slice_set metaslabs i y) }
rest_stays metaslabs pins i x y found same =
    ap (λ (spaces : List Space). record { kept = spaces; planned = map (λ m. m.planned) (slice_set metaslabs i y); pins = pins }) (map_stays (λ m. m.kept) metaslabs i x y found same)

pub no_room : (metaslabs : List PlannedMetaslab) (i : ℕ) (x : PlannedMetaslab) (sectors : ℕ) → slice_get metaslabs i ≡ Some x → ¬ HasFreeRun x.planned sectors
    → ¬ HasFreeRunIn (map (λ m. m.planned) metaslabs) i sectors
no_room metaslabs i x sectors found none has = none (rw (map_found (λ m. m.planned) metaslabs i x found) at has)

some_and : {X : Type 0} (o : Option X) (P : X → Type 0) → IsSomeAnd o P → (x : X) × (o ≡ Some x) × P x
some_and None P h = elim h [ ]
some_and (Some x) P h = (x, refl, h)

-- the metaslab of a number that the callers know
pub at_number : (metaslabs : List PlannedMetaslab) (pins : List ℕ) (group : GroupSpaces) (i : ℕ) (x : PlannedMetaslab) → group_of metaslabs pins ≡ group
    → i < length group.planned → x ≡ get_or metaslabs i x → slice_get metaslabs i ≡ Some x
at_number metaslabs pins group i x is below found =
    let within : i < length metaslabs = subst (λ n. i < n) (ap (λ (g : GroupSpaces). length g.planned) (sym is) ∙ length-map metaslabs (λ m. m.planned)) below in
    slice_get_read metaslabs (length metaslabs) i x refl within found

-- and one of which a run is known
pub at_run : (metaslabs : List PlannedMetaslab) (pins : List ℕ) (group : GroupSpaces) (i : ℕ) (x : PlannedMetaslab) (run : Run) → group_of metaslabs pins ≡ group
    → IsInUseIn group.planned i run → x ≡ get_or metaslabs i x → (slice_get metaslabs i ≡ Some x) × IsRunOf x.planned run InUse
at_run metaslabs pins group i x run is known found =
    let (space, at, run_of) = some_and (slice_get group.planned i) (λ space. IsRunOf space run InUse) known in
    let (y, at', is_space) = found_in_map (λ m. m.planned) metaslabs i space (ap (λ (g : GroupSpaces). slice_get g.planned i) is ∙ at) in
    let same : y ≡ x = sym (found ∙ get_or_from_slice_get metaslabs i y x at') in
    (at' ∙ ap Some same, subst (λ z. IsRunOf z run InUse) (sym is_space ∙ ap (λ (z : PlannedMetaslab). z.planned) same) run_of)

-- ---- each metaslab changes

abbrev pub IsKept : PlannedMetaslab → PlannedMetaslab → Type 0
IsKept old new = (new.kept ≡ old.planned) × (new.planned ≡ old.planned)

abbrev pub IsDropped : PlannedMetaslab → PlannedMetaslab → Type 0
IsDropped old new = (new.kept ≡ old.kept) × (new.planned ≡ old.kept)

abbrev pub IsSettled : List ℕ → ℕ → PlannedMetaslab → PlannedMetaslab → Type 0
IsSettled under group old new = SettlesUnder under old.kept new.kept group

pub all_kept : (old new : List PlannedMetaslab) (pins : List ℕ) (n : ℕ) → length new ≤ n → HasBecome IsKept old new n
    → group_of new pins ≡ record (group_of old pins) { kept = map (λ m. m.planned) old }
all_kept old new pins n enough each =
    let few : length old ≤ n = let count = each.count in omega (arith, enough, count) in
    let done = all_done IsKept old new n few each in
    let kept = maps_agree (λ m. m.planned) (λ m. m.kept) old new each.count (λ m x y was is. (done m x y was is).0) in
    let planned = maps_agree (λ m. m.planned) (λ m. m.planned) old new each.count (λ m x y was is. (done m x y was is).1) in
    ap (λ (spaces : List Space). record { kept = spaces; planned = map (λ m. m.planned) new; pins = pins }) kept
    ∙ ap (λ (spaces : List Space). record { kept = map (λ m. m.planned) old; planned = spaces; pins = pins }) planned

pub all_dropped : (old new : List PlannedMetaslab) (pins : List ℕ) (n : ℕ) → length new ≤ n → HasBecome IsDropped old new n
    → group_of new pins ≡ record (group_of old pins) { planned = map (λ m. m.kept) old }
all_dropped old new pins n enough each =
    let few : length old ≤ n = let count = each.count in omega (arith, enough, count) in
    let done = all_done IsDropped old new n few each in
    let kept = maps_agree (λ m. m.kept) (λ m. m.kept) old new each.count (λ m x y was is. (done m x y was is).0) in
    let planned = maps_agree (λ m. m.kept) (λ m. m.planned) old new each.count (λ m x y was is. (done m x y was is).1) in
    ap (λ (spaces : List Space). record { kept = spaces; planned = map (λ m. m.planned) new; pins = pins }) kept
    ∙ ap (λ (spaces : List Space). record { kept = map (λ m. m.kept) old; planned = spaces; pins = pins }) planned

pub none_planned : (metaslabs : List PlannedMetaslab) (i : ℕ) (y : PlannedMetaslab) → map (λ m. m.planned) metaslabs ≡ map (λ m. m.kept) metaslabs → y.planned ≡ y.kept
    → map (λ m. m.planned) (slice_set metaslabs i y) ≡ map (λ m. m.kept) (slice_set metaslabs i y)
none_planned metaslabs i y before same =
    map_set (λ m. m.planned) metaslabs i y
    ∙ ap (λ (spaces : List Space). slice_set spaces i y.planned) before
    ∙ ap (λ (space : Space). slice_set (map (λ m. m.kept) metaslabs) i space) same
    ∙ sym (map_set (λ m. m.kept) metaslabs i y)

count_of : (old new : List PlannedMetaslab) → length new ≡ length old → length (map (λ m. m.kept) new) ≡ length (map (λ m. m.kept) old)
count_of old new count = length-map new (λ m. m.kept) ∙ count ∙ sym (length-map old (λ m. m.kept))

pub all_settled : (under : List ℕ) (group : ℕ) (old new : List PlannedMetaslab) (n : ℕ) → length new ≤ n → HasBecome (IsSettled under group) old new n
    → AreSettled under group (map (λ m. m.kept) old) (map (λ m. m.kept) new)
all_settled under group old new n enough each =
    let few : length old ≤ n = let count = each.count in omega (arith, enough, count) in
    record {
      count = count_of old new each.count;
      each = λ m space later found found'.
          let (x, was, is_space) = found_in_map (λ m. m.kept) old m space found in
          let (y, is, is_later) = found_in_map (λ m. m.kept) new m later found' in
          subst (λ z. SettlesUnder under z later group) is_space (subst (λ z. SettlesUnder under x.kept z group) is_later (all_done (IsSettled under group) old new n few each m x y was is));
    }

-- what was settled in some metaslabs before one that could not be
pub settled_in_part : (under : List ℕ) (group : ℕ) (old new : List PlannedMetaslab) (i : ℕ) (x y : PlannedMetaslab) → HasBecome (IsSettled under group) old new i
    → slice_get new i ≡ Some x → y.kept ≡ x.kept → AreSettledInPart under group (map (λ m. m.kept) old) (map (λ m. m.kept) (slice_set new i y))
settled_in_part under group old new i x y each found same =
    record {
      count = count_of old (slice_set new i y) (length_set new i y ∙ each.count);
      each = λ m space later found_old found_new.
          let (a, was, is_space) = found_in_map (λ m. m.kept) old m space found_old in
          let kept = map_stays (λ m. m.kept) new i x y found same in
          let (b, is, is_later) = found_in_map (λ m. m.kept) new m later (ap (λ (spaces : List Space). slice_get spaces m) (sym kept) ∙ found_new) in
          elim (cases_lt m i) [
            | inl below ↦ inr (subst (λ z. SettlesUnder under z later group) is_space (subst (λ z. SettlesUnder under a.kept z group) is_later (each.done m a b below was is)))
            | inr above ↦
                let alike : b ≡ a = same_some b a (sym is ∙ each.rest m above ∙ was) in
                inl (sym is_later ∙ ap (λ (z : PlannedMetaslab). z.kept) alike ∙ is_space)
          ];
    }
