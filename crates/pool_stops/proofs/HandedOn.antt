-- Disks that are handed on with no stop between.
use Rattle.std.proofs.Common.{ℕ, zero, suc, ◌≡◌, inl, ⊎_elim, ◌+◌, ◌<◌, ◌≤◌, List, [], ◌∷◌, ◌++◌, length, map, slice_get, Option, Some, None, Contains, refl, sym, ap, subst, ◌∙◌, arith}
use Rattle.std.specs.Prelude.{option_and_then, option_map, option_to_list, unwrap_or}
use Rattle.std.specs.List.{range_with_len}
use Rattle.std.proofs.lemmas.List.{length-map}
use Rattle.std.proofs.lemmas.List.FromFn.{get_or-range_with_len, length-range_with_len}
use Rattle.std.proofs.lemmas.Option.{get_or_from_slice_get, slice_get-get_or, slice_get-map, slice_get_past, slice_get_within}
use Rattle.model_disk.specs.Call.{Call}
use Rattle.model_disk.specs.Contents.{byte_at}
use Rattle.model_disk.specs.Joint.{Disks, bytes_of, calls_on, log_of}
use Rattle.model_disk.specs.Member.{calls_of, disk_of, start_of}
use Rattle.model_disk.specs.RunLaws.{IsHeld}
use Rattle.model_disk.specs.Runs.{HeldOn, IsSettled}
use Rattle.model_disk.specs.declared.disk.Disk as disk
use Rattle.model_disk.specs.declared.member.Member.{Member}
use Rattle.model_disk.specs.declared.member.Member.TheVariants.{Present, Absent}
use Rattle.pool_create.specs.OpenFinding.{AreBack, IsArrayOf}
use Rattle.pool_labels.proofs.Lists.{at_contains}
use Rattle.pool_members.specs.HandedIn.{AreHandedIn as ArePlaced, disk_back, disks_back, place_of_disk, places_of_disks}
use Rattle.pool_members.specs.declared.arranging.Child.{Child}
use Rattle.pool_members.specs.declared.handed_in.Place.{Place}
use Rattle.pool_members.specs.declared.handed_in.Place.TheVariants.{OfChild}
use Rattle.pool_stops.specs.Found.{AreChildren}
use Rattle.pool_stops.specs.Handed.{AllHold, AreHandedIn, AreShown, IsHolding}
use Rattle.pool_stops.specs.OwnReopening.{AreSafe, ArraysComeBack, ComeBack, ShownImagesAreLeft}
use Rattle.pool_stops.proofs.Arranging.{disk_at}
use Rattle.pool_stops.proofs.Lists.{below_or, same_some}

-- ---- lists

get_some : {X : Type 0} (xs : List X) (k : ℕ) → k < length xs → (x : X) × (slice_get xs k ≡ Some x)
get_some [] k below = absurd (omega (arith, below))
get_some (x ∷ xs) zero below = (x, refl)
get_some (x ∷ xs) (suc k) below = get_some xs k (omega (arith, below))

-- past the end of a list there is nothing
none_past : {X Y : Type 0} (f : X → List Y) (xs : List X) (which : ℕ) → length xs ≤ which → unwrap_or (slice_get (map f xs) which) [] ≡ []
none_past f xs which past = ap (λ o. unwrap_or o []) (slice_get_past (map f xs) which (omega (arith, past, length-map xs f)))

-- the first bytes of these, with 0 for one that isn't known
bytes_to : ℕ → (ℕ → Option ℕ) → List ℕ
bytes_to zero held = []
bytes_to (suc n) held = unwrap_or (held 0) 0 ∷ bytes_to n (λ i. held (suc i))

bytes_len : (n : ℕ) (held : ℕ → Option ℕ) → length (bytes_to n held) ≡ n
unfolding bytes_to
bytes_len zero held = refl
bytes_len (suc n) held = ap suc (bytes_len n (λ i. held (suc i)))

bytes_at : (n : ℕ) (held : ℕ → Option ℕ) (i : ℕ) → i < n → slice_get (bytes_to n held) i ≡ Some (unwrap_or (held i) 0)
unfolding bytes_to
bytes_at zero held i below = absurd (omega (arith, below))
bytes_at (suc n) held zero below = refl
bytes_at (suc n) held (suc i) below = bytes_at n (λ k. held (suc k)) i (omega (arith, below))

-- those that are known
bytes_known : (n : ℕ) (held : ℕ → Option ℕ) (i value : ℕ) → i < n → held i ≡ Some value → held i ≡ slice_get (bytes_to n held) i
bytes_known n held i value below is = is ∙ sym (bytes_at n held i below ∙ ap (λ (o : Option ℕ). Some (unwrap_or o 0)) is)

contains_some : {X : Type 0} (xs : List X) (k : ℕ) (x : X) → slice_get xs k ≡ Some x → Contains xs x
contains_some xs k x at = (k, slice_get_within xs k x at, get_or_from_slice_get xs k x x at)

-- ---- what is shown is left

pub shown_images_are_left : IsHeld → ShownImagesAreLeft
shown_images_are_left law out old new images grew shown =
    let same : (which i : ℕ) → byte_at (bytes_of old.starts which) (calls_on which new.calls) i ≡ slice_get (bytes_of images which) i =
    λ which i. (λ j. byte_at (bytes_of (sym grew.starts j) which) (calls_on which new.calls) i) ∙ shown.held which i in
    let size : (which : ℕ) → length (bytes_of images which) ≡ length (bytes_of old.starts which) =
    λ which. sym (shown.sizes which) ∙ ap (λ (starts : List (List ℕ)). length (bytes_of starts which)) grew.starts in
    let held : (which at : ℕ) (bytes : List ℕ) → ((i : ℕ) → i < length bytes → slice_get (bytes_of images which) (at + i) ≡ slice_get bytes i)
    → HeldOn old.starts new.calls which at bytes =
    λ which at bytes shows. law.now (bytes_of old.starts which) (calls_on which new.calls) at bytes (λ i below. same which (at + i) ∙ shows i below) in (
      record {
        calls = new.calls;
        moment = record { newer = []; is = refl; since = inl refl };
        left = record {
          count = sym shown.count ∙ ap length grew.starts;
          each = λ which below. record { size = size which; kept = λ i value clean known. sym (same which i) ∙ known };
        };
        untorn = λ which label u used is_label fits shows. held which _ _ shows;
      },
      λ which number l below is_label valid shows. held which _ _ shows,
    )

-- ---- an order

in_turn : (n k : ℕ) → k < n → slice_get (range_with_len 0 n) k ≡ Some k
in_turn n k below =
    slice_get-get_or (range_with_len 0 n) k 0 (omega (arith, below, length-range_with_len 0 n))
    ∙ ap Some (get_or-range_with_len 0 n k 0 below ∙ omega arith)

own_order : (images : List (List ℕ)) → AreHandedIn images images (range_with_len 0 (length images))
own_order images =
    let n : ℕ = length images in
    let order : List ℕ = range_with_len 0 n in
    let count : length order ≡ n = length-range_with_len 0 n in
    let same : (child place : ℕ) → slice_get order child ≡ Some place → child ≡ place =
    λ child place at. let both = sym (in_turn n child (omega (arith, slice_get_within order child place at, count))) ∙ at in cc both in
    record {
      count = count;
      each = λ child place at. (
        omega (arith, slice_get_within order child place at, count, same child place at),
        ap (λ (k : ℕ). bytes_of images k) (sym (same child place at)),
      );
      all = λ place below. contains_some order place place (in_turn n place below);
      once = λ child other place at also. same child place at ∙ sym (same other place also);
    }

-- ---- disks

module _ {D : Type 0} where
  -- what each disk of the kind shows ends where it ends
  abbrev pub AreWithin : disk.Ghosts D → Type 0
  AreWithin g = (d : D) (i : ℕ) → length (g.start d) ≤ i → byte_at (g.start d) (g.calls d) i ≡ None

  -- what one shows
  bytes_shown : disk.Ghosts D → D → List ℕ
  bytes_shown g d = bytes_to (length (g.start d)) (byte_at (g.start d) (g.calls d))

  -- each of its bytes is known, and nothing on it is unflushed
  record IsSafe (g : disk.Ghosts D) (d : D) : Type 0 where
    known : (i : ℕ) → i < length (g.start d) → (value : ℕ) × (byte_at (g.start d) (g.calls d) i ≡ Some value)
    settled : IsSettled (g.calls d)

  holding : (g : disk.Ghosts D) → AreWithin g → (d : D) → IsSafe g d → IsHolding g (bytes_shown g d) d
  unfolding bytes_shown
  holding g within d safe =
      let held : ℕ → Option ℕ = byte_at (g.start d) (g.calls d) in
      let size : ℕ = length (g.start d) in
      record {
        size = sym (bytes_len size held);
        held = λ i. ⊎_elim
            (λ (below : i < size). let it = safe.known i below in bytes_known size held i it.0 below it.1)
            (λ (past : size ≤ i). within d i past ∙ sym (slice_get_past (bytes_to size held) i (omega (arith, past, bytes_len size held))))
            (below_or i size);
        settled = safe.settled;
      }

  -- ---- disks of an array

  module _ (g : disk.Ghosts D) (array : Disks) (them : List D) where
    start_in : IsArrayOf g them array → (which : ℕ) (d : D) → slice_get them which ≡ Some d → bytes_of array.starts which ≡ g.start d
    start_in is which d at = ap (λ starts. bytes_of starts which) is.0 ∙ ap (λ o. unwrap_or o []) (slice_get-map g.start them which ∙ ap (option_map g.start) at)

    calls_in : IsArrayOf g them array → (which : ℕ) (d : D) → slice_get them which ≡ Some d → calls_on which array.calls ≡ g.calls d
    calls_in is which d at = is.1 which ∙ ap (λ o. unwrap_or o []) (slice_get-map g.calls them which ∙ ap (option_map g.calls) at)

    safe_in : IsArrayOf g them array → AreSafe array → (which : ℕ) (d : D) → slice_get them which ≡ Some d → IsSafe g d
    safe_in is safe which d at =
        let start = start_in is which d at in
        let calls = calls_in is which d at in
        let there : which < length array.starts = omega (arith, slice_get_within them which d at, ap length is.0, length-map them g.start) in
        record {
          known = λ i below.
              let it = safe.known which i (omega (arith, below, ap length start)) in
              (it.0, (λ j. byte_at (sym start j) (sym calls j) i) ∙ it.1);
          settled = subst (λ (cs : List Call). IsSettled cs) calls (safe.settled which there);
        }

    all_hold : AreWithin g → IsArrayOf g them array → AreSafe array → AllHold g (map (bytes_shown g) them) them
    all_hold within is safe = record {
      count = sym (length-map them (bytes_shown g));
      each = λ which d at.
          let bytes : bytes_of (map (bytes_shown g) them) which ≡ bytes_shown g d =
          ap (λ o. unwrap_or o []) (slice_get-map (bytes_shown g) them which ∙ ap (option_map (bytes_shown g)) at) in
          subst (λ (b : List ℕ). IsHolding g b d) (sym bytes) (holding g within d (safe_in is safe which d at));
    }

    shown_by : AreWithin g → IsArrayOf g them array → AreSafe array → AreShown (map (bytes_shown g) them) array
    shown_by within is safe =
        let images : List (List ℕ) = map (bytes_shown g) them in
        let hold = all_hold within is safe in
        record {
          count = ap length is.0 ∙ length-map them g.start ∙ sym (length-map them (bytes_shown g));
          sizes = λ which. ⊎_elim
              (λ (below : which < length them).
              let d = get_some them which below in
              ap length (start_in is which d.0 d.1) ∙ (hold.each which d.0 d.1).size)
              (λ (past : length them ≤ which).
              ap length (ap (λ starts. bytes_of starts which) is.0 ∙ none_past g.start them which past ∙ sym (none_past (bytes_shown g) them which past)))
              (below_or which (length them));
          held = λ which i. ⊎_elim
              (λ (below : which < length them).
              let d = get_some them which below in
              (λ j. byte_at (start_in is which d.0 d.1 j) (calls_in is which d.0 d.1 j) i) ∙ (hold.each which d.0 d.1).held i)
              (λ (past : length them ≤ which).
              (λ j. byte_at ((ap (λ starts. bytes_of starts which) is.0 ∙ none_past g.start them which past) j) ((is.1 which ∙ none_past g.calls them which past) j) i)
              ∙ ap (λ (bytes : List ℕ). slice_get bytes i) (sym (none_past (bytes_shown g) them which past)))
              (below_or which (length them));
        }

  -- ---- as they stand in an array

  pub arrays_come_back : (g : disk.Ghosts D) → AreWithin g → ArraysComeBack g
  arrays_come_back g within array disks is safe =
      let images : List (List ℕ) = map (bytes_shown g) disks in (
        range_with_len 0 (length images),
        record {
          images = images;
          shown = shown_by g array disks within is safe;
          returned = record { handed = images; handed_in = own_order images; hold = all_hold g array disks within is safe };
        },
      )

  -- ---- in their places

  -- members that are all there
  all_there : (members : List (Member D)) → ((k : ℕ) → k < length members → (d : D) × (option_and_then disk_of (slice_get members k) ≡ Some d))
      → (them : List D) × (members ≡ map Present them)
  all_there [] there = ([], refl)
  all_there (Present d ∷ members) there =
      let rest = all_there members (λ k below. there (suc k) (omega (arith, below))) in
      (d ∷ rest.0, ap (λ (ms : List (Member D)). Present d ∷ ms) rest.1)
  all_there (Absent it ∷ members) there = absurd (cc ((there 0 (omega arith)).1))

  starts_of : (g : disk.Ghosts D) (them : List D) → map (start_of g) (map Present them) ≡ map g.start them
  starts_of g [] = refl
  starts_of g (d ∷ them) = ap (λ (starts : List (List ℕ)). g.start d ∷ starts) (starts_of g them)

  logs_of : (g : disk.Ghosts D) (them : List D) → map (calls_of g) (map Present them) ≡ map g.calls them
  logs_of g [] = refl
  logs_of g (d ∷ them) = ap (λ (logs : List (List Call)). g.calls d ∷ logs) (logs_of g them)

  present_at : (them : List D) (k : ℕ) → option_and_then disk_of (slice_get (map Present them) k) ≡ slice_get them k
  present_at [] k = refl
  present_at (d ∷ them) zero = refl
  present_at (d ∷ them) (suc k) = present_at them k

  one_more : (taken : Option D) (rest : List D) (n : ℕ) → length rest ≤ n → length (option_to_list taken ++ rest) ≤ suc n
  one_more (Some d) rest n few = omega (arith, few)
  one_more None rest n few = omega (arith, few)

  no_more : (members : List (Member D)) (places : List (Place D)) → length (disks_back members places) ≤ length places
  no_more members [] = omega arith
  no_more members (place ∷ places) = one_more (disk_back members place) (disks_back members places) (length places) (no_more members places)

  -- where as many come back as there are places, each comes back in its own
  one_back : (taken : Option D) (rest : List D) (n : ℕ) → length rest ≤ n → length (option_to_list taken ++ rest) ≡ suc n
      → (d : D) × (taken ≡ Some d) × (length rest ≡ n) × (option_to_list taken ++ rest ≡ d ∷ rest)
  one_back (Some d) rest n few count = (d, refl, omega (arith, count), refl)
  one_back None rest n few count = absurd (omega (arith, few, count))

  each_back : (members : List (Member D)) (places : List (Place D)) → length (disks_back members places) ≡ length places → (k : ℕ) (place : Place D)
      → slice_get places k ≡ Some place → (d : D) × (disk_back members place ≡ Some d) × (slice_get (disks_back members places) k ≡ Some d)
  each_back members [] count k place at = absurd (cc at)
  each_back members (first ∷ places) count zero place at =
      let it = one_back (disk_back members first) (disks_back members places) (length places) (no_more members places) count in
      let same : first ≡ place = cc at in
      (it.0, subst (λ (p : Place D). disk_back members p ≡ Some it.0) same it.1, ap (λ (xs : List D). slice_get xs zero) it.3)
  each_back members (first ∷ places) count (suc k) place at =
      let it = one_back (disk_back members first) (disks_back members places) (length places) (no_more members places) count in
      let rest = each_back members places it.2 k place at in
      (rest.0, rest.1, ap (λ (xs : List D). slice_get xs (suc k)) it.3 ∙ rest.2)

  places_len : (after : List D) (namers : List (Option ℕ)) → length after ≡ length namers → length (places_of_disks after namers) ≡ length after
  places_len [] namers same = refl
  places_len (d ∷ after) [] same = absurd (omega (arith, same))
  places_len (d ∷ after) (namer ∷ namers) same = ap suc (places_len after namers (omega (arith, same)))

  -- the place of a disk that a child names is that child's
  place_named : (after : List D) (namers : List (Option ℕ)) (k child : ℕ) → k < length after → slice_get namers k ≡ Some (Some child)
      → slice_get (places_of_disks after namers) k ≡ Some (OfChild child)
  place_named [] namers k child below at = absurd (omega (arith, below))
  place_named (d ∷ after) [] k child below at = absurd (cc at)
  place_named (d ∷ after) (namer ∷ namers) zero child below at =
      let same : namer ≡ Some child = cc at in
      ap (λ (n : Option ℕ). Some (place_of_disk n d)) same
  place_named (d ∷ after) (namer ∷ namers) (suc k) child below at = place_named after namers k child (omega (arith, below)) at

  -- the disks of children, in order
  pub record AreInPlace (g : disk.Ghosts D) (new : Disks) (images handed : List (List ℕ)) (order : List ℕ) (back : List D) : Type 0 where
    pub them : List D
    pub array : IsArrayOf g them new
    pub at : (child place : ℕ) → slice_get order child ≡ Some place → (d : D) × (slice_get them child ≡ Some d) × (slice_get back place ≡ Some d)

  pub in_place : (g : disk.Ghosts D) (new : Disks) (images handed : List (List ℕ)) (order : List ℕ) (after back : List D) (children : List Child)
      (places : List (Place D)) → AreHandedIn images handed order → AreChildren order children → ArePlaced after children places → length after ≡ length handed
      → length new.starts ≡ length images → AreBack g new places back → length back ≡ length handed → AreInPlace g new images handed order back
  in_place g new images handed order after back children places is are placed many starts it count =
      let as_many : length places ≡ length after = ap length placed.are ∙ places_len after placed.namers (sym placed.named.so_many) in
      let all : length (disks_back it.members places) ≡ length places = ap length (sym it.given) ∙ count ∙ sym many ∙ sym as_many in
      let at_place : (child place : ℕ) → slice_get order child ≡ Some place → slice_get places place ≡ Some (OfChild child) =
      λ child place at.
      let c = disk_at order children child place are at in
      let named = (placed.named.names place child).1 (ap (option_and_then (λ (x : Child). x.disk)) c.1 ∙ c.2) in
      ap (λ (ps : List (Place D)). slice_get ps place) placed.are
      ∙ place_named after placed.namers place child (omega (arith, (is.each child place at).0, many)) named in
      let of_child : (child place : ℕ) → slice_get order child ≡ Some place
      → (d : D) × (option_and_then disk_of (slice_get it.members child) ≡ Some d) × (slice_get (disks_back it.members places) place ≡ Some d) =
      λ child place at. each_back it.members places all place (OfChild child) (at_place child place at) in
      let members : length it.members ≡ length order = sym (length-map it.members (start_of g)) ∙ ap length it.starts ∙ starts ∙ sym is.count in
      let there = all_there it.members (λ child below.
      let place = get_some order child (omega (arith, below, members)) in
      let found = of_child child place.0 place.1 in
      (found.0, found.1)) in
      record {
        them = there.0;
        array = (
          sym it.starts ∙ ap (map (start_of g)) there.1 ∙ starts_of g there.0,
          λ which. sym (it.calls which) ∙ ap (λ (logs : List (List Call)). log_of logs which) (ap (map (calls_of g)) there.1 ∙ logs_of g there.0),
        );
        at = λ child place at.
            let found = of_child child place at in (
              found.0,
              sym (present_at there.0 child) ∙ ap (λ (ms : List (Member D)). option_and_then disk_of (slice_get ms child)) (sym there.1) ∙ found.1,
              ap (λ (ds : List D). slice_get ds place) it.given ∙ found.2,
            );
      }

  pub come_back : (g : disk.Ghosts D) → AreWithin g → (new : Disks) (images handed : List (List ℕ)) (order : List ℕ) (back : List D)
      → AreHandedIn images handed order → length new.starts ≡ length images → length back ≡ length handed → AreInPlace g new images handed order back → AreSafe new
      → ComeBack g new back order
  come_back g within new images handed order back is starts count it safe =
      let shown : List (List ℕ) = map (bytes_shown g) it.them in
      let given : List (List ℕ) = map (bytes_shown g) back in
      let hold = all_hold g new it.them within it.array safe in
      let bytes : (xs : List D) (k : ℕ) (d : D) → slice_get xs k ≡ Some d → bytes_of (map (bytes_shown g) xs) k ≡ bytes_shown g d =
      λ xs k d at. ap (λ o. unwrap_or o []) (slice_get-map (bytes_shown g) xs k ∙ ap (option_map (bytes_shown g)) at) in
      record {
        images = shown;
        shown = shown_by g new it.them within it.array safe;
        returned = record {
          handed = given;
          handed_in = record {
            count = is.count ∙ sym starts ∙ ap length it.array.0 ∙ length-map it.them g.start ∙ sym (length-map it.them (bytes_shown g));
            each = λ child place at.
                let d = it.at child place at in (
                  omega (arith, (is.each child place at).0, count, length-map back (bytes_shown g)),
                  bytes back place d.0 d.2 ∙ sym (bytes it.them child d.0 d.1),
                );
            all = λ place below. is.all place (omega (arith, below, count, length-map back (bytes_shown g)));
            once = is.once;
          };
          hold = record {
            count = sym (length-map back (bytes_shown g));
            each = λ place d at.
                let child = at_contains order place (is.all place (omega (arith, slice_get_within back place d at, count))) in
                let mine = it.at child.0 place child.1 in
                let same : mine.0 ≡ d = same_some (slice_get back place) mine.0 d mine.2 at in
                subst (λ (x : D). IsHolding g (bytes_of given place) x) same
                (subst (λ (b : List ℕ). IsHolding g b mine.0) (sym (bytes back place mine.0 mine.2))
                (holding g within mine.0 (safe_in g new it.them it.array safe child.0 mine.0 mine.1)));
          };
        };
      }
