-- A disk that was handed in, as the pool's own.
use Rattle.std.proofs.Common.{ℕ, zero, suc, ◌≡◌, ◌<◌, false, List, [], ◌∷◌, length, map, slice_get, Option, Some, None, is_none, refl, sym, ap, subst, ◌∙◌}
use Rattle.std.specs.Prelude.{option_map}
use Rattle.std.proofs.lemmas.List.{length-map}
use Rattle.std.proofs.lemmas.Option.{slice_get-map}
use Rattle.model_disk.specs.Joint.{Disks, bytes_of, content}
use Rattle.raidz_io.proofs.Written.{slice_get_some}
use Rattle.block_store.specs.Store.{is_out}
use Rattle.pool_labels.proofs.Lists.{at_contains, contains_at}
use Rattle.pool_create.specs.OpenStops.{fresh}
use Rattle.pool_slots.specs.Opens.{IsKnown}
use Rattle.pool_slots.specs.Slots.{InUse}
use Rattle.pool_stops.specs.Handed.{AreHandedIn, AreHolding, AreSomeHandedIn, away_in}
use Rattle.pool_stops.proofs.Lists.{found_in_map}

-- a disk by its size and bytes
abbrev pub OfDisk : (ℕ → (ℕ → Option ℕ) → Type 0) → Disks → ℕ → Type 0
OfDisk P disks which = P (length (bytes_of disks.starts which)) (content disks which)

-- what holds of a disk holds of another with the same size and bytes
pub same_disk : (P : ℕ → (ℕ → Option ℕ) → Type 0) (old other : Disks) (place which : ℕ) → length (bytes_of old.starts place) ≡ length (bytes_of other.starts which)
    → ((i : ℕ) → content old place i ≡ content other which i) → OfDisk P old place → OfDisk P other which
same_disk P old other place which size held it =
    let Q : ℕ × (ℕ → Option ℕ) → Type 0 = λ x. P x.0 x.1 in
    subst Q (λ j. (size j, λ i. held i j)) it

-- one that was handed in is the pool's
pub size_handed : (images handed : List (List ℕ)) (order : List (Option ℕ)) (old : Disks) (child place : ℕ) → AreSomeHandedIn images handed order → AreHolding handed old
    → slice_get order child ≡ Some (Some place) → length (bytes_of old.starts place) ≡ length (bytes_of images child)
size_handed images handed order old child place is holding at = holding.shown.sizes place ∙ ap length (is.each child place at).1

pub held_handed : (images handed : List (List ℕ)) (order : List (Option ℕ)) (old : Disks) (child place : ℕ) → AreSomeHandedIn images handed order → AreHolding handed old
    → slice_get order child ≡ Some (Some place) → (i : ℕ) → content old place i ≡ content (fresh images) child i
held_handed images handed order old child place is holding at i = holding.shown.held place i ∙ ap (λ bytes. slice_get bytes i) (is.each child place at).1

pub as_own : (P : ℕ → (ℕ → Option ℕ) → Type 0) (images handed : List (List ℕ)) (order : List (Option ℕ)) (old : Disks) (child place : ℕ)
    → AreSomeHandedIn images handed order → AreHolding handed old → slice_get order child ≡ Some (Some place) → OfDisk P old place → OfDisk P (fresh images) child
as_own P images handed order old child place is holding at =
    same_disk P old (fresh images) place child (size_handed images handed order old child place is holding at)
    (held_handed images handed order old child place is holding at)

pub as_handed : (P : ℕ → (ℕ → Option ℕ) → Type 0) (images handed : List (List ℕ)) (order : List (Option ℕ)) (old : Disks) (child place : ℕ)
    → AreSomeHandedIn images handed order → AreHolding handed old → slice_get order child ≡ Some (Some place) → OfDisk P (fresh images) child → OfDisk P old place
as_handed P images handed order old child place is holding at =
    same_disk P (fresh images) old child place (sym (size_handed images handed order old child place is holding at))
    (λ i. sym (held_handed images handed order old child place is holding at i))

-- its bytes are known
pub fresh_known : (images : List (List ℕ)) (which : ℕ) → IsKnown (fresh images) which
fresh_known images which i below = slice_get_some (bytes_of images which) i below

pub handed_known : (images handed : List (List ℕ)) (order : List (Option ℕ)) (old : Disks) (child place : ℕ) → AreSomeHandedIn images handed order → AreHolding handed old
    → slice_get order child ≡ Some (Some place) → IsKnown old place
handed_known images handed order old child place is holding at =
    as_handed (λ size held. (i : ℕ) → i < size → (value : ℕ) × (held i ≡ Some value)) images handed order old child place is holding at (fresh_known images child)

-- ---- which place is which

-- a disk that was handed in is one of the pool's
pub child_at : (images handed : List (List ℕ)) (order : List (Option ℕ)) (place : ℕ) → AreSomeHandedIn images handed order → place < length handed
    → (child : ℕ) × (slice_get order child ≡ Some (Some place))
child_at images handed order place is below = at_contains order (Some place) (is.all place below)

-- it is one that is there
pub place_of_used : (order : List (Option ℕ)) (child : ℕ) → InUse (away_in order) child → (place : ℕ) × (slice_get order child ≡ Some (Some place))
place_of_used [] child used = absurd (cc used)
place_of_used (None ∷ order) zero used = absurd (cc used)
place_of_used (Some place ∷ order) zero used = (place, refl)
place_of_used (it ∷ order) (suc child) used = place_of_used order child used

pub used_at : (order : List (Option ℕ)) (child place : ℕ) → slice_get order child ≡ Some (Some place) → InUse (away_in order) child
used_at order child place at = slice_get-map is_none order child ∙ ap (option_map is_none) at

-- ---- all of a pool's disks

named : (order : List ℕ) (child place : ℕ) → slice_get (map Some order) child ≡ Some (Some place) → slice_get order child ≡ Some place
named order child place at = let it = found_in_map Some order child (Some place) at in it.1 ∙ it.2

pub all_handed : (images handed : List (List ℕ)) (order : List ℕ) → AreHandedIn images handed order → AreSomeHandedIn images handed (map Some order)
all_handed images handed order is = record {
  count = length-map order Some ∙ is.count;
  each = λ child place at. is.each child place (named order child place at);
  all = λ place below.
      let c = at_contains order place (is.all place below) in
      contains_at (map Some order) c.0 (Some place) (slice_get-map Some order c.0 ∙ ap (option_map Some) c.1);
  once = λ child other place at at'. is.once child other place (named order child place at) (named order other place at');
}

-- none of them is away
pub none_away : (order : List ℕ) (child : ℕ) → is_out (away_in (map Some order)) child ≡ false
none_away [] zero = refl
none_away [] (suc child) = refl
none_away (place ∷ order) zero = refl
none_away (place ∷ order) (suc child) = none_away order child
