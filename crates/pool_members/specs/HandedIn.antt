-- Disks that come back in the order in which they were handed in.
use Rattle.std.specs.Prelude.{ℕ, zero, suc, ◌≡◌, List, [], ◌∷◌, ◌++◌, length, Option, Some, None, option_and_then, option_to_list, slice_get}
use Rattle.model_disk.specs.Absent.{HaveFailed}
use Rattle.model_disk.specs.Member.{calls_of, disk_of}
use Rattle.model_disk.specs.declared.disk.Disk as disk
use Rattle.model_disk.specs.declared.member.Member.{Member}
use Rattle.pool_members.specs.Namers.{AreNamers}
use Rattle.pool_members.specs.declared.arranging.Child.{Child}
use Rattle.pool_members.specs.declared.handed_in.Place.{Place}
use Rattle.pool_members.specs.declared.handed_in.Place.TheVariants.{OfChild, Unnamed}

module _ {D : Type 0} where
  -- ---- where they are

  -- the disk, where this names it
  abbrev pub place_of_disk : Option ℕ → D → Place D
  place_of_disk (Some child) disk = OfChild child
  place_of_disk None disk = Unnamed disk

  -- of each disk in order
  abbrev pub places_of_disks : List D → List (Option ℕ) → List (Place D)
  places_of_disks [] namers = []
  places_of_disks (disk ∷ disks) [] = []
  places_of_disks (disk ∷ disks) (namer ∷ namers) = place_of_disk namer disk ∷ places_of_disks disks namers

  -- each of these disks is that of the child that names it, or where none does it is kept, as it is
  pub record AreHandedIn (disks : List D) (children : List Child) (places : List (Place D)) : Type 0 where
    pub namers : List (Option ℕ)
    pub named : AreNamers (length disks) children namers
    pub are : places ≡ places_of_disks disks namers

  -- each of so many is that of the child of its own number
  abbrev pub own_places : ℕ → List (Place D)
  own_places zero = []
  own_places (suc count) = own_places count ++ OfChild count ∷ []

  -- the child of a place, where it is one's
  abbrev pub child_in : Place D → Option ℕ
  child_in (OfChild child) = Some child
  child_in (Unnamed disk) = None

  -- no two places are one child's
  abbrev pub AreEachOfOne : List (Place D) → Type 0
  AreEachOfOne places = (i j child : ℕ) → slice_get places i ≡ Some (OfChild child) → slice_get places j ≡ Some (OfChild child) → i ≡ j

  -- ---- how they come back

  -- the disk of a place, where these are the children's disks
  abbrev pub disk_back : List (Member D) → Place D → Option D
  disk_back members (OfChild child) = option_and_then disk_of (slice_get members child)
  disk_back members (Unnamed disk) = Some disk

  -- all that are there, in order
  abbrev pub disks_back : List (Member D) → List (Place D) → List D
  disks_back members [] = []
  disks_back members (place ∷ places) = option_to_list (disk_back members place) ++ disks_back members places

  -- ---- a law

  -- on the disk of that child a call was made that didn't fail
  abbrev pub IsCalled : disk.Ghosts D → List (Member D) → ℕ → Type 0
  IsCalled g members child = (member : Member D) × (slice_get members child ≡ Some member) × (¬ HaveFailed (calls_of g member))

  -- Where so it is of each child that has a place, as many disks come back as there are places, each of its own place.
  abbrev pub CalledDisksComeBack : disk.Ghosts D → Type 0
  CalledDisksComeBack g =
      (members : List (Member D)) (places : List (Place D)) → ((i child : ℕ) → slice_get places i ≡ Some (OfChild child) → IsCalled g members child)
      → (length (disks_back members places) ≡ length places)
      × ((i : ℕ) (place : Place D) → slice_get places i ≡ Some place → slice_get (disks_back members places) i ≡ disk_back members place)
