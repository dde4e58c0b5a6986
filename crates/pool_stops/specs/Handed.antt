-- Disks that are handed in in any order.
use Rattle.std.specs.Prelude.{ℕ, ◌≡◌, ◌<◌, Bool, Option, is_none, List, length, map, slice_get, Some, Contains}
use Rattle.model_disk.specs.Contents.{byte_at}
use Rattle.model_disk.specs.Joint.{Disks, bytes_of, calls_on, content}
use Rattle.model_disk.specs.Runs.{IsSettled}
use Rattle.model_disk.specs.declared.disk.Disk as disk

-- Disk `child` of a pool stands at place `order child` among those that are handed in, which hold these bytes. Each of these is one of them, and no
-- two are the same.
pub record AreHandedIn (images handed : List (List ℕ)) (order : List ℕ) : Type 0 where
  pub count : length order ≡ length images
  pub each : (child place : ℕ) → slice_get order child ≡ Some place → (place < length handed) × (bytes_of handed place ≡ bytes_of images child)
  pub all : (place : ℕ) → place < length handed → Contains order place
  pub once : (child other place : ℕ) → slice_get order child ≡ Some place → slice_get order other ≡ Some place → child ≡ other

-- Some of a pool's disks are handed in: disk `child` stands at place `order child` among those, which hold these bytes, if it is one of them. Each of these is
-- one of the pool's, and no two are the same.
pub record AreSomeHandedIn (images handed : List (List ℕ)) (order : List (Option ℕ)) : Type 0 where
  pub count : length order ≡ length images
  pub each : (child place : ℕ) → slice_get order child ≡ Some (Some place) → (place < length handed) × (bytes_of handed place ≡ bytes_of images child)
  pub all : (place : ℕ) → place < length handed → Contains order (Some place)
  pub once : (child other place : ℕ) → slice_get order child ≡ Some (Some place) → slice_get order other ≡ Some (Some place) → child ≡ other

-- those that are not
abbrev pub away_in : List (Option ℕ) → List Bool
away_in order = map is_none order

-- disks that show these bytes, and nothing past them
pub record AreShown (images : List (List ℕ)) (disks : Disks) : Type 0 where
  pub count : length disks.starts ≡ length images
  pub sizes : (which : ℕ) → length (bytes_of disks.starts which) ≡ length (bytes_of images which)
  pub held : (which i : ℕ) → content disks which i ≡ slice_get (bytes_of images which) i

-- disks that hold them: nothing on them is unflushed
pub record AreHolding (handed : List (List ℕ)) (disks : Disks) : Type 0 where
  pub shown : AreShown handed disks
  pub settled : (which : ℕ) → IsSettled (calls_on which disks.calls)

module _ {D : Type 0} where
  -- so it is of one disk
  pub record IsHolding (g : disk.Ghosts D) (bytes : List ℕ) (d : D) : Type 0 where
    pub size : length (g.start d) ≡ length bytes
    pub held : (i : ℕ) → byte_at (g.start d) (g.calls d) i ≡ slice_get bytes i
    pub settled : IsSettled (g.calls d)

  -- and of each of these
  pub record AllHold (g : disk.Ghosts D) (handed : List (List ℕ)) (disks : List D) : Type 0 where
    pub count : length disks ≡ length handed
    pub each : (which : ℕ) (d : D) → slice_get disks which ≡ Some d → IsHolding g (bytes_of handed which) d
