-- Disks in the order of a pool's children.
use Rattle.std.specs.Prelude.{◌≡◌, ◌≢◌, ◌<◌, ℕ, Bool, List, [], ◌∷◌, ◌++◌, All, AllPairs, map, replicate, slice_get, Option, is_none, option_and_then, option_map, option_to_list, unwrap_or}
use Rattle.model_disk.specs.Call.{Call}
use Rattle.model_disk.specs.Joint.{bytes_of, log_of}
use Rattle.pool_members.specs.declared.arranging.Child.{Child}

-- the places that the children name, in order
abbrev pub places : List Child → List ℕ
places [] = []
places (child ∷ children) = option_to_list child.disk ++ places children

-- each of them is one of so many, and is named once
pub record AreEachOnce (count : ℕ) (children : List Child) : Type 0 where
  pub among : All (λ place. place < count) (places children)
  pub once : AllPairs (λ place later. place ≢ later) (places children)

-- the disk that the child names
abbrev pub disk_for : {D : Type 0} → List D → Child → Option D
disk_for disks child = option_and_then (slice_get disks) child.disk

-- what it held at first: zeros, where it is absent
abbrev pub start_for : List (List ℕ) → Child → List ℕ
start_for starts child = unwrap_or (option_map (bytes_of starts) child.disk) (replicate child.size 0)

-- the calls made on it: none, where it is absent
abbrev pub calls_for : List (List Call) → Child → List Call
calls_for logs child = unwrap_or (option_map (log_of logs) child.disk) []

-- Of disks with the first starts and calls, those with the second stand for the children, and the absent ones are marked.
pub record AreArranged (handed_starts : List (List ℕ)) (handed_calls : List (List Call)) (children : List Child)
    (starts : List (List ℕ)) (calls : List (List Call)) (out : List Bool) : Type 0 where
  pub same_start : starts ≡ map (start_for handed_starts) children
  pub same_calls : calls ≡ map (calls_for handed_calls) children
  pub marked : out ≡ map (λ child. is_none child.disk) children
