-- The pairs of a label.
use Rattle.std.specs.Prelude.{ℕ, suc, ◌^◌, ◌≤◌, ◌&&◌, ◌||◌, Bool, nat_le, ◌==◌, List, [], ◌∷◌, length, IsTrue, codes}
use Rattle.std.specs.List.{list_all}
use Rattle.nvlist.specs.Plain.{PlainList, no_pairs, pair, number, text, list, lists}
use Rattle.nvlist.specs.View.{lists_of}
use Rattle.vdev_label.specs.declared.label.State.{State}
use Rattle.vdev_label.specs.declared.label.State.TheVariants.{Active, Exported}
use Rattle.vdev_label.specs.Plain.{PlainVdev, PlainLabel}

-- lists that are made of items and their numbers, from this number on
abbrev pub numbered : {A : Type 0} → (ℕ → A → PlainList) → ℕ → List A → List PlainList
numbered of id [] = []
numbered of id (x ∷ xs) = of id x ∷ numbered of (suc id) xs

-- a disk of a vdev, by its number there
abbrev pub child_pairs : ℕ → ℕ → PlainList
child_pairs id guid = pair (codes "guid") (number guid) (pair (codes "id") (number id) no_pairs)

-- a vdev, by its number in the pool
abbrev pub vdev_pairs : ℕ → PlainVdev → PlainList
vdev_pairs id v =
    pair (codes "ashift") (number 9)
    (pair (codes "asize") (number v.child_sectors)
    (pair (codes "children") (lists (lists_of (numbered child_pairs 0 v.children)))
    (pair (codes "guid") (number v.guid)
    (pair (codes "id") (number id)
    (pair (codes "meta_slabs") (number v.meta_slabs)
    (pair (codes "ms_shift") (number v.slab_shift)
    (pair (codes "nparity") (number v.parity)
    (pair (codes "type") (text (codes "raidz")) no_pairs))))))))

-- a configuration
abbrev pub tree_pairs : List PlainVdev → PlainList
tree_pairs vdevs = pair (codes "children") (lists (lists_of (numbered vdev_pairs 0 vdevs))) no_pairs

-- the number that a state is spelled as
abbrev pub state_number : State → ℕ
state_number Active = 0
state_number Exported = 1

-- a label, with the version 1
abbrev pub label_pairs : PlainLabel → PlainList
label_pairs l =
    pair (codes "claim") (number l.claim)
    (pair (codes "guid") (number l.guid)
    (pair (codes "name") (text l.name)
    (pair (codes "pool_guid") (number l.pool_guid)
    (pair (codes "state") (number (state_number l.state))
    (pair (codes "top_guid") (number l.top_guid)
    (pair (codes "txg") (number l.group)
    (pair (codes "vdev_tree") (list (tree_pairs l.vdevs))
    (pair (codes "version") (number 1) no_pairs))))))))

-- a lower case letter
abbrev pub is_letter : ℕ → Bool
is_letter b = nat_le 97 b && nat_le b 122

-- a lower case letter, a digit, or one of . _ -
abbrev pub is_name_byte : ℕ → Bool
is_name_byte b = is_letter b || (nat_le 48 b && nat_le b 57) || (b == 46) || (b == 95) || (b == 45)

-- a name of 1 to 27 of these bytes, the first a letter
abbrev pub is_name : List ℕ → Bool
is_name [] = nat_le 1 0
is_name (b ∷ bytes) = is_letter b && list_all is_name_byte bytes && nat_le (length bytes) 26

-- what the ranges of a label's values are
pub record InRange (l : PlainLabel) : Type 0 where
  pub claim_from : 1 ≤ l.claim
  pub claim_to : l.claim ≤ 2 ^ 62
  pub group_from : 1 ≤ l.group
  pub group_to : l.group ≤ 2 ^ 62
  pub name : IsTrue (is_name l.name)

-- what a number that counts from 1 may be
abbrev pub IsCount : ℕ → Type 0
IsCount n = (1 ≤ n) × (n ≤ 2 ^ 62)
