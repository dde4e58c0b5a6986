-- How a store is made.
use Rattle.std.proofs.Common.{ℕ, zero, suc, ◌≡◌, inl, inr, ◌+◌, ◌<◌, ◌≤◌, ◌^◌, Some, List, [], ◌∷◌, ◌++◌, length, min, drop, get_or, refl, sym, ap, subst, ◌∙◌, arith, add-one, drop-cons}
use Rattle.std.proofs.lemmas.Bool.{cases_lt}
use Rattle.std.proofs.lemmas.List.{drop_all, append-nil}
use Rattle.std.proofs.lemmas.List.Elements.{All-push}
use Rattle.std.specs.List.{slice_get, Contains}
use Rattle.std.proofs.lemmas.Option.{slice_get_within, get_or_from_slice_get}
use Rattle.model_disk.specs.Joint.{bytes_of}
use Rattle.raidz_map.specs.declared.geometry.Geometry.{Geometry}
use Rattle.raidz_io.specs.Writes.{ColumnWrite}
use Rattle.raidz_io.specs.Places.{HasRoom, offset_of_sector}
use Rattle.raidz_io.proofs.Written.{same_some}
use Rattle.block_store.specs.declared.create.VdevConfig.{VdevConfig}
use Rattle.block_store.specs.declared.shape.VdevShape.{VdevShape}
use Rattle.block_store.specs.Spaces.{VdevSpace}
use Rattle.block_store.specs.Blocks.{nothing_stored}
use Rattle.block_store.specs.Config.{IsAllowedSize, sectors_of, size_of, AreAllowedSizes, IsLeastOf, IsShapeOf, AreShapes}
use Rattle.block_store.specs.Places.{Marks, shapes_of, IsEmpty, AreEmpty, HaveMarks}
use Rattle.block_store.specs.Places.{filled as filled_marks, planned as planned_marks}
use Rattle.block_store.specs.Plans.{Plans}
use Rattle.block_store.specs.Store.{Store, IsStore, ArePlaced, Holds, Stores}
use Rattle.block_store.proofs.Accounting.{none_new}
use Rattle.block_store.proofs.Beside.{none_beside}

-- the disks from the first on and before the end are of allowed sizes, and so many sectors are the fewest of one of them
pub record AreMeasured (starts : List (List ℕ)) (first end sectors : ℕ) : Type 0 where
  pub allowed : AreAllowedSizes starts first end
  pub least : IsLeastOf starts first end sectors

-- and one more
pub measured_more : (starts : List (List ℕ)) (first disk least sectors : ℕ) → AreMeasured starts first disk least → first ≤ disk
    → IsAllowedSize (size_of starts disk) → sectors ≡ sectors_of (size_of starts disk) → AreMeasured starts first (disk + 1) (min least sectors)
measured_more starts first disk least sectors so_far after allowed is =
    let last : (other : ℕ) → other < disk + 1 → disk ≤ other → disk ≡ other = λ other below not_less. omega (arith, below, not_less) in
    record {
      allowed = λ other from below. elim (cases_lt other disk) [
        | inl less ↦ so_far.allowed other from less
        | inr not_less ↦ let P : ℕ → Type 0 = λ n. IsAllowedSize (size_of starts n) in subst P (last other below not_less) allowed
      ];
      least = record {
        least = λ other from below. elim (cases_lt other disk) [
          | inl less ↦ omega (arith, so_far.least.least other from less)
          | inr not_less ↦
              let P : ℕ → Type 0 = λ n. min least sectors ≤ sectors_of (size_of starts n) in
              let here : min least sectors ≤ sectors_of (size_of starts disk) = omega (arith, is) in
              subst P (last other below not_less) here
        ];
        one = elim (cases_lt sectors least) [
          | inl less ↦ (disk, after, omega arith, omega (arith, is, less))
          | inr not_less ↦ (so_far.least.one.0, so_far.least.one.1, omega (arith, so_far.least.one.2), omega (arith, so_far.least.one.3, not_less))
        ];
      };
    }

-- the spaces of the vdevs that were asked for before that one, which take the disks before the first
pub record AreSpacesBefore (starts : List (List ℕ)) (configs : List VdevConfig) (index first : ℕ) (spaces : List VdevSpace) : Type 0 where
  pub within : first ≤ length starts
  -- with shapes for those behind they are all
  pub made : (rest : List VdevShape) → AreShapes starts first (drop index configs) rest → AreShapes starts 0 configs (shapes_of spaces ++ rest)
  -- and where there are shapes at all, there are some for those behind
  pub needed : (shapes : List VdevShape) → AreShapes starts 0 configs shapes → (rest : List VdevShape) × AreShapes starts first (drop index configs) rest

-- the first vdev and those behind it
record AreFirstAndRest (starts : List (List ℕ)) (first : ℕ) (config : VdevConfig) (configs : List VdevConfig) : Type 0 where
  pub shape : VdevShape
  pub rest : List VdevShape
  pub is_shape : IsShapeOf starts first config shape
  pub are_rest : AreShapes starts (first + config.geometry.children) configs rest

first_and_rest : (starts : List (List ℕ)) (first : ℕ) (config : VdevConfig) (configs : List VdevConfig) (shapes : List VdevShape)
    → AreShapes starts first (config ∷ configs) shapes → AreFirstAndRest starts first config configs
first_and_rest starts first config configs [] are = absurd are
first_and_rest starts first config configs (shape ∷ rest) are = record { shape = shape; rest = rest; is_shape = are.0; are_rest = are.1 }

-- a space more
pub shapes_of-push : (spaces : List VdevSpace) (space : VdevSpace) (rest : List VdevShape)
    → shapes_of (spaces ++ space ∷ []) ++ rest ≡ shapes_of spaces ++ (space.shape ∷ rest)
shapes_of-push [] space rest = refl
shapes_of-push (other ∷ spaces) space rest = ap (λ xs. other.shape ∷ xs) (shapes_of-push spaces space rest)

-- the vdevs that are left begin with the next one
behind : (configs : List VdevConfig) (index : ℕ) (config : VdevConfig) → index < length configs → config ≡ get_or configs index config
    → drop index configs ≡ config ∷ drop (index + 1) configs
behind configs index config there is =
    let tail : drop index configs ≡ get_or configs index config ∷ drop (suc index) configs = drop-cons configs index config there in
    let next : suc index ≡ index + 1 = sym (add-one index) in
    tail ∙ ap (λ c. c ∷ drop (suc index) configs) (sym is) ∙ ap (λ n. config ∷ drop n configs) next

-- a vdev more
pub before_more : (starts : List (List ℕ)) (configs : List VdevConfig) (index first : ℕ) (spaces : List VdevSpace) (config : VdevConfig) (space : VdevSpace)
    → AreSpacesBefore starts configs index first spaces → index < length configs → config ≡ get_or configs index config → IsShapeOf starts first config space.shape
    → AreSpacesBefore starts configs (index + 1) (first + config.geometry.children) (spaces ++ space ∷ [])
before_more starts configs index first spaces config space before there is is_shape =
    let tail : drop index configs ≡ config ∷ drop (index + 1) configs = behind configs index config there is in
    record {
      within = is_shape.disks;
      made = λ rest are.
          let P : List VdevConfig → Type 0 = λ xs. AreShapes starts first xs (space.shape ∷ rest) in
          let Q : List VdevShape → Type 0 = λ xs. AreShapes starts 0 configs xs in
          subst Q (sym (shapes_of-push spaces space rest)) (before.made (space.shape ∷ rest) (subst P (sym tail) (is_shape, are)));
      needed = λ shapes are.
          let others : (rest : List VdevShape) × AreShapes starts first (drop index configs) rest = before.needed shapes are in
          let P : List VdevConfig → Type 0 = λ xs. AreShapes starts first xs others.0 in
          let parts : AreFirstAndRest starts first config (drop (index + 1) configs)
          = first_and_rest starts first config (drop (index + 1) configs) others.0 (subst P tail others.1) in
          (parts.rest, parts.are_rest);
    }

-- a vdev that cannot be made
pub no_shape : (starts : List (List ℕ)) (configs : List VdevConfig) (index first : ℕ) (spaces : List VdevSpace) (config : VdevConfig)
    → AreSpacesBefore starts configs index first spaces → index < length configs → config ≡ get_or configs index config
    → ((shape : VdevShape) → ¬ IsShapeOf starts first config shape) → (shapes : List VdevShape) → ¬ AreShapes starts 0 configs shapes
no_shape starts configs index first spaces config before there is none shapes are =
    let others : (rest : List VdevShape) × AreShapes starts first (drop index configs) rest = before.needed shapes are in
    let P : List VdevConfig → Type 0 = λ xs. AreShapes starts first xs others.0 in
    let parts : AreFirstAndRest starts first config (drop (index + 1) configs)
    = first_and_rest starts first config (drop (index + 1) configs) others.0 (subst P (behind configs index config there is) others.1) in
    none parts.shape parts.is_shape

-- after the last vdev all are made
pub all_made : (starts : List (List ℕ)) (configs : List VdevConfig) (index first : ℕ) (spaces : List VdevSpace)
    → AreSpacesBefore starts configs index first spaces → length configs ≤ index → first ≡ length starts → AreShapes starts 0 configs (shapes_of spaces)
all_made starts configs index first spaces before all last =
    let P : List VdevConfig → Type 0 = λ xs. AreShapes starts first xs [] in
    let Q : List VdevShape → Type 0 = λ xs. AreShapes starts 0 configs xs in
    subst Q (append-nil (shapes_of spaces)) (before.made [] (subst P (sym (drop_all index configs all)) last))

-- ---- the vdevs of a store that is made

-- a vdev that was asked for, no earlier than that disk
record WasAsked (starts : List (List ℕ)) (first : ℕ) (space : VdevSpace) : Type 0 where
  pub config : VdevConfig
  pub at : ℕ
  pub after : first ≤ at
  pub is_shape : IsShapeOf starts at config space.shape

-- each vdev was asked for
was_asked : (starts : List (List ℕ)) (first : ℕ) (configs : List VdevConfig) (spaces : List VdevSpace) (v : ℕ) (space : VdevSpace)
    → AreShapes starts first configs (shapes_of spaces) → slice_get spaces v ≡ Some space → WasAsked starts first space
was_asked starts first configs [] v space are found = absurd (cc)
was_asked starts first [] (here ∷ spaces) v space are found = absurd are
was_asked starts first (config ∷ configs) (here ∷ spaces) zero space are found =
    let P : VdevSpace → Type 0 = λ s. IsShapeOf starts first config s.shape in
    record { config = config; at = first; after = omega arith; is_shape = subst P (same_some here space found) are.0 }
was_asked starts first (config ∷ configs) (here ∷ spaces) (suc v) space are found =
    let later : WasAsked starts (first + config.geometry.children) space = was_asked starts (first + config.geometry.children) configs spaces v space are.1 found in
    record { config = later.config; at = later.at; after = omega (arith, later.after); is_shape = later.is_shape }

-- a vdev has as many children as were asked for
children_are : (starts : List (List ℕ)) (first : ℕ) (config : VdevConfig) (shape : VdevShape) → IsShapeOf starts first config shape
    → shape.vdev.geometry.children ≡ config.geometry.children
children_are starts first config shape is = ap (λ (g : Geometry). g.children) is.geometry

-- a later vdev lies behind
are_apart : (starts : List (List ℕ)) (first : ℕ) (configs : List VdevConfig) (spaces : List VdevSpace) (v other : ℕ) (space behind : VdevSpace)
    → AreShapes starts first configs (shapes_of spaces) → v < other → slice_get spaces v ≡ Some space → slice_get spaces other ≡ Some behind
    → space.shape.vdev.first + space.shape.vdev.geometry.children ≤ behind.shape.vdev.first
are_apart starts first configs [] v other space behind are less found found' = absurd (cc)
are_apart starts first [] (here ∷ spaces) v other space behind are less found found' = absurd are
are_apart starts first (config ∷ configs) (here ∷ spaces) v zero space behind are less found found' = absurd (omega (arith, less))
are_apart starts first (config ∷ configs) (here ∷ spaces) zero (suc other) space behind are less found found' =
    let P : VdevSpace → Type 0 = λ s. IsShapeOf starts first config s.shape in
    let is : IsShapeOf starts first config space.shape = subst P (same_some here space found) are.0 in
    let later : WasAsked starts (first + config.geometry.children) behind
    = was_asked starts (first + config.geometry.children) configs spaces other behind are.1 found' in
    omega (arith, is.first_is, children_are starts first config space.shape is, later.after, later.is_shape.first_is)
are_apart starts first (config ∷ configs) (here ∷ spaces) (suc v) (suc other) space behind are less found found' =
    are_apart starts (first + config.geometry.children) configs spaces v other space behind are.1 (omega (arith, less)) found found'

-- there are as many as were asked for
same_count : (starts : List (List ℕ)) (first : ℕ) (configs : List VdevConfig) (spaces : List VdevSpace) → AreShapes starts first configs (shapes_of spaces)
    → length spaces ≡ length configs
same_count starts first [] [] are = refl
same_count starts first [] (here ∷ spaces) are = absurd are
same_count starts first (config ∷ configs) [] are = absurd are
same_count starts first (config ∷ configs) (here ∷ spaces) are = ap suc (same_count starts (first + config.geometry.children) configs spaces are.1)

-- sectors between the labels of a disk are on it
pub on_disk : (size sectors : ℕ) → IsAllowedSize size → sectors ≤ sectors_of size → offset_of_sector sectors ≤ size
on_disk size sectors allowed least = omega (arith, allowed.least, least)

-- and the vdev has room on its disks
has_room : (starts : List (List ℕ)) (first : ℕ) (config : VdevConfig) (shape : VdevShape) → length starts ≤ 2 ^ 64 → IsShapeOf starts first config shape
    → HasRoom shape.vdev shape.child_sectors starts
has_room starts first config shape count is =
    let children : shape.vdev.geometry.children ≡ config.geometry.children = children_are starts first config shape is in
    let at : (child : ℕ) → child < config.geometry.children → offset_of_sector shape.child_sectors ≤ length (bytes_of starts (first + child)) = λ child below.
    on_disk (size_of starts (first + child)) shape.child_sectors (is.sizes (first + child) (omega arith) (omega (arith, below)))
    (is.sectors.least (first + child) (omega arith) (omega (arith, below))) in
    record {
      numbers = omega (arith, is.first_is, children, is.disks, count);
      offsets = omega (arith, shape.most_sectors);
      disks = omega (arith, is.first_is, children, is.disks);
      sizes = λ child below.
          let P : ℕ → Type 0 = λ n. offset_of_sector shape.child_sectors ≤ length (bytes_of starts (n + child)) in
          subst P (sym is.first_is) (at child (omega (arith, below, children)));
    }

-- what is made is a store
pub is_store : (store : Store) (configs : List VdevConfig) → AreShapes store.disks.starts 0 configs (shapes_of store.spaces) → length configs ≤ 8
    → length store.disks.starts ≤ 2 ^ 64 → IsStore store
is_store store configs are few count =
    let starts : List (List ℕ) = store.disks.starts in
    record {
      laid_out = record {
        room = λ v space found.
            let asked : WasAsked starts 0 space = was_asked starts 0 configs store.spaces v space are found in
            has_room starts asked.at asked.config space.shape count asked.is_shape;
        apart = λ v other space behind less found found'. are_apart starts 0 configs store.spaces v other space behind are less found found';
        few = omega (arith, same_count starts 0 configs store.spaces are, few);
      };
    }

-- nothing is placed anywhere
places_nothing : (spaces : List VdevSpace) (marks : Marks) → ArePlaced spaces marks nothing_stored
places_nothing spaces marks = record {
  blocks = λ block bytes is. absurd (cc);
  places = λ block bytes i place is copy. absurd (cc);
  regions = λ block bytes is. absurd (cc);
  apart = λ block other bytes others i k place behind is is'. absurd (cc);
}

-- a store that holds nothing
holds_nothing : (store : Store) → Holds store nothing_stored
holds_nothing store = record {
  blocks = λ block bytes is. absurd (cc);
  places = λ block bytes is. absurd (cc);
  stand = λ block bytes i extent is copy. absurd (cc);
}

pub stores_nothing : (store : Store) → Stores store nothing_stored
stores_nothing store = record { held = holds_nothing store; placed = places_nothing store.spaces filled_marks }

-- what an empty vdev has without a plan it has with it
same_marks : (spaces : List VdevSpace) → AreEmpty spaces → HaveMarks spaces filled_marks spaces planned_marks
same_marks spaces empty v space later found found' =
    let same : later ≡ space = same_some later space (sym found' ∙ found) in
    ap planned_marks same ∙ (subst IsEmpty (get_or_from_slice_get spaces v space space found) (empty v space (slice_get_within spaces v space found))).none_planned

pub plans_nothing : (store : Store) → store.due ≡ [] → AreEmpty store.spaces → Plans store nothing_stored nothing_stored
plans_nothing store due empty = record {
  held = holds_nothing store;
  stored_placed = places_nothing store.spaces filled_marks;
  kept = λ block bytes is. is;
  placed = places_nothing store.spaces planned_marks;
  born = λ block bytes is new. absurd (cc);
  in_use = λ block bytes is new. absurd (cc);
  accounted = λ none. none_new store.spaces nothing_stored nothing_stored (same_marks store.spaces empty);
  fresh = λ block bytes is new. absurd (cc);
  beside = none_beside store.spaces (same_marks store.spaces empty);
  writes_of = λ block i. [];
  on_the_way = λ block bytes i extent is new copy. absurd (cc);
  due = λ write among. let P : List ColumnWrite → Type 0 = λ xs. Contains xs write in absurd (omega (arith, (subst P due among).1));
}

-- an empty vdev more
pub empty_more : (spaces : List VdevSpace) (space : VdevSpace) → AreEmpty spaces → IsEmpty space → AreEmpty (spaces ++ space ∷ [])
empty_more spaces space before empty = All-push IsEmpty spaces space before empty
