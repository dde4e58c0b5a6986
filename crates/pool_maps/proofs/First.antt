-- The first maps of a pool, where no sector is in use.
use Rattle.std.proofs.Common.{◌≡◌, ◌≢◌, ◌⊎◌, ℕ, zero, suc, ◌/◌, ◌%◌, ◌<◌, true, false, ltb, List, [], Some, None, Option, All, Contains, inl, inr, refl, sym, ap, subst, ◌∙◌, arith}
use Rattle.std.proofs.lemmas.Bool.{cases_lt}
use Rattle.std.proofs.lemmas.Bool.Decides.{nat_tests}
use Rattle.std.proofs.lemmas.List.Elements.{All-contains, All-nil}
use Rattle.block_pointer.specs.declared.block.Block.{Block}
use Rattle.block_pointer.specs.declared.pointer.BlockPtr.TheVariants.{Hole, Block as At}
use Rattle.block_pointer.specs.declared.property.Property.{Property}
use Rattle.block_store.specs.Blocks.{nothing_stored}
use Rattle.block_store.specs.Losses.{IsForLoss}
use Rattle.block_store.specs.Maps.{LeavesUnused}
use Rattle.block_store.specs.Places.{filled, planned}
use Rattle.block_store.specs.Spaces.{VdevSpace}
use Rattle.block_store.specs.Store.{Store, Holds}
use Rattle.block_store.specs.declared.refusal.Refusal.{Refusal}
use Rattle.block_store.specs.declared.refusal.Refusal.TheVariants.{NoMemory, NoSpace, DiskFault}
use Rattle.block_store.proofs.Making.{stores_nothing}
use Rattle.dnode.specs.declared.dnode.Dnode.{Dnode}
use Rattle.dnode.specs.declared.dnode.Dnode.TheVariants.{Free}
use Rattle.dnode.specs.declared.object_set.ObjectSet.{ObjectSet}
use Rattle.dnode.specs.declared.object_set.ObjectSetKind.TheVariants.{Meta}
use Rattle.objset.specs.declared.node_reading.FoundDnode.{FoundDnode}
use Rattle.objset.specs.NodesFound.{IsNodeFound, found_dnode}
use Rattle.objset.specs.Nodes.{IsNodeIn}
use Rattle.dnode_tree.specs.Births.{AreBirths, height_of}
use Rattle.dnode_tree.specs.Tree.{property_of}
use Rattle.dnode_tree.specs.Ways.{ComesTo, IsBlockFound, Reached, bytes_in, root_of}
use Rattle.dnode_tree.specs.Writes.{IsForRoom}
use Rattle.dnode_tree.specs.declared.reading.DataBlock.{DataBlock}
use Rattle.dnode_tree.proofs.Births.{births_at_hole}
use Rattle.dnode_tree.proofs.Overfull.{refused_at_hole}
use Rattle.dnode_tree.proofs.Standing.{empty_trees}
use Rattle.meta_objset.specs.Reading.{HasSpaceMaps}
use Rattle.meta_objset.specs.SpaceMaps.{AreSpaceMaps, FitsMap}
use Rattle.meta_objset.specs.declared.space_maps.MetaslabMap.{MetaslabMap}
use Rattle.meta_objset.specs.declared.space_maps.MetaslabPlace.{MetaslabPlace}
use Rattle.metaslab.specs.Space.{state, sectors_of}
use Rattle.metaslab.specs.State.{State, InUse, Released, is_in_use}
use Rattle.metaslab.specs.State.{Free as FreeSector}
use Rattle.metaslab.specs.Unused.{IsUnusedOf}
use Rattle.metaslab.proofs.Unused.{set_of_unused}
use Rattle.object_table.specs.Ends.{IsEndRefused}
use Rattle.object_table.specs.declared.kind.TableKind.{TableKind}
use Rattle.objset.specs.declared.changes.Change.{Change}
use Rattle.objset.specs.declared.changes.ObjectChange.{ObjectChange}
use Rattle.objset.specs.Changes.{MayChange, after_change, changed}
use Rattle.objset.specs.Objects.{Object, AreObjects}
use Rattle.objset.specs.Shapes.{IsShapeFound, shape_of_dnode}
use Rattle.objset.specs.declared.shape.ObjectShape.{ObjectShape}
use Rattle.space_map.specs.FreeRuns.{FreeRuns, AreFree}
use Rattle.space_map.specs.Map.{all_free}
use Rattle.space_map.specs.Sectors.{contains}
use Rattle.space_map_objects.specs.Maps.{map_kind}
use Rattle.pool_maps.specs.declared.steps.MapPlan.{MapPlan}
use Rattle.pool_maps.specs.Maps.{AreMapsOf, AreShortMaps, HasMapPlace, HasShortMapOf}
use Rattle.pool_maps.specs.Plans.{Advances, AreAhead, AreAll, AreBelow, AreOfOthers, AreSparing, AreUnmade, GoesOn, IsMapNumber, IsPutIn, IsSound, LeaveMaps, MayBeMade, after_plan}
use Rattle.pool_maps.specs.Reached.{AreThere, UseNothing}
use Rattle.pool_maps.specs.Refused.{IsMapRefused, IsSomeRefused, no_set}
use Rattle.pool_maps.proofs.Among.{all_put, becomes, only, others_stay}
use Rattle.pool_maps.proofs.Planned.{all_from}
use Rattle.pool_maps.proofs.Whole.{anew_by}

-- no objects
abbrev pub nothing : ℕ → Option Object
nothing number = None

-- ---- what is unused where nothing is in use

free_state : (is : State) → is ≢ InUse → is_in_use is ≡ false
free_state FreeSector not_used = refl
free_state InUse not_used = absurd (not_used refl)
free_state (Released group) not_used = refl

pub all_unused : (spaces : List VdevSpace) (place : MetaslabPlace) (free : FreeRuns) → UseNothing spaces filled → AreFree free
    → LeavesUnused spaces filled place.vdev place.index free → (s : ℕ) → contains free.runs s ≡ all_free free.sectors s
all_unused spaces place free none are unused s =
    let space = unused.there in
    let set : IsUnusedOf free space = set_of_unused space free are unused.unused in
    elim (cases_lt s free.sectors) [
      | inl inside ↦
          let below : s < sectors_of space = subst (λ n. s < n) set.0 inside in
          let not_used : is_in_use (state space s) ≡ false = free_state (state space s) (λ used. none (record { vdev = place.vdev; metaslab = place.index; sector = s }) (record {
            space = unused.space;
            found = unused.found;
            metaslab = space;
            there = unused.is_there;
            within = below;
            used = used;
          })) in
          let t : ltb s (sectors_of space) ≡ true = grind (arith, nat_tests) in
          let u : ltb s free.sectors ≡ true = grind (arith, nat_tests) in
          set.1 s ∙ rw (t, not_used) refl ∙ sym u
      | inr past ↦
          let t : ltb s (sectors_of space) ≡ false = (let size = set.0 in grind (arith, nat_tests)) in
          let u : ltb s free.sectors ≡ false = grind (arith, nat_tests) in
          set.1 s ∙ rw t refl ∙ sym u
    ]

-- ---- the plan at first

no_rows : (maps : List MetaslabMap) → maps ≡ [] → (row : MetaslabMap) → ¬ Contains maps row
no_rows maps none row held = (let low = (subst (λ them. Contains them row) none held).1 in omega (arith, low))

no_maps : AreSpaceMaps []
no_maps = record { each = All-nil FitsMap; order = λ i j d before within. absurd (omega (arith, within)) }

module _ (spaces : List VdevSpace) (changes : List ObjectChange) (next : ℕ) (of : AreOfOthers nothing changes [] next) (first : MapPlan) (maps_are : first.maps ≡ [])
    (changes_are : first.changes.items ≡ changes) (next_is : first.next ≡ next) where
  pub unmade : AreUnmade first nothing
  unmade number later = refl

  pub sound : IsSound spaces first
  sound = record {
    order = subst AreSpaceMaps (sym maps_are) no_maps;
    rows = record {
      places = all_from (λ (m : MetaslabMap). HasMapPlace spaces m.metaslab) first.maps (λ row held. absurd (no_rows first.maps maps_are row held));
      behind = all_from (λ (m : MetaslabMap). 4 < m.object) first.maps (λ row held. absurd (no_rows first.maps maps_are row held));
      apart = λ map other held. absurd (no_rows first.maps maps_are map held);
    };
    below = all_from (λ (m : MetaslabMap). m.object < first.next) first.maps (λ row held. absurd (no_rows first.maps maps_are row held));
    behind = (let less = of.behind in omega (arith, less, next_is));
    within = (let less = of.within in omega (arith, less, next_is));
  }

  -- no change is of a number that is still to be given
  pub below : AreBelow first
  below = all_from (λ (c : ObjectChange). c.number < first.next) first.changes.items (λ change among. elim (cases_lt change.number first.next) [
    | inl less ↦ less
    | inr later ↦ absurd (All-contains (λ (c : ObjectChange). ¬ IsMapNumber [] next c.number) changes change of.apart (subst (λ them. Contains them change) changes_are among)
        (inr (omega (arith, later, next_is))))
  ])

  pub ahead : UseNothing spaces filled → AreAhead nothing spaces AreAll first
  ahead none place _ there = (
    λ free frees unused. inr (
      all_from (λ (m : MetaslabMap). m.metaslab ≢ place) first.maps (λ row held. absurd (no_rows first.maps maps_are row held)),
      all_unused spaces place free none frees unused,
    ),
    λ row held. absurd (no_rows first.maps maps_are row held),
  )

  not_of_map : ¬ IsMapNumber first.maps first.next 4
  not_of_map (inl (row, held, is)) = no_rows first.maps maps_are row held
  not_of_map (inr later) = let behind = of.behind in omega (arith, behind, later, next_is)

  -- no change is of the table
  pub table_apart : (last : MapPlan) → GoesOn first last → All (λ (c : ObjectChange). c.number ≢ 4) last.changes.items
  table_apart last goes = all_from (λ (c : ObjectChange). c.number ≢ 4) last.changes.items (λ change among. elim (goes.only change among) [
    | inl before ↦ All-contains (λ (c : ObjectChange). c.number ≢ 4) changes change of.tables (subst (λ them. Contains them change) changes_are before)
    | inr of_map ↦ λ same. not_of_map (subst (λ n. IsMapNumber first.maps first.next n) same of_map)
  ])

  -- behind all of them the table is made
  module _ (last : MapPlan) (none : UseNothing spaces filled) (last_sound : IsSound spaces last) (advances : Advances nothing spaces [] AreAll first last) where
    first_may : MayBeMade nothing first.changes.items
    first_may = subst (MayBeMade nothing) (sym changes_are) of.may

    first_kinds : AreShortMaps (after_plan first nothing) spaces first.maps
    first_kinds = all_from (λ (m : MetaslabMap). HasShortMapOf spaces m.metaslab (after_plan first nothing m.object)) first.maps
        (λ row held. absurd (no_rows first.maps maps_are row held))

    pub made : (all : List ObjectChange) (change : Change) → IsPutIn last.changes.items (record { number = 4; change = change }) all → MayChange change None
        → HasSpaceMaps (after_change change None) last.maps → MayBeMade nothing all × AreMapsOf (changed all nothing) spaces planned × AreThere spaces planned
        × LeaveMaps nothing changes all
    made all change put may table =
        let is : ObjectChange = record { number = 4; change = change } in
        let anew = anew_by nothing spaces [] first last last_sound advances (ahead none) first_kinds all
        (subst (λ object. HasSpaceMaps object last.maps) (sym (becomes last.changes.items all is put nothing)) table)
        (λ number other. others_stay last.changes.items all is put nothing number (λ same. other (sym same))) spaces 0 refl in (
          all_put last.changes.items all is put (λ (c : ObjectChange). MayChange c.change (nothing c.number))
              (advances.may (λ place of_all there. (ahead none place of_all there).0) first_may) may,
          anew.0,
          anew.1,
          λ one held. elim (only last.changes.items all is put one held) [
            | inl sooner ↦ elim (advances.leave (λ place of_all there. (ahead none place of_all there).0) one sooner) [
              | inl before ↦ inl (subst (λ (them : List ObjectChange). Contains them one) changes_are before)
              | inr map ↦ inr (inr map)
            ]
            | inr of_table ↦ inr (inl (sym (ap (λ (c : ObjectChange). c.number) of_table)))
          ],
        )

-- a change is one of those before the table was made, or the table's
pub sparing : (spaces : List VdevSpace) (next : ℕ) (changes old new : List ObjectChange) (change : Change) → IsPutIn old (record { number = 4; change = change }) new
    → AreSparing spaces [] [] next changes old → AreSparing spaces [] [] next changes new
sparing spaces next changes old new change put spare = λ one held. elim (only old new (record { number = 4; change = change }) put one held) [
  | inl sooner ↦ spare one sooner
  | inr table ↦ inr (inl (sym (ap (λ (c : ObjectChange). c.number) table)))
]

-- ---- a set that has no block

pub holds_nothing : (store : Store) → Holds store nothing_stored
holds_nothing store = (stores_nothing store).held

pub no_objects : (birth : ℕ) (set : ObjectSet) → set.dnodes.pointer ≡ Hole → AreObjects nothing_stored birth set nothing [] (λ number. [])
no_objects birth set hole = record {
  nodes = λ number. Free;
  dnodes = record {
    array = λ id. None;
    tree = empty_trees nothing_stored birth set.dnodes hole;
    births = λ level first. 0;
    born = subst (λ pointer. AreBirths nothing_stored (height_of set.dnodes) 0 pointer (λ level first. 0)) (sym hole)
        (births_at_hole nothing_stored (height_of set.dnodes) 0 (λ level first. 0));
    each = λ number. refl;
    first = refl;
    behind = λ number past. refl;
  };
  each = λ number. (refl, refl);
}

stays_at_hole : (spaces : List VdevSpace) (property : ℕ → Property) (level birth place : ℕ) (there : Reached) → ComesTo spaces property level birth Hole place there → there.pointer ≡ Hole
stays_at_hole spaces property zero birth place there is = ap (λ (r : Reached). r.pointer) is
stays_at_hole spaces property (suc level) birth place there (inl is) = ap (λ (r : Reached). r.pointer) is
stays_at_hole spaces property (suc level) birth place there (inr (block, pointers, is, read, comes)) = absurd (cc)

block_nowhere : (spaces : List VdevSpace) (birth id : ℕ) (found : Option DataBlock) → IsBlockFound spaces no_set.dnodes birth id found → found ≡ None
block_nowhere spaces birth id None is = refl
block_nowhere spaces birth id (Some block) (inl (past, none)) = none
block_nowhere spaces birth id (Some block) (inr (within, is)) =
    let at = is.below.has in
    let hole = stays_at_hole spaces (property_of no_set.dnodes) (root_of no_set.dnodes birth).level birth id is.below.there is.below.leads in
    (let clash : Hole ≡ At at.0 = sym hole ∙ at.2 in absurd cc)

free_nowhere : (block : Option DataBlock) (place : ℕ) (node : Dnode) → block ≡ None → IsNodeIn (bytes_in block) place node → node ≡ Free
free_nowhere block place node none is = subst (λ b. IsNodeIn (bytes_in b) place node) none is

node_free : (spaces : List VdevSpace) (birth number block_birth : ℕ) (dnode : Dnode) → IsNodeFound spaces no_set birth number (found_dnode dnode block_birth) → dnode ≡ Free
node_free spaces birth number block_birth dnode (inl (past, is)) = ap (λ (f : FoundDnode). f.dnode) is
node_free spaces birth number block_birth dnode (inr (within, read)) =
    free_nowhere read.block (number % 32) dnode (block_nowhere spaces birth (number / 32) read.block read.block_found) read.is_in

shape_nowhere : (spaces : List VdevSpace) (birth number : ℕ) (shape : ObjectShape) → ¬ IsShapeFound spaces no_set birth number (Some shape)
shape_nowhere spaces birth number shape (dnode, block_birth, found, is) =
    (let clash : None ≡ Some shape = sym (is ∙ ap shape_of_dnode (node_free spaces birth number block_birth dnode found)) in cc)

not_for_room : ¬ IsForRoom DiskFault
not_for_room (inl is) = cc
not_for_room (inr is) = cc

-- no disk is wanting where nothing is to be read
end_nowhere : (old new : Store) (birth : ℕ) (kind : TableKind) (number : ℕ) → ¬ IsEndRefused old new [] no_set birth kind number DiskFault
end_nowhere old new birth kind number (inl (inl why)) =
    not_for_room (refused_at_hole old new [] (property_of no_set.dnodes) (root_of no_set.dnodes birth).level birth Hole (number / 32) DiskFault refl why)
end_nowhere old new birth kind number (inl (inr (bad, block))) = cc
end_nowhere old new birth kind number (inr (inl (bad, other))) = cc
end_nowhere old new birth kind number (inr (inr ends)) = shape_nowhere old.spaces birth number ends.object.shape ends.object.found

map_nowhere : (old new : Store) (birth : ℕ) (gone : List Block) (plan : MapPlan) (place : MetaslabPlace) → ¬ IsMapRefused old new no_set birth gone plan place DiskFault
map_nowhere old new birth gone plan place (inl (bad, none)) = cc
map_nowhere old new birth gone plan place (inr (inl row)) = elim row.why [
  | inl end ↦ end_nowhere old new birth map_kind row.row.object end
  | inr (bad, taken) ↦ cc
]
map_nowhere old new birth gone plan place (inr (inr (lacks, inl (full, past)))) = cc
map_nowhere old new birth gone plan place (inr (inr (lacks, inr (bad, taken)))) = cc

pub only_room : (old new : Store) (birth : ℕ) (gone : List Block) (plan : MapPlan) (refusal : Refusal) → IsForLoss refusal ⊎ (refusal ≡ NoSpace)
    → (refusal ≡ NoMemory) ⊎ IsSomeRefused old new no_set birth gone plan refusal → (refusal ≡ NoMemory) ⊎ (refusal ≡ NoSpace)
only_room old new birth gone plan refusal (inl (inl memory)) cause = inl memory
only_room old new birth gone plan refusal (inl (inr fault)) (inl memory) = inl memory
only_room old new birth gone plan refusal (inl (inr fault)) (inr some) =
    absurd (map_nowhere some.mid new birth gone some.later some.place (subst (λ r. IsMapRefused some.mid new no_set birth gone some.later some.place r) fault some.why))
only_room old new birth gone plan refusal (inr full) cause = inr full
