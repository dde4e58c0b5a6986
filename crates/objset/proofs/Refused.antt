-- Why changes are refused, behind other steps.
use Rattle.std.proofs.Common.{◌≡◌, ◌⊎◌, inl, inr, ℕ, zero, suc, ◌/◌, ◌<◌, List, [], ◌∷◌, length, get_or, map, refl, sym, ap, subst, ◌∙◌, arith, lit<}
use Rattle.std.specs.Prelude.{Any}
use Rattle.std.proofs.lemmas.List.{get_or-map, length-map}
use Rattle.block_pointer.specs.declared.pointer.BlockPtr.TheVariants.{Hole}
use Rattle.block_pointer.specs.declared.property.Property.{Property}
use Rattle.block_store.specs.declared.refusal.Refusal.{Refusal}
use Rattle.block_store.specs.declared.refusal.Refusal.TheVariants.{NoMemory, DiskFault, NoSpace, BadPointer, BadDigest, BadConfig}
use Rattle.block_store.specs.Spaces.{VdevSpace}
use Rattle.block_store.specs.Steps.{OnlyReadsAndPlans}
use Rattle.block_store.specs.Store.{Store}
use Rattle.block_store.specs.Demands.{Demand, LackPlaces}
use Rattle.block_store.proofs.Steps.{steps_none, steps_on}
use Rattle.dnode.specs.declared.dnode.Dnode.{Dnode}
use Rattle.dnode.specs.declared.object_set.ObjectSet.{ObjectSet}
use Rattle.objset.specs.NodesFound.{IsNodeFound, IsNodeRefused}
use Rattle.objset.specs.Found.{IsDnodeBornBy, IsDnodeFound}
use Rattle.objset.specs.declared.node_reading.FoundDnode.{FoundDnode}
use Rattle.objset.specs.NodesRefused.{IsNodeWriteRefused}
use Rattle.dnode_tree.specs.declared.writes.BlockWrite.{BlockWrite}
use Rattle.dnode_tree.specs.Refused.{HasOverfull, IsWayOverfull, IsWriteRefused}
use Rattle.dnode_tree.specs.Tree.{property_of}
use Rattle.dnode_tree.specs.Ways.{Reached, reached, root_of, ComesTo, IsCause, IsRefused}
use Rattle.objset.specs.declared.changes.Changing.{Changing}
use Rattle.objset.specs.declared.changes.ObjectChange.{ObjectChange}
use Rattle.objset.specs.Changing.{IsDnodeRefused, LackPlacesFor}
use Rattle.objset.specs.Demands.{empty_node, demands_of_change}
use Rattle.objset.proofs.Demands.{demands_of_one}
use Rattle.objset.specs.Refused.{IsObjectRefused, AreObjectsRefused}
use Rattle.objset.proofs.Found.{dnode_found_in, dnode_late_in}

-- ---- no way of an object that has no block is refused

stays_at_hole : (spaces : List VdevSpace) (property : ℕ → Property) (level birth place : ℕ) (there : Reached) → ComesTo spaces property level birth Hole place there → there.pointer ≡ Hole
stays_at_hole spaces property zero birth place there is = ap (λ (r : Reached). r.pointer) is
stays_at_hole spaces property (suc level) birth place there (inl is) = ap (λ (r : Reached). r.pointer) is
stays_at_hole spaces property (suc level) birth place there (inr (block, pointers, is, read, comes)) = absurd (cc)

only_memory : (old new : Store) (missing : List ℕ) (property : ℕ → Property) (there : Reached) (refusal : Refusal) → there.pointer ≡ Hole → IsCause old new missing property there refusal → refusal ≡ NoMemory
only_memory old new missing property there NoMemory hole cause = refl
only_memory old new missing property there BadPointer hole cause = let is = cause.is in absurd (cc)
only_memory old new missing property there DiskFault hole cause = let is = cause.is in absurd (cc)
only_memory old new missing property there BadDigest hole cause = let is = cause.is in absurd (cc)
only_memory old new missing property there NoSpace hole cause = absurd cause
only_memory old new missing property there BadConfig hole cause = absurd cause

none_in_hole : (spaces : List VdevSpace) (property : ℕ → Property) (level birth place : ℕ) → HasOverfull spaces property (reached level Hole birth) place → ⊥
none_in_hole spaces property level birth place has =
    let hole = stays_at_hole spaces property level birth place has.there has.leads in
    let is = has.is in cc

pub no_way_of_empty : (old new : Store) (missing : List ℕ) (object_type sectors birth : ℕ) (writes : List BlockWrite) (refusal : Refusal)
    → IsWriteRefused old new missing (empty_node object_type sectors) birth writes refusal → refusal ≡ NoMemory
no_way_of_empty old new missing object_type sectors birth writes refusal refused = cases refused.why
  where
    cases : IsRefused refused.mid new missing (empty_node object_type sectors) birth refused.write.id refusal
        ⊎ ((refusal ≡ BadPointer) × IsWayOverfull refused.mid.spaces (empty_node object_type sectors) birth refused.write.id)
        → refusal ≡ NoMemory
    cases (inl why) =
        only_memory refused.mid new missing (property_of (empty_node object_type sectors)) why.there refusal
        (stays_at_hole refused.mid.spaces (property_of (empty_node object_type sectors)) (root_of (empty_node object_type sectors) birth).level birth refused.write.id why.there why.leads) why.fault
    cases (inr (is, inl over)) = absurd (omega (arith, over))
    cases (inr (is, inr has)) =
        absurd (none_in_hole refused.mid.spaces (property_of (empty_node object_type sectors)) (root_of (empty_node object_type sectors) birth).level birth refused.write.id has)

-- ---- behind other steps

module _ (old mid new : Store) (missing : List ℕ) (steps : OnlyReadsAndPlans old mid missing) (set : ObjectSet) (birth : ℕ) (refusal : Refusal) where
  pub node_writes_refused_on : (numbers : List ℕ) → IsNodeWriteRefused mid new missing set birth numbers refusal → IsNodeWriteRefused old new missing set birth numbers refusal
  node_writes_refused_on numbers refused = record {
    number = refused.number;
    is_one = refused.is_one;
    mid = refused.mid;
    before = steps_on old mid refused.mid missing steps refused.before;
    why = refused.why;
  }

  object_refused_on : (change : ObjectChange) → IsObjectRefused mid new missing set birth change refusal → IsObjectRefused old new missing set birth change refusal
  object_refused_on change refused = record {
    dnode = refused.dnode;
    found = dnode_found_in old.spaces mid.spaces steps.shapes set birth change.number refused.dnode refused.found;
    mid = refused.mid;
    before = steps_on old mid refused.mid missing steps refused.before;
    why = refused.why;
  }

  pub change_refused_on : (changes : List ObjectChange) → AreObjectsRefused mid new missing set birth changes refusal → AreObjectsRefused old new missing set birth changes refusal
  change_refused_on changes (inl nodes) = inl (node_writes_refused_on (map (λ (change : ObjectChange). change.number) changes) nodes)
  change_refused_on changes (inr (inl (k, change, low, is, refused))) = inr (inl (k, change, low, is, object_refused_on change refused))
  change_refused_on changes (inr (inr (bad, (k, change, low, is, late)))) =
      inr (inr (bad, (k, change, low, is, dnode_late_in old.spaces mid.spaces steps.shapes set birth change.number late)))

-- ---- of one of several changes

-- what is refused of one of them is refused of all
module _ (old new : Store) (missing : List ℕ) (set : ObjectSet) (birth : ℕ) (refusal : Refusal) (changes : List ObjectChange) (i : ℕ) (change : ObjectChange) (low : i < length changes)
    (is : change ≡ get_or changes i change) where
  any_of_one : (P : ObjectChange → Type 0) → Any P (change ∷ []) → Any P changes
  any_of_one P (zero, one, below, same, here) = (i, change, low, sym is, subst P (sym same) here)
  any_of_one P (suc k, one, below, same, here) = absurd (omega (arith, below))

  number_of_one : (P : ℕ → Type 0) → Any P (change.number ∷ []) → Any P (map (λ (c : ObjectChange). c.number) changes)
  number_of_one P (zero, one, below, same, here) = (
    i,
    change.number,
    subst (λ n. i < n) (sym (length-map changes (λ (c : ObjectChange). c.number))) low,
    get_or-map (λ (c : ObjectChange). c.number) changes i change change.number low ∙ ap (λ (c : ObjectChange). c.number) (sym is),
    subst P (sym same) here,
  )
  number_of_one P (suc k, one, below, same, here) = absurd (omega (arith, below))

  pub one_refused : AreObjectsRefused old new missing set birth (change ∷ []) refusal → AreObjectsRefused old new missing set birth changes refusal
  one_refused (inl nodes) =
      inl (record { number = nodes.number; is_one = number_of_one (λ other. other / 32 ≡ nodes.number / 32) nodes.is_one; mid = nodes.mid; before = nodes.before; why = nodes.why })
  one_refused (inr (inl object)) = inr (inl (any_of_one _ object))
  one_refused (inr (inr (bad, late))) = inr (inr (bad, any_of_one _ late))

-- ---- of one change

-- its dnode was not read
pub node_refused : (old new : Store) (missing : List ℕ) (set : ObjectSet) (birth : ℕ) (change : ObjectChange) (refusal : Refusal) → IsNodeRefused old new missing set birth change.number refusal
    → AreObjectsRefused old new missing set birth (change ∷ []) refusal
node_refused old new missing set birth change refusal why =
    inl (record { number = change.number; is_one = (0, change.number, lit< tt, refl, refl); mid = old; before = steps_none old missing; why = inl why })

-- what its dnode leads to was born after the dnode's block
pub dnode_late : (old new : Store) (missing : List ℕ) (set : ObjectSet) (birth : ℕ) (change : ObjectChange) (refusal : Refusal) (found : FoundDnode) → IsNodeFound old.spaces set birth change.number found
    → (refusal ≡ BadPointer) × ¬ IsDnodeBornBy found.birth found.dnode → AreObjectsRefused old new missing set birth (change ∷ []) refusal
dnode_late old new missing set birth change refusal found is late =
    inr (inr (late.0, (0, change, lit< tt, refl, (found.dnode, found.birth, is, late.1))))

-- it was not made of the dnode that was found
pub one_change_refused : (this : Changing) (old mid new : Store) (set : ObjectSet) (change : ObjectChange) (dnode : Dnode) (refusal : Refusal) → OnlyReadsAndPlans old mid this.missing.now → mid.spaces ≡ old.spaces
    → IsDnodeFound old.spaces set this.birth change.number dnode → IsDnodeRefused this mid new dnode change.change refusal
    → (refusal ≡ NoMemory)
    ⊎ (((refusal ≡ NoSpace) × LackPlacesFor this old new set (change ∷ [])) ⊎ AreObjectsRefused old new this.missing.now set this.birth (change ∷ []) refusal)
one_change_refused this old mid new set change dnode refusal steps same found (inl memory) = inl memory
one_change_refused this old mid new set change dnode refusal steps same found (inr (inl (space, fits, lack))) =
    let demands : List Demand = demands_of_change this.copies change.change dnode in
    inr (inl (
      space,
      (
        demands,
        demands_of_one old.spaces set this.birth this.copies change dnode found fits,
        subst (λ spaces. LackPlaces spaces demands new.spaces) same lack,
      ),
    ))
one_change_refused this old mid new set change dnode refusal steps same found (inr (inr why)) =
    inr (inr (inr (inl (0, change, lit< tt, refl, record { dnode = dnode; found = found; mid = mid; before = steps; why = why }))))
