-- Changes by what they are made of.
use Rattle.std.proofs.Common.{◌≡◌, ◌⊎◌, inl, inr, ℕ, List, [], Vec, Global, sym, ap, subst, ◌∙◌}
use Rattle.block_store.specs.declared.refusal.Refusal.{Refusal}
use Rattle.block_store.specs.declared.refusal.Refusal.TheVariants.{NoMemory, NoSpace}
use Rattle.block_store.specs.Demands.{Demand, LackPlaces}
use Rattle.block_store.specs.Store.{Store}
use Rattle.dnode.specs.declared.dnode.Dnode.{Dnode}
use Rattle.dnode.specs.declared.dnode.Dnode.TheVariants.{Free as NoObject, Object as Node}
use Rattle.dnode.specs.declared.node.ObjectNode.{ObjectNode}
use Rattle.dnode_tree.specs.declared.writes.BlockWrite.{BlockWrite}
use Rattle.dnode_tree.specs.declared.writes.CopyCounts.{CopyCounts}
use Rattle.dnode_tree.specs.Refused.{IsWriteRefused}
use Rattle.dnode_tree.specs.Spots.{demands_of}
use Rattle.dnode_tree.specs.Tree.{property_of}
use Rattle.dnode_tree.specs.Ways.{root_of, IsWalkRefused}
use Rattle.objset.specs.declared.changes.Change.{Change}
use Rattle.objset.specs.declared.changes.Change.TheVariants as changes
use Rattle.objset.specs.declared.changes.Changing.{Changing}
use Rattle.objset.specs.declared.changes.SetCopies.{SetCopies}
use Rattle.objset.specs.Changes.{AreWhole, object_copies}
use Rattle.objset.specs.Changing.{IsDnodeRefused, IsWritingRefused, IsReplaceRefused}
use Rattle.objset.specs.Demands.{FitsChange, empty_node, demands_of_change}
use Rattle.objset.specs.Refused.{IsTreeRefused}
use Rattle.objset.proofs.Refused.{no_way_of_empty}

an_object_is_there : (node : ObjectNode) → Node node ≡ NoObject → ⊥
an_object_is_there node is = cc

-- ---- an object is created

module _ (change : Change) (dnode : Dnode) (object_type sectors : ℕ) (writes : Vec BlockWrite Global) (is : change ≡ changes.Create object_type sectors writes) where
  pub create_fits : dnode ≡ NoObject → FitsChange change dnode
  create_fits free = subst (λ it. FitsChange it dnode) (sym is) free

  pub create_misfits : (node : ObjectNode) → dnode ≡ Node node → ¬ FitsChange change dnode
  create_misfits node there fits = an_object_is_there node (sym there ∙ subst (λ it. FitsChange it dnode) is fits)

  pub create_asks : (copies : SetCopies) (list : List BlockWrite) → list ≡ writes.items
      → demands_of (empty_node object_type sectors) (object_copies copies) list ≡ demands_of_change copies change dnode
  create_asks copies list items =
      ap (λ ws. demands_of (empty_node object_type sectors) (object_copies copies) ws) items ∙ ap (λ it. demands_of_change copies it dnode) (sym is)

-- ---- an object is written

module _ (change : Change) (dnode : Dnode) (writes : Vec BlockWrite Global) (is : change ≡ changes.Put writes) where
  pub put_misfits : dnode ≡ NoObject → ¬ FitsChange change dnode
  put_misfits free fits = subst (λ there. FitsChange (changes.Put writes) there) free (subst (λ it. FitsChange it dnode) is fits)

  module _ (node : ObjectNode) (there : dnode ≡ Node node) where
    pub put_fits : AreWhole node.data_sectors writes.items → FitsChange change dnode
    put_fits whole = subst (λ it. FitsChange it dnode) (sym is) (subst (λ d. FitsChange (changes.Put writes) d) (sym there) whole)

    pub put_not_whole : ¬ AreWhole node.data_sectors writes.items → ¬ FitsChange change dnode
    put_not_whole none fits = none (subst (λ d. FitsChange (changes.Put writes) d) there (subst (λ it. FitsChange it dnode) is fits))

    pub put_asks : (copies : SetCopies) (list : List BlockWrite) → list ≡ writes.items → demands_of node (object_copies copies) list ≡ demands_of_change copies change dnode
    put_asks copies list items =
        ap (λ ws. demands_of node (object_copies copies) ws) items ∙ ap (λ d. demands_of_change copies (changes.Put writes) d) (sym there)
        ∙ ap (λ it. demands_of_change copies it dnode) (sym is)

    pub put_tree : (old new : Store) (missing : List ℕ) (birth : ℕ) (refusal : Refusal) (list : List BlockWrite) → list ≡ writes.items
        → IsWriteRefused old new missing node birth list refusal → IsTreeRefused old new missing birth change dnode refusal
    put_tree old new missing birth refusal list items refused =
        subst (λ it. IsTreeRefused old new missing birth it dnode refusal) (sym is)
        (subst (λ d. IsTreeRefused old new missing birth (changes.Put writes) d refusal) (sym there)
        (subst (λ ws. IsWriteRefused old new missing node birth ws refusal) items refused))

-- ---- an object goes

module _ (change : Change) (dnode : Dnode) (is : change ≡ changes.Free) where
  pub free_misfits : dnode ≡ NoObject → ¬ FitsChange change dnode
  free_misfits free fits = subst (λ it. FitsChange it dnode) is fits free

  module _ (node : ObjectNode) (there : dnode ≡ Node node) where
    pub free_fits : FitsChange change dnode
    free_fits = subst (λ it. FitsChange it dnode) (sym is) (λ free. an_object_is_there node (sym there ∙ free))

    pub free_asks : (copies : SetCopies) → [] ≡ demands_of_change copies change dnode
    free_asks copies = ap (λ d. demands_of_change copies changes.Free d) (sym there) ∙ ap (λ it. demands_of_change copies it dnode) (sym is)

    pub free_tree : (old new : Store) (missing : List ℕ) (birth : ℕ) (refusal : Refusal) → IsWalkRefused old new missing (property_of node) (root_of node birth) refusal
        → IsTreeRefused old new missing birth change dnode refusal
    free_tree old new missing birth refusal refused =
        subst (λ it. IsTreeRefused old new missing birth it dnode refusal) (sym is)
        (subst (λ d. IsTreeRefused old new missing birth changes.Free d refusal) (sym there) refused)

-- ---- an object is written anew

module _ (change : Change) (dnode : Dnode) (writes : Vec BlockWrite Global) (is : change ≡ changes.Replace writes) where
  pub replace_misfits : dnode ≡ NoObject → ¬ FitsChange change dnode
  replace_misfits free fits = subst (λ there. FitsChange (changes.Replace writes) there) free (subst (λ it. FitsChange it dnode) is fits)

  module _ (node : ObjectNode) (there : dnode ≡ Node node) where
    pub replace_fits : AreWhole node.data_sectors writes.items → FitsChange change dnode
    replace_fits whole = subst (λ it. FitsChange it dnode) (sym is) (subst (λ d. FitsChange (changes.Replace writes) d) (sym there) whole)

    pub replace_not_whole : ¬ AreWhole node.data_sectors writes.items → ¬ FitsChange change dnode
    replace_not_whole none fits = none (subst (λ d. FitsChange (changes.Replace writes) d) there (subst (λ it. FitsChange it dnode) is fits))

    pub replace_asks : (copies : SetCopies) (list : List BlockWrite) → list ≡ writes.items
        → demands_of (empty_node node.object_type node.data_sectors) (object_copies copies) list ≡ demands_of_change copies change dnode
    replace_asks copies list items =
        ap (λ ws. demands_of (empty_node node.object_type node.data_sectors) (object_copies copies) ws) items
        ∙ ap (λ d. demands_of_change copies (changes.Replace writes) d) (sym there)
        ∙ ap (λ it. demands_of_change copies it dnode) (sym is)

    pub replace_tree : (old new : Store) (missing : List ℕ) (birth : ℕ) (refusal : Refusal) → IsWalkRefused old new missing (property_of node) (root_of node birth) refusal
        → IsTreeRefused old new missing birth change dnode refusal
    replace_tree old new missing birth refusal refused =
        subst (λ it. IsTreeRefused old new missing birth it dnode refusal) (sym is)
        (subst (λ d. IsTreeRefused old new missing birth (changes.Replace writes) d refusal) (sym there) refused)

-- ---- refusals

pub writing_refused : (this : Changing) (old new : Store) (node : ObjectNode) (writes : List BlockWrite) (refusal : Refusal) (counts : CopyCounts) → counts ≡ object_copies this.copies
    → (refusal ≡ NoMemory)
    ⊎ (((refusal ≡ NoSpace) × LackPlaces old.spaces (demands_of node counts writes) new.spaces) ⊎ IsWriteRefused old new this.missing.now node this.birth writes refusal)
    → IsWritingRefused this old new node writes refusal
writing_refused this old new node writes refusal counts same (inl memory) = inl memory
writing_refused this old new node writes refusal counts same (inr (inl (space, lack))) =
    inr (inl (space, subst (λ copies. LackPlaces old.spaces (demands_of node copies writes) new.spaces) same lack))
writing_refused this old new node writes refusal counts same (inr (inr refused)) = inr (inr refused)

-- behind a walk, where the object is empty
pub replace_refused : (this : Changing) (old mid new : Store) (node : ObjectNode) (writes : List BlockWrite) (refusal : Refusal) → mid.spaces ≡ old.spaces
    → IsWritingRefused this mid new (empty_node node.object_type node.data_sectors) writes refusal → IsReplaceRefused this old new node writes refusal
replace_refused this old mid new node writes refusal same (inl memory) = inl memory
replace_refused this old mid new node writes refusal same (inr (inl (space, lack))) = inr (inl (
  space,
  subst (λ spaces. LackPlaces spaces (demands_of (empty_node node.object_type node.data_sectors) (object_copies this.copies) writes) new.spaces) same lack,
))
replace_refused this old mid new node writes refusal same (inr (inr refused)) =
    inl (no_way_of_empty mid new this.missing.now node.object_type node.data_sectors this.birth writes refusal refused)

pub dnode_refused : (this : Changing) (old new : Store) (change : Change) (dnode : Dnode) (refusal : Refusal) (demands : List Demand) (Cause : Type 0)
    → demands ≡ demands_of_change this.copies change dnode → FitsChange change dnode
    → (Cause → (refusal ≡ NoMemory) ⊎ IsTreeRefused old new this.missing.now this.birth change dnode refusal)
    → (refusal ≡ NoMemory) ⊎ (((refusal ≡ NoSpace) × LackPlaces old.spaces demands new.spaces) ⊎ Cause)
    → IsDnodeRefused this old new dnode change refusal
dnode_refused this old new change dnode refusal demands Cause same fits tree (inl memory) = inl memory
dnode_refused this old new change dnode refusal demands Cause same fits tree (inr (inl (space, lack))) =
    inr (inl (space, fits, subst (λ (ds : List Demand). LackPlaces old.spaces ds new.spaces) same lack))
dnode_refused this old new change dnode refusal demands Cause same fits tree (inr (inr cause)) = by_tree (tree cause)
  where
    by_tree : (refusal ≡ NoMemory) ⊎ IsTreeRefused old new this.missing.now this.birth change dnode refusal → IsDnodeRefused this old new dnode change refusal
    by_tree (inl memory) = inl memory
    by_tree (inr refused) = inr (inr (inr refused))
