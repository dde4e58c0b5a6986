-- What the plan of a new volume is never refused for.
use Rattle.std.proofs.Common.{◌≡◌, ◌≢◌, ℕ, zero, suc, List, [], ◌∷◌, inl, inr, sym, subst, ◌∙◌, arith}
use Rattle.std.specs.Prelude.{Any}
use Rattle.block_pointer.specs.declared.property.Property.{Property}
use Rattle.block_store.specs.declared.refusal.Refusal.{Refusal}
use Rattle.block_store.specs.declared.refusal.Refusal.TheVariants.{NoMemory, NoSpace, BadPointer, BadConfig}
use Rattle.block_store.specs.Store.{Store}
use Rattle.dnode.specs.declared.object_set.ObjectSet.{ObjectSet}
use Rattle.objset.specs.NodesRefused.{IsNodeWriteRefused}
use Rattle.dnode_tree.specs.Tree.{property_of}
use Rattle.dnode_tree.specs.Ways.{IsCause, Reached}
use Rattle.objset.specs.declared.changes.Change.{Change}
use Rattle.objset.specs.declared.changes.ObjectChange.{ObjectChange}
use Rattle.objset.specs.Refused.{IsObjectRefused, IsTreeRefused}
use Rattle.volume.specs.Demands.{IsCreation, IsPlanRefused}

no_cause : (old new : Store) (missing : List ℕ) (property : ℕ → Property) (there : Reached) (refusal : Refusal) → IsCause old new missing property there refusal → refusal ≢ BadConfig
no_cause old new missing property there refusal cause is = subst (λ (r : Refusal). IsCause old new missing property there r) is cause

no_pointer : (refusal : Refusal) → refusal ≡ BadPointer → refusal ≢ BadConfig
no_pointer refusal bad is = let clash : BadPointer ≡ BadConfig = sym bad ∙ is in cc

of_nodes : (old new : Store) (missing : List ℕ) (set : ObjectSet) (birth : ℕ) (numbers : List ℕ) (refusal : Refusal) → IsNodeWriteRefused old new missing set birth numbers refusal → refusal ≢ BadConfig
of_nodes old new missing set birth numbers refusal refused =
    elim refused.why [
      | inl node ↦
          elim node [
            | inl way ↦ no_cause refused.mid new missing (property_of set.dnodes) way.there refusal way.fault
            | inr bad ↦ no_pointer refusal bad.0
          ]
      | inr over ↦ no_pointer refusal over.0
    ]

-- an object that is made has no tree that could be refused
of_object : (old new : Store) (missing : List ℕ) (set : ObjectSet) (birth block_size : ℕ) (change : Change) (refusal : Refusal) → IsCreation block_size change
    → IsObjectRefused old new missing set birth (record { number = 1; change = change }) refusal → refusal ≢ BadConfig
of_object old new missing set birth block_size change refusal creation refused =
    elim refused.why [
      | inl bad ↦ no_pointer refusal bad.0
      | inr tree ↦ absurd (subst (λ (c : Change). IsTreeRefused refused.mid new missing birth c refused.dnode refusal) creation.2 tree)
    ]

one_only : {X : Type 0} (P : X → Type 0) (x : X) → Any P (x ∷ []) → P x
one_only P x (zero, y, within, at, here) = subst P (sym at) here
one_only P x (suc k, y, within, at, here) = absurd (omega (arith, within))

pub not_config : (old new : Store) (set : ObjectSet) (before birth block_size : ℕ) (change : Change) (refusal : Refusal) → IsCreation block_size change
    → IsPlanRefused old new set before birth change refusal
    → refusal ≢ BadConfig
not_config old new set before birth block_size change refusal creation (inl memory) = λ is. let clash : NoMemory ≡ BadConfig = sym memory ∙ is in cc
not_config old new set before birth block_size change refusal creation (inr (inl space)) = λ is. let clash : NoSpace ≡ BadConfig = sym space.0 ∙ is in cc
not_config old new set before birth block_size change refusal creation (inr (inr (inl late))) = no_pointer refusal late.0
not_config old new set before birth block_size change refusal creation (inr (inr (inr (inl nodes)))) = of_nodes old new [] set birth (1 ∷ []) refusal nodes
not_config old new set before birth block_size change refusal creation (inr (inr (inr (inr (inr late))))) = no_pointer refusal late.0
not_config old new set before birth block_size change refusal creation (inr (inr (inr (inr (inl objects))))) =
    of_object old new [] set birth block_size change refusal creation
    (one_only (λ (c : ObjectChange). IsObjectRefused old new [] set birth c refusal) (record { number = 1; change = change }) objects)
