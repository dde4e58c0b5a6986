-- Why a walk behind reads was refused.
use Rattle.std.proofs.Common.{ℕ, List, ap, subst}
use Rattle.block_pointer.specs.declared.property.Property.{Property}
use Rattle.block_store.specs.declared.refusal.Refusal.{Refusal}
use Rattle.block_store.specs.Steps.{OnlyReadsBlocks}
use Rattle.block_store.specs.Store.{Store}
use Rattle.dnode_tree.specs.Ways.{Reached, LeadsTo, IsWalkRefused}
use Rattle.dnode_tree.proofs.WayLemmas.{fault_on}

pub walk_refused_on : (old mid new : Store) (missing : List ℕ) (property : ℕ → Property) (here : Reached) (refusal : Refusal) → OnlyReadsBlocks old mid missing
    → IsWalkRefused mid new missing property here refusal → IsWalkRefused old new missing property here refusal
walk_refused_on old mid new missing property here refusal reads (place, low, why) = (
  place,
  low,
  record {
    there = why.there;
    leads = subst (λ spaces. LeadsTo spaces property here place why.there) (ap (λ (s : Store). s.spaces) reads.rest) why.leads;
    fault = fault_on old mid new missing property why.there refusal reads why.fault;
  },
)
