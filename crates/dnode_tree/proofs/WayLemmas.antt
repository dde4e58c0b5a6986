-- Ways down a tree, step by step.
use Rattle.std.proofs.Common.{◌≡◌, ◌⊎◌, ℕ, zero, suc, ◌/◌, ◌%◌, ◌^◌, ◌<◌, ◌++◌, List, length, get_or, Option, Some, None, inl, inr, refl, ap, sym, ◌∙◌, subst}
use Rattle.std.proofs.lemmas.List.{get_or_default}
use Rattle.block_pointer.specs.declared.block.Block.{Block}
use Rattle.block_pointer.specs.declared.pointer.BlockPtr.{BlockPtr}
use Rattle.block_pointer.specs.declared.pointer.BlockPtr.TheVariants.{Hole, Block as At}
use Rattle.block_pointer.specs.declared.property.Property.{Property}
use Rattle.block_store.specs.declared.block.Asked.{Asked}
use Rattle.block_store.specs.declared.refusal.Refusal.{Refusal}
use Rattle.block_store.specs.declared.refusal.Refusal.TheVariants.{NoMemory, DiskFault, NoSpace, BadPointer, BadDigest, BadConfig}
use Rattle.block_store.specs.Spaces.{VdevSpace}
use Rattle.block_store.specs.Reading.{IsReadable, IsReadAs, IsLastFault}
use Rattle.block_store.specs.Store.{Store, outs}
use Rattle.block_store.specs.Steps.{OnlyReadsBlocks}
use Rattle.dnode.specs.declared.node.ObjectNode.{ObjectNode}
use Rattle.dnode_tree.specs.declared.reading.DataBlock.{DataBlock}
use Rattle.dnode_tree.specs.Subtree.{asked_of}
use Rattle.dnode_tree.specs.Ways.{AreReadAs, Reached, reached, asked_there, ComesTo, SpellsNoPointers, IsBad, IsCause, IsBlockFault, bytes_in, IsBlockFoundBelow, IsFound, IsBlockFound, IsRefusedBelow}
use Rattle.block_store.proofs.Steps.{reads_none, reads_on}

pub comes_at_once : (spaces : List VdevSpace) (property : ℕ → Property) (level birth : ℕ) (pointer : BlockPtr) (place : ℕ)
    → ComesTo spaces property level birth pointer place (reached level pointer birth)
comes_at_once spaces property zero birth pointer place = refl
comes_at_once spaces property (suc level) birth pointer place = inl refl

pub comes_down : (spaces : List VdevSpace) (property : ℕ → Property) (n level birth : ℕ) (pointer : BlockPtr) (place : ℕ) (there : Reached) (block : Block) (pointers : List BlockPtr)
    → n ≡ suc level → pointer ≡ At block → AreReadAs spaces (asked_of (property n) birth) block pointers
    → ComesTo spaces property level block.birth (get_or pointers (place / 128 ^ level) Hole) (place % 128 ^ level) there
    → ComesTo spaces property n birth pointer place there
comes_down spaces property n level birth pointer place there block pointers e is read below =
    let P : ℕ → Type 0 = λ k. AreReadAs spaces (asked_of (property k) birth) block pointers → ComesTo spaces property k birth pointer place there in
    subst P (sym e) (λ read. inr (block, pointers, is, read, below)) read

pub block_found : (spaces : List VdevSpace) (property : ℕ → Property) (level birth : ℕ) (pointer : BlockPtr) (place : ℕ) (block : Block) (found : DataBlock)
    → level ≡ 0 → pointer ≡ At block → IsReadAs spaces (asked_of (property level) birth) block found.bytes.items → found.birth ≡ block.birth
    → IsBlockFoundBelow spaces property (reached level pointer birth) place (Some found)
block_found spaces property level birth pointer place block found e is read born = record {
  below = record {
    there = reached level pointer birth;
    leads = comes_at_once spaces property level birth pointer place;
    has = (block, e, is, read);
  };
  born = (block, is, born);
}

pub hole_found : (spaces : List VdevSpace) (property : ℕ → Property) (level birth : ℕ) (pointer : BlockPtr) (place : ℕ)
    → pointer ≡ Hole → IsBlockFoundBelow spaces property (reached level pointer birth) place None
hole_found spaces property level birth pointer place is = record {
  below = record {
    there = reached level pointer birth;
    leads = comes_at_once spaces property level birth pointer place;
    has = is;
  };
  born = tt;
}

-- the bytes that were found with their birth
pub bytes_found : (spaces : List VdevSpace) (node : ObjectNode) (birth id : ℕ) (found : Option DataBlock) → IsBlockFound spaces node birth id found → IsFound spaces node birth id (bytes_in found)
bytes_found spaces node birth id found (inl (behind, is)) = inl (behind, ap bytes_in is)
bytes_found spaces node birth id found (inr (within, there)) = inr (within, there.below)

-- the child that the code takes is that of the definition
same_child : (pointers : List BlockPtr) (k : ℕ) (child : BlockPtr) → length pointers ≡ 128 → k < 128 → child ≡ get_or pointers k child → get_or pointers k Hole ≡ child
same_child pointers k child count low is =
    let room : k < length pointers = rw count low in
    get_or_default pointers k Hole child room ∙ sym is

-- one step down: a part and the child that its data block is below
module _ (spaces : List VdevSpace) (property : ℕ → Property) (n level birth : ℕ) (pointer : BlockPtr) (place size : ℕ) (block : Block) (pointers : List BlockPtr) (child : BlockPtr)
    (e : n ≡ suc level) (is : pointer ≡ At block) (read : AreReadAs spaces (asked_of (property n) birth) block pointers) (size_is : size ≡ 128 ^ level)
    (low : place / size < 128) (child_is : child ≡ get_or pointers (place / size) child) where
  pub leads_down : (there : Reached) → ComesTo spaces property level block.birth child (place % size) there → ComesTo spaces property n birth pointer place there
  leads_down there below =
      let same = same_child pointers (place / size) child read.spelled.0.count low child_is in
      let at_child : ComesTo spaces property level block.birth (get_or pointers (place / size) Hole) (place % size) there =
      subst (λ p. ComesTo spaces property level block.birth p (place % size) there) (sym same) below in
      comes_down spaces property n level birth pointer place there block pointers e is read
      (subst (λ s. ComesTo spaces property level block.birth (get_or pointers (place / s) Hole) (place % s) there) size_is at_child)

  pub found_down : (found : Option DataBlock) → IsBlockFoundBelow spaces property (reached level child block.birth) (place % size) found
      → IsBlockFoundBelow spaces property (reached n pointer birth) place found
  found_down found there = record {
    below = record { there = there.below.there; leads = leads_down there.below.there there.below.leads; has = there.below.has };
    born = there.born;
  }

pub fault_on : (old mid new : Store) (missing : List ℕ) (property : ℕ → Property) (there : Reached) (refusal : Refusal) → OnlyReadsBlocks old mid missing
    → IsCause mid new missing property there refusal → IsCause old new missing property there refusal
fault_on old mid new missing property there NoMemory reads fault = tt
fault_on old mid new missing property there BadPointer reads fault =
    subst (λ spaces. IsBad spaces property there) (ap (λ store. store.spaces) reads.rest) fault
fault_on old mid new missing property there DiskFault reads fault =
    record { block = fault.block; is = fault.is; mid = fault.mid; before = reads_on old mid fault.mid missing reads fault.before; fault = fault.fault }
fault_on old mid new missing property there BadDigest reads fault =
    record { block = fault.block; is = fault.is; mid = fault.mid; before = reads_on old mid fault.mid missing reads fault.before; fault = fault.fault }
fault_on old mid new missing property there NoSpace reads fault = fault
fault_on old mid new missing property there BadConfig reads fault = fault

-- the cause one step down is a cause
pub refused_down : (old mid new : Store) (missing : List ℕ) (property : ℕ → Property) (n level birth : ℕ) (pointer : BlockPtr) (place size : ℕ) (block : Block) (pointers : List BlockPtr) (child : BlockPtr)
    → n ≡ suc level → pointer ≡ At block → AreReadAs old.spaces (asked_of (property n) birth) block pointers → size ≡ 128 ^ level
    → place / size < 128 → child ≡ get_or pointers (place / size) child → OnlyReadsBlocks old mid missing
    → (refusal : Refusal) → IsRefusedBelow mid new missing property (reached level child block.birth) (place % size) refusal
    → IsRefusedBelow old new missing property (reached n pointer birth) place refusal
refused_down old mid new missing property n level birth pointer place size block pointers child e is read size_is low child_is reads refusal below =
    let spaces = ap (λ store. store.spaces) reads.rest in
    record {
      there = below.there;
      leads = leads_down old.spaces property n level birth pointer place size block pointers child e is read size_is low child_is below.there
          (subst (λ s. ComesTo s property level block.birth child (place % size) below.there) spaces below.leads);
      fault = fault_on old mid new missing property below.there refusal reads below.fault;
    }

-- why a pointer was not followed, as the code tells it
module _ (old new : Store) (missing : List ℕ) (property : ℕ → Property) (there : Reached) (block : Block) (is : there.pointer ≡ At block) where
  abbrev Why : Refusal → Type 0
  Why refusal = (refusal ≡ NoMemory)
      ⊎ (((refusal ≡ BadPointer) × ((¬ IsReadable old.spaces (asked_there property there) block) ⊎ ((0 < there.level) × SpellsNoPointers old.spaces (asked_there property there) block)))
      ⊎ IsLastFault old new (outs old ++ missing) block refusal)

  no_fault : (refusal : Refusal) → ((refusal ≡ DiskFault) → ⊥) → ((refusal ≡ BadDigest) → ⊥) → IsLastFault old new (outs old ++ missing) block refusal → ⊥
  no_fault refusal not_disk not_digest fault = elim fault.last.cause [ inl a ↦ not_disk a.0 | inr b ↦ not_digest b.0 ]

  pub fault_of : (refusal : Refusal) → Why refusal → IsCause old new missing property there refusal
  fault_of NoMemory why = tt
  fault_of BadPointer (inl e) = absurd cc
  fault_of BadPointer (inr (inl bad)) = record { block = block; is = is; why = bad.1 }
  fault_of BadPointer (inr (inr fault)) = absurd (no_fault BadPointer (λ e. cc) (λ e. cc) fault)
  fault_of DiskFault (inl e) = absurd cc
  fault_of DiskFault (inr (inl bad)) = absurd (let e = bad.0 in cc)
  fault_of DiskFault (inr (inr fault)) = record { block = block; is = is; mid = old; before = reads_none old missing; fault = fault }
  fault_of BadDigest (inl e) = absurd cc
  fault_of BadDigest (inr (inl bad)) = absurd (let e = bad.0 in cc)
  fault_of BadDigest (inr (inr fault)) = record { block = block; is = is; mid = old; before = reads_none old missing; fault = fault }
  fault_of NoSpace (inl e) = absurd cc
  fault_of NoSpace (inr (inl bad)) = absurd (let e = bad.0 in cc)
  fault_of NoSpace (inr (inr fault)) = absurd (no_fault NoSpace (λ e. cc) (λ e. cc) fault)
  fault_of BadConfig (inl e) = absurd cc
  fault_of BadConfig (inr (inl bad)) = absurd (let e = bad.0 in cc)
  fault_of BadConfig (inr (inr fault)) = absurd (no_fault BadConfig (λ e. cc) (λ e. cc) fault)

-- a refusal at a data block, as the store tells it
pub refused_data : (old new : Store) (missing : List ℕ) (property : ℕ → Property) (level birth : ℕ) (pointer : BlockPtr) (place : ℕ) (block : Block) (asked : Asked) (refusal : Refusal)
    → asked ≡ asked_of (property level) birth → pointer ≡ At block
    → (refusal ≡ NoMemory) ⊎ (((refusal ≡ BadPointer) × ¬ IsReadable old.spaces asked block) ⊎ IsLastFault old new (outs old ++ missing) block refusal)
    → IsRefusedBelow old new missing property (reached level pointer birth) place refusal
refused_data old new missing property level birth pointer place block asked refusal e is why = record {
  there = reached level pointer birth;
  leads = comes_at_once old.spaces property level birth pointer place;
  fault = fault_of old new missing property (reached level pointer birth) block is refusal
      (elim why [ inl same ↦ inl same | inr more ↦ elim more [ inl bad ↦ inr (inl (bad.0, inl (subst (λ a. ¬ IsReadable old.spaces a block) e bad.1))) | inr fault ↦ inr (inr fault) ] ]);
}

-- a refusal at an indirect block
pub refused_indirect : (old new : Store) (missing : List ℕ) (property : ℕ → Property) (level birth : ℕ) (pointer : BlockPtr) (place : ℕ) (block : Block) (asked : Asked) (refusal : Refusal)
    → 0 < level → asked ≡ asked_of (property level) birth → pointer ≡ At block → IsBlockFault old new missing asked block refusal
    → IsRefusedBelow old new missing property (reached level pointer birth) place refusal
refused_indirect old new missing property level birth pointer place block asked refusal above e is why = record {
  there = reached level pointer birth;
  leads = comes_at_once old.spaces property level birth pointer place;
  fault = fault_of old new missing property (reached level pointer birth) block is refusal
      (elim (subst (λ a. IsBlockFault old new missing a block refusal) e why) [
        | inl same ↦ inl same
        | inr more ↦ elim more [
          | inl bad ↦ inr (inl (bad.0, elim bad.1 [ inl unread ↦ inl unread | inr none ↦ inr (above, none) ]))
          | inr fault ↦ inr (inr fault)
        ]
      ]);
}
