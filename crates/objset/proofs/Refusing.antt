-- Why writes of dnodes are refused, and what they ask.
use Rattle.std.proofs.Common.{◌≡◌, ◌⊎◌, inl, inr, ℕ, ◌/◌, ◌<◌, List, ◌++◌, length, get_or, Contains, All, refl, sym, ap, ◌∙◌, subst, arith}
use Rattle.std.specs.List.{Any}
use Rattle.std.proofs.lemmas.List.{get_or-map, length-map}
use Rattle.std.proofs.lemmas.List.Elements.{All-map, All-weaker, Contains-append_right}
use Rattle.block_store.specs.declared.refusal.Refusal.{Refusal}
use Rattle.block_store.specs.declared.refusal.Refusal.TheVariants.{NoMemory, NoSpace}
use Rattle.block_store.specs.Spaces.{VdevSpace}
use Rattle.block_store.specs.Demands.{HavePlaces, LackPlaces}
use Rattle.block_store.specs.Steps.{OnlyReadsBlocks}
use Rattle.block_store.specs.Store.{Store}
use Rattle.block_store.proofs.Steps.{steps_read, steps_on}
use Rattle.dnode.specs.declared.node.ObjectNode.{ObjectNode}
use Rattle.dnode.specs.declared.object_set.ObjectSet.{ObjectSet}
use Rattle.dnode_tree.specs.declared.writes.BlockWrite.{BlockWrite}
use Rattle.dnode_tree.specs.declared.writes.CopyCounts.{CopyCounts}
use Rattle.dnode_tree.specs.Refused.{IsWayOverfull, IsWriteRefused}
use Rattle.dnode_tree.specs.Spots.{demands_of}
use Rattle.dnode_tree.specs.Tree.{property_of}
use Rattle.dnode_tree.specs.Ways.{root_of, IsRefused}
use Rattle.dnode_tree.specs.Writes.{AreInOrder}
use Rattle.dnode_tree.proofs.WayLemmas.{comes_at_once}
use Rattle.objset.specs.declared.node_writes.NodeWrite.{NodeWrite}
use Rattle.objset.specs.NodesRefused.{IsBlockUnread, IsNodeWriteRefused}
use Rattle.objset.specs.NodeWrites.{AreBlocksOf, HaveNodePlaces, LackNodePlaces, numbers_of}

-- memory may be wanted anywhere
pub refused_for_memory : (old new : Store) (missing : List ℕ) (node : ObjectNode) (birth id : ℕ) → IsRefused old new missing node birth id NoMemory
refused_for_memory old new missing node birth id = record {
  there = root_of node birth;
  leads = comes_at_once old.spaces (property_of node) (root_of node birth).level birth node.pointer id;
  fault = tt;
}

-- ---- the blocks of numbers

any_number : (P : ℕ → Type 0) (writes : List NodeWrite) → Any (λ write. P write.number) writes → Any P (numbers_of writes)
any_number P writes (k, write, low, is, there) = (
  k,
  write.number,
  omega (arith, low, length-map writes (λ (w : NodeWrite). w.number)),
  get_or-map (λ (w : NodeWrite). w.number) writes k write write.number low ∙ ap (λ (w : NodeWrite). w.number) is,
  there,
)

any_write : (P : ℕ → Type 0) (writes : List NodeWrite) (write : NodeWrite) → Contains writes write → P write.number → Any P (numbers_of writes)
any_write P writes write (k, low, is) there = any_number P writes (k, write, low, is, there)

pub blocks_of : (writes : List NodeWrite) (blocks : List BlockWrite) → AreInOrder blocks → All (λ block. Any (λ write. write.number / 32 ≡ block.id) writes) blocks
    → All (λ write. Any (λ block. block.id ≡ write.number / 32) blocks) writes → AreBlocksOf (numbers_of writes) blocks
blocks_of writes blocks order only reached = record {
  order = order;
  each = All-weaker (λ (block : BlockWrite). Any (λ (w : NodeWrite). w.number / 32 ≡ block.id) writes) (λ (block : BlockWrite). Any (λ number. number / 32 ≡ block.id) (numbers_of writes))
      (λ block one. any_number (λ number. number / 32 ≡ block.id) writes one) blocks only;
  all = All-map (λ number. Any (λ (block : BlockWrite). block.id ≡ number / 32) blocks) (λ (w : NodeWrite). w.number) writes reached;
}

pub places_had : (set : ObjectSet) (copies : CopyCounts) (writes : List NodeWrite) (blocks : List BlockWrite) (before mid after : List VdevSpace) → AreBlocksOf (numbers_of writes) blocks
    → mid ≡ before → HavePlaces mid (demands_of set.dnodes copies blocks) after → HaveNodePlaces set copies (numbers_of writes) before after
places_had set copies writes blocks before mid after are same have = (
  demands_of set.dnodes copies blocks,
  record { blocks = blocks; are = are; demands_are = refl },
  subst (λ spaces. HavePlaces spaces (demands_of set.dnodes copies blocks) after) same have,
)

places_lacked : (set : ObjectSet) (copies : CopyCounts) (writes : List NodeWrite) (blocks : List BlockWrite) (before mid after : List VdevSpace) → AreBlocksOf (numbers_of writes) blocks
    → mid ≡ before → LackPlaces mid (demands_of set.dnodes copies blocks) after → LackNodePlaces set copies (numbers_of writes) before after
places_lacked set copies writes blocks before mid after are same lack = (
  demands_of set.dnodes copies blocks,
  record { blocks = blocks; are = are; demands_are = refl },
  subst (λ spaces. LackPlaces spaces (demands_of set.dnodes copies blocks) after) same lack,
)

-- ---- refusals

-- the block of the first of the writes that are left
pub first_unread : (old mid new : Store) (missing : List ℕ) (set : ObjectSet) (birth : ℕ) (writes front rest : List NodeWrite) (first : NodeWrite) (refusal : Refusal)
    → writes ≡ front ++ rest → 0 < length rest → get_or rest 0 first ≡ first → OnlyReadsBlocks old mid missing
    → IsRefused mid new missing set.dnodes birth (first.number / 32) refusal → IsBlockUnread old new missing set birth writes refusal
first_unread old mid new missing set birth writes front rest first refusal parts some is reads why = record {
  write = first;
  is_one = subst (λ ws. Contains ws first) (sym parts) (Contains-append_right front rest first (0, some, is));
  mid = mid;
  before = reads;
  why = why;
}

abbrev pub Why : Store → Store → List ℕ → ObjectSet → CopyCounts → ℕ → List NodeWrite → Refusal → Type 0
Why old new missing set copies birth writes refusal =
    (refusal ≡ NoMemory)
    ⊎ (((refusal ≡ NoSpace) × LackNodePlaces set copies (numbers_of writes) old.spaces new.spaces)
    ⊎ IsNodeWriteRefused old new missing set birth (numbers_of writes) refusal)

pub reading_refused : (old new : Store) (missing : List ℕ) (set : ObjectSet) (copies : CopyCounts) (birth : ℕ) (writes : List NodeWrite) (refusal : Refusal)
    → (refusal ≡ NoMemory) ⊎ IsBlockUnread old new missing set birth writes refusal → Why old new missing set copies birth writes refusal
reading_refused old new missing set copies birth writes refusal (inl memory) = inl memory
reading_refused old new missing set copies birth writes refusal (inr there) = inr (inr (record {
  number = there.write.number;
  is_one = any_write (λ other. other / 32 ≡ there.write.number / 32) writes there.write there.is_one refl;
  mid = there.mid;
  before = steps_read old there.mid missing there.before;
  why = inl (inl there.why);
}))

writing_refused_so : (old mid new : Store) (missing : List ℕ) (set : ObjectSet) (copies : CopyCounts) (birth : ℕ) (writes : List NodeWrite) (blocks : List BlockWrite) (refusal : Refusal)
    → OnlyReadsBlocks old mid missing → AreInOrder blocks → All (λ block. Any (λ write. write.number / 32 ≡ block.id) writes) blocks
    → All (λ write. Any (λ block. block.id ≡ write.number / 32) blocks) writes
    → (refusal ≡ NoMemory) ⊎ (((refusal ≡ NoSpace) × LackPlaces mid.spaces (demands_of set.dnodes copies blocks) new.spaces)
    ⊎ IsWriteRefused mid new missing set.dnodes birth blocks refusal)
    → Why old new missing set copies birth writes refusal
writing_refused_so old mid new missing set copies birth writes blocks refusal reads order only reached (inl memory) = inl memory
writing_refused_so old mid new missing set copies birth writes blocks refusal reads order only reached (inr (inl (space, lack))) =
    inr (inl (
      space,
      places_lacked set copies writes blocks old.spaces mid.spaces new.spaces (blocks_of writes blocks order only reached) (ap (λ (s : Store). s.spaces) reads.rest) lack,
    ))
writing_refused_so old mid new missing set copies birth writes blocks refusal reads order only reached (inr (inr there)) =
    let one : Any (λ (w : NodeWrite). w.number / 32 ≡ there.write.id) writes =
    subst (λ (b : BlockWrite). Any (λ (w : NodeWrite). w.number / 32 ≡ b.id) writes) there.is_one.2 (only there.is_one.0 there.write there.is_one.1) in
    let number : ℕ = one.1.number in
    let here : number / 32 ≡ there.write.id = one.4 in
    inr (inr (record {
      number = number;
      is_one = any_number (λ other. other / 32 ≡ number / 32) writes (one.0, one.1, one.2, one.3, refl);
      mid = there.mid;
      before = steps_on old mid there.mid missing (steps_read old mid missing reads) there.before;
      why = elim there.why [
        | inl unread ↦ inl (inl (subst (λ id. IsRefused there.mid new missing set.dnodes birth id refusal) (sym here) unread))
        | inr over ↦ inr (over.0, subst (λ id. IsWayOverfull there.mid.spaces set.dnodes birth id) (sym here) over.1)
      ];
    }))

pub writing_refused : (old mid new : Store) (missing : List ℕ) (set : ObjectSet) (copies : CopyCounts) (birth : ℕ) (writes : List NodeWrite) (changed blocks : List BlockWrite) (refusal : Refusal)
    → changed ≡ blocks → OnlyReadsBlocks old mid missing → AreInOrder blocks → All (λ block. Any (λ write. write.number / 32 ≡ block.id) writes) blocks
    → All (λ write. Any (λ block. block.id ≡ write.number / 32) blocks) writes
    → (refusal ≡ NoMemory) ⊎ (((refusal ≡ NoSpace) × LackPlaces mid.spaces (demands_of set.dnodes copies changed) new.spaces)
    ⊎ IsWriteRefused mid new missing set.dnodes birth changed refusal)
    → Why old new missing set copies birth writes refusal
writing_refused old mid new missing set copies birth writes changed blocks refusal same reads order only reached why =
    writing_refused_so old mid new missing set copies birth writes blocks refusal reads order only reached
    (subst (λ (bs : List BlockWrite). (refusal ≡ NoMemory) ⊎ (((refusal ≡ NoSpace) × LackPlaces mid.spaces (demands_of set.dnodes copies bs) new.spaces)
    ⊎ IsWriteRefused mid new missing set.dnodes birth bs refusal)) same why)
