-- The blocks that datasets reach are known.
use Rattle.std.proofs.Common.{◌≡◌, ◌≢◌, ◌⊎◌, ℕ, zero, suc, ◌+◌, List, [], Option, Some, None, Contains, inl, inr, refl, sym, subst, arith}
use Rattle.std.specs.List.{flat_map, range_with_len}
use Rattle.std.proofs.lemmas.List.Elements.{Contains-append_cases}
use Rattle.block_pointer.specs.declared.block.Block.{Block}
use Rattle.block_store.specs.Blocks.{Contents}
use Rattle.dataset_destroys.specs.Chains.{LeadsTo, Reading, SpellsChains}
use Rattle.dataset_destroys.specs.DatasetChanges.{DatasetChanges}
use Rattle.dead_list.specs.Datasets.{Dataset, Free, Head, IsReached, Kind, Pool, Snapshot}
use Rattle.dnode.specs.declared.dnode.Dnode.{Dnode}
use Rattle.dnode.specs.declared.dnode.Dnode.TheVariants.{Free as NoObject, Object as Node}
use Rattle.dnode.specs.declared.object_set.ObjectSet.{ObjectSet}
use Rattle.objset.specs.Nodes.{birth_of}
use Rattle.dnode_tree.proofs.Standing.{tree_blocks_known}
use Rattle.meta_objset.specs.declared.record.DatasetRecord.{DatasetRecord}
use Rattle.objset.specs.Objects.{AreObjects, IsObject, Object}
use Rattle.objset.specs.Within.{blocks_of_set}
use Rattle.dataset_groups.proofs.ListParts.{first_or_later}

abbrev pub IsKnown : Contents → Block → Type 0
IsKnown stored block = (bytes : List ℕ) × (stored block ≡ Some bytes)

in_range : (blocks : ℕ → List Block) (block : Block) (first count : ℕ) → Contains (flat_map blocks (range_with_len first count)) block → (number : ℕ) × Contains (blocks number) block
in_range blocks block first zero held = absurd (omega (arith, held.1))
in_range blocks block first (suc count) held =
    elim (Contains-append_cases (blocks first) (flat_map blocks (range_with_len (first + 1) count)) block held) [
      | inl here ↦ (first, here)
      | inr later ↦ in_range blocks block (first + 1) count later
    ]

object_known : (stored : Contents) (birth : ℕ) (node : Dnode) (object : Option Object) (blocks : List Block) (block : Block) → IsObject stored birth node object blocks → Contains blocks block → IsKnown stored block
object_known stored birth NoObject object blocks block is held = absurd (let there : Contains [] block = subst (λ bs. Contains bs block) is.1 held in omega (arith, there.1))
object_known stored birth (Node node) None blocks block is held = absurd is
object_known stored birth (Node node) (Some object) blocks block is held = let there = tree_blocks_known stored birth node object.array blocks is.3 block held in (there.1, there.2)

set_known : (stored : Contents) (birth : ℕ) (set : ObjectSet) (objects : ℕ → Option Object) (own : List Block) (blocks : ℕ → List Block) (block : Block) → AreObjects stored birth set objects own blocks
    → Contains (blocks_of_set set own blocks) block → IsKnown stored block
set_known stored birth set objects own blocks block are held =
    elim (Contains-append_cases own (flat_map blocks (range_with_len 0 set.objects)) block held) [
      | inl here ↦ let there = tree_blocks_known stored birth set.dnodes are.dnodes.array own are.dnodes.tree block here in (there.1, there.2)
      | inr later ↦
          let there = in_range blocks block 0 set.objects later in
          object_known stored (birth_of are.dnodes.births there.0) (are.nodes there.0) (objects there.0) (blocks there.0) block (are.each there.0) there.1
    ]

-- those of a volume that a record leads to
pub volume_known : (stored : Contents) (group : ℕ) (r : DatasetRecord) (blocks : List Block) (reading : Reading) (block : Block) → LeadsTo stored group r blocks reading → Contains blocks block
    → IsKnown stored block
volume_known stored group r blocks reading block leads held =
    let is = leads.bytes in
    let all : List Block = blocks_of_set is.set is.has.own is.has.blocks in
    elim (first_or_later r.object_set block all (subst (λ (bs : List Block). Contains bs block) (sym leads.blocks_are) held)) [
      | inl same ↦ subst (IsKnown stored) same (is.is_set.bytes, is.is_set.known)
      | inr later ↦ set_known stored r.object_set.birth is.set is.has.objects is.has.own is.has.blocks block is.has.are later
    ]

pub free_or_not : (kind : Kind) → (kind ≡ Free) ⊎ (kind ≢ Free)
free_or_not Free = inl refl
free_or_not Head = inr (λ e. absurd (let wrong : Head ≡ Free = e in cc))
free_or_not Snapshot = inr (λ e. absurd (let wrong : Snapshot ≡ Free = e in cc))

module _ (known : Contents) (group : ℕ) (objects : ℕ → Option Object) (changes : DatasetChanges) (pool : Pool) (readings : ℕ → Reading) (spells : SpellsChains known group objects changes pool readings) where
  -- and those that any dataset reaches
  pub reached_known : (block : Block) → IsReached pool.datasets block → IsKnown known block
  reached_known block (m, held) = elim (free_or_not (pool.datasets m).kind) [
    | inl free ↦
        let there : Contains [] block = subst (λ (d : Dataset). Contains d.blocks block) (spells.none m free).is held in
        absurd (omega (arith, there.1))
    | inr some ↦
        let it = spells.each m some in
        volume_known known group it.r (pool.datasets m).blocks (readings m) block it.leads held
  ]
