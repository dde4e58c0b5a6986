-- Whether enough blocks are left to walk a set, and what a root reaches.
use Rattle.std.proofs.Common.{◌≡◌, ℕ, zero, suc, ◌+◌, ◌≤◌, List, [], ◌∷◌, ◌++◌, length, Option, Some, None, Contains, inl, inr, ap, ◌∙◌, subst, arith}
use Rattle.std.specs.List.{flat_map, range_with_len}
use Rattle.std.specs.Prelude.{not, ◌==◌}
use Rattle.std.proofs.lemmas.List.{length-append}
use Rattle.std.proofs.lemmas.List.Elements.{Contains-append_cases}
use Rattle.std.proofs.lemmas.List.Sums.{count_by-le-length}
use Rattle.block_pointer.specs.declared.block.Block.{Block}
use Rattle.block_store.specs.Blocks.{Contents}
use Rattle.block_store.specs.Steps.{OnlyReadsBlocks}
use Rattle.block_store.specs.Store.{Store}
use Rattle.dataset_groups.specs.Chains.{Reading}
use Rattle.dataset_groups.specs.ChainStanding.{HasChains}
use Rattle.dataset_groups.proofs.KnownBlocks.{IsKnown, free_or_not, volume_known}
use Rattle.dead_list.specs.Datasets.{Dataset, Pool}
use Rattle.dead_list.specs.Datasets.{IsReached as IsDatasetBlock}
use Rattle.dnode.specs.declared.dnode.Dnode.{Dnode}
use Rattle.dnode.specs.declared.dnode.Dnode.TheVariants.{Free, Object as Node}
use Rattle.dnode.specs.declared.object_set.ObjectSet.{ObjectSet}
use Rattle.dnode.specs.ObjectSet.{FitsObjectSet}
use Rattle.objset.specs.Nodes.{birth_of}
use Rattle.dnode_tree.proofs.Standing.{tree_blocks_known}
use Rattle.object_table.proofs.Tables.{spaces_stay}
use Rattle.objset.proofs.Kept.{within_set}
use Rattle.objset.specs.Objects.{Object, IsObject, AreObjects}
use Rattle.objset.specs.Within.{blocks_of_set, reads_of, IsSetWalked}
use Rattle.pool_model.specs.Pools.{PlainPool}
use Rattle.dataset_snapshots.specs.Finding.{IsMetaFound}
use Rattle.dataset_snapshots.specs.Laws.{ReachesLieApart}
use Rattle.dataset_snapshots.specs.Pools.{SpellsPool}
use Rattle.dataset_snapshots.specs.Reach.{reach_of, volume_blocks_of, AreVolumesWalked, IsReached}
use Rattle.dataset_snapshots.proofs.ChainWalks.{reached_by_rows}
use Rattle.dataset_snapshots.proofs.Holding.{first_or_later}

-- no more blocks of a set are read than it has
pub reads_few : (own below : List Block) → reads_of own below ≤ length (own ++ below)
reads_few own below = omega (arith, count_by-le-length (λ (b : Block). not (b.property.level == 0)) below, length-append own below)

-- the root's block, and what was found behind it
pub parts_are : (root : Block) (own own_is below below_is : List Block) → own ≡ own_is → below ≡ below_is → root ∷ own ++ below ≡ root ∷ own_is ++ below_is
parts_are root own own_is below below_is same also = ap (λ first. root ∷ first ++ below) same ∙ ap (λ last. root ∷ own_is ++ last) also

pub reached_by : (old mid now : Store) (missing : List ℕ) (birth : ℕ) (root : Block) (set : ObjectSet) (before left rest after : ℕ) (own below found : List Block) → IsMetaFound old.spaces birth root set
    → before ≡ left + 1 → OnlyReadsBlocks old mid missing → OnlyReadsBlocks old now missing → IsSetWalked mid.spaces set root.birth left rest own
    → AreVolumesWalked now.spaces set root.birth rest after below → found ≡ root ∷ own ++ below → IsReached old.spaces birth root before after found
reached_by old mid now missing birth root set before left rest after own below found meta count first both walked volumes are = record {
  set = set;
  meta = meta;
  left = left;
  count = omega (arith, count);
  own = own;
  mid = rest;
  walked = subst (λ spaces. IsSetWalked spaces set root.birth left rest own) (spaces_stay old mid missing first) walked;
  below = below;
  volumes = subst (λ spaces. AreVolumesWalked spaces set root.birth rest after below) (spaces_stay old now missing both) volumes;
  are = are;
}

-- ---- the blocks of a reach are known

in_range : (blocks : ℕ → List Block) (block : Block) (first count : ℕ) → Contains (flat_map blocks (range_with_len first count)) block → (number : ℕ) × Contains (blocks number) block
in_range blocks block first zero held = absurd (omega (arith, held.1))
in_range blocks block first (suc count) held =
    elim (Contains-append_cases (blocks first) (flat_map blocks (range_with_len (first + 1) count)) block held) [
      | inl here ↦ (first, here)
      | inr later ↦ in_range blocks block (first + 1) count later
    ]

object_known : (stored : Contents) (birth : ℕ) (node : Dnode) (object : Option Object) (blocks : List Block) (block : Block) → IsObject stored birth node object blocks → Contains blocks block → IsKnown stored block
object_known stored birth Free object blocks block is held = absurd (let there : Contains [] block = subst (λ bs. Contains bs block) is.1 held in omega (arith, there.1))
object_known stored birth (Node node) None blocks block is held = absurd is
object_known stored birth (Node node) (Some object) blocks block is held = let there = tree_blocks_known stored birth node object.array blocks is.3 block held in (there.1, there.2)

set_known : (stored : Contents) (birth : ℕ) (set : ObjectSet) (objects : ℕ → Option Object) (own : List Block) (blocks : ℕ → List Block) (block : Block) → AreObjects stored birth set objects own blocks
    → Contains (blocks_of_set set own blocks) block → IsKnown stored block
set_known stored birth set objects own blocks block are held =
    elim (Contains-append_cases own (flat_map blocks (range_with_len 0 set.objects)) block held) [
      | inl here ↦ let there = tree_blocks_known stored birth set.dnodes are.dnodes.array own are.dnodes.tree block here in (there.1, there.2)
      | inr later ↦
          let there = in_range blocks block 0 set.objects later in
          object_known stored (birth_of are.dnodes.births there.0) (are.nodes there.0) (objects there.0) (blocks there.0) block (are.each there.0) there.1
    ]

-- so are those that some dataset reaches
pub chains_known : (stored : Contents) (birth : ℕ) (objects : ℕ → Option Object) (pool : Pool) (readings : ℕ → Reading) (block : Block) → HasChains stored birth objects pool readings
    → IsDatasetBlock pool.datasets block → IsKnown stored block
chains_known stored birth objects pool readings block chains (m, held) = elim (free_or_not (pool.datasets m).kind) [
  | inl free ↦
      let there : Contains [] block = subst (λ (d : Dataset). Contains d.blocks block) (chains.none m free).is held in
      absurd (omega (arith, there.1))
  | inr some ↦
      let it = chains.each m some in
      volume_known stored birth it.r (pool.datasets m).blocks (readings m) block it.leads held
]

pub reach_known : (stored : Contents) (birth : ℕ) (root : Block) (pool : PlainPool) (is : SpellsPool stored birth root pool) (block : Block) → Contains (reach_of is) block → IsKnown stored block
reach_known stored birth root pool is block held =
    elim (first_or_later root block (blocks_of_set is.set is.own is.blocks ++ volume_blocks_of is) held) [
      | inl same ↦ subst (IsKnown stored) same (is.is_set.bytes, is.is_set.known)
      | inr later ↦ elim (Contains-append_cases (blocks_of_set is.set is.own is.blocks) (volume_blocks_of is) block later) [
        | inl here ↦ set_known stored root.birth is.set is.objects is.own is.blocks block is.are here
        | inr below ↦ chains_known stored root.birth is.objects is.datasets is.readings block is.chains (reached_by_rows is.datasets is.rows block below)
      ]
    ]

-- ---- and were born no later than the root

object_born : (stored : Contents) (birth : ℕ) (node : Dnode) (object : Option Object) (blocks : List Block) (block : Block) → IsObject stored birth node object blocks → Contains blocks block → block.birth ≤ birth
object_born stored birth Free object blocks block is held = absurd (let there : Contains [] block = subst (λ bs. Contains bs block) is.1 held in omega (arith, there.1))
object_born stored birth (Node node) None blocks block is held = absurd is
object_born stored birth (Node node) (Some object) blocks block is held = let there = tree_blocks_known stored birth node object.array blocks is.3 block held in there.0

set_born : (stored : Contents) (birth : ℕ) (set : ObjectSet) (objects : ℕ → Option Object) (own : List Block) (blocks : ℕ → List Block) (block : Block) → FitsObjectSet set
    → AreObjects stored birth set objects own blocks → Contains (blocks_of_set set own blocks) block → block.birth ≤ birth
set_born stored birth set objects own blocks block fits are held =
    elim (Contains-append_cases own (flat_map blocks (range_with_len 0 set.objects)) block held) [
      | inl here ↦ let there = tree_blocks_known stored birth set.dnodes are.dnodes.array own are.dnodes.tree block here in there.0
      | inr later ↦
          let there = in_range blocks block 0 set.objects later in
          object_born stored birth (are.nodes there.0) (objects there.0) (blocks there.0) block (within_set stored birth set objects own blocks fits are there.0) there.1
    ]

chains_born : (stored : Contents) (birth : ℕ) (objects : ℕ → Option Object) (pool : Pool) (readings : ℕ → Reading) (block : Block) → HasChains stored birth objects pool readings
    → IsDatasetBlock pool.datasets block → block.birth ≤ birth
chains_born stored birth objects pool readings block chains (m, held) =
    let fits = chains.sound.fits m in omega (arith, fits.born block held, fits.past, chains.now)

pub reach_born : (stored : Contents) (birth : ℕ) (root : Block) (pool : PlainPool) (is : SpellsPool stored birth root pool) (block : Block) → Contains (reach_of is) block → block.birth ≤ root.birth
reach_born stored birth root pool is block held =
    elim (first_or_later root block (blocks_of_set is.set is.own is.blocks ++ volume_blocks_of is) held) [
      | inl same ↦ subst (λ (b : Block). b.birth ≤ root.birth) same (omega arith)
      | inr later ↦ elim (Contains-append_cases (blocks_of_set is.set is.own is.blocks) (volume_blocks_of is) block later) [
        | inl here ↦ set_born stored root.birth is.set is.objects is.own is.blocks block is.is_set.spelled.0 is.are here
        | inr below ↦ chains_born stored root.birth is.objects is.datasets is.readings block is.chains (reached_by_rows is.datasets is.rows block below)
      ]
    ]

pub reaches_lie_apart : ReachesLieApart
reaches_lie_apart store stored birth root pool stores is block other i k place behind one two at there =
    let first = reach_known stored birth root pool is block one in
    let second = reach_known stored birth root pool is other two in
    stores.placed.apart block other first.0 second.0 i k place behind first.1 second.1 at there
