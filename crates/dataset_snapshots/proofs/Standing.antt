-- A root stands on the blocks that it leads to.
use Rattle.std.proofs.Common.{◌≢◌, ℕ, zero, suc, ◌+◌, ◌<◌, ◌≤◌, List, [], ◌∷◌, ◌++◌, Option, Contains, inl, inr, refl, ◌∙◌, arith, subst, sym}
use Rattle.std.specs.List.{flat_map, range_with_len}
use Rattle.std.proofs.lemmas.Bool.{cases_eq}
use Rattle.std.proofs.lemmas.List.Elements.{Contains-append_left, Contains-append_right}
use Rattle.block_pointer.specs.declared.block.Block.{Block}
use Rattle.block_store.specs.Blocks.{Contents}
use Rattle.dataset_groups.specs.Chains.{LeadsTo, Reading}
use Rattle.dataset_groups.specs.ChainStanding.{HasChains}
use Rattle.dead_list.specs.Datasets.{Free, Pool}
use Rattle.dnode.specs.declared.object_set.ObjectSet.{ObjectSet}
use Rattle.dnode_tree.proofs.Standing.{first_in}
use Rattle.meta_objset.specs.declared.record.DatasetRecord.{DatasetRecord}
use Rattle.objset.proofs.Kept.{objects_stand}
use Rattle.objset.specs.Objects.{Object, AreObjects}
use Rattle.objset.specs.Within.{blocks_of_set}
use Rattle.volume.specs.Volume.{IsVolume}
use Rattle.dataset_snapshots.specs.Laws.{KeepsEach, ReachIsKnown, RootsStandOnTheirReach}
use Rattle.dataset_snapshots.specs.Reach.{volume_blocks_of}
use Rattle.dataset_snapshots.proofs.BlocksOnce.{numbered}
use Rattle.dataset_snapshots.proofs.ChainWalks.{in_reach}
use Rattle.dataset_groups.proofs.KeptVolumes.{HasVolumeBlocks, volume_blocks}
use Rattle.dataset_snapshots.proofs.Reaching.{reach_born, reach_known}

-- ---- parts of what is kept

front_kept : (old new : Contents) (xs ys : List Block) → KeepsEach old new (xs ++ ys) → KeepsEach old new xs
front_kept old new xs ys keeps block bytes held known = keeps block bytes (Contains-append_left xs ys block held) known

back_kept : (old new : Contents) (xs ys : List Block) → KeepsEach old new (xs ++ ys) → KeepsEach old new ys
back_kept old new xs ys keeps block bytes held known = keeps block bytes (Contains-append_right xs ys block held) known

in_range : (blocks : ℕ → List Block) (block : Block) (first count number : ℕ) → first ≤ number → number < first + count → Contains (blocks number) block
    → Contains (flat_map blocks (range_with_len first count)) block
in_range blocks block first zero number from low held = absurd (omega (arith, from, low))
in_range blocks block first (suc count) number from low held = elim (cases_eq first number) [
  | inl is ↦ Contains-append_left (blocks first) (flat_map blocks (range_with_len (first + 1) count)) block (rw is held)
  | inr not ↦ Contains-append_right (blocks first) (flat_map blocks (range_with_len (first + 1) count)) block
      (in_range blocks block (first + 1) count number (omega (arith, from, not)) (omega (arith, low)) held)
]

-- ---- sets and volumes

set_stands : (old new : Contents) (birth : ℕ) (set : ObjectSet) (objects : ℕ → Option Object) (own : List Block) (blocks : ℕ → List Block) → KeepsEach old new (blocks_of_set set own blocks)
    → AreObjects old birth set objects own blocks → AreObjects new birth set objects own blocks
set_stands old new birth set objects own blocks keeps are = objects_stand old new birth birth set objects own blocks (omega arith)
    (λ block bytes held known. elim held [
      | inl here ↦ front_kept old new own (flat_map blocks (range_with_len 0 set.objects)) keeps block bytes here known
      | inr there ↦ back_kept old new own (flat_map blocks (range_with_len 0 set.objects)) keeps block bytes
          (in_range blocks block 0 set.objects there.0 (omega arith) (omega (arith, numbered old birth set objects own blocks are there.0 block there.1)) there.1) known
    ]) are

volume_stands : (old new : Contents) (birth : ℕ) (block : Block) (size block_size : ℕ) (array : List ℕ) (is : IsVolume old birth block size block_size array) → KeepsEach old new (volume_blocks is)
    → HasVolumeBlocks new birth block size block_size array (volume_blocks is)
volume_stands old new birth block size block_size array is keeps = (
  record {
    set = is.set;
    is_set = record {
      asks = is.is_set.asks;
      bytes = is.is_set.bytes;
      known = keeps block is.is_set.bytes (first_in block (blocks_of_set is.set is.has.own is.has.blocks)) is.is_set.known;
      spelled = is.is_set.spelled;
    };
    kind = is.kind;
    has = record {
      objects = is.has.objects;
      own = is.has.own;
      blocks = is.has.blocks;
      are = set_stands old new block.birth is.set is.has.objects is.has.own is.has.blocks (back_kept old new (block ∷ []) (blocks_of_set is.set is.has.own is.has.blocks) keeps) is.has.are;
      data_is = is.has.data_is;
    };
  },
  refl,
)

-- ---- chains and roots

-- so does what a record leads to
leads_stand : (old new : Contents) (birth : ℕ) (r : DatasetRecord) (blocks : List Block) (reading : Reading) → KeepsEach old new blocks → LeadsTo old birth r blocks reading → LeadsTo new birth r blocks reading
leads_stand old new birth r blocks reading keeps leads =
    let still = volume_stands old new birth r.object_set r.size r.block_size reading.array leads.bytes (subst (KeepsEach old new) (sym leads.blocks_are) keeps) in
    record { size = leads.size; block_size = leads.block_size; bytes = still.0; blocks_are = still.1 ∙ leads.blocks_are }

-- and so do chains, where the blocks of each dataset stay known
pub chains_stand : (old new : Contents) (group : ℕ) (objects : ℕ → Option Object) (pool : Pool) (readings : ℕ → Reading) → ((m : ℕ) → (pool.datasets m).kind ≢ Free → KeepsEach old new (pool.datasets m).blocks)
    → HasChains old group objects pool readings → HasChains new group objects pool readings
chains_stand old new group objects pool readings keeps chains = record {
  sound = chains.sound;
  now = chains.now;
  each = λ number some. let it = chains.each number some in record {
    behind = it.behind;
    r = it.r;
    has = it.has;
    is = it.is;
    clones = it.clones;
    leads = leads_stand old new group it.r (pool.datasets number).blocks (readings number) (keeps number some) it.leads;
    list_behind = it.list_behind;
    dead = it.dead;
  };
  none = chains.none;
  apart = chains.apart;
}

pub roots_stand : RootsStandOnTheirReach
roots_stand old new bound birth root pool le is keeps =
    let own = blocks_of_set is.set is.own is.blocks in
    let below = volume_blocks_of is in
    let behind = back_kept old new (root ∷ []) (own ++ below) keeps in
    let of_volumes = back_kept old new own below behind in (
      record {
        set = is.set;
        is_set = record {
          asks = record { property = is.is_set.asks.property; birth = let early = is.is_set.asks.birth in omega arith };
          bytes = is.is_set.bytes;
          known = keeps root is.is_set.bytes (first_in root (own ++ below)) is.is_set.known;
          spelled = is.is_set.spelled;
        };
        kind = is.kind;
        objects = is.objects;
        own = is.own;
        blocks = is.blocks;
        are = set_stands old new root.birth is.set is.objects is.own is.blocks (front_kept old new own below behind) is.are;
        rows = is.rows;
        directory = is.directory;
        stale = is.stale;
        spans = is.spans;
        datasets = is.datasets;
        readings = is.readings;
        chains = chains_stand old new root.birth is.objects is.datasets is.readings
            (λ m some block bytes held known. of_volumes block bytes (in_reach is.datasets is.chains.sound block is.readings is.rows pool is.names m held) known) is.chains;
        names = is.names;
      },
      refl,
      refl,
      λ spaces has. record {
        copied = record { meta = has.copied.meta; others = has.copied.others };
        once = has.once;
        apart = has.apart;
        maps = has.maps;
      },
      refl,
    )

pub reach_is_known : ReachIsKnown
reach_is_known = record {
  known = reach_known;
  born = reach_born;
  stays = λ old new bound birth root pool le more is. roots_stand old new bound birth root pool le is (λ block bytes held known. more block bytes known);
}
