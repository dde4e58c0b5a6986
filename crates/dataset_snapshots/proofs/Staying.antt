-- Roots spell what they spelled where more is known.
use Rattle.std.proofs.Common.{ℕ, Option, arith}
use Rattle.block_store.specs.Blocks.{Contents, Extends}
use Rattle.dataset_groups.proofs.ChainFrames.{leads_stay}
use Rattle.dataset_groups.specs.Chains.{Reading}
use Rattle.dataset_groups.specs.ChainStanding.{HasChains}
use Rattle.dead_list.specs.Datasets.{Pool}
use Rattle.objset.proofs.Kept.{objects_stand}
use Rattle.objset.specs.Objects.{Object}
use Rattle.dataset_snapshots.specs.Laws.{RootsStay}

-- so do chains
pub chains_more : (old new : Contents) (group : ℕ) (objects : ℕ → Option Object) (pool : Pool) (readings : ℕ → Reading) → Extends old new
    → HasChains old group objects pool readings → HasChains new group objects pool readings
chains_more old new group objects pool readings more chains = record {
  sound = chains.sound;
  now = chains.now;
  each = λ number some. let it = chains.each number some in record {
    behind = it.behind;
    r = it.r;
    has = it.has;
    is = it.is;
    clones = it.clones;
    leads = leads_stay old new group group it.r (pool.datasets number).blocks (readings number) (omega arith) more it.leads;
    list_behind = it.list_behind;
    dead = it.dead;
  };
  none = chains.none;
  apart = chains.apart;
}

pub roots_stay : RootsStay
roots_stay old new bound birth root pool le more is = record {
  set = is.set;
  is_set = record {
    asks = record { property = is.is_set.asks.property; birth = let early = is.is_set.asks.birth in omega arith };
    bytes = is.is_set.bytes;
    known = more root is.is_set.bytes is.is_set.known;
    spelled = is.is_set.spelled;
  };
  kind = is.kind;
  objects = is.objects;
  own = is.own;
  blocks = is.blocks;
  are = objects_stand old new root.birth root.birth is.set is.objects is.own is.blocks (omega arith) (λ block bytes held known. more block bytes known) is.are;
  rows = is.rows;
  directory = is.directory;
  stale = is.stale;
  spans = is.spans;
  datasets = is.datasets;
  readings = is.readings;
  chains = chains_more old new root.birth is.objects is.datasets is.readings more is.chains;
  names = is.names;
}
