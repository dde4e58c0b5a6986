-- The volumes of a pool whose records and dead lists are those of datasets.
use Rattle.std.proofs.Common.{◌≡◌, ◌≢◌, ℕ, ◌<◌, List, [], ◌∷◌, length, Option, AllPairs, refl, sym, ap, ◌∙◌, subst, arith}
use Rattle.std.specs.List.{AllZip}
use Rattle.std.proofs.lemmas.List.{get_or-map, length-map}
use Rattle.block_pointer.specs.declared.block.Block.{Block}
use Rattle.block_store.specs.Blocks.{Contents}
use Rattle.dataset_groups.specs.Chains.{Reading, kind_of}
use Rattle.dataset_groups.specs.ChainStanding.{HasChains, StandsAt}
use Rattle.dataset_groups.specs.Names.{IsOfKind, NamesPool, NamesVolume}
use Rattle.dead_list.specs.Datasets.{Free, Head, Kind, Pool, Snapshot}
use Rattle.meta_objset.specs.declared.directory.DirectoryRow.{DirectoryRow}
use Rattle.meta_objset.specs.declared.record.DatasetKind.{DatasetKind}
use Rattle.meta_objset.specs.declared.record.DatasetKind.TheVariants as kinds
use Rattle.objset.specs.Objects.{Object}
use Rattle.pool_model.specs.declared.volume.PlainVolume.{PlainVolume}
use Rattle.pool_model.specs.declared.volume.VolumeKind.{VolumeKind}
use Rattle.pool_model.specs.declared.volume.VolumeKind.TheVariants as volumes
use Rattle.pool_model.specs.Pools.{PlainPool}
use Rattle.volume.specs.Volume.{IsVolume}
use Rattle.volume.specs.Walking.{blocks_of_volume}
use Rattle.dataset_snapshots.specs.Pools.{IsRecordKind, SpellsDataset, SpellsPool}
use Rattle.dataset_snapshots.specs.Reach.{blocks_of_dataset}

-- ---- kinds

-- what a row names is there
pub not_free_of : (kind : VolumeKind) (it : Kind) → IsOfKind kind it → it ≢ Free
not_free_of volumes.Volume it is free = let wrong : Head ≡ Free = sym is ∙ free in cc
not_free_of volumes.Snapshot it is free = let wrong : Snapshot ≡ Free = sym is ∙ free in cc

-- a head has the record of a volume, and a snapshot that of a snapshot
pub record_kind : (kind : VolumeKind) (it : Kind) (of : DatasetKind) → IsOfKind kind it → it ≡ kind_of of → IsRecordKind kind of
record_kind volumes.Volume it kinds.Volume is same = refl
record_kind volumes.Volume it kinds.Snapshot is same = absurd (let wrong : Head ≡ Snapshot = sym is ∙ same in cc)
record_kind volumes.Snapshot it kinds.Volume is same = absurd (let wrong : Snapshot ≡ Head = sym is ∙ same in cc)
record_kind volumes.Snapshot it kinds.Snapshot is same = refl

-- a record is of one kind
pub one_kind : (kind other : VolumeKind) (of : DatasetKind) → IsRecordKind kind of → IsRecordKind other of → kind ≡ other
one_kind volumes.Volume volumes.Volume of is also = refl
one_kind volumes.Volume volumes.Snapshot of is also = absurd (let wrong : kinds.Volume ≡ kinds.Snapshot = sym is ∙ also in cc)
one_kind volumes.Snapshot volumes.Volume of is also = absurd (let wrong : kinds.Snapshot ≡ kinds.Volume = sym is ∙ also in cc)
one_kind volumes.Snapshot volumes.Snapshot of is also = refl

-- ---- the volume of a row

module _ (stored : Contents) (birth : ℕ) (objects : ℕ → Option Object) (pool : Pool) (readings : ℕ → Reading) where
  -- the row spells the volume, whose blocks are those of the dataset
  abbrev pub IsSpelled : DirectoryRow → PlainVolume → Type 0
  IsSpelled row volume = (is : SpellsDataset stored birth objects row volume) × (blocks_of_dataset is ≡ (pool.datasets row.object).blocks)

  -- a volume with these blocks
  abbrev HasThem : Block → ℕ → ℕ → List Block → List ℕ → Type 0
  HasThem block size block_size blocks array =
      (is : IsVolume stored birth block size block_size array) × (blocks_of_volume block is.set is.has.own is.has.blocks ≡ blocks)

  pub spelled_by : (row : DirectoryRow) (volume : PlainVolume) → NamesVolume pool readings row volume → StandsAt stored birth objects pool readings row.object → IsSpelled row volume
  spelled_by row volume named stands =
      let r = stands.r in
      let leads = stands.leads in
      let volume_is = subst (HasThem r.object_set r.size r.block_size (pool.datasets row.object).blocks) named.array (leads.bytes, leads.blocks_are) in (
        record {
          name = named.name;
          good = named.good;
          behind = stands.behind.0;
          r = r;
          has = stands.has;
          is = record {
            kind = record_kind volume.kind (pool.datasets row.object).kind r.kind named.kind stands.is.kind;
            size = leads.size ∙ ap length named.array;
            block_size = leads.block_size ∙ named.block_size;
            created = sym stands.is.created ∙ named.created;
          };
          bytes = volume_is.0;
        },
        volume_is.1,
      )

  module _ (chains : HasChains stored birth objects pool readings) where
    pub row_stands : (row : DirectoryRow) (volume : PlainVolume) → NamesVolume pool readings row volume → StandsAt stored birth objects pool readings row.object
    row_stands row volume named =
        chains.each row.object (not_free_of volume.kind (pool.datasets row.object).kind named.kind)

    pub row_spelled : (row : DirectoryRow) (volume : PlainVolume) → NamesVolume pool readings row volume → IsSpelled row volume
    row_spelled row volume named = spelled_by row volume named (row_stands row volume named)

    pub volumes_by : (rows : List DirectoryRow) (plain : List PlainVolume) → AllZip (NamesVolume pool readings) rows plain → AllZip (SpellsDataset stored birth objects) rows plain
    volumes_by [] [] named = tt
    volumes_by (row ∷ rows) (volume ∷ plain) named = ((row_spelled row volume named.0).0, volumes_by rows plain named.1)
    volumes_by [] (volume ∷ plain) named = absurd named
    volumes_by (row ∷ rows) [] named = absurd named

-- ---- rows

module _ (pool : Pool) (readings : ℕ → Reading) (rows : List DirectoryRow) (plain : PlainPool) (names : NamesPool pool readings rows plain) where
  -- no two rows have one object
  pub rows_apart : AllPairs (λ (row later : DirectoryRow). row.object ≢ later.object) rows
  rows_apart i j d less low same =
      let object_at : DirectoryRow → ℕ = λ row. row.object in
      names.numbers.once i j d.object less (subst (λ n. j < n) (sym (length-map rows object_at)) low)
      (get_or-map object_at rows i d d.object (omega (arith, less, low)) ∙ same ∙ sym (get_or-map object_at rows j d d.object low))

-- ---- roots

module _ {stored : Contents} {birth : ℕ} {root : Block} {pool : PlainPool} (is : SpellsPool stored birth root pool) where
  -- each row spells its volume
  abbrev pub volumes_of : AllZip (SpellsDataset stored root.birth is.objects) is.rows pool.volumes
  volumes_of = volumes_by stored root.birth is.objects is.datasets is.readings is.chains is.rows pool.volumes is.names.volumes

  -- no two rows have one object
  pub apart_of : AllPairs (λ (row later : DirectoryRow). row.object ≢ later.object) is.rows
  apart_of = rows_apart is.datasets is.readings is.rows pool is.names
