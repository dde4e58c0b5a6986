-- What a group makes of chains.
use Rattle.std.specs.Prelude.{ℕ, ◌≡◌, List}
use Rattle.block_pointer.specs.declared.block.Block.{Block}
use Rattle.dead_list.specs.Blocks.{AreDistinct, IsDifference}
use Rattle.dead_list.specs.Datasets.{Dataset, Pool}
use Rattle.dead_list.specs.Operations.{new_volume}
use Rattle.meta_objset.specs.declared.record.DatasetKind.TheVariants.{Volume}
use Rattle.meta_objset.specs.declared.record.DatasetRecord.{DatasetRecord}

-- the record of a volume that the group makes: nothing is before it, and it has no clones
pub record IsNewRecord (group : ℕ) (r : DatasetRecord) : Type 0 where
  pub kind : r.kind ≡ Volume
  pub created : r.created ≡ group
  pub previous : r.previous ≡ 0
  pub next : r.next ≡ 0
  pub clones : r.clones ≡ 0

-- a new volume with these blocks
abbrev pub volume_with : Pool → List Block → Dataset
volume_with pool blocks = record (new_volume pool) { blocks = blocks }

-- of a head's blocks some left, and others entered; each is there once
pub record AreRewritten (before after left entered : List Block) : Type 0 where
  pub leave : IsDifference before after left
  pub enter : IsDifference after before entered
  pub once : AreDistinct after
