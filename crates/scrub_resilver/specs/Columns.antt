-- The columns of a block at the place of a copy.
use Rattle.std.specs.Prelude.{ℕ, ◌≡◌, List}
use Rattle.raidz_io.specs.declared.vdev.Extent.{Extent}
use Rattle.raidz_io.specs.Stands.{parity_of, IsLayout, AreBytesOf}
use Rattle.scrub_resilver.specs.declared.spread.SpreadBlock.{SpreadBlock}

-- they are the columns of these bytes there
pub record IsSpread (extent : Extent) (block : List ℕ) (it : SpreadBlock) : Type 0 where
  pub is_layout : IsLayout extent it.layout.items
  pub are_bytes : AreBytesOf extent block it.layout.items it.columns
  pub parity : it.parity ≡ parity_of extent
