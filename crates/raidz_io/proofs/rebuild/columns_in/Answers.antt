use Rattle.raidz_io.specs.Places.{sizes_of}
use Rattle.raidz_parity.specs.Stored.{parity_columns}
use Rattle.raidz_io.proofs.Rebuilt.{laid_out}
use Rattle.raidz_io.proofs.rebuild.columns_in.Goals as goal

pub new-requires : goal.new-requires
new-requires c =
    rw (c.in_ok-block.ensures, c.split_at.ensures.front, c.total.ensures, c.as_slice-2.ensures.value, c.sizes-sizes.ensures)
    (laid_out c.args.parity (sizes_of c.args.data.now) c.args.bytes.now (parity_columns c.in_ok-parity.parity) c.requires.stripe c.requires.whole
    (rw (c.as_slice.ensures.value, c.sizes-sizes.ensures) at c.in_ok-parity.ensures.sizes))
