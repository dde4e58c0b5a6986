use Rattle.std.proofs.Common.{◌≤◌, ◌^◌, arith}
use Rattle.std.proofs.Math.Nat.{pow-le-pow_right}
use Rattle.block_store.proofs.shape.VdevShape.metaslab_sectors.Goals as goal

pub returns-clause-bound : goal.returns-clause-bound
returns-clause-bound c =
    let bound : 2 ^ c.args.self.metaslab_shift ≤ 2 ^ 20 = pow-le-pow_right (omega arith) c.args.self.most_shift in
    omega (arith, bound)
