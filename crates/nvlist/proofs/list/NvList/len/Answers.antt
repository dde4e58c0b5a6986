use Rattle.std.proofs.Common.{arith}
use Rattle.nvlist.specs.declared.list.NvList.{out-NvList}
use Rattle.nvlist.proofs.Appends.{counted}
use Rattle.nvlist.proofs.list.NvList.len.Goals as goal

pub returns : goal.returns
returns c =
    let pairs = (out-NvList c.args.self.now).pairs in
    omega (arith, counted c.args.self.now, pairs.ok.0, c.len.ensures)
