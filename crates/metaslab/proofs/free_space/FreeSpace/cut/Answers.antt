use Rattle.std.specs.Prelude.{IfSome}
use Rattle.space_map.specs.Sectors.{contains}
use Rattle.metaslab.specs.Fits.{AreSizesOf}
use Rattle.metaslab.proofs.Cuts.{cut_sorted, cut_of_taking}
use Rattle.metaslab.proofs.free_space.FreeSpace.cut.Goals as goal

pub invariant_of-self-2 : goal.invariant_of-self-2
invariant_of-self-2 c =
    let old = c.self.inside.runs.free in
    let new = c.change.new.self.free in
    let whole = c.args.whole in
    let run = c.args.run in
    let is = rw (← c.self.view_is) at c.requires.whole in
    let cut = cut_of_taking old new whole run is c.requires.low c.requires.high c.requires.some c.in-Ok.ensures.ok in
    let sizes : IfSome c.change.new.self.sizes (AreSizesOf (contains old.runs)) = rw c.change.ensures.sizes c.self.invariant in
    rw (c.insert-2.ensures.free, c.insert.ensures.free, c.remove.ensures.free)
    (cut_sorted (contains old.runs) (contains new.runs) whole.start whole.len run.start run.len c.change.new.self.sizes c.remove.new.self.sizes c.insert.new.self.sizes c.insert-2.new.self.sizes
    cut sizes c.remove.ensures.sizes c.insert.ensures.sizes c.insert-2.ensures.sizes)
