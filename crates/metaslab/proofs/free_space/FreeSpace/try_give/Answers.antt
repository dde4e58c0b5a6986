use Rattle.std.specs.Prelude.{IfSome}
use Rattle.space_map.specs.Sectors.{contains}
use Rattle.metaslab.specs.Fits.{AreSizesOf}
use Rattle.metaslab.proofs.Cuts.{give_sorted, cut_of_giving}
use Rattle.metaslab.proofs.free_space.FreeSpace.try_give.Goals as goal

pub invariant_of-self-2 : goal.invariant_of-self-2
invariant_of-self-2 c =
    let old = c.self.inside.runs.free in
    let new = c.change.new.self.free in
    let whole = c.in-Some.whole in
    let run = c.args.run in
    let cut = cut_of_giving old new whole run c.in-Some.ensures.whole c.in-Some.ensures.named c.requires.not_empty c.in_ok-change.ensures.changes c.in_ok-change.ensures.ok in
    let sizes : IfSome c.whole_at.new.self.sizes (AreSizesOf (contains old.runs)) = rw (c.whole_at.ensures.rest, c.change.ensures.sizes) c.self.invariant in
    rw (c.insert.ensures.free, c.remove-2.ensures.free, c.remove.ensures.free, c.whole_at.ensures.rest)
    (give_sorted (contains new.runs) (contains old.runs) whole.start whole.len run.start run.len c.whole_at.new.self.sizes c.remove.new.self.sizes c.remove-2.new.self.sizes c.insert.new.self.sizes
    cut sizes c.remove.ensures.sizes c.remove-2.ensures.sizes c.insert.ensures.sizes)
