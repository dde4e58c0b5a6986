use Rattle.block_store.proofs.Loading.{still_space, size_on_true}
use Rattle.block_store.proofs.space.VdevMetaslabs.load.Goals as goal

pub invariant_of-self : goal.invariant_of-self
invariant_of-self c =
    let is = c.load.ensures in
    let both = still_space c.self.inside.shape c.self.inside.metaslabs c.load.new.self c.args.metaslab c.args.free c.load.result is.free.0 is.loaded is.left c.self.invariant.kept c.self.invariant.planned in
    record { kept = both.0; planned = both.1 }

pub returns-clause-size : goal.returns-clause-size
returns-clause-size c =
    rw (← c.self.view_is) (size_on_true c.self.inside.shape c.self.inside.metaslabs c.args.metaslab c.args.free.sectors c.load.result c.self.invariant.kept c.load.ensures.free.0)
