use Rattle.std.proofs.Common.{List, sym, subst}
use Rattle.metaslab.specs.Space.{Space}
use Rattle.metaslab.specs.Spaces.{AreSettledInPart}
use Rattle.block_store.specs.Spaces.{VdevSpace, AreMetaslabsOf}
use Rattle.block_store.proofs.Slots.{still_settled, settled_in_part}
use Rattle.block_store.proofs.space.VdevMetaslabs.settle.Goals as goal

pub invariant_of-self : goal.invariant_of-self
invariant_of-self c =
    let old : List Space = c.self.inside.metaslabs.kept in
    let new : List Space = c.settle.new.self.kept in
    let part = settled_in_part c.settle.result c.self.inside.metaslabs.pins c.args.group old new c.settle.ensures.settled c.settle.ensures.err in
    let kept : AreMetaslabsOf c.self.inside.shape new = still_settled c.self.inside.shape c.self.inside.metaslabs.pins c.args.group old new part c.self.invariant.kept in
    record { kept = kept; planned = subst (λ them. AreMetaslabsOf c.self.inside.shape them) (sym c.settle.ensures.planned) kept }

pub returns-clause-some : goal.returns-clause-some
returns-clause-some c =
    let old : List Space = c.self.inside.metaslabs.kept in
    let new : List Space = c.settle.new.self.kept in
    subst (λ (s : VdevSpace). AreSettledInPart s.pins c.args.group s.kept new) c.self.view_is
    (settled_in_part c.settle.result c.self.inside.metaslabs.pins c.args.group old new c.settle.ensures.settled c.settle.ensures.err)
