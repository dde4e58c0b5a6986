use Rattle.std.proofs.Common.{◌≡◌, List, ℕ, length, ap, sym, subst, arith}
use Rattle.std.proofs.lemmas.List.{take_at}
use Rattle.objset.specs.NodeSlots.{HasSlots}
use Rattle.objset.specs.NodeWrites.{written_nodes}
use Rattle.objset.proofs.node_changes.changed_block.Goals as goal

pub returns-clause-value : goal.returns-clause-value
returns-clause-value g c = λ stored array nodes blocks held tree are tell.
    let long : length c.put_nodes.new.block ≡ c.in_ok-bytes.bytes.len =
    omega (arith, c.put_nodes.auto.block, ap (λ (bytes : List ℕ). length bytes) c.as_mut_slice.ensures.value, c.in_ok-bytes.bytes.ok.0) in
    subst (λ bytes. HasSlots bytes c.args.id (written_nodes c.args.writes.now nodes)) (sym (take_at c.put_nodes.new.block _ c.in_ok-bytes.bytes.len long))
    (c.put_nodes.ensures c.args.id nodes c.requires.here
    (subst (λ bytes. HasSlots bytes c.args.id nodes) (sym c.as_mut_slice.ensures.value) (c.in_ok-bytes.ensures.value stored array nodes blocks held tree are tell)))
