use Rattle.std.proofs.Common.{rules, ℕ, ◌≡◌, ◌<◌, ◌+◌, ◌^◌, List, All, length, sym, subst, arith}
use Rattle.std.proofs.lemmas.List.Elements.{All-push}
use Rattle.std.proofs.lemmas.List.Quantifiers.{all_pairs_push}
use Rattle.dnode_tree.specs.declared.writes.BlockWrite.{BlockWrite}
use Rattle.dnode_tree.specs.Writes.{AreInOrder}
use Rattle.tests_trees.proofs.trees.blocks_at.Goals as goal

all_below : (writes : List BlockWrite) (id step : ℕ) → All (λ write. write.id < id) writes → All (λ write. write.id < id + step) writes
all_below writes id step below k d within = let one = below k d within in omega (arith, one)

pub loop-preserved : goal.loop-preserved
loop-preserved c =
    let write : BlockWrite = record { id = c.loop.id; bytes = c.in_ok-bytes.bytes } in
    let (below, small, order, whole) = c.loop.invariant in
    let near : c.loop.id < c.loop.id + c.clamp-step.result = omega (arith, c.clamp-step.ensures) in
    subst
    (λ (items : List BlockWrite). All (λ write. write.id < c.loop.id + c.clamp-step.result) items × All (λ write. write.id < 128 ^ 5) items × AreInOrder items
    × All (λ write. length write.bytes.items ≡ 512) items)
    (sym c.in_ok-push.ensures.items) (
      All-push (λ write. write.id < c.loop.id + c.clamp-step.result) c.loop.writes.items write (all_below c.loop.writes.items c.loop.id c.clamp-step.result below) near,
      All-push (λ write. write.id < 128 ^ 5) c.loop.writes.items write small (search rules),
      all_pairs_push (λ write later. write.id < later.id) c.loop.writes.items write order (λ k d within. below k d within),
      All-push (λ write. length write.bytes.items ≡ 512) c.loop.writes.items write whole (search rules),
    )
