use Rattle.std.proofs.Common.{◌≡◌, ◌+◌, ℕ, List, Vec, length, drop, get_or, ◌∙◌, subst}
use Rattle.std.specs.declared.alloc.Global.{Global}
use Rattle.std.proofs.lemmas.List.{take_all}
use Rattle.dnode_tree.specs.declared.writes.BlockWrite.{BlockWrite}
use Rattle.volume_rules.specs.Overlay.{after_writes}
use Rattle.volume.specs.InTurn.{HaveInTurn}
use Rattle.volume.specs.Volume.{part}
use Rattle.volume.specs.Writing.{IsCovered}
use Rattle.volume.proofs.Ids.{one_id_more, all_more}
use Rattle.volume.proofs.Needed.{from_place, next_in_turn, next_out, next_item}
use Rattle.volume.proofs.volume.VolumeSet.laid_all.Goals as goal

pub laid_over-requires-clause-old : goal.laid_over-requires-clause-old
laid_over-requires-clause-old c =
    let IsOut : ℕ → Type 0 = IsCovered c.args.self.now c.args.changes.now.name.now c.args.changes.now.items.now.writes in
    let IsWhole : ℕ → Vec ℕ Global → Type 0 = λ id bytes. length bytes.items ≡ c.args.self.now.block_size in
    let id : ℕ = get_or c.args.ids.now c.loop-id.id-index 0 in
    let rest : List ℕ = drop (c.loop-id.id-index + 1) c.args.ids.now in
    next_out IsOut IsWhole id rest c.next_old-under.result c.next_old-under.new.left.items
    (next_in_turn IsOut IsWhole id rest c.loop-id.left.items c.next_old-under.new.left.items c.next_old-under.result
    (subst (λ ids. HaveInTurn IsOut IsWhole ids c.loop-id.left.items) (from_place c.args.ids.now c.loop-id.id-index 0 c.loop-id-test.true) c.loop-id.invariant.left)
    c.next_old-under.ensures.covered c.next_old-under.ensures.next)

pub laid_over-requires-clause-len : goal.laid_over-requires-clause-len
laid_over-requires-clause-len c =
    let IsOut : ℕ → Type 0 = IsCovered c.args.self.now c.args.changes.now.name.now c.args.changes.now.items.now.writes in
    let IsWhole : ℕ → Vec ℕ Global → Type 0 = λ id bytes. length bytes.items ≡ c.args.self.now.block_size in
    let id : ℕ = get_or c.args.ids.now c.loop-id.id-index 0 in
    let rest : List ℕ = drop (c.loop-id.id-index + 1) c.args.ids.now in
    next_item IsOut IsWhole id rest c.next_old-under.result c.next_old-under.new.left.items
    (next_in_turn IsOut IsWhole id rest c.loop-id.left.items c.next_old-under.new.left.items c.next_old-under.result
    (subst (λ ids. HaveInTurn IsOut IsWhole ids c.loop-id.left.items) (from_place c.args.ids.now c.loop-id.id-index 0 c.loop-id-test.true) c.loop-id.invariant.left)
    c.next_old-under.ensures.covered c.next_old-under.ensures.next)

pub loop-id-preserved : goal.loop-id-preserved
loop-id-preserved c =
    let IsOut : ℕ → Type 0 = IsCovered c.args.self.now c.args.changes.now.name.now c.args.changes.now.items.now.writes in
    let IsWhole : ℕ → Vec ℕ Global → Type 0 = λ id bytes. length bytes.items ≡ c.args.self.now.block_size in
    let id : ℕ = get_or c.args.ids.now c.loop-id.id-index 0 in
    let rest : List ℕ = drop (c.loop-id.id-index + 1) c.args.ids.now in
    let so_far : List BlockWrite = c.loop-id.blocks.items in
    let block : BlockWrite = c.in_ok-block.block in
    let now : List BlockWrite = c.push.new.blocks.items in
    let place = from_place c.args.ids.now c.loop-id.id-index 0 c.loop-id-test.true in
    record {
      left = (next_in_turn IsOut IsWhole id rest c.loop-id.left.items c.next_old-under.new.left.items c.next_old-under.result
          (subst (λ ids. HaveInTurn IsOut IsWhole ids c.loop-id.left.items) place c.loop-id.invariant.left)
          c.next_old-under.ensures.covered c.next_old-under.ensures.next).1;
      ids = one_id_more so_far now block c.args.ids.now c.loop-id.id-index c.in_ok-push.ensures c.in_ok-block.ensures.id c.loop-id-test.true c.loop-id.invariant.ids;
      whole = all_more (λ b. length b.bytes.items ≡ c.args.self.now.block_size) so_far now block c.in_ok-push.ensures c.loop-id.invariant.whole c.in_ok-block.ensures.len;
      value = λ volume named writable sized have.
          let IsOld : ℕ → Vec ℕ Global → Type 0 = λ id bytes. bytes.items ≡ part volume.bytes c.args.self.now.block_size id in
          let before = c.loop-id.invariant.value volume named writable sized have in
          let next = next_in_turn IsOut IsOld id rest c.loop-id.left.items c.next_old-under.new.left.items c.next_old-under.result
          (subst (λ ids. HaveInTurn IsOut IsOld ids c.loop-id.left.items) place before.1)
          c.next_old-under.ensures.covered c.next_old-under.ensures.next in (
            all_more (λ b. b.bytes.items ≡ part (after_writes volume c.args.changes.now.items.now.writes).bytes c.args.self.now.block_size b.id) so_far now block c.in_ok-push.ensures before.0
                (c.in_ok-block.ensures.value volume named writable sized (next_item IsOut IsOld id rest c.next_old-under.result c.next_old-under.new.left.items next)),
            next.1,
          );
    }

pub returns-clause-ids : goal.returns-clause-ids
returns-clause-ids c = c.loop-id.invariant.ids ∙ take_all c.loop-id.id-index c.args.ids.now c.loop-id-test.false
