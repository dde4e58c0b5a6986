use Rattle.std.proofs.Common.{ℕ, ap, sym, ◌∙◌, true, false}
use Rattle.std.specs.Prelude.{not}
use Rattle.std.proofs.lemmas.List.{append-nil}
use Rattle.std.specs.declared.collections.VecDeque.{VecDeque}
use Rattle.std.proofs.Common.{Global}
use Rattle.block_store.specs.Store.{is_out}
use Rattle.pool_commit.proofs.Disks.{one_more}
use Rattle.pool_commit.proofs.commit.Commit.add_in_use.Goals as goal
use Rattle.pool_commit.proofs.commit.Commit.add_in_use.Goals.{then-not-is_out+in_ok-push_back, else-not-is_out}

pub loop-child-preserved : goal.loop-child-preserved
loop-child-preserved g c = elim c.if-not-is_out.branch [
  | then-not-is_out+in_ok-push_back w ↦
      ap (λ (d : VecDeque ℕ Global). d.items) w.disks-is ∙ w.in_ok-push_back.ensures.items
      ∙ one_more (λ disk. not (is_out c.args.self.now.store.out disk)) c.loop-child.disks.items c.args.disks.now.items c.args.vdev.first c.loop-child.child true
      (ap not (sym c.is_out.ensures ∙ w.if-not-is_out.true)) c.loop-child.invariant
  | else-not-is_out w ↦
      ap (λ (d : VecDeque ℕ Global). d.items) w.disks-is ∙ sym (append-nil c.loop-child.disks.items)
      ∙ one_more (λ disk. not (is_out c.args.self.now.store.out disk)) c.loop-child.disks.items c.args.disks.now.items c.args.vdev.first c.loop-child.child false
      (ap not (sym c.is_out.ensures ∙ w.if-not-is_out.false)) c.loop-child.invariant
]
