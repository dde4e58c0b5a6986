use Rattle.std.proofs.Common.{◌≡◌, ap, sym, subst, ◌∙◌}
use Rattle.disk_set.specs.Set.{PoolDisks}
use Rattle.block_store.specs.Blocks.{nothing_stored}
use Rattle.block_store.specs.Plans.{Plans}
use Rattle.block_store.specs.Store.{Store}
use Rattle.block_store.proofs.Marking.{nothing_marked}
use Rattle.block_store.proofs.store.BlockStore.mark_stale.Goals as goal

pub returns-clause-plans : goal.returns-clause-plans
returns-clause-plans g c = λ plans.
    let marked : Store = record c.args.self.now { spans = record c.args.self.now.spans { stale = c.args.stale.items } } in
    let old : PoolDisks = c.self.inside.set in
    let same : marked ≡ record {
      disks = c.mark_stale.new.self.disks;
      spaces = c.self.inside.spaces.items;
      out = c.mark_stale.new.self.out;
      spans = c.mark_stale.new.self.spans;
      due = c.mark_stale.new.self.due;
      stray = c.self.inside.stray;
    } =
    ap (λ (s : Store). record s { spans = record s.spans { stale = c.args.stale.items } }) (sym c.self.view_is)
    ∙ ap (λ (s : PoolDisks). record { disks = s.disks; spaces = c.self.inside.spaces.items; out = s.out; spans = s.spans; due = s.due; stray = c.self.inside.stray }) (sym c.mark_stale.ensures) in
    subst (λ (s : Store). Plans s nothing_stored nothing_stored) same (nothing_marked c.args.self.now c.args.stale.items plans)
