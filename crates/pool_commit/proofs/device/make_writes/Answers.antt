use Rattle.std.proofs.Common.{◌≡◌, ℕ, List, min, refl, ap, sym, ◌∙◌, subst, arith, length, is_ok}
use Rattle.model_disk.specs.Call.{write_call}
use Rattle.raidz_io.specs.Writes.{ColumnWrite}
use Rattle.disk_set.specs.declared.device.FailedDisk.{FailedDisk}
use Rattle.block_store.specs.Store.{IsOutToo}
use Rattle.pool_model.specs.declared.step.Phase.TheVariants as phases
use Rattle.pool_model.specs.Flow.{counted_on}
use Rattle.pool_model.specs.Machine.{due_write}
use Rattle.pool_commit.specs.Making.{writes_left, MadeCalls, FailedCall}
use Rattle.pool_commit.proofs.Made.{call_stale, none_made, one_made, one_failed, write_made, write_lost, below_four, left_some, err_is, writes_count}
use Rattle.model_disk.proofs.RunLemmas.{Makes-none}
use Rattle.pool_commit.specs.Writing.{IsDueWrite}
use Rattle.pool_commit.proofs.Writing.{rest_first, rest_next, write_next_makes}
use Rattle.pool_commit.proofs.device.make_writes.Goals as goal

pub loop-init : goal.loop-init
loop-init g c = (
  λ counts. (counts, none_made c.args.store.now (writes_left counts c.args.store.now.due) phases.Blocks),
  rest_first ColumnWrite c.args.store.now.due,
  Makes-none (IsDueWrite c.args.store.now.due) c.args.store.now.disks,
)

pub write_next-requires : goal.write_next-requires
write_next-requires g c =
    let few = below_four (length c.args.store.now.due) c.min-end.result c.loop.counter (c.min-end.ensures ∙ ap (λ n. min n 4) c.due_count.ensures) c.loop-test.true in
    let so = c.loop.invariant.0 (λ disk. 0) in
    let count = writes_count (λ disk. 0) c.args.store.now.due in
    let left = left_some (writes_left (λ disk. 0) c.args.store.now.due) so.1.made (writes_left so.0 c.loop.store.due) c.loop.counter so.1.order so.1.count
    (omega (arith, few.0, count)) in
    omega (arith, left, writes_count so.0 c.loop.store.due)

pub returns-in-Err-clause-failed : goal.returns-in-Err-clause-failed
returns-in-Err-clause-failed g c counts =
    let call = c.write_next.ensures.call in
    let so = c.loop.invariant.0 counts in
    let number : ℕ = so.0 call.0.disk in
    let few = below_four (length c.args.store.now.due) c.min-end.result c.loop.counter (c.min-end.ensures ∙ ap (λ n. min n 4) c.due_count.ensures) c.loop-test.true in
    let lost = write_lost c.write_next.result c.loop.store c.write_next.new.self call.0 number (ap is_ok c.in-Err.is) c.write_next.ensures.starts c.write_next.ensures.spaces
    (call_stale c.write_next.result (λ (f : FailedDisk). f.disk) c.loop.store c.write_next.new.self c.write_next.ensures.spans c.write_next.ensures.gone)
    c.write_next.ensures.plans call.2 in
    let failed = one_failed c.args.store.now c.loop.store c.write_next.new.self (writes_left counts c.args.store.now.due) (writes_left (counted_on so.0 call.0.disk) c.write_next.new.self.due) phases.Blocks c.loop.counter
    (due_write call.0.disk number) (write_call c.write_next.result call.0.offset call.0.bytes)
    (subst (λ (writes : List ColumnWrite). MadeCalls c.args.store.now c.loop.store (writes_left counts c.args.store.now.due) (writes_left so.0 writes) phases.Blocks c.loop.counter) call.1 so.1)
    few.1 lost.0 refl lost.1 (err_is c.write_next.result c.in-Err.failed (λ f. IsOutToo c.loop.store.out call.0.disk c.write_next.new.self.out) c.in-Err.is call.4) in
    subst (λ disk. FailedCall c.args.store.now c.write_next.new.self (writes_left counts c.args.store.now.due) phases.Blocks disk)
    (sym (err_is c.write_next.result c.in-Err.failed (λ (f : FailedDisk). f.disk ≡ call.0.disk) c.in-Err.is call.3)) failed

pub loop-preserved : goal.loop-preserved
loop-preserved g c =
    let call = c.write_next.ensures.call in (
      λ counts.
          let so = c.loop.invariant.0 counts in
          let number : ℕ = so.0 call.0.disk in
          let made = write_made c.write_next.result c.loop.store c.write_next.new.self call.0 number (ap is_ok c.in_default.is) c.write_next.ensures.starts c.write_next.ensures.spaces
          (call_stale c.write_next.result (λ (f : FailedDisk). f.disk) c.loop.store c.write_next.new.self c.write_next.ensures.spans c.write_next.ensures.gone)
          c.write_next.ensures.plans call.2 in (
            counted_on so.0 call.0.disk,
            one_made c.args.store.now c.loop.store c.write_next.new.self (writes_left counts c.args.store.now.due) (writes_left (counted_on so.0 call.0.disk) c.write_next.new.self.due) phases.Blocks c.loop.counter
                (due_write call.0.disk number) (write_call c.write_next.result call.0.offset call.0.bytes)
                (subst (λ (writes : List ColumnWrite). MadeCalls c.args.store.now c.loop.store (writes_left counts c.args.store.now.due) (writes_left so.0 writes) phases.Blocks c.loop.counter) call.1 so.1)
                made.0 refl made.1 c.in_default.ensures.out,
          ),
      rest_next ColumnWrite c.args.store.now.due c.loop.store.due c.write_next.new.self.due call.0 call.1 c.loop.invariant.1,
      write_next_makes c.write_next.result c.args.store.now c.loop.store c.write_next.new.self call.0 call.1 c.write_next.ensures.starts call.2 c.loop.invariant.1 c.loop.invariant.2,
    )

pub returns-in-Err-clause-makes : goal.returns-in-Err-clause-makes
returns-in-Err-clause-makes g c =
    let call = c.write_next.ensures.call in
    write_next_makes c.write_next.result c.args.store.now c.loop.store c.write_next.new.self call.0 call.1 c.write_next.ensures.starts call.2 c.loop.invariant.1 c.loop.invariant.2

pub returns-in-Err-clause-grew : goal.returns-in-Err-clause-grew
returns-in-Err-clause-grew g c = (returns-in-Err-clause-failed g c (λ disk. 0)).same.grew

pub returns-clause-grew : goal.returns-clause-grew
returns-clause-grew g c = (c.loop.invariant.0 (λ disk. 0)).1.same.grew

pub returns-clause-made : goal.returns-clause-made
returns-clause-made g c counts =
    let ends : c.loop.counter ≡ c.min-end.result = omega (arith, c.loop.auto.counter-end, c.loop-test.false) in
    let all : c.loop.counter ≡ min (length c.args.store.now.due) 4 = ends ∙ c.min-end.ensures ∙ ap (λ n. min n 4) c.due_count.ensures in
    subst (λ (n : ℕ). (later : ℕ → ℕ) × MadeCalls c.args.store.now c.loop.store (writes_left counts c.args.store.now.due) (writes_left later c.loop.store.due) phases.Blocks n) all (c.loop.invariant.0 counts)
