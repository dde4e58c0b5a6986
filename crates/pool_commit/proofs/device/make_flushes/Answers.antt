use Rattle.std.proofs.Common.{rules, ◌≡◌, ◌<◌, ℕ, List, arith, ap, sym, ◌∙◌, subst, refl, length, is_ok, Contains}
use Rattle.std.specs.Prelude.{min}
use Rattle.raidz_io.proofs.Calls.{Contains-front, Contains-later}
use Rattle.model_disk.specs.Call.{flush_call}
use Rattle.disk_set.specs.declared.device.FailedDisk.{FailedDisk}
use Rattle.block_store.specs.Store.{Store, IsOutToo}
use Rattle.pool_model.specs.declared.step.Phase.TheVariants as phases
use Rattle.pool_commit.specs.Making.{flushes_left, MadeCalls, MadeFlushes, FailedFlush, FlushesMove, FlushesMoveBut}
use Rattle.pool_commit.proofs.Made.{call_stale, none_made, one_made, one_failed_before, flush_due, flush_made, flush_lost, below_four, err_is, some_to_flush, no_flushes, one_flushed, one_flushed_but}
use Rattle.pool_commit.proofs.SlotWrites.{flush_keeps}
use Rattle.model_disk.specs.Runs.{no_write}
use Rattle.model_disk.proofs.RunLemmas.{Makes-none}
use Rattle.pool_commit.proofs.Writing.{flush_makes}
use Rattle.pool_commit.proofs.device.make_flushes.Goals as goal

pub loop-init : goal.loop-init
loop-init g c = (
  λ phase flushes. none_made c.args.store.now (flushes_left phase c.args.flushes.now.items) phase,
  refl,
  refl,
  c.requires,
  no_flushes c.args.store.now c.args.flushes.now.items,
  λ disk i. refl,
  Makes-none no_write c.args.store.now.disks,
)

pub flush-requires : goal.flush-requires
flush-requires g c =
    subst (λ (starts : List (List ℕ)). c.in-Some.disk < length starts) (sym c.loop.invariant.2)
    (c.loop.invariant.3 c.in-Some.disk (subst (λ (xs : List ℕ). Contains xs c.in-Some.disk) (sym c.in-Some.ensures.items) (Contains-front c.in-Some.disk c.pop_front.new.self.items)))

pub returns-in-Err-clause-failed : goal.returns-in-Err-clause-failed
returns-in-Err-clause-failed g c =
    let few = below_four (length c.args.flushes.now.items) c.min-end.result c.loop.counter (c.min-end.ensures ∙ ap (λ n. min n 4) (c.len.ensures ∙ search rules)) c.loop-test.true in
    subst (λ disk. FailedFlush c.args.store.now c.flush.new.self c.args.flushes.now.items c.pop_front.new.self.items disk)
    (sym (err_is c.flush.result c.in-Err.failed (λ (f : FailedDisk). f.disk ≡ c.in-Some.disk) c.in-Err.is c.flush.ensures.failed))
    (λ phase flushes.
    let lost = flush_lost c.flush.result c.loop.store c.flush.new.self phase c.in-Some.disk flushes (ap is_ok c.in-Err.is) c.flush.ensures.starts c.flush.ensures.spaces
    (call_stale c.flush.result (λ (f : FailedDisk). c.in-Some.disk) c.loop.store c.flush.new.self c.flush.ensures.spans c.flush.ensures.gone)
    c.flush.ensures.plans c.flush.ensures.call in
    one_failed_before c.args.store.now c.loop.store c.flush.new.self (flushes_left phase c.args.flushes.now.items) (flushes_left phase c.pop_front.new.self.items) phase c.loop.counter
    (flush_due phase c.in-Some.disk) (flush_call c.flush.result)
    (subst (λ (left : List ℕ). MadeCalls c.args.store.now c.loop.store (flushes_left phase c.args.flushes.now.items) (flushes_left phase left) phase c.loop.counter) c.in-Some.ensures.items
    (c.loop.invariant.0 phase flushes))
    few.1 lost.0 refl lost.1 (err_is c.flush.result c.in-Err.failed (λ f. IsOutToo c.loop.store.out c.in-Some.disk c.flush.new.self.out) c.in-Err.is c.flush.ensures.out_too))

pub returns-in-Err-clause-flushed_but : goal.returns-in-Err-clause-flushed_but
returns-in-Err-clause-flushed_but g c =
    subst (λ disk. FlushesMoveBut disk c.args.store.now c.flush.new.self c.args.flushes.now.items c.pop_front.new.self.items)
    (sym (err_is c.flush.result c.in-Err.failed (λ (f : FailedDisk). f.disk ≡ c.in-Some.disk) c.in-Err.is c.flush.ensures.failed))
    (one_flushed_but c.flush.result c.args.store.now c.loop.store c.flush.new.self c.args.flushes.now.items c.pop_front.new.self.items c.in-Some.disk c.flush.ensures.call
    (subst (λ (flushes : List ℕ). FlushesMove c.args.store.now c.loop.store c.args.flushes.now.items flushes) c.in-Some.ensures.items c.loop.invariant.4))

pub returns-in-Err-clause-content : goal.returns-in-Err-clause-content
returns-in-Err-clause-content g c = flush_keeps c.flush.result c.args.store.now c.loop.store c.flush.new.self c.in-Some.disk c.flush.ensures.starts c.flush.ensures.call c.loop.invariant.5

pub loop-preserved : goal.loop-preserved
loop-preserved g c = (
  λ phase flushes.
      let made = flush_made c.flush.result c.loop.store c.flush.new.self phase c.in-Some.disk flushes (ap is_ok c.in_default-flush.is) c.flush.ensures.starts c.flush.ensures.spaces
      (call_stale c.flush.result (λ (f : FailedDisk). c.in-Some.disk) c.loop.store c.flush.new.self c.flush.ensures.spans c.flush.ensures.gone)
      c.flush.ensures.plans c.flush.ensures.call in
      one_made c.args.store.now c.loop.store c.flush.new.self (flushes_left phase c.args.flushes.now.items) (flushes_left phase c.pop_front.new.self.items) phase c.loop.counter
      (flush_due phase c.in-Some.disk) (flush_call c.flush.result)
      (subst (λ (left : List ℕ). MadeCalls c.args.store.now c.loop.store (flushes_left phase c.args.flushes.now.items) (flushes_left phase left) phase c.loop.counter) c.in-Some.ensures.items
      (c.loop.invariant.0 phase flushes))
      made.0 refl made.1 c.in_default-flush.ensures.out,
  c.flush.ensures.due ∙ c.loop.invariant.1,
  c.flush.ensures.starts ∙ c.loop.invariant.2,
  λ disk held. c.loop.invariant.3 disk (subst (λ (xs : List ℕ). Contains xs disk) (sym c.in-Some.ensures.items) (Contains-later c.in-Some.disk c.pop_front.new.self.items disk held)),
  one_flushed c.flush.result c.args.store.now c.loop.store c.flush.new.self c.args.flushes.now.items c.pop_front.new.self.items c.in-Some.disk (ap is_ok c.in_default-flush.is) c.flush.ensures.call
      (subst (λ (flushes : List ℕ). FlushesMove c.args.store.now c.loop.store c.args.flushes.now.items flushes) c.in-Some.ensures.items c.loop.invariant.4),
  flush_keeps c.flush.result c.args.store.now c.loop.store c.flush.new.self c.in-Some.disk c.flush.ensures.starts c.flush.ensures.call c.loop.invariant.5,
  flush_makes c.flush.result c.args.store.now.disks c.loop.store.disks c.flush.new.self.disks c.in-Some.disk c.flush.ensures.starts c.flush.ensures.call c.loop.invariant.6,
)

pub returns-in-Err-clause-makes : goal.returns-in-Err-clause-makes
returns-in-Err-clause-makes g c =
    flush_makes c.flush.result c.args.store.now.disks c.loop.store.disks c.flush.new.self.disks c.in-Some.disk c.flush.ensures.starts c.flush.ensures.call c.loop.invariant.6

-- as many were made as the loop counts
all_made : (store : Store) (mid : Store) (flushes rest : List ℕ) (made least : ℕ) → made ≡ least → MadeFlushes store mid flushes rest made → MadeFlushes store mid flushes rest least
all_made store mid flushes rest made least is so = subst (λ (n : ℕ). MadeFlushes store mid flushes rest n) is so

pub returns-clause-made : goal.returns-clause-made
returns-clause-made g c =
    let ends : c.loop.counter ≡ c.min-end.result = omega (arith, c.loop.auto.counter-end, c.loop-test.false) in
    all_made c.args.store.now c.loop.store c.args.flushes.now.items c.loop.flushes.items c.loop.counter (min (length c.args.flushes.now.items) 4)
    (ends ∙ c.min-end.ensures ∙ ap (λ n. min n 4) (c.len.ensures ∙ search rules)) c.loop.invariant.0

pub returns-in-Err-clause-there : goal.returns-in-Err-clause-there
returns-in-Err-clause-there g c disk held =
    c.loop.invariant.3 disk (subst (λ (xs : List ℕ). Contains xs disk) (sym c.in-Some.ensures.items) (Contains-later c.in-Some.disk c.pop_front.new.self.items disk held))

pub returns-in_default-clause-made : goal.returns-in_default-clause-made
returns-in_default-clause-made g c =
    let few = below_four (length c.args.flushes.now.items) c.min-end.result c.loop.counter (c.min-end.ensures ∙ ap (λ n. min n 4) (c.len.ensures ∙ search rules)) c.loop-test.true in
    let some = some_to_flush c.args.store.now c.loop.store phases.BlocksFlush c.args.flushes.now.items c.loop.flushes.items c.loop.counter
    (c.loop.invariant.0 phases.BlocksFlush (λ disk number. refl)) few.0 in
    let none : length c.loop.flushes.items ≡ 0 = search rules ∙ c.in_default.ensures.cases.0 in
    absurd (omega (arith, some, none))
