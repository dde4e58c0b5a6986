use Rattle.std.proofs.Common.{◌≡◌, ◌+◌, ◌∷◌, ◌++◌, [], List, length, nat_eq, not, true, false, Bool, Some, refl, sym, ap, ◌∙◌, subst}
use Rattle.std.specs.Io.KnownBytes.{IsAtEnd}
use Rattle.schedule_lines.specs.declared.command.Command.{Command}
use Rattle.schedule_lines.specs.declared.command.Line.{Line}
use Rattle.schedule_lines.specs.declared.command.Line.TheVariants.{Skipped, Threads, Command as CommandLine}
use Rattle.programs.specs.declared.refusal.Refusal.TheVariants.{Line as LineFault}
use Rattle.programs.specs.Faults.{counted}
use Rattle.programs.specs.Reads.{ReadsLines}
use Rattle.thread_schedules.specs.Ends.{CannotFollow}
use Rattle.thread_schedules.specs.Inputs.{IsBackFault}
use Rattle.thread_schedules.specs.Kinds.{AreThreadLines, may_follow}
use Rattle.thread_schedules.proofs.Backing.{back_none, back_skipped, back_more, back_fault, back_threads, back_misplaced}
use Rattle.thread_schedules.proofs.Reading.{if_none, passed_on}
use Rattle.thread_schedules.proofs.Sorting.{Sorted, none_reads, sorted_more, sorted_none}
use Rattle.thread_schedules.proofs.back.read_back.Goals as goal
use Rattle.thread_schedules.proofs.back.read_back.Goals.{in-Skipped, in-Command+in_ok-add-in-Command+else-not-branch}

pub loop-init : goal.loop-init
loop-init g c = (
  [],
  back_none (g.I.Read.remaining c.args.lines.now.input) c.args.lines.now.count,
  subst (λ n. Sorted [] n) (sym (ap (λ xs. length xs) c.new-behind.ensures.empty.1)) sorted_none,
  c.new-behind.ensures.threads,
)

pub returns-in_err-line-clause-fault : goal.returns-in_err-line-clause-fault
returns-in_err-line-clause-fault g c = λ core.
    passed_on _ _ _ c.from_residual.ensures.1
    (back_fault (CannotFollow (Some core)) (g.I.Read.remaining c.args.lines.now.input) c.args.lines.now.count (g.I.Read.remaining c.loop.lines.input) c.loop.lines.count c.loop.invariant.0 _ c.loop.invariant.1 c.in_err-line.ensures.fault)

pub returns-in_default-clause-ok : goal.returns-in_default-clause-ok
returns-in_default-clause-ok g c =
    let old = g.I.Read.remaining c.loop.lines.input in
    let new = g.I.Read.remaining c.next_line.new.self.input in
    let end : IsAtEnd old = if_none c.in_ok-line.field-0 (IsAtEnd old) (λ line. ReadsLines old (line ∷ []) new × (c.next_line.new.self.count ≡ counted (c.loop.lines.count + 1))) c.in_ok-line.ensures.found c.in_default.not-Some in
    (old, c.loop.invariant.1.back, end, subst (λ (cs : List Command). AreThreadLines cs) (sym c.loop.invariant.1.are) c.loop.invariant.2.lines)

pub returns-in-Threads-clause-fault : goal.returns-in-Threads-clause-fault
returns-in-Threads-clause-fault g c = λ core.
    let input = g.I.Read.remaining c.args.lines.now.input in
    let k = c.args.lines.now.count in
    let old = g.I.Read.remaining c.loop.lines.input in
    let new = g.I.Read.remaining c.next_line.new.self.input in
    let read : ReadsLines old (c.in-Some.line ∷ []) new × (c.next_line.new.self.count ≡ counted (c.loop.lines.count + 1)) = rw c.in-Some.is at c.in_ok-line.ensures.found in
    let threads : ReadsLines old (Threads ∷ []) new = subst (λ (l : Line). ReadsLines old (l ∷ []) new) c.in-Threads.is read.0 in
    let stops : IsBackFault (CannotFollow (Some core)) input k (LineFault c.next_line.new.self.count) =
    back_threads (CannotFollow (Some core)) input k old new c.loop.lines.count c.next_line.new.self.count c.loop.invariant.0 c.loop.invariant.1 threads read.1 in
    subst (λ cause. IsBackFault (CannotFollow (Some core)) input k cause) (sym c.fault.ensures) stops

pub returns-then-not-branch-clause-fault : goal.returns-then-not-branch-clause-fault
returns-then-not-branch-clause-fault g c = λ core.
    let input = g.I.Read.remaining c.args.lines.now.input in
    let k = c.args.lines.now.count in
    let old = g.I.Read.remaining c.loop.lines.input in
    let new = g.I.Read.remaining c.next_line.new.self.input in
    let commands = c.loop.invariant.0 in
    let read : ReadsLines old (c.in-Some.line ∷ []) new × (c.next_line.new.self.count ≡ counted (c.loop.lines.count + 1)) = rw c.in-Some.is at c.in_ok-line.ensures.found in
    let command : ReadsLines old (CommandLine c.in-Command.command ∷ []) new = subst (λ (l : Line). ReadsLines old (l ∷ []) new) c.in-Command.is read.0 in
    let taken = c.in_ok-add-in-Command.ensures.taken commands (none_reads commands (length c.loop.behind.reads.items) c.loop.invariant.2) in
    let not_taken = c.if-not-branch.true in
    let wrong : may_follow commands c.in-Command.command ≡ false = cc in
    let stops : IsBackFault (CannotFollow (Some core)) input k (LineFault c.next_line.new.self.count) =
    back_misplaced (CannotFollow (Some core)) input k old new c.loop.lines.count c.next_line.new.self.count commands c.in-Command.command c.loop.invariant.1 command read.1 wrong in
    subst (λ cause. IsBackFault (CannotFollow (Some core)) input k cause) (sym c.fault-then-not-branch.ensures) stops

pub loop-preserved : goal.loop-preserved
loop-preserved g c =
    let input = g.I.Read.remaining c.args.lines.now.input in
    let k = c.args.lines.now.count in
    let old = g.I.Read.remaining c.loop.lines.input in
    let new = g.I.Read.remaining c.next_line.new.self.input in
    let commands = c.loop.invariant.0 in
    let read : ReadsLines old (c.in-Some.line ∷ []) new × (c.next_line.new.self.count ≡ counted (c.loop.lines.count + 1)) = rw c.in-Some.is at c.in_ok-line.ensures.found in
    elim c.match-line.branch [
      | in-Skipped w ↦
          let skipped : ReadsLines old (Skipped ∷ []) new = subst (λ (l : Line). ReadsLines old (l ∷ []) new) w.in-Skipped.is read.0 in (
            commands,
            back_skipped input k old new c.loop.lines.count c.next_line.new.self.count commands c.loop.invariant.1 skipped read.1,
            subst (λ b. Sorted commands (length b.reads.items)) (sym w.behind-is) c.loop.invariant.2,
            ap (λ b. b.threads) w.behind-is ∙ c.loop.invariant.3,
          )
      | in-Command+in_ok-add-in-Command+else-not-branch w ↦
          let command : ReadsLines old (CommandLine w.in-Command.command ∷ []) new = subst (λ (l : Line). ReadsLines old (l ∷ []) new) w.in-Command.is read.0 in
          let taken = w.in_ok-add-in-Command.ensures.taken commands (none_reads commands (length c.loop.behind.reads.items) c.loop.invariant.2) in
          let is_taken : w.in_ok-add-in-Command.field-0 ≡ true = let yes = w.if-not-branch.false in cc in
          let may : may_follow commands w.in-Command.command ≡ true = sym taken ∙ is_taken in
          let more = w.in_ok-add-in-Command.ensures.reads is_taken in (
            commands ++ w.in-Command.command ∷ [],
            back_more input k old new c.loop.lines.count c.next_line.new.self.count commands w.in-Command.command c.loop.invariant.1 command read.1,
            sorted_more commands w.in-Command.command (length c.loop.behind.reads.items) (length c.match-line.behind.reads.items) c.loop.invariant.2 may (ap (λ b. length b.reads.items) w.behind-is ∙ more),
            ap (λ b. b.threads) w.behind-is ∙ (w.add.ensures.threads ∙ c.loop.invariant.3),
          )
    ]
