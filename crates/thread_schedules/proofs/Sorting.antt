-- Which lines may follow which behind `threads`.
use Rattle.std.proofs.Common.{◌≡◌, ℕ, zero, suc, ◌+◌, List, [], ◌∷◌, ◌++◌, length, nat_eq, Bool, true, false, not, ◌||◌, ◌&&◌, refl, sym, ap, ◌∙◌, subst, append_assoc, length-append, arith, if◌then◌else◌}
use Rattle.std.proofs.lemmas.List.{append-nil}
use Rattle.std.specs.List.{AllByRecursion, list_any}
use Rattle.pool_model.specs.declared.step.Step.{Step}
use Rattle.schedule_lines.specs.declared.command.Command.{Command}
use Rattle.schedule_lines.specs.declared.command.Command.TheVariants.{Pool, Hold, Release, Write, Create, Snapshot, Clone, Destroy, Close, Quiesced, Plan, Device, Commit, Sync, Read, Under, Out, Stop, Reopen}
use Rattle.programs.specs.Answers.{Begins, IsNoStep}
use Rattle.thread_runs.specs.Asking.{is_asked, is_read as reads, may_follow as follows, only_if}
use Rattle.thread_schedules.specs.Kinds.{AreThreadLines, is_read, is_writers, may_follow}
use Rattle.thread_schedules.proofs.Reading.{all_more}

-- ---- a command and its first step

pub asked_alike : (command : Command) (s : Step) → Begins command s → is_asked s ≡ is_writers command
asked_alike (Hold writer) s begins = ap is_asked begins
asked_alike (Release writer) s begins = ap is_asked begins
asked_alike (Write line) s begins = ap is_asked begins.2
asked_alike (Create line) s begins = ap is_asked begins
asked_alike (Snapshot line) s begins = ap is_asked begins
asked_alike (Clone line) s begins = ap is_asked begins
asked_alike (Destroy line) s begins = ap is_asked begins
asked_alike Close s begins = ap is_asked begins
asked_alike Quiesced s begins = ap is_asked begins
asked_alike Plan s begins = ap is_asked begins
asked_alike Device s begins = ap is_asked begins
asked_alike Commit s begins = ap is_asked begins
asked_alike Sync s begins = ap is_asked begins
asked_alike (Read line) s begins = ap is_asked begins
asked_alike (Under line) s begins = ap is_asked begins
asked_alike (Out disk) s begins = ap is_asked begins
asked_alike (Pool line) s begins = absurd begins
asked_alike (Stop point) s begins = absurd begins
asked_alike (Reopen line) s begins = absurd begins

pub reads_alike : (command : Command) (s : Step) → Begins command s → reads s ≡ is_read command
reads_alike (Hold writer) s begins = ap reads begins
reads_alike (Release writer) s begins = ap reads begins
reads_alike (Write line) s begins = ap reads begins.2
reads_alike (Create line) s begins = ap reads begins
reads_alike (Snapshot line) s begins = ap reads begins
reads_alike (Clone line) s begins = ap reads begins
reads_alike (Destroy line) s begins = ap reads begins
reads_alike Close s begins = ap reads begins
reads_alike Quiesced s begins = ap reads begins
reads_alike Plan s begins = ap reads begins
reads_alike Device s begins = ap reads begins
reads_alike Commit s begins = ap reads begins
reads_alike Sync s begins = ap reads begins
reads_alike (Read line) s begins = ap reads begins
reads_alike (Under line) s begins = ap reads begins
reads_alike (Out disk) s begins = ap reads begins
reads_alike (Pool line) s begins = absurd begins
reads_alike (Stop point) s begins = absurd begins
reads_alike (Reopen line) s begins = absurd begins

-- where it has none
pub none_follows : (commands : List Command) (command : Command) → IsNoStep command → may_follow commands command ≡ false
none_follows commands (Pool line) none = refl
none_follows commands (Stop point) none = refl
none_follows commands (Reopen line) none = refl
none_follows commands (Hold writer) none = absurd none
none_follows commands (Release writer) none = absurd none
none_follows commands (Write line) none = absurd none
none_follows commands (Create line) none = absurd none
none_follows commands (Snapshot line) none = absurd none
none_follows commands (Clone line) none = absurd none
none_follows commands (Destroy line) none = absurd none
none_follows commands Close none = absurd none
none_follows commands Quiesced none = absurd none
none_follows commands Plan none = absurd none
none_follows commands Device none = absurd none
none_follows commands Commit none = absurd none
none_follows commands Sync none = absurd none
none_follows commands (Read line) none = absurd none
none_follows commands (Under line) none = absurd none
none_follows commands (Out disk) none = absurd none

pub alike : (commands : List Command) (command : Command) (s : Step) (count : ℕ) → Begins command s → nat_eq count 0 ≡ not (list_any is_read commands)
    → follows count s ≡ may_follow commands command
alike commands command s count begins none =
    λ i. if asked_alike command s begins i then none i else reads_alike command s begins i

no_true : ¬ (false ≡ true)
no_true same = absurd cc

-- a writer's line doesn't read
writers_read_not : (command : Command) → is_writers command ≡ true → is_read command ≡ false
writers_read_not (Hold writer) is = refl
writers_read_not (Release writer) is = refl
writers_read_not (Write line) is = refl
writers_read_not (Create line) is = refl
writers_read_not (Snapshot line) is = refl
writers_read_not (Clone line) is = refl
writers_read_not (Destroy line) is = refl
writers_read_not Close is = absurd (no_true is)
writers_read_not Quiesced is = absurd (no_true is)
writers_read_not Plan is = absurd (no_true is)
writers_read_not Device is = absurd (no_true is)
writers_read_not Commit is = absurd (no_true is)
writers_read_not Sync is = absurd (no_true is)
writers_read_not (Read line) is = absurd (no_true is)
writers_read_not (Under line) is = absurd (no_true is)
writers_read_not (Out disk) is = absurd (no_true is)
writers_read_not (Pool line) is = absurd (no_true is)
writers_read_not (Stop point) is = absurd (no_true is)
writers_read_not (Reopen line) is = absurd (no_true is)

-- ---- lines, sorted

-- the commands are such lines, of which so many read
pub record Sorted (commands : List Command) (count : ℕ) : Type 0 where
  pub lines : AreThreadLines commands
  pub reads : count ≡ length lines.reads

pub sorted_none : Sorted [] 0
sorted_none = record { lines = record { writers = []; reads = []; parts = refl; written = tt; read = tt }; reads = refl }

some_differ : (n : ℕ) → false ≡ nat_eq (suc n) 0
some_differ n = grind arith

nat_eq_zero : (n : ℕ) → nat_eq n 0 ≡ true → n ≡ 0
nat_eq_zero zero same = refl
nat_eq_zero (suc n) same = absurd (no_true (some_differ n ∙ same))

any_written : (writers rest : List Command) → AllByRecursion (λ command. is_writers command ≡ true) writers → list_any is_read (writers ++ rest) ≡ list_any is_read rest
any_written [] rest all = refl
any_written (c ∷ writers) rest all = ap (λ (b : Bool). b || list_any is_read (writers ++ rest)) (writers_read_not c all.0) ∙ any_written writers rest all.1

any_read : (others : List Command) → AllByRecursion (λ command. is_read command ≡ true) others → not (list_any is_read others) ≡ nat_eq (length others) 0
any_read [] all = refl
any_read (c ∷ others) all = ap (λ (b : Bool). not (b || list_any is_read others)) all.0 ∙ some_differ (length others)

-- none of them reads where so many are none
pub none_reads : (commands : List Command) (count : ℕ) → Sorted commands count → nat_eq count 0 ≡ not (list_any is_read commands)
none_reads commands count sorted =
    let lines = sorted.lines in
    let any : list_any is_read commands ≡ list_any is_read lines.reads = ap (list_any is_read) lines.parts ∙ any_written lines.writers lines.reads lines.written in
    ap (λ (n : ℕ). nat_eq n 0) sorted.reads ∙ (sym (any_read lines.reads lines.read) ∙ ap not (sym any))

-- a writer's line more
writer_more : (commands : List Command) (command : Command) (writers others : List Command) → commands ≡ writers ++ others
    → AllByRecursion (λ c. is_writers c ≡ true) writers → is_writers command ≡ true → nat_eq (length others) 0 ≡ true → Sorted (commands ++ command ∷ []) 0
writer_more commands command writers [] parts written is none = record {
  lines = record {
    writers = writers ++ command ∷ [];
    reads = [];
    parts = ap (λ (c : List Command). c ++ command ∷ []) (parts ∙ append-nil writers) ∙ sym (append-nil (writers ++ command ∷ []));
    written = all_more (λ (c : Command). is_writers c ≡ true) writers command written is;
    read = tt;
  };
  reads = refl;
}
writer_more commands command writers (c ∷ others) parts written is none = absurd (no_true (some_differ (length others) ∙ none))

reader_more : (commands : List Command) (command : Command) (count : ℕ) → Sorted commands count → is_read command ≡ true → Sorted (commands ++ command ∷ []) (count + 1)
reader_more commands command count sorted is =
    let lines = sorted.lines in
    record {
      lines = record {
        writers = lines.writers;
        reads = lines.reads ++ command ∷ [];
        parts = ap (λ (c : List Command). c ++ command ∷ []) lines.parts ∙ append_assoc lines.writers lines.reads (command ∷ []);
        written = lines.written;
        read = all_more (λ (c : Command). is_read c ≡ true) lines.reads command lines.read is;
      };
      reads = omega (arith, sorted.reads, length-append lines.reads (command ∷ []));
    }

-- a line more that may follow
pub sorted_more : (commands : List Command) (command : Command) (count after : ℕ) → Sorted commands count → may_follow commands command ≡ true
    → after ≡ count + (if is_read command then 1 else 0) → Sorted (commands ++ command ∷ []) after
sorted_more commands command count after sorted may more = elim (is_writers command) as (λ (w : Bool). is_writers command ≡ w → Sorted (commands ++ command ∷ []) after) [
  | true ↦ λ is.
      let free : not (list_any is_read commands) ≡ true = sym (ap (λ (w : Bool). if w then not (list_any is_read commands) else is_read command) is) ∙ may in
      let none : nat_eq count 0 ≡ true = none_reads commands count sorted ∙ free in
      let same : after ≡ count = more ∙ (ap (λ (b : Bool). count + (if b then 1 else 0)) (writers_read_not command is) ∙ omega arith) in
      let zero_now : after ≡ 0 = same ∙ nat_eq_zero count none in
      subst (λ (n : ℕ). Sorted (commands ++ command ∷ []) n) (sym zero_now)
      (writer_more commands command sorted.lines.writers sorted.lines.reads sorted.lines.parts sorted.lines.written is (ap (λ (n : ℕ). nat_eq n 0) (sym sorted.reads) ∙ none))
  | false ↦ λ is.
      let read : is_read command ≡ true = sym (ap (λ (w : Bool). if w then not (list_any is_read commands) else is_read command) is) ∙ may in
      subst (λ (n : ℕ). Sorted (commands ++ command ∷ []) n) (sym (more ∙ ap (λ (b : Bool). count + (if b then 1 else 0)) read)) (reader_more commands command count sorted read)
] refl

-- how many steps are added
pub only_one : (is : Bool) (s : Step) → length (only_if is s) ≡ if is then 1 else 0
only_one true s = refl
only_one false s = refl
