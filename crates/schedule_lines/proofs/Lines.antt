-- The two laws of lines: what is read is spelled so, and what is spelled so is read.
use Rattle.std.proofs.Common.{◌≡◌, ℕ, ◌^◌, ◌⊎◌, inl, inr, Bool, true, false, cond, nat_eq, find, List, [], ◌∷◌, ◌++◌, drop, Option, Some, Result, Ok, Err, IfOk, codes, lit<, refl, sym, ap, subst, ◌∙◌, arith}
use Rattle.std.specs.List.{AllByRecursion, slice_split, join_with_byte}
use Rattle.std.specs.Fmt.{decimal}
use Rattle.std.specs.Str.{bytes_eq}
use Rattle.std.proofs.lemmas.Bool.{eqb-true}
use Rattle.std.proofs.lemmas.List.{append-nil}
use Rattle.std.proofs.lemmas.List.Splits.{join_with_byte-slice_split}
use Rattle.std.proofs.lemmas.Slice.Eq.{bytes_eq-Decides}
use Rattle.schedule_lines.specs.declared.command.Line.{Line}
use Rattle.schedule_lines.specs.declared.command.Line.TheVariants.{Skipped, Threads, Command as CommandLine}
use Rattle.schedule_lines.specs.declared.command.Command.{Command}
use Rattle.schedule_lines.specs.declared.command.Command.TheVariants.{Pool, Hold, Release, Write, Create, Snapshot, Clone, Destroy, Close, Quiesced, Plan, Device, Commit, Sync, Read, Under, Out, Stop, Reopen}
use Rattle.schedule_lines.specs.declared.command.StopPoint.TheVariants.{Blocks, Slots, Claim}
use Rattle.schedule_lines.specs.declared.keyword.Keyword.{Keyword}
use Rattle.schedule_lines.specs.declared.keyword.Keyword.TheVariants as keyword
use Rattle.schedule_lines.specs.declared.refusal.Refusal.{Refusal}
use Rattle.schedule_lines.specs.declared.refusal.Refusal.TheVariants.{Fault, NoMemory}
use Rattle.schedule_lines.specs.Grammar.{words_of, NumbersFit, IsWord, Spells}
use Rattle.schedule_lines.specs.Keywords.{keyword_text, keywords, keyword_of}
use Rattle.schedule_lines.specs.Reading.{Gives, word_at, end_at, number_at, pool_at, write_at, create_at, snapshot_at, clone_at, destroy_at, read_at, under_at, stop_at, reopen_at, of_read, command_at, whole_command, said_line, line_of}
use Rattle.schedule_lines.proofs.Fields.{bind_some, some, some_is, Words, IsFull, word_taken, number_taken, number_read, Number}
use Rattle.schedule_lines.proofs.Commands.{Taken, onto, pool_taken, pool_read, write_taken, write_read, create_taken, create_read, snapshot_taken, snapshot_read, clone_taken, clone_read, destroy_taken, destroy_read, read_taken, read_read, under_taken, under_read, stop_taken, stop_read, reopen_taken, reopen_read, of_read_some, chosen}
use Rattle.schedule_lines.proofs.Splitting.{is_space, Spaceless, split_joined, parts_spaceless}

-- ---- keywords

-- the keyword that was found is the word, or it was found further on
found_at : {A : Type 0} (t : Bool) (x : A) (more : Option A) (y : A) → cond t (Some x) more ≡ Some y → ((t ≡ true) × (x ≡ y)) ⊎ (more ≡ Some y)
found_at true x more y e = inl (refl, some_is x y e)
found_at false x more y e = inr e

first_found : (word : List ℕ) (ks : List Keyword) (k : Keyword) → find (λ keyword. bytes_eq (keyword_text keyword) word) ks ≡ Some k → word ≡ keyword_text k
first_found word [] k e = absurd cc
first_found word (head ∷ ks) k e =
    elim (found_at (bytes_eq (keyword_text head) word) head (find (λ keyword. bytes_eq (keyword_text keyword) word) ks) k e) [
      | inl here ↦ sym ((bytes_eq-Decides (keyword_text head) word).0 here.0) ∙ ap keyword_text here.1
      | inr further ↦ first_found word ks k further
    ]

keyword_taken : (word : List ℕ) (k : Keyword) → keyword_of word ≡ Some k → word ≡ keyword_text k
unfolding keyword_of
keyword_taken word k e = first_found word keywords k e

keyword_read : (k : Keyword) → keyword_of (keyword_text k) ≡ Some k
unfolding keyword_of
keyword_read keyword.Pool = refl
keyword_read keyword.Hold = refl
keyword_read keyword.Release = refl
keyword_read keyword.Write = refl
keyword_read keyword.Create = refl
keyword_read keyword.Snapshot = refl
keyword_read keyword.Clone = refl
keyword_read keyword.Destroy = refl
keyword_read keyword.Close = refl
keyword_read keyword.Quiesced = refl
keyword_read keyword.Plan = refl
keyword_read keyword.Device = refl
keyword_read keyword.Commit = refl
keyword_read keyword.Sync = refl
keyword_read keyword.Read = refl
keyword_read keyword.Under = refl
keyword_read keyword.Out = refl
keyword_read keyword.Stop = refl
keyword_read keyword.Reopen = refl

-- the keyword of a command
abbrev keyword_for : Command → Keyword
keyword_for (Pool pool) = keyword.Pool
keyword_for (Hold writer) = keyword.Hold
keyword_for (Release writer) = keyword.Release
keyword_for (Write write) = keyword.Write
keyword_for (Create create) = keyword.Create
keyword_for (Snapshot snapshot) = keyword.Snapshot
keyword_for (Clone clone) = keyword.Clone
keyword_for (Destroy destroy) = keyword.Destroy
keyword_for Close = keyword.Close
keyword_for Quiesced = keyword.Quiesced
keyword_for Plan = keyword.Plan
keyword_for Device = keyword.Device
keyword_for Commit = keyword.Commit
keyword_for Sync = keyword.Sync
keyword_for (Read read) = keyword.Read
keyword_for (Under under) = keyword.Under
keyword_for (Out disk) = keyword.Out
keyword_for (Stop stop) = keyword.Stop
keyword_for (Reopen reopen) = keyword.Reopen

words_begin : (c : Command) → words_of c ≡ keyword_text (keyword_for c) ∷ drop 1 (words_of c)
words_begin (Pool pool) = refl
words_begin (Hold writer) = refl
words_begin (Release writer) = refl
words_begin (Write write) = refl
words_begin (Create create) = refl
words_begin (Snapshot snapshot) = refl
words_begin (Clone clone) = refl
words_begin (Destroy destroy) = refl
words_begin Close = refl
words_begin Quiesced = refl
words_begin Plan = refl
words_begin Device = refl
words_begin Commit = refl
words_begin Sync = refl
words_begin (Read read) = refl
words_begin (Under under) = refl
words_begin (Out disk) = refl
words_begin (Stop stop) = refl
words_begin (Reopen reopen) = refl

-- ---- commands

number_made : (words : Words) (text : List ℕ) (x : ℕ × Words) (c : Command) → IsFull text → words_of c ≡ text ∷ decimal x.0 ∷ [] → NumbersFit c → Number words (2 ^ 32) x → Taken (text ∷ words) c x.1
number_made words text x c full spelled fits number =
    record {
      parts = onto _ _ _ number.word ∙ ap (λ (w : Words). w ++ x.1) (sym spelled);
      fits = fits;
      full = subst (AllByRecursion IsFull) (sym spelled) (full, (number.full, tt));
    }

command_taken : (k : Keyword) (words : Words) (x : Command × Words) → command_at k words ≡ Some x → Taken (keyword_text k ∷ words) x.0 x.1
unfolding command_at
command_taken keyword.Pool words x e =
    let a = of_read_some Pool (pool_at words) x e in
    subst (λ (y : Command × Words). Taken (codes "pool" ∷ words) y.0 y.1) a.2 (pool_taken words a.0.0 a.0.1 a.1)
command_taken keyword.Hold words x e =
    let a = of_read_some Hold (number_at (2 ^ 32) words) x e in
    let number = number_taken (2 ^ 32) words a.0 (omega arith) a.1 in
    subst (λ (y : Command × Words). Taken (codes "hold" ∷ words) y.0 y.1) a.2 (number_made words (codes "hold") a.0 (Hold a.0.0) (lit< tt) refl number.fits number)
command_taken keyword.Release words x e =
    let a = of_read_some Release (number_at (2 ^ 32) words) x e in
    let number = number_taken (2 ^ 32) words a.0 (omega arith) a.1 in
    subst (λ (y : Command × Words). Taken (codes "release" ∷ words) y.0 y.1) a.2 (number_made words (codes "release") a.0 (Release a.0.0) (lit< tt) refl number.fits number)
command_taken keyword.Write words x e =
    let a = of_read_some Write (write_at words) x e in
    subst (λ (y : Command × Words). Taken (codes "write" ∷ words) y.0 y.1) a.2 (write_taken words a.0.0 a.0.1 a.1)
command_taken keyword.Create words x e =
    let a = of_read_some Create (create_at words) x e in
    subst (λ (y : Command × Words). Taken (codes "create" ∷ words) y.0 y.1) a.2 (create_taken words a.0.0 a.0.1 a.1)
command_taken keyword.Snapshot words x e =
    let a = of_read_some Snapshot (snapshot_at words) x e in
    subst (λ (y : Command × Words). Taken (codes "snapshot" ∷ words) y.0 y.1) a.2 (snapshot_taken words a.0.0 a.0.1 a.1)
command_taken keyword.Clone words x e =
    let a = of_read_some Clone (clone_at words) x e in
    subst (λ (y : Command × Words). Taken (codes "clone" ∷ words) y.0 y.1) a.2 (clone_taken words a.0.0 a.0.1 a.1)
command_taken keyword.Destroy words x e =
    let a = of_read_some Destroy (destroy_at words) x e in
    subst (λ (y : Command × Words). Taken (codes "destroy" ∷ words) y.0 y.1) a.2 (destroy_taken words a.0.0 a.0.1 a.1)
command_taken keyword.Close words x e =
    subst (λ (y : Command × Words). Taken (codes "close" ∷ words) y.0 y.1) (some_is (Close, words) x e) (record { parts = refl; fits = tt; full = (lit< tt, tt) })
command_taken keyword.Quiesced words x e =
    subst (λ (y : Command × Words). Taken (codes "quiesced" ∷ words) y.0 y.1) (some_is (Quiesced, words) x e) (record { parts = refl; fits = tt; full = (lit< tt, tt) })
command_taken keyword.Plan words x e =
    subst (λ (y : Command × Words). Taken (codes "plan" ∷ words) y.0 y.1) (some_is (Plan, words) x e) (record { parts = refl; fits = tt; full = (lit< tt, tt) })
command_taken keyword.Device words x e =
    subst (λ (y : Command × Words). Taken (codes "device" ∷ words) y.0 y.1) (some_is (Device, words) x e) (record { parts = refl; fits = tt; full = (lit< tt, tt) })
command_taken keyword.Commit words x e =
    subst (λ (y : Command × Words). Taken (codes "commit" ∷ words) y.0 y.1) (some_is (Commit, words) x e) (record { parts = refl; fits = tt; full = (lit< tt, tt) })
command_taken keyword.Sync words x e =
    subst (λ (y : Command × Words). Taken (codes "sync" ∷ words) y.0 y.1) (some_is (Sync, words) x e) (record { parts = refl; fits = tt; full = (lit< tt, tt) })
command_taken keyword.Read words x e =
    let a = of_read_some Read (read_at words) x e in
    subst (λ (y : Command × Words). Taken (codes "read" ∷ words) y.0 y.1) a.2 (read_taken words a.0.0 a.0.1 a.1)
command_taken keyword.Under words x e =
    let a = of_read_some Under (under_at words) x e in
    subst (λ (y : Command × Words). Taken (codes "under" ∷ words) y.0 y.1) a.2 (under_taken words a.0.0 a.0.1 a.1)
command_taken keyword.Out words x e =
    let a = of_read_some Out (number_at (2 ^ 32) words) x e in
    let number = number_taken (2 ^ 32) words a.0 (omega arith) a.1 in
    subst (λ (y : Command × Words). Taken (codes "out" ∷ words) y.0 y.1) a.2 (number_made words (codes "out") a.0 (Out a.0.0) (lit< tt) refl number.fits number)
command_taken keyword.Stop words x e =
    let a = of_read_some Stop (stop_at words) x e in
    subst (λ (y : Command × Words). Taken (codes "stop" ∷ words) y.0 y.1) a.2 (stop_taken words a.0.0 a.0.1 a.1)
command_taken keyword.Reopen words x e =
    let a = of_read_some Reopen (reopen_at words) x e in
    subst (λ (y : Command × Words). Taken (codes "reopen" ∷ words) y.0 y.1) a.2 (reopen_taken words a.0.0 a.0.1 a.1)

command_read : (c : Command) → NumbersFit c → AllByRecursion IsFull (words_of c) → command_at (keyword_for c) (drop 1 (words_of c)) ≡ Some (c, [])
unfolding command_at
command_read (Pool pool) fits full = ap (of_read Pool) (pool_read pool fits full)
command_read (Hold writer) fits full = ap (of_read Hold) (number_read (2 ^ 32) writer [] (omega arith) fits)
command_read (Release writer) fits full = ap (of_read Release) (number_read (2 ^ 32) writer [] (omega arith) fits)
command_read (Write write) fits full = ap (of_read Write) (write_read write fits full)
command_read (Create create) fits full = ap (of_read Create) (create_read create fits full)
command_read (Snapshot snapshot) fits full = ap (of_read Snapshot) (snapshot_read snapshot fits full)
command_read (Clone clone) fits full = ap (of_read Clone) (clone_read clone fits full)
command_read (Destroy destroy) fits full = ap (of_read Destroy) (destroy_read destroy fits full)
command_read Close fits full = refl
command_read Quiesced fits full = refl
command_read Plan fits full = refl
command_read Device fits full = refl
command_read Commit fits full = refl
command_read Sync fits full = refl
command_read (Read read) fits full = ap (of_read Read) (read_read read fits full)
command_read (Under under) fits full = ap (of_read Under) (under_read under fits full)
command_read (Out disk) fits full = ap (of_read Out) (number_read (2 ^ 32) disk [] (omega arith) fits)
command_read (Stop stop) fits full = ap (of_read Stop) (stop_read stop fits)
command_read (Reopen reopen) fits full = ap (of_read Reopen) (reopen_read reopen fits)

end_taken : (words : Words) (x : Unit {0}) → end_at words ≡ Some x → words ≡ []
end_taken [] x e = refl
end_taken (word ∷ words) x e = absurd cc

whole_taken : (words : Words) (line : Line) → whole_command words ≡ Some line → (c : Command) × (CommandLine c ≡ line) × Taken words c []
unfolding whole_command
whole_taken words line e =
    let a = bind_some (word_at words) _ line e in
    let b = bind_some (keyword_of a.0.0) _ line a.2 in
    let d = bind_some (command_at b.0 a.0.1) _ line b.2 in
    let g = bind_some (end_at d.0.1) _ line d.2 in
    let taken = command_taken b.0 a.0.1 d.0 d.1 in
    let first = word_taken words a.0 a.1 ∙ ap (λ (w : List ℕ). w ∷ a.0.1) (keyword_taken a.0.0 b.0 b.1) in
    let all : Taken words d.0.0 d.0.1 = subst (λ (w : Words). Taken w d.0.0 d.0.1) (sym first) taken in
    (d.0.0, some_is (CommandLine d.0.0) line g.2, subst (Taken words d.0.0) (end_taken d.0.1 g.0 g.1) all)

whole_read : (c : Command) → NumbersFit c → AllByRecursion IsFull (words_of c) → whole_command (words_of c) ≡ Some (CommandLine c)
unfolding whole_command
whole_read c fits full = ap whole_command (words_begin c) ∙ rw (keyword_read (keyword_for c), command_read c fits full) refl

-- ---- lines

both_by_recursion : (words : Words) → AllByRecursion IsFull words → AllByRecursion Spaceless words → AllByRecursion IsWord words
both_by_recursion [] full spaceless = tt
both_by_recursion (word ∷ words) full spaceless = ((full.0, spaceless.0), both_by_recursion words full.1 spaceless.1)

all_full : (words : Words) → AllByRecursion IsWord words → AllByRecursion IsFull words
all_full [] h = tt
all_full (word ∷ words) h = (h.0.0, all_full words h.1)

all_spaceless : (words : Words) → AllByRecursion IsWord words → AllByRecursion Spaceless words
all_spaceless [] h = tt
all_spaceless (word ∷ words) h = (h.0.1, all_spaceless words h.1)

command_spelled : (bytes : List ℕ) (c : Command) → Taken (slice_split is_space bytes) c [] → Spells (CommandLine c) bytes
command_spelled bytes c taken =
    let words : slice_split is_space bytes ≡ words_of c = taken.parts ∙ append-nil (words_of c) in
    let spaceless : AllByRecursion Spaceless (words_of c) = subst (AllByRecursion Spaceless) words (parts_spaceless bytes) in
    (record { words = both_by_recursion (words_of c) taken.full spaceless; numbers = taken.fits }, sym (join_with_byte-slice_split 32 bytes) ∙ ap (join_with_byte 32) words)

said_spelled : (bytes : List ℕ) (line : Line) → said_line bytes ≡ Some line → Spells line bytes
unfolding said_line
said_spelled bytes line e =
    elim (chosen (bytes_eq bytes (codes "threads")) (some Threads) (whole_command (slice_split is_space bytes)) (Some line) e) [
      | inl threads ↦ subst (λ (l : Line). Spells l bytes) (some_is Threads line threads.1) ((bytes_eq-Decides bytes (codes "threads")).0 threads.0)
      | inr other ↦
          let w = whole_taken (slice_split is_space bytes) line other.1 in
          subst (λ (l : Line). Spells l bytes) w.1 (command_spelled bytes w.0 w.2)
    ]

pub line_spelled : (bytes : List ℕ) (line : Line) → line_of bytes ≡ Some line → Spells line bytes
unfolding line_of
line_spelled [] line e = subst (λ (l : Line). Spells l []) (some_is Skipped line e) tt
line_spelled (b ∷ bytes) line e =
    elim (chosen (nat_eq b 35) (some Skipped) (said_line (b ∷ bytes)) (Some line) e) [
      | inl skipped ↦ subst (λ (l : Line). Spells l (b ∷ bytes)) (some_is Skipped line skipped.1) (eqb-true b 35 skipped.0)
      | inr other ↦ said_spelled (b ∷ bytes) line other.1
    ]

split_words : (words others : Words) (word : List ℕ) → words ≡ word ∷ others → AllByRecursion Spaceless words → slice_split is_space (join_with_byte 32 words) ≡ words
split_words words others word e h = rw e (split_joined word others (subst (AllByRecursion Spaceless) e h))

-- no command begins with '#', or as "threads" does
command_line : (c : Command) → line_of (join_with_byte 32 (words_of c)) ≡ whole_command (slice_split is_space (join_with_byte 32 (words_of c)))
unfolding line_of said_line
command_line (Pool pool) = refl
command_line (Hold writer) = refl
command_line (Release writer) = refl
command_line (Write write) = refl
command_line (Create create) = refl
command_line (Snapshot snapshot) = refl
command_line (Clone clone) = refl
command_line (Destroy destroy) = refl
command_line Close = refl
command_line Quiesced = refl
command_line Plan = refl
command_line Device = refl
command_line Commit = refl
command_line Sync = refl
command_line (Read read) = refl
command_line (Under under) = refl
command_line (Out disk) = refl
command_line (Stop Blocks) = refl
command_line (Stop (Slots disks)) = refl
command_line (Stop (Claim disks)) = refl
command_line (Reopen reopen) = refl

pub line_read : (line : Line) (bytes : List ℕ) → Spells line bytes → line_of bytes ≡ Some line
unfolding line_of said_line
line_read Skipped [] h = refl
line_read Skipped (b ∷ bytes) h = rw h refl
line_read Threads bytes h = ap line_of h
line_read (CommandLine c) bytes h =
    let spaceless = all_spaceless (words_of c) h.0.words in
    ap line_of h.1 ∙ command_line c ∙ ap whole_command (split_words (words_of c) (drop 1 (words_of c)) (keyword_text (keyword_for c)) (words_begin c) spaceless)
    ∙ whole_read c h.0.numbers (all_full (words_of c) h.0.words)

-- ---- what `parse` says

pub found_line : (r : Result Line Refusal) (bytes : List ℕ) → Gives (λ (l : Line). l) r (line_of bytes) → IfOk r (λ value. Spells value bytes)
found_line (Ok line) bytes h = line_spelled bytes line h
found_line (Err e) bytes h = tt

pub only_line : (r : Result Line Refusal) (bytes : List ℕ) → Gives (λ (l : Line). l) r (line_of bytes) → (value : Line) → Spells value bytes → (r ≡ Ok value) ⊎ (r ≡ Err NoMemory)
only_line (Ok line) bytes h value spelled = inl (ap (λ (l : Line). Ok l) (some_is line value (sym h ∙ line_read value bytes spelled)))
only_line (Err NoMemory) bytes h value spelled = inr refl
only_line (Err Fault) bytes h value spelled = let read = line_read value bytes spelled in absurd cc

pub fault_line : (r : Result Line Refusal) (bytes : List ℕ) → Gives (λ (l : Line). l) r (line_of bytes) → r ≡ Err Fault → (value : Line) → Spells value bytes → ⊥
fault_line (Ok line) bytes h fault value spelled = cc
fault_line (Err NoMemory) bytes h fault value spelled = cc
fault_line (Err Fault) bytes h fault value spelled = let read = line_read value bytes spelled in cc

pub one_line : (a b : Line) (bytes : List ℕ) → Spells a bytes → Spells b bytes → a ≡ b
one_line a b bytes first second = some_is a b (sym (line_read a bytes first) ∙ line_read b bytes second)
