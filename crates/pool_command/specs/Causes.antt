-- Why words are no command, and what a function answers.
use Rattle.std.specs.Prelude.{◌≡◌, Bool, true, false, Result, Ok, Err}
use Rattle.clap.specs.Words.{IsAmong, Kinds, kind_of}
use Rattle.clap.specs.declared.error.Error.{Error}
use Rattle.clap.specs.declared.error.kind.ErrorKind.{ErrorKind}
use Rattle.clap.specs.declared.error.kind.ErrorKind.TheVariants.{OutOfMemory, DisplayHelp, DisplayVersion}
use Rattle.pool_command.specs.declared.refusal.Refusal.{Refusal}
use Rattle.pool_command.specs.declared.refusal.Refusal.TheVariants.{Words, Missing, NoType, NoPart, NoNewFiles, NoPlace, HalfRange, NoProgram, NoMemory}

-- by_words: the words break the options and places of the program, or ask for help or the version, and an error has one of
-- these kinds; the others are a refusal each
pub data Cause : Type 0 where
  by_words : Kinds → Cause
  missing : Cause
  no_type : Cause
  no_part : Cause
  no_new_files : Cause
  no_place : Cause
  half_range : Cause
  no_program : Cause

-- what an error of the parse becomes
abbrev pub words_by_kind : ErrorKind → Error → Refusal
words_by_kind OutOfMemory error = NoMemory
words_by_kind kind error = Words error

-- the refusal that an error of the parse becomes: want of memory, or the words with their error
abbrev pub of_words : Error → Refusal
of_words error = words_by_kind (kind_of error) error

-- help or the version was asked for
abbrev pub is_answer_kind : ErrorKind → Bool
is_answer_kind DisplayHelp = true
is_answer_kind DisplayVersion = true
is_answer_kind _ = false

-- the refusal is no fault: help or the version was asked for
abbrev pub is_answer : Refusal → Bool
is_answer (Words error) = is_answer_kind (kind_of error)
is_answer _ = false

-- the kind of the error is one of these
abbrev pub HasKindOf : {A : Type 0} → Error → Result A Cause → Type 0
HasKindOf error (Err (by_words kinds)) = IsAmong (kind_of error) kinds
HasKindOf error _ = ⊥

-- the refusal says why nothing was read, or memory ran out
abbrev pub Fails : {A : Type 0} → Refusal → Result A Cause → Type 0
Fails (Words error) read = HasKindOf error read
Fails Missing read = read ≡ Err missing
Fails NoType read = read ≡ Err no_type
Fails NoPart read = read ≡ Err no_part
Fails NoNewFiles read = read ≡ Err no_new_files
Fails NoPlace read = read ≡ Err no_place
Fails HalfRange read = read ≡ Err half_range
Fails NoProgram read = read ≡ Err no_program
Fails NoMemory read = Unit {0}

-- what a function returned, seen by view, is what reading gives, unless memory ran out
abbrev pub Gives : {X A : Type 0} → (X → A) → Result X Refusal → Result A Cause → Type 0
Gives view (Ok x) read = read ≡ Ok (view x)
Gives view (Err refusal) read = Fails refusal read
