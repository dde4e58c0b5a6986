-- Lines that are read one behind the other.
use Rattle.std.proofs.Common.{◌≡◌, ◌≢◌, ℕ, List, [], ◌∷◌, ◌++◌, Option, Some, None, MatchOption, Result, Ok, Err, OnOk, refl, sym, ap, ◌∙◌, subst, append_assoc}
use Rattle.std.proofs.lemmas.List.{append-nil}
use Rattle.std.specs.Io.BufRead.{drop_through}
use Rattle.std.specs.Io.KnownBytes.{Appends}
use Rattle.std.specs.List.{AllByRecursion}
use Rattle.std.specs.Result.{IsErrAnd, IfErr}
use Rattle.schedule_lines.specs.declared.command.Line.{Line}
use Rattle.schedule_lines.specs.declared.command.Line.TheVariants.{Skipped, Threads, Command as CommandLine}
use Rattle.schedule_lines.specs.declared.command.Command.{Command}
use Rattle.programs.specs.Reads.{AreLines, ReadsLines, commands_of}

pub none_read : (input : Option (List ℕ)) → ReadsLines input [] input
none_read None = tt
none_read (Some bytes) = refl

are_lines_more : (bytes : List ℕ) (lines more : List Line) (rest end : List ℕ) → AreLines bytes lines rest → AreLines rest more end → AreLines bytes (lines ++ more) end
are_lines_more bytes [] more rest end h k = subst (λ (b : List ℕ). AreLines b more end) (sym h) k
are_lines_more bytes (line ∷ lines) more rest end h k = (h.0, h.1, are_lines_more (drop_through 10 bytes) lines more rest end h.2 k)

pub read_more : (old between new : Option (List ℕ)) (lines more : List Line) → ReadsLines old lines between → ReadsLines between more new → ReadsLines old (lines ++ more) new
read_more None between new lines more h k = tt
read_more (Some bytes) None new lines more h k = absurd h
read_more (Some bytes) (Some rest) None lines more h k = absurd k
read_more (Some bytes) (Some rest) (Some end) lines more h k = are_lines_more bytes lines more rest end h k

pub commands_append : (lines more : List Line) → commands_of (lines ++ more) ≡ commands_of lines ++ commands_of more
commands_append [] more = refl
commands_append (Skipped ∷ lines) more = commands_append lines more
commands_append (Threads ∷ lines) more = commands_append lines more
commands_append (CommandLine command ∷ lines) more = ap (λ (commands : List Command). command ∷ commands) (commands_append lines more)

-- a line behind that asks for nothing
pub commands_same : (lines : List Line) → commands_of (lines ++ Skipped ∷ []) ≡ commands_of lines
commands_same lines = commands_append lines (Skipped ∷ []) ∙ append-nil (commands_of lines)

pub all_more : {A : Type 0} (P : A → Type 0) (xs : List A) (x : A) → AllByRecursion P xs → P x → AllByRecursion P (xs ++ x ∷ [])
all_more P [] x all p = (p, tt)
all_more P (y ∷ xs) x all p = (all.0, all_more P xs x all.1 p)

pub skipped_is_plain : Skipped ≢ Threads
skipped_is_plain same = absurd cc

pub command_is_plain : (command : Command) → CommandLine command ≢ Threads
command_is_plain command same = absurd cc

-- ---- texts

pub nothing_appended : (known : Option (List ℕ)) → Appends known known []
nothing_appended None = tt
nothing_appended (Some bytes) = sym (append-nil bytes)

pub appends_more : (old between new : Option (List ℕ)) (text more : List ℕ) → Appends old between text → Appends between new more → Appends old new (text ++ more)
appends_more None between new text more h k = tt
appends_more (Some bytes) None new text more h k = absurd h
appends_more (Some bytes) (Some longer) None text more h k = absurd k
appends_more (Some bytes) (Some longer) (Some longest) text more h k = k ∙ (ap (λ (b : List ℕ). b ++ more) h ∙ append_assoc bytes text more)

-- ---- results

pub if_none : {T : Type 0} (o : Option T) (P : Type 0) (Q : T → Type 0) → MatchOption o P Q → ((x : T) → o ≡ Some x → ⊥) → P
if_none None P Q h other = h
if_none (Some x) P Q h other = absurd (other x refl)

-- what an error is passed on for
pub passed_on : {T E : Type 0} (result : Result T E) (refusal : E) (P : E → Type 0) → IsErrAnd result (λ e. e ≡ refusal) → P refusal → IfErr result P
passed_on (Ok x) refusal P h there = tt
passed_on (Err e) refusal P h there = subst (λ r. P r) (sym h) there

pub on_fault : {T E : Type 0} (r : Result T E) (P Q : E → Type 0) → ((cause : E) → P cause → Q cause) → IfErr r P → IfErr r Q
on_fault (Ok x) P Q map is = tt
on_fault (Err cause) P Q map is = map cause is

pub on_ok : {T E : Type 0} (r : Result T E) (P Q : Type 0) → (P → Q) → OnOk r P → OnOk r Q
on_ok (Ok x) P Q map is = map is
on_ok (Err e) P Q map is = tt
