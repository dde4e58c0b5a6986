-- Where schedules fault.
use Rattle.std.proofs.Common.{ℕ, ◌≡◌, ◌⊎◌, ◌+◌, List, [], ◌∷◌, ◌++◌, length, Option, Some, None, Result, Ok, Err, inl, inr, refl, sym, ap, ◌∙◌, subst, length-append, arith, codes}
use Rattle.std.proofs.lemmas.List.{append-nil}
use Rattle.std.specs.Result.{IsErrAnd, IfErr}
use Rattle.std.specs.Io.KnownBytes.{Appends, IsAtEnd}
use Rattle.pool_model.specs.declared.refusal.Refusal.{Refusal as Cause}
use Rattle.schedule_lines.specs.declared.command.Line.{Line}
use Rattle.schedule_lines.specs.declared.command.Line.TheVariants.{Command as CommandLine}
use Rattle.schedule_lines.specs.declared.command.Command.{Command}
use Rattle.schedule_lines.specs.declared.command.Command.TheVariants.{Pool, Hold, Release, Write as WriteCommand, Create, Snapshot, Clone, Destroy, Close, Quiesced, Plan, Device, Commit, Sync, Read, Under, Out, Stop, Reopen}
use Rattle.schedule_lines.specs.declared.command.PoolLine.{PoolLine}
use Rattle.schedule_lines.specs.Replies.{refusal_text}
use Rattle.programs.specs.declared.refusal.Refusal.{Refusal}
use Rattle.programs.specs.declared.refusal.Refusal.TheVariants.{Line as LineFault, Input, Output, Memory}
use Rattle.programs.specs.declared.outcome.Outcome.{Outcome}
use Rattle.programs.specs.Answers.{IsFirst}
use Rattle.programs.specs.Faults.{counted, Skips, ReadsCommand, IsLineFault, IsNextFault, IsNoLine, CannotGoOn, StopsPool, IsPoolFault, PrintsBefore, StopsAtLine, IsFaultOf}
use Rattle.programs.specs.Outcomes.{IsOutcomeText}
use Rattle.programs.specs.Plays.{Plays, AnswersAll}
use Rattle.programs.specs.Reads.{ReadsLines, Reads, IsSchedule, commands_of}
use Rattle.programs.proofs.Playing.{appends_more, plays_more, schedule_ends}
use Rattle.programs.proofs.Reading.{reads_lines_more, commands_append}

-- ---- lines

pub skips_none : (input : Option (List ℕ)) (k : ℕ) → Skips input k input k
skips_none None k = ([], tt, refl, omega arith)
skips_none (Some bytes) k = ([], refl, refl, omega arith)

pub skips_end : (old between : Option (List ℕ)) (k m : ℕ) → Skips old k between m → IsAtEnd between → IsSchedule old []
skips_end old between k m skips end = (between, (skips.0, skips.1, skips.2), end)

-- one line that asks for nothing
pub skips_more : (old between new : Option (List ℕ)) (k m n : ℕ) (line : Line) → Skips old k between m → ReadsLines between (line ∷ []) new → commands_of (line ∷ []) ≡ [] → n ≡ counted (m + 1) → Skips old k new n
skips_more old between new k m n line skips read none number = (
  skips.0 ++ line ∷ [],
  reads_lines_more old between new skips.0 (line ∷ []) skips.1 read,
  commands_append skips.0 (line ∷ []) ∙ (ap (λ (c : List Command). commands_of skips.0 ++ c) none ∙ (append-nil (commands_of skips.0) ∙ skips.2)),
  omega (arith, skips.3, number, length-append skips.0 (line ∷ [])),
)

pub reads_of : (old new : Option (List ℕ)) (k n : ℕ) (command : Command) → ReadsCommand old k command new n → Reads old (command ∷ []) new
reads_of old new k n command found = (
  found.2.0 ++ CommandLine command ∷ [],
  reads_lines_more old found.0 new found.2.0 (CommandLine command ∷ []) found.2.1 found.3,
  commands_append found.2.0 (CommandLine command ∷ []) ∙ ap (λ (c : List Command). c ++ command ∷ []) found.2.2,
)

-- ---- refusals

pub next_fault : (old between : Option (List ℕ)) (k m : ℕ) (cause : Refusal) → Skips old k between m → IsNextFault between m cause → IsLineFault old k cause
next_fault old between k m (LineFault n) skips fault = (between, m, skips, fault.0, fault.1)
next_fault old between k m Input skips fault = tt
next_fault old between k m Output skips fault = tt
next_fault old between k m Memory skips fault = tt

nothing_appended : (known : Option (List ℕ)) → Appends known known []
nothing_appended None = tt
nothing_appended (Some bytes) = sym (append-nil bytes)

none_read : (input : Option (List ℕ)) → ReadsLines input [] input
none_read None = tt
none_read (Some bytes) = refl

pub not_first : (command : Command) → ((line : PoolLine) → command ≡ Pool line → ⊥) → ¬ IsFirst command
not_first (Pool line) other first = other line refl
not_first (Hold writer) other first = first
not_first (Release writer) other first = first
not_first (WriteCommand line) other first = first
not_first (Create line) other first = first
not_first (Snapshot line) other first = first
not_first (Clone line) other first = first
not_first (Destroy line) other first = first
not_first Close other first = first
not_first Quiesced other first = first
not_first Plan other first = first
not_first Device other first = first
not_first Commit other first = first
not_first Sync other first = first
not_first (Read line) other first = first
not_first (Under line) other first = first
not_first (Out disk) other first = first
not_first (Stop point) other first = first
not_first (Reopen line) other first = first

-- what an error is passed on for
pub passed_on : {T E : Type 0} (result : Result T E) (refusal : E) (P : E → Type 0) → IsErrAnd result (λ e. e ≡ refusal) → P refusal → IfErr result P
passed_on (Ok x) refusal P h there = tt
passed_on (Err e) refusal P h there = subst (λ r. P r) (sym h) there

pub on_fault : {T : Type 0} (r : Result T Refusal) (P Q : Refusal → Type 0) → ((cause : Refusal) → P cause → Q cause) → IfErr r P → IfErr r Q
on_fault (Ok x) P Q map is = tt
on_fault (Err cause) P Q map is = map cause is

-- ---- against a pool

module _ {M : Type 0} (Outcomes : M → Command → Outcome → M → Type 0) (Faults : M → Command → Type 0) where
  -- these lines were read, and their commands are so far answered with that text
  pub record RanSoFar (pool : M) (input : Option (List ℕ)) (k : ℕ) (old : Option (List ℕ)) (last : M) (rest : Option (List ℕ)) (n : ℕ) (new : Option (List ℕ)) : Type 0 where
    pub lines : List Line
    pub text : List ℕ
    pub read : ReadsLines input lines rest
    pub number : counted n ≡ counted (k + length lines)
    pub plays : Plays Outcomes pool (commands_of lines) text last
    pub appends : Appends old new text

  pub ran_none : (pool : M) (input : Option (List ℕ)) (k : ℕ) (old : Option (List ℕ)) → RanSoFar pool input k old pool input k old
  ran_none pool input k old =
      record { lines = []; text = []; read = none_read input; number = omega arith; plays = (refl, refl); appends = nothing_appended old }

  -- only skipped lines more
  pub ran_skips : (pool : M) (input : Option (List ℕ)) (k : ℕ) (old : Option (List ℕ)) (last : M) (rest between : Option (List ℕ)) (n m : ℕ) (new : Option (List ℕ))
      → RanSoFar pool input k old last rest n new → Skips rest n between m → RanSoFar pool input k old last between m new
  ran_skips pool input k old last rest between n m new ran skips = record {
    lines = ran.lines ++ skips.0;
    text = ran.text;
    read = reads_lines_more input rest between ran.lines skips.0 ran.read skips.1;
    number = omega (arith, ran.number, skips.3, length-append ran.lines skips.0);
    plays = subst (λ (c : List Command). Plays Outcomes pool c ran.text last)
        (sym (commands_append ran.lines skips.0 ∙ (ap (λ (c : List Command). commands_of ran.lines ++ c) skips.2 ∙ append-nil (commands_of ran.lines)))) ran.plays;
    appends = ran.appends;
  }

  -- one command more
  pub ran_more : (pool : M) (input : Option (List ℕ)) (k : ℕ) (old : Option (List ℕ)) (last after : M) (rest behind : Option (List ℕ)) (n j : ℕ) (new newer : Option (List ℕ)) (command : Command) (outcome : Outcome) (line : List ℕ)
      → RanSoFar pool input k old last rest n new → ReadsCommand rest n command behind j → Outcomes last command outcome after → IsOutcomeText outcome line → Appends new newer (line ++ 10 ∷ [])
      → RanSoFar pool input k old after behind j newer
  ran_more pool input k old last after rest behind n j new newer command outcome line ran found came said told =
      let upto = ran_skips pool input k old last rest found.0 n found.1 new ran found.2 in
      record {
        lines = upto.lines ++ CommandLine command ∷ [];
        text = upto.text ++ (line ++ 10 ∷ []);
        read = reads_lines_more input found.0 behind upto.lines (CommandLine command ∷ []) upto.read found.3;
        number = omega (arith, upto.number, found.4, length-append upto.lines (CommandLine command ∷ []));
        plays = subst (λ (c : List Command). Plays Outcomes pool c (upto.text ++ (line ++ 10 ∷ [])) after) (sym (commands_append upto.lines (CommandLine command ∷ [])))
            (plays_more Outcomes (commands_of upto.lines) pool last after upto.text command outcome line upto.plays came said);
        appends = appends_more old new newer upto.text (line ++ 10 ∷ []) upto.appends told;
      }

  pub ran_all : (pool : M) (input : Option (List ℕ)) (k : ℕ) (old : Option (List ℕ)) (last : M) (rest : Option (List ℕ)) (n : ℕ) (new : Option (List ℕ))
      → RanSoFar pool input k old last rest n new → IsSchedule rest [] → AnswersAll Outcomes pool input old new
  ran_all pool input k old last rest n new ran ended =
      (commands_of ran.lines, ran.text, last, schedule_ends input rest (commands_of ran.lines) (ran.lines, ran.read, refl) ended, ran.plays, ran.appends)

  pub ran_fault : (pool : M) (input : Option (List ℕ)) (k : ℕ) (old : Option (List ℕ)) (last : M) (rest : Option (List ℕ)) (n : ℕ) (new : Option (List ℕ)) (cause : Refusal)
      → RanSoFar pool input k old last rest n new → IsLineFault rest n cause → IsPoolFault Outcomes Faults pool input k old new cause
  ran_fault pool input k old last rest n new (LineFault j) ran fault =
      let upto = ran_skips pool input k old last rest fault.0 n fault.1 new ran fault.2 in
      record { lines = upto.lines; rest = fault.0; text = upto.text; last = last; read = upto.read; number = omega (arith, upto.number, fault.4); plays = upto.plays; appends = upto.appends; cause = inl fault.3 }
  ran_fault pool input k old last rest n new Input ran fault = tt
  ran_fault pool input k old last rest n new Output ran fault = tt
  ran_fault pool input k old last rest n new Memory ran fault = tt

  -- a command that can't stand before the pool
  pub ran_misplaced : (pool : M) (input : Option (List ℕ)) (k : ℕ) (old : Option (List ℕ)) (last : M) (rest behind : Option (List ℕ)) (n j : ℕ) (new : Option (List ℕ)) (command : Command)
      → RanSoFar pool input k old last rest n new → ReadsCommand rest n command behind j → Faults last command → StopsPool Outcomes Faults pool input k old new j
  ran_misplaced pool input k old last rest behind n j new command ran found none =
      let upto = ran_skips pool input k old last rest found.0 n found.1 new ran found.2 in
      record { lines = upto.lines; rest = found.0; text = upto.text; last = last; read = upto.read; number = omega (arith, upto.number, found.4); plays = upto.plays; appends = upto.appends; cause = inr (command, (behind, found.3), none) }

  pub no_pool_line : (pool : M) (input : Option (List ℕ)) (k : ℕ) (old new : Option (List ℕ)) (cause : Refusal) → IsNoLine cause → IsPoolFault Outcomes Faults pool input k old new cause
  no_pool_line pool input k old new (LineFault n) none = absurd none
  no_pool_line pool input k old new Input none = tt
  no_pool_line pool input k old new Output none = tt
  no_pool_line pool input k old new Memory none = tt

-- ---- a whole schedule

module _ {M : Type 0} (Creates : PoolLine → M → Type 0) (Refuses : PoolLine → Cause → Type 0) (Outcomes : M → Command → Outcome → M → Type 0) (Faults : M → Command → Type 0) where
  pub no_line : (input old new : Option (List ℕ)) (cause : Refusal) → IsNoLine cause → IsFaultOf Creates Refuses Outcomes Faults input old new cause
  no_line input old new (LineFault n) none = absurd none
  no_line input old new Input none = tt
  no_line input old new Output none = tt
  no_line input old new Memory none = tt

  first_lines : (input old between : Option (List ℕ)) (m j : ℕ) (skips : Skips input 0 between m) → j ≡ counted (m + 1)
      → CannotGoOn (λ command. ¬ IsFirst command) between → StopsAtLine Creates Refuses Outcomes Faults input old old j
  first_lines input old between m j skips number cause = record {
    lines = skips.0;
    rest = between;
    text = [];
    read = skips.1;
    number = omega (arith, skips.3, number);
    prints = subst (λ (c : List Command). PrintsBefore Creates Refuses Outcomes Faults c [] between) (sym skips.2) (refl, cause);
    appends = nothing_appended old;
  }

  pub first_fault : (input old : Option (List ℕ)) (cause : Refusal) → IsLineFault input 0 cause → IsFaultOf Creates Refuses Outcomes Faults input old old cause
  first_fault input old (LineFault j) fault = first_lines input old fault.0 fault.1 j fault.2 fault.4 (inl fault.3)
  first_fault input old Input fault = tt
  first_fault input old Output fault = tt
  first_fault input old Memory fault = tt

  -- the first command asks for no pool
  pub first_misplaced : (input behind old : Option (List ℕ)) (j : ℕ) (command : Command) → ReadsCommand input 0 command behind j → ¬ IsFirst command → StopsAtLine Creates Refuses Outcomes Faults input old old j
  first_misplaced input behind old j command found other = first_lines input old found.0 found.1 j found.2 found.4 (inr (command, (behind, found.3), other))

  -- the lines behind the one that asks for a pool
  pool_lines : (input between rest : Option (List ℕ)) (line : PoolLine) (lines : List Line) (k : ℕ) (found : ReadsCommand input 0 (Pool line) between k) → ReadsLines between lines rest
      → ReadsLines input ((found.2.0 ++ CommandLine (Pool line) ∷ []) ++ lines) rest
  pool_lines input between rest line lines k found read =
      reads_lines_more input between rest (found.2.0 ++ CommandLine (Pool line) ∷ []) lines (reads_lines_more input found.0 between found.2.0 (CommandLine (Pool line) ∷ []) found.2.1 found.3) read

  pool_commands : (input between : Option (List ℕ)) (line : PoolLine) (lines : List Line) (k : ℕ) (found : ReadsCommand input 0 (Pool line) between k)
      → commands_of ((found.2.0 ++ CommandLine (Pool line) ∷ []) ++ lines) ≡ Pool line ∷ commands_of lines
  pool_commands input between line lines k found =
      commands_append (found.2.0 ++ CommandLine (Pool line) ∷ []) lines
      ∙ ap (λ (c : List Command). c ++ commands_of lines) (commands_append found.2.0 (CommandLine (Pool line) ∷ []) ∙ ap (λ (c : List Command). c ++ Pool line ∷ []) found.2.2)

  pool_number : (input between : Option (List ℕ)) (line : PoolLine) (lines : List Line) (k n : ℕ) (found : ReadsCommand input 0 (Pool line) between k) → n ≡ counted (k + length lines + 1)
      → n ≡ counted (length ((found.2.0 ++ CommandLine (Pool line) ∷ []) ++ lines) + 1)
  pool_number input between line lines k n found number =
      omega (arith, number, found.4, found.2.3, length-append (found.2.0 ++ CommandLine (Pool line) ∷ []) lines, length-append found.2.0 (CommandLine (Pool line) ∷ []))

  -- behind a pool that was made
  pub behind_pool : (line : PoolLine) (pool : M) (input behind old between new : Option (List ℕ)) (k : ℕ) (cause : Refusal) → ReadsCommand input 0 (Pool line) behind k → Creates line pool
      → Appends old between (codes "pool 3 claim 1" ++ 10 ∷ []) → IsPoolFault Outcomes Faults pool behind k between new cause → IsFaultOf Creates Refuses Outcomes Faults input old new cause
  behind_pool line pool input behind old between new k (LineFault n) found created told stops =
      let same = pool_commands input behind line stops.lines k found in
      let all = codes "pool 3 claim 1" ++ (10 ∷ stops.text) in
      record {
        lines = (found.2.0 ++ CommandLine (Pool line) ∷ []) ++ stops.lines;
        rest = stops.rest;
        text = all;
        read = pool_lines input behind stops.rest line stops.lines k found stops.read;
        number = pool_number input behind line stops.lines k n found stops.number;
        prints = subst (λ (c : List Command). PrintsBefore Creates Refuses Outcomes Faults c all stops.rest) (sym same) (inl (pool, stops.last, stops.text, created, stops.plays, refl, stops.cause));
        appends = appends_more old between new (codes "pool 3 claim 1" ++ 10 ∷ []) stops.text told stops.appends;
      }
  behind_pool line pool input behind old between new k Input found created told stops = tt
  behind_pool line pool input behind old between new k Output found created told stops = tt
  behind_pool line pool input behind old between new k Memory found created told stops = tt

  -- behind a pool that was refused
  refused_lines : (line : PoolLine) (why : Cause) (input behind between old new : Option (List ℕ)) (k m j : ℕ) → ReadsCommand input 0 (Pool line) behind k → Refuses line why
      → Appends old new (refusal_text why ++ 10 ∷ []) → Skips behind k between m → j ≡ counted (m + 1)
      → CannotGoOn (λ command. Unit {0}) between → StopsAtLine Creates Refuses Outcomes Faults input old new j
  refused_lines line why input behind between old new k m j found refused told skips number next =
      let same = pool_commands input behind line skips.0 k found ∙ ap (λ (c : List Command). Pool line ∷ c) skips.2 in
      let all = refusal_text why ++ (10 ∷ []) in
      record {
        lines = (found.2.0 ++ CommandLine (Pool line) ∷ []) ++ skips.0;
        rest = between;
        text = all;
        read = pool_lines input behind between line skips.0 k found skips.1;
        number = pool_number input behind line skips.0 k j found (omega (arith, number, skips.3));
        prints = subst (λ (c : List Command). PrintsBefore Creates Refuses Outcomes Faults c all between) (sym same) (inr (why, refused, refl, refl, next));
        appends = told;
      }

  pub refused_fault : (line : PoolLine) (why : Cause) (input behind old new : Option (List ℕ)) (k : ℕ) (cause : Refusal) → ReadsCommand input 0 (Pool line) behind k → Refuses line why
      → Appends old new (refusal_text why ++ 10 ∷ []) → IsLineFault behind k cause → IsFaultOf Creates Refuses Outcomes Faults input old new cause
  refused_fault line why input behind old new k (LineFault j) found refused told fault =
      refused_lines line why input behind fault.0 old new k fault.1 j found refused told fault.2 fault.4 (inl fault.3)
  refused_fault line why input behind old new k Input found refused told fault = tt
  refused_fault line why input behind old new k Output found refused told fault = tt
  refused_fault line why input behind old new k Memory found refused told fault = tt

  pub refused_misplaced : (line : PoolLine) (why : Cause) (input behind end old new : Option (List ℕ)) (k j : ℕ) (command : Command) → ReadsCommand input 0 (Pool line) behind k → Refuses line why
      → Appends old new (refusal_text why ++ 10 ∷ []) → ReadsCommand behind k command end j → StopsAtLine Creates Refuses Outcomes Faults input old new j
  refused_misplaced line why input behind end old new k j command found refused told next =
      refused_lines line why input behind next.0 old new k next.1 j found refused told next.2 next.4 (inr (command, (end, next.3), tt))
