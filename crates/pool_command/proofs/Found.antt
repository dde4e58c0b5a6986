-- What a parse found is what is found in the words.
use Rattle.std.proofs.Common.{◌≡◌, ◌∙◌, ◌&&◌, Bool, true, false, List, [], ◌∷◌, Option, Some, None, Result, Ok, Err, IfOk, inl, inr, Bor, refl, sym, ap, subst}
use Rattle.std.specs.Prelude.{option_map}
use Rattle.clap.specs.Words.{App, FailsBy, HasKind, HasMatchesOf, IsAmong, Kinds, Row, Text, fault_of, found_of, is_simple, is_simple_and_free, kind_of, rows_of, subcommand_name_of, subcommand_of, subcommand_rows, subcommand_rows_of}
use Rattle.clap.specs.declared.parser.matches.ArgMatches.{ArgMatches}
use Rattle.clap.specs.declared.parser.matches.ArgMatches.TheViews.{out-ArgMatches}
use Rattle.clap.specs.declared.error.Error.{Error}
use Rattle.clap.specs.declared.error.kind.ErrorKind.{ErrorKind}
use Rattle.clap.specs.declared.error.kind.ErrorKind.TheVariants.{OutOfMemory}
use Rattle.clap.proofs.OnLiterals.{clap_on_literals}
use Rattle.pool_command.specs.declared.refusal.Refusal.{Refusal}
use Rattle.pool_command.specs.declared.command.ZpoolCommand.{ZpoolCommand}
use Rattle.pool_command.specs.declared.command.ZfsCommand.{ZfsCommand}
use Rattle.pool_command.specs.Words.{zpool_app, zfs_app}
use Rattle.pool_command.specs.Causes.{Cause, Fails, HasKindOf, missing, of_words, words_by_kind}
use Rattle.pool_command.specs.Values.{or_missing}
use Rattle.pool_command.proofs.Passing.{fails_on}
use Rattle.pool_command.specs.Reading.{◌>>=◌, Finds, found_in, unless_faulty, zpool_of, zpool_command, zfs_of, zfs_command}

pub zpool_simple : is_simple_and_free zpool_app ≡ true
unfolding clap_on_literals
zpool_simple = refl

pub zfs_simple : is_simple_and_free zfs_app ≡ true
unfolding clap_on_literals
zfs_simple = refl

left : (a b : Bool) → (a && b) ≡ true → a ≡ true
left true b e = refl
left false b e = absurd cc

found_empty : (app : App) (words : List Text) → fault_of app words ≡ [] → found_in app words ≡ or_missing (subcommand_of app words)
found_empty app words e = rw e refl

found_ok : (table : App) (words : List Text) (m : ArgMatches) → HasMatchesOf table words m → fault_of table words ≡ [] → is_simple_and_free table ≡ true → found_in table words ≡ or_missing (subcommand_rows_of m)
found_ok table words m h none simple = found_empty table words none ∙ ap or_missing (sym (h (left (is_simple table) _ simple)).1)

among : (app : App) (words : List Text) (error : Error) (kinds : Kinds) → fault_of app words ≡ kinds → IsAmong (kind_of error) kinds → HasKindOf error (found_in app words)
among app words error [] e h = absurd h
among app words error (k ∷ ks) e h = subst (λ (kinds : Kinds). HasKindOf error (unless_faulty kinds (subcommand_of app words))) (sym e) h

of_kind : (e : Error) (found : Result (Text × List Row) Cause) (kind : ErrorKind) → kind_of e ≡ kind → kind ≡ OutOfMemory → Fails (of_words e) found
of_kind e found kind is memory = subst (λ (k : ErrorKind). Fails (words_by_kind k e) found) (sym (is ∙ memory)) tt

by_kind : (e : Error) (found : Result (Text × List Row) Cause) (kind : ErrorKind) → HasKindOf e found → Fails (words_by_kind kind e) found
by_kind e found OutOfMemory h = tt
by_kind e found _ h = h

found_err : (table : App) (words : List Text) (e : Error) → HasKind (fault_of table words) e → Fails (of_words e) (found_in table words)
found_err table words e (inl memory) = of_kind e (found_in table words) (kind_of e) refl memory
found_err table words e (inr h) = by_kind e (found_in table words) (kind_of e) (among table words e (fault_of table words) refl h)

-- by the clauses of a parse
pub parsed : (app table : App) (words : List Text) (r : Result ArgMatches Error) (m : ArgMatches) → r ≡ Ok m → IfOk r (HasMatchesOf app words)
    → (is_simple_and_free app ≡ true → FailsBy {T = ArgMatches} (fault_of app words) r) → app ≡ table → is_simple_and_free table ≡ true → Finds (Ok m) (found_in table words)
parsed app table words r m is h k same simple =
    let matches : HasMatchesOf table words m = subst (λ (a : App). HasMatchesOf a words m) same (subst (λ (x : Result ArgMatches Error). IfOk x (HasMatchesOf app words)) is h) in
    let fails : FailsBy {T = ArgMatches} (fault_of table words) (Ok m) = subst (λ (x : Result ArgMatches Error). FailsBy {T = ArgMatches} (fault_of table words) x) is (subst (λ (a : App). is_simple_and_free a ≡ true → FailsBy {T = ArgMatches} (fault_of a words) r) same k simple) in
    found_ok table words m matches fails simple

pub unparsed : (app table : App) (words : List Text) (r : Result ArgMatches Error) (e : Error) (cause : Refusal) → r ≡ Err e
    → (is_simple_and_free app ≡ true → FailsBy {T = ArgMatches} (fault_of app words) r) → app ≡ table → is_simple_and_free table ≡ true → cause ≡ of_words e → Finds (Err cause) (found_in table words)
unparsed app table words r e cause is k same simple by =
    let fails : FailsBy {T = ArgMatches} (fault_of table words) (Err e) = subst (λ (x : Result ArgMatches Error). FailsBy {T = ArgMatches} (fault_of table words) x) is (subst (λ (a : App). is_simple_and_free a ≡ true → FailsBy {T = ArgMatches} (fault_of a words) r) same k simple) in
    subst (λ (c : Refusal). Fails c (found_in table words)) (sym by) (found_err table words e fails)

-- ---- the command that was met, and its rows

pair_is : {A B C D : Type 0} (n : A → C) (w : A → D) (n' : B → C) (w' : B → D) (r : Option A) (s : Option B) → option_map n r ≡ option_map n' s
    → option_map w r ≡ option_map (λ (p : C × D). p.1) (option_map {U = C × D} (λ b. (n' b, w' b)) s) → option_map {U = C × D} (λ f. (n f, w f)) r ≡ option_map {U = C × D} (λ b. (n' b, w' b)) s
pair_is n w n' w' (Some a) (Some b) e h = cc
pair_is n w n' w' (Some a) None e h = absurd cc
pair_is n w n' w' None (Some b) e h = absurd cc
pair_is n w n' w' None None e h = refl

pub named_is : (m : ArgMatches) (r : Option (Bor Text × Bor ArgMatches)) → option_map (λ p. p.0.now) r ≡ subcommand_name_of m
    → option_map (λ p. rows_of (found_of p.1.now)) r ≡ option_map (λ p. p.1) (subcommand_rows (out-ArgMatches m).subcommand)
    → option_map {U = Text × List Row} (λ f. (f.0.now, rows_of (found_of f.1.now))) r ≡ subcommand_rows_of m
named_is m r e h = pair_is (λ p. p.0.now) (λ p. rows_of (found_of p.1.now)) _ _ r (out-ArgMatches m).subcommand e h

abbrev name_and_rows : Bor Text × Bor ArgMatches → Text × List Row
name_and_rows f = (f.0.now, rows_of (found_of f.1.now))

pub named_none : (m : ArgMatches) (r : Option (Bor Text × Bor ArgMatches)) → option_map name_and_rows r ≡ subcommand_rows_of m → r ≡ None → None ≡ subcommand_rows_of m
named_none m r e is = ap (option_map name_and_rows) (sym is) ∙ e

pub named_some : (m : ArgMatches) (r : Option (Bor Text × Bor ArgMatches)) (p : Bor Text × Bor ArgMatches) → option_map name_and_rows r ≡ subcommand_rows_of m → r ≡ Some p → Some (name_and_rows p) ≡ subcommand_rows_of m
named_some m r p e is = ap (option_map name_and_rows) (sym is) ∙ e

-- ---- the programs

abbrev then_zpool : Result (Text × List Row) Cause → Result ZpoolCommand Cause
then_zpool found = found >>= λ f. zpool_command f.0 f.1

abbrev then_zfs : Result (Text × List Row) Cause → Result ZfsCommand Cause
then_zfs found = found >>= λ f. zfs_command f.0 f.1

pub zpool_some : (words : List Text) (m : ArgMatches) (p : Text × List Row) → found_in zpool_app words ≡ or_missing (subcommand_rows_of m) → Some p ≡ subcommand_rows_of m → zpool_command p.0 p.1 ≡ zpool_of words
unfolding zpool_of
zpool_some words m p found e = ap then_zpool (ap or_missing e ∙ sym found)

pub zpool_none : (words : List Text) (m : ArgMatches) → found_in zpool_app words ≡ or_missing (subcommand_rows_of m) → None ≡ subcommand_rows_of m → zpool_of words ≡ Err missing
unfolding zpool_of
zpool_none words m found e = ap then_zpool (found ∙ ap or_missing (sym e))

pub zpool_fails : (words : List Text) (e : Refusal) → Fails e (found_in zpool_app words) → Fails e (zpool_of words)
unfolding zpool_of
zpool_fails words e h = fails_on e (found_in zpool_app words) (λ f. zpool_command f.0 f.1) h

pub zfs_some : (words : List Text) (m : ArgMatches) (p : Text × List Row) → found_in zfs_app words ≡ or_missing (subcommand_rows_of m) → Some p ≡ subcommand_rows_of m → zfs_command p.0 p.1 ≡ zfs_of words
unfolding zfs_of
zfs_some words m p found e = ap then_zfs (ap or_missing e ∙ sym found)

pub zfs_none : (words : List Text) (m : ArgMatches) → found_in zfs_app words ≡ or_missing (subcommand_rows_of m) → None ≡ subcommand_rows_of m → zfs_of words ≡ Err missing
unfolding zfs_of
zfs_none words m found e = ap then_zfs (found ∙ ap or_missing (sym e))

pub zfs_fails : (words : List Text) (e : Refusal) → Fails e (found_in zfs_app words) → Fails e (zfs_of words)
unfolding zfs_of
zfs_fails words e h = fails_on e (found_in zfs_app words) (λ f. zfs_command f.0 f.1) h
