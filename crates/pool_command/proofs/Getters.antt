-- What the getters of a parse give, by its rows.
use Rattle.std.proofs.Common.{◌≡◌, ◌∙◌, ℕ, Bool, true, false, List, map, Option, Some, None, Result, Ok, Err, Bor, refl, sym, ap, arith, codes}
use Rattle.std.specs.Prelude.{option_map, option_and_then}
use Rattle.std.specs.Str.Parse.{ParsesUnsigned, digits_value, without_leading_plus}
use Rattle.clap.specs.Words.{ReadsOne, Text, all_of, first_of, first_value, found_of, matched_of, one_text, raw_values, rows_of}
use Rattle.clap.specs.ValueTests.{is_unsigned_in}
use Rattle.clap.specs.Values.{IsUnsignedIn}
use Rattle.clap.specs.declared.parser.matches.ArgMatches.{ArgMatches}
use Rattle.clap.specs.declared.builder.value_parser.ValueParser.TheVariants.{Unsigned}
use Rattle.clap.proofs.ValueTestLemmas.{accepts-Accepts, Accepts-accepts}
use Rattle.clap.proofs.WalkLemmas.{first_value-rows, one_text-rows, raw_values-rows}
use Rattle.pool_command.specs.Values.{given_number, number_of}

pub is_text : (m : ArgMatches) (id : Text) (r : Option (Bor Text)) → option_map (λ s. s.now) r ≡ first_value (found_of m) id → first_of id (rows_of (found_of m)) ≡ option_map (λ s. s.now) r
is_text m id r e = sym (e ∙ first_value-rows (found_of m) id)

pub are_files : (m : ArgMatches) (r : Option (Bor (List (Bor Text)))) → option_map (λ s. map (λ v. v.now) s.now) r ≡ option_map raw_values (matched_of (found_of m) (codes "files")) → all_of (codes "files") (rows_of (found_of m)) ≡ option_map (λ s. map (λ v. v.now) s.now) r
are_files m r e = sym (e ∙ raw_values-rows (found_of m) (codes "files"))

most : ℕ
most = 18446744073709551615

is_number : (text : Text) → IsUnsignedIn 0 18446744073709551615 text → number_of text ≡ Some (digits_value 10 (without_leading_plus text))
is_number text h = rw (Accepts-accepts false (Unsigned 0 18446744073709551615) text h) refl

no_number : (text : Text) → (IsUnsignedIn 0 18446744073709551615 text → ⊥) → number_of text ≡ None
no_number text h = go (is_unsigned_in 0 18446744073709551615 text) refl
  where
    go : (b : Bool) → is_unsigned_in 0 18446744073709551615 text ≡ b → number_of text ≡ None
    go true e = absurd (h (accepts-Accepts false (Unsigned 0 18446744073709551615) text e))
    go false e = rw e refl

-- what is read of a text as 64 bits is its number
read_number : {E : Type 0} (G : Text → Result ℕ E → Type 0) (text : Text) (r : Option ℕ) → ((x : Result ℕ E) → G text x → ParsesUnsigned 64 10 text x) → ReadsOne G text r → r ≡ number_of text
read_number G text (Some n) only read =
    let parsed = only (Ok n) read in
    ap (λ (x : ℕ). Some x) parsed.1 ∙ sym (is_number text (parsed.0.0, parsed.0.1, omega arith, omega (arith, parsed.0.1)))
read_number G text None only read =
    let parsed = only (Err read.0) read.1 in
    sym (no_number text (λ h. parsed (h.0, h.1)))

by_text : {E : Type 0} (G : Text → Result ℕ E → Type 0) (o : Option Text) (r : Option ℕ) → ((t : Text) (x : Result ℕ E) → G t x → ParsesUnsigned 64 10 t x) → (o ≡ None → r ≡ None) → ((t : Text) → o ≡ Some t → ReadsOne G t r) → r ≡ option_and_then number_of o
by_text G None r only none value = none refl
by_text G (Some t) r only none value = read_number G t r (only t) (value t refl)

pub number_is : {E : Type 0} (G : Text → Result ℕ E → Type 0) (m : ArgMatches) (id : Text) (r : Option ℕ) → ((t : Text) (x : Result ℕ E) → G t x → ParsesUnsigned 64 10 t x)
    → (one_text (found_of m) id ≡ None → r ≡ None) → ((t : Text) → one_text (found_of m) id ≡ Some t → ReadsOne G t r) → r ≡ given_number id (rows_of (found_of m))
number_is G m id r only none value = by_text G (one_text (found_of m) id) r only none value ∙ ap (option_and_then number_of) (one_text-rows (found_of m) id)
