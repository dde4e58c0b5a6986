-- The two laws of lists: what is read is spelled so, and what is spelled so is read.
use Rattle.std.proofs.Common.{◌≡◌, ℕ, zero, suc, ◌<◌, ◌≤◌, ◌⊎◌, inl, inr, Bool, true, false, ◌&&◌, cond, leb, eqb, List, [], ◌∷◌, ◌++◌, length, Option, Some, None, refl, sym, ap, subst, ◌∙◌, append_assoc, arith}
use Rattle.std.specs.Int.{w32, w64, to_be_bytes}
use Rattle.std.proofs.lemmas.Bool.{eqb-true}
use Rattle.std.proofs.lemmas.Bool.Decides.{nat_tests}
use Rattle.words.specs.Words.{IsBytes}
use Rattle.nvlist.specs.Plain.{PlainValue, number, text, list, lists, PlainList, no_pairs, pair, PlainLists, no_lists, next, pair_count, list_count, value_depth, depth, lists_depth}
use Rattle.nvlist.specs.Grammar.{text_bytes, value_bytes, pairs_bytes, lists_bytes, spelling, is_behind, IsText, IsNameBehind, FitsValue, FitsBehind, FitsLists, FitsList}
use Rattle.nvlist.specs.Reading.{◌>>=◌, Parse, word_at, number_at, text_at, lists_at, option_value, lists_value_at, value_of_type_at, value_at, is_name_behind, name_at, pair_at, pairs_at, list_at}
use Rattle.nvlist.proofs.Fields.{bind_some, guard_passed, some_is, Takes, Takes-then, word_takes, word_again, number_takes, number_again, text_takes, text_again}

-- a reader of lists that lie no deeper than this in one another
pub record ReadsLists (read : Parse PlainList) (d : ℕ) : Type 0 where
  pub takes : (bytes : List ℕ) (l : PlainList) (rest : List ℕ) → IsBytes bytes → read bytes ≡ Some (l, rest) → Takes bytes (spelling l) rest × FitsList l × (depth l ≤ d)
  pub again : (l : PlainList) (rest : List ℕ) → FitsList l → depth l ≤ d → read (spelling l ++ rest) ≡ Some (l, rest)

-- ---- several lists

lists_take : (read : Parse PlainList) (d : ℕ) → ReadsLists read d → (n : ℕ) (bytes : List ℕ) (ls : PlainLists) (rest : List ℕ) → IsBytes bytes → lists_at read n bytes ≡ Some (ls, rest)
    → Takes bytes (lists_bytes ls) rest × (list_count ls ≡ n) × FitsLists ls × (lists_depth ls ≤ d)
unfolding lists_at
lists_take read d reads zero bytes ls rest fits e =
    let same = some_is (no_lists, bytes) (ls, rest) e in
    subst (λ (x : PlainLists × List ℕ). Takes bytes (lists_bytes x.0) x.1 × (list_count x.0 ≡ 0) × FitsLists x.0 × (lists_depth x.0 ≤ d)) same (record { parts = refl; rest_fits = fits }, refl, tt, omega arith)
lists_take read d reads (suc n) bytes ls rest fits e =
    let a = bind_some (read bytes) (λ first. lists_at read n first.1 >>= λ others. Some (next first.0 others.0, others.1)) (ls, rest) e in
    let b = bind_some (lists_at read n a.0.1) (λ others. Some (next a.0.0 others.0, others.1)) (ls, rest) a.2 in
    let first = reads.takes bytes a.0.0 a.0.1 fits a.1 in
    let second = lists_take read d reads n a.0.1 b.0.0 b.0.1 first.0.rest_fits b.1 in
    let both = Takes-then bytes (spelling a.0.0) a.0.1 (lists_bytes b.0.0) b.0.1 first.0 second.0 in
    let same = some_is (next a.0.0 b.0.0, b.0.1) (ls, rest) b.2 in
    subst (λ (x : PlainLists × List ℕ). Takes bytes (lists_bytes x.0) x.1 × (list_count x.0 ≡ suc n) × FitsLists x.0 × (lists_depth x.0 ≤ d)) same (both, ap suc second.1, (first.1.0, first.1.1, second.2), omega (arith, first.2, second.3))

lists_again : (read : Parse PlainList) (d : ℕ) → ReadsLists read d → (ls : PlainLists) (rest : List ℕ) → FitsLists ls → lists_depth ls ≤ d → lists_at read (list_count ls) (lists_bytes ls ++ rest) ≡ Some (ls, rest)
unfolding lists_at
lists_again read d reads no_lists rest fits deep = refl
lists_again read d reads (next first others) rest fits deep =
    let regrouped = append_assoc (spelling first) (lists_bytes others) rest in
    let one = reads.again first (lists_bytes others ++ rest) (fits.0, fits.1) (omega arith) in
    let more = lists_again read d reads others rest fits.2 (omega arith) in
    ap (lists_at read (suc (list_count others))) regrouped ∙ rw (one, more) refl

lists_value_takes : (read : Parse PlainList) (d : ℕ) → ReadsLists read d → (bytes : List ℕ) (ls : PlainLists) (rest : List ℕ) → IsBytes bytes → lists_value_at read bytes ≡ Some (ls, rest)
    → Takes bytes (to_be_bytes w32 (list_count ls) ++ lists_bytes ls) rest × FitsValue (lists ls) × (lists_depth ls ≤ d)
unfolding lists_value_at
lists_value_takes read d reads bytes ls rest fits e =
    let a = bind_some (word_at bytes) (λ n. lists_at read n.0 n.1) (ls, rest) e in
    let first = word_takes bytes a.0.0 a.0.1 fits a.1 in
    let second = lists_take read d reads a.0.0 a.0.1 ls rest first.0.rest_fits a.2 in
    let both = Takes-then bytes (to_be_bytes w32 a.0.0) a.0.1 (lists_bytes ls) rest first.0 second.0 in
    (subst (λ (k : ℕ). Takes bytes (to_be_bytes w32 k ++ lists_bytes ls) rest) (sym second.1) both, (omega (arith, first.1, second.1), second.2), second.3)

-- ---- values

option_value_some : {A : Type 0} (f : A → PlainValue) (read : Option (A × List ℕ)) (v : PlainValue) (rest : List ℕ) → option_value f read ≡ Some (v, rest) → (x : A) × (read ≡ Some (x, rest)) × (f x ≡ v)
option_value_some f (Some x) v rest e =
    let same = some_is (f x.0, x.1) (v, rest) e in
    (x.0, ap (λ (r : List ℕ). Some (x.0, r)) (ap (λ (p : PlainValue × List ℕ). p.1) same), ap (λ (p : PlainValue × List ℕ). p.0) same)
option_value_some f None v rest e = absurd cc

-- which way a test went
chosen : {A : Type 0} (b : Bool) (x y z : A) → cond b x y ≡ z → ((b ≡ true) × (x ≡ z)) ⊎ ((b ≡ false) × (y ≡ z))
chosen true x y z e = inl (refl, e)
chosen false x y z e = inr (refl, e)

-- what a value's bytes behind their type are
record TakesValue (kind : ℕ) (bytes : List ℕ) (v : PlainValue) (rest : List ℕ) (d : ℕ) : Type 0 where
  parts : to_be_bytes w32 kind ++ bytes ≡ value_bytes v ++ rest
  rest_fits : IsBytes rest
  fits : FitsValue v
  deep : value_depth v ≤ d

-- a value of a type, behind the type's number
made_value : (kind : ℕ) (bytes body rest : List ℕ) (v : PlainValue) (d : ℕ) → Takes bytes body rest → to_be_bytes w32 kind ++ body ≡ value_bytes v → FitsValue v → value_depth v ≤ d → TakesValue kind bytes v rest d
made_value kind bytes body rest v d taken spelled fits deep =
    record { parts = ap (λ (x : List ℕ). to_be_bytes w32 kind ++ x) taken.parts ∙ sym (append_assoc (to_be_bytes w32 kind) body rest) ∙ ap (λ (x : List ℕ). x ++ rest) spelled; rest_fits = taken.rest_fits; fits = fits; deep = deep }

value_of_type_takes : (read : Parse PlainList) (d : ℕ) → ReadsLists read d → (kind : ℕ) (bytes : List ℕ) (v : PlainValue) (rest : List ℕ) → IsBytes bytes → value_of_type_at read kind bytes ≡ Some (v, rest) → TakesValue kind bytes v rest d
unfolding value_of_type_at
value_of_type_takes read d reads kind bytes v rest fits e =
    let list_or = cond (eqb kind 20) (option_value lists (lists_value_at read bytes)) None in
    let text_or = cond (eqb kind 19) (option_value list (read bytes)) list_or in
    let number_or = cond (eqb kind 9) (option_value text (text_at bytes)) text_or in
    elim (chosen (eqb kind 8) (option_value number (number_at bytes)) number_or (Some (v, rest)) e) [
      | inl is_number ↦
          let x = option_value_some number (number_at bytes) v rest is_number.1 in
          let t = number_takes bytes x.0 rest fits x.1 in
          rw (eqb-true kind 8 is_number.0) (subst (λ (w : PlainValue). TakesValue 8 bytes w rest d) x.2 (made_value 8 bytes (to_be_bytes w64 x.0) rest (number x.0) d t.0 refl t.1 (omega arith)))
      | inr no_number ↦ elim (chosen (eqb kind 9) (option_value text (text_at bytes)) text_or (Some (v, rest)) no_number.1) [
        | inl is_text ↦
            let x = option_value_some text (text_at bytes) v rest is_text.1 in
            let t = text_takes bytes x.0 rest fits x.1 in
            rw (eqb-true kind 9 is_text.0) (subst (λ (w : PlainValue). TakesValue 9 bytes w rest d) x.2 (made_value 9 bytes (text_bytes x.0) rest (text x.0) d t.0 refl t.1 (omega arith)))
        | inr no_text ↦ elim (chosen (eqb kind 19) (option_value list (read bytes)) list_or (Some (v, rest)) no_text.1) [
          | inl is_list ↦
              let x = option_value_some list (read bytes) v rest is_list.1 in
              let t = reads.takes bytes x.0 rest fits x.1 in
              rw (eqb-true kind 19 is_list.0) (subst (λ (w : PlainValue). TakesValue 19 bytes w rest d) x.2 (made_value 19 bytes (spelling x.0) rest (list x.0) d t.0 refl t.1 t.2))
          | inr no_list ↦ elim (chosen (eqb kind 20) (option_value lists (lists_value_at read bytes)) None (Some (v, rest)) no_list.1) [
            | inl are_lists ↦
                let x = option_value_some lists (lists_value_at read bytes) v rest are_lists.1 in
                let t = lists_value_takes read d reads bytes x.0 rest fits x.1 in
                rw (eqb-true kind 20 are_lists.0) (subst (λ (w : PlainValue). TakesValue 20 bytes w rest d) x.2 (made_value 20 bytes (to_be_bytes w32 (list_count x.0) ++ lists_bytes x.0) rest (lists x.0) d t.0 refl t.1 t.2))
            | inr none ↦ let no = none.1 in absurd cc
          ]
        ]
      ]
    ]

value_takes : (read : Parse PlainList) (d : ℕ) → ReadsLists read d → (bytes : List ℕ) (v : PlainValue) (rest : List ℕ) → IsBytes bytes → value_at read bytes ≡ Some (v, rest) → Takes bytes (value_bytes v) rest × FitsValue v × (value_depth v ≤ d)
unfolding value_at
value_takes read d reads bytes v rest fits e =
    let a = bind_some (word_at bytes) (λ kind. value_of_type_at read kind.0 kind.1) (v, rest) e in
    let first = word_takes bytes a.0.0 a.0.1 fits a.1 in
    let second = value_of_type_takes read d reads a.0.0 a.0.1 v rest first.0.rest_fits a.2 in
    (record { parts = first.0.parts ∙ second.parts; rest_fits = second.rest_fits }, second.fits, second.deep)

value_again : (read : Parse PlainList) (d : ℕ) → ReadsLists read d → (v : PlainValue) (rest : List ℕ) → FitsValue v → value_depth v ≤ d → value_at read (value_bytes v ++ rest) ≡ Some (v, rest)
unfolding value_at value_of_type_at lists_value_at
value_again read d reads (number n) rest fits deep =
    ap (value_at read) (append_assoc (to_be_bytes w32 8) (to_be_bytes w64 n) rest) ∙ rw (word_again 8 (to_be_bytes w64 n ++ rest) (omega arith), number_again n rest fits) refl
value_again read d reads (text t) rest fits deep =
    ap (value_at read) (append_assoc (to_be_bytes w32 9) (text_bytes t) rest) ∙ rw (word_again 9 (text_bytes t ++ rest) (omega arith), text_again t rest fits) refl
value_again read d reads (list l) rest fits deep =
    ap (value_at read) (append_assoc (to_be_bytes w32 19) (spelling l) rest) ∙ rw (word_again 19 (spelling l ++ rest) (omega arith), reads.again l rest fits deep) refl
value_again read d reads (lists ls) rest fits deep =
    let body = to_be_bytes w32 (list_count ls) ++ lists_bytes ls in
    let inner : lists_value_at read (body ++ rest) ≡ Some (ls, rest) =
    ap (lists_value_at read) (append_assoc (to_be_bytes w32 (list_count ls)) (lists_bytes ls) rest) ∙ rw (word_again (list_count ls) (lists_bytes ls ++ rest) fits.0) (lists_again read d reads ls rest fits.1 deep) in
    ap (value_at read) (append_assoc (to_be_bytes w32 20) body rest) ∙ rw (word_again 20 (body ++ rest) (omega arith)) (ap (option_value lists) inner)

-- ---- pairs

both_pass : (a b : Bool) → (a && b) ≡ true → (a ≡ true) × (b ≡ true)
both_pass true b e = (refl, e)
both_pass false b e = absurd cc

-- nothing stands behind anything but a name of one byte at least
pub behind_not_empty : (last name : List ℕ) → is_behind name last ≡ true → 0 < length name
behind_not_empty [] [] e = absurd cc
behind_not_empty (b ∷ last) [] e = absurd cc
behind_not_empty last (b ∷ name) e = omega arith

short_name : (name : List ℕ) → leb (length name) 64 ≡ true → length name ≤ 64
short_name name e = grind (arith, nat_tests)

name_is_short : (name : List ℕ) → length name ≤ 64 → leb (length name) 64 ≡ true
name_is_short name short = grind (arith, nat_tests)

name_takes : (last bytes name rest : List ℕ) → IsBytes bytes → name_at last bytes ≡ Some (name, rest) → Takes bytes (text_bytes name) rest × IsNameBehind last name
unfolding name_at
name_takes last bytes name rest fits e =
    let a = bind_some (text_at bytes) (λ x. cond (is_name_behind last x.0) (Some x) None) (name, rest) e in
    let g = guard_passed (is_name_behind last a.0.0) a.0 (name, rest) a.2 in
    let taken = text_takes bytes a.0.0 a.0.1 fits a.1 in
    let both = both_pass (leb (length a.0.0) 64) (is_behind a.0.0 last) g.0 in
    let made : IsNameBehind last a.0.0 = record { not_empty = behind_not_empty last a.0.0 both.1; len = short_name a.0.0 both.0; printable = taken.1.printable; behind = both.1 } in
    subst (λ (x : List ℕ × List ℕ). Takes bytes (text_bytes x.0) x.1 × IsNameBehind last x.0) g.1 (taken.0, made)

name_again : (last name rest : List ℕ) → IsNameBehind last name → name_at last (text_bytes name ++ rest) ≡ Some (name, rest)
unfolding name_at
name_again last name rest fits =
    let is_text : IsText name = record { len = omega (arith, fits.len); printable = fits.printable } in
    rw (text_again name rest is_text, name_is_short name fits.len, fits.behind) refl

-- the bytes of a name and its value
abbrev pair_bytes : List ℕ → PlainValue → List ℕ
pair_bytes name value = text_bytes name ++ value_bytes value

pair_takes : (read : Parse PlainList) (d : ℕ) → ReadsLists read d → (last bytes : List ℕ) (p : List ℕ × PlainValue) (rest : List ℕ) → IsBytes bytes → pair_at read last bytes ≡ Some (p, rest)
    → Takes bytes (pair_bytes p.0 p.1) rest × IsNameBehind last p.0 × FitsValue p.1 × (value_depth p.1 ≤ d)
unfolding pair_at
pair_takes read d reads last bytes p rest fits e =
    let a = bind_some (name_at last bytes) (λ name. value_at read name.1 >>= λ value. Some ((name.0, value.0), value.1)) (p, rest) e in
    let b = bind_some (value_at read a.0.1) (λ value. Some ((a.0.0, value.0), value.1)) (p, rest) a.2 in
    let first = name_takes last bytes a.0.0 a.0.1 fits a.1 in
    let second = value_takes read d reads a.0.1 b.0.0 b.0.1 first.0.rest_fits b.1 in
    let both = Takes-then bytes (text_bytes a.0.0) a.0.1 (value_bytes b.0.0) b.0.1 first.0 second.0 in
    let same = some_is ((a.0.0, b.0.0), b.0.1) (p, rest) b.2 in
    subst (λ (x : (List ℕ × PlainValue) × List ℕ). Takes bytes (pair_bytes x.0.0 x.0.1) x.1 × IsNameBehind last x.0.0 × FitsValue x.0.1 × (value_depth x.0.1 ≤ d)) same (both, first.1, second.1, second.2)

pair_again : (read : Parse PlainList) (d : ℕ) → ReadsLists read d → (last name : List ℕ) (value : PlainValue) (rest : List ℕ) → IsNameBehind last name → FitsValue value → value_depth value ≤ d
    → pair_at read last (text_bytes name ++ (value_bytes value ++ rest)) ≡ Some ((name, value), rest)
unfolding pair_at
pair_again read d reads last name value rest named fits deep =
    rw (name_again last name (value_bytes value ++ rest) named, value_again read d reads value rest fits deep) refl

pairs_take : (read : Parse PlainList) (d : ℕ) → ReadsLists read d → (n : ℕ) (last bytes : List ℕ) (ps : PlainList) (rest : List ℕ) → IsBytes bytes → pairs_at read n last bytes ≡ Some (ps, rest)
    → Takes bytes (pairs_bytes ps) rest × (pair_count ps ≡ n) × FitsBehind last ps × (depth ps ≤ suc d)
unfolding pairs_at
pairs_take read d reads zero last bytes ps rest fits e =
    let same = some_is (no_pairs, bytes) (ps, rest) e in
    subst (λ (x : PlainList × List ℕ). Takes bytes (pairs_bytes x.0) x.1 × (pair_count x.0 ≡ 0) × FitsBehind last x.0 × (depth x.0 ≤ suc d)) same (record { parts = refl; rest_fits = fits }, refl, tt, omega arith)
pairs_take read d reads (suc n) last bytes ps rest fits e =
    let a = bind_some (pair_at read last bytes) (λ first. pairs_at read n first.0.0 first.1 >>= λ others. Some (pair first.0.0 first.0.1 others.0, others.1)) (ps, rest) e in
    let b = bind_some (pairs_at read n a.0.0.0 a.0.1) (λ others. Some (pair a.0.0.0 a.0.0.1 others.0, others.1)) (ps, rest) a.2 in
    let first = pair_takes read d reads last bytes a.0.0 a.0.1 fits a.1 in
    let second = pairs_take read d reads n a.0.0.0 a.0.1 b.0.0 b.0.1 first.0.rest_fits b.1 in
    let both = Takes-then bytes (pair_bytes a.0.0.0 a.0.0.1) a.0.1 (pairs_bytes b.0.0) b.0.1 first.0 second.0 in
    let regrouped : Takes bytes (pairs_bytes (pair a.0.0.0 a.0.0.1 b.0.0)) b.0.1 = subst (λ (x : List ℕ). Takes bytes x b.0.1) (append_assoc (text_bytes a.0.0.0) (value_bytes a.0.0.1) (pairs_bytes b.0.0)) both in
    let same = some_is (pair a.0.0.0 a.0.0.1 b.0.0, b.0.1) (ps, rest) b.2 in
    subst (λ (x : PlainList × List ℕ). Takes bytes (pairs_bytes x.0) x.1 × (pair_count x.0 ≡ suc n) × FitsBehind last x.0 × (depth x.0 ≤ suc d)) same
    (regrouped, ap suc second.1, (first.1, first.2, second.2), omega (arith, first.3, second.3))

pairs_again : (read : Parse PlainList) (d : ℕ) → ReadsLists read d → (last : List ℕ) (ps : PlainList) (rest : List ℕ) → FitsBehind last ps → depth ps ≤ suc d → pairs_at read (pair_count ps) last (pairs_bytes ps ++ rest) ≡ Some (ps, rest)
unfolding pairs_at
pairs_again read d reads last no_pairs rest fits deep = refl
pairs_again read d reads last (pair name value others) rest fits deep =
    let regrouped : pairs_bytes (pair name value others) ++ rest ≡ text_bytes name ++ (value_bytes value ++ (pairs_bytes others ++ rest)) =
    append_assoc (text_bytes name) (value_bytes value ++ pairs_bytes others) rest ∙ ap (λ (x : List ℕ). text_bytes name ++ x) (append_assoc (value_bytes value) (pairs_bytes others) rest) in
    let one = pair_again read d reads last name value (pairs_bytes others ++ rest) fits.0 fits.1 (omega arith) in
    let more = pairs_again read d reads name others rest fits.2 (omega arith) in
    ap (pairs_at read (suc (pair_count others)) last) regrouped ∙ rw (one, more) refl

-- ---- lists in lists

list_is_deep : (l : PlainList) → 0 < depth l
list_is_deep no_pairs = omega arith
list_is_deep (pair name value others) = omega arith

reads_none : ReadsLists (list_at 0) 0
unfolding list_at
reads_none = record {
  takes = λ bytes l rest fits e. absurd cc;
  again = λ l rest fits deep. absurd (omega (arith, list_is_deep l));
}

reads_deeper : (d : ℕ) → ReadsLists (list_at d) d → ReadsLists (list_at (suc d)) (suc d)
unfolding list_at
reads_deeper d reads = record {
  takes = λ bytes l rest fits e.
      let a = bind_some (word_at bytes) (λ n. pairs_at (list_at d) n.0 [] n.1) (l, rest) e in
      let first = word_takes bytes a.0.0 a.0.1 fits a.1 in
      let second = pairs_take (list_at d) d reads a.0.0 [] a.0.1 l rest first.0.rest_fits a.2 in
      let both = Takes-then bytes (to_be_bytes w32 a.0.0) a.0.1 (pairs_bytes l) rest first.0 second.0 in
      (subst (λ (k : ℕ). Takes bytes (to_be_bytes w32 k ++ pairs_bytes l) rest) (sym second.1) both, (omega (arith, first.1, second.1), second.2), second.3);
  again = λ l rest fits deep.
      ap (list_at (suc d)) (append_assoc (to_be_bytes w32 (pair_count l)) (pairs_bytes l) rest) ∙ rw (word_again (pair_count l) (pairs_bytes l ++ rest) fits.0) (pairs_again (list_at d) d reads [] l rest fits.1 deep);
}

pub reads_lists : (d : ℕ) → ReadsLists (list_at d) d
reads_lists zero = reads_none
reads_lists (suc d) = reads_deeper d (reads_lists d)
