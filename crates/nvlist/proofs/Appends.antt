-- Bytes that are written one part after another.
use Rattle.std.proofs.Common.{◌≡◌, ℕ, zero, suc, ◌+◌, ◌^◌, ◌<◌, List, [], ◌∷◌, ◌++◌, length, get_or, take, drop, refl, sym, ap, subst, ◌∙◌, append_assoc, arith, rules}
use Rattle.std.specs.Prelude.{replicate, string_bytes, String}
use Rattle.std.specs.Global.{Vec}
use Rattle.std.specs.declared.alloc.Global.{Global}
use Rattle.std.proofs.lemmas.List.{drop_more}
use Rattle.nvlist.specs.Plain.{PlainValue, number, text, list, lists, PlainList, pair, next, pair_count, list_count}
use Rattle.std.specs.Int.{w32, w64, to_be_bytes}
use Rattle.nvlist.specs.Grammar.{text_bytes, value_bytes, pairs_bytes, lists_bytes, spelling, FitsValue, FitsLists, FitsList, IsText}
use Rattle.nvlist.specs.View.{value_view, list_view, pair_view, pairs_view, lists_view}
use Rattle.nvlist.specs.declared.list.NvList.{NvList, out-NvList}
use Rattle.nvlist.specs.declared.list.Pair.{Pair}
use Rattle.nvlist.specs.declared.list.Value.{Value, the_lemmas}
use Rattle.nvlist.specs.declared.list.Value.TheVariants as values
use Rattle.nvlist.proofs.Views.{pair_view-name, pair_view-value, list_view-pairs}

pub two_appended : (old mid new a b : List ℕ) → mid ≡ old ++ a → new ≡ mid ++ b → new ≡ old ++ (a ++ b)
two_appended old mid new a b first second = second ∙ ap (λ (x : List ℕ). x ++ b) first ∙ append_assoc old a b

pub three_appended : (old one two new a b c : List ℕ) → one ≡ old ++ a → two ≡ one ++ b → new ≡ two ++ c → new ≡ old ++ (a ++ (b ++ c))
three_appended old one two new a b c first second third =
    two_appended old one new a (b ++ c) first (two_appended one two new b c second third)

-- the zeros behind a text
abbrev three_zeros : List ℕ
three_zeros = 0 ∷ 0 ∷ 0 ∷ []

pub zeros_front : (n : ℕ) → n < 4 → take n three_zeros ≡ replicate n 0
zeros_front zero below = refl
zeros_front (suc zero) below = refl
zeros_front (suc (suc zero)) below = refl
zeros_front (suc (suc (suc zero))) below = refl
zeros_front (suc (suc (suc (suc n)))) below = absurd (omega arith)

-- ---- the elements from a place on

pub pairs_from : (ps : List Pair) (i : ℕ) (p : Pair) → i < length ps → p ≡ get_or ps i p → pairs_view (drop i ps) ≡ pair (string_bytes p.name) (value_view p.value) (pairs_view (drop (i + 1) ps))
pairs_from ps i p below is =
    let cut : drop i ps ≡ p ∷ drop (i + 1) ps = drop_more ps i p below ∙ ap (λ (x : Pair). x ∷ drop (i + 1) ps) (sym is) in
    ap pairs_view cut ∙ ap (λ (x : List ℕ). pair x (pair_view p).1 (pairs_view (drop (i + 1) ps))) (pair_view-name p) ∙ ap (λ (v : PlainValue). pair (string_bytes p.name) v (pairs_view (drop (i + 1) ps))) (pair_view-value p)

pub lists_from : (ls : List NvList) (i : ℕ) (l : NvList) → i < length ls → l ≡ get_or ls i l → lists_view (drop i ls) ≡ next (list_view l) (lists_view (drop (i + 1) ls))
lists_from ls i l below is =
    let cut : drop i ls ≡ l ∷ drop (i + 1) ls = drop_more ls i l below ∙ ap (λ (x : NvList). x ∷ drop (i + 1) ls) (sym is) in
    ap lists_view cut

pub pair_count-view : (ps : List Pair) → pair_count (pairs_view ps) ≡ length ps
pair_count-view [] = refl
pair_count-view (p ∷ ps) = ap suc (pair_count-view ps)

pub list_count-view : (ls : List NvList) → list_count (lists_view ls) ≡ length ls
list_count-view [] = refl
list_count-view (l ∷ ls) = ap suc (list_count-view ls)

pub view-number : (n : ℕ) → value_view (values.Number n) ≡ number n
view-number n = search (rules, the_lemmas)

pub view-text : (t : String Global) → value_view (values.Text t) ≡ text (string_bytes t)
view-text t = search (rules, the_lemmas)

pub view-list : (l : NvList) → value_view (values.List l) ≡ list (list_view l)
view-list l = search (rules, the_lemmas)

pub view-lists : (ls : Vec NvList) → value_view (values.Lists ls) ≡ lists (lists_view ls.items)
view-lists ls = search (rules, the_lemmas)

-- ---- values, by their variant

pub fits_text : (v : Value) (t : String Global) → v ≡ values.Text t → FitsValue (value_view v) → IsText (string_bytes t)
fits_text v t is fits = subst FitsValue (ap value_view is ∙ view-text t) fits

pub fits_list : (v : Value) (l : NvList) → v ≡ values.List l → FitsValue (value_view v) → FitsList (list_view l)
fits_list v l is fits = subst FitsValue (ap value_view is ∙ view-list l) fits

pub fits_lists : (v : Value) (ls : Vec NvList) → v ≡ values.Lists ls → FitsValue (value_view v) → (length ls.items < 2 ^ 32) × FitsLists (lists_view ls.items)
fits_lists v ls is fits =
    let f = subst FitsValue (ap value_view is ∙ view-lists ls) fits in
    (omega (arith, f.0, list_count-view ls.items), f.1)

pub number_appended : (v : Value) (n : ℕ) (old mid new : List ℕ) → v ≡ values.Number n → mid ≡ old ++ to_be_bytes w32 8 → new ≡ mid ++ to_be_bytes w64 n → new ≡ old ++ value_bytes (value_view v)
number_appended v n old mid new is first second =
    two_appended old mid new (to_be_bytes w32 8) (to_be_bytes w64 n) first second ∙ ap (λ (x : PlainValue). old ++ value_bytes x) (sym (ap value_view is ∙ view-number n))

pub text_appended : (v : Value) (t : String Global) (old mid new : List ℕ) → v ≡ values.Text t → mid ≡ old ++ to_be_bytes w32 9 → new ≡ mid ++ text_bytes (string_bytes t) → new ≡ old ++ value_bytes (value_view v)
text_appended v t old mid new is first second =
    two_appended old mid new (to_be_bytes w32 9) (text_bytes (string_bytes t)) first second ∙ ap (λ (x : PlainValue). old ++ value_bytes x) (sym (ap value_view is ∙ view-text t))

pub list_appended : (v : Value) (l : NvList) (old mid new : List ℕ) → v ≡ values.List l → mid ≡ old ++ to_be_bytes w32 19 → new ≡ mid ++ spelling (list_view l) → new ≡ old ++ value_bytes (value_view v)
list_appended v l old mid new is first second =
    two_appended old mid new (to_be_bytes w32 19) (spelling (list_view l)) first second ∙ ap (λ (x : PlainValue). old ++ value_bytes x) (sym (ap value_view is ∙ view-list l))

pub lists_appended : (v : Value) (ls : Vec NvList) (old one two new : List ℕ) → v ≡ values.Lists ls → one ≡ old ++ to_be_bytes w32 20 → two ≡ one ++ to_be_bytes w32 (length ls.items) → new ≡ two ++ lists_bytes (lists_view ls.items)
    → new ≡ old ++ value_bytes (value_view v)
lists_appended v ls old one two new is first second third =
    let counted : two ≡ one ++ to_be_bytes w32 (list_count (lists_view ls.items)) = second ∙ ap (λ (n : ℕ). one ++ to_be_bytes w32 n) (sym (list_count-view ls.items)) in
    three_appended old one two new (to_be_bytes w32 20) (to_be_bytes w32 (list_count (lists_view ls.items))) (lists_bytes (lists_view ls.items)) first counted third
    ∙ ap (λ (x : PlainValue). old ++ value_bytes x) (sym (ap value_view is ∙ view-lists ls))

-- ---- a list and its pairs

pub counted : (l : NvList) → pair_count (list_view l) ≡ length (out-NvList l).pairs.items
counted l = ap pair_count (list_view-pairs l) ∙ pair_count-view (out-NvList l).pairs.items

pub pairs_appended : (l : NvList) (n : ℕ) (old mid new : List ℕ) → n ≡ length (out-NvList l).pairs.items → mid ≡ old ++ to_be_bytes w32 n → new ≡ mid ++ pairs_bytes (pairs_view (out-NvList l).pairs.items) → new ≡ old ++ spelling (list_view l)
pairs_appended l n old mid new is first second =
    let count : n ≡ pair_count (list_view l) = is ∙ sym (counted l) in
    let one : mid ≡ old ++ to_be_bytes w32 (pair_count (list_view l)) = first ∙ ap (λ (k : ℕ). old ++ to_be_bytes w32 k) count in
    let two : new ≡ mid ++ pairs_bytes (list_view l) = second ∙ ap (λ (x : PlainList). mid ++ pairs_bytes x) (sym (list_view-pairs l)) in
    two_appended old mid new (to_be_bytes w32 (pair_count (list_view l))) (pairs_bytes (list_view l)) one two
