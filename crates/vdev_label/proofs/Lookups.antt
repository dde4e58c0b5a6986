-- What a look-up says of the pair.
use Rattle.std.specs.Str.{bytes_eq}
use Rattle.std.proofs.lemmas.Slice.Eq.{bytes_eq-Decides}
use Rattle.std.proofs.Common.{◌≡◌, ◌≢◌, ℕ, Bool, true, false, not, List, Option, Some, None, refl, sym, ◌∙◌, ap}
use Rattle.nvlist.specs.Find.{number_in, text_in, list_in, lists_in}
use Rattle.nvlist.specs.Plain.{PlainValue, PlainList, PlainLists, number, text, list, lists}

pub is_number : (o : Option PlainValue) (n : ℕ) → Some n ≡ number_in o → o ≡ Some (number n)
is_number None n is = cc
is_number (Some (number m)) n is = let same : n ≡ m = cc in ap (λ k. Some (number k)) (sym same)
is_number (Some (text t)) n is = cc
is_number (Some (list l)) n is = cc
is_number (Some (lists ls)) n is = cc

pub no_number : (o : Option PlainValue) → None ≡ number_in o → (n : ℕ) → o ≢ Some (number n)
no_number o none n is = let e : None ≡ Some n = none ∙ ap number_in is in cc

pub is_text : (o : Option PlainValue) (t : List ℕ) → Some t ≡ text_in o → o ≡ Some (text t)
is_text None t is = cc
is_text (Some (number m)) t is = cc
is_text (Some (text u)) t is = let same : t ≡ u = cc in ap (λ k. Some (text k)) (sym same)
is_text (Some (list l)) t is = cc
is_text (Some (lists ls)) t is = cc

pub no_text : (o : Option PlainValue) → None ≡ text_in o → (t : List ℕ) → o ≢ Some (text t)
no_text o none t is = let e : None ≡ Some t = none ∙ ap text_in is in cc

pub is_list : (o : Option PlainValue) (l : PlainList) → Some l ≡ list_in o → o ≡ Some (list l)
is_list None l is = cc
is_list (Some (number m)) l is = cc
is_list (Some (text u)) l is = cc
is_list (Some (list k)) l is = let same : l ≡ k = cc in ap (λ it. Some (list it)) (sym same)
is_list (Some (lists ls)) l is = cc

pub no_list : (o : Option PlainValue) → None ≡ list_in o → (l : PlainList) → o ≢ Some (list l)
no_list o none l is = let e : None ≡ Some l = none ∙ ap list_in is in cc

pub is_lists : (o : Option PlainValue) (ls : PlainLists) → Some ls ≡ lists_in o → o ≡ Some (lists ls)
is_lists None ls is = cc
is_lists (Some (number m)) ls is = cc
is_lists (Some (text u)) ls is = cc
is_lists (Some (list l)) ls is = cc
is_lists (Some (lists ks)) ls is = let same : ls ≡ ks = cc in ap (λ it. Some (lists it)) (sym same)

pub no_lists_there : (o : Option PlainValue) → None ≡ lists_in o → (ls : PlainLists) → o ≢ Some (lists ls)
no_lists_there o none ls is = let e : None ≡ Some ls = none ∙ ap lists_in is in cc

was_true : (b : Bool) → false ≡ not b → b ≡ true
was_true true is = refl
was_true false is = cc

-- texts that were found not to differ
pub same_text : (a b : List ℕ) → false ≡ not (bytes_eq a b) → a ≡ b
same_text a b is = (bytes_eq-Decides a b).0 (was_true (bytes_eq a b) is)
