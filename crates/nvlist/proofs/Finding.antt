-- Looking into a list, and adding to it.
use Rattle.std.proofs.Common.{◌≡◌, ℕ, suc, ◌+◌, ◌<◌, cond, List, [], ◌∷◌, ◌++◌, length, get_or, drop, map, Some, refl, sym, ap, ◌∙◌}
use Rattle.std.specs.Prelude.{string_bytes}
use Rattle.std.specs.Str.{bytes_eq}
use Rattle.std.specs.Global.{Vec}
use Rattle.std.proofs.lemmas.List.{map_push, nil_from_length}
use Rattle.nvlist.specs.Plain.{PlainValue, PlainList, no_pairs, pair, pair_count, last_from}
use Rattle.nvlist.specs.Grammar.{IsNameBehind, FitsValue, FitsBehind}
use Rattle.nvlist.specs.View.{PlainPair, value_view, list_view, pair_view, pairs_view, pairs_of}
use Rattle.nvlist.specs.Find.{find, with_pair}
use Rattle.nvlist.specs.declared.list.NvList.{NvList, out-NvList}
use Rattle.nvlist.specs.declared.list.Pair.{Pair}
use Rattle.nvlist.specs.declared.list.Value.TheViews.{roll-NvList}
use Rattle.nvlist.proofs.Views.{pair_view-name, pair_view-value, list_view-pairs, list_view_rolled}
use Rattle.nvlist.proofs.Appends.{pairs_from}

-- the first of the pairs that are left
pub find_from : (ps : List Pair) (i : ℕ) (p : Pair) (name : List ℕ) → i < length ps → p ≡ get_or ps i p → find name (pairs_view (drop i ps)) ≡ cond (bytes_eq (string_bytes p.name) name) (Some (value_view p.value)) (find name (pairs_view (drop (i + 1) ps)))
find_from ps i p name below is = ap (find name) (pairs_from ps i p below is)

pub empty_view : (l : NvList) → length (out-NvList l).pairs.items ≡ 0 → list_view l ≡ no_pairs
empty_view l none = list_view-pairs l ∙ ap pairs_view (nil_from_length (out-NvList l).pairs.items none)

pairs_of-push : (ps : List PlainPair) (p : PlainPair) → pairs_of (ps ++ p ∷ []) ≡ with_pair (pairs_of ps) p.0 p.1
pairs_of-push [] p = refl
pairs_of-push (q ∷ ps) p = ap (pair q.0 q.1) (pairs_of-push ps p)

pub pushed : (old : NvList) (new : Vec Pair) (p : Pair) → new.items ≡ (out-NvList old).pairs.items ++ p ∷ [] → list_view (roll-NvList (record { pairs = new })) ≡ with_pair (list_view old) (string_bytes p.name) (value_view p.value)
pushed old new p is =
    let ps = (out-NvList old).pairs.items in
    list_view_rolled new ∙ ap pairs_view is ∙ ap pairs_of (map_push pair_view ps p) ∙ pairs_of-push (map pair_view ps) (pair_view p)
    ∙ ap (λ (l : PlainList). with_pair l (pair_view p).0 (pair_view p).1) (sym (list_view-pairs old))
    ∙ ap (λ (n : List ℕ). with_pair (list_view old) n (pair_view p).1) (pair_view-name p)
    ∙ ap (λ (v : PlainValue). with_pair (list_view old) (string_bytes p.name) v) (pair_view-value p)

-- one more pair fits where its name stands behind the last
pub FitsBehind-with_pair : (last : List ℕ) (l : PlainList) (name : List ℕ) (value : PlainValue) → FitsBehind last l → IsNameBehind (last_from last l) name → FitsValue value → FitsBehind last (with_pair l name value)
FitsBehind-with_pair last no_pairs name value fits named good = (named, good, tt)
FitsBehind-with_pair last (pair first v others) name value fits named good = (fits.0, fits.1, FitsBehind-with_pair first others name value fits.2 named good)

pub pair_count-with_pair : (l : PlainList) (name : List ℕ) (value : PlainValue) → pair_count (with_pair l name value) ≡ suc (pair_count l)
pair_count-with_pair no_pairs name value = refl
pair_count-with_pair (pair first v others) name value = ap suc (pair_count-with_pair others name value)

pub last_from-with_pair : (last : List ℕ) (l : PlainList) (name : List ℕ) (value : PlainValue) → last_from last (with_pair l name value) ≡ name
last_from-with_pair last no_pairs name value = refl
last_from-with_pair last (pair first v others) name value = last_from-with_pair first others name value
