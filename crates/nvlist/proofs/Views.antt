-- The plain values of the code's types, one level at a time.
use Rattle.std.proofs.Common.{◌≡◌, ◌-◌, ℕ, zero, suc, List, [], ◌∷◌, length, Some, refl, ap, ◌∙◌, arith, rules}
use Rattle.std.specs.Prelude.{slice_get, string_bytes}
use Rattle.std.specs.Global.{Vec}
use Rattle.nvlist.specs.Plain.{last_from}
use Rattle.nvlist.specs.View.{value_view, list_view, pair_view, pairs_view}
use Rattle.nvlist.specs.declared.list.NvList.{NvList, out-NvList}
use Rattle.nvlist.specs.declared.list.Pair.{Pair}
use Rattle.nvlist.specs.declared.list.Value.{the_lemmas}
use Rattle.nvlist.specs.declared.list.Value.TheViews.{roll-NvList}

pub pair_view-name : (p : Pair) → (pair_view p).0 ≡ string_bytes p.name
pair_view-name p = search (rules, the_lemmas)

pub pair_view-value : (p : Pair) → (pair_view p).1 ≡ value_view p.value
pair_view-value p = search (rules, the_lemmas)

pub list_view-pairs : (l : NvList) → list_view l ≡ pairs_view (out-NvList l).pairs.items
list_view-pairs l = search (rules, the_lemmas)

last_is : (last : List ℕ) (ps : List Pair) (n : ℕ) (p : Pair) → length ps ≡ suc n → Some p ≡ slice_get ps n → last_from last (pairs_view ps) ≡ string_bytes p.name
last_is last [] n p len e = absurd cc
last_is last (q ∷ []) zero p len e =
    let same : q ≡ p = cc in
    pair_view-name q ∙ ap (λ (x : Pair). string_bytes x.name) same
last_is last (q ∷ []) (suc n) p len e = absurd (omega arith)
last_is last (q ∷ r ∷ ps) zero p len e = absurd (omega arith)
last_is last (q ∷ r ∷ ps) (suc n) p len e = last_is (pair_view q).0 (r ∷ ps) n p (omega arith) e

-- the last pair has the last name
pub last_pair_named : (last : List ℕ) (ps : List Pair) (p : Pair) → Some p ≡ slice_get ps (length ps - 1) → last_from last (pairs_view ps) ≡ string_bytes p.name
last_pair_named last [] p e = absurd cc
last_pair_named last (q ∷ ps) p e = last_is last (q ∷ ps) (length ps) p refl (e ∙ ap (slice_get (q ∷ ps)) (omega arith))

pub list_view_rolled : (pairs : Vec Pair) → list_view (roll-NvList (record { pairs = pairs })) ≡ pairs_view pairs.items
list_view_rolled pairs = search (rules, the_lemmas)
