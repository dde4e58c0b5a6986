-- Pairs that are added in order.
use Rattle.std.proofs.Common.{◌≡◌, ◌∙◌, ℕ, List, [], refl, sym, ap, subst, lit<, arith}
use Rattle.std.specs.Prelude.{codes}
use Rattle.nvlist.specs.Find.{with_pair}
use Rattle.nvlist.specs.Grammar.{IsNameBehind}
use Rattle.nvlist.specs.Plain.{PlainValue, PlainList, no_pairs, pair, last_name, last_from}

last_added : (last : List ℕ) (l : PlainList) (name : List ℕ) (value : PlainValue) → last_from last (with_pair l name value) ≡ name
last_added last no_pairs name value = refl
last_added last (pair first v others) name value = last_added first others name value

-- a name behind the one that was added last
pub behind_added : (old new : PlainList) (last name : List ℕ) (value : PlainValue) → new ≡ with_pair old last value → IsNameBehind last name
    → IsNameBehind (last_name new) name
behind_added old new last name value is named =
    let P : List ℕ → Type 0 = λ it. IsNameBehind it name in
    subst P (sym (ap last_name is ∙ last_added [] old last value)) named

pub behind_none : (new : PlainList) (name : List ℕ) → new ≡ no_pairs → IsNameBehind [] name → IsNameBehind (last_name new) name
behind_none new name is named = let P : List ℕ → Type 0 = λ it. IsNameBehind it name in subst P (sym (ap last_name is)) named

pub first_guid : IsNameBehind [] (codes "guid")
first_guid = record { not_empty = lit< tt; len = omega arith; printable = refl; behind = refl }

pub guid_then_id : IsNameBehind (codes "guid") (codes "id")
guid_then_id = record { not_empty = lit< tt; len = omega arith; printable = refl; behind = refl }

pub first_children : IsNameBehind [] (codes "children")
first_children = record { not_empty = lit< tt; len = omega arith; printable = refl; behind = refl }

pub first_ashift : IsNameBehind [] (codes "ashift")
first_ashift = record { not_empty = lit< tt; len = omega arith; printable = refl; behind = refl }

pub ashift_then_asize : IsNameBehind (codes "ashift") (codes "asize")
ashift_then_asize = record { not_empty = lit< tt; len = omega arith; printable = refl; behind = refl }

pub asize_then_children : IsNameBehind (codes "asize") (codes "children")
asize_then_children = record { not_empty = lit< tt; len = omega arith; printable = refl; behind = refl }

pub children_then_guid : IsNameBehind (codes "children") (codes "guid")
children_then_guid = record { not_empty = lit< tt; len = omega arith; printable = refl; behind = refl }

pub id_then_meta_slabs : IsNameBehind (codes "id") (codes "meta_slabs")
id_then_meta_slabs = record { not_empty = lit< tt; len = omega arith; printable = refl; behind = refl }

pub meta_slabs_then_ms_shift : IsNameBehind (codes "meta_slabs") (codes "ms_shift")
meta_slabs_then_ms_shift = record { not_empty = lit< tt; len = omega arith; printable = refl; behind = refl }

pub ms_shift_then_nparity : IsNameBehind (codes "ms_shift") (codes "nparity")
ms_shift_then_nparity = record { not_empty = lit< tt; len = omega arith; printable = refl; behind = refl }

pub nparity_then_type : IsNameBehind (codes "nparity") (codes "type")
nparity_then_type = record { not_empty = lit< tt; len = omega arith; printable = refl; behind = refl }

pub first_claim : IsNameBehind [] (codes "claim")
first_claim = record { not_empty = lit< tt; len = omega arith; printable = refl; behind = refl }

pub claim_then_guid : IsNameBehind (codes "claim") (codes "guid")
claim_then_guid = record { not_empty = lit< tt; len = omega arith; printable = refl; behind = refl }

pub guid_then_name : IsNameBehind (codes "guid") (codes "name")
guid_then_name = record { not_empty = lit< tt; len = omega arith; printable = refl; behind = refl }

pub name_then_pool_guid : IsNameBehind (codes "name") (codes "pool_guid")
name_then_pool_guid = record { not_empty = lit< tt; len = omega arith; printable = refl; behind = refl }

pub pool_guid_then_state : IsNameBehind (codes "pool_guid") (codes "state")
pool_guid_then_state = record { not_empty = lit< tt; len = omega arith; printable = refl; behind = refl }

pub state_then_top_guid : IsNameBehind (codes "state") (codes "top_guid")
state_then_top_guid = record { not_empty = lit< tt; len = omega arith; printable = refl; behind = refl }

pub top_guid_then_txg : IsNameBehind (codes "top_guid") (codes "txg")
top_guid_then_txg = record { not_empty = lit< tt; len = omega arith; printable = refl; behind = refl }

pub txg_then_vdev_tree : IsNameBehind (codes "txg") (codes "vdev_tree")
txg_then_vdev_tree = record { not_empty = lit< tt; len = omega arith; printable = refl; behind = refl }

pub vdev_tree_then_version : IsNameBehind (codes "vdev_tree") (codes "version")
vdev_tree_then_version = record { not_empty = lit< tt; len = omega arith; printable = refl; behind = refl }

pub one_pair : (l0 l1 : PlainList) (n1 : List ℕ) (v1 : PlainValue) → l0 ≡ no_pairs → l1 ≡ with_pair l0 n1 v1 → l1 ≡ pair n1 v1 no_pairs
one_pair l0 l1 n1 v1 e0 e1 = e1 ∙ ap (λ l. with_pair l n1 v1) e0

pub two_pairs : (l0 l1 l2 : PlainList) (n1 n2 : List ℕ) (v1 v2 : PlainValue) → l0 ≡ no_pairs → l1 ≡ with_pair l0 n1 v1 → l2 ≡ with_pair l1 n2 v2
    → l2 ≡ pair n1 v1 (pair n2 v2 no_pairs)
two_pairs l0 l1 l2 n1 n2 v1 v2 e0 e1 e2 =
    e2 ∙ ap (λ l. with_pair l n2 v2) (e1 ∙ ap (λ l. with_pair l n1 v1) e0)

pub nine_pairs : (l0 l1 l2 l3 l4 l5 l6 l7 l8 l9 : PlainList) (n1 n2 n3 n4 n5 n6 n7 n8 n9 : List ℕ) (v1 v2 v3 v4 v5 v6 v7 v8 v9 : PlainValue) → l0 ≡ no_pairs
    → l1 ≡ with_pair l0 n1 v1 → l2 ≡ with_pair l1 n2 v2 → l3 ≡ with_pair l2 n3 v3 → l4 ≡ with_pair l3 n4 v4 → l5 ≡ with_pair l4 n5 v5 → l6 ≡ with_pair l5 n6 v6 → l7 ≡ with_pair l6 n7 v7 → l8 ≡ with_pair l7 n8 v8 → l9 ≡ with_pair l8 n9 v9
    → l9 ≡ pair n1 v1 (pair n2 v2 (pair n3 v3 (pair n4 v4 (pair n5 v5 (pair n6 v6 (pair n7 v7 (pair n8 v8 (pair n9 v9 (no_pairs)))))))))
nine_pairs l0 l1 l2 l3 l4 l5 l6 l7 l8 l9 n1 n2 n3 n4 n5 n6 n7 n8 n9 v1 v2 v3 v4 v5 v6 v7 v8 v9 e0 e1 e2 e3 e4 e5 e6 e7 e8 e9 =
    e9 ∙ ap (λ l. with_pair l n9 v9) (e8 ∙ ap (λ l. with_pair l n8 v8) (e7 ∙ ap (λ l. with_pair l n7 v7) (e6 ∙ ap (λ l. with_pair l n6 v6) (e5 ∙ ap (λ l. with_pair l n5 v5) (e4 ∙ ap (λ l. with_pair l n4 v4) (e3 ∙ ap (λ l. with_pair l n3 v3) (e2 ∙ ap (λ l. with_pair l n2 v2) (e1 ∙ ap (λ l. with_pair l n1 v1) (e0)))))))))

pub ruleset adding = (behind_added, behind_none, first_guid, guid_then_id, two_pairs)

pub ruleset adding_tree = (behind_none, first_children, one_pair)

pub ruleset adding_vdev = (behind_added, behind_none, nine_pairs, first_ashift, ashift_then_asize, asize_then_children, children_then_guid, guid_then_id, id_then_meta_slabs, meta_slabs_then_ms_shift, ms_shift_then_nparity, nparity_then_type)

pub ruleset adding_label = (behind_added, behind_none, nine_pairs, first_claim, claim_then_guid, guid_then_name, name_then_pool_guid, pool_guid_then_state, state_then_top_guid, top_guid_then_txg, txg_then_vdev_tree, vdev_tree_then_version)
