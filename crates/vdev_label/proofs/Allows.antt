-- The configurations of small vdevs have a spelling, and so have the labels of those that are allowed.
use Rattle.std.proofs.Common.{◌≡◌, ◌<◌, ◌≤◌, ◌+◌, ◌^◌, ℕ, suc, Bool, true, ◌&&◌, List, [], ◌∷◌, ◌++◌, length, refl, subst, lit<, arith, IsTrue}
use Rattle.std.specs.Prelude.{All, codes, nat_le}
use Rattle.std.specs.List.{list_all}
use Rattle.std.proofs.lemmas.Bool.Decides.{nat_tests}
use Rattle.std.proofs.lemmas.List.Concat.{flat_map-cons}
use Rattle.std.proofs.lemmas.List.Elements.{All-cons, All-nil, All-tail, All-from_recursion}
use Rattle.words.specs.Words.{AreWords}
use Rattle.nvlist.specs.Grammar.{FitsBehind, FitsList, FitsLists, IsText, is_printable}
use Rattle.nvlist.specs.Plain.{PlainList, list_count}
use Rattle.nvlist.specs.View.{lists_of}
use Rattle.vdev_label.proofs.Adding.{first_guid, guid_then_id, first_children, first_ashift, ashift_then_asize, asize_then_children, children_then_guid, id_then_meta_slabs, meta_slabs_then_ms_shift, ms_shift_then_nparity, nparity_then_type, first_claim, claim_then_guid, guid_then_name, name_then_pool_guid, pool_guid_then_state, state_then_top_guid, top_guid_then_txg, txg_then_vdev_tree, vdev_tree_then_version}
use Rattle.vdev_label.proofs.Rooms.{state_fits}
use Rattle.vdev_label.proofs.Sizes.{label_length, label_depth, tree_length, tree_depth}
use Rattle.vdev_label.specs.Area.{HasRoom}
use Rattle.vdev_label.specs.Config.{FitsConfig, config_bytes, guids}
use Rattle.vdev_label.specs.Limits.{IsAllowedVdev, IsAllowed}
use Rattle.vdev_label.specs.Pairs.{numbered, child_pairs, vdev_pairs, tree_pairs, label_pairs, is_letter, is_name_byte, is_name, InRange}
use Rattle.vdev_label.specs.Plain.{PlainVdev, PlainLabel}
use Rattle.vdev_label.specs.Room.{IsSmallVdev}

numbered_count : {A : Type 0} (of : ℕ → A → PlainList) (id : ℕ) (xs : List A) → list_count (lists_of (numbered of id xs)) ≡ length xs
numbered_count of id [] = refl
numbered_count of id (x ∷ xs) = omega (arith, numbered_count of (suc id) xs)

words_front : (xs ys : List ℕ) → AreWords (xs ++ ys) → AreWords xs
words_front [] ys words = tt
words_front (x ∷ xs) ys words = (words.0, words_front xs ys words.1)

words_back : (xs ys : List ℕ) → AreWords (xs ++ ys) → AreWords ys
words_back [] ys words = words
words_back (x ∷ xs) ys words = words_back xs ys words.1

children_fit : (id : ℕ) (children : List ℕ) → id + length children ≤ 2 ^ 16 → All (λ guid. guid < 2 ^ 64) children → FitsLists (lists_of (numbered child_pairs id children))
children_fit id [] few all = tt
children_fit id (guid ∷ children) few all =
    (lit< tt, (first_guid, all 0 guid (omega arith), (guid_then_id, omega (arith, few), tt)), children_fit (suc id) children (omega (arith, few)) (All-tail (λ n. n < 2 ^ 64) guid children all))

raidz_fits : IsText (codes "raidz")
raidz_fits = record { len = lit< tt; printable = refl }

vdev_fits : (id : ℕ) (v : PlainVdev) → id < 8 → IsSmallVdev v → FitsBehind [] (vdev_pairs id v)
vdev_fits id v few small =
    let count = numbered_count child_pairs 0 v.children in (
      first_ashift,
      lit< tt,
      (
        ashift_then_asize,
        small.child_sectors,
        (
          asize_then_children,
          (omega (arith, count, small.few), children_fit 0 v.children (omega (arith, small.few)) small.children),
          (
            children_then_guid,
            small.guid,
            (
              guid_then_id,
              omega (arith, few),
              (
                id_then_meta_slabs,
                small.meta_slabs,
                (
                  meta_slabs_then_ms_shift,
                  small.slab_shift,
                  (
                    ms_shift_then_nparity,
                    small.parity,
                    (nparity_then_type, raidz_fits, tt),
                  ),
                ),
              ),
            ),
          ),
        ),
      ),
    )

vdevs_fit : (id : ℕ) (vdevs : List PlainVdev) → id + length vdevs ≤ 8 → All IsSmallVdev vdevs → FitsLists (lists_of (numbered vdev_pairs id vdevs))
vdevs_fit id [] few all = tt
vdevs_fit id (v ∷ vdevs) few all =
    (lit< tt, vdev_fits id v (omega (arith, few)) (all 0 v (omega arith)), vdevs_fit (suc id) vdevs (omega (arith, few)) (All-tail IsSmallVdev v vdevs all))

-- a configuration of such vdevs, without how deep its lists lie
tree_fits : (vdevs : List PlainVdev) → length vdevs ≤ 8 → All IsSmallVdev vdevs → FitsList (tree_pairs vdevs)
tree_fits vdevs few all = (lit< tt, (first_children, (omega (arith, numbered_count vdev_pairs 0 vdevs, few), vdevs_fit 0 vdevs (omega (arith, few)) all), tt))

pub small_configs_fit : (vdevs : List PlainVdev) → length vdevs ≤ 8 → All IsSmallVdev vdevs → FitsConfig vdevs × (length (config_bytes vdevs) < 2 ^ 46)
small_configs_fit vdevs few all = ((tree_fits vdevs few all, tree_depth vdevs), tree_length vdevs few all)

-- ---- vdevs within the limits are such vdevs

is_small : (v : PlainVdev) → IsAllowedVdev v → v.guid < 2 ^ 64 → AreWords v.children → IsSmallVdev v
is_small v allowed guid words =
    record {
      guid = guid;
      parity = omega (arith, allowed.parity_to);
      child_sectors = omega (arith, allowed.sectors_to);
      slab_shift = omega (arith, allowed.shift_to);
      meta_slabs = omega (arith, allowed.others, allowed.slabs_to);
      few = omega (arith, allowed.children_to);
      children = All-from_recursion (λ n. n < 2 ^ 64) v.children words;
    }

are_small : (vdevs : List PlainVdev) → All IsAllowedVdev vdevs → AreWords (guids vdevs) → All IsSmallVdev vdevs
are_small [] all words = All-nil IsSmallVdev
are_small (v ∷ vdevs) all words =
    let apart : AreWords ((v.guid ∷ v.children) ++ guids vdevs) = subst AreWords (flat_map-cons (λ (w : PlainVdev). w.guid ∷ w.children) v vdevs) words in
    let own = words_front (v.guid ∷ v.children) (guids vdevs) apart in
    All-cons IsSmallVdev v vdevs (is_small v (all 0 v (omega arith)) own.0 own.1)
    (are_small vdevs (All-tail IsAllowedVdev v vdevs all) (words_back (v.guid ∷ v.children) (guids vdevs) apart))

-- ---- a pool's name is printable

name_byte : (b : ℕ) → is_name_byte b ≡ true → (nat_le 0x20 b && nat_le b 0x7e) ≡ true
name_byte b is = grind (arith, nat_tests, is)

both_pass : (a b : Bool) → (a && b) ≡ true → (a ≡ true) × (b ≡ true)
both_pass a b e = grind (arith, nat_tests, e)

name_bytes : (bytes : List ℕ) → list_all is_name_byte bytes ≡ true → is_printable bytes ≡ true
name_bytes [] all = refl
name_bytes (b ∷ bytes) all =
    let both = both_pass (is_name_byte b) (list_all is_name_byte bytes) all in
    rw (name_byte b both.0, name_bytes bytes both.1) refl

letter_byte : (b : ℕ) → is_letter b ≡ true → is_name_byte b ≡ true
letter_byte b is = grind (arith, nat_tests, is)

short : (n : ℕ) → nat_le n 26 ≡ true → n ≤ 26
short n is = grind (arith, nat_tests, is)

name_fits : (name : List ℕ) → IsTrue (is_name name) → IsText name × (length name ≤ 27)
name_fits [] is = absurd cc
name_fits (b ∷ bytes) is =
    let all = both_pass (is_letter b && list_all is_name_byte bytes) (nat_le (length bytes) 26) is in
    let first = both_pass (is_letter b) (list_all is_name_byte bytes) all.0 in
    let few = short (length bytes) all.1 in
    (record { len = omega (arith, few); printable = rw (name_byte b (letter_byte b first.0), name_bytes bytes first.1) refl }, omega (arith, few))

pub allowed_has_room : (l : PlainLabel) → InRange l → IsAllowed l.pool_guid l.vdevs → AreWords (l.guid ∷ l.top_guid ∷ l.pool_guid ∷ guids l.vdevs) → HasRoom (label_pairs l)
allowed_has_room l ok allowed words =
    let name = name_fits l.name ok.name in
    record {
      fits = (
        (
          lit< tt,
          (
            first_claim,
            omega (arith, ok.claim_to),
            (
              claim_then_guid,
              words.0,
              (
                guid_then_name,
                name.0,
                (
                  name_then_pool_guid,
                  words.1.1.0,
                  (
                    pool_guid_then_state,
                    state_fits l.state,
                    (
                      state_then_top_guid,
                      words.1.0,
                      (
                        top_guid_then_txg,
                        omega (arith, ok.group_to),
                        (
                          txg_then_vdev_tree,
                          tree_fits l.vdevs allowed.vdevs_to (are_small l.vdevs allowed.each words.1.1.1),
                          (vdev_tree_then_version, lit< tt, tt),
                        ),
                      ),
                    ),
                  ),
                ),
              ),
            ),
          ),
        ),
        label_depth l,
      );
      room = label_length l name.1 allowed.vdevs_to allowed.each;
    }
