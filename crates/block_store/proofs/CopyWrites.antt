-- The writes of the copies of a block.
use Rattle.std.proofs.Common.{ℕ, zero, suc, ◌≡◌, ◌⊎◌, inl, inr, ◌+◌, ◌<◌, Bool, true, false, not, List, [], ◌∷◌, ◌++◌, length, Contains, refl, sym, ap, subst, ◌∙◌, arith}
use Rattle.std.specs.Prelude.{filter, All, slice_index_or}
use Rattle.std.proofs.lemmas.List.{length-append}
use Rattle.std.proofs.lemmas.List.Elements.{Contains-append_left, Contains-append_right, Contains-append_cases, All-append}
use Rattle.std.proofs.lemmas.Option.{slice_get_within}
use Rattle.block_pointer.specs.declared.dva.Dva.{Dva}
use Rattle.raidz_io.specs.declared.vdev.Extent.{Extent}
use Rattle.raidz_io.specs.Writes.{ColumnWrite}
use Rattle.raidz_io.specs.Stands.{WouldStore, AreColumnWrites}
use Rattle.raidz_io.proofs.Parts.{slice_get_before, slice_get_last}
use Rattle.raidz_io.proofs.Written.{slice_get_push}
use Rattle.block_store.specs.Places.{IsExtentAt}
use Rattle.block_store.specs.Plans.{AreWritesAt}
use Rattle.block_store.specs.Store.{Store, is_out, outs}
use Rattle.block_store.proofs.Extents.{one_extent}
use Rattle.block_store.proofs.Outs.{out_is_in}
use Rattle.block_store.proofs.Writing.{first_or_later, later_too}

either : (test : Bool) → (test ≡ true) ⊎ (test ≡ false)
either true = inl refl
either false = inr refl

filter_yes : {X : Type 0} (p : X → Bool) (x : X) (xs : List X) → p x ≡ true → filter p (x ∷ xs) ≡ x ∷ filter p xs
filter_yes p x xs is = rw is refl

filter_no : {X : Type 0} (p : X → Bool) (x : X) (xs : List X) → p x ≡ false → filter p (x ∷ xs) ≡ filter p xs
filter_no p x xs is = rw is refl

-- what passes the test is left
in_filter : {X : Type 0} (p : X → Bool) (xs : List X) (x : X) → p x ≡ true → Contains xs x → Contains (filter p xs) x
in_filter p [] x is held = held
in_filter p (y ∷ xs) x is held = elim (either (p y)) [
  | inl passes ↦ subst (λ them. Contains them x) (sym (filter_yes p y xs passes)) (elim (first_or_later y x xs held) [
    | inl same ↦ (zero, omega arith, same)
    | inr later ↦ later_too y x (filter p xs) (in_filter p xs x is later)
  ])
  | inr fails ↦ subst (λ them. Contains them x) (sym (filter_no p y xs fails)) (elim (first_or_later y x xs held) [
    | inl same ↦ absurd (let e : true ≡ false = sym is ∙ ap p (sym same) ∙ fails in cc)
    | inr later ↦ in_filter p xs x is later
  ])
]

-- what is left was there, and passes the test
from_filter : {X : Type 0} (p : X → Bool) (xs : List X) (x : X) → Contains (filter p xs) x → Contains xs x × (p x ≡ true)
from_filter p [] x held = absurd (nothing held)
  where
    nothing : ¬ Contains [] x
    nothing (k, within, is) = absurd (omega arith)
from_filter p (y ∷ xs) x held = elim (either (p y)) [
  | inl passes ↦ elim (first_or_later y x (filter p xs) (subst (λ them. Contains them x) (filter_yes p y xs passes) held)) [
    | inl same ↦ ((zero, omega arith, same), ap p (sym same) ∙ passes)
    | inr later ↦ let rest = from_filter p xs x later in (later_too y x xs rest.0, rest.1)
  ]
  | inr fails ↦ let rest = from_filter p xs x (subst (λ them. Contains them x) (filter_no p y xs fails) held) in (later_too y x xs rest.0, rest.1)
]

-- the writes that are to disks in use
abbrev pub in_use : Store → List ColumnWrite → List ColumnWrite
in_use store copy = filter (λ write. not (is_out store.out write.disk)) copy

is_used : (store : Store) (write : ColumnWrite) → ¬ Contains (outs store) write.disk → not (is_out store.out write.disk) ≡ true
is_used store write present = elim (either (is_out store.out write.disk)) [
  | inl out ↦ absurd (present (out_is_in store write.disk out))
  | inr used ↦ ap not used
]

not_out : (b : Bool) → not b ≡ true → b ≡ false
not_out true is = absurd (cc)
not_out false is = refl

-- no writes for no places
pub no_writes : (store : Store) (sectors : ℕ) (bytes : List ℕ) → AreWritesAt store sectors bytes [] []
no_writes store sectors bytes = record {
  copies = [];
  count = refl;
  extents = λ i place at. absurd (cc);
  would_store = λ i place copy extent at at' is. absurd (cc);
  each = λ i copy write at of present. absurd (cc);
  only = λ write (k, within, is). absurd (omega arith);
  in_use = λ k d within. absurd (omega arith);
}

-- those for one more place
pub writes_more : (store : Store) (sectors : ℕ) (bytes : List ℕ) (places : List Dva) (writes : List ColumnWrite) (place : Dva) (extent : Extent) (copy after : List ColumnWrite)
    → AreWritesAt store sectors bytes places writes → IsExtentAt store.spaces sectors place extent → WouldStore copy extent bytes → AreColumnWrites extent copy
    → after ≡ writes ++ in_use store copy → AreWritesAt store sectors bytes (places ++ place ∷ []) after
writes_more store sectors bytes places writes place extent copy after before at stores columns all =
    let test : ColumnWrite → Bool = λ write. not (is_out store.out write.disk) in
    record {
      copies = before.copies ++ copy ∷ [];
      count = length-append before.copies (copy ∷ []) ∙ ap (λ n. n + 1) before.count ∙ sym (length-append places (place ∷ []));
      extents = λ i other found. elim (slice_get_push places place other i found) [
        | inl earlier ↦ before.extents i other earlier
        | inr (last, same) ↦ (extent, subst (λ p. IsExtentAt store.spaces sectors p extent) same at)
      ];
      would_store = λ i other them there found found' is. elim (slice_get_push places place other i found) [
        | inl earlier ↦ elim (slice_get_push before.copies copy them i found') [
          | inl earlier' ↦ before.would_store i other them there earlier earlier' is
          | inr (last', same') ↦ absurd (omega (arith, slice_get_within places i other earlier, last', before.count))
        ]
        | inr (last, same) ↦ elim (slice_get_push before.copies copy them i found') [
          | inl earlier' ↦ absurd (omega (arith, slice_get_within before.copies i them earlier', last, before.count))
          | inr (last', same') ↦
              let one : extent ≡ there = one_extent store.spaces sectors place extent there at (subst (λ p. IsExtentAt store.spaces sectors p there) (sym same) is) in
              let P : Extent → Type 0 = λ e. WouldStore them e bytes × AreColumnWrites e them in
              let Q : List ColumnWrite → Type 0 = λ c. WouldStore c extent bytes × AreColumnWrites extent c in
              subst P one (subst Q same' (stores, columns))
        ]
      ];
      each = λ i them write found of present. subst (λ xs. Contains xs write) (sym all) (elim (slice_get_push before.copies copy them i found) [
        | inl earlier ↦ Contains-append_left writes (in_use store copy) write (before.each i them write earlier of present)
        | inr (last, same) ↦
            Contains-append_right writes (in_use store copy) write
            (in_filter test copy write (is_used store write present) (subst (λ xs. Contains xs write) (sym same) of))
      ]);
      only = λ write held. elim (Contains-append_cases writes (in_use store copy) write (subst (λ xs. Contains xs write) all held)) [
        | inl earlier ↦
            let was = before.only write earlier in
            (was.0, was.1, slice_get_before before.copies (copy ∷ []) was.0 was.1 was.2, was.3)
        | inr here ↦ (length before.copies, copy, slice_get_last before.copies copy, (from_filter test copy write here).0)
      ];
      in_use = subst (All (λ write. is_out store.out write.disk ≡ false)) (sym all)
          (All-append (λ write. is_out store.out write.disk ≡ false) writes (in_use store copy) before.in_use (λ k d within.
          not_out (is_out store.out (slice_index_or (in_use store copy) k d).disk)
          (from_filter test copy (slice_index_or (in_use store copy) k d) (k, within, it_is (in_use store copy) k d within)).1));
    }
  where
    it_is : (them : List ColumnWrite) (i : ℕ) (d : ColumnWrite) → i < length them → slice_index_or them i (slice_index_or them i d) ≡ slice_index_or them i d
    it_is [] i d within = absurd (omega arith)
    it_is (w ∷ them) zero d within = refl
    it_is (w ∷ them) (suc i) d within = it_is them i d (omega arith)

-- an item is in its list
pub item_in : {X : Type 0} (xs : List X) (i : ℕ) (d : X) → i < length xs → Contains xs (slice_index_or xs i d)
item_in {X = X} xs i d within = (i, within, it_is xs i within)
  where
    it_is : (them : List X) (k : ℕ) → k < length them → slice_index_or them k (slice_index_or them k d) ≡ slice_index_or them k d
    it_is [] k within = absurd (omega arith)
    it_is (w ∷ them) zero within = refl
    it_is (w ∷ them) (suc k) within = it_is them k (omega arith)
