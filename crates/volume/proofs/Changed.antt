-- The blocks that writes change.
use Rattle.std.proofs.Common.{◌≡◌, ◌⊎◌, ◌↔◌, ⊎_elim, inl, inr, ℕ, ◌+◌, ◌-◌, ◌*◌, ◌/◌, ◌<◌, ◌≤◌, true, false, true≢false, nat_eq, List, [], ◌∷◌, ◌++◌, length, take, get_or, refl, sym, ap, ◌∙◌, subst, arith}
use Rattle.std.specs.Prelude.{Any, Contains, IsPermutation}
use Rattle.std.specs.List.{dedup}
use Rattle.std.proofs.lemmas.Bool.{cases_lt}
use Rattle.std.proofs.lemmas.List.{get_or_default}
use Rattle.std.proofs.lemmas.List.Elements.{Contains-append_left, Contains-push, Contains-push_cases}
use Rattle.std.proofs.lemmas.List.Kept.{Contains-dedup_nat, Contains-from_dedup}
use Rattle.std.proofs.lemmas.List.Quantifiers.{Any-push}
use Rattle.std.proofs.lemmas.List.Sorted.{Contains-permutation, IsPermutation-sym}
use Rattle.pool_model.specs.Names.{same}
use Rattle.pool_model.proofs.Places.{same_is, is_same}
use Rattle.pool_model.specs.declared.item.Write.{Write}
use Rattle.txg_pipeline.specs.Positions.{AreOf}
use Rattle.volume_rules.proofs.InPieces.{is_listed}
use Rattle.volume.specs.declared.volume.VolumeSet.{VolumeSet}
use Rattle.volume.specs.Writing.{Reaches, IsChanged}
use Rattle.volume.proofs.Dividing.{le_div, div_le, from_le_div, from_div_le}

-- from the block of the first byte to that of the last
pub reached_range : (size block_size : ℕ) (write : Write) (first end id : ℕ) → 0 < block_size → 0 < length write.bytes
    → write.offset + length write.bytes ≤ size → first ≡ write.offset / block_size → end ≡ (write.offset + length write.bytes - 1) / block_size + 1
    → Reaches size block_size write id ↔ ((first ≤ id) × (id < end))
reached_range size block_size write first end id wide some within is_first is_end = (
  λ reaches. (
    let low : write.offset / block_size ≤ id = div_le write.offset block_size id wide reaches.begins in omega arith,
    let high : id ≤ (write.offset + length write.bytes - 1) / block_size = le_div (write.offset + length write.bytes - 1) block_size id wide (let e = reaches.ends in omega arith) in omega arith,
  ),
  λ (low, high). record {
    within = within;
    some = some;
    begins = from_div_le write.offset block_size id wide (omega arith);
    ends = let le : id * block_size ≤ write.offset + length write.bytes - 1 = from_le_div (write.offset + length write.bytes - 1) block_size id wide (omega arith) in omega arith;
  },
)

-- one id more
pub id_more : (ids before new : List ℕ) (first id : ℕ) → first ≤ id → new ≡ ids ++ id ∷ []
    → ((x : ℕ) → Contains ids x ↔ (Contains before x ⊎ ((first ≤ x) × (x < id))))
    → (x : ℕ) → Contains new x ↔ (Contains before x ⊎ ((first ≤ x) × (x < id + 1)))
id_more ids before new first id le is so_far x = (
  λ held.
      ⊎_elim
      (λ old. ⊎_elim (λ was. inl was) (λ (low, high). inr (low, omega arith)) ((so_far x).0 old))
      (λ same. inr (omega arith, omega arith))
      (Contains-push_cases ids id x (subst (λ (xs : List ℕ). Contains xs x) is held)),
  λ either. subst (λ (xs : List ℕ). Contains xs x) (sym is) (there either),
)
  where
    there : (Contains before x ⊎ ((first ≤ x) × (x < id + 1))) → Contains (ids ++ id ∷ []) x
    there (inl was) = Contains-append_left ids (id ∷ []) x ((so_far x).1 (inl was))
    there (inr range) =
        ⊎_elim (λ lt. Contains-append_left ids (id ∷ []) x ((so_far x).1 (inr (range.0, lt))))
        (λ ge. let same : id ≡ x = omega (arith, range.1) in subst (λ (y : ℕ). Contains (ids ++ id ∷ []) y) same (Contains-push ids id)) (cases_lt x id)

pub Any-push_cases : {X : Type 0} (P : X → Type 0) (xs : List X) (y : X) → Any P (xs ++ y ∷ []) → Any P xs ⊎ P y
Any-push_cases P xs y any =
    ⊎_elim (λ old. inl (old.0, any.1, old.1, old.2, any.4)) (λ same. inr (subst P (sym same) any.4)) (Contains-push_cases xs y any.1 (any.0, any.2, any.3))

Any-append_left : {X : Type 0} (P : X → Type 0) (xs : List X) (y : X) → Any P xs → Any P (xs ++ y ∷ [])
Any-append_left P xs y any = let there = Contains-append_left xs (y ∷ []) any.1 (any.0, any.2, any.3) in (there.0, any.1, there.1, there.2, any.4)

-- one of the writes at the first places reaches the block
abbrev pub IsListedBefore : VolumeSet → List Write → List ℕ → ℕ → ℕ → Type 0
IsListedBefore volume writes places i id =
    (k : ℕ) × (write : Write) × (k < i) × (k < length places) × (get_or writes (get_or places k 0) write ≡ write) × Reaches volume.size volume.block_size write id

-- one place more
pub listed_more : (volume : VolumeSet) (writes : List Write) (places : List ℕ) (i : ℕ) (write : Write) (ids new : List ℕ)
    → i < length places → get_or places i 0 < length writes → get_or writes (get_or places i 0) write ≡ write
    → ((id : ℕ) → Contains new id ↔ (Contains ids id ⊎ Reaches volume.size volume.block_size write id))
    → ((id : ℕ) → Contains ids id ↔ IsListedBefore volume writes places i id)
    → (id : ℕ) → Contains new id ↔ IsListedBefore volume writes places (i + 1) id
listed_more volume writes places i write ids new here within is adds so_far id = (
  λ held. ⊎_elim
      (λ old. let was = (so_far id).0 old in (was.0, was.1, (let lt = was.2 in omega arith), was.3, was.4, was.5))
      (λ reaches. (i, write, omega arith, here, is, reaches))
      ((adds id).0 held),
  λ (k, other, lt, there, at, reaches). (adds id).1 (⊎_elim
      (λ earlier. inl ((so_far id).1 (k, other, earlier, there, at, reaches)))
      (λ last.
      let same : k ≡ i = omega (arith, lt, last) in
      let found : get_or writes (get_or places i 0) other ≡ other = subst (λ (n : ℕ). get_or writes (get_or places n 0) other ≡ other) same at in
      let one : other ≡ write = sym found ∙ get_or_default writes (get_or places i 0) other write within ∙ is in
      inr (subst (λ (w : Write). Reaches volume.size volume.block_size w id) one reaches))
      (cases_lt k i)),
)

-- the blocks that the writes at their places reach are those that are changed
pub listed_all : (volume : VolumeSet) (name : List ℕ) (writes : List Write) (places : List ℕ) (i : ℕ) → length places ≤ i → AreOf name writes places
    → (id : ℕ) → IsListedBefore volume writes places i id ↔ IsChanged volume name writes id
listed_all volume name writes places i last are id = (
  λ (k, write, lt, there, is, reaches).
      let p : ℕ = get_or places k 0 in
      let at = (are.exactly p).0 (is_listed places k p there refl) in
      let one : at.0 ≡ write = sym at.2 ∙ get_or_default writes p at.0 write at.1 ∙ is in (
        p,
        write,
        at.1,
        is,
        (subst (λ (w : Write). w.volume ≡ name) one at.3, reaches),
      ),
  λ any.
      let held = (are.exactly any.0).1 (any.1, any.2, any.3, any.4.0) in
      let here : get_or places held.0 0 ≡ any.0 = get_or_default places held.0 0 any.0 held.1 ∙ held.2 in (
        held.0,
        any.1,
        (let within = held.1 in omega (arith, within, last)),
        held.1,
        subst (λ (n : ℕ). get_or writes n any.1 ≡ any.1) (sym here) any.3,
        any.4.1,
      ),
)

-- the ids in order, each once
pub sorted_once : (ids sorted once : List ℕ) (P : ℕ → Type 0) → IsPermutation ids sorted → once ≡ dedup nat_eq sorted → ((id : ℕ) → Contains ids id ↔ P id) → (id : ℕ) → Contains once id ↔ P id
sorted_once ids sorted once P moved is so_far id = (
  λ held. (so_far id).0 (Contains-permutation sorted ids id (IsPermutation-sym ids sorted moved) (Contains-from_dedup nat_eq sorted id (subst (λ (xs : List ℕ). Contains xs id) is held))),
  λ there. subst (λ (xs : List ℕ). Contains xs id) (sym is) (Contains-dedup_nat sorted id (Contains-permutation ids sorted id moved ((so_far id).1 there))),
)

-- all ids of the range
pub reached_all : (size block_size : ℕ) (write : Write) (ids before : List ℕ) (last : ℕ) → 0 < block_size → 0 < length write.bytes
    → write.offset + length write.bytes ≤ size → (write.offset / block_size ≤ (write.offset + length write.bytes - 1) / block_size + 1 → last ≤ (write.offset + length write.bytes - 1) / block_size + 1)
    → (write.offset + length write.bytes - 1) / block_size + 1 ≤ last
    → ((x : ℕ) → Contains ids x ↔ (Contains before x ⊎ ((write.offset / block_size ≤ x) × (x < last))))
    → (id : ℕ) → Contains ids id ↔ (Contains before id ⊎ Reaches size block_size write id)
reached_all size block_size write ids before last wide some within high low so_far id = (
  λ held. ⊎_elim (λ was. inl was) (λ range. inr (reach.1 (subst (λ (n : ℕ). (write.offset / block_size ≤ id) × (id < n)) is range))) ((so_far id).0 held),
  λ either. (so_far id).1 (⊎_elim (λ was. inl was) (λ reaches. inr (subst (λ (n : ℕ). (write.offset / block_size ≤ id) × (id < n)) (sym is) (reach.0 reaches))) either),
)
  where
    first_below : write.offset / block_size ≤ (write.offset + length write.bytes - 1) / block_size
    first_below = le_div (write.offset + length write.bytes - 1) block_size (write.offset / block_size) wide (omega arith)

    is : last ≡ (write.offset + length write.bytes - 1) / block_size + 1
    is = let to = high (omega (arith, first_below)) in omega arith

    reach : Reaches size block_size write id ↔ ((write.offset / block_size ≤ id) × (id < (write.offset + length write.bytes - 1) / block_size + 1))
    reach = reached_range size block_size write (write.offset / block_size) ((write.offset + length write.bytes - 1) / block_size + 1) id wide some within refl refl
