-- The array with blocks that are written.
use Rattle.std.proofs.Common.{◌≡◌, ◌≢◌, ℕ, ◌+◌, ◌-◌, ◌<◌, ◌≤◌, min, inl, inr, List, [], ◌∷◌, ◌++◌, length, take, drop, Option, Some, All, get_or, ◌==◌, if◌then◌else◌, refl, sym, ap, ◌∙◌, arith, length-drop, length-take}
use Rattle.std.proofs.lemmas.Bool.{ne_eqb, eq-eqb, cases_eq}
use Rattle.std.proofs.lemmas.List.{take-append-drop, get_or-drop, get_or-take}
use Rattle.std.proofs.lemmas.List.Elements.{All-head, All-tail, All-weaker}
use Rattle.dnode_tree.specs.declared.writes.BlockWrite.{BlockWrite}
use Rattle.dnode_tree.specs.PartsRewritten.{HasWrites}
use Rattle.dnode_tree.specs.Writes.{AreInOrder, written}

-- writes of other blocks leave it
pub written_others : (writes : List BlockWrite) (array : ℕ → Option (List ℕ)) (id : ℕ) → All (λ write. write.id ≢ id) writes → written writes array id ≡ array id
written_others [] array id others = refl
written_others (write ∷ writes) array id others =
    ap (λ is. if is then Some write.bytes.items else written writes array id) (ne_eqb write.id id (All-head (λ w. w.id ≢ id) write writes others))
    ∙ written_others writes array id (All-tail (λ w. w.id ≢ id) write writes others)

written-append : (first rest : List BlockWrite) (array : ℕ → Option (List ℕ)) (id : ℕ) → written (first ++ rest) array id ≡ written first (written rest array) id
written-append [] rest array id = refl
written-append (write ∷ first) rest array id = ap (λ found. if write.id == id then Some write.bytes.items else found) (written-append first rest array id)

written_as : (writes : List BlockWrite) (array other : ℕ → Option (List ℕ)) (id : ℕ) → array id ≡ other id → written writes array id ≡ written writes other id
written_as [] array other id same = same
written_as (write ∷ writes) array other id same = ap (λ found. if write.id == id then Some write.bytes.items else found) (written_as writes array other id same)

-- the first of writes to one block is what it has
pub written_first : (writes : List BlockWrite) (array : ℕ → Option (List ℕ)) (id : ℕ) (other : BlockWrite) → 0 < length writes → (get_or writes 0 other).id ≡ id
    → written writes array id ≡ Some (get_or writes 0 other).bytes.items
written_first [] array id other some is = absurd (omega (arith, some))
written_first (write ∷ writes) array id other some is =
    ap (λ same. if same then Some write.bytes.items else written writes array id) (eq-eqb write.id id is)

-- what behind a place in sorted writes is not before what stands there
pub behind_all : (writes : List BlockWrite) (n end : ℕ) → AreInOrder writes → ((other : BlockWrite) → n < length writes → end ≤ (get_or writes n other).id)
    → All (λ write. end ≤ write.id) (drop n writes)
behind_all writes n end order first k other low =
    let room : n + k < length writes = (let left : k < length writes - n = rw length-drop at low in omega (arith, left)) in
    rw get_or-drop
    (elim (cases_eq k 0) [
      | inl none ↦ let here : n + k ≡ n = omega (arith, none) in rw here (first other (omega (arith, room)))
      | inr more ↦ let there = order n (n + k) other (omega (arith, more)) room in omega (arith, there, first other (omega (arith, room)))
    ])

pub order_taken : (writes : List BlockWrite) (n : ℕ) → AreInOrder writes → AreInOrder (take n writes)
order_taken writes n order i j other before low =
    let taken : j < min n (length writes) = rw length-take at low in
    let room : j < length writes = omega (arith, taken) in
    let early : j < n = omega (arith, taken) in
    let sooner : i < n = omega (arith, early, before) in
    rw (get_or-take n writes i other sooner, get_or-take n writes j other early) (order i j other before room)

pub order_dropped : (writes : List BlockWrite) (n : ℕ) → AreInOrder writes → AreInOrder (drop n writes)
order_dropped writes n order i j other before low =
    let left : j < length writes - n = rw length-drop at low in
    let room : n + j < length writes = omega (arith, left) in
    rw (get_or-drop n writes i other, get_or-drop n writes j other) (order (n + i) (n + j) other (omega (arith, before)) room)

-- what is left to write after those before an id
module _ (new_array array : ℕ → Option (List ℕ)) (writes : List BlockWrite) (n first middle end : ℕ) (has : HasWrites new_array array writes first end)
    (before : All (λ write. write.id < middle) (take n writes)) (behind : All (λ write. middle ≤ write.id) (drop n writes)) where
  parts : (id : ℕ) → written writes array id ≡ written (take n writes) (written (drop n writes) array) id
  parts id = ap (λ ws. written ws array id) (sym (take-append-drop n writes)) ∙ written-append (take n writes) (drop n writes) array id

  -- before the id
  pub has_before : middle ≤ end → HasWrites new_array array (take n writes) first middle
  has_before le id from low =
      has id from (omega (arith, low, le)) ∙ parts id
      ∙ written_as (take n writes) (written (drop n writes) array) array id
      (written_others (drop n writes) array id (All-weaker (λ w. middle ≤ w.id) (λ w. w.id ≢ id) (λ w there same. omega (arith, there, same, low)) (drop n writes) behind))

  -- from the id on
  pub has_behind : first ≤ middle → HasWrites new_array array (drop n writes) middle end
  has_behind le id from low =
      has id (omega (arith, from, le)) low ∙ parts id
      ∙ written_others (take n writes) (written (drop n writes) array) id (All-weaker (λ w. w.id < middle) (λ w. w.id ≢ id) (λ w there same. omega (arith, there, same, from)) (take n writes) before)
