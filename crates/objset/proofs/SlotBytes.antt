-- The bytes of the dnodes of a block.
use Rattle.std.proofs.Common.{◌≡◌, ℕ, ◌+◌, ◌-◌, ◌≤◌, List, ◌++◌, length, take, drop, replicate, sym, ap, ◌∙◌, arith, length-drop}
use Rattle.std.proofs.lemmas.List.{take_at, drop_at, take-append-le, drop-append-le, drop-drop, drop-take, take-take, take-replicate, drop-replicate, length-take-le}
use borrow.Rule.Slice.PartMut.{put_mid}

-- bytes that are put in place of as many
module _ (old field : List ℕ) (at k : ℕ) (room : at + k ≤ length old) (sized : length field ≡ k) where
  taken : length (take at old) ≡ at
  taken = length-take-le at old (omega (arith, room))

  -- they are there
  pub put_here : take k (drop at (put_mid at k old field)) ≡ field
  put_here =
      ap (λ (bytes : List ℕ). take k bytes) (drop_at (take at old) (field ++ drop k (drop at old)) at taken)
      ∙ take_at field (drop k (drop at old)) k sized

  -- a part before them is as it was
  pub put_before : (from size : ℕ) → from + size ≤ at → take size (drop from (put_mid at k old field)) ≡ take size (drop from old)
  put_before from size before =
      let rest : List ℕ = field ++ drop k (drop at old) in
      let first : drop from (take at old ++ (field ++ drop k (drop at old))) ≡ drop from (take at old) ++ (field ++ drop k (drop at old)) =
      drop-append-le from (take at old) (field ++ drop k (drop at old)) (omega (arith, taken, before)) in
      let long : size ≤ length (drop from (take at old)) = omega (arith, length-drop from (take at old), taken, before) in
      let split : at ≡ from + (at - from) = omega (arith, before) in
      ap (λ (bytes : List ℕ). take size bytes) first ∙ take-append-le size (drop from (take at old)) (field ++ drop k (drop at old)) long
      ∙ ap (λ n. take size (drop from (take n old))) split ∙ ap (λ (bytes : List ℕ). take size bytes) (drop-take from (at - from) old)
      ∙ take-take size (at - from) (drop from old) (omega (arith, before))

  -- and so is a part behind them
  pub put_behind : (from size : ℕ) → at + k ≤ from → take size (drop from (put_mid at k old field)) ≡ take size (drop from old)
  put_behind from size behind =
      let left : ℕ = from - (at + k) in
      let split : from ≡ at + (k + (from - (at + k))) = omega (arith, behind) in
      ap (λ (bytes : List ℕ). take size bytes)
      (ap (λ n. drop n (put_mid at k old field)) split
      ∙ sym (drop-drop (k + (from - (at + k))) at (put_mid at k old field))
      ∙ ap (λ (bytes : List ℕ). drop (k + (from - (at + k))) bytes) (drop_at (take at old) (field ++ drop k (drop at old)) at taken)
      ∙ sym (drop-drop (from - (at + k)) k (field ++ drop k (drop at old)))
      ∙ ap (λ (bytes : List ℕ). drop (from - (at + k)) bytes) (drop_at field (drop k (drop at old)) k sized)
      ∙ drop-drop (from - (at + k)) k (drop at old)
      ∙ drop-drop (k + (from - (at + k))) at old
      ∙ ap (λ n. drop n old) (sym split))

-- zeros are free dnodes
pub zeros_are_free : (count size from : ℕ) → from + size ≤ count → take size (drop from (replicate {A = ℕ} count 0)) ≡ replicate size 0
zeros_are_free count size from room =
    let none : ℕ = 0 in
    ap (λ (bytes : List ℕ). take size bytes) (drop-replicate from count none) ∙ take-replicate size (count - from) none (omega (arith, room))
