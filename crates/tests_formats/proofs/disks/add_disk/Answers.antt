use Rattle.std.proofs.Common.{◌≤◌, ℕ, zero, suc, List, [], ◌∷◌, ◌++◌, length, arith}
use Rattle.pool_slots.specs.Slots.{HaveLabels}

-- one disk more
labels_push : (starts : List (List ℕ)) (start : List ℕ) → HaveLabels starts → 1048576 ≤ length start → HaveLabels (starts ++ start ∷ [])
labels_push [] start before here zero within = here
labels_push [] start before here (suc i) within = absurd (omega (arith, within))
labels_push (x ∷ xs) start before here zero within = before 0 (omega arith)
labels_push (x ∷ xs) start before here (suc i) within = labels_push xs start (λ k below. before (suc k) (omega (arith, below))) here i (omega (arith, within))
