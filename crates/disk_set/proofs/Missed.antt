-- The disks that missed a group, of the first ones.
use Rattle.std.proofs.Common.{ℕ, zero, suc, ◌≡◌, ◌+◌, ◌<◌, Bool, true, false, if◌then◌else◌, Option, List, [], ◌∷◌, ◌++◌, length, get_or, take, add-one, append-nil, append_assoc, refl, sym, ap, ◌∙◌, arith}
use Rattle.disk_set.specs.Outs.{is_in, stale_from}
use Rattle.disk_set.specs.declared.stale.GroupSpan.{GroupSpan}

front : (test : Bool) (first : ℕ) (xs ys tail : List ℕ) → xs ≡ ys ++ tail → (if test then first ∷ xs else xs) ≡ (if test then first ∷ ys else ys) ++ tail
front true first xs ys tail same = ap (λ them. first ∷ them) same
front false first xs ys tail same = same

stale_more : (stale : List (Option GroupSpan)) (birth first i : ℕ) (d x : Option GroupSpan) → i < length stale → get_or stale i d ≡ x
    → stale_from first (take (suc i) stale) birth ≡ stale_from first (take i stale) birth ++ (if is_in x birth then (first + i) ∷ [] else [])
stale_more [] birth first i d x below is = absurd (omega arith)
stale_more (span ∷ rest) birth first zero d x below is = let none : first + 0 ≡ first = omega arith in rw (← is, none) refl
stale_more (span ∷ rest) birth first (suc i) d x below is =
    let next : first + suc i ≡ suc first + i = omega arith in
    rw next (front (is_in span birth) first (stale_from (suc first) (take (suc i) rest) birth) (stale_from (suc first) (take i rest) birth)
    (if is_in x birth then (suc first + i) ∷ [] else []) (stale_more rest birth (suc first) i d x (omega arith) is))

pub missed_too : (stale : List (Option GroupSpan)) (birth disk : ℕ) (d x : Option GroupSpan) (start before after : List ℕ) → disk < length stale → get_or stale disk d ≡ x → is_in x birth ≡ true
    → before ≡ start ++ stale_from 0 (take disk stale) birth → after ≡ before ++ disk ∷ [] → after ≡ start ++ stale_from 0 (take (disk + 1) stale) birth
missed_too stale birth disk d x start before after below at is before_is after_is =
    let none : 0 + disk ≡ disk = omega arith in
    let more : stale_from 0 (take (suc disk) stale) birth ≡ stale_from 0 (take disk stale) birth ++ (if is_in x birth then (0 + disk) ∷ [] else []) =
    stale_more stale birth 0 disk d x below at in
    let more' : stale_from 0 (take (suc disk) stale) birth ≡ stale_from 0 (take disk stale) birth ++ disk ∷ [] =
    more ∙ ap (λ (b : Bool). stale_from 0 (take disk stale) birth ++ (if b then (0 + disk) ∷ [] else [])) is ∙ ap (λ n. stale_from 0 (take disk stale) birth ++ n ∷ []) none in
    rw add-one (after_is ∙ ap (λ them. them ++ disk ∷ []) before_is ∙ append_assoc start (stale_from 0 (take disk stale) birth) (disk ∷ []) ∙ ap (λ them. start ++ them) (sym more'))

pub not_missed : (stale : List (Option GroupSpan)) (birth disk : ℕ) (d x : Option GroupSpan) (start before : List ℕ) → disk < length stale → get_or stale disk d ≡ x → is_in x birth ≡ false
    → before ≡ start ++ stale_from 0 (take disk stale) birth → before ≡ start ++ stale_from 0 (take (disk + 1) stale) birth
not_missed stale birth disk d x start before below at is before_is =
    let more : stale_from 0 (take (suc disk) stale) birth ≡ stale_from 0 (take disk stale) birth ++ (if is_in x birth then (0 + disk) ∷ [] else []) =
    stale_more stale birth 0 disk d x below at in
    rw add-one (before_is ∙ ap (λ them. start ++ them) (sym (append-nil (stale_from 0 (take disk stale) birth))
    ∙ sym (ap (λ (b : Bool). stale_from 0 (take disk stale) birth ++ (if b then (0 + disk) ∷ [] else [])) is) ∙ sym more))
