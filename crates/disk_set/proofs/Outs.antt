-- The disks that are out, of the first ones.
use Rattle.std.proofs.Common.{ℕ, zero, suc, ◌≡◌, ◌+◌, ◌<◌, Bool, true, false, if◌then◌else◌, List, [], ◌∷◌, ◌++◌, length, get_or, take, add-one, append-nil, refl, sym, ap, ◌∙◌, arith}
use Rattle.disk_set.specs.Outs.{outs_from}

pub outs_more : (out : List Bool) (first i : ℕ) (d x : Bool) → i < length out → get_or out i d ≡ x
    → outs_from first (take (suc i) out) ≡ outs_from first (take i out) ++ (if x then (first + i) ∷ [] else [])
outs_more [] first i d x below is = absurd (omega arith)
outs_more (true ∷ rest) first zero d x below is = let none : first + 0 ≡ first = omega arith in rw (← is, none) refl
outs_more (false ∷ rest) first zero d x below is = rw (← is) refl
outs_more (true ∷ rest) first (suc i) d x below is =
    let next : first + suc i ≡ suc first + i = omega arith in
    rw next (ap (λ outs. first ∷ outs) (outs_more rest (suc first) i d x (omega arith) is))
outs_more (false ∷ rest) first (suc i) d x below is =
    let next : first + suc i ≡ suc first + i = omega arith in rw next (outs_more rest (suc first) i d x (omega arith) is)

pub out_too : (out : List Bool) (disk : ℕ) (d : Bool) (before after : List ℕ) → disk < length out → get_or out disk d ≡ true
    → before ≡ outs_from 0 (take disk out) → after ≡ before ++ disk ∷ [] → after ≡ outs_from 0 (take (disk + 1) out)
out_too out disk d before after below is before_is after_is =
    let none : 0 + disk ≡ disk = omega arith in
    let more : outs_from 0 (take (suc disk) out) ≡ outs_from 0 (take disk out) ++ (0 + disk) ∷ [] = outs_more out 0 disk d true below is in
    let more' : outs_from 0 (take (suc disk) out) ≡ outs_from 0 (take disk out) ++ disk ∷ [] = more ∙ ap (λ n. outs_from 0 (take disk out) ++ n ∷ []) none in
    rw add-one (after_is ∙ ap (λ outs. outs ++ disk ∷ []) before_is ∙ sym more')

pub not_out : (out : List Bool) (disk : ℕ) (d : Bool) (before : List ℕ) → disk < length out → get_or out disk d ≡ false
    → before ≡ outs_from 0 (take disk out) → before ≡ outs_from 0 (take (disk + 1) out)
not_out out disk d before below is before_is =
    rw add-one (before_is ∙ sym (append-nil (outs_from 0 (take disk out))) ∙ sym (outs_more out 0 disk d false below is))
