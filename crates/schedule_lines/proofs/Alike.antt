-- Bytes that are all alike.
use Rattle.std.proofs.Common.{◌≡◌, ◌≢◌, ℕ, zero, suc, ◌+◌, ◌<◌, Bool, true, false, cond, nat_eq, List, [], ◌∷◌, length, get_or, replicate, refl, sym, ap, ◌∙◌, arith}
use Rattle.std.specs.List.{prefix_len}
use Rattle.std.proofs.lemmas.Bool.{eqb-true, eq-eqb}
use Rattle.std.proofs.lemmas.List.{length-replicate}
use Rattle.std.proofs.lemmas.List.Folds.{prefix_len-replicate}

abbrev equals : ℕ → ℕ → Bool
equals byte b = nat_eq b byte

-- as many in front as there are
alike_onto : (t : Bool) (byte b n : ℕ) (bytes : List ℕ) → equals byte b ≡ t → cond t (1 + n) 0 ≡ suc (length bytes) → (n ≡ length bytes → bytes ≡ replicate (length bytes) byte)
    → b ∷ bytes ≡ replicate (suc (length bytes)) byte
alike_onto true byte b n bytes e all rest =
    ap (λ (x : ℕ). x ∷ bytes) (eqb-true b byte e) ∙ ap (λ (xs : List ℕ). byte ∷ xs) (rest (omega (arith, all)))
alike_onto false byte b n bytes e all rest = absurd (omega (arith, all))

pub all_alike : (byte : ℕ) (bytes : List ℕ) → prefix_len (equals byte) bytes ≡ length bytes → bytes ≡ replicate (length bytes) byte
all_alike byte [] all = refl
all_alike byte (b ∷ bytes) all = alike_onto (equals byte b) byte b (prefix_len (equals byte) bytes) bytes refl all (all_alike byte bytes)

-- bytes that are all alike are all like the first one
same_first : (byte other count : ℕ) (bytes : List ℕ) → 0 < length bytes → get_or bytes 0 0 ≡ byte → bytes ≡ replicate count other → byte ≡ other
same_first byte other zero bytes some first e = absurd (omega (arith, ap (λ (xs : List ℕ). length xs) e))
same_first byte other (suc count) bytes some first e = sym first ∙ ap (λ (xs : List ℕ). get_or xs 0 0) e

pub none_alike : (byte : ℕ) (bytes : List ℕ) → 0 < length bytes → get_or bytes 0 0 ≡ byte → prefix_len (equals byte) bytes ≢ length bytes
    → (count other : ℕ) → bytes ≢ replicate count other
none_alike byte bytes some first fewer count other e =
    let same : byte ≡ other = same_first byte other count bytes some first e in
    let mine : bytes ≡ replicate count byte = e ∙ ap (λ (b : ℕ). replicate count b) (sym same) in
    fewer (ap (prefix_len (equals byte)) mine ∙ prefix_len-replicate (equals byte) count byte (eq-eqb byte byte refl) ∙ sym (length-replicate count byte) ∙ sym (ap (λ (xs : List ℕ). length xs) mine))
