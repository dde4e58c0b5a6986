-- The names of snapshots as volumes and parts.
use Rattle.std.proofs.Common.{◌≡◌, ◌≢◌, ℕ, Bool, true, false, true≢false, List, ◌∷◌, ◌++◌, length, take, drop, refl, sym, ap, ◌∙◌}
use Rattle.std.proofs.lemmas.List.{append_cancel_left, take-append-drop}
use Rattle.std.proofs.Math.Seq.{take-append_seam}
use Rattle.pool_model.specs.Names.{same, snapshot_name}
use Rattle.pool_model.proofs.Places.{is_same, same_is}

both_same : (a b : Bool) → (a ≡ true → b ≡ true) → (b ≡ true → a ≡ true) → a ≡ b
both_same true b up down = sym (up refl)
both_same false true up down = down refl
both_same false false up down = refl

tail_is : (x y : ℕ) (xs ys : List ℕ) → x ∷ xs ≡ y ∷ ys → xs ≡ ys
tail_is x y xs ys e = cc

pub part_is : (name volume part rest : List ℕ) → name ≡ volume ++ 64 ∷ rest → same rest part ≡ same (snapshot_name volume part) name
part_is name volume part rest e = both_same (same rest part) (same (snapshot_name volume part) name)
    (λ f. is_same (snapshot_name volume part) name (ap (λ xs. volume ++ 64 ∷ xs) (sym (same_is rest part f)) ∙ sym e))
    (λ f. is_same rest part (sym (tail_is 64 64 part rest (append_cancel_left volume (64 ∷ part) (64 ∷ rest) (same_is (snapshot_name volume part) name f ∙ e)))))

pub no_part : (name volume part : List ℕ) → ((rest : List ℕ) → name ≢ volume ++ 64 ∷ rest) → false ≡ same (snapshot_name volume part) name
no_part name volume part none = both_same false (same (snapshot_name volume part) name) (λ f. absurd (true≢false (sym f))) (λ f. absurd (none part (sym (same_is (snapshot_name volume part) name f))))

-- ---- what is behind the volume

pub front_is : (name volume behind : List ℕ) → same (take (length volume) name) volume ≡ true → behind ≡ drop (length volume) name → name ≡ volume ++ behind
front_is name volume behind e f = sym (take-append-drop (length volume) name) ∙ (ap (λ xs. xs ++ drop (length volume) name) (same_is (take (length volume) name) volume e) ∙ ap (λ xs. volume ++ xs) (sym f))

pub no_front : (name volume part : List ℕ) → same (take (length volume) name) volume ≡ false → false ≡ same (snapshot_name volume part) name
no_front name volume part e = no_part name volume part (λ rest f. absurd (true≢false (sym (is_same (take (length volume) name) volume (ap (take (length volume)) f ∙ take-append_seam volume (64 ∷ rest))) ∙ e)))

head_is : (x y : ℕ) (xs ys : List ℕ) → x ∷ xs ≡ y ∷ ys → x ≡ y
head_is x y xs ys e = cc

pub other_part : (name volume part behind rest : List ℕ) (first : ℕ) → name ≡ volume ++ behind → behind ≡ first ∷ rest → (first ≡ 64 → ⊥) → false ≡ same (snapshot_name volume part) name
other_part name volume part behind rest first e f none =
    no_part name volume part (λ more g. none (head_is first 64 rest more (sym f ∙ append_cancel_left volume behind (64 ∷ more) (sym e ∙ g))))
