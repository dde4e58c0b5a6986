-- Disks whose labels don't show four different configurations: a label shows nothing, or two show one.
use Rattle.std.proofs.Common.{◌≡◌, ◌⊎◌, inl, inr, ⊎_elim, ◌∙◌, ◌<◌, ℕ, zero, suc, List, [], ◌∷◌, length, get_or, Option, Some, None, refl, sym, arith}
use Rattle.vdev_label.specs.Plain.{PlainLabel}
use Rattle.pool_slots.specs.Configs.{ShowsFour}
use Rattle.pool_slots.specs.Labels.{AreShownAs, IsLabelShown, Keeps}
use Rattle.pool_slots.specs.Shown.{At, IsBlank}
use Rattle.pool_slots.specs.declared.labeled.Shown.{Shown}
use Rattle.pool_slots.proofs.Choices.{HasTwo}
use Rattle.pool_slots.proofs.LabelPlans.{shown_at}
use Rattle.pool_slots.proofs.Places.{same_or_not}

same_list_or : (xs ys : List ℕ) → (xs ≡ ys) ⊎ (¬ (xs ≡ ys))
same_list_or [] [] = inl refl
same_list_or [] (y ∷ ys) = inr (λ same. absurd cc)
same_list_or (x ∷ xs) [] = inr (λ same. absurd cc)
same_list_or (x ∷ xs) (y ∷ ys) = ⊎_elim
    (λ head. ⊎_elim (λ tail. inl (λ i. head i ∷ tail i)) (λ other. inr (λ same. other cc)) (same_list_or xs ys))
    (λ other. inr (λ same. other cc))
    (same_or_not x y)

blank_case : (shown : List (Option Shown)) (k : ℕ) (o : Option Shown) → k < length shown → get_or shown k None ≡ o → IsBlank shown k ⊎ ((s : Shown) × At shown k s)
blank_case shown k None below is = inl (below, is)
blank_case shown k (Some s) below is = inr (s, is)

-- one of four
abbrev pick : {X : Type 0} → X → X → X → X → ℕ → X
pick a b c d zero = a
pick a b c d (suc zero) = b
pick a b c d (suc (suc zero)) = c
pick a b c d (suc (suc (suc k))) = d

all_four : (P : ℕ → Type 0) → P 0 → P 1 → P 2 → P 3 → (k : ℕ) → k < 4 → P k
all_four P a b c d zero below = a
all_four P a b c d (suc zero) below = b
all_four P a b c d (suc (suc zero)) below = c
all_four P a b c d (suc (suc (suc zero))) below = d
all_four P a b c d (suc (suc (suc (suc k)))) below = absurd (omega (arith, below))

all_six : (P : ℕ → ℕ → Type 0) → P 0 1 → P 0 2 → P 0 3 → P 1 2 → P 1 3 → P 2 3 → (a b : ℕ) → a < b → b < 4 → P a b
all_six P x y z u v w zero zero less below = absurd (omega (arith, less))
all_six P x y z u v w zero (suc zero) less below = x
all_six P x y z u v w zero (suc (suc zero)) less below = y
all_six P x y z u v w zero (suc (suc (suc zero))) less below = z
all_six P x y z u v w (suc zero) zero less below = absurd (omega (arith, less))
all_six P x y z u v w (suc zero) (suc zero) less below = absurd (omega (arith, less))
all_six P x y z u v w (suc zero) (suc (suc zero)) less below = u
all_six P x y z u v w (suc zero) (suc (suc (suc zero))) less below = v
all_six P x y z u v w (suc (suc zero)) (suc (suc (suc zero))) less below = w
all_six P x y z u v w a b less below = absurd (omega (arith, less, below))

-- labels with these digests, each another one
abbrev differs : (ℕ → Shown) → ℕ → ℕ → Type 0
differs s a b = ¬ ((s a).config_digest ≡ (s b).config_digest)

four_shown : (size : ℕ) (held : ℕ → Option ℕ) (s : ℕ → Shown) (l : ℕ → PlainLabel) → ((k : ℕ) → k < 4 → IsLabelShown size held k (l k))
    → ((k : ℕ) → k < 4 → Keeps (l k) (s k)) → ((a b : ℕ) → a < b → b < 4 → differs s a b) → ShowsFour size held
four_shown size held s l shown keeps apart = record {
  label = l;
  shown = shown;
  apart = λ a b less below same. apart a b less below ((keeps a (omega (arith, less, below))).1 ∙ same ∙ sym (keeps b below).1);
}

-- two that show one configuration are found, or there are none
decide : (shown : List (Option Shown)) (s : ℕ → Shown) → ((k : ℕ) → k < 4 → At shown k (s k)) → (a b : ℕ) → a < b → b < 4 → (differs s a b → HasTwo shown) → HasTwo shown
decide shown s at a b less below rest = ⊎_elim
    (λ same. record {
      j = a;
      k = b;
      s = s a;
      t = s b;
      at = at a (omega (arith, less, below));
      also = at b below;
      other = λ one. absurd (omega (arith, one, less));
      same = same;
    })
    rest (same_list_or (s a).config_digest (s b).config_digest)

-- where all four show something two of them show one configuration
twins_of : (size : ℕ) (held : ℕ → Option ℕ) (shown : List (Option Shown)) (s : ℕ → Shown) (l : ℕ → PlainLabel) → ((k : ℕ) → k < 4 → IsLabelShown size held k (l k))
    → ((k : ℕ) → k < 4 → Keeps (l k) (s k)) → ¬ ShowsFour size held → ((k : ℕ) → k < 4 → At shown k (s k)) → HasTwo shown
twins_of size held shown s l labels keeps four at =
    decide shown s at 0 1 (omega arith) (omega arith) (λ x. decide shown s at 0 2 (omega arith) (omega arith) (λ y.
    decide shown s at 0 3 (omega arith) (omega arith) (λ z. decide shown s at 1 2 (omega arith) (omega arith) (λ u.
    decide shown s at 1 3 (omega arith) (omega arith) (λ v. decide shown s at 2 3 (omega arith) (omega arith) (λ w.
    absurd (four (four_shown size held s l labels keeps (all_six (differs s) x y z u v w)))))))))

-- the whole
pub two_of : (size : ℕ) (held : ℕ → Option ℕ) (shown : List (Option Shown)) → AreShownAs size held shown → ¬ ShowsFour size held
    → ((k : ℕ) × IsBlank shown k) ⊎ HasTwo shown
two_of size held shown are four =
    let case : (k : ℕ) → k < 4 → IsBlank shown k ⊎ ((s : Shown) × At shown k s) = λ k low. blank_case shown k (get_or shown k None) (omega (arith, low, are.four)) refl in
    ⊎_elim (λ blank. inl (0, blank)) (λ a. ⊎_elim (λ blank. inl (1, blank)) (λ b. ⊎_elim (λ blank. inl (2, blank)) (λ c. ⊎_elim (λ blank. inl (3, blank)) (λ d.
    let i = shown_at size held shown 0 a.0 are a.1 in
    let j = shown_at size held shown 1 b.0 are b.1 in
    let k = shown_at size held shown 2 c.0 are c.1 in
    let m = shown_at size held shown 3 d.0 are d.1 in
    let s : ℕ → Shown = pick a.0 b.0 c.0 d.0 in
    let l : ℕ → PlainLabel = pick i.0 j.0 k.0 m.0 in
    inr (twins_of size held shown s l (all_four (λ n. IsLabelShown size held n (l n)) i.1 j.1 k.1 m.1) (all_four (λ n. Keeps (l n) (s n)) i.2 j.2 k.2 m.2) four
    (all_four (λ n. At shown n (s n)) a.1 b.1 c.1 d.1)))
    (case 3 (omega arith))) (case 2 (omega arith))) (case 1 (omega arith))) (case 0 (omega arith))
