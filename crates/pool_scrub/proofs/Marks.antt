-- Marks of disks, one after the other.
use Rattle.std.proofs.Common.{ℕ, zero, suc, ◌≡◌, ◌≢◌, ◌<◌, ◌≤◌, ◌+◌, inl, inr, ◌↔◌, Bool, true, false, Some, List, [], ◌∷◌, ◌++◌, length, Contains, get_or, length-append, refl, sym, ap, subst, ◌∙◌, arith}
use Rattle.std.specs.List.{slice_get}
use Rattle.std.proofs.lemmas.Bool.{cases_lt}
use Rattle.std.proofs.lemmas.Option.{slice_get-get_or, slice_get_within}
use Rattle.block_store.specs.Store.{is_out}
use Rattle.scrub_resilver.specs.declared.fault.Finding.{Finding}
use Rattle.pool_scrub.specs.Counting.{IsClean}

-- nothing was found of the disk among the first findings
abbrev pub IsCleanBelow : ℕ → List Finding → ℕ → Type 0
IsCleanBelow n left disk = (at : ℕ) (one : Finding) → at < n → slice_get left at ≡ Some one → one.disk ≢ disk

same_some : {X : Type 0} (x y : X) → Some x ≡ Some y → x ≡ y
same_some x y same = cc

-- so it is of one more
pub clean_more : (n disk : ℕ) (left : List Finding) (d : Finding) → IsCleanBelow n left disk → n < length left → (get_or left n d).disk ≢ disk
    → IsCleanBelow (n + 1) left disk
clean_more n disk left d clean within apart at one below is =
    elim (cases_lt at n) [
      | inl before ↦ clean at one before is
      | inr behind ↦
          let last : n ≡ at = omega arith in
          let here : slice_get left n ≡ Some (get_or left n d) = slice_get-get_or left n d within in
          let same : get_or left n d ≡ one = same_some _ _ (sym here ∙ ap (λ k. slice_get left k) last ∙ is) in
          λ other. apart (ap (λ (f : Finding). f.disk) same ∙ other)
    ]

pub clean_all : (n disk : ℕ) (left : List Finding) → length left ≤ n → IsCleanBelow n left disk → IsClean left disk
clean_all n disk left all clean at one is = clean at one (omega (arith, slice_get_within left at one is)) is

-- one that is found
pub not_clean : (n disk : ℕ) (left : List Finding) (d : Finding) → n < length left → (get_or left n d).disk ≡ disk → ¬ IsClean left disk
not_clean n disk left d within is clean = clean n (get_or left n d) (slice_get-get_or left n d within) is

-- the mark behind others
mark_before : (marks : List Bool) (b : Bool) (disk : ℕ) → disk < length marks → is_out (marks ++ b ∷ []) disk ≡ is_out marks disk
mark_before [] b disk within = absurd (omega arith)
mark_before (mark ∷ marks) b zero within = refl
mark_before (mark ∷ marks) b (suc disk) within = mark_before marks b disk (omega arith)

mark_here : (marks : List Bool) (b : Bool) → is_out (marks ++ b ∷ []) (length marks) ≡ b
mark_here [] b = refl
mark_here (mark ∷ marks) b = mark_here marks b

-- the first disks are marked right
pub record AreWholeBelow (n : ℕ) (out : List Bool) (left : List Finding) (unflushed : List ℕ) (whole : List Bool) : Type 0 where
  pub count : length whole ≡ n
  pub marked : (disk : ℕ) → disk < n → (is_out whole disk ≡ true)
      ↔ ((is_out out disk ≡ false) × IsClean left disk × (¬ Contains unflushed disk))

pub whole_more : (n : ℕ) (out : List Bool) (left : List Finding) (unflushed : List ℕ) (whole : List Bool) (b : Bool) → AreWholeBelow n out left unflushed whole
    → (b ≡ true) ↔ ((is_out out n ≡ false) × IsClean left n × (¬ Contains unflushed n)) → AreWholeBelow (n + 1) out left unflushed (whole ++ b ∷ [])
whole_more n out left unflushed whole b are is = record {
  count = omega (arith, length-append whole (b ∷ []), are.count);
  marked = λ disk below. elim (cases_lt disk n) [
    | inl before ↦
        let same : is_out (whole ++ b ∷ []) disk ≡ is_out whole disk = mark_before whole b disk (omega (arith, are.count)) in (
          λ yes. (are.marked disk before).0 (sym same ∙ yes),
          λ held. same ∙ (are.marked disk before).1 held,
        )
    | inr behind ↦
        let last : disk ≡ length whole = omega (arith, are.count) in
        let here : is_out (whole ++ b ∷ []) disk ≡ b = ap (λ d. is_out (whole ++ b ∷ []) d) last ∙ mark_here whole b in
        let number : n ≡ disk = omega (arith, are.count) in
        subst (λ d. (is_out (whole ++ b ∷ []) disk ≡ true) ↔ ((is_out out d ≡ false) × IsClean left d × (¬ Contains unflushed d))) number (
          λ yes. is.0 (sym here ∙ yes),
          λ held. here ∙ is.1 held,
        )
  ];
}
