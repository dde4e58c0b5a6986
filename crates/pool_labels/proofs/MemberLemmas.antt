-- Which disk is which child.
use Rattle.std.proofs.Common.{◌≡◌, inl, inr, ◌<◌, ◌≤◌, ◌∙◌, ℕ, ◌+◌, List, [], ◌∷◌, ◌++◌, length, slice_get, Option, Some, None, refl, sym, subst, arith}
use Rattle.std.specs.Prelude.{Vec}
use Rattle.std.specs.declared.alloc.Global.{Global}
use Rattle.std.proofs.lemmas.Bool.{cases_lt}
use Rattle.std.proofs.lemmas.List.{length-append}
use Rattle.std.proofs.lemmas.Option.{slice_get_within}
use Rattle.vdev_label.specs.Plain.{PlainVdev}
use Rattle.pool_labels.specs.Choices.{AreAllMembers, AreEnough, AreMembers, IsMember, IsPresent, IsPresentAs, IsUsable, absent_count}
use Rattle.pool_labels.specs.declared.scanned.Reading.{Reading}
use Rattle.pool_labels.specs.declared.scanned.Reading.TheVariants.{Valid, Bad, Unreadable}
use Rattle.pool_labels.specs.declared.scanned.Scan.{Scan}
use Rattle.pool_labels.specs.declared.scanned.ScannedLabel.{ScannedLabel}
use Rattle.pool_labels.proofs.Lists.{NoneTo, none_all, push_cases, same_at}

-- ---- one child

present_by : (scan : Scan) (sectors guid i : ℕ) (s : ScannedLabel) (r : Reading) → slice_get scan.labels.items i ≡ Some s → s.reading ≡ r → IsPresentAs scan.disks.items sectors guid s.disk r
    → IsPresent scan sectors guid s.disk
present_by scan sectors guid i s (Valid l) at is it = record { i = i; s = s; l = l; at = record { at = at; valid = is }; disk = refl; named = it.0; usable = it.1 }
present_by scan sectors guid i s (Bad b) at is it = absurd it
present_by scan sectors guid i s Unreadable at is it = absurd it

pub member_found : (scan : Scan) (sectors guid i : ℕ) (s : ScannedLabel) → slice_get scan.labels.items i ≡ Some s → IsPresentAs scan.disks.items sectors guid s.disk s.reading
    → IsMember scan sectors guid (Some s.disk)
member_found scan sectors guid i s at it = present_by scan sectors guid i s s.reading at refl it

pub member_none : (scan : Scan) (sectors guid n : ℕ) → length scan.labels.items ≤ n → NoneTo (λ s. IsPresentAs scan.disks.items sectors guid s.disk s.reading) scan.labels.items n
    → IsMember scan sectors guid None
member_none scan sectors guid n le none = λ which it.
    let P : Reading → Type 0 = IsPresentAs scan.disks.items sectors guid it.s.disk in
    let Q : ℕ → Type 0 = IsUsable scan.disks.items sectors in
    none_all (λ s. IsPresentAs scan.disks.items sectors guid s.disk s.reading) scan.labels.items n le none it.i it.s it.at.at (subst P (sym it.at.valid) (it.named, subst Q (sym it.disk) it.usable))

-- ---- those of a vdev

pub record MembersTo (scan : Scan) (sectors : ℕ) (children : List ℕ) (n : ℕ) (found : List (Option ℕ)) : Type 0 where
  pub count : length found ≡ n
  pub each : (k guid : ℕ) (m : Option ℕ) → slice_get children k ≡ Some guid → slice_get found k ≡ Some m → IsMember scan sectors guid m

num_same : (xs : List ℕ) (i j x y : ℕ) → i ≡ j → slice_get xs i ≡ Some x → slice_get xs j ≡ Some y → x ≡ y
num_same xs i j x y e at there = same_at xs i j x y e at there

pub members_next : (scan : Scan) (sectors : ℕ) (children : List ℕ) (n : ℕ) (found : List (Option ℕ)) (guid : ℕ) (m : Option ℕ) → MembersTo scan sectors children n found
    → slice_get children n ≡ Some guid → IsMember scan sectors guid m → MembersTo scan sectors children (n + 1) (found ++ m ∷ [])
members_next scan sectors children n found guid m to at it =
    record {
      count = length-append found (m ∷ []) ∙ omega (arith, to.count);
      each = λ k other o there e. elim (push_cases found m o k e) [
        | inl before ↦ to.each k other o there before
        | inr last ↦
            let P : Option ℕ → Type 0 = IsMember scan sectors other in
            let Q : ℕ → Type 0 = λ g. IsMember scan sectors g m in
            subst P last.1 (subst Q (num_same children n k guid other (sym to.count ∙ sym last.0) at there) it)
      ];
    }

pub members_done : (scan : Scan) (v : PlainVdev) (n : ℕ) (found : List (Option ℕ)) → n ≡ length v.children → MembersTo scan v.child_sectors v.children n found → AreMembers scan v found
members_done scan v n found e to = record { count = to.count ∙ e; each = to.each }

-- ---- those of all vdevs

pub record AllMembersTo (scan : Scan) (vdevs : List PlainVdev) (n : ℕ) (all : List (Vec (Option ℕ) Global)) : Type 0 where
  pub count : length all ≡ n
  pub each : (k : ℕ) (v : PlainVdev) (found : Vec (Option ℕ) Global) → slice_get vdevs k ≡ Some v → slice_get all k ≡ Some found → AreMembers scan v found.items

pub all_members_next : (scan : Scan) (vdevs : List PlainVdev) (n : ℕ) (all : List (Vec (Option ℕ) Global)) (v : PlainVdev) (found : Vec (Option ℕ) Global) → AllMembersTo scan vdevs n all
    → slice_get vdevs n ≡ Some v → AreMembers scan v found.items → AllMembersTo scan vdevs (n + 1) (all ++ found ∷ [])
all_members_next scan vdevs n all v found to at it =
    record {
      count = length-append all (found ∷ []) ∙ omega (arith, to.count);
      each = λ k w other there e. elim (push_cases all found other k e) [
        | inl before ↦ to.each k w other there before
        | inr last ↦
            let P : Vec (Option ℕ) Global → Type 0 = λ x. AreMembers scan w x.items in
            let Q : PlainVdev → Type 0 = λ x. AreMembers scan x found.items in
            subst P last.1 (subst Q (same_at vdevs n k v w (sym to.count ∙ sym last.0) at there) it)
      ];
    }

pub all_members_done : (scan : Scan) (vdevs : List PlainVdev) (n : ℕ) (all : List (Vec (Option ℕ) Global)) → n ≡ length vdevs → AllMembersTo scan vdevs n all → AreAllMembers scan vdevs all
all_members_done scan vdevs n all e to = record { count = to.count ∙ e; each = to.each }

-- ---- enough of them

abbrev pub EnoughTo : List PlainVdev → List (Vec (Option ℕ) Global) → ℕ → Type 0
EnoughTo vdevs all n =
    (k : ℕ) (v : PlainVdev) (found : Vec (Option ℕ) Global) → k < n → slice_get vdevs k ≡ Some v → slice_get all k ≡ Some found → absent_count found.items ≤ v.parity

pub enough_next : (vdevs : List PlainVdev) (all : List (Vec (Option ℕ) Global)) (n : ℕ) (v : PlainVdev) (found : Vec (Option ℕ) Global) → EnoughTo vdevs all n → slice_get vdevs n ≡ Some v
    → slice_get all n ≡ Some found → absent_count found.items ≤ v.parity → EnoughTo vdevs all (n + 1)
enough_next vdevs all n v found to at here le k w other below there e =
    elim (cases_lt k n) [
      | inl less ↦ to k w other less there e
      | inr last ↦
          let same : n ≡ k = omega (arith, below, last) in
          let P : Vec (Option ℕ) Global → Type 0 = λ x. absent_count x.items ≤ w.parity in
          let Q : PlainVdev → Type 0 = λ x. absent_count found.items ≤ x.parity in
          subst P (same_at all n k found other same here e) (subst Q (same_at vdevs n k v w same at there) le)
    ]

pub enough_all : (vdevs : List PlainVdev) (all : List (Vec (Option ℕ) Global)) (n : ℕ) → length all ≤ n → EnoughTo vdevs all n → AreEnough vdevs all
enough_all vdevs all n le to k v found at there = to k v found (omega (arith, le, slice_get_within all k found there)) at there
