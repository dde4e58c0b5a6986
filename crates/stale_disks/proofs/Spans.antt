-- Spans among others, and disks among the first ones.
use Rattle.std.proofs.Common.{ℕ, suc, ◌≡◌, ◌≢◌, ◌⊎◌, ◌<◌, ◌≤◌, ◌+◌, ⊎_elim, inl, inr, refl, sym, ap, ◌∙◌, subst, arith, Bool, List, Some, length, get_or}
use Rattle.std.specs.Prelude.{Contains, slice_get, min, ◌↔◌}
use Rattle.std.proofs.lemmas.List.{get_or_default}
use Rattle.std.proofs.lemmas.Option.{get_or_from_slice_get, slice_get_within, slice_get-get_or}
use Rattle.std.proofs.lemmas.Bool.{cases_eq, cases_lt}
use Rattle.disk_set.specs.Outs.{is_out}
use Rattle.meta_objset.specs.declared.stale_spans.StaleSpan.{StaleSpan}
use Rattle.meta_objset.specs.StaleSpans.{AreStaleSpans, LacksDisk}
use Rattle.stale_disks.specs.Rules.{IsOfDisk, IsOfFirst, LacksFrom}

-- what stands for a row where there is none
abbrev pub no_span : StaleSpan
no_span = record { disk = 0; from = 0; to = 0 }

abbrev pub disk_of : StaleSpan → ℕ
disk_of span = span.disk

-- ---- one among the first

abbrev pub IsAmong : {X : Type 0} → ℕ → List X → X → Type 0
IsAmong {X} n xs x = (k : ℕ) × (k < n) × (slice_get xs k ≡ Some x)

pub among_all : {X : Type 0} (xs : List X) (n : ℕ) (x : X) → IsAmong n xs x → Contains xs x
among_all xs n x (k, below, is) = (k, slice_get_within xs k x is, get_or_from_slice_get xs k x x is)

pub all_among : {X : Type 0} (xs : List X) (n : ℕ) (x : X) → length xs ≤ n → Contains xs x → IsAmong n xs x
all_among xs n x long (k, within, is) = (k, omega (arith, within, long), slice_get-get_or xs k x within ∙ ap Some is)

pub among_more : {X : Type 0} (xs : List X) (n : ℕ) (x y : X) → slice_get xs n ≡ Some y → IsAmong (n + 1) xs x → IsAmong n xs x ⊎ (x ≡ y)
among_more xs n x y at (k, below, is) = elim (cases_eq k n) [
  | inl same ↦ inr (let one : Some x ≡ Some y = sym is ∙ ap (slice_get xs) same ∙ at in cc)
  | inr other ↦ inl (k, omega (arith, below, other), is)
]

pub among_still : {X : Type 0} (xs : List X) (n : ℕ) (x : X) → IsAmong n xs x → IsAmong (n + 1) xs x
among_still xs n x (k, below, is) = (k, omega (arith, below), is)

pub among_next : {X : Type 0} (xs : List X) (n : ℕ) (y : X) → slice_get xs n ≡ Some y → IsAmong (n + 1) xs y
among_next xs n y at = (n, omega arith, at)

-- ---- spans in their order

-- a disk has one span
pub same_span : (rows : List StaleSpan) (one other : StaleSpan) → AreStaleSpans rows → Contains rows one → Contains rows other → one.disk ≡ other.disk → one ≡ other
same_span rows one other are (i, i_in, i_is) (k, k_in, k_is) same = elim (cases_eq i k) [
  | inl at ↦ sym i_is ∙ get_or_default rows i one other i_in ∙ ap (λ n. get_or rows n other) at ∙ k_is
  | inr apart ↦ elim (cases_lt i k) [
    | inl less ↦ absurd (
        let before = are.order i k one less k_in in
        let first = ap disk_of i_is in
        let second = ap disk_of (get_or_default rows k one other k_in ∙ k_is) in omega (arith, before, first, second, same))
    | inr more ↦ absurd (
        let before = are.order k i one (omega (arith, more, apart)) i_in in
        let first = ap disk_of i_is in
        let second = ap disk_of (get_or_default rows k one other k_in ∙ k_is) in omega (arith, before, first, second, same))
  ]
]

-- two of the first so many rows are of two disks
pub rows_apart : (rows : List StaleSpan) (n : ℕ) (row other : StaleSpan) → AreStaleSpans rows → slice_get rows n ≡ Some row → IsAmong n rows other → other.disk ≢ row.disk
rows_apart rows n row other are at (k, below, is) same =
    let within = slice_get_within rows n row at in
    let before = are.order k n row below within in
    let first = ap disk_of (get_or_from_slice_get rows k other row is) in
    let second = ap disk_of (get_or_from_slice_get rows n row row at) in omega (arith, before, first, second, same)

-- ---- disks

pub first_of_all : (guids : List ℕ) (out : List Bool) (is : Bool) (guid n : ℕ) → IsOfFirst n guids out is guid → IsOfDisk guids out is guid
first_of_all guids out is guid n (disk, below, has, marked) = (disk, has, marked)

pub all_of_first : (guids : List ℕ) (out : List Bool) (is : Bool) (guid n : ℕ) → length guids ≤ n → IsOfDisk guids out is guid → IsOfFirst n guids out is guid
all_of_first guids out is guid n long (disk, has, marked) = (disk, omega (arith, slice_get_within guids disk guid has, long), has, marked)

pub first_more : (guids : List ℕ) (out : List Bool) (is : Bool) (guid n : ℕ) → IsOfFirst n guids out is guid → IsOfFirst (n + 1) guids out is guid
first_more guids out is guid n (disk, below, has, marked) = (disk, omega (arith, below), has, marked)

pub first_cases : (guids : List ℕ) (out : List Bool) (is : Bool) (guid n : ℕ) → IsOfFirst (n + 1) guids out is guid
    → IsOfFirst n guids out is guid ⊎ ((slice_get guids n ≡ Some guid) × (is_out out n ≡ is))
first_cases guids out is guid n (disk, below, has, marked) = elim (cases_eq disk n) [
  | inl at ↦ inr (subst (λ k. slice_get guids k ≡ Some guid) at has, subst (λ k. is_out out k ≡ is) at marked)
  | inr other ↦ inl (disk, omega (arith, below, other), has, marked)
]

lacks : (before : List StaleSpan) (guid : ℕ) (span : StaleSpan) → LacksDisk before guid → Contains before span → span.disk ≡ guid → ⊥
lacks before guid span none (k, within, is) of = none k span within (ap disk_of is ∙ of)

-- from when on a disk lacks blocks is one group
pub lacks_once : (before : List StaleSpan) (guid group one other : ℕ) → AreStaleSpans before → LacksFrom before guid group one → LacksFrom before guid group other → one ≡ other
lacks_once before guid group one other are (inl (none, is)) (inl (lacking, also)) = is ∙ sym also
lacks_once before guid group one other are (inl (none, is)) (inr (span, held, of, also)) = absurd (lacks before guid span none held of)
lacks_once before guid group one other are (inr (span, held, of, is)) (inl (none, also)) = absurd (lacks before guid span none held of)
lacks_once before guid group one other are (inr (span, held, of, is)) (inr (row, has, its, also)) =
    is ∙ ap (λ (s : StaleSpan). min s.from group) (same_span before span row are held has (of ∙ sym its)) ∙ sym also
