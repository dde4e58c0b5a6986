-- One row or one disk more.
use Rattle.std.proofs.Common.{ℕ, ◌≡◌, ◌≢◌, ◌⊎◌, ◌≤◌, ◌+◌, length, inl, inr, refl, sym, ap, ◌∙◌, subst, arith, Bool, true, List, Some}
use Rattle.std.specs.Prelude.{◌↔◌, Contains, slice_get}
use Rattle.std.proofs.lemmas.Bool.{cases_eq}
use Rattle.disk_set.specs.Outs.{is_out}
use Rattle.meta_objset.specs.declared.stale_spans.StaleSpan.{StaleSpan}
use Rattle.meta_objset.specs.StaleSpans.{AreStaleSpans, IsWithSpan}
use Rattle.stale_disks.specs.Rules.{IsOfDisk, IsOfFirst, LacksFrom, no_end}
use Rattle.stale_disks.proofs.Spans.{IsAmong, all_among, among_all, among_more, among_next, among_still, first_cases, first_more, lacks_once, rows_apart}

-- ---- rows that are taken over, one behind the other, some of them changed

-- the spans are what the first so many rows come to
abbrev pub AreMade : (StaleSpan → StaleSpan → Type 0) → ℕ → List StaleSpan → List StaleSpan → Type 0
AreMade To n rows spans = (span : StaleSpan) → Contains spans span ↔ ((row : StaleSpan) × IsAmong n rows row × To row span)

-- a row comes to at most one span, of the same disk
pub record IsOne (To : StaleSpan → StaleSpan → Type 0) : Type 0 where
  pub disk : (row span : StaleSpan) → To row span → span.disk ≡ row.disk
  pub once : (row one other : StaleSpan) → To row one → To row other → one ≡ other

pub made_more : (To : StaleSpan → StaleSpan → Type 0) (n : ℕ) (rows old new : List StaleSpan) (row made : StaleSpan) → IsOne To → AreStaleSpans rows → slice_get rows n ≡ Some row
    → To row made → IsWithSpan old made new → AreMade To n rows old → AreMade To (n + 1) rows new
made_more To n rows old new row made one are at to set so_far span = (
  λ held. elim ((set span).0 held) [
    | inl (was, apart) ↦ let it = (so_far span).0 was in (it.0, among_still rows n it.0 it.1, it.2)
    | inr is ↦ (row, among_next rows n row at, subst (To row) (sym is) to)
  ],
  λ it. elim (among_more rows n it.0 row at it.1) [
    | inl earlier ↦ (set span).1 (inl (
      (so_far span).1 (it.0, earlier, it.2),
      λ same. rows_apart rows n row it.0 are at earlier (sym (one.disk it.0 span it.2) ∙ same ∙ one.disk row made to),
    ))
    | inr is ↦ (set span).1 (inr (one.once row span made (subst (λ (r : StaleSpan). To r span) is it.2) to))
  ],
)

pub made_none : (To : StaleSpan → StaleSpan → Type 0) (n : ℕ) (rows old : List StaleSpan) (row : StaleSpan) → slice_get rows n ≡ Some row
    → ((span : StaleSpan) → ¬ To row span) → AreMade To n rows old → AreMade To (n + 1) rows old
made_none To n rows old row at none so_far span = (
  λ held. let it = (so_far span).0 held in (it.0, among_still rows n it.0 it.1, it.2),
  λ it. elim (among_more rows n it.0 row at it.1) [
    | inl earlier ↦ (so_far span).1 (it.0, earlier, it.2)
    | inr is ↦ absurd (none span (subst (λ (r : StaleSpan). To r span) is it.2))
  ],
)

pub made_all : (To : StaleSpan → StaleSpan → Type 0) (n : ℕ) (rows before spans : List StaleSpan) → rows ≡ before → length rows ≤ n → AreMade To n rows spans
    → (span : StaleSpan) → Contains spans span ↔ ((row : StaleSpan) × Contains before row × To row span)
made_all To n rows before spans same long so_far span = (
  λ held. let it = (so_far span).0 held in (it.0, subst (λ (them : List StaleSpan). Contains them it.0) same (among_all rows n it.0 it.1), it.2),
  λ it. (so_far span).1 (it.0, all_among rows n it.0 long (subst (λ (them : List StaleSpan). Contains them it.0) (sym same) it.1), it.2),
)

-- ---- disks that are out, one behind the other

-- each of the first so many disks that is out has a span without an end, and the others have those before
abbrev pub AreAway : ℕ → List ℕ → List Bool → ℕ → List StaleSpan → List StaleSpan → Type 0
AreAway n guids out group before after = (span : StaleSpan)
    → Contains after span
    ↔ ((IsOfFirst n guids out true span.disk × (span.to ≡ no_end) × LacksFrom before span.disk group span.from)
    ⊎ ((¬ IsOfDisk guids out true span.disk) × Contains before span))

span_of : ℕ → ℕ → ℕ → StaleSpan
span_of disk from to = record { disk = disk; from = from; to = to }

same_parts : (one other : StaleSpan) → one.disk ≡ other.disk → one.from ≡ other.from → one.to ≡ other.to → one ≡ other
unfolding span_of
same_parts one other disk from to =
    ap (λ d. span_of d one.from one.to) disk ∙ ap (λ f. span_of other.disk f one.to) from ∙ ap (λ t. span_of other.disk other.from t) to

pub away_more : (n : ℕ) (guids : List ℕ) (out : List Bool) (group : ℕ) (before old new : List StaleSpan) (guid : ℕ) (made : StaleSpan) → AreStaleSpans before
    → slice_get guids n ≡ Some guid → is_out out n ≡ true → made.disk ≡ guid → made.to ≡ no_end → LacksFrom before guid group made.from → IsWithSpan old made new
    → AreAway n guids out group before old → AreAway (n + 1) guids out group before new
away_more n guids out group before old new guid made are at marked disk to from set so_far span = (
  λ held. elim ((set span).0 held) [
    | inl (was, apart) ↦ elim ((so_far span).0 was) [
      | inl (first, end, since) ↦ inl (first_more guids out true span.disk n first, end, since)
      | inr other ↦ inr other
    ]
    | inr is ↦ subst (λ (s : StaleSpan). (IsOfFirst (n + 1) guids out true s.disk × (s.to ≡ no_end) × LacksFrom before s.disk group s.from)
        ⊎ ((¬ IsOfDisk guids out true s.disk) × Contains before s)) (sym is)
        (inl (subst (λ (g : ℕ). IsOfFirst (n + 1) guids out true g) (sym disk) here, to, subst (λ (g : ℕ). LacksFrom before g group made.from) (sym disk) from))
  ],
  λ it. elim (cases_eq span.disk guid) [
    | inl same ↦ elim it [
      | inl (first, end, since) ↦ (set span).1 (inr (same_parts span made (same ∙ sym disk)
          (lacks_once before guid group span.from made.from are (subst (λ (g : ℕ). LacksFrom before g group span.from) same since) from) (end ∙ sym to)))
      | inr (none, held) ↦ absurd (none (subst (λ (g : ℕ). IsOfDisk guids out true g) (sym same) (n, at, marked)))
    ]
    | inr apart ↦ (set span).1 (inl (
      (so_far span).1 (elim it [
        | inl (first, end, since) ↦ elim (first_cases guids out true span.disk n first) [
          | inl earlier ↦ inl (earlier, end, since)
          | inr (has, is) ↦ absurd (apart (let one : Some span.disk ≡ Some guid = sym has ∙ at in cc))
        ]
        | inr other ↦ inr other
      ]),
      λ same. apart (same ∙ disk),
    ))
  ],
)
  where
    here : IsOfFirst (n + 1) guids out true guid
    here = (n, omega arith, at, marked)

pub away_none : (n : ℕ) (guids : List ℕ) (out : List Bool) (group : ℕ) (before old : List StaleSpan) → ¬ (is_out out n ≡ true)
    → AreAway n guids out group before old → AreAway (n + 1) guids out group before old
away_none n guids out group before old not so_far span = (
  λ held. elim ((so_far span).0 held) [
    | inl (first, end, since) ↦ inl (first_more guids out true span.disk n first, end, since)
    | inr other ↦ inr other
  ],
  λ it. (so_far span).1 (elim it [
    | inl (first, end, since) ↦ elim (first_cases guids out true span.disk n first) [
      | inl earlier ↦ inl (earlier, end, since)
      | inr (has, is) ↦ absurd (not is)
    ]
    | inr other ↦ inr other
  ]),
)
