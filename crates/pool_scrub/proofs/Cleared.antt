-- Whose spans are gone.
use Rattle.std.proofs.Common.{ℕ, zero, suc, ◌≡◌, ◌≢◌, ◌⊎◌, ◌==◌, inl, inr, Bool, true, false, Option, Some, None, List, [], ◌∷◌, Contains, AllPairs, get_or, refl, sym, ap, subst, ◌∙◌, arith}
use Rattle.std.specs.List.{slice_get, find}
use Rattle.std.specs.Prelude.{cond, option_map}
use Rattle.std.proofs.lemmas.Bool.{cases_lt}
use Rattle.std.proofs.lemmas.Bool.Decides.{Decides-eqb}
use Rattle.std.proofs.lemmas.Option.{get_or_from_slice_get, slice_get-get_or, slice_get_within}
use Rattle.block_store.specs.Store.{is_out, is_stale}
use Rattle.disk_set.specs.Outs.{is_in}
use Rattle.meta_objset.specs.StaleSpans.{AreStaleSpans}
use Rattle.meta_objset.specs.declared.stale_spans.StaleSpan.{StaleSpan}
use Rattle.stale_disks.specs.Rules.{AreSpansWithout, groups_of, stale_groups}
use Rattle.pool_scrub.specs.Scrubbing.{IsOneForEach}

same_some : {X : Type 0} (x y : X) → Some x ≡ Some y → x ≡ y
same_some x y same = cc

either : (b : Bool) → (b ≡ true) ⊎ (b ≡ false)
either true = inl refl
either false = inr refl

never : (b : Bool) → b ≡ true → b ≡ false → ⊥
never b is not = cc

there : {X : Type 0} (xs : List X) (x : X) → Contains xs x → (i : ℕ) × (slice_get xs i ≡ Some x)
there xs x (i, within, is) = (i, slice_get-get_or xs i x within ∙ ap (λ y. Some y) is)

-- ---- one for each

-- spans whose disks ascend have one for each
pub one_for_each : (spans : List StaleSpan) → AreStaleSpans spans → IsOneForEach spans
one_for_each spans are span other held held' same =
    let (i, at) = there spans span held in
    let (k, at') = there spans other held' in
    let here : get_or spans i span ≡ span = get_or_from_slice_get spans i span span at in
    let here' : get_or spans k span ≡ other = get_or_from_slice_get spans k other span at' in
    let disk : StaleSpan → ℕ = λ s. s.disk in
    elim (cases_lt i k) [
      | inl before ↦
          let less = are.order i k span before (slice_get_within spans k other at') in
          absurd (omega (arith, less, ap disk here, ap disk here', same))
      | inr not_before ↦ elim (cases_lt k i) [
        | inl behind ↦
            let less = are.order k i span behind (slice_get_within spans i span at) in
            absurd (omega (arith, less, ap disk here, ap disk here', same))
        | inr neither ↦
            let number : i ≡ k = omega (arith, not_before, neither) in
            same_some span other (sym at ∙ ap (λ (n : ℕ). slice_get spans n) number ∙ at')
      ]
    ]

-- a guid that no two disks have is one disk's
own_number : (guids : List ℕ) (guid disk other : ℕ) → AllPairs (λ one two. one ≢ two) guids → slice_get guids disk ≡ Some guid → slice_get guids other ≡ Some guid
    → other ≡ disk
own_number guids guid disk other own at at' =
    let here : get_or guids disk guid ≡ guid = get_or_from_slice_get guids disk guid guid at in
    let here' : get_or guids other guid ≡ guid = get_or_from_slice_get guids other guid guid at' in
    elim (cases_lt disk other) [
      | inl before ↦ absurd (own disk other guid before (slice_get_within guids other guid at') (here ∙ sym here'))
      | inr not_before ↦ elim (cases_lt other disk) [
        | inl behind ↦ absurd (own other disk guid behind (slice_get_within guids disk guid at) (here' ∙ sym here))
        | inr neither ↦ omega (arith, not_before, neither)
      ]
    ]

-- ---- found by a guid

-- what is found is there, and the guid's
found_span : (spans : List StaleSpan) (guid : ℕ) (span : StaleSpan) → find (λ s. s.disk == guid) spans ≡ Some span
    → Contains spans span × (span.disk ≡ guid)
found_span [] guid span is = absurd (cc)
found_span (first ∷ spans) guid span is = elim (either (first.disk == guid)) [
  | inl own ↦
      let same : first ≡ span =
      same_some first span (sym (ap (λ (b : Bool). cond b (Some first) (find (λ s. s.disk == guid) spans)) own) ∙ is) in
      ((0, omega arith, same), sym (ap (λ (s : StaleSpan). s.disk) same) ∙ (Decides-eqb first.disk guid).0 own)
  | inr other ↦
      let ((k, within, at), own) =
      found_span spans guid span (sym (ap (λ (b : Bool). cond b (Some first) (find (λ s. s.disk == guid) spans)) other) ∙ is) in
      ((suc k, omega (arith, within), at), own)
]

-- where one is there, one is found
is_found : (spans : List StaleSpan) (guid k : ℕ) (span : StaleSpan) → slice_get spans k ≡ Some span → span.disk ≡ guid
    → (first : StaleSpan) × (find (λ s. s.disk == guid) spans ≡ Some first)
is_found [] guid k span at own = absurd (cc)
is_found (first ∷ spans) guid zero span at own =
    let same : first.disk ≡ guid = ap (λ (s : StaleSpan). s.disk) (same_some first span at) ∙ own in
    (first, ap (λ (b : Bool). cond b (Some first) (find (λ s. s.disk == guid) spans)) ((Decides-eqb first.disk guid).1 same))
is_found (first ∷ spans) guid (suc k) span at own = elim (either (first.disk == guid)) [
  | inl is ↦ (first, ap (λ (b : Bool). cond b (Some first) (find (λ s. s.disk == guid) spans)) is)
  | inr is ↦
      let (one, found) = is_found spans guid k span at own in
      (one, ap (λ (b : Bool). cond b (Some first) (find (λ s. s.disk == guid) spans)) is ∙ found)
]

-- ---- of disks

-- a disk that missed the group has a guid, whose span has it
stale_guid : (spans : List StaleSpan) (guids : List ℕ) (disk birth : ℕ) → is_stale (stale_groups spans guids) disk birth ≡ true
    → (guid : ℕ) × (slice_get guids disk ≡ Some guid) × (is_in (groups_of spans guid) birth ≡ true)
stale_guid spans [] disk birth is = absurd (cc)
stale_guid spans (guid ∷ guids) zero birth is = (guid, refl, is)
stale_guid spans (guid ∷ guids) (suc disk) birth is = stale_guid spans guids disk birth is

stale_by : (spans : List StaleSpan) (guids : List ℕ) (disk birth guid : ℕ) → slice_get guids disk ≡ Some guid
    → is_stale (stale_groups spans guids) disk birth ≡ is_in (groups_of spans guid) birth
stale_by spans [] disk birth guid at = absurd (cc)
stale_by spans (first ∷ guids) zero birth guid at = ap (λ (g : ℕ). is_in (groups_of spans g) birth) (same_some first guid at)
stale_by spans (first ∷ guids) (suc disk) birth guid at = stale_by spans guids disk birth guid at

-- a group that a span has is that of a span that is there
span_in : (spans : List StaleSpan) (guid birth : ℕ) (found : Option StaleSpan) → find (λ s. s.disk == guid) spans ≡ found
    → is_in (option_map (λ span. record { from = span.from; to = span.to }) found) birth ≡ true
    → (span : StaleSpan) × Contains spans span × (span.disk ≡ guid) × (is_in (Some (record { from = span.from; to = span.to })) birth ≡ true)
span_in spans guid birth None is held = absurd (cc)
span_in spans guid birth (Some span) is held = let (here, own) = found_span spans guid span is in (span, here, own, held)

-- Of a disk that has its own guid the spans are gone only where it is marked: those of a group that it missed before.
pub gone_is_whole : (guids : List ℕ) (whole : List Bool) (before after : List StaleSpan) (disk birth : ℕ) → AllPairs (λ one other. one ≢ other) guids
    → IsOneForEach before → AreSpansWithout guids whole before after → is_stale (stale_groups before guids) disk birth ≡ true
    → is_stale (stale_groups after guids) disk birth ≡ false → is_out whole disk ≡ true
gone_is_whole guids whole before after disk birth own once cleared was isnt = elim (either (is_out whole disk)) [
  | inl is ↦ is
  | inr not ↦
      let (guid, at, in_span) = stale_guid before guids disk birth was in
      let (span, held, of, has) = span_in before guid birth (find (λ s. s.disk == guid) before) refl in_span in
      let kept : Contains after span =
      (cleared span).1 (
        λ (other, at', marked).
            let number : other ≡ disk = own_number guids guid disk other own at (at' ∙ ap (λ (g : ℕ). Some g) of) in
            never (is_out whole disk) (subst (λ (d : ℕ). is_out whole d ≡ true) number marked) not,
        held,
      ) in
      let (k, there') = there after span kept in
      let (found, is) = is_found after guid k span there' of in
      let (held', of') = found_span after guid found is in
      let same : found ≡ span = once found span ((cleared found).0 held').1 held (of' ∙ sym of) in
      let still : is_stale (stale_groups after guids) disk birth ≡ true =
      stale_by after guids disk birth guid at
      ∙ ap (λ (it : Option StaleSpan). is_in (option_map (λ s. record { from = s.from; to = s.to }) it) birth) (is ∙ ap (λ (s : StaleSpan). Some s) same)
      ∙ has in
      absurd (never (is_stale (stale_groups after guids) disk birth) still isnt)
]
