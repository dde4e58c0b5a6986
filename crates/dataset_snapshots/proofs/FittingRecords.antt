-- The records of a pool's datasets fit one another in chains.
use Rattle.std.proofs.Common.{◌≡◌, ◌≢◌, ◌↔◌, ℕ, ◌<◌, List, [], ◌∷◌, length, get_or, map, Bool, true, false, true≢false, Option, AllPairs, Contains, inl, inr, refl, sym, ap, ◌∙◌, subst, arith}
use Rattle.std.specs.Prelude.{All, cond, filter, not, ◌==◌, ◌&&◌}
use Rattle.std.proofs.lemmas.Bool.{and_from, and_parts, eq-eqb, eqb-false, eqb-true, ne_eqb, not-true, not_from_false}
use Rattle.std.proofs.lemmas.List.{get_or-map, length-map}
use Rattle.std.proofs.lemmas.List.Elements.{All-contains, All-contains_itself, All-filter, Contains-get_or, filter_passes}
use Rattle.std.proofs.lemmas.List.Kept.{AllPairs-cons, AllPairs-filter}
use Rattle.block_store.specs.Blocks.{Contents}
use Rattle.dataset_groups.specs.Chains.{HasCloneCount, IsRecordFor, Reading, kind_of}
use Rattle.dataset_groups.specs.ChainStanding.{HasChains}
use Rattle.dataset_groups.proofs.ListParts.{all_from, first_or_later, is_first, is_later, nothing_in}
use Rattle.dataset_groups.specs.Names.{BranchesOff, NamesPool, objects_of_rows}
use Rattle.dead_list.specs.Datasets.{Dataset, Free, Pool, nothing}
use Rattle.dead_list.specs.Datasets.{Snapshot as ASnapshot}
use Rattle.meta_objset.proofs.Edits.{pairs_head, pairs_tail}
use Rattle.meta_objset.proofs.Readings.{record_once}
use Rattle.meta_objset.specs.Datasets.{HasRecord}
use Rattle.meta_objset.specs.declared.directory.DirectoryRow.{DirectoryRow}
use Rattle.meta_objset.specs.declared.record.DatasetKind.{DatasetKind}
use Rattle.meta_objset.specs.declared.record.DatasetKind.TheVariants as kinds
use Rattle.meta_objset.specs.declared.record.DatasetRecord.{DatasetRecord}
use Rattle.objset.specs.Objects.{Object}
use Rattle.pool_model.specs.Pools.{PlainPool}
use Rattle.raidz_io.proofs.Pigeons.{AreDistinct, distinct_fit}
use Rattle.dataset_snapshots.specs.declared.chaining.RowRecord.{RowRecord}
use Rattle.dataset_snapshots.specs.Clones.{RowBranchesOff}
use Rattle.dataset_snapshots.specs.Chaining.{AreChained, HasRecordAt, IsBehindOne, IsChained, IsFollowed, clones_among}
use Rattle.dataset_snapshots.proofs.ChainIndexes.{Apart, object_of}

-- ---- lists

mapped_from : {X : Type 0} (f : X → ℕ) (xs : List X) (n : ℕ) → Contains (map f xs) n → (x : X) × Contains xs x × (f x ≡ n)
mapped_from f [] n held = absurd (nothing_in n held)
mapped_from f (x ∷ xs) n held = elim (first_or_later (f x) n (map f xs) held) [
  | inl same ↦ (x, is_first x xs, same)
  | inr later ↦ let from = mapped_from f xs n later in (from.0, is_later x from.0 xs from.1, from.2)
]

mapped_to : {X : Type 0} (f : X → ℕ) (xs : List X) (x : X) → Contains xs x → Contains (map f xs) (f x)
mapped_to f [] x held = absurd (nothing_in x held)
mapped_to f (first ∷ xs) x held = elim (first_or_later first x xs held) [
  | inl same ↦ subst (λ n. Contains (f first ∷ map f xs) n) (ap f same) (is_first (f first) (map f xs))
  | inr later ↦ is_later (f first) (f x) (map f xs) (mapped_to f xs x later)
]

kept_by : {X : Type 0} (test : X → Bool) (first : X) (xs : List X) (x : X) (is : Bool) → test first ≡ is → (Contains xs x → Contains (filter test xs) x) → Contains (first ∷ xs) x → test x ≡ true
    → Contains (cond is (first ∷ filter test xs) (filter test xs)) x
kept_by test first xs x true e later held passes = elim (first_or_later first x xs held) [
  | inl same ↦ subst (λ y. Contains (first ∷ filter test xs) y) same (is_first first (filter test xs))
  | inr behind ↦ is_later first x (filter test xs) (later behind)
]
kept_by test first xs x false e later held passes = elim (first_or_later first x xs held) [
  | inl same ↦ absurd (true≢false (sym passes ∙ ap test (sym same) ∙ e))
  | inr behind ↦ later behind
]

kept : {X : Type 0} (test : X → Bool) (xs : List X) (x : X) → Contains xs x → test x ≡ true → Contains (filter test xs) x
kept test [] x held passes = held
kept test (first ∷ xs) x held passes = kept_by test first xs x (test first) refl (λ later. kept test xs x later passes) held passes

was_there : {X : Type 0} (test : X → Bool) (xs : List X) (x : X) → Contains (filter test xs) x → Contains xs x × (test x ≡ true)
was_there test xs x held = (
  All-contains (Contains xs) (filter test xs) x (All-filter test (Contains xs) xs (All-contains_itself xs)) held,
  All-contains (λ y. test y ≡ true) (filter test xs) x (filter_passes test xs) held,
)

-- no two are the same
abbrev AreOnce : List ℕ → Type 0
AreOnce ns = AllPairs (λ n later. n ≢ later) ns

once_mapped : (records : List RowRecord) → AllPairs Apart records → AreOnce (map object_of records)
once_mapped [] apart = λ i j d less low. absurd (omega (arith, low))
once_mapped (one ∷ records) apart =
    AllPairs-cons (λ n later. n ≢ later) one.object (map object_of records)
    (λ k d low e.
    let from = mapped_from object_of records (get_or (map object_of records) k d) (Contains-get_or (map object_of records) k d low) in
    All-contains (Apart one) records from.0 (pairs_head Apart one records apart) from.1 (e ∙ sym from.2))
    (once_mapped records (pairs_tail Apart one records apart))

once_from : (records : List RowRecord) → AreOnce (map object_of records) → AllPairs Apart records
once_from records once i j d less low same =
    once i j d.object less (subst (λ n. j < n) (sym (length-map records object_of)) low)
    (get_or-map object_of records i d d.object (omega (arith, less, low)) ∙ same ∙ sym (get_or-map object_of records j d d.object low))

-- two lists that have the same, each once, are equally long
distinct : (ns : List ℕ) → AreOnce ns → AreDistinct ns
distinct ns once = record { apart = λ i k less low. once i k 0 less low }

as_long : (ns ms : List ℕ) → AreOnce ns → AreOnce ms → ((n : ℕ) → Contains ns n ↔ Contains ms n) → length ns ≡ length ms
as_long ns ms once also same =
    let few = distinct_fit ns ms (distinct ns once) (λ n. (same n).0) in
    let many = distinct_fit ms ns (distinct ms also) (λ n. (same n).1) in
    omega (arith, few, many)

-- ---- a whole pool

module _ (stored : Contents) (birth : ℕ) (objects : ℕ → Option Object) (pool : Pool) (readings : ℕ → Reading) (chains : HasChains stored birth objects pool readings) where
  not_free : (n : ℕ) (r : DatasetRecord) → HasRecord (objects n) r → (pool.datasets n).kind ≢ Free
  not_free n r has free = (chains.none n free).none r has

  -- what has a record is a dataset
  pub record IsDatasetWith (n : ℕ) (r : DatasetRecord) : Type 0 where
    pub is : IsRecordFor pool n r
    pub clones : HasCloneCount pool n r.clones

  of_record : (n : ℕ) (r : DatasetRecord) → HasRecord (objects n) r → IsDatasetWith n r
  of_record n r has =
      let stands = chains.each n (not_free n r has) in
      subst (IsDatasetWith n) (record_once (objects n) stands.r r stands.has has) (record { is = stands.is; clones = stands.clones })

  -- what has something before it is there
  some_with : (n m : ℕ) → (pool.datasets n).before ≡ m → m ≢ 0 → pool.datasets n ≢ nothing
  some_with n m is some none = some (sym is ∙ ap (λ (d : Dataset). d.before) none)

  is_snapshot : (kind : DatasetKind) → ASnapshot ≡ kind_of kind → kind ≡ kinds.Snapshot
  is_snapshot kinds.Volume is = absurd (cc)
  is_snapshot kinds.Snapshot is = refl

  module _ (rows : List DirectoryRow) (plain : PlainPool) (names : NamesPool pool readings rows plain) (records : List RowRecord) (same : map object_of records ≡ objects_of_rows rows)
      (each : All (λ (one : RowRecord). HasRecord (objects one.object) one.record) records) where
    it : (one : RowRecord) → Contains records one → IsDatasetWith one.object one.record
    it one held = of_record one.object one.record (All-contains (λ (o : RowRecord). HasRecord (objects o.object) o.record) records one each held)

    -- the record of a dataset is among them
    pub record IsThere (n : ℕ) : Type 0 where
      pub r : DatasetRecord
      pub at : HasRecordAt records n r
      pub is : IsRecordFor pool n r

    there : (n : ℕ) → pool.datasets n ≢ nothing → IsThere n
    there n some =
        let from = mapped_from object_of records n (subst (λ ns. Contains ns n) (sym same) (names.numbers.each n some)) in
        subst IsThere from.2 (record { r = from.0.record; at = from.1; is = (it from.0 from.1).is })

    not_zero : (one : RowRecord) → Contains records one → one.object ≢ 0
    not_zero one held zero =
        not_free one.object one.record (All-contains (λ (o : RowRecord). HasRecord (objects o.object) o.record) records one each held)
        (ap (λ n. (pool.datasets n).kind) zero ∙ ap (λ (d : Dataset). d.kind) chains.sound.none)

    behind : (one : RowRecord) → Contains records one → IsBehindOne records one.record
    behind one held = elim (chains.sound.linked one.object) [
      | inl none ↦ inl (sym (it one held).is.previous ∙ none)
      | inr linked ↦
          let n = (pool.datasets one.object).before in
          let some : pool.datasets n ≢ nothing = λ none. let wrong : ASnapshot ≡ Free = sym linked.0 ∙ ap (λ (d : Dataset). d.kind) none in cc in
          let before = there n some in
          inr (before.r, subst (λ m. HasRecordAt records m before.r) (it one held).is.previous before.at, is_snapshot before.r.kind (sym linked.0 ∙ before.is.kind))
    ]

    -- a row that branches off another by its record does so in the pool
    pub branches_by : (row before : DirectoryRow) → RowBranchesOff records row before → BranchesOff pool row.object × ((pool.datasets row.object).before ≡ before.object)
    branches_by row before off =
        let is = (it (record { object = row.object; «record» = off.r }) off.has).is in
        let of = (it (record { object = before.object; «record» = off.s }) off.there).is in
        let behind : (pool.datasets row.object).before ≡ before.object = is.previous ∙ off.previous in
        let snapshot : off.s.kind ≡ kinds.Snapshot = elim (chains.sound.linked row.object) [
          | inl none ↦ absurd (off.some (sym is.previous ∙ none))
          | inr linked ↦ is_snapshot off.s.kind (sym linked.0 ∙ ap (λ n. (pool.datasets n).kind) behind ∙ of.kind)
        ] in
        ((λ none. off.some (sym is.previous ∙ none), λ same. off.other (sym (of.next snapshot) ∙ ap pool.next (sym behind) ∙ same)), behind)

    -- and the other way round
    pub branches_too : (row before : DirectoryRow) → BranchesOff pool row.object → (pool.datasets row.object).before ≡ before.object → RowBranchesOff records row before
    branches_too row before off behind =
        let first = there row.object (some_with row.object before.object behind (λ none. off.0 (behind ∙ none))) in
        let kind : (pool.datasets before.object).kind ≡ ASnapshot = elim (chains.sound.linked row.object) [
          | inl none ↦ absurd (off.0 none)
          | inr linked ↦ sym (ap (λ n. (pool.datasets n).kind) behind) ∙ linked.0
        ] in
        let second = there before.object (λ none. let wrong : ASnapshot ≡ Free = sym kind ∙ ap (λ (d : Dataset). d.kind) none in cc) in
        let snapshot : second.r.kind ≡ kinds.Snapshot = is_snapshot second.r.kind (sym kind ∙ second.is.kind) in
        record {
          r = first.r;
          has = first.at;
          some = λ none. off.0 (first.is.previous ∙ none);
          previous = sym first.is.previous ∙ behind;
          s = second.r;
          there = second.at;
          other = λ same. off.1 (ap pool.next behind ∙ (second.is.next snapshot ∙ same));
        }

    module _ (one : RowRecord) (held : Contains records one) (snapshot : one.record.kind ≡ kinds.Snapshot) where
      next_is : pool.next one.object ≡ one.record.next
      next_is = (it one held).is.next snapshot

      followed : IsFollowed records one
      followed =
          let names_it : (pool.datasets one.record.next).before ≡ one.object =
          subst (λ n. (pool.datasets n).before ≡ one.object) next_is (chains.sound.followed one.object ((it one held).is.kind ∙ ap kind_of snapshot)) in
          let next = there one.record.next (some_with one.record.next one.object names_it (not_zero one held)) in
          (next.r, next.at, sym next.is.previous ∙ names_it)

      abbrev is_clone : RowRecord → Bool
      is_clone o = o.record.previous == one.object && not (o.object == one.record.next)

      -- those of the pool are those among the records
      clone_there : (m : ℕ) → (pool.datasets m).before ≡ one.object → m ≢ pool.next one.object → Contains (map object_of (filter is_clone records)) m
      clone_there m before other =
          let dataset = there m (some_with m one.object before (not_zero one held)) in
          let clone : RowRecord = record { object = m; «record» = dataset.r } in
          let passes : is_clone clone ≡ true =
          and_from (dataset.r.previous == one.object) (not (m == one.record.next)) (eq-eqb dataset.r.previous one.object (sym dataset.is.previous ∙ before))
          (not_from_false (m == one.record.next) (ne_eqb m one.record.next (λ e. other (e ∙ sym next_is)))) in
          mapped_to object_of (filter is_clone records) clone (kept is_clone records clone dataset.at passes)

      clone_of : (m : ℕ) → Contains (map object_of (filter is_clone records)) m → ((pool.datasets m).before ≡ one.object) × (m ≢ pool.next one.object)
      clone_of m listed =
          let from = mapped_from object_of (filter is_clone records) m listed in
          let clone = from.0 in
          let was = was_there is_clone records clone from.1 in
          let tests = and_parts (clone.record.previous == one.object) (not (clone.object == one.record.next)) was.1 in
          let before : (pool.datasets clone.object).before ≡ one.object = (it clone was.0).is.previous ∙ eqb-true clone.record.previous one.object tests.0 in
          let other = eqb-false clone.object one.record.next (not-true (clone.object == one.record.next) tests.1) in
          (subst (λ n. (pool.datasets n).before ≡ one.object) from.2 before, λ e. other (from.2 ∙ e ∙ next_is))

      counted : AllPairs Apart records → one.record.clones ≡ clones_among records one.object one.record.next
      counted apart =
          let has = (it one held).clones in
          let listed : length has.0 ≡ length (map object_of (filter is_clone records)) =
          as_long has.0 (map object_of (filter is_clone records)) has.1.once (once_mapped (filter is_clone records) (AllPairs-filter Apart is_clone records apart))
          (λ m. (λ of. let clone = (has.1.which m).0 of in clone_there m clone.0 clone.1, λ of. (has.1.which m).1 (clone_of m of))) in
          has.2 ∙ listed ∙ length-map (filter is_clone records) object_of

    pub chained_of_pool : AreChained records
    chained_of_pool =
        let apart = once_from records (subst AreOnce (sym same) names.numbers.once) in
        record {
          once = apart;
          each = all_from (IsChained records) records (λ one held. record {
            behind = behind one held;
            followed = λ snapshot. followed one held snapshot;
            counted = λ snapshot. counted one held snapshot apart;
          });
        }
