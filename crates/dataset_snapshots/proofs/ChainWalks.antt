-- Datasets in chains, walked one after the other: of each the blocks that were born after the snapshot before it.
use Rattle.std.proofs.Common.{◌≡◌, ◌≢◌, ℕ, zero, suc, ◌+◌, ◌<◌, ◌≤◌, Bool, true, false, cond, List, [], ◌∷◌, ◌++◌, length, take, drop, get_or, Option, Contains, All, filter, nat_lt, inl, inr, refl, sym, ap, ◌∙◌, subst, append_assoc, append-nil, arith}
use Rattle.std.specs.List.{AllZip}
use Rattle.std.proofs.lemmas.Bool.{cases_lt}
use Rattle.std.proofs.lemmas.Bool.Decides.{nat_tests}
use Rattle.std.proofs.lemmas.List.{length-append, take-append-drop, take_more}
use Rattle.std.proofs.lemmas.List.Elements.{All-contains, All-contains_itself, All-filter, Contains-append_cases}
use Rattle.block_pointer.specs.declared.block.Block.{Block}
use Rattle.block_store.specs.Blocks.{Contents}
use Rattle.dataset_groups.specs.Chains.{Reading}
use Rattle.dataset_groups.specs.ChainStanding.{HasChains, StandsAt}
use Rattle.dataset_groups.specs.Names.{NamesPool, NamesVolume, objects_of_rows, reach_by}
use Rattle.dead_list.specs.Datasets.{Dataset, Datasets, Free, IsBornIn, IsReached, Pool, Snapshot, group_before, nothing}
use Rattle.dead_list.specs.Reach.{own_of}
use Rattle.dead_list.specs.Sound.{IsSound}
use Rattle.dnode_tree.specs.Rewriting.{AreDistinct}
use Rattle.dnode_tree.specs.Younger.{younger}
use Rattle.meta_objset.specs.declared.directory.DirectoryRow.{DirectoryRow}
use Rattle.meta_objset.specs.declared.record.DatasetRecord.{DatasetRecord}
use Rattle.objset.specs.Objects.{Object}
use Rattle.pool_model.specs.declared.volume.PlainVolume.{PlainVolume}
use Rattle.pool_model.specs.Pools.{PlainPool}
use Rattle.volume.specs.Volume.{IsVolume, Spells, block_of, block_size_of, size_of}
use Rattle.volume.specs.Walking.{blocks_of_volume}
use Rattle.dataset_snapshots.specs.declared.finding.Dataset.{Dataset as Found}
use Rattle.dataset_snapshots.specs.Finding.{IsVolumeOf}
use Rattle.dataset_snapshots.proofs.Chained.{not_free_of}
use Rattle.dataset_snapshots.proofs.Holding.{first_or_later, in_one}

-- ---- the snapshot before a dataset

module _ (stored : Contents) (birth : ℕ) (objects : ℕ → Option Object) (pool : Pool) (readings : ℕ → Reading) (chains : HasChains stored birth objects pool readings) (m : ℕ) where
  pub none_before : (pool.datasets m).before ≡ 0 → group_before pool.datasets m ≡ 0
  none_before first = ap (λ (x : Dataset). x.group) (ap pool.datasets first ∙ chains.sound.none)

  pub some_before : (pool.datasets m).before ≢ 0 → StandsAt stored birth objects pool readings (pool.datasets m).before
  some_before some = elim (chains.sound.linked m) [
    | inl first ↦ absurd (some first)
    | inr link ↦ chains.each (pool.datasets m).before (λ free. let wrong : Snapshot ≡ Free = sym link.0 ∙ free in cc)
  ]

-- ---- one dataset

-- what is said of the volume that was found is said of the one that the record has
pub of_record : (stored : Contents) (birth : ℕ) (array : List ℕ) (Q : (block : Block) (size block_size : ℕ) → IsVolume stored birth block size block_size array → Type 0)
    (dataset : Found) (r : DatasetRecord) → dataset.record ≡ r → IsVolumeOf dataset
    → ((is : Spells stored birth dataset.volume array) → Q (block_of dataset.volume) (size_of dataset.volume) (block_size_of dataset.volume) is)
    → (is : IsVolume stored birth r.object_set r.size r.block_size array) → Q r.object_set r.size r.block_size is
of_record stored birth array Q dataset r same of told =
    let size : dataset.volume.size ≡ r.size = of.0.0 ∙ ap (λ (other : DatasetRecord). other.size) same in
    let block_size : dataset.volume.block_size ≡ r.block_size = of.0.1 ∙ ap (λ (other : DatasetRecord). other.block_size) same in
    let block : dataset.volume.block ≡ r.object_set = of.1 ∙ ap (λ (other : DatasetRecord). other.object_set) same in
    subst (λ n. (is : IsVolume stored birth r.object_set r.size n array) → Q r.object_set r.size n is) block_size
    (subst (λ n. (is : IsVolume stored birth r.object_set n dataset.volume.block_size array) → Q r.object_set n dataset.volume.block_size is) size
    (subst (λ (b : Block). (is : IsVolume stored birth b dataset.volume.size dataset.volume.block_size array) → Q b dataset.volume.size dataset.volume.block_size is) block told))

module _ (stored : Contents) (birth : ℕ) (objects : ℕ → Option Object) (pool : Pool) (readings : ℕ → Reading) (m : ℕ) (stands : StandsAt stored birth objects pool readings m)
    (dataset : Found) (is_record : dataset.record ≡ stands.r) (of : IsVolumeOf dataset) (since : ℕ) (since_is : since ≡ group_before pool.datasets m) where
  -- its younger blocks are its own
  younger_own : younger since (blocks_of_volume stands.r.object_set stands.leads.bytes.set stands.leads.bytes.has.own stands.leads.bytes.has.blocks) ≡ own_of pool.datasets m
  younger_own = ap (younger since) stands.leads.blocks_are ∙ ap (λ group. younger group (pool.datasets m).blocks) since_is

  -- they were walked
  pub own_walked : (found : List Block)
      → ((is : Spells stored birth dataset.volume (readings m).array) → found ≡ younger since (blocks_of_volume (block_of dataset.volume) is.set is.has.own is.has.blocks))
      → found ≡ own_of pool.datasets m
  own_walked found told =
      of_record stored birth (readings m).array (λ block size block_size is. found ≡ younger since (blocks_of_volume block is.set is.has.own is.has.blocks)) dataset stands.r is_record of told stands.leads.bytes
      ∙ younger_own

  -- or would have been, but for a loss, where as many are left
  pub own_enough : (left : ℕ) (Loss : Type 0)
      → ((is : Spells stored birth dataset.volume (readings m).array) → AreDistinct (blocks_of_volume (block_of dataset.volume) is.set is.has.own is.has.blocks)
      → length (younger since (blocks_of_volume (block_of dataset.volume) is.set is.has.own is.has.blocks)) ≤ left → Loss)
      → IsSound pool → length (own_of pool.datasets m) ≤ left → Loss
  own_enough left Loss told sound long =
      of_record stored birth (readings m).array
      (λ block size block_size is. AreDistinct (blocks_of_volume block is.set is.has.own is.has.blocks)
      → length (younger since (blocks_of_volume block is.set is.has.own is.has.blocks)) ≤ left → Loss)
      dataset stands.r is_record of told stands.leads.bytes
      (subst (λ (blocks : List Block). AreDistinct blocks) (sym stands.leads.blocks_are) (sound.fits m).once)
      (subst (λ (blocks : List Block). length blocks ≤ left) (sym younger_own) long)

-- ---- the datasets of rows

module _ (pool : Pool) where
  reach_append : (rows more : List DirectoryRow) → reach_by pool (rows ++ more) ≡ reach_by pool rows ++ reach_by pool more
  reach_append [] more = refl
  reach_append (row ∷ rows) more =
      ap (λ (rest : List Block). own_of pool.datasets row.object ++ rest) (reach_append rows more)
      ∙ sym (append_assoc (own_of pool.datasets row.object) (reach_by pool rows) (reach_by pool more))

  one_more : (rows : List DirectoryRow) (k : ℕ) (other : DirectoryRow) → k < length rows
      → reach_by pool (take (k + 1) rows) ≡ reach_by pool (take k rows) ++ own_of pool.datasets (get_or rows k other).object
  one_more rows k other low =
      ap (reach_by pool) (take_more rows k other low) ∙ reach_append (take k rows) (get_or rows k other ∷ [])
      ∙ ap (λ (back : List Block). reach_by pool (take k rows) ++ back) (append-nil (own_of pool.datasets (get_or rows k other).object))

  -- one row more was walked
  pub next_walked : (rows : List DirectoryRow) (k : ℕ) (row other : DirectoryRow) (found more now : List Block) → k < length rows → row ≡ get_or rows k other
      → found ≡ reach_by pool (take k rows) → more ≡ own_of pool.datasets row.object → now ≡ found ++ more → now ≡ reach_by pool (take (k + 1) rows)
  next_walked rows k row other found more now low is found_is more_is now_is =
      now_is ∙ ap (λ front. front ++ more) found_is
      ∙ ap (λ back. reach_by pool (take k rows) ++ back) (more_is ∙ ap (λ (r : DirectoryRow). own_of pool.datasets r.object) is)
      ∙ sym (one_more rows k other low)

  -- behind the rows up to one of them as many blocks are left as that one has
  pub enough_left : (rows : List DirectoryRow) (k : ℕ) (row other : DirectoryRow) (found : List Block) (before left : ℕ) → k < length rows → row ≡ get_or rows k other
      → found ≡ reach_by pool (take k rows) → before ≤ left + length found → length (reach_by pool rows) ≤ before → length (own_of pool.datasets row.object) ≤ left
  enough_left rows k row other found before left low is found_is few long =
      let same : length (own_of pool.datasets row.object) ≡ length (own_of pool.datasets (get_or rows k other).object) =
      ap (λ (r : DirectoryRow). length (own_of pool.datasets r.object)) is in
      let up_to : length (reach_by pool (take (k + 1) rows)) ≡ length (reach_by pool (take k rows)) + length (own_of pool.datasets (get_or rows k other).object) =
      ap length (one_more rows k other low) ∙ length-append (reach_by pool (take k rows)) (own_of pool.datasets (get_or rows k other).object) in
      let whole : length (reach_by pool rows) ≡ length (reach_by pool (take (k + 1) rows)) + length (reach_by pool (drop (k + 1) rows)) =
      ap length (ap (reach_by pool) (sym (take-append-drop (k + 1) rows)) ∙ reach_append (take (k + 1) rows) (drop (k + 1) rows))
      ∙ length-append (reach_by pool (take (k + 1) rows)) (reach_by pool (drop (k + 1) rows)) in
      omega (arith, same, up_to, whole, ap length found_is, few, long)

-- ---- rows that name datasets

-- what rows name is there
pub rows_some : (pool : Pool) (readings : ℕ → Reading) (rows : List DirectoryRow) (plain : List PlainVolume) → AllZip (NamesVolume pool readings) rows plain
    → All (λ row. (pool.datasets row.object).kind ≢ Free) rows
rows_some pool readings [] plain named k d low = absurd (omega (arith, low))
rows_some pool readings (row ∷ rows) [] named k d low = absurd named
rows_some pool readings (row ∷ rows) (volume ∷ plain) named zero d low = not_free_of volume.kind (pool.datasets row.object).kind named.0.kind
rows_some pool readings (row ∷ rows) (volume ∷ plain) named (suc k) d low = rows_some pool readings rows plain named.1 k d (omega (arith, low))

-- ---- the blocks that datasets reach

module _ (p : Block → Bool) where
  into_by : (first : Block) (rest : List Block) (block : Block) (is : Bool) → p first ≡ is → (Contains rest block → Contains (filter p rest) block) → Contains (first ∷ rest) block → p block ≡ true
      → Contains (cond is (first ∷ filter p rest) (filter p rest)) block
  into_by first rest block true is below held passes = elim (first_or_later first block rest held) [
    | inl same ↦ (zero, omega arith, same)
    | inr later ↦ let there = below later in (suc there.0, (let low = there.1 in omega (arith, low)), there.2)
  ]
  into_by first rest block false is below held passes = elim (first_or_later first block rest held) [
    | inl same ↦ absurd (let wrong : true ≡ false = sym passes ∙ ap p (sym same) ∙ is in cc)
    | inr later ↦ below later
  ]

  into_filter : (blocks : List Block) (block : Block) → Contains blocks block → p block ≡ true → Contains (filter p blocks) block
  into_filter [] block held passes = held
  into_filter (first ∷ rest) block held passes = into_by first rest block (p first) refl (λ later. into_filter rest block later passes) held passes

own_there : (datasets : Datasets) (m : ℕ) (block : Block) → IsBornIn datasets m block → Contains (own_of datasets m) block
own_there datasets m block born =
    into_filter (λ (b : Block). nat_lt (group_before datasets m) b.birth) (datasets m).blocks block born.0 (let later = born.1 in grind (arith, nat_tests, later))

-- an own block is reached
own_reached : (datasets : Datasets) (m : ℕ) (block : Block) → Contains (own_of datasets m) block → Contains (datasets m).blocks block
own_reached datasets m block held =
    let all : List Block = (datasets m).blocks in
    All-contains (Contains all) (own_of datasets m) block (All-filter (λ (b : Block). nat_lt (group_before datasets m) b.birth) (Contains all) all (All-contains_itself all)) held

-- so is each that rows lead to
pub reached_by_rows : (pool : Pool) (rows : List DirectoryRow) (block : Block) → Contains (reach_by pool rows) block → IsReached pool.datasets block
reached_by_rows pool [] block held = absurd (omega (arith, held.1))
reached_by_rows pool (row ∷ rows) block held = elim (Contains-append_cases (own_of pool.datasets row.object) (reach_by pool rows) block held) [
  | inl here ↦ (row.object, own_reached pool.datasets row.object block here)
  | inr later ↦ reached_by_rows pool rows block later
]

module _ (pool : Pool) (sound : IsSound pool) (block : Block) where
  is_nothing : (m : ℕ) → pool.datasets m ≡ nothing → ¬ Contains (pool.datasets m).blocks block
  is_nothing m none held = let there : Contains [] block = subst (λ (x : Dataset). Contains x.blocks block) none held in omega (arith, there.1)

  -- what some dataset reaches was born in one
  origin : (fuel m : ℕ) → sound.rank m < fuel → Contains (pool.datasets m).blocks block → (from : ℕ) × IsBornIn pool.datasets from block
  origin zero m low held = absurd (omega (arith, low))
  origin (suc fuel) m low held = elim (cases_lt (group_before pool.datasets m) block.birth) [
    | inl later ↦ (m, (held, later))
    | inr early ↦
        let shared = (sound.fits m).shared block held early in
        elim (sound.linked m) [
          | inl first ↦ absurd (is_nothing (pool.datasets m).before (ap pool.datasets first ∙ sound.none) shared)
          | inr link ↦ origin fuel (pool.datasets m).before (omega (arith, low, link.1)) shared
        ]
  ]

  -- and is among those that rows lead to which name all datasets
  pub in_reach : (readings : ℕ → Reading) (rows : List DirectoryRow) (plain : PlainPool) → NamesPool pool readings rows plain → (m : ℕ) → Contains (pool.datasets m).blocks block
      → Contains (reach_by pool rows) block
  in_reach readings rows plain names m held =
      let from = origin (suc (sound.rank m)) m (omega arith) held in
      in_one (own_of pool.datasets) (objects_of_rows rows) from.0 block (names.numbers.each from.0 (λ none. is_nothing from.0 none from.1.0)) (own_there pool.datasets from.0 block from.1)
