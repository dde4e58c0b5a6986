-- Heads that a group writes to, one after the other.
use Rattle.std.proofs.Common.{◌≡◌, ◌≢◌, ◌⊎◌, ℕ, ◌<◌, ◌≤◌, List, [], ◌∷◌, ◌++◌, Option, Some, None, Contains, AllPairs, inl, inr, refl, sym, ap, subst, ◌∙◌, arith}
use Rattle.std.specs.List.Sorted.{IsStrictlyIncreasing}
use Rattle.std.proofs.lemmas.List.{map-append}
use Rattle.std.proofs.lemmas.List.Kept.{AllPairs-from_increasing}
use Rattle.meta_objset.proofs.Edits.{pairs_head, pairs_tail}
use Rattle.std.proofs.lemmas.List.Elements.{All-contains, Contains-append_cases, Contains-append_left, Contains-append_right}
use Rattle.block_pointer.specs.declared.block.Block.{Block}
use Rattle.block_store.specs.Blocks.{Contents, Extends}
use Rattle.block_store.specs.Plans.{Plans}
use Rattle.block_store.specs.Store.{Store}
use Rattle.dataset_destroys.specs.Chains.{Reading, SpellsChains}
use Rattle.dataset_destroys.specs.Results.{AreMixed}
use Rattle.dead_list.specs.Datasets.{AreFreed, Dataset, Free, IsReached, Pool, group_before, updated}
use Rattle.dead_list.specs.Operations.{IsHead, IsWritable, MayDo, Overwrite}
use Rattle.dead_list.proofs.Steps.{frees, reached_before}
use Rattle.dead_list.proofs.Updates.{at_each, other_at, same_at}
use Rattle.dnode_tree.proofs.Exchanging.{both_once}
use Rattle.dnode_tree.proofs.SameBlocks.{distinct_counted, once_counted}
use Rattle.dnode_tree.specs.Rewriting.{AreDistinct}
use Rattle.meta_objset.specs.declared.directory.DirectoryRow.{DirectoryRow}
use Rattle.objset.specs.Objects.{Object}
use Rattle.pool_model.specs.declared.item.Write.{Write}
use Rattle.pool_model.specs.declared.volume.PlainVolume.{PlainVolume}
use Rattle.pool_model.specs.Pools.{PlainPool}
use Rattle.volume.specs.Volume.{Spells}
use Rattle.volume.specs.Writing.{IsArrayWith}
use Rattle.volume_rules.specs.Overlay.{after_writes}
use Rattle.dataset_groups.specs.declared.datasets.GroupDatasets.{GroupDatasets}
use Rattle.dataset_groups.specs.declared.writing.WrittenHead.{WrittenHead}
use Rattle.dataset_groups.specs.Groups.{IsFresh, IsWithin, SpellsGroup}
use Rattle.dataset_groups.specs.Heads.{AreNewlyKnown, IsHeadWritten, IsWrittenTo, reading_with}
use Rattle.dataset_groups.specs.Leaving.{AddsData}
use Rattle.dataset_groups.specs.Names.{NamesVolume}
use Rattle.dataset_groups.specs.Touched.{TouchesHeads}
use Rattle.dataset_groups.specs.Writing.{AreWritten, IsAfterWrites, IsHeadRead, numbers_of}
use Rattle.dataset_groups.proofs.Copied.{adds_none, adds_on}
use Rattle.dataset_groups.proofs.KeptVolumes.{volume_blocks}
use Rattle.dataset_groups.proofs.KnownBlocks.{reached_known}
use Rattle.dataset_groups.proofs.ListParts.{first_or_later, is_first, nothing_in}
use Rattle.dataset_groups.proofs.OneHead.{head_not_free}
use Rattle.dataset_groups.proofs.Overwriting.{HaveSameShapes, entered_reached, freed_was, kept_or_freed, others_same, same_group_before, shapes_none, shapes_on, shapes_same}
use Rattle.dataset_groups.proofs.TouchedHeads.{number_before, number_cases, number_last, still_fresh, still_unmixed}
use Rattle.dataset_groups.proofs.WrittenVolumes.{no_clone, one_row, one_volume, same_bytes_after, zip_has}

-- ---- what is known anew

none_before : (old new : Contents) → Extends old new → (block : Block) → new block ≡ None → old block ≡ None
none_before old new kept block none = by_cases (old block) refl
  where
    by_cases : (found : Option (List ℕ)) → old block ≡ found → old block ≡ None
    by_cases None is = is
    by_cases (Some bytes) is = absurd (let known : new block ≡ Some bytes = kept block bytes is in let clash : None ≡ Some bytes = sym none ∙ known in cc)

pub newly_none : (birth : ℕ) (planned : Contents) → AreNewlyKnown birth planned planned []
newly_none birth planned = record {
  once = λ i j d less low. absurd (omega (arith, low));
  fresh = λ block held. absurd (nothing_in block held);
  born = λ block held. absurd (nothing_in block held);
  known = λ block held. absurd (nothing_in block held);
  only = λ block bytes is. inr is;
}

newly_on : (birth : ℕ) (planned mid later : Contents) (added more : List Block) → Extends planned mid → Extends mid later → AreNewlyKnown birth planned mid added → AreNewlyKnown birth mid later more
    → AreNewlyKnown birth planned later (added ++ more)
newly_on birth planned mid later added more first rest one two = record {
  once = distinct_counted (added ++ more) (λ block.
      both_once block added more (once_counted block added one.once) (once_counted block more two.once)
      (λ sooner again. let known : mid block ≡ Some (one.known block sooner).0 = (one.known block sooner).1 in
      let clash : None ≡ Some (one.known block sooner).0 = sym (two.fresh block again) ∙ known in absurd (cc)));
  fresh = λ block held.
      elim (Contains-append_cases added more block held) [
        | inl sooner ↦ one.fresh block sooner
        | inr later ↦ none_before planned mid first block (two.fresh block later)
      ];
  born = λ block held.
      elim (Contains-append_cases added more block held) [
        | inl sooner ↦ one.born block sooner
        | inr later ↦ two.born block later
      ];
  known = λ block held.
      elim (Contains-append_cases added more block held) [
        | inl sooner ↦ let there = one.known block sooner in (there.0, rest block there.0 there.1)
        | inr later ↦ two.known block later
      ];
  only = λ block bytes is.
      elim (two.only block bytes is) [
        | inl here ↦ inl (Contains-append_right added more block here)
        | inr sooner ↦
            elim (one.only block bytes sooner) [
              | inl there ↦ inl (Contains-append_left added more block there)
              | inr before ↦ inr before
            ]
      ];
}

-- ---- heads so far

-- these heads were written to, and nothing else
pub record AreHeadsWritten (planned later : Contents) (group : ℕ) (objects : ℕ → Option Object) (old new : GroupDatasets) (pool after : Pool) (readings now : ℕ → Reading) (writes : List Write)
    (done : List WrittenHead) (gone : List Block) : Type 0 where
  pub chains : SpellsChains later group objects new.changes after now
  pub fresh : (number : ℕ) → new.next ≤ number → IsWithin new.bounds number → IsFresh objects new.changes number
  pub unmixed : ¬ AreMixed new.changes
  pub shapes : HaveSameShapes pool after
  pub next : (m : ℕ) → after.next m ≡ pool.next m
  pub others : (m : ℕ) → ¬ Contains (numbers_of done) m → (after.datasets m ≡ pool.datasets m) × (now m ≡ readings m)
  pub block_size : (m : ℕ) → (now m).block_size ≡ (readings m).block_size
  pub reads : (row : DirectoryRow) (volume : PlainVolume) → Contains old.directory row → Contains (numbers_of done) row.object → NamesVolume pool readings row volume
      → (now row.object).array ≡ (after_writes volume writes).bytes
  pub added : List Block
  pub added_are : AreNewlyKnown group planned later added
  pub adds : AddsData planned later
  pub kept : (b : Block) → IsReached pool.datasets b → IsReached after.datasets b ⊎ Contains gone b
  pub from : (b : Block) → IsReached after.datasets b → IsReached pool.datasets b ⊎ Contains added b
  pub joined : (b : Block) → Contains added b → IsReached after.datasets b
  pub left : (b : Block) → Contains gone b → IsReached pool.datasets b × ¬ IsReached after.datasets b
  pub once : AreDistinct gone

pub none_written : (planned : Contents) (group : ℕ) (objects : ℕ → Option Object) (old : GroupDatasets) (pool : Pool) (readings : ℕ → Reading) (plain : PlainPool) (writes : List Write)
    → SpellsGroup planned group objects old pool readings plain → AreHeadsWritten planned planned group objects old old pool pool readings readings writes [] []
none_written planned group objects old pool readings plain writes spelled = record {
  chains = spelled.chains;
  fresh = spelled.fresh;
  unmixed = spelled.unmixed;
  shapes = shapes_none pool;
  next = λ m. refl;
  others = λ m not. (refl, refl);
  block_size = λ m. refl;
  reads = λ row volume held none. absurd (nothing_in row.object none);
  added = [];
  added_are = newly_none group planned;
  adds = adds_none planned;
  kept = λ b was. inl was;
  from = λ b is. inl is;
  joined = λ b held. absurd (nothing_in b held);
  left = λ b held. absurd (nothing_in b held);
  once = λ i j d less low. absurd (omega (arith, low));
}

-- ---- the next head

pub next_held : (done rest all : List WrittenHead) (next : WrittenHead) → all ≡ done ++ next ∷ rest → Contains all next
next_held done rest all next are = subst (λ (xs : List WrittenHead). Contains xs next) (sym are) (Contains-append_right done (next ∷ rest) next (is_first next rest))

-- a number behind others is above them
above : (front rest : List ℕ) (n m : ℕ) → AllPairs (λ x later. x < later) (front ++ n ∷ rest) → Contains front m → m < n
above [] rest n m up held = absurd (nothing_in m held)
above (x ∷ front) rest n m up held = elim (first_or_later x m front held) [
  | inl e ↦ subst (λ k. k < n) e
      (All-contains (λ later. x < later) (front ++ n ∷ rest) n (pairs_head (λ (a b : ℕ). a < b) x (front ++ n ∷ rest) up) (Contains-append_right front (n ∷ rest) n (is_first n rest)))
  | inr later ↦ above front rest n m (pairs_tail (λ (a b : ℕ). a < b) x (front ++ n ∷ rest) up) later
]

pub not_done : (done rest all : List WrittenHead) (next : WrittenHead) → all ≡ done ++ next ∷ rest → IsStrictlyIncreasing (numbers_of all) → ¬ Contains (numbers_of done) next.number
not_done done rest all next are up held =
    let split : numbers_of all ≡ numbers_of done ++ next.number ∷ numbers_of rest = ap numbers_of are ∙ map-append (λ (h : WrittenHead). h.number) done (next ∷ rest) in
    let pairs = AllPairs-from_increasing (numbers_of all) up in
    let low : next.number < next.number = above (numbers_of done) (numbers_of rest) next.number next.number (subst (AllPairs (λ (x later : ℕ). x < later)) split pairs) held in
    omega (arith, low)

-- a row names the head
pub record IsNamedBy (pool : Pool) (readings : ℕ → Reading) (rows : List DirectoryRow) (n : ℕ) : Type 0 where
  pub row : DirectoryRow
  pub held : Contains rows row
  pub is : row.object ≡ n
  pub volume : PlainVolume
  pub names : NamesVolume pool readings row volume

-- the head is read of another pool that is the same there
read_as : (stored : Contents) (bound : ℕ) (pool at : Pool) (readings reads : ℕ → Reading) (head : WrittenHead) → at.datasets head.number ≡ pool.datasets head.number
    → reads head.number ≡ readings head.number → IsHeadRead stored bound pool readings head → IsHeadRead stored bound at reads head
read_as stored bound pool at readings reads head same reads_same it =
    let n : ℕ = head.number in
    let moved = subst (λ (x : Reading). (is : Spells stored bound head.volume x.array) × ((pool.datasets n).blocks ≡ volume_blocks is) × (head.volume.block_size ≡ x.block_size)) (sym reads_same)
    (it.is, it.blocks, it.block_size) in
    record { is = moved.0; blocks = ap (λ (x : Dataset). x.blocks) same ∙ moved.1; block_size = moved.2 }

module _ (stored planned mid : Contents) (bound group : ℕ) (objects : ℕ → Option Object) (old so_far : GroupDatasets) (pool at : Pool) (readings reads : ℕ → Reading) (plain : PlainPool)
    (writes : List Write) (heads done rest : List WrittenHead) (next : WrittenHead) (gone : List Block)
    (spelled : SpellsGroup planned group objects old pool readings plain) (written : AreWritten stored bound pool readings old.directory writes heads) (are : heads ≡ done ++ next ∷ rest)
    (first : AreHeadsWritten planned mid group objects old so_far pool at readings reads writes done gone) where
  abbrev n : ℕ
  n = next.number

  held : Contains heads next
  held = next_held done rest heads next are

  apart : ¬ Contains (numbers_of done) next.number
  apart = not_done done rest heads next are written.once

  pub named : IsNamedBy pool readings old.directory next.number
  named =
      let there = All-contains (λ (head : WrittenHead). (row : DirectoryRow) × Contains old.directory row × (row.object ≡ head.number)) heads next written.named held in
      let volume = zip_has (NamesVolume pool readings) old.directory plain.volumes there.0 spelled.names.volumes there.1 in
      record { row = there.0; held = there.1; is = there.2; volume = volume.0; names = volume.1 }

  abbrev pub array : List ℕ
  array = (after_writes named.volume writes).bytes

  was_head : IsHead pool.datasets next.number
  was_head = All-contains (λ (head : WrittenHead). IsHead pool.datasets head.number) heads next written.are held

  same_there : (at.datasets next.number ≡ pool.datasets next.number) × (reads next.number ≡ readings next.number)
  same_there = first.others next.number apart

  is_head : IsHead at.datasets next.number
  is_head = (first.shapes next.number).kind ∙ was_head

  is_writable : IsWritable at next.number
  is_writable =
      let was : group_before pool.datasets next.number < pool.group = All-contains (λ (head : WrittenHead). IsWritable pool head.number) heads next written.writable held in
      let before : group_before at.datasets next.number ≡ group_before pool.datasets next.number = same_group_before pool at first.shapes next.number in
      let now : at.group ≡ pool.group = first.chains.now ∙ sym spelled.chains.now in
      subst (λ k. k < at.group) (sym before) (subst (λ k. group_before pool.datasets next.number < k) (sym now) was)

  reads_so : IsArrayWith (reads next.number).array (reads next.number).block_size next.blocks.items array
  reads_so =
      let is = All-contains (IsAfterWrites pool readings old.directory writes) heads next written.after held named.row named.volume named.held named.is named.names in
      let bytes : (reads next.number).array ≡ named.volume.bytes = ap (λ (x : Reading). x.array) same_there.1 ∙ subst (λ k. (readings k).array ≡ named.volume.bytes) named.is named.names.array in
      let block_size : (reads next.number).block_size ≡ named.volume.block_size =
      ap (λ (x : Reading). x.block_size) same_there.1 ∙ subst (λ k. (readings k).block_size ≡ named.volume.block_size) named.is named.names.block_size in
      subst (λ (bs : List ℕ). IsArrayWith bs (reads next.number).block_size next.blocks.items array) (sym bytes)
      (subst (λ k. IsArrayWith named.volume.bytes k next.blocks.items array) (sym block_size) is)

  -- it is what its writes are to, still
  pub written_to : IsWrittenTo stored bound at reads next array
  written_to = record {
    is = is_head;
    writable = is_writable;
    read = read_as stored bound pool at readings reads next same_there.0 same_there.1 (All-contains (IsHeadRead stored bound pool readings) heads next written.read held);
    after = reads_so;
  }

  module _ (later : Contents) (new : GroupDatasets) (before : Extends planned mid) (more : Extends mid later) (after : Pool) (left_too : List Block)
      (step : IsHeadWritten mid later group objects so_far.changes new.changes at after reads next.number array left_too)
      (touched : TouchesHeads so_far.changes new.changes (next.number ∷ [])) (numbers_are : (new.next ≡ so_far.next) × (new.bounds ≡ so_far.bounds)) where
    abbrev reading : Reading
    reading = reading_with (reads next.number) array

    abbrev now : ℕ → Reading
    now = updated reads next.number reading

    shapes_too : HaveSameShapes at after
    shapes_too = shapes_same at next.number step.left step.entered left_too after step.made

    still : (after.datasets next.number).kind ≢ Free
    still = head_not_free after next.number ((shapes_too next.number).kind ∙ is_head)

    there : (at.datasets next.number).kind ≢ Free
    there = head_not_free at next.number is_head

    -- what was reached at first is known, so it doesn't enter now
    unknown : (b : Block) → Contains step.entered b → (bytes : List ℕ) → mid b ≡ Some bytes → ⊥
    unknown b new bytes known = let clash : None ≡ Some bytes = sym (step.entered_are.fresh b new) ∙ known in cc

    entered_apart : (b : Block) → Contains step.entered b → IsReached at.datasets b → ⊥
    entered_apart b new was =
        let known = reached_known mid group objects so_far.changes at reads first.chains b was in
        unknown b new known.0 known.1

    entered_first : (b : Block) → Contains step.entered b → IsReached pool.datasets b → ⊥
    entered_first b new was =
        let known = reached_known planned group objects old.changes pool readings spelled.chains b was in
        unknown b new known.0 (before b known.0 known.1)

    may : MayDo at (Overwrite next.number step.left step.entered)
    may = (is_head, is_writable, λ b new. (step.entered_are.born b new ∙ sym first.chains.now, entered_apart b new))

    freed : AreFreed at.datasets after.datasets left_too
    freed = frees at after (Overwrite next.number step.left step.entered) left_too first.chains.sound may step.made

    -- what is freed was there at first
    freed_first : (b : Block) → Contains left_too b → IsReached pool.datasets b
    freed_first b away =
        (next.number, subst (λ (x : Dataset). Contains x.blocks b) same_there.0 (freed_was at next.number step.left step.entered left_too after step.made b away))

    kept_too : (b : Block) → IsReached at.datasets b → IsReached after.datasets b ⊎ Contains left_too b
    kept_too b was = kept_or_freed at next.number step.left step.entered left_too after step.made first.chains.sound is_head b was

    back : (b : Block) → IsReached after.datasets b → IsReached at.datasets b ⊎ Contains step.entered b
    back b is = reached_before at after (Overwrite next.number step.left step.entered) left_too first.chains.sound may step.made b is

    joined_too : (b : Block) → Contains (first.added ++ step.entered) b → IsReached after.datasets b
    joined_too b new = elim (Contains-append_cases first.added step.entered b new) [
      | inr entered ↦ entered_reached at next.number step.left step.entered left_too after step.made b entered
      | inl sooner ↦ elim (kept_too b (first.joined b sooner)) [
        | inl stays ↦ stays
        | inr away ↦
            let known = reached_known planned group objects old.changes pool readings spelled.chains b (freed_first b away) in
            let clash : None ≡ Some known.0 = sym (first.added_are.fresh b sooner) ∙ known.1 in
            absurd cc
      ]
    ]

    left_all : (b : Block) → Contains (gone ++ left_too) b → IsReached pool.datasets b × ¬ IsReached after.datasets b
    left_all b away = elim (Contains-append_cases gone left_too b away) [
      | inl sooner ↦
          let it = first.left b sooner in (
            it.0,
            λ is. elim (back b is) [
              | inl was ↦ it.1 was
              | inr new ↦ entered_first b new it.0
            ],
          )
      | inr last ↦ (freed_first b last, ((freed.which b).0 last).1)
    ]

    gone_once : AreDistinct (gone ++ left_too)
    gone_once = distinct_counted (gone ++ left_too) (λ b. both_once b gone left_too (once_counted b gone first.once) (once_counted b left_too freed.once)
        (λ sooner last. (first.left b sooner).1 ((freed.which b).0 last).0))

    not_next : (m : ℕ) → ¬ Contains (numbers_of (done ++ next ∷ [])) m → m ≢ next.number
    not_next m not e = not (subst (Contains (numbers_of (done ++ next ∷ []))) (sym e) (number_last done next next.number (is_first next.number [])))

    others_too : (m : ℕ) → ¬ Contains (numbers_of (done ++ next ∷ [])) m → (after.datasets m ≡ pool.datasets m) × (now m ≡ readings m)
    others_too m not =
        let ne = not_next m not in
        let sooner = first.others m (λ there. not (number_before done next m there)) in (
          others_same at next.number step.left step.entered left_too after step.made m ne ∙ sooner.0,
          other_at reads next.number reading m ne ∙ sooner.1,
        )

    reads_too : (row : DirectoryRow) (volume : PlainVolume) → Contains old.directory row → Contains (numbers_of (done ++ next ∷ [])) row.object → NamesVolume pool readings row volume
        → (now row.object).array ≡ (after_writes volume writes).bytes
    reads_too row volume there_is in_all names = elim (number_cases done next row.object in_all) [
      | inl sooner ↦
          ap (λ (x : Reading). x.array) (other_at reads next.number reading row.object (λ e. apart (subst (Contains (numbers_of done)) e sooner)))
          ∙ first.reads row volume there_is sooner names
      | inr e ↦
          let one : named.row ≡ row = one_row old.directory named.row row spelled.names.numbers.once named.held there_is (named.is ∙ e) in
          let same : no_clone named.volume ≡ no_clone volume = one_volume pool readings row named.volume volume (subst (λ (r : DirectoryRow). NamesVolume pool readings r named.volume) one named.names) names in
          ap (λ k. (now k).array) (sym e) ∙ ap (λ (x : Reading). x.array) (same_at reads next.number reading) ∙ same_bytes_after named.volume volume writes same
    ]

    pub one_more : AreHeadsWritten planned later group objects old new pool after readings now writes (done ++ next ∷ []) (gone ++ left_too)
    one_more = record {
      chains = step.chains;
      fresh = λ number le within. still_fresh mid later group objects so_far.changes new.changes at after reads now next.number first.chains step.chains there still touched step.list number
          (first.fresh number (subst (λ k. k ≤ number) numbers_are.0 le) (subst (λ b. IsWithin b number) numbers_are.1 within));
      unmixed = still_unmixed mid later group objects so_far.changes new.changes at after reads now next.number first.chains step.chains there still touched step.list first.unmixed;
      shapes = shapes_on pool at after first.shapes shapes_too;
      next = λ m. ap (λ (p : Pool). p.next m) step.made.new_is ∙ first.next m;
      others = others_too;
      block_size = at_each reads next.number reading (λ k x. x.block_size ≡ (readings k).block_size) (first.block_size next.number) (λ k ne. first.block_size k);
      reads = reads_too;
      added = first.added ++ step.entered;
      added_are = newly_on group planned mid later first.added step.entered before more first.added_are step.entered_are;
      adds = adds_on planned mid later first.adds step.adds;
      kept = λ b was. elim (first.kept b was) [
        | inr away ↦ inr (Contains-append_left gone left_too b away)
        | inl stays ↦ elim (kept_too b stays) [
          | inl is ↦ inl is
          | inr away ↦ inr (Contains-append_right gone left_too b away)
        ]
      ];
      from = λ b is. elim (back b is) [
        | inr new ↦ inr (Contains-append_right first.added step.entered b new)
        | inl was ↦ elim (first.from b was) [
          | inl at_first ↦ inl at_first
          | inr sooner ↦ inr (Contains-append_left first.added step.entered b sooner)
        ]
      ];
      joined = joined_too;
      left = left_all;
      once = gone_once;
    }

-- what is planned of these heads, and freed of them
abbrev pub AreWrittenSoFar : Store → Contents → Contents → ℕ → (ℕ → Option Object) → GroupDatasets → GroupDatasets → Pool → (ℕ → Reading) → List Write → List WrittenHead → List Block → List Block → Type 0
AreWrittenSoFar store stored planned group objects old new pool readings writes done before freed =
    (later : Contents) × Plans store stored later × Extends planned later × (after : Pool) × (now : ℕ → Reading) × (gone : List Block) × (freed ≡ before ++ gone)
    × AreHeadsWritten planned later group objects old new pool after readings now writes done gone
