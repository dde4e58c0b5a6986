-- One head that a group writes to.
use Rattle.std.proofs.Common.{◌≡◌, ◌≢◌, ℕ, ◌<◌, ◌≤◌, List, [], length, Option, Some, None, Contains, inl, inr, refl, sym, ap, subst, ◌∙◌, arith}
use Rattle.std.specs.Prelude.{IsPermutation}
use Rattle.std.proofs.lemmas.Bool.{cases_lt}
use Rattle.std.proofs.lemmas.List.{append-nil}
use Rattle.std.proofs.lemmas.List.Elements.{All-nil}
use Rattle.std.proofs.lemmas.List.Sorted.{IsPermutation-refl}
use Rattle.block_pointer.specs.declared.block.Block.{Block}
use Rattle.block_store.specs.Blocks.{Contents}
use Rattle.dataset_destroys.specs.Chains.{HasDataset, LeadsTo, Reading, SpellsChains}
use Rattle.dataset_destroys.specs.ChainMaking.{AreRewritten}
use Rattle.dataset_destroys.specs.ChainTouched.{HasSameList}
use Rattle.dataset_destroys.proofs.ChainRecordsNow.{one_record_now}
use Rattle.dataset_destroys.specs.DatasetChanges.{DatasetChanges}
use Rattle.dead_list.specs.Blocks.{IsDifference, IsSplit}
use Rattle.dead_list.specs.Datasets.{Dataset, Free, Head, IsReached, Pool, group_before, updated}
use Rattle.dead_list.specs.Operations.{AreNew, IsHead, Makes, Overwrite, with_dataset}
use Rattle.dead_list.proofs.Updates.{at_each}
use Rattle.dnode_tree.proofs.SameBlocks.{counted, found, same_as}
use Rattle.dnode_tree.specs.Freeing.{AreOnlyIn}
use Rattle.dnode_tree.specs.Rewriting.{AreDistinct}
use Rattle.meta_objset.specs.declared.record.DatasetRecord.{DatasetRecord}
use Rattle.objset.specs.Objects.{Object}
use Rattle.std.specs.List.{count_by}
use Rattle.volume.specs.declared.placing.Rewritten.{Rewritten}
use Rattle.volume.specs.Placing.{IsPlaced}
use Rattle.volume.specs.Volume.{HasShape}
use Rattle.volume.specs.Writing.{AreBlocksOf, IsArrayWith}
use Rattle.dataset_groups.specs.declared.writing.WrittenHead.{WrittenHead}
use Rattle.dataset_groups.specs.Heads.{AreNewlyKnown, IsHeadWritten, IsWrittenTo, reading_with}
use Rattle.dataset_groups.specs.Leaving.{IsReachExchanged}
use Rattle.dataset_groups.proofs.Copied.{adds_none}
use Rattle.dataset_groups.proofs.Exchanges.{after_once, gone_are}
use Rattle.dataset_groups.proofs.KeptVolumes.{HasVolumeBlocks}
use Rattle.dataset_groups.proofs.KnownBlocks.{reached_known}
use Rattle.dataset_groups.proofs.ListParts.{nothing_in}
use Rattle.dataset_groups.proofs.VolumeBlocks.{volume_idle, volume_placed}
use Rattle.dataset_groups.proofs.WrittenReach.{held_or_not}

none_counted : (blocks : List Block) (block : Block) → ¬ Contains blocks block → count_by (same_as block) blocks ≡ 0
none_counted blocks block not = elim (cases_lt 0 (count_by (same_as block) blocks)) [
  | inl some ↦ absurd (not (found block blocks some))
  | inr none ↦ omega (arith, none)
]

not_free : (pool : Pool) (n : ℕ) → IsHead pool.datasets n → (pool.datasets n).kind ≢ Free
not_free pool n head free = let wrong : Head ≡ Free = sym head ∙ free in cc

pub head_not_free : (pool : Pool) (n : ℕ) → IsHead pool.datasets n → (pool.datasets n).kind ≢ Free
head_not_free = not_free

-- ---- blocks were put to it

-- these blocks left it, and it has others, which read as the array
pub record IsPutTo (planned later : Contents) (group : ℕ) (pool : Pool) (readings : ℕ → Reading) (n : ℕ) (b : Block) (array : List ℕ) (left : List Block) : Type 0 where
  pub after : List Block
  pub leads : (r : DatasetRecord) → r.object_set ≡ b → r.size ≡ length (readings n).array → r.block_size ≡ (readings n).block_size
      → LeadsTo later group r after (reading_with (readings n) array)
  pub given : IsReachExchanged group planned later (pool.datasets n).blocks after left

pub put_to : (stored planned later : Contents) (bound group : ℕ) (pool : Pool) (readings : ℕ → Reading) (head : WrittenHead) (array : List ℕ) (done : Rewritten)
    → AreBlocksOf head.volume head.blocks.items → (to : IsWrittenTo stored bound pool readings head array) → HasShape done.volume head.volume.size head.volume.block_size
    → IsPlaced stored planned later bound group head.volume (readings head.number).array to.read.is head.blocks done
    → IsPutTo planned later group pool readings head.number done.volume.block array done.replaced.items
put_to stored planned later bound group pool readings head array done are to shape put =
    let n : ℕ = head.number in
    let is = to.read.is in
    let laid = subst (λ k. IsArrayWith (readings n).array k head.blocks.items array) (sym to.read.block_size) to.after in
    let made = volume_placed stored planned later bound group head.volume (readings n).array array is head.blocks done are laid shape.0 shape.1 put in
    record {
      after = made.0;
      leads = λ r set size bs.
          let spelled : HasVolumeBlocks later group r.object_set r.size r.block_size array made.0 =
          subst (λ (b : Block). HasVolumeBlocks later group b r.size r.block_size array made.0) (sym set)
          (subst (λ k. HasVolumeBlocks later group done.volume.block r.size k array made.0) (shape.1 ∙ to.read.block_size ∙ sym bs)
          (subst (λ k. HasVolumeBlocks later group done.volume.block k done.volume.block_size array made.0) (shape.0 ∙ sym is.has.data_is.size_is ∙ sym size) made.1)) in
          record { size = size ∙ sym to.after.size; block_size = bs; bytes = spelled.0; blocks_are = spelled.1 };
      given = subst (λ (bs : List Block). IsReachExchanged group planned later bs made.0 done.replaced.items) (sym to.read.blocks) made.2;
    }

module _ (planned : Contents) (group : ℕ) (objects : ℕ → Option Object) (changes : DatasetChanges) (pool : Pool) (readings : ℕ → Reading)
    (spells : SpellsChains planned group objects changes pool readings) (n : ℕ) where
  module _ (later : Contents) (b : Block) (array : List ℕ) (left : List Block) (head : IsHead pool.datasets n) (put : IsPutTo planned later group pool readings n b array left) where
    abbrev before : List Block
    before = (pool.datasets n).blocks

    known : (block : Block) → Contains before block → (bytes : List ℕ) × (planned block ≡ Some bytes)
    known block held = reached_known planned group objects changes pool readings spells block (n, held)

    distinct : AreDistinct before
    distinct = (spells.sound.fits n).once

    only : AreOnlyIn before put.after left
    only = gone_are group planned later before put.after left known distinct put.given

    unknown : (block : Block) → Contains put.given.added block → IsReached pool.datasets block → ⊥
    unknown block new reached =
        let there = reached_known planned group objects changes pool readings spells block reached in
        let clash : None ≡ Some there.0 = sym (put.given.fresh block new) ∙ there.1 in
        cc

    pub entered_new : AreNew pool put.given.added
    entered_new block held = (put.given.born block held ∙ sym spells.now, unknown block held)

    pub left_was : (block : Block) → Contains left block → Contains (pool.datasets n).blocks block
    left_was block held = ((only.which block).0 held).0

    in_after : (block : Block) → Contains put.after block → ¬ Contains before block → Contains put.given.added block
    in_after block held not =
        let some : 0 < count_by (same_as block) put.after = counted block put.after held in
        let none : count_by (same_as block) before ≡ 0 = none_counted before block not in
        found block put.given.added (omega (arith, some, none, put.given.before_are (same_as block), put.given.after_are (same_as block)))

    added_after : (block : Block) → Contains put.given.added block → Contains put.after block
    added_after block held = found block put.after (omega (arith, counted block put.given.added held, put.given.after_are (same_as block)))

    pub rewritten : AreRewritten (pool.datasets n).blocks put.after left put.given.added
    rewritten = record {
      leave = record {
        each = λ block held. elim (held_or_not put.after block) [
          | inl still ↦ inl still
          | inr not ↦ inr ((only.which block).1 (held, not))
        ];
        from = λ block held. (only.which block).0 held;
        once = only.once;
      };
      enter = record {
        each = λ block held. elim (held_or_not before block) [
          | inl there ↦ inl there
          | inr not ↦ inr (in_after block held not)
        ];
        from = λ block held. (added_after block held, λ there. unknown block held (n, there));
        once = put.given.once;
      };
      once = after_once group planned later before put.after left known distinct put.given;
    }

    pub newly_known : AreNewlyKnown group planned later put.given.added
    newly_known = record { once = put.given.once; fresh = put.given.fresh; born = put.given.born; known = put.given.known; only = put.given.only }

    -- its record with the new object set
    pub has : HasDataset planned group objects changes pool readings n
    has = spells.each n (not_free pool n head)

    abbrev pub record_after : DatasetRecord
    record_after = record has.r { object_set = b }

    pub leads_after : LeadsTo later group record_after put.after (reading_with (readings n) array)
    leads_after = put.leads record_after refl has.leads.size has.leads.block_size

    pub size_after : record_after.size ≡ length (readings n).array
    size_after = has.leads.size

  -- ---- none were

  same_list : HasSameList objects changes changes n
  same_list r s before after = ap (λ (t : DatasetRecord). t.dead_list) (one_record_now objects changes n s r after before)

  abbrev unchanged : Dataset
  unchanged = record (pool.datasets n) { blocks = (pool.datasets n).blocks; dead = (pool.datasets n).dead }

  abbrev same_pool : Pool
  same_pool = with_dataset pool n unchanged

  same_datasets : (m : ℕ) → pool.datasets m ≡ same_pool.datasets m
  same_datasets m = at_each pool.datasets n unchanged (λ k x. pool.datasets k ≡ x) refl (λ k ne. refl) m

  pool_is : pool ≡ same_pool
  pool_is i = record pool { datasets = λ m. same_datasets m i }

  none_left : IsDifference (pool.datasets n).blocks (pool.datasets n).blocks []
  none_left = record { each = λ block held. inl held; from = λ block held. absurd (nothing_in block held); once = λ i j d less low. absurd (omega (arith, low)) }

  none_split : IsSplit (group_before pool.datasets n) [] [] []
  none_split = record {
    parts = IsPermutation-refl [];
    after_are = All-nil (λ (block : Block). group_before pool.datasets n < block.birth);
    until_are = All-nil (λ (block : Block). block.birth ≤ group_before pool.datasets n);
  }

  none_made : Makes pool (Overwrite n [] []) [] same_pool
  none_made = record {
    blocks = (pool.datasets n).blocks;
    dead = (pool.datasets n).dead;
    older = [];
    leave = none_left;
    enter = none_left;
    once = (spells.sound.fits n).once;
    split = none_split;
    dead_are = subst (λ (list : List Block). IsPermutation list (pool.datasets n).dead) (sym (append-nil (pool.datasets n).dead)) (IsPermutation-refl (pool.datasets n).dead);
    new_is = refl;
  }

  module _ (array : List ℕ) (with : IsArrayWith (readings n).array (readings n).block_size [] array) where
    abbrev reads : ℕ → Reading
    reads = updated readings n (reading_with (readings n) array)

    leads_so : (r : DatasetRecord) (blocks : List Block) → LeadsTo planned group r blocks (readings n) → LeadsTo planned group r blocks (reading_with (readings n) array)
    leads_so r blocks leads =
        let idle = volume_idle planned group r.object_set r.size r.block_size (readings n).array array [] blocks (leads.bytes, leads.blocks_are) refl
        (subst (λ k. IsArrayWith (readings n).array k [] array) (sym leads.block_size) with) in
        record { size = leads.size ∙ sym with.size; block_size = leads.block_size; bytes = idle.0; blocks_are = idle.1 }

    leads_each : (m : ℕ) (r : DatasetRecord) (blocks : List Block) → LeadsTo planned group r blocks (readings m) → LeadsTo planned group r blocks (reads m)
    leads_each m r blocks =
        at_each readings n (reading_with (readings n) array) (λ k x. LeadsTo planned group r blocks (readings k) → LeadsTo planned group r blocks x) (leads_so r blocks) (λ k ne leads. leads) m

    spells_so : SpellsChains planned group objects changes pool reads
    spells_so = record {
      over = spells.over;
      sound = spells.sound;
      now = spells.now;
      each = λ m kind.
          let has = spells.each m kind in
          record {
            behind = has.behind;
            r = has.r;
            has = has.has;
            is = has.is;
            clones = has.clones;
            leads = leads_each m has.r (pool.datasets m).blocks has.leads;
            list_behind = has.list_behind;
            dead = has.dead;
          };
      none = spells.none;
      apart = spells.apart;
    }

    -- nothing left it, and nothing entered it
    pub not_written : (after : Pool) × IsHeadWritten planned planned group objects changes changes pool after readings n array []
    not_written = (
      same_pool,
      record {
        left = [];
        entered = [];
        made = none_made;
        entered_are = record {
          once = λ i j d less low. absurd (omega (arith, low));
          fresh = λ block held. absurd (nothing_in block held);
          born = λ block held. absurd (nothing_in block held);
          known = λ block held. absurd (nothing_in block held);
          only = λ block bytes is. inr is;
        };
        adds = adds_none planned;
        chains = subst (λ (p : Pool). SpellsChains planned group objects changes p reads) pool_is spells_so;
        list = same_list;
      },
    )
