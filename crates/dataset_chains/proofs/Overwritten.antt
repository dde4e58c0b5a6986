-- What becomes of chains where a head is overwritten.
use Rattle.std.proofs.Common.{◌≡◌, ◌≢◌, ◌↔◌, ℕ, List, ◌++◌, length, Option, Some, inl, inr, refl, sym, ap, subst, ◌∙◌}
use Rattle.std.proofs.lemmas.Bool.{cases_eq}
use Rattle.std.proofs.lemmas.List.Sorted.{IsPermutation-refl}
use Rattle.block_pointer.specs.declared.block.Block.{Block}
use Rattle.block_store.specs.Blocks.{Contents, Extends}
use Rattle.dataset_changes.specs.Over.{AreOver, HasListNow, HasRecordNow}
use Rattle.dataset_changes.specs.States.{HasListPut, HasRecordPut, HaveSameLists, HaveSameRecords, IsNumber, record_at, with_record}
use Rattle.dataset_changes.specs.declared.changes.DatasetChanges.{DatasetChanges}
use Rattle.dataset_changes.specs.declared.states.ListState.{ListState}
use Rattle.dead_list.specs.Blocks.{IsSplit}
use Rattle.dead_list.specs.Datasets.{Free, Head, Dataset, Pool, group_before, updated}
use Rattle.dead_list.specs.Operations.{AreNew, IsHead, IsWritable, Makes, Overwrite, with_dataset}
use Rattle.dead_list.specs.Sound.{IsSound}
use Rattle.dead_list.proofs.Steps.{stays_sound}
use Rattle.dead_list.proofs.Updates.{same_at, other_at, at_each}
use Rattle.meta_objset.specs.declared.record.DatasetRecord.{DatasetRecord}
use Rattle.objset.specs.Objects.{Object}
use Rattle.dataset_chains.specs.Chains.{HasCloneCount, HasDataset, HasNoDataset, LeadsTo, Reading, SpellsChains, kind_of}
use Rattle.dataset_chains.specs.Making.{AreRewritten}
use Rattle.dataset_chains.specs.Passing.{IsRecordAlone}
use Rattle.dataset_chains.proofs.Counting.{IsCloneOf, count_stays}
use Rattle.dataset_chains.proofs.Frames.{leads_alike, stays}
use Rattle.dataset_chains.proofs.NewHeads.{WasListed}
use Rattle.dataset_chains.proofs.RecordsNow.{put_alone, record_stays, record_was}

-- what a group writes to a head: the record that leads to its blocks, what it reads as, and which blocks left it and entered it
pub record IsRewrite (later : Contents) (group : ℕ) (pool : Pool) (h : ℕ) (was reading : Reading) (b : Block) (left after entered : List Block) : Type 0 where
  pub head : IsHead pool.datasets h
  pub writable : IsWritable pool h
  pub entered_new : AreNew pool entered
  pub r : DatasetRecord
  pub set_is : r.object_set ≡ b
  pub leads : LeadsTo later group r after reading
  pub block_size : reading.block_size ≡ was.block_size
  pub size : r.size ≡ length was.array
  pub rewritten : AreRewritten (pool.datasets h).blocks after left entered

module _ (known later : Contents) (group : ℕ) (objects : ℕ → Option Object) (old mid new : DatasetChanges) (pool : Pool) (readings : ℕ → Reading) (h : ℕ) (found : DatasetRecord) (b : Block)
    (spells : SpellsChains known group objects old pool readings) (alone : IsRecordAlone objects old h found)
    (left after entered gone older : List Block) (reading : Reading) (rewrite : IsRewrite later group pool h (readings h) reading b left after entered) where
  not_free : (pool.datasets h).kind ≢ Free
  not_free free = let head : (pool.datasets h).kind ≡ Head = rewrite.head in cc

  has : HasDataset known group objects old pool readings h
  has = spells.each h not_free

  head_is : has.r ≡ found
  head_is = (alone has.r).0 has.has

  before_is : (pool.datasets h).before ≡ found.previous
  before_is = has.is.previous ∙ ap (λ (r : DatasetRecord). r.previous) head_is

  abbrev pub written : Dataset
  written = record (pool.datasets h) { blocks = after; dead = (pool.datasets h).dead ++ older }

  abbrev pub is : Pool
  is = with_dataset pool h written

  abbrev pub reads : ℕ → Reading
  reads = updated readings h reading

  abbrev pub record_written : DatasetRecord
  record_written = record found { object_set = b }

  at_h : is.datasets h ≡ written
  at_h = same_at pool.datasets h written

  same_clones : (m k : ℕ) → IsCloneOf is m k ↔ IsCloneOf pool m k
  same_clones m k =
      let same = at_each pool.datasets h written (λ k x. x.before ≡ (pool.datasets k).before) refl (λ k ne. refl) k in
      (λ there. (sym same ∙ there.0, there.1), λ there. (same ∙ there.0, there.1))

  module _ (split : IsSplit (group_before pool.datasets h) left gone older) where
    pub made : Makes pool (Overwrite h left entered) gone is
    made = record {
      blocks = after;
      dead = (pool.datasets h).dead ++ older;
      older = older;
      leave = rewrite.rewritten.leave;
      enter = rewrite.rewritten.enter;
      once = rewrite.rewritten.once;
      split = split;
      dead_are = IsPermutation-refl ((pool.datasets h).dead ++ older);
      new_is = refl;
    }

    sound : IsSound is
    sound = stays_sound pool is (Overwrite h left entered) gone spells.sound (rewrite.head, rewrite.writable, rewrite.entered_new) made

    module _ (more : Extends known later) (put : HasRecordPut old h (Some (with_record (record_at old h) record_written)) mid) (unlisted : HaveSameLists old mid) (same : HaveSameRecords mid new)
        (list_put : (state : Option ListState) × HasListPut mid found.dead_list state new) (over : AreOver objects new)
        (dead : HasListNow objects new found.dead_list ((pool.datasets h).dead ++ older)) where
      now_alone : IsRecordAlone objects mid h record_written
      now_alone = put_alone objects old mid h record_written put

      records : (m : ℕ) → m ≢ h → record_at new m ≡ record_at old m
      records m ne = same m ∙ put.1 m ne

      has_head : HasDataset later group objects new is reads h
      has_head = record {
        behind = has.behind;
        r = record_written;
        has = record_stays objects mid new h record_written (same h) ((now_alone record_written).1 refl);
        is = record {
          kind = ap (λ (x : Dataset). x.kind) at_h ∙ has.is.kind ∙ ap (λ (r : DatasetRecord). kind_of r.kind) head_is;
          created = ap (λ (x : Dataset). x.group) at_h ∙ has.is.created ∙ ap (λ (r : DatasetRecord). r.created) head_is;
          previous = ap (λ (x : Dataset). x.before) at_h ∙ before_is;
          next = λ e. has.is.next (ap (λ (r : DatasetRecord). r.kind) head_is ∙ e) ∙ ap (λ (r : DatasetRecord). r.next) head_is;
        };
        clones = count_stays pool is h found.clones (same_clones h) (subst (λ (r : DatasetRecord). HasCloneCount pool h r.clones) head_is has.clones);
        leads = subst (λ (x : Dataset). LeadsTo later group record_written x.blocks (reads h)) (sym at_h)
            (subst (λ (reading : Reading). LeadsTo later group record_written after reading) (sym (same_at readings h reading))
            (leads_alike later group rewrite.r record_written after reading
            (rewrite.size ∙ sym has.leads.size ∙ ap (λ (r : DatasetRecord). r.size) head_is)
            (rewrite.leads.block_size ∙ rewrite.block_size ∙ sym has.leads.block_size ∙ ap (λ (r : DatasetRecord). r.block_size) head_is)
            rewrite.set_is rewrite.leads));
        list_behind = subst (λ (r : DatasetRecord). IsNumber r.dead_list) head_is has.list_behind;
        dead = subst (λ (x : Dataset). HasListNow objects new found.dead_list x.dead) (sym at_h) dead;
      }

      others : (m : ℕ) → m ≢ h → (pool.datasets m).kind ≢ Free → HasDataset later group objects new is reads m
      others m ne kind =
          let it = spells.each m kind in
          let apart : it.r.dead_list ≢ found.dead_list = λ e. ne (spells.apart m h it.r found it.has ((alone found).1 refl) e) in
          stays known later group objects old new pool is readings reads m it.r.next it.r.clones more it
          (record_stays objects old new m it.r (records m ne) it.has) (list_put.1.1 it.r.dead_list apart ∙ unlisted it.r.dead_list)
          (other_at pool.datasets h written m ne) (other_at readings h reading m ne) it.is.next (count_stays pool is m it.r.clones (same_clones m) it.clones)

      was : (m : ℕ) (s : DatasetRecord) → HasRecordNow objects new m s → WasListed objects old m s
      was m s there = elim (cases_eq m h) [
        | inl e ↦
            let s_is : s ≡ record_written = (now_alone s).0 (record_was objects mid new h s (same h) (subst (λ (k : ℕ). HasRecordNow objects new k s) e there)) in
            subst (λ (k : ℕ). WasListed objects old k s) (sym e) (found, (alone found).1 refl, ap (λ (r : DatasetRecord). r.dead_list) s_is)
        | inr ne ↦ (s, record_was objects old new m s (records m ne) there, refl)
      ]

      none : (m : ℕ) → (is.datasets m).kind ≡ Free → HasNoDataset objects new is m
      none m kind =
          let kept = at_each pool.datasets h written (λ k x. x.kind ≡ (pool.datasets k).kind) refl (λ k ne. refl) m in
          let free = spells.none m (sym kept ∙ kind) in
          let ne : m ≢ h = λ e. not_free (sym (ap (λ (k : ℕ). (pool.datasets k).kind) e) ∙ sym kept ∙ kind) in
          record { is = other_at pool.datasets h written m ne ∙ free.is; none = λ s there. let w = was m s there in free.none w.0 w.1 }

      pub spelled : SpellsChains later group objects new is reads
      spelled = record {
        over = over;
        sound = sound;
        now = spells.now;
        each = λ m kind. elim (cases_eq m h) [
          | inl e ↦ subst (HasDataset later group objects new is reads) (sym e) has_head
          | inr ne ↦ others m ne (λ free. kind (ap (λ (x : Dataset). x.kind) (other_at pool.datasets h written m ne) ∙ free))
        ];
        none = none;
        apart = λ m k a c one two e. let w = was m a one in let v = was k c two in spells.apart m k w.0 v.0 w.1 v.1 (sym w.2 ∙ e ∙ v.2);
      }
