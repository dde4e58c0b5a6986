-- What becomes of chains where a clone is made.
use Rattle.std.proofs.Common.{◌≡◌, ◌≢◌, ◌↔◌, ◌+◌, ℕ, [], Option, Some, refl, sym, ap, subst, ◌∙◌}
use Rattle.block_store.specs.Blocks.{Contents}
use Rattle.dataset_changes.specs.Over.{AreOver, HasRecordNow}
use Rattle.dataset_changes.specs.States.{HasListPut, HasRecordPut, HaveSameLists, HaveSameRecords, list_at, record_at, with_record}
use Rattle.dataset_changes.specs.declared.changes.DatasetChanges.{DatasetChanges}
use Rattle.dataset_changes.specs.declared.states.ListState.TheVariants as lists
use Rattle.dataset_changes.specs.declared.states.RecordState.TheVariants as records
use Rattle.dead_list.specs.Datasets.{Free, Snapshot, Dataset, Pool, updated}
use Rattle.dead_list.specs.Operations.{IsSnapshot, IsUnused, MakeClone, clone_of, with_dataset}
use Rattle.dead_list.proofs.Steps.{stays_sound}
use Rattle.dead_list.proofs.Updates.{same_at, other_at}
use Rattle.meta_objset.specs.declared.record.DatasetKind.TheVariants.{Volume}
use Rattle.meta_objset.specs.declared.record.DatasetRecord.{DatasetRecord}
use Rattle.objset.specs.Objects.{Object}
use Rattle.dataset_chains.specs.Chains.{HasCloneCount, HasDataset, LeadsTo, Reading, SpellsChains}
use Rattle.dataset_chains.specs.Passing.{IsRecordAlone}
use Rattle.dataset_chains.proofs.Chained.{alone_on}
use Rattle.dataset_chains.proofs.Counting.{IsCloneOf, count_more}
use Rattle.dataset_chains.proofs.Frames.{stays}
use Rattle.dataset_chains.proofs.NewHeads.{IsHeadFor, WasListed, head_spells}
use Rattle.dataset_chains.proofs.RecordsNow.{made_alone, put_alone}
use Rattle.dataset_chains.proofs.Unused as free

module _ (known : Contents) (group : ℕ) (objects : ℕ → Option Object) (old : DatasetChanges) (pool : Pool) (readings : ℕ → Reading)
    (spells : SpellsChains known group objects old pool readings) (s n list count : ℕ) (found : DatasetRecord) (alone : IsRecordAlone objects old s found)
    (snapshot : IsSnapshot pool.datasets s) (unused : IsUnused pool.datasets n) (fresh : free.IsNewList objects old n list) (counted : count ≡ found.clones + 1) where
  s_kind : (pool.datasets s).kind ≢ Free
  s_kind free = let kind : (pool.datasets s).kind ≡ Snapshot = snapshot in cc

  some : s ≢ 0
  some = free.some_number known group objects old pool readings spells s s_kind

  ne : s ≢ n
  ne = free.not_unused known group objects old pool readings spells n list unused fresh s s_kind

  has : HasDataset known group objects old pool readings s
  has = spells.each s s_kind

  is_found : has.r ≡ found
  is_found = (alone has.r).0 has.has

  abbrev more_clones : DatasetRecord
  more_clones = record found { clones = count }

  -- the record of the clone
  abbrev pub clone_record : DatasetRecord
  clone_record = record found { kind = Volume; created = group; previous = s; next = 0; clones = 0; dead_list = list }

  abbrev d : Dataset
  d = clone_of pool s

  abbrev is : Pool
  is = with_dataset pool n d

  abbrev reads : ℕ → Reading
  reads = updated readings n (readings s)

  free_before : (pool.datasets n).before ≡ 0
  free_before = ap (λ (x : Dataset). x.before) unused.1

  no_clone : ¬ IsCloneOf pool s n
  no_clone there = some (sym there.0 ∙ free_before)

  is_clone : IsCloneOf is s n
  is_clone = (
    ap (λ (x : Dataset). x.before) (same_at pool.datasets n d),
    λ e. some (sym (spells.sound.followed s snapshot) ∙ sym (ap (λ (k : ℕ). (pool.datasets k).before) e) ∙ free_before),
  )

  same_clones : (m : ℕ) → m ≢ n → IsCloneOf is s m ↔ IsCloneOf pool s m
  same_clones m other =
      let same : (is.datasets m).before ≡ (pool.datasets m).before = ap (λ (x : Dataset). x.before) (other_at pool.datasets n d m other) in
      (λ there. (sym same ∙ there.0, there.1), λ there. (same ∙ there.0, there.1))

  clones : HasCloneCount is s count
  clones = subst (HasCloneCount is s) (ap (λ (r : DatasetRecord). r.clones + 1) is_found ∙ sym counted) (count_more pool is s has.r.clones n no_clone is_clone same_clones has.clones)

  head : IsHeadFor known group n list d clone_record (readings s)
  head =
      let leads = subst (λ (r : DatasetRecord). LeadsTo known group r (pool.datasets s).blocks (readings s)) is_found has.leads in
      record {
        kind = refl;
        is = refl;
        created = spells.now;
        previous = refl;
        dead = refl;
        clones = refl;
        list_is = refl;
        behind = ne;
        leads = record { size = leads.size; block_size = leads.block_size; bytes = leads.bytes; blocks_are = leads.blocks_are };
      }

  module _ (mid made new : DatasetChanges) (put : HasRecordPut old s (Some (with_record (record_at old s) more_clones)) mid) (record_made : HasRecordPut mid n (Some (records.Made clone_record)) made)
      (same : HaveSameRecords made new) (first : HaveSameLists old mid) (second : HaveSameLists mid made) (list_made : HasListPut made list (Some (lists.Made [])) new) (over : AreOver objects new) where
    now_alone : IsRecordAlone objects new s more_clones
    now_alone = alone_on objects mid new s more_clones (same s ∙ record_made.1 s ne) (put_alone objects old mid s more_clones put)

    other_lists : (k : ℕ) → k ≢ list → list_at new k ≡ list_at old k
    other_lists k other = list_made.1 k other ∙ second k ∙ first k

    origin : HasDataset known group objects new is reads s
    origin =
        stays known known group objects old new pool is readings reads s has.r.next count (λ block bytes there. there) has
        ((now_alone (record has.r { clones = count })).1 (ap (λ (r : DatasetRecord). record r { clones = count }) is_found))
        (other_lists has.r.dead_list (free.unnamed known group objects old pool readings spells n list unused fresh s has.r has.has))
        (other_at pool.datasets n d s ne) (other_at readings n (readings s) s ne) has.is.next clones

    origin_was : (r : DatasetRecord) → HasRecordNow objects new s r → WasListed objects old s r
    origin_was r there = (found, (alone found).1 refl, ap (λ (x : DatasetRecord). x.dead_list) ((now_alone r).0 there))

    pub cloned : SpellsChains known group objects new (with_dataset pool n (clone_of pool s)) (updated readings n (readings s))
    cloned =
        head_spells known group objects old pool readings spells n list unused fresh new d clone_record (readings s) head
        (made_alone objects old new n clone_record (same n ∙ record_made.0)) list_made.0 over
        (stays_sound pool is (MakeClone s n) [] spells.sound (snapshot, unused) (refl, refl))
        (λ m other apart. same m ∙ record_made.1 m other ∙ put.1 m (λ e. some (apart e))) other_lists (λ some kind. origin) (λ some. origin_was)
