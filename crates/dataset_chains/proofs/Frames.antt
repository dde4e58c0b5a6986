-- What a dataset keeps where others change.
use Rattle.std.proofs.Common.{◌≡◌, ◌↔◌, ◌≤◌, ℕ, List, Option, sym, ap, subst, ◌∙◌, arith}
use Rattle.block_pointer.specs.declared.block.Block.{Block}
use Rattle.block_store.specs.Blocks.{Contents, Extends}
use Rattle.dataset_changes.specs.Over.{AreOver, HasListNow, HasRecordNow}
use Rattle.dataset_changes.specs.States.{HaveSameLists, list_at}
use Rattle.dataset_changes.specs.declared.changes.DatasetChanges.{DatasetChanges}
use Rattle.dead_list.specs.Datasets.{Dataset, Pool}
use Rattle.meta_objset.specs.declared.record.DatasetKind.TheVariants.{Snapshot}
use Rattle.meta_objset.specs.declared.record.DatasetRecord.{DatasetRecord}
use Rattle.objset.specs.Objects.{Object}
use Rattle.objset.proofs.Kept.{objects_stand}
use Rattle.dataset_chains.specs.Chains.{HasCloneCount, HasDataset, LeadsTo, Reading, SpellsChains}
use Rattle.dataset_chains.proofs.RecordsNow.{list_stays}

-- a record leads to its blocks where more is known, and for a later group
pub leads_stay : (known later : Contents) (bound birth : ℕ) (r : DatasetRecord) (blocks : List Block) (reading : Reading) → bound ≤ birth → Extends known later
    → LeadsTo known bound r blocks reading → LeadsTo later birth r blocks reading
leads_stay known later bound birth r blocks reading le more leads =
    let is = leads.bytes in
    record {
      size = leads.size;
      block_size = leads.block_size;
      bytes = record {
        set = is.set;
        is_set = record {
          asks = record { property = is.is_set.asks.property; birth = let early = is.is_set.asks.birth in omega (arith, early, le) };
          bytes = is.is_set.bytes;
          known = more r.object_set is.is_set.bytes is.is_set.known;
          spelled = is.is_set.spelled;
        };
        kind = is.kind;
        has = record {
          objects = is.has.objects;
          own = is.has.own;
          blocks = is.has.blocks;
          are = objects_stand known later r.object_set.birth r.object_set.birth is.set is.has.objects is.has.own is.has.blocks (omega arith)
              (λ block bytes held there. more block bytes there) is.has.are;
          data_is = is.has.data_is;
        };
      };
      blocks_are = leads.blocks_are;
    }

-- a record of the same shape with the same object set leads to the same blocks
pub leads_alike : (known : Contents) (birth : ℕ) (r s : DatasetRecord) (blocks : List Block) (reading : Reading) → r.size ≡ s.size → r.block_size ≡ s.block_size → r.object_set ≡ s.object_set
    → LeadsTo known birth r blocks reading → LeadsTo known birth s blocks reading
leads_alike known birth r s blocks reading size block_size object_set leads =
    let one = subst (λ (n : ℕ). LeadsTo known birth (record r { size = n }) blocks reading) size leads in
    let two = subst (λ (n : ℕ). LeadsTo known birth (record r { size = s.size; block_size = n }) blocks reading) block_size one in
    let three = subst (λ (b : Block). LeadsTo known birth (record r { size = s.size; block_size = s.block_size; object_set = b }) blocks reading) object_set two in
    record { size = three.size; block_size = three.block_size; bytes = three.bytes; blocks_are = three.blocks_are }

module _ (known later : Contents) (group : ℕ) (objects : ℕ → Option Object) (old new : DatasetChanges) (pool is : Pool) (readings reads : ℕ → Reading) where
  -- a dataset of which at most what comes next changes, and how many clones it has
  pub stays : (m next count : ℕ) → Extends known later
      → (has : HasDataset known group objects old pool readings m)
      → HasRecordNow objects new m (record has.r { next = next; clones = count })
      → list_at new has.r.dead_list ≡ list_at old has.r.dead_list
      → is.datasets m ≡ pool.datasets m → reads m ≡ readings m
      → (has.r.kind ≡ Snapshot → is.next m ≡ next)
      → HasCloneCount is m count
      → HasDataset later group objects new is reads m
  stays m next count more has now list same read after clones =
      let leads = leads_stay known later group group has.r (pool.datasets m).blocks (readings m) (omega arith) more has.leads in
      record {
        behind = has.behind;
        r = record has.r { next = next; clones = count };
        has = now;
        is = record {
          kind = ap (λ (x : Dataset). x.kind) same ∙ has.is.kind;
          created = ap (λ (x : Dataset). x.group) same ∙ has.is.created;
          previous = ap (λ (x : Dataset). x.before) same ∙ has.is.previous;
          next = after;
        };
        clones = clones;
        leads = subst (λ (x : Dataset). LeadsTo later group (record has.r { next = next; clones = count }) x.blocks (reads m)) (sym same)
            (subst (λ (reading : Reading). LeadsTo later group (record has.r { next = next; clones = count }) (pool.datasets m).blocks reading) (sym read)
            (record { size = leads.size; block_size = leads.block_size; bytes = leads.bytes; blocks_are = leads.blocks_are }));
        list_behind = has.list_behind;
        dead = subst (λ (x : Dataset). HasListNow objects new has.r.dead_list x.dead) (sym same) (list_stays objects old new has.r.dead_list (pool.datasets m).dead list has.dead);
      }

-- what was read changes nothing
pub read_spells : (known : Contents) (group : ℕ) (objects : ℕ → Option Object) (old new : DatasetChanges) (pool : Pool) (readings : ℕ → Reading) → AreOver objects new
    → ((m : ℕ) (r : DatasetRecord) → HasRecordNow objects new m r ↔ HasRecordNow objects old m r) → HaveSameLists old new
    → SpellsChains known group objects old pool readings → SpellsChains known group objects new pool readings
read_spells known group objects old new pool readings over same lists spells = record {
  over = over;
  sound = spells.sound;
  now = spells.now;
  each = λ m kind.
      let has = spells.each m kind in
      record {
        behind = has.behind;
        r = has.r;
        has = (same m has.r).1 has.has;
        is = has.is;
        clones = has.clones;
        leads = has.leads;
        list_behind = has.list_behind;
        dead = list_stays objects old new has.r.dead_list (pool.datasets m).dead (lists has.r.dead_list) has.dead;
      };
  none = λ m kind. record { is = (spells.none m kind).is; none = λ r there. (spells.none m kind).none r ((same m r).0 there) };
  apart = λ m k r s one two e. spells.apart m k r s ((same m r).0 one) ((same k s).0 two) e;
}
