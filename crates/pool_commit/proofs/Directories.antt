-- Directories that are kept, where other blocks are known.
use Rattle.std.proofs.Common.{◌≡◌, ℕ, List, [], Option, Some, None, sym, ◌∙◌, subst, arith}
use Rattle.block_pointer.specs.declared.block.Block.{Block}
use Rattle.block_store.specs.Blocks.{Contents, Extends}
use Rattle.block_store.specs.declared.refusal.Refusal.{Refusal as StoreRefusal}
use Rattle.block_store.specs.Store.{Store}
use Rattle.dataset_snapshots.proofs.Readings.{roots_spell_one_pool}
use Rattle.dataset_snapshots.proofs.Standing.{roots_stand}
use Rattle.dataset_snapshots.specs.Laws.{KeepsEach}
use Rattle.dataset_snapshots.specs.Pools.{SpellsPool}
use Rattle.dataset_snapshots.specs.Reach.{reach_of}
use Rattle.meta_objset.specs.Reading.{HasStaleSpans}
use Rattle.meta_objset.specs.declared.directory.DirectoryRow.{DirectoryRow}
use Rattle.meta_objset.specs.declared.stale_spans.StaleSpan.{StaleSpan}
use Rattle.pool_model.specs.Pools.{Entry, PlainPool}
use Rattle.volume_rules.specs.Parting.{Parted, parted_of, with_made}
use Rattle.dataset_snapshots.specs.Creating.{stale_after}
use Rattle.dataset_snapshots.specs.Demands.{IsGroupRefused}
use Rattle.dataset_snapshots.specs.FirstGroup.{IsFirstRefused}
use Rattle.objset.specs.Objects.{Object}
use Rattle.vdev_label.specs.declared.label.Config.{Config}
use Rattle.pool_commit.specs.Configs.{HasConfigAs}
use Rattle.vdev_label.specs.Plain.{PlainVdev, config_view}
use Rattle.pool_commit.specs.declared.kept.KeptGroup.{KeptGroup}
use Rattle.pool_commit.specs.Backs.{LeadsTo, SpellsGroup}
use Rattle.pool_commit.specs.Directories.{SpellsBy}
use Rattle.pool_commit.specs.Room.{IsNextRefused}

-- the same objects have the same table
config_of_same : (objects now : ℕ → Option Object) (vdevs : List PlainVdev) → now ≡ objects → HasConfigAs (objects 2) vdevs → HasConfigAs (now 2) vdevs
config_of_same objects now vdevs same has = subst (λ (them : ℕ → Option Object). HasConfigAs (them 2) vdevs) (sym same) has

spans_of_same : (objects now : ℕ → Option Object) (table : List StaleSpan) → now ≡ objects → HasStaleSpans (objects 3) table → HasStaleSpans (now 3) table
spans_of_same objects now table same has = subst (λ (them : ℕ → Option Object). HasStaleSpans (them 3) table) (sym same) has

-- the rows are those of the root still where the blocks that it leads to stay known
pub spells_by_stands : (old new : Contents) (group : ℕ) (root : Option Block) (pool : PlainPool) (rows : List DirectoryRow) (vdevs : List PlainVdev) (table : List StaleSpan)
    (blocks : List Block) → KeepsEach old new blocks → LeadsTo old group root pool blocks
    → SpellsBy old group root pool rows vdevs table → SpellsBy new group root pool rows vdevs table
spells_by_stands old new group (Some root) pool rows vdevs table blocks keeps leads by =
    let one = roots_spell_one_pool old group group root pool pool leads.0 by.0 in
    let reach : blocks ≡ reach_of by.0 = sym leads.1 ∙ one.1 in
    let there = roots_stand old new group group root pool (omega arith) by.0 (subst (KeepsEach old new) reach keeps) in
    (there.0, by.1 ∙ sym there.2, config_of_same by.0.objects there.0.objects vdevs there.4 by.2, spans_of_same by.0.objects there.0.objects table there.4 by.3)
spells_by_stands old new group None pool rows vdevs table blocks keeps leads by = by

-- and where more is known
pub spells_by_stays : (before later : Contents) (group : ℕ) (root : Option Block) (pool : PlainPool) (rows : List DirectoryRow) (vdevs : List PlainVdev) (table : List StaleSpan)
    → Extends before later → SpellsBy before group root pool rows vdevs table → SpellsBy later group root pool rows vdevs table
spells_by_stays before later group (Some root) pool rows vdevs table more by =
    let there = roots_stand before later group group root pool (omega arith) by.0 (λ block bytes held known. more block bytes known) in
    (there.0, by.1 ∙ sym there.2, config_of_same by.0.objects there.0.objects vdevs there.4 by.2, spans_of_same by.0.objects there.0.objects table there.4 by.3)
spells_by_stays before later group None pool rows vdevs table more by = by

-- a root that spells its group has the rows of a directory that is equal to the kept one
pub rows_spelled : (stored : Contents) (group : ℕ) (kept : KeptGroup) (pool : PlainPool) (root : Block) (rows : List DirectoryRow) → SpellsGroup stored group kept pool → kept.root ≡ Some root
    → rows ≡ kept.directory.value → (is : SpellsPool stored group root pool) × (rows ≡ is.rows)
rows_spelled stored group kept pool root rows spells is same =
    let by = subst (λ (o : Option Block). SpellsBy stored group o pool kept.directory.value (config_view kept.config.value) kept.spans_under.value) is spells.directory in
    (by.0, same ∙ by.1)

-- and so has any way in which the root spells its pool
pub rows_led : (stored : Contents) (group : ℕ) (kept : KeptGroup) (pool : PlainPool) (root : Block) (rows : List DirectoryRow) (is : SpellsPool stored group root pool)
    → SpellsGroup stored group kept pool → kept.root ≡ Some root → rows ≡ kept.directory.value → rows ≡ is.rows
rows_led stored group kept pool root rows is spells same by =
    let there = rows_spelled stored group kept pool root rows spells same by in
    let one = roots_spell_one_pool stored group group root pool pool there.0 is in
    there.1 ∙ one.2

-- and its table of the configuration has one that is named as the kept one
pub config_led : (stored : Contents) (group : ℕ) (kept : KeptGroup) (pool : PlainPool) (root : Block) (is : SpellsPool stored group root pool)
    → SpellsGroup stored group kept pool → kept.root ≡ Some root → HasConfigAs (is.objects 2) (config_view kept.config.value)
config_led stored group kept pool root is spells same =
    let by = subst (λ (o : Option Block). SpellsBy stored group o pool kept.directory.value (config_view kept.config.value) kept.spans_under.value) same spells.directory in
    let one = roots_spell_one_pool stored group group root pool pool is by.0 in
    config_of_same by.0.objects is.objects (config_view kept.config.value) one.4 by.2

-- and its table of stale spans has the kept ones
pub spans_led : (stored : Contents) (group : ℕ) (kept : KeptGroup) (pool : PlainPool) (root : Block) (is : SpellsPool stored group root pool)
    → SpellsGroup stored group kept pool → kept.root ≡ Some root → HasStaleSpans (is.objects 3) kept.spans_under.value
spans_led stored group kept pool root is spells same =
    let by = subst (λ (o : Option Block). SpellsBy stored group o pool kept.directory.value (config_view kept.config.value) kept.spans_under.value) same spells.directory in
    let one = roots_spell_one_pool stored group group root pool pool is by.0 in
    spans_of_same by.0.objects is.objects kept.spans_under.value one.4 by.3

-- ---- why the next group is refused, by the directory that is kept

pub first_refused : (old new : Store) (kept : KeptGroup) (group : ℕ) (spans : Option (List StaleSpan)) (items : Entry) (parted : Parted) (config : Config) (refusal : StoreRefusal)
    → parted ≡ parted_of items.actions → kept.root ≡ None → config ≡ kept.config.value
    → IsFirstRefused old new group (config_view config) (stale_after spans []) (with_made items parted) refusal
    → IsNextRefused old new kept.root kept.directory.value (config_view kept.config.value) group spans items refusal
first_refused old new kept group spans items parted config refusal is none its why =
    subst (λ (o : Option Block). IsNextRefused old new o kept.directory.value (config_view kept.config.value) group spans items refusal) (sym none)
    (subst (λ (at : Config). IsFirstRefused old new group (config_view at) (stale_after spans []) (with_made items (parted_of items.actions)) refusal) its
    (subst (λ (p : Parted). IsFirstRefused old new group (config_view config) (stale_after spans []) (with_made items p) refusal) is why))

pub later_refused : (old new : Store) (kept : KeptGroup) (root : Block) (group : ℕ) (spans : Option (List StaleSpan)) (items : Entry) (parted : Parted) (rows : List DirectoryRow)
    (refusal : StoreRefusal) → parted ≡ parted_of items.actions → kept.root ≡ Some root → rows ≡ kept.directory.value
    → IsGroupRefused old new root rows group spans parted.destroyed (with_made items parted) refusal
    → IsNextRefused old new kept.root kept.directory.value (config_view kept.config.value) group spans items refusal
later_refused old new kept root group spans items parted rows refusal is some by why =
    subst (λ (o : Option Block). IsNextRefused old new o kept.directory.value (config_view kept.config.value) group spans items refusal) (sym some)
    (subst (λ (p : Parted). IsGroupRefused old new root kept.directory.value group spans p.destroyed (with_made items p) refusal) is
    (subst (λ (list : List DirectoryRow). IsGroupRefused old new root list group spans parted.destroyed (with_made items parted) refusal) by why))
