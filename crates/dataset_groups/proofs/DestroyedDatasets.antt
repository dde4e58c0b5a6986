-- The datasets of a group once one was destroyed by its name.
use Rattle.std.proofs.Common.{◌≡◌, ◌≢◌, ◌++◌, ◌∷◌, ◌≤◌, ℕ, Bool, true, false, List, [], Option, Some, None, Contains, refl, sym, ap, subst, ◌∙◌}
use Rattle.std.specs.Prelude.{cond, filter, find, not, ◌||◌}
use Rattle.block_pointer.specs.declared.block.Block.{Block}
use Rattle.block_store.specs.Blocks.{Contents}
use Rattle.dataset_destroys.specs.Chains.{Reading, SpellsChains}
use Rattle.dataset_destroys.specs.Destroying.{IsDestroyed, MayDestroy}
use Rattle.dataset_destroys.specs.Touched.{TouchesOwnLists}
use Rattle.dead_list.specs.Datasets.{Pool, nothing}
use Rattle.dead_list.specs.Reach.{ReachHasEachOnce}
use Rattle.meta_objset.specs.declared.directory.DirectoryRow.{DirectoryRow}
use Rattle.meta_objset.specs.Directory.{IsDirectory, IsWithout}
use Rattle.meta_objset.specs.Names.{IsNamed}
use Rattle.objset.specs.Objects.{Object}
use Rattle.pool_model.specs.declared.volume.PlainVolume.{PlainVolume}
use Rattle.pool_model.specs.Names.{same}
use Rattle.pool_model.specs.Pools.{MayBeDestroyed, PlainPool, destroyed, has_clones, has_snapshots, volume_at, without}
use Rattle.dataset_groups.specs.Demands.{IsNameThere}
use Rattle.dataset_groups.specs.Destroys.{AreDestroyed, IsRowGone, KeepsNamed}
use Rattle.dataset_groups.specs.Groups.{IsWithin, SpellsGroup}
use Rattle.dataset_groups.specs.Names.{NamesPool, NamesTellChains, objects_of_rows, reach_by}
use Rattle.dataset_groups.specs.declared.datasets.GroupDatasets.{GroupDatasets}
use Rattle.dataset_groups.proofs.Exchanges.{same_given}
use Rattle.dataset_groups.proofs.GoneNames.{keeps_named, names_left}
use Rattle.dataset_groups.proofs.GoneReach.{reach_gone}
use Rattle.dataset_groups.proofs.GoneRows.{keeps_volume}
use Rattle.dataset_groups.proofs.GoneTouches.{some_before, still_fresh, still_unmixed}
use Rattle.dataset_groups.proofs.KnownBlocks.{reached_known}
use Rattle.dataset_groups.proofs.MayGo.{may_destroy, told_destroyed}
use Rattle.dataset_groups.proofs.NamedRows.{none_at}
use Rattle.dataset_groups.proofs.OneLess.{IsOneLess, one_less}
use Rattle.dataset_groups.proofs.Rows.{padded_same}

-- ---- no row has the name

-- the volumes are those of other names
none_gone : (name : List ℕ) (volumes : List PlainVolume) → find (λ v. same v.name name) volumes ≡ None → filter (keeps_volume name) volumes ≡ volumes
none_gone name [] none = refl
none_gone name (volume ∷ volumes) none = by_first (same volume.name name) none (none_gone name volumes)
  where
    by_first : (b : Bool) → cond b (Some volume) (find (λ v. same v.name name) volumes) ≡ None → (find (λ v. same v.name name) volumes ≡ None → filter (keeps_volume name) volumes ≡ volumes)
        → cond (not b) (volume ∷ filter (keeps_volume name) volumes) (filter (keeps_volume name) volumes) ≡ volume ∷ volumes
    by_first true found rest = absurd (let clash : Some volume ≡ None = found in cc)
    by_first false later rest = λ i. volume ∷ rest later i

either_pool : (b : Bool) (pool other : PlainPool) → other ≡ pool → cond b pool other ≡ pool
either_pool true pool other e = refl
either_pool false pool other e = e

-- so it is the same pool
pub same_pool : (name : List ℕ) (plain : PlainPool) → volume_at name plain ≡ None → destroyed name plain ≡ plain
same_pool name plain none =
    either_pool (has_snapshots name plain || has_clones name plain) plain (without name plain) (λ i. record plain { volumes = none_gone name plain.volumes none i })

pub keeps_same : (pool : Pool) (rows : List DirectoryRow) → KeepsNamed pool pool rows
keeps_same pool rows = record {
  kinds = λ row held. refl;
  groups = λ row held. refl;
  blocks = λ row held. refl;
  writable = λ row held may. may;
}

-- no blocks come behind others
pub none_behind : (blocks : List Block) → blocks ≡ blocks ++ []
none_behind [] = refl
none_behind (block ∷ blocks) = λ i. block ∷ none_behind blocks i

pub none_destroyed : (datasets : GroupDatasets) (name : List ℕ) (freed : List Block) (group : ℕ) (stored : Contents) (objects : ℕ → Option Object) (pool : Pool) (readings : ℕ → Reading)
    (plain : PlainPool) → ¬ IsNameThere datasets.directory name → SpellsGroup stored group objects datasets pool readings plain
    → (gone : List Block) × (freed ≡ freed ++ gone) × AreDestroyed group objects stored datasets datasets pool readings (destroyed name plain) gone
none_destroyed datasets name freed group stored objects pool readings plain none spells = (
  [],
  none_behind freed,
  record {
    after = pool;
    spells = subst (SpellsGroup stored group objects datasets pool readings) (sym (same_pool name plain (none_at pool readings datasets.directory plain name none spells.names))) spells;
    exchanged = same_given group stored (reach_by pool datasets.directory);
    keeps = keeps_same pool datasets.directory;
  },
)

-- ---- a row has it

-- the rows but for the one of the name, as it is padded or as it is
pub row_gone : (rows left : List DirectoryRow) (padded name : List ℕ) → IsNamed padded name → IsWithout rows padded left → IsRowGone rows name left
row_gone rows left padded name named are row = (
  λ held. let was = (are row).0 held in (was.0, λ is. was.1 (padded_same row.name padded name name is named refl)),
  λ (held, other). (are row).1 (held, λ e. other (subst (λ (p : List ℕ). IsNamed p name) (sym e) named)),
)

-- what may be destroyed is
without_one : (name : List ℕ) (plain : PlainPool) → has_snapshots name plain ≡ false → has_clones name plain ≡ false → destroyed name plain ≡ without name plain
without_one name plain no_snapshots no_clones =
    ap (λ b. cond (b || has_clones name plain) plain (without name plain)) no_snapshots ∙ ap (λ b. cond b plain (without name plain)) no_clones

module _ (law : ReachHasEachOnce) (old new : GroupDatasets) (name : List ℕ) (row : DirectoryRow) (order : IsDirectory old.directory) (also : IsDirectory new.directory)
    (are : IsWithout old.directory row.name new.directory) (numbers_are : (new.next ≡ old.next) × (new.bounds ≡ old.bounds)) (held : Contains old.directory row) (named : IsNamed row.name name)
    (group : ℕ) (stored : Contents) (objects : ℕ → Option Object) (pool : Pool) (readings : ℕ → Reading) (plain : PlainPool) (spells : SpellsGroup stored group objects old pool readings plain)
    (may_go : MayBeDestroyed (name ∷ []) plain) where
  pub may : MayDestroy pool row.object
  may = may_destroy pool readings old.directory plain row name spells.names spells.chains.sound held named may_go.0 may_go.1

  module _ (after : Pool) (gone : List Block) (made : IsDestroyed pool row.object gone after) (chains : SpellsChains stored group objects new.changes after readings)
      (touched : TouchesOwnLists objects old.changes new.changes) where
    less : IsOneLess pool after row.object
    less = one_less pool after row.object gone spells.chains.sound made

    told : NamesTellChains after new.directory (without name plain)
    told = told_destroyed pool readings old.directory plain row name spells.names spells.chains.sound held named may_go.0 may_go.1 new.directory order
        (row_gone old.directory new.directory row.name name named are) gone after made

    were : (m : ℕ) → after.datasets m ≢ nothing → pool.datasets m ≢ nothing
    were = some_before stored group objects old.changes new.changes pool after readings row.object spells.chains chains less

    names : NamesPool after readings new.directory (without name plain)
    names = names_left pool after readings old.directory new.directory plain row name order also are held named spells.names less were told

    spelled : SpellsGroup stored group objects new after readings (without name plain)
    spelled = record {
      chains = chains;
      names = names;
      fresh = λ k le within.
          still_fresh stored group objects old.changes new.changes pool after readings row.object spells.chains chains less touched k (spells.fresh k (subst (λ n. n ≤ k) numbers_are.0 le)
          (subst (λ b. IsWithin b k) numbers_are.1 within));
      unmixed = still_unmixed stored group objects old.changes new.changes pool after readings row.object spells.chains chains less touched spells.unmixed;
    }

    pub one_destroyed : AreDestroyed group objects stored old new pool readings (destroyed name plain) gone
    one_destroyed = record {
      after = after;
      spells = subst (SpellsGroup stored group objects new after readings) (sym (without_one name plain may_go.0 may_go.1)) spelled;
      exchanged = reach_gone law pool after row.object gone spells.chains.sound may made (objects_of_rows old.directory) (objects_of_rows new.directory) spells.names.numbers names.numbers group stored
          (reached_known stored group objects old.changes pool readings spells.chains);
      keeps = keeps_named pool after readings old.directory new.directory plain row name order also are held named spells.names less;
    }
