-- Groups that are parted, behind the pool that a root spells.
use Rattle.std.proofs.Common.{◌≡◌, ℕ, Bool, true, false, List, [], ◌∷◌, Option, Some, None, refl, sym, ap, subst, ◌∙◌}
use Rattle.std.specs.Prelude.{cond, find}
use Rattle.std.specs.List.{AllZip}
use Rattle.std.proofs.lemmas.Option.{same_Some}
use Rattle.block_pointer.specs.declared.block.Block.{Block}
use Rattle.block_store.specs.Blocks.{Contents}
use Rattle.dataset_snapshots.specs.Pools.{NamesVolume}
use Rattle.meta_objset.specs.declared.directory.DirectoryRow.{DirectoryRow}
use Rattle.pool_model.proofs.Places.{same_is}
use Rattle.pool_model.specs.declared.volume.PlainVolume.{PlainVolume}
use Rattle.pool_model.specs.Names.{is_name_for, same}
use Rattle.pool_model.specs.Pools.{Entry, MayBeDestroyed, PlainPool, all_destroyed, applied, no_volumes}
use Rattle.volume_rules.proofs.PartActions.{parted_may, parted_same}
use Rattle.volume_rules.specs.Effects.{GroupTakesEffect}
use Rattle.volume_rules.specs.NowMoves.{HasGoodNames}
use Rattle.volume_rules.specs.Parting.{destroyed_by, made_by}
use Rattle.pool_commit.specs.declared.kept.KeptGroup.{KeptGroup}
use Rattle.pool_commit.specs.Backs.{SpellsGroup, SpellsRoot}

-- ---- what rows name has good names

named_good : (Named : DirectoryRow → PlainVolume → Type 0) → ((row : DirectoryRow) (volume : PlainVolume) → Named row volume → is_name_for volume.kind volume.name ≡ true)
    → (rows : List DirectoryRow) (volumes : List PlainVolume) (name : List ℕ) (volume : PlainVolume) → AllZip Named rows volumes
    → find (λ (v : PlainVolume). same v.name name) volumes ≡ Some volume → is_name_for volume.kind name ≡ true
named_good Named good [] [] name volume all e = absurd (cc)
named_good Named good [] (v ∷ volumes) name volume all e = absurd all
named_good Named good (row ∷ rows) [] name volume all e = absurd all
named_good Named good (row ∷ rows) (v ∷ volumes) name volume all e = cases (named_good Named good rows volumes name volume all.1) (same v.name name) refl
  where
    cases : (find (λ (v : PlainVolume). same v.name name) volumes ≡ Some volume → is_name_for volume.kind name ≡ true) → (b : Bool) → same v.name name ≡ b → is_name_for volume.kind name ≡ true
    cases rest true f =
        let is : v ≡ volume = same_Some v volume (sym (ap (λ c. cond c (Some v) (find (λ (v : PlainVolume). same v.name name) volumes)) f) ∙ e) in
        subst (λ (x : PlainVolume). is_name_for x.kind name ≡ true) is (subst (λ n. is_name_for v.kind n ≡ true) (same_is v.name name f) (good row v all.0))
    cases rest false f = rest (sym (ap (λ c. cond c (Some v) (find (λ (v : PlainVolume). same v.name name) volumes)) f) ∙ e)

no_names : HasGoodNames no_volumes
no_names name volume e = absurd (cc)

spelled_good : (stored : Contents) (group : ℕ) (root : Option Block) (pool : PlainPool) → SpellsRoot stored group root pool → HasGoodNames pool
spelled_good stored group None pool empty = subst HasGoodNames (sym empty) no_names
spelled_good stored group (Some root) pool is = λ name volume e. named_good (NamesVolume is.datasets is.readings) (λ row v named. named.good) is.rows pool.volumes name volume is.names.volumes e

-- ---- what comes of the parts

pub same_parted : (stored : Contents) (before group : ℕ) (kept : KeptGroup) (pool : PlainPool) (items : Entry) → SpellsGroup stored before kept pool → GroupTakesEffect group pool items
    → applied group (all_destroyed (destroyed_by items) pool) (made_by items) ≡ applied group pool items
same_parted stored before group kept pool items spells effects = parted_same group pool items spells.names.ascending (spelled_good stored before kept.root pool spells.root) effects

pub may_parted : (stored : Contents) (before group : ℕ) (kept : KeptGroup) (pool : PlainPool) (items : Entry) → SpellsGroup stored before kept pool → GroupTakesEffect group pool items
    → MayBeDestroyed (destroyed_by items) pool
may_parted stored before group kept pool items spells effects = parted_may group pool items spells.names.ascending (spelled_good stored before kept.root pool spells.root) effects

none_destroyed : (names : List (List ℕ)) → all_destroyed names no_volumes ≡ no_volumes
none_destroyed [] = refl
none_destroyed (name ∷ names) = none_destroyed names

-- and where nothing was there before
pub first_parted : (group : ℕ) (pool : PlainPool) (items : Entry) → applied group (all_destroyed (destroyed_by items) pool) (made_by items) ≡ applied group pool items → pool ≡ no_volumes
    → applied group no_volumes (made_by items) ≡ applied group pool items
first_parted group pool items is empty =
    ap (λ p. applied group p (made_by items)) (sym (none_destroyed (destroyed_by items)) ∙ ap (all_destroyed (destroyed_by items)) (sym empty)) ∙ is
