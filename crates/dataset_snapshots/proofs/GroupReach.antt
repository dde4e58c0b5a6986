-- What left the reach of a root by a group.
use Rattle.std.proofs.Common.{◌≡◌, ℕ, List, [], ◌∷◌, ◌++◌, Option, Some, Contains, ap, subst, ◌∙◌, arith}
use Rattle.std.specs.List.{count_by}
use Rattle.block_pointer.specs.declared.block.Block.{Block}
use Rattle.block_store.specs.Blocks.{Contents, Extends}
use Rattle.dnode.specs.declared.object_set.ObjectSet.{ObjectSet}
use Rattle.dnode.specs.declared.object_set.ObjectSetKind.{ObjectSetKind}
use Rattle.dnode.specs.declared.object_set.ObjectSetKind.TheVariants.{Meta}
use Rattle.dnode_tree.proofs.Exchanging.{count_by-append}
use Rattle.meta_objset.specs.declared.directory.DirectoryRow.{DirectoryRow}
use Rattle.meta_objset.specs.declared.stale_spans.StaleSpan.{StaleSpan}
use Rattle.objset.specs.declared.changes.ObjectChange.{ObjectChange}
use Rattle.objset.specs.Changes.{changed}
use Rattle.objset.specs.Objects.{Object}
use Rattle.objset.specs.Within.{blocks_of_set}
use Rattle.pool_model.specs.declared.item.Action.{Action}
use Rattle.pool_model.specs.Pools.{Entry, PlainPool, applied}
use Rattle.dataset_groups.proofs.Exchanges.{both_given, given_as}
pub use Rattle.dataset_groups.proofs.Exchanges.{after_once, gone_are}
use Rattle.dataset_snapshots.proofs.Reaching.{reach_known}
use Rattle.dataset_snapshots.specs.Groups.{IsSetOf, SpellsAfter}
use Rattle.dataset_snapshots.specs.Laws.{ReplacedOfGroupsLeave}
use Rattle.dataset_groups.specs.Leaving.{IsReachExchanged}
use Rattle.dataset_groups.specs.Names.{reach_by}
use Rattle.dataset_snapshots.specs.Reach.{reach_of}

-- a set of these objects was planned, with its block, for the one that had these blocks
abbrev pub IsRootGiven : Contents → Contents → ℕ → Block → ObjectSetKind → (ℕ → Option Object) → List Block → List Block → Type 0
IsRootGiven planned later group root kind objects before gone =
    (then : IsSetOf later group root kind objects) × IsReachExchanged group planned later before (root ∷ blocks_of_set then.set then.own then.blocks) gone

-- volumes were planned for those that had these blocks, and the directory has these rows
abbrev pub AreVolumesGiven : Contents → Contents → ℕ → (ℕ → Option Object) → List ObjectChange → Option (List StaleSpan) → PlainPool → List Block → List Block → List DirectoryRow → Type 0
AreVolumesGiven planned later group objects changes spans pool before gone rows =
    (then : SpellsAfter later group objects changes spans pool) × IsReachExchanged group planned later before (reach_by then.datasets then.rows) gone × (then.rows ≡ rows)

-- the set is that of the root before, and these are the changes
pub root_given : (planned later : Contents) (group : ℕ) (root : Block) (set same : ObjectSet) (changes list : List ObjectChange) (objects : ℕ → Option Object) (own : List Block)
    (blocks : ℕ → List Block) (gone : List Block) → changes ≡ list → set.kind ≡ Meta → set ≡ same
    → IsRootGiven planned later group root set.kind (changed changes objects) (blocks_of_set set own blocks) gone
    → IsRootGiven planned later group root Meta (changed list objects) (blocks_of_set same own blocks) gone
root_given planned later group root set same changes list objects own blocks gone are kind is given =
    subst (λ (s : ObjectSet). IsRootGiven planned later group root Meta (changed list objects) (blocks_of_set s own blocks) gone) is
    (subst (λ (k : ObjectSetKind). IsRootGiven planned later group root k (changed list objects) (blocks_of_set set own blocks) gone) kind
    (subst (λ (cs : List ObjectChange). IsRootGiven planned later group root set.kind (changed cs objects) (blocks_of_set set own blocks) gone) are given))

-- the actions are those of the items
pub items_given : (planned later : Contents) (group : ℕ) (objects : ℕ → Option Object) (changes : List ObjectChange) (spans : Option (List StaleSpan)) (pool : PlainPool) (items : Entry) (actions : List Action)
    (before gone : List Block) (rows : List DirectoryRow) → actions ≡ items.actions
    → AreVolumesGiven planned later group objects changes spans (applied group pool (record { writes = items.writes; actions = actions })) before gone rows
    → AreVolumesGiven planned later group objects changes spans (applied group pool items) before gone rows
items_given planned later group objects changes spans pool items actions before gone rows same given =
    subst (λ (list : List Action). AreVolumesGiven planned later group objects changes spans (applied group pool (record { writes = items.writes; actions = list })) before gone rows) same given

-- the root is given back, then what volumes give back, and then what the set does
pub replaced_are : (root : Block) (alone front gone given gone_too replaced : List Block) → alone ≡ root ∷ [] → front ≡ alone ++ given → given ≡ gone → replaced ≡ front ++ gone_too
    → replaced ≡ ((root ∷ []) ++ gone) ++ gone_too
replaced_are root alone front gone given gone_too replaced one more is all =
    all ∙ ap (λ (bs : List Block). bs ++ gone_too) (more ∙ ap (λ (bs : List Block). bs ++ given) one ∙ ap (λ (bs : List Block). (root ∷ []) ++ bs) is)

-- the volumes' blocks first, then those of the set, and the root's
pub group_given : (planned mid later : Contents) (group : ℕ) (old root : Block) (volumes new_volumes set new_set gone gone_too replaced : List Block) → Extends planned mid → Extends mid later
    → IsReachExchanged group planned mid volumes new_volumes gone → IsReachExchanged group mid later set (root ∷ new_set) gone_too → replaced ≡ ((old ∷ []) ++ gone) ++ gone_too
    → IsReachExchanged group planned later (old ∷ set ++ volumes) (root ∷ new_set ++ new_volumes) replaced
group_given planned mid later group old root volumes new_volumes set new_set gone gone_too replaced first last one two are =
    given_as group planned later (volumes ++ set) (new_volumes ++ root ∷ new_set) (gone ++ gone_too) (old ∷ set ++ volumes) (root ∷ new_set ++ new_volumes) replaced [] (old ∷ [])
    (both_given group planned mid later volumes new_volumes gone set (root ∷ new_set) gone_too first last one two)
    (λ test. omega (arith, count_by-append test volumes set, count_by-append test (old ∷ []) (set ++ volumes), count_by-append test set volumes))
    (λ test. omega (arith, count_by-append test new_volumes (root ∷ new_set), count_by-append test (root ∷ new_set) new_volumes))
    (λ test. omega (
      arith,
      ap (count_by test) are,
      count_by-append test gone gone_too,
      count_by-append test ((old ∷ []) ++ gone) gone_too,
      count_by-append test (old ∷ []) gone,
    ))

-- where the root before is stored
pub replaced_leave : ReplacedOfGroupsLeave
replaced_leave stored planned later birth group root pool is after gone kept once one =
    let known : (block : Block) → Contains (reach_of is) block → (bytes : List ℕ) × (planned block ≡ Some bytes) =
    λ block held. (let there = reach_known stored birth root pool is block held in (there.0, kept block there.0 there.1)) in (
      gone_are group planned later (reach_of is) after gone known once one,
      after_once group planned later (reach_of is) after gone known once one,
    )
