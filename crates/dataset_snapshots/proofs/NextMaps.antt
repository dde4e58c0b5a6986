-- The space maps of a pool's next root.
use Rattle.std.proofs.Common.{◌≡◌, ◌≢◌, ℕ, ◌<◌, List, [], ◌∷◌, ◌++◌, length, Option, Contains, All, refl, sym, subst, arith}
use Rattle.std.specs.List.{count_by}
use Rattle.std.proofs.lemmas.List.Elements.{All-contains, Contains-append_left, Contains-append_right}
use Rattle.block_pointer.specs.declared.block.Block.{Block}
use Rattle.block_pointer.specs.Copies.{dvas}
use Rattle.block_store.specs.Blocks.{Contents, Extends}
use Rattle.block_store.specs.Places.{ArePlacesIn, planned as planned_marks}
use Rattle.block_store.specs.Spaces.{VdevSpace}
use Rattle.block_store.specs.Store.{Holds, Store}
use Rattle.dnode.specs.declared.object_set.ObjectSetKind.TheVariants as sets
use Rattle.dnode_tree.proofs.SameBlocks.{same_as, counted, found}
use Rattle.objset.specs.declared.changes.ObjectChange.{ObjectChange}
use Rattle.objset.specs.Changes.{changed}
use Rattle.objset.specs.Objects.{Object}
use Rattle.objset.specs.Within.{blocks_of_set}
use Rattle.pool_maps.proofs.Besides.{whole_plan}
use Rattle.pool_maps.proofs.Reaching.{lie_before_meta, lie_in_meta}
use Rattle.pool_maps.specs.Beside.{AreSameBefore, LieBeforeMeta, LieInMeta}
use Rattle.pool_maps.specs.Maps.{AreMapsOf}
use Rattle.pool_maps.specs.Plans.{MapAnew}
use Rattle.pool_maps.specs.Reached.{AreThere}
use Rattle.pool_model.specs.Pools.{PlainPool}
use Rattle.dataset_groups.specs.Names.{reach_by}
use Rattle.dataset_groups.specs.Leaving.{AddsData, AddsMeta, IsReachExchanged}
use Rattle.dataset_snapshots.specs.Mapped.{AreCopied, HasMapsBehind}
use Rattle.dataset_snapshots.specs.Pools.{SpellsPool}
use Rattle.dataset_snapshots.specs.Reach.{reach_of, volume_blocks_of}
use Rattle.dataset_snapshots.proofs.ChangedRows.{all_from, is_later}
use Rattle.dataset_groups.proofs.Copied.{reach_copied}
use Rattle.dataset_snapshots.proofs.Reaching.{reach_known}
use Rattle.block_store.specs.Releases.{AreReleased, copies_of_all}
use Rattle.block_store.specs.Plans.{Plans}
use Rattle.meta_objset.specs.declared.directory.DirectoryRow.{DirectoryRow}
use Rattle.meta_objset.specs.declared.stale_spans.StaleSpan.{StaleSpan}
use Rattle.dataset_snapshots.proofs.GroupReach.{AreVolumesGiven, IsRootGiven, group_given}
use Rattle.dataset_snapshots.proofs.GroupRoot.{root_copied, root_keeps, spells_root}
use Rattle.dataset_snapshots.specs.Creating.{LeavesTables}

abbrev IsThree : Block → Type 0
IsThree block = length (dvas block.copies) ≡ 3

abbrev IsOther : Block → Type 0
IsOther block = length (dvas block.copies) ≢ 3

-- what is gone was among the blocks before
gone_before : (group : ℕ) (planned later : Contents) (before after gone : List Block) → IsReachExchanged group planned later before after gone
    → (block : Block) → Contains gone block → Contains before block
gone_before group planned later before after gone one block held =
    let some : 0 < count_by (same_as block) gone = counted block gone held in
    found block before (omega (arith, some, one.before_are (same_as block)))

module _ (stored : Contents) (birth : ℕ) (old : Block) (pool : PlainPool) (is : SpellsPool stored birth old pool) (copied : AreCopied is) where
  abbrev pub set_before : List Block
  set_before = blocks_of_set is.set is.own is.blocks

  abbrev pub volumes_before : List Block
  volumes_before = volume_blocks_of is

  set_three : All IsThree set_before
  set_three = all_from IsThree set_before (λ block held. All-contains IsThree (old ∷ set_before) block copied.meta (is_later old block set_before held))

  module _ (group : ℕ) (planned mid later : Contents) (root : Block) (volumes set gone gone_too : List Block)
      (one : IsReachExchanged group planned mid volumes_before volumes gone) (two : IsReachExchanged group mid later set_before (root ∷ set) gone_too) where
    -- the blocks of the set then have three copies, and the volumes' have not
    pub meta_then : AddsMeta mid later → All IsThree (root ∷ set)
    meta_then adds = reach_copied IsThree group mid later set_before (root ∷ set) gone_too two adds set_three

    pub volumes_then : AddsData planned mid → All IsOther volumes
    volumes_then adds = reach_copied IsOther group planned mid volumes_before volumes gone one adds copied.others

    module _ (store : Store) (holds : Holds store stored) where
      in_place : (block : Block) → Contains (reach_of is) block → ArePlacesIn store.spaces block.property.sectors (dvas block.copies)
      in_place block held = let there = reach_known stored birth old pool is block held in holds.places block there.0 there.1

      of_set : (block : Block) → Contains set_before block → Contains (reach_of is) block
      of_set block held = is_later old block (set_before ++ volumes_before) (Contains-append_left set_before volumes_before block held)

      of_volumes : (block : Block) → Contains volumes_before block → Contains (reach_of is) block
      of_volumes block held = is_later old block (set_before ++ volumes_before) (Contains-append_right set_before volumes_before block held)

      front_in_meta : LieInMeta store.spaces (old ∷ [])
      front_in_meta =
          lie_in_meta store.spaces (old ∷ [])
          (λ block held. in_place block (Contains-append_left (old ∷ []) (set_before ++ volumes_before) block held))
          (all_from IsThree (old ∷ []) (λ block held. All-contains IsThree (old ∷ set_before) block copied.meta (Contains-append_left (old ∷ []) set_before block held)))

      gone_lie_before : LieBeforeMeta store.spaces gone
      gone_lie_before =
          lie_before_meta store.spaces gone
          (λ block held. in_place block (of_volumes block (gone_before group planned mid volumes_before volumes gone one block held)))
          (all_from IsOther gone (λ block held. All-contains IsOther volumes_before block copied.others (gone_before group planned mid volumes_before volumes gone one block held)))

      back_in_meta : LieInMeta store.spaces gone_too
      back_in_meta =
          lie_in_meta store.spaces gone_too
          (λ block held. in_place block (of_set block (gone_before group mid later set_before (root ∷ set) gone_too two block held)))
          (all_from IsThree gone_too (λ block held. All-contains IsThree set_before block set_three (gone_before group mid later set_before (root ∷ set) gone_too two block held)))

      -- once all of it is given back, the maps that were planned are those of the plan
      pub maps_behind : (changes : List ObjectChange) (now : List VdevSpace) (replaced : List Block) → MapAnew is.objects store.spaces gone changes → AreSameBefore store.spaces now
          → replaced ≡ ((old ∷ []) ++ gone) ++ gone_too → (after_pool : PlainPool) (now_is : SpellsPool later group root after_pool) → now_is.objects ≡ changed changes is.objects
          → AreCopied now_is → HasMapsBehind now replaced now_is
      maps_behind changes now replaced anew same replaced_is after_pool now_is objects_are copied_then = record {
        copied = copied_then;
        maps = λ after at released.
            subst (λ (objects : ℕ → Option Object). AreMapsOf objects after planned_marks × AreThere after planned_marks) (sym objects_are)
            (whole_plan is.objects store.spaces now after (old ∷ []) gone gone_too at changes anew same front_in_meta gone_lie_before back_in_meta
            (subst (λ (blocks : List Block). AreReleased now (copies_of_all blocks) at after) replaced_is released));
      }

-- the root of a group, by what was planned for the volumes, the maps and the set
pub group_value : (stored planned mid later : Contents) (birth group : ℕ) (old root : Block) (pool after_pool : PlainPool) (is : SpellsPool stored birth old pool) → AreCopied is
    → (changes : List ObjectChange) (spans : Option (List StaleSpan)) (gone gone_too replaced : List Block) (rows : List DirectoryRow) (store new : Store) → Holds store stored → Plans new stored later
    → Extends planned mid → Extends mid later
    → (volumes : AreVolumesGiven planned mid group is.objects changes spans after_pool (volume_blocks_of is) gone rows)
    → AddsData planned mid → (set : IsRootGiven mid later group root sets.Meta (changed changes is.objects) (blocks_of_set is.set is.own is.blocks) gone_too) → AddsMeta mid later
    → root.birth ≡ group → replaced ≡ ((old ∷ []) ++ gone) ++ gone_too → MapAnew is.objects store.spaces gone changes → AreSameBefore store.spaces new.spaces
    → (last : Contents) × Plans new stored last × Extends planned last × (now_is : SpellsPool last group root after_pool)
    × LeavesTables spans is now_is
    × IsReachExchanged group planned last (reach_of is) (reach_of now_is) replaced × (rows ≡ now_is.rows) × HasMapsBehind new.spaces replaced now_is
group_value stored planned mid later birth group old root pool after_pool is copied changes spans gone gone_too replaced rows store new holds plans first last volumes adds_data set adds_meta born replaced_is anew same =
    let reached : List Block = reach_by volumes.0.datasets volumes.0.rows in
    let own = blocks_of_set set.0.set set.0.own set.0.blocks in
    let now_is = spells_root mid later group root is.objects changes spans after_pool volumes.0 last set.0 born is.stale is.spans in
    let copied_now = root_copied mid later group root is.objects changes spans after_pool volumes.0 last set.0 born is.stale is.spans
    (meta_then stored birth old pool is copied group planned mid later root reached own gone gone_too volumes.1 set.1 adds_meta)
    (volumes_then stored birth old pool is copied group planned mid later root reached own gone gone_too volumes.1 set.1 adds_data) in (
      later,
      plans,
      λ block bytes known. last block bytes (first block bytes known),
      now_is,
      record { objects = root_keeps mid later group root is.objects changes spans after_pool volumes.0 last set.0 born is.stale is.spans; stale = refl },
      group_given planned mid later group old root (volume_blocks_of is) reached (blocks_of_set is.set is.own is.blocks) own gone gone_too replaced first last volumes.1 set.1 replaced_is,
      sym volumes.2,
      maps_behind stored birth old pool is copied group planned mid later root reached own gone gone_too volumes.1 set.1 store holds changes new.spaces replaced anew same replaced_is after_pool
          now_is refl copied_now,
    )
