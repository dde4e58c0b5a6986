-- Space maps while a group's volumes are planned, and the blocks that these give back.
use Rattle.std.proofs.Common.{◌≡◌, ◌++◌, ◌∷◌, ℕ, ◌<◌, ◌≤◌, true, List, [], Option, Some, Contains, map, refl, sym, ap, ◌∙◌, arith, zero, suc}
use Rattle.std.specs.List.{count_by, slice_get}
use Rattle.std.proofs.lemmas.List.Elements.{All-contains, Contains-append_right}
use Rattle.block_pointer.specs.declared.block.Block.{Block}
use Rattle.block_store.specs.Blocks.{AreStored, Contents}
use Rattle.block_store.specs.Places.{HaveMarks, Marks, filled, planned as planned_marks, shapes_of}
use Rattle.block_store.specs.Releases.{AreAllInUse}
use Rattle.block_store.specs.Spaces.{VdevSpace}
use Rattle.block_store.specs.Steps.{OnlyReadsAndPlans}
use Rattle.block_store.specs.Store.{Store}
use Rattle.block_store.specs.Uses.{CopiesLieOn, IsInUse, Passes}
use Rattle.block_store.proofs.Uses.{places_spare}
use Rattle.dnode_tree.specs.Rewriting.{AreDistinct}
use Rattle.dnode_tree.proofs.Exchanging.{count_by-append}
use Rattle.dnode_tree.proofs.SameBlocks.{same_as, counted, found, once_counted, distinct_counted}
use Rattle.metaslab.specs.State.{State, Free, InUse, Released, is_in_use}
use Rattle.objset.specs.Objects.{Object}
use Rattle.objset.specs.Within.{blocks_of_set}
use Rattle.pool_maps.specs.Maps.{AreMapsOf, HasMapPlace, HasShortMapOf}
use Rattle.pool_maps.proofs.Planned.{all_from}
use Rattle.pool_maps.proofs.Staying.{by_marks}
use Rattle.pool_maps.proofs.Whole.{sectors_back}
use Rattle.pool_model.specs.Pools.{PlainPool}
use Rattle.raidz_io.proofs.Written.{same_some}
use Rattle.dataset_groups.specs.Leaving.{IsReachExchanged}
use Rattle.dataset_snapshots.specs.Mapped.{StandsOnce}
use Rattle.dataset_snapshots.specs.Pools.{SpellsPool}
use Rattle.dataset_snapshots.specs.Reach.{reach_of, volume_blocks_of}
use Rattle.dataset_snapshots.proofs.ChangedRows.{is_later}
use Rattle.dataset_snapshots.proofs.Reaching.{reach_known}

-- ---- marks that are the same

got : {X Y : Type 0} (f : X → Y) (xs : List X) (i : ℕ) (x : X) → slice_get xs i ≡ Some x → slice_get (map f xs) i ≡ Some (f x)
got f [] i x is = absurd (cc)
got f (y ∷ ys) zero x is = ap (λ z. Some (f z)) (same_some y x is)
got f (y ∷ ys) (suc i) x is = got f ys i x is

-- vdevs whose lists of marks are the same have the same marks
pub have_filled : (spaces after : List VdevSpace) → map filled after ≡ map filled spaces → HaveMarks spaces filled after filled
have_filled spaces after same v space new found found_new =
    same_some (filled new) (filled space) (sym (got filled after v new found_new) ∙ (ap (λ them. slice_get them v) same ∙ got filled spaces v space found))

-- maps of what is stored stay that as blocks are planned
pub maps_on : (objects : ℕ → Option Object) (spaces after : List VdevSpace) → shapes_of after ≡ shapes_of spaces → HaveMarks spaces filled after filled
    → AreMapsOf objects spaces filled → AreMapsOf objects after filled
maps_on objects spaces after shapes have are = record {
  maps = are.maps;
  are = by_marks objects spaces after filled filled are.maps shapes have are.are;
  short = all_from (λ m. HasShortMapOf after m.metaslab (objects m.object)) are.maps
      (λ row held sectors has. All-contains (λ m. HasShortMapOf spaces m.metaslab (objects m.object)) are.maps row are.short held sectors
      (sectors_back spaces after row.metaslab sectors shapes (All-contains (λ m. HasMapPlace spaces m.metaslab) are.maps row are.are.rows.places held) has));
}

-- ---- blocks that volumes give back

weaker : (is later : State → Type 0) (spaces : List VdevSpace) (marks : Marks) (block : Block) → ((state : State) → is state → later state)
    → CopiesLieOn is spaces marks block → CopiesLieOn later spaces marks block
weaker is later spaces marks block implies lies i place at =
    let here = lies i place at in
    record {
      some = here.some;
      space = here.space;
      found = here.found;
      is_place = here.is_place;
      each = record { metaslab = here.each.metaslab; found = here.each.found; each = λ s named. implies _ (here.each.each s named) };
    }

in_use_is : (state : State) → is_in_use state ≡ true → IsInUse state
in_use_is Free is = absurd (cc)
in_use_is InUse is = refl
in_use_is (Released group) is = absurd (cc)

is_in_use_too : (state : State) → IsInUse state → is_in_use state ≡ true
is_in_use_too state is = ap is_in_use is

-- what is in use stays so as blocks are placed
stays_in_use : (old new : Store) (block : Block) → OnlyReadsAndPlans old new [] → CopiesLieOn IsInUse old.spaces planned_marks block → CopiesLieOn IsInUse new.spaces planned_marks block
stays_in_use old new block steps lies =
    weaker (Passes is_in_use) IsInUse new.spaces planned_marks block in_use_is
    (places_spare is_in_use old.spaces new.spaces steps.placed block refl steps.were_placed (weaker IsInUse (Passes is_in_use) old.spaces planned_marks block is_in_use_too lies))

module _ (stored : Contents) (birth : ℕ) (root : Block) (pool : PlainPool) (is : SpellsPool stored birth root pool) (group : ℕ) (planned later : Contents) (after gone : List Block)
    (given : IsReachExchanged group planned later (volume_blocks_of is) after gone) where
  -- they are of the reach
  in_reach : (block : Block) → Contains gone block → Contains (reach_of is) block
  in_reach block held =
      let rest : List Block = volume_blocks_of is in
      let some : 0 < count_by (same_as block) gone = counted block gone held in
      let before : Contains rest block = found block rest (omega (arith, some, given.before_are (same_as block))) in
      is_later root block (blocks_of_set is.set is.own is.blocks ++ rest) (Contains-append_right (blocks_of_set is.set is.own is.blocks) rest block before)

  pub gone_stored : AreStored stored gone
  gone_stored block held = reach_known stored birth root pool is block (in_reach block held)

  module _ (old new : Store) (stands : StandsOnce old.spaces is) where
    pub gone_once : AreDistinct gone
    gone_once =
        let rest : List Block = volume_blocks_of is in
        let set = blocks_of_set is.set is.own is.blocks in
        distinct_counted gone (λ block.
        let all : count_by (same_as block) (reach_of is) ≤ 1 = once_counted block (reach_of is) stands.once in
        omega (arith, all, given.before_are (same_as block), count_by-append (same_as block) (root ∷ []) (set ++ rest), count_by-append (same_as block) set rest))

    pub gone_in_use : OnlyReadsAndPlans old new [] → AreAllInUse new.spaces gone
    gone_in_use steps block held = stays_in_use old new block steps (stands.in_use block (in_reach block held))
