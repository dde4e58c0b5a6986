-- A head that was looked up is destroyed.
use Rattle.std.proofs.Common.{◌≡◌, ◌<◌, ◌≤◌, ℕ, not, true, List, length, Option, Some, None, refl, sym, ap, ◌∙◌, subst, arith}
use Rattle.std.specs.Prelude.{filter, nat_le, nat_lt}
use Rattle.std.proofs.lemmas.Bool.{leb-true, ltb-true}
use Rattle.std.proofs.lemmas.Bool.Decides.{nat_tests}
use Rattle.std.proofs.lemmas.List.Elements.{All-weaker, filter_passes}
use Rattle.std.proofs.lemmas.List.Sorted.{IsPermutation-filter_both}
use Rattle.block_pointer.specs.declared.block.Block.{Block}
use Rattle.block_store.specs.Blocks.{Contents}
use Rattle.dataset_chains.specs.Chains.{LeadsTo, Reading, SpellsChains}
use Rattle.dataset_chains.specs.States.{HasListPut, HaveSameLists, HaveSameRecords}
use Rattle.dataset_chains.specs.DatasetChanges.{DatasetChanges}
use Rattle.dataset_chains.specs.ListState.{ListState}
use Rattle.dead_list.specs.Blocks.{AreDistinct, IsSplit}
use Rattle.dead_list.specs.Datasets.{Dataset, Pool, group_before, nothing}
use Rattle.dead_list.specs.Operations.{DestroyHead, IsHeadDestroyed, Makes, MayDo, Operation, with_dataset}
use Rattle.dead_list.specs.Sound.{IsSound}
use Rattle.dnode_tree.specs.Younger.{is_younger, younger}
use Rattle.meta_objset.specs.declared.record.DatasetRecord.{DatasetRecord}
use Rattle.objset.specs.Objects.{Object}
use Rattle.volume.specs.Walking.{blocks_of_volume}
use Rattle.dataset_destroys.proofs.Chains.{HasAs, before_is_snapshot}
use Rattle.dataset_destroys.proofs.Destroyed.{AreSameRecords, before_same, records_on, the_record}
use Rattle.dataset_destroys.proofs.Finding.{head_as, snapshot_as}
use Rattle.dataset_destroys.proofs.GivenOver.{other_has}
use Rattle.dataset_destroys.proofs.HeadGone.{AreOtherLists, chains_without_head}
use Rattle.dataset_destroys.proofs.ReadSteps.{same_lists}
use Rattle.dataset_destroys.specs.HeadPlaces.{AreHeadPlaced}
use Rattle.dataset_destroys.specs.Steps.{AreSameNow, IsBefore, IsLeft, IsTheRecord, group_of}
use Rattle.dataset_destroys.specs.declared.head_places.HeadPlace.{HeadPlace}

-- ---- the younger blocks and the others

other : (since birth : ℕ) → nat_le birth since ≡ not (nat_lt since birth)
other since birth = grind (arith, nat_tests)

split_younger : (since : ℕ) (blocks : List Block) → IsSplit since blocks (younger since blocks) (filter (λ block. nat_le block.birth since) blocks)
split_younger since blocks = record {
  parts = IsPermutation-filter_both (is_younger since) (λ block. nat_le block.birth since) (λ block. other since block.birth) blocks;
  after_are = All-weaker (λ (block : Block). is_younger since block ≡ true) (λ block. since < block.birth) (λ block e. ltb-true since block.birth e) (younger since blocks) (filter_passes (is_younger since) blocks);
  until_are = All-weaker (λ (block : Block). nat_le block.birth since ≡ true) (λ block. block.birth ≤ since) (λ block e. leb-true block.birth since e) (filter (λ block. nat_le block.birth since) blocks)
      (filter_passes (λ block. nat_le block.birth since) blocks);
}

-- ---- the same records

pub head_placed_same : (objects : ℕ → Option Object) (old new : DatasetChanges) (place : HeadPlace) → AreSameRecords objects old new → AreHeadPlaced objects old place → AreHeadPlaced objects new place
head_placed_same objects old new place same placed = record {
  gone_is = the_record objects old new place.number place.gone same placed.gone_is;
  before_is = before_same objects old new place.gone.previous place.before same placed.before_is;
}

left_same : (objects : ℕ → Option Object) (old from new : DatasetChanges) (head previous : ℕ) (before : Option DatasetRecord) → AreSameRecords objects old from → IsLeft objects from new head previous before → IsLeft objects old new head previous before
left_same objects old from new head previous before first left = record {
  over = left.over;
  none = left.none;
  stay = λ other r not has. left.stay other r not ((first other r).0 has);
  were = λ other r not has. let was = left.were other r not has in (was.0, (first other was.0).1 was.1, was.2);
}

-- ---- a place in the chains

module _ (known : Contents) (group : ℕ) (objects : ℕ → Option Object) (old : DatasetChanges) (pool : Pool) (readings : ℕ → Reading)
    (spells : SpellsChains known group objects old pool readings) (d : ℕ) (may : MayDo pool (DestroyHead d)) (place : HeadPlace) (number : place.number ≡ d) (placed : AreHeadPlaced objects old place) where
  gone_is : IsTheRecord objects old d place.gone
  gone_is = subst (λ k. IsTheRecord objects old k place.gone) number placed.gone_is

  pub head_tells : HasAs known group objects old pool readings d place.gone
  head_tells = head_as known group objects old pool readings spells d place.gone may.0 gone_is

  before_is : IsBefore objects old (pool.datasets d).before place.before
  before_is = subst (λ k. IsBefore objects old k place.before) (sym head_tells.is.previous) placed.before_is

  -- the group of the snapshot before
  since_by : (b : Option DatasetRecord) → IsBefore objects old (pool.datasets d).before b → group_before pool.datasets d ≡ group_of b
  since_by None first = ap (λ k. (pool.datasets k).group) first ∙ ap (λ (x : Dataset). x.group) spells.sound.none
  since_by (Some b) is = (snapshot_as known group objects old pool readings spells (pool.datasets d).before b (before_is_snapshot pool spells.sound d is.0) is.1).is.created

  -- each block of the tree is there once
  pub tree_once : (leads : LeadsTo known group place.gone (pool.datasets d).blocks (readings d)) → AreDistinct (blocks_of_volume place.gone.object_set leads.bytes.set leads.bytes.has.own leads.bytes.has.blocks)
  tree_once leads = subst (λ blocks. AreDistinct blocks) (sym leads.blocks_are) (spells.sound.fits d).once

  pub tree_few : (left : ℕ) (leads : LeadsTo known group place.gone (pool.datasets d).blocks (readings d)) → length (pool.datasets d).blocks ≤ left
      → length (blocks_of_volume place.gone.object_set leads.bytes.set leads.bytes.has.own leads.bytes.has.blocks) ≤ left
  tree_few left leads few = subst (λ blocks. length blocks ≤ left) (sym leads.blocks_are) few

  -- ---- the steps

  module _ (looked freed_list new : DatasetChanges) (young : List Block) (state : Option ListState) (law : (was becomes : Pool) (operation : Operation) (freed : List Block) → IsSound was → MayDo was operation → Makes was operation freed becomes → IsSound becomes)
      (same : AreSameNow objects old looked) (put : HasListPut looked place.gone.dead_list state freed_list) (kept : HaveSameRecords looked freed_list)
      (left : IsLeft objects freed_list new place.number place.gone.previous place.before) (same_new : HaveSameLists freed_list new)
      (leads : LeadsTo known group place.gone (pool.datasets d).blocks (readings d))
      (young_is : young ≡ younger (group_of place.before) (blocks_of_volume place.gone.object_set leads.bytes.set leads.bytes.has.own leads.bytes.has.blocks)) where
    lists : AreOtherLists objects old new place.gone.dead_list
    lists = record {
      others = λ other list not has. same_lists objects freed_list new same_new other list (other_has objects looked freed_list place.gone.dead_list state other list put not (same.lists other list has));
    }

    left_is : IsLeft objects old new d (pool.datasets d).before place.before
    left_is =
        subst (λ k. IsLeft objects old new k (pool.datasets d).before place.before) number
        (subst (λ k. IsLeft objects old new place.number k place.before) (sym head_tells.is.previous)
        (left_same objects old freed_list new place.number place.gone.previous place.before (records_on objects old looked freed_list same.records kept) left))

    is_young : young ≡ younger (group_before pool.datasets d) (pool.datasets d).blocks
    is_young =
        young_is ∙ ap (younger (group_of place.before)) leads.blocks_are ∙ ap (λ since. younger since (pool.datasets d).blocks) (sym (since_by place.before before_is))

    makes : IsHeadDestroyed pool d young (with_dataset pool d nothing)
    makes = record {
      older = filter (λ block. nat_le block.birth (group_before pool.datasets d)) (pool.datasets d).blocks;
      split = subst (λ freed. IsSplit (group_before pool.datasets d) (pool.datasets d).blocks freed (filter (λ block. nat_le block.birth (group_before pool.datasets d)) (pool.datasets d).blocks)) (sym is_young)
          (split_younger (group_before pool.datasets d) (pool.datasets d).blocks);
      new_is = refl;
    }

    pub head_destroyed : (made : Pool) × Makes pool (DestroyHead d) young made × SpellsChains known group objects new made readings
    head_destroyed = (
      with_dataset pool d nothing,
      makes,
      chains_without_head known group objects old new pool readings spells d may.0 may.1 place.gone place.before gone_is before_is left_is lists
          (law pool (with_dataset pool d nothing) (DestroyHead d) young spells.sound may makes),
    )
