-- What a group makes of the datasets once all its heads are written.
use Rattle.std.proofs.Common.{◌≡◌, ℕ, List, Option, Contains, inl, inr, sym, ap, subst, ◌∙◌}
use Rattle.std.specs.Prelude.{fold}
use Rattle.block_pointer.specs.declared.block.Block.{Block}
use Rattle.block_store.specs.Blocks.{Contents}
use Rattle.dataset_destroys.specs.Chains.{Reading}
use Rattle.dead_list.specs.Datasets.{Dataset, Pool}
use Rattle.dead_list.specs.Reach.{AreNumbersOf, ReachHasEachOnce}
use Rattle.meta_objset.specs.declared.directory.DirectoryRow.{DirectoryRow}
use Rattle.objset.specs.Objects.{Object}
use Rattle.pool_model.specs.declared.item.Write.{Write}
use Rattle.pool_model.specs.declared.volume.PlainVolume.{PlainVolume}
use Rattle.pool_model.specs.Pools.{PlainPool, written}
use Rattle.volume_rules.specs.Overlay.{after_writes}
use Rattle.dataset_groups.specs.declared.datasets.GroupDatasets.{GroupDatasets}
use Rattle.dataset_groups.specs.declared.writing.WrittenHead.{WrittenHead}
use Rattle.dataset_groups.specs.Groups.{SpellsGroup}
use Rattle.dataset_groups.specs.Leaving.{IsReachExchanged}
use Rattle.dataset_groups.specs.Names.{NamesPool, NamesVolume, objects_of_rows, reach_by}
use Rattle.dataset_groups.specs.Writing.{AreWritten, numbers_of}
use Rattle.dataset_groups.proofs.HeadsWritten.{AreHeadsWritten}
use Rattle.dataset_groups.proofs.KnownBlocks.{reached_known}
use Rattle.dataset_groups.proofs.ToldWritten.{told_after}
use Rattle.dataset_groups.proofs.WrittenReach.{exchanged}
use Rattle.dataset_groups.proofs.WrittenVolumes.{named_after, number_or_not, unwritten_bytes, written_each, zip_to}

module _ (stored planned later : Contents) (bound group : ℕ) (objects : ℕ → Option Object) (old new : GroupDatasets) (pool after : Pool) (readings now : ℕ → Reading) (plain : PlainPool)
    (writes : List Write) (heads : List WrittenHead) (gone : List Block)
    (spelled : SpellsGroup planned group objects old pool readings plain) (are : AreWritten stored bound pool readings old.directory writes heads)
    (all : AreHeadsWritten planned later group objects old new pool after readings now writes heads gone) (same : new.directory ≡ old.directory) where
  -- the datasets are those that they were
  numbers_after : AreNumbersOf after.datasets (objects_of_rows old.directory)
  numbers_after = record {
    each = λ m some. spelled.names.numbers.each m (λ none. some ((all.chains.none m ((all.shapes m).kind ∙ ap (λ (x : Dataset). x.kind) none)).is));
    once = spelled.names.numbers.once;
  }

  array_after : (row : DirectoryRow) (volume : PlainVolume) → Contains old.directory row → NamesVolume pool readings row volume → (now row.object).array ≡ (after_writes volume writes).bytes
  array_after row volume held names = elim (number_or_not (numbers_of heads) row.object) [
    | inl there ↦ all.reads row volume held there names
    | inr not ↦
        ap (λ (x : Reading). x.array) (all.others row.object not).1 ∙ names.array ∙ unwritten_bytes volume writes (λ to. not (are.all row volume held names to))
  ]

  names_after : NamesPool after now old.directory (fold written plain writes)
  names_after = subst (NamesPool after now old.directory) (sym (written_each plain writes)) (record {
    numbers = numbers_after;
    volumes = zip_to (NamesVolume pool readings) (NamesVolume after now) (λ volume. after_writes volume writes) old.directory plain.volumes
        (λ row volume held names. named_after pool after readings now row volume writes all.shapes names (array_after row volume held names) (all.block_size row.object))
        spelled.names.volumes;
    chains = told_after pool after old.directory plain writes all.shapes all.next spelled.names.chains;
  })

  pub spelled_after : SpellsGroup later group objects new after now (fold written plain writes)
  spelled_after = record {
    chains = all.chains;
    names = subst (λ (rows : List DirectoryRow). NamesPool after now rows (fold written plain writes)) (sym same) names_after;
    fresh = all.fresh;
    unmixed = all.unmixed;
  }

  -- and what they reach has changed so
  pub reach_given : ReachHasEachOnce → IsReachExchanged group planned later (reach_by pool old.directory) (reach_by after old.directory) gone
  reach_given law =
      let first = law pool (objects_of_rows old.directory) spelled.chains.sound spelled.names.numbers in
      let last = law after (objects_of_rows old.directory) all.chains.sound numbers_after in
      let R : List Block = reach_by pool old.directory in
      let S : List Block = reach_by after old.directory in
      exchanged group planned later R S gone all.added first.0 last.0 all.once all.added_are
      (λ b held. reached_known planned group objects old.changes pool readings spelled.chains b ((first.1 b).0 held))
      (λ b held. elim (all.kept b ((first.1 b).0 held)) [
        | inl is ↦ inl ((last.1 b).1 is)
        | inr away ↦ inr away
      ])
      (λ b held. let it = all.left b held in ((first.1 b).1 it.0, λ there. it.1 ((last.1 b).0 there)))
      (λ b held. elim (all.from b ((last.1 b).0 held)) [
        | inl was ↦ inl ((first.1 b).1 was)
        | inr new ↦ inr new
      ])
      (λ b held. (last.1 b).1 (all.joined b held))
