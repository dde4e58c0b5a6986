-- The datasets of a group with one more, or with none.
use Rattle.std.proofs.Common.{◌≡◌, ◌⊎◌, ◌+◌, ◌<◌, ◌≤◌, ℕ, [], Option, inl, sym, subst, arith}
use Rattle.block_store.specs.Blocks.{Contents}
use Rattle.dataset_destroys.specs.Chains.{AreNewNumbers, Reading, SpellsChains}
use Rattle.dataset_destroys.specs.States.{list_at}
use Rattle.dead_list.specs.Datasets.{Kind, Pool, updated}
use Rattle.dead_list.specs.Operations.{IsUnused}
use Rattle.objset.specs.Objects.{Object}
use Rattle.pool_model.specs.Pools.{PlainPool}
use Rattle.dataset_groups.specs.Actions.{AreActed}
use Rattle.dataset_groups.specs.Groups.{IsFresh, IsWithin, SpellsGroup}
use Rattle.dataset_groups.specs.Leaving.{AddsData, IsReachExchanged}
use Rattle.dataset_groups.specs.Names.{NamesPool, reach_by}
use Rattle.dataset_groups.specs.NewVolumes.{numbers_end}
use Rattle.dataset_groups.specs.declared.datasets.GroupDatasets.{GroupDatasets}
use Rattle.dataset_groups.proofs.Copied.{adds_none}
use Rattle.dataset_groups.proofs.Exchanges.{same_given}
use Rattle.dataset_groups.proofs.MoreTouches.{fresh_unused, still_fresh, still_unmixed}
use Rattle.dataset_groups.proofs.OneMore.{IsOneMore}

-- what is passed over leaves the datasets
pub passed_over : (datasets : GroupDatasets) (group : ℕ) (known : Contents) (objects : ℕ → Option Object) (pool : Pool) (readings : ℕ → Reading) (plain after : PlainPool) → after ≡ plain
    → SpellsGroup known group objects datasets pool readings plain → AreActed group objects known known datasets datasets pool after
passed_over datasets group known objects pool readings plain after same spells = record {
  after = pool;
  readings = readings;
  spells = subst (SpellsGroup known group objects datasets pool readings) (sym same) spells;
  exchanged = same_given group known (reach_by pool datasets.directory);
  adds = adds_none known;
}

module _ (old : GroupDatasets) (group : ℕ) (known : Contents) (objects : ℕ → Option Object) (pool : Pool) (readings : ℕ → Reading) (plain : PlainPool)
    (spells : SpellsGroup known group objects old pool readings plain) (left : old.next + 2 ≤ old.bounds.end) where
  -- the next two numbers are free
  fresh_n : IsFresh objects old.changes old.next
  fresh_n = spells.fresh old.next (omega arith) (inl (omega (arith, left)))

  fresh_list : IsFresh objects old.changes (old.next + 1)
  fresh_list = spells.fresh (old.next + 1) (omega arith) (inl (omega (arith, left)))

  pub next_unused : 4 < old.next → IsUnused pool.datasets old.next
  next_unused behind = fresh_unused known group objects old.changes pool readings spells.chains old.next (λ none. omega (arith, behind, none)) fresh_n

  pub new_numbers : 4 < old.next → old.next + 2 ≤ numbers_end → AreNewNumbers objects old.changes old.next (old.next + 1)
  new_numbers behind within = record {
    apart = λ same. absurd (omega (arith, same));
    number_is = (behind, omega (arith, within));
    list_is = (omega (arith, behind), omega (arith, within));
    no_object = (fresh_n.no_object, fresh_list.no_object);
    no_record = (fresh_n.no_record, fresh_list.no_record);
    no_list = (fresh_n.no_list, fresh_list.no_list);
  }

  -- a dataset came with them
  pub acts_with : (later : Contents) (new : GroupDatasets) (after : Pool) (then_plain : PlainPool) (kind : Kind) (reading : Reading) → IsOneMore pool after old.next kind
      → SpellsChains later group objects new.changes after (updated readings old.next reading) → NamesPool after (updated readings old.next reading) new.directory then_plain
      → new.next ≡ old.next + 2 → new.bounds ≡ old.bounds → ((k : ℕ) → (list_at new.changes k ≡ list_at old.changes k) ⊎ (k ≡ old.next + 1))
      → IsReachExchanged group known later (reach_by pool old.directory) (reach_by after new.directory) [] → AddsData known later
      → AreActed group objects known later old new pool then_plain
  acts_with later new after then_plain kind reading more chains names next bounds touched exchanged adds = record {
    after = after;
    readings = updated readings old.next reading;
    spells = record {
      chains = chains;
      names = names;
      fresh = λ k le within.
          still_fresh known group objects old.changes pool readings spells.chains later new.changes after _ old.next kind more chains fresh_n fresh_list touched k (omega (arith, le, next))
          (spells.fresh k (omega (arith, le, next)) (subst (λ b. IsWithin b k) bounds within));
      unmixed = still_unmixed known group objects old.changes pool readings spells.chains later new.changes after _ old.next kind more chains fresh_n fresh_list touched spells.unmixed;
    };
    exchanged = exchanged;
    adds = adds;
  }
