-- The datasets of a set as a group begins with them.
use Rattle.std.proofs.Common.{◌≡◌, ◌≤◌, ◌+◌, ◌-◌, ℕ, List, [], ◌∷◌, Option, None, zero, suc, sym, subst, arith}
use Rattle.std.specs.List.{AllZip}
use Rattle.block_pointer.specs.declared.block.Block.{Block}
use Rattle.block_store.specs.Blocks.{Contents}
use Rattle.dataset_destroys.proofs.ChainStaying.{chains_stay}
use Rattle.dataset_destroys.proofs.ChainStands.{begins}
use Rattle.dataset_destroys.specs.Chains.{Reading, SpellsChains}
use Rattle.dataset_destroys.specs.ChainStanding.{HasChains}
use Rattle.dataset_destroys.specs.States.{AreUntouched}
use Rattle.dataset_destroys.specs.DatasetChanges.{DatasetChanges}
use Rattle.dead_list.specs.Datasets.{Pool}
use Rattle.dnode.specs.declared.dnode.Dnode.{Dnode}
use Rattle.dnode.specs.declared.object_set.ObjectSet.{ObjectSet}
use Rattle.objset.specs.Nodes.{birth_of}
use Rattle.meta_objset.specs.declared.directory.DirectoryRow.{DirectoryRow}
use Rattle.objset.specs.Objects.{AreObjects, IsObject, Object}
use Rattle.pool_model.specs.declared.volume.PlainVolume.{PlainVolume}
use Rattle.pool_model.specs.Pools.{PlainPool}
use Rattle.dataset_groups.specs.Groups.{SpellsGroup, first_number}
use Rattle.dataset_groups.specs.Laws.{GroupsBeforeAreOlder}
use Rattle.dataset_groups.specs.Names.{NamesPool, NamesVolume}
use Rattle.dataset_groups.specs.declared.datasets.GroupDatasets.{GroupDatasets}

-- the pool in another group
abbrev pub in_group : Pool → ℕ → Pool
in_group pool group = record pool { group = group }

-- so many groups later
later_groups : (known : Contents) (group later count : ℕ) (objects : ℕ → Option Object) (changes : DatasetChanges) (pool : Pool) (readings : ℕ → Reading) → later ≡ group + count
    → SpellsChains known group objects changes (in_group pool group) readings → SpellsChains known later objects changes (in_group pool later) readings
later_groups known group later zero objects changes pool readings e is =
    subst (λ n. SpellsChains known n objects changes (in_group pool n) readings) (let same : group ≡ later = omega (arith, e) in same) is
later_groups known group later (suc count) objects changes pool readings e is =
    later_groups known (suc group) later count objects changes pool readings (omega (arith, e)) (chains_stay.next known group objects changes (in_group pool group) readings is)

pub in_later_group : (known : Contents) (bound group : ℕ) (objects : ℕ → Option Object) (changes : DatasetChanges) (pool : Pool) (readings : ℕ → Reading) → bound ≤ group
    → SpellsChains known bound objects changes pool readings → SpellsChains known group objects changes (in_group pool group) readings
in_later_group known bound group objects changes pool readings le is =
    later_groups known bound group (group - bound) objects changes pool readings (omega (arith, le))
    (subst (λ n. SpellsChains known bound objects changes (in_group pool n) readings) is.now is)

-- what the rows name is said of the datasets alone
named_in : (pool : Pool) (group : ℕ) (readings : ℕ → Reading) (rows : List DirectoryRow) (volumes : List PlainVolume) → AllZip (NamesVolume pool readings) rows volumes
    → AllZip (NamesVolume (in_group pool group) readings) rows volumes
named_in pool group readings [] [] all = all
named_in pool group readings (row ∷ rows) (volume ∷ volumes) all = (
  record { name = all.0.name; good = all.0.good; kind = all.0.kind; created = all.0.created; array = all.0.array; block_size = all.0.block_size },
  named_in pool group readings rows volumes all.1,
)
named_in pool group readings [] (volume ∷ volumes) all = absurd all
named_in pool group readings (row ∷ rows) [] all = absurd all

-- behind the last number there is no object
nothing_behind : (stored : Contents) (birth : ℕ) (set : ObjectSet) (objects : ℕ → Option Object) (own : List Block) (blocks : ℕ → List Block) → AreObjects stored birth set objects own blocks
    → (number : ℕ) → set.objects ≤ number → objects number ≡ None
nothing_behind stored birth set objects own blocks are number le =
    (subst (λ (node : Dnode). IsObject stored (birth_of are.dnodes.births number) node (objects number) (blocks number)) (are.dnodes.behind number le) (are.each number)).0

pub group_begins : (stored : Contents) (bound birth group : ℕ) (set : ObjectSet) (objects : ℕ → Option Object) (own : List Block) (blocks : ℕ → List Block) (pool : Pool) (readings : ℕ → Reading)
    (rows : List DirectoryRow) (plain : PlainPool) (datasets : GroupDatasets) → AreUntouched datasets.changes → datasets.directory ≡ rows → datasets.next ≡ first_number set
    → set.objects ≤ first_number set → AreObjects stored birth set objects own blocks → HasChains stored bound objects pool readings → bound ≤ group → NamesPool pool readings rows plain
    → SpellsGroup stored group objects datasets (in_group pool group) readings plain
group_begins stored bound birth group set objects own blocks pool readings rows plain datasets none directory next least are chains le names = record {
  chains = in_later_group stored bound group objects datasets.changes pool readings le (begins objects datasets.changes none stored bound pool readings chains);
  names = subst (λ (rs : List DirectoryRow). NamesPool (in_group pool group) readings rs plain) (sym directory)
      (record {
        numbers = record { each = names.numbers.each; once = names.numbers.once };
        volumes = named_in pool group readings rows plain.volumes names.volumes;
        chains = record { chains = names.chains.chains; branches = names.chains.branches; clones = names.chains.clones };
      });
  fresh = λ number behind within. record {
    no_object = nothing_behind stored birth set objects own blocks are number (omega (arith, behind, next, least));
    no_record = (none number).0;
    no_list = (none number).1;
  };
  unmixed = λ mixed. mixed.1 (none mixed.0).0;
}

-- ---- the law

pub before_are_older : GroupsBeforeAreOlder
before_are_older stored group objects pool readings chains number =
    let fits = chains.sound.fits number in
    let made = fits.made in
    let past = fits.past in
    let now = chains.now in
    omega (arith, made, past, now)
