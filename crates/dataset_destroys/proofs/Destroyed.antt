-- A snapshot that was looked up is destroyed.
use Rattle.std.proofs.Common.{◌≡◌, ◌≢◌, ◌↔◌, ℕ, List, Option, Some, None, refl, sym, ap, ◌∙◌, subst}
use Rattle.block_pointer.specs.declared.block.Block.{Block}
use Rattle.block_store.specs.Blocks.{Contents}
use Rattle.dataset_chains.specs.Chains.{Reading, SpellsChains}
use Rattle.dataset_chains.specs.Over.{AreOver, HasRecordNow}
use Rattle.dataset_chains.specs.States.{HasListPut, HaveSameLists, HaveSameRecords}
use Rattle.dataset_chains.specs.DatasetChanges.{DatasetChanges}
use Rattle.dataset_chains.specs.ListState.{ListState}
use Rattle.dead_list.specs.Blocks.{IsSplit}
use Rattle.dead_list.specs.Datasets.{Dataset, Free, Pool, group_before}
use Rattle.dead_list.specs.Datasets.{Snapshot as ASnapshot}
use Rattle.dead_list.specs.Operations.{DestroySnapshot, IsSnapshotDestroyed, Makes, MayDo, Operation, without_snapshot}
use Rattle.dead_list.specs.Sound.{IsSound}
use Rattle.meta_objset.specs.declared.record.DatasetRecord.{DatasetRecord}
use Rattle.objset.specs.Objects.{Object}
use Rattle.dataset_destroys.proofs.Chains.{HasAs, before_is_snapshot, before_not_after, before_other, has_as, not_none}
use Rattle.dataset_destroys.proofs.Finding.{next_is, next_used, snapshot_as}
use Rattle.dataset_destroys.proofs.GivenOver.{other_has}
use Rattle.dataset_destroys.proofs.ReadSteps.{same_lists, same_records}
use Rattle.dataset_destroys.proofs.SnapshotGone.{AreLists, chains_without}
use Rattle.dataset_destroys.specs.Places.{ArePlaced, IsApart}
use Rattle.dataset_destroys.specs.Steps.{AreGivenOver, AreSameNow, IsBefore, IsPassed, IsTheRecord, group_of}
use Rattle.dataset_destroys.specs.declared.places.Place.{Place}

-- ---- the same records

abbrev pub AreSameRecords : (ℕ → Option Object) → DatasetChanges → DatasetChanges → Type 0
AreSameRecords objects old new = (number : ℕ) (r : DatasetRecord) → HasRecordNow objects old number r ↔ HasRecordNow objects new number r

pub records_on : (objects : ℕ → Option Object) (old mid new : DatasetChanges) → AreSameRecords objects old mid → HaveSameRecords mid new → AreSameRecords objects old new
records_on objects old mid new first rest number r = (
  λ has. (same_records objects mid new rest number r).0 ((first number r).0 has),
  λ has. (first number r).1 ((same_records objects mid new rest number r).1 has),
)

pub the_record : (objects : ℕ → Option Object) (old new : DatasetChanges) (number : ℕ) (r : DatasetRecord) → AreSameRecords objects old new → IsTheRecord objects old number r → IsTheRecord objects new number r
the_record objects old new number r same it = record { has = (same number r).0 it.has; one = λ other has. it.one other ((same number other).1 has) }

pub before_same : (objects : ℕ → Option Object) (old new : DatasetChanges) (previous : ℕ) (before : Option DatasetRecord) → AreSameRecords objects old new → IsBefore objects old previous before → IsBefore objects new previous before
before_same objects old new previous None same is = is
before_same objects old new previous (Some r) same is = (is.0, the_record objects old new previous r same is.1)

pub placed_same : (objects : ℕ → Option Object) (old new : DatasetChanges) (place : Place) → AreSameRecords objects old new → ArePlaced objects old place → ArePlaced objects new place
placed_same objects old new place same placed = record {
  gone_is = the_record objects old new place.number place.gone same placed.gone_is;
  after_is = the_record objects old new place.gone.next place.after same placed.after_is;
  before_is = before_same objects old new place.gone.previous place.before same placed.before_is;
}

-- between changes with the same records
pub passed_same : (objects : ℕ → Option Object) (old from to new : DatasetChanges) (number previous next : ℕ) (after : DatasetRecord) (before : Option DatasetRecord) → AreSameRecords objects old from → HaveSameRecords to new → AreOver objects new
    → IsPassed objects from to number previous next after before → IsPassed objects old new number previous next after before
passed_same objects old from to new number previous next after before first rest over passed =
    let last = same_records objects to new rest in
    record {
      over = over;
      none = λ r has. passed.none r ((last number r).1 has);
      after_is = the_record objects to new next (record after { previous = previous }) last passed.after_is;
      stay = λ other r nn nx has. (last other _).0 (passed.stay other r nn nx ((first other r).0 has));
      were = λ other r nn nx has.
          let was = passed.were other r nn nx ((last other r).1 has) in
          (was.0, (first other was.0).1 was.1, was.2);
    }

-- ---- a place in the chains

module _ (known : Contents) (group : ℕ) (objects : ℕ → Option Object) (old : DatasetChanges) (pool : Pool) (readings : ℕ → Reading)
    (spells : SpellsChains known group objects old pool readings) (d : ℕ) (may : MayDo pool (DestroySnapshot d)) (place : Place) (number : place.number ≡ d) (placed : ArePlaced objects old place) where
  gone_is : IsTheRecord objects old d place.gone
  gone_is = subst (λ k. IsTheRecord objects old k place.gone) number placed.gone_is

  pub gone_as : HasAs known group objects old pool readings d place.gone
  gone_as = snapshot_as known group objects old pool readings spells d place.gone may.0 gone_is

  next_e : pool.next d ≡ place.gone.next
  next_e = next_is known group objects old pool readings spells d place.gone may.0 gone_is

  previous_e : (pool.datasets d).before ≡ place.gone.previous
  previous_e = gone_as.is.previous

  after_is : IsTheRecord objects old (pool.next d) place.after
  after_is = subst (λ k. IsTheRecord objects old k place.after) (sym next_e) placed.after_is

  pub after_as : HasAs known group objects old pool readings (pool.next d) place.after
  after_as = has_as known group objects old pool readings (pool.next d) place.after (spells.each (pool.next d) (next_used known group objects old pool readings spells d may.0)) after_is

  before_is : IsBefore objects old (pool.datasets d).before place.before
  before_is = subst (λ k. IsBefore objects old k place.before) (sym previous_e) placed.before_is

  some : d ≢ 0
  some = not_none pool spells.sound d (λ free. let clash : Free ≡ ASnapshot = sym free ∙ may.0 in cc)

  behind : (pool.datasets (pool.next d)).before ≡ d
  behind = spells.sound.followed d may.0

  next_not : pool.next d ≢ d
  next_not e = before_other pool spells.sound d some (sym (ap (λ k. (pool.datasets k).before) e) ∙ behind)

  some_next : pool.next d ≢ 0
  some_next e = some (sym behind ∙ ap (λ k. (pool.datasets k).before) e ∙ ap (λ (x : Dataset). x.before) spells.sound.none)

  pub lists_apart : place.gone.dead_list ≢ place.after.dead_list
  lists_apart e = next_not (sym (spells.apart d (pool.next d) place.gone place.after gone_is.has after_is.has e))

  pub place_apart : IsApart place
  place_apart = record {
    next = λ e. next_not (next_e ∙ e ∙ number);
    before = λ e. before_other pool spells.sound d some (previous_e ∙ e ∙ number);
    ends = λ e. before_not_after pool spells.sound d (pool.next d) behind some some_next (previous_e ∙ e ∙ sym next_e);
  }

  -- the group of the snapshot before
  since_by : (b : Option DatasetRecord) → IsBefore objects old (pool.datasets d).before b → group_before pool.datasets d ≡ group_of b
  since_by None first = ap (λ k. (pool.datasets k).group) first ∙ ap (λ (x : Dataset). x.group) spells.sound.none
  since_by (Some b) is = (snapshot_as known group objects old pool readings spells (pool.datasets d).before b (before_is_snapshot pool spells.sound d is.0) is.1).is.created

  since_is : group_before pool.datasets d ≡ group_of place.before
  since_is = since_by place.before before_is

  -- ---- the steps

  module _ (looked given linked new : DatasetChanges) (gone : List Block) (state : Option ListState) (law : (was becomes : Pool) (operation : Operation) (freed : List Block) → IsSound was → MayDo was operation → Makes was operation freed becomes → IsSound becomes)
      (same : AreSameNow objects old looked)
      (over_given : AreGivenOver objects looked given place.gone.dead_list place.after.dead_list (group_of place.before) (pool.datasets (pool.next d)).dead (pool.datasets d).dead gone) (kept : HaveSameRecords looked given)
      (passed : IsPassed objects given linked place.number place.gone.previous place.gone.next place.after place.before) (same_linked : HaveSameLists given linked)
      (put : HasListPut linked place.gone.dead_list state new) (same_new : HaveSameRecords linked new) (over : AreOver objects new) where
    lists : AreLists objects old new place.gone.dead_list place.after.dead_list over_given.merged
    lists = record {
      has = other_has objects linked new place.gone.dead_list state place.after.dead_list over_given.merged put (λ e. lists_apart (sym e)) (same_lists objects given linked same_linked place.after.dead_list over_given.merged over_given.has);
      others = λ other list not_from not_into has.
          other_has objects linked new place.gone.dead_list state other list put not_from
          (same_lists objects given linked same_linked other list (over_given.others other list not_from not_into (same.lists other list has)));
    }

    passed_is : IsPassed objects old new d (pool.datasets d).before (pool.next d) place.after place.before
    passed_is =
        subst (λ k. IsPassed objects old new k (pool.datasets d).before (pool.next d) place.after place.before) number
        (subst (λ k. IsPassed objects old new place.number k (pool.next d) place.after place.before) (sym previous_e)
        (subst (λ k. IsPassed objects old new place.number place.gone.previous k place.after place.before) (sym next_e)
        (passed_same objects old given linked new place.number place.gone.previous place.gone.next place.after place.before (records_on objects old looked given same.records kept) same_new over passed)))

    makes : IsSnapshotDestroyed pool d gone (without_snapshot pool d over_given.merged)
    makes = record {
      dead = over_given.merged;
      older = over_given.older;
      split = subst (λ since. IsSplit since (pool.datasets (pool.next d)).dead gone over_given.older) (sym since_is) over_given.split;
      dead_are = over_given.joined;
      new_is = refl;
    }

    pub destroyed : (made : Pool) × Makes pool (DestroySnapshot d) gone made × SpellsChains known group objects new made readings
    destroyed = (
      without_snapshot pool d over_given.merged,
      makes,
      chains_without known group objects old new pool readings spells d may.0 place.gone place.after place.before gone_is after_is before_is passed_is over_given.merged lists
          (law pool (without_snapshot pool d over_given.merged) (DestroySnapshot d) gone spells.sound may makes),
    )
