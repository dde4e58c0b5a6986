-- A group's actions, parted, come to the same.
use Rattle.std.proofs.Common.{◌≡◌, ℕ, Bool, true, false, true≢false, List, [], ◌∷◌, ◌++◌, Option, Some, None, refl, sym, ap, ◌∙◌, subst}
use Rattle.std.specs.Prelude.{cond, fold, is_none, not}
use Rattle.std.specs.List.{AllByRecursion}
use Rattle.std.proofs.lemmas.List.Sums.{fold_push}
use Rattle.pool_model.specs.declared.item.Action.{Action}
use Rattle.pool_model.specs.declared.item.Change.{Change}
use Rattle.pool_model.specs.declared.item.Change.TheVariants.{Clone, Create, Destroy, Snapshot}
use Rattle.pool_model.specs.declared.volume.PlainVolume.{PlainVolume}
use Rattle.pool_model.specs.Names.{does_make}
use Rattle.pool_model.specs.Pools.{AreAscending, Entry, MayBeDestroyed, PlainPool, all_destroyed, applied, changed, destroyed, has_clones, has_snapshots, is_clone_of, is_snapshot_of, volume_at, without, written}
use Rattle.pool_model.specs.Refusals.{change_refusal}
use Rattle.pool_model.proofs.Plans.{all_append}
use Rattle.pool_model.proofs.SoundFlows.{all_filter}
use Rattle.volume_rules.specs.Effects.{TakeEffect}
use Rattle.volume_rules.specs.GoodChanges.{MakesGoodVolumes, is_good_change, is_good_making}
use Rattle.volume_rules.specs.NowMoves.{HasGoodNames}
use Rattle.volume_rules.specs.Parting.{Parted, destroyed_by, is_made, made_by, not_making, nothing_parted, parted_of, with_action, with_destroy}
use Rattle.volume_rules.proofs.PartChanges.{IsMaking}
use Rattle.volume_rules.proofs.PartMaking.{AllMaking, GoesFirst, changes, goes_along, goes_first, none_before, none_there, volume_stays_there}
use Rattle.volume_rules.proofs.PartNames.{goes, good_changed, may_go}
use Rattle.volume_rules.proofs.PartWrites.{all_destroyed_writes, ascending_destroyed, ascending_writes, good_writes, may_writes}

-- ---- one more

effect_more : (group : ℕ) (pool : PlainPool) (actions : List Action) (a : Action) → TakeEffect group pool actions → change_refusal a.change (changes group pool actions) ≡ None → TakeEffect group pool (actions ++ a ∷ [])
effect_more group pool [] a effects e = (e, tt)
effect_more group pool (x ∷ actions) a effects e = (effects.0, effect_more group (changed group pool x.change) actions a effects.1 e)

may_more : (names : List (List ℕ)) (pool : PlainPool) (name : List ℕ) → MayBeDestroyed names pool → has_snapshots name (all_destroyed names pool) ≡ false → has_clones name (all_destroyed names pool) ≡ false
    → MayBeDestroyed (names ++ name ∷ []) pool
may_more [] pool name may free unheld = (free, unheld, tt)
may_more (first ∷ names) pool name may free unheld = (may.0, may.1, may_more names (destroyed first pool) name may.2 free unheld)

-- ---- the actions so far

-- what is parted comes to the pool behind the actions so far
pub record IsParted (group : ℕ) (start pool : PlainPool) (parted : Parted) : Type 0 where
  pub is : changes group (all_destroyed parted.destroyed start) parted.made ≡ pool
  pub making : AllMaking parted.made
  pub effects : TakeEffect group (all_destroyed parted.destroyed start) parted.made
  pub may : MayBeDestroyed parted.destroyed start

made_more : (group : ℕ) (start pool : PlainPool) (parted : Parted) (a : Action) → IsParted group start pool parted → IsMaking a.change → change_refusal a.change pool ≡ None
    → IsParted group start (changed group pool a.change) (record parted { made = parted.made ++ a ∷ [] })
made_more group start pool parted a h making unrefused = record {
  is = fold_push (λ p (x : Action). changed group p x.change) (all_destroyed parted.destroyed start) parted.made a ∙ ap (λ p. changed group p a.change) h.is;
  making = all_append (λ (x : Action). IsMaking x.change) parted.made (a ∷ []) h.making (making, tt);
  effects = effect_more group (all_destroyed parted.destroyed start) parted.made a h.effects (ap (change_refusal a.change) h.is ∙ unrefused);
  may = h.may;
}

there_or_not : (o : Option PlainVolume) → is_none o ≡ false → (it : PlainVolume) × (o ≡ Some it)
there_or_not None e = absurd (true≢false e)
there_or_not (Some it) e = (it, refl)

-- the pool that the parted actions come to
abbrev comes_to : ℕ → PlainPool → Parted → PlainPool
comes_to group start parted = changes group (all_destroyed parted.destroyed start) parted.made

gone_more : (group : ℕ) (start : PlainPool) (parted : Parted) (name : List ℕ) → AreAscending start.volumes → AllMaking parted.made → TakeEffect group (all_destroyed parted.destroyed start) parted.made
    → MayBeDestroyed parted.destroyed start → HasGoodNames (comes_to group start parted) → change_refusal (Destroy name) (comes_to group start parted) ≡ None
    → IsParted group start (destroyed name (comes_to group start parted)) (with_destroy parted name)
gone_more group start parted name up making effects may good unrefused = cases (is_made name parted.made) refl (volume_at name (all_destroyed parted.destroyed start)) refl
  where
    rising : AreAscending (all_destroyed parted.destroyed start).volumes
    rising = ascending_destroyed parted.destroyed start up

    free : has_snapshots name (comes_to group start parted) ≡ false
    free = (may_go name (comes_to group start parted) unrefused).1

    unheld : has_clones name (comes_to group start parted) ≡ false
    unheld = (may_go name (comes_to group start parted) unrefused).2

    gone : destroyed name (comes_to group start parted) ≡ without name (comes_to group start parted)
    gone = goes name (comes_to group start parted) (may_go name (comes_to group start parted) unrefused).1 (may_go name (comes_to group start parted) unrefused).2

    first : (it : PlainVolume) → volume_at name (all_destroyed parted.destroyed start) ≡ Some it → GoesFirst group (all_destroyed parted.destroyed start) parted.made name
    first it f = goes_first group (all_destroyed parted.destroyed start) parted.made name it rising making effects f
        (good name it (volume_stays_there group (all_destroyed parted.destroyed start) parted.made name it making f)) free unheld

    cases : (b : Bool) → is_made name parted.made ≡ b → (o : Option PlainVolume) → volume_at name (all_destroyed parted.destroyed start) ≡ o
        → IsParted group start (destroyed name (comes_to group start parted))
        (cond b (record parted { made = not_making name parted.made }) (record parted { destroyed = parted.destroyed ++ name ∷ [] }))
    cases true e None f =
        let along = goes_along group (all_destroyed parted.destroyed start) parted.made name rising making effects f e good free unheld in
        record {
          is = along.is ∙ sym gone;
          making = all_filter (λ (x : Action). IsMaking x.change) (λ x. not (does_make x.change name)) parted.made making;
          effects = along.effects;
          may = may;
        }
    cases true e (Some it) f = absurd (true≢false (sym e ∙ (first it f).unmade))
    cases false e None f = absurd (true≢false (sym (ap is_none (none_there group (all_destroyed parted.destroyed start) parted.made name making e f)) ∙ (may_go name (comes_to group start parted) unrefused).0))
    cases false e (Some it) f =
        let none = none_before (is_snapshot_of name) group (all_destroyed parted.destroyed start) parted.made making free in
        let unkept = none_before (is_clone_of name) group (all_destroyed parted.destroyed start) parted.made making unheld in
        let next : all_destroyed (parted.destroyed ++ name ∷ []) start ≡ without name (all_destroyed parted.destroyed start) =
        fold_push (λ p n. destroyed n p) start parted.destroyed name ∙ goes name (all_destroyed parted.destroyed start) none unkept in
        record {
          is = ap (λ p. changes group p parted.made) next ∙ ((first it f).is ∙ sym gone);
          making = making;
          effects = subst (λ p. TakeEffect group p parted.made) (sym next) (first it f).effects;
          may = may_more parted.destroyed start name may none unkept;
        }

parted_more : (group : ℕ) (start pool : PlainPool) (parted : Parted) (a : Action) (change : Change) → a.change ≡ change → AreAscending start.volumes → IsParted group start pool parted → HasGoodNames pool
    → change_refusal a.change pool ≡ None → IsParted group start (changed group pool a.change) (with_action parted a change)
parted_more group start pool parted a (Create name size block_size) e up h good unrefused = made_more group start pool parted a h (subst IsMaking (sym e) tt) unrefused
parted_more group start pool parted a (Snapshot volume part) e up h good unrefused = made_more group start pool parted a h (subst IsMaking (sym e) tt) unrefused
parted_more group start pool parted a (Clone snapshot name) e up h good unrefused = made_more group start pool parted a h (subst IsMaking (sym e) tt) unrefused
parted_more group start pool parted a (Destroy name) e up h good unrefused =
    subst (λ change. IsParted group start (changed group pool change) (with_destroy parted name)) (sym e)
    (subst (λ p. IsParted group start (destroyed name p) (with_destroy parted name)) h.is
    (gone_more group start parted name up h.making h.effects h.may (subst HasGoodNames (sym h.is) good)
    (ap (change_refusal (Destroy name)) h.is ∙ (ap (λ change. change_refusal change pool) (sym e) ∙ unrefused))))

parted_all : (group : ℕ) (start pool : PlainPool) (parted : Parted) (actions : List Action) → AreAscending start.volumes → IsParted group start pool parted → HasGoodNames pool → TakeEffect group pool actions
    → IsParted group start (changes group pool actions) (fold (λ parted action. with_action parted action action.change) parted actions)
parted_all group start pool parted [] up h good effects = h
parted_all group start pool parted (a ∷ actions) up h good effects =
    parted_all group start (changed group pool a.change) (with_action parted a a.change) actions up
    (parted_more group start pool parted a a.change refl up h good effects.0) (good_changed group pool a.change effects.0 good) effects.1

-- ---- a whole group

group_parted : (group : ℕ) (pool : PlainPool) (entry : Entry) → AreAscending pool.volumes → HasGoodNames pool → TakeEffect group (fold written pool entry.writes) entry.actions
    → IsParted group (fold written pool entry.writes) (applied group pool entry) (parted_of entry.actions)
group_parted group pool entry up good effects =
    parted_all group (fold written pool entry.writes) (fold written pool entry.writes) nothing_parted entry.actions (ascending_writes pool entry.writes up)
    (record { is = refl; making = tt; effects = tt; may = tt }) (good_writes pool entry.writes good) effects

pub parted_same : (group : ℕ) (pool : PlainPool) (entry : Entry) → AreAscending pool.volumes → HasGoodNames pool → TakeEffect group (fold written pool entry.writes) entry.actions
    → applied group (all_destroyed (destroyed_by entry) pool) (made_by entry) ≡ applied group pool entry
parted_same group pool entry up good effects =
    ap (λ p. changes group p (parted_of entry.actions).made) (all_destroyed_writes (destroyed_by entry) pool entry.writes) ∙ (group_parted group pool entry up good effects).is

pub parted_may : (group : ℕ) (pool : PlainPool) (entry : Entry) → AreAscending pool.volumes → HasGoodNames pool → TakeEffect group (fold written pool entry.writes) entry.actions
    → MayBeDestroyed (destroyed_by entry) pool
parted_may group pool entry up good effects = may_writes (destroyed_by entry) pool entry.writes (group_parted group pool entry up good effects).may

-- ---- what is made is good

abbrev AllGood : List Action → Type 0
AllGood actions = AllByRecursion (λ a. is_good_making a.change ≡ true) actions

good_one : (parted : Parted) (a : Action) → is_good_making a.change ≡ true → AllGood parted.made → AllGood (parted.made ++ a ∷ [])
good_one parted a good all = all_append (λ (x : Action). is_good_making x.change ≡ true) parted.made (a ∷ []) all (good, tt)

good_more : (parted : Parted) (a : Action) (change : Change) → a.change ≡ change → is_good_change change ≡ true → AllGood parted.made → AllGood (with_action parted a change).made
good_more parted a (Create name size block_size) e good all = good_one parted a (ap is_good_making e ∙ good) all
good_more parted a (Snapshot volume part) e good all = good_one parted a (ap is_good_making e ∙ good) all
good_more parted a (Clone snapshot name) e good all = good_one parted a (ap is_good_making e ∙ good) all
good_more parted a (Destroy name) e good all =
    elim (is_made name parted.made) as (λ b. AllGood (cond b (record parted { made = not_making name parted.made }) (record parted { destroyed = parted.destroyed ++ name ∷ [] })).made) [
      | true ↦ all_filter (λ (x : Action). is_good_making x.change ≡ true) (λ x. not (does_make x.change name)) parted.made all
      | false ↦ all
    ]

good_all : (parted : Parted) (actions : List Action) → AllByRecursion (λ a. is_good_change a.change ≡ true) actions → AllGood parted.made
    → AllGood (fold (λ parted action. with_action parted action action.change) parted actions).made
good_all parted [] good all = all
good_all parted (a ∷ actions) good all = good_all (with_action parted a a.change) actions good.1 (good_more parted a a.change refl good.0 all)

pub parted_good : (entry : Entry) → MakesGoodVolumes entry → AllByRecursion (λ a. is_good_making a.change ≡ true) (made_by entry).actions
parted_good entry good = good_all nothing_parted entry.actions good tt
