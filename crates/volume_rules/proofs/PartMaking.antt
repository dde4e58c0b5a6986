-- Changes that make something, one after another, beside a name that goes.
use Rattle.std.proofs.Common.{◌≡◌, ℕ, Bool, true, false, true≢false, List, [], ◌∷◌, Some, None, refl, sym, ap, ◌∙◌, subst}
use Rattle.std.specs.Prelude.{◌||◌, cond, fold, not}
use Rattle.std.specs.List.{AllByRecursion, list_any}
use Rattle.std.specs.Option.{option_or}
use Rattle.pool_model.specs.declared.item.Action.{Action}
use Rattle.pool_model.specs.declared.volume.PlainVolume.{PlainVolume}
use Rattle.pool_model.specs.Names.{does_make, is_name_for, same, volume_of}
use Rattle.pool_model.specs.Pools.{AreAscending, PlainPool, changed, has_clones, has_snapshots, is_clone_of, is_snapshot_of, volume_at, without}
use Rattle.pool_model.specs.Refusals.{change_refusal}
use Rattle.pool_model.proofs.Places.{ascending_changed}
use Rattle.volume_rules.specs.Effects.{TakeEffect}
use Rattle.volume_rules.specs.NowMoves.{HasGoodNames}
use Rattle.volume_rules.specs.Parting.{is_made, not_making}
use Rattle.volume_rules.proofs.PartBeside.{changed_beside, changed_gone, refusal_beside}
use Rattle.volume_rules.proofs.PartChanges.{IsMaking, any_stays, made_in, made_there, makes_no_other, none_stays, volume_changed, volume_stays}
use Rattle.volume_rules.proofs.PartNames.{of_no_other}

-- each of them makes something
abbrev pub AllMaking : List Action → Type 0
AllMaking actions = AllByRecursion (λ a. IsMaking a.change) actions

-- the pool behind them
abbrev pub changes : ℕ → PlainPool → List Action → PlainPool
changes group pool actions = fold (λ p a. changed group p a.change) pool actions

-- ---- what is there stays

pub volume_stays_there : (group : ℕ) (pool : PlainPool) (actions : List Action) (name : List ℕ) (v : PlainVolume) → AllMaking actions → volume_at name pool ≡ Some v → volume_at name (changes group pool actions) ≡ Some v
volume_stays_there group pool [] name v making there = there
volume_stays_there group pool (a ∷ actions) name v making there = volume_stays_there group (changed group pool a.change) actions name v making.1 (volume_stays group pool a.change name v making.0 there)

any_stays_there : (test : PlainVolume → Bool) (group : ℕ) (pool : PlainPool) (actions : List Action) → AllMaking actions → list_any test pool.volumes ≡ true → list_any test (changes group pool actions).volumes ≡ true
any_stays_there test group pool [] making e = e
any_stays_there test group pool (a ∷ actions) making e = any_stays_there test group (changed group pool a.change) actions making.1 (any_stays test group pool a.change making.0 e)

-- what isn't there behind them wasn't there
pub none_before : (test : PlainVolume → Bool) (group : ℕ) (pool : PlainPool) (actions : List Action) → AllMaking actions → list_any test (changes group pool actions).volumes ≡ false → list_any test pool.volumes ≡ false
none_before test group pool actions making e = cases (list_any test pool.volumes) refl
  where
    cases : (b : Bool) → list_any test pool.volumes ≡ b → b ≡ false
    cases true f = absurd (true≢false (sym (any_stays_there test group pool actions making f) ∙ e))
    cases false f = refl

-- ---- a name that none of them makes

pub none_made : (name : List ℕ) (actions : List Action) → is_made name actions ≡ false → not_making name actions ≡ actions
none_made name [] e = refl
none_made name (a ∷ actions) e = cases (does_make a.change name) e (none_made name actions)
  where
    cases : (b : Bool) → (b || is_made name actions) ≡ false → (is_made name actions ≡ false → not_making name actions ≡ actions) → cond (not b) (a ∷ not_making name actions) (not_making name actions) ≡ a ∷ actions
    cases true f rest = absurd (true≢false f)
    cases false f rest = ap (λ more. a ∷ more) (rest f)

-- and that isn't there isn't there behind them
pub none_there : (group : ℕ) (pool : PlainPool) (actions : List Action) (name : List ℕ) → AllMaking actions → is_made name actions ≡ false → volume_at name pool ≡ None → volume_at name (changes group pool actions) ≡ None
none_there group pool [] name making other e = e
none_there group pool (a ∷ actions) name making other e = cases (does_make a.change name) refl other (λ o f. none_there group (changed group pool a.change) actions name making.1 o f)
  where
    cases : (b : Bool) → does_make a.change name ≡ b → (b || is_made name actions) ≡ false
        → (is_made name actions ≡ false → volume_at name (changed group pool a.change) ≡ None → volume_at name (changes group (changed group pool a.change) actions) ≡ None)
        → volume_at name (changes group (changed group pool a.change) actions) ≡ None
    cases true f o rest = absurd (true≢false o)
    cases false f o rest = rest o (none_stays group pool a.change name making.0 f e)

-- ---- a name that goes

-- a name that none of them makes, or is of, goes before them as it does behind them
pub record GoesFirst (group : ℕ) (pool : PlainPool) (actions : List Action) (name : List ℕ) : Type 0 where
  pub unmade : is_made name actions ≡ false
  pub is : changes group (without name pool) actions ≡ without name (changes group pool actions)
  pub effects : TakeEffect group (without name pool) actions

first_more : (group : ℕ) (pool : PlainPool) (a : Action) (actions : List Action) (name : List ℕ) → AreAscending pool.volumes → IsMaking a.change → change_refusal a.change pool ≡ None
    → does_make a.change name ≡ false → same (volume_of a.change) name ≡ false → GoesFirst group (changed group pool a.change) actions name → GoesFirst group pool (a ∷ actions) name
first_more group pool a actions name up making unrefused other apart rest = record {
  unmade = λ i. other i || rest.unmade i;
  is = ap (λ p. changes group p actions) step ∙ rest.is;
  effects = (refusal_beside a.change pool name making other apart ∙ unrefused, subst (λ p. TakeEffect group p actions) (sym step) rest.effects);
}
  where
    step : changed group (without name pool) a.change ≡ without name (changed group pool a.change)
    step = changed_beside group pool a.change name up making other apart

pub goes_first : (group : ℕ) (pool : PlainPool) (actions : List Action) (name : List ℕ) (it : PlainVolume) → AreAscending pool.volumes → AllMaking actions → TakeEffect group pool actions
    → volume_at name pool ≡ Some it → is_name_for it.kind name ≡ true → has_snapshots name (changes group pool actions) ≡ false → has_clones name (changes group pool actions) ≡ false
    → GoesFirst group pool actions name
goes_first group pool [] name it up making effects there good free unheld = record { unmade = refl; is = refl; effects = tt }
goes_first group pool (a ∷ actions) name it up making effects there good free unheld =
    let next = changed group pool a.change in
    let apart = of_no_other group pool a.change name it making.0 effects.0 there good
    (none_before (is_snapshot_of name) group next actions making.1 free) (none_before (is_clone_of name) group next actions making.1 unheld) in
    first_more group pool a actions name up making.0 effects.0 (makes_no_other a.change pool name it making.0 effects.0 there) apart
    (goes_first group next actions name it (ascending_changed group pool a.change up) making.1 effects.1 (volume_stays group pool a.change name it making.0 there) good free unheld)

-- a name that one of them makes goes with what makes it: the others stay
pub record GoesAlong (group : ℕ) (pool : PlainPool) (actions kept : List Action) (name : List ℕ) : Type 0 where
  pub is : changes group pool kept ≡ without name (changes group pool actions)
  pub effects : TakeEffect group pool kept

made_first : (group : ℕ) (pool : PlainPool) (a : Action) (actions kept : List Action) (name : List ℕ) → AreAscending pool.volumes → IsMaking a.change → does_make a.change name ≡ true → volume_at name pool ≡ None
    → kept ≡ actions → GoesFirst group (changed group pool a.change) actions name → GoesAlong group pool (a ∷ actions) kept name
made_first group pool a actions kept name up making made free same_actions first = record {
  is = (λ i. changes group (back i) (same_actions i)) ∙ first.is;
  effects = subst (λ (x : PlainPool × List Action). TakeEffect group x.0 x.1) (λ i. (sym back i, sym same_actions i)) first.effects;
}
  where
    back : pool ≡ without name (changed group pool a.change)
    back = sym (changed_gone group pool a.change name up making made free)

pub goes_along : (group : ℕ) (pool : PlainPool) (actions : List Action) (name : List ℕ) → AreAscending pool.volumes → AllMaking actions → TakeEffect group pool actions
    → volume_at name pool ≡ None → is_made name actions ≡ true → HasGoodNames (changes group pool actions)
    → has_snapshots name (changes group pool actions) ≡ false → has_clones name (changes group pool actions) ≡ false
    → GoesAlong group pool actions (not_making name actions) name
goes_along group pool [] name up making effects none made good free unheld = absurd (true≢false (sym made))
goes_along group pool (a ∷ actions) name up making effects none made good free unheld =
    cases (does_make a.change name) refl made
    (λ none made. goes_along group (changed group pool a.change) actions name (ascending_changed group pool a.change up) making.1 effects.1 none made good free unheld)
  where
    cases : (b : Bool) → does_make a.change name ≡ b → (b || is_made name actions) ≡ true
        → (volume_at name (changed group pool a.change) ≡ None → is_made name actions ≡ true → GoesAlong group (changed group pool a.change) actions (not_making name actions) name)
        → GoesAlong group pool (a ∷ actions) (cond (not b) (a ∷ not_making name actions) (not_making name actions)) name
    cases true e m rest =
        let new = made_there group pool a.change making.0 effects.0 in
        let there : volume_at name (changed group pool a.change) ≡ Some new.0 =
        volume_changed group pool a.change name making.0 ∙ ((λ i. option_or (none i) (cond (e i) (made_in group pool a.change) None)) ∙ new.1) in
        let first = goes_first group (changed group pool a.change) actions name new.0 (ascending_changed group pool a.change up) making.1 effects.1 there
        (good name new.0 (volume_stays_there group (changed group pool a.change) actions name new.0 making.1 there)) free unheld in
        made_first group pool a actions (not_making name actions) name up making.0 e none (none_made name actions first.unmade) first
    cases false e m rest =
        let others = rest (none_stays group pool a.change name making.0 e none) m in
        record { is = others.is; effects = (effects.0, others.effects) }
