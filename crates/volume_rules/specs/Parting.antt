-- What a group destroys of what was there before it, and what it makes that stays.
use Rattle.std.specs.Prelude.{ℕ, Bool, List, [], ◌∷◌, ◌++◌, filter, fold, not, if◌then◌else◌}
use Rattle.std.specs.List.{list_any}
use Rattle.pool_model.specs.declared.item.Action.{Action}
use Rattle.pool_model.specs.declared.item.Change.{Change}
use Rattle.pool_model.specs.declared.item.Change.TheVariants.{Clone, Create, Destroy, Snapshot}
use Rattle.pool_model.specs.Names.{does_make}
use Rattle.pool_model.specs.Pools.{Entry}

-- the actions of a group, parted: the names that it destroys of what was there before it, and the actions whose things stay
pub record Parted : Type 0 where
  pub destroyed : List (List ℕ)
  pub made : List Action

-- no actions, parted
abbrev pub nothing_parted : Parted
nothing_parted = record { destroyed = []; made = [] }

-- one of the actions makes something of that name
abbrev pub is_made : List ℕ → List Action → Bool
is_made name actions = list_any (λ action. does_make action.change name) actions

-- those that don't
abbrev pub not_making : List ℕ → List Action → List Action
not_making name actions = filter (λ action. not (does_make action.change name)) actions

-- with one destroy more: it takes away what was made of that name, or else the name is destroyed behind the others
abbrev pub with_destroy : Parted → List ℕ → Parted
with_destroy parted name =
    if is_made name parted.made
    then record parted { made = not_making name parted.made }
    else record parted { destroyed = parted.destroyed ++ name ∷ [] }

-- with one action more
abbrev pub with_action : Parted → Action → Change → Parted
with_action parted action (Create name size block_size) = record parted { made = parted.made ++ action ∷ [] }
with_action parted action (Snapshot volume part) = record parted { made = parted.made ++ action ∷ [] }
with_action parted action (Clone snapshot name) = record parted { made = parted.made ++ action ∷ [] }
with_action parted action (Destroy name) = with_destroy parted name

-- these actions, parted, each list in order
abbrev pub parted_of : List Action → Parted
parted_of actions = fold (λ parted action. with_action parted action action.change) nothing_parted actions

-- the items of a group of which these actions are left
abbrev pub with_made : Entry → Parted → Entry
with_made entry parted = record entry { actions = parted.made }

-- the names that a group destroys of what was there before it
abbrev pub destroyed_by : Entry → List (List ℕ)
destroyed_by entry = (parted_of entry.actions).destroyed

-- the items of a group without what they destroy
abbrev pub made_by : Entry → Entry
made_by entry = with_made entry (parted_of entry.actions)
