-- What actions make, with what they ask places for.
use Rattle.std.proofs.Common.{◌≡◌, ◌⊎◌, ◌↔◌, ℕ, ◌+◌, ◌<◌, ◌≤◌, List, [], ◌∷◌, ◌++◌, length, take, drop, get_or, Contains, inl, inr, ⊎_elim, refl, sym, ap, subst, ◌∙◌, append_assoc, arith}
use Rattle.std.proofs.lemmas.List.{append-nil, length-append, take-append-drop, take_more}
use Rattle.std.proofs.lemmas.List.Edits.{length-insert}
use Rattle.std.proofs.lemmas.List.Elements.{All-contains}
use Rattle.std.proofs.lemmas.List.Quantifiers.{Any-push}
use Rattle.block_store.specs.declared.refusal.Refusal.{Refusal}
use Rattle.block_store.specs.Demands.{Demand, HavePlaces}
use Rattle.block_store.specs.Places.{shapes_of}
use Rattle.block_store.specs.Steps.{OnlyReadsAndPlans}
use Rattle.block_store.specs.Store.{Store}
use Rattle.dataset_destroys.proofs.ChainChained.{one_set_on}
use Rattle.dataset_destroys.specs.States.{AreOfOneSet}
use Rattle.meta_objset.proofs.Edits.{row_added}
use Rattle.meta_objset.specs.declared.directory.DirectoryRow.{DirectoryRow}
use Rattle.meta_objset.specs.Directory.{IsPlacedAmong, IsWith, LacksName}
use Rattle.meta_objset.specs.Names.{IsNamed}
use Rattle.pool_model.specs.declared.item.Action.{Action}
use Rattle.pool_model.specs.declared.item.Change.{Change}
use Rattle.pool_model.specs.declared.item.Change.TheVariants.{Clone, Create, Destroy, Snapshot}
use Rattle.pool_model.specs.Names.{name_of}
use Rattle.volume.specs.Demands.{empty_set}
use Rattle.dataset_groups.specs.declared.datasets.GroupDatasets.{GroupDatasets}
use Rattle.dataset_groups.specs.declared.datasets.NumberBounds.{NumberBounds}
use Rattle.dataset_groups.specs.Demands.{AreMade, HasActionDemands, HasChangeDemands, HasChangePlaces, HasMoreRows, HasVolume, IsActionRefused, IsMaking, IsMakingRefused, IsNameMade}
use Rattle.dataset_groups.specs.Demands.{IsNameThere, IsObjectFor, IsOneMade, IsThereAlready, IsUnmade, MakesAll, MakesNamesOf, MakesOne}
use Rattle.dataset_groups.specs.Touched.{TouchesChange}
use Rattle.dataset_groups.proofs.Asking.{no_places, places_more, set_demands_in}
use Rattle.dataset_groups.proofs.NewTouches.{touches_none, touches_on}
use Rattle.dataset_groups.proofs.Rows.{names_same, padded_same}
use Rattle.dataset_groups.proofs.ListParts.{any_append_left, any_push_cases}

-- ---- names

-- no row has the name where none has it padded
pub not_there : (rows : List DirectoryRow) (padded name : List ℕ) → IsNamed padded name → LacksName rows padded → ¬ IsNameThere rows name
not_there rows padded name named lacks (row, held, is) =
    All-contains (λ (other : DirectoryRow). ¬ (other.name ≡ padded)) rows row lacks held (padded_same row.name padded name name is named refl)

-- the name is there where a row has it padded
pub has_name : (rows : List DirectoryRow) (padded name : List ℕ) (object : ℕ) → IsNamed padded name → Contains rows (record { name = padded; object = object }) → IsNameThere rows name
has_name rows padded name object named held = (record { name = padded; object = object }, held, named)

nothing_made : (name : List ℕ) → ¬ IsNameMade [] name
nothing_made name (k, action, low, at, is) = absurd (omega (arith, low))

-- behind nothing a name is there where a row has it
pub in_rows : (rows : List DirectoryRow) (name : List ℕ) → IsThereAlready rows [] name → IsNameThere rows name
in_rows rows name (inl there) = there
in_rows rows name (inr made) = absurd (nothing_made name made)

-- ---- one more

-- the names with one row more
names_with : (before after : List DirectoryRow) (row : DirectoryRow) (name : List ℕ) → IsNamed row.name name → IsWith before row after
    → (other : List ℕ) → IsNameThere after other ↔ (IsNameThere before other ⊎ (name ≡ other))
names_with before after row name named more other = (
  λ there.
      ⊎_elim (λ held. inl (there.0, held, there.2)) (λ same. inr (names_same row.name name other named (subst (λ (r : DirectoryRow). IsNamed r.name other) same there.2)))
      ((more there.0).0 there.1),
  λ either.
      ⊎_elim (λ old. (old.0, (more old.0).1 (inl old.1), old.2)) (λ same. (row, (more row).1 (inr refl), subst (IsNamed row.name) same named)) either,
)

rows_more : (before after : List DirectoryRow) (row : DirectoryRow) → IsWith before row after → HasMoreRows before row.object after
rows_more before after row more = (
  λ other held. (more other).1 (inl held),
  λ other held.
      ⊎_elim (λ old. inl old) (λ same. let at : other.object ≡ row.object = ap (λ (r : DirectoryRow). r.object) same in inr (omega (arith, at))) ((more other).0 held),
)

-- one that has the next number, under a name
pub one_made : (old new : GroupDatasets) (padded name : List ℕ) → IsNamed padded name → IsPlacedAmong old.directory (record { name = padded; object = old.next }) new.directory
    → new.next ≡ old.next + 2 → new.bounds ≡ old.bounds → IsOneMade old new name
one_made old new padded name named placed next bounds =
    let row : DirectoryRow = record { name = padded; object = old.next } in
    let more : IsWith old.directory row new.directory = subst (IsWith old.directory row) (sym placed.placed) (row_added old.directory row placed.at) in
    record {
      names = names_with old.directory new.directory row name named more;
      next = next;
      bounds = bounds;
      rows = ap length placed.placed ∙ length-insert old.directory placed.at row placed.within;
      kept = rows_more old.directory new.directory row more;
    }

-- ---- one after the other

module _ (rows : List DirectoryRow) (action : Action) where
  -- it makes nothing behind those that did
  made_kept : (before actions made : List Action) → AreMade rows before actions made → ¬ IsMaking rows (before ++ made) action.change → AreMade rows before (actions ++ action ∷ []) made
  made_kept before [] made none idle =
      inl (λ making. idle (subst (λ (m : List Action). IsMaking rows m action.change) (sym (ap (λ (m : List Action). before ++ m) none ∙ append-nil before)) making), none)
  made_kept before (first ∷ actions) made (inl (not, rest)) idle = inl (not, made_kept before actions made rest idle)
  made_kept before (first ∷ actions) made (inr (makes, more, is, rest)) idle =
      inr (
        makes,
        more,
        is,
        made_kept (before ++ first ∷ []) actions more rest
            (λ making.
            idle (subst (λ (m : List Action). IsMaking rows m action.change) (append_assoc before (first ∷ []) more ∙ ap (λ (m : List Action). before ++ m) (sym is)) making)),
      )

  -- or it makes something
  made_new : (before actions made : List Action) → AreMade rows before actions made → IsMaking rows (before ++ made) action.change
      → AreMade rows before (actions ++ action ∷ []) (made ++ action ∷ [])
  made_new before [] made none makes =
      inr (
        subst (λ (m : List Action). IsMaking rows m action.change) (ap (λ (m : List Action). before ++ m) none ∙ append-nil before) makes,
        [],
        ap (λ (front : List Action). front ++ action ∷ []) none,
        refl,
      )
  made_new before (first ∷ actions) made (inl (not, rest)) makes = inl (not, made_new before actions made rest makes)
  made_new before (first ∷ actions) made (inr (one, more, is, rest)) makes =
      inr (
        one,
        more ++ action ∷ [],
        ap (λ (front : List Action). front ++ action ∷ []) is,
        made_new (before ++ first ∷ []) actions more rest
            (subst (λ (m : List Action). IsMaking rows m action.change) (ap (λ (m : List Action). before ++ m) is ∙ sym (append_assoc before (first ∷ []) more)) makes),
      )

abbrev Named : List ℕ → Action → Type 0
Named name action = name_of action.change ≡ name

-- what is there, as the rows now say it, and as those at the start do behind what was made
module _ (first between : GroupDatasets) (made : List Action) (so_far : MakesNamesOf first between made) where
  there_so_far : (name : List ℕ) → IsThereAlready between.directory [] name → IsThereAlready first.directory made name
  there_so_far name there = (so_far.names name).0 (in_rows between.directory name there)

  there_now : (name : List ℕ) → IsThereAlready first.directory made name → IsThereAlready between.directory [] name
  there_now name there = inl ((so_far.names name).1 there)

  volume_so_far : (change : Change) → HasVolume between.directory [] change → HasVolume first.directory made change
  volume_so_far (Create name size block_size) has = has
  volume_so_far (Snapshot volume part) has = there_so_far volume has
  volume_so_far (Clone snapshot name) has = there_so_far snapshot has
  volume_so_far (Destroy name) has = has

  volume_now : (change : Change) → HasVolume first.directory made change → HasVolume between.directory [] change
  volume_now (Create name size block_size) has = has
  volume_now (Snapshot volume part) has = there_now volume has
  volume_now (Clone snapshot name) has = there_now snapshot has
  volume_now (Destroy name) has = has

  making_so_far : (change : Change) → IsMaking between.directory [] change → IsMaking first.directory made change
  making_so_far change (lacks, has) = (λ there. lacks (there_now (name_of change) there), volume_so_far change has)

  making_now : (change : Change) → IsMaking first.directory made change → IsMaking between.directory [] change
  making_now change (lacks, has) = (λ there. lacks (there_so_far (name_of change) there), volume_now change has)

names_more : (old between new : GroupDatasets) (made : List Action) (action : Action) → MakesNamesOf old between made → IsOneMade between new (name_of action.change)
    → (name : List ℕ) → IsNameThere new.directory name ↔ (IsNameThere old.directory name ⊎ IsNameMade (made ++ action ∷ []) name)
names_more old between new made action so_far one name = (
  λ is.
      ⊎_elim (λ before. ⊎_elim (λ first. inl first) (λ sooner. inr (any_append_left (Named name) made action sooner)) ((so_far.names name).0 before))
      (λ same. inr (Any-push (Named name) made action same)) ((one.names name).0 is),
  λ either.
      ⊎_elim (λ first. (one.names name).1 (inl ((so_far.names name).1 (inl first))))
      (λ was_made.
      ⊎_elim (λ before. (one.names name).1 (inl ((so_far.names name).1 (inr before)))) (λ same. (one.names name).1 (inr same)) (any_push_cases (Named name) made action was_made)) either,
)

rows_on : (old mid new : List DirectoryRow) (next later : ℕ) → next ≤ later → HasMoreRows old next mid → HasMoreRows mid later new → HasMoreRows old next new
rows_on old mid new next later le one two = (
  λ row held. two.0 row (one.0 row held),
  λ row held. ⊎_elim (λ before. one.1 row before) (λ behind. inr (omega (arith, le, behind))) (two.1 row held),
)

made_more : (old between new : GroupDatasets) (made : List Action) (action : Action) → MakesNamesOf old between made → IsOneMade between new (name_of action.change)
    → MakesNamesOf old new (made ++ action ∷ [])
made_more old between new made action so_far one =
    let len : length (made ++ action ∷ []) ≡ length made + 1 = length-append made (action ∷ []) in
    let before = so_far.next in
    let after = one.next in
    let rows = so_far.rows in
    let row = one.rows in
    record {
      names = names_more old between new made action so_far one;
      next = omega (arith, before, after, len);
      bounds = one.bounds ∙ so_far.bounds;
      rows = omega (arith, rows, row, len);
      kept = rows_on old.directory between.directory new.directory old.next between.next (omega (arith, before)) so_far.kept one.kept;
    }

new_places_in : (old mid new : Store) (group : ℕ) (change : Change) → shapes_of mid.spaces ≡ shapes_of old.spaces → HasChangePlaces mid new group change
    → (demands : List Demand) × HasChangeDemands old.spaces group change demands × HavePlaces mid.spaces demands new.spaces
new_places_in old mid new group (Create name size block_size) same places =
    let has = places.2 in
    (has.0, (places.0, places.1, set_demands_in old.spaces mid.spaces same empty_set group places.0 has.0 has.1), has.2)
new_places_in old mid new group (Snapshot volume part) same places = ([], refl, places)
new_places_in old mid new group (Clone snapshot name) same places = ([], refl, places)
new_places_in old mid new group (Destroy name) same places = ([], refl, places)

pub makes_none : (store : Store) (group : ℕ) (making : GroupDatasets) → MakesAll store store group making making []
makes_none store group making = record {
  made = [];
  are = refl;
  names = record {
    names = λ name. (λ is. inl is, λ either. ⊎_elim (λ is. is) (λ was_made. absurd (nothing_made name was_made)) either);
    next = omega arith;
    bounds = refl;
    rows = omega arith;
    kept = (λ row held. held, λ row held. inl held);
  };
  touched = touches_none making.changes making.directory making.next;
  places = no_places store (HasActionDemands store.spaces group);
  idle = λ none. refl;
}

-- the next numbers tell that something was made
is_touched : (old new : GroupDatasets) (name : List ℕ) (change : Change) → IsOneMade old new name → (new ≡ old) ⊎ TouchesChange old.changes new.changes old.directory old.next change
    → TouchesChange old.changes new.changes old.directory old.next change
is_touched old new name change one (inl kept) = absurd (let next = one.next in omega (arith, next, ap (λ (d : GroupDatasets). d.next) kept))
is_touched old new name change one (inr touched) = touched

pub makes_more : (old mid new : Store) (group : ℕ) (first between last : GroupDatasets) (actions : List Action) (action : Action) → shapes_of mid.spaces ≡ shapes_of old.spaces
    → AreOfOneSet first.changes between.changes → MakesAll old mid group first between actions → MakesOne mid new group between last action.change
    → (last ≡ between) ⊎ TouchesChange between.changes last.changes between.directory between.next action.change → MakesAll old new group first last (actions ++ action ∷ [])
makes_more old mid new group first between last actions action same one_set so_far (inl (idle, kept, spaces)) touched =
    subst (λ (m : GroupDatasets). MakesAll old new group first m (actions ++ action ∷ [])) (sym kept)
    (record {
      made = so_far.made;
      idle = so_far.idle;
      are = made_kept first.directory action [] actions so_far.made so_far.are (λ makes. idle (making_now first between so_far.made so_far.names action.change makes));
      names = so_far.names;
      touched = so_far.touched;
      places =
          let have = so_far.places in
          (have.0, have.1, subst (HavePlaces old.spaces have.0) (sym spaces) have.2);
    })
makes_more old mid new group first between last actions action same one_set so_far (inr (makes, one, places)) touched = record {
  made = so_far.made ++ action ∷ [];
  idle = λ none. absurd (let len = ap length none in let more = length-append so_far.made (action ∷ []) in omega (arith, len, more));
  are = made_new first.directory action [] actions so_far.made so_far.are (making_so_far first between so_far.made so_far.names action.change makes);
  names = made_more first between last so_far.made action so_far.names one;
  touched = touches_on first.next between.next so_far.made action so_far.names.next between.directory last.directory one.kept.0 first.changes between.changes last.changes one_set so_far.touched
      (is_touched between last (name_of action.change) action.change one touched);
  places = places_more old mid new (HasActionDemands old.spaces group) so_far.made action so_far.places (new_places_in old mid new group action.change same places);
}

-- ---- refusals

module _ (first between : GroupDatasets) (made : List Action) (so_far : MakesNamesOf first between made) (one_set : AreOfOneSet first.changes between.changes) where
  object_so_far : (volume : List ℕ) (head : ℕ) → IsObjectFor between.directory volume between.next head → IsObjectFor first.directory volume first.next head
  object_so_far volume head (inl behind) = let next = so_far.next in inl (omega (arith, behind, next))
  object_so_far volume head (inr (row, held, named, is)) =
      ⊎_elim (λ old. inr (row, old, named, is)) (λ behind. inl (omega (arith, behind, is))) (so_far.kept.1 row held)

  unmade_so_far : (mid new : Store) (group : ℕ) (change : Change) (refusal : Refusal) → IsUnmade mid new between.changes group between.directory between.next change refusal
      → IsUnmade mid new first.changes group first.directory first.next change refusal
  unmade_so_far mid new group (Create name size block_size) refusal why = why
  unmade_so_far mid new group (Destroy name) refusal why = why
  unmade_so_far mid new group (Snapshot volume part) refusal why = record {
    head = why.head;
    is = object_so_far volume why.head why.is;
    far = why.far;
    one_set = one_set_on first.changes between.changes why.far one_set why.one_set;
    last = why.last;
    why = why.why;
  }
  unmade_so_far mid new group (Clone snapshot name) refusal why = record {
    origin = why.origin;
    is = object_so_far snapshot why.origin why.is;
    far = why.far;
    one_set = one_set_on first.changes between.changes why.far one_set why.one_set;
    last = why.last;
    why = why.why;
  }

  making_behind : (mid new : Store) (group : ℕ) (change : Change) (refusal : Refusal) → IsMakingRefused mid new between.changes group between.directory [] between.next between.bounds.end change refusal
      → IsMakingRefused mid new first.changes group first.directory made first.next first.bounds.end change refusal
  making_behind mid new group change refusal (inl memory) = inl memory
  making_behind mid new group change refusal (inr (inl bad)) = inr (inl bad)
  making_behind mid new group change refusal (inr (inr (makes, why))) =
      inr (inr (
        making_so_far first between made so_far change makes,
        ⊎_elim (λ full. let next = so_far.next in let end = full.1 in let same = ap (λ (b : NumberBounds). b.end) so_far.bounds in inl (full.0, omega (arith, next, end, same))) (λ refused. inr (unmade_so_far mid new group change refusal refused)) why,
      ))

pub taken_more : (actions : List Action) (i : ℕ) (action : Action) → i < length actions → action ≡ get_or actions i action → take (i + 1) actions ≡ take i actions ++ action ∷ []
taken_more actions i action low is = take_more actions i action low ∙ ap (λ (a : Action). take i actions ++ a ∷ []) (sym is)

at_and_rest : (actions : List Action) (i : ℕ) (action : Action) → i < length actions → action ≡ get_or actions i action → actions ≡ take i actions ++ action ∷ drop (i + 1) actions
at_and_rest actions i action low is =
    sym (take-append-drop (i + 1) actions)
    ∙ ap (λ (front : List Action). front ++ drop (i + 1) actions) (taken_more actions i action low is)
    ∙ append_assoc (take i actions) (action ∷ []) (drop (i + 1) actions)

pub action_refused : (old mid new : Store) (group : ℕ) (first between : GroupDatasets) (actions : List Action) (i : ℕ) (action : Action) (refusal : Refusal) → i < length actions
    → action ≡ get_or actions i action → AreOfOneSet first.changes between.changes → OnlyReadsAndPlans old mid [] → MakesAll old mid group first between (take i actions)
    → IsMakingRefused mid new between.changes group between.directory [] between.next between.bounds.end action.change refusal
    → IsActionRefused old new first.changes group first.directory first.next first.bounds.end actions refusal
action_refused old mid new group first between actions i action refusal low is one_set before so_far why = record {
  first = take i actions;
  action = action;
  left = drop (i + 1) actions;
  are = at_and_rest actions i action low is;
  made = so_far.made;
  made_are = so_far.are;
  mid = mid;
  before = before;
  places = so_far.places;
  why = making_behind first between so_far.made so_far.names one_set mid new group action.change refusal why;
}
