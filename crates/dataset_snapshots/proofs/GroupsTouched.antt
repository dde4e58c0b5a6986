-- Which records and dead lists a group changed, and what its volumes ask.
use Rattle.std.proofs.Common.{◌≡◌, ◌⊎◌, Bool, true, false, true≢false, inl, inr, ℕ, ◌+◌, ◌*◌, List, [], ◌∷◌, Option, length, refl, sym, ap, subst, ◌∙◌, arith}
use Rattle.std.specs.Prelude.{max, not, ◌==◌}
use Rattle.std.proofs.lemmas.Bool.{eq-eqb, ne_eqb}
use Rattle.block_store.proofs.Demands.{have_both}
use Rattle.block_store.specs.Demands.{Demand}
use Rattle.block_store.specs.declared.refusal.Refusal.{Refusal}
use Rattle.block_store.specs.declared.refusal.Refusal.TheVariants.{NoMemory, BadPointer}
use Rattle.block_store.specs.Places.{shapes_of}
use Rattle.block_store.specs.Spaces.{VdevSpace}
use Rattle.block_store.specs.Steps.{OnlyReadsAndPlans}
use Rattle.block_store.specs.Store.{Store}
use Rattle.dataset_groups.specs.States.{AreOfOneSet}
use Rattle.dataset_groups.specs.declared.datasets.GroupDatasets.{GroupDatasets}
use Rattle.dataset_groups.specs.declared.datasets.NumberBounds.{NumberBounds}
use Rattle.dataset_groups.specs.Demands.{AreAsked, AreMade, HasActionDemands, HasChangeDemands, HasHeadDemands, HasMoreRows, HavePlacesFor, IsActionRefused, MakesAll}
use Rattle.dataset_groups.specs.Groups.{first_number, next_behind}
use Rattle.dataset_groups.specs.Touched.{TouchesHeads, TouchesMade}
use Rattle.meta_objset.specs.declared.directory.DirectoryRow.{DirectoryRow}
use Rattle.meta_objset.specs.declared.stale_spans.StaleSpan.{StaleSpan}
use Rattle.objset.specs.declared.changes.ObjectChange.{ObjectChange}
use Rattle.pool_model.specs.declared.item.Action.{Action}
use Rattle.pool_model.specs.declared.item.Change.{Change}
use Rattle.pool_model.specs.declared.item.Change.TheVariants.{Clone, Create, Destroy, Snapshot}
use Rattle.volume.specs.Demands.{empty_set}
use Rattle.dataset_snapshots.specs.declared.groups.Opened.{Opened}
use Rattle.dataset_snapshots.specs.Demands.{AreDirectoryChanges, are_renamed, AreGroupChanges, AreGroupDatasets, AreMisnumbered, AreVolumesRefused, HasDatasetChanges, HasVolumePlaces, next_after}
use Rattle.dataset_snapshots.specs.Groups.{objects_of}
use Rattle.dataset_groups.proofs.Asking.{set_demands_in}

-- ---- the changes

-- where names go they do whatever is made
pub renamed_then : (gone : Bool) (made : List Action) → gone ≡ true → are_renamed gone made ≡ true
renamed_then gone [] is = is
renamed_then gone (action ∷ made) is = refl

-- where none go, and none is made, none come
pub not_renamed : (gone : Bool) (made : List Action) → are_renamed gone made ≡ false → (gone ≡ false) × (made ≡ [])
not_renamed gone [] is = (is, refl)
not_renamed gone (action ∷ made) is = absurd (true≢false is)

-- where none go they come with the numbers
pub renamed_so : (gone : Bool) (made : List Action) (next first : ℕ) → gone ≡ false → next ≡ first + 2 * length made → not (next == first) ≡ are_renamed gone made
renamed_so gone [] next first none is = ap not (eq-eqb next first (omega (arith, is))) ∙ sym none
renamed_so gone (action ∷ made) next first none is = ap not (ne_eqb next first (λ same. omega (arith, is, same)))

pub group_changes : (opened : Opened) (datasets : GroupDatasets) (renamed : Bool) (made : List Action) (spans : Option (List StaleSpan)) (changes : List ObjectChange) → AreGroupDatasets opened made datasets.changes
    → length datasets.directory ≡ length opened.datasets.directory + length made → renamed ≡ are_renamed opened.renamed made → HasDatasetChanges datasets renamed spans changes
    → AreGroupChanges opened made spans changes
group_changes opened datasets false made spans changes are rows is (of_spans, spans_are, of, of_are, alone, behind) = record {
  of_directory = [];
  directory_are = subst (λ (renamed : Bool). AreDirectoryChanges renamed (length opened.datasets.directory + length made) []) is refl;
  of_spans = of_spans;
  spans_are = spans_are;
  datasets = datasets.changes;
  datasets_are = are;
  of_datasets = of;
  of_datasets_are = of_are;
  are = alone refl;
}
group_changes opened datasets true made spans changes are rows is (of_spans, spans_are, of, of_are, alone, behind) =
    let with_first = behind refl in
    let first : List ObjectChange = record { number = 1; change = with_first.0 } ∷ [] in
    record {
      of_directory = first;
      directory_are = subst (λ (renamed : Bool). AreDirectoryChanges renamed (length opened.datasets.directory + length made) first) is
          (with_first.0, (datasets.directory, rows, with_first.1), refl);
      of_spans = of_spans;
      spans_are = spans_are;
      datasets = datasets.changes;
      datasets_are = are;
      of_datasets = of;
      of_datasets_are = of_are;
      are = with_first.2;
    }

-- then the rows are the same
pub idle_rows : (before after : Store) (group : ℕ) (mid new : GroupDatasets) (actions : List Action) (gone renamed : Bool) (rows : List DirectoryRow) → (gone ≡ false → mid.directory ≡ rows)
    → (makes : MakesAll before after group mid new actions) → renamed ≡ are_renamed gone makes.made → renamed ≡ false → new.directory ≡ rows
idle_rows before after group mid new actions gone renamed rows same makes is none =
    let both = not_renamed gone makes.made (sym is ∙ none) in ap (λ (d : GroupDatasets). d.directory) (makes.idle both.1) ∙ same both.0

-- ---- what the volumes ask, and why they are refused

asked_so : {X : Type 0} (Asks Others : X → List Demand → Type 0) → ((x : X) (demands : List Demand) → Asks x demands → Others x demands) → (xs : List X) (demands : List Demand)
    → AreAsked Asks xs demands → AreAsked Others xs demands
asked_so Asks Others so [] demands none = none
asked_so Asks Others so (x ∷ xs) demands (first, rest, here, later, is) = (first, rest, so x first here, asked_so Asks Others so xs rest later, is)

-- a change asks the same of vdevs of the same shapes
change_asks : (old mid : List VdevSpace) → shapes_of mid ≡ shapes_of old → (group : ℕ) (change : Change) (demands : List Demand) → HasChangeDemands mid group change demands
    → HasChangeDemands old group change demands
change_asks old mid same group (Create name size block_size) demands has = (has.0, has.1, set_demands_in old mid same empty_set group has.0 demands has.2)
change_asks old mid same group (Snapshot volume part) demands none = none
change_asks old mid same group (Clone snapshot name) demands none = none
change_asks old mid same group (Destroy name) demands none = none

-- the volumes that are written to were placed, and then the actions are done
module _ (old mid new : Store) (group : ℕ) (opened : Opened) (actions : List Action) (first last : GroupDatasets) (rows_are : first.directory ≡ opened.datasets.directory)
    (next_is : first.next ≡ opened.datasets.next) (bounds_are : first.bounds ≡ opened.datasets.bounds) (heads : TouchesHeads opened.datasets.changes first.changes (objects_of opened))
    (places : HavePlacesFor old mid (HasHeadDemands old.spaces group) opened.written.items) where
  pub actions_refused : (refusal : Refusal) → OnlyReadsAndPlans old mid [] → (refusal ≡ NoMemory) ⊎ IsActionRefused mid new first.changes group first.directory first.next first.bounds.end actions refusal
      → AreVolumesRefused old new group opened actions refusal
  actions_refused refusal steps (inl memory) = inl memory
  actions_refused refusal steps (inr why) =
      inr (inr (inl (record {
        mid = mid;
        before = steps;
        places = places;
        written = first.changes;
        heads = heads;
        why = subst (λ (rows : List DirectoryRow). IsActionRefused mid new first.changes group rows opened.datasets.next opened.datasets.bounds.end actions refusal) rows_are
            (subst (λ (n : ℕ). IsActionRefused mid new first.changes group first.directory n opened.datasets.bounds.end actions refusal) next_is
            (subst (λ (b : NumberBounds). IsActionRefused mid new first.changes group first.directory first.next b.end actions refusal) bounds_are why));
      })))

  module _ (one : AreOfOneSet opened.datasets.changes first.changes) (two : AreOfOneSet first.changes last.changes) (makes : MakesAll mid new group first last actions) where
    made_are : AreMade opened.datasets.directory [] actions makes.made
    made_are = subst (λ (rows : List DirectoryRow). AreMade rows [] actions makes.made) rows_are makes.are

    last_next : opened.datasets.bounds.behind ≡ first_number opened.set → next_behind last ≡ next_after opened makes.made
    last_next behind =
        ap (λ (b : NumberBounds). max last.next b.behind) (makes.names.bounds ∙ bounds_are)
        ∙ ap (λ (n : ℕ). max n opened.datasets.bounds.behind) (makes.names.next ∙ ap (λ (n : ℕ). n + 2 * length makes.made) next_is)
        ∙ ap (max (opened.datasets.next + 2 * length makes.made)) behind

    -- those of the heads, and those that the actions made and changed
    datasets_are : AreGroupDatasets opened makes.made last.changes
    datasets_are = record {
      one_set = (two.0 ∙ one.0, two.1 ∙ one.1);
      written = first.changes;
      heads = heads;
      rows = last.directory;
      kept = subst (λ (rows : List DirectoryRow). HasMoreRows rows opened.datasets.next last.directory) rows_are
          (subst (λ (n : ℕ). HasMoreRows first.directory n last.directory) next_is makes.names.kept);
      touched = subst (λ (n : ℕ). TouchesMade first.changes last.changes last.directory n makes.made) next_is makes.touched;
    }

    pub datasets_refused : (refusal : Refusal) → opened.datasets.bounds.behind ≡ first_number opened.set → OnlyReadsAndPlans old new []
        → (refusal ≡ NoMemory) ⊎ ((refusal ≡ BadPointer) × AreMisnumbered last.changes (next_behind last)) → AreVolumesRefused old new group opened actions refusal
    datasets_refused refusal behind steps (inl memory) = inl memory
    datasets_refused refusal behind steps (inr (bad, mis)) =
        inr (inr (inr (record {
          bad = bad;
          planned = steps;
          made = makes.made;
          made_are = made_are;
          datasets = last.changes;
          datasets_are = datasets_are;
          mis = subst (AreMisnumbered last.changes) (last_next behind) mis;
        })))

    pub volumes_have : (changes : List ObjectChange) (next : ℕ) (renamed : Bool) (spans : Option (List StaleSpan)) → opened.datasets.bounds.behind ≡ first_number opened.set → next ≡ next_behind last → shapes_of mid.spaces ≡ shapes_of old.spaces
        → renamed ≡ are_renamed opened.renamed makes.made → HasDatasetChanges last renamed spans changes → HasVolumePlaces old new group spans opened actions changes next
    volumes_have changes next renamed spans behind is same renamed_is changes_are =
        let asked = makes.places in
        record {
          made = makes.made;
          made_are = made_are;
          next_is = is ∙ last_next behind;
          changes_are = group_changes opened last renamed makes.made spans changes datasets_are
              (makes.names.rows ∙ ap (λ (rows : List DirectoryRow). length rows + length makes.made) rows_are) renamed_is changes_are;
          of_written = places.0;
          written_ask = places.1;
          of_made = asked.0;
          made_ask = asked_so (HasActionDemands mid.spaces group) (HasActionDemands old.spaces group) (λ action. change_asks old.spaces mid.spaces same group action.change)
              makes.made asked.0 asked.1;
          places = have_both old.spaces mid.spaces new.spaces places.0 asked.0 places.2 asked.2;
        }
