-- What a group's root asks places for, from what its parts ask.
use Rattle.std.proofs.Common.{Bool, IsTrue, ◌≡◌, ◌⊎◌, ◌↔◌, inl, inr, Ok, Err, Result, ℕ, ◌-◌, List, [], ◌∷◌, ◌++◌, Option, length, Contains, refl, ap, subst, sym}
use Rattle.std.specs.Prelude.{Any, IfErr, IfOk, OnOk}
use Rattle.block_pointer.specs.declared.block.Block.{Block}
use Rattle.block_pointer.specs.Copies.{dvas}
use Rattle.block_store.proofs.Demands.{have_both, have_one, lack_later, lack_one}
use Rattle.block_store.specs.declared.refusal.Refusal.{Refusal}
use Rattle.block_store.specs.declared.refusal.Refusal.TheVariants.{NoMemory, NoSpace}
use Rattle.block_store.specs.Spaces.{VdevSpace}
use Rattle.block_store.specs.Demands.{Demand, HavePlaces}
use Rattle.block_store.specs.Places.{AreChosen, RanOut}
use Rattle.block_store.specs.Steps.{OnlyReadsAndPlans, OnlyReadsBlocks}
use Rattle.block_store.specs.Store.{Store}
use Rattle.dnode.specs.declared.object_set.ObjectSet.{ObjectSet}
use Rattle.dnode_tree.specs.Writes.{IsForRoom}
use Rattle.meta_objset.specs.declared.directory.DirectoryRow.{DirectoryRow}
use Rattle.meta_objset.specs.declared.stale_spans.StaleSpan.{StaleSpan}
use Rattle.objset.specs.declared.changes.ObjectChange.{ObjectChange}
use Rattle.objset.specs.declared.changes.SetCopies.{SetCopies}
use Rattle.objset.specs.Demands.{HasDemands, LacksRoom}
use Rattle.objset.specs.Refused.{IsChangeRefused}
use Rattle.pool_model.specs.declared.item.Write.{Write}
use Rattle.pool_model.specs.Pools.{Entry}
use Rattle.dataset_snapshots.specs.declared.groups.Begun.{Begun}
use Rattle.dataset_snapshots.specs.declared.groups.Opened.{Opened}
use Rattle.dataset_snapshots.specs.Demands.{AreMappedRefused, AreWithMaps, HasGroupDemands, HasGroupPlaces, HasMappedPlaces, HasRootDemands, HasRootPlaces, IsGroupRefused, IsRootRefused, demand_of_root}
use Rattle.dataset_groups.specs.Demands.{IsNameThere}
use Rattle.dataset_groups.specs.Destroys.{AreDestroysRefused}
use Rattle.dataset_snapshots.specs.Finding.{IsMetaFound, IsMetaRefused}
use Rattle.dataset_snapshots.specs.Groups.{HasRoomFor}
use Rattle.dataset_snapshots.specs.Opening.{IsBegunFound, IsGroupFound, IsGroupUnread, IsOneUnread, IsVolumeUnread, most_blocks}
use Rattle.dataset_snapshots.specs.Writing.{IsWrittenBut}
use Rattle.dataset_groups.proofs.Asking.{all_demands_in}
use Rattle.dnode.specs.declared.object_set.ObjectSetKind.TheVariants as kinds
use Rattle.objset.specs.Changes.{copies_of}

pub ok_so : {T E : Type 0} (result : Result T E) (P : T → Type 0) (Q : Type 0) → ((x : T) → P x → Q) → IfOk result P → OnOk result Q
ok_so (Ok x) P Q so is = so x is
ok_so (Err e) P Q so is = tt

pub on_ok_so : {T E : Type 0} (result : Result T E) (P Q : Type 0) → (P → Q) → OnOk result P → OnOk result Q
on_ok_so (Ok x) P Q so is = so is
on_ok_so (Err e) P Q so is = tt

pub on_ok : {T E : Type 0} (result : Result T E) (Q : Type 0) → Q → OnOk result Q
on_ok (Ok x) Q is = is
on_ok (Err e) Q is = tt

pub err_both : {T E : Type 0} (result : Result T E) (P Q : E → Type 0) → IfErr result P → IfErr result Q → IfErr result (λ e. P e × Q e)
err_both (Ok x) P Q one two = tt
err_both (Err e) P Q one two = (one, two)

-- ---- the meta object set

-- what objects asked places for by these copies, and had them
abbrev pub ObjectsHave : Store → Store → ObjectSet → ℕ → SetCopies → List ObjectChange → Type 0
ObjectsHave old mid set group copies changes =
    (demands : List Demand) × HasDemands old.spaces set group copies changes demands × HavePlaces old.spaces demands mid.spaces

root_demands : (spaces : List VdevSpace) (set : ObjectSet) (group : ℕ) (copies : SetCopies) (changes : List ObjectChange) (demands : List Demand) → copies ≡ copies_of kinds.Meta
    → HasDemands spaces set group copies changes demands → HasRootDemands spaces set group changes (demands ++ demand_of_root ∷ [])
root_demands spaces set group copies changes demands same has =
    record { of_objects = demands; are = subst (λ (c : SetCopies). HasDemands spaces set group c changes demands) same has; is = refl }

pub root_places : (old mid new : Store) (set : ObjectSet) (group : ℕ) (copies : SetCopies) (changes : List ObjectChange) (block : Block) → copies ≡ copies_of kinds.Meta
    → ObjectsHave old mid set group copies changes → length (dvas block.copies) ≡ 3 → AreChosen mid.spaces [] 2 3 (dvas block.copies) new.spaces → HasRootPlaces old new set group changes
root_places old mid new set group copies changes block same objects three chosen = (
  objects.0 ++ demand_of_root ∷ [],
  root_demands old.spaces set group copies changes objects.0 same objects.1,
  have_both old.spaces mid.spaces new.spaces objects.0 (demand_of_root ∷ []) objects.2 (have_one mid.spaces new.spaces 2 3 (dvas block.copies) three chosen),
)

pub root_refused : (old mid new : Store) (set : ObjectSet) (before group : ℕ) (copies : SetCopies) (changes : List ObjectChange) (refusal : Refusal) → copies ≡ copies_of kinds.Meta
    → ObjectsHave old mid set group copies changes → IsForRoom refusal → (refusal ≡ NoSpace → RanOut mid.spaces 2 3 new.spaces)
    → IsRootRefused old new set before group changes refusal
root_refused old mid new set before group copies changes refusal same objects (inl memory) ran_out = inl memory
root_refused old mid new set before group copies changes refusal same objects (inr is) ran_out =
    inr (inl (
      is,
      inr (
        objects.0 ++ demand_of_root ∷ [],
        root_demands old.spaces set group copies changes objects.0 same objects.1,
        lack_later old.spaces mid.spaces new.spaces objects.0 (demand_of_root ∷ []) objects.2 (lack_one mid.spaces new.spaces 2 3 (ran_out is)),
      ),
    ))

pub objects_refused : (old new : Store) (set : ObjectSet) (before group : ℕ) (copies : SetCopies) (changes : List ObjectChange) (refusal : Refusal) → copies ≡ copies_of kinds.Meta
    → ((refusal ≡ NoMemory) ⊎ (((refusal ≡ NoSpace) × LacksRoom old new set group copies changes) ⊎ IsChangeRefused old new [] set before group changes refusal))
    → IsRootRefused old new set before group changes refusal
objects_refused old new set before group copies changes refusal same (inl memory) = inl memory
objects_refused old new set before group copies changes refusal same (inr (inl lacks)) =
    inr (inl (lacks.0, inl (subst (λ (c : SetCopies). LacksRoom old new set group c changes) same lacks.1)))
objects_refused old new set before group copies changes refusal same (inr (inr why)) = inr (inr why)

-- ---- what was read

pub volume_unread : (old mid new : Store) (birth : ℕ) (root : Block) (rows kept : List DirectoryRow) (destroyed : List (List ℕ)) (writes : List Write) (set : ObjectSet) (objects : List ℕ)
    (refusal : Refusal) → OnlyReadsBlocks old mid [] → IsMetaFound old.spaces birth root set → rows ≡ kept → ((object : ℕ) → Contains objects object ↔ IsWrittenBut rows destroyed writes object)
    → (refusal ≡ NoMemory) ⊎ IsOneUnread mid new set root.birth writes rows objects refusal
    → (refusal ≡ NoMemory) ⊎ (IsMetaRefused old new [] birth root refusal ⊎ IsVolumeUnread old new birth root kept destroyed writes refusal)
volume_unread old mid new birth root rows kept destroyed writes set objects refusal reads meta same which (inl memory) = inl memory
volume_unread old mid new birth root rows kept destroyed writes set objects refusal reads meta same which (inr why) =
    inr (inr (record {
      set = set;
      meta = meta;
      objects = objects;
      which = subst (λ (list : List DirectoryRow). (object : ℕ) → Contains objects object ↔ IsWrittenBut list destroyed writes object) same which;
      mid = mid;
      before = reads;
      why = subst (λ (list : List DirectoryRow). IsOneUnread mid new set root.birth writes list objects refusal) same why;
    }))

-- and then what is to be destroyed was not
pub names_kept : (old mid new : Store) (root : Block) (rows : List DirectoryRow) (group : ℕ) (destroyed : List (List ℕ)) (writes : List Write) (begun : Begun) (refusal : Refusal)
    → OnlyReadsBlocks old mid [] → IsBegunFound old.spaces (group - 1) root rows destroyed writes begun
    → AreDestroysRefused mid new begun.datasets group most_blocks destroyed refusal
    → (refusal ≡ NoMemory) ⊎ IsGroupUnread old new root rows group destroyed writes refusal
names_kept old mid new root rows group destroyed writes begun refusal reads found why =
    inr (inr (inr (record { set = begun.set; meta = found.meta; begun = begun.datasets; begins = found.begins; mid = mid; before = reads; why = why })))

-- so it is of the names that these are
pub names_unread : (old new : Store) (root : Block) (rows : List DirectoryRow) (group : ℕ) (names destroyed : List (List ℕ)) (writes : List Write) (refusal : Refusal) → names ≡ destroyed
    → (refusal ≡ NoMemory) ⊎ IsGroupUnread old new root rows group names writes refusal → (refusal ≡ NoMemory) ⊎ IsGroupUnread old new root rows group destroyed writes refusal
names_unread old new root rows group names destroyed writes refusal same why =
    subst (λ (list : List (List ℕ)). (refusal ≡ NoMemory) ⊎ IsGroupUnread old new root rows group list writes refusal) same why

pub begun_unread : (old new : Store) (root : Block) (rows : List DirectoryRow) (group : ℕ) (names destroyed : List (List ℕ)) (writes : List Write) (refusal : Refusal) → names ≡ destroyed
    → (refusal ≡ NoMemory) ⊎ (IsMetaRefused old new [] (group - 1) root refusal ⊎ IsVolumeUnread old new (group - 1) root rows names writes refusal)
    → (refusal ≡ NoMemory) ⊎ IsGroupUnread old new root rows group destroyed writes refusal
begun_unread old new root rows group names destroyed writes refusal same (inl memory) = inl memory
begun_unread old new root rows group names destroyed writes refusal same (inr (inl meta)) = inr (inl meta)
begun_unread old new root rows group names destroyed writes refusal same (inr (inr why)) = names_unread old new root rows group names destroyed writes refusal same (inr (inr (inl why)))

pub renamed_by : (rows kept : List DirectoryRow) (destroyed : List (List ℕ)) (renamed : Bool) → rows ≡ kept → (IsTrue renamed ↔ Any (IsNameThere rows) destroyed)
    → (IsTrue renamed ↔ Any (IsNameThere kept) destroyed)
renamed_by rows kept destroyed renamed same is = subst (λ (list : List DirectoryRow). IsTrue renamed ↔ Any (IsNameThere list) destroyed) same is

-- ---- the group

module _ (old first second new : Store) (root : Block) (rows : List DirectoryRow) (group : ℕ) (spans : Option (List StaleSpan)) (destroyed : List (List ℕ)) (items : Entry) (opened : Opened) (reads : OnlyReadsBlocks old first [])
    (found : IsGroupFound old.spaces (group - 1) root rows destroyed items.writes opened) (room : HasRoomFor opened.datasets (length items.actions)) where
  pub group_volumes_refused : (refusal : Refusal) → AreMappedRefused first new root.birth group spans opened items.actions refusal → IsGroupRefused old new root rows group spans destroyed items refusal
  group_volumes_refused refusal why = inr (inr (record { opened = opened; found = found; room = room; mid = first; before = reads; why = inl why }))

  pub group_changes_refused : (gone : List Block) (changes : List ObjectChange) (refusal : Refusal) → OnlyReadsAndPlans first second [] → HasMappedPlaces first second root.birth group spans opened items.actions gone changes
      → IsRootRefused second new opened.set root.birth group changes refusal → IsGroupRefused old new root rows group spans destroyed items refusal
  group_changes_refused gone changes refusal steps volumes why =
      inr (inr (record {
        opened = opened;
        found = found;
        room = room;
        mid = first;
        before = reads;
        why = inr (record { mid = second; before = steps; gone = gone; all = changes; volumes = volumes; why = why });
      }))

  pub group_has : (gone of_meta replaced : List Block) (all : List ObjectChange) → OnlyReadsAndPlans first second []
      → HasMappedPlaces first second root.birth group spans opened items.actions gone all → HasRootPlaces second new opened.set group all
      → replaced ≡ root ∷ gone ++ of_meta → HasGroupPlaces old new root rows group spans destroyed items replaced
  group_has gone of_meta replaced all steps mapped (of_root, root_asks, root_has) given_back =
      let volumes = mapped.volumes in
      let same : first.spaces ≡ old.spaces = ap (λ (s : Store). s.spaces) reads.rest in
      let now : second.spaces ≡ mapped.mid.spaces = ap (λ (s : Store). s.spaces) mapped.reads.rest in
      let demands : List Demand = (volumes.of_written ++ volumes.of_made) ++ of_root in
      let ask : HasGroupDemands first.spaces root.birth group spans opened items.actions gone demands = record {
        made = volumes.made;
        made_are = volumes.made_are;
        of_written = volumes.of_written;
        written_ask = volumes.written_ask;
        of_made = volumes.of_made;
        made_ask = volumes.made_ask;
        changes = mapped.changes;
        changes_are = volumes.changes_are;
        mid = mapped.mid.spaces;
        places = volumes.places;
        all = all;
        with_maps = subst (λ n. AreWithMaps mapped.mid.spaces opened.set root.birth gone n mapped.changes all) volumes.next_is mapped.with_maps;
        of_root = of_root;
        root_asks = record {
          of_objects = root_asks.of_objects;
          are = all_demands_in first.spaces second.spaces steps.shapes opened.set group (copies_of kinds.Meta) all root_asks.of_objects root_asks.are;
          is = root_asks.is;
        };
        is = refl;
      } in
      let have : HavePlaces first.spaces demands new.spaces =
      have_both first.spaces second.spaces new.spaces (volumes.of_written ++ volumes.of_made) of_root
      (subst (λ (spaces : List VdevSpace). HavePlaces first.spaces (volumes.of_written ++ volumes.of_made) spaces) (sym now) volumes.places) root_has in record {
        opened = opened;
        found = found;
        room = room;
        gone = gone;
        of_meta = of_meta;
        given_back = given_back;
        demands = demands;
        ask = subst (λ (spaces : List VdevSpace). HasGroupDemands spaces root.birth group spans opened items.actions gone demands) same ask;
        places = subst (λ (spaces : List VdevSpace). HavePlaces spaces demands new.spaces) same have;
      }

pub group_unread : (old new : Store) (root : Block) (rows : List DirectoryRow) (group : ℕ) (spans : Option (List StaleSpan)) (destroyed : List (List ℕ)) (items : Entry) (names : List (List ℕ)) (refusal : Refusal) → names ≡ destroyed
    → (refusal ≡ NoMemory) ⊎ IsGroupUnread old new root rows group names items.writes refusal → IsGroupRefused old new root rows group spans destroyed items refusal
group_unread old new root rows group spans destroyed items names refusal same (inl memory) = inl memory
group_unread old new root rows group spans destroyed items names refusal same (inr why) =
    inr (inl (subst (λ (gone : List (List ℕ)). IsGroupUnread old new root rows group gone items.writes refusal) same why))
