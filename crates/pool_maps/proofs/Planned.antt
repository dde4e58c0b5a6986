-- The plan of one metaslab's map.
use Rattle.std.proofs.Common.{◌≡◌, ◌≢◌, ℕ, ◌<◌, ◌≤◌, Bool, true, false, true≢false, length, List, [], ◌∷◌, None, Option, Result, Ok, Err, All, AllPairs, Contains, inl, inr, refl, sym, ap, subst, ◌∙◌, arith, ◌⊎◌}
use Rattle.std.specs.Prelude.{OnOk}
use Rattle.std.specs.Bool.{OnTrue}
use Rattle.std.proofs.lemmas.Bool.{cases_eq}
use Rattle.std.proofs.lemmas.List.Elements.{All-cons, All-contains, All-nil}
use Rattle.block_pointer.specs.declared.block.Block.{Block}
use Rattle.block_store.specs.Maps.{LeavesUnused, HasMetaslab}
use Rattle.block_store.specs.Places.{filled, planned}
use Rattle.block_store.specs.Spaces.{VdevSpace}
use Rattle.meta_objset.specs.SpaceMaps.{AreSpaceMaps, IsEarlier, LacksMetaslab}
use Rattle.meta_objset.specs.declared.space_maps.MetaslabMap.{MetaslabMap}
use Rattle.meta_objset.specs.declared.space_maps.MetaslabPlace.{MetaslabPlace}
use Rattle.meta_objset.proofs.Edits.{in_middle, pairs_head, pairs_tail, still_in, the_middle}
use Rattle.objset.specs.declared.changes.Change.{Change}
use Rattle.objset.specs.declared.changes.ObjectChange.{ObjectChange}
use Rattle.objset.specs.Changes.{MayChange, after_change}
use Rattle.objset.specs.Objects.{Object}
use Rattle.objset.proofs.Numbers.{changed_left}
use Rattle.space_map.specs.FreeRuns.{FreeRuns}
use Rattle.object_table.specs.Tables.{HasTable}
use Rattle.space_map_objects.specs.Maps.{HasMap, map_kind}
use Rattle.pool_maps.specs.declared.steps.MapPlan.{MapPlan}
use Rattle.pool_maps.specs.declared.update.Update.{Update}
use Rattle.pool_maps.specs.Maps.{AreShortMaps, AreRowsOf, HasMapPlace, HasShortMapOf, IsMapped}
use Rattle.pool_maps.specs.Plans.{Advances, AreBelow, AreOrdered, AreUnmade, GoesOn, HasSetBehind, IsForMetaslab, IsMade, IsMappedYet, IsPutIn, IsRewritten, IsSound, IsStep, IsThat, IsUntouched, LeavesMap, after_plan, numbers_end}
use Rattle.pool_maps.specs.Refused.{IsTaken}
use Rattle.pool_maps.specs.Updates.{IsUpdateOf, LeadsFrom, Says}
use Rattle.pool_maps.proofs.Among.{all_put, becomes, kept, only, others_stay, was}
use Rattle.pool_maps.proofs.Sets.{map_same, mapped_same, nothing_leads, same_twice, some_differ, same_unused}

-- ---- rows

pub never_earlier : (place other : MetaslabPlace) → place ≡ other → ¬ IsEarlier place other
never_earlier place other same (inl less) = (let is = ap (λ (p : MetaslabPlace). p.vdev) same in omega (arith, less, is))
never_earlier place other same (inr (vdev, less)) = (let is = ap (λ (p : MetaslabPlace). p.index) same in omega (arith, less, is))

one_of : (maps : List MetaslabMap) (row other : MetaslabMap) → AllPairs (λ (m n : MetaslabMap). IsEarlier m.metaslab n.metaslab) maps → Contains maps row → Contains maps other
    → row.metaslab ≡ other.metaslab → row ≡ other
one_of [] row other order (k, low, is) that same = absurd (omega (arith, low))
one_of (first ∷ maps) row other order this that same =
    let ahead = pairs_head (λ (m n : MetaslabMap). IsEarlier m.metaslab n.metaslab) first maps order in
    elim (in_middle [] maps first row this) [
      | inl later ↦ elim (in_middle [] maps first other that) [
        | inl after ↦ one_of maps row other (pairs_tail (λ (m n : MetaslabMap). IsEarlier m.metaslab n.metaslab) first maps order) later after same
        | inr here ↦ absurd (never_earlier first.metaslab row.metaslab (ap (λ (m : MetaslabMap). m.metaslab) here ∙ sym same)
            (All-contains (λ (n : MetaslabMap). IsEarlier first.metaslab n.metaslab) maps row ahead later))
      ]
      | inr this_is ↦ elim (in_middle [] maps first other that) [
        | inl after ↦ absurd (never_earlier first.metaslab other.metaslab (ap (λ (m : MetaslabMap). m.metaslab) this_is ∙ same)
            (All-contains (λ (n : MetaslabMap). IsEarlier first.metaslab n.metaslab) maps other ahead after))
        | inr here ↦ sym this_is ∙ here
      ]
    ]

-- a metaslab has one row
pub one_row : (maps : List MetaslabMap) (row other : MetaslabMap) → AreSpaceMaps maps → Contains maps row → Contains maps other → row.metaslab ≡ other.metaslab → row ≡ other
one_row maps row other are this that same = one_of maps row other are.order this that same

lacks_not : (maps : List MetaslabMap) (row : MetaslabMap) (place : MetaslabPlace) → LacksMetaslab maps place → Contains maps row → row.metaslab ≢ place
lacks_not maps row place lacks held = All-contains (λ (m : MetaslabMap). m.metaslab ≢ place) maps row lacks held

pub all_from : {X : Type 0} (P : X → Type 0) (xs : List X) → ((x : X) → Contains xs x → P x) → All P xs
all_from P [] each = All-nil P
all_from P (x ∷ xs) each = All-cons P x xs (each x (the_middle [] xs x)) (all_from P xs (λ y held. each y (still_in [] xs x y held)))

no_twin : (next : ℕ) (maps : List MetaslabMap) → All (λ (m : MetaslabMap). m.object < next) maps → (row : MetaslabMap) → Contains maps row → ¬ (row.object ≡ next)
no_twin next maps below row held same = let less = All-contains (λ (m : MetaslabMap). m.object < next) maps row below held in omega (arith, less, same)

-- what objects read as decides what maps leave free
pub mapped_by : (objects later : ℕ → Option Object) (maps : List MetaslabMap) (place : MetaslabPlace) (free : FreeRuns)
    → ((row : MetaslabMap) → Contains maps row → row.metaslab ≡ place → later row.object ≡ objects row.object) → IsMapped objects maps place free → IsMapped later maps place free
mapped_by objects later maps place free same (inl row) = inl (record {
  row = row.row;
  there = row.there;
  metaslab = row.metaslab;
  map = subst (λ object. HasMap object free.sectors free) (sym (same row.row row.there row.metaslab)) row.map;
})
mapped_by objects later maps place free same (inr lacks) = inr lacks

says_map : (object : Option Object) (update : Update) → Says object update → HasMap object update.free.sectors update.free
says_map object update says = (says.bytes, says.table, says.leaves)

says_short : (object : Option Object) (spaces : List VdevSpace) (gone : List Block) (place : MetaslabPlace) (update : Update) → IsUpdateOf spaces gone place update → Says object update
    → HasShortMapOf spaces place object
says_short object spaces gone place update is says sectors has = record {
  free = update.free;
  are = is.are;
  size = is.leads.sectors ∙ is.was.sectors ∙ sym (rw is.was.found at has);
  bytes = says.bytes;
  table = says.table;
  leaves = says.leaves;
  few = says.few;
}

-- ---- a metaslab whose map stays

module _ (objects : ℕ → Option Object) (spaces : List VdevSpace) (gone : List Block) (place : MetaslabPlace) (update : Update) (is : IsUpdateOf spaces gone place update) where
  set_there : (that : MetaslabPlace) → IsThat place that → HasSetBehind spaces gone that
  set_there that same = record {
    free = update.free;
    are = is.are;
    is = λ after group released. subst (λ p. LeavesUnused after planned p.vdev p.index update.free) (sym same) (is.is after group released);
  }

  pub stays_so : (plan : MapPlan) → update.entries.items ≡ [] → Advances objects spaces gone (IsThat place) plan plan
  stays_so plan none = record {
    stay = λ other free apart mapped. mapped;
    untouched = λ other apart untouched. untouched;
    anew = λ that same there yet free after group released frees now.
        let mapped = yet is.before is.are_before (subst (λ p. LeavesUnused spaces filled p.vdev p.index is.before) (sym same) is.was) in
        let last = same_unused after planned place.vdev place.index update.free free is.are frees (is.is after group released)
        (subst (λ p. LeavesUnused after planned p.vdev p.index free) same now) in
        mapped_same (after_plan plan objects) plan.maps that is.before free
        (same_twice is.before update.free free (nothing_leads is.before update is.leads none) last) mapped;
    there = λ that same there. set_there that same;
    may = λ yet may. may;
    leave = λ yet change held. inl held;
    short = λ yet are. are;
  }

  for_it : (maps : List MetaslabMap) (next : ℕ) (change : ObjectChange) → HasMapPlace spaces place → update.entries.items ≢ []
      → ((row : MetaslabMap) × Contains maps row × (row.metaslab ≡ place) × (row.object ≡ change.number)) ⊎ (next ≤ change.number) → IsForMetaslab spaces gone maps next change
  for_it maps next change is_place some number = record {
    place = place;
    there = is_place;
    before = is.before;
    free = update.free;
    was = is.was;
    is = is.is;
    differ = some_differ is.before update is.leads some;
    number = number;
  }

  -- a change that leaves a map came among the others
  leave_more : (old new : MapPlan) (one : ObjectChange) → IsPutIn old.changes.items one new.changes.items → LeavesMap objects one
      → (change : ObjectChange) → Contains new.changes.items change → Contains old.changes.items change ⊎ LeavesMap objects change
  leave_more old new one put leaves change held = elim (only old.changes.items new.changes.items one put change held) [
    | inl before ↦ inl before
    | inr same ↦ inr (subst (LeavesMap objects) same leaves)
  ]

  -- ---- a map that gets entries, or is written anew

  module _ (old new : MapPlan) (row : MetaslabMap) (change : Change) (there : Contains old.maps row) (of : row.metaslab ≡ place)
      (by : IsRewritten old row.object change new) where
    pub rewritten_goes : GoesOn old new
    rewritten_goes = record {
      kept = kept old.changes.items new.changes.items (record { number = row.object; change = change }) by.put;
      only = λ other held. elim (only old.changes.items new.changes.items (record { number = row.object; change = change }) by.put other held) [
        | inl before ↦ inl before
        | inr new_is ↦ inr (inl (row, there, ap (λ (c : ObjectChange). c.number) new_is))
      ];
      others = λ them number other. others_stay old.changes.items new.changes.items (record { number = row.object; change = change }) by.put them number
          (λ same. other (inl (row, there, same)));
      rows = λ other held. subst (λ maps. Contains maps other) (sym by.maps) held;
      added = λ other held. inl (subst (λ maps. Contains maps other) by.maps held);
      next = (let same = by.next in omega (arith, same));
      idle = λ idle. (by.maps, sym by.grown ∙ idle);
    }

    below_row : IsSound spaces old → row.object < old.next
    below_row sound = All-contains (λ (m : MetaslabMap). m.object < old.next) old.maps row sound.below there

    pub rewritten_step : AreOrdered new.changes.items → HasMapPlace spaces place → update.entries.items ≢ [] → IsStep spaces gone old new
    rewritten_step ordered is_place some = record {
      ordered = ordered;
      goes_on = rewritten_goes;
      spare = λ other held. elim (only old.changes.items new.changes.items (record { number = row.object; change = change }) by.put other held) [
        | inl before ↦ inl before
        | inr new_is ↦ inr (for_it old.maps old.next other is_place some (inl (row, there, of, ap (λ (c : ObjectChange). c.number) new_is)))
      ];
      sound = λ sound. record {
        order = subst AreSpaceMaps (sym by.maps) sound.order;
        rows = subst (AreRowsOf spaces) (sym by.maps) sound.rows;
        below = subst (λ n. All (λ (m : MetaslabMap). m.object < n) new.maps) (sym by.next)
            (subst (λ maps. All (λ (m : MetaslabMap). m.object < old.next) maps) (sym by.maps) sound.below);
        behind = subst (λ n. 4 < n) (sym by.next) sound.behind;
        within = subst (λ n. n ≤ numbers_end) (sym by.next) sound.within;
      };
      below = λ sound are. subst (λ n. All (λ (c : ObjectChange). c.number < n) new.changes.items) (sym by.next)
          (all_put old.changes.items new.changes.items (record { number = row.object; change = change }) by.put (λ (c : ObjectChange). c.number < old.next) are (below_row sound));
    }

    other_row : IsSound spaces old → (other : MetaslabMap) → Contains old.maps other → other.metaslab ≢ place → row.object ≢ other.object
    other_row sound other held apart same = apart (ap (λ (m : MetaslabMap). m.metaslab) (sym (sound.rows.apart row other there held same)) ∙ of)

    own_map : IsSound spaces old → (before : FreeRuns) → IsMapped (after_plan old objects) old.maps place before → HasMap (objects row.object) before.sectors before
    own_map sound before (inl theirs) =
        let same : theirs.row ≡ row = one_row old.maps theirs.row row sound.order theirs.there there (theirs.metaslab ∙ sym of) in
        subst (λ object. HasMap object before.sectors before)
        (was old.changes.items new.changes.items (record { number = row.object; change = change }) by.put objects)
        (subst (λ (r : MetaslabMap). HasMap (after_plan old objects r.object) before.sectors before) same theirs.map)
    own_map sound before (inr (lacks, all)) = absurd (lacks_not old.maps row place lacks there of)

    pub rewritten_advances : IsSound spaces old → ((before : FreeRuns) → HasMap (objects row.object) before.sectors before → LeadsFrom before update
        → MayChange change (objects row.object) × Says (after_change change (objects row.object)) update)
        → HasMapPlace spaces place → Advances objects spaces gone (IsThat place) old new
    rewritten_advances sound value is_there = record {
      stay = λ other free apart mapped.
          subst (λ maps. IsMapped (after_plan new objects) maps other free) (sym by.maps)
          (mapped_by (after_plan old objects) (after_plan new objects) old.maps other free
          (λ their held of_other. others_stay old.changes.items new.changes.items (record { number = row.object; change = change }) by.put objects their.object
          (other_row sound their held (λ same. apart (sym of_other ∙ same)))) mapped);
      untouched = λ other apart untouched their held of_other.
          let was_held = subst (λ maps. Contains maps their) by.maps held in
          all_put old.changes.items new.changes.items (record { number = row.object; change = change }) by.put (λ (c : ObjectChange). c.number ≢ their.object) (untouched their was_held of_other)
          (other_row sound their was_held (λ same. apart (sym of_other ∙ same)));
      anew = λ that same there_too yet free after group released frees now.
          let last = same_unused after planned place.vdev place.index update.free free is.are frees (is.is after group released)
          (subst (λ p. LeavesUnused after planned p.vdev p.index free) same now) in
          let had = own_map sound is.before (subst (λ p. IsMappedYet objects spaces old p) same yet is.before is.are_before is.was) in
          inl (record {
            row = row;
            there = subst (λ maps. Contains maps row) (sym by.maps) there;
            metaslab = of ∙ sym same;
            map = map_same (after_plan new objects row.object) update.free free last
                (subst (λ object. HasMap object update.free.sectors update.free)
                (sym (becomes old.changes.items new.changes.items (record { number = row.object; change = change }) by.put objects))
                (says_map (after_change change (objects row.object)) update (value is.before had is.leads).1));
          });
      there = λ that same there_too. set_there that same;
      may = λ yet may.
          let had = own_map sound is.before (yet place refl is_there is.before is.are_before is.was) in
          all_put old.changes.items new.changes.items (record { number = row.object; change = change }) by.put (λ (c : ObjectChange). MayChange c.change (objects c.number)) may
          (value is.before had is.leads).0;
      leave = λ yet.
          let had = own_map sound is.before (yet place refl is_there is.before is.are_before is.was) in
          let says = (value is.before had is.leads).1 in
          leave_more old new (record { number = row.object; change = change }) by.put (says.bytes, says.table);
      short = λ yet are.
          let had = own_map sound is.before (yet place refl is_there is.before is.are_before is.was) in
          subst (AreShortMaps (after_plan new objects) spaces) (sym by.maps)
          (all_from (λ (m : MetaslabMap). HasShortMapOf spaces m.metaslab (after_plan new objects m.object)) old.maps
          (λ other held. elim (cases_eq row.object other.object) [
            | inl same ↦ subst (λ (m : MetaslabMap). HasShortMapOf spaces m.metaslab (after_plan new objects m.object)) (sound.rows.apart row other there held same)
                (subst (λ p. HasShortMapOf spaces p (after_plan new objects row.object)) (sym of)
                (subst (HasShortMapOf spaces place) (sym (becomes old.changes.items new.changes.items (record { number = row.object; change = change }) by.put objects))
                (says_short (after_change change (objects row.object)) spaces gone place update is (value is.before had is.leads).1)))
            | inr apart ↦ subst (HasShortMapOf spaces other.metaslab)
                (sym (others_stay old.changes.items new.changes.items (record { number = row.object; change = change }) by.put objects other.object apart))
                (All-contains (λ (m : MetaslabMap). HasShortMapOf spaces m.metaslab (after_plan old objects m.object)) old.maps other are held)
          ]));
    }

  -- ---- a metaslab that gets its first map

  module _ (old new : MapPlan) (change : Change) (by : IsMade old place change new) where
    abbrev first_row : MetaslabMap
    first_row = record { metaslab = place; object = old.next }

    pub made_row : Contains new.maps first_row
    made_row = (by.maps first_row).1 (inr refl)

    old_row : (row : MetaslabMap) → Contains old.maps row → Contains new.maps row
    old_row row held = (by.maps row).1 (inl (held, lacks_not old.maps row place by.lacks held))

    pub made_goes : GoesOn old new
    made_goes = record {
      kept = kept old.changes.items new.changes.items (record { number = old.next; change = change }) by.put;
      only = λ other held. elim (only old.changes.items new.changes.items (record { number = old.next; change = change }) by.put other held) [
        | inl before ↦ inl before
        | inr new_is ↦ inr (inr (let same = ap (λ (c : ObjectChange). c.number) new_is in omega (arith, same)))
      ];
      others = λ them number other. others_stay old.changes.items new.changes.items (record { number = old.next; change = change }) by.put them number
          (λ same. other (inr (omega (arith, same))));
      rows = old_row;
      added = λ row held. elim ((by.maps row).0 held) [
        | inl before ↦ inl before.0
        | inr made ↦ inr (let same = ap (λ (m : MetaslabMap). m.object) made in omega (arith, same))
      ];
      next = (let more = by.next in omega (arith, more));
      idle = λ idle. absurd (true≢false (sym by.grown ∙ idle));
    }

    all_rows : (P : MetaslabMap → Type 0) → All P old.maps → P first_row → All P new.maps
    all_rows P all is = all_from P new.maps (λ row held. elim ((by.maps row).0 held) [
      | inl before ↦ All-contains P old.maps row all before.0
      | inr made ↦ subst P (sym made) is
    ])

    pub made_step : AreOrdered new.changes.items → HasMapPlace spaces place → update.entries.items ≢ [] → IsStep spaces gone old new
    made_step ordered is_place some = record {
      ordered = ordered;
      goes_on = made_goes;
      spare = λ other held. elim (only old.changes.items new.changes.items (record { number = old.next; change = change }) by.put other held) [
        | inl before ↦ inl before
        | inr new_is ↦ inr (for_it old.maps old.next other is_place some (inr (let same = ap (λ (c : ObjectChange). c.number) new_is in omega (arith, same))))
      ];
      sound = λ sound. record {
        order = by.order;
        rows = record {
          places = all_rows (λ (m : MetaslabMap). HasMapPlace spaces m.metaslab) sound.rows.places is_place;
          behind = all_rows (λ (m : MetaslabMap). 4 < m.object) sound.rows.behind sound.behind;
          apart = λ row other this that same. elim ((by.maps row).0 this) [
            | inl before ↦ elim ((by.maps other).0 that) [
              | inl sooner ↦ sound.rows.apart row other before.0 sooner.0 same
              | inr made ↦ absurd (no_twin old.next old.maps sound.below row before.0 (same ∙ ap (λ (m : MetaslabMap). m.object) made))
            ]
            | inr made ↦ elim ((by.maps other).0 that) [
              | inl sooner ↦ absurd (no_twin old.next old.maps sound.below other sooner.0 (sym same ∙ ap (λ (m : MetaslabMap). m.object) made))
              | inr too ↦ made ∙ sym too
            ]
          ];
        };
        below = all_rows (λ (m : MetaslabMap). m.object < new.next)
            (λ k d low. let less = sound.below k d low in let more = by.next in omega (arith, less, more)) (let more = by.next in omega (arith, more));
        behind = (let less = sound.behind in let more = by.next in omega (arith, less, more));
        within = (let less = by.within in let more = by.next in omega (arith, less, more));
      };
      below = λ sound are. all_put old.changes.items new.changes.items (record { number = old.next; change = change }) by.put (λ (c : ObjectChange). c.number < new.next)
          (λ k d low. let less = are k d low in let more = by.next in omega (arith, less, more)) (let more = by.next in omega (arith, more));
    }

    pub made_advances : IsSound spaces old → AreUnmade old objects → MayChange change None → Says (after_change change None) update
        → Advances objects spaces gone (IsThat place) old new
    made_advances sound unmade may has = record {
      stay = λ other free apart mapped. elim mapped [
        | inl theirs ↦ inl (record {
          row = theirs.row;
          there = old_row theirs.row theirs.there;
          metaslab = theirs.metaslab;
          map = subst (λ object. HasMap object free.sectors free)
              (sym (others_stay old.changes.items new.changes.items (record { number = old.next; change = change }) by.put objects theirs.row.object
              (λ same. no_twin old.next old.maps sound.below theirs.row theirs.there (sym same)))) theirs.map;
        })
        | inr lacks ↦ inr (all_rows (λ (m : MetaslabMap). m.metaslab ≢ other) lacks.0 (λ same. apart (sym same)), lacks.1)
      ];
      untouched = λ other apart untouched row held of_other. elim ((by.maps row).0 held) [
        | inl before ↦ all_put old.changes.items new.changes.items (record { number = old.next; change = change }) by.put (λ (c : ObjectChange). c.number ≢ row.object)
            (untouched row before.0 of_other) (λ same. no_twin old.next old.maps sound.below row before.0 (sym same))
        | inr made ↦ absurd (apart (sym of_other ∙ ap (λ (m : MetaslabMap). m.metaslab) made))
      ];
      anew = λ that same there yet free after group released frees now.
          let last = same_unused after planned place.vdev place.index update.free free is.are frees (is.is after group released)
          (subst (λ p. LeavesUnused after planned p.vdev p.index free) same now) in
          inl (record {
            row = first_row;
            there = made_row;
            metaslab = sym same;
            map = map_same (after_plan new objects old.next) update.free free last
                (subst (λ object. HasMap object update.free.sectors update.free) (sym (becomes old.changes.items new.changes.items (record { number = old.next; change = change }) by.put objects
                ∙ ap (after_change change) (unmade old.next (omega arith)))) (says_map (after_change change None) update has));
          });
      there = λ that same there. set_there that same;
      leave = λ yet.
          leave_more old new (record { number = old.next; change = change }) by.put
          (has.bytes, subst (λ (o : Option Object). HasTable map_kind (after_change change o) has.bytes) (sym (unmade old.next (omega arith))) has.table);
      may = λ yet mays. all_put old.changes.items new.changes.items (record { number = old.next; change = change }) by.put (λ (c : ObjectChange). MayChange c.change (objects c.number)) mays
          (subst (MayChange change) (sym (unmade old.next (omega arith))) may);
      short = λ yet are. all_from (λ (m : MetaslabMap). HasShortMapOf spaces m.metaslab (after_plan new objects m.object)) new.maps
          (λ row held. elim ((by.maps row).0 held) [
            | inl before ↦ subst (HasShortMapOf spaces row.metaslab)
                (sym (others_stay old.changes.items new.changes.items (record { number = old.next; change = change }) by.put objects row.object
                (λ same. no_twin old.next old.maps sound.below row before.0 (sym same))))
                (All-contains (λ (m : MetaslabMap). HasShortMapOf spaces m.metaslab (after_plan old objects m.object)) old.maps row are before.0)
            | inr made ↦ subst (λ (m : MetaslabMap). HasShortMapOf spaces m.metaslab (after_plan new objects m.object)) (sym made)
                (subst (HasShortMapOf spaces place) (sym (becomes old.changes.items new.changes.items (record { number = old.next; change = change }) by.put objects
                ∙ ap (after_change change) (unmade old.next (omega arith))))
                (says_short (after_change change None) spaces gone place update is has))
          ]);
    }

-- ---- refusals

-- where no change is of the object of the metaslab's map, it is as the map leaves it
pub had_map : (objects : ℕ → Option Object) (spaces : List VdevSpace) (plan : MapPlan) (place : MetaslabPlace) (row : MetaslabMap) (free : FreeRuns) → IsSound spaces plan
    → Contains plan.maps row → row.metaslab ≡ place → IsUntouched plan place → IsMapped (after_plan plan objects) plan.maps place free → HasMap (objects row.object) free.sectors free
had_map objects spaces plan place row free sound there of untouched (inl theirs) =
    let same : theirs.row ≡ row = one_row plan.maps theirs.row row sound.order theirs.there there (theirs.metaslab ∙ sym of) in
    subst (λ object. HasMap object free.sectors free) (changed_left plan.changes.items objects row.object (untouched row there of))
    (subst (λ (r : MetaslabMap). HasMap (after_plan plan objects r.object) free.sectors free) same theirs.map)
had_map objects spaces plan place row free sound there of untouched (inr (lacks, all)) = absurd (lacks_not plan.maps row place lacks there of)

pub not_taken : (spaces : List VdevSpace) (plan : MapPlan) (place : MetaslabPlace) (row : MetaslabMap) → IsSound spaces plan → Contains plan.maps row → row.metaslab ≡ place
    → IsUntouched plan place → ¬ IsTaken plan.changes.items row.object
not_taken spaces plan place row sound there of untouched (inl zero) =
    (let behind = All-contains (λ (m : MetaslabMap). 4 < m.object) plan.maps row sound.rows.behind there in omega (arith, behind, zero))
not_taken spaces plan place row sound there of untouched (inr (inl past)) =
    (let below = All-contains (λ (m : MetaslabMap). m.object < plan.next) plan.maps row sound.below there in let within = sound.within in omega (arith, below, within, past))
not_taken spaces plan place row sound there of untouched (inr (inr some)) = some (untouched row there of)

pub next_not_taken : (spaces : List VdevSpace) (plan : MapPlan) → IsSound spaces plan → AreBelow plan → plan.next < numbers_end → ¬ IsTaken plan.changes.items plan.next
next_not_taken spaces plan sound below within (inl zero) = (let behind = sound.behind in omega (arith, behind, zero))
next_not_taken spaces plan sound below within (inr (inl past)) = omega (arith, within, past)
next_not_taken spaces plan sound below within (inr (inr some)) = some (λ k d low same. (let less = below k d low in omega (arith, less, same)))

-- ---- what calls ensure together

pub both_ok : {E : Type 0} {P Q R : Type 0} (result : Result (Unit {0}) E) → (P → Q → R) → OnOk result P → OnOk result Q → OnOk result R
both_ok (Ok unit) f p q = f p q
both_ok (Err e) f p q = tt

pub ok_by : {E : Type 0} {P Q : Type 0} (result : Result (Unit {0}) E) → (P → Q) → OnOk result P → OnOk result Q
ok_by (Ok unit) f p = f p
ok_by (Err e) f p = tt

pub at_true : (b : Bool) (P : Type 0) → b ≡ true → OnTrue b P → P
at_true true P is holds = holds
at_true false P is holds = absurd (true≢false (sym is))

pub not_empty : (bytes : List ℕ) → 0 < length bytes → bytes ≢ []
not_empty bytes some none = (let is = ap length none in omega (arith, some, is))

pub empty_of : (bytes : List ℕ) → length bytes ≡ 0 → bytes ≡ []
empty_of [] none = refl
empty_of (byte ∷ bytes) none = absurd (omega (arith, none))

-- a metaslab before the meta region is there
pub metaslab_there : (spaces : List VdevSpace) (place : MetaslabPlace) → HasMapPlace spaces place → HasMetaslab spaces place.vdev place.index
metaslab_there spaces place is = record {
  space = is.space;
  found = is.found;
  is_there = (let less = is.before in omega (arith, less));
}
