use Rattle.meta_objset.specs.declared.space_maps.MetaslabMap.{MetaslabMap}
use Rattle.objset.specs.declared.changes.Change.{Change}
use Rattle.objset.specs.Objects.{Object}
use Rattle.std.proofs.Common.{rules, false, [], List, Contains, inl, inr, refl, sym, ap, subst, ◌∙◌, ◌⊎◌, ◌≡◌, ℕ, Option, true}
use Rattle.std.proofs.lemmas.Result.{IfOk-weaker, IfErr-weaker}
use Rattle.block_store.specs.Releases.{AreReleased, copies_of_all}
use Rattle.block_store.specs.Spaces.{VdevSpace}
use Rattle.block_store.proofs.Giving.{both_ok}
use Rattle.block_store.proofs.Steps.{reads_on}
use Rattle.block_store.proofs.Telling.{read_after, read_before}
use Rattle.dnode_tree.proofs.Refusing.{passed_on}
use Rattle.metaslab.proofs.Holding.{cases}
use Rattle.block_store.proofs.Causes.{caused_behind_reads}
use Rattle.objset.specs.Changes.{changed}
use Rattle.objset.specs.declared.changes.ObjectChange.{ObjectChange}
use Rattle.object_table.proofs.Causes.{judged_is_caused}
use Rattle.pool_maps.specs.declared.steps.MapPlan.{MapPlan}
use Rattle.pool_maps.specs.Plans.{Advances, AreAhead, AreAll, IsForMetaslab, IsSound, LeaveMaps, MapAnew, MayBeMade, IsMapNumber, IsPutIn, OthersStay}
use Rattle.pool_maps.proofs.Among.{only, others_stay}
use Rattle.pool_maps.proofs.Underway.{spaces_stay}
use Rattle.pool_maps.proofs.Whole.{ahead, anew_grown, anew_idle, below, sound, table_apart, unmade}
use Rattle.pool_maps.specs.Numbers.{LacksNumbers}
use Rattle.pool_maps.proofs.planning.plan_maps.Goals as goal

pub returns-in_err-maps-clause-refused : goal.returns-in_err-maps-clause-refused
returns-in_err-maps-clause-refused g c = passed_on _ _ _ c.from_residual.ensures.1 (elim c.in_err-maps.ensures.refused [
  | inl memory ↦ inl memory
  | inr why ↦ inr (inl why)
])

pub returns-in_err-maps-clause-known : goal.returns-in_err-maps-clause-known
returns-in_err-maps-clause-known g c =
    passed_on _ _ _ c.from_residual.ensures.1
    (λ stored objects own blocks held aobj tell are others after group released.
    elim (c.in_err-maps.ensures.known stored objects own blocks held aobj tell) [
      | inl loss ↦ inl loss
      | inr (bad, none) ↦ absurd (none are.maps are.are.table)
    ])

pub returns-in_err-plan_all-clause-reads : goal.returns-in_err-plan_all-clause-reads
returns-in_err-plan_all-clause-reads g c = reads_on c.args.store.now c.read_space_maps.new.store c.plan_all.new.store [] c.read_space_maps.ensures.reads c.plan_all.ensures.reads

pub returns-clause-reads : goal.returns-clause-reads
returns-clause-reads g c = reads_on c.args.store.now c.read_space_maps.new.store c.plan_all.new.store [] c.read_space_maps.ensures.reads c.plan_all.ensures.reads

pub returns-in_err-plan_all-clause-refused : goal.returns-in_err-plan_all-clause-refused
returns-in_err-plan_all-clause-refused g c = passed_on _ _ _ c.from_residual-in_err-plan_all.ensures.1 (elim c.in_err-plan_all.ensures.refused [
  | inl memory ↦ inl memory
  | inr why ↦ inr (inr (record {
    plan = record { maps = c.in_ok-maps.maps; grown = false; changes = c.args.changes; next = c.args.next };
    changes_are = refl;
    next_is = refl;
    mid = c.read_space_maps.new.store;
    before = c.read_space_maps.ensures.reads;
    found = c.in_ok-maps.ensures.found;
    why = inl why;
  }))
])

pub returns-clause-refused : goal.returns-clause-refused
returns-clause-refused g c =
    IfErr-weaker c.with_table.result _ _
    (λ refusal cause. elim cause [
      | inl memory ↦ inl memory
      | inr (bad, taken) ↦ inr (inr (record {
        plan = record { maps = c.in_ok-maps.maps; grown = false; changes = c.args.changes; next = c.args.next };
        changes_are = refl;
        next_is = refl;
        mid = c.read_space_maps.new.store;
        before = c.read_space_maps.ensures.reads;
        found = c.in_ok-maps.ensures.found;
        why = inr (bad, (c.plan_all.new.self, c.in_ok-plan_all.ensures.step.goes_on, taken));
      }))
    ])
    c.with_table.ensures.refused

-- what the plan's own steps and the table's change leave as it was
left_by : (last : MapPlan) (changes all : List ObjectChange) (maps : List MetaslabMap) (next : ℕ)
    → ((objects : ℕ → Option Object) (number : ℕ) → ¬ IsMapNumber maps next number → changed last.changes.items objects number ≡ changed changes objects number)
    → (last.grown ≡ false → all ≡ last.changes.items)
    → (last.grown ≡ true → (change : Change) × IsPutIn last.changes.items (record { number = 4; change = change }) all) → OthersStay maps next changes all
left_by last changes all maps next steps idle_is grown_is objects number not_table not_map =
    let before = steps objects number not_map in
    elim (cases last.grown) [
      | inl grown ↦ let made = grown_is grown in
          others_stay last.changes.items all (record { number = 4; change = made.0 }) made.1 objects number (λ same. not_table (sym same)) ∙ before
      | inr idle ↦ ap (λ (them : List ObjectChange). changed them objects number) (idle_is idle) ∙ before
    ]

pub returns-clause-others : goal.returns-clause-others
returns-clause-others g c =
    let last = c.plan_all.new.self in
    let same = spaces_stay c.args.store.now c.read_space_maps.new.store [] c.read_space_maps.ensures.reads in
    let spare : (change : ObjectChange) → Contains last.changes.items change
    → Contains c.args.changes.items change ⊎ ((change.number ≡ 4) ⊎ IsForMetaslab c.args.store.now.spaces c.args.gone.now c.in_ok-maps.maps c.args.next change) =
    λ change held. elim (c.in_ok-plan_all.ensures.step.spare change held) [
      | inl before ↦ inl before
      | inr is ↦ inr (inr (subst (λ (spaces : List VdevSpace). IsForMetaslab spaces c.args.gone.now c.in_ok-maps.maps c.args.next change) same is))
    ] in
    IfOk-weaker c.with_table.result _ _
    (λ all both. (
      c.in_ok-maps.maps,
      c.in_ok-maps.ensures.found,
      left_by last c.args.changes.items all.items c.in_ok-maps.maps c.args.next c.in_ok-plan_all.ensures.step.goes_on.others both.0 (λ grown. let made = both.1 grown in (made.0, made.1)),
      λ change held.
          elim (cases last.grown) [
            | inl grown ↦ let made = both.1 grown in
                elim (only last.changes.items all.items (record { number = 4; change = made.0 }) made.1 change held) [
                  | inl sooner ↦ spare change sooner
                  | inr table ↦ inr (inl (sym (ap (λ (c : ObjectChange). c.number) table)))
                ]
            | inr idle ↦ spare change (subst (λ (them : List ObjectChange). Contains them change) (both.0 idle) held)
          ],
    ))
    (both_ok c.with_table.result _ _ c.with_table.ensures.same c.with_table.ensures.table)

pub returns-in_err-plan_all-clause-known : goal.returns-in_err-plan_all-clause-known
returns-in_err-plan_all-clause-known g c =
    let old = c.args.store.now in
    let mid = c.read_space_maps.new.store in
    let same = spaces_stay old mid [] c.read_space_maps.ensures.reads in
    let first : MapPlan = record { maps = c.in_ok-maps.maps; grown = false; changes = c.args.changes; next = c.args.next } in
    passed_on _ _ _ c.from_residual-in_err-plan_all.ensures.1
    (λ stored objects own blocks held aobj tell are others after group released.
    let maps_are = c.in_ok-maps.ensures.one stored objects own blocks held aobj (read_before old mid c.plan_all.new.store [] c.read_space_maps.ensures.reads c.plan_all.ensures.reads tell) are.maps are.are.table in
    c.in_err-plan_all.ensures.known stored objects own blocks (c.read_space_maps.ensures.reads.keeps stored held) aobj (read_after old mid c.plan_all.new.store [] c.read_space_maps.ensures.reads c.plan_all.ensures.reads tell)
    (subst (λ (spaces : List VdevSpace). IsSound spaces first) (sym same) (sound objects old.spaces are c.args.changes.items c.args.next others first maps_are refl refl))
    (unmade objects old.spaces are c.args.changes.items c.args.next others first maps_are refl refl)
    (below objects old.spaces are c.args.changes.items c.args.next others first maps_are refl refl)
    (subst (λ (spaces : List VdevSpace). AreAhead objects spaces AreAll first) (sym same) (ahead objects old.spaces are c.args.changes.items c.args.next others first maps_are refl refl))
    after group (subst (λ (spaces : List VdevSpace). AreReleased spaces (copies_of_all c.args.gone.now) group after) (sym same) released))

pub returns-clause-known : goal.returns-clause-known
returns-clause-known g c =
    let old = c.args.store.now in
    let mid = c.read_space_maps.new.store in
    let same = spaces_stay old mid [] c.read_space_maps.ensures.reads in
    let first : MapPlan = record { maps = c.in_ok-maps.maps; grown = false; changes = c.args.changes; next = c.args.next } in
    let last = c.plan_all.new.self in
    IfErr-weaker c.with_table.result _ _
    (λ refusal cause stored objects own blocks held aobj tell are others after group released.
    let maps_are = c.in_ok-maps.ensures.one stored objects own blocks held aobj (read_before old mid c.plan_all.new.store [] c.read_space_maps.ensures.reads c.plan_all.ensures.reads tell) are.maps are.are.table in
    let is_sound = sound objects old.spaces are c.args.changes.items c.args.next others first maps_are refl refl in
    let advances = subst (λ (spaces : List VdevSpace). Advances objects spaces c.args.gone.now AreAll first last) same
    (c.in_ok-plan_all.ensures.advances stored objects own blocks (c.read_space_maps.ensures.reads.keeps stored held) aobj (read_after old mid c.plan_all.new.store [] c.read_space_maps.ensures.reads c.plan_all.ensures.reads tell)
    (subst (λ (spaces : List VdevSpace). IsSound spaces first) (sym same) is_sound) (unmade objects old.spaces are c.args.changes.items c.args.next others first maps_are refl refl)) in
    let later = subst (λ (spaces : List VdevSpace). IsSound spaces last) same (c.in_ok-plan_all.ensures.step.sound (subst (λ (spaces : List VdevSpace). IsSound spaces first) (sym same) is_sound)) in
    elim cause [
      | inl memory ↦ inl (inl memory)
      | inr (bad, inl zero) ↦ absurd (cc)
      | inr (bad, inr (inl past)) ↦ absurd (search rules)
      | inr (bad, inr (inr some)) ↦ absurd (some (table_apart objects old.spaces are c.args.changes.items c.args.next others first maps_are refl refl c.args.gone.now last
          c.in_ok-plan_all.ensures.step.goes_on later advances))
    ])
    c.with_table.ensures.refused

pub returns-clause-value : goal.returns-clause-value
returns-clause-value g c =
    let old = c.args.store.now in
    let mid = c.read_space_maps.new.store in
    let same = spaces_stay old mid [] c.read_space_maps.ensures.reads in
    let first : MapPlan = record { maps = c.in_ok-maps.maps; grown = false; changes = c.args.changes; next = c.args.next } in
    let last = c.plan_all.new.self in
    IfOk-weaker c.with_table.result _ _
    (λ all both stored objects own blocks held aobj tell are others.
    let maps_are = c.in_ok-maps.ensures.one stored objects own blocks held aobj (read_before old mid c.plan_all.new.store [] c.read_space_maps.ensures.reads c.plan_all.ensures.reads tell) are.maps are.are.table in
    let is_sound = sound objects old.spaces are c.args.changes.items c.args.next others first maps_are refl refl in
    let advances = subst (λ (spaces : List VdevSpace). Advances objects spaces c.args.gone.now AreAll first last) same
    (c.in_ok-plan_all.ensures.advances stored objects own blocks (c.read_space_maps.ensures.reads.keeps stored held) aobj (read_after old mid c.plan_all.new.store [] c.read_space_maps.ensures.reads c.plan_all.ensures.reads tell)
    (subst (λ (spaces : List VdevSpace). IsSound spaces first) (sym same) is_sound) (unmade objects old.spaces are c.args.changes.items c.args.next others first maps_are refl refl)) in
    let later = subst (λ (spaces : List VdevSpace). IsSound spaces last) same (c.in_ok-plan_all.ensures.step.sound (subst (λ (spaces : List VdevSpace). IsSound spaces first) (sym same) is_sound)) in
    let stay = subst (λ (maps : List MetaslabMap). OthersStay maps c.args.next c.args.changes.items all.items) maps_are
    (left_by last c.args.changes.items all.items c.in_ok-maps.maps c.args.next c.in_ok-plan_all.ensures.step.goes_on.others both.0 (λ grown. let made = both.1 grown in (made.0, made.1))) in
    elim (cases last.grown) [
      | inl grown ↦ let made = both.1 grown in
          let anew = anew_grown objects old.spaces are c.args.changes.items c.args.next others first maps_are refl refl c.args.gone.now last c.in_ok-plan_all.ensures.step.goes_on later advances
          all.items made.0 made.1 made.2 in
          (anew.0, anew.1, stay, anew.2)
      | inr idle ↦ let anew = subst (λ (them : List ObjectChange). MayBeMade objects them × MapAnew objects old.spaces c.args.gone.now them × LeaveMaps objects c.args.changes.items them) (sym (both.0 idle))
          (anew_idle objects old.spaces are c.args.changes.items c.args.next others first maps_are refl refl c.args.gone.now last c.in_ok-plan_all.ensures.step.goes_on later advances idle) in
          (anew.0, anew.1, stay, anew.2)
    ])
    (both_ok c.with_table.result _ _ c.with_table.ensures.same c.with_table.ensures.table)

pub returns-in_err-maps-clause-caused : goal.returns-in_err-maps-clause-caused
returns-in_err-maps-clause-caused g c = passed_on _ _ _ c.from_residual.ensures.1 (inl c.in_err-maps.ensures.caused)

pub returns-in_err-plan_all-clause-caused : goal.returns-in_err-plan_all-clause-caused
returns-in_err-plan_all-clause-caused g c =
    let same = spaces_stay c.args.store.now c.read_space_maps.new.store [] c.read_space_maps.ensures.reads in
    passed_on _ _ _ c.from_residual-in_err-plan_all.ensures.1 (elim c.in_err-plan_all.ensures.caused [
      | inl cause ↦ inl (caused_behind_reads _ _ _ _ _ c.read_space_maps.ensures.reads cause)
      | inr (space, few) ↦ inr (space, subst (λ (spaces : List VdevSpace). LacksNumbers spaces c.args.next) same few)
    ])

pub returns-clause-caused : goal.returns-clause-caused
returns-clause-caused g c = IfErr-weaker c.with_table.result _ _ (λ refusal why. inl (judged_is_caused _ _ _ _ refusal why)) c.with_table.ensures.refused
