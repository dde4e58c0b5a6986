use Rattle.std.proofs.Common.{◌≡◌, ◌<◌, ℕ, List, length, take, get_or, set, All, sym, subst, rules}
use Rattle.std.proofs.lemmas.List.{get_or_default}
use Rattle.meta_objset.specs.declared.space_maps.MetaslabMap.{MetaslabMap}
use Rattle.meta_objset.specs.SpaceMaps.{AreSpaceMaps, FitsMap, IsEarlier, IsWithMap, LacksMetaslab}
use Rattle.meta_objset.proofs.Ordered.{inserted_ordered, inserted_set, put_ordered, put_set}
use Rattle.meta_objset.proofs.Maps.{Earlier, metaslab_of, place_order, in_order, are_maps}
use Rattle.meta_objset.proofs.space_maps.SpaceMaps.set.Goals as goal

pub invariant_of-self : goal.invariant_of-self
invariant_of-self c =
    let maps : List MetaslabMap = c.self.inside.rows.items in
    let map : MetaslabMap = c.args.map in
    let at : ℕ = c.in-Some.at in
    let low : at < length maps = subst (λ (all : List MetaslabMap). at < length all) c.deref.ensures.value c.in-Some.ensures.0 in
    let there : (get_or maps at map).metaslab ≡ map.metaslab = subst (λ (all : List MetaslabMap). (get_or all at map).metaslab ≡ map.metaslab) c.deref.ensures.value (c.in-Some.ensures.1 map) in
    are_maps _
    (put_ordered metaslab_of IsEarlier place_order FitsMap maps at (get_or maps at map) (in_order maps c.self.invariant) low (get_or_default maps at (get_or maps at map) map low) map
    (record { metaslab = record { vdev = search rules; index = search rules }; object = search rules }) there)

pub returns-in-Some-clause-order : goal.returns-in-Some-clause-order
returns-in-Some-clause-order c = invariant_of-self c

pub returns-in-Some-clause-set : goal.returns-in-Some-clause-set
returns-in-Some-clause-set c =
    let maps : List MetaslabMap = c.self.inside.rows.items in
    let map : MetaslabMap = c.args.map in
    let at : ℕ = c.in-Some.at in
    let same : maps ≡ c.args.self.now = cc in
    let low : at < length maps = subst (λ (all : List MetaslabMap). at < length all) c.deref.ensures.value c.in-Some.ensures.0 in
    let there : (get_or maps at map).metaslab ≡ map.metaslab = subst (λ (all : List MetaslabMap). (get_or all at map).metaslab ≡ map.metaslab) c.deref.ensures.value (c.in-Some.ensures.1 map) in
    subst (λ (all : List MetaslabMap). IsWithMap all map (set maps at map)) same
    (put_set metaslab_of IsEarlier place_order FitsMap maps at (get_or maps at map) (in_order maps c.self.invariant) low (get_or_default maps at (get_or maps at map) map low) map there)

pub invariant_of-self-2 : goal.invariant_of-self-2
invariant_of-self-2 c =
    let maps : List MetaslabMap = c.self.inside.rows.items in
    let map : MetaslabMap = c.args.map in
    let at : ℕ = c.count_before-at.result in
    let lacks : LacksMetaslab maps map.metaslab = subst (λ (all : List MetaslabMap). LacksMetaslab all map.metaslab) c.deref.ensures.value c.in_default.ensures in
    let before : All (λ other. Earlier other map) (take at maps) = subst (λ (all : List MetaslabMap). All (λ other. Earlier other map) (take at all)) c.deref-2.ensures.value c.count_before-at.ensures.before in
    let behind : (other : MetaslabMap) → at < length maps → ¬ IsEarlier (get_or maps at other).metaslab map.metaslab =
    subst (λ (all : List MetaslabMap). (other : MetaslabMap) → at < length all → ¬ IsEarlier (get_or all at other).metaslab map.metaslab) c.deref-2.ensures.value c.count_before-at.ensures.behind in
    subst AreSpaceMaps (sym c.in_ok-insert.ensures.items)
    (are_maps _ (inserted_ordered metaslab_of IsEarlier place_order FitsMap maps map at (in_order maps c.self.invariant) lacks before behind
    (record { metaslab = record { vdev = search rules; index = search rules }; object = search rules })))

pub returns-clause-set : goal.returns-clause-set
returns-clause-set c =
    let maps : List MetaslabMap = c.self.inside.rows.items in
    let map : MetaslabMap = c.args.map in
    let same : maps ≡ c.args.self.now = cc in
    let lacks : LacksMetaslab maps map.metaslab = subst (λ (all : List MetaslabMap). LacksMetaslab all map.metaslab) c.deref.ensures.value c.in_default.ensures in
    subst (λ (all : List MetaslabMap). IsWithMap all map c.insert.new.self.items) same
    (subst (λ (all : List MetaslabMap). IsWithMap maps map all) (sym c.in_ok-insert.ensures.items) (inserted_set metaslab_of maps map c.count_before-at.result lacks))

pub returns-clause-order : goal.returns-clause-order
returns-clause-order c = invariant_of-self-2 c
