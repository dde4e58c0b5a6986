use Rattle.std.proofs.Common.{◌≡◌, ◌<◌, List, length, get_or, Contains, sym, ap, subst, ◌∙◌}
use Rattle.meta_objset.specs.declared.space_maps.MetaslabMap.{MetaslabMap}
use Rattle.meta_objset.specs.declared.space_maps.MetaslabPlace.{MetaslabPlace}
use Rattle.meta_objset.specs.SpaceMaps.{AreSpaceMaps, FitsMap, IsEarlier, IsWithoutMetaslab}
use Rattle.meta_objset.proofs.Ordered.{taken_ordered, is_taken, old_there}
use Rattle.meta_objset.proofs.Maps.{metaslab_of, place_order, in_order, are_maps}
use Rattle.meta_objset.proofs.space_maps.SpaceMaps.remove.Goals as goal

pub invariant_of-self : goal.invariant_of-self
invariant_of-self c =
    let maps : List MetaslabMap = c.self.inside.rows.items in
    let low : c.in_ok-at.at < length maps = subst (λ (all : List MetaslabMap). c.in_ok-at.at < length all) c.deref.ensures.value c.in_ok-at.ensures.0 in
    subst AreSpaceMaps (sym c.remove-map.ensures.items)
    (are_maps _ (taken_ordered metaslab_of IsEarlier place_order FitsMap maps c.in_ok-at.at c.remove-map.result (in_order maps c.self.invariant) low (sym c.remove-map.ensures.value)))

pub returns-clause-removed : goal.returns-clause-removed
returns-clause-removed c =
    let maps : List MetaslabMap = c.self.inside.rows.items in
    let map : MetaslabMap = c.remove-map.result in
    let same : maps ≡ c.args.self.now = cc in
    let here : get_or maps c.in_ok-at.at map ≡ map = sym c.remove-map.ensures.value in
    let low : c.in_ok-at.at < length maps = subst (λ (all : List MetaslabMap). c.in_ok-at.at < length all) c.deref.ensures.value c.in_ok-at.ensures.0 in
    let disk : (get_or maps c.in_ok-at.at map).metaslab ≡ c.args.metaslab = subst (λ (all : List MetaslabMap). (get_or all c.in_ok-at.at map).metaslab ≡ c.args.metaslab) c.deref.ensures.value (c.in_ok-at.ensures.1 map) in
    let is : map.metaslab ≡ c.args.metaslab = ap metaslab_of (sym here) ∙ disk in
    subst (λ (all : List MetaslabMap). Contains all map × (map.metaslab ≡ c.args.metaslab) × IsWithoutMetaslab all c.args.metaslab c.remove-map.new.self.items) same (
      old_there metaslab_of IsEarlier place_order FitsMap maps c.in_ok-at.at map (in_order maps c.self.invariant) low here,
      is,
      subst (λ (n : MetaslabPlace). IsWithoutMetaslab maps n c.remove-map.new.self.items) is
          (subst (λ (all : List MetaslabMap). IsWithoutMetaslab maps map.metaslab all) (sym c.remove-map.ensures.items)
          (is_taken metaslab_of IsEarlier place_order FitsMap maps c.in_ok-at.at map (in_order maps c.self.invariant) low here)),
    )

pub returns-clause-order : goal.returns-clause-order
returns-clause-order c = invariant_of-self c
