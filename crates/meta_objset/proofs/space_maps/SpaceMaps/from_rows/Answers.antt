use Rattle.std.proofs.Common.{◌≡◌, ◌<◌, List, ◌++◌, length, All, sym, ap, subst, ◌∙◌, arith}
use Rattle.std.proofs.lemmas.Bool.Decides.{nat_tests}
use Rattle.std.proofs.lemmas.List.{append-nil}
use Rattle.meta_objset.specs.declared.space_maps.MetaslabMap.{MetaslabMap}
use Rattle.meta_objset.specs.SpaceMaps.{FitsMap, map_bytes}
use Rattle.meta_objset.proofs.InOrder.{reading_goes_on, reading_stops}
use Rattle.meta_objset.proofs.Ordered.{AreReadInOrder, next_is_behind, pushed_order, none_left}
use Rattle.meta_objset.proofs.Maps.{Earlier, map_len}
use Rattle.meta_objset.proofs.space_maps.SpaceMaps.from_rows.Goals as goal

pub returns-in_err-map-clause-bad : goal.returns-in_err-map-clause-bad
returns-in_err-map-clause-bad c = λ _ whole is spelled.
    let some : 0 < length c.loop-rest.rest.now = grind (arith, nat_tests) in
    reading_stops map_bytes FitsMap c.args.bytes.now c.loop-rest.rest.now c.loop-rest.rows.items c.loop-rest.invariant.read some
    (λ map more fits parts. absurd (c.in_err-map.ensures.only map more fits parts)) whole is.each spelled

pub returns-then-not-is_behind-clause-bad : goal.returns-then-not-is_behind-clause-bad
returns-then-not-is_behind-clause-bad c = λ _ whole is spelled.
    let some : 0 < length c.loop-rest.rest.now = grind (arith, nat_tests) in
    let all = next_is_behind map_bytes FitsMap Earlier c.args.bytes.now c.loop-rest.rest.now c.in_ok-map.after.now c.loop-rest.rows.items c.in_ok-map.map c.loop-rest.invariant.read some c.in_ok-map.ensures.only whole is.each is.order spelled in
    let test = c.is_behind.ensures.1 (subst (λ (maps : List MetaslabMap). All (λ before. Earlier before c.in_ok-map.map) maps) (sym c.deref.ensures.value) all) in
    absurd cc

pub loop-rest-preserved : goal.loop-rest-preserved
loop-rest-preserved c =
    let some : 0 < length c.loop-rest.rest.now = grind (arith, nat_tests) in
    let maps : List MetaslabMap = c.loop-rest.rows.items in
    let all = subst (λ (maps : List MetaslabMap). All (λ before. Earlier before c.in_ok-map.map) maps) c.deref.ensures.value (c.is_behind.ensures.0 c.if-not-is_behind.false) in
    subst (λ (maps : List MetaslabMap). AreReadInOrder map_bytes FitsMap Earlier c.args.bytes.now c.in_ok-map.after.now maps) (sym c.in_ok-push.ensures.items)
    (record {
      read = reading_goes_on map_bytes FitsMap c.args.bytes.now c.loop-rest.rest.now c.in_ok-map.after.now maps c.in_ok-map.map c.loop-rest.invariant.read some c.in_ok-map.ensures.fits c.in_ok-map.ensures.found c.in_ok-map.ensures.only;
      order = pushed_order Earlier maps c.in_ok-map.map c.loop-rest.invariant.order all;
    })

pub returns-clause-only : goal.returns-clause-only
returns-clause-only c = λ maps is spelled.
    let known = c.loop-rest.invariant.read.only maps is.each spelled in
    let none : length c.loop-rest.rest.now ≡ 0 = grind (arith, nat_tests) in
    sym (known.2 ∙ ap (λ (left : List MetaslabMap). c.loop-rest.rows.items ++ left) (none_left map_bytes known.0 c.loop-rest.rest.now map_len known.3 none) ∙ append-nil c.loop-rest.rows.items)
