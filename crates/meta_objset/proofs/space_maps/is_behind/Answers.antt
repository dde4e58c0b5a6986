use Rattle.std.proofs.Common.{◌≡◌, ◌-◌, length, Some, sym, subst, arith}
use Rattle.std.specs.List.{slice_get}
use Rattle.std.proofs.lemmas.List.Elements.{All-get_or}
use Rattle.std.proofs.lemmas.Option.{slice_get_within, get_or_from_slice_get}
use Rattle.meta_objset.specs.declared.space_maps.MetaslabMap.{MetaslabMap}
use Rattle.meta_objset.proofs.Ordered.{behind_each}
use Rattle.meta_objset.proofs.Maps.{Earlier, place_order}
use Rattle.meta_objset.proofs.space_maps.is_behind.Goals as goal

pub returns-in-Some : goal.returns-in-Some
returns-in-Some c =
    let maps = c.args.maps.now in
    let map = c.args.map.now in
    let last = c.in-Some.last.now in
    let there : slice_get maps (length maps - 1) ≡ Some last = sym c.in-Some.ensures.value in
    let within = slice_get_within maps (length maps - 1) last there in
    let is = get_or_from_slice_get maps (length maps - 1) last last there in (
      λ test. behind_each Earlier (λ a b c. place_order.through a.metaslab b.metaslab c.metaslab) maps last map c.requires.order (omega (arith, within)) is (c.is_earlier.ensures.0 test),
      λ all. let low : Earlier last map = subst (λ (before : MetaslabMap). Earlier before map) is (All-get_or (λ (before : MetaslabMap). Earlier before map) maps (length maps - 1) last within all) in
          c.is_earlier.ensures.1 low,
    )
