use Rattle.std.proofs.Common.{◌≡◌, ℕ, ◌*◌, List, Some, length, ap, subst, ◌∙◌, arith}
use Rattle.std.proofs.lemmas.Result.{IfOk-weaker}
use Rattle.objset.specs.Changes.{after_change}
use Rattle.object_table.specs.Tables.{HasTable}
use Rattle.meta_objset.specs.SpaceMaps.{AreSpaceMaps, map_bytes, maps_kind}
use Rattle.meta_objset.proofs.Ordered.{rows_of_32}
use Rattle.meta_objset.proofs.Maps.{map_len}
use Rattle.meta_objset.proofs.space_maps.SpaceMaps.replacement.Goals as goal

pub replacement-requires-clause-rows : goal.replacement-requires-clause-rows
replacement-requires-clause-rows c =
    let len : length c.deref.result.now ≡ 32 * length c.args.self.now =
    ap length c.deref.ensures.value ∙ ap length c.in_ok-rows.ensures ∙ rows_of_32 map_bytes c.args.self.now map_len in
    omega (arith, len)

pub replacement-requires-clause-few : goal.replacement-requires-clause-few
replacement-requires-clause-few c =
    let len : length c.deref.result.now ≡ 32 * length c.args.self.now =
    ap length c.deref.ensures.value ∙ ap length c.in_ok-rows.ensures ∙ rows_of_32 map_bytes c.args.self.now map_len in
    omega (arith, len, c.requires)

pub returns-clause-made : goal.returns-clause-made
returns-clause-made c =
    let same : c.self.inside.rows.items ≡ c.args.self.now = cc in
    IfOk-weaker c.replacement.result _ _
    (λ change made object is. (
      subst AreSpaceMaps same c.self.invariant,
      subst (λ (rows : List ℕ). HasTable maps_kind (after_change change (Some object)) rows) (c.deref.ensures.value ∙ c.in_ok-rows.ensures) (made object is),
    ))
    c.replacement.ensures.made
