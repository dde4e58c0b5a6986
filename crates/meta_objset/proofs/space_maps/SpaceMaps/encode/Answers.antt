use Rattle.std.proofs.Common.{◌≡◌, ◌*◌, length, ap, ◌∙◌, arith}
use Rattle.meta_objset.specs.SpaceMaps.{map_bytes}
use Rattle.meta_objset.proofs.Ordered.{rows_of_32}
use Rattle.meta_objset.proofs.Maps.{map_len}
use Rattle.meta_objset.proofs.space_maps.SpaceMaps.encode.Goals as goal

pub encode-requires-clause-rows : goal.encode-requires-clause-rows
encode-requires-clause-rows c =
    let len : length c.deref.result.now ≡ 32 * length c.args.self.now =
    ap length c.deref.ensures.value ∙ ap length c.in_ok-rows.ensures ∙ rows_of_32 map_bytes c.args.self.now map_len in
    omega (arith, len)

pub encode-requires-clause-few : goal.encode-requires-clause-few
encode-requires-clause-few c =
    let len : length c.deref.result.now ≡ 32 * length c.args.self.now =
    ap length c.deref.ensures.value ∙ ap length c.in_ok-rows.ensures ∙ rows_of_32 map_bytes c.args.self.now map_len in
    omega (arith, len, c.requires)
