use Rattle.std.proofs.Common.{◌≡◌, ◌*◌, length, All, ap, subst, ◌∙◌, arith}
use Rattle.meta_objset.specs.Directory.{FitsRow}
use Rattle.meta_objset.proofs.Rows.{rows_len}
use Rattle.meta_objset.proofs.directory.Directory.encode.Goals as goal

pub encode-requires-clause-rows : goal.encode-requires-clause-rows
encode-requires-clause-rows c =
    let same : c.self.inside.rows.items ≡ c.args.self.now = cc in
    let len : length c.deref.result.now ≡ 64 * length c.args.self.now =
    ap length c.deref.ensures.value ∙ ap length c.in_ok-rows.ensures ∙ rows_len c.args.self.now (subst (All FitsRow) same c.self.invariant.each) in
    omega (arith, len)

pub encode-requires-clause-few : goal.encode-requires-clause-few
encode-requires-clause-few c =
    let same : c.self.inside.rows.items ≡ c.args.self.now = cc in
    let len : length c.deref.result.now ≡ 64 * length c.args.self.now =
    ap length c.deref.ensures.value ∙ ap length c.in_ok-rows.ensures ∙ rows_len c.args.self.now (subst (All FitsRow) same c.self.invariant.each) in
    omega (arith, len, c.requires)
