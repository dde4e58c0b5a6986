use Rattle.std.proofs.Common.{◌<◌, length, sym, ◌∙◌, arith}
use Rattle.std.proofs.lemmas.Bool.Decides.{nat_tests}
use Rattle.meta_objset.proofs.Naming.{padded_named}
use Rattle.meta_objset.proofs.names.padded.Goals as goal

pub returns-clause-named : goal.returns-clause-named
returns-clause-named c =
    let some : 0 < length c.args.name.now = grind (arith, nat_tests) in
    let few : length c.args.name.now < 56 = grind (arith, nat_tests) in
    padded_named c.put.new.block c.args.name.now c.first_zero.result _ some few (sym c.is_some.ensures ∙ c.if-is_some.false) c.first_zero.ensures c.put.ensures
