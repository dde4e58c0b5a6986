use Rattle.std.proofs.Common.{rules, Some, None, refl, ◌∙◌}
use Rattle.txg_pipeline.proofs.Positions.{on_ok_two, on_err_two, becomes_in, added_to, kept_in, kept_along}
use Rattle.txg_pipeline.proofs.Running.{on_err}
use Rattle.txg_pipeline.proofs.places.PlaceIndex.add.Goals as goal

pub returns-in-Some-clause-ok : goal.returns-in-Some-clause-ok
returns-in-Some-clause-ok c =
    let v = c.add.new.self in
    let after = (c.get_mut.follows.holds v).3 (search rules) in
    on_ok_two c.add.result
    (λ all pieces writes at was.
    added_to c.args.self.now (record { volumes = c.get_mut.follows.lender v }) writes c.args.write.now c.as_slice.result.now (Some c.in-Some.index.now) v
    c.args.position c.pieces_of-first.result.0 c.pieces_of-first.result.1 c.as_slice.ensures c.in-Some.ensures.value c.pieces_of-first.ensures
    (becomes_in c.args.self.now c.args.self.now.volumes (c.get_mut.follows.lender v) c.as_slice.result.now c.args.write.now.volume v refl c.as_slice.ensures after.1 after.2)
    all pieces at was)
    c.add.ensures.ok c.add.ensures.pieces

pub returns-in-Some-clause-err : goal.returns-in-Some-clause-err
returns-in-Some-clause-err c =
    let v = c.add.new.self in
    let after = (c.get_mut.follows.holds v).3 (search rules) in
    on_err_two c.add.result
    (λ all pieces writes was.
    kept_in c.args.self.now (record { volumes = c.get_mut.follows.lender v }) writes c.as_slice.result.now c.args.write.now.volume c.in-Some.index.now v
    c.as_slice.ensures c.in-Some.ensures.value
    (becomes_in c.args.self.now c.args.self.now.volumes (c.get_mut.follows.lender v) c.as_slice.result.now c.args.write.now.volume v refl c.as_slice.ensures after.1 after.2)
    all pieces was)
    c.add.ensures.err c.add.ensures.err_pieces

pub returns-in_err-insert-clause-err : goal.returns-in_err-insert-clause-err
returns-in_err-insert-clause-err c =
    on_err c.from_residual-in_err-insert.result
    (λ writes was. kept_along c.args.self.now c.get_mut.follows.lender-at-none c.insert.new.self writes c.get_mut.follows.holds-at-none c.in_err-insert.ensures.err was)

pub returns-clause-ok : goal.returns-clause-ok
returns-clause-ok c = λ writes at was.
    let updates = c.in_ok-insert.ensures.updates in
    let named = c.into_vec.ensures ∙ c.in_ok-name.ensures in
    added_to c.args.self.now (record { volumes = c.insert.new.self }) writes c.args.write.now c.as_slice.result.now None c.in_ok-index.index
    c.args.position c.pieces_of-first.result.0 c.pieces_of-first.result.1 c.as_slice.ensures c.in_default.ensures.value c.pieces_of-first.ensures
    (becomes_in c.args.self.now c.get_mut.follows.lender-at-none c.insert.new.self c.into_vec.result.items c.args.write.now.volume c.in_ok-index.index c.get_mut.follows.holds-at-none named updates.1 updates.2)
    c.in_ok-index.ensures.all c.in_ok-index.ensures.pieces at was
