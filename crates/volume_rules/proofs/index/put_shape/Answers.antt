use Rattle.std.proofs.Common.{ℕ, Vec, Global, Some, ap, ◌∙◌, cond}
use Rattle.pool_model.specs.Names.{same}
use Rattle.volume_rules.proofs.Rows.{shape_in, shape_put}
use Rattle.volume_rules.proofs.index.put_shape.Goals as goal

pub returns : goal.returns
returns c = λ other.
    let items = λ (key : Vec ℕ Global). key.items in
    shape_put items c.args.shapes.now c.insert.new.self c.in_ok-key.key c.args.shape c.in_ok-insert.ensures.updates other
    ∙ ap (λ name. cond (same name other) (Some c.args.shape) (shape_in items other c.args.shapes.now.entries)) c.in_ok-key.ensures.items
