use Rattle.std.proofs.Common.{◌≡◌, ◌+◌, ◌-◌, length, arith, subst}
use Rattle.std.proofs.lemmas.List.{length-take}
use Rattle.nbd_serve.proofs.Consuming.{HasDropped, dropped_more}
use Rattle.nbd_serve.proofs.input.drop_payload.Goals as goal

pub loop-left-preserved : goal.loop-left-preserved
loop-left-preserved g c =
    let old = g.R.Read.remaining c.args.input.now in
    let now = g.R.Read.remaining c.loop-left.input in
    let part = c.read_whole.new.buffer in
    let rest = c.loop-left.left - c.min-part.result in
    let whole : c.loop-left.left ≡ length part + rest = omega (arith, c.read_whole.auto.buffer, length-take c.min-part.result c.loop-left.buffer) in
    dropped_more old now (g.R.Read.remaining c.read_whole.new.input) c.args.len rest part (subst (HasDropped old now c.args.len) whole c.loop-left.invariant) c.in_ok-read_whole.ensures.read
