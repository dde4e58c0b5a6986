use Rattle.std.proofs.Common.{◌≡◌, ◌<◌, ◌+◌, ◌^◌, length, sym, ap, ◌∙◌, subst, arith}
use Rattle.volume_device.specs.Contents.{IsWritten}
use Rattle.volume_device.specs.Devices.{Leads, name_of}
use Rattle.commands.proofs.Taking.{TakenSoFar, all_taken, cut_commits_none, in_part, none_taken, stops_part, taken_more, taken_part}
use Rattle.commands.proofs.pouring.take_in.Goals as goal

pub loop-init : goal.loop-init
loop-init g c = none_taken g.P.PoolSteps c.nothing_is_overwritten.ensures c.args.device.now (g.R.Read.remaining c.args.input.now) (g.met.P.PoolSteps.came_from_itself c.args.device.now.core)

pub returns-in-Err-clause-stopped : goal.returns-in-Err-clause-stopped
returns-in-Err-clause-stopped g c =
    stops_part g.P.PoolSteps c.args.device.now c.loop.device (g.R.Read.remaining c.args.input.now) c.in-Err.stop c.in-Err.ensures.refused
    (taken_part g.P.PoolSteps c.args.device.now c.loop.device c.loop.at (g.R.Read.remaining c.args.input.now) (g.R.Read.remaining c.loop.input) c.loop.invariant)

pub returns-in-Err-write-clause-stopped : goal.returns-in-Err-write-clause-stopped
returns-in-Err-write-clause-stopped g c =
    in_part g.P.PoolSteps c.parts_are_one.ensures.fits c.parts_are_one.ensures.now g.met.P.PoolSteps.parts_tell g.met.P.PoolSteps.came_further c.args.device.now c.loop.device c.write.new.self c.loop.at
    (g.R.Read.remaining c.args.input.now) (g.R.Read.remaining c.loop.input) (g.R.Read.remaining c.next_piece.new.input) c.loop.invariant c.write.ensures.follows
    (cut_commits_none g.P.PoolSteps c.loop.device c.write.new.self (name_of c.loop.device) c.loop.at c.as_slice.result.now c.in-Err-write.ensures.refused)

pub returns-then-len-lt-PIECE-clause-taken : goal.returns-then-len-lt-PIECE-clause-taken
returns-then-len-lt-PIECE-clause-taken g c =
    let a = g.R.Read.remaining c.args.input.now in
    let b = g.R.Read.remaining c.loop.input in
    let after = g.R.Read.remaining c.next_piece.new.input in
    let piece = c.in-Ok.piece.items in
    let count : length piece ≡ c.len.result = ap length (sym c.as_slice.ensures.value) ∙ (c.as_slice.ensures.len ∙ sym c.len.ensures) in
    let few : length piece < 2 ^ 20 = omega (arith, count, c.if-len-lt-PIECE.true) in
    all_taken g.P.PoolSteps c.args.device.now c.write.new.self (c.loop.at + length piece) a after
    (taken_more g.P.PoolSteps c.parts_are_one.ensures.fits c.parts_are_one.ensures.now g.met.P.PoolSteps.parts_tell g.met.P.PoolSteps.came_further c.args.device.now c.loop.device c.write.new.self c.loop.at a b after c.loop.invariant
    c.write.ensures.follows piece c.in-Ok.ensures.piece.consumed c.write.ensures.name (subst (λ l. Leads g.P.PoolSteps c.loop.device c.write.new.self (IsWritten (name_of c.loop.device) c.loop.at l)) c.as_slice.ensures.value c.in-Ok-write.ensures.written))
    (c.in-Ok.ensures.piece.last few)

pub returns-in_default-clause-stopped : goal.returns-in_default-clause-stopped
returns-in_default-clause-stopped g c =
    let a = g.R.Read.remaining c.args.input.now in
    let b = g.R.Read.remaining c.loop.input in
    let after = g.R.Read.remaining c.next_piece.new.input in
    let piece = c.in-Ok.piece.items in
    taken_part g.P.PoolSteps c.args.device.now c.write.new.self (c.loop.at + length piece) a after
    (taken_more g.P.PoolSteps c.parts_are_one.ensures.fits c.parts_are_one.ensures.now g.met.P.PoolSteps.parts_tell g.met.P.PoolSteps.came_further c.args.device.now c.loop.device c.write.new.self c.loop.at a b after c.loop.invariant
    c.write.ensures.follows piece c.in-Ok.ensures.piece.consumed c.write.ensures.name (subst (λ l. Leads g.P.PoolSteps c.loop.device c.write.new.self (IsWritten (name_of c.loop.device) c.loop.at l)) c.as_slice.ensures.value c.in-Ok-write.ensures.written))

pub loop-preserved : goal.loop-preserved
loop-preserved g c =
    let a = g.R.Read.remaining c.args.input.now in
    let b = g.R.Read.remaining c.loop.input in
    let after = g.R.Read.remaining c.next_piece.new.input in
    let piece = c.in-Ok.piece.items in
    let count : length piece ≡ c.len-in-loop.result = ap length (sym c.as_slice.ensures.value) ∙ (c.as_slice.ensures.len ∙ sym c.len-in-loop.ensures) in
    let next : c.loop.at + length piece ≡ c.in-Some.next = ap (λ n. c.loop.at + n) count ∙ sym c.in-Some.ensures.1 in
    subst (λ n. TakenSoFar g.P.PoolSteps c.args.device.now c.write.new.self n a after) next
    (taken_more g.P.PoolSteps c.parts_are_one.ensures.fits c.parts_are_one.ensures.now g.met.P.PoolSteps.parts_tell g.met.P.PoolSteps.came_further c.args.device.now c.loop.device c.write.new.self c.loop.at a b after c.loop.invariant
    c.write.ensures.follows piece c.in-Ok.ensures.piece.consumed c.write.ensures.name (subst (λ l. Leads g.P.PoolSteps c.loop.device c.write.new.self (IsWritten (name_of c.loop.device) c.loop.at l)) c.as_slice.ensures.value c.in-Ok-write.ensures.written))

pub returns-clause-stopped : goal.returns-clause-stopped
returns-clause-stopped g c = taken_part g.P.PoolSteps c.args.device.now c.loop.device c.loop.at (g.R.Read.remaining c.args.input.now) (g.R.Read.remaining c.loop.input) c.loop.invariant
