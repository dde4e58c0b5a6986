use Rattle.std.proofs.Common.{ap, ◌+◌, ◌%◌, ℕ, arith}
use Rattle.pool_slots.proofs.Used.{used_here}
use Rattle.pool_slots.proofs.Writing.{turn_made, turn_stands}
use Rattle.pool_slots.proofs.writes.write_turn_on.Goals as goal

pub returns-clause-makes : goal.returns-clause-makes
returns-clause-makes g c =
    turn_made c.args.out.now c.args.all.now c.args.turn c.args.which ((c.first_half.result + c.args.turn) % 2) c.args.disks.now c.write_half.new.disks c.args.uberblock.now
    (used_here c.args.out.now c.args.which (omega (arith, c.requires.which, c.requires.out)) c.if-out-which.false) (ap (λ (n : ℕ). (n + c.args.turn) % 2) c.first_half.ensures.half) c.write_half.ensures.makes

pub returns-clause-stand : goal.returns-clause-stand
returns-clause-stand g c =
    turn_stands c.write_half.result c.args.out.now c.args.all.now c.args.turn c.args.which ((c.first_half.result + c.args.turn) % 2) c.args.disks.now c.write_half.new.disks c.args.uberblock.now
    (ap (λ (n : ℕ). (n + c.args.turn) % 2) c.first_half.ensures.half) c.write_half.ensures.stand
