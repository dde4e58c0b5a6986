use Rattle.std.proofs.Common.{◌≡◌, ◌+◌, ◌≤◌, length, ◌∙◌, arith}
use Rattle.volume_rules.proofs.Overlays.{length_after_writes}
use Rattle.volume_rules.proofs.InPieces.{part_length, put_length, up_to_none, up_to_more, up_to_all}
use Rattle.volume_rules.specs.Overlay.{after_writes}
use Rattle.volume_rules.proofs.pieces.lay_pending.Goals as goal

pub loop-done-init : goal.loop-done-init
loop-done-init c = record {
  most = omega arith;
  laid = λ volume named writable size h. up_to_none c.args.buffer.now (after_writes volume c.args.items.now.writes).bytes volume.bytes c.args.offset h;
}

pub loop-done-preserved : goal.loop-done-preserved
loop-done-preserved c =
    let most = c.count_in_piece-count.ensures.most in
    let test = c.loop-done-test.true in
    let room : c.loop-done.done + c.count_in_piece-count.result ≤ length c.loop-done.buffer = omega arith in
    let part : length c.lay_piece.new.buffer ≡ c.count_in_piece-count.result = c.lay_piece.auto.buffer ∙ part_length c.loop-done.buffer c.loop-done.done c.count_in_piece-count.result room in
    let same = c.loop-done.auto.buffer in
    let fits = c.requires in
    record {
      most = (let long = put_length c.loop-done.done c.count_in_piece-count.result c.loop-done.buffer c.lay_piece.new.buffer part room in omega (arith, long));
      laid = λ volume named writable size h.
          up_to_more c.loop-done.done c.count_in_piece-count.result c.loop-done.buffer c.lay_piece.new.buffer (after_writes volume c.args.items.now.writes).bytes volume.bytes c.args.offset
          room part (omega (arith, fits, same, size)) (c.loop-done.invariant.laid volume named writable size h) (c.lay_piece.ensures volume named writable size);
    }

pub returns : goal.returns
returns c = λ volume named writable size h.
    let long = length_after_writes volume c.args.items.now.writes in
    let same = c.loop-done.auto.buffer in
    let fits = c.requires in
    up_to_all c.loop-done.done c.loop-done.buffer (after_writes volume c.args.items.now.writes).bytes volume.bytes c.args.offset
    (omega (arith, long, same, fits, size)) c.loop-done-test.false (c.loop-done.invariant.laid volume named writable size h)
