use Rattle.std.proofs.Common.{◌<◌, arith}
use Rattle.txg_pipeline.proofs.Positions.{piece_within, byte_within}
use Rattle.txg_pipeline.proofs.places.pieces_of.Goals as goal

pub returns : goal.returns
returns c = λ piece.
    let len = c.len-len.result in
    let is = c.len-len.ensures in
    let some : 0 < c.len-len.result = omega arith in (
      λ h. piece_within c.args.write.now.offset c.len-len.result piece h.0 some h.1 (let b = h.2 in omega (arith, is)) h.3,
      λ h.
          let b = byte_within c.args.write.now.offset c.len-len.result piece some h.0 h.1 in
          (b.0, b.1, (let n = b.2 in omega (arith, is)), b.3),
    )
