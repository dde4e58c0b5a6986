use Rattle.std.proofs.Common.{◌+◌, ◌-◌, length, ap, ◌∙◌, arith}
use Rattle.std.specs.Prelude.{min, slice_range}
use Rattle.volume_rules.proofs.Ranges.{untouched, apart_at, laid}
use Rattle.volume_rules.proofs.overlay.lay_one.Goals as goal

pub returns-then-start-end : goal.returns-then-start-end
returns-then-start-end c = λ bytes size h.
    laid c.args.buffer.now bytes c.args.write.now.bytes c.copy_from_slice.new.self c.args.write.now.offset c.args.offset c.max-start.result c.min-end.result
    (omega arith) (omega arith) c.max-start.ensures (c.min-end.ensures ∙ ap (λ n. min (c.args.write.now.offset + n) (c.args.offset + length c.args.buffer.now)) c.len-len.ensures) c.if-start-end.true
    (c.copy_from_slice.ensures.after ∙ ap (λ xs. slice_range xs (c.max-start.result - c.args.write.now.offset) (c.max-start.result - c.args.write.now.offset + (c.min-end.result - c.max-start.result))) c.as_slice.ensures) h

pub returns-else-start-end : goal.returns-else-start-end
returns-else-start-end c = λ bytes size h.
    untouched c.args.buffer.now bytes c.args.write.now.bytes c.args.write.now.offset c.args.offset (omega arith) (omega arith)
    (λ k lt. apart_at c.args.write.now.offset (length c.args.write.now.bytes) c.args.offset (length c.args.buffer.now) k c.max-start.result c.min-end.result c.max-start.ensures (c.min-end.ensures ∙ ap (λ n. min (c.args.write.now.offset + n) (c.args.offset + length c.args.buffer.now)) c.len-len.ensures) c.if-start-end.false lt) h
