use Rattle.std.proofs.Common.{◌≡◌, ◌⊎◌, true, length, subst, Contains, ◌∙◌, arith}
use Rattle.std.proofs.lemmas.Grind.{common_steps}
use Rattle.scrub_resilver.specs.Looking.{ReadFailedSince}
use Rattle.scrub_resilver.proofs.Logs.{filled_reads, filled}
use Rattle.scrub_resilver.proofs.looking.look_at.Goals as goal
use Rattle.scrub_resilver.proofs.looking.look_at.Goals.{else-is_known-via-then-is_known+else-is_same, else-is_known-via-else-is_known}

pub returns-then-not-fill-clause-reads : goal.returns-then-not-fill-clause-reads
returns-then-not-fill-clause-reads g c = (filled_reads c.args.disks.now c.fill.new.disks _ _ _ _ _ c.fill.ensures).reads

pub returns-then-not-fill-clause-judged : goal.returns-then-not-fill-clause-judged
returns-then-not-fill-clause-judged g c =
    let size : length c.fill.new.buffer ≡ length c.args.bytes.now = omega (arith, c.fill.auto.buffer, c.as_mut_slice.ensures.len, c.in_ok-buffer.ensures.len) in
    subst (λ n. Contains c.args.missing.now c.args.place.disk
    ⊎ ReadFailedSince (length c.args.disks.now.calls) c.fill.new.disks.calls c.args.place.disk c.args.place.offset n) size
    ((filled_reads c.args.disks.now c.fill.new.disks _ _ _ _ _ c.fill.ensures).unread c.if-not-fill.true)

pub returns-then-is_same-clause-reads : goal.returns-then-is_same-clause-reads
returns-then-is_same-clause-reads g c = (filled_reads c.args.disks.now c.fill.new.disks _ _ _ _ _ c.fill.ensures).reads

pub returns-clause-reads : goal.returns-clause-reads
returns-clause-reads g c = (filled_reads c.args.disks.now c.fill.new.disks _ _ _ _ _ c.fill.ensures).reads

pub returns-clause-judged : goal.returns-clause-judged
returns-clause-judged g c = (
  c.fill.new.buffer,
  (filled_reads c.args.disks.now c.fill.new.disks _ _ _ _ _ c.fill.ensures).gave c.if-not-fill.false,
  omega (arith, c.fill.auto.buffer, c.as_mut_slice.ensures.len, c.in_ok-buffer.ensures.len),
  λ known same. elim c.else-is_known.branch [
    | else-is_known-via-then-is_known+else-is_same w ↦
        let full : length c.fill.new.buffer ≡ c.in_ok-buffer.buffer.len = omega (arith, c.fill.auto.buffer, c.as_mut_slice.ensures.len, c.in_ok-buffer.ensures.len) in
        let yes : w.is_same.result ≡ true =
        w.is_same.ensures.no (w.as_slice.ensures.value ∙ filled c.fill.new.buffer c.in_ok-buffer.buffer.items c.in_ok-buffer.buffer.len full ∙ same) in
        grind (arith, common_steps, yes, w.if-is_same.false)
    | else-is_known-via-else-is_known w ↦ grind (arith, common_steps, known, w.if-is_known.false)
  ],
)
