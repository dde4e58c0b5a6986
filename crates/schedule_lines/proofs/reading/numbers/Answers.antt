use Rattle.schedule_lines.proofs.Numbers.{front_fails, front_more, front_all, fewer_left, passed_on}
use Rattle.schedule_lines.proofs.reading.numbers.Goals as goal

pub returns-in_err-number32 : goal.returns-in_err-number32
returns-in_err-number32 c =
    passed_on _ c.from_residual.result _ _ c.from_residual.ensures.1
    (front_fails c.args.words.now c.loop-numbers.words c.loop-numbers.numbers.items _ c.loop-numbers.invariant (λ done. let tested = c.is_done.ensures.1 done in cc) c.in_err-number32.ensures)

pub loop-numbers-smaller : goal.loop-numbers-smaller
loop-numbers-smaller c = fewer_left c.loop-numbers.words (c.in_ok-number32.field-0, c.number32.new.self) c.in_ok-number32.ensures

pub loop-numbers-preserved : goal.loop-numbers-preserved
loop-numbers-preserved c =
    rw c.in_ok-push.ensures.items (front_more c.args.words.now c.loop-numbers.words c.loop-numbers.numbers.items (c.in_ok-number32.field-0, c.number32.new.self) c.loop-numbers.invariant c.in_ok-number32.ensures)

pub returns : goal.returns
returns c = front_all c.args.words.now c.loop-numbers.words c.loop-numbers.numbers.items c.loop-numbers.invariant (c.is_done.ensures.0 cc)
