use Rattle.std.proofs.Common.{◌≡◌, ◌≤◌, ◌<◌, ◌+◌, ◌*◌, ◌^◌, ℕ, min, subst, arith}
use Rattle.std.specs.Io.KnownBytes.{Appends}
use Rattle.commands.specs.Pouring.{IsPouredOut}
use Rattle.std.specs.Int.{div_ceil}
use Rattle.std.proofs.KnownBytes.{Appends-kept}
use Rattle.commands.proofs.Leading.{PouredSoFar, none_poured, poured_more, poured_still}
use Rattle.commands.proofs.pouring.pour_out.Goals as goal

before_end : (size n : ℕ) → n < div_ceil size (2 ^ 20) → n * 2 ^ 20 < size
before_end size n h = omega (arith, h)

at_end : (size n : ℕ) → div_ceil size (2 ^ 20) ≤ n → size ≤ n * 2 ^ 20
at_end size n h = omega (arith, h)

pub loop-number-init : goal.loop-number-init
loop-number-init g c =
    let none : 0 ≡ min c.args.size 0 = omega arith in
    let device = c.args.device.now in
    let out = g.W.Write.contents c.args.output.now in
    subst (λ n. PouredSoFar g.P.PoolSteps device device n out out) none (none_poured g.P.PoolSteps device out (g.met.P.PoolSteps.came_from_itself device.core))

pub loop-number-preserved : goal.loop-number-preserved
loop-number-preserved g c =
    let at = c.loop-number.number * 2 ^ 20 in
    let here : at < c.args.size = before_end c.args.size c.loop-number.number (subst (λ n. c.loop-number.number < n) c.div_ceil-number-end.ensures c.loop-number-test.true) in
    let so_far : min c.args.size at ≡ at = omega (arith, here) in
    let next : at + c.min.result ≡ min c.args.size ((c.loop-number.number + 1) * 2 ^ 20) = omega (arith, here, c.min.ensures) in
    let old = c.args.device.now in
    let before = g.W.Write.contents c.args.output.now in
    let after = g.W.Write.contents c.print.new.output in
    let poured = subst (λ n. PouredSoFar g.P.PoolSteps old c.loop-number.device n before (g.W.Write.contents c.loop-number.output)) so_far c.loop-number.invariant in
    subst (λ n. PouredSoFar g.P.PoolSteps old c.read.new.self n before after) next
    (poured_more g.P.PoolSteps g.met.P.PoolSteps.parts_tell g.met.P.PoolSteps.came_further old c.loop-number.device c.read.new.self at c.min.result before (g.W.Write.contents c.loop-number.output) after c.in-Ok.bytes.items
    poured c.read.ensures.follows c.read.ensures.name c.in-Ok.ensures.read (subst (Appends (g.W.Write.contents c.loop-number.output) after) c.as_slice.ensures.value c.in-Ok-print.ensures))

pub returns-in-Err-clause-follows : goal.returns-in-Err-clause-follows
returns-in-Err-clause-follows g c = g.met.P.PoolSteps.came_further c.args.device.now.core c.loop-number.device.core c.read.new.self.core c.loop-number.invariant.follows c.read.ensures.follows

pub returns-in-Err-clause-stopped : goal.returns-in-Err-clause-stopped
returns-in-Err-clause-stopped g c =
    let n = min c.args.size (c.loop-number.number * 2 ^ 20) in (
      n,
      poured_still g.P.PoolSteps g.met.P.PoolSteps.parts_tell c.args.device.now c.loop-number.device c.read.new.self n (g.W.Write.contents c.args.output.now) (g.W.Write.contents c.loop-number.output)
          c.loop-number.invariant c.read.ensures.follows c.in-Err.ensures.refused,
    )

pub returns-clause-done : goal.returns-clause-done
returns-clause-done g c =
    let ended : c.args.size ≤ c.loop-number.number * 2 ^ 20 = at_end c.args.size c.loop-number.number (subst (λ n. n ≤ c.loop-number.number) c.div_ceil-number-end.ensures c.loop-number-test.false) in
    let all : min c.args.size (c.loop-number.number * 2 ^ 20) ≡ c.args.size = omega (arith, ended) in
    let before = g.W.Write.contents c.args.output.now in
    let after = g.W.Write.contents c.loop-number.output in
    let poured = subst (λ n. IsPouredOut g.P.PoolSteps c.args.device.now c.loop-number.device n before after) all c.loop-number.invariant.poured in
    record {
      bytes = poured.bytes;
      appends = Appends-kept before after (g.W.Write.contents c.flush.new.self) poured.bytes poured.appends c.flush.ensures.bytes;
      reads = poured.reads;
    }
