use Rattle.std.proofs.Common.{◌≡◌, ◌<◌, ◌^◌, ◌+◌, length, take, [], ◌++◌, refl, sym, ap, ◌∙◌, subst, arith}
use Rattle.std.specs.Io.KnownBytes.{Consumes}
use Rattle.commands.proofs.Consuming.{at_end, kept_more, left_more, nothing, SoFar}
use Rattle.commands.specs.Input.{counted}
use Rattle.commands.proofs.input.read_all.Goals as goal
use Rattle.commands.proofs.input.read_all.Goals.{then-len-le-MOST+in_ok-put, else-len-le-MOST}

pub loop-init : goal.loop-init
loop-init g c = record { read = []; consumed = nothing (g.R.Read.remaining c.args.input.now); count = refl; kept = λ few. c.new-front.ensures.items }

pub returns-then-got-eq0-clause-given : goal.returns-then-got-eq0-clause-given
returns-then-got-eq0-clause-given g c =
    at_end (g.R.Read.remaining c.args.input.now) (g.R.Read.remaining c.loop.input) (g.R.Read.remaining c.read_more.new.input) (record { front = c.loop.front; len = c.loop.len }) c.loop.invariant
    (subst (λ n. Consumes (g.R.Read.remaining c.loop.input) (g.R.Read.remaining c.read_more.new.input) (take n c.read_more.new.buffer)) c.if-got-eq0.true c.in-Ok.ensures.1) (c.in-Ok.ensures.2 c.if-got-eq0.true)

pub loop-preserved : goal.loop-preserved
loop-preserved g c =
    let bytes = take c.in-Ok.got c.read_more.new.buffer in
    let old = g.R.Read.remaining c.args.input.now in
    let now = g.R.Read.remaining c.loop.input in
    let new = g.R.Read.remaining c.read_more.new.input in
    let len : counted (c.loop.len + length bytes) ≡ c.saturating_add-len.result = ap (λ n. counted (c.loop.len + n)) (sym c.in-Ok.ensures.0) ∙ sym c.saturating_add-len.ensures in
    elim c.if-len-le-MOST.branch [
      | then-len-le-MOST+in_ok-put w ↦
          let front : c.loop.front.items ++ bytes ≡ c.if-len-le-MOST.front.items = sym w.in_ok-put.ensures ∙ sym (ap (λ v. v.items) w.front-is) in
          subst (λ f. SoFar old new f c.saturating_add-len.result) front
          (subst (SoFar old new (c.loop.front.items ++ bytes)) len (kept_more old now new c.loop.front.items c.loop.len bytes c.loop.invariant c.in-Ok.ensures.1))
      | else-len-le-MOST w ↦
          let front : c.loop.front.items ≡ c.if-len-le-MOST.front.items = sym (ap (λ v. v.items) w.front-is) in
          let many : 2 ^ 20 < counted (c.loop.len + length bytes) = omega (arith, len, w.if-len-le-MOST.false) in
          subst (λ f. SoFar old new f c.saturating_add-len.result) front
          (subst (SoFar old new c.loop.front.items) len (left_more old now new c.loop.front.items c.loop.len bytes c.loop.invariant c.in-Ok.ensures.1 many))
    ]
