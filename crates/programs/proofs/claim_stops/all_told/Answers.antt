use Rattle.std.proofs.Common.{◌≡◌, length, true, false, sym, ap, ◌∙◌, subst, arith}
use Rattle.programs.specs.ClaimStops.{IsTold}
use Rattle.programs.proofs.DisksTold.{told_step}
use Rattle.programs.proofs.claim_stops.all_told.Goals as goal
use Rattle.programs.proofs.claim_stops.all_told.Goals.{then-not-is_left_out+in_ok-told+in_ok-push, else-not-is_left_out}

pub loop-number-preserved : goal.loop-number-preserved
loop-number-preserved c =
    let disk = c.index-disks-number.result in
    told_step c.args.reached c.args.absent.now c.args.disks.now c.loop-number.number disk c.loop-number.all.items c.if-not-is_left_out.all.items c.is_left_out.result
    (omega (arith, c.loop-number-test.true)) c.index-disks-number.is c.is_left_out.ensures c.loop-number.invariant
    (λ yes. elim c.if-not-is_left_out.branch [
      | then-not-is_left_out+in_ok-told+in_ok-push w ↦ absurd (let no : true ≡ false = sym yes ∙ w.if-not-is_left_out.true in cc)
      | else-not-is_left_out w ↦ ap (λ v. v.items) w.all-is
    ])
    (λ no. elim c.if-not-is_left_out.branch [
      | then-not-is_left_out+in_ok-told+in_ok-push w ↦
          (_, subst (λ n. IsTold c.args.reached n disk w.in_ok-told.field-0) (let same : w.len.result ≡ length c.loop-number.all.items = omega (arith, w.len.ensures) in same) w.in_ok-told.ensures, ap (λ v. v.items) w.all-is ∙ w.in_ok-push.ensures.items)
      | else-not-is_left_out w ↦ absurd (let is : false ≡ true = sym no ∙ w.if-not-is_left_out.false in cc)
    ])
