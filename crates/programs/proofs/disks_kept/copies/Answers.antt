use Rattle.std.proofs.Common.{◌≡◌, ◌<◌, ◌∷◌, ◌++◌, [], true, false, sym, ap, ◌∙◌, arith}
use Rattle.programs.proofs.DisksBack.{copies_step}
use Rattle.programs.proofs.disks_kept.copies.Goals as goal
use Rattle.programs.proofs.disks_kept.copies.Goals.{then-not-is_left_out+in_ok-copy_of+in_ok-push, else-not-is_left_out}

pub loop-number-preserved : goal.loop-number-preserved
loop-number-preserved c =
    let disk = c.index-disks-number.result in
    copies_step c.args.absent.now c.args.disks.now c.loop-number.number disk c.loop-number.copies.items c.if-not-is_left_out.copies.items c.is_left_out.result
    (omega (arith, c.loop-number-test.true)) c.index-disks-number.is c.is_left_out.ensures c.loop-number.invariant
    (λ yes. elim c.if-not-is_left_out.branch [
      | then-not-is_left_out+in_ok-copy_of+in_ok-push w ↦ absurd (let no : true ≡ false = sym yes ∙ w.if-not-is_left_out.true in cc)
      | else-not-is_left_out w ↦ ap (λ v. v.items) w.copies-is
    ])
    (λ no. elim c.if-not-is_left_out.branch [
      | then-not-is_left_out+in_ok-copy_of+in_ok-push w ↦ (_, w.in_ok-copy_of.ensures, ap (λ v. v.items) w.copies-is ∙ w.in_ok-push.ensures.items)
      | else-not-is_left_out w ↦ absurd (let is : false ≡ true = sym no ∙ w.if-not-is_left_out.false in cc)
    ])
