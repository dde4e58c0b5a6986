use Rattle.std.proofs.Common.{◌≡◌, ◌+◌, ◌<◌, ◌≤◌, [], ◌∷◌, ◌++◌, length, refl, sym, ap, ◌∙◌, length-append, arith}
use Rattle.model_disk.specs.Member.{disk_of}
use Rattle.programs.specs.DisksKept.{put_one as one}
use Rattle.programs.proofs.DisksBack.{past_more, put_none, put_length, put_more}
use Rattle.programs.proofs.disks_kept.put_back.Goals as goal

pub loop-member-init : goal.loop-member-init
loop-member-init c = (sym (put_none c.args.disks.now.items), refl, omega arith)

pub loop-member-preserved-then-number-len : goal.loop-member-preserved-then-number-len
loop-member-preserved-then-number-len c =
    let disks = c.args.disks.now.items in
    let so_far = c.loop-member.invariant in
    let counted = length-append c.loop-member.yielded (c.in-Some.member ∷ []) in
    let number : c.loop-member.number ≡ length c.loop-member.yielded = omega (arith, so_far.1, so_far.2, c.if-number-len.true, c.len.ensures) in
    let put = c.put_one.ensures ∙ (ap (λ n. one (disk_of c.in-Some.member) n c.loop-member.disks.items) number
    ∙ (ap (λ l. one (disk_of c.in-Some.member) (length c.loop-member.yielded) l) so_far.0 ∙ sym (put_more disks c.loop-member.yielded c.in-Some.member))) in (
      put,
      ap length put ∙ put_length disks (c.loop-member.yielded ++ c.in-Some.member ∷ []),
      omega (arith, counted, so_far.1, so_far.2, number, c.if-number-len.true, c.len.ensures),
    )

pub loop-member-preserved-else-number-len : goal.loop-member-preserved-else-number-len
loop-member-preserved-else-number-len c =
    past_more c.args.disks.now.items c.loop-member.disks.items c.loop-member.yielded c.loop-member.number c.in-Some.member c.loop-member.invariant (omega (arith, c.if-number-len.false, c.len.ensures))

pub loop-member-preserved : goal.loop-member-preserved
loop-member-preserved c =
    past_more c.args.disks.now.items c.loop-member.disks.items c.loop-member.yielded c.loop-member.number c.in-Some.member c.loop-member.invariant (omega (arith, c.if-number-len.false, c.len.ensures))
