use Rattle.std.proofs.Common.{◌≡◌, ◌++◌, ◌∷◌, [], ◌<◌, Bool, List, ap, false, length, sym, subst, take, ◌∙◌, Some, arith}
use Rattle.std.proofs.lemmas.Option.{slice_get-get_or}
use Rattle.pool_commit.proofs.Disks.{suc_is, take_next, take_whole}
use Rattle.pool_commit.proofs.last.marks_of.Goals as goal

pub loop-disk-preserved : goal.loop-disk-preserved
loop-disk-preserved g c =
    let out = c.args.store.now.out in
    let below : c.loop-disk.disk < length out = omega (arith, c.loop-disk-test.true, c.disk_count-disk-end.ensures.out) in
    subst (λ n. c.push.new.self.items ≡ take n out) (suc_is c.loop-disk.disk)
    (c.in_ok-push.ensures.items ∙ ap (λ (xs : List Bool). xs ++ c.is_out.result ∷ []) c.loop-disk.invariant
    ∙ sym (take_next out c.loop-disk.disk c.is_out.result (slice_get-get_or out c.loop-disk.disk false below ∙ ap Some (sym c.is_out.ensures))))

pub returns : goal.returns
returns g c =
    c.loop-disk.invariant ∙ take_whole c.args.store.now.out c.loop-disk.disk (omega (arith, c.loop-disk-test.false, c.disk_count-disk-end.ensures.out))
