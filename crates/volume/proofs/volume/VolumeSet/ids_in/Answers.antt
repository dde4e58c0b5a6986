use Rattle.std.proofs.Common.{◌≡◌, ◌+◌, ◌*◌, ◌/◌, ◌<◌, ◌≤◌, length, subst, arith}
use Rattle.std.specs.List.{range_with_len}
use Rattle.std.specs.Prelude.{All}
use Rattle.std.proofs.lemmas.Result.{IfOk-weaker}
use Rattle.volume.proofs.RangeIds.{range_as_long, range_lies, range_all}
use Rattle.volume.proofs.volume.VolumeSet.ids_in.Goals as goal

pub returns-clause-ids : goal.returns-clause-ids
returns-clause-ids c =
    IfOk-weaker c.ids_between.result _ _
    (λ ids are. subst (λ n. ids.items ≡ range_with_len (c.args.offset / n) (length ids.items)) c.block_size-block_size.ensures.value (range_as_long _ _ ids.items are))
    c.ids_between.ensures

pub returns-clause-lie : goal.returns-clause-lie
returns-clause-lie c =
    IfOk-weaker c.ids_between.result _ _
    (λ ids are.
    subst (λ n. All (λ id. (c.args.offset < id * n + n) × (id * n < c.args.offset + c.args.len)) ids.items) c.block_size-block_size.ensures.value
    (range_lies c.args.offset c.args.len c.block_size-block_size.result (omega (arith, c.block_size-block_size.ensures.least)) (omega (arith, c.if-len-eq0.false)) ids.items are))
    c.ids_between.ensures

pub returns-clause-all : goal.returns-clause-all
returns-clause-all c =
    IfOk-weaker c.ids_between.result _ _
    (λ ids are some.
    subst (λ n. c.args.offset + c.args.len ≤ (c.args.offset / n + length ids.items) * n) c.block_size-block_size.ensures.value
    (range_all c.args.offset c.args.len c.block_size-block_size.result (omega (arith, c.block_size-block_size.ensures.least)) some ids.items are))
    c.ids_between.ensures
