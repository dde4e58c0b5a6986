use Rattle.std.proofs.Common.{Bool, false, Option, None, List, refl, ap, ◌∙◌, arith}
use Rattle.std.specs.Prelude.{slice_index_or}
use Rattle.std.proofs.Math.ListN.{length-set}
use Rattle.disk_set.specs.declared.stale.GroupSpan.{GroupSpan}
use Rattle.disk_set.specs.Set.{PoolDisks}
use Rattle.disk_set.proofs.ComingBack.{filled_up, set_missed}
use Rattle.disk_set.proofs.set.DiskSet.bring_back.Goals as goal
use Rattle.disk_set.proofs.set.DiskSet.bring_back.Goals.{then-len-disk+in_ok-resize, else-len-disk}

pub invariant_of-self-2 : goal.invariant_of-self-2
invariant_of-self-2 g c =
    let marks = length-set {A = Bool} c.self.inside.out.items c.args.disk false ∙ c.self.invariant.marks in
    elim c.if-len-disk.branch [
      | then-len-disk+in_ok-resize w ↦ rw w.self-inside-is (record {
        marks = marks;
        spans = c.self.invariant.spans;
        reached = c.self.invariant.reached;
        due = c.self.invariant.due;
      })
      | else-len-disk w ↦ rw w.self-inside-is (record {
        marks = marks;
        spans = c.self.invariant.spans;
        reached = c.self.invariant.reached;
        due = c.self.invariant.due;
      })
    ]

pub returns-clause-spans : goal.returns-clause-spans
returns-clause-spans g c =
    let old = ap (λ (s : PoolDisks). s.spans.stale) c.self.view_is in
    let since = ap (λ (s : PoolDisks). s.spans.since) c.self.view_is in
    let group = ap (λ (s : PoolDisks). s.spans.group) c.self.view_is in
    elim c.if-len-disk.branch [
      | then-len-disk+in_ok-resize w ↦ rw w.self-inside-is (
          set_missed c.args.self.now.spans w.resize.new.self.items c.args.disk c.args.missed _
          (λ i. ap (λ (them : List (Option GroupSpan)). slice_index_or them i None) w.in_ok-resize.ensures.items
          ∙ filled_up c.self.inside.stale.items _ _ i (omega (arith, w.if-len-disk.true, c.self.inside.stale.ok.0))
          ∙ ap (λ (them : List (Option GroupSpan)). slice_index_or them i None) old)
          (omega (arith, w.in_ok-resize.ensures.len, w.resize.new.self.ok.0))
          since group refl)
      | else-len-disk w ↦ rw w.self-inside-is (
          set_missed c.args.self.now.spans c.self.inside.stale.items c.args.disk c.args.missed _
          (λ i. ap (λ (them : List (Option GroupSpan)). slice_index_or them i None) old)
          (omega (arith, w.if-len-disk.false, c.self.inside.stale.ok.0))
          since group refl)
    ]
