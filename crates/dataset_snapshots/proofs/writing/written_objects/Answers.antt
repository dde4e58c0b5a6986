use Rattle.std.proofs.Common.{◌≡◌, ◌+◌, Bool, IsTrue, ◌↔◌, ℕ, List, Vec, take, Contains, refl, sym, ap, ◌∙◌, subst}
use Rattle.std.specs.Prelude.{nat_eq, IsPermutation}
use Rattle.std.specs.List.{dedup}
use Rattle.std.specs.List.Sorted.{IsStrictlyIncreasing}
use Rattle.std.proofs.lemmas.List.{with_items_is, take_all}
use Rattle.std.proofs.lemmas.List.Filters.{dedup_is}
use Rattle.std.proofs.lemmas.Map.Keys.{IsStrictlyIncreasing-dedup}
use Rattle.std.specs.declared.alloc.Global.{Global}
use Rattle.dataset_snapshots.specs.Finding.{IsNumberIn}
use Rattle.pool_model.specs.declared.item.Write.{Write}
use Rattle.dataset_snapshots.specs.Writing.{IsWrittenBut}
use Rattle.dataset_snapshots.proofs.WrittenObjects.{one_more, no_more, passed, skipped, sorted_once}
use Rattle.dataset_snapshots.proofs.writing.written_objects.Goals as goal
use Rattle.dataset_snapshots.proofs.writing.written_objects.Goals.{in-Some+in_ok-push, in_default, then-is_of_snapshot-via-then-is_of_snapshot, then-is_of_snapshot-via-else-is_of_snapshot+then-is_among}

pub loop-write-preserved-then-is_of_snapshot : goal.loop-write-preserved-then-is_of_snapshot
loop-write-preserved-then-is_of_snapshot c =
    let rows = c.args.directory.now in
    let so_far : List ℕ = c.loop-write.objects.items in
    elim c.then-is_of_snapshot.branch [
      | then-is_of_snapshot-via-then-is_of_snapshot w ↦
          skipped rows c.args.destroyed.now c.args.writes.now c.loop-write.write-index c.write-item.result c.loop-write-test.true c.write-item.is so_far so_far
          (sym c.is_of_snapshot.ensures ∙ w.if-is_of_snapshot.true) refl c.loop-write.invariant
      | then-is_of_snapshot-via-else-is_of_snapshot+then-is_among w ↦
          passed rows c.args.destroyed.now c.args.writes.now c.loop-write.write-index c.write-item.result c.loop-write-test.true c.write-item.is so_far so_far
          (w.is_among.ensures.0 w.if-is_among.true) refl c.loop-write.invariant
    ]

pub loop-write-preserved : goal.loop-write-preserved
loop-write-preserved c =
    let rows = c.args.directory.now in
    let destroyed = c.args.destroyed.now in
    let P : Vec ℕ Global → Type 0 = λ objects. (object : ℕ) → Contains objects.items object ↔ IsWrittenBut rows destroyed (take (c.loop-write.write-index + 1) c.args.writes.now) object in
    elim c.match-number_in.branch [
      | in-Some+in_ok-push w ↦ subst P (sym w.objects-is)
          (one_more rows destroyed c.args.writes.now c.loop-write.write-index c.write-item.result c.loop-write-test.true c.write-item.is c.loop-write.objects.items w.push.new.self.items w.in-Some.object
          c.rows-rows.ensures.is.order (sym c.is_of_snapshot.ensures ∙ c.if-is_of_snapshot.false)
          (λ gone. let wrong = subst (λ (b : Bool). IsTrue b) c.if-is_among.false (c.is_among.ensures.1 gone) in cc) (subst (IsNumberIn rows c.write-item.result.volume) w.in-Some.is c.number_in.ensures)
          w.in_ok-push.ensures.items c.loop-write.invariant)
      | in_default w ↦ subst P (sym w.objects-is)
          (no_more rows destroyed c.args.writes.now c.loop-write.write-index c.write-item.result c.loop-write-test.true c.write-item.is c.loop-write.objects.items c.loop-write.objects.items
          (subst (IsNumberIn rows c.write-item.result.volume) w.in_default.is c.number_in.ensures) refl c.loop-write.invariant)
    ]

pub returns-clause-objects : goal.returns-clause-objects
returns-clause-objects c =
    let is : c.dedup.new.self.items ≡ dedup nat_eq c.sort_unstable.new.self =
    dedup_is nat_eq _ _ c.dedup.ensures.filtered ∙ ap (dedup nat_eq) (with_items_is c.loop-write.objects c.sort_unstable.new.self (c.sort_unstable.ensures.len ∙ c.as_mut_slice.ensures.len)) in
    sorted_once c.loop-write.objects.items c.sort_unstable.new.self c.dedup.new.self.items (λ object. IsWrittenBut c.args.directory.now c.args.destroyed.now c.args.writes.now object)
    (subst (λ (xs : List ℕ). IsPermutation xs c.sort_unstable.new.self) c.as_mut_slice.ensures.value c.sort_unstable.ensures.permutation) is
    (subst (λ (writes : List Write). (object : ℕ) → Contains c.loop-write.objects.items object ↔ IsWrittenBut c.args.directory.now c.args.destroyed.now writes object)
    (take_all c.loop-write.write-index c.args.writes.now c.loop-write-test.false) c.loop-write.invariant)

pub returns-clause-once : goal.returns-clause-once
returns-clause-once c =
    let is : c.dedup.new.self.items ≡ dedup nat_eq c.sort_unstable.new.self =
    dedup_is nat_eq _ _ c.dedup.ensures.filtered ∙ ap (dedup nat_eq) (with_items_is c.loop-write.objects c.sort_unstable.new.self (c.sort_unstable.ensures.len ∙ c.as_mut_slice.ensures.len)) in
    subst IsStrictlyIncreasing (sym is) (IsStrictlyIncreasing-dedup c.sort_unstable.new.self c.sort_unstable.ensures.sorted)
