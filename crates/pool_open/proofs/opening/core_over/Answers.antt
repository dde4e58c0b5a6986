use Rattle.std.proofs.Common.{inl, inr, Bool, Option, List, subst}
use Rattle.block_store.specs.Places.{shapes_of}
use Rattle.disk_set.specs.declared.stale.GroupSpan.{GroupSpan}
use Rattle.block_store.specs.Store.{is_out, is_stale}
use Rattle.block_store.specs.declared.shape.VdevShape.{VdevShape}
use Rattle.pool_core.specs.Represents.{Represents}
use Rattle.pool_core.specs.StateOf.{state_of}
use Rattle.pool_model.specs.View.{opened_as}
use Rattle.pool_open.specs.Words.{stamp_of}
use Rattle.pool_core.specs.Slots.{IsStampOf}
use Rattle.vdev_label.specs.Plain.{config_view}
use Rattle.vdev_label.specs.declared.label.Config.{Config}
use Rattle.pool_open.specs.Words.{vdevs_in}
use Rattle.pool_open.proofs.Knowing.{marked_empty, over_disks}
use Rattle.pool_open.proofs.Stages.{lies_of}
use Rattle.pool_open.proofs.opening.core_over.Goals as goal

pub opened-requires-2-clause-labels : goal.opened-requires-2-clause-labels
opened-requires-2-clause-labels g c =
    let over = over_disks c.args.disks c.args.shapes.now c.args.out.now c.args.root.stale.items c.in-Ok.store c.mark_stale.new.self c.in-Ok.ensures.disks c.in-Ok.ensures.shapes
    c.in-Ok.ensures.out c.in-Ok.ensures.since c.mark_stale.ensures.marked in
    lies_of c.labels_of_opened_lie.ensures c.args.disks c.args.shapes.now c.args.out.now c.args.root.stale.items c.mark_stale.new.self over c.requires.may

pub returns-in-Ok-opened-clause-represents : goal.returns-in-Ok-opened-clause-represents
returns-in-Ok-opened-clause-represents g c stored pool hold are spells made configured named =
    let over = over_disks c.args.disks c.args.shapes.now c.args.out.now c.args.root.stale.items c.in-Ok.store c.mark_stale.new.self c.in-Ok.ensures.disks c.in-Ok.ensures.shapes
    c.in-Ok.ensures.out c.in-Ok.ensures.since c.mark_stale.ensures.marked in
    let S : List VdevShape → List Bool → List (Option GroupSpan) → Type 0 = λ s o m.
    Represents (state_of c.in-Ok-opened.core) (opened_as (vdevs_in s) (is_out o) (is_stale m) c.args.claimed.now.group pool) in
    let store = c.mark_stale.new.self in
    subst (λ (s : List VdevShape). S s c.args.out.now c.args.root.stale.items) over.shapes_are
    (subst (λ (o : List Bool). S (shapes_of store.spaces) o c.args.root.stale.items) over.out_is
    (subst (λ (m : List (Option GroupSpan)). S (shapes_of store.spaces) store.out m) over.stale_is
    (c.in-Ok-opened.ensures.represents stored pool (hold store over) (are store.spaces over.shapes_are)
    (spells.0, spells.1 store.spaces over.shapes_are) made
    configured
    (subst (λ (kept : Config). IsStampOf (config_view kept) c.args.claimed.now.claim (stamp_of c.args.claimed.now)) c.in-Ok-opened.ensures.config named))))

pub returns-in-Err-opened-clause-refused : goal.returns-in-Err-opened-clause-refused
returns-in-Err-opened-clause-refused g c =
    let over = over_disks c.args.disks c.args.shapes.now c.args.out.now c.args.root.stale.items c.in-Ok.store c.mark_stale.new.self c.in-Ok.ensures.disks c.in-Ok.ensures.shapes
    c.in-Ok.ensures.out c.in-Ok.ensures.since c.mark_stale.ensures.marked in
    elim c.in-Err-opened.ensures.refused [
      | inl memory ↦ inl (c.of_core.ensures.memory memory)
      | inr it ↦ inr (c.of_core.ensures.pointer it.0, record { store = c.mark_stale.new.self; over = over; empty = marked_empty c.in-Ok.store c.mark_stale.new.self c.args.root.stale.items c.mark_stale.ensures.marked c.in-Ok.ensures.empty; misplaced = it.1 })
    ]

pub opened-requires-2-clause-plans : goal.opened-requires-2-clause-plans
opened-requires-2-clause-plans g c = c.mark_stale.ensures.plans c.in-Ok.ensures.plans
