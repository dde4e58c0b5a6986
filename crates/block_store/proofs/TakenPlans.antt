-- Plans go on as blocks are taken in.
use Rattle.std.proofs.Common.{◌≡◌, ◌<◌, inl, inr, List, [], Option, Some, None, refl, sym, ap, subst, ◌∙◌, arith}
use Rattle.std.specs.Prelude.{Contains}
use Rattle.model_disk.specs.Joint.{Disks, content}
use Rattle.raidz_io.specs.Stands.{IsDone}
use Rattle.block_store.specs.Blocks.{Contents}
use Rattle.block_pointer.specs.declared.block.Block.{Block}
use Rattle.block_store.specs.Opened.{AreFound, TakeIn, TakeInPart}
use Rattle.block_store.specs.Places.{shapes_of, IsFree, IsTaken}
use Rattle.block_store.specs.Places.{filled as filled_marks, planned as planned_marks}
use Rattle.block_store.specs.Plans.{Plans, KeepsPlans}
use Rattle.block_store.specs.Releases.{CopyAt, copies_of_all}
use Rattle.block_store.specs.Store.{Store, Spans, Stores, outs, outs_from}
use Rattle.block_store.specs.Uses.{IsInUse}
use Rattle.block_store.proofs.Accounting.{has_too}
use Rattle.block_store.proofs.Beside.{taken_in_beside}
use Rattle.block_store.proofs.Planning.{stored_by}
use Rattle.block_store.proofs.Taking.{copy_too, placed_too, taken_some}
use Rattle.block_store.proofs.TakenIn.{picks_filled, picks_planned}
use Rattle.block_store.proofs.TakenBlocks.{AreOf, placed_in, taken_holds, taken_grows, taken_shapes, taken_lies, taken_spares, taken_keeps, taken_stores, filled_copies, only_copies, others_stay}

-- copies are taken in, and nothing else changes
pub record OnlyTakesIn (old new : Store) (copies : List CopyAt) : Type 0 where
  pub disks : new.disks ≡ old.disks
  pub out : new.out ≡ old.out
  pub spans : new.spans ≡ old.spans
  pub due : new.due ≡ old.due
  pub stray : new.stray ≡ old.stray
  pub taken : TakeIn old.spaces copies new.spaces

taken_plans : (old new : Store) (copies : List CopyAt) (stored planned : Contents) → OnlyTakesIn old new copies → Plans old stored planned → Plans new stored planned
taken_plans old new copies stored planned is plans =
    let shapes : shapes_of new.spaces ≡ shapes_of old.spaces = taken_shapes old.spaces copies new.spaces is.taken in
    record {
      held = taken_keeps old new copies is.disks is.out is.spans is.taken stored plans.held;
      stored_placed = (taken_stores old new copies is.disks is.out is.spans is.taken stored (stored_by old stored planned plans)).placed;
      kept = plans.kept;
      placed = placed_too old.spaces new.spaces planned_marks planned_marks planned (taken_grows planned_marks picks_planned old.spaces copies new.spaces is.taken) plans.placed;
      born = λ block bytes known fresh. omega (arith, plans.born block bytes known fresh, ap (λ (s : Spans). s.group) is.spans);
      in_use = λ block bytes known fresh.
          taken_lies IsInUse planned_marks picks_planned old.spaces copies new.spaces is.taken refl block (plans.in_use block bytes known fresh);
      accounted = λ none at used. elim (only_copies planned_marks picks_planned old.spaces copies new.spaces is.taken at used) [
        | inl was ↦ elim (plans.accounted (sym is.stray ∙ none) at was) [
          | inl there ↦ inl (others_stay filled_marks picks_filled old.spaces copies new.spaces is.taken at there)
          | inr of ↦ inr (record {
            block = of.block;
            bytes = of.bytes;
            is_planned = of.is_planned;
            is_new = of.is_new;
            has = has_too old.spaces new.spaces of.block at shapes of.has;
          })
        ]
        | inr of ↦ inl (filled_copies filled_marks picks_filled old.spaces copies new.spaces is.taken at of).1
      ];
      fresh = λ block bytes known fresh i place at.
          let there : IsTaken old.spaces planned_marks block.property.sectors place = plans.placed.places block bytes i place known at in
          let some : 0 < place.allocated =
          taken_some old.spaces planned_marks block.property.sectors place (plans.placed.blocks block bytes known).fits.property.not_empty there in
          taken_spares IsFree old.spaces copies new.spaces is.taken block.property.sectors place some there (plans.fresh block bytes known fresh i place at);
      beside = taken_in_beside old.spaces copies new.spaces is.taken plans.beside;
      writes_of = plans.writes_of;
      on_the_way = λ block bytes i extent known fresh copy.
          let way = plans.on_the_way block bytes i extent known fresh (copy_too new.spaces old.spaces block i extent (sym shapes) copy) in
          record {
            would_store = way.would_store;
            columns = way.columns;
            each = λ write among present.
                let not_out : ¬ Contains (outs old) write.disk = subst (λ o. ¬ Contains (outs_from 0 o) write.disk) is.out present in
                elim (way.each write among not_out) [
                  | inl done ↦ inl (subst (λ (d : Disks). IsDone (content d) write) (sym is.disks) done)
                  | inr due ↦ inr (subst (λ xs. Contains xs write) (sym is.due) due)
                ];
          };
      due = λ write held.
          let was = plans.due write (subst (λ xs. Contains xs write) is.due held) in
          record {
            block = was.block;
            bytes = was.bytes;
            i = was.i;
            extent = was.extent;
            is_planned = was.is_planned;
            is_new = was.is_new;
            is_copy = copy_too old.spaces new.spaces was.block was.i was.extent shapes was.is_copy;
            is_of_copy = was.is_of_copy;
          };
    }

pub part_plans : (old new : Store) (copies : List CopyAt) → new.disks ≡ old.disks → new.out ≡ old.out → new.spans ≡ old.spans → new.due ≡ old.due
    → new.stray ≡ old.stray → TakeInPart old.spaces copies new.spaces → KeepsPlans old new
part_plans old new copies disks out spans due stray part stored planned =
    taken_plans old new part.done stored planned (record { disks = disks; out = out; spans = spans; due = due; stray = stray; taken = part.taken })

-- ---- what is planned where nothing was beside what was stored

not_both : {X : Type 0} (o : Option X) (x : X) → o ≡ Some x → ¬ (o ≡ None)
not_both o x some none = cc

pub opened_plans : (old new : Store) (blocks : List Block) → OnlyTakesIn old new (copies_of_all blocks) → (before stored : Contents)
    → Plans old before before → AreFound old blocks before stored → Plans new stored stored
opened_plans old new blocks is before stored plans found =
    let stores : Stores new stored =
    taken_holds old new blocks is.disks is.out is.spans is.taken before stored (stored_by old before before plans) found in
    let of : AreOf blocks before stored = λ block bytes known. elim (found block bytes known) [
      | inl was ↦ inl was
      | inr (held, on) ↦ inr (held, on.written)
    ] in
    record {
      held = stores.held;
      stored_placed = stores.placed;
      kept = λ block bytes known. known;
      placed = placed_in planned_marks picks_planned old.spaces blocks new.spaces before stored is.taken plans.placed of;
      born = λ block bytes known fresh. absurd (not_both (stored block) bytes known fresh);
      in_use = λ block bytes known fresh. absurd (not_both (stored block) bytes known fresh);
      accounted = λ none at used. elim (only_copies planned_marks picks_planned old.spaces (copies_of_all blocks) new.spaces is.taken at used) [
        | inl was ↦ elim (plans.accounted (sym is.stray ∙ none) at was) [
          | inl there ↦ inl (others_stay filled_marks picks_filled old.spaces (copies_of_all blocks) new.spaces is.taken at there)
          | inr new_one ↦ absurd (not_both (before new_one.block) new_one.bytes new_one.is_planned new_one.is_new)
        ]
        | inr on ↦ inl (filled_copies filled_marks picks_filled old.spaces (copies_of_all blocks) new.spaces is.taken at on).1
      ];
      fresh = λ block bytes known fresh. absurd (not_both (stored block) bytes known fresh);
      beside = taken_in_beside old.spaces (copies_of_all blocks) new.spaces is.taken plans.beside;
      writes_of = λ block i. [];
      on_the_way = λ block bytes i extent known fresh copy. absurd (not_both (stored block) bytes known fresh);
      due = λ write held.
          let was = plans.due write (subst (λ xs. Contains xs write) is.due held) in
          absurd (not_both (before was.block) was.bytes was.is_planned was.is_new);
    }
