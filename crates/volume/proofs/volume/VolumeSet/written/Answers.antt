use Rattle.std.proofs.Common.{◌∙◌, [], inl, inr, ⊎_elim}
use Rattle.std.proofs.lemmas.Result.{IfOk-weaker, IfErr-weaker, on_ok_weaker}
use Rattle.block_store.proofs.Steps.{steps_read, steps_on}
use Rattle.block_store.proofs.Telling.{tell_after, tell_before}
use Rattle.dnode_tree.proofs.Losses.{loss_in_plan}
use Rattle.volume_rules.specs.Overlay.{after_writes}
use Rattle.volume.proofs.Demanding.{all_behind}
use Rattle.volume.proofs.Ids.{no_blocks}
use Rattle.volume.proofs.Putting.{lacks_on}
use Rattle.volume.proofs.Refusing.{passed_on}
use Rattle.block_store.proofs.Causes.{caused_behind_reads}
use Rattle.volume.proofs.volume.VolumeSet.written.Goals as goal

pub returns-in_err-blocks-clause-steps : goal.returns-in_err-blocks-clause-steps
returns-in_err-blocks-clause-steps g c = steps_read _ _ _ c.in_err-blocks.ensures.reads

pub returns-in_err-blocks-clause-known : goal.returns-in_err-blocks-clause-known
returns-in_err-blocks-clause-known g c =
    passed_on _ _ _ c.from_residual.ensures.1 (λ stored planned array plans is le tell. loss_in_plan _ (c.in_err-blocks.ensures.known stored array plans.held is tell))

pub returns-clause-steps : goal.returns-clause-steps
returns-clause-steps g c = steps_on _ _ _ _ (steps_read _ _ _ c.in_ok-blocks.ensures.reads) c.placed.ensures.steps

pub returns-clause-idle : goal.returns-clause-idle
returns-clause-idle g c = λ none.
    (c.placed.ensures.idle (no_blocks c.in_ok-blocks.blocks.items (λ id has. none id ((c.in_ok-blocks.ensures.changed id).0 has)))).0 ∙ c.in_ok-blocks.ensures.idle none

pub returns-clause-value : goal.returns-clause-value
returns-clause-value g c =
    let first = steps_read c.args.store.now c.changed_blocks.new.store [] c.in_ok-blocks.ensures.reads in
    IfOk-weaker c.placed.result _ _
    (λ done value stored planned volume plans named writable is le tell.
    let did = value stored planned c.args.birth_before volume.bytes (c.in_ok-blocks.ensures.reads.plans stored planned plans) is le
    (tell_after c.args.store.now c.changed_blocks.new.store c.placed.new.store [] first c.placed.ensures.steps tell) in (
      did.0,
      did.1,
      did.2,
      did.3 (after_writes volume c.args.changes.now.items.now.writes).bytes (c.in_ok-blocks.ensures.value stored volume plans.held named writable is
          (tell_before c.args.store.now c.changed_blocks.new.store c.placed.new.store [] first c.placed.ensures.steps tell)),
    ))
    c.placed.ensures.value

pub returns-clause-no_room : goal.returns-clause-no_room
returns-clause-no_room g c =
    IfErr-weaker c.placed.result _ _
    (λ refusal lacks is. lacks_on c.args.store.now c.changed_blocks.new.store c.placed.new.store (steps_read _ _ _ c.in_ok-blocks.ensures.reads) (lacks is))
    c.placed.ensures.no_room

pub returns-clause-known : goal.returns-clause-known
returns-clause-known g c =
    let first = steps_read c.args.store.now c.changed_blocks.new.store [] c.in_ok-blocks.ensures.reads in
    IfErr-weaker c.placed.result _ _
    (λ refusal known stored planned array plans is le tell.
    known stored planned c.args.birth_before array (c.in_ok-blocks.ensures.reads.plans stored planned plans) is le
    (tell_after c.args.store.now c.changed_blocks.new.store c.placed.new.store [] first c.placed.ensures.steps tell))
    c.placed.ensures.known

pub returns-in_err-blocks-clause-refused : goal.returns-in_err-blocks-clause-refused
returns-in_err-blocks-clause-refused g c =
    passed_on _ _ _ c.from_residual.ensures.1 (⊎_elim (λ memory. inl memory) (λ why. inr (inl why)) c.in_err-blocks.ensures.refused)

pub returns-clause-places : goal.returns-clause-places
returns-clause-places g c =
    on_ok_weaker c.placed.result
    (λ places. (
      c.in_ok-blocks.blocks,
      record { are = c.in_ok-blocks.ensures.blocks; which = c.in_ok-blocks.ensures.changed },
      λ some. all_behind c.args.store.now c.changed_blocks.new.store c.placed.new.store c.args.self.now c.args.birth c.in_ok-blocks.blocks c.in_ok-blocks.ensures.reads (places some),
    ))
    c.placed.ensures.places

pub returns-clause-refused : goal.returns-clause-refused
returns-clause-refused g c =
    IfErr-weaker c.placed.result _ _
    (λ refusal why. inr (inr (record {
      blocks = c.in_ok-blocks.blocks;
      put = record { are = c.in_ok-blocks.ensures.blocks; which = c.in_ok-blocks.ensures.changed };
      mid = c.changed_blocks.new.store;
      before = c.in_ok-blocks.ensures.reads;
      why = why;
    })))
    c.placed.ensures.refused

pub returns-in_err-blocks-clause-caused : goal.returns-in_err-blocks-clause-caused
returns-in_err-blocks-clause-caused g c = passed_on _ _ _ c.from_residual.ensures.1 c.in_err-blocks.ensures.caused

pub returns-clause-caused : goal.returns-clause-caused
returns-clause-caused g c = IfErr-weaker c.placed.result _ _ (λ refusal. caused_behind_reads _ _ _ _ refusal c.in_ok-blocks.ensures.reads) c.placed.ensures.caused
