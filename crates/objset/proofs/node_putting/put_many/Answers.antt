use Rattle.std.proofs.Common.{List, refl, ap, subst}
use Rattle.dnode.specs.declared.object_set.ObjectSet.{ObjectSet}
use Rattle.dnode_tree.specs.declared.writes.BlockWrite.{BlockWrite}
use Rattle.block_store.specs.Steps.{OnlyReadsAndPlans}
use Rattle.dnode_tree.specs.Rewriting.{IsGrown, IsRewritten}
use Rattle.dnode_tree.specs.Births.{HasBirths, births_after, height_of}
use Rattle.dnode_tree.specs.Writes.{written}
use Rattle.dnode_tree.proofs.Losses.{loss_in_plan}
use Rattle.dnode_tree.proofs.Refusing.{passed_on}
use Rattle.block_store.proofs.Steps.{steps_read, steps_on}
use Rattle.dnode_tree.proofs.Steps.{no_room_on, told_sooner, told_later}
use Rattle.dnode_tree.proofs.WholeTree.{tree_later}
use Rattle.objset.specs.declared.node_writes.SetRewrite.{SetRewrite}
use Rattle.objset.proofs.PutNodes.{set_fits, highest_least, nodes_rewritten}
use Rattle.block_store.specs.Store.{Store}
use Rattle.block_store.specs.Demands.{HavePlaces}
use Rattle.dnode_tree.specs.Spots.{demands_of}
use Rattle.objset.proofs.Refusing.{blocks_of, places_had, reading_refused, writing_refused}
use Rattle.block_store.proofs.Causes.{caused_behind_reads}
use Rattle.objset.proofs.node_putting.put_many.Goals as goal

pub returns-in_err-changed-clause-known : goal.returns-in_err-changed-clause-known
returns-in_err-changed-clause-known g c =
    passed_on _ _ _ c.from_residual.ensures.1
    (λ stored planned bound nodes blocks plans has le tell.
    loss_in_plan _ (c.in_err-changed.ensures.known stored has.array blocks plans.held (tree_later stored bound c.args.birth c.args.set.now.dnodes has.array blocks le has.tree) tell))

pub returns-in_err-done-clause-steps : goal.returns-in_err-done-clause-steps
returns-in_err-done-clause-steps g c = steps_on _ _ _ _ (steps_read _ _ _ c.in_ok-changed.ensures.reads) c.in_err-done.ensures.steps

pub returns-in_err-done-clause-no_room : goal.returns-in_err-done-clause-no_room
returns-in_err-done-clause-no_room g c =
    let first : OnlyReadsAndPlans c.args.store.now c.block_writes.new.store c.args.missing.now = steps_read _ _ _ c.in_ok-changed.ensures.reads in
    passed_on _ _ _ c.from_residual-in_err-done.ensures.1 (λ none. no_room_on _ _ _ _ c.args.set.now.dnodes c.args.copies first (c.in_err-done.ensures.no_room none))

pub returns-in_err-done-clause-known : goal.returns-in_err-done-clause-known
returns-in_err-done-clause-known g c =
    let first : OnlyReadsAndPlans c.args.store.now c.block_writes.new.store c.args.missing.now = steps_read _ _ _ c.in_ok-changed.ensures.reads in
    passed_on _ _ _ c.from_residual-in_err-done.ensures.1
    (λ stored planned bound nodes blocks plans has le tell.
    c.in_err-done.ensures.known stored planned bound has.array blocks (c.in_ok-changed.ensures.reads.plans stored planned plans) has.tree le
    (told_later _ _ _ _ first c.in_err-done.ensures.steps tell))

pub returns-clause-steps : goal.returns-clause-steps
returns-clause-steps g c = steps_on _ _ _ _ (steps_read _ _ _ c.in_ok-changed.ensures.reads) c.in_ok-done.ensures.steps

pub returns-clause-set : goal.returns-clause-set
returns-clause-set g c =
    let new : ObjectSet = record { dnodes = c.in_ok-done.done.node; kind = c.args.set.now.kind; objects = c.objects_after.result } in
    set_fits c.args.set.now new c.args.writes.now c.in_ok-changed.changed.items c.requires.set c.in_ok-done.ensures.node
    (subst (λ (changed : List BlockWrite). IsGrown c.args.set.now.dnodes c.in_ok-done.done.node changed) c.deref.ensures.value c.in_ok-done.ensures.grown)
    c.in_ok-changed.ensures.reached c.objects_after.ensures.from c.objects_after.ensures.least

pub returns-clause-grown : goal.returns-clause-grown
returns-clause-grown g c =
    let grown : IsGrown c.args.set.now.dnodes c.in_ok-done.done.node c.in_ok-changed.changed.items =
    subst (λ (changed : List BlockWrite). IsGrown c.args.set.now.dnodes c.in_ok-done.done.node changed) c.deref.ensures.value c.in_ok-done.ensures.grown in
    record {
      kind = refl;
      from = c.objects_after.ensures.from;
      room = c.objects_after.ensures.room;
      least = c.objects_after.ensures.least;
      highest_from = grown.from;
      highest_least = highest_least c.args.set.now.dnodes c.in_ok-done.done.node c.args.writes.now c.in_ok-changed.changed.items grown c.in_ok-changed.ensures.only;
    }

pub returns-clause-rewritten : goal.returns-clause-rewritten
returns-clause-rewritten g c = λ stored planned bound nodes blocks plans has le tell.
    let first : OnlyReadsAndPlans c.args.store.now c.block_writes.new.store c.args.missing.now = steps_read _ _ _ c.in_ok-changed.ensures.reads in
    let before = told_sooner _ _ _ _ first c.in_ok-done.ensures.steps tell in
    let after = told_later _ _ _ _ first c.in_ok-done.ensures.steps tell in
    let rewritten = c.in_ok-done.ensures.ways stored planned bound has.array blocks has.births (c.in_ok-changed.ensures.reads.plans stored planned plans) has.tree has.born le after in
    let done : SetRewrite = record {
      set = record { dnodes = c.in_ok-done.done.node; kind = c.args.set.now.kind; objects = c.objects_after.result };
      replaced = c.in_ok-done.done.replaced;
    } in (
      rewritten.0,
      rewritten.1,
      nodes_rewritten c.args.set.now stored planned rewritten.0 bound c.args.birth nodes blocks c.args.writes.now c.in_ok-changed.changed.items c.in_ok-done.done done
          c.requires.writes has refl refl c.objects_after.ensures.from c.objects_after.ensures.room
          (subst (λ (changed : List BlockWrite). IsRewritten c.args.copies planned rewritten.0 c.args.birth c.in_ok-done.done (written changed has.array) blocks) c.deref.ensures.value rewritten.2)
          (subst (λ (changed : List BlockWrite). HasBirths rewritten.0 c.in_ok-done.done.node (births_after (height_of c.args.set.now.dnodes) changed c.args.birth has.births)) c.deref.ensures.value rewritten.3)
          c.in_ok-changed.ensures.only c.in_ok-changed.ensures.reached
          (c.in_ok-changed.ensures.value stored has.array nodes blocks plans.held
          (tree_later stored bound c.args.birth c.args.set.now.dnodes has.array blocks le has.tree) has.each before),
    )

pub returns-in_err-changed-clause-steps : goal.returns-in_err-changed-clause-steps
returns-in_err-changed-clause-steps g c = steps_read _ _ _ c.in_err-changed.ensures.reads

-- ---- places and refusals

pub returns-clause-places : goal.returns-clause-places
returns-clause-places g c =
    places_had c.args.set.now c.args.copies c.args.writes.now c.in_ok-changed.changed.items c.args.store.now.spaces c.block_writes.new.store.spaces c.put_many.new.store.spaces
    (blocks_of c.args.writes.now c.in_ok-changed.changed.items c.in_ok-changed.ensures.order c.in_ok-changed.ensures.only c.in_ok-changed.ensures.reached)
    (ap (λ (s : Store). s.spaces) c.in_ok-changed.ensures.reads.rest)
    (subst (λ (changed : List BlockWrite). HavePlaces c.block_writes.new.store.spaces (demands_of c.args.set.now.dnodes c.args.copies changed) c.put_many.new.store.spaces)
    c.deref.ensures.value c.in_ok-done.ensures.places)

pub returns-in_err-changed-clause-refused : goal.returns-in_err-changed-clause-refused
returns-in_err-changed-clause-refused g c =
    passed_on _ _ _ c.from_residual.ensures.1
    (reading_refused c.args.store.now c.block_writes.new.store c.args.missing.now c.args.set.now c.args.copies c.args.birth c.args.writes.now _ c.in_err-changed.ensures.refused)

pub returns-in_err-done-clause-refused : goal.returns-in_err-done-clause-refused
returns-in_err-done-clause-refused g c =
    passed_on _ _ _ c.from_residual-in_err-done.ensures.1
    (writing_refused c.args.store.now c.block_writes.new.store c.put_many.new.store c.args.missing.now c.args.set.now c.args.copies c.args.birth c.args.writes.now _ c.in_ok-changed.changed.items _
    c.deref.ensures.value c.in_ok-changed.ensures.reads c.in_ok-changed.ensures.order c.in_ok-changed.ensures.only c.in_ok-changed.ensures.reached c.in_err-done.ensures.refused)

pub returns-in_err-done-clause-caused : goal.returns-in_err-done-clause-caused
returns-in_err-done-clause-caused g c =
    passed_on _ _ _ c.from_residual-in_err-done.ensures.1 (caused_behind_reads _ _ _ _ _ c.in_ok-changed.ensures.reads c.in_err-done.ensures.caused)
