use Rattle.std.proofs.Common.{[], inr, subst}
use Rattle.block_store.proofs.Steps.{reads_on}
use Rattle.dataset_destroys.proofs.GivenOver.{emptied, given_over, still_there}
use Rattle.dataset_destroys.proofs.ReadSteps.{list_lost, list_lost_on, tells_first, tells_rest}
use Rattle.dataset_destroys.proofs.Refusing.{passed_on}
use Rattle.dead_list.specs.Blocks.{IsSplit}
use Rattle.block_store.proofs.Causes.{caused_behind_reads}
use Rattle.dataset_destroys.proofs.lists.give_over.Goals as goal

pub returns-in_err-dead-clause-refused : goal.returns-in_err-dead-clause-refused
returns-in_err-dead-clause-refused g c = passed_on _ _ _ c.from_residual.ensures.1 (inr (list_lost _ _ c.args.changes.now c.args.place.now.after.dead_list _ c.in_err-dead.ensures.refused))

pub returns-in_err-dead-clause-known : goal.returns-in_err-dead-clause-known
returns-in_err-dead-clause-known g c =
    passed_on _ _ _ c.from_residual.ensures.1 (λ stored objects dead own told over apart from into has_dead has_own.
    c.in_err-dead.ensures.known stored objects told.own told.blocks told.held told.are told.tell into dead has_dead)

pub returns-in_err-own-clause-reads : goal.returns-in_err-own-clause-reads
returns-in_err-own-clause-reads g c = reads_on _ _ _ _ c.in_ok-dead.ensures.reads c.in_err-own.ensures.reads

pub returns-in_err-own-clause-refused : goal.returns-in_err-own-clause-refused
returns-in_err-own-clause-refused g c =
    passed_on _ _ _ c.from_residual-in_err-own.ensures.1 (inr (list_lost_on _ c.take_list.new.store _ c.args.changes.now c.take_list.new.self _ c.in_ok-dead.ensures.reads c.in_ok-dead.ensures.one_set
    (list_lost _ _ c.take_list.new.self c.args.place.now.gone.dead_list _ c.in_err-own.ensures.refused)))

pub returns-in_err-own-clause-known : goal.returns-in_err-own-clause-known
returns-in_err-own-clause-known g c =
    let first = c.in_ok-dead.ensures.reads in
    let rest = c.in_err-own.ensures.reads in
    let place = c.args.place.now in
    passed_on _ _ _ c.from_residual-in_err-own.ensures.1 (λ stored objects dead own told over apart from into has_dead has_own.
    let later = tells_rest _ _ _ _ c.take_list.new.self _ _ c.in_ok-dead.ensures.one_set first rest told in
    c.in_err-own.ensures.known stored objects later.own later.blocks later.held later.are later.tell from own
    (still_there objects c.args.changes.now c.take_list.new.self place.gone.dead_list place.after.dead_list apart c.in_ok-dead.ensures.taken own has_own))

pub returns-in_err-merged-clause-reads : goal.returns-in_err-merged-clause-reads
returns-in_err-merged-clause-reads g c = reads_on _ _ _ _ c.in_ok-dead.ensures.reads c.in_ok-own.ensures.reads

pub returns-in_err-put_list-clause-reads : goal.returns-in_err-put_list-clause-reads
returns-in_err-put_list-clause-reads g c = reads_on _ _ _ _ c.in_ok-dead.ensures.reads c.in_ok-own.ensures.reads

pub returns-clause-reads : goal.returns-clause-reads
returns-clause-reads g c = reads_on _ _ _ _ c.in_ok-dead.ensures.reads c.in_ok-own.ensures.reads

pub returns-clause-value : goal.returns-clause-value
returns-clause-value g c = λ stored objects dead own told over apart has_dead has_own.
    let place = c.args.place.now in
    let old = c.args.changes.now in
    let first = c.take_list.new.self in
    let second = c.take_list-2.new.self in
    let told_first = tells_first _ _ _ _ _ _ c.in_ok-dead.ensures.reads c.in_ok-own.ensures.reads told in
    let one = c.in_ok-dead.ensures.value stored objects told_first.own told_first.blocks told_first.held told_first.are told_first.tell over in
    let later = tells_rest _ _ _ _ first _ _ c.in_ok-dead.ensures.one_set c.in_ok-dead.ensures.reads c.in_ok-own.ensures.reads told in
    let two = c.in_ok-own.ensures.value stored objects later.own later.blocks later.held later.are later.tell one.0 in
    let has_own_first = still_there objects old first place.gone.dead_list place.after.dead_list apart c.in_ok-dead.ensures.taken own has_own in
    let parts = c.in_ok-merged.ensures.value in
    let empty = emptied objects old first second c.put_list.new.self place.gone.dead_list place.after.dead_list apart c.in_ok-dead.ensures.taken c.in_ok-own.ensures.taken in (
      parts.0,
      parts.2,
      given_over objects old first second c.put_list.new.self place.gone.dead_list place.after.dead_list apart c.in_ok-dead.ensures.taken c.in_ok-own.ensures.taken
          _ dead own c.in_ok-dead.dead c.in_ok-own.own parts.0 parts.1 c.in_ok-merged.merged c.in_ok-put_list.ensures.put
          (c.in_ok-put_list.ensures.over objects [] two.0 empty) (one.2 dead has_dead) (two.2 own has_own_first)
          (subst (λ since. IsSplit since c.in_ok-dead.dead parts.0 parts.1) c.since.ensures parts.3) parts.4,
    )

pub returns-in_err-dead-clause-caused : goal.returns-in_err-dead-clause-caused
returns-in_err-dead-clause-caused g c = passed_on _ _ _ c.from_residual.ensures.1 c.in_err-dead.ensures.caused

pub returns-in_err-own-clause-caused : goal.returns-in_err-own-clause-caused
returns-in_err-own-clause-caused g c = passed_on _ _ _ c.from_residual-in_err-own.ensures.1 (caused_behind_reads _ _ _ _ _ c.in_ok-dead.ensures.reads c.in_err-own.ensures.caused)
