use Rattle.std.proofs.Common.{◌≢◌, inl, inr, refl, subst, arith}
use Rattle.block_store.proofs.Steps.{reads_on}
use Rattle.dataset_destroys.proofs.Destroyed.{after_as, destroyed, gone_as, lists_apart, place_apart, placed_same, records_on}
use Rattle.dataset_destroys.proofs.ReadSteps.{list_lost_on, same_lists, tells_first, tells_rest}
use Rattle.dataset_destroys.proofs.Refusing.{passed_on}
use Rattle.dataset_destroys.proofs.Touching.{AreBesideTouched, snapshot_own_lists, snapshot_touched}
use Rattle.dataset_destroys.specs.Steps.{TellsObjects}
use Rattle.block_store.proofs.Causes.{caused_behind_reads}
use Rattle.object_table.proofs.Causes.{judged_is_caused}
use Rattle.dataset_destroys.proofs.snapshots.destroy_snapshot.Goals as goal

pub returns-in_err-place-clause-known : goal.returns-in_err-place-clause-known
returns-in_err-place-clause-known g c =
    passed_on _ _ _ c.from_residual.ensures.1 (λ stored known group objects own blocks pool readings held are tell spells may.
    c.in_err-place.ensures.known stored known group objects pool readings (record { own = own; blocks = blocks; held = held; are = are; tell = tell }) spells may)

pub returns-in_err-give_over-clause-reads : goal.returns-in_err-give_over-clause-reads
returns-in_err-give_over-clause-reads g c = reads_on _ _ _ _ c.in_ok-place.ensures.reads c.in_err-give_over.ensures.reads

pub returns-in_err-give_over-clause-refused : goal.returns-in_err-give_over-clause-refused
returns-in_err-give_over-clause-refused g c =
    passed_on _ _ _ c.from_residual-in_err-give_over.ensures.1 (elim c.in_err-give_over.ensures.refused [
      | inl memory ↦ inr (inr (inl memory))
      | inr lost ↦ inr (inr (inr (inr (inl (list_lost_on _ _ _ c.args.changes.now c.find.new.changes _ c.in_ok-place.ensures.reads c.in_ok-place.ensures.one_set lost)))))
    ])

pub returns-in_err-give_over-clause-known : goal.returns-in_err-give_over-clause-known
returns-in_err-give_over-clause-known g c =
    let first = c.in_ok-place.ensures.reads in
    let rest = c.in_err-give_over.ensures.reads in
    passed_on _ _ _ c.from_residual-in_err-give_over.ensures.1 (λ stored known group objects own blocks pool readings held are tell spells may.
    let told : TellsObjects c.args.store.now c.give_over.new.store c.args.changes.now stored objects = record { own = own; blocks = blocks; held = held; are = are; tell = tell } in
    let it = c.in_ok-place.ensures.value stored objects (tells_first _ _ _ c.args.changes.now stored objects first rest told) spells.over in
    let gone = gone_as known group objects c.args.changes.now pool readings spells c.args.snapshot may c.in_ok-place.place c.in_ok-place.ensures.number it.1 in
    let after = after_as known group objects c.args.changes.now pool readings spells c.args.snapshot may c.in_ok-place.place c.in_ok-place.ensures.number it.1 in
    c.in_err-give_over.ensures.known stored objects (pool.datasets (pool.next c.args.snapshot)).dead (pool.datasets c.args.snapshot).dead
    (tells_rest _ _ _ c.args.changes.now c.find.new.changes stored objects c.in_ok-place.ensures.one_set first rest told) it.0.over
    (lists_apart known group objects c.args.changes.now pool readings spells c.args.snapshot may c.in_ok-place.place c.in_ok-place.ensures.number it.1)
    gone.list_behind after.list_behind (it.0.lists _ _ after.dead) (it.0.lists _ _ gone.dead))

pub returns-in_err-link_past-clause-reads : goal.returns-in_err-link_past-clause-reads
returns-in_err-link_past-clause-reads g c = reads_on _ _ _ _ c.in_ok-place.ensures.reads c.in_ok-give_over.ensures.reads

pub returns-in_err-link_past-clause-refused : goal.returns-in_err-link_past-clause-refused
returns-in_err-link_past-clause-refused g c = passed_on _ _ _ c.from_residual-in_err-link_past.ensures.1 (inr (inr (inl refl)))

pub returns-in_err-link_past-clause-known : goal.returns-in_err-link_past-clause-known
returns-in_err-link_past-clause-known g c =
    passed_on _ _ _ c.from_residual-in_err-link_past.ensures.1 (λ stored known group objects own blocks pool readings held are tell spells may. inl refl)

pub returns-in_err-free_list-clause-reads : goal.returns-in_err-free_list-clause-reads
returns-in_err-free_list-clause-reads g c = reads_on _ _ _ _ c.in_ok-place.ensures.reads c.in_ok-give_over.ensures.reads

pub returns-in_err-free_list-clause-refused : goal.returns-in_err-free_list-clause-refused
returns-in_err-free_list-clause-refused g c =
    passed_on _ _ _ c.from_residual-in_err-free_list.ensures.1 (elim c.in_err-free_list.ensures.refused [
      | inl memory ↦ inr (inr (inl memory))
      | inr number ↦ absurd (number.1 c.in_ok-give_over.ensures.number)
    ])

pub returns-in_err-free_list-clause-known : goal.returns-in_err-free_list-clause-known
returns-in_err-free_list-clause-known g c =
    passed_on _ _ _ c.from_residual-in_err-free_list.ensures.1 (λ stored known group objects own blocks pool readings held are tell spells may.
    elim c.in_err-free_list.ensures.refused [
      | inl memory ↦ inl memory
      | inr number ↦ absurd (number.1 c.in_ok-give_over.ensures.number)
    ])

pub returns-clause-reads : goal.returns-clause-reads
returns-clause-reads g c = reads_on _ _ _ _ c.in_ok-place.ensures.reads c.in_ok-give_over.ensures.reads

pub returns-clause-value : goal.returns-clause-value
returns-clause-value g c = λ stored known group objects own blocks pool readings held are tell spells may.
    let first = c.in_ok-place.ensures.reads in
    let rest = c.in_ok-give_over.ensures.reads in
    let old = c.args.changes.now in
    let place = c.in_ok-place.place in
    let number = c.in_ok-place.ensures.number in
    let told : TellsObjects c.args.store.now c.give_over.new.store c.args.changes.now stored objects = record { own = own; blocks = blocks; held = held; are = are; tell = tell } in
    let it = c.in_ok-place.ensures.value stored objects (tells_first _ _ _ old stored objects first rest told) spells.over in
    let gone = gone_as known group objects old pool readings spells c.args.snapshot may place number it.1 in
    let after = after_as known group objects old pool readings spells c.args.snapshot may place number it.1 in
    let given = c.in_ok-give_over.ensures.value stored objects (pool.datasets (pool.next c.args.snapshot)).dead (pool.datasets c.args.snapshot).dead
    (tells_rest _ _ _ old c.find.new.changes stored objects c.in_ok-place.ensures.one_set first rest told) it.0.over
    (lists_apart known group objects old pool readings spells c.args.snapshot may place number it.1) (it.0.lists _ _ after.dead) (it.0.lists _ _ gone.dead) in
    let placed = placed_same objects old c.give_over.new.changes place (records_on objects old c.find.new.changes c.give_over.new.changes it.0.records c.in_ok-give_over.ensures.records) it.1 in
    let passed = c.in_ok-link_past.ensures.value objects given.2.over placed (place_apart known group objects old pool readings spells c.args.snapshot may place number it.1) in
    let over = c.in_ok-free_list.ensures.over objects _ passed.over (same_lists objects c.give_over.new.changes c.link_past.new.changes c.in_ok-link_past.ensures.lists place.gone.dead_list _ given.2.left) in
    let done = destroyed known group objects old pool readings spells c.args.snapshot may place number it.1 c.find.new.changes c.give_over.new.changes c.link_past.new.changes c.free_list.new.self given.0 _
    c.operations_free_what_nothing_reaches.ensures.sound it.0 given.2 c.in_ok-give_over.ensures.records passed c.in_ok-link_past.ensures.lists c.in_ok-free_list.ensures.put c.in_ok-free_list.ensures.records over in
    (given.0, given.1, done.0, done.1, done.2)

pub returns-clause-touched : goal.returns-clause-touched
returns-clause-touched g c =
    let place = c.in_ok-place.place in
    let looked = c.find.new.changes in
    let given = c.give_over.new.changes in
    let linked = c.link_past.new.changes in
    let some : place.gone.next ≢ 0 = λ none. omega (arith, none, c.in_ok-place.ensures.fits.next.0) in
    let passed = subst (λ number. AreBesideTouched given linked number place.gone) c.in_ok-place.ensures.number c.in_ok-link_past.ensures.touched in
    snapshot_touched c.args.changes.now looked c.free_list.new.self c.args.snapshot place.gone c.in_ok-place.ensures.one_set c.in_ok-place.ensures.touched c.in_ok-place.ensures.lists
    c.in_ok-place.ensures.known_as given linked place.after _ c.in_ok-place.ensures.lone.kind c.in_ok-place.ensures.known_after some c.in_ok-give_over.ensures.records c.in_ok-give_over.ensures.touched passed
    c.in_ok-link_past.ensures.lists c.in_ok-free_list.ensures.put c.in_ok-free_list.ensures.records

pub returns-clause-own_lists : goal.returns-clause-own_lists
returns-clause-own_lists g c = λ stored known group objects own blocks pool readings held are tell spells may.
    let old = c.args.changes.now in
    let place = c.in_ok-place.place in
    let number = c.in_ok-place.ensures.number in
    let told : TellsObjects c.args.store.now c.give_over.new.store old stored objects = record { own = own; blocks = blocks; held = held; are = are; tell = tell } in
    let it = c.in_ok-place.ensures.value stored objects (tells_first _ _ _ old stored objects c.in_ok-place.ensures.reads c.in_ok-give_over.ensures.reads told) spells.over in
    let gone = gone_as known group objects old pool readings spells c.args.snapshot may place number it.1 in
    let after = after_as known group objects old pool readings spells c.args.snapshot may place number it.1 in
    snapshot_own_lists objects old c.find.new.changes c.free_list.new.self c.in_ok-place.ensures.lists c.give_over.new.changes c.link_past.new.changes place.gone.dead_list place.after.dead_list
    _ _ _ gone.dead after.dead c.in_ok-give_over.ensures.touched c.in_ok-link_past.ensures.lists c.in_ok-free_list.ensures.put

pub returns-in_err-place-clause-caused : goal.returns-in_err-place-clause-caused
returns-in_err-place-clause-caused g c = passed_on _ _ _ c.from_residual.ensures.1 c.in_err-place.ensures.caused

pub returns-in_err-give_over-clause-caused : goal.returns-in_err-give_over-clause-caused
returns-in_err-give_over-clause-caused g c = passed_on _ _ _ c.from_residual-in_err-give_over.ensures.1 (caused_behind_reads _ _ _ _ _ c.in_ok-place.ensures.reads c.in_err-give_over.ensures.caused)

pub returns-in_err-free_list-clause-caused : goal.returns-in_err-free_list-clause-caused
returns-in_err-free_list-clause-caused g c = passed_on _ _ _ c.from_residual-in_err-free_list.ensures.1 (judged_is_caused _ _ _ _ _ c.in_err-free_list.ensures.refused)
