use Rattle.std.proofs.Common.{◌∙◌, inl, inr, refl, ap, subst, arith}
use Rattle.block_store.proofs.Steps.{reads_on}
use Rattle.dnode_tree.specs.Younger.{younger}
use Rattle.volume.specs.Walking.{blocks_of_volume}
use Rattle.dataset_destroys.proofs.HeadDestroyed.{head_destroyed, head_placed_same, head_tells, tree_few, tree_once}
use Rattle.dataset_destroys.proofs.Destroyed.{records_on}
use Rattle.dataset_destroys.proofs.HeadFinding.{known_same, tree_since}
use Rattle.dataset_destroys.proofs.ReadSteps.{tells_first, tells_rest}
use Rattle.dataset_destroys.proofs.Refusing.{passed_on}
use Rattle.dataset_destroys.proofs.Touching.{AreBesideTouched, head_own_lists, head_touched}
use Rattle.dataset_destroys.specs.Steps.{TellsObjects}
use Rattle.block_store.proofs.Causes.{caused_behind_reads}
use Rattle.object_table.proofs.Causes.{judged_is_caused}
use Rattle.dataset_destroys.proofs.heads.destroy_head.Goals as goal

pub returns-in_err-place-clause-refused : goal.returns-in_err-place-clause-refused
returns-in_err-place-clause-refused g c = passed_on _ _ _ c.from_residual.ensures.1 (inr (inr c.in_err-place.ensures.refused))

pub returns-in_err-place-clause-known : goal.returns-in_err-place-clause-known
returns-in_err-place-clause-known g c =
    passed_on _ _ _ c.from_residual.ensures.1 (λ stored objects own blocks pool readings held are tell spells may enough.
    c.in_err-place.ensures.known stored stored c.args.group objects pool readings (record { own = own; blocks = blocks; held = held; are = are; tell = tell }) spells may)

pub returns-in_err-young-clause-reads : goal.returns-in_err-young-clause-reads
returns-in_err-young-clause-reads g c = reads_on _ _ _ _ c.in_ok-place.ensures.reads c.in_err-young.ensures.reads

pub returns-in_err-young-clause-refused : goal.returns-in_err-young-clause-refused
returns-in_err-young-clause-refused g c =
    passed_on _ _ _ c.from_residual-in_err-young.ensures.1 (inl (record {
      mid = c.find.new.store;
      first = c.in_ok-place.ensures.reads;
      r = c.in_ok-place.place.gone;
      known = c.in_ok-place.ensures.known_as;
      before = c.in_ok-place.place.before;
      before_is = c.in_ok-place.ensures.known_before;
      why = tree_since _ _ c.find.new.store c.younger_blocks.new.store c.args.group c.in_ok-place.place.gone.object_set c.args.left.now c.younger_blocks.new.left _ c.since.ensures c.in_err-young.ensures.refused;
    }))

pub returns-in_err-young-clause-known : goal.returns-in_err-young-clause-known
returns-in_err-young-clause-known g c =
    let first = c.in_ok-place.ensures.reads in
    let rest = c.in_err-young.ensures.reads in
    let place = c.in_ok-place.place in
    passed_on _ _ _ c.from_residual-in_err-young.ensures.1 (λ stored objects own blocks pool readings held are tell spells may enough.
    let told : TellsObjects c.args.store.now c.younger_blocks.new.store c.args.changes.now stored objects = record { own = own; blocks = blocks; held = held; are = are; tell = tell } in
    let it = c.in_ok-place.ensures.value stored objects (tells_first _ _ _ c.args.changes.now stored objects first rest told) spells.over in
    let leads = (head_tells stored c.args.group objects c.args.changes.now pool readings spells c.args.head may place c.in_ok-place.ensures.number it.1).leads in
    let later = tells_rest _ _ _ c.args.changes.now c.find.new.changes stored objects c.in_ok-place.ensures.one_set first rest told in
    c.in_err-young.ensures.known stored c.args.group place.gone.size place.gone.block_size (readings c.args.head).array later.held leads.bytes (omega arith)
    (tree_once stored c.args.group objects c.args.changes.now pool readings spells c.args.head may place c.in_ok-place.ensures.number it.1 leads)
    (tree_few stored c.args.group objects c.args.changes.now pool readings spells c.args.head may place c.in_ok-place.ensures.number it.1 c.args.left.now leads enough) later.tell)

pub returns-in_err-free_list-clause-reads : goal.returns-in_err-free_list-clause-reads
returns-in_err-free_list-clause-reads g c = reads_on _ _ _ _ c.in_ok-place.ensures.reads c.in_ok-young.ensures.reads

pub returns-in_err-free_list-clause-refused : goal.returns-in_err-free_list-clause-refused
returns-in_err-free_list-clause-refused g c =
    passed_on _ _ _ c.from_residual-in_err-free_list.ensures.1 (elim c.in_err-free_list.ensures.refused [
      | inl memory ↦ inr (inr (inr (inr (inl memory))))
      | inr number ↦ inr (inl (number.0, (c.in_ok-place.place.gone, known_same c.find.new.changes c.free_list.new.self c.args.head c.in_ok-place.place.gone c.in_err-free_list.ensures.records c.in_ok-place.ensures.known_as, number.1)))
    ])

pub returns-in_err-free_list-clause-known : goal.returns-in_err-free_list-clause-known
returns-in_err-free_list-clause-known g c =
    let first = c.in_ok-place.ensures.reads in
    let rest = c.in_ok-young.ensures.reads in
    let place = c.in_ok-place.place in
    passed_on _ _ _ c.from_residual-in_err-free_list.ensures.1 (λ stored objects own blocks pool readings held are tell spells may enough.
    elim c.in_err-free_list.ensures.refused [
      | inl memory ↦ inl memory
      | inr number ↦
          let told : TellsObjects c.args.store.now c.younger_blocks.new.store c.args.changes.now stored objects = record { own = own; blocks = blocks; held = held; are = are; tell = tell } in
          let it = c.in_ok-place.ensures.value stored objects (tells_first _ _ _ c.args.changes.now stored objects first rest told) spells.over in
          absurd (number.1 (head_tells stored c.args.group objects c.args.changes.now pool readings spells c.args.head may place c.in_ok-place.ensures.number it.1).list_behind)
    ])

pub returns-in_err-leave-clause-reads : goal.returns-in_err-leave-clause-reads
returns-in_err-leave-clause-reads g c = reads_on _ _ _ _ c.in_ok-place.ensures.reads c.in_ok-young.ensures.reads

pub returns-in_err-leave-clause-refused : goal.returns-in_err-leave-clause-refused
returns-in_err-leave-clause-refused g c = passed_on _ _ _ c.from_residual-in_err-leave.ensures.1 (inr (inr (inr (inr (inl refl)))))

pub returns-in_err-leave-clause-known : goal.returns-in_err-leave-clause-known
returns-in_err-leave-clause-known g c = passed_on _ _ _ c.from_residual-in_err-leave.ensures.1 (λ stored objects own blocks pool readings held are tell spells may enough. inl refl)

pub returns-in_err-append-clause-reads : goal.returns-in_err-append-clause-reads
returns-in_err-append-clause-reads g c = reads_on _ _ _ _ c.in_ok-place.ensures.reads c.in_ok-young.ensures.reads

pub returns-in_err-append-clause-refused : goal.returns-in_err-append-clause-refused
returns-in_err-append-clause-refused g c = passed_on _ _ _ c.from_residual-in_err-append.ensures.1 (inr (inr (inr (inr (inl refl)))))

pub returns-in_err-append-clause-known : goal.returns-in_err-append-clause-known
returns-in_err-append-clause-known g c = passed_on _ _ _ c.from_residual-in_err-append.ensures.1 (λ stored objects own blocks pool readings held are tell spells may enough. inl refl)

pub returns-clause-reads : goal.returns-clause-reads
returns-clause-reads g c = reads_on _ _ _ _ c.in_ok-place.ensures.reads c.in_ok-young.ensures.reads

pub returns-clause-behind : goal.returns-clause-behind
returns-clause-behind g c = (c.in_ok-young.young.items, c.in_ok-append.ensures.items)

pub returns-clause-value : goal.returns-clause-value
returns-clause-value g c = λ stored objects own blocks pool readings held are tell spells may.
    let first = c.in_ok-place.ensures.reads in
    let rest = c.in_ok-young.ensures.reads in
    let old = c.args.changes.now in
    let place = c.in_ok-place.place in
    let number = c.in_ok-place.ensures.number in
    let told : TellsObjects c.args.store.now c.younger_blocks.new.store c.args.changes.now stored objects = record { own = own; blocks = blocks; held = held; are = are; tell = tell } in
    let it = c.in_ok-place.ensures.value stored objects (tells_first _ _ _ old stored objects first rest told) spells.over in
    let later = tells_rest _ _ _ old c.find.new.changes stored objects c.in_ok-place.ensures.one_set first rest told in
    let tells = head_tells stored c.args.group objects old pool readings spells c.args.head may place number it.1 in
    let leads = tells.leads in
    let young = c.in_ok-young.ensures.value stored c.args.group place.gone.size place.gone.block_size (readings c.args.head).array later.held leads.bytes (omega arith) later.tell in
    let over = c.in_ok-free_list.ensures.over objects _ it.0.over (it.0.lists _ _ tells.dead) in
    let placed = head_placed_same objects old c.free_list.new.self place (records_on objects old c.find.new.changes c.free_list.new.self it.0.records c.in_ok-free_list.ensures.records) it.1 in
    let left = c.in_ok-leave.ensures.value objects over placed in
    let done = head_destroyed stored c.args.group objects old pool readings spells c.args.head may place number it.1 c.find.new.changes c.free_list.new.self c.leave.new.changes c.in_ok-young.young.items _
    c.operations_free_what_nothing_reaches.ensures.sound it.0 c.in_ok-free_list.ensures.put c.in_ok-free_list.ensures.records left c.in_ok-leave.ensures.lists leads
    (young ∙ ap (λ since. younger since (blocks_of_volume place.gone.object_set leads.bytes.set leads.bytes.has.own leads.bytes.has.blocks)) c.since.ensures) in
    (c.in_ok-young.young.items, c.in_ok-append.ensures.items, done.0, done.1, done.2)

pub returns-clause-touched : goal.returns-clause-touched
returns-clause-touched g c =
    let place = c.in_ok-place.place in
    let freed = c.free_list.new.self in
    let left = subst (λ number. AreBesideTouched freed c.leave.new.changes number place.gone) c.in_ok-place.ensures.number c.in_ok-leave.ensures.touched in
    head_touched c.args.changes.now c.find.new.changes c.leave.new.changes c.args.head place.gone c.in_ok-place.ensures.one_set c.in_ok-place.ensures.touched c.in_ok-place.ensures.lists
    c.in_ok-place.ensures.known_as freed _ c.in_ok-free_list.ensures.put c.in_ok-free_list.ensures.records left c.in_ok-leave.ensures.lists

pub returns-clause-own_lists : goal.returns-clause-own_lists
returns-clause-own_lists g c = λ stored objects own blocks pool readings held are tell spells may.
    let old = c.args.changes.now in
    let place = c.in_ok-place.place in
    let told : TellsObjects c.args.store.now c.younger_blocks.new.store old stored objects = record { own = own; blocks = blocks; held = held; are = are; tell = tell } in
    let it = c.in_ok-place.ensures.value stored objects (tells_first _ _ _ old stored objects c.in_ok-place.ensures.reads c.in_ok-young.ensures.reads told) spells.over in
    let tells = head_tells stored c.args.group objects old pool readings spells c.args.head may place c.in_ok-place.ensures.number it.1 in
    head_own_lists objects old c.find.new.changes c.leave.new.changes c.in_ok-place.ensures.lists c.free_list.new.self place.gone.dead_list _ _ tells.dead
    c.in_ok-free_list.ensures.put c.in_ok-leave.ensures.lists

pub returns-in_err-place-clause-caused : goal.returns-in_err-place-clause-caused
returns-in_err-place-clause-caused g c = passed_on _ _ _ c.from_residual.ensures.1 c.in_err-place.ensures.caused

pub returns-in_err-young-clause-caused : goal.returns-in_err-young-clause-caused
returns-in_err-young-clause-caused g c = passed_on _ _ _ c.from_residual-in_err-young.ensures.1 (caused_behind_reads _ _ _ _ _ c.in_ok-place.ensures.reads c.in_err-young.ensures.caused)

pub returns-in_err-free_list-clause-caused : goal.returns-in_err-free_list-clause-caused
returns-in_err-free_list-clause-caused g c = passed_on _ _ _ c.from_residual-in_err-free_list.ensures.1 (judged_is_caused _ _ _ _ _ c.in_err-free_list.ensures.refused)
