use Rattle.std.proofs.Common.{◌≡◌, [], inr, refl, sym, subst}
use Rattle.block_store.proofs.Steps.{reads_none}
use Rattle.dataset_destroys.specs.Chains.{SpellsChains}
use Rattle.dataset_destroys.specs.DatasetChanges.{DatasetChanges}
use Rattle.dataset_destroys.specs.Touched.{IsDestroyTouched, TouchesOwnLists}
use Rattle.dnode_tree.proofs.Refusing.{passed_on}
use Rattle.meta_objset.specs.declared.directory.DirectoryRow.{DirectoryRow}
use Rattle.meta_objset.specs.Names.{IsNamed}
use Rattle.dataset_groups.proofs.DestroyedDatasets.{may, none_destroyed, one_destroyed, row_gone}
use Rattle.dataset_groups.proofs.MakingDemands.{not_there}
use Rattle.dataset_groups.proofs.MayGo.{may_destroy}
use Rattle.dataset_groups.proofs.datasets.GroupDatasets.destroy_one.Goals as goal

-- ---- no row has the name

pub returns-in_default-clause-value : goal.returns-in_default-clause-value
returns-in_default-clause-value g c = λ stored objects own blocks pool readings plain holds are tell spells may_go.
    none_destroyed c.args.self.now c.args.name.now c.args.freed.now.items c.args.group stored objects pool readings plain
    (λ (row, held, named). c.padded.ensures.none c.in_default.is row.name (subst (IsNamed row.name) (sym c.as_slice.ensures) named)) spells

pub returns-in_default-get-clause-value : goal.returns-in_default-get-clause-value
returns-in_default-get-clause-value g c = λ stored objects own blocks pool readings plain holds are tell spells may_go.
    let named = subst (IsNamed c.in-Some.padded) c.as_slice.ensures c.in-Some.ensures.named in
    none_destroyed c.args.self.now c.args.name.now c.args.freed.now.items c.args.group stored objects pool readings plain
    (not_there c.args.self.now.directory c.in-Some.padded c.args.name.now named (c.get.ensures.none c.in_default-get.is)) spells

-- ---- its dataset is not destroyed

pub returns-in_err-destroy-clause-known : goal.returns-in_err-destroy-clause-known
returns-in_err-destroy-clause-known g c =
    let old = c.args.self.now in
    let row : DirectoryRow = record { name = c.in-Some.padded; object = c.in-Some-get.object } in
    let named = subst (IsNamed row.name) c.as_slice.ensures c.in-Some.ensures.named in
    passed_on _ _ _ c.from_residual.ensures.1
    (λ stored objects own blocks pool readings plain holds are tell spells may_go at_most.
    c.in_err-destroy.ensures.known stored objects own blocks pool readings holds are tell spells.chains
    (may_destroy pool readings old.directory plain row c.args.name.now spells.names spells.chains.sound c.in-Some-get.ensures.found named may_go.0 may_go.1) (λ head. at_most row.object))

pub returns-in_err-destroy-clause-refused : goal.returns-in_err-destroy-clause-refused
returns-in_err-destroy-clause-refused g c =
    let old = c.args.self.now in
    let row : DirectoryRow = record { name = c.in-Some.padded; object = c.in-Some-get.object } in
    let named = subst (IsNamed row.name) c.as_slice.ensures c.in-Some.ensures.named in
    passed_on _ _ _ c.from_residual.ensures.1
    (inr (record {
      first = [];
      name = c.args.name.now;
      rest = [];
      are = refl;
      mid = old;
      done = refl;
      row = row;
      held = c.in-Some-get.ensures.found;
      named = named;
      store = c.args.store.now;
      reads = reads_none c.args.store.now [];
      last = c.destroy.new.changes;
      left = c.destroy.new.left;
      why = c.in_err-destroy.ensures.refused;
    }))

-- ---- it is

pub returns-clause-value : goal.returns-clause-value
returns-clause-value g c = λ stored objects own blocks pool readings plain holds are tell spells may_go.
    let old = c.args.self.now in
    let new = c.remove_row.new.self in
    let name = c.args.name.now in
    let law = c.reach_has_each_block_once.ensures in
    let row : DirectoryRow = record { name = c.in-Some.padded; object = c.in-Some-get.object } in
    let named = subst (IsNamed row.name) c.as_slice.ensures c.in-Some.ensures.named in
    let order = c.remove_row.ensures.order in
    let others = c.remove_row.ensures.others in
    let numbers : (new.next ≡ old.next) × (new.bounds ≡ old.bounds) = (others.1, c.remove_row.ensures.bounds) in
    let may_one = may law old new name row order.0 order.1 c.remove_row.ensures.rows numbers c.in-Some-get.ensures.found named c.args.group stored objects pool readings plain spells may_go in
    let done = c.in_ok-destroy.ensures.value stored objects own blocks pool readings holds are tell spells.chains may_one in
    let touched = c.in_ok-destroy.ensures.own_lists stored objects own blocks pool readings holds are tell spells.chains may_one in (
      done.0,
      done.1,
      one_destroyed law old new name row order.0 order.1 c.remove_row.ensures.rows numbers c.in-Some-get.ensures.found named c.args.group stored objects pool readings plain spells may_go done.2 done.0
          done.3 (subst (λ (changes : DatasetChanges). SpellsChains stored c.args.group objects changes done.2 readings) (sym others.0) done.4)
          (subst (λ (changes : DatasetChanges). TouchesOwnLists objects old.changes changes) (sym others.0) touched),
    )

pub returns-clause-which : goal.returns-clause-which
returns-clause-which g c =
    let old = c.args.self.now in
    let new = c.remove_row.new.self in
    let row : DirectoryRow = record { name = c.in-Some.padded; object = c.in-Some-get.object } in
    let named = subst (IsNamed row.name) c.as_slice.ensures c.in-Some.ensures.named in
    let others = c.remove_row.ensures.others in
    inr (record {
      row = row;
      held = c.in-Some-get.ensures.found;
      named = named;
      rows = row_gone old.directory new.directory row.name c.args.name.now named c.remove_row.ensures.rows;
      next = others.1;
      bounds = c.remove_row.ensures.bounds;
      touched = subst (λ (changes : DatasetChanges). IsDestroyTouched old.changes changes row.object) (sym others.0) c.in_ok-destroy.ensures.touched;
    })

pub returns-in_err-destroy-clause-caused : goal.returns-in_err-destroy-clause-caused
returns-in_err-destroy-clause-caused g c = passed_on _ _ _ c.from_residual.ensures.1 c.in_err-destroy.ensures.caused
