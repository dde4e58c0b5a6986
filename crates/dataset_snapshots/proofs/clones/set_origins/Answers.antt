use Rattle.std.proofs.Common.{List, refl, subst}
use Rattle.std.proofs.lemmas.List.{take_all}
use Rattle.meta_objset.specs.declared.directory.DirectoryRow.{DirectoryRow}
use Rattle.dataset_snapshots.proofs.CloneRows.{names_held}
use Rattle.dataset_snapshots.proofs.ToldOrigins.{KnowsTold, none_told, told_next}
use Rattle.dataset_snapshots.proofs.clones.set_origins.Goals as goal

pub loop-row-init : goal.loop-row-init
loop-row-init c = λ all pool is none known. (pool.volumes, none_told c.args.rows.now all pool.volumes none, known)

pub set_by_row-requires-clause-named : goal.set_by_row-requires-clause-named
set_by_row-requires-clause-named c = c.requires c.loop-row.row-index _ c.loop-row-test.true

pub set_by_row-requires-clause-others : goal.set_by_row-requires-clause-others
set_by_row-requires-clause-others c = names_held c.args.rows.now c.in_ok-by_object.by_object c.requires c.in_ok-by_object.ensures

pub loop-row-preserved : goal.loop-row-preserved
loop-row-preserved c = λ all pool is none known.
    let so_far = c.loop-row.invariant all pool is none known in
    let set = c.in_ok-set_by_row.ensures c.args.rows.now all (record { volumes = so_far.0 }) is c.in_ok-by_object.ensures so_far.2 in
    (set.0, told_next c.args.rows.now all c.loop-row.row-index _ _ pool.volumes so_far.0 set.0 c.loop-row-test.true refl so_far.1 set.1, set.2)

pub returns : goal.returns
returns c = λ all pool is none known.
    subst (λ (first : List DirectoryRow). KnowsTold first c.args.rows.now all pool.volumes c.loop-row.names) (take_all c.loop-row.row-index c.args.rows.now c.loop-row-test.false)
    (c.loop-row.invariant all pool is none known)
