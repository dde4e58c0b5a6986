use Rattle.std.proofs.Common.{List, [], ◌∷◌, ◌++◌, get_or, take, inr, sym, subst}
use Rattle.std.proofs.lemmas.List.{take_all, take_more}
use Rattle.block_store.specs.Spaces.{VdevSpace}
use Rattle.block_store.proofs.Steps.{reads_on}
use Rattle.block_store.proofs.Telling.{read_after}
use Rattle.dnode_tree.proofs.Refusing.{passed_on}
use Rattle.meta_objset.specs.declared.space_maps.MetaslabMap.{MetaslabMap}
use Rattle.space_map_objects.proofs.Unread.{caused_of_behind_reads}
use Rattle.pool_maps.specs.Loads.{HasMapFor}
use Rattle.pool_maps.specs.Maps.{HasMapPlace}
use Rattle.pool_maps.proofs.ReadRows.{ReadUpTo, one_more}
use Rattle.pool_maps.proofs.ReadSets.{row_unread}
use Rattle.pool_maps.proofs.Underway.{spaces_stay}
use Rattle.pool_maps.proofs.reading.read_each.Goals as goal

-- what stands past the end of a list
abbrev none : MetaslabMap
none = record { metaslab = record { vdev = 0; index = 0 }; object = 0 }

pub read_one-requires-clause-place : goal.read_one-requires-clause-place
read_one-requires-clause-place g c =
    let same = spaces_stay c.args.store.now c.loop-row.store c.args.missing.now c.loop-row.invariant.reads in
    subst (λ (spaces : List VdevSpace). HasMapPlace spaces (get_or c.args.rows.now c.loop-row.row-index none).metaslab) (sym same)
    (c.requires.places c.loop-row.row-index none c.loop-row-test.true)

pub returns-in_err-free-clause-reads : goal.returns-in_err-free-clause-reads
returns-in_err-free-clause-reads g c =
    reads_on c.args.store.now c.loop-row.store c.read_one.new.store c.args.missing.now c.loop-row.invariant.reads c.read_one.ensures.reads

pub returns-in_err-free-clause-refused : goal.returns-in_err-free-clause-refused
returns-in_err-free-clause-refused g c =
    let i = c.loop-row.row-index in
    let low = c.loop-row-test.true in
    passed_on _ _ _ c.from_residual.ensures.1
    (inr (row_unread c.args.store.now c.loop-row.store c.read_one.new.store c.args.missing.now c.args.set.now c.args.birth c.args.rows.now i none c.in_err-free.field-0.0 low
    c.loop-row.invariant.reads (c.requires.places i none low) c.in_err-free.ensures.refused))

pub returns-in_err-free-clause-known : goal.returns-in_err-free-clause-known
returns-in_err-free-clause-known g c =
    let old = c.args.store.now in
    let now = c.loop-row.store in
    let i = c.loop-row.row-index in
    let row = get_or c.args.rows.now i none in
    let before = c.loop-row.invariant.reads in
    passed_on _ _ _ c.from_residual.ensures.1
    (λ stored objects own blocks held are tell maps.
    c.in_err-free.ensures.known stored objects own blocks (before.keeps stored held) are (read_after old now c.read_one.new.store c.args.missing.now before c.read_one.ensures.reads tell)
    (subst (λ (spaces : List VdevSpace). HasMapFor (objects row.object) spaces row.metaslab) (sym (spaces_stay old now c.args.missing.now before)) (maps i none c.loop-row-test.true)))

pub returns-in_err-push-clause-reads : goal.returns-in_err-push-clause-reads
returns-in_err-push-clause-reads g c =
    reads_on c.args.store.now c.loop-row.store c.read_one.new.store c.args.missing.now c.loop-row.invariant.reads c.read_one.ensures.reads

pub loop-row-preserved : goal.loop-row-preserved
loop-row-preserved g c =
    let i = c.loop-row.row-index in
    let rows = c.args.rows.now in
    let low = c.loop-row-test.true in
    let old = c.args.store.now in
    let new = c.read_one.new.store in
    let read = c.loop-row.read.items in
    let free = c.in_ok-free.free in
    let step = one_more old c.loop-row.store new c.args.missing.now c.args.set.now c.args.birth (take i rows) read (get_or rows i none) free c.loop-row.invariant
    c.read_one.ensures.reads c.in_ok-free.ensures.value c.in_ok-free.ensures.found in
    subst (λ (done : List MetaslabMap). ReadUpTo old new c.args.missing.now c.args.set.now c.args.birth done c.push.new.read.items) (sym (take_more rows i none low))
    (subst (ReadUpTo old new c.args.missing.now c.args.set.now c.args.birth (take i rows ++ get_or rows i none ∷ [])) (sym c.in_ok-push.ensures) step)

pub returns-clause-value : goal.returns-clause-value
returns-clause-value g c =
    let rows = c.args.rows.now in
    (subst (λ (done : List MetaslabMap). ReadUpTo c.args.store.now c.loop-row.store c.args.missing.now c.args.set.now c.args.birth done c.loop-row.read.items)
    (take_all c.loop-row.row-index rows c.loop-row-test.false) c.loop-row.invariant).value

pub returns-in_err-free-clause-caused : goal.returns-in_err-free-clause-caused
returns-in_err-free-clause-caused g c =
    passed_on _ _ _ c.from_residual.ensures.1
    (caused_of_behind_reads c.args.store.now c.loop-row.store c.read_one.new.store c.args.missing.now _ c.loop-row.invariant.reads c.in_err-free.ensures.caused)
