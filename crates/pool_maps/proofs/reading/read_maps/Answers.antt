use Rattle.std.proofs.Common.{List, All, inl, inr, sym, subst, ◌∙◌}
use Rattle.std.specs.List.{AllZip}
use Rattle.std.proofs.lemmas.Result.{IfErr-weaker, IfOk-weaker}
use Rattle.block_store.specs.Spaces.{VdevSpace}
use Rattle.block_store.proofs.Steps.{reads_on}
use Rattle.block_store.proofs.Telling.{read_after, read_before}
use Rattle.dnode_tree.proofs.Refusing.{passed_on}
use Rattle.meta_objset.specs.declared.space_maps.MetaslabMap.{MetaslabMap}
use Rattle.pool_maps.specs.Loads.{HaveMaps, IsFreeFound, IsReadOf, IsRowUnread}
use Rattle.pool_maps.specs.Maps.{AreRowsOf, HasMapPlace}
use Rattle.pool_maps.proofs.ReadRows.{maps_unread}
use Rattle.pool_maps.proofs.ReadSets.{sets_of_found, unread_behind}
use Rattle.pool_maps.proofs.Underway.{spaces_stay}
use Rattle.space_map_objects.proofs.Unread.{caused_of_behind_reads, lossy, unread_is_caused}
use Rattle.pool_maps.proofs.reading.read_maps.Goals as goal

pub returns-in_err-maps-clause-refused : goal.returns-in_err-maps-clause-refused
returns-in_err-maps-clause-refused g c =
    passed_on _ _ _ c.from_residual.ensures.1
    (maps_unread c.args.store.now c.read_space_maps.new.store c.args.missing.now c.args.set.now c.args.birth c.in_err-maps.field-0.0 c.in_err-maps.ensures.refused)

pub returns-in_err-maps-clause-known : goal.returns-in_err-maps-clause-known
returns-in_err-maps-clause-known g c =
    passed_on _ _ _ c.from_residual.ensures.1
    (λ stored objects own blocks held are tell maps table rows have. elim (c.in_err-maps.ensures.known stored objects own blocks held are tell) [
      | inl loss ↦ lossy c.in_err-maps.field-0.0 loss
      | inr (bad, none) ↦ absurd (none maps table)
    ])

pub returns-then-not-are_rows-clause-known : goal.returns-then-not-are_rows-clause-known
returns-then-not-are_rows-clause-known g c = λ stored objects own blocks held are tell maps table rows have.
    let same = spaces_stay c.args.store.now c.read_space_maps.new.store c.args.missing.now c.read_space_maps.ensures.reads in
    let maps_are = c.in_ok-maps.ensures.one stored objects own blocks held are tell maps table in
    absurd (c.if-not-are_rows.ensures.none
    (subst (λ (spaces : List VdevSpace). AreRowsOf spaces c.rows.result.now) (sym same) (subst (λ (them : List MetaslabMap). AreRowsOf c.args.store.now.spaces them) (sym (c.rows.ensures.value ∙ maps_are)) rows)))

pub read_each-requires-clause-places : goal.read_each-requires-clause-places
read_each-requires-clause-places g c =
    subst (λ (rows : List MetaslabMap). All (λ (m : MetaslabMap). HasMapPlace c.read_space_maps.new.store.spaces m.metaslab) rows)
    (c.rows.ensures.value ∙ sym c.rows-2.ensures.value) c.if-not-are_rows.ensures.are.places

pub returns-clause-reads : goal.returns-clause-reads
returns-clause-reads g c =
    reads_on c.args.store.now c.read_space_maps.new.store c.read_each.new.store c.args.missing.now c.read_space_maps.ensures.reads c.read_each.ensures.reads

pub returns-clause-value : goal.returns-clause-value
returns-clause-value g c =
    let old = c.args.store.now in
    let mid = c.read_space_maps.new.store in
    let new = c.read_each.new.store in
    let maps = c.in_ok-maps.maps in
    let same = spaces_stay old mid c.args.missing.now c.read_space_maps.ensures.reads in
    IfOk-weaker c.read_each.result _ _
    (λ read value stored objects own blocks held are tell. record {
      maps = maps;
      table = c.in_ok-maps.ensures.value stored objects own blocks held are (read_before old mid new c.args.missing.now c.read_space_maps.ensures.reads c.read_each.ensures.reads tell);
      rows = subst (λ (spaces : List VdevSpace). AreRowsOf spaces maps) same (subst (λ (rows : List MetaslabMap). AreRowsOf mid.spaces rows) c.rows.ensures.value c.if-not-are_rows.ensures.are);
      each = subst (λ (spaces : List VdevSpace). AllZip (IsReadOf objects spaces) maps read.items) same
          (subst (λ (rows : List MetaslabMap). AllZip (IsReadOf objects mid.spaces) rows read.items) c.rows-2.ensures.value
          (value stored objects own blocks (c.read_space_maps.ensures.reads.keeps stored held) are (read_after old mid new c.args.missing.now c.read_space_maps.ensures.reads c.read_each.ensures.reads tell)));
    })
    c.read_each.ensures.value

pub returns-clause-found : goal.returns-clause-found
returns-clause-found g c =
    let old = c.args.store.now in
    let mid = c.read_space_maps.new.store in
    let maps = c.in_ok-maps.maps in
    let same = spaces_stay old mid c.args.missing.now c.read_space_maps.ensures.reads in
    IfOk-weaker c.read_each.result _ _
    (λ read found. record {
      maps = maps;
      table = c.in_ok-maps.ensures.found;
      rows = subst (λ (spaces : List VdevSpace). AreRowsOf spaces maps) same (subst (λ (rows : List MetaslabMap). AreRowsOf mid.spaces rows) c.rows.ensures.value c.if-not-are_rows.ensures.are);
      each = subst (λ (spaces : List VdevSpace). AllZip (IsFreeFound spaces c.args.set.now c.args.birth) maps read.items) same
          (subst (λ (rows : List MetaslabMap). AllZip (IsFreeFound mid.spaces c.args.set.now c.args.birth) rows read.items) c.rows-2.ensures.value found);
    })
    c.read_each.ensures.found

pub returns-clause-sets : goal.returns-clause-sets
returns-clause-sets g c =
    IfOk-weaker c.read_each.result _ _ (λ read found. sets_of_found c.args.store.now.spaces c.args.set.now c.args.birth read.items found) (returns-clause-found g c)

pub returns-clause-refused : goal.returns-clause-refused
returns-clause-refused g c =
    let old = c.args.store.now in
    let mid = c.read_space_maps.new.store in
    let new = c.read_each.new.store in
    IfErr-weaker c.read_each.result _ _
    (λ refusal cause. elim cause [
      | inl memory ↦ inl memory
      | inr stopped ↦ inr (inr (record {
        maps = c.in_ok-maps.maps;
        found = c.in_ok-maps.ensures.found;
        why = inr (unread_behind old mid new c.args.missing.now c.args.set.now c.args.birth c.in_ok-maps.maps refusal c.read_space_maps.ensures.reads
            (subst (λ (rows : List MetaslabMap). IsRowUnread mid new c.args.missing.now c.args.set.now c.args.birth rows refusal) c.rows-2.ensures.value stopped));
      }))
    ])
    c.read_each.ensures.refused

pub returns-clause-known : goal.returns-clause-known
returns-clause-known g c =
    let old = c.args.store.now in
    let mid = c.read_space_maps.new.store in
    let new = c.read_each.new.store in
    let same = spaces_stay old mid c.args.missing.now c.read_space_maps.ensures.reads in
    IfErr-weaker c.read_each.result _ _
    (λ refusal known stored objects own blocks held are tell maps table rows have.
    let maps_are = c.in_ok-maps.ensures.one stored objects own blocks held are (read_before old mid new c.args.missing.now c.read_space_maps.ensures.reads c.read_each.ensures.reads tell) maps table in
    known stored objects own blocks (c.read_space_maps.ensures.reads.keeps stored held) are (read_after old mid new c.args.missing.now c.read_space_maps.ensures.reads c.read_each.ensures.reads tell)
    (subst (λ (spaces : List VdevSpace). HaveMaps objects spaces c.rows-2.result.now) (sym same)
    (subst (λ (them : List MetaslabMap). HaveMaps objects old.spaces them) (sym (c.rows-2.ensures.value ∙ maps_are)) have)))
    c.read_each.ensures.known

pub returns-in_err-maps-clause-caused : goal.returns-in_err-maps-clause-caused
returns-in_err-maps-clause-caused g c =
    passed_on _ _ _ c.from_residual.ensures.1
    (unread_is_caused c.args.store.now c.read_space_maps.new.store c.args.missing.now c.in_err-maps.field-0.0 c.in_err-maps.ensures.caused)

pub returns-clause-caused : goal.returns-clause-caused
returns-clause-caused g c =
    IfErr-weaker c.read_each.result _ _
    (λ refusal cause. caused_of_behind_reads c.args.store.now c.read_space_maps.new.store c.read_each.new.store c.args.missing.now refusal c.read_space_maps.ensures.reads cause)
    c.read_each.ensures.caused
