use Rattle.std.proofs.Common.{◌≡◌, ◌⊎◌, inl, inr, ⊎_elim, List, refl, sym, subst, ◌∙◌}
use Rattle.block_store.proofs.Steps.{reads_on}
use Rattle.block_store.specs.Spaces.{VdevSpace}
use Rattle.block_store.specs.declared.refusal.Refusal.{Refusal}
use Rattle.dnode_tree.proofs.FurtherReads.{told_before, told_after}
use Rattle.dnode_tree.proofs.Refusing.{passed_on}
use Rattle.object_table.proofs.Tables.{spaces_stay}
use Rattle.pool_maps.proofs.Staying.{short_maps_there}
use Rattle.pool_maps.specs.Loads.{AreFreeFound, AreReadMaps, AreSetsOf, HaveMaps}
use Rattle.pool_maps.specs.Maps.{AreRowsOf}
use Rattle.space_map_objects.proofs.Unread.{lossy}
use Rattle.space_map_objects.specs.declared.refusal.Refusal.{Refusal as MapRefusal}
use Rattle.space_map_objects.specs.declared.refusal.Refusal.TheVariants.{NoMemory, Unread}
use Rattle.dataset_snapshots.specs.Contents.{AreNamesFound, AreRootSpansUnread, IsRootUnread}
use Rattle.dataset_snapshots.specs.Finding.{AreRowsFound}
use Rattle.dataset_snapshots.specs.Reach.{IsMetaWalked}
use Rattle.meta_objset.specs.Found.{AreSpansFound}
use Rattle.meta_objset.specs.declared.directory.DirectoryRow.{DirectoryRow}
use Rattle.dataset_snapshots.proofs.Datasets.{are_of_root}
use Rattle.dataset_snapshots.proofs.NamedRows.{needs_no_room}
use Rattle.dataset_snapshots.proofs.OpenedRoots.{maps_no_room, of_read_no_room, unread_for}
use Rattle.dataset_snapshots.proofs.ReadRefusals.{reads_need_no_room}
use Rattle.dataset_snapshots.proofs.contents.contents_under.Goals as goal

-- ---- causes

-- before the space maps
before_maps : {P Q : Refusal → Type 0} {refusal : MapRefusal} → (why : Refusal) × (refusal ≡ Unread why) × P why → (why : Refusal) × (refusal ≡ Unread why) × (P why ⊎ Q why)
before_maps (why, is, held) = (why, is, inl held)

behind_maps : {P Q : Refusal → Type 0} {refusal : MapRefusal} → (why : Refusal) × (refusal ≡ Unread why) × Q why → (why : Refusal) × (refusal ≡ Unread why) × (P why ⊎ Q why)
behind_maps (why, is, held) = (why, is, inr held)

-- ---- the directory

pub returns-in_err-directory-clause-refused : goal.returns-in_err-directory-clause-refused
returns-in_err-directory-clause-refused g c =
    passed_on _ _ _ c.from_residual.ensures.1
    (⊎_elim (λ memory. inl memory) (λ why. inr (inl (before_maps why))) (unread_for (IsRootUnread c.args.store.now c.directory_under.new.store c.args.missing.now c.args.birth c.args.root.now c.args.left.now c.args.left.now) c.in_err-directory.field-0.0 (⊎_elim (λ memory. inl memory) (λ why. inr (inl why)) c.in_err-directory.ensures.refused)))

pub returns-in_err-directory-clause-cause : goal.returns-in_err-directory-clause-cause
returns-in_err-directory-clause-cause g c =
    passed_on _ _ _ c.from_residual.ensures.1
    (of_read_no_room c.in_err-directory.field-0.0
    (needs_no_room _ (⊎_elim (λ memory. inl memory) (λ why. reads_need_no_room.directories _ _ _ _ _ _ why) c.in_err-directory.ensures.refused)))

pub returns-in_err-directory-clause-known : goal.returns-in_err-directory-clause-known
returns-in_err-directory-clause-known g c =
    passed_on _ _ _ c.from_residual.ensures.1 (λ stored pool held is mapped once long tell. lossy c.in_err-directory.field-0.0 (c.in_err-directory.ensures.known stored pool held is tell))

-- ---- the names

pub returns-in_err-names-clause-reads : goal.returns-in_err-names-clause-reads
returns-in_err-names-clause-reads g c = reads_on _ _ _ _ c.in_ok-directory.ensures.reads c.in_err-names.ensures.reads

pub returns-in_err-names-clause-refused : goal.returns-in_err-names-clause-refused
returns-in_err-names-clause-refused g c =
    let found = c.in_ok-directory.ensures.found in
    passed_on _ _ _ c.from_residual-in_err-names.ensures.1
    (⊎_elim (λ memory. inl memory) (λ why. inr (inl (before_maps why))) (unread_for (IsRootUnread c.args.store.now c.names_by.new.store c.args.missing.now c.args.birth c.args.root.now c.args.left.now c.args.left.now) c.in_err-names.field-0.0 (inr (inr (inl (record {
      set = found.0;
      rows = _;
      read = found.1;
      mid = c.directory_under.new.store;
      first = c.in_ok-directory.ensures.reads;
      why = c.in_err-names.ensures.refused;
    }))))))

pub returns-in_err-names-clause-cause : goal.returns-in_err-names-clause-cause
returns-in_err-names-clause-cause g c = passed_on _ _ _ c.from_residual-in_err-names.ensures.1 (of_read_no_room c.in_err-names.field-0.0 c.in_err-names.ensures.cause)

pub returns-in_err-names-clause-known : goal.returns-in_err-names-clause-known
returns-in_err-names-clause-known g c =
    let first = c.in_ok-directory.ensures.reads in
    let rest = c.in_err-names.ensures.reads in
    passed_on _ _ _ c.from_residual-in_err-names.ensures.1 (λ stored pool held is mapped once long tell.
    lossy c.in_err-names.field-0.0
    (c.in_err-names.ensures.known stored pool (first.keeps stored held) is (c.in_ok-directory.ensures.value stored pool held is (told_before _ _ _ _ first rest tell))
    (told_after _ _ _ _ first rest tell)))

-- ---- the meta object set

pub returns-in_err-meta-clause-reads : goal.returns-in_err-meta-clause-reads
returns-in_err-meta-clause-reads g c =
    reads_on _ _ _ _ (reads_on _ _ _ _ c.in_ok-directory.ensures.reads c.in_ok-names.ensures.reads) c.in_err-meta.ensures.reads

pub returns-in_err-meta-clause-refused : goal.returns-in_err-meta-clause-refused
returns-in_err-meta-clause-refused g c =
    let found = c.in_ok-directory.ensures.found in
    passed_on _ _ _ c.from_residual-in_err-meta.ensures.1
    (⊎_elim (λ memory. inl memory) (λ why. inr (inl (before_maps why))) (unread_for (IsRootUnread c.args.store.now c.walk_meta.new.store c.args.missing.now c.args.birth c.args.root.now c.args.left.now c.walk_meta.new.left) c.in_err-meta.field-0.0 (inr (inr (inr (record {
      set = found.0;
      rows = _;
      read = found.1;
      mid = c.names_by.new.store;
      first = reads_on _ _ _ _ c.in_ok-directory.ensures.reads c.in_ok-names.ensures.reads;
      why = c.in_err-meta.ensures.refused;
    }))))))

pub returns-in_err-meta-clause-cause : goal.returns-in_err-meta-clause-cause
returns-in_err-meta-clause-cause g c = passed_on _ _ _ c.from_residual-in_err-meta.ensures.1 (of_read_no_room c.in_err-meta.field-0.0 c.in_err-meta.ensures.cause)

pub returns-in_err-meta-clause-known : goal.returns-in_err-meta-clause-known
returns-in_err-meta-clause-known g c =
    let both = reads_on _ _ _ _ c.in_ok-directory.ensures.reads c.in_ok-names.ensures.reads in
    let third = c.in_err-meta.ensures.reads in
    passed_on _ _ _ c.from_residual-in_err-meta.ensures.1 (λ stored pool held is mapped once long tell.
    lossy c.in_err-meta.field-0.0 (c.in_err-meta.ensures.known stored pool (both.keeps stored held) is once long (told_after _ _ _ _ both third tell)))

-- ---- the space maps

pub returns-in_err-maps-clause-reads : goal.returns-in_err-maps-clause-reads
returns-in_err-maps-clause-reads g c =
    reads_on _ _ _ _ (reads_on _ _ _ _ (reads_on _ _ _ _ c.in_ok-directory.ensures.reads c.in_ok-names.ensures.reads) c.in_ok-meta.ensures.reads) c.in_err-maps.ensures.reads

pub returns-in_err-maps-clause-refused : goal.returns-in_err-maps-clause-refused
returns-in_err-maps-clause-refused g c =
    let found = c.in_ok-directory.ensures.found in
    let both = reads_on _ _ _ _ c.in_ok-directory.ensures.reads c.in_ok-names.ensures.reads in
    passed_on _ _ _ c.from_residual-in_err-maps.ensures.1 (⊎_elim (λ memory. inl memory) (λ why. inr (inr (record {
      set = found.0;
      rows = _;
      read = found.1;
      walked_set = c.in_ok-meta.meta.set;
      found = c.in_ok-meta.meta.blocks.items;
      walked = subst (λ (spaces : List VdevSpace). IsMetaWalked spaces c.args.birth c.args.root.now c.args.left.now c.walk_meta.new.left c.in_ok-meta.meta.set c.in_ok-meta.meta.blocks.items)
          (spaces_stay _ _ _ both) c.in_ok-meta.ensures.walked;
      mid = c.walk_meta.new.store;
      first = reads_on _ _ _ _ both c.in_ok-meta.ensures.reads;
      why = why;
    }))) c.in_err-maps.ensures.refused)

pub returns-in_err-maps-clause-cause : goal.returns-in_err-maps-clause-cause
returns-in_err-maps-clause-cause g c = passed_on _ _ _ c.from_residual-in_err-maps.ensures.1 (maps_no_room _ _ _ _ _ _ c.in_err-maps.ensures.refused)

pub returns-in_err-maps-clause-known : goal.returns-in_err-maps-clause-known
returns-in_err-maps-clause-known g c =
    let both = reads_on _ _ _ _ c.in_ok-directory.ensures.reads c.in_ok-names.ensures.reads in
    let all = reads_on _ _ _ _ both c.in_ok-meta.ensures.reads in
    let last = c.in_err-maps.ensures.reads in
    let unchanged = sym (spaces_stay _ _ _ all) in
    passed_on _ _ _ c.from_residual-in_err-maps.ensures.1 (λ stored pool held is mapped once long tell.
    let before = told_before _ _ _ _ all last tell in
    let same = c.in_ok-meta.ensures.value stored pool (both.keeps stored held) is (told_after _ _ _ _ both c.in_ok-meta.ensures.reads before) in
    c.in_err-maps.ensures.known stored is.objects is.own is.blocks (all.keeps stored held) (are_of_root stored _ _ pool _ is same.0) (told_after _ _ _ _ all last tell) mapped.maps.maps mapped.maps.table
    (subst (λ (spaces : List VdevSpace). AreRowsOf spaces mapped.maps.maps) unchanged mapped.maps.rows)
    (subst (λ (spaces : List VdevSpace). HaveMaps is.objects spaces mapped.maps.maps) unchanged (short_maps_there is.objects _ mapped.maps.maps mapped.maps.short)))

-- ---- the stale spans

pub returns-in_err-spans-clause-reads : goal.returns-in_err-spans-clause-reads
returns-in_err-spans-clause-reads g c =
    let both = reads_on _ _ _ _ c.in_ok-directory.ensures.reads c.in_ok-names.ensures.reads in
    let maps = reads_on _ _ _ _ (reads_on _ _ _ _ both c.in_ok-meta.ensures.reads) c.in_ok-maps.ensures.reads in
    reads_on _ _ _ _ maps c.in_err-spans.ensures.reads

pub returns-in_err-spans-clause-refused : goal.returns-in_err-spans-clause-refused
returns-in_err-spans-clause-refused g c =
    let found = c.in_ok-directory.ensures.found in
    let both = reads_on _ _ _ _ c.in_ok-directory.ensures.reads c.in_ok-names.ensures.reads in
    let all = reads_on _ _ _ _ both c.in_ok-meta.ensures.reads in
    passed_on _ _ _ c.from_residual-in_err-spans.ensures.1
    (⊎_elim (λ memory. inl memory) (λ why. inr (inl (behind_maps why)))
    (unread_for (AreRootSpansUnread c.args.store.now c.read_stale_spans.new.store c.args.missing.now c.args.birth c.args.root.now c.args.left.now c.walk_meta.new.left) c.in_err-spans.field-0.0
    (⊎_elim (λ memory. inl memory) (λ why. inr (record {
      set = found.0;
      rows = _;
      read = found.1;
      walked_set = c.in_ok-meta.meta.set;
      found = c.in_ok-meta.meta.blocks.items;
      walked = subst (λ (spaces : List VdevSpace). IsMetaWalked spaces c.args.birth c.args.root.now c.args.left.now c.walk_meta.new.left c.in_ok-meta.meta.set c.in_ok-meta.meta.blocks.items)
          (spaces_stay _ _ _ both) c.in_ok-meta.ensures.walked;
      maps = c.in_ok-maps.maps.items;
      loaded = subst (λ (spaces : List VdevSpace). AreFreeFound spaces c.in_ok-meta.meta.set c.args.root.now.birth c.in_ok-maps.maps.items) (spaces_stay _ _ _ all) c.in_ok-maps.ensures.found;
      mid = c.read_maps.new.store;
      first = reads_on _ _ _ _ all c.in_ok-maps.ensures.reads;
      why = why;
    })) c.in_err-spans.ensures.refused)))

pub returns-in_err-spans-clause-cause : goal.returns-in_err-spans-clause-cause
returns-in_err-spans-clause-cause g c = passed_on _ _ _ c.from_residual-in_err-spans.ensures.1 (of_read_no_room c.in_err-spans.field-0.0 c.in_err-spans.ensures.cause)

pub returns-in_err-spans-clause-known : goal.returns-in_err-spans-clause-known
returns-in_err-spans-clause-known g c =
    let both = reads_on _ _ _ _ c.in_ok-directory.ensures.reads c.in_ok-names.ensures.reads in
    let third = c.in_ok-meta.ensures.reads in
    let all = reads_on _ _ _ _ both third in
    let maps = reads_on _ _ _ _ all c.in_ok-maps.ensures.reads in
    let last = c.in_err-spans.ensures.reads in
    passed_on _ _ _ c.from_residual-in_err-spans.ensures.1 (λ stored pool held is mapped once long tell.
    let before_maps = told_before _ _ _ _ all c.in_ok-maps.ensures.reads (told_before _ _ _ _ maps last tell) in
    let same = c.in_ok-meta.ensures.value stored pool (both.keeps stored held) is (told_after _ _ _ _ both third before_maps) in
    lossy c.in_err-spans.field-0.0
    (⊎_elim (λ loss. loss) (λ none. absurd (none.1 is.stale is.spans))
    (c.in_err-spans.ensures.known stored is.objects is.own is.blocks (maps.keeps stored held) (are_of_root stored _ _ pool _ is same.0) (told_after _ _ _ _ maps last tell))))

-- ---- the numbers that are free

pub returns-in_err-kept-clause-reads : goal.returns-in_err-kept-clause-reads
returns-in_err-kept-clause-reads g c =
    let both = reads_on _ _ _ _ c.in_ok-directory.ensures.reads c.in_ok-names.ensures.reads in
    let maps = reads_on _ _ _ _ (reads_on _ _ _ _ both c.in_ok-meta.ensures.reads) c.in_ok-maps.ensures.reads in
    reads_on _ _ _ _ maps c.in_ok-spans.ensures.reads

pub returns-in_err-kept-clause-known : goal.returns-in_err-kept-clause-known
returns-in_err-kept-clause-known g c =
    passed_on _ NoMemory _ c.from_residual-in_err-kept.ensures.1 (λ stored pool held is mapped once long tell. inl refl)

-- ---- all of them

pub returns-clause-reads : goal.returns-clause-reads
returns-clause-reads g c =
    let both = reads_on _ _ _ _ c.in_ok-directory.ensures.reads c.in_ok-names.ensures.reads in
    let maps = reads_on _ _ _ _ (reads_on _ _ _ _ both c.in_ok-meta.ensures.reads) c.in_ok-maps.ensures.reads in
    reads_on _ _ _ _ maps c.in_ok-spans.ensures.reads

pub returns-clause-value : goal.returns-clause-value
returns-clause-value g c = λ stored pool held is tell.
    let first = c.in_ok-directory.ensures.reads in
    let second = c.in_ok-names.ensures.reads in
    let both = reads_on _ _ _ _ first second in
    let third = c.in_ok-meta.ensures.reads in
    let all = reads_on _ _ _ _ both third in
    let last = c.in_ok-maps.ensures.reads in
    let maps = reads_on _ _ _ _ all last in
    let spans = c.in_ok-spans.ensures.reads in
    let before_spans = told_before _ _ _ _ maps spans tell in
    let before_maps = told_before _ _ _ _ all last before_spans in
    let before = told_before _ _ _ _ both third before_maps in
    let rows = c.in_ok-directory.ensures.value stored pool held is (told_before _ _ _ _ first second before) in
    let meta = c.in_ok-meta.ensures.value stored pool (both.keeps stored held) is (told_after _ _ _ _ both third before_maps) in
    record {
      is = is;
      rows = c.in_ok-kept.ensures ∙ rows;
      names = c.in_ok-names.ensures.value stored pool (first.keeps stored held) is rows (told_after _ _ _ _ first second before);
      blocks = meta.1;
      maps = subst (λ (spaces : List VdevSpace). AreReadMaps is.objects spaces c.in_ok-maps.maps.items) (spaces_stay _ _ _ all)
          (c.in_ok-maps.ensures.value stored is.objects is.own is.blocks (all.keeps stored held) (are_of_root stored _ _ pool _ is meta.0) (told_after _ _ _ _ all last before_spans));
      spans = c.in_ok-spans.ensures.one stored is.objects is.own is.blocks (maps.keeps stored held) (are_of_root stored _ _ pool _ is meta.0) (told_after _ _ _ _ maps spans tell) is.stale is.spans;
    }

pub returns-clause-found : goal.returns-clause-found
returns-clause-found g c =
    let first = c.in_ok-directory.ensures.reads in
    let both = reads_on _ _ _ _ first c.in_ok-names.ensures.reads in
    let all = reads_on _ _ _ _ both c.in_ok-meta.ensures.reads in
    let found = c.in_ok-directory.ensures.found in
    record {
      set = found.0;
      directory = subst (AreRowsFound c.args.store.now.spaces c.args.birth c.args.root.now found.0) (sym c.in_ok-kept.ensures) found.1;
      names = subst (λ (rows : List DirectoryRow). AreNamesFound c.args.store.now.spaces c.args.birth c.args.root.now rows c.in_ok-names.names) (sym c.in_ok-kept.ensures)
          (subst (λ (spaces : List VdevSpace). AreNamesFound spaces c.args.birth c.args.root.now c.in_ok-directory.directory c.in_ok-names.names) (spaces_stay _ _ _ first) c.in_ok-names.ensures.found);
      walked_set = c.in_ok-meta.meta.set;
      blocks = subst (λ (spaces : List VdevSpace). IsMetaWalked spaces c.args.birth c.args.root.now c.args.left.now c.walk_meta.new.left c.in_ok-meta.meta.set c.in_ok-meta.meta.blocks.items)
          (spaces_stay _ _ _ both) c.in_ok-meta.ensures.walked;
      maps = subst (λ (spaces : List VdevSpace). AreFreeFound spaces c.in_ok-meta.meta.set c.args.root.now.birth c.in_ok-maps.maps.items) (spaces_stay _ _ _ all) c.in_ok-maps.ensures.found;
      spans = subst (λ (spaces : List VdevSpace). AreSpansFound spaces c.in_ok-meta.meta.set c.args.root.now.birth c.in_ok-spans.spans)
          (spaces_stay _ _ _ (reads_on _ _ _ _ all c.in_ok-maps.ensures.reads)) c.in_ok-spans.ensures.found;
    }

pub returns-clause-sets : goal.returns-clause-sets
returns-clause-sets g c =
    let both = reads_on _ _ _ _ c.in_ok-directory.ensures.reads c.in_ok-names.ensures.reads in
    let all = reads_on _ _ _ _ both c.in_ok-meta.ensures.reads in
    subst (λ (spaces : List VdevSpace). AreSetsOf spaces c.in_ok-maps.maps.items) (spaces_stay _ _ _ all) c.in_ok-maps.ensures.sets
