-- Maps that are read, row by row.
use Rattle.std.proofs.Common.{◌≡◌, ◌⊎◌, ℕ, List, [], ◌∷◌, ◌++◌, Some, Option, inl, inr, refl, sym, ap, subst, ◌∙◌}
use Rattle.std.specs.List.{AllZip, slice_get}
use Rattle.std.specs.Option.{option_map}
use Rattle.std.proofs.lemmas.Option.{same_Some}
use Rattle.block_pointer.specs.declared.block.Block.{Block}
use Rattle.block_store.specs.Blocks.{Contents}
use Rattle.block_store.specs.Maps.{HasSectors}
use Rattle.block_store.specs.Shapes.{metaslab_sectors}
use Rattle.block_store.specs.Spaces.{VdevSpace}
use Rattle.block_store.specs.Steps.{AnswersTell, OnlyReadsBlocks}
use Rattle.block_store.specs.Store.{Store, Holds}
use Rattle.block_store.specs.declared.refusal.Refusal.{Refusal as StoreRefusal}
use Rattle.block_store.specs.declared.refusal.Refusal.TheVariants.{NoMemory as NoStoreMemory, DiskFault, NoSpace, BadPointer, BadDigest, BadConfig}
use Rattle.block_store.specs.declared.shape.VdevShape.{VdevShape}
use Rattle.block_store.proofs.Steps.{reads_none, reads_on}
use Rattle.block_store.proofs.Telling.{read_after, read_before}
use Rattle.dnode.specs.declared.object_set.ObjectSet.{ObjectSet}
use Rattle.dnode_tree.proofs.Getting.{zip_append}
use Rattle.meta_objset.specs.Found.{AreMapRows, IsRowsRefused}
use Rattle.meta_objset.specs.SpaceMaps.{maps_kind}
use Rattle.meta_objset.specs.declared.space_maps.MetaslabMap.{MetaslabMap}
use Rattle.objset.specs.Objects.{Object, AreObjects}
use Rattle.space_map.specs.FreeRuns.{FreeRuns}
use Rattle.space_map_objects.specs.Maps.{HasMap}
use Rattle.space_map_objects.specs.Refused.{of_read}
use Rattle.space_map_objects.specs.declared.refusal.Refusal.TheVariants.{NoMemory}
use Rattle.pool_maps.specs.declared.reading.FreeMetaslab.{FreeMetaslab}
use Rattle.pool_maps.specs.Loads.{AreMapsUnread, IsFreeFound, IsReadOf}
use Rattle.pool_maps.proofs.Underway.{spaces_stay}

pub record ReadUpTo (old now : Store) (missing : List ℕ) (set : ObjectSet) (birth : ℕ) (rows : List MetaslabMap) (read : List FreeMetaslab) : Type 0 where
  pub reads : OnlyReadsBlocks old now missing
  pub value : (stored : Contents) (objects : ℕ → Option Object) (own : List Block) (blocks : ℕ → List Block) → Holds old stored
      → AreObjects stored birth set objects own blocks → AnswersTell old now missing → AllZip (IsReadOf objects old.spaces) rows read
  pub found : AllZip (IsFreeFound old.spaces set birth) rows read

pub none_yet : (store : Store) (missing : List ℕ) (set : ObjectSet) (birth : ℕ) → ReadUpTo store store missing set birth [] []
none_yet store missing set birth = record { reads = reads_none store missing; value = λ stored objects own blocks held are tell. tt; found = tt }

pub one_more : (old now new : Store) (missing : List ℕ) (set : ObjectSet) (birth : ℕ) (done : List MetaslabMap) (read : List FreeMetaslab) (row : MetaslabMap) (free : FreeMetaslab)
    → ReadUpTo old now missing set birth done read → OnlyReadsBlocks now new missing
    → ((stored : Contents) (objects : ℕ → Option Object) (own : List Block) (blocks : ℕ → List Block) → Holds now stored → AreObjects stored birth set objects own blocks
    → AnswersTell now new missing → IsReadOf objects now.spaces row free)
    → IsFreeFound now.spaces set birth row free → ReadUpTo old new missing set birth (done ++ row ∷ []) (read ++ free ∷ [])
one_more old now new missing set birth done read row free before reads value found =
    let same = spaces_stay old now missing before.reads in
    record {
      reads = reads_on old now new missing before.reads reads;
      value = λ stored objects own blocks held are tell.
          let sooner = before.value stored objects own blocks held are (read_before old now new missing before.reads reads tell) in
          let this = value stored objects own blocks (before.reads.keeps stored held) are (read_after old now new missing before.reads reads tell) in
          zip_append (IsReadOf objects old.spaces) done (row ∷ []) read (free ∷ []) sooner (subst (λ (spaces : List VdevSpace). IsReadOf objects spaces row free) same this, tt);
      found = zip_append (IsFreeFound old.spaces set birth) done (row ∷ []) read (free ∷ []) before.found
          (subst (λ (spaces : List VdevSpace). IsFreeFound spaces set birth row free) same found, tt);
    }

-- ---- one row

pub shape_sectors : (spaces : List VdevSpace) (vdev sectors : ℕ) (shape : VdevShape) (space : VdevSpace) → option_map (λ (s : VdevSpace). s.shape) (slice_get spaces vdev) ≡ Some shape
    → slice_get spaces vdev ≡ Some space → sectors ≡ metaslab_sectors shape → sectors ≡ metaslab_sectors space.shape
shape_sectors spaces vdev sectors shape space is found size =
    size ∙ ap metaslab_sectors (sym (same_Some space.shape shape (sym (ap (option_map (λ (s : VdevSpace). s.shape)) found) ∙ is)))

pub has_sectors : (spaces : List VdevSpace) (vdev sectors : ℕ) (space : VdevSpace) → slice_get spaces vdev ≡ Some space → sectors ≡ metaslab_sectors space.shape → HasSectors spaces vdev sectors
has_sectors spaces vdev sectors space found size = rw found size

pub size_of : (spaces : List VdevSpace) (vdev sectors : ℕ) (space : VdevSpace) → slice_get spaces vdev ≡ Some space → HasSectors spaces vdev sectors → sectors ≡ metaslab_sectors space.shape
size_of spaces vdev sectors space found has = rw found at has

pub own_map : (object : Option Object) (sectors : ℕ) (free : FreeRuns) → HasMap object sectors free → HasMap object free.sectors free
own_map object sectors free has = subst (λ n. HasMap object n free) (sym has.2.leaves.0) has

-- ---- what is refused

pub maps_unread : (old new : Store) (missing : List ℕ) (set : ObjectSet) (birth : ℕ) (why : StoreRefusal) → (why ≡ NoStoreMemory) ⊎ IsRowsRefused old new missing set birth maps_kind 4 AreMapRows why
    → (of_read why ≡ NoMemory) ⊎ AreMapsUnread old new missing set birth (of_read why)
maps_unread old new missing set birth why (inl memory) = inl (ap of_read memory)
maps_unread old new missing set birth NoStoreMemory (inr refused) = inl refl
maps_unread old new missing set birth DiskFault (inr refused) = inr (inl (DiskFault, refl, refused))
maps_unread old new missing set birth NoSpace (inr refused) = inr (inl (NoSpace, refl, refused))
maps_unread old new missing set birth BadPointer (inr refused) = inr (inl (BadPointer, refl, refused))
maps_unread old new missing set birth BadDigest (inr refused) = inr (inl (BadDigest, refl, refused))
maps_unread old new missing set birth BadConfig (inr refused) = inr (inl (BadConfig, refl, refused))
