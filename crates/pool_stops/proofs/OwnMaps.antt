-- What is read of a root has its places: its space maps are of metaslabs of the pool, and its own blocks lie behind these.
use Rattle.std.proofs.Common.{ℕ, ◌≡◌, ◌≢◌, inl, inr, suc, List, [], ◌∷◌, ◌++◌, Option, All, AllPairs, refl, sym, ap, subst, ◌∙◌, arith, append_assoc, slice_index_or}
use Rattle.std.specs.List.{AllZip}
use Rattle.std.proofs.lemmas.List.Elements.{All-nil, All-cons, Contains-append_left}
use Rattle.std.proofs.lemmas.List.Kept.{AllPairs-cons}
use Rattle.block_pointer.specs.declared.block.Block.{Block}
use Rattle.block_store.specs.Maps.{HasSectors}
use Rattle.block_store.specs.Releases.{CopyAt, copies_of, copies_of_all}
use Rattle.block_store.specs.Spaces.{VdevSpace}
use Rattle.block_store.specs.declared.shape.VdevShape.{VdevShape}
use Rattle.meta_objset.specs.SpaceMaps.{IsEarlier}
use Rattle.meta_objset.specs.declared.space_maps.MetaslabMap.{MetaslabMap}
use Rattle.meta_objset.specs.declared.space_maps.MetaslabPlace.{MetaslabPlace}
use Rattle.objset.specs.Objects.{Object}
use Rattle.pool_create.specs.Loads.{AreApart, AreReadMaps, AreSetsOf, IsReadOf}
use Rattle.pool_create.specs.Maps.{HasMapPlace}
use Rattle.pool_create.specs.FreeMetaslab.{FreeMetaslab}
use Rattle.pool_create.proofs.OpenOnce.{pairs_front, pairs_tail}
use Rattle.pool_stops.specs.Whole.{AreCopiesApart, LieApart}

-- ---- the maps are of metaslabs of the pool, each of another one

earlier_differs : (place later : MetaslabPlace) → IsEarlier place later → place ≢ later
earlier_differs place later (inl before) same = let vdevs = ap (λ (p : MetaslabPlace). p.vdev) same in omega (arith, before, vdevs)
earlier_differs place later (inr (alike, before)) same = let indices = ap (λ (p : MetaslabPlace). p.index) same in omega (arith, before, indices)

-- what holds of the metaslabs of the rows holds of those of the sets
of_rows : (objects : ℕ → Option Object) (spaces : List VdevSpace) (P : MetaslabPlace → Type 0) (maps : List MetaslabMap) (read : List FreeMetaslab)
    → AllZip (IsReadOf objects spaces) maps read → All (λ row. P row.metaslab) maps → All (λ free. P free.metaslab) read
of_rows objects spaces P [] [] each all = All-nil (λ (free : FreeMetaslab). P free.metaslab)
of_rows objects spaces P [] (free ∷ read) each all = absurd each
of_rows objects spaces P (row ∷ maps) [] each all = absurd each
of_rows objects spaces P (row ∷ maps) (free ∷ read) each all =
    All-cons (λ (it : FreeMetaslab). P it.metaslab) free read (subst P (sym each.0.metaslab) (all 0 row (omega arith)))
    (of_rows objects spaces P maps read each.1 (λ k d within. all (suc k) d (omega (arith, within))))

sizes_of : (objects : ℕ → Option Object) (spaces : List VdevSpace) (maps : List MetaslabMap) (read : List FreeMetaslab) → AllZip (IsReadOf objects spaces) maps read
    → All (λ free. HasSectors spaces free.metaslab.vdev free.free.sectors) read
sizes_of objects spaces [] [] each = All-nil (λ (free : FreeMetaslab). HasSectors spaces free.metaslab.vdev free.free.sectors)
sizes_of objects spaces [] (free ∷ read) each = absurd each
sizes_of objects spaces (row ∷ maps) [] each = absurd each
sizes_of objects spaces (row ∷ maps) (free ∷ read) each =
    All-cons (λ (it : FreeMetaslab). HasSectors spaces it.metaslab.vdev it.free.sectors) free read
    (subst (λ (place : MetaslabPlace). HasSectors spaces place.vdev free.free.sectors) (sym each.0.metaslab) each.0.sectors)
    (sizes_of objects spaces maps read each.1)

abbrev Ascend : MetaslabMap → MetaslabMap → Type 0
Ascend row later = IsEarlier row.metaslab later.metaslab

sets_apart : (objects : ℕ → Option Object) (spaces : List VdevSpace) (maps : List MetaslabMap) (read : List FreeMetaslab) → AllZip (IsReadOf objects spaces) maps read
    → AllPairs Ascend maps → AreApart read
sets_apart objects spaces [] [] each order = λ i j d before within. absurd (omega (arith, within))
sets_apart objects spaces [] (free ∷ read) each order = absurd each
sets_apart objects spaces (row ∷ maps) [] each order = absurd each
sets_apart objects spaces (row ∷ maps) (free ∷ read) each order =
    AllPairs-cons (λ (it later : FreeMetaslab). it.metaslab ≢ later.metaslab) free read
    (of_rows objects spaces (λ place. free.metaslab ≢ place) maps read each.1 (λ k d within.
    subst (λ (place : MetaslabPlace). place ≢ (slice_index_or maps k d).metaslab) (sym each.0.metaslab)
    (earlier_differs row.metaslab (slice_index_or maps k d).metaslab (order 0 (suc k) d (omega arith) (omega (arith, within))))))
    (sets_apart objects spaces maps read each.1 (pairs_tail Ascend row maps order))

pub read_maps_are_sets : (objects : ℕ → Option Object) (spaces : List VdevSpace) (read : List FreeMetaslab) → AreReadMaps objects spaces read → AreSetsOf spaces read
read_maps_are_sets objects spaces read are = record {
  places = of_rows objects spaces (HasMapPlace spaces) are.maps read are.each are.rows.places;
  sizes = sizes_of objects spaces are.maps read are.each;
  apart = sets_apart objects spaces are.maps read are.each are.table.0.order;
}

-- ---- some of the blocks that lie apart

copies_split : (blocks others : List Block) → copies_of_all (blocks ++ others) ≡ copies_of_all blocks ++ copies_of_all others
copies_split [] others = refl
copies_split (block ∷ blocks) others =
    ap (λ rest. copies_of block ++ rest) (copies_split blocks others) ∙ sym (append_assoc (copies_of block) (copies_of_all blocks) (copies_of_all others))

pub first_apart : (shapes : List VdevShape) (blocks others : List Block) → LieApart shapes (blocks ++ others) → LieApart shapes blocks
first_apart shapes blocks others apart = record {
  some = λ block held. apart.some block (Contains-append_left blocks others block held);
  places = λ spaces same block held. apart.places spaces same block (Contains-append_left blocks others block held);
  apart = pairs_front AreCopiesApart (copies_of_all blocks) (copies_of_all others)
      (subst (λ (them : List CopyAt). AllPairs AreCopiesApart them) (copies_split blocks others) apart.apart);
}
