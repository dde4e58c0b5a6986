-- What is known of maps that were read.
use Rattle.std.proofs.Common.{◌≡◌, ◌≢◌, ◌<◌, ℕ, List, [], ◌∷◌, Option, All, AllPairs, Contains, length, get_or, sym, subst, ◌∙◌, arith}
use Rattle.std.specs.List.{AllZip}
use Rattle.std.proofs.lemmas.List.Elements.{All-cons, All-contains, All-head, All-nil, All-tail, Contains-get_or}
use Rattle.std.proofs.lemmas.List.Kept.{AllPairs-cons}
use Rattle.block_store.specs.Maps.{HasSectors}
use Rattle.block_store.specs.Places.{shapes_of}
use Rattle.block_store.specs.Shapes.{metaslab_sectors}
use Rattle.block_store.specs.Spaces.{VdevSpace}
use Rattle.block_store.specs.Steps.{OnlyReadsBlocks}
use Rattle.block_store.specs.Store.{Store}
use Rattle.block_store.proofs.Steps.{reads_on}
use Rattle.dnode.specs.declared.object_set.ObjectSet.{ObjectSet}
use Rattle.meta_objset.specs.SpaceMaps.{IsEarlier}
use Rattle.meta_objset.specs.declared.space_maps.MetaslabMap.{MetaslabMap}
use Rattle.meta_objset.specs.declared.space_maps.MetaslabPlace.{MetaslabPlace}
use Rattle.meta_objset.proofs.Edits.{pairs_head, pairs_tail}
use Rattle.dnode_tree.proofs.Getting.{zip_weaker}
use Rattle.objset.specs.Objects.{Object}
use Rattle.space_map_objects.specs.Maps.{IsMapRefused}
use Rattle.space_map_objects.specs.declared.refusal.Refusal.{Refusal}
use Rattle.pool_maps.specs.declared.reading.FreeMetaslab.{FreeMetaslab}
use Rattle.pool_maps.specs.Loads.{AreApart, AreFreeFound, AreReadMaps, AreSetsOf, IsFreeFound, IsReadOf, IsRowUnread}
use Rattle.pool_maps.specs.Maps.{AreRowsOf, HasMapPlace}
use Rattle.pool_maps.proofs.Planned.{all_from, never_earlier}
use Rattle.pool_maps.proofs.Underway.{spaces_stay}
use Rattle.pool_maps.proofs.Whole.{own_sectors, place_by, sectors_back}

-- ---- lists side by side

pub zip_right : (Q : MetaslabMap → Type 0) (P : FreeMetaslab → Type 0) (R : MetaslabMap → FreeMetaslab → Type 0) (rows : List MetaslabMap) (read : List FreeMetaslab)
    → ((row : MetaslabMap) (r : FreeMetaslab) → Q row → R row r → P r) → All Q rows → AllZip R rows read → All P read
zip_right Q P R [] [] so all zip = All-nil P
zip_right Q P R [] (r ∷ read) so all zip = absurd zip
zip_right Q P R (row ∷ rows) [] so all zip = absurd zip
zip_right Q P R (row ∷ rows) (r ∷ read) so all zip = All-cons P r read (so row r (All-head Q row rows all) zip.0) (zip_right Q P R rows read so (All-tail Q row rows all) zip.1)

pub apart_of : (R : MetaslabMap → FreeMetaslab → Type 0) (rows : List MetaslabMap) (read : List FreeMetaslab) → ((row : MetaslabMap) (r : FreeMetaslab) → R row r → r.metaslab ≡ row.metaslab)
    → AllPairs (λ (m n : MetaslabMap). IsEarlier m.metaslab n.metaslab) rows → AllZip R rows read → AreApart read
apart_of R [] [] so order zip = λ i j d less low. absurd (omega (arith, low))
apart_of R [] (r ∷ read) so order zip = absurd zip
apart_of R (row ∷ rows) [] so order zip = absurd zip
apart_of R (row ∷ rows) (r ∷ read) so order zip =
    let behind = pairs_head (λ (m n : MetaslabMap). IsEarlier m.metaslab n.metaslab) row rows order in
    let others : All (λ (b : FreeMetaslab). r.metaslab ≢ b.metaslab) read =
    zip_right (λ (m : MetaslabMap). IsEarlier row.metaslab m.metaslab) (λ (b : FreeMetaslab). r.metaslab ≢ b.metaslab) R rows read
    (λ m b earlier is same. never_earlier row.metaslab m.metaslab (sym (so row r zip.0) ∙ same ∙ so m b is) earlier) behind zip.1 in
    AllPairs-cons (λ (a b : FreeMetaslab). a.metaslab ≢ b.metaslab) r read others
    (apart_of R rows read so (pairs_tail (λ (m n : MetaslabMap). IsEarlier m.metaslab n.metaslab) row rows order) zip.1)

-- ---- whatever the set is

pub sets_of_found : (spaces : List VdevSpace) (set : ObjectSet) (birth : ℕ) (read : List FreeMetaslab) → AreFreeFound spaces set birth read → AreSetsOf spaces read
sets_of_found spaces set birth read found = record {
  places = zip_right (λ (m : MetaslabMap). HasMapPlace spaces m.metaslab) (λ (r : FreeMetaslab). HasMapPlace spaces r.metaslab) (IsFreeFound spaces set birth) found.maps read
      (λ row r there is. subst (HasMapPlace spaces) (sym is.metaslab) there) found.rows.places found.each;
  sizes = zip_right (λ (m : MetaslabMap). HasMapPlace spaces m.metaslab) (λ (r : FreeMetaslab). HasSectors spaces r.metaslab.vdev r.free.sectors) (IsFreeFound spaces set birth) found.maps read
      (λ row r there is. subst (λ place. HasSectors spaces place.vdev r.free.sectors) (sym is.metaslab) is.sectors) found.rows.places found.each;
  apart = apart_of (IsFreeFound spaces set birth) found.maps read (λ row r is. is.metaslab) found.table.0.order found.each;
}

-- what was read may be loaded
pub read_are_sets : (objects : ℕ → Option Object) (spaces : List VdevSpace) (read : List FreeMetaslab) → AreReadMaps objects spaces read → AreSetsOf spaces read
read_are_sets objects spaces read is = record {
  places = zip_right (λ (m : MetaslabMap). HasMapPlace spaces m.metaslab) (λ (r : FreeMetaslab). HasMapPlace spaces r.metaslab) (IsReadOf objects spaces) is.maps read
      (λ row r there one. subst (HasMapPlace spaces) (sym one.metaslab) there) is.rows.places is.each;
  sizes = zip_right (λ (m : MetaslabMap). HasMapPlace spaces m.metaslab) (λ (r : FreeMetaslab). HasSectors spaces r.metaslab.vdev r.free.sectors) (IsReadOf objects spaces) is.maps read
      (λ row r there one. subst (λ place. HasSectors spaces place.vdev r.free.sectors) (sym one.metaslab) one.sectors) is.rows.places is.each;
  apart = apart_of (IsReadOf objects spaces) is.maps read (λ row r one. one.metaslab) is.table.0.order is.each;
}

-- ---- what is refused

pub unread_behind : (old mid new : Store) (missing : List ℕ) (set : ObjectSet) (birth : ℕ) (rows : List MetaslabMap) (refusal : Refusal) → OnlyReadsBlocks old mid missing
    → IsRowUnread mid new missing set birth rows refusal → IsRowUnread old new missing set birth rows refusal
unread_behind old mid new missing set birth rows refusal first is = record {
  mid = is.mid;
  before = reads_on old mid is.mid missing first is.before;
  row = is.row;
  there = is.there;
  sectors = is.sectors;
  size = subst (λ (spaces : List VdevSpace). HasSectors spaces is.row.metaslab.vdev is.sectors) (spaces_stay old mid missing first) is.size;
  why = is.why;
}

pub row_unread : (old now new : Store) (missing : List ℕ) (set : ObjectSet) (birth : ℕ) (rows : List MetaslabMap) (i : ℕ) (none : MetaslabMap) (refusal : Refusal) → i < length rows
    → OnlyReadsBlocks old now missing → HasMapPlace old.spaces (get_or rows i none).metaslab
    → ((sectors : ℕ) → HasSectors now.spaces (get_or rows i none).metaslab.vdev sectors → IsMapRefused now new missing set birth (get_or rows i none).object sectors refusal)
    → IsRowUnread old new missing set birth rows refusal
row_unread old now new missing set birth rows i none refusal low before there why =
    let row = get_or rows i none in
    let sectors = metaslab_sectors there.space.shape in
    let size = own_sectors old.spaces row.metaslab there in
    record {
      mid = now;
      before = before;
      row = row;
      there = Contains-get_or rows i none low;
      sectors = sectors;
      size = size;
      why = why sectors (subst (λ (spaces : List VdevSpace). HasSectors spaces row.metaslab.vdev sectors) (sym (spaces_stay old now missing before)) size);
    }

-- ---- other vdevs of the same shapes

rows_stay : (spaces after : List VdevSpace) (maps : List MetaslabMap) → shapes_of after ≡ shapes_of spaces → AreRowsOf spaces maps → AreRowsOf after maps
rows_stay spaces after maps shapes rows = record {
  places = all_from (λ (m : MetaslabMap). HasMapPlace after m.metaslab) maps
      (λ row held. place_by spaces after row.metaslab shapes (All-contains (λ (m : MetaslabMap). HasMapPlace spaces m.metaslab) maps row rows.places held));
  behind = rows.behind;
  apart = rows.apart;
}

sectors_on : (spaces after : List VdevSpace) (place : MetaslabPlace) (sectors : ℕ) → shapes_of after ≡ shapes_of spaces → HasMapPlace spaces place
    → HasSectors spaces place.vdev sectors → HasSectors after place.vdev sectors
sectors_on spaces after place sectors shapes there has = sectors_back after spaces place sectors (sym shapes) (place_by spaces after place shapes there) has

pub read_stay : (objects : ℕ → Option Object) (spaces after : List VdevSpace) (maps : List FreeMetaslab) → shapes_of after ≡ shapes_of spaces → AreReadMaps objects spaces maps
    → AreReadMaps objects after maps
read_stay objects spaces after maps shapes is = record {
  maps = is.maps;
  table = is.table;
  rows = rows_stay spaces after is.maps shapes is.rows;
  each = zip_weaker (λ (m : MetaslabMap). HasMapPlace spaces m.metaslab) (IsReadOf objects spaces) (IsReadOf objects after) is.maps maps
      (λ row r there one. record { metaslab = one.metaslab; object = one.object; sectors = sectors_on spaces after row.metaslab r.free.sectors shapes there one.sectors; map = one.map })
      is.rows.places is.each;
}

pub sets_stay : (spaces after : List VdevSpace) (maps : List FreeMetaslab) → shapes_of after ≡ shapes_of spaces → AreSetsOf spaces maps → AreSetsOf after maps
sets_stay spaces after maps shapes sets =
    let there : (r : FreeMetaslab) → Contains maps r → HasMapPlace spaces r.metaslab = λ r held. All-contains (λ (x : FreeMetaslab). HasMapPlace spaces x.metaslab) maps r sets.places held in
    record {
      places = all_from (λ (r : FreeMetaslab). HasMapPlace after r.metaslab) maps (λ r held. place_by spaces after r.metaslab shapes (there r held));
      sizes = all_from (λ (r : FreeMetaslab). HasSectors after r.metaslab.vdev r.free.sectors) maps
          (λ r held. sectors_on spaces after r.metaslab r.free.sectors shapes (there r held)
          (All-contains (λ (x : FreeMetaslab). HasSectors spaces x.metaslab.vdev x.free.sectors) maps r sets.sizes held));
      apart = sets.apart;
    }
