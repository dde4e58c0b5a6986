-- An object has one directory, or one record.
use Rattle.std.proofs.Common.{◌≡◌, ℕ, ◌-◌, List, [], ◌∷◌, ◌++◌, length, replicate, All, Option, Some, refl, sym, ap, ◌∙◌, arith}
use Rattle.std.proofs.lemmas.List.{length-append}
use Rattle.std.proofs.lemmas.List.Elements.{All-head, All-tail}
use Rattle.words.specs.Words.{word_bytes}
use Rattle.words.proofs.WordLemmas.{length-word_bytes}
use Rattle.block_pointer.specs.declared.pointer.BlockPtr.TheVariants.{Block as At}
use Rattle.block_pointer.specs.Pointer.{spelling}
use Rattle.dnode_tree.proofs.Spellings.{at_word, front_pointer, parts_same, words_same}
use Rattle.objset.specs.Objects.{Object}
use Rattle.object_table.proofs.Readings.{table_once}
use Rattle.meta_objset.specs.declared.directory.DirectoryRow.{DirectoryRow}
use Rattle.meta_objset.specs.declared.record.DatasetKind.{DatasetKind}
use Rattle.meta_objset.specs.declared.record.DatasetKind.TheVariants.{Volume, Snapshot}
use Rattle.meta_objset.specs.declared.record.DatasetRecord.{DatasetRecord}
use Rattle.meta_objset.specs.Datasets.{HasRecord}
use Rattle.meta_objset.specs.Directory.{FitsRow, row_bytes, rows_bytes}
use Rattle.meta_objset.specs.Names.{IsNamed}
use Rattle.meta_objset.specs.Reading.{HasDirectory, directory_kind}
use Rattle.meta_objset.specs.Record.{SpellsRecord, kind_word, record_words}
use Rattle.meta_objset.proofs.Naming.{first_zero_is, no_zero_before, zero_behind}
use Rattle.meta_objset.proofs.RecordObjects.{record_there}
use Rattle.meta_objset.proofs.Records.{AreWords-record, block_is_word}
use Rattle.meta_objset.proofs.Rows.{name_len, row_len}

-- ---- names

pub name_once : (padded name other : List ℕ) → IsNamed padded name → IsNamed padded other → name ≡ other
name_once padded name other one two =
    let len : length name ≡ length other = first_zero_is padded other (length name) two (zero_behind padded name one) (λ k lt. no_zero_before padded name k one lt) in
    (parts_same name other (replicate (56 - length name) 0) (replicate (56 - length other) 0) len (sym one.padded_is ∙ two.padded_is)).0

-- ---- directories

row_once : (row other : DirectoryRow) → FitsRow row → FitsRow other → row_bytes row ≡ row_bytes other → row ≡ other
row_once row other fits fit same =
    let parts = parts_same row.name other.name (word_bytes (row.object ∷ [])) (word_bytes (other.object ∷ [])) (name_len row fits ∙ sym (name_len other fit)) same in
    let name = parts.0 in
    let object : row.object ≡ other.object = at_word 0 (row.object ∷ []) (other.object ∷ []) (words_same (row.object ∷ []) (other.object ∷ []) (fits.object, tt) (fit.object, tt) parts.1) in
    λ i. record { name = name i; object = object i }

not_none : (row : DirectoryRow) (rows : List DirectoryRow) → FitsRow row → [] ≡ rows_bytes (row ∷ rows) → ⊥
not_none row rows fits same = omega (arith, ap length same, length-append (row_bytes row) (rows_bytes rows), row_len row fits)

rows_once : (rows others : List DirectoryRow) → All FitsRow rows → All FitsRow others → rows_bytes rows ≡ rows_bytes others → rows ≡ others
rows_once [] [] fits fit same = refl
rows_once [] (other ∷ others) fits fit same = absurd (not_none other others (All-head FitsRow other others fit) same)
rows_once (row ∷ rows) [] fits fit same = absurd (not_none row rows (All-head FitsRow row rows fits) (sym same))
rows_once (row ∷ rows) (other ∷ others) fits fit same =
    let first = All-head FitsRow row rows fits in
    let first_too = All-head FitsRow other others fit in
    let parts = parts_same (row_bytes row) (row_bytes other) (rows_bytes rows) (rows_bytes others) (row_len row first ∙ sym (row_len other first_too)) same in
    ap (λ (r : DirectoryRow). r ∷ rows) (row_once row other first first_too parts.0)
    ∙ ap (λ (rs : List DirectoryRow). other ∷ rs) (rows_once rows others (All-tail FitsRow row rows fits) (All-tail FitsRow other others fit) parts.1)

pub directory_once : (object : Option Object) (rows others : List DirectoryRow) → HasDirectory object rows → HasDirectory object others → rows ≡ others
directory_once object rows others one two = rows_once rows others one.0.each two.0.each (table_once directory_kind object (rows_bytes rows) (rows_bytes others) one.1 two.1)

-- ---- records

kind_once : (k l : DatasetKind) → kind_word k ≡ kind_word l → k ≡ l
kind_once Volume Volume same = refl
kind_once Volume Snapshot same = absurd (omega (arith, same))
kind_once Snapshot Volume same = absurd (omega (arith, same))
kind_once Snapshot Snapshot same = refl

spelled_once : (bytes : List ℕ) (r s : DatasetRecord) → SpellsRecord bytes r → SpellsRecord bytes s → r ≡ s
spelled_once bytes r s one two =
    let parts = parts_same (word_bytes (record_words r)) (word_bytes (record_words s)) (spelling (At r.object_set) ++ replicate 256 0) (spelling (At s.object_set) ++ replicate 256 0)
    (length-word_bytes (record_words r) ∙ sym (length-word_bytes (record_words s))) (sym one.1 ∙ two.1) in
    let words = words_same (record_words r) (record_words s) (AreWords-record r one.0 (block_is_word r.block_size one.0.record_is.block)) (AreWords-record s two.0 (block_is_word s.block_size two.0.record_is.block)) parts.0 in
    let kind = kind_once r.kind s.kind (at_word 0 (record_words r) (record_words s) words) in
    let size : r.size ≡ s.size = at_word 1 (record_words r) (record_words s) words in
    let block_size : r.block_size ≡ s.block_size = at_word 2 (record_words r) (record_words s) words in
    let created : r.created ≡ s.created = at_word 3 (record_words r) (record_words s) words in
    let previous : r.previous ≡ s.previous = at_word 4 (record_words r) (record_words s) words in
    let next : r.next ≡ s.next = at_word 5 (record_words r) (record_words s) words in
    let clones : r.clones ≡ s.clones = at_word 6 (record_words r) (record_words s) words in
    let dead_list : r.dead_list ≡ s.dead_list = at_word 7 (record_words r) (record_words s) words in
    let pointer : At r.object_set ≡ At s.object_set = front_pointer (At r.object_set) (At s.object_set) (replicate 256 0) one.0.object_set two.0.object_set parts.1 in
    let object_set : r.object_set ≡ s.object_set = cc in
    λ i. record {
      kind = kind i;
      size = size i;
      block_size = block_size i;
      created = created i;
      previous = previous i;
      next = next i;
      clones = clones i;
      dead_list = dead_list i;
      object_set = object_set i;
    }

pub record_once : (object : Option Object) (r s : DatasetRecord) → HasRecord object r → HasRecord object s → r ≡ s
record_once object r s one two =
    let block = (record_there object two.there r two.is one).0 in
    let bytes : one.bytes ≡ two.bytes = let e : Some one.bytes ≡ Some two.bytes = sym block ∙ two.block in cc in
    spelled_once two.bytes r s (one.spelled.0, sym bytes ∙ one.spelled.1) two.spelled
