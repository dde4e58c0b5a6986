-- An object has one record.
use Rattle.std.proofs.Common.{◌≡◌, ℕ, List, take, drop, Option, Some, refl, sym, ap, ◌∙◌, arith}
use Rattle.block_pointer.specs.Pointer.{spelling}
use Rattle.block_pointer.specs.declared.pointer.BlockPtr.TheVariants.{Block as At}
use Rattle.meta_objset.specs.Datasets.{HasRecord}
use Rattle.meta_objset.specs.Record.{FitsRecord, kind_word, record_words}
use Rattle.meta_objset.specs.declared.record.DatasetKind.{DatasetKind}
use Rattle.meta_objset.specs.declared.record.DatasetKind.TheVariants.{Volume, Snapshot}
use Rattle.meta_objset.specs.declared.record.DatasetRecord.{DatasetRecord}
use Rattle.meta_objset.proofs.Records.{AreWords-record, block_is_word, fields_of}
use Rattle.objset.specs.Objects.{Object}
use Rattle.words.specs.Words.{AreWords, word_bytes}
use Rattle.dataset_chains.proofs.OneBlock.{block_one, word_at, words_one}

kind_one : (a b : DatasetKind) → kind_word a ≡ kind_word b → a ≡ b
kind_one Volume Volume e = refl
kind_one Volume Snapshot e = absurd (omega (arith, e))
kind_one Snapshot Volume e = absurd (omega (arith, e))
kind_one Snapshot Snapshot e = refl

are_words : (r : DatasetRecord) → FitsRecord r → AreWords (record_words r)
are_words r fits = AreWords-record r fits (block_is_word r.block_size fits.record_is.block)

pub one_record : (object : Option Object) (r s : DatasetRecord) → HasRecord object r → HasRecord object s → r ≡ s
one_record object r s one two =
    let there : one.there ≡ two.there = let e : Some one.there ≡ Some two.there = sym one.is ∙ two.is in cc in
    let bytes : one.bytes ≡ two.bytes = let e : Some one.bytes ≡ Some two.bytes = sym one.block ∙ ap (λ (o : Object). o.array 0) there ∙ two.block in cc in
    let first = fields_of one.bytes r one.size one.spelled.1 in
    let second = fields_of two.bytes s two.size two.spelled.1 in
    let spelled : word_bytes (record_words r) ≡ word_bytes (record_words s) = sym first.words_are ∙ ap (take 128) bytes ∙ second.words_are in
    let words : record_words r ≡ record_words s = words_one (record_words r) (record_words s) refl (are_words r one.spelled.0) (are_words s two.spelled.0) spelled in
    let pointer : spelling (At r.object_set) ≡ spelling (At s.object_set) = sym first.pointer_is ∙ ap (λ (bytes : List ℕ). take 128 (drop 128 bytes)) bytes ∙ second.pointer_is in
    let kind = kind_one r.kind s.kind (word_at 0 words) in
    let size : r.size ≡ s.size = word_at 1 words in
    let block_size : r.block_size ≡ s.block_size = word_at 2 words in
    let created : r.created ≡ s.created = word_at 3 words in
    let previous : r.previous ≡ s.previous = word_at 4 words in
    let next : r.next ≡ s.next = word_at 5 words in
    let clones : r.clones ≡ s.clones = word_at 6 words in
    let dead_list : r.dead_list ≡ s.dead_list = word_at 7 words in
    let object_set = block_one r.object_set s.object_set one.spelled.0.object_set two.spelled.0.object_set pointer in
    λ i. record {
      kind = kind i;
      size = size i;
      block_size = block_size i;
      created = created i;
      previous = previous i;
      next = next i;
      clones = clones i;
      dead_list = dead_list i;
      object_set = object_set i;
    }
