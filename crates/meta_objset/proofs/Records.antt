-- Records by their fields.
use Rattle.std.proofs.Common.{◌≡◌, ℕ, ◌+◌, ◌^◌, ◌<◌, List, ◌++◌, length, take, drop, refl, sym, ap, subst, ◌∙◌, arith}
use Rattle.std.specs.Prelude.{replicate, IsTrue}
use Rattle.std.proofs.lemmas.Bool.Decides.{nat_tests}
use Rattle.std.proofs.lemmas.List.{take_at, drop_at, take-append-drop, drop-drop, length-append, length-replicate}
use Rattle.block_pointer.specs.declared.block.Block.{Block}
use Rattle.block_pointer.specs.declared.pointer.BlockPtr.TheVariants.{Block as At}
use Rattle.block_pointer.specs.Block.{FitsBlock}
use Rattle.block_pointer.specs.Pointer.{Spells, spelling}
use Rattle.words.specs.Words.{AreWords, word_bytes}
use Rattle.words.proofs.WordLemmas.{length-word_bytes}
use Rattle.meta_objset.specs.declared.record.DatasetKind.{DatasetKind}
use Rattle.meta_objset.specs.declared.record.DatasetKind.TheVariants.{Volume, Snapshot}
use Rattle.meta_objset.specs.declared.record.DatasetRecord.{DatasetRecord}
use Rattle.meta_objset.specs.Record.{kind_word, FitsRecord, SpellsRecord, IsRecordRead, record_words, record_bytes, is_block_size}

-- what is left behind one more field
rest_behind : (a b : ℕ) (xs part rest : List ℕ) → drop a xs ≡ part ++ rest → length part ≡ b → drop (a + b) xs ≡ rest
rest_behind a b xs part rest e len = sym (drop-drop b a xs) ∙ ap (drop b) e ∙ drop_at part rest b len

abbrev pub no_bytes : ℕ → List ℕ
no_bytes n = replicate n 0

-- a record by the places where the code cuts it
pub record RecordCut (bytes words pointer zeros : List ℕ) : Type 0 where
  pub words_are : take 128 bytes ≡ words
  pub pointer_is : take 128 (drop 128 bytes) ≡ pointer
  pub zeros_are : drop 256 bytes ≡ zeros

cut_record : (bytes words pointer zeros : List ℕ) → length words ≡ 128 → length pointer ≡ 128 → bytes ≡ words ++ (pointer ++ zeros) → RecordCut bytes words pointer zeros
cut_record bytes words pointer zeros words_len pointer_len e =
    let at128 : drop 128 bytes ≡ pointer ++ zeros = ap (drop 128) e ∙ drop_at words (pointer ++ zeros) 128 words_len in
    record {
      words_are = ap (take 128) e ∙ take_at words (pointer ++ zeros) 128 words_len;
      pointer_is = ap (take 128) at128 ∙ take_at pointer zeros 128 pointer_len;
      zeros_are = rest_behind 128 128 bytes pointer zeros at128 pointer_len;
    }

join_record : (bytes words pointer zeros : List ℕ) → RecordCut bytes words pointer zeros → bytes ≡ words ++ (pointer ++ zeros)
join_record bytes words pointer zeros parts =
    let at128 : drop 128 bytes ≡ pointer ++ zeros =
    sym (take-append-drop 128 (drop 128 bytes)) ∙ ap (λ (x : List ℕ). x ++ drop 128 (drop 128 bytes)) parts.pointer_is ∙ ap (λ (x : List ℕ). pointer ++ x) (drop-drop 128 128 bytes ∙ parts.zeros_are) in
    sym (take-append-drop 128 bytes) ∙ ap (λ (x : List ℕ). x ++ drop 128 bytes) parts.words_are ∙ ap (λ (x : List ℕ). words ++ x) at128

-- words and a pointer that are put over zeros
pub record_put : (words pointer one two : List ℕ) → length words ≡ 128 → one ≡ words ++ replicate 384 0 → two ≡ take 128 one ++ (pointer ++ drop 256 one) → two ≡ words ++ (pointer ++ replicate 256 0)
record_put words pointer one two len first second =
    let zeros : List ℕ = replicate 384 0 in
    let front : take 128 one ≡ words = ap (take 128) first ∙ take_at words zeros 128 len in
    let back : drop 256 one ≡ replicate 256 0 = rest_behind 128 128 one (replicate 128 0) (replicate 256 0) (ap (drop 128) first ∙ drop_at words zeros 128 len) refl in
    second ∙ ap (λ (x : List ℕ). x ++ (pointer ++ drop 256 one)) front ∙ ap (λ (x : List ℕ). words ++ (pointer ++ x)) back

-- zeros by their own number, and by another
pub own_zeros : (n : ℕ) (xs : List ℕ) → length xs ≡ n → xs ≡ no_bytes n → xs ≡ no_bytes (length xs)
own_zeros n xs len e = e ∙ ap no_bytes (sym len)

pub their_zeros : (n : ℕ) (xs : List ℕ) → length xs ≡ n → xs ≡ no_bytes (length xs) → xs ≡ no_bytes n
their_zeros n xs len e = e ∙ ap no_bytes len

length-record : (r : DatasetRecord) → length (record_bytes r) ≡ 384 + length (spelling (At r.object_set))
length-record r =
    let words = word_bytes (record_words r) in
    let pointer = spelling (At r.object_set) in
    omega (arith, length-append words (pointer ++ no_bytes 256), length-append pointer (no_bytes 256), length-word_bytes (record_words r), length-replicate {A = ℕ} 256 0)

abbrev pub CutAs : List ℕ → DatasetRecord → Type 0
CutAs bytes r = RecordCut bytes (word_bytes (record_words r)) (spelling (At r.object_set)) (no_bytes 256)

pub fields_of : (bytes : List ℕ) (r : DatasetRecord) → length bytes ≡ 512 → bytes ≡ record_bytes r → CutAs bytes r
fields_of bytes r len e =
    cut_record bytes (word_bytes (record_words r)) (spelling (At r.object_set)) (no_bytes 256) (length-word_bytes (record_words r)) (omega (arith, ap length e, length-record r, len)) e

kind_is_word : (k : DatasetKind) → kind_word k < 2 ^ 64
kind_is_word Volume = omega arith
kind_is_word Snapshot = omega arith

pub AreWords-record : (r : DatasetRecord) → FitsRecord r → r.block_size < 2 ^ 64 → AreWords (record_words r)
AreWords-record r fits block = (
  kind_is_word r.kind,
  (omega (arith, fits.record_is.most), (block, (fits.words.created, (fits.words.previous, (fits.words.next, (fits.words.clones, (fits.words.dead_list, (omega arith, (omega arith, (omega arith, (omega arith, (omega arith, (omega arith, (omega arith, (omega arith, tt))))))))))))))),
)

-- what was read of a record
pub record IsReadFrom (bytes words : List ℕ) (object_set : Block) (pointer_bytes : List ℕ) : Type 0 where
  pub words_at : take 128 bytes ≡ word_bytes words
  pub pointer_at : pointer_bytes ≡ take 128 (drop 128 bytes)
  pub spelled : Spells pointer_bytes (At object_set)
  pub zeros : drop 256 bytes ≡ no_bytes 256

-- the record that the fields make is spelled by the bytes, where the numbers are words
pub record_made : (bytes words : List ℕ) (object_set : Block) (pointer_bytes : List ℕ) (r : DatasetRecord) → IsReadFrom bytes words object_set pointer_bytes → AreWords words → IsRecordRead words object_set r → SpellsRecord bytes r
record_made bytes words object_set pointer_bytes r from are is =
    let parts : CutAs bytes r = record {
      words_are = from.words_at ∙ ap word_bytes is.words_are;
      pointer_is = sym from.pointer_at ∙ from.spelled.1 ∙ ap (λ (b : Block). spelling (At b)) is.object_set_is;
      zeros_are = from.zeros;
    } in
    let known : AreWords (record_words r) = subst AreWords is.words_are are in (
      record {
        record_is = is.record_is;
        words = record { created = known.1.1.1.0; previous = known.1.1.1.1.0; next = known.1.1.1.1.1.0; clones = known.1.1.1.1.1.1.0; dead_list = known.1.1.1.1.1.1.1.0 };
        object_set = subst FitsBlock is.object_set_is from.spelled.0;
      },
      join_record bytes (word_bytes (record_words r)) (spelling (At r.object_set)) (no_bytes 256) parts,
    )

pub block_is_word : (n : ℕ) → IsTrue (is_block_size n) → n < 2 ^ 64
block_is_word n is = grind (arith, nat_tests)
