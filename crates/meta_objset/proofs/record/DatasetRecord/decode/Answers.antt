use Rattle.std.proofs.Common.{◌≡◌, length, drop, sym, ◌∙◌, arith}
use Rattle.std.proofs.lemmas.Result.{IfOk-weaker}
use Rattle.meta_objset.specs.Record.{SpellsRecord, IsRecordRead, record_words}
use Rattle.meta_objset.proofs.Records.{no_bytes, own_zeros, their_zeros, fields_of, IsReadFrom, record_made, AreWords-record, block_is_word}
use Rattle.meta_objset.proofs.record.DatasetRecord.decode.Goals as goal

pub returns-then-not-is_zero-clause-only : goal.returns-then-not-is_zero-clause-only
returns-then-not-is_zero-clause-only c = λ r spells.
    let cut = fields_of c.args.bytes.now r c.told-bytes spells.1 in
    let rest = c.split_at.result.1.now in
    let len : length rest ≡ 256 = omega (arith, c.split_at.ensures.back_len, c.told-bytes) in
    let test = c.is_zero.ensures.zeros.1 (own_zeros 256 rest len (c.split_at.ensures.back ∙ cut.zeros_are)) in
    absurd cc

pub returns-in_err-object_set-clause-only : goal.returns-in_err-object_set-clause-only
returns-in_err-object_set-clause-only c = λ r spells.
    let cut = fields_of c.args.bytes.now r c.told-bytes spells.1 in
    let read = c.in_err-object_set.ensures.only r.object_set (spells.0.object_set, c.bytes_at.ensures ∙ cut.pointer_is) in
    absurd cc

pub returns-clause-found : goal.returns-clause-found
returns-clause-found c =
    let bytes = c.args.bytes.now in
    let rest = c.split_at.result.1.now in
    let len : length rest ≡ 256 = omega (arith, c.split_at.ensures.back_len, c.told-bytes) in
    let zeros : drop 256 bytes ≡ no_bytes 256 = sym c.split_at.ensures.back ∙ their_zeros 256 rest len (c.is_zero.ensures.zeros.0 c.if-not-is_zero.false) in
    let words = c.words_at.result in
    let object_set = c.in_ok-object_set.object_set in
    let from : IsReadFrom bytes words object_set c.bytes_at.result = record { words_at = c.words_at.ensures.found; pointer_at = c.bytes_at.ensures; spelled = c.in_ok-object_set.ensures.found; zeros = zeros } in
    IfOk-weaker c.from_fields.result (IsRecordRead words object_set) (SpellsRecord bytes) (λ r is. record_made bytes words object_set c.bytes_at.result r from c.words_at.ensures.words is) c.from_fields.ensures.found

pub returns-clause-only : goal.returns-clause-only
returns-clause-only c = λ r spells.
    let cut = fields_of c.args.bytes.now r c.told-bytes spells.1 in
    let read = c.in_ok-object_set.ensures.only r.object_set (spells.0.object_set, c.bytes_at.ensures ∙ cut.pointer_is) in
    let object_set : c.in_ok-object_set.object_set ≡ r.object_set = cc in
    c.from_fields.ensures.only r (record {
      record_is = spells.0.record_is;
      words_are = c.words_at.ensures.only (record_words r) (AreWords-record r spells.0 (block_is_word r.block_size spells.0.record_is.block)) cut.words_are;
      object_set_is = object_set;
    })
