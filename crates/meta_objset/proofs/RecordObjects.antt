-- Objects with a record.
use Rattle.std.proofs.Common.{◌≡◌, ℕ, ◌*◌, ◌^◌, ◌<◌, List, [], length, All, Option, Some, None, refl, sym, ap, subst, ◌∙◌, arith}
use Rattle.std.proofs.lemmas.List.Elements.{All-nil, All-cons}
use Rattle.dnode_tree.specs.declared.writes.BlockWrite.{BlockWrite}
use Rattle.dnode_tree.specs.Writes.{AreInOrder, written}
use Rattle.objset.proofs.Numbers.{taken, passed}
use Rattle.objset.specs.Changes.{AreGoodWrites, AreWhole, highest_of}
use Rattle.objset.specs.Objects.{Object}
use Rattle.meta_objset.specs.declared.record.DatasetRecord.{DatasetRecord}
use Rattle.meta_objset.specs.Datasets.{IsRecordObject, HasRecord, IsRecordWrite}

-- what the write of a record does
module _ (r : DatasetRecord) (writes : List BlockWrite) (is : IsRecordWrite r writes) where
  each : (P : BlockWrite → Type 0) → P is.write → All P writes
  each P one = subst (All P) (sym is.only) (All-cons P is.write [] one (All-nil P))

  pub good_record : AreGoodWrites writes
  good_record = (
    subst AreInOrder (sym is.only) (λ i j d lt below. absurd (omega (arith, lt, below))),
    each (λ write. write.id < 128 ^ 5) (omega (arith, is.first)),
  )

  pub whole_record : AreWhole 1 writes
  whole_record = each (λ write. length write.bytes.items ≡ 1 * 512) (omega (arith, is.size))

  highest_is : highest_of writes 0 ≡ 0
  highest_is = ap (λ ws. highest_of ws 0) is.only ∙ omega (arith, is.first)

  first_is : (array : ℕ → Option (List ℕ)) → written writes array 0 ≡ Some is.write.bytes.items
  first_is array = ap (λ ws. written ws array 0) is.only ∙ taken is.write.id 0 (Some is.write.bytes.items) (array 0) is.first

  others_are : (array : ℕ → Option (List ℕ)) (id : ℕ) → 0 < id → written writes array id ≡ array id
  others_are array id other =
      ap (λ ws. written ws array id) is.only ∙ passed is.write.id id (Some is.write.bytes.items) (array id) (λ same. absurd (omega (arith, same, is.first, other)))

  -- over an array with nothing behind the first block
  pub has_record : (object_type sectors highest : ℕ) (array : ℕ → Option (List ℕ)) → object_type ≡ 201 → sectors ≡ 1 → highest ≡ 0 → ((id : ℕ) → 0 < id → array id ≡ None)
      → HasRecord (Some (record { object_type = object_type; data_sectors = sectors; highest = highest_of writes highest; array = written writes array })) r
  has_record object_type sectors highest array type_is sectors_are highest_zero behind =
      let ends_at : highest_of writes highest ≡ 0 = ap (highest_of writes) highest_zero ∙ highest_is in
      record {
        there = _;
        is = refl;
        of_record = record {
          object_type = type_is;
          sectors = sectors_are;
          highest = ends_at;
          ends = λ id above. others_are array id (omega (arith, above, ends_at)) ∙ behind id (omega (arith, above, ends_at));
        };
        bytes = is.write.bytes.items;
        block = first_is array;
        size = is.size;
        spelled = is.spelled;
      }

-- a record is that of the object that is there
pub record_there : (object : Option Object) (there : Object) (r : DatasetRecord) → object ≡ Some there → (has : HasRecord object r) → (there.array 0 ≡ Some has.bytes) × IsRecordObject there
record_there object there r is has =
    let same : has.there ≡ there = let e : Some has.there ≡ Some there = sym has.is ∙ is in cc in
    subst (λ (o : Object). (o.array 0 ≡ Some has.bytes) × IsRecordObject o) same (has.block, has.of_record)
