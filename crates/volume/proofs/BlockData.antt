-- Blocks of a volume's data.
use Rattle.std.proofs.Common.{◌≡◌, ℕ, ◌+◌, ◌-◌, ◌*◌, ◌/◌, ◌<◌, ◌≤◌, List, length, Option, Some, None, sym, ap, ◌∙◌, subst, arith}
use Rattle.std.specs.Prelude.{IsSomeAnd}
use Rattle.std.proofs.lemmas.List.Edits.{length-between}
use Rattle.block_store.specs.Blocks.{Contents}
use Rattle.dnode.specs.declared.object_set.ObjectSet.{ObjectSet}
use Rattle.objset.specs.Objects.{Object}
use Rattle.volume.specs.Volume.{HasBytes, HasData, part}
use Rattle.volume.proofs.Ranges.{block_fits}

pub same_bytes : (block_size : ℕ) (found : Option (List ℕ)) (bytes other : List ℕ) → HasBytes block_size found bytes → HasBytes block_size found other → bytes ≡ other
same_bytes block_size None bytes other has also = has ∙ sym also
same_bytes block_size (Some known) bytes other has also = sym has ∙ also

-- what is found of the object is what its array has
pub array_of : (object : Option Object) (there : Object) (found : Option (List ℕ)) (id : ℕ) → IsSomeAnd object (λ o. found ≡ o.array id) → object ≡ Some there → found ≡ there.array id
array_of object there found id is there_is = subst (λ o. IsSomeAnd o (λ o. found ≡ o.array id)) there_is is

pub no_clash : (object : Option Object) (there : Object) → object ≡ Some there → object ≡ None → {P : Type 0} → P
no_clash object there is none = let clash : Some there ≡ None = sym is ∙ none in absurd cc

pub block_has : (stored : Contents) (birth : ℕ) (set : ObjectSet) (size block_size : ℕ) (array : List ℕ) (has : HasData stored birth set size block_size array) (found : Option (List ℕ)) (id : ℕ)
    → IsSomeAnd (has.objects 1) (λ o. found ≡ o.array id) → id < size / block_size → HasBytes block_size found (part array block_size id)
block_has stored birth set size block_size array has found id is lt =
    subst (λ (f : Option (List ℕ)). HasBytes block_size f (part array block_size id)) (sym (array_of (has.objects 1) has.data_is.there found id is has.data_is.there_is)) (has.data_is.blocks id lt)

pub length-part : (array : List ℕ) (block_size id : ℕ) → id * block_size + block_size ≤ length array → length (part array block_size id) ≡ block_size
length-part array block_size id fits =
    length-between array (id * block_size) (id * block_size + block_size) fits ∙ (let e : id * block_size + block_size - id * block_size ≡ block_size = omega arith in e)

-- the bytes of a block have the size of one
pub block_len : (stored : Contents) (birth : ℕ) (set : ObjectSet) (size block_size : ℕ) (array bytes : List ℕ) (has : HasData stored birth set size block_size array) (found : Option (List ℕ)) (id : ℕ)
    → IsSomeAnd (has.objects 1) (λ o. found ≡ o.array id) → id < size / block_size → found ≡ Some bytes → length bytes ≡ block_size
block_len stored birth set size block_size array bytes has found id is lt there =
    let same : bytes ≡ part array block_size id =
    subst (λ (f : Option (List ℕ)). HasBytes block_size f (part array block_size id)) there (block_has stored birth set size block_size array has found id is lt) in
    ap length same ∙ length-part array block_size id (subst (λ (n : ℕ). id * block_size + block_size ≤ n) (sym has.data_is.size_is) (block_fits id size block_size lt))

-- the block that has a byte of the volume
pub fits_at : (stored : Contents) (birth : ℕ) (set : ObjectSet) (size block_size : ℕ) (array : List ℕ) (id : ℕ) → HasData stored birth set size block_size array
    → id < size / block_size → id * block_size + block_size ≤ length array
fits_at stored birth set size block_size array id has lt = subst (λ (n : ℕ). id * block_size + block_size ≤ n) (sym has.data_is.size_is) (block_fits id size block_size lt)
