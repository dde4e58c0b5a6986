-- Tables that are read block by block.
use Rattle.std.proofs.Common.{◌≡◌, ℕ, zero, suc, ◌+◌, ◌<◌, ◌==◌, List, [], ◌++◌, if◌then◌else◌, Option, Some, None, Result, Ok, Err, inl, inr, refl, sym, ap, subst, ◌∙◌, add-one, eq-eqb, arith}
use Rattle.std.specs.Prelude.{IsSomeAnd}
use Rattle.std.specs.Result.{IfOk}
use Rattle.std.proofs.lemmas.Bool.{cases_lt, ne_eqb}
use Rattle.block_pointer.specs.declared.block.Block.{Block}
use Rattle.block_store.proofs.Steps.{reads_none, reads_on}
use Rattle.block_store.specs.Blocks.{Contents}
use Rattle.block_store.specs.Steps.{OnlyReadsBlocks, AnswersTell}
use Rattle.block_store.specs.declared.refusal.Refusal.{Refusal}
use Rattle.block_store.specs.Spaces.{VdevSpace}
use Rattle.block_store.specs.Store.{Store, Holds}
use Rattle.dnode.specs.declared.object_set.ObjectSet.{ObjectSet}
use Rattle.dnode_tree.proofs.FurtherReads.{told_before, told_after}
use Rattle.objset.specs.Found.{IsDataFound}
use Rattle.objset.specs.Objects.{Object, AreObjects}
use Rattle.object_table.specs.declared.kind.TableKind.{TableKind}
use Rattle.object_table.specs.Found.{AreBlocksFound, AreBlocksRefused, AreBytesFound, AreRowsRefused, IsObjectFound}
use Rattle.object_table.specs.Tables.{bytes_at, bytes_to, IsFront, IsOfKind, IsTableTo, HasTable}
use Rattle.object_table.proofs.WholeArrays.{bytes_to_same}

-- a table of an object is a table over its array
pub table_of : (kind : TableKind) (object : Option Object) (there : Object) (rows : List ℕ) → object ≡ Some there → HasTable kind object rows
    → IsOfKind kind there × IsTableTo kind.rows there.highest there.array rows
table_of kind object there rows is has =
    let same : has.there ≡ there = let e : Some has.there ≡ Some there = sym has.is ∙ is in cc in
    subst (λ (o : Object). IsOfKind kind o × IsTableTo kind.rows o.highest o.array rows) same (has.of_kind, has.table)

-- one more block
pub one_more : (array : ℕ → Option (List ℕ)) (count : ℕ) (bytes block : List ℕ) → IsFront array count bytes → Some block ≡ array count → IsFront array (count + 1) (bytes ++ block)
one_more array count bytes block front is = (
  λ id lt. elim (cases_lt id count) [
    | inl before ↦ front.0 id before
    | inr last ↦ λ none. let at : id ≡ count = omega (arith, lt, last) in let clash : Some block ≡ None = is ∙ ap array (sym at) ∙ none in absurd cc
  ],
  ap (λ (front : List ℕ). front ++ block) front.1 ∙ ap (λ found. bytes_to array count ++ bytes_at found) is ∙ ap (bytes_to array) (sym (add-one count)),
)

-- what an array has below a place alone counts for its front
pub front_same : (array other : ℕ → Option (List ℕ)) (count : ℕ) (bytes : List ℕ) → ((id : ℕ) → id < count → other id ≡ array id) → IsFront array count bytes → IsFront other count bytes
front_same array other count bytes same front = (λ id lt none. front.0 id lt (sym (same id lt) ∙ none), front.1 ∙ sym (bytes_to_same array other count same))

-- what was read of one more block
abbrev array_with : (ℕ → Option (List ℕ)) → ℕ → List ℕ → ℕ → Option (List ℕ)
array_with array count block id = if id == count then Some block else array id

with_before : (array : ℕ → Option (List ℕ)) (count : ℕ) (block : List ℕ) (id : ℕ) → id < count → array_with array count block id ≡ array id
with_before array count block id lt = ap (λ is. if is then Some block else array id) (ne_eqb id count (λ e. absurd (omega (arith, e, lt))))

with_last : (array : ℕ → Option (List ℕ)) (count : ℕ) (block : List ℕ) → array_with array count block count ≡ Some block
with_last array count block = ap (λ is. if is then Some block else array count) (eq-eqb count count refl)

pub found_none : (spaces : List VdevSpace) (set : ObjectSet) (birth number : ℕ) → AreBlocksFound spaces set birth number 0 []
found_none spaces set birth number = record {
  array = λ id. None;
  each = λ id lt. absurd (omega (arith, lt));
  front = (λ id lt. absurd (omega (arith, lt)), refl);
}

pub found_more : (spaces : List VdevSpace) (set : ObjectSet) (birth number count : ℕ) (bytes block : List ℕ) → AreBlocksFound spaces set birth number count bytes
    → IsDataFound spaces set birth number count (Some block) → AreBlocksFound spaces set birth number (count + 1) (bytes ++ block)
found_more spaces set birth number count bytes block so_far found =
    let array : ℕ → Option (List ℕ) = array_with so_far.array count block in
    let last : array count ≡ Some block = with_last so_far.array count block in
    record {
      array = array;
      each = λ id lt. elim (cases_lt id count) [
        | inl before ↦ subst (λ (found_there : Option (List ℕ)). IsDataFound spaces set birth number id found_there) (sym (with_before so_far.array count block id before)) (so_far.each id before)
        | inr behind ↦
            let at : count ≡ id = omega (arith, lt, behind) in
            subst (λ n. IsDataFound spaces set birth number n (array n)) at (subst (λ (found_there : Option (List ℕ)). IsDataFound spaces set birth number count found_there) (sym last) found)
      ];
      front = one_more array count bytes block (front_same so_far.array array count bytes (λ id lt. with_before so_far.array count block id lt) so_far.front) (sym last);
    }

-- reads leave the spaces of the vdevs as they are
pub spaces_stay : (old new : Store) (missing : List ℕ) → OnlyReadsBlocks old new missing → new.spaces ≡ old.spaces
spaces_stay old new missing reads = ap (λ (s : Store). s.spaces) reads.rest

-- the bytes of an object's blocks, read behind its dnode
pub bytes_read : (old mid : Store) (missing : List ℕ) (set : ObjectSet) (birth : ℕ) (kind : TableKind) (number highest count : ℕ) (bytes : List ℕ) → highest + 1 ≡ count
    → IsObjectFound old.spaces set birth kind number highest → OnlyReadsBlocks old mid missing → AreBlocksFound mid.spaces set birth number count bytes
    → AreBytesFound old.spaces set birth kind number bytes
bytes_read old mid missing set birth kind number highest count bytes is object reads found = record {
  highest = highest;
  object = object;
  blocks = subst (λ n. AreBlocksFound old.spaces set birth number n bytes) (sym is)
      (subst (λ spaces. AreBlocksFound spaces set birth number count bytes) (spaces_stay old mid missing reads) found);
}

-- or refused
pub rows_refused : (old mid new : Store) (missing : List ℕ) (set : ObjectSet) (birth : ℕ) (kind : TableKind) (number highest count : ℕ) (refusal : Refusal) → highest + 1 ≡ count
    → IsObjectFound old.spaces set birth kind number highest → OnlyReadsBlocks old mid missing → AreBlocksRefused mid new missing set birth number count refusal
    → AreRowsRefused old new missing set birth kind number refusal
rows_refused old mid new missing set birth kind number highest count refusal is object reads why = record {
  highest = highest;
  object = object;
  mid = mid;
  before = reads;
  why = subst (λ n. AreBlocksRefused mid new missing set birth number n refusal) (sym is) why;
}

-- the blocks read so far
pub record IsUnderway (old now : Store) (missing : List ℕ) (set : ObjectSet) (birth number count : ℕ) (bytes : List ℕ) : Type 0 where
  pub reads : OnlyReadsBlocks old now missing
  pub read : (stored : Contents) (objects : ℕ → Option Object) (own : List Block) (blocks : ℕ → List Block) → Holds old stored → AreObjects stored birth set objects own blocks
      → AnswersTell old now missing → (there : Object) → objects number ≡ Some there → IsFront there.array count bytes
  pub found : AreBlocksFound old.spaces set birth number count bytes

pub underway_begins : (store : Store) (missing : List ℕ) (set : ObjectSet) (birth number : ℕ) → IsUnderway store store missing set birth number 0 []
underway_begins store missing set birth number = record {
  reads = reads_none store missing;
  read = λ stored objects own blocks held are tell there is. (λ id lt. absurd (omega (arith, lt)), refl);
  found = found_none store.spaces set birth number;
}

pub some_is : (object : Option Object) (there : Object) (P : Object → Type 0) → IsSomeAnd object P → object ≡ Some there → P there
some_is object there P has is = subst (λ o. IsSomeAnd o P) is has

pub underway_goes_on : (old now new : Store) (missing : List ℕ) (set : ObjectSet) (birth number count : ℕ) (bytes block : List ℕ) → IsUnderway old now missing set birth number count bytes → OnlyReadsBlocks now new missing
    → ((stored : Contents) (objects : ℕ → Option Object) (own : List Block) (blocks : ℕ → List Block) → Holds now stored → AreObjects stored birth set objects own blocks → AnswersTell now new missing
    → IsSomeAnd (objects number) (λ object. Some block ≡ object.array count))
    → IsDataFound now.spaces set birth number count (Some block)
    → IsUnderway old new missing set birth number (count + 1) (bytes ++ block)
underway_goes_on old now new missing set birth number count bytes block so_far reads value found = record {
  reads = reads_on old now new missing so_far.reads reads;
  read = λ stored objects own blocks held are tell there is.
      one_more there.array count bytes block
      (so_far.read stored objects own blocks held are (told_before old now new missing so_far.reads reads tell) there is)
      (some_is (objects number) there (λ object. Some block ≡ object.array count) (value stored objects own blocks (so_far.reads.keeps stored held) are (told_after old now new missing so_far.reads reads tell)) is);
  found = found_more old.spaces set birth number count bytes block so_far.found
      (subst (λ spaces. IsDataFound spaces set birth number count (Some block)) (spaces_stay old now missing so_far.reads) found);
}

-- what an answer says of each value, it says of all
pub ok_for_all : {T E X : Type 0} (result : Result T E) (P : X → Type 0) (Q : T → X → Type 0) → ((x : X) → P x → IfOk result (λ found. Q found x)) → IfOk result (λ found. (x : X) → P x → Q found x)
ok_for_all (Ok found) P Q each = each
ok_for_all (Err refusal) P Q each = tt
