-- Blocks that are put to a volume's data.
use Rattle.std.proofs.Common.{◌≡◌, ◌≢◌, ◌⊎◌, ⊎_elim, inl, inr, ℕ, zero, suc, ◌+◌, ◌*◌, ◌/◌, ◌^◌, ◌<◌, ◌≤◌, ◌==◌, if◌then◌else◌, List, [], ◌∷◌, length, Option, Some, None, refl, sym, ap, ◌∙◌, subst, arith}
use Rattle.std.specs.Prelude.{All, Any, Vec}
use Rattle.std.specs.declared.alloc.Global.{Global}
use Rattle.std.proofs.lemmas.Bool.{cases_eq}
use Rattle.std.proofs.lemmas.List.Elements.{All-head, All-tail, All-weaker}
use Rattle.std.proofs.Math.Nat.{mul-le-mul_left}
use Rattle.block_pointer.specs.declared.block.Block.{Block}
use Rattle.block_store.proofs.Steps.{no_room_on}
use Rattle.block_store.specs.Blocks.{Contents, Extends, count_of}
use Rattle.block_store.specs.Steps.{OnlyReadsAndPlans}
use Rattle.block_store.specs.Store.{Store}
use Rattle.dnode.specs.declared.object_set.ObjectSet.{ObjectSet}
use Rattle.dnode.specs.declared.object_set.ObjectSetKind.TheVariants as kinds
use Rattle.objset.specs.Sets.{IsSetBlock}
use Rattle.dnode_tree.specs.declared.writes.BlockWrite.{BlockWrite}
use Rattle.dnode_tree.specs.Writes.{written}
use Rattle.objset.specs.declared.changes.Change.{Change}
use Rattle.objset.specs.declared.changes.Change.TheVariants.{Put}
use Rattle.objset.specs.declared.changes.ObjectChange.{ObjectChange}
use Rattle.objset.specs.Changes.{AreWhole, AreGoodWrites, MayChange, changed, after_change, highest_of}
use Rattle.objset.specs.Objects.{Object}
use Rattle.objset.proofs.Kept.{objects_stand, some_and}
use Rattle.volume.specs.declared.volume.VolumeSet.{VolumeSet}
use Rattle.volume.specs.Placing.{IsSetPlanned, LacksRoom, data_change}
use Rattle.volume.specs.Volume.{HasBytes, IsData, IsVolume, Spells, part}
use Rattle.volume.specs.Writing.{HasId, AreBlocksOf, IsArrayWith}
use Rattle.volume.proofs.Ranges.{block_fits}
use Rattle.volume.proofs.Sizes.{least_size, whole_sectors}
use Rattle.volume.proofs.Standing.{volumes_stay}

-- ---- blocks that are written

Any-cases : {X : Type 0} (P : X → Type 0) (x : X) (xs : List X) → Any P (x ∷ xs) → P x ⊎ Any P xs
Any-cases P x xs (zero, y, within, at, here) = inl (subst P (sym at) here)
Any-cases P x xs (suc k, y, within, at, here) = inr (k, y, omega arith, at, here)

written_here : (block : BlockWrite) (blocks : List BlockWrite) (array : ℕ → Option (List ℕ)) (id : ℕ) → block.id ≡ id → written (block ∷ blocks) array id ≡ Some block.bytes.items
written_here block blocks array id same = grind (arith, same)

written_apart : (block : BlockWrite) (blocks : List BlockWrite) (array : ℕ → Option (List ℕ)) (id : ℕ) → (block.id ≡ id → ⊥) → written (block ∷ blocks) array id ≡ written blocks array id
written_apart block blocks array id apart = grind (arith, apart)

written_has : (blocks : List BlockWrite) (array : ℕ → Option (List ℕ)) (after : List ℕ) (block_size id : ℕ) → All (λ block. block.bytes.items ≡ part after block_size block.id) blocks
    → (¬ HasId blocks id → HasBytes block_size (array id) (part after block_size id)) → HasBytes block_size (written blocks array id) (part after block_size id)
written_has [] array after block_size id put others = others (λ any. absurd (omega (arith, any.2)))
written_has (block ∷ blocks) array after block_size id put others =
    ⊎_elim
    (λ same. subst (λ (o : Option (List ℕ)). HasBytes block_size o (part after block_size id)) (sym (written_here block blocks array id same))
    (All-head (λ (b : BlockWrite). b.bytes.items ≡ part after block_size b.id) block blocks put ∙ ap (part after block_size) same))
    (λ apart. subst (λ (o : Option (List ℕ)). HasBytes block_size o (part after block_size id)) (sym (written_apart block blocks array id apart))
    (written_has blocks array after block_size id (All-tail (λ (b : BlockWrite). b.bytes.items ≡ part after block_size b.id) block blocks put)
    (λ none. others (λ any. ⊎_elim apart none (Any-cases (λ (b : BlockWrite). b.id ≡ id) block blocks any)))))
    (cases_eq block.id id)

written_behind : (blocks : List BlockWrite) (array : ℕ → Option (List ℕ)) (n id : ℕ) → All (λ block. block.id < n) blocks → n ≤ id → array id ≡ None → written blocks array id ≡ None
written_behind [] array n id below past none = none
written_behind (block ∷ blocks) array n id below past none =
    written_apart block blocks array id (λ same. let lt : block.id < n = All-head (λ (b : BlockWrite). b.id < n) block blocks below in absurd (omega arith))
    ∙ written_behind blocks array n id (All-tail (λ (b : BlockWrite). b.id < n) block blocks below) past none

-- ---- the data with these blocks

pub other_object : (number : ℕ) (x y : Option Object) → number ≢ 1 → (if 1 == number then x else y) ≡ y
other_object number x y apart = grind (arith, apart)

highest_below : (blocks : List BlockWrite) (id n : ℕ) → id < n → All (λ block. block.id < n) blocks → highest_of blocks id < n
highest_below [] id n lt below = lt
highest_below (block ∷ blocks) id n lt below =
    let first : block.id < n = All-head (λ (b : BlockWrite). b.id < n) block blocks below in
    let rest : highest_of blocks id < n = highest_below blocks id n lt (All-tail (λ (b : BlockWrite). b.id < n) block blocks below) in
    omega arith

pub data_with : (volume : VolumeSet) (objects : ℕ → Option Object) (array after : List ℕ) (blocks : Vec BlockWrite Global) → IsData volume.size volume.block_size objects array
    → AreBlocksOf volume blocks.items → IsArrayWith array volume.block_size blocks.items after
    → IsData volume.size volume.block_size (changed (data_change (Put blocks)) objects) after
data_with volume objects array after blocks data_is are with = record {
  others = λ number apart. other_object number (after_change (Put blocks) (objects number)) (objects number) apart ∙ data_is.others number apart;
  there = record data_is.there { highest = highest_of blocks.items data_is.there.highest; array = written blocks.items data_is.there.array };
  there_is = ap (after_change (Put blocks)) data_is.there_is;
  object_type = data_is.object_type;
  sectors = data_is.sectors;
  highest = highest_below blocks.items data_is.there.highest (volume.size / volume.block_size) data_is.highest are.ids;
  size_is = with.size ∙ data_is.size_is;
  blocks = λ id lt. written_has blocks.items data_is.there.array after volume.block_size id with.put
      (λ none. subst (λ (bytes : List ℕ). HasBytes volume.block_size (data_is.there.array id) bytes)
      (sym (with.others id (subst (λ (n : ℕ). id * volume.block_size + volume.block_size ≤ n) (sym data_is.size_is) (block_fits id volume.size volume.block_size lt)) none))
      (data_is.blocks id lt));
  behind = λ id past. written_behind blocks.items data_is.there.array (volume.size / volume.block_size) id are.ids past (data_is.behind id past);
}

-- a set that is planned with a volume's data is a volume
pub planned_spells : (planned later : Contents) (birth : ℕ) (set : ObjectSet) (change : Change) (objects : ℕ → Option Object) (own : List Block) (before : ℕ → List Block) (block : Block) (gone : List Block)
    (size block_size : ℕ) (array : List ℕ) → IsSetPlanned planned later birth set change objects own before block gone → set.kind ≡ kinds.Volume
    → IsData size block_size (changed (data_change change) objects) array → IsVolume later birth block size block_size array
planned_spells planned later birth set change objects own before block gone size block_size array is kind data_is = record {
  set = is.rewrite.set;
  is_set = is.is_set;
  kind = is.kind ∙ kind;
  has = record {
    objects = changed (data_change change) objects;
    own = is.objects_are.own_after;
    blocks = is.objects_are.after;
    are = objects_stand is.mid later birth block.birth is.rewrite.set (changed (data_change change) objects) is.objects_are.own_after is.objects_are.after (let e = is.born in omega arith)
        (λ b bytes held known. is.adds.kept b bytes known) is.objects_are.are;
    data_is = data_is;
  };
}

-- ---- what may be put

pub may_put : (volume : VolumeSet) (objects : ℕ → Option Object) (array : List ℕ) (blocks : Vec BlockWrite Global) → IsData volume.size volume.block_size objects array → AreBlocksOf volume blocks.items
    → MayChange (Put blocks) (objects 1)
may_put volume objects array blocks data_is are =
    some_and (objects 1) data_is.there (λ there. AreWhole there.data_sectors blocks.items) data_is.there_is
    (let whole : data_is.there.data_sectors * 512 ≡ volume.block_size = ap (λ n. n * 512) data_is.sectors ∙ whole_sectors volume.block_size volume.block_sized in
    All-weaker (λ (b : BlockWrite). length b.bytes.items ≡ volume.block_size) (λ (b : BlockWrite). length b.bytes.items ≡ data_is.there.data_sectors * 512) (λ b len. len ∙ sym whole) blocks.items are.whole)

small_id : (volume : VolumeSet) (id : ℕ) → id < volume.size / volume.block_size → id < 128 ^ 5
small_id volume id lt =
    let fits = block_fits id volume.size volume.block_size lt in
    let low = least_size volume.block_size volume.block_sized in
    let more : id * 512 ≤ id * volume.block_size = mul-le-mul_left id low in
    let most = volume.most in
    omega arith

pub good_writes : (volume : VolumeSet) (blocks : List BlockWrite) → AreBlocksOf volume blocks → AreGoodWrites blocks
good_writes volume blocks are =
    (are.order, All-weaker (λ (b : BlockWrite). b.id < volume.size / volume.block_size) (λ (b : BlockWrite). b.id < 128 ^ 5) (λ b lt. small_id volume b.id lt) blocks are.ids)

-- a set's block may be asked for a later birth
pub set_later : (stored : Contents) (bound birth : ℕ) (block : Block) (set : ObjectSet) → bound ≤ birth → IsSetBlock stored bound block set → IsSetBlock stored birth block set
set_later stored bound birth block set le is =
    record { asks = record { property = is.asks.property; birth = let early = is.asks.birth in omega arith }; bytes = is.bytes; known = is.known; spelled = is.spelled }

-- ---- volumes that are planned

pub not_refused : (change : Change) (objects : ℕ → Option Object) → MayChange change (objects 1) → Any (λ c. ¬ MayChange c.change (objects c.number)) (data_change change) → {P : Type 0} → P
not_refused change objects may any =
    ⊎_elim (λ no. absurd (no may)) (λ none. absurd (omega (arith, none.2))) (Any-cases (λ (c : ObjectChange). ¬ MayChange c.change (objects c.number)) (record { number = 1; change = change }) [] any)

pub lacks_on : (old mid new : Store) → OnlyReadsAndPlans old mid [] → LacksRoom mid new → LacksRoom old new
lacks_on old mid new steps (inl none) = inl (record {
  sectors = none.sectors;
  small = none.small;
  count = none.count;
  which = none.which;
  no_room = no_room_on old mid new [] none.sectors (count_of none.count) steps none.no_room;
})
lacks_on old mid new steps (inr none) = inr (no_room_on old mid new [] 2 2 steps none)

-- no blocks make no other array
pub stays_with : (old new : Contents) (bound birth : ℕ) (block : Block) (size block_size : ℕ) (array after : List ℕ) (blocks : List BlockWrite) → bound ≤ birth → Extends old new
    → IsVolume old bound block size block_size array → blocks ≡ [] → IsArrayWith array block_size blocks after → IsVolume new birth block size block_size after
stays_with old new bound birth block size block_size array after blocks le more is none with =
    let still : IsVolume new birth block size block_size array = volumes_stay old new bound birth block size block_size array le more is in
    let data_is : IsData size block_size still.has.objects array = still.has.data_is in record {
      set = still.set;
      is_set = still.is_set;
      kind = still.kind;
      has = record {
        objects = still.has.objects;
        own = still.has.own;
        blocks = still.has.blocks;
        are = still.has.are;
        data_is = record {
          others = data_is.others;
          there = data_is.there;
          there_is = data_is.there_is;
          object_type = data_is.object_type;
          sectors = data_is.sectors;
          highest = data_is.highest;
          size_is = with.size ∙ data_is.size_is;
          blocks = λ id lt. subst (λ (bytes : List ℕ). HasBytes block_size (data_is.there.array id) bytes)
              (sym (with.others id (subst (λ (n : ℕ). id * block_size + block_size ≤ n) (sym data_is.size_is) (block_fits id size block_size lt)) (λ any. absurd (omega (arith, any.2, ap length none)))))
              (data_is.blocks id lt);
          behind = data_is.behind;
        };
      };
    }

pub volume_as : (stored : Contents) (birth : ℕ) (volume : VolumeSet) (block : Block) (size block_size : ℕ) (array : List ℕ) → volume.block ≡ block → volume.size ≡ size → volume.block_size ≡ block_size
    → IsVolume stored birth block size block_size array → Spells stored birth volume array
volume_as stored birth volume block size block_size array same_block same_size same_block_size is =
    subst (λ b. IsVolume stored birth b volume.size volume.block_size array) (sym same_block)
    (subst (λ n. IsVolume stored birth block n volume.block_size array) (sym same_size)
    (subst (λ n. IsVolume stored birth block size n array) (sym same_block_size) is))

pub no_items : {X : Type 0} (xs : List X) → length xs ≡ 0 → xs ≡ []
no_items [] none = refl
no_items (x ∷ xs) none = absurd (omega (arith, none))
