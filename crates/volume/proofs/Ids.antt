-- Lists of blocks by their ids.
use Rattle.std.proofs.Common.{◌≡◌, ◌↔◌, ⊎_elim, ℕ, ◌+◌, ◌*◌, ◌/◌, ◌<◌, ◌≤◌, List, [], ◌∷◌, ◌++◌, length, map, take, get_or, Contains, refl, sym, ap, ◌∙◌, subst, arith}
use Rattle.std.specs.Prelude.{All}
use Rattle.std.specs.List.Sorted.{IsStrictlyIncreasing}
use Rattle.std.proofs.lemmas.List.{get_or-map, length-map, map-append, take_more}
use Rattle.std.proofs.lemmas.Bool.{cases_lt}
use Rattle.std.proofs.lemmas.List.Elements.{All-push, Contains-get_or}
use Rattle.std.proofs.lemmas.List.Kept.{AllPairs-from_increasing}
use Rattle.pool_model.specs.declared.item.Write.{Write}
use Rattle.pool_model.specs.declared.volume.PlainVolume.{PlainVolume}
use Rattle.volume_rules.specs.Overlay.{after_writes}
use Rattle.volume_rules.proofs.Overlays.{length_after_writes}
use Rattle.raidz_io.proofs.Calls.{Contains-cases}
use Rattle.dnode_tree.specs.declared.writes.BlockWrite.{BlockWrite}
use Rattle.dnode_tree.specs.Writes.{AreInOrder}
use Rattle.volume.specs.declared.volume.VolumeSet.{VolumeSet}
use Rattle.volume.specs.Volume.{size_of, block_size_of, part}
use Rattle.volume.specs.Writing.{IsChanged, HasId, AreBlocksOf, IsArrayWith}
use Rattle.volume.proofs.Untouched.{Any-front, Any-later, after_others, changed_below}

pub ids_of : List BlockWrite → List ℕ
ids_of blocks = map (λ block. block.id) blocks

id_at : (blocks : List BlockWrite) (ids : List ℕ) (k : ℕ) (d : BlockWrite) (n : ℕ) → map (λ block. block.id) blocks ≡ ids → k < length blocks → get_or ids k n ≡ (get_or blocks k d).id
id_at blocks ids k d n are lt = ap (λ xs. get_or xs k n) (sym are) ∙ get_or-map (λ (block : BlockWrite). block.id) blocks k d n lt

as_many : (blocks : List BlockWrite) (ids : List ℕ) → map (λ block. block.id) blocks ≡ ids → length blocks ≡ length ids
as_many blocks ids are = sym (length-map blocks (λ (block : BlockWrite). block.id)) ∙ ap length are

in_order : (blocks : List BlockWrite) (ids : List ℕ) → map (λ block. block.id) blocks ≡ ids → IsStrictlyIncreasing ids → AreInOrder blocks
in_order blocks ids are up i j d before within =
    let below : get_or ids i 0 < get_or ids j 0 = AllPairs-from_increasing ids up i j 0 before (omega (arith, within, as_many blocks ids are)) in
    omega (arith, below, id_at blocks ids i d 0 are (omega arith), id_at blocks ids j d 0 are within)

below_end : (blocks : List BlockWrite) (ids : List ℕ) (n : ℕ) → map (λ block. block.id) blocks ≡ ids → All (λ id. id < n) ids → All (λ block. block.id < n) blocks
below_end blocks ids n are all k d within =
    omega (arith, all k 0 (omega (arith, within, as_many blocks ids are)), id_at blocks ids k d 0 are within)

pub are_blocks : (volume : VolumeSet) (blocks : List BlockWrite) (ids : List ℕ) → map (λ block. block.id) blocks ≡ ids → IsStrictlyIncreasing ids → All (λ id. id < size_of volume / block_size_of volume) ids
    → All (λ block. length block.bytes.items ≡ block_size_of volume) blocks → AreBlocksOf volume blocks
are_blocks volume blocks ids are up all whole =
    record { order = in_order blocks ids are up; ids = below_end blocks ids (size_of volume / block_size_of volume) are all; whole = whole }

has_id : (blocks : List BlockWrite) (id : ℕ) → Contains (map (λ block. block.id) blocks) id → HasId blocks id
has_id [] id held = absurd (omega (arith, held.1))
has_id (block ∷ blocks) id held =
    ⊎_elim (λ same. Any-front (λ (b : BlockWrite). b.id ≡ id) block blocks (sym same)) (λ later. Any-later (λ (b : BlockWrite). b.id ≡ id) block blocks (has_id blocks id later))
    (Contains-cases block.id (map (λ block. block.id) blocks) id held)

is_held : (blocks : List BlockWrite) (id : ℕ) → HasId blocks id → Contains (map (λ block. block.id) blocks) id
is_held blocks id (k, block, within, at, same) = (
  k,
  omega (arith, within, length-map blocks (λ (b : BlockWrite). b.id)),
  get_or-map (λ (b : BlockWrite). b.id) blocks k block id within ∙ ap (λ b. b.id) at ∙ same,
)

pub same_ids : (blocks : List BlockWrite) (ids : List ℕ) (P : ℕ → Type 0) → map (λ block. block.id) blocks ≡ ids → ((id : ℕ) → Contains ids id ↔ P id) → (id : ℕ) → HasId blocks id ↔ P id
same_ids blocks ids P are which id = (
  λ has. (which id).0 (subst (λ (xs : List ℕ). Contains xs id) are (is_held blocks id has)),
  λ there. has_id blocks id (subst (λ (xs : List ℕ). Contains xs id) (sym are) ((which id).1 there)),
)

-- one block more
pub one_id_more : (blocks new : List BlockWrite) (block : BlockWrite) (ids : List ℕ) (i : ℕ) → new ≡ blocks ++ block ∷ [] → block.id ≡ get_or ids i 0 → i < length ids
    → map (λ block. block.id) blocks ≡ take i ids → map (λ block. block.id) new ≡ take (i + 1) ids
one_id_more blocks new block ids i more same within so_far =
    ap (map (λ (b : BlockWrite). b.id)) more ∙ map-append (λ (b : BlockWrite). b.id) blocks (block ∷ [])
    ∙ ap (λ xs. xs ++ block.id ∷ []) so_far ∙ ap (λ n. take i ids ++ n ∷ []) same ∙ sym (take_more ids i 0 within)

pub all_more : (P : BlockWrite → Type 0) (blocks new : List BlockWrite) (block : BlockWrite) → new ≡ blocks ++ block ∷ [] → All P blocks → P block → All P new
all_more P blocks new block more all here = subst (All P) (sym more) (All-push P blocks block all here)

-- ids of blocks that are changed
pub item_changed : (volume : VolumeSet) (name : List ℕ) (writes : List Write) (ids items : List ℕ) (k d : ℕ) → items ≡ ids
    → ((id : ℕ) → Contains ids id ↔ IsChanged volume name writes id) → k < length items → IsChanged volume name writes (get_or items k d)
item_changed volume name writes ids items k d is are lt =
    (are (get_or items k d)).0 (subst (λ (xs : List ℕ). Contains xs (get_or items k d)) is (Contains-get_or items k d lt))

pub items_below : (volume : VolumeSet) (name : List ℕ) (writes : List Write) (ids items : List ℕ) → items ≡ ids
    → ((id : ℕ) → Contains ids id ↔ IsChanged volume name writes id) → All (λ id. id < size_of volume / block_size_of volume) items
items_below volume name writes ids items is are k d lt = changed_below volume name writes (get_or items k d) (item_changed volume name writes ids items k d is are lt)

pub none_changed : (volume : VolumeSet) (name : List ℕ) (writes : List Write) (ids : List ℕ) → ((id : ℕ) → Contains ids id ↔ IsChanged volume name writes id)
    → ((id : ℕ) → ¬ IsChanged volume name writes id) → length ids ≡ 0
none_changed volume name writes ids are none =
    ⊎_elim (λ some. absurd (none (get_or ids 0 0) (item_changed volume name writes ids ids 0 0 refl are some))) (λ empty. omega arith) (cases_lt 0 (length ids))

-- the bytes after the writes
pub after_is_with : (volume : VolumeSet) (plain : PlainVolume) (name : List ℕ) (writes : List Write) (blocks : List BlockWrite) → plain.name ≡ name → length plain.bytes ≡ volume.size
    → ((id : ℕ) → HasId blocks id ↔ IsChanged volume name writes id)
    → All (λ block. block.bytes.items ≡ part (after_writes plain writes).bytes volume.block_size block.id) blocks
    → IsArrayWith plain.bytes volume.block_size blocks (after_writes plain writes).bytes
after_is_with volume plain name writes blocks named size which put = record {
  size = length_after_writes plain writes;
  put = put;
  others = λ id fits none. after_others plain name writes volume.size volume.block_size id named size (subst (λ n. id * volume.block_size + volume.block_size ≤ n) size fits)
      (λ changed. none ((which id).1 changed));
}

-- no ids
pub empty_ids : (blocks : List BlockWrite) (ids : List ℕ) → blocks ≡ [] → length ids ≡ 0 → map (λ block. block.id) blocks ≡ ids
empty_ids blocks [] none short = ap (map (λ (b : BlockWrite). b.id)) none
empty_ids blocks (id ∷ ids) none short = absurd (omega (arith, short))

pub no_blocks : (blocks : List BlockWrite) → ((id : ℕ) → ¬ HasId blocks id) → blocks ≡ []
no_blocks [] none = refl
no_blocks (block ∷ blocks) none = absurd (none block.id (Any-front (λ (b : BlockWrite). b.id ≡ block.id) block blocks refl))
