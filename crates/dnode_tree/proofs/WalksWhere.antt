-- Walks over the picked blocks of parts of trees, whether or not they are whole.
use Rattle.std.proofs.Common.{◌≡◌, ℕ, zero, suc, ◌+◌, ◌*◌, ◌/◌, ◌%◌, ◌^◌, ◌<◌, ◌≤◌, Bool, true, false, cond, List, [], ◌∷◌, ◌++◌, length, get_or, inl, inr, refl, ap, sym, ◌∙◌, subst, arith, append_assoc, append-nil, zero-add}
use Rattle.std.proofs.lemmas.List.{get_or_default, length-append, get_or_append_left}
use Rattle.std.proofs.Math.Seq.{get_or-append_seam}
use Rattle.std.proofs.Math.Nat.{add-mul-div_right, div-eq_of_lt, add-mul-mod_self_right, mod-eq_of_lt, div-lt_iff_lt-mul}
use Rattle.std.proofs.lemmas.List.Concat.{flat_map-append}
use Rattle.std.proofs.lemmas.Bool.{cases_lt}
use Rattle.block_pointer.specs.declared.block.Block.{Block}
use Rattle.block_pointer.specs.declared.pointer.BlockPtr.{BlockPtr}
use Rattle.block_pointer.specs.declared.pointer.BlockPtr.TheVariants.{Hole, Block as At}
use Rattle.block_pointer.specs.declared.property.Property.{Property}
use Rattle.block_store.specs.declared.block.Asked.{Asked}
use Rattle.block_store.specs.declared.refusal.Refusal.{Refusal}
use Rattle.block_store.specs.declared.refusal.Refusal.TheVariants.{NoMemory, BadPointer}
use Rattle.block_store.specs.Spaces.{VdevSpace}
use Rattle.block_store.specs.Reading.{Asks, IsReadable}
use Rattle.block_store.specs.Steps.{OnlyReadsBlocks}
use Rattle.block_store.specs.Store.{Store}
use Rattle.dnode_tree.specs.Subtree.{asked_of, joined}
use Rattle.dnode_tree.specs.Ways.{AreReadAs, Reached, reached, IsBlockFault, IsCause}
use Rattle.dnode_tree.specs.Younger.{seen, IsWalkedWhere, ComesWhere, IsRefusedWhere}
use Rattle.dnode_tree.proofs.Spans.{span_positive, span_up}
use Rattle.dnode_tree.proofs.WayLemmas.{fault_of, fault_on}

-- ---- what is seen of a pointer

pub seen_hole : (picks : Block → Bool) (pointer : BlockPtr) → pointer ≡ Hole → seen picks pointer ≡ Hole
seen_hole picks pointer is = ap (seen picks) is

pub left_out : (picks : Block → Bool) (pointer : BlockPtr) (block : Block) → pointer ≡ At block → picks block ≡ false → seen picks pointer ≡ Hole
left_out picks pointer block is fails = ap (seen picks) is ∙ ap (λ test. cond test (At block) Hole) fails

pub seen_block : (picks : Block → Bool) (pointer : BlockPtr) (block : Block) → pointer ≡ At block → picks block ≡ true → seen picks pointer ≡ At block
seen_block picks pointer block is passes = ap (seen picks) is ∙ ap (λ test. cond test (At block) Hole) passes

-- ---- walks, by what is seen of the root

pub walked_hole : (picks : Block → Bool) (spaces : List VdevSpace) (property : ℕ → Property) (level birth : ℕ) (pointer : BlockPtr) → pointer ≡ Hole
    → IsWalkedWhere picks spaces property level birth pointer []
walked_hole picks spaces property level birth pointer is = subst (λ p. IsWalkedWhere picks spaces property level birth p []) (sym is) (at_hole level)
  where
    at_hole : (n : ℕ) → IsWalkedWhere picks spaces property n birth Hole []
    at_hole zero = refl
    at_hole (suc n) = refl

pub walked_data : (picks : Block → Bool) (spaces : List VdevSpace) (property : ℕ → Property) (level birth : ℕ) (pointer : BlockPtr) (block : Block) → level ≡ 0 → pointer ≡ At block
    → Asks (asked_of (property level) birth) block → IsWalkedWhere picks spaces property level birth pointer (block ∷ [])
walked_data picks spaces property level birth pointer block e is asks =
    let there : IsWalkedWhere picks spaces property 0 birth (At block) (block ∷ []) = (subst (λ n. Asks (asked_of (property n) birth) block) e asks, refl) in
    subst (λ n. IsWalkedWhere picks spaces property n birth pointer (block ∷ [])) (sym e) (subst (λ p. IsWalkedWhere picks spaces property 0 birth p (block ∷ [])) (sym is) there)

-- the parts behind the first n pointers were walked
pub record HaveWalkedWhere (picks : Block → Bool) (spaces : List VdevSpace) (property : ℕ → Property) (level birth : ℕ) (pointers : List BlockPtr) (n : ℕ) (earlier found : List Block) : Type 0 where
  pub parts : List (List Block)
  pub count : length parts ≡ n
  pub each : (k : ℕ) → k < n → IsWalkedWhere picks spaces property level birth (seen picks (get_or pointers k Hole)) (get_or parts k [])
  pub found_are : found ≡ earlier ++ joined parts

pub none_walked : (picks : Block → Bool) (spaces : List VdevSpace) (property : ℕ → Property) (level birth : ℕ) (pointers : List BlockPtr) (earlier : List Block)
    → HaveWalkedWhere picks spaces property level birth pointers 0 earlier earlier
none_walked picks spaces property level birth pointers earlier =
    record { parts = []; count = refl; each = λ k low. absurd (omega arith); found_are = sym (append-nil earlier) }

-- one more
pub one_more_walked : (picks : Block → Bool) (spaces now : List VdevSpace) (property : ℕ → Property) (level birth : ℕ) (pointers : List BlockPtr) (n : ℕ) (earlier found later more : List Block) (child other : BlockPtr)
    → now ≡ spaces → HaveWalkedWhere picks spaces property level birth pointers n earlier found → n < length pointers → child ≡ get_or pointers n other
    → later ≡ found ++ more → IsWalkedWhere picks now property level birth (seen picks child) more → HaveWalkedWhere picks spaces property level birth pointers (n + 1) earlier later
one_more_walked picks spaces now property level birth pointers n earlier found later more child other spaces_are so_far low is later_is walked_now =
    let walked : IsWalkedWhere picks spaces property level birth (seen picks child) more = subst (λ s. IsWalkedWhere picks s property level birth (seen picks child) more) spaces_are walked_now in
    let parts = so_far.parts in
    let same : get_or pointers n Hole ≡ child = get_or_default pointers n Hole other low ∙ sym is in
    let last : get_or (parts ++ more ∷ []) n [] ≡ more = ap (λ k. get_or (parts ++ more ∷ []) k []) (sym so_far.count) ∙ get_or-append_seam parts more [] [] in
    record {
      parts = parts ++ more ∷ [];
      count = length-append parts (more ∷ []) ∙ ap (λ k. k + 1) so_far.count;
      each = λ k below. elim (cases_lt k n) [
        | inl sooner ↦
            let there : get_or (parts ++ more ∷ []) k [] ≡ get_or parts k [] = get_or_append_left parts (more ∷ []) [] k (omega (arith, so_far.count, sooner)) in
            subst (λ part. IsWalkedWhere picks spaces property level birth (seen picks (get_or pointers k Hole)) part) (sym there) (so_far.each k sooner)
        | inr later ↦
            let now : n ≡ k = omega (arith, later, below) in
            subst (λ j. IsWalkedWhere picks spaces property level birth (seen picks (get_or pointers j Hole)) (get_or (parts ++ more ∷ []) j [])) now
            (subst (λ part. IsWalkedWhere picks spaces property level birth (seen picks (get_or pointers n Hole)) part) (sym last)
            (subst (λ p. IsWalkedWhere picks spaces property level birth (seen picks p) more) (sym same) walked))
      ];
      found_are = later_is ∙ ap (λ blocks. blocks ++ more) so_far.found_are ∙ append_assoc earlier (joined parts) more
          ∙ ap (λ blocks. earlier ++ blocks) (sym (flat_map-append (λ part. part) parts (more ∷ []) ∙ ap (λ blocks. joined parts ++ blocks) (append-nil more)));
    }

-- a whole part
pub all_walked : (picks : Block → Bool) (spaces : List VdevSpace) (property : ℕ → Property) (level next birth : ℕ) (pointer : BlockPtr) (block : Block) (pointers : List BlockPtr) (n : ℕ) (before earlier found : List Block)
    → level ≡ suc next → pointer ≡ At block → AreReadAs spaces (asked_of (property level) birth) block pointers
    → HaveWalkedWhere picks spaces property next block.birth pointers n earlier found → length pointers ≤ n → n ≤ length pointers → earlier ≡ before ++ block ∷ []
    → (blocks : List Block) × IsWalkedWhere picks spaces property level birth pointer blocks × (found ≡ before ++ blocks)
all_walked picks spaces property level next birth pointer block pointers n before earlier found e is read so_far all within earlier_is =
    let whole : n ≡ 128 = omega (arith, all, within, read.spelled.0.count) in
    let blocks : List Block = block ∷ joined so_far.parts in
    let P : ℕ → Type 0 = λ k. AreReadAs spaces (asked_of (property k) birth) block pointers → IsWalkedWhere picks spaces property k birth (At block) blocks in
    let there : IsWalkedWhere picks spaces property level birth (At block) blocks =
    subst P (sym e) (λ read. (pointers, so_far.parts, read, so_far.count ∙ whole, (λ k low. so_far.each k (omega (arith, whole, low))), refl)) read in (
      blocks,
      subst (λ p. IsWalkedWhere picks spaces property level birth p blocks) (sym is) there,
      so_far.found_are ∙ ap (λ front. front ++ joined so_far.parts) earlier_is ∙ append_assoc before (block ∷ []) (joined so_far.parts),
    )

-- ---- refusals

comes_at_once : (picks : Block → Bool) (spaces : List VdevSpace) (property : ℕ → Property) (level birth : ℕ) (pointer : BlockPtr) (place : ℕ)
    → ComesWhere picks spaces property level birth pointer place (reached level pointer birth)
comes_at_once picks spaces property zero birth pointer place = refl
comes_at_once picks spaces property (suc level) birth pointer place = inl refl

refused_here : (picks : Block → Bool) (old new : Store) (missing : List ℕ) (property : ℕ → Property) (level birth : ℕ) (pointer : BlockPtr) (refusal : Refusal)
    → IsCause old new missing property (reached level (seen picks pointer) birth) refusal → IsRefusedWhere picks old new missing property (reached level pointer birth) refusal
refused_here picks old new missing property level birth pointer refusal fault = record {
  place = 0;
  low = span_positive level;
  there = reached level (seen picks pointer) birth;
  leads = comes_at_once picks old.spaces property level birth (seen picks pointer) 0;
  fault = fault;
}

pub refused_for_memory : (picks : Block → Bool) (old new : Store) (missing : List ℕ) (property : ℕ → Property) (level birth : ℕ) (pointer : BlockPtr)
    → IsRefusedWhere picks old new missing property (reached level pointer birth) NoMemory
refused_for_memory picks old new missing property level birth pointer = refused_here picks old new missing property level birth pointer NoMemory tt

-- at a data block that its parent may not have
pub refused_data : (picks : Block → Bool) (old new : Store) (missing : List ℕ) (property : ℕ → Property) (level birth : ℕ) (pointer : BlockPtr) (block : Block) (asked : Asked)
    → asked ≡ asked_of (property level) birth → seen picks pointer ≡ At block → ¬ IsReadable old.spaces asked block
    → IsRefusedWhere picks old new missing property (reached level pointer birth) BadPointer
refused_data picks old new missing property level birth pointer block asked e is unread =
    refused_here picks old new missing property level birth pointer BadPointer
    (fault_of old new missing property (reached level (seen picks pointer) birth) block is BadPointer (inr (inl (refl, inl (subst (λ a. ¬ IsReadable old.spaces a block) e unread)))))

-- at an indirect block
pub refused_indirect : (picks : Block → Bool) (old new : Store) (missing : List ℕ) (property : ℕ → Property) (level birth : ℕ) (pointer : BlockPtr) (block : Block) (asked : Asked) (refusal : Refusal)
    → 0 < level → asked ≡ asked_of (property level) birth → seen picks pointer ≡ At block → IsBlockFault old new missing asked block refusal
    → IsRefusedWhere picks old new missing property (reached level pointer birth) refusal
refused_indirect picks old new missing property level birth pointer block asked refusal above e is why =
    refused_here picks old new missing property level birth pointer refusal
    (fault_of old new missing property (reached level (seen picks pointer) birth) block is refusal
    (elim (subst (λ a. IsBlockFault old new missing a block refusal) e why) [
      | inl same ↦ inl same
      | inr more ↦ elim more [
        | inl bad ↦ inr (inl (bad.0, elim bad.1 [ inl unread ↦ inl unread | inr none ↦ inr (above, none) ]))
        | inr fault ↦ inr (inr fault)
      ]
    ]))

comes_down : (picks : Block → Bool) (spaces : List VdevSpace) (property : ℕ → Property) (n level birth : ℕ) (pointer : BlockPtr) (place : ℕ) (there : Reached) (block : Block) (pointers : List BlockPtr)
    → n ≡ suc level → pointer ≡ At block → AreReadAs spaces (asked_of (property n) birth) block pointers
    → ComesWhere picks spaces property level block.birth (seen picks (get_or pointers (place / 128 ^ level) Hole)) (place % 128 ^ level) there
    → ComesWhere picks spaces property n birth pointer place there
comes_down picks spaces property n level birth pointer place there block pointers e is read below =
    let P : ℕ → Type 0 = λ k. AreReadAs spaces (asked_of (property k) birth) block pointers → ComesWhere picks spaces property k birth pointer place there in
    subst P (sym e) (λ read. inr (block, pointers, is, read, below)) read

-- what a child is refused for
pub refused_in_child : (picks : Block → Bool) (old mid new : Store) (missing : List ℕ) (property : ℕ → Property) (level next birth : ℕ) (pointer : BlockPtr) (block : Block) (pointers : List BlockPtr) (k : ℕ) (child other : BlockPtr)
    → level ≡ suc next → seen picks pointer ≡ At block → AreReadAs old.spaces (asked_of (property level) birth) block pointers → k < length pointers → child ≡ get_or pointers k other
    → OnlyReadsBlocks old mid missing → (refusal : Refusal) → IsRefusedWhere picks mid new missing property (reached next child block.birth) refusal
    → IsRefusedWhere picks old new missing property (reached level pointer birth) refusal
refused_in_child picks old mid new missing property level next birth pointer block pointers k child other e is read room child_is reads refusal below =
    let size : ℕ = 128 ^ next in
    let some : 0 < size = span_positive next in
    let place : ℕ = below.place in
    let whole : ℕ = place + k * size in
    let few : k < 128 = omega (arith, room, read.spelled.0.count) in
    let at : whole / size ≡ k = add-mul-div_right place k some ∙ ap (λ n. n + k) (div-eq_of_lt below.low) ∙ zero-add k in
    let of : whole % size ≡ place = add-mul-mod_self_right place k size ∙ mod-eq_of_lt below.low in
    let same : child ≡ get_or pointers (whole / size) Hole = child_is ∙ get_or_default pointers k other Hole room ∙ ap (λ j. get_or pointers j Hole) (sym at) in
    let room_below : whole < 128 * size = (div-lt_iff_lt-mul some).0 (subst (λ n. n < 128) (sym at) few) in
    let spaces = ap (λ store. store.spaces) reads.rest in
    let leads : ComesWhere picks old.spaces property next block.birth (seen picks child) place below.there =
    subst (λ s. ComesWhere picks s property next block.birth (seen picks child) place below.there) spaces below.leads in
    record {
      place = whole;
      low = omega (arith, room_below, span_up level next e);
      there = below.there;
      leads = comes_down picks old.spaces property level next birth (seen picks pointer) whole below.there block pointers e is read
          (subst (λ j. ComesWhere picks old.spaces property next block.birth (seen picks (get_or pointers (whole / size) Hole)) j below.there) (sym of)
          (subst (λ p. ComesWhere picks old.spaces property next block.birth (seen picks p) place below.there) same leads));
      fault = fault_on old mid new missing property below.there refusal reads below.fault;
    }
