-- Walks over parts of trees, whether or not they are whole.
use Rattle.std.proofs.Common.{◌≡◌, ℕ, zero, suc, ◌+◌, ◌*◌, ◌/◌, ◌%◌, ◌^◌, ◌<◌, ◌≤◌, List, [], ◌∷◌, ◌++◌, length, get_or, inl, inr, refl, ap, sym, ◌∙◌, subst, arith, append_assoc, append-nil, zero-add}
use Rattle.std.proofs.lemmas.List.{get_or_default, length-append, get_or_append_left}
use Rattle.std.proofs.Math.Seq.{get_or-append_seam}
use Rattle.std.proofs.Math.Nat.{add-mul-div_right, div-eq_of_lt, add-mul-mod_self_right, mod-eq_of_lt, div-lt_iff_lt-mul}
use Rattle.std.proofs.lemmas.List.Concat.{flat_map-append}
use Rattle.std.proofs.lemmas.Bool.{cases_lt}
use Rattle.block_pointer.specs.declared.block.Block.{Block}
use Rattle.block_pointer.specs.declared.pointer.BlockPtr.{BlockPtr}
use Rattle.block_pointer.specs.declared.pointer.BlockPtr.TheVariants.{Hole, Block as At}
use Rattle.block_pointer.specs.declared.property.Property.{Property}
use Rattle.block_store.specs.declared.refusal.Refusal.{Refusal}
use Rattle.block_store.specs.declared.refusal.Refusal.TheVariants.{NoMemory}
use Rattle.block_store.specs.Spaces.{VdevSpace}
use Rattle.block_store.specs.Reading.{Asks}
use Rattle.block_store.specs.Steps.{OnlyReadsBlocks}
use Rattle.block_store.specs.Store.{Store}
use Rattle.dnode_tree.specs.Subtree.{asked_of, joined}
use Rattle.dnode_tree.specs.Ways.{AreReadAs, reached, IsRefusedBelow, IsWalked, IsWalkRefused}
use Rattle.dnode_tree.proofs.Spans.{span_positive, span_up}
use Rattle.dnode_tree.proofs.WayLemmas.{comes_at_once, refused_down}

pub walked_hole : (spaces : List VdevSpace) (property : ℕ → Property) (level birth : ℕ) (pointer : BlockPtr) → pointer ≡ Hole → IsWalked spaces property level birth pointer []
walked_hole spaces property level birth pointer is = subst (λ p. IsWalked spaces property level birth p []) (sym is) (at_hole level)
  where
    at_hole : (n : ℕ) → IsWalked spaces property n birth Hole []
    at_hole zero = refl
    at_hole (suc n) = refl

pub walked_data : (spaces : List VdevSpace) (property : ℕ → Property) (level birth : ℕ) (pointer : BlockPtr) (block : Block) → level ≡ 0 → pointer ≡ At block
    → Asks (asked_of (property level) birth) block → IsWalked spaces property level birth pointer (block ∷ [])
walked_data spaces property level birth pointer block e is asks =
    let there : IsWalked spaces property 0 birth (At block) (block ∷ []) = (subst (λ n. Asks (asked_of (property n) birth) block) e asks, refl) in
    subst (λ n. IsWalked spaces property n birth pointer (block ∷ [])) (sym e) (subst (λ p. IsWalked spaces property 0 birth p (block ∷ [])) (sym is) there)

-- the parts behind the first n pointers were walked
pub record HaveWalked (spaces : List VdevSpace) (property : ℕ → Property) (level birth : ℕ) (pointers : List BlockPtr) (n : ℕ) (earlier found : List Block) : Type 0 where
  pub parts : List (List Block)
  pub count : length parts ≡ n
  pub each : (k : ℕ) → k < n → IsWalked spaces property level birth (get_or pointers k Hole) (get_or parts k [])
  pub found_are : found ≡ earlier ++ joined parts

pub none_walked : (spaces : List VdevSpace) (property : ℕ → Property) (level birth : ℕ) (pointers : List BlockPtr) (earlier : List Block)
    → HaveWalked spaces property level birth pointers 0 earlier earlier
none_walked spaces property level birth pointers earlier =
    record { parts = []; count = refl; each = λ k low. absurd (omega arith); found_are = sym (append-nil earlier) }

-- one more
pub one_more_walked : (spaces now : List VdevSpace) (property : ℕ → Property) (level birth : ℕ) (pointers : List BlockPtr) (n : ℕ) (earlier found later more : List Block) (child other : BlockPtr)
    → now ≡ spaces → HaveWalked spaces property level birth pointers n earlier found → n < length pointers → child ≡ get_or pointers n other
    → later ≡ found ++ more → IsWalked now property level birth child more → HaveWalked spaces property level birth pointers (n + 1) earlier later
one_more_walked spaces now property level birth pointers n earlier found later more child other spaces_are so_far low is later_is walked_now =
    let walked : IsWalked spaces property level birth child more = subst (λ s. IsWalked s property level birth child more) spaces_are walked_now in
    let parts = so_far.parts in
    let same : get_or pointers n Hole ≡ child = get_or_default pointers n Hole other low ∙ sym is in
    let last : get_or (parts ++ more ∷ []) n [] ≡ more = ap (λ k. get_or (parts ++ more ∷ []) k []) (sym so_far.count) ∙ get_or-append_seam parts more [] [] in
    record {
      parts = parts ++ more ∷ [];
      count = length-append parts (more ∷ []) ∙ ap (λ k. k + 1) so_far.count;
      each = λ k below. elim (cases_lt k n) [
        | inl sooner ↦
            let there : get_or (parts ++ more ∷ []) k [] ≡ get_or parts k [] = get_or_append_left parts (more ∷ []) [] k (omega (arith, so_far.count, sooner)) in
            subst (λ part. IsWalked spaces property level birth (get_or pointers k Hole) part) (sym there) (so_far.each k sooner)
        | inr later ↦
            let now : n ≡ k = omega (arith, later, below) in
            subst (λ j. IsWalked spaces property level birth (get_or pointers j Hole) (get_or (parts ++ more ∷ []) j [])) now
            (subst (λ part. IsWalked spaces property level birth (get_or pointers n Hole) part) (sym last)
            (subst (λ p. IsWalked spaces property level birth p more) (sym same) walked))
      ];
      found_are = later_is ∙ ap (λ blocks. blocks ++ more) so_far.found_are ∙ append_assoc earlier (joined parts) more
          ∙ ap (λ blocks. earlier ++ blocks) (sym (flat_map-append (λ part. part) parts (more ∷ []) ∙ ap (λ blocks. joined parts ++ blocks) (append-nil more)));
    }

-- a whole part
pub all_walked : (spaces : List VdevSpace) (property : ℕ → Property) (level next birth : ℕ) (pointer : BlockPtr) (block : Block) (pointers : List BlockPtr) (n : ℕ) (before earlier found : List Block)
    → level ≡ suc next → pointer ≡ At block → AreReadAs spaces (asked_of (property level) birth) block pointers
    → HaveWalked spaces property next block.birth pointers n earlier found → length pointers ≤ n → n ≤ length pointers → earlier ≡ before ++ block ∷ []
    → (blocks : List Block) × IsWalked spaces property level birth pointer blocks × (found ≡ before ++ blocks)
all_walked spaces property level next birth pointer block pointers n before earlier found e is read so_far all within earlier_is =
    let whole : n ≡ 128 = omega (arith, all, within, read.spelled.0.count) in
    let blocks : List Block = block ∷ joined so_far.parts in
    let P : ℕ → Type 0 = λ k. AreReadAs spaces (asked_of (property k) birth) block pointers → IsWalked spaces property k birth (At block) blocks in
    let there : IsWalked spaces property level birth (At block) blocks =
    subst P (sym e) (λ read. (pointers, so_far.parts, read, so_far.count ∙ whole, (λ k low. so_far.each k (omega (arith, whole, low))), refl)) read in (
      blocks,
      subst (λ p. IsWalked spaces property level birth p blocks) (sym is) there,
      so_far.found_are ∙ ap (λ front. front ++ joined so_far.parts) earlier_is ∙ append_assoc before (block ∷ []) (joined so_far.parts),
    )

-- ---- refusals

pub refused_here : (old new : Store) (missing : List ℕ) (property : ℕ → Property) (level birth : ℕ) (pointer : BlockPtr) (refusal : Refusal)
    → IsRefusedBelow old new missing property (reached level pointer birth) 0 refusal → IsWalkRefused old new missing property (reached level pointer birth) refusal
refused_here old new missing property level birth pointer refusal there = (0, span_positive level, there)

pub refused_for_memory : (old new : Store) (missing : List ℕ) (property : ℕ → Property) (level birth : ℕ) (pointer : BlockPtr)
    → IsWalkRefused old new missing property (reached level pointer birth) NoMemory
refused_for_memory old new missing property level birth pointer = refused_here old new missing property level birth pointer NoMemory (record {
  there = reached level pointer birth;
  leads = comes_at_once old.spaces property level birth pointer 0;
  fault = tt;
})

-- what a child is refused for
pub refused_in_child : (old mid new : Store) (missing : List ℕ) (property : ℕ → Property) (level next birth : ℕ) (pointer : BlockPtr) (block : Block) (pointers : List BlockPtr) (k : ℕ) (child other : BlockPtr)
    → level ≡ suc next → pointer ≡ At block → AreReadAs old.spaces (asked_of (property level) birth) block pointers → k < length pointers → child ≡ get_or pointers k other
    → OnlyReadsBlocks old mid missing → (refusal : Refusal) → IsWalkRefused mid new missing property (reached next child block.birth) refusal
    → IsWalkRefused old new missing property (reached level pointer birth) refusal
refused_in_child old mid new missing property level next birth pointer block pointers k child other e is read room child_is reads refusal (place, low, below) =
    let size : ℕ = 128 ^ next in
    let some : 0 < size = span_positive next in
    let whole : ℕ = place + k * size in
    let few : k < 128 = omega (arith, room, read.spelled.0.count) in
    let at : whole / size ≡ k = add-mul-div_right place k some ∙ ap (λ n. n + k) (div-eq_of_lt low) ∙ zero-add k in
    let of : whole % size ≡ place = add-mul-mod_self_right place k size ∙ mod-eq_of_lt low in
    let same : child ≡ get_or pointers (whole / size) child = child_is ∙ get_or_default pointers k other child room ∙ ap (λ j. get_or pointers j child) (sym at) in
    let room_below : whole < 128 * size = (div-lt_iff_lt-mul some).0 (subst (λ n. n < 128) (sym at) few) in
    let within : whole < 128 ^ level = omega (arith, room_below, span_up level next e) in (
      whole,
      within,
      refused_down old mid new missing property level next birth pointer whole size block pointers child e is read refl (subst (λ n. n < 128) (sym at) few) same reads refusal
          (subst (λ n. IsRefusedBelow mid new missing property (reached next child block.birth) n refusal) (sym of) below),
    )
