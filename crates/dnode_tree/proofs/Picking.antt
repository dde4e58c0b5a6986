-- The picked blocks of parts of trees, where nothing is picked below a block that isn't.
use Rattle.std.proofs.Common.{◌≡◌, ℕ, zero, suc, ◌+◌, ◌*◌, ◌^◌, ◌<◌, ◌≤◌, Bool, true, false, List, [], ◌∷◌, ◌++◌, length, take, get_or, Option, Some, None, Contains, refl, ap, sym, ◌∙◌, subst, arith, append_assoc, append-nil}
use Rattle.std.specs.Prelude.{filter, map, nat_lt}
use Rattle.std.proofs.lemmas.Bool.Decides.{nat_tests}
use Rattle.std.proofs.lemmas.List.{take_all, length-map, get_or-map}
use Rattle.std.proofs.lemmas.List.Elements.{filter-append}
use Rattle.block_pointer.specs.declared.block.Block.{Block}
use Rattle.block_pointer.specs.declared.pointer.BlockPtr.{BlockPtr}
use Rattle.block_pointer.specs.declared.pointer.BlockPtr.TheVariants.{Hole, Block as At}
use Rattle.block_pointer.specs.declared.property.Property.{Property}
use Rattle.block_store.specs.Blocks.{Contents}
use Rattle.block_store.specs.Store.{Store, Holds}
use Rattle.block_store.specs.Steps.{OnlyReadsBlocks, AnswersTell}
use Rattle.block_store.proofs.Steps.{reads_none, reads_on}
use Rattle.dnode.specs.declared.node.ObjectNode.{ObjectNode}
use Rattle.block_store.specs.Reading.{Asks}
use Rattle.dnode_tree.specs.Subtree.{asked_of, IsSubtree, AreParts, joined}
use Rattle.dnode_tree.specs.Tree.{property_of}
use Rattle.dnode_tree.specs.Within.{indirect_count}
use Rattle.dnode_tree.specs.Younger.{is_picked}
use Rattle.dnode_tree.proofs.Enough.{root_counted, still_enough}
use Rattle.dnode_tree.proofs.Collecting.{joined-take_more, part_at}
use Rattle.dnode_tree.proofs.FurtherReads.{told_before, told_after}
use Rattle.dnode_tree.proofs.Parts.{hole_part}
use Rattle.dnode_tree.proofs.Standing.{blocks_known}

-- ---- picked blocks of lists

pub picked_first : (picks : Block → Bool) (block : Block) (rest : List Block) → picks block ≡ true → filter picks (block ∷ rest) ≡ block ∷ filter picks rest
picked_first picks block rest passes = rw passes refl

pub passed_over : (picks : Block → Bool) (block : Block) (rest : List Block) → picks block ≡ false → filter picks (block ∷ rest) ≡ filter picks rest
passed_over picks block rest fails = rw fails refl

-- those of each part
abbrev pub picked_parts : (Block → Bool) → List (List Block) → List (List Block)
picked_parts picks parts = map (filter picks) parts

pub joined_picked : (picks : Block → Bool) (parts : List (List Block)) → joined (picked_parts picks parts) ≡ filter picks (joined parts)
joined_picked picks [] = refl
joined_picked picks (part ∷ parts) = ap (λ rest. filter picks part ++ rest) (joined_picked picks parts) ∙ sym (filter-append picks part (joined parts))

-- where each block is picked, all are
pub all_picked : (picks : Block → Bool) (blocks : List Block) → ((block : Block) → Contains blocks block → picks block ≡ true) → filter picks blocks ≡ blocks
all_picked picks [] each = refl
all_picked picks (block ∷ rest) each =
    picked_first picks block rest (each block (0, omega arith, refl))
    ∙ ap (λ more. block ∷ more) (all_picked picks rest (λ other held. each other (suc held.0, omega (arith, held.1), held.2)))

-- where none is, nothing is left
pub none_picked : (picks : Block → Bool) (blocks : List Block) → ((block : Block) → Contains blocks block → picks block ≡ false) → filter picks blocks ≡ []
none_picked picks [] each = refl
none_picked picks (block ∷ rest) each =
    passed_over picks block rest (each block (0, omega arith, refl)) ∙ none_picked picks rest (λ other held. each other (suc held.0, omega (arith, held.1), held.2))

-- what is older than a block that isn't looked for isn't either
pub picked_by_birth : (since : Option ℕ) (block older : Block) → older.birth ≤ block.birth → is_picked since block ≡ false → is_picked since older ≡ false
picked_by_birth None block older within fails = absurd cc
picked_by_birth (Some group) block older within fails =
    let test : nat_lt group block.birth ≡ false = fails in
    let is : nat_lt group older.birth ≡ false = grind (arith, nat_tests) in is

-- ---- the walk over the parts below a root

-- the picked blocks of the first n parts were added to the earlier ones
pub record IsPicking (picks : Block → Bool) (mid now : Store) (missing : List ℕ) (node : ObjectNode) (next birth : ℕ) (pointers : List BlockPtr) (n : ℕ) (earlier found : List Block) : Type 0 where
  pub reads : OnlyReadsBlocks mid now missing
  pub so_far : (stored : Contents) (first : ℕ) (array : ℕ → Option (List ℕ)) (parts : List (List Block)) → Holds mid stored
      → AreParts stored (property_of node) next first birth pointers array parts → AnswersTell mid now missing → found ≡ earlier ++ joined (take n (picked_parts picks parts))

pub picking_begins : (picks : Block → Bool) (mid : Store) (missing : List ℕ) (node : ObjectNode) (next birth : ℕ) (pointers : List BlockPtr) (earlier : List Block)
    → IsPicking picks mid mid missing node next birth pointers 0 earlier earlier
picking_begins picks mid missing node next birth pointers earlier =
    record { reads = reads_none mid missing; so_far = λ stored first array parts held are tell. sym (append-nil earlier) }

pub picking_goes_on : (picks : Block → Bool) (mid now after : Store) (missing : List ℕ) (node : ObjectNode) (next birth : ℕ) (pointers : List BlockPtr) (child other : BlockPtr) (n : ℕ) (earlier found more : List Block)
    → IsPicking picks mid now missing node next birth pointers n earlier found → n < length pointers → child ≡ get_or pointers n other
    → OnlyReadsBlocks now after missing
    → ((stored : Contents) (first : ℕ) (array : ℕ → Option (List ℕ)) (blocks : List Block) → Holds now stored
    → IsSubtree stored (property_of node) next first birth child array blocks → AnswersTell now after missing → more ≡ found ++ filter picks blocks)
    → IsPicking picks mid after missing node next birth pointers (n + 1) earlier more
picking_goes_on picks mid now after missing node next birth pointers child other n earlier found more done low is reads step = record {
  reads = reads_on mid now after missing done.reads reads;
  so_far = λ stored first array parts held are tell.
      let room : n < length parts = omega (arith, low, are.pointer_count, are.count) in
      let whole : List (List Block) = picked_parts picks parts in
      let here : get_or whole n [] ≡ filter picks (get_or parts n []) = get_or-map (filter picks) parts n [] [] room in
      step stored (first + n * 128 ^ next) array (get_or parts n []) (done.reads.keeps stored held)
      (part_at stored (property_of node) next first birth pointers array parts n child other are low is)
      (told_after mid now after missing done.reads reads tell)
      ∙ ap (λ blocks. blocks ++ filter picks (get_or parts n [])) (done.so_far stored first array parts held are (told_before mid now after missing done.reads reads tell))
      ∙ append_assoc earlier (joined (take n whole)) (filter picks (get_or parts n []))
      ∙ ap (λ blocks. earlier ++ (joined (take n whole) ++ blocks)) (sym here)
      ∙ ap (λ blocks. earlier ++ blocks) (joined-take_more whole n (omega (arith, room, length-map parts (filter picks))));
}

pub picked_all : (picks : Block → Bool) (mid now : Store) (missing : List ℕ) (node : ObjectNode) (next birth : ℕ) (pointers : List BlockPtr) (n : ℕ) (before earlier found blocks : List Block) (block : Block)
    → IsPicking picks mid now missing node next birth pointers n earlier found → length pointers ≤ n → earlier ≡ before ++ block ∷ [] → picks block ≡ true
    → (stored : Contents) (first : ℕ) (array : ℕ → Option (List ℕ)) (parts : List (List Block)) → Holds mid stored
    → AreParts stored (property_of node) next first birth pointers array parts → AnswersTell mid now missing → blocks ≡ block ∷ joined parts
    → found ≡ before ++ filter picks blocks
picked_all picks mid now missing node next birth pointers n before earlier found blocks block done all earlier_is passes stored first array parts held are tell blocks_are =
    let whole : List (List Block) = picked_parts picks parts in
    let past : length whole ≤ n = omega (arith, all, are.pointer_count, are.count, length-map parts (filter picks)) in
    done.so_far stored first array parts held are tell
    ∙ ap (λ taken. earlier ++ joined taken) (take_all n whole past)
    ∙ ap (λ blocks. blocks ++ joined whole) earlier_is
    ∙ append_assoc before (block ∷ []) (joined whole)
    ∙ ap (λ rest. before ++ (block ∷ rest)) (joined_picked picks parts)
    ∙ ap (λ blocks. before ++ blocks) (sym (ap (filter picks) blocks_are ∙ picked_first picks block (joined parts) passes))

pub picked_only : (picks : Block → Bool) (block : Block) (blocks : List Block) → picks block ≡ true → blocks ≡ block ∷ [] → filter picks blocks ≡ block ∷ []
picked_only picks block blocks passes are = ap (filter picks) are ∙ picked_first picks block [] passes

-- ---- counts

picked_are : (picks : Block → Bool) (block : Block) (blocks : List Block) (parts : List (List Block)) → picks block ≡ true → blocks ≡ block ∷ joined parts
    → filter picks blocks ≡ block ∷ joined (picked_parts picks parts)
picked_are picks block blocks parts passes are =
    ap (filter picks) are ∙ picked_first picks block (joined parts) passes ∙ ap (λ rest. block ∷ rest) (sym (joined_picked picks parts))

-- the root of a part above the data is one that is read
pub picked_root : (picks : Block → Bool) (node : ObjectNode) (level birth : ℕ) (block : Block) (blocks : List Block) (parts : List (List Block))
    → 0 < level → Asks (asked_of (property_of node level) birth) block → picks block ≡ true → blocks ≡ block ∷ joined parts
    → indirect_count (filter picks blocks) ≡ indirect_count (joined (picked_parts picks parts)) + 1
picked_root picks node level birth block blocks parts above asks passes are =
    root_counted node level birth block (filter picks blocks) (joined (picked_parts picks parts)) above asks (picked_are picks block blocks parts passes are)

-- behind the first parts as many are left as the next one has
pub picked_enough : (picks : Block → Bool) (node : ObjectNode) (level birth : ℕ) (block : Block) (blocks : List Block) (parts : List (List Block)) (n : ℕ) (earlier found : List Block) (all before now : ℕ)
    → 0 < level → Asks (asked_of (property_of node level) birth) block → picks block ≡ true → blocks ≡ block ∷ joined parts → n < length parts
    → found ≡ earlier ++ joined (take n (picked_parts picks parts)) → before + indirect_count earlier ≡ now + indirect_count found → all ≡ before + 1 → indirect_count (filter picks blocks) ≤ all
    → indirect_count (filter picks (get_or parts n [])) ≤ now
picked_enough picks node level birth block blocks parts n earlier found all before now above asks passes are low found_is counts more enough =
    subst (λ part. indirect_count part ≤ now) (get_or-map (filter picks) parts n [] [] low)
    (still_enough node level birth block (filter picks blocks) (picked_parts picks parts) n earlier found all before now above asks (picked_are picks block blocks parts passes are)
    (omega (arith, low, length-map parts (filter picks))) found_is counts more enough)

-- ---- what is left out

-- a part was born by its own root's birth
own_birth : (stored : Contents) (property : ℕ → Property) (level first birth : ℕ) (block : Block) (array : ℕ → Option (List ℕ)) (blocks : List Block)
    → IsSubtree stored property level first birth (At block) array blocks → IsSubtree stored property level first block.birth (At block) array blocks
own_birth stored property zero first birth block array blocks part = (
  part.0,
  record { asks = record { property = part.1.asks.property; birth = omega arith }; known = part.1.known; fill = part.1.fill },
  part.2,
  part.3,
)
own_birth stored property (suc level) first birth block array blocks part = record {
  asks = record { property = part.asks.property; birth = omega arith };
  bytes = part.bytes;
  known = part.known;
  pointers = part.pointers;
  spelled = part.spelled;
  fill = part.fill;
  parts = part.parts;
  count = part.count;
  below = part.below;
  blocks_are = part.blocks_are;
}

-- nothing is picked behind a block that isn't
pub nothing_below : (since : Option ℕ) (stored : Contents) (property : ℕ → Property) (level first birth : ℕ) (pointer : BlockPtr) (block : Block) (array : ℕ → Option (List ℕ)) (blocks : List Block)
    → pointer ≡ At block → is_picked since block ≡ false → IsSubtree stored property level first birth pointer array blocks → filter (is_picked since) blocks ≡ []
nothing_below since stored property level first birth pointer block array blocks is fails part =
    let own = own_birth stored property level first birth block array blocks (subst (λ p. IsSubtree stored property level first birth p array blocks) is part) in
    none_picked (is_picked since) blocks
    (λ other held. picked_by_birth since block other (blocks_known stored property level first block.birth (At block) array blocks own other held).0 fails)

-- nor at a hole
pub nothing_in_hole : (picks : Block → Bool) (stored : Contents) (property : ℕ → Property) (level first birth : ℕ) (pointer : BlockPtr) (array : ℕ → Option (List ℕ)) (blocks : List Block)
    → pointer ≡ Hole → IsSubtree stored property level first birth pointer array blocks → filter picks blocks ≡ []
nothing_in_hole picks stored property level first birth pointer array blocks is part =
    ap (filter picks) (hole_part stored property level first birth pointer array blocks is part).1
