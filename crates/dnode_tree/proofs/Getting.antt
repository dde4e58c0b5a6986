-- Several data blocks of a part, one part below its root after the other.
use Rattle.std.proofs.Common.{◌≡◌, ℕ, suc, ◌+◌, ◌-◌, ◌*◌, ◌/◌, ◌%◌, ◌^◌, ◌<◌, ◌≤◌, min, List, [], ◌∷◌, ◌++◌, length, take, drop, get_or, Option, Some, None, All, Vec, Contains, inl, inr, refl, ap, sym, ◌∙◌, subst, arith, append_assoc, append-nil, zero-add, length-take, length-drop}
use Rattle.std.specs.declared.alloc.Global.{Global}
use Rattle.std.specs.List.{AllZip}
use Rattle.std.specs.List.Sorted.{IsStrictlyIncreasing}
use Rattle.std.specs.Prelude.{replicate}
use Rattle.std.proofs.lemmas.Bool.{cases_eq}
use Rattle.std.proofs.lemmas.List.{get_or_default, get_or-take, get_or-drop, take-append-drop}
use Rattle.std.proofs.lemmas.List.Elements.{All-head, All-tail, All-take, All-drop, All-contains, Contains-append_left, Contains-append_right}
use Rattle.std.proofs.lemmas.List.Kept.{AllPairs-from_increasing}
use Rattle.std.proofs.Math.Nat.{add-mul-div_right, div-eq_of_lt, add-mul-mod_self_right, mod-eq_of_lt}
use Rattle.block_pointer.specs.declared.block.Block.{Block}
use Rattle.block_pointer.specs.declared.pointer.BlockPtr.{BlockPtr}
use Rattle.block_pointer.specs.declared.pointer.BlockPtr.TheVariants.{Hole, Block as At}
use Rattle.block_pointer.specs.declared.property.Property.{Property}
use Rattle.block_store.specs.declared.block.Asked.{Asked}
use Rattle.block_store.specs.declared.refusal.Refusal.{Refusal}
use Rattle.block_store.specs.Spaces.{VdevSpace}
use Rattle.block_store.specs.Blocks.{Contents}
use Rattle.block_store.specs.Reading.{IsReadAs}
use Rattle.block_store.specs.Steps.{OnlyReadsBlocks, AnswersTell}
use Rattle.block_store.specs.Store.{Store, Holds}
use Rattle.block_store.proofs.Steps.{reads_none, reads_on}
use Rattle.dnode.specs.declared.node.ObjectNode.{ObjectNode}
use Rattle.dnode_tree.specs.declared.subtree.Subtree.{Subtree}
use Rattle.dnode.specs.Indirect.{SpellsIndirect}
use Rattle.dnode_tree.specs.Many.{FoundBlocks, AreAsIn, AreIdsBetween, AreFoundIn, HaveAdded, IsDataAdded, IsOneRefusedIn}
use Rattle.dnode_tree.specs.PartsRefused.{reached_part}
use Rattle.dnode_tree.specs.Subtree.{asked_of, AreParts, IsSubtree}
use Rattle.dnode_tree.specs.Tree.{property_of, IsPart}
use Rattle.dnode_tree.specs.Ways.{AreReadAs, reached, ComesTo, bytes_of, IsFoundBelow, IsRefusedBelow}
use Rattle.dnode_tree.proofs.Collecting.{part_at, parts_below}
use Rattle.dnode_tree.proofs.FurtherReads.{told_before, told_after}
use Rattle.dnode_tree.proofs.Parts.{hole_part, data_part, indirect_part}
use Rattle.dnode_tree.proofs.Spans.{span_positive, span_up}
use Rattle.dnode_tree.proofs.WayLemmas.{hole_found, block_found, leads_down, refused_down}

-- ---- lists side by side

pub zip_append : {A B : Type 0} (R : A → B → Type 0) (xs more : List A) (ys others : List B) → AllZip R xs ys → AllZip R more others → AllZip R (xs ++ more) (ys ++ others)
zip_append R [] more [] others first rest = rest
zip_append R [] more (y ∷ ys) others first rest = absurd first
zip_append R (x ∷ xs) more [] others first rest = absurd first
zip_append R (x ∷ xs) more (y ∷ ys) others first rest = (first.0, zip_append R xs more ys others first.1 rest)

pub zip_weaker : {A B : Type 0} (Q : A → Type 0) (R S : A → B → Type 0) (xs : List A) (ys : List B) → ((x : A) (y : B) → Q x → R x y → S x y) → All Q xs → AllZip R xs ys → AllZip S xs ys
zip_weaker Q R S [] [] so all zip = tt
zip_weaker Q R S [] (y ∷ ys) so all zip = absurd zip
zip_weaker Q R S (x ∷ xs) [] so all zip = absurd zip
zip_weaker Q R S (x ∷ xs) (y ∷ ys) so all zip = (so x y (All-head Q x xs all) zip.0, zip_weaker Q R S xs ys so (All-tail Q x xs all) zip.1)

pub zip_none : {A B : Type 0} (Q : A → Type 0) (R : A → B → Type 0) (none : B) (xs : List A) → ((x : A) → Q x → R x none) → All Q xs → AllZip R xs (replicate (length xs) none)
zip_none Q R none [] so all = tt
zip_none Q R none (x ∷ xs) so all = (so x (All-head Q x xs all), zip_none Q R none xs so (All-tail Q x xs all))

-- ---- ids in order

pub increasing_taken : (ids : List ℕ) (n : ℕ) → IsStrictlyIncreasing ids → IsStrictlyIncreasing (take n ids)
increasing_taken ids n once k low =
    let taken : k + 1 < min n (length ids) = rw length-take at low in
    let early : k + 1 < n = omega (arith, taken) in
    let sooner : k < n = omega (arith, early) in
    rw (get_or-take n ids k 0 sooner, get_or-take n ids (k + 1) 0 early) (once k (omega (arith, taken)))

pub increasing_dropped : (ids : List ℕ) (n : ℕ) → IsStrictlyIncreasing ids → IsStrictlyIncreasing (drop n ids)
increasing_dropped ids n once k low =
    let left : k + 1 < length ids - n = rw length-drop at low in
    let there : get_or ids (n + k) 0 < get_or ids (n + k + 1) 0 = once (n + k) (omega (arith, left)) in
    let same : n + (k + 1) ≡ n + k + 1 = omega arith in
    rw (get_or-drop n ids k 0, get_or-drop n ids (k + 1) 0, same) there

-- what stands behind an id that is not before the end isn't either
pub behind_all : (ids : List ℕ) (n end : ℕ) → IsStrictlyIncreasing ids → (n < length ids → end ≤ get_or ids n 0) → All (λ id. end ≤ id) (drop n ids)
behind_all ids n end once first k d low =
    let room : n + k < length ids = (let left : k < length ids - n = rw length-drop at low in omega (arith, left)) in
    let here : end ≤ get_or ids n d = rw (get_or_default ids n d 0 (omega (arith, room))) (first (omega (arith, room))) in
    rw get_or-drop
    (elim (cases_eq k 0) [
      | inl none ↦ let same : n + k ≡ n = omega (arith, none) in rw same here
      | inr more ↦ let there = AllPairs-from_increasing ids once n (n + k) d (omega (arith, more)) room in omega (arith, there, here)
    ])

-- ids of one data block
pub only_first : (ids : List ℕ) (first end : ℕ) → end ≡ first + 1 → 0 < length ids → AreIdsBetween first end ids → IsStrictlyIncreasing ids → ids ≡ first ∷ []
only_first [] first end e some between once = absurd (omega (arith, some))
only_first (id ∷ []) first end e some between once =
    let range = between 0 0 (omega arith) in
    let same : id ≡ first = omega (arith, range.0, range.1, e) in ap (λ n. n ∷ []) same
only_first (id ∷ other ∷ rest) first end e some between once =
    let range = between 0 0 (omega arith) in
    let next = between 1 0 (omega arith) in
    let less = once 0 (omega arith) in
    absurd (omega (arith, range.0, next.1, less, e))

-- ---- from a part to the one above

module _ (property : ℕ → Property) (level next birth : ℕ) (pointer : BlockPtr) (block : Block) (pointers : List BlockPtr) (child : BlockPtr) (first start k id : ℕ)
    (e : level ≡ suc next) (is : pointer ≡ At block) (few : k < 128) (child_is : child ≡ get_or pointers k child)
    (start_is : start ≡ first + k * 128 ^ next) (from : start ≤ id) (below : id < start + 128 ^ next) where
  whole : id - first ≡ (id - start) + k * 128 ^ next
  whole = omega (arith, start_is, from)

  within : id - start < 128 ^ next
  within = omega (arith, from, below)

  at_child : (id - first) / 128 ^ next ≡ k
  at_child =
      ap (λ n. n / 128 ^ next) whole ∙ add-mul-div_right (id - start) k (span_positive next)
      ∙ ap (λ n. n + k) (div-eq_of_lt within) ∙ zero-add k

  in_child : (id - first) % 128 ^ next ≡ id - start
  in_child = ap (λ n. n % 128 ^ next) whole ∙ add-mul-mod_self_right (id - start) k (128 ^ next) ∙ mod-eq_of_lt within

  same : child ≡ get_or pointers ((id - first) / 128 ^ next) child
  same = child_is ∙ ap (λ j. get_or pointers j child) (sym at_child)

  low : (id - first) / 128 ^ next < 128
  low = subst (λ n. n < 128) (sym at_child) few

  pub found_up : (spaces : List VdevSpace) → AreReadAs spaces (asked_of (property level) birth) block pointers → (found : Option (List ℕ))
      → IsFoundBelow spaces property (reached next child block.birth) (id - start) found
      → IsFoundBelow spaces property (reached level pointer birth) (id - first) found
  found_up spaces read found there = record {
    there = there.there;
    leads = leads_down spaces property level next birth pointer (id - first) (128 ^ next) block pointers child e is read refl low same there.there
        (subst (λ n. ComesTo spaces property next block.birth child n there.there) (sym in_child) there.leads);
    has = there.has;
  }

  pub refused_up : (old mid new : Store) (missing : List ℕ) → AreReadAs old.spaces (asked_of (property level) birth) block pointers → OnlyReadsBlocks old mid missing
      → (refusal : Refusal) → IsRefusedBelow mid new missing property (reached next child block.birth) (id - start) refusal
      → IsRefusedBelow old new missing property (reached level pointer birth) (id - first) refusal
  refused_up old mid new missing read reads refusal why =
      refused_down old mid new missing property level next birth pointer (id - first) (128 ^ next) block pointers child e is read refl low same reads refusal
      (subst (λ n. IsRefusedBelow mid new missing property (reached next child block.birth) n refusal) (sym in_child) why)

-- ---- a data block, and a hole

pub data_added : (old new : Store) (missing : List ℕ) (node : ObjectNode) (part : Subtree) (first : ℕ) (ids : List ℕ) (asked : Asked) (block : Block) (before after : FoundBlocks)
    → part.level ≡ 0 → part.pointer ≡ At block → asked ≡ asked_of (property_of node part.level) part.birth → ids ≡ first ∷ []
    → IsDataAdded old new missing asked block before after → HaveAdded old new missing node part first ids before after
data_added old new missing node part first ids asked block before after e is asked_is ids_are there =
    let read : IsReadAs old.spaces (asked_of (property_of node part.level) part.birth) block there.bytes.items =
    subst (λ a. IsReadAs old.spaces a block there.bytes.items) asked_is there.read in
    record {
      more = Some there.bytes ∷ [];
      added = there.added;
      found = subst (λ xs. AreFoundIn old.spaces node part first xs (Some there.bytes ∷ [])) (sym ids_are)
          ((block_found old.spaces (property_of node) part.level part.birth part.pointer (first - first) block (record { bytes = there.bytes; birth = block.birth }) e is read refl).below, tt);
      value = λ stored array blocks held part_is tell.
          let (bytes, stands, known, blocks_are) = data_part stored (property_of node) part.level 0 first part.birth part.pointer block array blocks e is part_is in
          subst (λ xs. AreAsIn array xs (Some there.bytes ∷ [])) (sym ids_are) (ap (λ bs. Some bs) (there.value stored bytes held stands.known tell) ∙ sym known, tt);
    }

-- no bytes for each of the ids
pub nothing_added : (old : Store) (missing : List ℕ) (node : ObjectNode) (part : Subtree) (first : ℕ) (ids : List ℕ) (before after : FoundBlocks)
    → part.pointer ≡ Hole → AreIdsBetween first (first + 128 ^ part.level) ids → after ≡ before ++ replicate (length ids) None
    → HaveAdded old old missing node part first ids before after
nothing_added old missing node part first ids before after is between added = record {
  more = replicate (length ids) None;
  added = added;
  found = zip_none (λ id. (first ≤ id) × (id < first + 128 ^ part.level))
      (λ id (block : Option (Vec ℕ Global)). IsFoundBelow old.spaces (property_of node) (reached_part part) (id - first) (bytes_of block)) None ids
      (λ id range. (hole_found old.spaces (property_of node) part.level part.birth part.pointer (id - first) is).below) between;
  value = λ stored array blocks held part_is tell.
      let empty = hole_part stored (property_of node) part.level first part.birth part.pointer array blocks is part_is in
      zip_none (λ id. (first ≤ id) × (id < first + 128 ^ part.level)) (λ id (block : Option (Vec ℕ Global)). bytes_of block ≡ array id) None ids
      (λ id range. sym (empty.0 id range.0 range.1)) between;
}

pub none_added : (old : Store) (missing : List ℕ) (node : ObjectNode) (part : Subtree) (first : ℕ) (ids : List ℕ) (before : FoundBlocks) → ids ≡ [] → HaveAdded old old missing node part first ids before before
none_added old missing node part first ids before none = record {
  more = [];
  added = sym (append-nil before);
  found = subst (λ xs. AreFoundIn old.spaces node part first xs []) (sym none) tt;
  value = λ stored array blocks held part_is tell. subst (λ xs. AreAsIn array xs []) (sym none) tt;
}

-- ---- the loop over the parts below a root

-- the parts before the k-th were read for the ids that lie in them
pub record IsGetting (old mid now : Store) (missing : List ℕ) (node : ObjectNode) (part : Subtree) (first next birth : ℕ) (pointers : List BlockPtr)
    (ids rest : List ℕ) (k : ℕ) (before after : FoundBlocks) : Type 0 where
  pub begun : OnlyReadsBlocks old mid missing
  pub reads : OnlyReadsBlocks mid now missing
  pub once : IsStrictlyIncreasing rest
  pub between : AreIdsBetween (first + k * 128 ^ next) (first + 128 * 128 ^ next) rest
  pub taken : List ℕ
  pub split : ids ≡ taken ++ rest
  pub more : FoundBlocks
  pub added : after ≡ before ++ more
  pub found : AreFoundIn old.spaces node part first taken more
  pub value : (stored : Contents) (array : ℕ → Option (List ℕ)) (parts : List (List Block)) → Holds mid stored
      → AreParts stored (property_of node) next first birth pointers array parts → AnswersTell mid now missing → AreAsIn array taken more

pub getting_begins : (old mid : Store) (missing : List ℕ) (node : ObjectNode) (part : Subtree) (first next birth : ℕ) (pointers : List BlockPtr) (ids : List ℕ) (before : FoundBlocks)
    → OnlyReadsBlocks old mid missing → part.level ≡ suc next → IsStrictlyIncreasing ids → AreIdsBetween first (first + 128 ^ part.level) ids
    → IsGetting old mid mid missing node part first next birth pointers ids ids 0 before before
getting_begins old mid missing node part first next birth pointers ids before begun e once between = record {
  begun = begun;
  reads = reads_none mid missing;
  once = once;
  between = λ k d low. let range = between k d low in (omega (arith, range.0), omega (arith, range.1, span_up part.level next e));
  taken = [];
  split = refl;
  more = [];
  added = sym (append-nil before);
  found = tt;
  value = λ stored array parts held are tell. tt;
}

-- the root of a part by the pointer to it
abbrev pub child_at : ℕ → BlockPtr → ℕ → Subtree
child_at level pointer birth = record { level = level; pointer = pointer; birth = birth }

-- the ids of one part
module _ (first next k n start end : ℕ) (rest run others : List ℕ) (start_is : start ≡ first + k * 128 ^ next) (end_is : end ≡ start + 128 ^ next)
    (once : IsStrictlyIncreasing rest) (between : AreIdsBetween (first + k * 128 ^ next) (first + 128 * 128 ^ next) rest)
    (sooner : All (λ id. id < end) (take n rest)) (later : n < length rest → end ≤ get_or rest n 0) (run_is : run ≡ take n rest) (others_are : others ≡ drop n rest) where
  pub run_between : AreIdsBetween start (start + 128 ^ next) run
  run_between = subst (λ ids. AreIdsBetween start (start + 128 ^ next) ids) (sym run_is) (λ j d low.
      let one = All-take (λ id. (first + k * 128 ^ next ≤ id) × (id < first + 128 * 128 ^ next)) n rest between j d low in
      (omega (arith, one.0, start_is), omega (arith, sooner j d low, end_is)))

  pub run_once : IsStrictlyIncreasing run
  run_once = subst IsStrictlyIncreasing (sym run_is) (increasing_taken rest n once)

  pub others_once : IsStrictlyIncreasing others
  others_once = subst IsStrictlyIncreasing (sym others_are) (increasing_dropped rest n once)

  pub others_between : AreIdsBetween (first + (k + 1) * 128 ^ next) (first + 128 * 128 ^ next) others
  others_between = subst (λ ids. AreIdsBetween (first + (k + 1) * 128 ^ next) (first + 128 * 128 ^ next) ids) (sym others_are) (λ j d low.
      let one = All-drop (λ id. (first + k * 128 ^ next ≤ id) × (id < first + 128 * 128 ^ next)) n rest between j d low in
      let far : end ≤ get_or (drop n rest) j d = behind_all rest n end once later j d low in
      let step : first + (k + 1) * 128 ^ next ≡ end = omega (arith, start_is, end_is) in
      (omega (arith, far, step), one.1))

  pub run_and_others : rest ≡ run ++ others
  run_and_others = sym (ap (λ front. front ++ others) run_is ∙ ap (λ back. take n rest ++ back) others_are ∙ take-append-drop n rest)

-- one part more
module _ (old mid now later : Store) (missing : List ℕ) (node : ObjectNode) (part : Subtree) (first next : ℕ) (block : Block) (pointers : List BlockPtr) (ids rest run others : List ℕ)
    (k n start end : ℕ) (child : BlockPtr) (before after : FoundBlocks)
    (so_far : IsGetting old mid now missing node part first next block.birth pointers ids rest k before after) (low : k < 128)
    (e : part.level ≡ suc next) (is : part.pointer ≡ At block) (read : AreReadAs old.spaces (asked_of (property_of node part.level) part.birth) block pointers)
    (child_is : child ≡ get_or pointers k child) (start_is : start ≡ first + k * 128 ^ next) (end_is : end ≡ start + 128 ^ next)
    (sooner : All (λ id. id < end) (take n rest)) (later_ids : n < length rest → end ≤ get_or rest n 0) (run_is : run ≡ take n rest) (others_are : others ≡ drop n rest)
    (reads : OnlyReadsBlocks now later missing) where
  reads_now : OnlyReadsBlocks old now missing
  reads_now = reads_on old mid now missing so_far.begun so_far.reads

  range : AreIdsBetween start (start + 128 ^ next) run
  range = run_between first next k n start end rest run others start_is end_is so_far.once so_far.between sooner later_ids run_is others_are

  parted : rest ≡ run ++ others
  parted = run_and_others first next k n start end rest run others start_is end_is so_far.once so_far.between sooner later_ids run_is others_are

  -- what is a part of the tree behind the pointer
  pub child_part : (stored : Contents) (array : ℕ → Option (List ℕ)) (parts : List (List Block)) → AreParts stored (property_of node) next first block.birth pointers array parts
      → IsPart stored node start (child_at next child block.birth) array (get_or parts k [])
  child_part stored array parts are =
      subst (λ s. IsSubtree stored (property_of node) next s block.birth child array (get_or parts k [])) (sym start_is)
      (part_at stored (property_of node) next first block.birth pointers array parts k child child are (omega (arith, low, are.pointer_count)) child_is)

  pub getting_goes_on : (more_after : FoundBlocks) → HaveAdded now later missing node (child_at next child block.birth) start run after more_after
      → IsGetting old mid later missing node part first next block.birth pointers ids others (k + 1) before more_after
  getting_goes_on more_after step =
      let P : ℕ → Option (Vec ℕ Global) → Type 0 = λ id found. IsFoundBelow old.spaces (property_of node) (reached_part part) (id - first) (bytes_of found) in
      let spaces : now.spaces ≡ old.spaces = ap (λ store. store.spaces) reads_now.rest in
      let found_now : AreFoundIn old.spaces node part first run step.more =
      zip_weaker (λ id. (start ≤ id) × (id < start + 128 ^ next))
      (λ id (found : Option (Vec ℕ Global)). IsFoundBelow now.spaces (property_of node) (reached_part (child_at next child block.birth)) (id - start) (bytes_of found)) P run step.more
      (λ id found bounds there.
      found_up (property_of node) part.level next part.birth part.pointer block pointers child first start k id e is low child_is start_is bounds.0 bounds.1 old.spaces read (bytes_of found)
      (subst (λ s. IsFoundBelow s (property_of node) (reached next child block.birth) (id - start) (bytes_of found)) spaces there))
      range step.found in
      record {
        begun = so_far.begun;
        reads = reads_on mid now later missing so_far.reads reads;
        once = others_once first next k n start end rest run others start_is end_is so_far.once so_far.between sooner later_ids run_is others_are;
        between = others_between first next k n start end rest run others start_is end_is so_far.once so_far.between sooner later_ids run_is others_are;
        taken = so_far.taken ++ run;
        split = so_far.split ∙ ap (λ back. so_far.taken ++ back) parted ∙ sym (append_assoc so_far.taken run others);
        more = so_far.more ++ step.more;
        added = step.added ∙ ap (λ front. front ++ step.more) so_far.added ∙ append_assoc before so_far.more step.more;
        found = zip_append P so_far.taken run so_far.more step.more so_far.found found_now;
        value = λ stored array parts held are tell.
            zip_append (λ id (found : Option (Vec ℕ Global)). bytes_of found ≡ array id) so_far.taken run so_far.more step.more
            (so_far.value stored array parts held are (told_before mid now later missing so_far.reads reads tell))
            (step.value stored array (get_or parts k []) (so_far.reads.keeps stored held) (child_part stored array parts are)
            (told_after mid now later missing so_far.reads reads tell));
      }

  pub getting_fails : (refusal : Refusal) → IsOneRefusedIn now later missing node (child_at next child block.birth) start run refusal → IsOneRefusedIn old later missing node part first ids refusal
  getting_fails refusal (inl memory) = inl memory
  getting_fails refusal (inr (id, held, why)) =
      let bounds = All-contains (λ i. (start ≤ i) × (i < start + 128 ^ next)) run id range held in
      inr (
        id,
        subst (λ xs. Contains xs id) (sym so_far.split)
            (Contains-append_right so_far.taken rest id (subst (λ xs. Contains xs id) (sym parted) (Contains-append_left run others id held))),
        refused_up (property_of node) part.level next part.birth part.pointer block pointers child first start k id e is low child_is start_is bounds.0 bounds.1
            old now later missing read reads_now refusal why,
      )

none_between : (ids : List ℕ) (first end : ℕ) → AreIdsBetween first end ids → end ≤ first → ids ≡ []
none_between [] first end between le = refl
none_between (id ∷ ids) first end between le = let one = between 0 0 (omega arith) in absurd (omega (arith, one.0, one.1, le))

-- all parts were read
module _ (old mid now : Store) (missing : List ℕ) (node : ObjectNode) (part : Subtree) (first next : ℕ) (block : Block) (pointers : List BlockPtr) (ids rest : List ℕ)
    (k : ℕ) (before after : FoundBlocks) (so_far : IsGetting old mid now missing node part first next block.birth pointers ids rest k before after)
    (e : part.level ≡ suc next) (is : part.pointer ≡ At block)
    (spelled : (stored : Contents) (bytes : List ℕ) (others : List BlockPtr) → Holds old stored → stored block ≡ Some bytes → SpellsIndirect bytes others
    → AnswersTell old mid missing → pointers ≡ others) where
  -- the parts below the root of a part of the tree
  pub parts_of_root : (stored : Contents) (array : ℕ → Option (List ℕ)) (blocks : List Block) → Holds old stored → IsPart stored node first part array blocks → AnswersTell old mid missing
      → (parts : List (List Block)) × AreParts stored (property_of node) next first block.birth pointers array parts
  parts_of_root stored array blocks held part_is tell =
      let there = indirect_part stored (property_of node) part.level next first part.birth part.pointer block array blocks e is part_is in (
        there.parts,
        parts_below stored (property_of node) part.level next first part.birth part.pointer block array blocks pointers e is part_is
            (spelled stored there.bytes there.pointers held there.known there.spelled tell),
      )

  pub getting_ends : k ≡ 128 → HaveAdded old now missing node part first ids before after
  getting_ends k_is =
      let size : k * 128 ^ next ≡ 128 * 128 ^ next = ap (λ j. j * 128 ^ next) k_is in
      let none : rest ≡ [] = none_between rest (first + k * 128 ^ next) (first + 128 * 128 ^ next) so_far.between (omega (arith, size)) in
      let all : so_far.taken ≡ ids = sym (so_far.split ∙ ap (λ back. so_far.taken ++ back) none ∙ append-nil so_far.taken) in
      record {
        more = so_far.more;
        added = so_far.added;
        found = subst (λ xs. AreFoundIn old.spaces node part first xs so_far.more) all so_far.found;
        value = λ stored array blocks held part_is tell.
            let (parts, are) = parts_of_root stored array blocks held part_is (told_before old mid now missing so_far.begun so_far.reads tell) in
            subst (λ xs. AreAsIn array xs so_far.more) all
            (so_far.value stored array parts (so_far.begun.keeps stored held) are (told_after old mid now missing so_far.begun so_far.reads tell));
      }
