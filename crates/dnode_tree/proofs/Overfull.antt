-- Ways to writes that are refused, and fill counts that can't be.
use Rattle.std.proofs.Common.{◌≡◌, ◌⊎◌, inl, inr, ℕ, zero, suc, ◌+◌, ◌-◌, ◌*◌, ◌/◌, ◌%◌, ◌^◌, ◌<◌, ◌≤◌, List, [], ◌∷◌, length, take, drop, get_or, set, Contains, refl, sym, ap, ◌∙◌, subst, arith, add-one}
use Rattle.std.proofs.Math.Nat.{mul-le-mul_right, add-mul-div_right, div-eq_of_lt, add-mul-mod_self_right, mod-eq_of_lt}
use Rattle.std.proofs.lemmas.Bool.{cases_lt, cases_eq}
use Rattle.std.proofs.lemmas.List.{take-append-drop, get_or-set_same, get_or-set_other, get_or_default}
use Rattle.std.proofs.lemmas.List.Elements.{Contains-append_left, Contains-append_right}
use Rattle.block_pointer.specs.declared.block.Block.{Block}
use Rattle.block_pointer.specs.declared.pointer.BlockPtr.{BlockPtr}
use Rattle.block_pointer.specs.declared.pointer.BlockPtr.TheVariants.{Hole, Block as At}
use Rattle.block_pointer.specs.declared.property.Property.{Property}
use Rattle.block_store.specs.declared.block.Asked.{Asked}
use Rattle.block_store.specs.declared.refusal.Refusal.{Refusal}
use Rattle.block_store.specs.declared.refusal.Refusal.TheVariants.{NoMemory, DiskFault, NoSpace, BadPointer, BadDigest, BadConfig}
use Rattle.block_store.specs.Spaces.{VdevSpace}
use Rattle.block_store.specs.Places.{shapes_of}
use Rattle.block_store.specs.Steps.{OnlyReadsBlocks, OnlyReadsAndPlans}
use Rattle.block_store.specs.Store.{Store}
use Rattle.block_store.proofs.Steps.{read_in, steps_none, steps_on, steps_read}
use Rattle.dnode.specs.Indirect.{fill_of, total_fill}
use Rattle.dnode.specs.declared.node.ObjectNode.{ObjectNode}
use Rattle.dnode_tree.specs.declared.subtree.Parts.{Parts}
use Rattle.dnode_tree.specs.declared.subtree.Subtree.{Subtree}
use Rattle.dnode_tree.specs.declared.writes.BlockWrite.{BlockWrite}
use Rattle.dnode_tree.specs.PartsRefused.{reached_part, part_below, ArePartsRead, IsPartOverfull, IsPartUnread, IsPartRefused, ArePartsOverfull, ArePartsUnread, ArePartsRefused}
use Rattle.dnode_tree.specs.Refused.{IsOverfull, HasOverfull}
use Rattle.dnode_tree.specs.Subtree.{asked_of}
use Rattle.dnode_tree.specs.Tree.{property_of}
use Rattle.dnode_tree.specs.Ways.{AreReadAs, Reached, reached, ComesTo, IsCause, IsRefusedBelow}
use Rattle.dnode_tree.specs.Writes.{AreBetween, IsForRoom}
use Rattle.dnode_tree.proofs.Fills.{total_bound}
use Rattle.dnode_tree.proofs.Spans.{span_positive, span_up}
use Rattle.dnode_tree.proofs.WayLemmas.{comes_at_once, leads_down}

-- ---- ways depend on the shapes of the vdevs alone

read_as_in : (spaces others : List VdevSpace) (asked : Asked) (block : Block) (pointers : List BlockPtr) → shapes_of others ≡ shapes_of spaces
    → AreReadAs others asked block pointers → AreReadAs spaces asked block pointers
read_as_in spaces others asked block pointers same were =
    record { bytes = were.bytes; read = read_in spaces others asked block were.bytes same were.read; spelled = were.spelled }

comes_in : (spaces others : List VdevSpace) (property : ℕ → Property) (level birth : ℕ) (pointer : BlockPtr) (place : ℕ) (there : Reached) → shapes_of others ≡ shapes_of spaces
    → ComesTo others property level birth pointer place there → ComesTo spaces property level birth pointer place there
comes_in spaces others property zero birth pointer place there same comes = comes
comes_in spaces others property (suc level) birth pointer place there same (inl is) = inl is
comes_in spaces others property (suc level) birth pointer place there same (inr (block, pointers, is, read, below)) =
    inr (block, pointers, is, read_as_in spaces others _ block pointers same read, comes_in spaces others property level block.birth _ _ there same below)

overfull_in : (spaces others : List VdevSpace) (property : ℕ → Property) (here : Reached) (place : ℕ) → shapes_of others ≡ shapes_of spaces
    → HasOverfull others property here place → HasOverfull spaces property here place
overfull_in spaces others property here place same has = record {
  there = has.there;
  leads = comes_in spaces others property here.level here.birth here.pointer place has.there same has.leads;
  level = has.level;
  level_is = has.level_is;
  block = has.block;
  is = has.is;
  pointers = has.pointers;
  read = read_as_in spaces others _ has.block has.pointers same has.read;
  k = has.k;
  over = has.over;
}

-- ---- nothing is behind a hole

hole_way : (spaces : List VdevSpace) (property : ℕ → Property) (level birth : ℕ) (pointer : BlockPtr) (place : ℕ) (there : Reached) → pointer ≡ Hole
    → ComesTo spaces property level birth pointer place there → there.pointer ≡ Hole
hole_way spaces property zero birth pointer place there none is = ap (λ (r : Reached). r.pointer) is ∙ none
hole_way spaces property (suc level) birth pointer place there none (inl is) = ap (λ (r : Reached). r.pointer) is ∙ none
hole_way spaces property (suc level) birth pointer place there none (inr (block, pointers, is, read, below)) =
    absurd (let e : Hole ≡ At block = sym none ∙ is in cc)

no_block : (pointer : BlockPtr) (block : Block) → pointer ≡ Hole → ¬ (pointer ≡ At block)
no_block pointer block none is = absurd (let e : Hole ≡ At block = sym none ∙ is in cc)

cause_at_hole : (old new : Store) (missing : List ℕ) (property : ℕ → Property) (there : Reached) (refusal : Refusal) → there.pointer ≡ Hole
    → IsCause old new missing property there refusal → IsForRoom refusal
cause_at_hole old new missing property there NoMemory none fault = inl refl
cause_at_hole old new missing property there NoSpace none fault = inr refl
cause_at_hole old new missing property there BadPointer none fault = absurd (no_block there.pointer fault.block none fault.is)
cause_at_hole old new missing property there DiskFault none fault = absurd (no_block there.pointer fault.block none fault.is)
cause_at_hole old new missing property there BadDigest none fault = absurd (no_block there.pointer fault.block none fault.is)
cause_at_hole old new missing property there BadConfig none fault = absurd fault

pub refused_at_hole : (old new : Store) (missing : List ℕ) (property : ℕ → Property) (level birth : ℕ) (pointer : BlockPtr) (place : ℕ) (refusal : Refusal) → pointer ≡ Hole
    → IsRefusedBelow old new missing property (reached level pointer birth) place refusal → IsForRoom refusal
refused_at_hole old new missing property level birth pointer place refusal none why =
    cause_at_hole old new missing property why.there refusal (hole_way old.spaces property level birth pointer place why.there none why.leads) why.fault

pub full_at_hole : (spaces : List VdevSpace) (property : ℕ → Property) (level birth : ℕ) (pointer : BlockPtr) (place : ℕ) → pointer ≡ Hole
    → ¬ HasOverfull spaces property (reached level pointer birth) place
full_at_hole spaces property level birth pointer place none has =
    no_block has.there.pointer has.block (hole_way spaces property level birth pointer place has.there none has.leads) has.is

pub not_over : (level : ℕ) (pointer : BlockPtr) → pointer ≡ Hole → ¬ IsOverfull level pointer
not_over level pointer none over = absurd (omega (arith, over, ap fill_of none))

-- ---- one step down

-- the place of a data block below a root, and that in the part that it is in
place_in : (first k size id : ℕ) → 0 < size → first + k * size ≤ id → id < (first + k * size) + size
    → ((id - first) / size ≡ k) × ((id - first) % size ≡ id - (first + k * size))
place_in first k size id some above below =
    let rest : ℕ = id - (first + k * size) in
    let low : rest < size = omega (arith, above, below) in
    let whole : id - first ≡ rest + k * size = omega (arith, above) in
    let zeros : 0 + k ≡ k = omega arith in (
      ap (λ n. n / size) whole ∙ add-mul-div_right rest k some ∙ ap (λ n. n + k) (div-eq_of_lt low) ∙ zeros,
      ap (λ n. n % size) whole ∙ add-mul-mod_self_right rest k size ∙ mod-eq_of_lt low,
    )

-- the end of a part below a root is not behind that of the root
end_within : (k size : ℕ) → k < 128 → k * size + size ≤ 128 * size
end_within k size low =
    let up : k + 1 ≤ 128 = omega (arith, low) in
    let products : (k + 1) * size ≡ k * size + size = omega arith in
    omega (arith, mul-le-mul_right size up, products)

module _ (node : ObjectNode) (part : Subtree) (parts : Parts) (first : ℕ) (writes : List BlockWrite) (e : part.level ≡ suc parts.level) where
  abbrev size : ℕ
  size = 128 ^ parts.level

  inside : (k id : ℕ) → k < 128 → id < (first + k * size) + size → id < first + 128 ^ part.level
  inside k id low below = omega (arith, below, end_within k size low, span_up part.level parts.level e)

  module _ (spaces : List VdevSpace) (block : Block) (is : part.pointer ≡ At block) (born : parts.birth ≡ block.birth)
      (read : AreReadAs spaces (asked_of (property_of node part.level) part.birth) block parts.pointers)
      (k id : ℕ) (low : k < 128) (above : first + k * size ≤ id) (below : id < (first + k * size) + size) where
    places : ((id - first) / size ≡ k) × ((id - first) % size ≡ id - (first + k * size))
    places = place_in first k size id (span_positive parts.level) above below

    low_place : (id - first) / size < 128
    low_place = subst (λ n. n < 128) (sym places.0) low

    abbrev child : BlockPtr
    child = get_or parts.pointers k Hole

    child_is : child ≡ get_or parts.pointers ((id - first) / size) child
    child_is =
        get_or_default parts.pointers k Hole child (omega (arith, low, read.spelled.0.count))
        ∙ ap (λ n. get_or parts.pointers n child) (sym places.0)

    way_up : (there : Reached) → ComesTo spaces (property_of node) parts.level parts.birth child (id - (first + k * size)) there
        → ComesTo spaces (property_of node) part.level part.birth part.pointer (id - first) there
    way_up there comes =
        leads_down spaces (property_of node) part.level parts.level part.birth part.pointer (id - first) size block parts.pointers child e is read refl low_place child_is there
        (subst (λ n. ComesTo spaces (property_of node) parts.level block.birth child n there) (sym places.1)
        (subst (λ b. ComesTo spaces (property_of node) parts.level b child (id - (first + k * size)) there) born comes))

    pub overfull_up : HasOverfull spaces (property_of node) (reached_part (part_below parts k)) (id - (first + k * size))
        → HasOverfull spaces (property_of node) (reached_part part) (id - first)
    overfull_up has = record {
      there = has.there;
      leads = way_up has.there has.leads;
      level = has.level;
      level_is = has.level_is;
      block = has.block;
      is = has.is;
      pointers = has.pointers;
      read = has.read;
      k = has.k;
      over = has.over;
    }

  pub unread_up : (mid new : Store) (missing : List ℕ) (block : Block) → part.pointer ≡ At block → parts.birth ≡ block.birth
      → AreReadAs mid.spaces (asked_of (property_of node part.level) part.birth) block parts.pointers
      → (k id : ℕ) → k < 128 → first + k * size ≤ id → id < (first + k * size) + size → (refusal : Refusal)
      → IsRefusedBelow mid new missing (property_of node) (reached_part (part_below parts k)) (id - (first + k * size)) refusal
      → IsRefusedBelow mid new missing (property_of node) (reached_part part) (id - first) refusal
  unread_up mid new missing block is born read k id low above below refusal why = record {
    there = why.there;
    leads = way_up mid.spaces block is born read k id low above below why.there why.leads;
    fault = why.fault;
  }

  -- a fill count that can't be, in the parts below the root of a part
  part_overfull : (spaces : List VdevSpace) → ArePartsRead spaces (property_of node) part parts → 0 < length writes
      → AreBetween first (first + 128 ^ part.level) writes → ArePartsOverfull spaces node parts first 0 writes → IsPartOverfull spaces node part first writes
  part_overfull spaces (inl (none, holes)) some between (inl (k, over)) = absurd (not_over parts.level _ (holes k) over)
  part_overfull spaces (inl (none, holes)) some between (inr (k, from, low, there)) =
      absurd (full_at_hole spaces (property_of node) parts.level parts.birth _ _ (holes k) there.has)
  part_overfull spaces (inr (block, is, born, read)) some between (inl (k, over)) = first_overfull writes some between
    where
      first_overfull : (them : List BlockWrite) → 0 < length them → AreBetween first (first + 128 ^ part.level) them → IsPartOverfull spaces node part first them
      first_overfull [] some between = absurd (omega (arith, some))
      first_overfull (write ∷ them) some between =
          let range = between 0 write some in record {
            write = write;
            is_one = (0, some, refl);
            from = range.0;
            within = range.1;
            has = record {
              there = reached_part part;
              leads = comes_at_once spaces (property_of node) part.level part.birth part.pointer _;
              level = parts.level;
              level_is = e;
              block = block;
              is = is;
              pointers = parts.pointers;
              read = read;
              k = k;
              over = over;
            };
          }
  part_overfull spaces (inr (block, is, born, read)) some between (inr (k, from, low, there)) = record {
    write = there.write;
    is_one = there.is_one;
    from = omega (arith, there.from);
    within = inside k there.write.id low there.within;
    has = overfull_up spaces block is born read k there.write.id low there.from there.within there.has;
  }

  -- a block that was not read, in one of the parts below the root of a part
  part_unread : (old mid new : Store) (missing : List ℕ) (refusal : Refusal) → OnlyReadsBlocks old mid missing → ArePartsRead old.spaces (property_of node) part parts
      → ArePartsUnread mid new missing node parts first 0 writes refusal → IsForRoom refusal ⊎ IsPartUnread old new missing node part first writes refusal
  part_unread old mid new missing refusal reads (inl (none, holes)) (k, from, low, there) =
      inl (refused_at_hole there.mid new missing (property_of node) parts.level parts.birth _ _ refusal (holes k) there.why)
  part_unread old mid new missing refusal reads (inr (block, is, born, read)) (k, from, low, there) =
      let before : OnlyReadsAndPlans old there.mid missing = steps_on old mid there.mid missing (steps_read old mid missing reads) there.before in
      inr (record {
        write = there.write;
        is_one = there.is_one;
        from = omega (arith, there.from);
        within = inside k there.write.id low there.within;
        mid = there.mid;
        before = before;
        why = unread_up there.mid new missing block is born (read_as_in there.mid.spaces old.spaces _ block parts.pointers (sym before.shapes) read) k there.write.id low there.from
            there.within refusal there.why;
      })

  -- the fill count of a part, and why it was not rewritten, by those of the parts below its root
  pub part_full : (spaces others : List VdevSpace) → others ≡ spaces → (fill : ℕ) → ArePartsRead spaces (property_of node) part parts → 0 < length writes
      → AreBetween first (first + 128 ^ part.level) writes → (fill ≤ 128 ^ (parts.level + 1)) ⊎ ArePartsOverfull others node parts first 0 writes
      → (fill ≤ 128 ^ part.level) ⊎ IsPartOverfull spaces node part first writes
  part_full spaces others same fill read some between (inl fits) =
      let up : 128 ^ (parts.level + 1) ≡ 128 ^ part.level = ap (λ n. 128 ^ n) (add-one parts.level ∙ sym e) in
      inl (omega (arith, fits, up))
  part_full spaces others same fill read some between (inr over) =
      inr (part_overfull spaces read some between (subst (λ s. ArePartsOverfull s node parts first 0 writes) same over))

  pub part_refused : (old mid new : Store) (missing : List ℕ) (refusal : Refusal) → OnlyReadsBlocks old mid missing → ArePartsRead old.spaces (property_of node) part parts
      → 0 < length writes → AreBetween first (first + 128 ^ part.level) writes → ArePartsRefused mid new missing node parts first 0 writes refusal
      → IsPartRefused old new missing node part first writes refusal
  part_refused old mid new missing refusal reads read some between (inl room) = inl room
  part_refused old mid new missing refusal reads read some between (inr (inl unread)) =
      elim (part_unread old mid new missing refusal reads read unread) [ inl room ↦ inl room | inr there ↦ inr (inl there) ]
  part_refused old mid new missing refusal reads read some between (inr (inr (bad, over))) =
      inr (inr (bad, part_overfull old.spaces read some between (subst (λ s. ArePartsOverfull s node parts first 0 writes) (ap (λ (s : Store). s.spaces) reads.rest) over)))

-- the root of a part was not read, on the way to the first write
pub first_unread : (old new : Store) (missing : List ℕ) (node : ObjectNode) (part : Subtree) (first : ℕ) (writes : List BlockWrite) (refusal : Refusal) → 0 < length writes
    → AreBetween first (first + 128 ^ part.level) writes
    → ((place : ℕ) → IsRefusedBelow old new missing (property_of node) (reached_part part) place refusal) → IsPartUnread old new missing node part first writes refusal
first_unread old new missing node part first [] refusal some between why = absurd (omega (arith, some))
first_unread old new missing node part first (write ∷ writes) refusal some between why =
    let range = between 0 write some in record {
      write = write;
      is_one = (0, some, refl);
      from = range.0;
      within = range.1;
      mid = old;
      before = steps_none old missing;
      why = why (write.id - first);
    }

-- ---- the parts below a root, one after the other

pub contains_taken : (xs : List BlockWrite) (n : ℕ) (x : BlockWrite) → Contains (take n xs) x → Contains xs x
contains_taken xs n x held = subst (λ ys. Contains ys x) (take-append-drop n xs) (Contains-append_left (take n xs) (drop n xs) x held)

pub contains_left : (xs : List BlockWrite) (n : ℕ) (x : BlockWrite) → Contains (drop n xs) x → Contains xs x
contains_left xs n x held = subst (λ ys. Contains ys x) (take-append-drop n xs) (Contains-append_right (take n xs) (drop n xs) x held)

-- each fill count can be, or one can't
pub all_or_over : (pointers : List BlockPtr) (level : ℕ) → ((k : ℕ) → fill_of (get_or pointers k Hole) ≤ 128 ^ level) ⊎ ((k : ℕ) × IsOverfull level (get_or pointers k Hole))
all_or_over [] level = inl (λ k. omega arith)
all_or_over (pointer ∷ pointers) level = elim (cases_lt (128 ^ level) (fill_of pointer)) [
  | inl over ↦ inr (0, over)
  | inr fits ↦ elim (all_or_over pointers level) [
    | inl all ↦ inl (each all (omega (arith, fits)))
    | inr (k, over) ↦ inr (suc k, over)
  ]
]
  where
    each : ((k : ℕ) → fill_of (get_or pointers k Hole) ≤ 128 ^ level) → fill_of pointer ≤ 128 ^ level → (k : ℕ) → fill_of (get_or (pointer ∷ pointers) k Hole) ≤ 128 ^ level
    each all first zero = first
    each all first (suc k) = all k

-- The parts before the k-th were written: the pointers behind are as they were, and what is left are some of the writes. Each fill count can be, or one
-- couldn't.
pub record AreFollowed (spaces : List VdevSpace) (node : ObjectNode) (level first bound from : ℕ) (origin pointers : List BlockPtr) (writes rest : List BlockWrite) (k : ℕ) : Type 0 where
  pub begun : from ≤ k
  pub behind : (j : ℕ) → k ≤ j → get_or pointers j Hole ≡ get_or origin j Hole
  pub left : (write : BlockWrite) → Contains rest write → Contains writes write
  pub full : ((j : ℕ) → fill_of (get_or pointers j Hole) ≤ 128 ^ level) ⊎ ArePartsOverfull spaces node (record { pointers = origin; level = level; birth = bound }) first from writes

pub following_begins : (spaces : List VdevSpace) (node : ObjectNode) (level first bound from : ℕ) (pointers : List BlockPtr) (writes : List BlockWrite)
    → AreFollowed spaces node level first bound from pointers pointers writes writes from
following_begins spaces node level first bound from pointers writes = record {
  begun = omega arith;
  behind = λ j above. refl;
  left = λ write held. held;
  full = elim (all_or_over pointers level) [ inl all ↦ inl all | inr over ↦ inr (inl over) ];
}

module _ (start now : Store) (missing : List ℕ) (node : ObjectNode) (level first bound from : ℕ) (origin pointers : List BlockPtr) (writes rest : List BlockWrite) (k : ℕ)
    (so_far : AreFollowed start.spaces node level first bound from origin pointers writes rest k) (low : k < 128) (count : length pointers ≡ 128)
    (steps : OnlyReadsAndPlans start now missing) (n begin : ℕ) (run : List BlockWrite) (begin_is : begin ≡ first + k * 128 ^ level) (run_is : run ≡ take n rest) where
  abbrev parts : Parts
  parts = record { pointers = origin; level = level; birth = bound }

  pub following_skips : (others : List BlockWrite) → others ≡ drop n rest → AreFollowed start.spaces node level first bound from origin pointers writes others (k + 1)
  following_skips others others_is = record {
    begun = omega (arith, so_far.begun);
    behind = λ j above. so_far.behind j (omega (arith, above));
    left = λ write held. so_far.left write (contains_left rest n write (subst (λ ws. Contains ws write) others_is held));
    full = so_far.full;
  }

  in_writes : (write : BlockWrite) → Contains run write → Contains writes write
  in_writes write held = so_far.left write (contains_taken rest n write (subst (λ ws. Contains ws write) run_is held))

  module _ (child : BlockPtr) (child_is : child ≡ get_or pointers k child) where
    abbrev here : Subtree
    here = record { level = level; pointer = child; birth = bound }

    same_child : child ≡ get_or origin k Hole
    same_child = child_is ∙ get_or_default pointers k child Hole (omega (arith, low, count)) ∙ so_far.behind k (omega arith)

    overfull_there : IsPartOverfull now.spaces node here begin run → ArePartsOverfull start.spaces node parts first from writes
    overfull_there there =
        let P : BlockPtr → ℕ → Type 0 = λ pointer m. HasOverfull start.spaces (property_of node) (reached level pointer bound) (there.write.id - m) in
        let has = overfull_in start.spaces now.spaces (property_of node) (reached level child bound) (there.write.id - begin) steps.shapes there.has in
        inr (
          k,
          so_far.begun,
          low,
          record {
            write = there.write;
            is_one = in_writes there.write there.is_one;
            from = omega (arith, there.from, begin_is);
            within = omega (arith, there.within, begin_is);
            has = subst (λ pointer. P pointer (first + k * 128 ^ level)) same_child (subst (λ m. P child m) begin_is has);
          },
        )

    pub unread_there : (new : Store) (refusal : Refusal) → IsPartUnread now new missing node here begin run refusal
        → ArePartsUnread start new missing node parts first from writes refusal
    unread_there new refusal there =
        let P : BlockPtr → ℕ → Type 0 = λ pointer m. IsRefusedBelow there.mid new missing (property_of node) (reached level pointer bound) (there.write.id - m) refusal in (
          k,
          so_far.begun,
          low,
          record {
            write = there.write;
            is_one = in_writes there.write there.is_one;
            from = omega (arith, there.from, begin_is);
            within = omega (arith, there.within, begin_is);
            mid = there.mid;
            before = steps_on start now there.mid missing steps there.before;
            why = subst (λ pointer. P pointer (first + k * 128 ^ level)) same_child (subst (λ m. P child m) begin_is there.why);
          },
        )

    pub following_fails : (new : Store) (refusal : Refusal) → IsPartRefused now new missing node here begin run refusal
        → ArePartsRefused start new missing node parts first from writes refusal
    following_fails new refusal (inl room) = inl room
    following_fails new refusal (inr (inl unread)) = inr (inl (unread_there new refusal unread))
    following_fails new refusal (inr (inr (bad, over))) = inr (inr (bad, overfull_there over))

    pub following_goes_on : (block : Block) (new_pointers : List BlockPtr) (others : List BlockWrite) → new_pointers ≡ set pointers k (At block) → others ≡ drop n rest
        → (block.fill ≤ 128 ^ level) ⊎ IsPartOverfull now.spaces node here begin run
        → AreFollowed start.spaces node level first bound from origin new_pointers writes others (k + 1)
    following_goes_on block new_pointers others new_is others_is full =
        subst (λ ps. AreFollowed start.spaces node level first bound from origin ps writes others (k + 1)) (sym new_is) (record {
          begun = omega (arith, so_far.begun);
          behind = λ j above.
              get_or-set_other pointers k j (At block) Hole (λ same. absurd (omega (arith, same, above))) ∙ so_far.behind j (omega (arith, above));
          left = λ write held. so_far.left write (contains_left rest n write (subst (λ ws. Contains ws write) others_is held));
          full = now_full so_far.full full;
        })
      where
        now_full : ((j : ℕ) → fill_of (get_or pointers j Hole) ≤ 128 ^ level) ⊎ ArePartsOverfull start.spaces node parts first from writes
            → (block.fill ≤ 128 ^ level) ⊎ IsPartOverfull now.spaces node here begin run
            → ((j : ℕ) → fill_of (get_or (set pointers k (At block)) j Hole) ≤ 128 ^ level) ⊎ ArePartsOverfull start.spaces node parts first from writes
        now_full (inr over) is = inr over
        now_full (inl all) (inr over) = inr (overfull_there over)
        now_full (inl all) (inl fits) = inl (λ j. elim (cases_eq j k) [
          | inl same ↦
              let at : get_or (set pointers k (At block)) j Hole ≡ At block = ap (λ i. get_or (set pointers k (At block)) i Hole) same
              ∙ get_or-set_same pointers k (At block) Hole (omega (arith, low, count)) in
              omega (arith, ap fill_of at, fits)
          | inr other ↦
              let at : get_or (set pointers k (At block)) j Hole ≡ get_or pointers j Hole = get_or-set_other pointers k j (At block) Hole other in
              omega (arith, ap fill_of at, all j)
        ])

-- the sum of what can be can be
pub sum_can_be : (spaces : List VdevSpace) (node : ObjectNode) (level first bound from : ℕ) (origin pointers : List BlockPtr) (writes rest : List BlockWrite) (k : ℕ)
    → AreFollowed spaces node level first bound from origin pointers writes rest k → length pointers ≡ 128
    → (total_fill pointers ≤ 128 ^ (level + 1)) ⊎ ArePartsOverfull spaces node (record { pointers = origin; level = level; birth = bound }) first from writes
sum_can_be spaces node level first bound from origin pointers writes rest k so_far count = elim so_far.full [
  | inl all ↦
      let sum : total_fill pointers ≤ length pointers * 128 ^ level = total_bound pointers (128 ^ level) (λ j below. all j) in
      let wide : total_fill pointers ≤ 128 * 128 ^ level = rw count at sum in
      inl (omega (arith, wide, span_up (level + 1) level (add-one level)))
  | inr over ↦ inr over
]
