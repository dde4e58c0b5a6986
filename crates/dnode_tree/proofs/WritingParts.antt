-- The loop over the parts below a root that are written.
use Rattle.std.proofs.Common.{◌≡◌, ℕ, ◌+◌, ◌*◌, ◌^◌, ◌<◌, ◌≤◌, ◌⊎◌, List, [], ◌∷◌, ◌++◌, length, take, drop, get_or, set, Option, Some, if◌then◌else◌, All, inl, inr, refl, sym, ap, ◌∙◌, subst, arith, length-take, length-drop}
use Rattle.std.proofs.lemmas.List.{length-set, nil_from_length, get_or_default}
use Rattle.std.proofs.lemmas.List.Elements.{All-take, All-drop}
use Rattle.block_pointer.specs.declared.block.Block.{Block}
use Rattle.block_pointer.specs.declared.pointer.BlockPtr.{BlockPtr}
use Rattle.block_pointer.specs.declared.pointer.BlockPtr.TheVariants.{Hole, Block as At}
use Rattle.dnode.specs.declared.node.ObjectNode.{ObjectNode}
use Rattle.dnode.specs.Indirect.{total_fill}
use Rattle.block_store.specs.Blocks.{Contents}
use Rattle.block_store.specs.Plans.{Plans}
use Rattle.block_store.specs.Store.{Store}
use Rattle.dnode_tree.specs.declared.writes.BlockWrite.{BlockWrite}
use Rattle.dnode_tree.specs.declared.writes.CopyCounts.{CopyCounts}
use Rattle.block_store.specs.Steps.{OnlyReadsAndPlans, AnswersTell}
use Rattle.dnode_tree.specs.Births.{AreBirths, reaches}
use Rattle.dnode_tree.specs.PartsRewritten.{Ages, AgesOfParts, AreBirthsAfter, IsPartRewritten, AreRewrittenTo, HasWrites}
use Rattle.dnode_tree.proofs.Births.{after_taken, after_dropped}
use Rattle.dnode_tree.specs.Subtree.{IsSubtree}
use Rattle.dnode_tree.specs.Tree.{property_of}
use Rattle.dnode_tree.specs.Writes.{AreInOrder, AreBetween, AreWholeBlocks, written}
use Rattle.dnode_tree.proofs.Fills.{total_set}
use Rattle.dnode_tree.proofs.Kept.{part_end}
use Rattle.dnode_tree.proofs.NewArrays.{behind_all, order_taken, order_dropped, has_before, has_behind}
use Rattle.dnode_tree.proofs.Rewriting.{part_skipped, part_rewritten}
use Rattle.dnode_tree.proofs.Spots.{HavePlacesAt, HavePartsPlaced, parts_skip, parts_go_on}
use Rattle.dnode_tree.specs.Spots.{spots_in}
use Rattle.block_store.proofs.Steps.{steps_on}
use Rattle.dnode_tree.proofs.Steps.{told_sooner, told_later}

-- the parts before the k-th are written
pub record IsWritingParts (copies : CopyCounts) (start now : Store) (missing : List ℕ) (node : ObjectNode) (level first bound birth from : ℕ) (origin pointers : List BlockPtr) (writes rest : List BlockWrite) (k : ℕ)
    (noted_first noted_now : List Block) : Type 0 where
  pub steps : OnlyReadsAndPlans start now missing
  pub between : AreBetween (first + k * 128 ^ level) (first + 128 * 128 ^ level) rest
  pub order : AreInOrder rest
  pub whole : AreWholeBlocks node rest
  pub filled : (0 < length rest) ⊎ (0 < total_fill pointers)
  pub count : length pointers ≡ 128
  pub placed : HavePartsPlaced node copies start.spaces now.spaces level first from writes rest k
  pub rewriting : (ages : Option Ages) (stored planned begun : Contents) (array new_array : ℕ → Option (List ℕ)) (before after : List (List Block)) (noted : List Block) → Plans start stored begun
      → AreRewrittenTo ages copies stored planned begun (property_of node) level first bound birth origin array new_array before after from noted noted_first
      → HasWrites new_array array writes (first + from * 128 ^ level) (first + 128 * 128 ^ level)
      → AgesOfParts birth level first from writes ages
      → AnswersTell start now missing
      → (present : Contents) × (done : List (List Block)) × Plans now stored present
      × AreRewrittenTo ages copies stored planned present (property_of node) level first bound birth pointers array new_array before done k noted noted_now
      × HasWrites new_array array rest (first + k * 128 ^ level) (first + 128 * 128 ^ level)
      × AgesOfParts birth level first k rest ages

-- those writes at the front that belong to the k-th part
module _ (level first k n middle : ℕ) (rest : List BlockWrite) (middle_is : middle ≡ (first + k * 128 ^ level) + 128 ^ level)
    (between : AreBetween (first + k * 128 ^ level) (first + 128 * 128 ^ level) rest) (order : AreInOrder rest)
    (sooner : All (λ write. write.id < middle) (take n rest)) (later : (other : BlockWrite) → n < length rest → middle ≤ (get_or rest n other).id) where
  pub run_between : AreBetween (first + k * 128 ^ level) ((first + k * 128 ^ level) + 128 ^ level) (take n rest)
  run_between j other low =
      let one = All-take (λ (write : BlockWrite). (first + k * 128 ^ level ≤ write.id) × (write.id < first + 128 * 128 ^ level)) n rest between j other low in
      (one.0, omega (arith, sooner j other low, middle_is))

  pub rest_between : AreBetween (first + (k + 1) * 128 ^ level) (first + 128 * 128 ^ level) (drop n rest)
  rest_between j other low =
      let one = All-drop (λ (write : BlockWrite). (first + k * 128 ^ level ≤ write.id) × (write.id < first + 128 * 128 ^ level)) n rest between j other low in
      let far : middle ≤ (get_or (drop n rest) j other).id = behind_all rest n middle order later j other low in
      let next : first + (k + 1) * 128 ^ level ≡ middle = omega (arith, middle_is) in
      (omega (arith, far, next), one.1)

  pub run_has : (new_array array : ℕ → Option (List ℕ)) → middle ≤ first + 128 * 128 ^ level → HasWrites new_array array rest (first + k * 128 ^ level) (first + 128 * 128 ^ level)
      → HasWrites new_array array (take n rest) (first + k * 128 ^ level) ((first + k * 128 ^ level) + 128 ^ level)
  run_has new_array array within has =
      subst (λ end. HasWrites new_array array (take n rest) (first + k * 128 ^ level) end) middle_is
      (has_before new_array array rest n (first + k * 128 ^ level) middle (first + 128 * 128 ^ level) has sooner (behind_all rest n middle order later) within)

  pub rest_has : (new_array array : ℕ → Option (List ℕ)) → HasWrites new_array array rest (first + k * 128 ^ level) (first + 128 * 128 ^ level)
      → HasWrites new_array array (drop n rest) (first + (k + 1) * 128 ^ level) (first + 128 * 128 ^ level)
  rest_has new_array array has =
      let next : middle ≡ first + (k + 1) * 128 ^ level = omega (arith, middle_is) in
      subst (λ from. HasWrites new_array array (drop n rest) from (first + 128 * 128 ^ level)) next
      (has_behind new_array array rest n (first + k * 128 ^ level) middle (first + 128 * 128 ^ level) has sooner (behind_all rest n middle order later) (omega (arith, middle_is)))

module _ {copies : CopyCounts} (start now : Store) (missing : List ℕ) (node : ObjectNode) (level first bound birth from : ℕ) (origin pointers : List BlockPtr) (writes rest : List BlockWrite) (k : ℕ) (noted_first noted_now : List Block)
    (so_far : IsWritingParts copies start now missing node level first bound birth from origin pointers writes rest k noted_first noted_now) (low : k < 128) (le : bound ≤ birth)
    (n middle : ℕ) (middle_is : middle ≡ (first + k * 128 ^ level) + 128 ^ level)
    (sooner : All (λ write. write.id < middle) (take n rest)) (later : (other : BlockWrite) → n < length rest → middle ≤ (get_or rest n other).id) where
  within : middle ≤ first + 128 * 128 ^ level
  within = omega (arith, middle_is, part_end k (128 ^ level) low)

  all_behind : All (λ write. middle ≤ write.id) (drop n rest)
  all_behind = behind_all rest n middle so_far.order later

  -- what is left to be written behind the part
  rest_ages : (ages : Option Ages) → AgesOfParts birth level first k rest ages → AgesOfParts birth level first (k + 1) (drop n rest) ages
  rest_ages ages aged told told_is =
      let both = aged told told_is in
      (both.0, after_dropped birth rest told.old told.new level (first + k * 128 ^ level) (first + 128 * 128 ^ level) n middle both.1 sooner (first + (k + 1) * 128 ^ level) (omega arith) (omega (arith, middle_is)))

  -- what is written in the part
  taken_ages : (ages : Option Ages) → AgesOfParts birth level first k rest ages → (told : Ages) → ages ≡ Some told
      → AreBirthsAfter birth (take n rest) told.old told.new level (first + k * 128 ^ level) ((first + k * 128 ^ level) + 128 ^ level)
  taken_ages ages aged told told_is =
      after_taken birth rest told.old told.new level (first + k * 128 ^ level) (first + 128 * 128 ^ level) n middle (aged told told_is).1 all_behind
      (first + k * 128 ^ level) ((first + k * 128 ^ level) + 128 ^ level) (omega arith) (omega (arith, middle_is)) (omega (arith, part_end k (128 ^ level) low))

  unreached : (ages : Option Ages) → take n rest ≡ [] → AgesOfParts birth level first k rest ages → (told : Ages) → ages ≡ Some told
      → (deep from : ℕ) → deep ≤ level → first + k * 128 ^ level ≤ from → from + 128 ^ deep ≤ first + k * 128 ^ level + 128 ^ level → told.old deep from ≡ told.new deep from
  unreached ages nothing aged told told_is deep from under above below =
      sym (taken_ages ages aged told told_is deep from under above below
      ∙ ap (λ ws. if reaches ws deep from then birth else told.old deep from) nothing)

  run_ages : (ages : Option Ages) (stored planned present : Contents) (array new_array : ℕ → Option (List ℕ)) (before done : List (List Block)) (noted : List Block) (begin : ℕ) (child : BlockPtr) (run : List BlockWrite)
      → AreRewrittenTo ages copies stored planned present (property_of node) level first bound birth pointers array new_array before done k noted noted_now
      → AgesOfParts birth level first k rest ages → begin ≡ first + k * 128 ^ level → child ≡ get_or pointers k child → run ≡ take n rest
      → (told : Ages) → ages ≡ Some told → AreBirths stored level begin child told.old × AreBirthsAfter birth run told.old told.new level begin (begin + 128 ^ level)
  run_ages ages stored planned present array new_array before done noted begin child run rewritten aged begin_is child_is run_is told told_is = (
    subst (λ n. AreBirths stored level n child told.old) (sym begin_is)
        (subst (λ p. AreBirths stored level (first + k * 128 ^ level) p told.old)
        (sym (child_is ∙ get_or_default pointers k child Hole (omega (arith, low, so_far.count)))) (rewritten.aged told told_is k (omega arith) low)),
    subst (λ ws. AreBirthsAfter birth ws told.old told.new level begin (begin + 128 ^ level)) (sym run_is)
        (subst (λ m. AreBirthsAfter birth (take n rest) told.old told.new level m (m + 128 ^ level)) (sym begin_is) (taken_ages ages aged told told_is)),
  )

  -- the part as it was
  part_left : {ages : Option Ages} (stored planned present : Contents) (array new_array : ℕ → Option (List ℕ)) (before done : List (List Block)) (noted : List Block) (begin : ℕ) (child : BlockPtr)
      → AreRewrittenTo ages copies stored planned present (property_of node) level first bound birth pointers array new_array before done k noted noted_now
      → begin ≡ first + k * 128 ^ level → child ≡ get_or pointers k child → IsSubtree stored (property_of node) level begin bound child array (get_or before k [])
  part_left stored planned present array new_array before done noted begin child rewritten begin_is child_is =
      subst (λ n. IsSubtree stored (property_of node) level n bound child array (get_or before k [])) (sym begin_is)
      (subst (λ p. IsSubtree stored (property_of node) level (first + k * 128 ^ level) bound p array (get_or before k []))
      (sym (child_is ∙ get_or_default pointers k child Hole (omega (arith, low, so_far.count)))) (rewritten.left k (omega arith) low))

  -- no write belongs to the part
  pub writing_skips : (run others : List BlockWrite) → n ≤ length rest → run ≡ take n rest → others ≡ drop n rest → length run ≡ 0
      → IsWritingParts copies start now missing node level first bound birth from origin pointers writes others (k + 1) noted_first noted_now
  writing_skips run others fits run_is others_is none =
      subst (λ ws. IsWritingParts copies start now missing node level first bound birth from origin pointers writes ws (k + 1) noted_first noted_now) (sym others_is) (record {
        steps = so_far.steps;
        between = rest_between level first k n middle rest middle_is so_far.between so_far.order sooner later;
        order = order_dropped rest n so_far.order;
        whole = All-drop (λ (write : BlockWrite). length write.bytes.items ≡ node.data_sectors * 512) n rest so_far.whole;
        filled = elim so_far.filled [
          | inl some ↦ inl (omega (arith, some, length-take n rest, length-drop n rest, ap length run_is, none, fits))
          | inr filled ↦ inr filled
        ];
        count = so_far.count;
        placed = parts_skip node copies start.spaces now.spaces level first from writes rest k so_far.placed low n middle middle_is sooner all_behind (drop n rest) refl
            (sym run_is ∙ nil_from_length run none);
        rewriting = λ ages stored planned begun array new_array before after noted plans rewritten has aged tell.
            let there = so_far.rewriting ages stored planned begun array new_array before after noted plans rewritten has aged tell in
            let nothing : take n rest ≡ [] = sym run_is ∙ nil_from_length run none in (
              there.0,
              there.1 ++ get_or before k [] ∷ [],
              there.2,
              part_skipped stored planned there.0 (property_of node) level first bound birth pointers array new_array before there.1 k noted noted_now there.3 low there.2.kept le
                  (λ id above below. sym (run_has level first k n middle rest middle_is so_far.between so_far.order sooner later new_array array within there.4 id above below
                  ∙ ap (λ ws. written ws array id) nothing))
                  (λ told told_is deep from under above below. unreached ages nothing there.5 told told_is deep from under above below),
              rest_has level first k n middle rest middle_is so_far.between so_far.order sooner later new_array array there.4,
              rest_ages ages there.5,
            );
      })

  module _ (after_write : Store) (begin : ℕ) (child : BlockPtr) (run : List BlockWrite) (steps : OnlyReadsAndPlans now after_write missing)
      (begin_is : begin ≡ first + k * 128 ^ level) (child_is : child ≡ get_or pointers k child) (run_is : run ≡ take n rest) where
    -- the part is written
    pub writing_goes_on : (block : Block) (new_pointers : List BlockPtr) (others : List BlockWrite) (noted_later : List Block) → new_pointers ≡ set pointers k (At block) → others ≡ drop n rest → 0 < block.fill
        → HavePlacesAt node copies now.spaces (spots_in run level begin) after_write.spaces
        → ((ages : Option Ages) (stored planned : Contents) (array : ℕ → Option (List ℕ)) (blocks : List Block) → Plans now stored planned
        → IsSubtree stored (property_of node) level begin bound child array blocks
        → ((told : Ages) → ages ≡ Some told → AreBirths stored level begin child told.old × AreBirthsAfter birth run told.old told.new level begin (begin + 128 ^ level))
        → AnswersTell now after_write missing
        → (later : Contents) × Plans after_write stored later
        × IsPartRewritten ages copies planned later (property_of node) level begin birth (At block) (written run array) blocks noted_now noted_later)
        → IsWritingParts copies start after_write missing node level first bound birth from origin new_pointers writes others (k + 1) noted_first noted_later
    writing_goes_on block new_pointers others noted_later new_is others_is some places step =
        subst (λ ps. IsWritingParts copies start after_write missing node level first bound birth from origin ps writes others (k + 1) noted_first noted_later) (sym new_is)
        (subst (λ ws. IsWritingParts copies start after_write missing node level first bound birth from origin (set pointers k (At block)) writes ws (k + 1) noted_first noted_later) (sym others_is) (record {
          steps = steps_on start now after_write missing so_far.steps steps;
          between = rest_between level first k n middle rest middle_is so_far.between so_far.order sooner later;
          order = order_dropped rest n so_far.order;
          whole = All-drop (λ (write : BlockWrite). length write.bytes.items ≡ node.data_sectors * 512) n rest so_far.whole;
          filled = let room : k < length pointers = omega (arith, low, so_far.count) in inr (omega (arith, some, total_set pointers k (At block) room));
          count = length-set pointers k (At block) ∙ so_far.count;
          placed = parts_go_on node copies start.spaces now.spaces level first from writes rest k so_far.placed low n middle middle_is sooner all_behind after_write.spaces (drop n rest) refl
              (subst (λ ws. HavePlacesAt node copies now.spaces (spots_in ws level (first + k * 128 ^ level)) after_write.spaces) run_is
              (subst (λ m. HavePlacesAt node copies now.spaces (spots_in run level m) after_write.spaces) begin_is places));
          rewriting = λ ages stored planned begun array new_array before after noted plans rewritten has aged tell.
              let there = so_far.rewriting ages stored planned begun array new_array before after noted plans rewritten has aged (told_sooner start now after_write missing so_far.steps steps tell) in
              let part = part_left stored planned there.0 array new_array before there.1 noted begin child there.3 begin_is child_is in
              let made = step ages stored there.0 array (get_or before k []) there.2 part
              (run_ages ages stored planned there.0 array new_array before there.1 noted begin child run there.3 there.5 begin_is child_is run_is) (told_later start now after_write missing so_far.steps steps tell) in
              let made_there : IsPartRewritten ages copies there.0 made.0 (property_of node) level (first + k * 128 ^ level) birth (At block) (written run array) (get_or before k []) noted_now noted_later =
              subst (λ m. IsPartRewritten ages copies there.0 made.0 (property_of node) level m birth (At block) (written run array) (get_or before k []) noted_now noted_later) begin_is made.2 in (
                made.0,
                there.1 ++ made_there.blocks ∷ [],
                made.1,
                part_rewritten stored planned there.0 (property_of node) level first bound birth pointers array new_array before there.1 k noted noted_now there.3 low made.0 block (written run array) noted_later
                    (λ id above below. ap (λ ws. written ws array id) run_is
                    ∙ sym (run_has level first k n middle rest middle_is so_far.between so_far.order sooner later new_array array within there.4 id above below)) made_there,
                rest_has level first k n middle rest middle_is so_far.between so_far.order sooner later new_array array there.4,
                rest_ages ages there.5,
              );
        }))

    -- or it could not be
    pub writing_fails : (Refused : Type 0)
        → ((stored planned : Contents) (array : ℕ → Option (List ℕ)) (blocks : List Block) → Plans now stored planned
        → IsSubtree stored (property_of node) level begin bound child array blocks → AnswersTell now after_write missing → Refused)
        → (ages : Option Ages) (stored planned begun : Contents) (array new_array : ℕ → Option (List ℕ)) (before after : List (List Block)) (noted : List Block) → Plans start stored begun
        → AreRewrittenTo ages copies stored planned begun (property_of node) level first bound birth origin array new_array before after from noted noted_first
        → HasWrites new_array array writes (first + from * 128 ^ level) (first + 128 * 128 ^ level) → AgesOfParts birth level first from writes ages
        → AnswersTell start after_write missing → Refused
    writing_fails Refused step ages stored planned begun array new_array before after noted plans rewritten has aged tell =
        let there = so_far.rewriting ages stored planned begun array new_array before after noted plans rewritten has aged (told_sooner start now after_write missing so_far.steps steps tell) in
        step stored there.0 array (get_or before k []) there.2 (part_left stored planned there.0 array new_array before there.1 noted begin child there.3 begin_is child_is)
        (told_later start now after_write missing so_far.steps steps tell)

-- what the write of a part asks
pub run_is_between : (level first k n middle begin : ℕ) (run rest : List BlockWrite) → middle ≡ (first + k * 128 ^ level) + 128 ^ level
    → AreBetween (first + k * 128 ^ level) (first + 128 * 128 ^ level) rest → AreInOrder rest → All (λ write. write.id < middle) (take n rest)
    → ((other : BlockWrite) → n < length rest → middle ≤ (get_or rest n other).id) → begin ≡ first + k * 128 ^ level → run ≡ take n rest → AreBetween begin (begin + 128 ^ level) run
run_is_between level first k n middle begin run rest middle_is between order sooner later begin_is run_is =
    subst (λ m. AreBetween m (m + 128 ^ level) run) (sym begin_is)
    (subst (λ ws. AreBetween (first + k * 128 ^ level) ((first + k * 128 ^ level) + 128 ^ level) ws) (sym run_is)
    (run_between level first k n middle rest middle_is between order sooner later))

-- nothing is left at the end
none_between : (n : ℕ) (writes : List BlockWrite) → AreBetween n n writes → length writes ≡ 0
none_between n [] between = refl
none_between n (write ∷ writes) between = absurd (let one = between 0 write (omega arith) in omega (arith, one.0, one.1))

pub root_filled : {copies : CopyCounts} (start now : Store) (missing : List ℕ) (node : ObjectNode) (level first bound birth from : ℕ) (origin pointers : List BlockPtr) (writes rest : List BlockWrite) (k : ℕ) (noted_first noted_now : List Block)
    → IsWritingParts copies start now missing node level first bound birth from origin pointers writes rest k noted_first noted_now → k ≡ 128 → 0 < total_fill pointers
root_filled start now missing node level first bound birth from origin pointers writes rest k noted_first noted_now so_far all =
    elim so_far.filled [
      | inl some ↦
          let none : length rest ≡ 0 = none_between (first + 128 * 128 ^ level) rest (subst (λ n. AreBetween (first + n * 128 ^ level) (first + 128 * 128 ^ level) rest) all so_far.between) in
          absurd (omega (arith, some, none))
      | inr filled ↦ filled
    ]

pub run_in_order : (run rest : List BlockWrite) (n : ℕ) → run ≡ take n rest → AreInOrder rest → AreInOrder run
run_in_order run rest n is order = subst (λ ws. AreInOrder ws) (sym is) (order_taken rest n order)

pub run_whole : (node : ObjectNode) (run rest : List BlockWrite) (n : ℕ) → run ≡ take n rest → AreWholeBlocks node rest → AreWholeBlocks node run
run_whole node run rest n is whole =
    subst (λ ws. AreWholeBlocks node ws) (sym is) (All-take (λ (write : BlockWrite). length write.bytes.items ≡ node.data_sectors * 512) n rest whole)
