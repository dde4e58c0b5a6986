-- The writes of an object, a level after the other.
use Rattle.std.proofs.Common.{◌≡◌, ℕ, suc, ◌+◌, ◌-◌, ◌*◌, ◌^◌, ◌<◌, ◌≤◌, ◌≢◌, lit<, List, [], length, take, drop, get_or, Option, Some, None, Bool, true, false, if◌then◌else◌, All, refl, sym, ap, ◌∙◌, subst, arith, add-one}
use Rattle.std.proofs.lemmas.List.Elements.{All-take, All-drop, All-weaker}
use Rattle.std.proofs.Math.Nat.{pow-le-pow_right}
use Rattle.block_pointer.specs.declared.block.Block.{Block}
use Rattle.block_pointer.specs.declared.pointer.BlockPtr.{BlockPtr}
use Rattle.block_pointer.specs.declared.property.Property.{Property}
use Rattle.block_pointer.specs.Pointer.{Fits}
use Rattle.dnode.specs.declared.node.ObjectNode.{ObjectNode}
use Rattle.dnode.specs.Levels.{levels_of}
use Rattle.block_store.specs.Blocks.{Contents}
use Rattle.block_store.specs.Plans.{Plans}
use Rattle.block_store.specs.Store.{Store}
use Rattle.dnode_tree.specs.declared.writes.BlockWrite.{BlockWrite}
use Rattle.dnode_tree.specs.declared.writes.CopyCounts.{CopyCounts}
use Rattle.dnode_tree.specs.declared.writes.Rewrite.{Rewrite}
use Rattle.block_store.specs.Steps.{OnlyReadsAndPlans, AnswersTell}
use Rattle.dnode_tree.specs.Births.{AreBirths, HasBirths, height_of, is_above, reaches, births_after}
use Rattle.dnode_tree.specs.PartsRewritten.{Ages, AgesOfParts, AreBirthsAfter, IsPartRewritten, HasWrites}
use Rattle.dnode_tree.proofs.Births.{reaches_taken, reaches_dropped}
use Rattle.dnode_tree.proofs.Spans.{span_positive}
use Rattle.std.specs.Prelude.{nat_lt, ◌&&◌, ◌==◌}
use Rattle.std.proofs.lemmas.Bool.{ne_eqb}
use Rattle.std.proofs.lemmas.Bool.Decides.{nat_tests}
use Rattle.dnode_tree.specs.Rewriting.{IsExchanged, IsRewritten}
use Rattle.dnode_tree.specs.Subtree.{IsSubtree, HasProperty}
use Rattle.dnode_tree.specs.Tree.{property_of, IsTree}
use Rattle.dnode_tree.specs.Writes.{AreInOrder, AreBetween, AreWholeBlocks, written}
use Rattle.dnode_tree.proofs.Kept.{subtree_as}
use Rattle.dnode_tree.proofs.NewArrays.{behind_all, order_dropped, has_before, has_behind, written_others}
use Rattle.dnode_tree.proofs.Spans.{span_up}
use Rattle.block_store.proofs.Steps.{steps_on}
use Rattle.dnode_tree.proofs.Steps.{told_sooner, told_later}

-- where births are told, they are those of the object, and after the writes
abbrev pub AgesOfTree : ℕ → Contents → ObjectNode → List BlockWrite → Option Ages → Type 0
AgesOfTree birth stored node writes ages =
    (told : Ages) → ages ≡ Some told → HasBirths stored node told.old
    × ((level first : ℕ) → told.new level first ≡ births_after (height_of node) writes birth told.old level first)

-- the tree has that many levels above the data, and what its places have room for is written
pub record IsRaising (copies : CopyCounts) (start now : Store) (missing : List ℕ) (node : ObjectNode) (level birth : ℕ) (pointer : BlockPtr) (writes rest : List BlockWrite) (noted_now : List Block) : Type 0 where
  pub steps : OnlyReadsAndPlans start now missing
  pub fits : Fits pointer
  pub property : HasProperty (property_of node level) pointer
  pub above : levels_of node.highest - 1 ≤ level
  pub between : AreBetween (128 ^ level) (128 ^ 5) rest
  pub order : AreInOrder rest
  pub whole : AreWholeBlocks node rest
  pub reached : (low first : ℕ) → 128 ^ level ≤ first → reaches writes low first ≡ reaches rest low first
  pub rewriting : (ages : Option Ages) (stored planned : Contents) (array : ℕ → Option (List ℕ)) (blocks : List Block) → Plans start stored planned
      → IsSubtree stored (property_of node) (levels_of node.highest - 1) 0 birth node.pointer array blocks
      → ((id : ℕ) → node.highest < id → array id ≡ None)
      → AgesOfTree birth stored node writes ages
      → AnswersTell start now missing
      → (present : Contents) × Plans now stored present
      × IsPartRewritten ages copies planned present (property_of node) level 0 birth pointer (written writes array) blocks [] noted_now
      × HasWrites (written writes array) array rest (128 ^ level) (128 ^ 5)

pub part_as : {ages : Option Ages} {copies : CopyCounts} (planned later : Contents) (property : ℕ → Property) (level first birth : ℕ) (pointer : BlockPtr) (array other : ℕ → Option (List ℕ)) (before noted noted_later : List Block)
    → ((id : ℕ) → first ≤ id → id < first + 128 ^ level → array id ≡ other id)
    → IsPartRewritten ages copies planned later property level first birth pointer array before noted noted_later → IsPartRewritten ages copies planned later property level first birth pointer other before noted noted_later
part_as planned later property level first birth pointer array other before noted noted_later same part = record {
  kept = part.kept;
  blocks = part.blocks;
  part = subtree_as later later (λ block bytes known. known) property level first birth birth pointer array other part.blocks (omega arith) same part.part;
  gone = part.gone;
  noted_are = part.noted_are;
  exchanged = part.exchanged;
  renewed = part.renewed;
}

-- where no births are told
pub untold : (birth : ℕ) (stored : Contents) (node : ObjectNode) (writes : List BlockWrite) → AgesOfTree birth stored node writes None
untold birth stored node writes told is = absurd (let clash : None ≡ Some told = is in cc)

pub power_rises : (low high : ℕ) → low ≤ high → 128 ^ low ≤ 128 ^ high
power_rises low high le = pow-le-pow_right (lit< tt) le

-- nothing is behind what a tree has places for
nothing_behind : (node : ObjectNode) (array : ℕ → Option (List ℕ)) (level : ℕ) → node.highest < 128 ^ (levels_of node.highest - 1) → levels_of node.highest - 1 ≤ level
    → ((id : ℕ) → node.highest < id → array id ≡ None) → (id : ℕ) → 128 ^ level ≤ id → array id ≡ None
nothing_behind node array level enough above behind id high = behind id (omega (arith, enough, power_rises (levels_of node.highest - 1) level above, high))

pub root_of : (stored : Contents) (bound birth : ℕ) (node : ObjectNode) (array : ℕ → Option (List ℕ)) (blocks : List Block) → bound ≤ birth → IsTree stored bound node array blocks
    → IsSubtree stored (property_of node) (levels_of node.highest - 1) 0 birth node.pointer array blocks
root_of stored bound birth node array blocks le tree =
    subtree_as stored stored (λ block bytes known. known) (property_of node) (levels_of node.highest - 1) 0 bound birth node.pointer array array blocks le (λ id from under. refl) tree.root

pub tree_later : (stored : Contents) (bound birth : ℕ) (node : ObjectNode) (array : ℕ → Option (List ℕ)) (blocks : List Block) → bound ≤ birth → IsTree stored bound node array blocks
    → IsTree stored birth node array blocks
tree_later stored bound birth node array blocks le tree = record { root = root_of stored bound birth node array blocks le tree; behind = tree.behind }

lt_false : (a b : ℕ) → b ≤ a → nat_lt a b ≡ false
lt_false a b le = grind (arith, nat_tests)

lt_true : (a b : ℕ) → a < b → nat_lt a b ≡ true
lt_true a b lt = grind (arith, nat_tests)

and_false : (test : Bool) → (test && false) ≡ false
and_false true = refl
and_false false = refl

-- a root that is not above the one before
not_above : (height level first : ℕ) → level ≤ height → is_above height level first ≡ false
not_above height level first le = ap (λ test. test && (first == 0)) (lt_false height level le)

not_first : (height level first : ℕ) → 0 < first → is_above height level first ≡ false
not_first height level first some = ap (λ test. nat_lt height level && test) (ne_eqb first 0 (λ is. omega (arith, is, some))) ∙ and_false (nat_lt height level)

above_it : (height level : ℕ) → height < level → is_above height level 0 ≡ true
above_it height level lt = ap (λ test. test && true) (lt_true height level lt)

module _ (start now : Store) (missing : List ℕ) (node : ObjectNode) (birth : ℕ) (pointer : BlockPtr) (writes run rest : List BlockWrite) (n middle : ℕ) (noted_first noted_now : List Block)
    (sooner : All (λ write. write.id < middle) (take n writes)) (later : (other : BlockWrite) → n < length writes → middle ≤ (get_or writes n other).id)
    (run_is : run ≡ take n writes) (rest_is : rest ≡ drop n writes) (order : AreInOrder writes) (ids : All (λ write. write.id < 128 ^ 5) writes) where
  behind : All (λ write. middle ≤ write.id) (drop n writes)
  behind = behind_all writes n middle order later

  all_writes : (array : ℕ → Option (List ℕ)) → HasWrites (written writes array) array writes 0 (128 ^ 5)
  all_writes array id from under = refl

  -- the writes that the root has places for are done
  pub raising_begins : {copies : CopyCounts} (level : ℕ) → level ≡ levels_of node.highest - 1 → middle ≡ 128 ^ level → middle ≤ 128 ^ 5 → noted_first ≡ [] → AreWholeBlocks node writes
      → OnlyReadsAndPlans start now missing → Fits pointer → HasProperty (property_of node (levels_of node.highest - 1)) pointer
      → ((ages : Option Ages) (stored planned : Contents) (array : ℕ → Option (List ℕ)) (blocks : List Block) → Plans start stored planned
      → IsSubtree stored (property_of node) (levels_of node.highest - 1) 0 birth node.pointer array blocks
      → ((told : Ages) → ages ≡ Some told → AreBirths stored (levels_of node.highest - 1) 0 node.pointer told.old
      × AreBirthsAfter birth run told.old told.new (levels_of node.highest - 1) 0 (0 + 128 ^ (levels_of node.highest - 1)))
      → AnswersTell start now missing
      → (present : Contents) × Plans now stored present
      × IsPartRewritten ages copies planned present (property_of node) (levels_of node.highest - 1) 0 birth pointer (written run array) blocks noted_first noted_now)
      → IsRaising copies start now missing node level birth pointer writes rest noted_now
  raising_begins {copies = copies} level level_is middle_is small none whole steps fits property step =
      subst (λ ws. IsRaising copies start now missing node level birth pointer writes ws noted_now) (sym rest_is)
      (subst (λ l. IsRaising copies start now missing node l birth pointer writes (drop n writes) noted_now) (sym level_is) (record {
        steps = steps;
        fits = fits;
        property = property;
        above = omega arith;
        between = λ j other low. (omega (arith, behind j other low, bottom), All-drop (λ (write : BlockWrite). write.id < 128 ^ 5) n writes ids j other low);
        order = order_dropped writes n order;
        whole = All-drop (λ (write : BlockWrite). length write.bytes.items ≡ node.data_sectors * 512) n writes whole;
        reached = λ low first from. reaches_dropped writes n middle low first sooner (omega (arith, from, bottom));
        rewriting = λ ages stored planned array blocks plans root nothing aged tell.
            let done = step ages stored planned array blocks plans root (λ told told_is. ((aged told told_is).0, root_ages ages stored aged told told_is)) tell in (
              done.0,
              done.1,
              subst (λ noted. IsPartRewritten ages copies planned done.0 (property_of node) (levels_of node.highest - 1) 0 birth pointer (written writes array) blocks noted noted_now) none
                  (part_as planned done.0 (property_of node) (levels_of node.highest - 1) 0 birth pointer (written run array) (written writes array) blocks noted_first noted_now
                  (λ id from under. ap (λ ws. written ws array id) run_is
                  ∙ sym (has_before (written writes array) array writes n 0 middle (128 ^ 5) (all_writes array) sooner behind small id from (omega (arith, under, bottom)))) done.2),
              subst (λ m. HasWrites (written writes array) array (drop n writes) m (128 ^ 5)) bottom
                  (has_behind (written writes array) array writes n 0 middle (128 ^ 5) (all_writes array) sooner behind (omega arith)),
            );
      }))
    where
      bottom : middle ≡ 128 ^ (levels_of node.highest - 1)
      bottom = middle_is ∙ ap (λ l. 128 ^ l) level_is

      root_ages : (ages : Option Ages) (stored : Contents) → AgesOfTree birth stored node writes ages → (told : Ages) → ages ≡ Some told
          → AreBirthsAfter birth run told.old told.new (levels_of node.highest - 1) 0 (0 + 128 ^ (levels_of node.highest - 1))
      root_ages ages stored aged told told_is low first under from before =
          (aged told told_is).1 low first
          ∙ ap (λ test. if test then birth else (if reaches writes low first then birth else told.old low first)) (not_above (height_of node) low first under)
          ∙ ap (λ test. if test then birth else told.old low first)
          (reaches_taken writes n middle low first behind (omega (arith, before, bottom)) ∙ ap (λ ws. reaches ws low first) (sym run_is))

-- the writes of one more level
module _ {copies : CopyCounts} (start now : Store) (missing : List ℕ) (node : ObjectNode) (level birth : ℕ) (pointer : BlockPtr) (writes rest run others : List BlockWrite) (noted_now : List Block) (n middle : ℕ)
    (so_far : IsRaising copies start now missing node level birth pointer writes rest noted_now) (low : level < 5) (middle_is : middle ≡ 128 * 128 ^ level) (small : middle ≤ 128 ^ 5)
    (sooner : All (λ write. write.id < middle) (take n rest)) (later : (other : BlockWrite) → n < length rest → middle ≤ (get_or rest n other).id)
    (run_is : run ≡ take n rest) (others_are : others ≡ drop n rest) (enough : node.highest < 128 ^ (levels_of node.highest - 1)) where
  pub level_between : AreBetween (128 ^ level) (128 * 128 ^ level) run
  level_between =
      subst (λ ws. AreBetween (128 ^ level) (128 * 128 ^ level) ws) (sym run_is)
      (λ j other under. (
        (All-take (λ (write : BlockWrite). (128 ^ level ≤ write.id) × (write.id < 128 ^ 5)) n rest so_far.between j other under).0,
        omega (arith, sooner j other under, middle_is),
      ))

  level_behind : All (λ write. middle ≤ write.id) (drop n rest)
  level_behind = behind_all rest n middle so_far.order later

  module _ (after_write : Store) (steps : OnlyReadsAndPlans now after_write missing) where
    level_has : (new_array array : ℕ → Option (List ℕ)) → HasWrites new_array array rest (128 ^ level) (128 ^ 5) → HasWrites new_array array run (128 ^ level) (128 * 128 ^ level)
    level_has new_array array has =
        subst (λ ws. HasWrites new_array array ws (128 ^ level) (128 * 128 ^ level)) (sym run_is)
        (subst (λ m. HasWrites new_array array (take n rest) (128 ^ level) m) middle_is
        (has_before new_array array rest n (128 ^ level) middle (128 ^ 5) has sooner level_behind small))

    level_ages : (ages : Option Ages) (stored : Contents) → AgesOfTree birth stored node writes ages → AgesOfParts birth level 0 1 run ages
    level_ages ages stored aged told told_is = (
      (aged told told_is).1 (suc level) 0
          ∙ ap (λ test. if test then birth else (if reaches writes (suc level) 0 then birth else told.old (suc level) 0))
          (above_it (height_of node) (suc level) (omega (arith, so_far.above))),
      λ low first under from before.
          (aged told told_is).1 low first
          ∙ ap (λ test. if test then birth else (if reaches writes low first then birth else told.old low first))
          (not_first (height_of node) low first (omega (arith, from, span_positive level)))
          ∙ ap (λ test. if test then birth else told.old low first)
          (so_far.reached low first (omega (arith, from)) ∙ reaches_taken rest n middle low first level_behind (omega (arith, before, middle_is)) ∙ ap (λ ws. reaches ws low first) (sym run_is)),
    )

    pub raising_goes_on : (new_pointer : BlockPtr) (noted_later : List Block) → Fits new_pointer → HasProperty (property_of node (level + 1)) new_pointer
        → ((ages : Option Ages) (stored planned present : Contents) (array new_array : ℕ → Option (List ℕ)) (before noted : List Block) → Plans now stored present
        → IsPartRewritten ages copies planned present (property_of node) level 0 birth pointer new_array before noted noted_now
        → ((id : ℕ) → 128 ^ level ≤ id → array id ≡ None) → HasWrites new_array array run (128 ^ level) (128 * 128 ^ level)
        → AgesOfParts birth level 0 1 run ages → AnswersTell now after_write missing
        → (later : Contents) × Plans after_write stored later
        × IsPartRewritten ages copies planned later (property_of node) (level + 1) 0 birth new_pointer new_array before noted noted_later)
        → IsRaising copies start after_write missing node (level + 1) birth new_pointer writes others noted_later
    raising_goes_on new_pointer noted_later fits property step =
        subst (λ ws. IsRaising copies start after_write missing node (level + 1) birth new_pointer writes ws noted_later) (sym others_are) (record {
          steps = steps_on start now after_write missing so_far.steps steps;
          fits = fits;
          property = property;
          above = omega (arith, so_far.above);
          between = λ j other under. (
            omega (arith, level_behind j other under, up),
            (All-drop (λ (write : BlockWrite). (128 ^ level ≤ write.id) × (write.id < 128 ^ 5)) n rest so_far.between j other under).1,
          );
          order = order_dropped rest n so_far.order;
          whole = All-drop (λ (write : BlockWrite). length write.bytes.items ≡ node.data_sectors * 512) n rest so_far.whole;
          reached = λ low first from.
              so_far.reached low first (omega (arith, from, up, middle_is, span_positive level)) ∙ reaches_dropped rest n middle low first sooner (omega (arith, from, up));
          rewriting = λ ages stored planned array blocks plans root nothing aged tell.
              let there = so_far.rewriting ages stored planned array blocks plans root nothing aged (told_sooner start now after_write missing so_far.steps steps tell) in
              let done = step ages stored planned there.0 array (written writes array) blocks [] there.1 there.2 (nothing_behind node array level enough so_far.above nothing)
              (level_has (written writes array) array there.3) (level_ages ages stored aged) (told_later start now after_write missing so_far.steps steps tell) in (
                done.0,
                done.1,
                done.2,
                subst (λ m. HasWrites (written writes array) array (drop n rest) m (128 ^ 5)) up
                    (has_behind (written writes array) array rest n (128 ^ level) middle (128 ^ 5) there.3 sooner level_behind (omega (arith, middle_is))),
              );
        })
      where
        up : middle ≡ 128 ^ (level + 1)
        up = middle_is ∙ omega (arith, span_up (level + 1) level (add-one level))

    pub raising_fails : (Refused : Type 0)
        → ((ages : Option Ages) (stored planned present : Contents) (array new_array : ℕ → Option (List ℕ)) (before noted : List Block) → Plans now stored present
        → IsPartRewritten ages copies planned present (property_of node) level 0 birth pointer new_array before noted noted_now
        → ((id : ℕ) → 128 ^ level ≤ id → array id ≡ None) → HasWrites new_array array run (128 ^ level) (128 * 128 ^ level)
        → AgesOfParts birth level 0 1 run ages → AnswersTell now after_write missing → Refused)
        → (stored planned : Contents) (bound : ℕ) (array : ℕ → Option (List ℕ)) (blocks : List Block) → Plans start stored planned → IsTree stored bound node array blocks → bound ≤ birth
        → AnswersTell start after_write missing → Refused
    raising_fails Refused step stored planned bound array blocks plans tree le tell =
        let none : AgesOfTree birth stored node writes None = untold birth stored node writes in
        let there = so_far.rewriting None stored planned array blocks plans (root_of stored bound birth node array blocks le tree) tree.behind none (told_sooner start now after_write missing so_far.steps steps tell) in
        step None stored planned there.0 array (written writes array) blocks [] there.1 there.2 (nothing_behind node array level enough so_far.above tree.behind)
        (level_has (written writes array) array there.3) (level_ages None stored none) (told_later start now after_write missing so_far.steps steps tell)

-- the tree with all writes
module _ {copies : CopyCounts} (start now : Store) (missing : List ℕ) (node : ObjectNode) (level birth : ℕ) (writes rest : List BlockWrite) (done : Rewrite)
    (raising : IsRaising copies start now missing node level birth done.node.pointer writes rest done.replaced.items)
    (same : property_of done.node ≡ property_of node) (level_is : level ≡ levels_of done.node.highest - 1) (grown : node.highest ≤ done.node.highest)
    (within : All (λ write. write.id ≤ done.node.highest) writes) where
  whole_tree : (ages : Option Ages) (stored planned : Contents) (bound : ℕ) (array : ℕ → Option (List ℕ)) (blocks : List Block) → Plans start stored planned → IsTree stored bound node array blocks → bound ≤ birth
      → AgesOfTree birth stored node writes ages → AnswersTell start now missing
      → (present : Contents) × Plans now stored present × IsRewritten copies planned present birth done (written writes array) blocks
      × ((told : Ages) → ages ≡ Some told → HasBirths present done.node told.new)
  whole_tree ages stored planned bound array blocks plans tree le aged tell =
      let there = raising.rewriting ages stored planned array blocks plans (root_of stored bound birth node array blocks le tree) tree.behind aged tell in
      let made : IsSubtree there.0 (property_of done.node) level 0 birth done.node.pointer (written writes array) there.2.blocks =
      subst (λ property. IsSubtree there.0 property level 0 birth done.node.pointer (written writes array) there.2.blocks) (sym same) there.2.part in (
        there.0,
        there.1,
        record {
          kept = there.2.kept;
          blocks = there.2.blocks;
          tree = record {
            root = subst (λ l. IsSubtree there.0 (property_of done.node) l 0 birth done.node.pointer (written writes array) there.2.blocks) level_is made;
            behind = λ id past.
                written_others writes array id (All-weaker (λ w. w.id ≤ done.node.highest) (λ w. w.id ≢ id) (λ w under is. omega (arith, under, is, past)) writes within)
                ∙ tree.behind id (omega (arith, grown, past));
          };
          exchanged = subst (λ gone. IsExchanged copies birth planned there.0 blocks there.2.blocks gone) (sym there.2.noted_are) there.2.exchanged;
        },
        λ told told_is. subst (λ l. AreBirths there.0 l 0 done.node.pointer told.new) level_is (there.2.renewed told told_is),
      )

  pub tree_rewritten : (stored planned : Contents) (bound : ℕ) (array : ℕ → Option (List ℕ)) (blocks : List Block) → Plans start stored planned → IsTree stored bound node array blocks → bound ≤ birth → AnswersTell start now missing
      → (present : Contents) × Plans now stored present × IsRewritten copies planned present birth done (written writes array) blocks
  tree_rewritten stored planned bound array blocks plans tree le tell =
      let there = whole_tree None stored planned bound array blocks plans tree le (untold birth stored node writes) tell in
      (there.0, there.1, there.2)

  pub tree_renewed : (stored planned : Contents) (bound : ℕ) (array : ℕ → Option (List ℕ)) (blocks : List Block) (births : ℕ → ℕ → ℕ) → Plans start stored planned → IsTree stored bound node array blocks
      → HasBirths stored node births → bound ≤ birth → AnswersTell start now missing
      → (present : Contents) × Plans now stored present × IsRewritten copies planned present birth done (written writes array) blocks
      × HasBirths present done.node (births_after (height_of node) writes birth births)
  tree_renewed stored planned bound array blocks births plans tree were le tell =
      let told : Ages = record { old = births; new = births_after (height_of node) writes birth births } in
      let aged : AgesOfTree birth stored node writes (Some told) = λ other is.
      (let e : told ≡ other = cc in
      subst (λ (t : Ages). HasBirths stored node t.old × ((l f : ℕ) → t.new l f ≡ births_after (height_of node) writes birth t.old l f)) e (were, λ l f. refl)) in
      let there = whole_tree (Some told) stored planned bound array blocks plans tree le aged tell in
      (there.0, there.1, there.2, there.3 told refl)
