-- The parts below a root are rewritten one after the other.
use Rattle.std.proofs.Common.{◌≡◌, ◌≢◌, ℕ, suc, ◌+◌, ◌*◌, ◌^◌, ◌<◌, ◌≤◌, List, [], ◌∷◌, ◌++◌, length, take, get_or, set, Option, Some, inl, inr, refl, sym, ap, ◌∙◌, subst, arith, append_assoc, append-nil, length-append, get_or-set_same, get_or-set_other}
use Rattle.std.proofs.lemmas.Bool.{cases_eq, cases_lt}
use Rattle.std.proofs.lemmas.List.{take_all, get_or_append_left, length-set}
use Rattle.std.proofs.lemmas.List.Concat.{flat_map-append}
use Rattle.std.proofs.Math.Seq.{get_or-append_seam}
use Rattle.block_pointer.specs.declared.block.Block.{Block}
use Rattle.block_pointer.specs.declared.pointer.BlockPtr.{BlockPtr}
use Rattle.block_pointer.specs.declared.pointer.BlockPtr.TheVariants.{Hole, Block as At}
use Rattle.block_pointer.specs.declared.property.Property.{Property}
use Rattle.block_pointer.specs.Copies.{dvas}
use Rattle.dnode.specs.Indirect.{SpellsIndirect, total_fill}
use Rattle.block_store.specs.Blocks.{Contents, Extends, Adds}
use Rattle.block_store.specs.Reading.{Asks}
use Rattle.dnode_tree.proofs.Collecting.{joined-take_more}
use Rattle.dnode_tree.proofs.Exchanging.{nothing_exchanged, both_exchanged, block_added}
use Rattle.dnode_tree.proofs.Fills.{fill_bound, total_fits}
use Rattle.dnode_tree.proofs.Kept.{subtree_as}
use Rattle.dnode_tree.specs.declared.writes.CopyCounts.{CopyCounts}
use Rattle.dnode_tree.specs.Births.{AreBirths}
use Rattle.dnode_tree.specs.PartsRewritten.{Ages, IsPartRewritten, AreRewrittenTo, AreRewritten}
use Rattle.dnode_tree.proofs.Births.{births_as, births_later}
use Rattle.dnode_tree.specs.Rewriting.{IsExchanged}
use Rattle.dnode_tree.specs.Subtree.{asked_of, IsSubtree, AreParts, joined}
use Rattle.dnode_tree.specs.Writes.{copies_at}

pub extends_itself : (stored : Contents) → Extends stored stored
extends_itself stored block bytes known = known

pub extends_on : (first second third : Contents) → Extends first second → Extends second third → Extends first third
extends_on first second third one two block bytes known = two block bytes (one block bytes known)

joined-push : (parts : List (List Block)) (part : List Block) → joined (parts ++ part ∷ []) ≡ joined parts ++ part
joined-push parts part = flat_map-append (λ it. it) parts (part ∷ []) ∙ ap (λ blocks. joined parts ++ blocks) (append-nil part)

get_or-push_before : (parts : List (List Block)) (part : List Block) (k j : ℕ) → length parts ≡ k → j < k → get_or (parts ++ part ∷ []) j [] ≡ get_or parts j []
get_or-push_before parts part k j count low = get_or_append_left parts (part ∷ []) [] j (omega (arith, low, count))

get_or-push_here : (parts : List (List Block)) (part : List Block) (k : ℕ) → length parts ≡ k → get_or (parts ++ part ∷ []) k [] ≡ part
get_or-push_here parts part k count = ap (λ n. get_or (parts ++ part ∷ []) n []) (sym count) ∙ get_or-append_seam parts part [] []

pub rewriting_begins : {ages : Option Ages} {copies : CopyCounts} (stored planned : Contents) (property : ℕ → Property) (level first bound birth : ℕ) (pointers : List BlockPtr) (array new_array : ℕ → Option (List ℕ)) (parts : List (List Block)) (noted : List Block)
    → Extends stored planned → AreParts stored property level first bound pointers array parts
    → ((told : Ages) → ages ≡ Some told → (j : ℕ) → j < 128 → AreBirths stored level (first + j * 128 ^ level) (get_or pointers j Hole) told.old)
    → AreRewrittenTo ages copies stored planned planned property level first bound birth pointers array new_array parts [] 0 noted noted
rewriting_begins stored planned property level first bound birth pointers array new_array parts noted kept are aged = record {
  kept = extends_itself planned;
  pointer_count = are.pointer_count;
  count = are.count;
  count_done = refl;
  done = λ j low. absurd (omega (arith, low));
  left = λ j from low. are.each j low;
  gone = [];
  noted_are = sym (append-nil noted);
  exchanged = nothing_exchanged birth planned [];
  renewed = λ told told_is j low. absurd (omega (arith, low));
  aged = λ told told_is j from low. aged told told_is j low;
}

module _ {ages : Option Ages} {copies : CopyCounts} (stored planned now : Contents) (property : ℕ → Property) (level first bound birth : ℕ) (pointers : List BlockPtr) (array new_array : ℕ → Option (List ℕ))
    (before after : List (List Block)) (k : ℕ) (noted noted_now : List Block)
    (so_far : AreRewrittenTo ages copies stored planned now property level first bound birth pointers array new_array before after k noted noted_now) (low : k < 128) where
  taken : joined (take k before) ++ get_or before k [] ≡ joined (take (k + 1) before)
  taken = joined-take_more before k (omega (arith, low, so_far.count))

  -- the next part stays
  pub part_skipped : Extends stored now → bound ≤ birth
      → ((id : ℕ) → first + k * 128 ^ level ≤ id → id < first + k * 128 ^ level + 128 ^ level → array id ≡ new_array id)
      → ((told : Ages) → ages ≡ Some told → (deep from : ℕ) → deep ≤ level → first + k * 128 ^ level ≤ from → from + 128 ^ deep ≤ first + k * 128 ^ level + 128 ^ level
      → told.old deep from ≡ told.new deep from)
      → AreRewrittenTo ages copies stored planned now property level first bound birth pointers array new_array before (after ++ get_or before k [] ∷ []) (k + 1) noted noted_now
  part_skipped there le same stays = record {
    kept = so_far.kept;
    pointer_count = so_far.pointer_count;
    count = so_far.count;
    count_done = omega (arith, length-append after (get_or before k [] ∷ []), so_far.count_done);
    done = λ j under.
        elim (cases_eq j k) [
          | inl here ↦
              subst (λ n. IsSubtree now property level (first + n * 128 ^ level) birth (get_or pointers n Hole) new_array (get_or (after ++ get_or before k [] ∷ []) n [])) (sym here)
              (subst (λ part. IsSubtree now property level (first + k * 128 ^ level) birth (get_or pointers k Hole) new_array part) (sym (get_or-push_here after (get_or before k []) k so_far.count_done))
              (subtree_as stored now there property level (first + k * 128 ^ level) bound birth (get_or pointers k Hole) array new_array (get_or before k []) le same (so_far.left k (omega arith) low)))
          | inr other ↦
              let sooner : j < k = omega (arith, under, other) in
              subst (λ part. IsSubtree now property level (first + j * 128 ^ level) birth (get_or pointers j Hole) new_array part) (sym (get_or-push_before after (get_or before k []) k j so_far.count_done sooner))
              (so_far.done j sooner)
        ];
    left = λ j from under. so_far.left j (omega (arith, from)) under;
    gone = so_far.gone;
    noted_are = so_far.noted_are;
    exchanged = subst (λ gone. IsExchanged copies birth planned now (joined (take (k + 1) before)) (joined (after ++ get_or before k [] ∷ [])) gone) (append-nil so_far.gone)
        (subst (λ blocks. IsExchanged copies birth planned now (joined (take (k + 1) before)) blocks (so_far.gone ++ [])) (sym (joined-push after (get_or before k [])))
        (subst (λ blocks. IsExchanged copies birth planned now blocks (joined after ++ get_or before k []) (so_far.gone ++ [])) taken
        (both_exchanged birth planned now now (joined (take k before)) (joined after) so_far.gone (get_or before k []) (get_or before k []) [] so_far.kept (extends_itself now)
        so_far.exchanged (nothing_exchanged birth now (get_or before k [])))));
    renewed = λ told told_is j under.
        elim (cases_eq j k) [
          | inl here ↦
              subst (λ n. AreBirths now level (first + n * 128 ^ level) (get_or pointers n Hole) told.new) (sym here)
              (births_as stored now there level (first + k * 128 ^ level) (get_or pointers k Hole) told.old told.new (stays told told_is) (so_far.aged told told_is k (omega arith) low))
          | inr other ↦ so_far.renewed told told_is j (omega (arith, under, other))
        ];
    aged = λ told told_is j from under. so_far.aged told told_is j (omega (arith, from)) under;
  }

  -- the next part has a new root
  pub part_rewritten : (later : Contents) (block : Block) (run_array : ℕ → Option (List ℕ)) (noted_later : List Block)
      → ((id : ℕ) → first + k * 128 ^ level ≤ id → id < first + k * 128 ^ level + 128 ^ level → run_array id ≡ new_array id)
      → (part : IsPartRewritten ages copies now later property level (first + k * 128 ^ level) birth (At block) run_array (get_or before k []) noted_now noted_later)
      → AreRewrittenTo ages copies stored planned later property level first bound birth (set pointers k (At block)) array new_array before (after ++ part.blocks ∷ []) (k + 1) noted noted_later
  part_rewritten later block run_array noted_later same part = record {
    kept = extends_on planned now later so_far.kept part.kept;
    pointer_count = length-set pointers k (At block) ∙ so_far.pointer_count;
    count = so_far.count;
    count_done = omega (arith, length-append after (part.blocks ∷ []), so_far.count_done);
    done = λ j under.
        elim (cases_eq j k) [
          | inl here ↦
              subst (λ n. IsSubtree later property level (first + n * 128 ^ level) birth (get_or (set pointers k (At block)) n Hole) new_array (get_or (after ++ part.blocks ∷ []) n [])) (sym here)
              (subst (λ blocks. IsSubtree later property level (first + k * 128 ^ level) birth (get_or (set pointers k (At block)) k Hole) new_array blocks) (sym (get_or-push_here after part.blocks k so_far.count_done))
              (subst (λ pointer. IsSubtree later property level (first + k * 128 ^ level) birth pointer new_array part.blocks)
              (sym (get_or-set_same pointers k (At block) Hole (omega (arith, low, so_far.pointer_count))))
              (subtree_as later later (extends_itself later) property level (first + k * 128 ^ level) birth birth (At block) run_array new_array part.blocks (omega arith) same part.part)))
          | inr other ↦
              let sooner : j < k = omega (arith, under, other) in
              subst (λ blocks. IsSubtree later property level (first + j * 128 ^ level) birth (get_or (set pointers k (At block)) j Hole) new_array blocks) (sym (get_or-push_before after part.blocks k j so_far.count_done sooner))
              (subst (λ pointer. IsSubtree later property level (first + j * 128 ^ level) birth pointer new_array (get_or after j [])) (sym (get_or-set_other pointers k j (At block) Hole other))
              (subtree_as now later part.kept property level (first + j * 128 ^ level) birth birth (get_or pointers j Hole) new_array new_array (get_or after j []) (omega arith) (λ id from under. refl) (so_far.done j sooner)))
        ];
    left = λ j from under.
        let other : j ≢ k = λ is. omega (arith, is, from) in
        subst (λ pointer. IsSubtree stored property level (first + j * 128 ^ level) bound pointer array (get_or before j [])) (sym (get_or-set_other pointers k j (At block) Hole other))
        (so_far.left j (omega (arith, from)) under);
    gone = so_far.gone ++ part.gone;
    noted_are = part.noted_are ∙ ap (λ blocks. blocks ++ part.gone) so_far.noted_are ∙ append_assoc noted so_far.gone part.gone;
    exchanged =
        subst (λ blocks. IsExchanged copies birth planned later (joined (take (k + 1) before)) blocks (so_far.gone ++ part.gone)) (sym (joined-push after part.blocks))
        (subst (λ blocks. IsExchanged copies birth planned later blocks (joined after ++ part.blocks) (so_far.gone ++ part.gone)) taken
        (both_exchanged birth planned now later (joined (take k before)) (joined after) so_far.gone (get_or before k []) part.blocks part.gone so_far.kept part.kept so_far.exchanged part.exchanged));
    renewed = λ told told_is j under.
        elim (cases_eq j k) [
          | inl here ↦
              subst (λ n. AreBirths later level (first + n * 128 ^ level) (get_or (set pointers k (At block)) n Hole) told.new) (sym here)
              (subst (λ pointer. AreBirths later level (first + k * 128 ^ level) pointer told.new)
              (sym (get_or-set_same pointers k (At block) Hole (omega (arith, low, so_far.pointer_count)))) (part.renewed told told_is))
          | inr other ↦
              subst (λ pointer. AreBirths later level (first + j * 128 ^ level) pointer told.new) (sym (get_or-set_other pointers k j (At block) Hole other))
              (births_later now later part.kept level (first + j * 128 ^ level) (get_or pointers j Hole) told.new (so_far.renewed told told_is j (omega (arith, under, other))))
        ];
    aged = λ told told_is j from under.
        let other : j ≢ k = λ is. omega (arith, is, from) in
        subst (λ pointer. AreBirths stored level (first + j * 128 ^ level) pointer told.old) (sym (get_or-set_other pointers k j (At block) Hole other))
        (so_far.aged told told_is j (omega (arith, from)) under);
  }

-- all parts are rewritten, and then the root
module _ {ages : Option Ages} {copies : CopyCounts} (stored planned now : Contents) (property : ℕ → Property) (level first bound birth : ℕ) (pointers : List BlockPtr) (array new_array : ℕ → Option (List ℕ))
    (before after : List (List Block)) (k : ℕ) (noted noted_now : List Block)
    (so_far : AreRewrittenTo ages copies stored planned now property level first bound birth pointers array new_array before after k noted noted_now) where
  -- the fill counts of the pointers have a sum
  pub sum_fits : level < 5 → total_fill pointers < 2 ^ 64
  sum_fits low = total_fits pointers level so_far.pointer_count low (λ j under.
      elim (cases_lt j k) [
        | inl sooner ↦ fill_bound now property level (first + j * 128 ^ level) birth (get_or pointers j Hole) new_array (get_or after j []) (so_far.done j sooner)
        | inr later ↦ fill_bound stored property level (first + j * 128 ^ level) bound (get_or pointers j Hole) array (get_or before j []) (so_far.left j later under)
      ])

  pub root_rewritten : (later : Contents) (block : Block) (bytes : List ℕ) → k ≡ 128 → Adds now later block bytes → SpellsIndirect bytes pointers
      → Asks (asked_of (property (suc level)) birth) block → block.birth ≡ birth → block.fill ≡ total_fill pointers → length (dvas block.copies) ≡ copies_at copies block.property.level
      → ((told : Ages) → ages ≡ Some told → told.new (suc level) first ≡ birth)
      → AreRewritten ages copies planned later property level first birth block new_array before noted noted_now
  root_rewritten later block bytes all adds spells asks born filled copied renewed = record {
    kept = extends_on planned now later so_far.kept adds.kept;
    after = after;
    part = record {
      asks = asks;
      bytes = bytes;
      known = adds.added;
      pointers = pointers;
      spelled = spells;
      fill = filled;
      parts = after;
      count = so_far.count_done ∙ all;
      below = λ j under. subtree_as now later adds.kept property level (first + j * 128 ^ level) birth block.birth (get_or pointers j Hole) new_array new_array (get_or after j []) (omega (arith, born))
          (λ id from before. refl) (so_far.done j (omega (arith, under, all)));
      blocks_are = refl;
    };
    gone = so_far.gone;
    noted_are = so_far.noted_are;
    exchanged = block_added birth planned now later (joined before) (joined after) so_far.gone block bytes so_far.kept
        (subst (λ parts. IsExchanged copies birth planned now (joined parts) (joined after) so_far.gone) (take_all k before (omega (arith, all, so_far.count))) so_far.exchanged) adds born copied;
    renewed = λ told told_is. (
      renewed told told_is ∙ sym born,
      record {
        bytes = bytes;
        known = adds.added;
        pointers = pointers;
        spelled = spells;
        below = λ j under. births_later now later adds.kept level (first + j * 128 ^ level) (get_or pointers j Hole) told.new
            (so_far.renewed told told_is j (omega (arith, under, all)));
      },
    );
  }
