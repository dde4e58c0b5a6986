-- Changes of objects, one after the other.
use Rattle.std.proofs.Common.{◌≡◌, ◌≢◌, ◌⊎◌, ◌↔◌, inl, inr, ℕ, ◌+◌, ◌*◌, ◌/◌, ◌^◌, ◌<◌, ◌≤◌, List, [], ◌∷◌, ◌++◌, length, take, get_or, cond, eqb, Option, All, AllPairs, append_assoc, refl, sym, ap, ◌∙◌, subst, arith}
use Rattle.std.proofs.lemmas.Bool.{cases_eq}
use Rattle.std.proofs.lemmas.List.{append-nil}
use Rattle.std.proofs.lemmas.List.Elements.{All-nil, All-push, All-weaker}
use Rattle.std.proofs.lemmas.List.Quantifiers.{all_pairs_push}
use Rattle.block_pointer.specs.declared.block.Block.{Block}
use Rattle.block_store.specs.Blocks.{Contents, Extends}
use Rattle.block_store.specs.Plans.{Plans}
use Rattle.block_store.specs.Store.{Store}
use Rattle.dnode.specs.declared.dnode.Dnode.{Dnode}
use Rattle.dnode.specs.declared.object_set.ObjectSet.{ObjectSet}
use Rattle.dnode.specs.declared.dnode.Dnode.TheVariants.{Free}
use Rattle.dnode.specs.Dnode.{FitsDnode}
use Rattle.dnode.specs.ObjectSet.{FitsObjectSet}
use Rattle.dnode_tree.specs.Births.{HasBirths}
use Rattle.dnode_tree.specs.Tree.{IsTree}
use Rattle.objset.proofs.NodeBirths.{IsWritten, IsLeft, written_or_left}
use Rattle.objset.specs.declared.node_writes.NodeWrite.{NodeWrite}
use Rattle.objset.specs.declared.node_writes.SetRewrite.{SetRewrite}
use Rattle.objset.specs.Nodes.{birth_of}
use Rattle.objset.specs.NodeWrites.{FitsWrite, AreNodeWrites, AreNodesRewritten, IsGrownSet, written_nodes, births_written}
use Rattle.block_store.proofs.Steps.{steps_none, steps_on}
use Rattle.dnode_tree.proofs.Steps.{told_sooner, told_later}
use Rattle.dnode_tree.specs.declared.writes.CopyCounts.{CopyCounts}
use Rattle.block_store.specs.Steps.{OnlyReadsAndPlans, AnswersTell}
use Rattle.dnode_tree.specs.Rewriting.{IsExchanged}
use Rattle.objset.proofs.Exchanged.{exchanged_last, exchanged_as}
use Rattle.objset.proofs.Kept.{object_kept, object_as, within_set}
use Rattle.objset.proofs.Numbers.{taken, passed, all_front, all_last, changed_here, changed_apart, nodes_here, nodes_apart, one_more, all_below, nodes_left, changed_left}
use Rattle.objset.specs.declared.changes.ObjectChange.{ObjectChange}
use Rattle.objset.specs.declared.changes.SetCopies.{SetCopies}
use Rattle.objset.specs.Changes.{after_change, changed, MayChange, AreChanged, IsGrownFor, object_copies, dnode_copies}
use Rattle.objset.specs.Changing.{IsObjectChanged, AreObjectsChanged}
use Rattle.objset.specs.Objects.{Object, IsObject, AreObjects}

-- what a list of changes has come to
abbrev pub HasChanged : SetCopies → Store → Store → List ℕ → ObjectSet → ℕ → List ObjectChange → List NodeWrite → List Block → List Block → Type 0
HasChanged copies start now missing set birth changes writes noted noted_now =
    (stored planned : Contents) (bound : ℕ) (objects : ℕ → Option Object) (own : List Block) (before : ℕ → List Block) → Plans start stored planned
    → (are : AreObjects stored bound set objects own before) → bound ≤ birth → AnswersTell start now missing
    → All (λ change. MayChange change.change (objects change.number)) changes
    × (later : Contents) × Plans now stored later
    × AreObjectsChanged (object_copies copies) planned later birth changes writes are.nodes objects before noted noted_now

-- these changes are made, and these dnodes are to be written
pub record IsUnderway (copies : SetCopies) (start now : Store) (missing : List ℕ) (set : ObjectSet) (birth : ℕ) (changes : List ObjectChange) (writes : List NodeWrite) (noted noted_now : List Block) : Type 0 where
  pub steps : OnlyReadsAndPlans start now missing
  pub writes_are : AreNodeWrites writes
  pub below : (number : ℕ) → All (λ change. change.number < number) changes ↔ All (λ write. write.number < number) writes
  pub has_changed : HasChanged copies start now missing set birth changes writes noted noted_now

-- nothing was changed so far
pub none_changed : (copies : CopyCounts) (stored planned : Contents) (bound birth : ℕ) (set : ObjectSet) (objects : ℕ → Option Object) (own : List Block) (before : ℕ → List Block) (noted : List Block)
    → FitsObjectSet set → Extends stored planned → (are : AreObjects stored bound set objects own before) → bound ≤ birth → AreObjectsChanged copies planned planned birth [] [] are.nodes objects before noted noted
none_changed copies stored planned bound birth set objects own before noted fits kept are le = record {
  kept = λ block bytes known. known;
  after = before;
  each = λ number. object_kept stored planned bound birth (are.nodes number) (objects number) (before number) kept le (within_set stored bound set objects own before fits are number);
  others = λ number none. refl;
  all = λ number none. All-nil (λ (change : ObjectChange). change.number ≢ number);
  gone = [];
  noted_are = sym (append-nil noted);
  exchanged = (refl, refl);
}

pub underway_begins : (copies : SetCopies) (start : Store) (missing : List ℕ) (set : ObjectSet) (birth : ℕ) (noted : List Block) → FitsObjectSet set → IsUnderway copies start start missing set birth [] [] noted noted
underway_begins copies start missing set birth noted fits = record {
  steps = steps_none start missing;
  writes_are = record { order = λ i j d less low. absurd (omega (arith, low)); each = All-nil FitsWrite };
  below = λ number. (λ all. All-nil (λ (write : NodeWrite). write.number < number), λ all. All-nil (λ (change : ObjectChange). change.number < number));
  has_changed = λ stored planned bound objects own before plans are le tell. (
    All-nil (λ (change : ObjectChange). MayChange change.change (objects change.number)),
    planned,
    plans,
    none_changed (object_copies copies) stored planned bound birth set objects own before noted fits plans.kept are le,
  );
}

-- one object more was changed
module _ (copies : CopyCounts) (planned mid later : Contents) (birth : ℕ) (changes : List ObjectChange) (last : ObjectChange) (writes : List NodeWrite) (write : NodeWrite) (nodes : ℕ → Dnode)
    (objects : ℕ → Option Object) (before : ℕ → List Block) (noted noted_now noted_later : List Block) (sooner : All (λ change. change.number < last.number) changes)
    (sooner_too : All (λ other. other.number < last.number) writes) (same : write.number ≡ last.number)
    (so_far : AreObjectsChanged copies planned mid birth changes writes nodes objects before noted noted_now)
    (step : IsObjectChanged copies mid later birth write.node (after_change last.change (objects last.number)) (before last.number) noted_now noted_later) where
  after_last : ℕ → List Block
  after_last number = cond (eqb number last.number) step.blocks (so_far.after number)

  is_last : (number : ℕ) → number ≡ last.number → after_last number ≡ step.blocks
  unfolding after_last
  is_last number is = taken number last.number step.blocks (so_far.after number) is

  is_other : (number : ℕ) → (number ≡ last.number → ⊥) → after_last number ≡ so_far.after number
  unfolding after_last
  is_other number apart = passed number last.number step.blocks (so_far.after number) apart

  each_last : (number : ℕ) → (number ≡ last.number) ⊎ (number ≡ last.number → ⊥)
      → IsObject later birth (written_nodes (writes ++ write ∷ []) nodes number) (changed (changes ++ last ∷ []) objects number) (after_last number)
  each_last number (inl is) =
      object_as later birth write.node (written_nodes (writes ++ write ∷ []) nodes number) (after_change last.change (objects last.number)) (changed (changes ++ last ∷ []) objects number)
      step.blocks (after_last number)
      (sym (nodes_here writes write nodes number (All-weaker (λ (w : NodeWrite). w.number < last.number) (λ w. w.number ≢ number) (λ w low e. omega (arith, low, e, is)) writes sooner_too) (same ∙ sym is)))
      (ap (λ n. after_change last.change (objects n)) (sym is)
      ∙ sym (changed_here changes last objects number (All-weaker (λ (c : ObjectChange). c.number < last.number) (λ c. c.number ≢ number) (λ c low e. omega (arith, low, e, is)) changes sooner) (sym is)))
      (sym (is_last number is)) step.is
  each_last number (inr apart) =
      object_as later birth (written_nodes writes nodes number) (written_nodes (writes ++ write ∷ []) nodes number) (changed changes objects number) (changed (changes ++ last ∷ []) objects number)
      (so_far.after number) (after_last number)
      (sym (nodes_apart writes write nodes number (λ e. apart (sym e ∙ same))))
      (sym (changed_apart changes last objects number (λ e. apart (sym e))))
      (sym (is_other number apart))
      (object_kept mid later birth birth (written_nodes writes nodes number) (changed changes objects number) (so_far.after number) step.kept (omega arith) (so_far.each number))

  pub one_changed : AreObjectsChanged copies planned later birth (changes ++ last ∷ []) (writes ++ write ∷ []) nodes objects before noted noted_later
  one_changed = record {
    kept = λ block bytes known. step.kept block bytes (so_far.kept block bytes known);
    after = after_last;
    each = λ number. each_last number (cases_eq number last.number);
    others = λ number none.
        is_other number (λ e. all_last (λ (c : ObjectChange). c.number ≢ number) changes last none (sym e))
        ∙ so_far.others number (all_front (λ (c : ObjectChange). c.number ≢ number) changes last none);
    all = λ number none.
        All-push (λ (c : ObjectChange). c.number ≢ number) changes last (so_far.all number (all_front (λ (w : NodeWrite). w.number ≢ number) writes write none))
        (λ is. all_last (λ (w : NodeWrite). w.number ≢ number) writes write none (same ∙ is));
    gone = so_far.gone ++ step.gone;
    noted_are = step.noted_are ∙ ap (λ front. front ++ step.gone) so_far.noted_are ∙ append_assoc noted so_far.gone step.gone;
    exchanged = exchanged_last copies birth planned mid later changes last before after_last so_far.gone step.gone
        (exchanged_as copies birth planned mid changes before so_far.after after_last so_far.gone
        (All-weaker (λ (c : ObjectChange). c.number < last.number) (λ c. after_last c.number ≡ so_far.after c.number) (λ c low. is_other c.number (λ e. absurd (omega (arith, low, e)))) changes sooner) so_far.exchanged)
        step.kept
        (subst (λ blocks. IsExchanged copies birth mid later (before last.number) blocks step.gone) (sym (is_last last.number refl)) step.exchanged);
  }

-- the next change of several
module _ (copies : SetCopies) (start now new : Store) (missing : List ℕ) (set : ObjectSet) (birth : ℕ) (changes : List ObjectChange) (i : ℕ) (last : ObjectChange) (writes : List NodeWrite) (noted noted_now : List Block)
    (so_far : IsUnderway copies start now missing set birth (take i changes) writes noted noted_now) (low : i < length changes) (is : last ≡ get_or changes i last)
    (numbers : All (λ change. (0 < change.number) × (change.number < 32 * 128 ^ 5)) changes) (order : AllPairs (λ change later. change.number < later.number) changes)
    (steps : OnlyReadsAndPlans now new missing) where
  pub underway_goes_on : (write : NodeWrite) (noted_later : List Block) → write.number ≡ last.number → FitsDnode write.node
      → ((stored planned : Contents) (bound : ℕ) (objects : ℕ → Option Object) (own : List Block) (before : ℕ → List Block) → Plans now stored planned
      → AreObjects stored bound set objects own before → bound ≤ birth → AnswersTell now new missing
      → MayChange last.change (objects last.number)
      × (later : Contents) × Plans new stored later
      × IsObjectChanged (object_copies copies) planned later birth write.node (after_change last.change (objects last.number)) (before last.number) noted_now noted_later)
      → IsUnderway copies start new missing set birth (take (i + 1) changes) (writes ++ write ∷ []) noted noted_later
  underway_goes_on write noted_later same fits step =
      subst (λ all. IsUnderway copies start new missing set birth all (writes ++ write ∷ []) noted noted_later) (sym (one_more changes i last low is)) (record {
        steps = steps_on start now new missing so_far.steps steps;
        writes_are = record {
          order = all_pairs_push (λ (w later : NodeWrite). w.number < later.number) writes write so_far.writes_are.order (λ k d under. omega (arith, below_too k d under, same));
          each = All-push FitsWrite writes write so_far.writes_are.each (record { some = omega (arith, same, number_is.0); number = omega (arith, same, number_is.1); node = fits });
        };
        below = λ number. (
          λ all.
              All-push (λ (w : NodeWrite). w.number < number) writes write ((so_far.below number).0 (all_front (λ (c : ObjectChange). c.number < number) (take i changes) last all))
              (omega (arith, same, all_last (λ (c : ObjectChange). c.number < number) (take i changes) last all)),
          λ all.
              All-push (λ (c : ObjectChange). c.number < number) (take i changes) last ((so_far.below number).1 (all_front (λ (w : NodeWrite). w.number < number) writes write all))
              (omega (arith, same, all_last (λ (w : NodeWrite). w.number < number) writes write all)),
        );
        has_changed = λ stored planned bound objects own before plans are le tell.
            let there = so_far.has_changed stored planned bound objects own before plans are le (told_sooner start now new missing so_far.steps steps tell) in
            let next = step stored there.1 bound objects own before there.2 are le (told_later start now new missing so_far.steps steps tell) in (
              All-push (λ (c : ObjectChange). MayChange c.change (objects c.number)) (take i changes) last there.0 next.0,
              next.1,
              next.2,
              one_changed (object_copies copies) planned there.1 next.1 birth (take i changes) last writes write are.nodes objects before noted noted_now noted_later sooner below_too same there.3 next.3,
            );
      })
    where
      sooner : All (λ change. change.number < last.number) (take i changes)
      sooner = all_below changes i last low is order

      below_too : All (λ other. other.number < last.number) writes
      below_too = (so_far.below last.number).0 sooner

      number_is : (0 < last.number) × (last.number < 32 * 128 ^ 5)
      number_is = subst (λ (c : ObjectChange). (0 < c.number) × (c.number < 32 * 128 ^ 5)) (sym is) (numbers i last low)

  -- the next change can't be made
  pub underway_fails : (Refused : (ℕ → Option Object) → Type 0)
      → ((stored planned : Contents) (bound : ℕ) (objects : ℕ → Option Object) (own : List Block) (before : ℕ → List Block) → Plans now stored planned
      → AreObjects stored bound set objects own before → bound ≤ birth → AnswersTell now new missing → Refused objects)
      → (stored planned : Contents) (bound : ℕ) (objects : ℕ → Option Object) (own : List Block) (before : ℕ → List Block) → Plans start stored planned
      → AreObjects stored bound set objects own before → bound ≤ birth → AnswersTell start new missing → Refused objects
  underway_fails Refused step stored planned bound objects own before plans are le tell =
      let there = so_far.has_changed stored planned bound objects own before plans are le (told_sooner start now new missing so_far.steps steps tell) in
      step stored there.1 bound objects own before there.2 are le (told_later start now new missing so_far.steps steps tell)

-- the set is rewritten with what was changed
module _ (copies : SetCopies) (stored planned mid later : Contents) (birth : ℕ) (rewrite done : SetRewrite) (changes : List ObjectChange) (writes : List NodeWrite) (nodes : ℕ → Dnode) (births : ℕ → ℕ)
    (objects : ℕ → Option Object) (own : List Block) (before : ℕ → List Block) (noted : List Block) (kept : Extends stored planned)
    (were : (number : ℕ) → IsObject stored (births (number / 32)) (nodes number) (objects number) (before number))
    (so_far : AreObjectsChanged (object_copies copies) planned mid birth changes writes nodes objects before [] noted)
    (step : AreNodesRewritten (dnode_copies copies) mid later birth rewrite (written_nodes writes nodes) (births_written writes birth births) own) where
  -- a dnode's block is new, or the object is what it was
  each_after : (number : ℕ) → IsWritten writes birth births (number / 32) ⊎ IsLeft writes birth births (number / 32)
      → IsObject later (birth_of step.dnodes.births number) (written_nodes writes nodes number) (changed changes objects number) (so_far.after number)
  each_after number (inl written) =
      subst (λ born. IsObject later born (written_nodes writes nodes number) (changed changes objects number) (so_far.after number)) (sym (step.births_are (number / 32) ∙ written.is))
      (object_kept mid later birth birth (written_nodes writes nodes number) (changed changes objects number) (so_far.after number) step.kept (omega arith) (so_far.each number))
  each_after number (inr left) =
      let none : All (λ write. write.number ≢ number) writes =
      All-weaker (λ (w : NodeWrite). w.number / 32 ≢ number / 32) (λ (w : NodeWrite). w.number ≢ number) (λ w apart is. apart (ap (λ n. n / 32) is)) writes left.none in
      let unchanged : All (λ change. change.number ≢ number) changes = so_far.all number none in
      subst (λ born. IsObject later born (written_nodes writes nodes number) (changed changes objects number) (so_far.after number)) (sym (step.births_are (number / 32) ∙ left.is))
      (object_as later (births (number / 32)) (nodes number) (written_nodes writes nodes number) (objects number) (changed changes objects number) (before number) (so_far.after number)
      (sym (nodes_left writes nodes number none)) (sym (changed_left changes objects number unchanged)) (sym (so_far.others number unchanged))
      (object_kept stored later (births (number / 32)) (births (number / 32)) (nodes number) (objects number) (before number)
      (λ block bytes known. step.kept block bytes (so_far.kept block bytes (kept block bytes known))) (omega arith) (were number)))

  pub set_changed : done.set ≡ rewrite.set → done.replaced.items ≡ noted ++ rewrite.replaced.items → AreChanged copies planned later birth done changes (changed changes objects) own before
  set_changed same replaced = record {
    own_after = step.blocks;
    after = so_far.after;
    are = record {
      nodes = written_nodes writes nodes;
      dnodes = record {
        array = step.dnodes.array;
        tree = subst (λ (set : ObjectSet). IsTree later birth set.dnodes step.dnodes.array step.blocks) (sym same) step.dnodes.tree;
        births = step.dnodes.births;
        born = subst (λ (set : ObjectSet). HasBirths later set.dnodes step.dnodes.births) (sym same) step.dnodes.born;
        each = step.dnodes.each;
        first = step.dnodes.first;
        behind = subst (λ (set : ObjectSet). (number : ℕ) → set.objects ≤ number → written_nodes writes nodes number ≡ Free) (sym same) step.dnodes.behind;
      };
      each = λ number. each_after number (written_or_left writes birth births (number / 32));
    };
    others = so_far.others;
    mid = mid;
    gone = so_far.gone;
    own_gone = rewrite.replaced.items;
    of_objects = so_far.exchanged;
    of_dnodes = step.exchanged;
    kept_first = so_far.kept;
    kept_last = step.kept;
    kept = λ block bytes known. step.kept block bytes (so_far.kept block bytes known);
    replaced = replaced ∙ ap (λ front. front ++ rewrite.replaced.items) so_far.noted_are;
  }

pub set_grown : (old new : ObjectSet) (changes : List ObjectChange) (writes : List NodeWrite)
    → ((number : ℕ) → All (λ change. change.number < number) changes ↔ All (λ write. write.number < number) writes) → IsGrownSet old new writes → IsGrownFor old new changes
set_grown old new changes writes same grown = record {
  kind = grown.kind;
  from = grown.from;
  room = (same new.objects).1 grown.room;
  least = λ objects le all. grown.least objects le ((same objects).0 all);
}
