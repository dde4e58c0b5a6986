-- Objects and dnodes after one more of them was changed.
use Rattle.std.proofs.Common.{◌≡◌, ◌≢◌, ℕ, ◌+◌, ◌<◌, List, [], ◌∷◌, ◌++◌, length, take, get_or, eqb, cond, Option, All, AllPairs, eq-eqb, length-take, refl, sym, ap, ◌∙◌, subst, arith}
use Rattle.std.proofs.lemmas.Bool.{ne_eqb}
use Rattle.std.proofs.lemmas.List.{length_push, get_or-take, take_more}
use Rattle.std.proofs.lemmas.List.Elements.{All-head, All-tail, All-from_get_or}
use Rattle.std.proofs.Math.ListN.{get_or-append}
use Rattle.std.proofs.Math.Seq.{get_or-append_seam}
use Rattle.dnode.specs.declared.dnode.Dnode.{Dnode}
use Rattle.objset.specs.declared.node_writes.NodeWrite.{NodeWrite}
use Rattle.objset.specs.NodeWrites.{written_nodes}
use Rattle.objset.specs.declared.changes.ObjectChange.{ObjectChange}
use Rattle.objset.specs.Changes.{after_change, changed}
use Rattle.objset.specs.Objects.{Object}

pub taken : {X : Type 0} (a b : ℕ) (x y : X) → a ≡ b → cond (eqb a b) x y ≡ x
taken a b x y same = ap (λ test. cond test x y) (eq-eqb a b same)

pub passed : {X : Type 0} (a b : ℕ) (x y : X) → (a ≡ b → ⊥) → cond (eqb a b) x y ≡ y
passed a b x y apart = ap (λ test. cond test x y) (ne_eqb a b apart)

pub all_front : {X : Type 0} (P : X → Type 0) (xs : List X) (last : X) → All P (xs ++ last ∷ []) → All P xs
all_front P xs last all k other low =
    subst P (get_or-append xs (last ∷ []) other k low) (all k other (omega (arith, low, length_push xs last)))

pub all_last : {X : Type 0} (P : X → Type 0) (xs : List X) (last : X) → All P (xs ++ last ∷ []) → P last
all_last P xs last all = subst P (get_or-append_seam xs last [] last) (all (length xs) last (omega (arith, length_push xs last)))

pub changed_here : (changes : List ObjectChange) (last : ObjectChange) (objects : ℕ → Option Object) (number : ℕ) → All (λ change. change.number ≢ number) changes → last.number ≡ number
    → changed (changes ++ last ∷ []) objects number ≡ after_change last.change (objects number)
changed_here [] last objects number none is = taken last.number number (after_change last.change (objects number)) (objects number) is
changed_here (change ∷ changes) last objects number none is =
    passed change.number number (after_change change.change (objects number)) (changed (changes ++ last ∷ []) objects number) (All-head (λ (c : ObjectChange). c.number ≢ number) change changes none)
    ∙ changed_here changes last objects number (All-tail (λ (c : ObjectChange). c.number ≢ number) change changes none) is

pub changed_apart : (changes : List ObjectChange) (last : ObjectChange) (objects : ℕ → Option Object) (number : ℕ) → last.number ≢ number
    → changed (changes ++ last ∷ []) objects number ≡ changed changes objects number
changed_apart [] last objects number apart = passed last.number number (after_change last.change (objects number)) (objects number) apart
changed_apart (change ∷ changes) last objects number apart =
    ap (λ rest. cond (eqb change.number number) (after_change change.change (objects number)) rest) (changed_apart changes last objects number apart)

pub nodes_here : (writes : List NodeWrite) (last : NodeWrite) (nodes : ℕ → Dnode) (number : ℕ) → All (λ write. write.number ≢ number) writes → last.number ≡ number
    → written_nodes (writes ++ last ∷ []) nodes number ≡ last.node
nodes_here [] last nodes number none is = taken last.number number last.node (nodes number) is
nodes_here (write ∷ writes) last nodes number none is =
    passed write.number number write.node (written_nodes (writes ++ last ∷ []) nodes number) (All-head (λ (w : NodeWrite). w.number ≢ number) write writes none)
    ∙ nodes_here writes last nodes number (All-tail (λ (w : NodeWrite). w.number ≢ number) write writes none) is

pub nodes_apart : (writes : List NodeWrite) (last : NodeWrite) (nodes : ℕ → Dnode) (number : ℕ) → last.number ≢ number
    → written_nodes (writes ++ last ∷ []) nodes number ≡ written_nodes writes nodes number
nodes_apart [] last nodes number apart = passed last.number number last.node (nodes number) apart
nodes_apart (write ∷ writes) last nodes number apart =
    ap (λ rest. cond (eqb write.number number) write.node rest) (nodes_apart writes last nodes number apart)

-- the changes up to one of them, and that their numbers are below its
module _ (changes : List ObjectChange) (i : ℕ) (last : ObjectChange) (low : i < length changes) (is : last ≡ get_or changes i last) where
  pub one_more : take (i + 1) changes ≡ take i changes ++ last ∷ []
  one_more = take_more changes i last low ∙ ap (λ change. take i changes ++ change ∷ []) (sym is)

  pub all_below : AllPairs (λ change later. change.number < later.number) changes → All (λ change. change.number < last.number) (take i changes)
  all_below order =
      All-from_get_or (λ (c : ObjectChange). c.number < last.number) (take i changes) last (λ k under.
      let short : k < i = omega (arith, under, length-take i changes) in
      let there : get_or (take i changes) k last ≡ get_or changes k last = get_or-take i changes k last short in
      let before : (get_or changes k last).number < (get_or changes i last).number = order k i last short low in
      omega (arith, before, ap (λ c. c.number) there, ap (λ c. c.number) is))

-- where no dnode is written, and no object changed
pub nodes_left : (writes : List NodeWrite) (nodes : ℕ → Dnode) (number : ℕ) → All (λ write. write.number ≢ number) writes → written_nodes writes nodes number ≡ nodes number
nodes_left [] nodes number none = refl
nodes_left (write ∷ writes) nodes number none =
    passed write.number number write.node (written_nodes writes nodes number) (All-head (λ (w : NodeWrite). w.number ≢ number) write writes none)
    ∙ nodes_left writes nodes number (All-tail (λ (w : NodeWrite). w.number ≢ number) write writes none)

pub changed_left : (changes : List ObjectChange) (objects : ℕ → Option Object) (number : ℕ) → All (λ change. change.number ≢ number) changes → changed changes objects number ≡ objects number
changed_left [] objects number none = refl
changed_left (change ∷ changes) objects number none =
    passed change.number number (after_change change.change (objects number)) (changed changes objects number) (All-head (λ (c : ObjectChange). c.number ≢ number) change changes none)
    ∙ changed_left changes objects number (All-tail (λ (c : ObjectChange). c.number ≢ number) change changes none)
