-- The dnodes after writes.
use Rattle.std.proofs.Common.{◌≡◌, ◌≢◌, ℕ, ◌+◌, ◌*◌, ◌/◌, ◌%◌, ◌<◌, inl, inr, List, [], ◌∷◌, ◌++◌, length, length-take, min, take, get_or, All, ◌==◌, if◌then◌else◌, refl, sym, ap, ◌∙◌, subst, arith}
use Rattle.std.specs.List.{AllPairs}
use Rattle.std.proofs.lemmas.Bool.{ne_eqb, eq-eqb, cases_eq}
use Rattle.std.proofs.lemmas.List.{take_more, get_or-take, get_or_default}
use Rattle.std.proofs.lemmas.List.Elements.{All-head, All-tail}
use Rattle.dnode.specs.declared.dnode.Dnode.{Dnode}
use Rattle.dnode.specs.Dnode.{FitsDnode, SpellsDnode, dnode_bytes}
use Rattle.objset.specs.declared.node_writes.NodeWrite.{NodeWrite}
use Rattle.objset.specs.Nodes.{slot_of}
use Rattle.objset.specs.NodeSlots.{HasSlots}
use Rattle.objset.specs.NodeWrites.{written_nodes}

-- writes of others leave a dnode
pub nodes_others : (writes : List NodeWrite) (nodes : ℕ → Dnode) (number : ℕ) → All (λ write. write.number ≢ number) writes → written_nodes writes nodes number ≡ nodes number
nodes_others [] nodes number others = refl
nodes_others (write ∷ writes) nodes number others =
    ap (λ is. if is then write.node else written_nodes writes nodes number) (ne_eqb write.number number (All-head (λ w. w.number ≢ number) write writes others))
    ∙ nodes_others writes nodes number (All-tail (λ w. w.number ≢ number) write writes others)

-- what the first or the last of the writes have nothing of
pub front_misses : (front rest : List NodeWrite) (nodes : ℕ → Dnode) (number : ℕ) → All (λ write. write.number ≢ number) front → written_nodes (front ++ rest) nodes number ≡ written_nodes rest nodes number
front_misses [] rest nodes number others = refl
front_misses (write ∷ front) rest nodes number others =
    ap (λ is. if is then write.node else written_nodes (front ++ rest) nodes number) (ne_eqb write.number number (All-head (λ w. w.number ≢ number) write front others))
    ∙ front_misses front rest nodes number (All-tail (λ w. w.number ≢ number) write front others)

pub rest_misses : (front rest : List NodeWrite) (nodes : ℕ → Dnode) (number : ℕ) → All (λ write. write.number ≢ number) rest → written_nodes (front ++ rest) nodes number ≡ written_nodes front nodes number
rest_misses [] rest nodes number others = nodes_others rest nodes number others
rest_misses (write ∷ front) rest nodes number others = ap (λ found. if write.number == number then write.node else found) (rest_misses front rest nodes number others)

-- the last of the writes, where no other has its number, and elsewhere
last_here : (front : List NodeWrite) (write : NodeWrite) (nodes : ℕ → Dnode) (number : ℕ) → All (λ other. other.number ≢ number) front → write.number ≡ number
    → written_nodes (front ++ write ∷ []) nodes number ≡ write.node
last_here front write nodes number others is =
    front_misses front (write ∷ []) nodes number others ∙ ap (λ same. if same then write.node else nodes number) (eq-eqb write.number number is)

last_elsewhere : (front : List NodeWrite) (write : NodeWrite) (nodes : ℕ → Dnode) (number : ℕ) → write.number ≢ number
    → written_nodes (front ++ write ∷ []) nodes number ≡ written_nodes front nodes number
last_elsewhere [] write nodes number ne = ap (λ same. if same then write.node else nodes number) (ne_eqb write.number number ne)
last_elsewhere (other ∷ front) write nodes number ne = ap (λ found. if other.number == number then other.node else found) (last_elsewhere front write nodes number ne)

pub spells_as : (bytes other : List ℕ) (node there : Dnode) → bytes ≡ other → node ≡ there → SpellsDnode other there → SpellsDnode bytes node
spells_as bytes other node there same is spelled =
    subst (λ b. SpellsDnode b node) (sym same) (subst (λ d. SpellsDnode other d) (sym is) spelled)

-- one more of the dnodes of a block is at its place
module _ (old new : List ℕ) (id : ℕ) (nodes : ℕ → Dnode) (writes : List NodeWrite) (k : ℕ) (write : NodeWrite) (place : ℕ)
    (low : k < length writes) (write_is : write ≡ get_or writes k write) (order : AllPairs (λ w later. w.number < later.number) writes)
    (in_block : All (λ w. w.number / 32 ≡ id) writes) (place_is : place ≡ write.number % 32) (fits : FitsDnode write.node)
    (here : slot_of new place ≡ dnode_bytes write.node) (others : (other : ℕ) → other ≢ place → slot_of new other ≡ slot_of old other) where
  of_block : write.number / 32 ≡ id
  of_block = ap (λ (w : NodeWrite). w.number / 32) write_is ∙ in_block k write low

  one_more : take (k + 1) writes ≡ take k writes ++ write ∷ []
  one_more = take_more writes k write low ∙ ap (λ w. take k writes ++ w ∷ []) (sym write_is)

  sooner : (number : ℕ) → write.number ≡ number → All (λ w. w.number ≢ number) (take k writes)
  sooner number is j d in_front same =
      let within : j < min k (length writes) = rw length-take at in_front in
      let before : j < k = omega (arith, within) in
      let there = order j k d before low in
      let first : (get_or writes j d).number ≡ number = ap (λ (w : NodeWrite). w.number) (sym (get_or-take k writes j d before)) ∙ same in
      let last : write.number ≡ (get_or writes k d).number = ap (λ (w : NodeWrite). w.number) (write_is ∙ get_or_default writes k write d low) in
      omega (arith, there, first, last, is)

  pub slots_more : HasSlots old id (written_nodes (take k writes) nodes) → HasSlots new id (written_nodes (take (k + 1) writes) nodes)
  slots_more has p under =
      elim (cases_eq p place) [
        | inl same ↦
            let number_is : write.number ≡ 32 * id + p = omega (arith, of_block, place_is, same) in
            spells_as (slot_of new p) (dnode_bytes write.node) (written_nodes (take (k + 1) writes) nodes (32 * id + p)) write.node
            (ap (λ n. slot_of new n) same ∙ here)
            (ap (λ ws. written_nodes ws nodes (32 * id + p)) one_more ∙ last_here (take k writes) write nodes (32 * id + p) (sooner (32 * id + p) number_is) number_is)
            (fits, refl)
        | inr other ↦
            let elsewhere : write.number ≢ 32 * id + p = λ is. other (omega (arith, is, of_block, place_is, under)) in
            spells_as (slot_of new p) (slot_of old p) (written_nodes (take (k + 1) writes) nodes (32 * id + p)) (written_nodes (take k writes) nodes (32 * id + p))
            (others p other)
            (ap (λ ws. written_nodes ws nodes (32 * id + p)) one_more ∙ last_elsewhere (take k writes) write nodes (32 * id + p) elsewhere)
            (has p under)
      ]
