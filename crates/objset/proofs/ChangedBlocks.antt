-- The loop over the writes of dnodes, a block at a time.
use Rattle.std.proofs.Common.{◌≡◌, ◌≢◌, ℕ, ◌+◌, ◌-◌, ◌*◌, ◌/◌, ◌^◌, ◌<◌, ◌≤◌, inl, inr, min, List, [], ◌∷◌, ◌++◌, length, take, drop, get_or, Option, All, refl, sym, ap, ◌∙◌, subst, arith, length-take, length-drop}
use Rattle.std.specs.List.{Any}
use Rattle.std.proofs.lemmas.Bool.{cases_eq}
use Rattle.std.proofs.lemmas.List.{take-append-drop, nil_from_length, get_or_append_left, get_or-append-add, length-append, get_or-take, get_or-drop, get_or_default, append-nil, append_assoc}
use Rattle.std.proofs.lemmas.List.Elements.{All-take, All-drop, All-weaker, All-append, All-push, All-nil}
use Rattle.std.proofs.lemmas.List.Quantifiers.{Any-push, all_pairs_push}
use Rattle.block_pointer.specs.declared.block.Block.{Block}
use Rattle.dnode.specs.declared.dnode.Dnode.{Dnode}
use Rattle.dnode.specs.declared.object_set.ObjectSet.{ObjectSet}
use Rattle.block_store.specs.Blocks.{Contents}
use Rattle.block_store.specs.Store.{Store, Holds}
use Rattle.block_store.proofs.Steps.{reads_on}
use Rattle.dnode_tree.proofs.FurtherReads.{told_before, told_after}
use Rattle.dnode_tree.specs.declared.writes.BlockWrite.{BlockWrite}
use Rattle.block_store.specs.Steps.{OnlyReadsBlocks, AnswersTell}
use Rattle.dnode_tree.specs.Tree.{IsTree}
use Rattle.dnode_tree.specs.Writes.{AreInOrder, AreWholeBlocks, written}
use Rattle.objset.specs.declared.node_writes.NodeWrite.{NodeWrite}
use Rattle.objset.specs.Nodes.{AreNodesOf}
use Rattle.objset.specs.NodeSlots.{HasSlots}
use Rattle.objset.specs.NodeWrites.{AreNodeWrites, FitsWrite, written_nodes}
use Rattle.objset.proofs.BlockLists.{block_added}

-- The blocks before the next id are written, with the dnodes of the writes in front of what is left.
pub record IsChanging (set : ObjectSet) (start now : Store) (missing : List ℕ) (birth : ℕ) (writes rest : List NodeWrite) (changed : List BlockWrite) : Type 0 where
  pub reads : OnlyReadsBlocks start now missing
  pub next : ℕ
  pub front : List NodeWrite
  pub all : writes ≡ front ++ rest
  pub left : AreNodeWrites rest
  pub before : All (λ write. write.number / 32 < next) front
  pub behind : All (λ write. next ≤ write.number / 32) rest
  pub ids : All (λ block. (block.id < next) × (block.id < 128 ^ 5)) changed
  pub order : AreInOrder changed
  pub whole : AreWholeBlocks set.dnodes changed
  pub reached : All (λ write. Any (λ block. block.id ≡ write.number / 32) changed) front
  pub only : All (λ block. Any (λ write. write.number / 32 ≡ block.id) front) changed
  pub value : (stored : Contents) (array : ℕ → Option (List ℕ)) (nodes : ℕ → Dnode) (blocks : List Block) → Holds start stored
      → IsTree stored birth set.dnodes array blocks → AreNodesOf array nodes → AnswersTell start now missing
      → AreNodesOf (written changed array) (written_nodes front nodes)

-- those writes at the front that belong to the block of the first
module _ (writes : List NodeWrite) (first : NodeWrite) (n id end : ℕ) (good : AreNodeWrites writes) (some : 0 < length writes) (first_is : first ≡ get_or writes 0 first)
    (id_is : id ≡ first.number / 32) (end_is : end ≡ 32 * (id + 1))
    (sooner : All (λ write. write.number < end) (take n writes)) (later : (other : NodeWrite) → n < length writes → end ≤ (get_or writes n other).number) where
  -- none is before the first
  from_first : (j : ℕ) (other : NodeWrite) → j < length writes → first.number ≤ (get_or writes j other).number
  from_first j other low =
      elim (cases_eq j 0) [
        | inl same ↦ let one : first.number ≡ (get_or writes j other).number =
            ap (λ (w : NodeWrite). w.number) (first_is ∙ get_or_default writes 0 first other some ∙ ap (λ k. get_or writes k other) (sym same)) in omega (arith, one)
        | inr more ↦
            let one : first.number ≡ (get_or writes 0 other).number = ap (λ (w : NodeWrite). w.number) (first_is ∙ get_or_default writes 0 first other some) in
            omega (arith, one, good.order 0 j other (omega (arith, more)) low)
      ]

  pub some_taken : 0 < n
  some_taken =
      elim (cases_eq n 0) [
        | inl none ↦
            let there : end ≤ (get_or writes n first).number = later first (omega (arith, none, some)) in
            let same : (get_or writes n first).number ≡ first.number = ap (λ (w : NodeWrite). w.number) (ap (λ k. get_or writes k first) none ∙ sym first_is) in
            absurd (omega (arith, there, same, end_is, id_is))
        | inr more ↦ omega (arith, more)
      ]

  pub run_here : All (λ write. write.number / 32 ≡ id) (take n writes)
  run_here j other low =
      let taken : j < min n (length writes) = rw length-take at low in
      let early : j < n = omega (arith, taken) in
      let same : (get_or (take n writes) j other).number ≡ (get_or writes j other).number = ap (λ (w : NodeWrite). w.number) (get_or-take n writes j other early) in
      omega (arith, same, sooner j other low, from_first j other (omega (arith, taken)), id_is, end_is)

  pub others_behind : All (λ write. id + 1 ≤ write.number / 32) (drop n writes)
  others_behind j other low =
      let left : j < length writes - n = rw length-drop at low in
      let room : n + j < length writes = omega (arith, left) in
      let same : (get_or (drop n writes) j other).number ≡ (get_or writes (n + j) other).number = ap (λ (w : NodeWrite). w.number) (get_or-drop n writes j other) in
      elim (cases_eq j 0) [
        | inl none ↦
            let here : (get_or writes (n + j) other).number ≡ (get_or writes n other).number =
            ap (λ k. (get_or writes k other).number) (let e : n + j ≡ n = omega (arith, none) in e) in
            omega (arith, same, here, later other (omega (arith, room)), end_is)
        | inr more ↦
            omega (arith, same, good.order n (n + j) other (omega (arith, more)) room, later other (omega (arith, room)), end_is)
      ]

pub good_taken : (writes : List NodeWrite) (n : ℕ) → AreNodeWrites writes → AreNodeWrites (take n writes)
good_taken writes n good = record {
  order = λ i j other before low.
      let taken : j < min n (length writes) = rw length-take at low in
      let room : j < length writes = omega (arith, taken) in
      let early : j < n = omega (arith, taken) in
      let sooner : i < n = omega (arith, early, before) in
      rw (get_or-take n writes i other sooner, get_or-take n writes j other early) (good.order i j other before room);
  each = All-take FitsWrite n writes good.each;
}

pub good_dropped : (writes : List NodeWrite) (n : ℕ) → AreNodeWrites writes → AreNodeWrites (drop n writes)
good_dropped writes n good = record {
  order = λ i j other before low.
      let left : j < length writes - n = rw length-drop at low in
      let room : n + j < length writes = omega (arith, left) in
      rw (get_or-drop n writes i other, get_or-drop n writes j other) (good.order (n + i) (n + j) other (omega (arith, before)) room);
  each = All-drop FitsWrite n writes good.each;
}

pub changing_begins : (set : ObjectSet) (start : Store) (missing : List ℕ) (birth : ℕ) (writes : List NodeWrite) (changed : List BlockWrite) → OnlyReadsBlocks start start missing
    → AreNodeWrites writes → changed ≡ [] → IsChanging set start start missing birth writes writes changed
changing_begins set start missing birth writes changed reads good none =
    subst (λ blocks. IsChanging set start start missing birth writes writes blocks) (sym none) (record {
      reads = reads;
      next = 0;
      front = [];
      all = refl;
      left = good;
      before = All-nil (λ (w : NodeWrite). w.number / 32 < 0);
      behind = λ j other low. omega arith;
      ids = All-nil (λ (block : BlockWrite). (block.id < 0) × (block.id < 128 ^ 5));
      order = λ i j other sooner low. absurd (omega (arith, low));
      whole = All-nil (λ (block : BlockWrite). length block.bytes.items ≡ set.dnodes.data_sectors * 512);
      reached = λ j other low. absurd (omega (arith, low));
      only = λ j other low. absurd (omega (arith, low));
      value = λ stored array nodes blocks held tree are tell. are;
    })

any_in_front : {X : Type 0} (P : X → Type 0) (xs ys : List X) → Any P xs → Any P (xs ++ ys)
any_in_front P xs ys (k, x, low, is, there) = (k, x, omega (arith, low, length-append xs ys), get_or_append_left xs ys x k low ∙ is, there)

any_behind : {X : Type 0} (P : X → Type 0) (xs ys : List X) → Any P ys → Any P (xs ++ ys)
any_behind P xs ys (k, x, low, is, there) = (length xs + k, x, omega (arith, low, length-append xs ys), get_or-append-add xs ys k x ∙ is, there)

-- one more block is written
module _ (set : ObjectSet) (start now later : Store) (missing : List ℕ) (birth : ℕ) (writes rest run others : List NodeWrite) (changed : List BlockWrite) (block : BlockWrite)
    (so_far : IsChanging set start now missing birth writes rest changed) (reads : OnlyReadsBlocks now later missing)
    (n : ℕ) (run_is : run ≡ take n rest) (others_are : others ≡ drop n rest)
    (here : All (λ write. write.number / 32 ≡ block.id) run) (behind : All (λ write. block.id + 1 ≤ write.number / 32) others)
    (first : NodeWrite) (some : 0 < length run) (size : length block.bytes.items ≡ set.dnodes.data_sectors * 512) where
  parts : run ++ others ≡ rest
  parts = ap (λ ws. ws ++ others) run_is ∙ ap (λ ws. take n rest ++ ws) others_are ∙ take-append-drop n rest

  -- the block is behind those before it
  far : so_far.next ≤ block.id
  far =
      let there : All (λ (w : NodeWrite). so_far.next ≤ w.number / 32) run =
      subst (All (λ (w : NodeWrite). so_far.next ≤ w.number / 32)) (sym run_is) (All-take (λ (w : NodeWrite). so_far.next ≤ w.number / 32) n rest so_far.behind) in
      omega (arith, there 0 first some, here 0 first some)

  small : block.id < 128 ^ 5
  small =
      let there : All FitsWrite run = subst (All FitsWrite) (sym run_is) (All-take FitsWrite n rest so_far.left.each) in
      let number : (get_or run 0 first).number < 32 * 128 ^ 5 = (there 0 first some).number in
      omega (arith, number, here 0 first some)

  pub changing_goes_on : ((stored : Contents) (array : ℕ → Option (List ℕ)) (nodes : ℕ → Dnode) (blocks : List Block) → Holds now stored
      → IsTree stored birth set.dnodes array blocks → AreNodesOf array nodes → AnswersTell now later missing → HasSlots block.bytes.items block.id (written_nodes run nodes))
      → IsChanging set start later missing birth writes others (changed ++ block ∷ [])
  changing_goes_on value = record {
    reads = reads_on start now later missing so_far.reads reads;
    next = block.id + 1;
    front = so_far.front ++ run;
    all = so_far.all ∙ ap (λ ws. so_far.front ++ ws) (sym parts) ∙ sym (append_assoc so_far.front run others);
    left = subst AreNodeWrites (sym others_are) (good_dropped rest n so_far.left);
    before = All-append (λ (w : NodeWrite). w.number / 32 < block.id + 1) so_far.front run
        (All-weaker (λ (w : NodeWrite). w.number / 32 < so_far.next) (λ (w : NodeWrite). w.number / 32 < block.id + 1) (λ w low. omega (arith, low, far)) so_far.front so_far.before)
        (All-weaker (λ (w : NodeWrite). w.number / 32 ≡ block.id) (λ (w : NodeWrite). w.number / 32 < block.id + 1) (λ w same. omega (arith, same)) run here);
    behind = behind;
    ids = All-push (λ (b : BlockWrite). (b.id < block.id + 1) × (b.id < 128 ^ 5)) changed block
        (All-weaker (λ (b : BlockWrite). (b.id < so_far.next) × (b.id < 128 ^ 5)) (λ (b : BlockWrite). (b.id < block.id + 1) × (b.id < 128 ^ 5))
        (λ b low. (omega (arith, low.0, far), low.1)) changed so_far.ids)
        (omega arith, small);
    order = all_pairs_push (λ (b : BlockWrite) (c : BlockWrite). b.id < c.id) changed block so_far.order (λ k other low. omega (arith, (so_far.ids k other low).0, far));
    whole = All-push (λ (b : BlockWrite). length b.bytes.items ≡ set.dnodes.data_sectors * 512) changed block so_far.whole size;
    reached = All-append (λ (w : NodeWrite). Any (λ (b : BlockWrite). b.id ≡ w.number / 32) (changed ++ block ∷ [])) so_far.front run
        (All-weaker (λ (w : NodeWrite). Any (λ (b : BlockWrite). b.id ≡ w.number / 32) changed) (λ (w : NodeWrite). Any (λ (b : BlockWrite). b.id ≡ w.number / 32) (changed ++ block ∷ []))
        (λ w one. any_in_front (λ (b : BlockWrite). b.id ≡ w.number / 32) changed (block ∷ []) one) so_far.front so_far.reached)
        (All-weaker (λ (w : NodeWrite). w.number / 32 ≡ block.id) (λ (w : NodeWrite). Any (λ (b : BlockWrite). b.id ≡ w.number / 32) (changed ++ block ∷ []))
        (λ w same. Any-push (λ (b : BlockWrite). b.id ≡ w.number / 32) changed block (sym same)) run here);
    only = All-push (λ (b : BlockWrite). Any (λ (w : NodeWrite). w.number / 32 ≡ b.id) (so_far.front ++ run)) changed block
        (All-weaker (λ (b : BlockWrite). Any (λ (w : NodeWrite). w.number / 32 ≡ b.id) so_far.front) (λ (b : BlockWrite). Any (λ (w : NodeWrite). w.number / 32 ≡ b.id) (so_far.front ++ run))
        (λ b one. any_in_front (λ (w : NodeWrite). w.number / 32 ≡ b.id) so_far.front run one) changed so_far.only)
        (any_behind (λ (w : NodeWrite). w.number / 32 ≡ block.id) so_far.front run (0, get_or run 0 first, some, get_or_default run 0 (get_or run 0 first) first some, here 0 first some));
    value = λ stored array nodes blocks held tree are tell.
        block_added changed block array so_far.front run nodes
        (All-weaker (λ (b : BlockWrite). (b.id < so_far.next) × (b.id < 128 ^ 5)) (λ (b : BlockWrite). b.id ≢ block.id) (λ b low same. omega (arith, low.0, same, far)) changed so_far.ids)
        (All-weaker (λ (w : NodeWrite). w.number / 32 < so_far.next) (λ (w : NodeWrite). w.number / 32 ≢ block.id) (λ w low same. omega (arith, low, same, far)) so_far.front so_far.before)
        here
        (so_far.value stored array nodes blocks held tree are (told_before start now later missing so_far.reads reads tell))
        (value stored array nodes blocks (so_far.reads.keeps stored held) tree are (told_after start now later missing so_far.reads reads tell));
  }

-- at the end nothing is left
pub front_is_all : (set : ObjectSet) (start now : Store) (missing : List ℕ) (birth : ℕ) (writes rest : List NodeWrite) (changed : List BlockWrite)
    → (so_far : IsChanging set start now missing birth writes rest changed) → length rest ≤ 0 → so_far.front ≡ writes
front_is_all set start now missing birth writes rest changed so_far none =
    sym (so_far.all ∙ ap (λ ws. so_far.front ++ ws) (nil_from_length rest (omega (arith, none))) ∙ append-nil so_far.front)

-- the block of the first of the writes that are left is written, with all that belong to it
pub block_changed : (set : ObjectSet) (start now later : Store) (missing : List ℕ) (birth : ℕ) (writes rest run others : List NodeWrite) (changed : List BlockWrite) (block : BlockWrite)
    → (so_far : IsChanging set start now missing birth writes rest changed) → OnlyReadsBlocks now later missing
    → (first : NodeWrite) (n : ℕ) → 0 < length rest → first ≡ get_or rest 0 first → block.id ≡ first.number / 32
    → All (λ write. write.number < 32 * (block.id + 1)) (take n rest) → ((other : NodeWrite) → n < length rest → 32 * (block.id + 1) ≤ (get_or rest n other).number)
    → run ≡ take n rest → length run ≡ n → others ≡ drop n rest → length block.bytes.items ≡ set.dnodes.data_sectors * 512
    → ((stored : Contents) (array : ℕ → Option (List ℕ)) (nodes : ℕ → Dnode) (blocks : List Block) → Holds now stored
    → IsTree stored birth set.dnodes array blocks → AreNodesOf array nodes → AnswersTell now later missing → HasSlots block.bytes.items block.id (written_nodes run nodes))
    → IsChanging set start later missing birth writes others (changed ++ block ∷ [])
block_changed set start now later missing birth writes rest run others changed block so_far reads first n some first_is id_is sooner behind run_is run_long others_are size value =
    let taken : 0 < n = some_taken rest first n block.id (32 * (block.id + 1)) so_far.left some first_is id_is refl sooner behind in
    changing_goes_on set start now later missing birth writes rest run others changed block so_far reads n run_is others_are
    (subst (All (λ (w : NodeWrite). w.number / 32 ≡ block.id)) (sym run_is)
    (run_here rest first n block.id (32 * (block.id + 1)) so_far.left some first_is id_is refl sooner behind))
    (subst (All (λ (w : NodeWrite). block.id + 1 ≤ w.number / 32)) (sym others_are)
    (others_behind rest first n block.id (32 * (block.id + 1)) so_far.left some first_is id_is refl sooner behind))
    first (omega (arith, taken, run_long)) size value
