-- What gives way where several lists of blocks are changed, one after the other.
use Rattle.std.proofs.Common.{◌≡◌, ◌≢◌, ◌⊎◌, ℕ, zero, suc, ◌<◌, ◌≤◌, inl, inr, List, [], ◌∷◌, ◌++◌, get_or, cond, eqb, Some, None, Option, Contains, All, AllPairs, refl, sym, ap, ◌∙◌, subst, arith}
use Rattle.std.specs.List.{count_by}
use Rattle.std.proofs.lemmas.Bool.{cases_eq, cases_lt}
use Rattle.std.proofs.lemmas.List.Elements.{All-head, All-tail, Contains-append_left, Contains-append_right, Contains-append_cases}
use Rattle.block_pointer.specs.declared.block.Block.{Block}
use Rattle.block_store.specs.Blocks.{Contents, Extends}
use Rattle.dnode.specs.declared.dnode.Dnode.{Dnode}
use Rattle.dnode.specs.declared.dnode.Dnode.TheVariants.{Free, Object as Node}
use Rattle.dnode_tree.proofs.Exchanging.{count_by-append}
use Rattle.dnode_tree.proofs.Replacing.{gone_are, after_once}
use Rattle.dnode_tree.proofs.SameBlocks.{same_as, counted, found, once_counted, distinct_counted}
use Rattle.dnode_tree.proofs.Standing.{tree_blocks_known}
use Rattle.dnode_tree.specs.declared.writes.CopyCounts.{CopyCounts}
use Rattle.dnode_tree.specs.Freeing.{AreOnlyIn}
use Rattle.dnode_tree.specs.Rewriting.{AreDistinct, IsExchanged}
use Rattle.objset.specs.Nodes.{birth_of}
use Rattle.objset.proofs.Numbers.{taken, passed}
use Rattle.objset.specs.declared.changes.ObjectChange.{ObjectChange}
use Rattle.objset.specs.Changes.{AreExchanged, object_copies}
use Rattle.objset.specs.Laws.{HasEachOnce, IsOfSet, ReplacedOfSetsAreFreed}
use Rattle.objset.specs.Objects.{Object, IsObject}

-- no block is in two lists, or twice in one
pub record EachOnce (lists : ℕ → List Block) : Type 0 where
  pub once : (i : ℕ) → AreDistinct (lists i)
  pub apart : (i j : ℕ) (block : Block) → Contains (lists i) block → Contains (lists j) block → i ≡ j

abbrev Has : (ℕ → List Block) → Block → Type 0
Has lists block = (i : ℕ) × Contains (lists i) block

abbrev AreKnown : Contents → (ℕ → List Block) → Type 0
AreKnown stored lists = (i : ℕ) (block : Block) → Contains (lists i) block → (bytes : List ℕ) × (stored block ≡ Some bytes)

-- the lists gave way to others, and these blocks are gone
pub record Gives (planned later : Contents) (before after : ℕ → List Block) (gone : List Block) : Type 0 where
  pub kept : Extends planned later
  pub each : EachOnce after
  pub known : AreKnown later after
  pub from : (i : ℕ) (block : Block) → Contains (after i) block → Contains (before i) block ⊎ (planned block ≡ None)
  pub gone_from : (block : Block) → Contains gone block → Has before block
  pub gone_not : (block : Block) → Contains gone block → ¬ Has after block
  pub gone_all : (i : ℕ) (block : Block) → Contains (before i) block → ¬ Has after block → Contains gone block
  pub once : AreDistinct gone

unknown : (stored : Contents) (block : Block) (bytes : List ℕ) → stored block ≡ Some bytes → stored block ≡ None → ⊥
unknown stored block bytes is none = let clash : None ≡ Some bytes = sym none ∙ is in cc

none_before : (old new : Contents) → Extends old new → (block : Block) → new block ≡ None → old block ≡ None
none_before old new kept block none = by_cases (old block) refl
  where
    by_cases : (found : Option (List ℕ)) → old block ≡ found → old block ≡ None
    by_cases None is = is
    by_cases (Some bytes) is = absurd (unknown new block bytes (kept block bytes is) none)

-- nothing changed
pub none_gone : (planned later : Contents) (before after : ℕ → List Block) (gone : List Block) → later ≡ planned → gone ≡ [] → ((i : ℕ) → after i ≡ before i)
    → EachOnce before → AreKnown planned before → Gives planned later before after gone
none_gone planned later before after gone same none lists each known = record {
  kept = λ block bytes is. ap (λ (contents : Contents). contents block) same ∙ is;
  each = record {
    once = λ i. subst (λ bs. AreDistinct bs) (sym (lists i)) (each.once i);
    apart = λ i j block one two. each.apart i j block (subst (λ bs. Contains bs block) (lists i) one) (subst (λ bs. Contains bs block) (lists j) two);
  };
  known = λ i block held.
      let there = known i block (subst (λ bs. Contains bs block) (lists i) held) in
      (there.0, ap (λ (contents : Contents). contents block) same ∙ there.1);
  from = λ i block held. inl (subst (λ bs. Contains bs block) (lists i) held);
  gone_from = λ block held. absurd (nothing block held);
  gone_not = λ block held. absurd (nothing block held);
  gone_all = λ i block held not. absurd (not (i, subst (λ bs. Contains bs block) (sym (lists i)) held));
  once = subst (λ bs. AreDistinct bs) (sym none) (λ i j d less low. absurd (omega (arith, low)));
}
  where
    nothing : (block : Block) → Contains gone block → ⊥
    nothing block held = let there : Contains [] block = subst (λ bs. Contains bs block) none held in omega (arith, there.1)

-- one list gave way
module _ {copies : CopyCounts} (birth : ℕ) (planned later : Contents) (before after : ℕ → List Block) (at : ℕ) (gone : List Block)
    (kept : Extends planned later) (one : IsExchanged copies birth planned later (before at) (after at) gone) (others : (i : ℕ) → (i ≡ at → ⊥) → after i ≡ before i)
    (each : EachOnce before) (known : AreKnown planned before) where
  only : AreOnlyIn (before at) (after at) gone
  only = gone_are birth planned later (before at) (after at) gone (known at) (each.once at) one

  -- a block there now was there, or is new
  was : (block : Block) → Contains (after at) block → Contains (before at) block ⊎ ((planned block ≡ None) × (bytes : List ℕ) × (later block ≡ Some bytes))
  was block held =
      elim (cases_lt 0 (count_by (same_as block) (before at))) [
        | inl some ↦ inl (found block (before at) some)
        | inr none ↦
            let here : 0 < count_by (same_as block) (after at) = counted block (after at) held in
            let added : 0 < count_by (same_as block) one.added = omega (arith, here, none, one.before_are (same_as block), one.after_are (same_as block)) in
            let there = one.known block (found block one.added added) in
            inr (one.fresh block (found block one.added added), there.0, there.1)
      ]

  from_list : (i : ℕ) (block : Block) → Contains (after i) block → Contains (before i) block ⊎ (planned block ≡ None)
  from_list i block held =
      elim (cases_eq i at) [
        | inl is ↦
            elim (was block (subst (λ n. Contains (after n) block) is held)) [
              | inl sooner ↦ inl (subst (λ n. Contains (before n) block) (sym is) sooner)
              | inr new ↦ inr new.0
            ]
        | inr other ↦ inl (subst (λ bs. Contains bs block) (others i other) held)
      ]

  once_list : (i : ℕ) → AreDistinct (after i)
  once_list i =
      elim (cases_eq i at) [
        | inl is ↦ subst (λ n. AreDistinct (after n)) (sym is) (after_once birth planned later (before at) (after at) gone (known at) (each.once at) one)
        | inr other ↦ subst (λ bs. AreDistinct bs) (sym (others i other)) (each.once i)
      ]

  -- a block that is new is in the changed list alone
  in_changed : (i : ℕ) (block : Block) → Contains (after i) block → planned block ≡ None → i ≡ at
  in_changed i block held none =
      elim (cases_eq i at) [
        | inl is ↦ is
        | inr other ↦ let there = known i block (subst (λ bs. Contains bs block) (others i other) held) in absurd (unknown planned block there.0 there.1 none)
      ]

  known_list : (i : ℕ) (block : Block) → Contains (after i) block → (bytes : List ℕ) × (later block ≡ Some bytes)
  known_list i block held =
      elim (cases_eq i at) [
        | inl is ↦
            elim (was block (subst (λ n. Contains (after n) block) is held)) [
              | inl sooner ↦ let there = known at block sooner in (there.0, kept block there.0 there.1)
              | inr new ↦ (new.1, new.2)
            ]
        | inr other ↦ let there = known i block (subst (λ bs. Contains bs block) (others i other) held) in (there.0, kept block there.0 there.1)
      ]

  apart_lists : (i j : ℕ) (block : Block) → Contains (after i) block → Contains (after j) block → i ≡ j
  apart_lists i j block first second =
      elim (from_list i block first) [
        | inl here ↦
            elim (from_list j block second) [
              | inl there ↦ each.apart i j block here there
              | inr new ↦ let is = known i block here in absurd (unknown planned block is.0 is.1 new)
            ]
        | inr new ↦ in_changed i block first new ∙ sym (in_changed j block second new)
      ]

  not_after : (block : Block) → Contains gone block → ¬ Has after block
  not_after block held there =
      let mine = (only.which block).0 held in
      elim (cases_eq there.0 at) [
        | inl is ↦ mine.1 (subst (λ n. Contains (after n) block) is there.1)
        | inr other ↦ other (each.apart there.0 at block (subst (λ bs. Contains bs block) (others there.0 other) there.1) mine.0)
      ]

  all_gone_list : (i : ℕ) (block : Block) → Contains (before i) block → ¬ Has after block → Contains gone block
  all_gone_list i block held not =
      elim (cases_eq i at) [
        | inl is ↦ (only.which block).1 (subst (λ n. Contains (before n) block) is held, λ still. not (at, still))
        | inr other ↦ absurd (not (i, subst (λ bs. Contains bs block) (sym (others i other)) held))
      ]

  pub one_gone : Gives planned later before after gone
  one_gone = record {
    kept = kept;
    each = record { once = once_list; apart = apart_lists };
    known = known_list;
    from = from_list;
    gone_from = λ block held. (at, ((only.which block).0 held).0);
    gone_not = not_after;
    gone_all = all_gone_list;
    once = only.once;
  }

-- lists gave way, and then others of them
module _ (planned mid later : Contents) (before between after : ℕ → List Block) (first rest : List Block) (one : Gives planned mid before between first) (two : Gives mid later between after rest)
    (each : EachOnce before) (known : AreKnown planned before) (of : (block : Block) → Contains rest block → Has before block) where
  from_both : (i : ℕ) (block : Block) → Contains (after i) block → Contains (before i) block ⊎ (planned block ≡ None)
  from_both i block held =
      elim (two.from i block held) [
        | inl sooner ↦ one.from i block sooner
        | inr new ↦ inr (none_before planned mid one.kept block new)
      ]

  not_both : (block : Block) → Contains (first ++ rest) block → ¬ Has after block
  not_both block held there =
      elim (Contains-append_cases first rest block held) [
        | inl sooner ↦
            elim (two.from there.0 block there.1) [
              | inl still ↦ one.gone_not block sooner (there.0, still)
              | inr new ↦
                  let was = one.gone_from block sooner in
                  let is = known was.0 block was.1 in
                  unknown mid block is.0 (one.kept block is.0 is.1) new
            ]
        | inr later ↦ two.gone_not block later there
      ]

  all_both : (i : ℕ) (block : Block) → Contains (before i) block → ¬ Has after block → Contains (first ++ rest) block
  all_both i block held not =
      elim (cases_lt 0 (count_by (same_as block) (between i))) [
        | inl some ↦ Contains-append_right first rest block (two.gone_all i block (found block (between i) some) not)
        | inr none ↦
            Contains-append_left first rest block
            (one.gone_all i block held
            (λ there. elim (one.from there.0 block there.1) [
              | inl sooner ↦
                  let same : there.0 ≡ i = each.apart there.0 i block sooner held in
                  let more : 0 < count_by (same_as block) (between i) = counted block (between i) (subst (λ n. Contains (between n) block) same there.1) in
                  omega (arith, more, none)
              | inr new ↦ let is = known i block held in unknown planned block is.0 is.1 new
            ]))
      ]

  pub both_gone : Gives planned later before after (first ++ rest)
  both_gone = record {
    kept = λ block bytes is. two.kept block bytes (one.kept block bytes is);
    each = two.each;
    known = two.known;
    from = from_both;
    gone_from = λ block held.
        elim (Contains-append_cases first rest block held) [
          | inl sooner ↦ one.gone_from block sooner
          | inr later ↦ of block later
        ];
    gone_not = not_both;
    gone_all = all_both;
    once = distinct_counted (first ++ rest) (λ block.
        let a : count_by (same_as block) first ≤ 1 = once_counted block first one.once in
        let b : count_by (same_as block) rest ≤ 1 = once_counted block rest two.once in
        elim (cases_lt 0 (count_by (same_as block) first)) [
          | inl some ↦
              let none : ¬ (0 < count_by (same_as block) rest) = λ more. one.gone_not block (found block first some) (two.gone_from block (found block rest more)) in
              omega (arith, count_by-append (same_as block) first rest, a, none)
          | inr none ↦ omega (arith, count_by-append (same_as block) first rest, none, b)
        ]);
  }

-- the lists of a set: that of the dnodes, and one for each object
abbrev pub lists_of : List Block → (ℕ → List Block) → ℕ → List Block
lists_of own blocks zero = own
lists_of own blocks (suc number) = blocks number

-- the lists with that of one object changed
abbrev with_list : (ℕ → List Block) → ℕ → List Block → ℕ → List Block
with_list lists number blocks i = cond (eqb i (suc number)) blocks (lists i)

-- what is gone of changed objects
pub record OfChanged (changes : List ObjectChange) (lists : ℕ → List Block) (block : Block) : Type 0 where
  pub number : ℕ
  pub is_changed : ¬ All (λ change. change.number ≢ number) changes
  pub held : Contains (lists (suc number)) block

tail_order : (change : ObjectChange) (changes : List ObjectChange) → AllPairs (λ change later. change.number < later.number) (change ∷ changes) → AllPairs (λ change later. change.number < later.number) changes
tail_order change changes order i j d less low = order (suc i) (suc j) d (omega (arith, less)) (omega (arith, low))

behind_head : (change : ObjectChange) (changes : List ObjectChange) → AllPairs (λ change later. change.number < later.number) (change ∷ changes) → All (λ later. change.number < later.number) changes
behind_head change changes order k other low = order 0 (suc k) other (omega arith) (omega (arith, low))

all_apart : (number : ℕ) (changes : List ObjectChange) → All (λ later. number < later.number) changes → All (λ change. change.number ≢ number) changes
all_apart number changes behind k other low = λ is. let there = behind k other low in omega (arith, there, is)

pub changes_gone : (copies : CopyCounts) (birth : ℕ) (planned later : Contents) (changes : List ObjectChange) (before after : ℕ → List Block) (lists new : ℕ → List Block) (gone : List Block)
    → AllPairs (λ change later. change.number < later.number) changes → AreExchanged copies birth planned later changes before after gone
    → All (λ change. lists (suc change.number) ≡ before change.number) changes → All (λ change. new (suc change.number) ≡ after change.number) changes
    → ((i : ℕ) → All (λ change. (i ≡ suc change.number) → ⊥) changes → new i ≡ lists i) → EachOnce lists → AreKnown planned lists
    → Gives planned later lists new gone × ((block : Block) → Contains gone block → OfChanged changes lists block)
changes_gone copies birth planned later [] before after lists new gone order chain befores afters others each known = (
  none_gone planned later lists new gone chain.0 chain.1 (λ i. others i (λ k other low. absurd (omega (arith, low)))) each known,
  λ block held. absurd (let there : Contains [] block = subst (λ bs. Contains bs block) chain.1 held in omega (arith, there.1)),
)
changes_gone copies birth planned later (change ∷ changes) before after lists new gone order chain befores afters others each known =
    let behind = behind_head change changes order in
    let mid_lists : ℕ → List Block = with_list lists change.number (after change.number) in
    let here : mid_lists (suc change.number) ≡ after change.number = taken (suc change.number) (suc change.number) (after change.number) (lists (suc change.number)) refl in
    let elsewhere : (i : ℕ) → (i ≡ suc change.number → ⊥) → mid_lists i ≡ lists i = λ i apart. passed i (suc change.number) (after change.number) (lists i) apart in
    let step : IsExchanged copies birth planned chain.0 (lists (suc change.number)) (mid_lists (suc change.number)) chain.1 =
    subst (λ blocks. IsExchanged copies birth planned chain.0 (lists (suc change.number)) blocks chain.1) (sym here)
    (subst (λ blocks. IsExchanged copies birth planned chain.0 blocks (after change.number) chain.1) (sym (All-head (λ (c : ObjectChange). lists (suc c.number) ≡ before c.number) change changes befores)) chain.4) in
    let one = one_gone birth planned chain.0 lists mid_lists (suc change.number) chain.1 chain.3 step elsewhere each known in
    let rest = changes_gone copies birth chain.0 later changes before after mid_lists new chain.2 (tail_order change changes order) chain.5
    (λ k other low. elsewhere (suc (get_or changes k other).number) (λ is. let there = behind k other low in omega (arith, there, is))
    ∙ All-tail (λ (c : ObjectChange). lists (suc c.number) ≡ before c.number) change changes befores k other low)
    (All-tail (λ (c : ObjectChange). new (suc c.number) ≡ after c.number) change changes afters)
    (λ i none. elim (cases_eq i (suc change.number)) [
      | inl is ↦
          ap new is ∙ All-head (λ (c : ObjectChange). new (suc c.number) ≡ after c.number) change changes afters ∙ sym here ∙ ap mid_lists (sym is)
      | inr apart ↦ others i (all_cons i change changes apart none) ∙ sym (elsewhere i apart)
    ])
    one.each one.known in
    let of_rest : (block : Block) → Contains chain.2 block → OfChanged (change ∷ changes) lists block = λ block held.
    (let there = rest.1 block held in record {
      number = there.number;
      is_changed = λ all. there.is_changed (All-tail (λ (c : ObjectChange). c.number ≢ there.number) change changes all);
      held = subst (λ bs. Contains bs block) (elsewhere (suc there.number)
          (λ is. there.is_changed (subst (λ n. All (λ (c : ObjectChange). c.number ≢ n) changes) (sym (let same : there.number ≡ change.number = omega (arith, is) in same)) (all_apart change.number changes behind)))) there.held;
    }) in
    let whole = both_gone planned chain.0 later lists mid_lists new chain.1 chain.2 one rest.0 each known
    (λ block held. (let there = of_rest block held in (suc there.number, there.held))) in (
      subst (λ bs. Gives planned later lists new bs) (sym chain.6) whole,
      λ block held.
          elim (Contains-append_cases chain.1 chain.2 block (subst (λ bs. Contains bs block) chain.6 held)) [
            | inl sooner ↦ record {
              number = change.number;
              is_changed = λ all. All-head (λ (c : ObjectChange). c.number ≢ change.number) change changes all refl;
              held = head_held block (one.gone_from block sooner) (one.gone_not block sooner);
            }
            | inr later_one ↦ of_rest block later_one
          ],
    )
  where
    head_held : (block : Block) → Has lists block → ¬ Has (with_list lists change.number (after change.number)) block → Contains (lists (suc change.number)) block
    head_held block there not =
        elim (cases_eq there.0 (suc change.number)) [
          | inl is ↦ subst (λ n. Contains (lists n) block) is there.1
          | inr apart ↦ absurd (not (there.0, subst (λ bs. Contains bs block) (sym (passed there.0 (suc change.number) (after change.number) (lists there.0) apart)) there.1))
        ]

    all_cons : (i : ℕ) (c : ObjectChange) (cs : List ObjectChange) → (i ≡ suc c.number → ⊥) → All (λ d. (i ≡ suc d.number) → ⊥) cs → All (λ d. (i ≡ suc d.number) → ⊥) (c ∷ cs)
    all_cons i c cs apart none zero other low = apart
    all_cons i c cs apart none (suc k) other low = none k other (omega (arith, low))

object_known : (stored : Contents) (birth : ℕ) (node : Dnode) (object : Option Object) (blocks : List Block) → IsObject stored birth node object blocks → (block : Block) → Contains blocks block → (bytes : List ℕ) × (stored block ≡ Some bytes)
object_known stored birth Free object blocks is block held = absurd (let there : Contains [] block = subst (λ bs. Contains bs block) is.1 held in omega (arith, there.1))
object_known stored birth (Node node) None blocks is block held = absurd is
object_known stored birth (Node node) (Some object) blocks is block held = let there = tree_blocks_known stored birth node object.array blocks is.3 block held in (there.1, there.2)

pub replaced_are_freed : ReplacedOfSetsAreFreed
replaced_are_freed copies stored planned later bound birth set done changes objects new_objects own before are kept once order changed =
    let lists : ℕ → List Block = lists_of own before in
    let known : AreKnown planned lists = λ i block held. all_known i block held in
    let first = changes_gone (object_copies copies) birth planned changed.mid changes before changed.after lists (lists_of own changed.after) changed.gone order changed.of_objects
    (λ k other low. refl) (λ k other low. refl) others (each_of own before once) known in
    let second = one_gone birth changed.mid later (lists_of own changed.after) (lists_of changed.own_after changed.after) 0 changed.own_gone changed.kept_last changed.of_dnodes rest first.0.each first.0.known in
    let whole = both_gone planned changed.mid later lists (lists_of own changed.after) (lists_of changed.own_after changed.after) changed.gone changed.own_gone first.0 second (each_of own before once) known
    (λ block held. (let there = second.gone_from block held in own_only block there (second.gone_not block held))) in (
      record {
        own_once = whole.each.once 0;
        each_once = λ number. whole.each.once (suc number);
        own_apart = λ number block one two. let same = whole.each.apart 0 (suc number) block one two in omega (arith, same);
        apart = λ number other block one two. let same = whole.each.apart (suc number) (suc other) block one two in omega (arith, same);
      },
      λ block. (
        λ held.
            let gone : Contains (changed.gone ++ changed.own_gone) block = subst (λ bs. Contains bs block) changed.replaced held in
            (of_set own before block (whole.gone_from block gone), λ still. whole.gone_not block gone (has_of changed.own_after changed.after block still)),
        λ (held, not).
            let there = has_of own before block held in
            subst (λ bs. Contains bs block) (sym changed.replaced) (whole.gone_all there.0 block there.1 (λ still. not (of_set changed.own_after changed.after block still))),
      ),
      subst (λ bs. AreDistinct bs) (sym changed.replaced) whole.once,
    )
  where
    all_known : (i : ℕ) (block : Block) → Contains (lists_of own before i) block → (bytes : List ℕ) × (planned block ≡ Some bytes)
    all_known zero block held = let there = tree_blocks_known stored bound set.dnodes are.dnodes.array own are.dnodes.tree block held in (there.1, kept block there.1 there.2)
    all_known (suc number) block held = let there = object_known stored (birth_of are.dnodes.births number) (are.nodes number) (objects number) (before number) (are.each number) block held in (there.0, kept block there.0 there.1)

    others : (i : ℕ) → All (λ change. (i ≡ suc change.number) → ⊥) changes → lists_of own changed.after i ≡ lists_of own before i
    others zero none = refl
    others (suc number) none = changed.others number (λ k other low is. none k other low (ap suc (sym is)))

    rest : (i : ℕ) → (i ≡ 0 → ⊥) → lists_of changed.own_after changed.after i ≡ lists_of own changed.after i
    rest zero apart = absurd (apart refl)
    rest (suc number) apart = refl

    each_of : (mine : List Block) (blocks : ℕ → List Block) → HasEachOnce mine blocks → EachOnce (lists_of mine blocks)
    each_of mine blocks has = record { once = once_of mine blocks has; apart = apart_of mine blocks has }
      where
        once_of : (mine : List Block) (blocks : ℕ → List Block) → HasEachOnce mine blocks → (i : ℕ) → AreDistinct (lists_of mine blocks i)
        once_of mine blocks has zero = has.own_once
        once_of mine blocks has (suc number) = has.each_once number

        apart_of : (mine : List Block) (blocks : ℕ → List Block) → HasEachOnce mine blocks → (i j : ℕ) (block : Block) → Contains (lists_of mine blocks i) block → Contains (lists_of mine blocks j) block → i ≡ j
        apart_of mine blocks has zero zero block one two = refl
        apart_of mine blocks has zero (suc j) block one two = absurd (has.own_apart j block one two)
        apart_of mine blocks has (suc i) zero block one two = absurd (has.own_apart i block two one)
        apart_of mine blocks has (suc i) (suc j) block one two = ap suc (has.apart i j block one two)

    of_set : (mine : List Block) (blocks : ℕ → List Block) (block : Block) → Has (lists_of mine blocks) block → IsOfSet mine blocks block
    of_set mine blocks block (zero, held) = inl held
    of_set mine blocks block (suc number, held) = inr (number, held)

    has_of : (mine : List Block) (blocks : ℕ → List Block) (block : Block) → IsOfSet mine blocks block → Has (lists_of mine blocks) block
    has_of mine blocks block (inl held) = (0, held)
    has_of mine blocks block (inr there) = (suc there.0, there.1)

    own_only : (block : Block) → Has (lists_of own changed.after) block → ¬ Has (lists_of changed.own_after changed.after) block → Has (lists_of own before) block
    own_only block (zero, held) not = (0, held)
    own_only block (suc number, held) not = absurd (not (suc number, held))
