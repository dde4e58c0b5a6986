-- Fewer blocks are known.
use Rattle.std.proofs.Common.{ℕ, ◌≡◌, inl, inr, Some, None, List, sym, subst, ◌∙◌}
use Rattle.raidz_io.proofs.Written.{same_some}
use Rattle.block_pointer.specs.declared.block.Block.{Block}
use Rattle.block_store.specs.Spaces.{VdevSpace}
use Rattle.block_store.specs.Blocks.{Contents, Extends}
use Rattle.block_store.specs.Forgetting.{FewerAreHeld, FewerArePlanned, Forgets}
use Rattle.block_store.specs.Places.{Marks}
use Rattle.block_store.specs.Store.{Store, ArePlaced, Holds}
use Rattle.block_store.proofs.Planning.{some_or_none}
use Rattle.block_store.proofs.Writing.{some_is_not_none}

fewer_placed : (spaces : List VdevSpace) (marks : Marks) (known fewer : Contents) → Extends fewer known → ArePlaced spaces marks known → ArePlaced spaces marks fewer
fewer_placed spaces marks known fewer of placed = record {
  blocks = λ block bytes is. placed.blocks block bytes (of block bytes is);
  places = λ block bytes i place is at. placed.places block bytes i place (of block bytes is) at;
  regions = λ block bytes is. placed.regions block bytes (of block bytes is);
  apart = λ block other bytes others i k place behind is is' at at'.
      placed.apart block other bytes others i k place behind (of block bytes is) (of other others is') at at';
}

pub fewer_held : (store : Store) (stored fewer : Contents) → Extends fewer stored → Holds store stored → Holds store fewer
fewer_held store stored fewer of holds = record {
  blocks = λ block bytes known. holds.blocks block bytes (of block bytes known);
  places = λ block bytes known. holds.places block bytes (of block bytes known);
  stand = λ block bytes i extent known copy. holds.stand block bytes i extent (of block bytes known) copy;
}

pub fewer_are_held : FewerAreHeld
fewer_are_held store stored fewer of = (
  fewer_held store stored fewer of,
  λ stores. record { held = fewer_held store stored fewer of stores.held; placed = fewer_placed store.spaces _ stored fewer of stores.placed },
)

-- a block that is left, and was not forgotten as a stored one, was not stored
left_is_new : (store : Store) (stored planned fewer left : Contents) → Forgets store stored planned fewer left → Extends stored planned
    → (block : Block) (bytes : List ℕ) → left block ≡ Some bytes → fewer block ≡ None → stored block ≡ None
left_is_new store stored planned fewer left forgets kept block bytes is none = elim (some_or_none (stored block)) [
  | inl (was, known) ↦
      let same : was ≡ bytes = same_some was bytes (sym (kept block was known) ∙ forgets.of_planned block bytes is) in
      absurd (some_is_not_none bytes (fewer block) (forgets.both block bytes (subst (λ (them : List ℕ). stored block ≡ Some them) same known) is) none)
  | inr fresh ↦ fresh
]

-- a block that is not stored is not one of fewer
not_fewer : (stored fewer : Contents) → Extends fewer stored → (block : Block) → stored block ≡ None → fewer block ≡ None
not_fewer stored fewer of block fresh = elim (some_or_none (fewer block)) [
  | inl (was, known) ↦ absurd (some_is_not_none was (stored block) (of block was known) fresh)
  | inr none ↦ none
]

pub fewer_planned : FewerArePlanned
fewer_planned store stored planned fewer left forgets plans = record {
  held = fewer_held store stored fewer forgets.of_stored plans.held;
  stored_placed = fewer_placed store.spaces _ stored fewer forgets.of_stored plans.stored_placed;
  kept = forgets.kept;
  placed = fewer_placed store.spaces _ planned left forgets.of_planned plans.placed;
  born = λ block bytes known fresh.
      plans.born block bytes (forgets.of_planned block bytes known) (left_is_new store stored planned fewer left forgets plans.kept block bytes known fresh);
  in_use = λ block bytes known fresh.
      plans.in_use block bytes (forgets.of_planned block bytes known) (left_is_new store stored planned fewer left forgets plans.kept block bytes known fresh);
  accounted = λ none at used. elim (plans.accounted none at used) [
    | inl there ↦ inl there
    | inr of ↦ inr (record {
      block = of.block;
      bytes = of.bytes;
      is_planned = forgets.of_new of.block of.bytes of.is_planned of.is_new;
      is_new = not_fewer stored fewer forgets.of_stored of.block of.is_new;
      has = of.has;
    })
  ];
  fresh = λ block bytes known fresh.
      plans.fresh block bytes (forgets.of_planned block bytes known) (left_is_new store stored planned fewer left forgets plans.kept block bytes known fresh);
  beside = plans.beside;
  writes_of = plans.writes_of;
  on_the_way = λ block bytes i extent known fresh copy.
      plans.on_the_way block bytes i extent (forgets.of_planned block bytes known) (left_is_new store stored planned fewer left forgets plans.kept block bytes known fresh) copy;
  due = λ write held.
      let was = plans.due write held in
      record {
        block = was.block;
        bytes = was.bytes;
        i = was.i;
        extent = was.extent;
        is_planned = forgets.of_new was.block was.bytes was.is_planned was.is_new;
        is_new = not_fewer stored fewer forgets.of_stored was.block was.is_new;
        is_copy = was.is_copy;
        is_of_copy = was.is_of_copy;
      };
}
