use Rattle.std.proofs.Common.{◌≡◌, ◌/◌, ◌<◌, ℕ, List, Vec, Option, length, get_or, Contains, inl, inr, ⊎_elim, refl, sym, ap, ◌∙◌, subst}
use Rattle.std.specs.declared.alloc.Global.{Global}
use Rattle.std.specs.Prelude.{All}
use Rattle.std.specs.List.{AllZip}
use Rattle.std.specs.List.Sorted.{IsStrictlyIncreasing}
use Rattle.std.proofs.lemmas.List.{get_or_default}
use Rattle.std.proofs.lemmas.List.Elements.{All-contains}
use Rattle.dnode_tree.specs.declared.writes.BlockWrite.{BlockWrite}
use Rattle.volume.specs.Reading.{IsFound}
use Rattle.volume.specs.Volume.{part}
use Rattle.volume.specs.Writing.{IsCovered}
use Rattle.volume.proofs.Ids.{same_ids}
use Rattle.volume.proofs.Needed.{all_needed, held_needed, in_turn_items, needed_held, needed_once, none_needed, zip_each}
use Rattle.volume.proofs.Refusing.{passed_on, unread_among}
use Rattle.volume.proofs.volume.VolumeSet.blocks_of.Goals as goal

pub whole_blocks-requires-clause-once : goal.whole_blocks-requires-clause-once
whole_blocks-requires-clause-once g c =
    let IsOut : ℕ → Type 0 = IsCovered c.args.self.now c.args.changes.now.name.now c.args.changes.now.items.now.writes in
    subst IsStrictlyIncreasing (sym c.deref.ensures.value) (needed_once IsOut c.args.ids.now c.in_ok-needed.needed.items c.in_ok-needed.ensures c.requires.once)

pub returns-in_err-old-clause-unread : goal.returns-in_err-old-clause-unread
returns-in_err-old-clause-unread g c = λ all.
    let IsOut : ℕ → Type 0 = IsCovered c.args.self.now c.args.changes.now.name.now c.args.changes.now.items.now.writes in
    c.whole_blocks.ensures.idle (c.deref.ensures.value ∙ none_needed IsOut (λ id same. same ≡ id) c.args.ids.now c.in_ok-needed.needed.items c.in_ok-needed.ensures all)

pub returns-in_err-old-clause-refused : goal.returns-in_err-old-clause-refused
returns-in_err-old-clause-refused g c =
    let IsOut : ℕ → Type 0 = IsCovered c.args.self.now c.args.changes.now.name.now c.args.changes.now.items.now.writes in
    passed_on _ _ _ c.from_residual-in_err-old.ensures.1
    (⊎_elim (λ memory. inl memory)
    (λ unread. inr (unread_among _ _ _ _ _ (λ id. Contains c.deref.result.now id) (λ id. Contains c.args.ids.now id × ¬ IsOut id) _
    (λ id held. needed_held IsOut c.args.ids.now c.in_ok-needed.needed.items id c.in_ok-needed.ensures (subst (λ (ids : List ℕ). Contains ids id) c.deref.ensures.value held)) unread))
    c.in_err-old.ensures.refused)

pub returns-in_err-old-clause-known : goal.returns-in_err-old-clause-known
returns-in_err-old-clause-known g c =
    let IsOut : ℕ → Type 0 = IsCovered c.args.self.now c.args.changes.now.name.now c.args.changes.now.items.now.writes in
    let IsBelow : ℕ → Type 0 = λ id. id < c.args.self.now.size / c.args.self.now.block_size in
    passed_on _ _ _ c.from_residual-in_err-old.ensures.1
    (λ stored array held has tell. c.in_err-old.ensures.known stored array held has tell
    (subst (All IsBelow) (sym c.deref.ensures.value) (all_needed IsOut IsBelow c.args.ids.now c.in_ok-needed.needed.items c.in_ok-needed.ensures c.requires.ids)))

pub laid_all-requires-clause-old : goal.laid_all-requires-clause-old
laid_all-requires-clause-old g c =
    let IsOut : ℕ → Type 0 = IsCovered c.args.self.now c.args.changes.now.name.now c.args.changes.now.items.now.writes in
    let IsWhole : Vec ℕ Global → Type 0 = λ bytes. length bytes.items ≡ c.args.self.now.block_size in
    in_turn_items IsOut (λ id bytes. IsWhole bytes) c.args.ids.now c.in_ok-needed.needed.items c.in_ok-old.old.items c.in_ok-needed.ensures
    (zip_each IsWhole c.in_ok-needed.needed.items c.in_ok-old.old.items (c.in_ok-old.ensures.count ∙ ap length c.deref.ensures.value) c.in_ok-old.ensures.len)

pub returns-in_err-laid_all-clause-unread : goal.returns-in_err-laid_all-clause-unread
returns-in_err-laid_all-clause-unread g c = λ all.
    let IsOut : ℕ → Type 0 = IsCovered c.args.self.now c.args.changes.now.name.now c.args.changes.now.items.now.writes in
    c.whole_blocks.ensures.idle (c.deref.ensures.value ∙ none_needed IsOut (λ id same. same ≡ id) c.args.ids.now c.in_ok-needed.needed.items c.in_ok-needed.ensures all)

pub returns-clause-value : goal.returns-clause-value
returns-clause-value g c = λ stored volume held named writable has tell.
    let IsOut : ℕ → Type 0 = IsCovered c.args.self.now c.args.changes.now.name.now c.args.changes.now.items.now.writes in
    let IsBelow : ℕ → Type 0 = λ id. id < c.args.self.now.size / c.args.self.now.block_size in
    let Has : ℕ → Vec ℕ Global → Type 0 = λ id bytes. bytes.items ≡ part volume.bytes c.args.self.now.block_size id in
    c.in_ok-laid_all.ensures.value volume named writable has.data_is.size_is
    (in_turn_items IsOut Has c.args.ids.now c.in_ok-needed.needed.items c.in_ok-old.old.items c.in_ok-needed.ensures
    (subst (λ (ids : List ℕ). AllZip Has ids c.in_ok-old.old.items) c.deref.ensures.value
    (c.in_ok-old.ensures.value stored volume.bytes held has tell
    (subst (All IsBelow) (sym c.deref.ensures.value) (all_needed IsOut IsBelow c.args.ids.now c.in_ok-needed.needed.items c.in_ok-needed.ensures c.requires.ids)))))

pub returns-clause-found : goal.returns-clause-found
returns-clause-found g c = λ k d low none.
    let IsOut : ℕ → Type 0 = IsCovered c.args.self.now c.args.changes.now.name.now c.args.changes.now.items.now.writes in
    let IsThere : ℕ → Type 0 = λ id. (found : Option (List ℕ)) × IsFound c.args.store.now.spaces c.args.self.now c.args.set.now id found in
    let blocks : List BlockWrite = c.in_ok-laid_all.field-0.items in
    let block : BlockWrite = get_or blocks k d in
    let held : Contains c.args.ids.now block.id =
    (same_ids blocks c.args.ids.now (λ id. Contains c.args.ids.now id) c.in_ok-laid_all.ensures.ids (λ id. ((λ it. it), (λ it. it))) block.id).0
    (k, block, low, get_or_default blocks k block d low, refl) in
    All-contains IsThere c.deref.result.now block.id c.in_ok-old.ensures.found
    (subst (λ (ids : List ℕ). Contains ids block.id) (sym c.deref.ensures.value)
    (held_needed IsOut c.args.ids.now c.in_ok-needed.needed.items block.id c.in_ok-needed.ensures held none))

pub returns-clause-unread : goal.returns-clause-unread
returns-clause-unread g c = λ all.
    let IsOut : ℕ → Type 0 = IsCovered c.args.self.now c.args.changes.now.name.now c.args.changes.now.items.now.writes in
    c.whole_blocks.ensures.idle (c.deref.ensures.value ∙ none_needed IsOut (λ id same. same ≡ id) c.args.ids.now c.in_ok-needed.needed.items c.in_ok-needed.ensures all)

pub returns-in_err-old-clause-caused : goal.returns-in_err-old-clause-caused
returns-in_err-old-clause-caused g c = passed_on _ _ _ c.from_residual-in_err-old.ensures.1 c.in_err-old.ensures.caused
