use Rattle.std.proofs.Common.{◌≡◌, ◌+◌, ◌/◌, ◌<◌, ℕ, List, Vec, length, get_or, Contains, inl, inr, ⊎_elim, sym, ap, ◌∙◌, subst}
use Rattle.std.specs.declared.alloc.Global.{Global}
use Rattle.std.specs.Prelude.{All}
use Rattle.std.specs.List.{AllZip, range_with_len}
use Rattle.std.specs.List.Sorted.{IsStrictlyIncreasing}
use Rattle.std.proofs.lemmas.List.Elements.{All-contains}
use Rattle.volume.specs.Reading.{LiesIn}
use Rattle.volume.specs.Volume.{part}
use Rattle.volume.proofs.RangeIds.{range_once, lies_below}
use Rattle.volume.proofs.Refusing.{passed_on, unread_among}
use Rattle.volume.proofs.volume.VolumeSet.read_data.Goals as goal

pub whole_blocks-requires-clause-once : goal.whole_blocks-requires-clause-once
whole_blocks-requires-clause-once g c =
    subst IsStrictlyIncreasing (sym c.deref.ensures.value) (range_once (c.args.offset / c.args.self.now.block_size) c.in_ok-ids.ids.items c.in_ok-ids.ensures.ids)

pub returns-in_err-blocks-clause-refused : goal.returns-in_err-blocks-clause-refused
returns-in_err-blocks-clause-refused g c =
    let Lies : ℕ → Type 0 = LiesIn c.args.self.now c.args.offset (c.args.offset + c.args.len) in
    passed_on _ _ _ c.from_residual-in_err-blocks.ensures.1
    (⊎_elim (λ memory. inl memory)
    (λ unread. inr (unread_among _ _ _ _ _ (λ id. Contains c.deref.result.now id) Lies _
    (λ id held. All-contains Lies c.in_ok-ids.ids.items id c.in_ok-ids.ensures.lie (subst (λ (ids : List ℕ). Contains ids id) c.deref.ensures.value held)) unread))
    c.in_err-blocks.ensures.refused)

pub returns-in_err-blocks-clause-known : goal.returns-in_err-blocks-clause-known
returns-in_err-blocks-clause-known g c =
    let IsBelow : ℕ → Type 0 = λ id. id < c.args.self.now.size / c.args.self.now.block_size in
    passed_on _ _ _ c.from_residual-in_err-blocks.ensures.1
    (λ stored array held has tell. c.in_err-blocks.ensures.known stored array held has tell
    (subst (All IsBelow) (sym c.deref.ensures.value)
    (λ k d low. lies_below c.args.self.now c.args.offset (c.args.offset + c.args.len) (get_or c.in_ok-ids.ids.items k d) c.requires.within (c.in_ok-ids.ensures.lie k d low))))

pub returns-clause-value : goal.returns-clause-value
returns-clause-value g c = λ stored array held has tell.
    let IsBelow : ℕ → Type 0 = λ id. id < c.args.self.now.size / c.args.self.now.block_size in
    let Has : ℕ → Vec ℕ Global → Type 0 = λ id bytes. bytes.items ≡ part array c.args.self.now.block_size id in
    let first : ℕ = c.args.offset / c.args.self.now.block_size in
    let ids_are : c.deref.result.now ≡ range_with_len first (length c.deref-2.result.now) =
    c.deref.ensures.value ∙ c.in_ok-ids.ensures.ids
    ∙ ap (range_with_len first) (sym (ap length c.deref-2.ensures.value ∙ c.in_ok-blocks.ensures.count ∙ ap length c.deref.ensures.value)) in
    c.in_ok-joined.ensures.value array has.data_is.size_is
    (subst (λ (blocks : List (Vec ℕ Global)). AllZip Has (range_with_len first (length c.deref-2.result.now)) blocks) (sym c.deref-2.ensures.value)
    (subst (λ (ids : List ℕ). AllZip Has ids c.in_ok-blocks.blocks.items) ids_are
    (c.in_ok-blocks.ensures.value stored array held has tell
    (subst (All IsBelow) (sym c.deref.ensures.value)
    (λ k d low. lies_below c.args.self.now c.args.offset (c.args.offset + c.args.len) (get_or c.in_ok-ids.ids.items k d) c.requires.within (c.in_ok-ids.ensures.lie k d low))))))

pub returns-in_err-blocks-clause-caused : goal.returns-in_err-blocks-clause-caused
returns-in_err-blocks-clause-caused g c = passed_on _ _ _ c.from_residual-in_err-blocks.ensures.1 c.in_err-blocks.ensures.caused
