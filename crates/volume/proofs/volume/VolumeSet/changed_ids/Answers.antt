use Rattle.std.proofs.Common.{◌≡◌, ◌+◌, ◌↔◌, ℕ, List, Vec, take, Contains, sym, ap, ◌∙◌, subst, arith}
use Rattle.std.specs.Prelude.{nat_eq, IsPermutation}
use Rattle.std.specs.List.{dedup}
use Rattle.std.proofs.lemmas.List.{with_items_is, take_all}
use Rattle.std.proofs.lemmas.List.Filters.{dedup_is}
use Rattle.std.proofs.lemmas.Map.Keys.{IsStrictlyIncreasing-dedup}
use Rattle.pool_model.specs.declared.item.Write.{Write}
use Rattle.std.specs.declared.alloc.Global.{Global}
use Rattle.volume_rules.proofs.InPieces.{position_within}
use Rattle.volume.specs.Writing.{IsChanged}
use Rattle.volume.proofs.Changed.{IsListedBefore, listed_more, listed_all, sorted_once}
use Rattle.volume.proofs.volume.VolumeSet.changed_ids.Goals as goal

pub bounds-writes-position : goal.bounds-writes-position
bounds-writes-position c =
    position_within (λ write. write.volume ≡ c.args.name.now) c.args.items.now.writes c.writes-writes.result.now c.places_of-places.result.now c.loop-position.position-index c.writes-writes.ensures
    (λ p. (c.places_of-places.ensures.exactly p).0) c.loop-position-test.true

pub offset_bounds-writes-position : goal.offset_bounds-writes-position
offset_bounds-writes-position c =
    let within = position_within (λ write. write.volume ≡ c.args.name.now) c.args.items.now.writes c.writes-writes.result.now c.places_of-places.result.now c.loop-position.position-index c.writes-writes.ensures
    (λ p. (c.places_of-places.ensures.exactly p).0) c.loop-position-test.true in
    omega arith

pub loop-position-preserved : goal.loop-position-preserved
loop-position-preserved c =
    listed_more c.args.self.now c.writes-writes.result.now c.places_of-places.result.now c.loop-position.position-index c.index-writes-position.result c.loop-position.ids.items
    c.add_reached.new.ids.items c.loop-position-test.true
    (position_within (λ write. write.volume ≡ c.args.name.now) c.args.items.now.writes c.writes-writes.result.now c.places_of-places.result.now c.loop-position.position-index c.writes-writes.ensures
    (λ p. (c.places_of-places.ensures.exactly p).0) c.loop-position-test.true)
    (sym c.index-writes-position.is) c.in_ok-add_reached.ensures c.loop-position.invariant

pub returns-clause-ids : goal.returns-clause-ids
returns-clause-ids c =
    let is : c.dedup.new.self.items ≡ dedup nat_eq c.sort_unstable.new.self =
    dedup_is nat_eq _ _ c.dedup.ensures.filtered ∙ ap (dedup nat_eq) (with_items_is c.loop-position.ids c.sort_unstable.new.self (c.sort_unstable.ensures.len ∙ c.as_mut_slice.ensures.len)) in
    sorted_once c.loop-position.ids.items c.sort_unstable.new.self c.dedup.new.self.items (λ id. IsChanged c.args.self.now c.args.name.now c.args.items.now.writes id)
    (subst (λ (xs : List ℕ). IsPermutation xs c.sort_unstable.new.self) c.as_mut_slice.ensures.value c.sort_unstable.ensures.permutation) is
    (λ id.
    let all = listed_all c.args.self.now c.args.name.now c.args.items.now.writes c.places_of-places.result.now c.loop-position.position-index c.loop-position-test.false c.places_of-places.ensures id in
    let held = subst (λ (writes : List Write). Contains c.loop-position.ids.items id ↔ IsListedBefore c.args.self.now writes c.places_of-places.result.now c.loop-position.position-index id) c.writes-writes.ensures (c.loop-position.invariant id) in
    (λ there. all.0 (held.0 there), λ changed. held.1 (all.1 changed)))

pub returns-clause-once : goal.returns-clause-once
returns-clause-once c =
    let is : c.dedup.new.self.items ≡ dedup nat_eq c.sort_unstable.new.self =
    dedup_is nat_eq _ _ c.dedup.ensures.filtered ∙ ap (dedup nat_eq) (with_items_is c.loop-position.ids c.sort_unstable.new.self (c.sort_unstable.ensures.len ∙ c.as_mut_slice.ensures.len)) in
    rw is (IsStrictlyIncreasing-dedup c.sort_unstable.new.self c.sort_unstable.ensures.sorted)
