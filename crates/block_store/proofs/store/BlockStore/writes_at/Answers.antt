use Rattle.std.proofs.Common.{ℕ, ◌≡◌, ◌+◌, ◌*◌, [], ◌∷◌, ◌++◌, Vec, Global, length, take, sym, ap, subst, ◌∙◌}
use Rattle.std.proofs.lemmas.List.{take_all, take_more}
use Rattle.raidz_io.specs.Stands.{WouldStore}
use Rattle.block_store.specs.Plans.{AreWritesAt}
use Rattle.block_store.proofs.CopyWrites.{no_writes, writes_more, item_in}
use Rattle.block_store.proofs.store.BlockStore.writes_at.Goals as goal

pub loop-place-init : goal.loop-place-init
loop-place-init g c =
    subst (λ writes. AreWritesAt c.args.self.now c.args.sectors c.args.bytes.now [] writes) (sym c.new-writes.ensures.items)
    (no_writes c.args.self.now c.args.sectors c.args.bytes.now)

pub extent_at-extent-requires-clause-place : goal.extent_at-extent-requires-clause-place
extent_at-extent-requires-clause-place g c = (c.requires.places _ (item_in c.args.places.now c.loop-place.place-index _ c.loop-place-test.true)).is_in

pub column_writes-requires-clause-size : goal.column_writes-requires-clause-size
column_writes-requires-clause-size g c =
    ap (λ (v : Vec ℕ Global). length v.items) c.in_ok-block.ensures.ok ∙ ap (length {A = ℕ}) c.in_ok-from_slice.ensures.items ∙ c.requires.size
    ∙ ap (λ n. n * 512) (sym c.extent_at-extent.ensures.extent.sectors_are)

pub loop-place-preserved : goal.loop-place-preserved
loop-place-preserved g c =
    let more : take (c.loop-place.place-index + 1) c.args.places.now ≡ take c.loop-place.place-index c.args.places.now ++ _ ∷ [] =
    take_more c.args.places.now c.loop-place.place-index _ c.loop-place-test.true in
    let same : c.in_ok-block.block.value.items ≡ c.args.bytes.now =
    ap (λ (v : Vec ℕ Global). v.items) c.in_ok-block.ensures.ok ∙ c.in_ok-from_slice.ensures.items in
    let stored = subst (λ block. WouldStore c.in_ok-copy.copy.items c.extent_at-extent.result block) same c.in_ok-copy.ensures.stored in
    subst (λ places. AreWritesAt c.args.self.now c.args.sectors c.args.bytes.now places c.add_in_use.new.writes.items) (sym more)
    (writes_more c.args.self.now c.args.sectors c.args.bytes.now (take c.loop-place.place-index c.args.places.now) c.loop-place.writes.items _ c.extent_at-extent.result c.in_ok-copy.copy.items
    c.add_in_use.new.writes.items c.loop-place.invariant c.extent_at-extent.ensures.extent stored c.in_ok-copy.ensures.columns c.in_ok-add_in_use.ensures)

pub returns : goal.returns
returns g c =
    let all : take c.loop-place.place-index c.args.places.now ≡ c.args.places.now = take_all c.loop-place.place-index c.args.places.now c.loop-place-test.false in
    subst (λ places. AreWritesAt c.args.self.now c.args.sectors c.args.bytes.now places c.loop-place.writes.items) all c.loop-place.invariant
