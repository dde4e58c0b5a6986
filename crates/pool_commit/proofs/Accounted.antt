-- No room is lost, and none is used twice.
use Rattle.std.proofs.Common.{ℕ, suc, ◌≡◌, ◌⊎◌, inl, inr, ◌≤◌, ◌<◌, List, Contains, refl, sym, ap, subst, ◌∙◌, arith}
use Rattle.std.specs.List.{slice_get}
use Rattle.raidz_io.proofs.Written.{same_some}
use Rattle.metaslab.specs.Space.{state, sectors_of}
use Rattle.metaslab.specs.State.{State as SectorState, Free, InUse, Released, settled}
use Rattle.block_pointer.specs.declared.block.Block.{Block}
use Rattle.block_pointer.specs.declared.dva.Dva.{Dva}
use Rattle.block_store.specs.Accounts.{SectorAt, IsUsed, HasSector}
use Rattle.block_store.specs.Places.{filled, EachSector}
use Rattle.block_store.specs.Spaces.{VdevSpace}
use Rattle.block_store.specs.Uses.{LiesOn, Passes, IsInUse, IsSpared}
use Rattle.block_store.proofs.Accounting.{OnPlace, has_on_place}
use Rattle.block_store.proofs.Planning.{stored_by}
use Rattle.pool_commit.specs.Accounted.{IsWithheld, WasReleasedLate, NoRoomIsLost}
use Rattle.pool_commit.specs.Backs.{kept_pool}
use Rattle.pool_commit.specs.Space.{is_held_for}
use Rattle.pool_commit.proofs.Accounting.{waits}
use Rattle.pool_commit.proofs.Holding.{weaker, near, held_is_spared}

withheld_by : (spaces : List VdevSpace) (group sectors : ℕ) (place : Dva) (at : SectorAt) → LiesOn (IsSpared group) spaces filled sectors place
    → OnPlace spaces place at → IsWithheld spaces group at
withheld_by spaces group sectors place at lies on =
    let same : lies.space ≡ on.space = same_some lies.space on.space (sym lies.found ∙ ap (λ n. slice_get spaces n) on.vdev_is ∙ on.found) in
    let P : VdevSpace → Type 0 = λ x. EachSector (IsSpared group) (filled x) x.shape place in
    let each : P on.space = subst P same lies.each in
    record {
      space = on.space;
      found = on.found;
      metaslab = each.metaslab;
      there = ap (λ n. slice_get (filled on.space) n) (sym on.metaslab_is) ∙ each.found;
      not_free = each.each at.sector on.names_it on.space.pins;
    }

used_at : (is : SectorState → Type 0) (spaces : List VdevSpace) (group : ℕ) (at : SectorAt) → (kept : IsWithheld spaces group at) → at.sector < sectors_of kept.metaslab
    → is (state kept.metaslab at.sector) → IsUsed is spaces filled at
used_at is spaces group at kept within used =
    record { space = kept.space; found = kept.found; metaslab = kept.metaslab; there = kept.there; within = within; used = used }

pub no_room_is_lost : NoRoomIsLost
no_room_is_lost s v backs =
    let last : ℕ = s.kept.committed in
    let reached = backs.blocks.reached in
    record {
      stored = backs.blocks.stored;
      stores = stored_by s.store backs.blocks.stored backs.blocks.planned backs.blocks.plans;
      reach = reached.reach;
      leads = reached.leads;
      once = reached.once;
      not_twice = λ group block at held has.
          let close = near backs.blocks.stored s.kept (kept_pool v group) group (reached.reach group) block (reached.leads group) held in
          let spared = weaker (Passes (is_held_for group last)) (IsSpared (suc last)) s.store.spaces filled block
          (held_is_spared group last (suc last) close.1 (omega arith)) (reached.held group block held) in
          subst (λ c. IsWithheld s.store.spaces (suc c) at) backs.committed
          (withheld_by s.store.spaces (suc last) block.property.sectors has.place at (spared has.i has.place has.is_copy) (has_on_place s.store.spaces block at has));
      not_lost = λ at kept within. by_state at kept within (state kept.metaslab at.sector) refl;
    }
  where
    by_state : (at : SectorAt) → (kept : IsWithheld s.store.spaces (suc v.committed) at) → at.sector < sectors_of kept.metaslab
        → (used : SectorState) → state kept.metaslab at.sector ≡ used
        → ((block : Block) × Contains (backs.blocks.reached.reach v.committed) block × HasSector s.store.spaces block at)
        ⊎ WasReleasedLate kept.space.pins v.committed (state kept.metaslab at.sector)
    by_state at kept within Free is = absurd (kept.not_free (ap (settled kept.space.pins (suc v.committed)) is))
    by_state at kept within InUse is =
        inl (subst (λ c. (block : Block) × Contains (backs.blocks.reached.reach c) block × HasSector s.store.spaces block at) backs.committed
        (backs.blocks.reached.accounted at (used_at IsInUse s.store.spaces (suc v.committed) at kept within is)))
    by_state at kept within (Released by) is = inr (record {
      group = by;
      is_released = is;
      past = subst (λ c. by ≤ c) backs.committed
          (backs.blocks.reached.released by at (used_at (λ used. used ≡ Released by) s.store.spaces (suc v.committed) at kept within is));
      late = waits kept.space.pins v.committed by (λ free. kept.not_free (ap (settled kept.space.pins (suc v.committed)) is ∙ free));
    })
