-- Disks over which a store may be opened.
use Rattle.std.proofs.Common.{ℕ, zero, suc, ◌≡◌, ◌≤◌, inl, inr, ◌^◌, Bool, Some, List, [], ◌∷◌, length, replicate, refl, sym, ap, subst, ◌∙◌}
use Rattle.std.specs.List.{slice_get}
use Rattle.model_disk.specs.Joint.{Disks}
use Rattle.block_pointer.specs.declared.block.Block.{Block}
use Rattle.block_store.specs.Blocks.{AreDistinct, Contents}
use Rattle.block_store.specs.Opened.{MayBeOpened}
use Rattle.block_store.specs.Places.{shapes_of}
use Rattle.block_store.specs.Spaces.{VdevSpace}
use Rattle.block_store.specs.Steps.{AnswersTell, OnlyReadsBlocks}
use Rattle.block_store.specs.Store.{Store, Holds, IsStore}
use Rattle.block_store.specs.declared.shape.VdevShape.{VdevShape}
use Rattle.block_store.proofs.Reopening.{is_opened}
use Rattle.dataset_snapshots.specs.Pools.{SpellsPool}
use Rattle.dataset_snapshots.specs.Reach.{reach_of}
use Rattle.pool_model.specs.Pools.{PlainPool}
use Rattle.pool_open.specs.Held.{IsStoreOver}
use Rattle.raidz_io.specs.Places.{HasRoom}
use Rattle.raidz_io.specs.Reads.{IsHonestSince, OnlyReads}
use Rattle.scrub_resilver.specs.Copies.{HaveRoom}
use Rattle.pool_scrub.specs.Walking.{IsWalkedOver}
use Rattle.pool_scrub.specs.declared.walking.PoolLayout.{PoolLayout}

same_some : {X : Type 0} (x y : X) → Some x ≡ Some y → x ≡ y
same_some x y same = cc

found : (spaces : List VdevSpace) (v : ℕ) (shape : VdevShape) → slice_get (shapes_of spaces) v ≡ Some shape
    → (space : VdevSpace) × (slice_get spaces v ≡ Some space) × (space.shape ≡ shape)
found [] v shape at = absurd (cc)
found (space ∷ spaces) zero shape at = (space, refl, same_some space.shape shape at)
found (space ∷ spaces) (suc v) shape at = found spaces v shape at

-- each vdev of the store has its disks and their room
pub store_room : (store : Store) (shapes : List VdevShape) → shapes_of store.spaces ≡ shapes → MayBeOpened store.disks.starts shapes store.out
    → length store.disks.starts ≤ 2 ^ 64 → HaveRoom shapes store.disks.starts
store_room store shapes are may count v shape at =
    let (space, there, is) = found store.spaces v shape (ap (λ (ss : List VdevShape). slice_get ss v) are ∙ at) in
    let laid : IsStore store = is_opened store shapes are may.lie may.few count in
    subst (λ (s : VdevShape). HasRoom s.vdev s.child_sectors store.disks.starts) is (laid.laid_out.room v space there)

-- so have the vdevs of a store that was opened over disks, on the disks as they are later
pub opened_room : (disks : Disks) (store : Store) (shapes : List VdevShape) (out : List Bool) (starts : List (List ℕ)) → store.disks ≡ disks
    → shapes_of store.spaces ≡ shapes → store.out ≡ out → starts ≡ store.disks.starts → MayBeOpened disks.starts shapes out
    → length disks.starts ≤ 2 ^ 64 → HaveRoom shapes starts
opened_room disks store shapes out starts same are out_is later may count =
    subst (HaveRoom shapes) (sym later)
    (store_room store shapes are
    (subst (λ (o : List Bool). MayBeOpened store.disks.starts shapes o) (sym out_is)
    (subst (λ (d : Disks). MayBeOpened d.starts shapes out) (sym same) may))
    (subst (λ (d : Disks). length d.starts ≤ 2 ^ 64) (sym same) count))

-- a store that is opened, and told which groups its disks missed
pub over_marked : (disks : Disks) (layout : PoolLayout) (store marked : Store) → store.disks ≡ disks → shapes_of store.spaces ≡ layout.shapes.items
    → store.out ≡ layout.out.items → store.spans.since ≡ replicate (length disks.starts) 0
    → marked ≡ record store { spans = record store.spans { stale = layout.stale.items } }
    → IsStoreOver disks layout.shapes.items layout.out.items layout.stale.items marked
over_marked disks layout store marked same are out since is = record {
  disks_are = ap (λ (s : Store). s.disks) is ∙ same;
  shapes_are = ap (λ (s : Store). shapes_of s.spaces) is ∙ are;
  out_is = ap (λ (s : Store). s.out) is ∙ out;
  since = ap (λ (s : Store). s.spans.since) is ∙ since;
  stale_is = ap (λ (s : Store). s.spans.stale) is;
}

pub walked_over : (old new : Disks) (layout : PoolLayout) (root : Block) (group : ℕ) (blocks : List Block) (store last : Store)
    → MayBeOpened old.starts layout.shapes.items layout.out.items → IsStoreOver old layout.shapes.items layout.out.items layout.stale.items store
    → OnlyReadsBlocks store last [] → new ≡ last.disks → AreDistinct blocks
    → ((stored : Contents) (pool : PlainPool) → Holds store stored → (is : SpellsPool stored group root pool) → AnswersTell store last [] → blocks ≡ reach_of is)
    → IsWalkedOver old layout root group blocks new
walked_over old new layout root group blocks store last may over reads same once reach = record {
  may = may;
  reads = subst (λ (d : Disks). OnlyReads old d) (sym same) (subst (λ (d : Disks). OnlyReads d last.disks) over.disks_are reads.reads);
  once = once;
  reach = λ stored pool hold is tell.
      reach stored pool (hold store over) is (elim tell [
        | inl honest ↦ inl (subst (λ (d : Disks). IsHonestSince d last.disks) (sym over.disks_are) (subst (λ (d : Disks). IsHonestSince old d) same honest))
        | inr few ↦ inr (few store last over (sym same))
      ]);
}
