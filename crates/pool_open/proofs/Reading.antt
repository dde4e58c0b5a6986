-- A root that was read through a store, by the disks alone.
use Rattle.std.proofs.Common.{◌≡◌, ◌≢◌, ◌⊎◌, inl, inr, ℕ, ◌≤◌, Bool, Option, List, [], length, refl, sym, ap, subst, ◌∙◌}
use Rattle.std.proofs.lemmas.List.{append-nil}
use Rattle.model_disk.specs.Joint.{Disks}
use Rattle.raidz_io.specs.Reads.{OnlyReads, AreUntouched, IsHonestSince}
use Rattle.block_pointer.specs.declared.block.Block.{Block}
use Rattle.block_store.specs.Blocks.{Contents}
use Rattle.block_store.specs.Opened.{MayBeOpened}
use Rattle.block_store.specs.Places.{shapes_of}
use Rattle.block_store.specs.Spaces.{VdevSpace}
use Rattle.block_store.specs.Steps.{OnlyReadsBlocks, AnswersTell}
use Rattle.disk_set.specs.declared.stale.GroupSpan.{GroupSpan}
use Rattle.block_store.specs.Store.{Store, Holds, outs, outs_from}
use Rattle.block_store.specs.declared.refusal.Refusal.{Refusal as StoreRefusal}
use Rattle.block_store.specs.declared.refusal.Refusal.TheVariants as store
use Rattle.block_store.specs.declared.shape.VdevShape.{VdevShape}
use Rattle.pool_core.specs.Contents.{AreContentsOf, AreContentsRefused}
use Rattle.pool_core.specs.Mapped.{HasItsMaps}
use Rattle.pool_core.specs.Pools.{SpellsPool}
use Rattle.pool_core.specs.Reach.{meta_blocks_of, volume_blocks_of}
use Rattle.pool_core.specs.RootContents.{RootContents}
use Rattle.dnode_tree.specs.Rewriting.{AreDistinct}
use Rattle.pool_core.proofs.MapsReadSets.{read_stay}
use Rattle.pool_model.specs.Pools.{PlainPool}
use Rattle.space_map_objects.specs.Maps.{IsForLossOf}
use Rattle.space_map_objects.specs.Refused.{of_read}
use Rattle.space_map_objects.specs.declared.refusal.Refusal.{Refusal}
use Rattle.pool_open.specs.Held.{IsStoreOver, TellOver}
use Rattle.pool_open.specs.Roots.{AreContentsOver, AreReadBeside, IsRootNotRead}
use Rattle.pool_open.proofs.Once.{pairs_front}

pub read_beside : (one other : Store) (old new : Disks) (out : List Bool) → one.disks ≡ old → one.out ≡ out → new ≡ other.disks → OnlyReadsBlocks one other [] → AreReadBeside out old new
read_beside one other old new out disks marked back reads =
    let P : Disks → Disks → List ℕ → Type 0 = λ a b away. OnlyReads a b × AreUntouched away a b in
    let base : P one.disks other.disks (outs_from 0 one.out) = (reads.reads, subst (λ (away : List ℕ). AreUntouched away one.disks other.disks) (append-nil (outs one)) reads.untouched) in
    let moved = subst (λ (a : Disks). P a new (outs_from 0 out)) disks
    (subst (λ (b : Disks). P one.disks b (outs_from 0 out)) (sym back) (subst (λ (flags : List Bool). P one.disks other.disks (outs_from 0 flags)) marked base)) in
    record { only = moved.0; untouched = moved.1 }

honest_between : (one other : Store) (old new : Disks) → one.disks ≡ old → new ≡ other.disks → IsHonestSince old new → IsHonestSince one.disks other.disks
honest_between one other old new disks back honest =
    subst (λ (a : Disks). IsHonestSince a other.disks) (sym disks) (subst (λ (b : Disks). IsHonestSince old b) back honest)

-- what was read tells the blocks to a store over the disks
pub tell_through : (store later : Store) (old new : Disks) (shapes : List VdevShape) (out : List Bool) (stale : List (Option GroupSpan)) → IsStoreOver old shapes out stale store
    → new ≡ later.disks → TellOver old new shapes out stale → AnswersTell store later []
tell_through store later old new shapes out stale over back tell = elim tell [
  | inl honest ↦ inl (honest_between store later old new over.disks_are back honest)
  | inr few ↦ inr (few store later over (sym back))
]

-- ---- refusals

pub none_read : (out : List Bool) (disks : Disks) → AreReadBeside out disks disks
none_read out disks = record { only = record { starts = refl; newer = []; calls = refl; are_reads = tt }; untouched = λ disk among. refl }

pub refused_at_once : (old : Disks) (shapes : List VdevShape) (out : List Bool) (stale : List (Option GroupSpan)) (group : ℕ) (root : Block) (most : ℕ) (cause : StoreRefusal)
    → (cause ≡ store.NoMemory) ⊎ ((cause ≡ store.BadConfig) × ¬ MayBeOpened old.starts shapes out) → IsRootNotRead old old shapes out stale group root most (of_read cause)
refused_at_once old shapes out stale group root most cause why = record {
  only = none_read out old;
  why = elim why [ inl memory ↦ inl (ap of_read memory) | inr bad ↦ inr (inl (ap of_read bad.0, bad.1)) ];
}

-- why a store was refused a whole root
abbrev pub IsForLossAt : Store → Store → ℕ → Block → ℕ → Refusal → Type 0
IsForLossAt store later group root most refusal =
    (stored : Contents) (pool : PlainPool) → Holds store stored → (is : SpellsPool stored group root pool) → HasItsMaps store.spaces is
    → AreDistinct (meta_blocks_of is) → length (meta_blocks_of is) ≤ most → AnswersTell store later [] → IsForLossOf refusal

pub refused_through : (store later : Store) (old : Disks) (shapes : List VdevShape) (out : List Bool) (stale : List (Option GroupSpan)) (group : ℕ) (root : Block) (most : ℕ) (refusal : Refusal)
    → IsStoreOver old shapes out stale store → OnlyReadsBlocks store later [] → (after : ℕ) → AreContentsRefused store later [] group root most after refusal
    → IsForLossAt store later group root most refusal → IsRootNotRead old later.disks shapes out stale group root most refusal
refused_through store later old shapes out stale group root most refusal over reads after cause known = record {
  only = read_beside store later old later.disks out over.disks_are over.out_is refl reads;
  why = inr (inr (record {
    store = store;
    over = over;
    later = later;
    now = refl;
    after = after;
    cause = cause;
    whole = λ stored pool hold small tell.
        let has : HasItsMaps store.spaces small.is = small.mapped store.spaces over.shapes_are in
        known stored pool (hold store over) small.is has (pairs_front (λ block behind. block ≢ behind) (meta_blocks_of small.is) (volume_blocks_of small.is) has.once) small.few
        (tell_through store later old later.disks shapes out stale over refl tell);
  }));
}

-- ---- what was read

-- it is so on all vdevs of the store's shapes
pub contents_over : (shapes : List VdevShape) (store : List VdevSpace) (stored : Contents) (group : ℕ) (root : Block) (pool : PlainPool) (contents : RootContents)
    → shapes_of store ≡ shapes → AreContentsOf stored store group root pool contents → AreContentsOver shapes stored group root pool contents
contents_over shapes store stored group root pool contents same are spaces alike = record {
  is = are.is;
  rows = are.rows;
  names = are.names;
  blocks = are.blocks;
  maps = read_stay are.is.objects store spaces contents.maps.items (alike ∙ sym same) are.maps;
  spans = are.spans;
}
