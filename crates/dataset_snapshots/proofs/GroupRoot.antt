-- The root of a group, from what was planned for it.
use Rattle.std.proofs.Common.{◌≡◌, ◌≢◌, ℕ, List, [], ◌∷◌, length, Option, Some, None, All, sym, subst}
use Rattle.block_pointer.specs.declared.block.Block.{Block}
use Rattle.block_pointer.specs.Copies.{dvas}
use Rattle.block_store.specs.Blocks.{Contents, Extends}
use Rattle.dataset_groups.specs.ChainStanding.{HasChains}
use Rattle.dataset_groups.specs.Names.{reach_by}
use Rattle.dnode.specs.declared.object_set.ObjectSetKind.TheVariants as sets
use Rattle.meta_objset.specs.declared.stale_spans.StaleSpan.{StaleSpan}
use Rattle.meta_objset.specs.Reading.{HasStaleSpans}
use Rattle.objset.specs.declared.changes.ObjectChange.{ObjectChange}
use Rattle.objset.specs.Changes.{changed}
use Rattle.objset.specs.Objects.{Object}
use Rattle.objset.specs.Within.{blocks_of_set}
use Rattle.pool_model.specs.Pools.{PlainPool}
use Rattle.dataset_snapshots.specs.Creating.{KeepsTables, LeavesSpans, stale_after}
use Rattle.dataset_snapshots.specs.Groups.{IsSetOf, SpellsAfter}
use Rattle.dataset_snapshots.specs.Mapped.{AreCopied}
use Rattle.dataset_snapshots.specs.Pools.{SpellsPool}
use Rattle.dataset_snapshots.proofs.OtherObjects.{chains_more}

-- the object has the stale spans from then on
pub spans_from : (spans : Option (List StaleSpan)) (old new : Option Object) (stale : List StaleSpan) → HasStaleSpans old stale → LeavesSpans spans old new → HasStaleSpans new (stale_after spans stale)
spans_from None old new stale has same = subst (λ (o : Option Object). HasStaleSpans o stale) (sym same) has
spans_from (Some spans) old new stale has now = now

-- the set with these objects and its block
module _ (stored later : Contents) (group : ℕ) (root : Block) (objects : ℕ → Option Object) (changes : List ObjectChange) (brought : Option (List StaleSpan)) (pool : PlainPool) (after : SpellsAfter stored group objects changes brought pool)
    (more : Extends stored later) (set : IsSetOf later group root sets.Meta (changed changes objects)) (born : root.birth ≡ group)
    (stale : List StaleSpan) (spans : HasStaleSpans (objects 3) stale) where
  abbrev pub spells_root : SpellsPool later group root pool
  spells_root = record {
    set = set.set;
    is_set = set.is_set;
    kind = set.kind_is;
    objects = changed changes objects;
    own = set.own;
    blocks = set.blocks;
    are = set.are;
    rows = after.rows;
    directory = after.directory;
    stale = stale_after brought stale;
    spans = spans_from brought (objects 3) (changed changes objects 3) stale spans after.tables.stale;
    datasets = after.datasets;
    readings = after.readings;
    chains = subst (λ n. HasChains later n (changed changes objects) after.datasets after.readings) (sym born)
        (chains_more stored later group (changed changes objects) after.datasets after.readings more after.chains);
    names = after.names;
  }

  pub root_keeps : KeepsTables brought objects spells_root.objects
  root_keeps = after.tables

  pub root_copied : All (λ block. length (dvas block.copies) ≡ 3) (root ∷ blocks_of_set set.set set.own set.blocks)
      → All (λ block. length (dvas block.copies) ≢ 3) (reach_by after.datasets after.rows) → AreCopied spells_root
  root_copied meta others = record { meta = meta; others = others }
