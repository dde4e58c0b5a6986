-- Space maps that are refused for lack of disks: a block is lost.
use Rattle.std.proofs.Common.{ℕ, ◌≡◌, inl, inr, List, []}
use Rattle.block_pointer.specs.declared.block.Block.{Block}
use Rattle.block_store.proofs.Losses.{lost_behind_reads}
use Rattle.block_store.specs.declared.refusal.Refusal.{Refusal}
use Rattle.block_store.specs.declared.refusal.Refusal.TheVariants.{DiskFault}
use Rattle.block_store.specs.Losses.{IsBlockLost}
use Rattle.block_store.specs.Store.{Store}
use Rattle.dnode.specs.declared.object_set.ObjectSet.{ObjectSet}
use Rattle.meta_objset.specs.declared.space_maps.MetaslabPlace.{MetaslabPlace}
use Rattle.object_table.proofs.Losses.{end_lost}
use Rattle.pool_maps.specs.Refused.{IsMapRefused, IsRowRefused, IsSomeRefused}

row_lost : (old new : Store) (set : ObjectSet) (birth : ℕ) (plan : _) (place : MetaslabPlace) (refusal : Refusal) → IsRowRefused old new set birth plan place refusal → refusal ≡ DiskFault
    → IsBlockLost old new []
row_lost old new set birth plan place refusal one is = elim one.why [
  | inl end ↦ end_lost old new [] set birth _ one.row.object refusal end is
  | inr (bad, taken) ↦ absurd (cc)
]

map_lost : (old new : Store) (set : ObjectSet) (birth : ℕ) (gone : List Block) (plan : _) (place : MetaslabPlace) (refusal : Refusal) → IsMapRefused old new set birth gone plan place refusal
    → refusal ≡ DiskFault → IsBlockLost old new []
map_lost old new set birth gone plan place refusal (inl (bad, not)) is = absurd (cc)
map_lost old new set birth gone plan place refusal (inr (inl row)) is = row_lost old new set birth plan place refusal row is
map_lost old new set birth gone plan place refusal (inr (inr (lacks, inl (space, full)))) is = absurd (cc)
map_lost old new set birth gone plan place refusal (inr (inr (lacks, inr (bad, taken)))) is = absurd (cc)

pub some_map_lost : (old new : Store) (set : ObjectSet) (birth : ℕ) (gone : List Block) (plan : _) (refusal : Refusal) → IsSomeRefused old new set birth gone plan refusal
    → refusal ≡ DiskFault → IsBlockLost old new []
some_map_lost old new set birth gone plan refusal some is =
    lost_behind_reads old some.mid new [] some.before (map_lost some.mid new set birth gone some.later some.place refusal some.why is)
