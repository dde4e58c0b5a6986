-- States that came from each other, and what disks answered in the parts between them.
use Rattle.std.proofs.Common.{[], refl, ◌∙◌}
use Rattle.model_disk.specs.Joint.{Disks}
use Rattle.block_store.specs.Steps.{StaysLost}
use Rattle.block_store.specs.Store.{Store}
use Rattle.block_store.proofs.Telling.{tell_between}
use Rattle.pool_commit.proofs.Growing.{GrewTo-on}
use Rattle.pool_commit.proofs.Made.{GrewTo-none}
use Rattle.pool_core.specs.State.{CoreState, disks_of}
use Rattle.pool_core.specs.Steps.{AnswersTellThroughout, CameFrom}

-- a state came from itself
pub came_none : (s : CoreState) → CameFrom s s
came_none s = record {
  grew = GrewTo-none (disks_of s);
  lost = record { shapes = refl; out = λ disk held. held; stale = λ birth disk held. held };
}

-- what came from a state that came from another came from that one
pub came_on : (old mid new : CoreState) → CameFrom old mid → CameFrom mid new → CameFrom old new
came_on old mid new first rest = record {
  grew = GrewTo-on (disks_of old) (disks_of mid) (disks_of new) first.grew rest.grew;
  lost = record {
    shapes = rest.lost.shapes ∙ first.lost.shapes;
    out = λ disk held. rest.lost.out disk (first.lost.out disk held);
    stale = λ birth disk held. rest.lost.stale birth disk (first.lost.stale birth disk held);
  };
}

lost_at : (old new : Store) (disks : Disks) → StaysLost old new → StaysLost (record old { disks = disks }) (record new { disks = disks })
lost_at old new disks lost = record { shapes = lost.shapes; out = lost.out; stale = lost.stale }

-- where answers tell throughout, they do so up to a state on the way
pub tell_first : (old mid new : CoreState) → CameFrom mid new → AnswersTellThroughout old new → AnswersTellThroughout old mid
tell_first old mid new rest tell from to part =
    tell_between (record new.commit.store { disks = from }) (record new.commit.store { disks = to }) (record mid.commit.store { disks = from })
    (record mid.commit.store { disks = to }) [] refl refl (lost_at mid.commit.store new.commit.store from rest.lost)
    (tell from to (record { before = part.before; reads = part.reads; after = GrewTo-on to (disks_of mid) (disks_of new) part.after rest.grew }))

-- and from there on
pub tell_rest : (old mid new : CoreState) → CameFrom old mid → AnswersTellThroughout old new → AnswersTellThroughout mid new
tell_rest old mid new first tell from to part =
    tell from to (record { before = GrewTo-on (disks_of old) (disks_of mid) from first.grew part.before; reads = part.reads; after = part.after })
