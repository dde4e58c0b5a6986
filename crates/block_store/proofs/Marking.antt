-- Disks that missed groups, where nothing is stored.
use Rattle.std.proofs.Common.{◌≡◌, Option, Some, None, List}
use Rattle.disk_set.specs.declared.stale.GroupSpan.{GroupSpan}
use Rattle.block_store.specs.Blocks.{nothing_stored}
use Rattle.block_store.specs.Plans.{Plans}
use Rattle.block_store.specs.Store.{Store}

-- nothing is lost by it
pub nothing_marked : (old : Store) (stale : List (Option GroupSpan)) → Plans old nothing_stored nothing_stored
    → Plans (record old { spans = record old.spans { stale = stale } }) nothing_stored nothing_stored
nothing_marked old stale plans = record {
  held = record {
    blocks = λ block bytes none. absurd (cc);
    places = λ block bytes none. absurd (cc);
    stand = λ block bytes i extent none copy. absurd (cc);
  };
  stored_placed = plans.stored_placed;
  kept = plans.kept;
  placed = plans.placed;
  born = λ block bytes none fresh. absurd (cc);
  in_use = plans.in_use;
  accounted = plans.accounted;
  fresh = plans.fresh;
  beside = plans.beside;
  writes_of = plans.writes_of;
  on_the_way = λ block bytes i extent none fresh copy. absurd (cc);
  due = λ write held. let was = plans.due write held in absurd (let none : None ≡ Some was.bytes = was.is_planned in cc);
}
