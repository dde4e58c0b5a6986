use Rattle.volume_rules.proofs.NowMoves.{now_wrote, now_acted, now_held, now_released, now_closed, now_quiesced, now_taken, now_synced, now_dropped, now_committed}
use Rattle.volume_rules.proofs.laws.changes_move_now.Goals as goal

pub returns : goal.returns
returns c = record {
  wrote = now_wrote;
  acted = now_acted;
  held = now_held;
  released = now_released;
  closed = now_closed;
  quiesced = now_quiesced;
  taken = now_taken;
  synced = now_synced;
  dropped = now_dropped;
  committed = now_committed;
}
