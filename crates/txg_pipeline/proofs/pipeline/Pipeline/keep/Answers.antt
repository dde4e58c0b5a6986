use Rattle.std.proofs.Common.{◌≤◌, ◌+◌, Some, sym, ap, ◌∙◌, arith}
use Rattle.std.specs.Prelude.{cond, nat_eq}
use Rattle.std.specs.HashMap.{get}
use Rattle.pool_model.specs.Refusals.{greatest}
use Rattle.pool_model.proofs.SoundFlows.{sound_took, taken_hold}
use Rattle.txg_pipeline.proofs.Carrying.{on_ok, next_taken, kept_accepting, kept_waited, kept_synced}
use Rattle.txg_pipeline.proofs.pipeline.Pipeline.keep.Goals as goal

pub returns-clause-kept : goal.returns-clause-kept
returns-clause-kept c = λ e f k group a o.
    let takes = taken_hold f c.args.writer group f.holds k.sound.holds a.0 in
    let updates = on_ok c.insert.result (sym c.is_ok.ensures.value ∙ e) c.insert.ensures.updates in
    let le : f.next c.args.writer ≤ greatest = (let n = a.1 in let l = a.2 in omega arith) in
    record {
      sound = sound_took f c.args.writer group c.args.item a.0 le k.sound;
      committed = k.committed;
      syncing = k.syncing;
      waiting = k.waiting;
      holds = k.holds;
      next = next_taken (get nat_eq c.insert.new.self) (get nat_eq c.args.self.now.next) f.next c.args.writer c.args.number (λ q. updates.0 q ∙ ap (λ o. cond (nat_eq c.args.writer q) (Some (c.args.number + 1)) o) (c.try_reserve.ensures.entries.2 q)) k.next a.1;
      accepting = kept_accepting f group c.args.item _ _ _ _ c.if-not-add_to.false o c.add_to.ensures.accepting k.accepting;
      waited = λ some. kept_waited f group c.args.item _ _ _ _ takes some c.if-not-add_to.false o c.add_to.ensures.waited (k.waited some);
      synced = λ s. kept_synced f group c.args.item _ takes s (k.synced s);
    }
