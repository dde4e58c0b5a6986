use Rattle.std.proofs.Common.{◌≡◌, ap, inl, inr, ◌∙◌}
use Rattle.block_store.specs.Store.{is_out, is_stale}
use Rattle.pool_commit.specs.Causes.{cause_of}
use Rattle.pool_commit.specs.Config.{vdevs_of}
use Rattle.pool_core.proofs.pool.Core.opened.Goals as goal

pub returns-in-Ok-opened-clause-represents : goal.returns-in-Ok-opened-clause-represents
returns-in-Ok-opened-clause-represents g c stored pool holds are mapped made configured stamped = record {
  follows = c.opened-in-Ok-opened.ensures (vdevs_of c.args.store.spaces) (is_out c.args.store.out) (is_stale c.args.store.spans.stale) pool ((c.in-Ok.ensures pool).0 are.names) made;
  backs = c.in-Ok-opened.ensures.backs stored pool holds are mapped configured stamped;
}

pub returns-in-Err-clause-refused : goal.returns-in-Err-clause-refused
returns-in-Err-clause-refused g c = elim c.in-Err.ensures.refused [
  | inl memory ↦ inl (c.from.ensures ∙ ap cause_of memory)
  | inr (bad, misplaced) ↦ inr (c.from.ensures ∙ ap cause_of bad, misplaced)
]
