use Rattle.std.proofs.lemmas.Result.{IfOk-weaker}
use Rattle.dnode_tree.proofs.Refusing.{ok_both}
use Rattle.dataset_snapshots.proofs.Rows.{names_same}
use Rattle.dataset_snapshots.proofs.writing.changed_blocks.Goals as goal

pub returns-clause-value : goal.returns-clause-value
returns-clause-value g c =
    IfOk-weaker c.changed_blocks.result _ _ (λ blocks laid stored plain held named is_volume spells tell.
    laid stored plain held (names_same c.args.row.now.name plain.name c.in_ok-name.name named c.in_ok-name.ensures) is_volume spells tell)
    c.changed_blocks.ensures.value

pub returns-clause-found : goal.returns-clause-found
returns-clause-found g c =
    IfOk-weaker c.changed_blocks.result _ _
    (λ blocks both. record {
      are = both.0;
      name = c.in_ok-name.name;
      named = c.in_ok-name.ensures;
      which = both.1.0;
      judged = both.1.1.0;
      read = both.1.1.1;
    })
    (ok_both c.changed_blocks.result _ _ c.changed_blocks.ensures.blocks
    (ok_both c.changed_blocks.result _ _ c.changed_blocks.ensures.changed (ok_both c.changed_blocks.result _ _ c.changed_blocks.ensures.judged c.changed_blocks.ensures.found)))
