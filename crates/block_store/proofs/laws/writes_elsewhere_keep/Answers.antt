use Rattle.std.proofs.Common.{ap, subst, sym, arith}
use Rattle.std.specs.Prelude.{◌≡◌, Contains}
use Rattle.block_store.specs.Store.{Spans, outs_from}
use Rattle.block_store.proofs.Kept.{IsKept, keeps, keeps_plans}
use Rattle.block_store.proofs.Lost.{lose_same}
use Rattle.block_store.proofs.Planning.{stores_same}
use Rattle.block_store.proofs.laws.writes_elsewhere_keep.Goals as goal

pub returns : goal.returns
returns c old new spaces due out spans stray contents =
    let kept : IsKept old new = record {
      spaces = spaces;
      due = due;
      stray = stray;
      contents = contents;
      more_out = λ disk held. subst (λ flags. Contains (outs_from 0 flags) disk) (sym out) held;
      more_lost = lose_same old new out spans;
      group = let same : new.spans.group ≡ old.spans.group = ap (λ (s : Spans). s.group) spans in omega (arith, same);
    } in (
      keeps c.stands_while_kept.ensures c.stands_with_more_absent.ensures old new kept,
      stores_same old new spaces (keeps c.stands_while_kept.ensures c.stands_with_more_absent.ensures old new kept),
      keeps_plans c.stands_while_kept.ensures c.stands_with_more_absent.ensures old new kept,
    )
