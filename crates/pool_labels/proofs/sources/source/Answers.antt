use Rattle.std.proofs.Common.{List, Option, IfSome, IfNone, subst}
use Rattle.pool_labels.specs.Ranks.{IsLatest, NoneAt}
use Rattle.pool_labels.specs.declared.sources.Rank.{Rank}
use Rattle.pool_labels.proofs.RankLemmas.{source_is}
use Rattle.pool_labels.proofs.sources.source.Goals as goal

pub returns : goal.returns
returns c =
    let P : List (Option Rank) → Type 0 = λ them. IfSome c.latest.result (IsLatest them) in
    let Q : List (Option Rank) → Type 0 = λ them. IfNone c.latest.result (NoneAt them) in
    source_is c.args.digest.now c.args.labels.now c.in_ok-ranks.ranks.items c.latest.result c.in_ok-ranks.ensures (subst P c.deref.ensures.value c.latest.ensures.some) (subst Q c.deref.ensures.value c.latest.ensures.none)
