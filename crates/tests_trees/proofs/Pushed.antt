-- Writes of dnodes, of which one more is pushed.
use Rattle.std.proofs.Common.{ℕ, ◌<◌, ◌≤◌, ◌+◌, List, [], ◌∷◌, ◌++◌, All, arith}
use Rattle.std.proofs.lemmas.List.Elements.{All-push}
use Rattle.std.proofs.lemmas.List.Quantifiers.{all_pairs_push}
use Rattle.objset.specs.declared.node_writes.NodeWrite.{NodeWrite}
use Rattle.objset.specs.NodeWrites.{AreNodeWrites, FitsWrite}

-- what is pushed has a number behind all others
pub pushed : (writes : List NodeWrite) (next : ℕ) (write : NodeWrite) → next ≤ write.number → FitsWrite write
    → All (λ it. it.number < next) writes → AreNodeWrites writes
    → All (λ it. it.number < write.number + 1) (writes ++ write ∷ []) × AreNodeWrites (writes ++ write ∷ [])
pushed writes next write low fits below good =
    let before : All (λ it. it.number < write.number) writes = λ k d within. (let one = below k d within in omega (arith, one, low)) in
    let until : All (λ it. it.number < write.number + 1) writes = λ k d within. (let one = before k d within in omega (arith, one)) in (
      All-push (λ it. it.number < write.number + 1) writes write until (omega arith),
      record {
        order = all_pairs_push (λ it later. it.number < later.number) writes write good.order (λ k d within. before k d within);
        each = All-push FitsWrite writes write good.each fits;
      },
    )
