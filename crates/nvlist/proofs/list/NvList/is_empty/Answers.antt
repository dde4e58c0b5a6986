use Rattle.std.proofs.Common.{◌≡◌, ◌==◌, vec_len, sym, ap, ◌∙◌, arith}
use Rattle.std.proofs.lemmas.Bool.{eqb-true}
use Rattle.nvlist.specs.Plain.{pair_count}
use Rattle.nvlist.specs.declared.list.NvList.{out-NvList}
use Rattle.nvlist.proofs.Appends.{counted}
use Rattle.nvlist.proofs.Finding.{empty_view}
use Rattle.nvlist.proofs.list.NvList.is_empty.Goals as goal

pub returns : goal.returns
returns c =
    let l = c.args.self.now in
    let pairs = (out-NvList l).pairs in (
      λ yes. let none : vec_len pairs ≡ 0 = eqb-true (vec_len pairs) 0 (sym c.is_empty.ensures ∙ yes) in empty_view l (omega (arith, none, pairs.ok.0)),
      λ none. let zero : vec_len pairs ≡ 0 = omega (arith, counted l, ap pair_count none, pairs.ok.0) in c.is_empty.ensures ∙ ap (λ n. n == 0) zero,
    )
