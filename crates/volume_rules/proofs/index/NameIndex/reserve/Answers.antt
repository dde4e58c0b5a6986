use Rattle.std.proofs.Common.{ℕ, List, sym, ◌∙◌}
use Rattle.volume_rules.proofs.Indexes.{agree_at}
use Rattle.volume_rules.proofs.index.NameIndex.reserve.Goals as goal

pub returns-clause-same : goal.returns-clause-same
returns-clause-same c = λ pool.
    let same = λ (name : List ℕ). agree_at (λ key. key.items) c.args.self.now.entries.entries c.try_reserve.new.self.entries name (λ q n. c.try_reserve.ensures.entries.2 q) in
    (λ k. record { entries = λ name. same name ∙ k.entries name; ascending = k.ascending }, λ k. record { entries = λ name. sym (same name) ∙ k.entries name; ascending = k.ascending })
