use Rattle.std.proofs.Common.{ℕ, Vec, Global, sym, ◌∙◌}
use Rattle.std.specs.List.{each_same}
use Rattle.volume_rules.proofs.Indexes.{same_in_clone}
use Rattle.volume_rules.proofs.index.NameIndex.copied.Goals as goal

pub returns : goal.returns
returns c = λ pool.
    let cloned = same_in_clone (λ (key : Vec ℕ Global). key.items) _ _ (λ key copy h. each_same key.items copy.items h.0) (λ entry copy h. h) c.args.self.now.entries.entries c.in_ok-clone.field-0.entries c.in_ok-clone.ensures.cases in
    (λ k. record { entries = λ name. cloned name ∙ k.entries name; ascending = k.ascending }, λ k. record { entries = λ name. sym (cloned name) ∙ k.entries name; ascending = k.ascending })
