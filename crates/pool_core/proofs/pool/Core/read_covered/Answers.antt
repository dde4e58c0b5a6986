use Rattle.std.proofs.Common.{rules, ◌≡◌, List, ℕ, ap, sym, ◌∙◌, subst, length, replicate}
use Rattle.std.proofs.lemmas.List.{with_items_is, length-replicate}
use Rattle.pool_model.specs.declared.step.Step.TheVariants as steps
use Rattle.pool_model.specs.declared.step.Reply.TheVariants as replies
use Rattle.volume_rules.specs.Covering.{IsCovered}
use Rattle.pool_core.specs.StateOf.{state_of}
use Rattle.pool_core.specs.Steps.{Goes}
use Rattle.pool_core.proofs.ReadSteps.{reads_nothing, reads_now, lacks_memory}
use Rattle.pool_core.proofs.pool.Core.read_covered.Goals as goal

pub returns-in_default : goal.returns-in_default
returns-in_default g c = λ v trusted volume r at shape none covered. lacks_memory (state_of c.args.self.now) v trusted c.args.name.now c.args.offset c.args.len r

pub returns : goal.returns
returns g c = λ v trusted volume r at shape none covered.
    let buffer : List ℕ = c.read_pending.new.buffer in
    let zeros : c.in-Ok.bytes.items ≡ replicate {A = ℕ} c.args.len 0 = search rules in
    let given : c.as_mut_slice.result.now ≡ replicate {A = ℕ} c.args.len 0 = c.as_mut_slice.ensures.value ∙ zeros in
    let given_len : length c.as_mut_slice.result.now ≡ c.args.len = ap (length {A = ℕ}) given ∙ length-replicate {A = ℕ} c.args.len 0 in
    let whole : length buffer ≡ length c.as_mut_slice.result.now = c.read_pending.auto.buffer in
    subst (λ (xs : List ℕ). Goes (state_of c.args.self.now) v trusted (steps.Read c.args.name.now c.args.offset c.args.len) (replies.Bytes xs) (state_of c.args.self.now))
    (sym (c.new.ensures ∙ with_items_is c.in-Ok.bytes buffer (whole ∙ c.as_mut_slice.ensures.len)))
    (reads_now (state_of c.args.self.now) (state_of c.args.self.now).commit v trusted c.args.name.now c.args.offset c.args.len buffer volume r (reads_nothing (state_of c.args.self.now).commit) none at (whole ∙ given_len)
    (λ e. c.read_pending.ensures.covered v volume r.follows at shape
    (subst (λ n. IsCovered v c.args.name.now c.args.shape c.args.offset n) (sym given_len) covered)
    (given ∙ ap (λ n. replicate {A = ℕ} n 0) (sym given_len))))
