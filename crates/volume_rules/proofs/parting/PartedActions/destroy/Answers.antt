use Rattle.std.proofs.Common.{◌≡◌, true, [], ◌∷◌, ◌++◌, sym, ap, ◌∙◌, rules}
use Rattle.std.specs.Prelude.{cond, not}
use Rattle.std.proofs.lemmas.Fn.{filter_same}
use Rattle.pool_model.specs.Names.{does_make}
use Rattle.volume_rules.specs.Parting.{Parted, is_made, not_making, with_destroy}
use Rattle.volume_rules.proofs.parting.PartedActions.destroy.Goals as goal

pub returns-then-is_made : goal.returns-then-is_made
returns-then-is_made c =
    let name = c.args.name.now in
    let before : Parted = record { destroyed = c.self.inside.destroyed.items; made = c.self.inside.made.items } in
    let kept = filter_same _ (λ action. not (does_make action.change name)) _ (λ x b f' k. search rules) _ _ c.retain.ensures.filtered in
    let made : is_made name before.made ≡ true = ap (is_made name) (sym c.as_slice.ensures.value) ∙ (sym c.is_made.ensures ∙ c.if-is_made.true) in
    (λ i. record before { made = kept i })
    ∙ (sym (ap (λ b. cond b (record before { made = not_making name before.made }) (record before { destroyed = before.destroyed ++ name ∷ [] })) made)
    ∙ ap (λ parted. with_destroy parted name) c.self.view_is)
