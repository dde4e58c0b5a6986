use Rattle.std.proofs.Common.{◌-◌, take, length, length-take, ap, sym, ◌∙◌, arith}
use Rattle.std.specs.Option.{option_copied}
use Rattle.volume_rules.specs.Sources.{source_before, source_in}
use Rattle.volume_rules.proofs.Sources.{last_before, none_before, nowhere_before}
use Rattle.volume_rules.proofs.overlay.source_before.Goals as goal

pub loop-actions-init : goal.loop-actions-init
loop-actions-init c = record {
  few = let same = ap length c.actions-actions.ensures in omega arith;
  same = ap (λ actions. source_before actions (option_copied c.args.name)) (sym c.actions-actions.ensures);
}

pub offset_bounds-actions-actions : goal.offset_bounds-actions-actions
offset_bounds-actions-actions c =
    let same = ap length c.actions-actions.ensures in
    let few = c.loop-actions.invariant.few in
    let fits = c.actions-actions.type_inv in
    omega arith

pub returns-in_err-source : goal.returns-in_err-source
returns-in_err-source c =
    ap option_copied c.from_residual.ensures
    ∙ sym (c.loop-actions.invariant.same ∙ (ap (λ o. source_before c.loop-actions.actions.now (option_copied o)) c.in_err-source.was ∙ nowhere_before c.loop-actions.actions.now))

pub loop-actions-preserved : goal.loop-actions-preserved
loop-actions-preserved c = record {
  few = let few = c.loop-actions.invariant.few in let short = length-take (length c.loop-actions.actions.now - 1) c.loop-actions.actions.now in omega arith;
  same = c.loop-actions.invariant.same
      ∙ (last_before c.loop-actions.actions.now c.last-item.result (option_copied c.loop-actions.source) c.in-len1-up.len_at_least c.last-item.is
      ∙ ap (source_before (take (length c.loop-actions.actions.now - 1) c.loop-actions.actions.now)) (ap (λ o. source_in c.last-item.result.change (option_copied o)) c.in_ok-source.was ∙ sym c.source_by-source.ensures));
}

pub returns : goal.returns
returns c = sym (c.loop-actions.invariant.same ∙ none_before c.loop-actions.actions.now (option_copied c.loop-actions.source) c.in_default.len_below)
