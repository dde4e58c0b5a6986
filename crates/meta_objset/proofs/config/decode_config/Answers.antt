use Rattle.std.proofs.Common.{◌≡◌, ap, Err, ◌∙◌}
use Rattle.std.proofs.lemmas.Result.{err_from_is_err_and}
use Rattle.object_table.specs.declared.refusal.Refusal.TheVariants as refusals
use Rattle.vdev_label.specs.Config.{config_bytes}
use Rattle.meta_objset.proofs.config.decode_config.Goals as goal

pub returns-in_err-rows-clause-bad : goal.returns-in_err-rows-clause-bad
returns-in_err-rows-clause-bad c = λ bad vdevs spells.
    let p = err_from_is_err_and c.from_residual.result c.from_residual.ensures.1 in
    let q = p.1 in
    let r = p.2 in
    let is : c.in_err-rows.field-0.0 ≡ refusals.BadPointer = cc (q, r, bad) in
    c.in_err-rows.ensures.bad (ap Err is) (config_bytes vdevs) spells.1

pub returns-clause-only : goal.returns-clause-only
returns-clause-only c = λ vdevs spells.
    c.config_in.ensures.only vdevs (spells.0, c.deref.ensures.value ∙ c.in_ok-rows.ensures.only (config_bytes vdevs) spells.1)

pub returns-clause-bad : goal.returns-clause-bad
returns-clause-bad c = λ bad vdevs spells.
    c.config_in.ensures.bad bad vdevs (spells.0, c.deref.ensures.value ∙ c.in_ok-rows.ensures.only (config_bytes vdevs) spells.1)
