use Rattle.std.proofs.Common.{◌≡◌, ap, Err, ◌∙◌}
use Rattle.std.proofs.lemmas.Result.{err_from_is_err_and}
use Rattle.object_table.specs.declared.refusal.Refusal.TheVariants as refusals
use Rattle.meta_objset.specs.SpaceMaps.{maps_bytes}
use Rattle.meta_objset.proofs.space_maps.SpaceMaps.decode.Goals as goal

pub returns-in_err-rows-clause-bad : goal.returns-in_err-rows-clause-bad
returns-in_err-rows-clause-bad c = λ bad rows spells.
    let p = err_from_is_err_and c.from_residual.result c.from_residual.ensures.1 in
    let q = p.1 in
    let r = p.2 in
    let is : c.in_err-rows.field-0.0 ≡ refusals.BadPointer = cc (q, r, bad) in
    c.in_err-rows.ensures.bad (ap Err is) (maps_bytes rows) spells.1

pub returns-clause-only : goal.returns-clause-only
returns-clause-only c = λ rows spells.
    c.from_rows.ensures.only rows spells.0 (c.deref.ensures.value ∙ c.in_ok-rows.ensures.only (maps_bytes rows) spells.1)

pub returns-clause-bad : goal.returns-clause-bad
returns-clause-bad c = λ bad rows spells.
    c.from_rows.ensures.bad bad rows spells.0 (c.deref.ensures.value ∙ c.in_ok-rows.ensures.only (maps_bytes rows) spells.1)
