use Rattle.std.proofs.Common.{ℕ, Vec, Global, Some, sym, ap, ◌∙◌, cond, subst}
use Rattle.pool_model.specs.Names.{same}
use Rattle.volume_rules.proofs.Indexes.{shape_found}
use Rattle.volume_rules.proofs.Rows.{IsSorting, shape_in, sorting_end, sorting_more, sorting_start}
use Rattle.volume_rules.specs.declared.shape.VolumeEntry.{VolumeEntry}
use Rattle.volume_rules.proofs.index.NameIndex.in_order.Goals as goal

pub loop-key-init : goal.loop-key-init
loop-key-init c =
    subst (λ rest. IsSorting (λ key. key.items) c.args.self.now.entries.entries rest c.new-shapes.result.entries)
    (sym (c.into_iter-key-iterator.ensures.into_iter_gives ∙ c.iter-key-items.ensures.rest))
    (sorting_start (λ key. key.items) c.args.self.now.entries.entries c.new-shapes.result.entries c.new-shapes.ensures.empty c.iter-key-items.ensures.found)

pub loop-key-preserved : goal.loop-key-preserved
loop-key-preserved c =
    let key : Vec ℕ Global = c.in-Some.key.now in
    let entry : VolumeEntry = c.in-Some.entry.now in
    let all = c.args.self.now.entries.entries in
    sorting_more (λ key. key.items) all c.next.new.self c.loop-key.shapes.entries c.put_shape.new.shapes.entries key entry
    (subst (λ rest. IsSorting (λ key. key.items) all rest c.loop-key.shapes.entries) c.in-Some.ensures.steps c.loop-key.invariant)
    (λ name. c.in_ok-put_shape.ensures name ∙ ap (λ letters. cond (same letters name) (Some entry.shape) (shape_in (λ key. key.items) name c.loop-key.shapes.entries)) c.as_slice.ensures.value)

pub returns : goal.returns
returns c = λ pool k name.
    sorting_end (λ key. key.items) c.args.self.now.entries.entries c.loop-key.key-iterator c.loop-key.shapes.entries c.loop-key.invariant c.in-None.ensures.steps.0 name
    ∙ shape_found pool name _ (k.entries name)
