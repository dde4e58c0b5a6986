use Rattle.std.proofs.Common.{◌≡◌, [], length, ap, arith}
use Rattle.std.proofs.lemmas.Bool.Decides.{nat_tests}
use Rattle.std.proofs.lemmas.Result.{IfOk-weaker, on_ok_weaker}
use Rattle.block_store.proofs.Steps.{steps_none}
use Rattle.volume.proofs.Putting.{stays_with, no_items}
use Rattle.volume.proofs.volume.VolumeSet.placed.Goals as goal

pub returns-then-is_empty-clause-value : goal.returns-then-is_empty-clause-value
returns-then-is_empty-clause-value g c = λ stored planned bound array plans is le tell.
    let none : c.args.blocks.items ≡ [] = no_items c.args.blocks.items (grind (arith, nat_tests, c.is_empty.ensures, c.if-is_empty.true)) in (
      planned,
      plans,
      λ block bytes known. known,
      λ after with. stays_with stored planned bound c.args.birth c.args.self.now.block c.args.self.now.size c.args.self.now.block_size array after c.args.blocks.items le plans.kept is none with,
      λ some. absurd (some none),
    )

pub returns-clause-idle : goal.returns-clause-idle
returns-clause-idle g c = λ none. absurd (grind (arith, nat_tests, c.is_empty.ensures, c.if-is_empty.false, c.args.blocks.ok.0, ap length none))

pub returns-clause-value : goal.returns-clause-value
returns-clause-value g c =
    IfOk-weaker c.put.result _ _
    (λ done value stored planned bound array plans is le tell. let did = value stored planned bound array plans is le tell in (did.0, did.1, did.2, did.3, λ some. did.4))
    c.put.ensures.value

pub returns-then-is_empty-clause-steps : goal.returns-then-is_empty-clause-steps
returns-then-is_empty-clause-steps g c = steps_none c.args.store.now []

pub returns-then-is_empty-clause-places : goal.returns-then-is_empty-clause-places
returns-then-is_empty-clause-places g c = λ some. absurd (some (no_items c.args.blocks.items (grind (arith, nat_tests, c.is_empty.ensures, c.if-is_empty.true))))

pub returns-clause-places : goal.returns-clause-places
returns-clause-places g c = on_ok_weaker c.put.result (λ places some. places) c.put.ensures.places
