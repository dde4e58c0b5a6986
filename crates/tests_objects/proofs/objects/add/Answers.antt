use Rattle.std.proofs.Common.{◌∷◌}
use Rattle.std.proofs.lemmas.List.Elements.{All-cons}
use Rattle.std.proofs.lemmas.List.Sorted.{All-permutation}
use Rattle.std.proofs.lemmas.Result.{on_ok_weaker}
use Rattle.block_pointer.specs.Block.{FitsBlock}
use Rattle.tests_objects.proofs.objects.add.Goals as goal

pub returns : goal.returns
returns c =
    on_ok_weaker c.push.result
    (λ moved.
    All-permutation FitsBlock (c.args.block ∷ c.args.list.now) c.push.new.self moved (All-cons FitsBlock c.args.block c.args.list.now c.requires.block c.requires.list)) c.push.ensures.ok
