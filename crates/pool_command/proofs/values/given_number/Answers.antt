use Rattle.std.specs.Str.Parse.{ParsesUnsigned, ExplainsUnsignedError, HasUnsignedDigitsIfOk}
use Rattle.pool_command.proofs.Getters.{number_is}
use Rattle.pool_command.proofs.values.given_number.Goals as goal

pub returns : goal.returns
returns c = number_is (λ bs r. ParsesUnsigned 64 10 bs r × ExplainsUnsignedError 10 bs r × HasUnsignedDigitsIfOk bs r) c.args.matches.now c.args.id.now c.get_one.result (λ t x g. g.0) c.get_one.ensures.none c.get_one.ensures.value
