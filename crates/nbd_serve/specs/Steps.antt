-- How one request is answered, and how the session ends at it.
use Rattle.std.specs.Prelude.{◌≡◌, ◌<◌, ◌^◌, ℕ, List, Option, Some, Result, Ok, Err}
use Rattle.std.specs.Io.KnownBytes.{Appends, Consumes}
use Rattle.nbd_wire.specs.Requests.{command_of}
use Rattle.nbd_wire.specs.declared.requests.Command.TheVariants.{Write}
use Rattle.nbd_wire.specs.declared.requests.RequestHead.{RequestHead}
use Rattle.pool_steps.specs.declared.steps.PoolSteps.{Ghosts}
use Rattle.volume_device.specs.declared.device.Device.{Device}
use Rattle.nbd_serve.specs.Answers.{Answers}
use Rattle.nbd_serve.specs.Exchanges.{Exchange, replied}
use Rattle.nbd_serve.specs.declared.ended.Ended.{Ended}
use Rattle.nbd_serve.specs.declared.ended.Ended.TheVariants.{Hostile, NoMemory, Output, Refused, Torn}
use Rattle.nbd_serve.specs.declared.export.Export.{Export}

module _ {P : Type 0} (steps : Ghosts P) (export : Export) (head : RequestHead) (old new : Device P) (input left output written : Option (List ℕ)) where
  -- it was answered, behind all of its payload
  pub record IsAnswered : Type 0 where
    pub exchange : Exchange
    pub head_is : exchange.head ≡ head
    pub answers : Answers steps export old exchange new
    pub consumed : Consumes input left exchange.payload

  -- it was answered, and the reply was sent
  pub record IsSent : Type 0 where
    pub answered : IsAnswered
    pub sent : Appends output written (replied answered.exchange)

  -- nothing was asked of the pool, and nothing sent
  pub record IsLeftAlone : Type 0 where
    pub same : new ≡ old
    pub silent : written ≡ output

  -- How a request ended. It was answered, and the reply was sent, or the output failed. Or nothing was asked
  -- and sent: the input tore in its payload, or it is a write of more than 32 MiB.
  abbrev pub Steps : Result (Unit {0}) Ended → Type 0
  Steps (Ok done) = IsSent
  Steps (Err Torn) = IsLeftAlone
  Steps (Err Hostile) = IsLeftAlone × (left ≡ input) × (command_of head.kind ≡ Some Write) × (2 ^ 25 < head.len)
  Steps (Err Output) = IsAnswered
  Steps (Err (Refused cause)) = ⊥
  Steps (Err NoMemory) = ⊥
