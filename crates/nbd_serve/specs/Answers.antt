-- How requests are answered, and why not.
use Rattle.std.specs.Prelude.{◌≡◌, ◌≢◌, ◌⊎◌, ℕ, true, List, [], ◌∷◌, length, Option, Some, IfSome, MatchOption}
use Rattle.nbd_wire.specs.Requests.{SpellsRequest, command_of, request_bytes}
use Rattle.nbd_wire.specs.declared.errors.ErrorCode.{ErrorCode}
use Rattle.nbd_wire.specs.declared.errors.ErrorCode.TheVariants.{Io}
use Rattle.nbd_wire.specs.declared.requests.Command.{Command}
use Rattle.nbd_wire.specs.declared.requests.Command.TheVariants.{Disconnect, Flush, Read, Write}
use Rattle.nbd_wire.specs.declared.requests.RequestHead.{RequestHead}
use Rattle.pool_model.specs.declared.refusal.Refusal.{Refusal}
use Rattle.pool_model.specs.declared.step.Step.{Step}
use Rattle.pool_steps.specs.declared.steps.PoolSteps.{Ghosts}
use Rattle.volume_device.specs.Causes.{IsCaused, flushing, reading, writing}
use Rattle.volume_device.specs.Contents.{AreRead, IsWritten}
use Rattle.volume_device.specs.Devices.{Leads, core_of, name_of}
use Rattle.volume_device.specs.declared.device.Device.{Device}
use Rattle.nbd_serve.specs.Exchanges.{BecomesOf, Exchange, payload_len, reply_len}
use Rattle.nbd_serve.specs.Verdicts.{error_of, error_of_write, is_forced, judged}
use Rattle.nbd_serve.specs.declared.export.Export.{Export}

module _ {P : Type 0} (steps : Ghosts P) where
  -- the pool refused it for a cause that becomes this error
  pub record IsPoolsRefusal (takes : Step → Type 0) (becomes : Refusal → ErrorCode) (old : Device P) (code : ErrorCode) (new : Device P) : Type 0 where
    pub cause : Refusal
    pub code_is : code ≡ becomes cause
    pub caused : IsCaused steps takes old new cause

  -- what was read had another length, which no pool gives where answers tell what was written
  pub record IsMisread (head : RequestHead) (old : Device P) (code : ErrorCode) (new : Device P) : Type 0 where
    pub bytes : List ℕ
    pub leads : Leads steps old new (AreRead (name_of old) head.offset head.len bytes)
    pub other_length : length bytes ≢ head.len
    pub code_is : code ≡ Io

  -- all was written, but the flush behind it was refused
  pub record IsUnflushed (e : Exchange) (old : Device P) (code : ErrorCode) (new : Device P) : Type 0 where
    pub forced : is_forced e.head ≡ true
    pub between : Device P
    pub follows : steps.came_from (core_of old) (core_of between)
    pub written : Leads steps old between (IsWritten (name_of old) e.head.offset e.payload)
    pub refused : IsPoolsRefusal flushing error_of between code new

  -- why the pool, once asked, didn't do what the command says
  abbrev pub Fails : Option Command → Exchange → Device P → ErrorCode → Device P → Type 0
  Fails (Some Read) e old code new = IsPoolsRefusal (reading (name_of old) e.head.offset e.head.len) error_of old code new ⊎ IsMisread e.head old code new
  Fails (Some Write) e old code new = IsPoolsRefusal (writing (name_of old) e.head.offset e.payload) error_of_write old code new ⊎ IsUnflushed e old code new
  Fails (Some Flush) e old code new = IsPoolsRefusal flushing error_of old code new
  Fails other e old code new = ⊥

  -- what the pool was asked for by a command, and answered
  pub record Performs (command : Option Command) (old : Device P) (e : Exchange) (new : Device P) : Type 0 where
    pub follows : steps.came_from (core_of old) (core_of new)
    pub named : name_of new ≡ name_of old
    pub bytes_are : length e.bytes ≡ reply_len command e.head e.error
    pub leads : Leads steps old new (BecomesOf (name_of old) e command e.error)
    pub fails : IfSome e.error (λ code. Fails command e old code new)

  -- with the error that a request has before the pool is asked, which then isn't; or as the pool answers
  abbrev pub Responds : Export → Device P → Exchange → Device P → Type 0
  Responds export old e new = MatchOption (judged export e.head) (Performs (command_of e.head.kind) old e new) (λ code. (e.error ≡ Some code) × (e.bytes ≡ []) × (new ≡ old))

  -- a request that is no DISC was answered
  pub record Answers (export : Export) (old : Device P) (e : Exchange) (new : Device P) : Type 0 where
    pub spelled : SpellsRequest (request_bytes e.head) e.head
    pub stays : command_of e.head.kind ≢ Some Disconnect
    pub payload_is : length e.payload ≡ payload_len (command_of e.head.kind) e.head
    pub responds : Responds export old e new

  -- the exchanges lead, one after another, from the old device to the new one
  abbrev pub Serves : Export → Device P → List Exchange → Device P → Type 0
  Serves export old [] new = new ≡ old
  Serves export old (e ∷ exchanges) new = (mid : Device P) × Answers export old e mid × Serves export mid exchanges new
