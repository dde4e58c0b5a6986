-- A whole session.
use Rattle.std.specs.Prelude.{◌≡◌, ◌⊎◌, List, [], ℕ, Option, Result, Ok, Err}
use Rattle.pool_model.specs.declared.refusal.Refusal.{Refusal}
use Rattle.pool_steps.specs.declared.steps.PoolSteps.{Ghosts}
use Rattle.volume_device.specs.Causes.{IsCaused, flushing}
use Rattle.volume_device.specs.Contents.{Contents, IsFlushed, IsSame}
use Rattle.volume_device.specs.Devices.{Leads, name_of}
use Rattle.volume_device.specs.declared.device.Device.{Device}
use Rattle.nbd_serve.specs.Answers.{Serves}
use Rattle.nbd_serve.specs.Exchanges.{Exchange, Exchanged}
use Rattle.nbd_serve.specs.Haggling.{Haggles}
use Rattle.nbd_serve.specs.Sessions.{Transmits}
use Rattle.nbd_serve.specs.declared.course.Course.TheVariants.{Agreed, Left}
use Rattle.nbd_serve.specs.declared.ended.Ended.{Ended}
use Rattle.nbd_serve.specs.declared.ended.Ended.TheVariants.{Hostile, NoMemory, Output, Refused, Torn}
use Rattle.nbd_serve.specs.declared.export.Export.{Export}

module _ (export : Export) (input left output written : Option (List ℕ)) where
  -- how a session ended in which no transmission began
  abbrev pub EndsEarly : Result (Unit {0}) Ended → Type 0
  EndsEarly (Ok done) = Haggles export input left output written (Ok Left)
  EndsEarly (Err Torn) = Haggles export input left output written (Err Torn)
  EndsEarly (Err Hostile) = Haggles export input left output written (Err Hostile)
  EndsEarly (Err NoMemory) = Haggles export input left output written (Err NoMemory)
  EndsEarly (Err Output) = Unit {0}
  EndsEarly (Err (Refused cause)) = ⊥

  -- the handshake led to the transmission, which had these exchanges and ended so
  pub record Continues (exchanges : List Exchange) (result : Result (Unit {0}) Ended) : Type 0 where
    pub asked : Option (List ℕ)
    pub told : Option (List ℕ)
    pub haggles : Haggles export input asked output told (Ok Agreed)
    pub transmits : Transmits asked left told written exchanges result

  -- what was said, with these exchanges, until the session ended so
  abbrev pub Says : List Exchange → Result (Unit {0}) Ended → Type 0
  Says exchanges result = Continues exchanges result ⊎ ((exchanges ≡ []) × EndsEarly result)

-- the exchanges, and then this
abbrev pub ExchangedAnd : List ℕ → List Exchange → (Contents → Contents → Type 0) → Contents → Contents → Type 0
ExchangedAnd name exchanges last c d = (m : Contents) × Exchanged name exchanges c m × last m d

module _ {P : Type 0} (steps : Ghosts P) (export : Export) (old new : Device P) (input left output written : Option (List ℕ)) where
  -- The exchanges were made, and at the end all was flushed.
  pub record IsFlushedAtEnd (result : Result (Unit {0}) Ended) : Type 0 where
    pub exchanges : List Exchange
    pub before : Device P
    pub serves : Serves steps export old exchanges before
    pub says : Says export input left output written exchanges result
    pub leads : Leads steps old new (ExchangedAnd (name_of old) exchanges IsFlushed)

  -- The exchanges were made, but at the end the flush was refused.
  pub record IsRefusedAtEnd (cause : Refusal) : Type 0 where
    pub exchanges : List Exchange
    pub before : Device P
    pub serves : Serves steps export old exchanges before
    pub ended : Result (Unit {0}) Ended
    pub says : Says export input left output written exchanges ended
    pub caused : IsCaused steps flushing before new cause
    pub leads : Leads steps old new (ExchangedAnd (name_of old) exchanges IsSame)

  -- the exchanges were made, and at the end all was flushed, or the flush was refused
  abbrev pub EndsSession : Result (Unit {0}) Ended → Type 0
  EndsSession (Err (Refused cause)) = IsRefusedAtEnd cause
  EndsSession result = IsFlushedAtEnd result
