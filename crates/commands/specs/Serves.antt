-- The command that serves a volume or a snapshot as a network block device.
use Rattle.std.specs.Prelude.{◌≡◌, ◌⊎◌, ℕ, Bool, true, false, List, Option, Result, Ok, Err}
use Rattle.command_steps.specs.Made.{IsAtRest}
use Rattle.nbd_serve.specs.Serving.{EndsSession}
use Rattle.nbd_serve.specs.declared.ended.Ended.{Ended}
use Rattle.nbd_serve.specs.declared.ended.Ended.TheVariants as ended
use Rattle.nbd_serve.specs.declared.export.Export.{Export}
use Rattle.pool_model.specs.declared.refusal.Refusal.{Refusal}
use Rattle.pool_model.specs.declared.refusal.Refusal.TheVariants.{NoMemory}
use Rattle.pool_model.specs.Names.{is_snapshot_name}
use Rattle.pool_model.specs.View.{View, now_of}
use Rattle.pool_steps.specs.declared.steps.PoolSteps.{Ghosts as StepGhosts}
use Rattle.volume_device.specs.Contents.{at_rest}
use Rattle.volume_device.specs.Devices.{Shows, core_of, name_of}
use Rattle.volume_device.specs.declared.device.Device.{Device}
use Rattle.commands.specs.Does.{IsOpened}
use Rattle.commands.specs.Rows.{HasOfSize}
use Rattle.commands.specs.declared.pools.Pools.{Ghosts}
use Rattle.commands.specs.declared.stop.Stop.{Stop}
use Rattle.commands.specs.declared.stop.Stop.TheVariants as stop

-- what a command tells of how a session ended
abbrev pub stop_by : {R : Type 0} → Result (Unit {0}) Ended → Result (Unit {0}) (Stop R)
stop_by (Ok done) = Ok tt
stop_by (Err ended.Torn) = Err stop.Input
stop_by (Err ended.Hostile) = Err stop.Protocol
stop_by (Err ended.Output) = Err stop.Output
stop_by (Err (ended.Refused cause)) = Err (stop.Pool cause)
stop_by (Err ended.NoMemory) = Err (stop.Pool NoMemory)

module _ {P : Type 0} (steps : StepGhosts P) where
  -- what a client is told of the volume or snapshot of that name: a snapshot can't be written
  pub record IsExportOf (pool : P) (name : List ℕ) (export : Export) : Type 0 where
    pub name_is : export.name ≡ name
    pub sized : (v : View) → steps.represents pool v → HasOfSize name export.size (now_of v)
    pub read_only : export.read_only ≡ is_snapshot_name name

  -- a session over a device of the pool, which was at rest
  pub record IsSession {R : Type 0} (pool last : P) (name : List ℕ) (input left output written : Option (List ℕ)) (stopped : Result (Unit {0}) (Stop R)) : Type 0 where
    pub export : Export
    pub told : IsExportOf pool name export
    pub device : Device P
    pub core : core_of device ≡ pool
    pub named : name_of device ≡ name
    pub shows : (v : View) → steps.represents pool v → IsAtRest v → v.next 1 ≡ 1 → Shows steps device (at_rest v)
    pub new : Device P
    pub ended : Result (Unit {0}) Ended
    pub ends : EndsSession steps export device new input left output written ended
    pub last_is : last ≡ core_of new
    pub stopped_is : stopped ≡ stop_by ended

  -- there is no such name, or no memory: nothing is said
  pub record IsNotServed {R : Type 0} (pool last : P) (input left output written : Option (List ℕ)) (stopped : Result (Unit {0}) (Stop R)) : Type 0 where
    pub cause : Refusal
    pub stopped_is : stopped ≡ Err (stop.Pool cause)
    pub same : last ≡ pool
    pub silent : written ≡ output
    pub unread : left ≡ input

  -- a session served the name; or there is no such name, or no memory, and nothing is said
  abbrev pub IsServedBy : {R : Type 0} → P → P → List ℕ → Option (List ℕ) → Option (List ℕ) → Option (List ℕ) → Option (List ℕ) → Result (Unit {0}) (Stop R) → Type 0
  IsServedBy pool last name input left output written stopped = IsSession pool last name input left output written stopped ⊎ IsNotServed pool last input left output written stopped

module _ {S P F R : Type 0} (pools : Ghosts S P F R) (steps : StepGhosts P) (old : S) (files : List (List ℕ)) (name : List ℕ) (input left output written : Option (List ℕ)) (new : S) where
  -- the pool was opened, a volume of it served until the session ended so, and the pool left; meanwhile a disk failed, or none did
  pub record IsServedOf (stopped : Result (Unit {0}) (Stop R)) (lost : Bool) : Type 0 where
    pub pool : P
    pub last : P
    pub front : F
    pub opened : IsOpened pools old files pool last front new
    pub lost_is : pools.has_lost last front ≡ lost
    pub served : IsServedBy steps pool last name input left output written stopped

  -- the session ended politely, and no disk failed
  abbrev pub IsServed : Type 0
  IsServed = IsServedOf (Ok tt) false

  -- The pool was not opened, and nothing is said; or all is committed, but a disk failed; or the session ended otherwise; or memory ran out behind it.
  abbrev pub IsServeStopped : Stop R → Type 0
  IsServeStopped (stop.Pools cause) = pools.refuses old files cause new × (written ≡ output)
  IsServeStopped stop.DiskLost = IsServedOf (Ok tt) true
  IsServeStopped (stop.Pool cause) = (stopped : Result (Unit {0}) (Stop R)) × ((stopped ≡ Err (stop.Pool cause)) ⊎ ((stopped ≡ Ok tt) × (cause ≡ NoMemory))) × ((lost : Bool) × IsServedOf stopped lost)
  IsServeStopped other = (lost : Bool) × IsServedOf (Err other) lost
