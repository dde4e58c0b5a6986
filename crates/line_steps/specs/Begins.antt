-- The steps that commands begin with.
use Rattle.std.specs.Prelude.{◌≡◌, ℕ, replicate, Option, Some, None}
use Rattle.pool_model.specs.declared.item.Write.{Write}
use Rattle.pool_model.specs.declared.item.Action.{Action}
use Rattle.pool_model.specs.declared.item.Change.TheVariants.{Clone as CloneChange, Create as CreateChange, Destroy as DestroyChange, Snapshot as SnapshotChange}
use Rattle.pool_model.specs.declared.step.Step.{Step}
use Rattle.pool_model.specs.declared.step.Step.TheVariants as step
use Rattle.pool_model.specs.declared.step.Reply.{Reply}
use Rattle.pool_model.specs.declared.step.Reply.TheVariants as reply
use Rattle.schedule_lines.specs.declared.command.Command.{Command}
use Rattle.schedule_lines.specs.declared.command.Command.TheVariants.{Pool, Hold, Release, Write as WriteCommand, Create, Snapshot, Clone, Destroy, Close, Quiesced, Plan, Device, Commit, Sync, Read, Under, Out, Stop, Reopen}
use Rattle.schedule_lines.specs.declared.command.WriteLine.{WriteLine}
use Rattle.schedule_lines.specs.declared.command.CreateLine.{CreateLine}
use Rattle.schedule_lines.specs.declared.command.SnapshotLine.{SnapshotLine}
use Rattle.schedule_lines.specs.declared.command.CloneLine.{CloneLine}
use Rattle.schedule_lines.specs.declared.command.DestroyLine.{DestroyLine}
use Rattle.command_steps.specs.Lengths.{StandsFor}

-- the write of n bytes that a line asks for
abbrev pub write_of : WriteLine → ℕ → Write
write_of line n = record { writer = line.writer; number = line.number; volume = line.volume; offset = line.offset; bytes = replicate n line.byte }

-- the creation that a line asks for
abbrev pub action_of : CreateLine → Action
action_of line = record { writer = line.writer; number = line.number; change = CreateChange line.volume line.size line.block_size }

-- the snapshot that a line asks for
abbrev pub snapshot_by : SnapshotLine → Action
snapshot_by line = record { writer = line.writer; number = line.number; change = SnapshotChange line.volume line.part }

-- the clone that a line asks for
abbrev pub clone_by : CloneLine → Action
clone_by line = record { writer = line.writer; number = line.number; change = CloneChange line.snapshot line.name }

-- the destroy that a line asks for
abbrev pub destroy_by : DestroyLine → Action
destroy_by line = record { writer = line.writer; number = line.number; change = DestroyChange line.name }

-- the first step of a command. A schedule tells no time.
abbrev pub Begins : Command → Step → Type 0
Begins (Pool line) s = ⊥
Begins (Hold writer) s = s ≡ step.Hold writer
Begins (Release writer) s = s ≡ step.Release writer
Begins (WriteCommand line) s = (n : ℕ) × StandsFor line.len n × (s ≡ step.Write (write_of line n))
Begins (Create line) s = s ≡ step.Act (action_of line)
Begins (Snapshot line) s = s ≡ step.Act (snapshot_by line)
Begins (Clone line) s = s ≡ step.Act (clone_by line)
Begins (Destroy line) s = s ≡ step.Act (destroy_by line)
Begins Close s = s ≡ step.Close
Begins Quiesced s = s ≡ step.Quiesce
Begins Plan s = s ≡ step.Plan 0
Begins Device s = s ≡ step.Device
Begins Commit s = s ≡ step.Plan 0
Begins Sync s = s ≡ step.Close
Begins (Read line) s = s ≡ step.Read line.name line.offset line.len
Begins (Under line) s = s ≡ step.ReadUnder line.group line.name line.offset line.len
Begins (Out disk) s = s ≡ step.DiskOut disk
Begins (Stop point) s = ⊥
Begins (Reopen line) s = ⊥

-- the step that brings a group on after this reply, unless it is committed or refused
abbrev pub next_of : Reply → Option Step
next_of (reply.Closed group) = Some step.Quiesce
next_of (reply.Quiesced group) = Some (step.Plan 0)
next_of (reply.Planned group) = Some step.Device
next_of (reply.Moved phase) = Some step.Device
next_of (reply.Replan disk) = Some (step.Plan 0)
next_of _ = None

-- a command that is no step of a pool
abbrev pub IsNoStep : Command → Type 0
IsNoStep (Pool line) = Unit {0}
IsNoStep (Stop point) = Unit {0}
IsNoStep (Reopen line) = Unit {0}
IsNoStep _ = ⊥
