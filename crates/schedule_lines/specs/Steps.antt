-- Which command asks for which step.
use Rattle.std.specs.Prelude.{◌≡◌, ◌≢◌, ℕ, replicate, ◌≤◌, ◌^◌}
use Rattle.pool_model.specs.declared.item.Change.TheVariants as change
use Rattle.pool_model.specs.declared.step.Step.{Step}
use Rattle.pool_model.specs.declared.step.Step.TheVariants as step
use Rattle.schedule_lines.specs.declared.command.Command.{Command}
use Rattle.schedule_lines.specs.declared.command.Command.TheVariants.{Pool, Hold, Release, Write, Create, Snapshot, Clone, Destroy, Close, Quiesced, Plan, Device, Commit, Sync, Read, Under, Out, Stop, Reopen}

-- the command asks for this step and no other; a plan tells no time
abbrev pub AsksFor : Command → Step → Type 0
AsksFor (Pool line) s = ⊥
AsksFor (Hold writer) s = s ≡ step.Hold writer
AsksFor (Release writer) s = s ≡ step.Release writer
AsksFor (Write line) s = s ≡ step.Write (record { writer = line.writer; number = line.number; volume = line.volume; offset = line.offset; bytes = replicate line.len line.byte })
AsksFor (Create line) s = s ≡ step.Act (record { writer = line.writer; number = line.number; change = change.Create line.volume line.size line.block_size })
AsksFor (Snapshot line) s = s ≡ step.Act (record { writer = line.writer; number = line.number; change = change.Snapshot line.volume line.part })
AsksFor (Clone line) s = s ≡ step.Act (record { writer = line.writer; number = line.number; change = change.Clone line.snapshot line.name })
AsksFor (Destroy line) s = s ≡ step.Act (record { writer = line.writer; number = line.number; change = change.Destroy line.name })
AsksFor Close s = s ≡ step.Close
AsksFor Quiesced s = s ≡ step.Quiesce
AsksFor Plan s = s ≡ step.Plan 0
AsksFor Device s = s ≡ step.Device
AsksFor Commit s = ⊥
AsksFor Sync s = ⊥
AsksFor (Read line) s = s ≡ step.Read line.name line.offset line.len
AsksFor (Under line) s = s ≡ step.ReadUnder line.group line.name line.offset line.len
AsksFor (Out disk) s = s ≡ step.DiskOut disk
AsksFor (Stop point) s = ⊥
AsksFor (Reopen line) s = ⊥

-- no command asks for it: a write of bytes that are not all alike, a plan that tells a time, or a disk with too great a number
abbrev pub HasNoLine : Step → Type 0
HasNoLine (step.Write write) = (count byte : ℕ) → write.bytes ≢ replicate count byte
HasNoLine (step.Plan timestamp) = timestamp ≢ 0
HasNoLine (step.DiskOut disk) = 2 ^ 32 ≤ disk
HasNoLine s = ⊥
