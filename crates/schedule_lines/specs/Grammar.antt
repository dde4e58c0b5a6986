-- Which bytes spell which line.
use Rattle.std.specs.Prelude.{◌≡◌, ◌≢◌, ℕ, ◌^◌, ◌<◌, ◌≤◌, List, [], ◌∷◌, length, map, codes}
use Rattle.std.specs.List.{AllByRecursion, join_with_byte}
use Rattle.std.specs.Fmt.{decimal}
use Rattle.schedule_lines.specs.declared.command.Line.{Line}
use Rattle.schedule_lines.specs.declared.command.Line.TheVariants.{Skipped, Threads, Command as CommandLine}
use Rattle.schedule_lines.specs.declared.command.Command.{Command}
use Rattle.schedule_lines.specs.declared.command.Command.TheVariants.{Pool, Hold, Release, Write, Create, Snapshot, Clone, Destroy, Close, Quiesced, Plan, Device, Commit, Sync, Read, Under, Out, Stop, Reopen}
use Rattle.schedule_lines.specs.declared.command.StopPoint.{StopPoint}
use Rattle.schedule_lines.specs.declared.command.StopPoint.TheVariants.{Blocks, Slots, Claim}
use Rattle.schedule_lines.specs.Hexadecimal.{byte_text}

-- the words behind "stop"
abbrev pub words_of_stop : StopPoint → List (List ℕ)
words_of_stop Blocks = codes "blocks" ∷ []
words_of_stop (Slots disks) = codes "slots" ∷ decimal disks ∷ []
words_of_stop (Claim disks) = codes "claim" ∷ decimal disks ∷ []

-- the words of a command
abbrev pub words_of : Command → List (List ℕ)
words_of (Pool p) = codes "pool" ∷ decimal p.parities ∷ decimal p.disks ∷ decimal p.bytes ∷ decimal p.metaslab_shift ∷ decimal p.meta_metaslabs ∷ []
words_of (Hold writer) = codes "hold" ∷ decimal writer ∷ []
words_of (Release writer) = codes "release" ∷ decimal writer ∷ []
words_of (Write w) = codes "write" ∷ decimal w.writer ∷ decimal w.number ∷ w.volume ∷ decimal w.offset ∷ decimal w.len ∷ byte_text w.byte ∷ []
words_of (Create c) = codes "create" ∷ decimal c.writer ∷ decimal c.number ∷ c.volume ∷ decimal c.size ∷ decimal c.block_size ∷ []
words_of (Snapshot s) = codes "snapshot" ∷ decimal s.writer ∷ decimal s.number ∷ s.volume ∷ s.part ∷ []
words_of (Clone c) = codes "clone" ∷ decimal c.writer ∷ decimal c.number ∷ c.snapshot ∷ c.name ∷ []
words_of (Destroy d) = codes "destroy" ∷ decimal d.writer ∷ decimal d.number ∷ d.name ∷ []
words_of Close = codes "close" ∷ []
words_of Quiesced = codes "quiesced" ∷ []
words_of Plan = codes "plan" ∷ []
words_of Device = codes "device" ∷ []
words_of Commit = codes "commit" ∷ []
words_of Sync = codes "sync" ∷ []
words_of (Read r) = codes "read" ∷ r.name ∷ decimal r.offset ∷ decimal r.len ∷ []
words_of (Under u) = codes "under" ∷ decimal u.group ∷ u.name ∷ decimal u.offset ∷ decimal u.len ∷ []
words_of (Out disk) = codes "out" ∷ decimal disk ∷ []
words_of (Stop stop) = codes "stop" ∷ words_of_stop stop
words_of (Reopen r) = codes "reopen" ∷ decimal r.rewind ∷ map decimal r.absent

-- one byte or more, and no space
abbrev pub IsWord : List ℕ → Type 0
IsWord word = (0 < length word) × AllByRecursion (λ b. b ≢ 32) word

-- the number of disks fits its type
abbrev pub StopFits : StopPoint → Type 0
StopFits Blocks = Unit {0}
StopFits (Slots disks) = disks < 2 ^ 32
StopFits (Claim disks) = disks < 2 ^ 32

-- the numbers of a command fit their types, and an open goes back 0, 1 or 2 groups
abbrev pub NumbersFit : Command → Type 0
NumbersFit (Pool p) = (p.parities < 2 ^ 32) × (p.disks < 2 ^ 32) × (p.bytes < 2 ^ 64) × (p.metaslab_shift < 2 ^ 32) × (p.meta_metaslabs < 2 ^ 32)
NumbersFit (Hold writer) = writer < 2 ^ 32
NumbersFit (Release writer) = writer < 2 ^ 32
NumbersFit (Write w) = (w.writer < 2 ^ 32) × (w.number < 2 ^ 64) × (w.offset < 2 ^ 64) × (w.len < 2 ^ 64) × (w.byte < 2 ^ 8)
NumbersFit (Create c) = (c.writer < 2 ^ 32) × (c.number < 2 ^ 64) × (c.size < 2 ^ 64) × (c.block_size < 2 ^ 64)
NumbersFit (Snapshot s) = (s.writer < 2 ^ 32) × (s.number < 2 ^ 64)
NumbersFit (Clone c) = (c.writer < 2 ^ 32) × (c.number < 2 ^ 64)
NumbersFit (Destroy d) = (d.writer < 2 ^ 32) × (d.number < 2 ^ 64)
NumbersFit Close = Unit {0}
NumbersFit Quiesced = Unit {0}
NumbersFit Plan = Unit {0}
NumbersFit Device = Unit {0}
NumbersFit Commit = Unit {0}
NumbersFit Sync = Unit {0}
NumbersFit (Read r) = (r.offset < 2 ^ 64) × (r.len < 2 ^ 64)
NumbersFit (Under u) = (u.group < 2 ^ 64) × (u.offset < 2 ^ 64) × (u.len < 2 ^ 64)
NumbersFit (Out disk) = disk < 2 ^ 32
NumbersFit (Stop stop) = StopFits stop
NumbersFit (Reopen r) = (r.rewind ≤ 2) × AllByRecursion (λ disk. disk < 2 ^ 32) r.absent

-- a command that a line can say
pub record IsSayable (c : Command) : Type 0 where
  pub words : AllByRecursion IsWord (words_of c)
  pub numbers : NumbersFit c

-- an empty line, or one that begins with '#'
abbrev pub IsSkipped : List ℕ → Type 0
IsSkipped [] = Unit {0}
IsSkipped (b ∷ bytes) = b ≡ 35

-- the words of a command, parted by one space
abbrev pub line_of_command : Command → List ℕ
line_of_command c = join_with_byte 32 (words_of c)

-- the bytes spell the line
abbrev pub Spells : Line → List ℕ → Type 0
Spells Skipped bytes = IsSkipped bytes
Spells Threads bytes = bytes ≡ codes "threads"
Spells (CommandLine c) bytes = IsSayable c × (bytes ≡ line_of_command c)
