-- Reading as functions on lists of words: what stands at the front, and the words after it.
use Rattle.std.specs.Prelude.{◌≡◌, ℕ, ◌^◌, ◌==◌, ◌&&◌, nat_lt, List, [], ◌∷◌, length, Option, Some, None, option_map, codes, Result, Ok, Err, if◌then◌else◌}
use Rattle.std.specs.List.{slice_split}
use Rattle.std.specs.Fmt.{decimal}
use Rattle.std.specs.Str.{bytes_eq}
use Rattle.std.specs.Str.Parse.{digits_value}
use Rattle.schedule_lines.specs.declared.refusal.Refusal.{Refusal}
use Rattle.schedule_lines.specs.declared.refusal.Refusal.TheVariants.{Fault, NoMemory}
use Rattle.schedule_lines.specs.declared.command.Line.{Line}
use Rattle.schedule_lines.specs.declared.command.Line.TheVariants.{Skipped, Threads, Command as CommandLine}
use Rattle.schedule_lines.specs.declared.command.Command.{Command}
use Rattle.schedule_lines.specs.declared.command.Command.TheVariants.{Pool, Hold, Release, Write, Create, Snapshot, Clone, Destroy, Close, Quiesced, Plan, Device, Commit, Sync, Read, Under, Out, Stop, Reopen}
use Rattle.schedule_lines.specs.declared.command.StopPoint.{StopPoint}
use Rattle.schedule_lines.specs.declared.command.StopPoint.TheVariants.{Blocks, Slots, Claim}
use Rattle.schedule_lines.specs.declared.command.PoolLine.{PoolLine}
use Rattle.schedule_lines.specs.declared.command.WriteLine.{WriteLine}
use Rattle.schedule_lines.specs.declared.command.CreateLine.{CreateLine}
use Rattle.schedule_lines.specs.declared.command.SnapshotLine.{SnapshotLine}
use Rattle.schedule_lines.specs.declared.command.CloneLine.{CloneLine}
use Rattle.schedule_lines.specs.declared.command.DestroyLine.{DestroyLine}
use Rattle.schedule_lines.specs.declared.command.ReadLine.{ReadLine}
use Rattle.schedule_lines.specs.declared.command.UnderLine.{UnderLine}
use Rattle.schedule_lines.specs.declared.command.ReopenLine.{ReopenLine}
use Rattle.schedule_lines.specs.declared.keyword.Keyword.{Keyword}
use Rattle.schedule_lines.specs.declared.keyword.Keyword.TheVariants as keyword
use Rattle.schedule_lines.specs.Hexadecimal.{byte_text}
use Rattle.schedule_lines.specs.Keywords.{keyword_of}

infixl 10 ◌>>=◌
-- what is read next, by what was read before; nothing where nothing was
abbrev pub ◌>>=◌ : {A B : Type 0} → Option A → (A → Option B) → Option B
(Some x) >>= f = f x
None >>= f = None

-- what is read at the front of some words, and the words behind it; or nothing
abbrev pub Parse : Type 0 → Type 0
Parse A = List (List ℕ) → Option (A × List (List ℕ))

-- the words of what stands behind the words that were taken
abbrev pub words_left : Option (List ℕ) → List (List ℕ)
words_left None = []
words_left (Some bytes) = slice_split (λ b. b == 32) bytes

-- the number, where it is below the limit and the word is its text
abbrev pub if_text : (ℕ → List ℕ) → ℕ → List ℕ → ℕ → Option ℕ
if_text text limit word n = if nat_lt n limit && bytes_eq (text n) word then Some n else None

-- the number below the limit that this word is in decimal, without leading zeros
unfoldable pub number_of : ℕ → List ℕ → Option ℕ
number_of limit word = if_text decimal limit word (digits_value 10 word)

-- the byte that this word is in two hexadecimal digits, lower case
unfoldable pub byte_of : List ℕ → Option ℕ
byte_of word = if_text byte_text (2 ^ 8) word (digits_value 16 word)

-- the first word
abbrev pub word_at : Parse (List ℕ)
word_at [] = None
word_at (word ∷ words) = Some (word, words)

-- a number below the limit
unfoldable pub number_at : ℕ → Parse ℕ
number_at limit words = do
  word ← word_at words
  number ← number_of limit word.0
  Some (number, word.1)

-- a byte in two hexadecimal digits
unfoldable pub byte_at : Parse ℕ
byte_at words = do
  word ← word_at words
  byte ← byte_of word.0
  Some (byte, word.1)

-- a word of one byte or more, good as a name or not
unfoldable pub name_at : Parse (List ℕ)
name_at words = do
  word ← word_at words
  if length word.0 == 0 then None else Some word

-- no words
abbrev pub end_at : List (List ℕ) → Option (Unit {0})
end_at [] = Some tt
end_at (word ∷ words) = None

-- the arguments of `pool P C BYTES MS META`
unfoldable pub pool_at : Parse PoolLine
pool_at words = do
  parities ← number_at (2 ^ 32) words
  disks ← number_at (2 ^ 32) parities.1
  bytes ← number_at (2 ^ 64) disks.1
  metaslab_shift ← number_at (2 ^ 32) bytes.1
  meta_metaslabs ← number_at (2 ^ 32) metaslab_shift.1
  Some (record { parities = parities.0; disks = disks.0; bytes = bytes.0; metaslab_shift = metaslab_shift.0; meta_metaslabs = meta_metaslabs.0 }, meta_metaslabs.1)

-- the arguments of `write W N VOL OFF LEN BYTE`
unfoldable pub write_at : Parse WriteLine
write_at words = do
  writer ← number_at (2 ^ 32) words
  number ← number_at (2 ^ 64) writer.1
  volume ← name_at number.1
  offset ← number_at (2 ^ 64) volume.1
  len ← number_at (2 ^ 64) offset.1
  byte ← byte_at len.1
  Some (record { writer = writer.0; number = number.0; volume = volume.0; offset = offset.0; len = len.0; byte = byte.0 }, byte.1)

-- the arguments of `create W N VOL SIZE BLOCK`
unfoldable pub create_at : Parse CreateLine
create_at words = do
  writer ← number_at (2 ^ 32) words
  number ← number_at (2 ^ 64) writer.1
  volume ← name_at number.1
  size ← number_at (2 ^ 64) volume.1
  block_size ← number_at (2 ^ 64) size.1
  Some (record { writer = writer.0; number = number.0; volume = volume.0; size = size.0; block_size = block_size.0 }, block_size.1)

-- the arguments of `snapshot W N VOL PART`
unfoldable pub snapshot_at : Parse SnapshotLine
snapshot_at words = do
  writer ← number_at (2 ^ 32) words
  number ← number_at (2 ^ 64) writer.1
  volume ← name_at number.1
  part ← name_at volume.1
  Some (record { writer = writer.0; number = number.0; volume = volume.0; part = part.0 }, part.1)

-- the arguments of `clone W N VOL@PART NAME`
unfoldable pub clone_at : Parse CloneLine
clone_at words = do
  writer ← number_at (2 ^ 32) words
  number ← number_at (2 ^ 64) writer.1
  snapshot ← name_at number.1
  name ← name_at snapshot.1
  Some (record { writer = writer.0; number = number.0; snapshot = snapshot.0; name = name.0 }, name.1)

-- the arguments of `destroy W N NAME`
unfoldable pub destroy_at : Parse DestroyLine
destroy_at words = do
  writer ← number_at (2 ^ 32) words
  number ← number_at (2 ^ 64) writer.1
  name ← name_at number.1
  Some (record { writer = writer.0; number = number.0; name = name.0 }, name.1)

-- the arguments of `read NAME OFF LEN`
unfoldable pub read_at : Parse ReadLine
read_at words = do
  name ← name_at words
  offset ← number_at (2 ^ 64) name.1
  len ← number_at (2 ^ 64) offset.1
  Some (record { name = name.0; offset = offset.0; len = len.0 }, len.1)

-- the arguments of `under G NAME OFF LEN`
unfoldable pub under_at : Parse UnderLine
under_at words = do
  group ← number_at (2 ^ 64) words
  name ← name_at group.1
  offset ← number_at (2 ^ 64) name.1
  len ← number_at (2 ^ 64) offset.1
  Some (record { group = group.0; name = name.0; offset = offset.0; len = len.0 }, len.1)

-- something is made of what was read, and the words behind it stay
abbrev pub of_read : {A B : Type 0} → (A → B) → Option (A × List (List ℕ)) → Option (B × List (List ℕ))
of_read f read = option_map (λ x. (f x.0, x.1)) read

-- the arguments behind the word that names a point
abbrev pub point_at : List ℕ → Parse StopPoint
point_at word words =
    if bytes_eq word (codes "blocks") then Some (Blocks, words)
    else (if bytes_eq word (codes "slots") then of_read Slots (number_at (2 ^ 32) words)
    else (if bytes_eq word (codes "claim") then of_read Claim (number_at (2 ^ 32) words)
    else None))

-- the arguments of `stop`: `blocks`, `slots K` or `claim K`
unfoldable pub stop_at : Parse StopPoint
stop_at words = do
  word ← word_at words
  point_at word.0 word.1

-- the numbers that all words spell
abbrev pub numbers_of : List (List ℕ) → Option (List ℕ)
numbers_of [] = Some []
numbers_of (word ∷ words) = do
  number ← number_of (2 ^ 32) word
  numbers ← numbers_of words
  Some (number ∷ numbers)

-- all words that are left
unfoldable pub numbers_at : Parse (List ℕ)
numbers_at words = option_map (λ numbers. (numbers, [])) (numbers_of words)

-- the arguments of `reopen R D ..`: how many groups it goes back, 0 to 2, and the absent disks
unfoldable pub reopen_at : Parse ReopenLine
reopen_at words = do
  rewind ← number_at 3 words
  absent ← numbers_at rewind.1
  Some (record { rewind = rewind.0; absent = absent.0 }, absent.1)

-- the arguments behind a keyword
unfoldable pub command_at : Keyword → Parse Command
command_at keyword.Pool words = of_read Pool (pool_at words)
command_at keyword.Hold words = of_read Hold (number_at (2 ^ 32) words)
command_at keyword.Release words = of_read Release (number_at (2 ^ 32) words)
command_at keyword.Write words = of_read Write (write_at words)
command_at keyword.Create words = of_read Create (create_at words)
command_at keyword.Snapshot words = of_read Snapshot (snapshot_at words)
command_at keyword.Clone words = of_read Clone (clone_at words)
command_at keyword.Destroy words = of_read Destroy (destroy_at words)
command_at keyword.Close words = Some (Close, words)
command_at keyword.Quiesced words = Some (Quiesced, words)
command_at keyword.Plan words = Some (Plan, words)
command_at keyword.Device words = Some (Device, words)
command_at keyword.Commit words = Some (Commit, words)
command_at keyword.Sync words = Some (Sync, words)
command_at keyword.Read words = of_read Read (read_at words)
command_at keyword.Under words = of_read Under (under_at words)
command_at keyword.Out words = of_read Out (number_at (2 ^ 32) words)
command_at keyword.Stop words = of_read Stop (stop_at words)
command_at keyword.Reopen words = of_read Reopen (reopen_at words)

-- a keyword with its arguments, and no word behind them
unfoldable pub whole_command : List (List ℕ) → Option Line
whole_command words = do
  word ← word_at words
  keyword ← keyword_of word.0
  command ← command_at keyword word.1
  end ← end_at command.1
  Some (CommandLine command.0)

-- a line that isn't skipped
unfoldable pub said_line : List ℕ → Option Line
said_line bytes = if bytes_eq bytes (codes "threads") then Some Threads else whole_command (slice_split (λ b. b == 32) bytes)

-- the line that these bytes are, if any: skipped (empty, or '#' in front), `threads`, or a command
unfoldable pub line_of : List ℕ → Option Line
line_of [] = Some Skipped
line_of (b ∷ bytes) = if b == 35 then Some Skipped else said_line (b ∷ bytes)

-- why reading is refused: memory ran out, or reading gives nothing
abbrev pub Fails : {A : Type 0} → Refusal → Option A → Type 0
Fails NoMemory read = Unit {0}
Fails Fault read = read ≡ None

-- a function answers what reading gives, seen by view; or memory ran out, or reading gives nothing
abbrev pub Gives : {X A : Type 0} → (X → A) → Result X Refusal → Option A → Type 0
Gives view (Ok x) read = read ≡ Some (view x)
Gives view (Err e) read = Fails e read
