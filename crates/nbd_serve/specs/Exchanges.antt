-- What client and server say to each other behind the handshake, and what it makes of the pool.
use Rattle.std.specs.Prelude.{◌≡◌, ◌⊎◌, ℕ, Bool, true, false, List, [], ◌∷◌, ◌++◌, Option, Some, None}
use Rattle.std.specs.List.{flat_map}
use Rattle.nbd_wire.specs.Requests.{command_of, request_bytes, simple_reply_bytes}
use Rattle.nbd_wire.specs.declared.errors.ErrorCode.{ErrorCode}
use Rattle.nbd_wire.specs.declared.requests.Command.{Command}
use Rattle.nbd_wire.specs.declared.requests.Command.TheVariants.{Flush, Read, Write}
use Rattle.nbd_wire.specs.declared.requests.RequestHead.{RequestHead}
use Rattle.volume_device.specs.Contents.{AreRead, Contents, IsCutOff, IsFlushed, IsSame, IsWritten}
use Rattle.nbd_serve.specs.Verdicts.{is_forced}
use Rattle.nbd_serve.specs.declared.answering.Answer.{Answer}

-- a request with the bytes to write, and its reply with the bytes that were read
pub record Exchange : Type 0 where
  pub head : RequestHead
  pub payload : List ℕ
  pub error : Option ErrorCode
  pub bytes : List ℕ

-- the exchange of this request and this answer
abbrev pub exchange : RequestHead → List ℕ → Answer → Exchange
exchange head payload answer = record { head = head; payload = payload; error = answer.error; bytes = answer.bytes.items }

-- what the client sends of an exchange: the request, and the bytes to write
abbrev pub asked : Exchange → List ℕ
asked e = request_bytes e.head ++ e.payload

-- what it gets: the reply, and the bytes that were read
abbrev pub replied : Exchange → List ℕ
replied e = simple_reply_bytes e.error e.head.cookie ++ e.bytes

-- all that the client sent, and all that it got
abbrev pub all_asked : List Exchange → List ℕ
all_asked exchanges = flat_map asked exchanges

-- all that the client gets, in order
abbrev pub all_replied : List Exchange → List ℕ
all_replied exchanges = flat_map replied exchanges

-- how many bytes stand behind the head of a request, and behind that of its reply
abbrev pub payload_len : Option Command → RequestHead → ℕ
payload_len (Some Write) head = head.len
payload_len other head = 0

-- how many bytes stand behind the head of a reply: those of a read without an error
abbrev pub reply_len : Option Command → RequestHead → Option ErrorCode → ℕ
reply_len (Some Read) head None = head.len
reply_len other head error = 0

-- a write is answered: it is written; with FUA, all is committed then
abbrev pub IsDone : Bool → List ℕ → ℕ → List ℕ → Contents → Contents → Type 0
IsDone false name offset bytes c d = IsWritten name offset bytes c d
IsDone true name offset bytes c d = (m : Contents) × IsWritten name offset bytes c m × IsFlushed m d

-- a write is refused: nothing has changed, or a front of it is written; with FUA it may be written, but not all is committed
abbrev pub IsNotDone : Bool → List ℕ → ℕ → List ℕ → Contents → Contents → Type 0
IsNotDone forced name offset bytes c d = IsSame c d ⊎ (IsCutOff name offset bytes c d ⊎ ((forced ≡ true) × IsWritten name offset bytes c d))

-- what an exchange of this command, with this error or none, makes of the pool
abbrev pub BecomesOf : List ℕ → Exchange → Option Command → Option ErrorCode → Contents → Contents → Type 0
BecomesOf name e (Some Read) None c d = AreRead name e.head.offset e.head.len e.bytes c d
BecomesOf name e (Some Write) None c d = IsDone (is_forced e.head) name e.head.offset e.payload c d
BecomesOf name e (Some Write) (Some code) c d = IsNotDone (is_forced e.head) name e.head.offset e.payload c d
BecomesOf name e (Some Flush) None c d = IsFlushed c d
BecomesOf name e other error c d = IsSame c d

-- what an exchange makes of the pool, in the volume of that name
abbrev pub Becomes : List ℕ → Exchange → Contents → Contents → Type 0
Becomes name e c d = BecomesOf name e (command_of e.head.kind) e.error c d

-- and exchanges in order
abbrev pub Exchanged : List ℕ → List Exchange → Contents → Contents → Type 0
Exchanged name [] c d = IsSame c d
Exchanged name (e ∷ exchanges) c d = (m : Contents) × Becomes name e c m × Exchanged name exchanges m d
