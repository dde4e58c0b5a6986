-- The words that lines begin with.
use Rattle.std.specs.Prelude.{List, [], ◌∷◌, ℕ, Option, codes, find}
use Rattle.std.specs.Str.{bytes_eq}
use Rattle.schedule_lines.specs.declared.keyword.Keyword.{Keyword}
use Rattle.schedule_lines.specs.declared.keyword.Keyword.TheVariants.{Pool, Hold, Release, Write, Create, Snapshot, Clone, Destroy, Close, Quiesced, Plan, Device, Commit, Sync, Read, Under, Out, Stop, Reopen}

-- the word that the keyword is in a line
abbrev pub keyword_text : Keyword → List ℕ
keyword_text Pool = codes "pool"
keyword_text Hold = codes "hold"
keyword_text Release = codes "release"
keyword_text Write = codes "write"
keyword_text Create = codes "create"
keyword_text Snapshot = codes "snapshot"
keyword_text Clone = codes "clone"
keyword_text Destroy = codes "destroy"
keyword_text Close = codes "close"
keyword_text Quiesced = codes "quiesced"
keyword_text Plan = codes "plan"
keyword_text Device = codes "device"
keyword_text Commit = codes "commit"
keyword_text Sync = codes "sync"
keyword_text Read = codes "read"
keyword_text Under = codes "under"
keyword_text Out = codes "out"
keyword_text Stop = codes "stop"
keyword_text Reopen = codes "reopen"

-- all keywords
abbrev pub keywords : List Keyword
keywords = Pool ∷ Hold ∷ Release ∷ Write ∷ Create ∷ Snapshot ∷ Clone ∷ Destroy ∷ Close ∷ Quiesced ∷ Plan ∷ Device ∷ Commit ∷ Sync ∷ Read ∷ Under ∷ Out ∷ Stop ∷ Reopen ∷ []

-- the keyword that this word is, if it is one
unfoldable pub keyword_of : List ℕ → Option Keyword
keyword_of word = find (λ keyword. bytes_eq (keyword_text keyword) word) keywords
