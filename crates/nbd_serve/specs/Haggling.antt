-- NBD protocol, "Newstyle negotiation": what is said before the transmission.
use Rattle.std.specs.Prelude.{◌≡◌, ◌≢◌, ◌⊎◌, ◌<◌, ◌≤◌, ◌^◌, ℕ, Bool, false, List, length, Option, Some, Result, Ok, Err}
use Rattle.std.specs.List.{AllByRecursion, flat_map}
use Rattle.std.specs.Io.KnownBytes.{Appends, Consumes}
use Rattle.nbd_wire.specs.Handshake.{client_flags_bytes, greeting_bytes}
use Rattle.nbd_wire.specs.Options.{SpellsOptionHead, option_kind_of}
use Rattle.nbd_wire.specs.declared.handshake.ClientFlags.{ClientFlags}
use Rattle.nbd_wire.specs.declared.options.OptionHead.{OptionHead}
use Rattle.nbd_wire.specs.declared.options.OptionKind.TheVariants.{ExportName}
use Rattle.nbd_serve.specs.Options.{Dealing, IsDealt, answered, is_known, optioned, wished}
use Rattle.nbd_serve.specs.declared.course.Course.{Course}
use Rattle.nbd_serve.specs.declared.course.Course.TheVariants.{GoesOn}
use Rattle.nbd_serve.specs.declared.ended.Ended.{Ended}
use Rattle.nbd_serve.specs.declared.ended.Ended.TheVariants.{Hostile, NoMemory, Output, Refused, Torn}
use Rattle.nbd_serve.specs.declared.export.Export.{Export}

-- the option's number has 32 bits, and its data have 64 KiB at most
pub record IsShort (option : ℕ) (content : List ℕ) : Type 0 where
  pub option_fits : option < 2 ^ 32
  pub content_fits : length content ≤ 2 ^ 16

-- an option of a client was answered, and led there
pub record IsSettled (export : Export) (no_zeroes : Bool) (d : Dealing) (course : Course) : Type 0 where
  pub short : IsShort d.option d.content
  pub dealt : IsDealt export no_zeroes d course

-- bytes that break the protocol: no option's head; the head of an option whose data are longer; or an EXPORT_NAME of no export
abbrev pub IsNoOption : Export → List ℕ → Type 0
IsNoOption export bytes = ((length bytes ≡ 16) × ((head : OptionHead) → ¬ SpellsOptionHead bytes head))
    ⊎ (((head : OptionHead) × SpellsOptionHead bytes head × (2 ^ 16 < head.len))
    ⊎ ((option : ℕ) × (name : List ℕ) × (option_kind_of option ≡ Some ExportName) × (bytes ≡ optioned option name) × (is_known export name ≡ false)))

module _ (export : Export) (no_zeroes : Bool) where
  -- options were answered, and each led to the next
  pub record Deals (input left output written : Option (List ℕ)) : Type 0 where
    pub dealings : List Dealing
    pub each : AllByRecursion (λ d. IsSettled export no_zeroes d GoesOn) dealings
    pub asked : Consumes input left (flat_map wished dealings)
    pub told : Appends output written (flat_map answered dealings)

  -- behind them one led elsewhere
  pub record DealsUpTo (course : Course) (input left output written : Option (List ℕ)) : Type 0 where
    pub between : Option (List ℕ)
    pub sent : Option (List ℕ)
    pub before : Deals input between output sent
    pub last : Dealing
    pub ends : course ≢ GoesOn
    pub is_settled : IsSettled export no_zeroes last course
    pub asked : Consumes between left (wished last)
    pub told : Appends sent written last.answer

  -- behind them the client broke the protocol
  pub record BreaksOff (input left output written : Option (List ℕ)) : Type 0 where
    pub between : Option (List ℕ)
    pub before : Deals input between output written
    pub bytes : List ℕ
    pub none : IsNoOption export bytes
    pub asked : Consumes between left bytes

  -- behind them nothing more was told: the input tore, or memory ran out
  abbrev pub StopsShort : Option (List ℕ) → Option (List ℕ) → Option (List ℕ) → Type 0
  StopsShort input output written = (between : Option (List ℕ)) × Deals input between output written

  -- how the options end
  abbrev pub EndsOptions : Option (List ℕ) → Option (List ℕ) → Option (List ℕ) → Option (List ℕ) → Result Course Ended → Type 0
  EndsOptions input left output written (Ok course) = DealsUpTo course input left output written
  EndsOptions input left output written (Err Torn) = StopsShort input output written
  EndsOptions input left output written (Err NoMemory) = StopsShort input output written
  EndsOptions input left output written (Err Hostile) = BreaksOff input left output written
  EndsOptions input left output written (Err Output) = Unit {0}
  EndsOptions input left output written (Err (Refused cause)) = ⊥

-- the four bytes of client flags that no client may have
abbrev pub AreNoFlags : List ℕ → Type 0
AreNoFlags bytes = (length bytes ≡ 4) × ((flags : ClientFlags) → bytes ≢ client_flags_bytes flags)

-- the client told no flags, or broke the protocol by them
abbrev pub HasNoFlags : Option (List ℕ) → Option (List ℕ) → Result Course Ended → Type 0
HasNoFlags input left (Err Torn) = Unit {0}
HasNoFlags input left (Err Hostile) = (bytes : List ℕ) × AreNoFlags bytes × Consumes input left bytes
HasNoFlags input left other = ⊥

module _ (export : Export) (input left output written : Option (List ℕ)) (result : Result Course Ended) where
  -- the client told its flags, and then its options
  pub record HasFlags (greeted : Option (List ℕ)) : Type 0 where
    pub flags : ClientFlags
    pub behind : Option (List ℕ)
    pub told : Consumes input behind (client_flags_bytes flags)
    pub ends : EndsOptions export flags.no_zeroes behind left greeted written result

  -- the client was greeted
  pub record Haggles : Type 0 where
    pub greeted : Option (List ℕ)
    pub greets : Appends output greeted greeting_bytes
    pub flags : ((written ≡ greeted) × HasNoFlags input left result) ⊎ HasFlags greeted
