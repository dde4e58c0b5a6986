-- What is said in a session, behind its handshake.
use Rattle.std.specs.Prelude.{◌≡◌, ◌⊎◌, ◌<◌, ◌^◌, ℕ, List, [], length, Option, Some, Result, Ok, Err}
use Rattle.std.specs.Io.KnownBytes.{Appends, Consumes, IsAtEnd}
use Rattle.nbd_wire.specs.Requests.{SpellsRequest, command_of}
use Rattle.nbd_wire.specs.declared.requests.Command.TheVariants.{Disconnect, Write}
use Rattle.nbd_wire.specs.declared.requests.RequestHead.{RequestHead}
use Rattle.nbd_serve.specs.Exchanges.{Exchange, all_asked, all_replied}
use Rattle.nbd_serve.specs.declared.ended.Ended.{Ended}
use Rattle.nbd_serve.specs.declared.ended.Ended.TheVariants.{Hostile, NoMemory, Output, Refused, Torn}

-- known bytes begin with these
abbrev pub Begins : Option (List ℕ) → List ℕ → Type 0
Begins known bytes = (left : Option (List ℕ)) × Consumes known left bytes

-- the head of a DISC
pub record IsDisconnect (bytes : List ℕ) : Type 0 where
  pub head : RequestHead
  pub spelled : SpellsRequest bytes head
  pub command : command_of head.kind ≡ Some Disconnect

-- a request's length of bytes that are no request's head, or the head of a write of more than 32 MiB
abbrev pub IsHostile : List ℕ → Type 0
IsHostile bytes = (length bytes ≡ 28) × (((head : RequestHead) → ¬ SpellsRequest bytes head)
    ⊎ ((head : RequestHead) × SpellsRequest bytes head × (command_of head.kind ≡ Some Write) × (2 ^ 25 < head.len)))

module _ (input left output written : Option (List ℕ)) (exchanges : List Exchange) where
  -- the exchanges were made, and behind them the client left by a DISC, or the input was at its end
  pub record IsLeft : Type 0 where
    pub last : List ℕ
    pub mid : Option (List ℕ)
    pub asked : Consumes input mid (all_asked exchanges)
    pub left_with : Consumes mid left last
    pub polite : IsDisconnect last ⊎ ((last ≡ []) × IsAtEnd left)
    pub replied : Appends output written (all_replied exchanges)

  -- the exchanges were made, and behind them the input tore
  pub record IsTorn : Type 0 where
    pub asked : Begins input (all_asked exchanges)
    pub replied : Appends output written (all_replied exchanges)

  -- the exchanges were made, and behind them the client broke the protocol
  pub record IsBroken : Type 0 where
    pub last : List ℕ
    pub mid : Option (List ℕ)
    pub asked : Consumes input mid (all_asked exchanges)
    pub broken : Consumes mid left last
    pub hostile : IsHostile last
    pub replied : Appends output written (all_replied exchanges)

  -- how the transmission ended
  abbrev pub Transmits : Result (Unit {0}) Ended → Type 0
  Transmits (Ok done) = IsLeft
  Transmits (Err Torn) = IsTorn
  Transmits (Err Hostile) = IsBroken
  Transmits (Err Output) = Begins input (all_asked exchanges)
  Transmits (Err (Refused cause)) = ⊥
  Transmits (Err NoMemory) = ⊥
