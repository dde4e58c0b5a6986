-- What a pool has whose one volume is written, and what reads, writes and flushes of it make of that.
use Rattle.std.specs.Prelude.{◌≡◌, ◌⊎◌, ℕ, ◌+◌, ◌≤◌, List, [], ◌++◌, length, Some, false}
use Rattle.pool_model.specs.declared.volume.PlainVolume.{PlainVolume}
use Rattle.pool_model.specs.Machine.{AreBytesOf}
use Rattle.pool_model.specs.Pools.{AreAscending, PlainPool, is_snapshot, volume_at, written}
use Rattle.pool_model.specs.View.{View}

-- now: after all that was written; safe: what is committed, and so outlives a stop
pub record Contents : Type 0 where
  pub now : PlainPool
  pub safe : PlainPool

-- all is committed
abbrev pub at_rest : View → Contents
at_rest v = record { now = v.pools v.committed; safe = v.pools v.committed }

-- the pool once the bytes stand in the volume of that name, from the offset on
abbrev pub overwritten : List ℕ → ℕ → List ℕ → PlainPool → PlainPool
overwritten name offset bytes pool = written pool (record { writer = 1; number = 1; volume = name; offset = offset; bytes = bytes })

-- So a pool became another: what it has at each name is that; and it is that pool, where the one before had its volumes in the order of their names, each name once.
pub record IsOverwritten (name : List ℕ) (offset : ℕ) (bytes : List ℕ) (before after : PlainPool) : Type 0 where
  pub each : (other : List ℕ) → volume_at other after ≡ volume_at other (overwritten name offset bytes before)
  pub whole : AreAscending before.volumes → after ≡ overwritten name offset bytes before

-- nothing has changed, neither what there is now nor what is committed
abbrev pub IsSame : Contents → Contents → Type 0
IsSame c d = d ≡ c

-- the range lies within the volume or snapshot of that name
pub record HasRange (pool : PlainPool) (name : List ℕ) (offset len : ℕ) : Type 0 where
  pub volume : PlainVolume
  pub there : volume_at name pool ≡ Some volume
  pub within : offset + len ≤ length volume.bytes

-- these bytes are that range of the volume, which lies within it, and nothing has changed
abbrev pub AreRead : List ℕ → ℕ → ℕ → List ℕ → Contents → Contents → Type 0
AreRead name offset len bytes c d = AreBytesOf c.now name offset len bytes × (d ≡ c) × HasRange c.now name offset len

-- the range lies within the volume of that name, which is no snapshot
pub record FitsIn (pool : PlainPool) (name : List ℕ) (offset len : ℕ) : Type 0 where
  pub volume : PlainVolume
  pub there : volume_at name pool ≡ Some volume
  pub plain : is_snapshot volume.kind ≡ false
  pub within : offset + len ≤ length volume.bytes

-- The bytes are written, as by one write, where they fit (or there are none). What is committed stays; or all is committed, these bytes too.
pub record IsWritten (name : List ℕ) (offset : ℕ) (bytes : List ℕ) (c d : Contents) : Type 0 where
  pub fits : (bytes ≡ []) ⊎ FitsIn c.now name offset (length bytes)
  pub now : IsOverwritten name offset bytes c.now d.now
  pub safe : (d.safe ≡ c.safe) ⊎ (d.safe ≡ d.now)

-- the bytes are written so, and nothing more is committed
pub record IsWrittenOn (name : List ℕ) (offset : ℕ) (bytes : List ℕ) (c d : Contents) : Type 0 where
  pub fits : (bytes ≡ []) ⊎ FitsIn c.now name offset (length bytes)
  pub now : IsOverwritten name offset bytes c.now d.now
  pub safe : d.safe ≡ c.safe

-- a front of the bytes is written, which fits (or is empty), and nothing more is committed
pub record IsCutOff (name : List ℕ) (offset : ℕ) (bytes : List ℕ) (c d : Contents) : Type 0 where
  pub front : List ℕ
  pub back : List ℕ
  pub parts : bytes ≡ front ++ back
  pub fits : (front ≡ []) ⊎ FitsIn c.now name offset (length front)
  pub now : IsOverwritten name offset front c.now d.now
  pub safe : d.safe ≡ c.safe

-- all that was written is committed
pub record IsFlushed (c d : Contents) : Type 0 where
  pub now : d.now ≡ c.now
  pub safe : d.safe ≡ c.now

-- nothing has changed, or all that was written is committed
abbrev pub IsSettled : Contents → Contents → Type 0
IsSettled c d = (d ≡ c) ⊎ IsFlushed c d
