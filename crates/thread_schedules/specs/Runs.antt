-- What the threads' record tells of the pool that they began with.
use Rattle.std.specs.Prelude.{◌≡◌, ℕ, zero, suc, List, Option, true}
use Rattle.pool_model.specs.View.{View, Given}
use Rattle.pool_model.specs.Headline.{Headline}
use Rattle.pool_create.specs.CoreRuns.{AreTrusted, Chain}
use Rattle.pool_create.specs.CoreState.{CoreState}
use Rattle.pool_create.specs.Represents.{Represents}
use Rattle.shared_pool.specs.declared.recorded.Entry.{Entry}
use Rattle.shared_pool.specs.Weights.{steps_of, replies_of}
use Rattle.thread_runs.specs.Printing.{WritesEntries}

-- The recorded steps, in their order and with their replies, are one chain of the core; so they tell what the headline says.
pub record IsRecordedRun (entries : List Entry) : Type 0 where
  pub first : CoreState
  pub before : View
  pub givens : List Given
  pub last : CoreState
  pub after : View
  pub trust : AreTrusted true givens
  pub begins : Represents first before
  pub chain : Chain first before (steps_of entries) givens (replies_of entries) last after
  pub headline : Headline before (steps_of entries) givens (replies_of entries) after
  pub represents : Represents last after

-- the output grows by the entries of a record: where the core that the threads began with represents a view, they are such a run
pub record PrintsRun (core : CoreState) (old new : Option (List ℕ)) : Type 0 where
  pub entries : List Entry
  pub runs : (v : View) → Represents core v → IsRecordedRun entries
  pub written : WritesEntries entries old new

-- it grows by so many of them, one behind the other
abbrev pub PrintsSoMany : CoreState → ℕ → Option (List ℕ) → Option (List ℕ) → Type 0
PrintsSoMany core zero old new = old ≡ new
PrintsSoMany core (suc count) old new = (between : Option (List ℕ)) × PrintsSoMany core count old between × PrintsRun core between new

-- the output grows by a number of such records, one behind the other, and by nothing else
abbrev pub PrintsRuns : CoreState → Option (List ℕ) → Option (List ℕ) → Type 0
PrintsRuns core old new = (count : ℕ) × PrintsSoMany core count old new
