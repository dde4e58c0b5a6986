-- Which steps are counted.
use Rattle.std.specs.Prelude.{◌≡◌, ℕ, ◌+◌, List, map, count_by, Bool, true, false, if◌then◌else◌, Result, OnOk, OnErr}
use Rattle.pool_model.specs.declared.step.Step.{Step}
use Rattle.pool_model.specs.declared.step.Step.TheVariants.{Close, Quiesce, Plan, Device, DiskOut}
use Rattle.pool_model.specs.declared.step.Reply.{Reply}
use Rattle.shared_pool.specs.declared.recorded.Entry.{Entry}
use Rattle.shared_pool.specs.declared.refusal.Refusal.{Refusal}

-- a writer takes holds, writes, acts, reads and releases; the rest are steps of the quiescer and the syncer, and disks that are taken out
abbrev pub is_writers : Step → Bool
is_writers Close = false
is_writers Quiesce = false
is_writers (Plan timestamp) = false
is_writers Device = false
is_writers (DiskOut disk) = false
is_writers step = true

-- how many steps of writers the step is
abbrev pub weight_of : Step → ℕ
weight_of step = if is_writers step then 1 else 0

-- how many steps of writers the record has
abbrev pub writers_steps : List Entry → ℕ
writers_steps entries = count_by (λ e. is_writers e.step) entries

-- the recorded steps, in order
abbrev pub steps_of : List Entry → List Step
steps_of entries = map (λ e. e.step) entries

-- their replies, in order
abbrev pub replies_of : List Entry → List Reply
replies_of entries = map (λ e. e.reply) entries

-- a share counts this many steps more, where a step was taken
abbrev pub Counts : {A : Type 0} → ℕ → Result A Refusal → ℕ → ℕ → Type 0
Counts weight result old new = OnOk result (new ≡ old + weight) × OnErr result (new ≡ old)
