-- How groups move: four counters, each of which a reply raises by one, and whether the synced group has a plan. That each step of the machine moves them so follows
-- from what Machine and Flow say of it.
use Rattle.std.specs.Prelude.{◌≡◌, ◌⊎◌, ℕ, suc, ◌≤◌, List, [], ◌∷◌, Bool, true, false, is_some, if◌then◌else◌}
use Rattle.pool_model.specs.declared.step.Step.{Step}
use Rattle.pool_model.specs.declared.step.Step.TheVariants.{Plan, Device, DiskOut}
use Rattle.pool_model.specs.declared.refusal.Refusal.{Refusal}
use Rattle.pool_model.specs.declared.refusal.Refusal.TheVariants.{Suspended, NotNow}
use Rattle.pool_model.specs.declared.step.Reply.{Reply}
use Rattle.pool_model.specs.declared.step.Reply.TheVariants.{Out, Held, Closed, Quiesced, Planned, Moved, Replan, Committed, Refused}
use Rattle.pool_model.specs.View.{View, is_syncing, is_planned, is_quiesced}

-- The groups up to each of these were committed, taken to be synced, quiesced, closed. The open group is the one after
-- the closed ones. Planned: the group that is synced has a plan.
pub record Counters : Type 0 where
  pub committed : ℕ
  pub taken : ℕ
  pub quiesced : ℕ
  pub closed : ℕ
  pub planned : Bool

-- the last group that was taken to be synced: the one after the committed one where that is synced, or else the committed one
abbrev pub taken_upto : View → ℕ
taken_upto v = if is_syncing v.sync then suc v.committed else v.committed

-- the counters of a view
abbrev pub counters_of : View → Counters
counters_of v = record {
  committed = v.committed;
  taken = taken_upto v;
  quiesced = if is_quiesced v.waiting then suc (taken_upto v) else taken_upto v;
  closed = if is_some v.waiting then suc (taken_upto v) else taken_upto v;
  planned = is_planned v.sync;
}

-- above the last committed group there are one that is synced or none, one that waits or none, and the open one
pub record AreInOrder (c : Counters) : Type 0 where
  pub one_synced : (c.committed ≤ c.taken) × (c.taken ≤ suc c.committed)
  pub one_waits : (c.taken ≤ c.closed) × (c.closed ≤ suc c.taken)
  pub quiesced_first : (c.taken ≤ c.quiesced) × (c.quiesced ≤ c.closed)

-- the next group, which is quiesced, is taken and has no plan; or it was taken before
pub record TakesNext (c d : Counters) : Type 0 where
  pub quiesced : suc c.committed ≤ c.quiesced
  pub unplanned : c.planned ≡ false
  pub taken : d ≡ record c { taken = suc c.committed }

-- A Plan that is refused for another cause than a suspended pool, or a group that is not due, leaves its group taken and
-- without a plan. A Device step whose fault suspends the pool drops the plan.
abbrev pub MovesRefused : Counters → Step → Refusal → Counters → Type 0
MovesRefused c (Plan timestamp) Suspended d = d ≡ c
MovesRefused c (Plan timestamp) NotNow d = d ≡ c
MovesRefused c (Plan timestamp) cause d = TakesNext c d
MovesRefused c Device Suspended d = (d ≡ c) ⊎ ((c.planned ≡ true) × (d ≡ record c { planned = false }))
MovesRefused c step cause d = d ≡ c

-- a disk goes out: a plan stays, or is dropped
abbrev pub MayUnplan : Counters → Counters → Type 0
MayUnplan c d = (d ≡ c) ⊎ (d ≡ record c { planned = false })

-- what a reply says of the groups, and how it moves them
abbrev pub MovesBy : Counters → Step → Reply → Counters → Type 0
MovesBy c step (Held group) d = (group ≡ suc c.closed) × (d ≡ c)
MovesBy c step (Closed group) d = (group ≡ suc c.closed) × (c.closed ≡ c.taken) × (d ≡ record c { closed = group })
MovesBy c step (Quiesced group) d = (group ≡ suc c.quiesced) × (group ≡ c.closed) × (d ≡ record c { quiesced = group })
MovesBy c step (Planned group) d = (group ≡ suc c.committed) × (group ≤ c.quiesced) × (c.planned ≡ false) × (d ≡ record c { taken = group; planned = true })
MovesBy c step (Moved phase) d = (c.planned ≡ true) × (d ≡ c)
MovesBy c step (Replan disk) d = (c.planned ≡ true) × (d ≡ record c { planned = false })
MovesBy c step (Committed group) d = (group ≡ suc c.committed) × (group ≡ c.taken) × (c.planned ≡ true) × (d ≡ record c { committed = group; planned = false })
MovesBy c (DiskOut disk) Out d = MayUnplan c d
MovesBy c step (Refused cause) d = MovesRefused c step cause d
MovesBy c step reply d = d ≡ c

-- a run's replies, one for each step, move the groups from c to d, each as MovesBy says
abbrev pub GroupsMove : Counters → List Step → List Reply → Counters → Type 0
GroupsMove c [] [] d = d ≡ c
GroupsMove c (step ∷ steps) (reply ∷ replies) d = (mid : Counters) × MovesBy c step reply mid × GroupsMove mid steps replies d
GroupsMove c steps replies d = ⊥

-- the groups answered as committed, in order
abbrev pub commits : List Reply → List ℕ
commits [] = []
commits (Committed group ∷ replies) = group ∷ commits replies
commits (reply ∷ replies) = commits replies
