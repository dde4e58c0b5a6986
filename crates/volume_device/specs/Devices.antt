-- What a device shows, and what its calls lead to.
use Rattle.std.specs.Prelude.{◌≡◌, ℕ, suc, Bool, true, false, List, [], ◌∷◌, Option, Some, None}
use Rattle.pool_model.specs.declared.group.Holder.{Holder}
use Rattle.pool_model.specs.declared.refusal.Refusal.{Refusal}
use Rattle.pool_model.specs.Pools.{no_items}
use Rattle.pool_model.specs.View.{View, Idle, now_of}
use Rattle.pool_steps.specs.declared.steps.PoolSteps.{Ghosts}
use Rattle.volume_device.specs.Contents.{Contents}
use Rattle.volume_device.specs.declared.device.Device.{Device}

-- the pool that the device is a volume of
abbrev pub core_of : {P : Type 0} → Device P → P
core_of device = device.core

-- the volume's or the snapshot's name
abbrev pub name_of : {P : Type 0} → Device P → List ℕ
name_of device = device.name

-- the session's hold of the open group, where it has one
abbrev pub holds_of : ℕ → Bool → List Holder
holds_of group true = record { writer = 1; group = group } ∷ []
holds_of group false = []

-- The session goes on from this view: no group waits or is synced, nobody else holds one, and the open one has nothing but writes, each of them counted as pending.
pub record GoesOnFrom (v : View) (number pending : ℕ) (held : Bool) : Type 0 where
  pub idle : v.sync ≡ Idle
  pub none_waits : v.waiting ≡ None
  pub holds : v.holds ≡ holds_of (suc v.committed) held
  pub numbers : v.next 1 ≡ number
  pub only_writes : (v.ledger (suc v.committed)).actions ≡ []
  pub counts : pending ≡ 0 → v.ledger (suc v.committed) ≡ no_items

-- a commit was refused, and the session writes no more; or it goes on
abbrev pub MayGoOn : Option Refusal → View → ℕ → ℕ → Bool → Type 0
MayGoOn (Some cause) v number pending held = Unit {0}
MayGoOn None v number pending held = GoesOnFrom v number pending held

module _ {P : Type 0} (steps : Ghosts P) where
  -- the core is in a state in which its pool has this
  pub record Has (core : P) (c : Contents) : Type 0 where
    pub view : View
    pub represents : steps.represents core view
    pub now : now_of view ≡ c.now
    pub safe : view.pools view.committed ≡ c.safe

  -- the device's pool has this, and the session may go on
  pub record Shows (device : Device P) (c : Contents) : Type 0 where
    pub view : View
    pub represents : steps.represents device.core view
    pub now : now_of view ≡ c.now
    pub safe : view.pools view.committed ≡ c.safe
    pub goes_on : MayGoOn device.refused view device.number device.pending device.held

  -- whatever the pool had, where what the disks answered tells what was written it has become this
  abbrev pub Leads : Device P → Device P → (Contents → Contents → Type 0) → Type 0
  Leads old new becomes = (c : Contents) → Shows old c → steps.answers_tell old.core new.core → (d : Contents) × Shows new d × becomes c d
