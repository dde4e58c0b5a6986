-- What leads from device to device.
use Rattle.std.proofs.Common.{refl}
use Rattle.pool_steps.specs.declared.steps.PoolSteps.{Ghosts}
use Rattle.volume_device.specs.Contents.{Contents, IsSame}
use Rattle.volume_device.specs.Devices.{Leads, core_of}
use Rattle.volume_device.specs.declared.device.Device.{Device}

module _ {P : Type 0} (steps : Ghosts P) where
  pub leads_nowhere : (device : Device P) → Leads steps device device IsSame
  leads_nowhere device c shows tell = (c, shows, refl)

  pub leads_also : (old new : Device P) (becomes other : Contents → Contents → Type 0) → ((c d : Contents) → becomes c d → other c d) → Leads steps old new becomes → Leads steps old new other
  leads_also old new becomes other weaker leads c shows tell =
      let there = leads c shows tell in (there.0, there.1, weaker c there.0 there.2)

  module _ (parts_tell : (first mid last : P) → steps.came_from first mid → steps.came_from mid last → steps.answers_tell first last → steps.answers_tell first mid × steps.answers_tell mid last) where
    -- one after another
    pub leads_on : (old mid new : Device P) (one two : Contents → Contents → Type 0) → steps.came_from (core_of old) (core_of mid) → steps.came_from (core_of mid) (core_of new)
        → Leads steps old mid one → Leads steps mid new two → Leads steps old new (λ c d. (m : Contents) × one c m × two m d)
    leads_on old mid new one two to_mid to_new first second c shows tell =
        let parts = parts_tell (core_of old) (core_of mid) (core_of new) to_mid to_new tell in
        let there = first c shows parts.0 in
        let further = second there.0 there.1 parts.1 in (further.0, further.1, (there.0, there.2, further.2))
