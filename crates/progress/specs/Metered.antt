-- Readers and writers that tell how much has passed.
use Rattle.progress.specs.declared.meter.Metered.{Metered}

-- what is read or written
abbrev pub inner_of : {T E : Type 0} → Metered T E → T
inner_of metered = metered.inner
