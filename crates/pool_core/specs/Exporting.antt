-- When a pool may be exported.
use Rattle.std.specs.Prelude.{◌≡◌, true, false}
use Rattle.pool_intake.specs.Rest.{IsAtRest}
use Rattle.pool_model.specs.View.{View, is_suspended}
use Rattle.pool_model.specs.declared.refusal.Refusal.{Refusal}
use Rattle.pool_model.specs.declared.refusal.Refusal.TheVariants.{Suspended, NotNow}
use Rattle.pool_core.specs.Represents.{Represents}
use Rattle.pool_core.specs.State.{CoreState}

-- the pool is not suspended, and all that it accepted is committed
pub record MayBeExported (v : View) : Type 0 where
  pub runs : is_suspended v ≡ false
  pub at_rest : IsAtRest v

-- so it is in each view that the core represents
abbrev pub IsExportable : CoreState → Type 0
IsExportable core = (v : View) → Represents core v → MayBeExported v

-- In each such view the pool is suspended; or it is not, and something that it accepted isn't committed, or a group is synced or waits.
abbrev pub IsAgainstExport : CoreState → Refusal → Type 0
IsAgainstExport core Suspended = (v : View) → Represents core v → is_suspended v ≡ true
IsAgainstExport core NotNow = (v : View) → Represents core v → (is_suspended v ≡ false) × ¬ IsAtRest v
IsAgainstExport core cause = ⊥
