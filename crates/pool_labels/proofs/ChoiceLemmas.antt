-- What a choice is made of.
use Rattle.std.proofs.Common.{ℕ, subst}
use Rattle.uberblock_ring.specs.declared.uberblock.Uberblock.{Uberblock}
use Rattle.vdev_label.specs.Plain.{config_view}
use Rattle.vdev_label.specs.declared.label.Label.{Label}
use Rattle.pool_labels.specs.Choices.{ChoiceRefuses, HasFitSource, IsConfigured, IsFound, IsValidAt, MembersRefuse, SourceRefuses}
use Rattle.pool_labels.specs.declared.refusal.Refusal.{Refusal}
use Rattle.pool_labels.specs.declared.refusal.Refusal.TheVariants.{NoMemory, BadLabel, NoUberblock, TooManyMissing, PoolMismatch, BadConfig}
use Rattle.pool_labels.specs.declared.scanned.Scan.{Scan}
use Rattle.pool_labels.specs.declared.scanned.ScannedLabel.{ScannedLabel}
use Rattle.pool_labels.proofs.LabelLemmas.{one_label}

pub no_source : (scan : Scan) (rewind : ℕ) (highest u : Uberblock) (refusal : Refusal) → IsFound scan rewind highest u → SourceRefuses scan.labels.items u refusal → ChoiceRefuses scan rewind refusal
no_source scan rewind highest u NoMemory found it = tt
no_source scan rewind highest u (BadLabel b) found it = absurd it
no_source scan rewind highest u PoolMismatch found it = absurd it
no_source scan rewind highest u NoUberblock found it = absurd it
no_source scan rewind highest u BadConfig found it = (highest, u, found, it)
no_source scan rewind highest u TooManyMissing found it = absurd it

pub too_few : (scan : Scan) (rewind : ℕ) (highest u : Uberblock) (i : ℕ) (l : Label) (refusal : Refusal) → IsConfigured scan rewind highest u i l
    → MembersRefuse scan (config_view l.config) refusal → ChoiceRefuses scan rewind refusal
too_few scan rewind highest u i l NoMemory configured it = tt
too_few scan rewind highest u i l (BadLabel b) configured it = absurd it
too_few scan rewind highest u i l PoolMismatch configured it = absurd it
too_few scan rewind highest u i l NoUberblock configured it = absurd it
too_few scan rewind highest u i l BadConfig configured it = absurd it
too_few scan rewind highest u i l TooManyMissing configured it = record { highest = highest; u = u; i = i; l = l; configured = configured; few = it }

pub configured_at : (scan : Scan) (rewind : ℕ) (highest u : Uberblock) (i : ℕ) (t : ScannedLabel) (m : Label) → IsFound scan rewind highest u → HasFitSource scan.labels.items u i
    → IsValidAt scan.labels.items i t m → IsConfigured scan rewind highest u i m
configured_at scan rewind highest u i t m found src at =
    let P : Label → Type 0 = IsConfigured scan rewind highest u i in
    subst P (one_label scan.labels.items i src.0 t src.1 m src.2.at at) (record { found = found; s = src.0; source = src.2; fit = src.3 })
