-- Uberblocks that have a spelling.
use Rattle.std.proofs.Common.{sym, zero, suc, ◌<◌, List, [], ◌∷◌, Contains, subst, arith}
use Rattle.std.specs.List.{AllByRecursion}
use Rattle.block_pointer.specs.Copies.{dvas}
use Rattle.block_pointer.specs.Dva.{FitsDva}
use Rattle.uberblock_ring.specs.Uberblock.{Fits}
use Rattle.uberblock_ring.specs.declared.uberblock.Uberblock.{Uberblock}
use Rattle.pool_commit.specs.HasDisks.{HasSpelling}
use Rattle.pool_commit.proofs.SlotWrites.{there_first, there_later}

all_of : {X : Type 0} (P : X → Type 0) (xs : List X) → ((x : X) → Contains xs x → P x) → AllByRecursion P xs
all_of P [] each = tt
all_of P (x ∷ xs) each = (each x (there_first x xs), all_of P xs (λ y held. each y (there_later x xs y held)))

one_of : {X : Type 0} (P : X → Type 0) (xs : List X) → AllByRecursion P xs → (x : X) → Contains xs x → P x
one_of P [] all x held = absurd (omega (arith, held.1))
one_of P (y ∷ xs) all x (zero, within, is) = subst P is all.0
one_of P (y ∷ xs) all x (suc k, within, is) = one_of P xs all.1 x (k, omega (arith, within), is)

pub spelled_fits : (u : Uberblock) → HasSpelling u → Fits u
spelled_fits u has = record {
  group = has.group;
  claim = has.claim;
  guid_sum = has.guid_sum;
  timestamp = has.timestamp;
  root = has.root;
  root_fits = record {
    copies = all_of FitsDva (dvas u.root.copies) has.copies;
    property = has.property;
    born = subst (λ n. 0 < n) (sym has.root.born) has.group.0;
    birth = has.birth;
    filled = has.filled;
    fill = has.fill;
    fill_of_data = has.fill_of_data;
  };
  checksum = has.checksum;
  config_digest = has.config_digest;
}

pub fits_spelled : (u : Uberblock) → Fits u → HasSpelling u
fits_spelled u fits = record {
  group = fits.group;
  claim = fits.claim;
  guid_sum = fits.guid_sum;
  timestamp = fits.timestamp;
  root = fits.root;
  copies = one_of FitsDva (dvas u.root.copies) fits.root_fits.copies;
  property = fits.root_fits.property;
  birth = fits.root_fits.birth;
  filled = fits.root_fits.filled;
  fill = fits.root_fits.fill;
  fill_of_data = fits.root_fits.fill_of_data;
  checksum = fits.checksum;
  config_digest = fits.config_digest;
}
