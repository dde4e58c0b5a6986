-- How long the spelling of a label is that has another one's numbers.
use Rattle.std.proofs.Common.{◌≡◌, ℕ, List, length, refl, arith}
use Rattle.nvlist.specs.Grammar.{pairs_bytes}
use Rattle.nvlist.specs.Plain.{PlainValue, PlainList, number, pair}
use Rattle.vdev_label.specs.Area.{HasRoom}
use Rattle.vdev_label.specs.Pairs.{label_pairs}
use Rattle.vdev_label.specs.Plain.{PlainLabel}
use Rattle.vdev_label.proofs.Rooms.{number_length, pair_length, spelling_length}
use Rattle.pool_slots.specs.Labels.{renumbered}

-- two lists that are as long
record AsLong (l m : PlainList) : Type 0 where
  same : length (pairs_bytes l) ≡ length (pairs_bytes m)

itself : (l : PlainList) → AsLong l l
itself l = record { same = refl }

other_number : (name : List ℕ) (m n : ℕ) (others them : PlainList) → AsLong others them → AsLong (pair name (number m) others) (pair name (number n) them)
other_number name m n others them same =
    record { same = omega (arith, pair_length name (number m) others, pair_length name (number n) them, number_length m, number_length n, same.same) }

same_pair : (name : List ℕ) (value : PlainValue) (others them : PlainList) → AsLong others them → AsLong (pair name value others) (pair name value them)
same_pair name value others them same = record { same = omega (arith, pair_length name value others, pair_length name value them, same.same) }

as_long : (l own : PlainLabel) → AsLong (label_pairs (renumbered l own)) (label_pairs l)
as_long l own =
    same_pair _ _ _ _ (other_number _ own.guid l.guid _ _ (same_pair _ _ _ _ (same_pair _ _ _ _ (same_pair _ _ _ _ (other_number _ own.top_guid l.top_guid _ _ (itself _))))))

pub renumbered_has_room : (l own : PlainLabel) → HasRoom (label_pairs l) → HasRoom (label_pairs own) → HasRoom (label_pairs (renumbered l own))
renumbered_has_room l own has also =
    let f = has.fits.0.1 in
    let s = f.2.2.2.2 in
    let k = also.fits.0.1 in
    let o = k.2.2.2.2 in
    record {
      fits = ((has.fits.0.0, (f.0, f.1, (f.2.0, k.2.1, (f.2.2.0, f.2.2.1, (f.2.2.2.0, f.2.2.2.1, (s.0, s.1, (s.2.0, o.2.1, s.2.2))))))), has.fits.1);
      room = omega (arith, has.room, spelling_length (label_pairs l), spelling_length (label_pairs (renumbered l own)), (as_long l own).same);
    }
