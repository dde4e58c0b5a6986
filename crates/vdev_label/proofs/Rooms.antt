-- How long the spelling of a label is.
use Rattle.std.proofs.Common.{◌≡◌, ◌<◌, ◌≤◌, ◌∙◌, ◌+◌, ◌^◌, ℕ, List, ◌++◌, length, refl, ap, arith}
use Rattle.std.specs.Int.{w32, w64, to_be_bytes}
use Rattle.std.proofs.lemmas.List.{length-append}
use Rattle.nvlist.specs.Grammar.{text_bytes, value_bytes, pairs_bytes, spelling}
use Rattle.nvlist.specs.Plain.{PlainValue, PlainList, number, pair, pair_count}
use Rattle.vdev_label.specs.Area.{HasRoom}
use Rattle.vdev_label.specs.Config.{FitsConfig}
use Rattle.vdev_label.specs.Pairs.{label_pairs, state_number}
use Rattle.vdev_label.specs.Plain.{PlainLabel}
use Rattle.vdev_label.specs.Room.{relabeled}
use Rattle.vdev_label.specs.declared.label.State.{State}
use Rattle.vdev_label.specs.declared.label.State.TheVariants.{Active, Exported}

pub number_length : (n : ℕ) → length (value_bytes (number n)) ≡ 12
number_length n = length-append (to_be_bytes w32 8) (to_be_bytes w64 n) ∙ refl

pub pair_length : (name : List ℕ) (value : PlainValue) (others : PlainList)
    → length (pairs_bytes (pair name value others)) ≡ length (text_bytes name) + (length (value_bytes value) + length (pairs_bytes others))
pair_length name value others =
    length-append (text_bytes name) (value_bytes value ++ pairs_bytes others) ∙ ap (λ n. length (text_bytes name) + n) (length-append (value_bytes value) (pairs_bytes others))

-- two lists that are as long
record AsLong (l m : PlainList) : Type 0 where
  same : length (pairs_bytes l) ≡ length (pairs_bytes m)

itself : (l : PlainList) → AsLong l l
itself l = record { same = refl }

other_number : (name : List ℕ) (m n : ℕ) (others them : PlainList) → AsLong others them → AsLong (pair name (number m) others) (pair name (number n) them)
other_number name m n others them same =
    record { same = omega (arith, pair_length name (number m) others, pair_length name (number n) them, number_length m, number_length n, same.same) }

same_pair : (name : List ℕ) (value : PlainValue) (others them : PlainList) → AsLong others them → AsLong (pair name value others) (pair name value them)
same_pair name value others them same = record { same = omega (arith, pair_length name value others, pair_length name value them, same.same) }

pub spelling_length : (l : PlainList) → length (spelling l) ≡ 4 + length (pairs_bytes l)
spelling_length l = length-append (to_be_bytes w32 (pair_count l)) (pairs_bytes l)

pub state_fits : (s : State) → state_number s < 2 ^ 64
state_fits Active = omega arith
state_fits Exported = omega arith

as_long : (l : PlainLabel) (claim group : ℕ) (state : State) → AsLong (label_pairs (relabeled l claim group state)) (label_pairs l)
as_long l claim group state =
    other_number _ claim l.claim _ _ (same_pair _ _ _ _ (same_pair _ _ _ _ (same_pair _ _ _ _ (other_number _ (state_number state) (state_number l.state) _ _ (same_pair _ _ _ _ (other_number _ group l.group _ _ (itself _)))))))

pub relabeled_has_room : (l : PlainLabel) (claim group : ℕ) (state : State) → claim ≤ 2 ^ 62 → group ≤ 2 ^ 62 → HasRoom (label_pairs l) → HasRoom (label_pairs (relabeled l claim group state))
relabeled_has_room l claim group state claim_to group_to has =
    let f = has.fits.0.1 in
    let s = f.2.2.2.2 in
    let g = s.2.2 in
    record {
      fits = ((has.fits.0.0, (f.0, omega (arith, claim_to), (f.2.0, f.2.1, (f.2.2.0, f.2.2.1, (f.2.2.2.0, f.2.2.2.1, (s.0, state_fits state, (s.2.0, s.2.1, (g.0, omega (arith, group_to), g.2)))))))), has.fits.1);
      room = omega (arith, has.room, spelling_length (label_pairs l), spelling_length (label_pairs (relabeled l claim group state)), (as_long l claim group state).same);
    }

pub config_of_label_fits : (l : PlainLabel) → HasRoom (label_pairs l) → FitsConfig l.vdevs
config_of_label_fits l has =
    let f = has.fits.0.1 in
    let tree = f.2.2.2.2.2.2.2 in
    (tree.1, omega (arith, has.fits.1))
