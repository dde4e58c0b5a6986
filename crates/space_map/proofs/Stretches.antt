-- How far what a sector is goes on.
use Rattle.std.proofs.Common.{◌≡◌, ℕ, ◌+◌, ◌<◌, ◌≤◌, true, false, List, [], ◌∷◌, refl, arith}
use Rattle.space_map.specs.declared.entry.Run.{Run}
use Rattle.space_map.specs.Sectors.{names, AreBetween}
use Rattle.space_map.specs.Stretches.{AreAhead, EndFrom, IsStretch}
use Rattle.space_map.proofs.RunLemmas.{is_named, is_before, is_past, none_before, ends_within}

-- before the first run no sector is free
pub not_free_up_to : (sectors at : ℕ) (r : Run) (rs : List Run) → AreBetween 0 (sectors + 1) (r ∷ rs) → at < r.start → IsStretch sectors (r ∷ rs) at (record { free = false; end = r.start })
not_free_up_to sectors at r rs apart below =
    let end : r.start + r.len + 1 ≤ sectors + 1 = ends_within (r.start + r.len + 1) (sectors + 1) rs apart.2 in
    let some : 0 < r.len = apart.1 in
    record {
      some = below;
      within = omega arith;
      each = λ s low high. let first : names r s ≡ false = is_before r s high in rw (first, none_before (r.start + r.len + 1) (sectors + 1) s rs apart.2 (omega arith)) refl;
      turns = λ more. let first : names r r.start ≡ true = is_named r r.start (omega arith) (omega arith) in rw first refl;
      end = omega arith;
    }

-- in the first run all are, up to its end
pub free_up_to : (sectors at : ℕ) (r : Run) (rs : List Run) → AreBetween 0 (sectors + 1) (r ∷ rs) → r.start ≤ at → at < r.start + r.len → IsStretch sectors (r ∷ rs) at (record { free = true; end = r.start + r.len })
free_up_to sectors at r rs apart low high =
    let end : r.start + r.len + 1 ≤ sectors + 1 = ends_within (r.start + r.len + 1) (sectors + 1) rs apart.2 in
    record {
      some = high;
      within = omega arith;
      each = λ s from below. let first : names r s ≡ true = is_named r s (omega arith) below in rw first refl;
      turns = λ more. let past : names r (r.start + r.len) ≡ false = is_past r (r.start + r.len) (omega arith) in rw (past, none_before (r.start + r.len + 1) (sectors + 1) (r.start + r.len) rs apart.2 (omega arith)) refl;
      end = omega arith;
    }

pub fits_sectors : (sectors : ℕ) (r : Run) (rs : List Run) → AreBetween 0 (sectors + 1) (r ∷ rs) → r.start + r.len ≤ sectors
fits_sectors sectors r rs apart = omega (arith, ends_within (r.start + r.len + 1) (sectors + 1) rs apart.2)

-- where the first run ends at a sector, the others end behind it
pub drop_ended : (sectors at : ℕ) (r : Run) (rs : List Run) → EndFrom at (r ∷ rs) → r.start + r.len ≤ at → AreBetween 0 (sectors + 1) (r ∷ rs) → AreAhead sectors (r ∷ rs) at rs
drop_ended sectors at r [] end past apart = record { apart = omega arith; end = tt; same = λ s from. let out : names r s ≡ false = is_past r s (omega arith) in rw out refl }
drop_ended sectors at r (q ∷ rs) end past apart =
    let behind : r.start + r.len + 1 ≤ q.start = apart.2.0 in
    let some : 0 < q.len = apart.2.1 in
    record { apart = (omega arith, apart.2.1, apart.2.2); end = omega arith; same = λ s from. let out : names r s ≡ false = is_past r s (omega arith) in rw out refl }

-- the runs of a free set are those ahead of its start
pub all_ahead : (sectors : ℕ) (rs : List Run) → AreBetween 0 (sectors + 1) rs → AreAhead sectors rs 0 rs
all_ahead sectors [] apart = record { apart = apart; end = tt; same = λ s from. refl }
all_ahead sectors (r ∷ rs) apart = let some : 0 < r.len = apart.1 in record { apart = apart; end = omega arith; same = λ s from. refl }

pub ahead_again : (sectors : ℕ) (runs rest more : List Run) (at end : ℕ) → AreAhead sectors runs at rest → at ≤ end → AreAhead sectors rest end more → AreAhead sectors runs end more
ahead_again sectors runs rest more at end g le h = record { apart = h.apart; end = h.end; same = λ s from. let e = h.same s from in let d = g.same s (omega arith) in cc }

-- a run that ends from one sector on ends from each before it on
pub ends_earlier : (at end : ℕ) (rs : List Run) → at ≤ end → EndFrom end rs → EndFrom at rs
ends_earlier at end [] le h = tt
ends_earlier at end (r ∷ rs) le h = omega arith
