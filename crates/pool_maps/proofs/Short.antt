-- Maps that haven't grown long.
use Rattle.std.proofs.Common.{◌≡◌, ℕ, ◌+◌, ◌-◌, ◌*◌, ◌/◌, ◌^◌, ◌<◌, ◌≤◌, ltb, true, List, [], ◌∷◌, ◌++◌, length, map, Option, inl, inr, refl, ap, ◌∙◌, arith}
use Rattle.std.proofs.lemmas.Bool.{cases_lt}
use Rattle.std.proofs.lemmas.Bool.Decides.{nat_tests}
use Rattle.std.proofs.lemmas.List.{length-append, length-map}
use Rattle.object_table.specs.Shape.{AreRows}
use Rattle.objset.specs.Objects.{Object}
use Rattle.space_map.specs.declared.entry.Entry.{Entry}
use Rattle.space_map.specs.declared.entry.Kind.{Kind}
use Rattle.space_map.specs.declared.entry.Kind.TheVariants.{Allocated}
use Rattle.space_map.specs.declared.entry.Run.{Run}
use Rattle.space_map.specs.Allocated.{gap, gaps_between, gaps_of}
use Rattle.space_map.specs.Appended.{ArePieces}
use Rattle.space_map.specs.Condensed.{AreGaps, IsCondensed}
use Rattle.space_map.specs.Entry.{entry_word}
use Rattle.space_map.specs.FreeRuns.{FreeRuns, AreFree}
use Rattle.space_map.specs.Sectors.{AreBetween}
use Rattle.space_map_objects.specs.Maps.{HasCondensedMap, map_kind}
use Rattle.words.proofs.WordLemmas.{length-word_bytes}
use Rattle.pool_maps.specs.declared.update.Update.{Update}
use Rattle.pool_maps.specs.Maps.{IsShort}
use Rattle.pool_maps.specs.Updates.{IsSized, Says}

-- all pieces but the last are as long as they can be
pieces_few : (kind : Kind) (start len : ℕ) (es : List Entry) → ArePieces kind start len es → (0 < len → length es * 32768 < len + 32768) × (len ≡ 0 → length es ≡ 0)
pieces_few kind start len [] none = (λ some. absurd (omega (arith, some, none)), λ is. refl)
pieces_few kind start len (e ∷ es) (some, kind_is, start_is, len_is, rest) =
    let behind = pieces_few kind (start + e.run.len) (len - e.run.len) es rest in (
      λ _. elim (cases_lt 32768 len) [
        | inl more ↦ let size : e.run.len ≡ 32768 = omega (arith, len_is, more) in let left = behind.0 (omega (arith, size, more)) in omega (arith, left, size, more)
        | inr all ↦ let size : e.run.len ≡ len = omega (arith, len_is, all) in let left = behind.1 (omega (arith, size)) in omega (arith, left, some)
      ],
      λ none. absurd (omega (arith, some, none)),
    )

gap_few : (from to : ℕ) (es : List Entry) → ArePieces Allocated from (to - from) es → length es * 32768 ≤ (to - from) + 32768 * length (gap from to)
gap_few from to es pieces =
    let few = pieces_few Allocated from (to - from) es pieces in
    elim (cases_lt 0 (to - from)) [
      | inl some ↦ let t : ltb 0 (to - from) ≡ true = grind (arith, nat_tests) in let less = few.0 some in rw t (omega (arith, less))
      | inr none ↦ let nothing = few.1 (omega (arith, none)) in omega (arith, nothing)
    ]

between_ends : (from to : ℕ) (runs : List Run) → AreBetween from to runs → from ≤ to
between_ends from to [] is = is
between_ends from to (r ∷ rs) (low, some, rest) = (let end = between_ends (r.start + r.len + 1) to rs rest in omega (arith, low, end))

gaps_few : (low from sectors : ℕ) (runs : List Run) (es : List Entry) → from ≤ low → AreBetween low (sectors + 1) runs → AreGaps from sectors runs es
    → length es * 32768 ≤ (sectors - from) + 32768 * length (gaps_between from sectors runs)
gaps_few low from sectors [] es below between pieces = gap_few from sectors es pieces
gaps_few low from sectors (r ∷ rs) es below (start, some, rest) (first, others, are, pieces, gaps) =
    let one = gap_few from r.start first pieces in
    let more = gaps_few (r.start + r.len + 1) (r.start + r.len) sectors rs others (omega arith) rest gaps in
    let end = between_ends (r.start + r.len + 1) (sectors + 1) rs rest in
    let count = ap length are ∙ length-append first others in
    let runs_count = length-append (gap from r.start) (gaps_between (r.start + r.len) sectors rs) in
    omega (arith, one, more, end, count, runs_count, below, start)

condensed_few : (free : FreeRuns) (bytes : List ℕ) → AreFree free → free.sectors ≤ 2 ^ 20 → IsCondensed free bytes → IsShort bytes free
condensed_few free bytes are small is =
    let few = gaps_few 0 0 free.sectors free.runs is.entries (omega arith) are.1 is.gaps in
    let size = ap length is.spelled.1 ∙ length-word_bytes (map entry_word is.entries) in
    let count = length-map is.entries entry_word in
    omega (arith, few, size, small, count)

pub condensed_says : (object : Option Object) (update : Update) → IsSized update → HasCondensedMap object update.free → Says object update
condensed_says object update sized (bytes, table, is) = record {
  bytes = bytes;
  table = table;
  leaves = record { entries = is.entries; spelled = is.spelled; is_map = is.is_map; leaves = is.keeps };
  few = condensed_few update.free bytes sized.0 sized.1 is;
}

pub few_more : (bytes entries : List ℕ) (rows : ℕ) (free : FreeRuns) → AreRows map_kind.rows rows bytes → AreRows map_kind.rows (length entries / 8) entries
    → rows + length entries / 8 ≤ 2 * length (gaps_of free) + 64 → IsShort (bytes ++ entries) free
few_more bytes entries rows free old new few = (let size = length-append bytes entries in omega (arith, size, old, new, few))
