-- A map leaves one set free.
use Rattle.std.proofs.Common.{◌≡◌, ℕ, ◌+◌, ◌-◌, ◌^◌, ◌<◌, List, [], ◌∷◌, ◌++◌, Option, All, length, map, refl, sym, ap, subst, ◌∙◌, arith}
use Rattle.std.specs.Int.{w64, to_le_bytes, from_le_bytes}
use Rattle.std.specs.List.{AllByRecursion}
use Rattle.std.proofs.lemmas.List.Concat.{flat_map-cons}
use Rattle.std.proofs.lemmas.Nat.{from_le_bytes-to_le_bytes_8}
use Rattle.std.proofs.lemmas.List.{length-append}
use Rattle.std.proofs.lemmas.List.Elements.{All-head, All-tail}
use Rattle.meta_objset.specs.Reading.{HasSpaceMaps}
use Rattle.meta_objset.specs.SpaceMaps.{FitsMap, map_bytes, map_words, maps_bytes, maps_kind}
use Rattle.meta_objset.specs.declared.space_maps.MetaslabMap.{MetaslabMap}
use Rattle.meta_objset.specs.declared.space_maps.MetaslabPlace.{MetaslabPlace}
use Rattle.meta_objset.proofs.Maps.{are_words as map_are_words, map_len}
use Rattle.object_table.proofs.Readings.{table_once}
use Rattle.objset.specs.Objects.{Object}
use Rattle.space_map.specs.declared.entry.Entry.{Entry}
use Rattle.space_map.specs.declared.entry.Kind.{Kind}
use Rattle.space_map.specs.declared.entry.Kind.TheVariants.{Allocated, Freed}
use Rattle.space_map.specs.declared.entry.Run.{Run}
use Rattle.space_map.specs.Entry.{FitsEntry, entry_word, kind_bit, spelling}
use Rattle.space_map.specs.FreeRuns.{FreeRuns, entry_of}
use Rattle.space_map.specs.Map.{all_free, free_set}
use Rattle.space_map.specs.Sectors.{contains}
use Rattle.space_map_objects.specs.Maps.{HasMap, LeavesFree, map_kind}
use Rattle.words.specs.Words.{AreWords, word_bytes}
use Rattle.words.proofs.WordLemmas.{length-word_bytes}
use Rattle.pool_maps.proofs.Underway.{this_place}

bit_below : (k : Kind) → kind_bit k < 2
bit_below Allocated = omega arith
bit_below Freed = omega arith

bit_once : (k j : Kind) → kind_bit k ≡ kind_bit j → k ≡ j
bit_once Allocated Allocated same = refl
bit_once Freed Freed same = refl
bit_once Allocated Freed same = absurd (omega (arith, same))
bit_once Freed Allocated same = absurd (omega (arith, same))

abbrev run_of : ℕ → ℕ → Run
run_of start len = record { start = start; len = len }

word_below : (e : Entry) → FitsEntry e → entry_word e < 2 ^ 64
word_below e fits = omega (arith, fits.start, fits.len, bit_below e.kind)

entry_once : (e d : Entry) → FitsEntry e → FitsEntry d → entry_word e ≡ entry_word d → e ≡ d
entry_once e d fits others same =
    let below = bit_below e.kind in
    let below_too = bit_below d.kind in
    let starts : e.run.start ≡ d.run.start = omega (arith, same, fits.not_empty, fits.len, others.not_empty, others.len, below, below_too) in
    let bits : kind_bit e.kind ≡ kind_bit d.kind = omega (arith, same, starts, fits.not_empty, fits.len, others.not_empty, others.len, below, below_too) in
    let lens : e.run.len ≡ d.run.len = omega (arith, same, starts, bits, fits.not_empty, others.not_empty) in
    ap (λ k. entry_of k e.run) (bit_once e.kind d.kind bits)
    ∙ ap (λ r. entry_of d.kind r) (ap (λ s. run_of s e.run.len) starts ∙ ap (λ n. run_of d.run.start n) lens)

append_once : (xs us ys vs : List ℕ) → length xs ≡ length us → xs ++ ys ≡ us ++ vs → (xs ≡ us) × (ys ≡ vs)
append_once [] [] ys vs len same = (refl, same)
append_once [] (u ∷ us) ys vs len same = absurd (omega (arith, len))
append_once (x ∷ xs) [] ys vs len same = absurd (omega (arith, len))
append_once (x ∷ xs) (u ∷ us) ys vs len same =
    let head : x ≡ u = cc in
    let tail : xs ++ ys ≡ us ++ vs = cc in
    let rest = append_once xs us ys vs (omega (arith, len)) tail in
    (ap (λ z. z ∷ xs) head ∙ ap (λ zs. u ∷ zs) rest.0, rest.1)

words_once : (words others : List ℕ) → AreWords words → AreWords others → word_bytes words ≡ word_bytes others → words ≡ others
words_once [] [] fit fits same = refl
words_once [] (o ∷ os) fit fits same = let none : length (word_bytes []) ≡ length (word_bytes (o ∷ os)) = ap length same in absurd (omega (arith, none, length-word_bytes [], length-word_bytes (o ∷ os)))
words_once (w ∷ ws) [] fit fits same = let none : length (word_bytes (w ∷ ws)) ≡ length (word_bytes []) = ap length same in absurd (omega (arith, none, length-word_bytes [], length-word_bytes (w ∷ ws)))
words_once (w ∷ ws) (o ∷ os) fit fits same =
    let parts : to_le_bytes w64 w ++ word_bytes ws ≡ to_le_bytes w64 o ++ word_bytes os = sym (flat_map-cons (to_le_bytes w64) w ws) ∙ same ∙ flat_map-cons (to_le_bytes w64) o os in
    let split = append_once (to_le_bytes w64 w) (to_le_bytes w64 o) (word_bytes ws) (word_bytes os) refl parts in
    let word : w ≡ o = sym (from_le_bytes-to_le_bytes_8 w fit.0) ∙ ap (from_le_bytes w64) split.0 ∙ from_le_bytes-to_le_bytes_8 o fits.0 in
    ap (λ x. x ∷ ws) word ∙ ap (λ xs. o ∷ xs) (words_once ws os fit.1 fits.1 split.1)

-- ---- entries

are_words : (es : List Entry) → AllByRecursion FitsEntry es → AreWords (map entry_word es)
are_words [] fit = tt
are_words (e ∷ es) fit = (word_below e fit.0, are_words es fit.1)

same_entries : (es ds : List Entry) → AllByRecursion FitsEntry es → AllByRecursion FitsEntry ds → map entry_word es ≡ map entry_word ds → es ≡ ds
same_entries [] [] fit fits same = refl
same_entries [] (d ∷ ds) fit fits same = absurd (cc)
same_entries (e ∷ es) [] fit fits same = absurd (cc)
same_entries (e ∷ es) (d ∷ ds) fit fits same =
    let word : entry_word e ≡ entry_word d = cc in
    let rest : map entry_word es ≡ map entry_word ds = cc in
    ap (λ x. x ∷ es) (entry_once e d fit.0 fits.0 word) ∙ ap (λ xs. d ∷ xs) (same_entries es ds fit.1 fits.1 rest)

entries_once : (es ds : List Entry) → AllByRecursion FitsEntry es → AllByRecursion FitsEntry ds → spelling es ≡ spelling ds → es ≡ ds
entries_once es ds fit fits same = same_entries es ds fit fits (words_once (map entry_word es) (map entry_word ds) (are_words es fit) (are_words ds fits) same)

pub left_once : (bytes : List ℕ) (sectors : ℕ) (free other : FreeRuns) → LeavesFree bytes sectors free → LeavesFree bytes sectors other → (s : ℕ) → contains free.runs s ≡ contains other.runs s
left_once bytes sectors free other one two s =
    let same = entries_once one.entries two.entries one.spelled.0 two.spelled.0 (sym one.spelled.1 ∙ two.spelled.1) in
    one.leaves.1 s ∙ ap (λ (es : List Entry). free_set (all_free sectors) es s) same ∙ sym (two.leaves.1 s)

pub map_once : (object : Option Object) (sectors : ℕ) (free other : FreeRuns) → HasMap object sectors free → HasMap object sectors other → (s : ℕ) → contains free.runs s ≡ contains other.runs s
map_once object sectors free other one two s =
    left_once two.0 sectors free other (subst (λ (bytes : List ℕ). LeavesFree bytes sectors free) (table_once map_kind object one.0 two.0 one.1 two.1) one.2) two.2 s

-- ---- rows

abbrev map_of : MetaslabPlace → ℕ → MetaslabMap
map_of place object = record { metaslab = place; object = object }

row_once : (map other : MetaslabMap) → map_words map ≡ map_words other → map ≡ other
row_once map other same =
    let vdev : map.metaslab.vdev ≡ other.metaslab.vdev = cc in
    let index : map.metaslab.index ≡ other.metaslab.index = cc in
    let object : map.object ≡ other.object = cc in
    ap (λ p. map_of p map.object) (this_place map.metaslab other.metaslab.vdev other.metaslab.index vdev index) ∙ ap (map_of other.metaslab) object

maps_once : (maps others : List MetaslabMap) → All FitsMap maps → All FitsMap others → maps_bytes maps ≡ maps_bytes others → maps ≡ others
maps_once [] [] fit fits same = refl
maps_once [] (o ∷ os) fit fits same =
    let clash : [] ≡ map_bytes o ++ maps_bytes os = same ∙ flat_map-cons map_bytes o os in
    let none : length {A = ℕ} [] ≡ length (map_bytes o ++ maps_bytes os) = ap length clash in
    absurd (omega (arith, none, length-append (map_bytes o) (maps_bytes os), map_len o))
maps_once (m ∷ ms) [] fit fits same =
    let clash : [] ≡ map_bytes m ++ maps_bytes ms = sym same ∙ flat_map-cons map_bytes m ms in
    let none : length {A = ℕ} [] ≡ length (map_bytes m ++ maps_bytes ms) = ap length clash in
    absurd (omega (arith, none, length-append (map_bytes m) (maps_bytes ms), map_len m))
maps_once (m ∷ ms) (o ∷ os) fit fits same =
    let parts : map_bytes m ++ maps_bytes ms ≡ map_bytes o ++ maps_bytes os = sym (flat_map-cons map_bytes m ms) ∙ same ∙ flat_map-cons map_bytes o os in
    let split = append_once (map_bytes m) (map_bytes o) (maps_bytes ms) (maps_bytes os) (map_len m ∙ sym (map_len o)) parts in
    let words = words_once (map_words m) (map_words o) (map_are_words m (All-head FitsMap m ms fit)) (map_are_words o (All-head FitsMap o os fits)) split.0 in
    ap (λ x. x ∷ ms) (row_once m o words) ∙ ap (λ xs. o ∷ xs) (maps_once ms os (All-tail FitsMap m ms fit) (All-tail FitsMap o os fits) split.1)

pub rows_once : (object : Option Object) (maps others : List MetaslabMap) → HasSpaceMaps object maps → HasSpaceMaps object others → maps ≡ others
rows_once object maps others one two = maps_once maps others one.0.each two.0.each (table_once maps_kind object (maps_bytes maps) (maps_bytes others) one.1 two.1)
