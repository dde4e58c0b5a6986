-- Sets of the sectors of a metaslab, and maps that leave them free.
use Rattle.std.proofs.Common.{◌≡◌, ℕ, ◌/◌, List, [], ◌∷◌, ◌++◌, length, Option, inl, inr, refl, sym, ap, subst, ◌∙◌, arith, map, Bool, true, false, not, true≢false, ◌≢◌, ◌<◌, ◌+◌}
use Rattle.std.specs.List.{slice_get}
use Rattle.std.proofs.lemmas.Bool.Decides.{nat_tests}
use Rattle.block_store.specs.Maps.{LeavesUnused}
use Rattle.block_store.specs.Places.{Marks}
use Rattle.block_store.specs.Spaces.{VdevSpace}
use Rattle.meta_objset.specs.declared.space_maps.MetaslabMap.{MetaslabMap}
use Rattle.meta_objset.specs.declared.space_maps.MetaslabPlace.{MetaslabPlace}
use Rattle.metaslab.specs.Calls.{AreUnused}
use Rattle.metaslab.specs.Space.{Space}
use Rattle.metaslab.specs.Unused.{IsUnusedOf}
use Rattle.metaslab.proofs.Unused.{set_of_unused}
use Rattle.object_table.specs.Shape.{AreRows}
use Rattle.objset.specs.Objects.{Object}
use Rattle.raidz_io.proofs.Written.{same_some}
use Rattle.space_map.specs.declared.entry.Entry.{Entry}
use Rattle.space_map.specs.Entry.{entry_word, spelling}
use Rattle.space_map.specs.FreeRuns.{FreeRuns, AreFree}
use Rattle.space_map.specs.Map.{after, all_free, free_set, is_freed, IsMap}
use Rattle.space_map.specs.Sectors.{contains, names}
use Rattle.space_map.specs.Updates.{AreLongest, IsMapOf, IsUpdate}
use Rattle.space_map.proofs.Updates.{map_updated}
use Rattle.space_map_objects.specs.Maps.{HasMap, LeavesFree, map_kind}
use Rattle.pool_maps.specs.declared.update.Update.{Update}
use Rattle.pool_maps.specs.Maps.{IsMapped}
use Rattle.pool_maps.specs.Updates.{LeadsFrom}
use Rattle.words.proofs.WordLemmas.{length-word_bytes}

-- the same sectors
pub record AreSame (free other : FreeRuns) : Type 0 where
  pub sectors : free.sectors ≡ other.sectors
  pub each : (s : ℕ) → contains free.runs s ≡ contains other.runs s

pub same_twice : (free mid other : FreeRuns) → AreSame free mid → AreSame mid other → AreSame free other
same_twice free mid other first rest = record { sectors = first.sectors ∙ rest.sectors; each = λ s. first.each s ∙ rest.each s }

-- two sets that have what is unused of a metaslab
pub same_unused : (spaces : List VdevSpace) (marks : Marks) (vdev metaslab : ℕ) (free other : FreeRuns) → AreFree free → AreFree other
    → LeavesUnused spaces marks vdev metaslab free → LeavesUnused spaces marks vdev metaslab other → AreSame free other
same_unused spaces marks vdev metaslab free other are others is that =
    let space_is : that.space ≡ is.space = same_some that.space is.space (sym that.found ∙ is.found) in
    let there_is : that.there ≡ is.there =
    same_some that.there is.there (sym that.is_there ∙ ap (λ (s : VdevSpace). slice_get (marks s) metaslab) space_is ∙ is.is_there) in
    let first : IsUnusedOf free is.there = set_of_unused is.there free are is.unused in
    let second : IsUnusedOf other is.there = set_of_unused is.there other others (subst (λ (x : Space). AreUnused x other) there_is that.unused) in
    record { sectors = first.0 ∙ sym second.0; each = λ s. first.1 s ∙ sym (second.1 s) }

pub map_same : (object : Option Object) (free other : FreeRuns) → AreSame free other → HasMap object free.sectors free → HasMap object other.sectors other
map_same object free other same (bytes, table, leaves) = (
  bytes,
  table,
  record {
    entries = leaves.entries;
    spelled = leaves.spelled;
    is_map = subst (λ n. IsMap n (all_free n) leaves.entries) same.sectors leaves.is_map;
    leaves = (refl, λ s. sym (same.each s) ∙ leaves.leaves.1 s ∙ ap (λ n. free_set (all_free n) leaves.entries s) same.sectors);
  },
)

pub mapped_same : (objects : ℕ → Option Object) (maps : List MetaslabMap) (place : MetaslabPlace) (free other : FreeRuns) → AreSame free other
    → IsMapped objects maps place free → IsMapped objects maps place other
mapped_same objects maps place free other same (inl row) =
    inl (record { row = row.row; there = row.there; metaslab = row.metaslab; map = map_same (objects row.row.object) free other same row.map })
mapped_same objects maps place free other same (inr (lacks, all)) =
    inr (lacks, λ s. sym (same.each s) ∙ all s ∙ ap (λ n. all_free n s) same.sectors)

-- ---- what an update makes of a map

map_of : (bytes : List ℕ) (free : FreeRuns) → (leaves : LeavesFree bytes free.sectors free) → IsMapOf free.sectors bytes leaves.entries (contains free.runs)
map_of bytes free leaves = record { spelled = leaves.spelled; is_map = leaves.is_map; leaves = λ s. sym (leaves.leaves.1 s) }

pub updated : (before : FreeRuns) (update : Update) (bytes : List ℕ) → LeadsFrom before update → LeavesFree bytes before.sectors before
    → LeavesFree (bytes ++ update.entries.items) update.free.sectors update.free
updated before update bytes leads leaves =
    let es = leads.entries.0 in
    let then_map : IsMapOf before.sectors (bytes ++ spelling es) (leaves.entries ++ es) (contains update.free.runs) =
    map_updated before.sectors (contains before.runs) (contains update.free.runs) bytes leaves.entries es (map_of bytes before leaves) leads.entries.1 in
    let later : IsMapOf update.free.sectors (bytes ++ update.entries.items) (leaves.entries ++ es) (contains update.free.runs) =
    subst (λ n. IsMapOf n (bytes ++ update.entries.items) (leaves.entries ++ es) (contains update.free.runs)) (sym leads.sectors)
    (subst (λ more. IsMapOf before.sectors (bytes ++ more) (leaves.entries ++ es) (contains update.free.runs)) (sym leads.entries.2) then_map) in
    record { entries = leaves.entries ++ es; spelled = later.spelled; is_map = later.is_map; leaves = (refl, λ s. sym (later.leaves s)) }

-- the entries are rows of 8 bytes
pub whole_rows : (es : List Entry) (first bytes : List ℕ) → first ≡ [] → bytes ≡ first ++ spelling es → AreRows map_kind.rows (length bytes / 8) bytes
whole_rows es first bytes none is =
    let size = length-word_bytes (map entry_word es) in
    let spelled : length bytes ≡ length (spelling es) = ap length (is ∙ ap (λ front. front ++ spelling es) none) in
    omega (arith, size, spelled)

no_entries : (es : List Entry) → [] ≡ spelling es → es ≡ []
no_entries [] none = refl
no_entries (e ∷ es) none = absurd (let size = length-word_bytes (map entry_word (e ∷ es)) in let none_is = ap length none in omega (arith, size, none_is))

-- no entries, no difference
pub nothing_leads : (before : FreeRuns) (update : Update) → LeadsFrom before update → update.entries.items ≡ [] → AreSame before update.free
nothing_leads before update leads none =
    let es_is : leads.entries.0 ≡ [] = no_entries leads.entries.0 (sym none ∙ leads.entries.2) in
    record {
      sectors = sym leads.sectors;
      each = λ s. subst (λ es. free_set (contains before.runs) es s ≡ contains update.free.runs s) es_is (leads.entries.1.leads s);
    }

-- ---- entries, and what differs by them

-- entries that ascend from a sector on leave those before it
untouched : (es : List Entry) (from s : ℕ) (set : ℕ → Bool) → AreLongest from es → s < from → free_set set es s ≡ set s
untouched [] from s set longest low = refl
untouched (e ∷ es) from s set (start, goes, rest) low =
    let apart : names e.run s ≡ false = grind (arith, nat_tests) in
    let later : free_set (after set e) es s ≡ after set e s = untouched es (e.run.start + e.run.len) s (after set e) rest (omega (arith, start, low)) in
    later ∙ rw apart refl

not_both : (b : Bool) → b ≢ not b
not_both true is = true≢false is
not_both false is = true≢false (sym is)

first_differs : (sectors : ℕ) (old new : ℕ → Bool) (e : Entry) (es : List Entry) → IsUpdate sectors old new (e ∷ es) → old e.run.start ≢ new e.run.start
first_differs sectors old new e es is same =
    let some = is.fit.0.not_empty in
    let named : names e.run e.run.start ≡ true = grind (arith, nat_tests) in
    let was : old e.run.start ≡ not (is_freed e.kind) = is.is_map.0.each e.run.start named in
    let later : free_set (after old e) es e.run.start ≡ after old e e.run.start =
    untouched es (e.run.start + e.run.len) e.run.start (after old e) is.longest.2 (omega (arith, some)) in
    let now : after old e e.run.start ≡ is_freed e.kind = rw named refl in
    not_both (is_freed e.kind) (sym now ∙ sym later ∙ is.leads e.run.start ∙ sym same ∙ was)

pub some_differ : (before : FreeRuns) (update : Update) → LeadsFrom before update → update.entries.items ≢ [] → before.runs ≢ update.free.runs
some_differ before update leads some same = go leads.entries.0 leads.entries.1 leads.entries.2
  where
    go : (es : List Entry) → IsUpdate before.sectors (contains before.runs) (contains update.free.runs) es → update.entries.items ≡ [] ++ spelling es → ⊥
    go [] is none = some none
    go (e ∷ es) is are = first_differs before.sectors (contains before.runs) (contains update.free.runs) e es is (ap (λ runs. contains runs e.run.start) same)
