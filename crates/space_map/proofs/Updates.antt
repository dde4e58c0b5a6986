-- What leads from one free set to another, stretch by stretch.
use Rattle.std.proofs.Common.{◌≡◌, ℕ, ◌+◌, ◌-◌, ◌^◌, ◌<◌, ◌≤◌, ◌⊎◌, inl, inr, min, Bool, true, false, not, List, [], ◌∷◌, ◌++◌, refl, sym, ap, subst, ◌∙◌, append_assoc, arith}
use Rattle.std.specs.List.{AllByRecursion}
use Rattle.std.proofs.lemmas.Bool.{cases_lt}
use Rattle.std.proofs.lemmas.List.{append-nil}
use Rattle.space_map.specs.declared.entry.Entry.{Entry}
use Rattle.space_map.specs.declared.entry.Kind.{Kind}
use Rattle.space_map.specs.declared.entry.Kind.TheVariants.{Allocated, Freed}
use Rattle.space_map.specs.declared.entry.Run.{Run}
use Rattle.space_map.specs.declared.updating.Stretch.{Stretch}
use Rattle.space_map.specs.Entry.{FitsEntry, spelling}
use Rattle.space_map.specs.Sectors.{names, contains, changed, AreBetween}
use Rattle.space_map.specs.Map.{all_free, is_freed, after, free_set, Changes, IsMap}
use Rattle.space_map.specs.Appended.{ArePieces}
use Rattle.space_map.specs.Stretches.{AreAhead, AreChanges, IsStretch}
use Rattle.space_map.specs.Updates.{AreLongest, IsUpdate, IsMapOf}
use Rattle.space_map.proofs.RunLemmas.{named, is_named, is_before, is_past, none_past}
use Rattle.space_map.proofs.Pieces.{whole_entry, pieces_map, pieces_fit, IsMap-append, free_set-append, fit-append, spelling-append}
use Rattle.space_map.proofs.Replays.{same_change}

-- ---- entries that are as long as they can be

-- an entry that begins at a sector is of the kind by which the sector differs
abbrev pub Differs : (ℕ → Bool) → (ℕ → Bool) → ℕ → List Entry → Type 0
Differs old new at [] = Unit {0}
Differs old new at (e ∷ es) = e.run.start ≡ at → (old at ≡ not (is_freed e.kind)) × (new at ≡ is_freed e.kind)

longest_later : (at end : ℕ) (es : List Entry) → at ≤ end → AreLongest end es → AreLongest at es
longest_later at end [] le h = tt
longest_later at end (e ∷ es) le h = (let b = h.0 in omega arith, h.1, h.2)

-- no entry of that kind begins at a sector
abbrev pub NotOf : Kind → ℕ → List Entry → Type 0
NotOf kind at [] = Unit {0}
NotOf kind at (e ∷ es) = e.run.start ≡ at → e.kind ≡ kind → ⊥

pieces_longest : (kind : Kind) (start len end : ℕ) (ps tail : List Entry) → ArePieces kind start len ps → start + len ≡ end → AreLongest end tail → NotOf kind end tail → AreLongest start (ps ++ tail)
pieces_longest kind start len end [] tail none is more other = longest_later start end tail (omega arith) more
pieces_longest kind start len end (e ∷ []) [] pieces is more other = (let b = pieces.2 in omega arith, λ no. absurd no, tt)
pieces_longest kind start len end (e ∷ []) (d ∷ tail) pieces is more other =
    let a = pieces.0 in
    let b = pieces.2 in
    let c = pieces.3 in
    let left : len - e.run.len ≡ 0 = pieces.4 in
    let le : e.run.len ≤ len = omega arith in
    let at_end : e.run.start + e.run.len ≡ end = omega arith in
    (omega arith, λ on. absurd (other (on.1 ∙ at_end) (on.0 ∙ pieces.1)), longest_later (e.run.start + e.run.len) end (d ∷ tail) (omega arith) more)
pieces_longest kind start len end (e ∷ p ∷ ps) tail pieces is more other =
    let a = pieces.0 in
    let b = pieces.2 in
    let c = pieces.3 in
    let left : 0 < len - e.run.len = pieces.4.0 in
    let full : e.run.len ≡ 2 ^ 15 = omega arith in
    let others = pieces_longest kind (start + e.run.len) (len - e.run.len) end (p ∷ ps) tail pieces.4 (omega arith) more other in
    let at : start + e.run.len ≡ e.run.start + e.run.len = omega arith in
    (omega arith, λ on. full, subst (λ (n : ℕ). AreLongest n (p ∷ (ps ++ tail))) at others)

-- ---- the loop

-- the entries so far lead from the old set to the new one, up to a sector
pub record IsUpdated (sectors at : ℕ) (old new : ℕ → Bool) (first out : List ℕ) : Type 0 where
  pub done : List Entry
  pub bytes : out ≡ first ++ spelling done
  pub fit : AllByRecursion FitsEntry done
  pub is_map : IsMap sectors old done
  pub before : (s : ℕ) → s < at → free_set old done s ≡ new s
  pub behind : (s : ℕ) → at ≤ s → free_set old done s ≡ old s
  pub longest : (tail : List Entry) → AreLongest at tail → Differs old new at tail → AreLongest 0 (done ++ tail)

pub nothing_updated : (sectors : ℕ) (old new : ℕ → Bool) (first : List ℕ) → IsUpdated sectors 0 old new first first
nothing_updated sectors old new first = record {
  done = [];
  bytes = sym (append-nil first);
  fit = tt;
  is_map = tt;
  before = λ s below. absurd (omega arith);
  behind = λ s from. refl;
  longest = λ tail more differs. more;
}

-- a stretch of the two sets
pub record AreBoth (sectors at end : ℕ) (old new : ℕ → Bool) (was is : Bool) : Type 0 where
  pub some : at < end
  pub within : end ≤ sectors
  pub each_was : (s : ℕ) → at ≤ s → s < end → old s ≡ was
  pub each_is : (s : ℕ) → at ≤ s → s < end → new s ≡ is
  pub turns : end < sectors → (old end ≡ not was) ⊎ (new end ≡ not is)
  pub none_old : old sectors ≡ false
  pub none_new : new sectors ≡ false

-- no entry begins before a later sector than it may
never : (at end : ℕ) (old new : ℕ → Bool) (es : List Entry) → at < end → AreLongest end es → Differs old new at es
never at end old new [] lt h = tt
never at end old new (e ∷ es) lt h = λ here. let b = h.0 in absurd (omega arith)

same_stays : (sectors at end : ℕ) (old new : ℕ → Bool) (b : Bool) (first out : List ℕ) → AreBoth sectors at end old new b b → IsUpdated sectors at old new first out → IsUpdated sectors end old new first out
same_stays sectors at end old new b first out both so_far =
    let some = both.some in
    record {
      done = so_far.done;
      bytes = so_far.bytes;
      fit = so_far.fit;
      is_map = so_far.is_map;
      before = λ s below. elim (cases_lt s at) [
        | inl earlier ↦ so_far.before s earlier
        | inr from ↦ so_far.behind s from ∙ both.each_was s from below ∙ sym (both.each_is s from below)
      ];
      behind = λ s from. so_far.behind s (omega arith);
      longest = λ tail more differs. so_far.longest tail (longest_later at end tail (omega arith) more) (never at end old new tail some more);
    }

not_not : (b : Bool) → not b ≡ b → ⊥
not_not true e = absurd cc
not_not false e = absurd cc

-- no entry of a kind begins where the stretch of that kind ends
other_kind : (sectors at end : ℕ) (old new : ℕ → Bool) (kind : Kind) (tail : List Entry) → AreBoth sectors at end old new (not (is_freed kind)) (is_freed kind) → Differs old new end tail → NotOf kind end tail
other_kind sectors at end old new kind [] both differs = tt
other_kind sectors at end old new kind (e ∷ es) both differs = λ here same.
    let d = differs here in
    let was : old end ≡ not (is_freed kind) = subst (λ (k : Kind). old end ≡ not (is_freed k)) same d.0 in
    let is : new end ≡ is_freed kind = subst (λ (k : Kind). new end ≡ is_freed k) same d.1 in
    elim (cases_lt end sectors) [
      | inl inside ↦ elim (both.turns inside) [
        | inl turned ↦ not_not (not (is_freed kind)) (sym turned ∙ was)
        | inr turned ↦ not_not (is_freed kind) (sym turned ∙ is)
      ]
      | inr past ↦
          let at_end : end ≡ sectors = (let w = both.within in omega arith) in
          let none_old : old end ≡ false = ap old at_end ∙ both.none_old in
          let none_new : new end ≡ false = ap new at_end ∙ both.none_new in
          not_not (is_freed kind) (sym was ∙ none_old ∙ sym none_new ∙ is)
    ]

first_differs : (at len : ℕ) (old new : ℕ → Bool) (kind : Kind) (ps tail : List Entry) → ArePieces kind at len ps → 0 < len → old at ≡ not (is_freed kind) → new at ≡ is_freed kind → Differs old new at (ps ++ tail)
first_differs at len old new kind [] tail none some was is = absurd (omega arith)
first_differs at len old new kind (p ∷ ps) tail pieces some was is = λ here. (was ∙ ap (λ (k : Kind). not (is_freed k)) (sym pieces.1), is ∙ ap is_freed (sym pieces.1))

change_added : (sectors at len end : ℕ) (old new : ℕ → Bool) (kind : Kind) (first out more : List ℕ) (ps : List Entry) → sectors < 2 ^ 47 → at + len ≡ end → AreBoth sectors at end old new (not (is_freed kind)) (is_freed kind)
    → ArePieces kind at len ps → more ≡ out ++ spelling ps → IsUpdated sectors at old new first out → IsUpdated sectors end old new first more
change_added sectors at len end old new kind first out more ps few is both pieces appended so_far =
    let some = both.some in
    let within = both.within in
    let run : Run = record { start = at; len = len } in
    let set = free_set old so_far.done in
    let change : Changes sectors set (whole_entry kind at len) = record {
      within = omega arith;
      each = λ s n. let b = named run s n in so_far.behind s b.0 ∙ both.each_was s b.0 (omega (arith, b.1));
    } in
    let p = pieces_map kind sectors at len set ps pieces change in
    record {
      done = so_far.done ++ ps;
      bytes = appended ∙ ap (λ (x : List ℕ). x ++ spelling ps) so_far.bytes ∙ append_assoc first (spelling so_far.done) (spelling ps) ∙ ap (λ (x : List ℕ). first ++ x) (sym (spelling-append so_far.done ps));
      fit = fit-append so_far.done ps so_far.fit (pieces_fit kind at len ps (omega arith) pieces);
      is_map = IsMap-append sectors old so_far.done ps so_far.is_map p.0;
      before = λ s below. free_set-append old so_far.done ps s ∙ p.1 s ∙ elim (cases_lt s at) as (λ _. after set (whole_entry kind at len) s ≡ new s) [
        | inl earlier ↦ let out : names run s ≡ false = is_before run s earlier in rw out (so_far.before s earlier)
        | inr from ↦ let inside : names run s ≡ true = is_named run s from (omega arith) in rw inside (sym (both.each_is s from below))
      ];
      behind = λ s from. let out : names run s ≡ false = is_past run s (omega arith) in free_set-append old so_far.done ps s ∙ p.1 s ∙ rw out (so_far.behind s (omega arith));
      longest = λ tail others differs.
          let here = pieces_longest kind at len end ps tail pieces is others (other_kind sectors at end old new kind tail both differs) in
          let begins = first_differs at len old new kind ps tail pieces (omega arith) (both.each_was at (omega arith) some) (both.each_is at (omega arith) some) in
          subst (AreLongest 0) (sym (append_assoc so_far.done ps tail)) (so_far.longest (ps ++ tail) here begins);
    }

none_added : (first out more : List ℕ) (ps : List Entry) → ps ≡ [] → more ≡ out ++ spelling ps → more ≡ out
none_added first out more ps none appended = appended ∙ ap (λ (x : List Entry). out ++ spelling x) none ∙ append-nil out

-- one stretch more
pub updates_go_on : (was is : Bool) (sectors at len end : ℕ) (old new : ℕ → Bool) (first out more : List ℕ) (ps : List Entry) → sectors < 2 ^ 47 → at + len ≡ end → AreBoth sectors at end old new was is
    → AreChanges was is (record { start = at; len = len }) ps → more ≡ out ++ spelling ps → IsUpdated sectors at old new first out → IsUpdated sectors end old new first more
updates_go_on true true sectors at len end old new first out more ps few e both changes appended so_far =
    subst (IsUpdated sectors end old new first) (sym (none_added first out more ps changes appended)) (same_stays sectors at end old new true first out both so_far)
updates_go_on false false sectors at len end old new first out more ps few e both changes appended so_far =
    subst (IsUpdated sectors end old new first) (sym (none_added first out more ps changes appended)) (same_stays sectors at end old new false first out both so_far)
updates_go_on true false sectors at len end old new first out more ps few e both changes appended so_far = change_added sectors at len end old new Allocated first out more ps few e both changes appended so_far
updates_go_on false true sectors at len end old new first out more ps few e both changes appended so_far = change_added sectors at len end old new Freed first out more ps few e both changes appended so_far

-- the shorter of two stretches
pub both_stretches : (sectors at end : ℕ) (olds news old_rest new_rest : List Run) (before later : Stretch) → AreBetween 0 (sectors + 1) olds → AreBetween 0 (sectors + 1) news → AreAhead sectors olds at old_rest → AreAhead sectors news at new_rest
    → IsStretch sectors old_rest at before → IsStretch sectors new_rest at later → end ≡ min before.end later.end → AreBoth sectors at end (contains olds) (contains news) before.free later.free
both_stretches sectors at end olds news old_rest new_rest before later g h old_ahead new_ahead old_is new_is least =
    let a = old_is.some in
    let b = new_is.some in
    let c = old_is.within in
    let d = new_is.within in
    let some : at < end = omega arith in
    record {
      some = some;
      within = omega arith;
      each_was = λ s low high. sym (old_ahead.same s low) ∙ old_is.each s low (omega arith);
      each_is = λ s low high. sym (new_ahead.same s low) ∙ new_is.each s low (omega arith);
      turns = λ inside. elim (cases_lt end before.end) [
        | inl shorter ↦ let e : later.end ≡ end = omega arith in inr (sym (new_ahead.same end (omega arith)) ∙ ap (contains new_rest) (sym e) ∙ new_is.turns (omega arith))
        | inr longer ↦ let e : before.end ≡ end = omega arith in inl (sym (old_ahead.same end (omega arith)) ∙ ap (contains old_rest) (sym e) ∙ old_is.turns (omega arith))
      ];
      none_old = none_past 0 (sectors + 1) sectors olds g (omega arith);
      none_new = none_past 0 (sectors + 1) sectors news h (omega arith);
    }

pub is_update : (sectors at : ℕ) (olds news : List Run) (first out : List ℕ) → AreBetween 0 (sectors + 1) olds → AreBetween 0 (sectors + 1) news → sectors ≤ at → IsUpdated sectors at (contains olds) (contains news) first out
    → (es : List Entry) × IsUpdate sectors (contains olds) (contains news) es × (out ≡ first ++ spelling es)
is_update sectors at olds news first out g h all so_far = (
  so_far.done,
  record {
    fit = so_far.fit;
    is_map = so_far.is_map;
    leads = λ s. elim (cases_lt s at) [
      | inl inside ↦ so_far.before s inside
      | inr past ↦ so_far.behind s past ∙ none_past 0 (sectors + 1) s olds g (omega arith) ∙ sym (none_past 0 (sectors + 1) s news h (omega arith))
    ];
    longest = subst (AreLongest 0) (append-nil so_far.done) (so_far.longest [] tt tt);
  },
  so_far.bytes,
)

-- ---- laws

same_after : (old other : ℕ → Bool) (e : Entry) → ((s : ℕ) → old s ≡ other s) → (s : ℕ) → after old e s ≡ after other e s
same_after old other e same s = ap (λ (b : Bool). changed (is_freed e.kind) e.run b s) (same s)

pub same_map : (sectors : ℕ) (old other : ℕ → Bool) (es : List Entry) → ((s : ℕ) → old s ≡ other s) → IsMap sectors old es → IsMap sectors other es
same_map sectors old other [] same map = tt
same_map sectors old other (e ∷ es) same map = (same_change sectors old other e same map.0, same_map sectors (after old e) (after other e) es (same_after old other e same) map.1)

pub same_free_set : (old other : ℕ → Bool) (es : List Entry) → ((s : ℕ) → old s ≡ other s) → (s : ℕ) → free_set old es s ≡ free_set other es s
same_free_set old other [] same s = same s
same_free_set old other (e ∷ es) same s = same_free_set (after old e) (after other e) es (same_after old other e same) s

-- an update is one of the same sets, however they are told
pub same_update : (sectors : ℕ) (old new other later : ℕ → Bool) (es : List Entry) → ((s : ℕ) → old s ≡ other s) → ((s : ℕ) → new s ≡ later s) → IsUpdate sectors old new es → IsUpdate sectors other later es
same_update sectors old new other later es olds news up = record {
  fit = up.fit;
  is_map = same_map sectors old other es olds up.is_map;
  leads = λ s. sym (same_free_set old other es olds s) ∙ up.leads s ∙ news s;
  longest = up.longest;
}

pub map_updated : (sectors : ℕ) (old new : ℕ → Bool) (bytes : List ℕ) (es more : List Entry) → IsMapOf sectors bytes es old → IsUpdate sectors old new more → IsMapOf sectors (bytes ++ spelling more) (es ++ more) new
map_updated sectors old new bytes es more is up =
    let all = all_free sectors in
    let back : (s : ℕ) → old s ≡ free_set all es s = λ s. sym (is.leaves s) in
    record {
      spelled = (fit-append es more is.spelled.0 up.fit, ap (λ (x : List ℕ). x ++ spelling more) is.spelled.1 ∙ sym (spelling-append es more));
      is_map = IsMap-append sectors all es more is.is_map (same_map sectors old (free_set all es) more back up.is_map);
      leaves = λ s. free_set-append all es more s ∙ sym (same_free_set old (free_set all es) more back s) ∙ up.leads s;
    }
