-- What is due is given to the free sectors.
use Rattle.std.proofs.Common.{◌≡◌, ℕ, suc, ◌+◌, ◌*◌, ◌≤◌, inl, inr, Bool, true, false, ◌||◌, ◌&&◌, not, Some, None, List, [], ◌∷◌, refl, sym, ap, ◌∙◌, arith}
use Rattle.std.specs.Prelude.{Option}
use Rattle.std.specs.List.{list_any}
use Rattle.space_map.specs.Sectors.{names, contains, changed}
use Rattle.metaslab.specs.declared.settling.Release.{Release}
use Rattle.metaslab.specs.Fits.{IsRaised}
use Rattle.metaslab.specs.Released.{count_of, released_by, frees, kept, AreHeldBack, IsHeldBack}
use Rattle.metaslab.specs.Space.{Space, state_of}
use Rattle.metaslab.specs.Calls.{SettlesUnder}
use Rattle.metaslab.specs.State.{is_due, is_in_use, settled}
use Rattle.metaslab.proofs.Holding.{cases, others, not_free, still_held}

or_true : (a : Bool) → (a || true) ≡ true
or_true true = refl
or_true false = refl

and_false_or : (a b : Bool) → ((a && false) || b) ≡ b
and_false_or true b = refl
and_false_or false b = refl

none_freed : (due : ℕ → Bool) (rs : List Release) (s : ℕ) → released_by rs s ≡ None → frees due rs s ≡ false
none_freed due [] s h = refl
none_freed due (r ∷ rs) s h =
    elim (cases (names r.run s)) [
      | inl named ↦ let some : Some r.group ≡ None = rw named at h in absurd cc
      | inr other ↦ rw (other, none_freed due rs s (others r rs s None other h)) (and_false_or (due r.group) false)
    ]

-- a run that doesn't name the sector makes no difference to what is kept
kept_other : (due : ℕ → Bool) (r : Release) (rs : List Release) (s : ℕ) → names r.run s ≡ false → released_by (kept due (r ∷ rs)) s ≡ released_by (kept due rs) s
kept_other due r rs s other = elim (cases (due r.group)) [ inl now ↦ rw now refl | inr later ↦ rw (later, other) refl ]

none_kept : (due : ℕ → Bool) (rs : List Release) (s : ℕ) → released_by rs s ≡ None → released_by (kept due rs) s ≡ None
none_kept due [] s h = refl
none_kept due (r ∷ rs) s h =
    elim (cases (names r.run s)) [
      | inl named ↦ let some : Some r.group ≡ None = rw named at h in absurd cc
      | inr other ↦ kept_other due r rs s other ∙ none_kept due rs s (others r rs s None other h)
    ]

pub held_after_settling : (n : ℕ) (due : ℕ → Bool) (free new : ℕ → Bool) (rs : List Release) → AreHeldBack n free rs → ((s m : ℕ) → released_by rs s ≡ Some m → due m ≡ false → new s ≡ false) → AreHeldBack n new (kept due rs)
held_after_settling n due free new [] h by = tt
held_after_settling n due free new (r ∷ rs) h by =
    let tail = held_after_settling n due free new rs h.3
    (λ s m e later. elim (cases (names r.run s)) [ inl named ↦ let none = (h.2 s named).1 in absurd cc | inr other ↦ by s m (rw other e) later ]) in
    elim (cases (due r.group)) [
      | inl now ↦ rw now tail
      | inr later ↦ rw later (h.0, h.1, λ s named. (by s r.group (rw named refl) later, none_kept due rs s (h.2 s named).1), tail)
    ]

-- no sector that is kept is given
pub not_given : (n : ℕ) (due : ℕ → Bool) (free : ℕ → Bool) (rs : List Release) → AreHeldBack n free rs → (s m : ℕ) → released_by rs s ≡ Some m → due m ≡ false → (free s || frees due rs s) ≡ false
not_given n due free [] h s m e later = absurd cc
not_given n due free (r ∷ rs) h s m e later =
    elim (cases (names r.run s)) [
      | inl named ↦
          let same : Some r.group ≡ Some m = rw named at e in
          let group : r.group ≡ m = cc in
          let not_due : due r.group ≡ false = ap due group ∙ later in
          let a = h.2 s named in
          rw (a.0, not_due, none_freed due rs s a.1) refl
      | inr other ↦ rw (other, and_false_or (due r.group) (frees due rs s)) (not_given n due free rs h.3 s m (others r rs s (Some m) other e) later)
    ]

pub state_after_settling : (n : ℕ) (pins : List ℕ) (g : ℕ) (free : ℕ → Bool) (rs : List Release) → AreHeldBack n free rs
    → (s : ℕ) → state_of (free s || frees (is_due pins g) rs s) (released_by (kept (is_due pins g) rs) s) ≡ settled pins g (state_of (free s) (released_by rs s))
state_after_settling n pins g free [] h s = elim (cases (free s)) [ inl yes_free ↦ rw yes_free refl | inr no_free ↦ rw no_free refl ]
state_after_settling n pins g free (r ∷ rs) h s =
    let due = is_due pins g in
    elim (cases (names r.run s)) [
      | inl named ↦
          let a = h.2 s named in
          elim (cases (is_due pins g r.group)) [
            | inl now ↦ rw (a.0, named, now) refl
            | inr later ↦ let none = none_freed (is_due pins g) rs s a.1 in rw (a.0, later, named, later, none) refl
          ]
      | inr other ↦
          ap (λ (o : Option ℕ). state_of (free s || frees (is_due pins g) (r ∷ rs) s) o) (kept_other (is_due pins g) r rs s other)
          ∙ rw (other, and_false_or (is_due pins g r.group) (frees (is_due pins g) rs s)) (state_after_settling n pins g free rs h.3 s)
    ]

-- ---- the loop over what was released

pub held_after_giving : (n : ℕ) (free new : ℕ → Bool) (r : Release) (rs : List Release) → AreHeldBack n free (r ∷ rs) → ((s : ℕ) → new s ≡ changed true r.run (free s) s) → AreHeldBack n new rs
held_after_giving n free new r rs h is =
    still_held n free new rs h.3 (λ s m e. is s ∙ elim (cases (names r.run s)) [ inl named ↦ let none = (h.2 s named).1 in absurd cc | inr other ↦ rw other (not_free n free rs h.3 s m e) ])

-- what is due, as the first run is given
pub given_first : (due : ℕ → Bool) (free new : ℕ → Bool) (r : Release) (rs : List Release) → due r.group ≡ true → ((s : ℕ) → new s ≡ changed true r.run (free s) s)
    → (s : ℕ) → (new s || frees due rs s) ≡ (free s || frees due (r ∷ rs) s)
given_first due free new r rs now is s =
    elim (cases (names r.run s)) [ inl named ↦ rw (is s, now, named) (sym (or_true (free s))) | inr other ↦ rw (is s, now, other) refl ]

pub skipped_first : (due : ℕ → Bool) (free : ℕ → Bool) (r : Release) (rs : List Release) → due r.group ≡ false → (s : ℕ) → (free s || frees due rs s) ≡ (free s || frees due (r ∷ rs) s)
skipped_first due free r rs later s = rw later refl

-- ---- the metaslab after that

pub settled_space : (under : List ℕ) (old new : Space) (g : ℕ) → IsHeldBack old.free old.released → new.free.sectors ≡ old.free.sectors
    → ((s : ℕ) → contains new.free.runs s ≡ (contains old.free.runs s || frees (is_due under g) old.released s))
    → new.released ≡ kept (is_due under g) old.released → new.pins ≡ old.pins → IsHeldBack new.free new.released × SettlesUnder under old new g
settled_space under old new g h sectors given rest pins =
    let due = is_due under g in
    let held = held_after_settling old.free.sectors due (contains old.free.runs) (contains new.free.runs) old.released h
    (λ s m e later. given s ∙ not_given old.free.sectors due (contains old.free.runs) old.released h s m e later) in (
      rw (sectors, rest) held,
      record {
        states = λ s. ap (λ (b : Bool). state_of b (released_by new.released s)) (given s)
            ∙ ap (λ (rs : List Release). state_of (contains old.free.runs s || frees due old.released s) (released_by rs s)) rest
            ∙ state_after_settling old.free.sectors under g (contains old.free.runs) old.released h s;
        sectors = sectors;
        pins = pins;
      },
    )

-- ---- where nothing is due

stays : (under : List ℕ) (g : ℕ) (b : Bool) (rs : List Release) → list_any (λ (r : Release). is_due under g r.group) rs ≡ false
    → (s : ℕ) → state_of b (released_by rs s) ≡ settled under g (state_of b (released_by rs s))
stays under g true rs none s = refl
stays under g false [] none s = refl
stays under g false (r ∷ rs) none s =
    elim (cases (is_due under g r.group)) [
      | inl now ↦ let some : true ≡ false = rw now at none in absurd cc
      | inr later ↦
          let rest : list_any (λ (it : Release). is_due under g it.group) rs ≡ false = rw later at none in
          elim (cases (names r.run s)) [ inl named ↦ rw (named, later) refl | inr other ↦ rw other (stays under g false rs rest s) ]
    ]

pub nothing_settles : (under : List ℕ) (space : Space) (g : ℕ) → list_any (λ (r : Release). is_due under g r.group) space.released ≡ false → SettlesUnder under space space g
nothing_settles under space g none = record {
  states = λ s. stays under g (contains space.free.runs s) space.released none s;
  sectors = refl;
  pins = refl;
}

-- ---- all that was released

pub unused_state : (free : ℕ → Bool) (rs : List Release) (s : ℕ) → (free s || frees (λ (group : ℕ). true) rs s) ≡ not (is_in_use (state_of (free s) (released_by rs s)))
unused_state free [] s = elim (cases (free s)) [ inl here ↦ rw here refl | inr not_here ↦ rw not_here refl ]
unused_state free (r ∷ rs) s =
    elim (cases (names r.run s)) [
      | inl named ↦ elim (cases (free s)) [ inl here ↦ rw here refl | inr not_here ↦ rw (not_here, named) refl ]
      | inr other ↦ rw other (unused_state free rs s)
    ]

-- ---- how many calls that takes

pub counted : (due : ℕ → Bool) (r : Release) (rs : List Release) (a b most : ℕ) → due r.group ≡ true → IsRaised 8 a b → a + 8 * count_of due (r ∷ rs) ≤ most → b + 8 * count_of due rs ≤ most
counted due r rs a b most now raised enough =
    let few = raised.few in
    let one : a + 8 * suc (count_of due rs) ≤ most = rw now at enough in
    omega arith

pub not_counted : (due : ℕ → Bool) (r : Release) (rs : List Release) (a most : ℕ) → due r.group ≡ false → a + 8 * count_of due (r ∷ rs) ≤ most → a + 8 * count_of due rs ≤ most
not_counted due r rs a most later enough = rw later at enough

-- where nothing is due no extent is counted
pub none_counted : (under : List ℕ) (g : ℕ) (rs : List Release) → list_any (λ (r : Release). is_due under g r.group) rs ≡ false → count_of (is_due under g) rs ≡ 0
none_counted under g [] none = refl
none_counted under g (r ∷ rs) none =
    elim (cases (is_due under g r.group)) [
      | inl now ↦ let some : true ≡ false = rw now at none in absurd cc
      | inr later ↦ let rest : list_any (λ (it : Release). is_due under g it.group) rs ≡ false = rw later at none in rw later (none_counted under g rs rest)
    ]
