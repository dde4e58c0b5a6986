-- Runs all of whose sectors are in use.
use Rattle.std.proofs.Common.{◌≡◌, ℕ, ◌+◌, ◌<◌, ◌≤◌, Bool, true, false, None, List, [], ◌∷◌, refl}
use Rattle.std.specs.Prelude.{Option, All, not, ◌≢◌}
use Rattle.std.specs.List.{AllByRecursion}
use Rattle.std.proofs.lemmas.List.Elements.{All-from_recursion}
use Rattle.space_map.specs.declared.entry.Run.{Run}
use Rattle.space_map.specs.Sectors.{names, contains}
use Rattle.metaslab.specs.declared.settling.Release.{Release}
use Rattle.metaslab.specs.Released.{released_by, AreHeldBack}
use Rattle.metaslab.specs.Space.{Space, sectors_of, state_of}
use Rattle.metaslab.specs.Calls.{IsRunOf}
use Rattle.metaslab.specs.State.{InUse}
use Rattle.metaslab.proofs.Holding.{in_use_parts}

releases_are_some : (n : ℕ) (free : ℕ → Bool) (rs : List Release) → AreHeldBack n free rs → AllByRecursion (λ (r : Release). 0 < r.run.len) rs
releases_are_some n free [] h = tt
releases_are_some n free (r ∷ rs) h = (h.0, releases_are_some n free rs h.3)

pub releases_have_sectors : (n : ℕ) (free : ℕ → Bool) (rs : List Release) → AreHeldBack n free rs → All (λ (r : Release). 0 < r.run.len) rs
releases_have_sectors n free rs h = All-from_recursion (λ (r : Release). 0 < r.run.len) rs (releases_are_some n free rs h)

in_use_state : (b : Bool) (o : Option ℕ) → b ≡ false → o ≡ None → state_of b o ≡ InUse
in_use_state b o free released = rw (free, released) refl

-- a run that shares no sector with those that are free or released is in use
pub is_run_in_use : (space : Space) (run : Run) → run.start + run.len ≤ sectors_of space
    → ((s : ℕ) → names run s ≡ true → contains space.free.runs s ≡ false) → ((s : ℕ) → names run s ≡ true → released_by space.released s ≡ None)
    → IsRunOf space run InUse
is_run_in_use space run within free released = record { within = within; each = λ s named. in_use_state _ _ (free s named) (released s named) }

-- one that shares a free sector isn't, nor is one that shares a released sector
pub shared_free : (space : Space) (run : Run) → ((s : ℕ) × (names run s ≡ true) × (contains space.free.runs s ≡ true)) → ¬ IsRunOf space run InUse
shared_free space run (s, named, free) is = let not_so = (in_use_parts _ _ (is.each s named)).0 in absurd cc

pub shared_released : (space : Space) (run : Run) → ((s : ℕ) × (names run s ≡ true) × (released_by space.released s ≢ None)) → ¬ IsRunOf space run InUse
shared_released space run (s, named, released) is = released (in_use_parts _ _ (is.each s named)).1

-- a test by which all is well says so
pub not_shared : (shares : Bool) → not shares ≡ true → shares ≡ false
not_shared true h = absurd cc
not_shared false h = refl

pub not_sharing : (shares : Bool) → (shares ≡ true → ⊥) → not shares ≡ true
not_sharing true h = elim (h refl) [ ]
not_sharing false h = refl
