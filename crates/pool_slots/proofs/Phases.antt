-- The disks in use, in a phase.
use Rattle.std.proofs.Common.{◌≡◌, inl, inr, ◌<◌, ◌∙◌, ℕ, ◌+◌, Bool, List, [], ◌∷◌, ◌++◌, length, slice_get, Option, Some, Contains, refl, sym, ap, subst, arith}
use Rattle.uberblock_ring.specs.declared.uberblock.Uberblock.{Uberblock}
use Rattle.uberblock_ring.specs.Uberblock.{Fits}
use Rattle.model_disk.specs.Call.{Call}
use Rattle.model_disk.specs.Contents.{is_dirty}
use Rattle.model_disk.specs.Joint.{JointCall, Disks, bytes_of, calls_on, content}
use Rattle.model_disk.specs.Runs.{Makes, no_write, EachSince, IsSettled, IsOff, IsWholeIn, HeldOn}
use Rattle.model_disk.proofs.LawLemmas.{untouched_since}
use Rattle.model_disk.proofs.RunLemmas.{Makes-none, off_is_left, held_in_run, off_content, each_after, calls_on-append, off_untouched, writes_on, Makes-more, Makes-wider}
use Rattle.pool_slots.specs.Slots.{InUse, AreThere, MakesOn, AreSettled, spelled, slot_at, IsSlot}
use Rattle.pool_slots.specs.Possible.{Possible, IsInReach, LeadsOn, Trees, IsPossible, Leads, held_by, LeavesLeading}
use Rattle.pool_slots.specs.Commits.{LeadAlways}
use Rattle.pool_slots.proofs.OneDisk.{IsWritten, IsSafe, one_slot, top_is_left, leads_kept_on}
use Rattle.pool_slots.proofs.Places.{length-spelled}

-- ---- runs

pub MakesOn-none : (used : ℕ → Type 0) (may : ℕ → ℕ → List ℕ → Type 0) (disks : Disks) → MakesOn used may disks disks
MakesOn-none used may disks = record { makes = Makes-none may disks; alone = λ which none. refl }

pub MakesOn-more : (used : ℕ → Type 0) (may : ℕ → ℕ → List ℕ → Type 0) (old mid new : Disks) → MakesOn used may old mid → MakesOn used may mid new
    → MakesOn used may old new
MakesOn-more used may old mid new first second =
    record { makes = Makes-more may old mid new first.makes second.makes; alone = λ which none. second.alone which none ∙ first.alone which none }

pub MakesOn-wider : (used also : ℕ → Type 0) (may more : ℕ → ℕ → List ℕ → Type 0) (old new : Disks) → ((which : ℕ) → used which → also which)
    → ((which at : ℕ) (bytes : List ℕ) → may which at bytes → more which at bytes) → MakesOn used may old new → MakesOn also more old new
MakesOn-wider used also may more old new others wider run =
    record { makes = Makes-wider may more old new wider run.makes; alone = λ which none. run.alone which (λ it. none (others which it)) }

-- a run that writes nothing, as a part of one that may write
pub none_wider : (used : ℕ → Type 0) (may : ℕ → ℕ → List ℕ → Type 0) (old new : Disks) → MakesOn used no_write old new → MakesOn used may old new
none_wider used may old new run = MakesOn-wider used used no_write may old new (λ which it. it) (λ which at bytes none. absurd none) run

pub flushed_too : (used : ℕ → Type 0) (may : ℕ → ℕ → List ℕ → Type 0) (old wrote new : Disks) → MakesOn used may old wrote → MakesOn used no_write wrote new
    → MakesOn used may old new
flushed_too used may old wrote new makes flush = MakesOn-more used may old wrote new makes (none_wider used may wrote new flush)

pub both_made : (may : ℕ → ℕ → List ℕ → Type 0) (old wrote new : Disks) → Makes may old wrote → Makes no_write wrote new → Makes may old new
both_made may old wrote new makes flush = Makes-more may old wrote new makes (Makes-wider no_write may wrote new (λ which at bytes none. absurd none) flush)

pub none_same : (old new : Disks) (which i : ℕ) → Makes no_write old new → content new which i ≡ content old which i
none_same old new which i makes = off_content no_write old new which i makes (λ at bytes none. absurd none)

-- a run that writes nothing leaves a settled disk settled
pub settled_later : (old new : Disks) (which : ℕ) → Makes no_write old new → IsSettled (calls_on which old.calls) → IsSettled (calls_on which new.calls)
settled_later old new which makes settled i =
    let none = off_untouched (no_write which) (calls_on which makes.newer) i (writes_on no_write which makes.newer makes.writes) (λ at bytes it. absurd it) in
    let since = untouched_since [] (calls_on which makes.newer) (calls_on which old.calls) i none in
    ap (λ (them : List Call). is_dirty them i) (ap (calls_on which) makes.calls ∙ calls_on-append which makes.newer old.calls) ∙ since.1 (settled i)

-- ---- what disks lead to

pub allowed_more : (size : ℕ) (held : ℕ → Option ℕ) (last : Uberblock) (Good Good' : Uberblock → Type 0) → ((u : Uberblock) → Good u → Good' u)
    → LeadsOn size held last Good → LeadsOn size held last Good'
allowed_more size held last Good Good' more leads = leads_kept_on size held held last Good Good' more (λ label slot is i inside. refl) leads

-- with more that is possible
pub leads_more : (trees : Trees) (out : List Bool) (starts : List (List ℕ)) (held : ℕ → ℕ → Option ℕ) (last : Uberblock) (begun more before : List Uberblock)
    → ((u : Uberblock) → Contains (last ∷ begun) u → Contains (last ∷ more) u)
    → Leads trees out starts held (record { last = last; begun = begun; before = before }) → Leads trees out starts held (record { last = last; begun = more; before = before })
leads_more trees out starts held last begun more before wider leads which used =
    let p : Possible = record { last = last; begun = begun; before = before } in
    let q : Possible = record { last = last; begun = more; before = before } in
    allowed_more (length (bytes_of starts which)) (held which) last
    (IsPossible trees out held p) (IsPossible trees out held q)
    (λ v possible. (elim possible.0 [ inl among ↦ inl (wider v among) | inr earlier ↦ inr earlier ], possible.1)) (leads which used)

-- with fewer disks
pub leads_fewer : (trees : Trees) (out later : List Bool) (starts : List (List ℕ)) (held : ℕ → ℕ → Option ℕ) (p : Possible)
    → ((which : ℕ) → InUse later which → InUse out which) → Leads trees out starts held p → Leads trees later starts held p
leads_fewer trees out later starts held p fewer leads which used =
    allowed_more (length (bytes_of starts which)) (held which) p.last (IsPossible trees out held p) (IsPossible trees later held p)
    (λ v possible. (possible.0, λ d i value there is. possible.1 d i value (fewer d there) is)) (leads which (fewer which used))

-- ---- a phase

-- what a phase may write, judged by its disks as it begins
pub record IsPhase (trees : Trees) (out : List Bool) (old : Disks) (may : ℕ → ℕ → List ℕ → Type 0) (p : Possible) : Type 0 where
  pub whole : (which label slot : ℕ) → InUse out which → IsSlot label slot → IsWholeIn (may which) (slot_at (length (bytes_of old.starts which)) label slot) 1024
  pub off : (u : Uberblock) → IsInReach p u → (which i value : ℕ) → InUse out which → trees u.root which i ≡ Some value → IsOff (may which) i
  pub written : (which label slot : ℕ) (u : Uberblock) → InUse out which → IsSlot label slot → Fits u → may which (slot_at (length (bytes_of old.starts which)) label slot) (spelled u)
      → IsWritten slot u (IsPossible trees out (content old) p)
  pub safe : (which : ℕ) → InUse out which → IsSafe (may which) (length (bytes_of old.starts which)) (content old which) p.last

written_better : (slot : ℕ) (u : Uberblock) (Good Good' : Uberblock → Type 0) → ((v : Uberblock) → Good v → Good' v) → IsWritten slot u Good → IsWritten slot u Good'
written_better slot u Good Good' better it = record { v = it.v; fits = it.fits; number = it.number; same = it.same; good = better it.v it.good }

-- whatever a stop in a phase leaves leads where the disks led as it began, or to what the phase may write
pub phase_leaves : (trees : Trees) (out : List Bool) (old new : Disks) (may : ℕ → ℕ → List ℕ → Type 0) (p : Possible)
    → AreThere out old.starts → AreSettled out old.calls → Leads trees out old.starts (content old) p
    → IsPhase trees out old may p → Makes may old new → LeadAlways trees out old new p
phase_leaves trees out old new may p there settled leads phase makes earlier moment images left untorn which used =
    let size = length (bytes_of old.starts which) in
    let same_size : length (bytes_of images which) ≡ size = (left.each which (there which used)).size in
    let kept : (d i value : ℕ) → InUse out d → IsOff (may d) i → content old d i ≡ Some value → held_by images d i ≡ Some value = λ d i value d_used off known.
    off_is_left may old new earlier images makes moment left d i value (there d d_used) (settled d d_used) off known in
    let stands : (u : Uberblock) → IsPossible trees out (content old) p u → IsPossible trees out (held_by images) p u = λ u possible. (
      possible.0,
      λ d i value d_used is. kept d i value d_used (phase.off u possible.0 d i value d_used is) (possible.1 d i value d_used is),
    ) in
    let P : ℕ → Type 0 = λ n. LeadsOn n (held_by images which) p.last (IsPossible trees out (held_by images) p) in
    let safe = phase.safe which used in
    subst P (sym same_size) (record {
      only = λ label slot is u shows.
          let place = slot_at size label slot in
          let Q : ℕ → Type 0 = λ s. HeldOn old.starts earlier which (slot_at size label s) (spelled u) in
          let R : ℕ → Type 0 = λ s. (i : ℕ) → i < length (spelled u) → held_by images which (slot_at size label s + i) ≡ slice_get (spelled u) i in
          let held : HeldOn old.starts earlier which place (spelled u) = subst Q (sym shows.number) (untorn which label u used is.is_label shows.fits (subst R shows.number shows.bytes)) in
          let len : length (spelled u) ≡ 1024 = length-spelled u shows.fits in
          let W : ℕ → Type 0 = λ n. IsWholeIn (may which) place n in
          let it = held_in_run may old new earlier makes moment which place (spelled u) (settled which used) (omega (arith, len)) (subst W (sym len) (phase.whole which label slot used is)) held in
          one_slot (content old which) (held_by images which) (may which place) place slot p.last (IsPossible trees out (content old) p) (IsPossible trees out (held_by images) p)
          stands ((leads which used).only label slot is)
          (λ w fits wrote. written_better slot w (IsPossible trees out (content old) p) (IsPossible trees out (held_by images) p) stands (phase.written which label slot w used is fits wrote))
          u shows it;
      top = top_is_left (content old which) (held_by images which) size p.last safe.top
          (λ i value inside known. kept which (slot_at size safe.top.label safe.top.slot + i) value used (safe.off i inside) known);
    })

-- two phases, one after the other
pub phases_leave : (trees : Trees) (out : List Bool) (old mid new : Disks) (p : Possible) → old.starts ≡ mid.starts → (newer : List JointCall) → new.calls ≡ newer ++ mid.calls
    → LeadAlways trees out old mid p → LeadAlways trees out mid new p → LeadAlways trees out old new p
phases_leave trees out old mid new p same newer calls first second =
    let Q : List (List ℕ) → Type 0 = λ starts. EachSince (length mid.calls) (LeavesLeading trees out starts p) new.calls in
    let R : List JointCall → Type 0 = EachSince (length mid.calls) (LeavesLeading trees out old.starts p) in
    let T : List JointCall → Type 0 = EachSince (length old.calls) (LeavesLeading trees out old.starts p) in
    subst T (sym calls) (each_after (LeavesLeading trees out old.starts p) (length old.calls) mid.calls newer first (subst R calls (subst Q (sym same) second)))
