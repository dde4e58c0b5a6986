-- What is said of each moment of an open goes on to hold through calls that write nothing.
use Rattle.std.proofs.Common.{◌≡◌, inl, inr, ◌<◌, ◌∙◌, ℕ, zero, suc, ◌+◌, ◌-◌, ◌==◌, Bool, true, false, if◌then◌else◌, List, [], ◌∷◌, ◌++◌, length, slice_get, Option, Some, None, All, Contains, refl, sym, subst, arith}
use Rattle.std.proofs.lemmas.List.Elements.{All-tail}
use Rattle.model_disk.specs.Call.{Call, Read, FailedRead, Wrote, FailedWrite, Flushed, FailedFlush}
use Rattle.model_disk.specs.Contents.{MayLeave, byte_at, covers}
use Rattle.model_disk.specs.Joint.{Disks, JointCall, MayLeaveAll, bytes_of, calls_on}
use Rattle.model_disk.specs.Runs.{EachSince, HeldSince, Holds, Makes, WritesOnly, last_done, no_write}
use Rattle.model_disk.proofs.ContentsLemmas.{MayLeave-before_Flushed, MayLeave-FailedFlush}
use Rattle.model_disk.proofs.RunLemmas.{each_after, each_of_run}
use Rattle.pool_slots.specs.Configs.{LeavesConfiguredOn, OpenConfigures, ShowsConfig}
use Rattle.pool_slots.specs.Marks.{LeavesMarked}
use Rattle.pool_slots.specs.Opens.{MarksAt, OpenKeeps, OpenMarks, also_begun}
use Rattle.pool_slots.specs.Possible.{LeavesLeading, Possible, Trees}
use Rattle.pool_slots.specs.Relabels.{IsRewrite, OpenRewrites}
use Rattle.pool_slots.specs.Slots.{AreUntorn}
use Rattle.pool_slots.proofs.Finding.{honest_before}
use Rattle.pool_slots.proofs.Phases.{both_made}

-- ---- one call

-- a call that writes nothing leaves no more than was left before it
leaves_less : (start : List ℕ) (call : Call) (calls : List Call) (image : List ℕ) → WritesOnly (λ at bytes. ⊥) call → MayLeave start (call ∷ calls) image → MayLeave start calls image
leaves_less start (Read at bytes) calls image none left = record { size = left.size; kept = left.kept }
leaves_less start (FailedRead at n) calls image none left = record { size = left.size; kept = left.kept }
leaves_less start (Wrote at bytes) calls image none left = absurd none
leaves_less start (FailedWrite at bytes) calls image none left = absurd none
leaves_less start Flushed calls image none left = MayLeave-before_Flushed start calls image left
leaves_less start FailedFlush calls image none left = MayLeave-FailedFlush start calls image left

-- what is held stays so where a write that failed counts as done
pick : (b : Bool) (x y z : Option ℕ) (v : ℕ) → z ≡ Some v → (if b then None else y) ≡ z → (if b then x else y) ≡ z
pick true x y z v some is = absurd (let e : None ≡ Some v = is ∙ some in cc)
pick false x y z v some is = is

within_some : (bytes : List ℕ) (i : ℕ) → i < length bytes → (v : ℕ) × (slice_get bytes i ≡ Some v)
within_some [] i below = absurd (omega (arith, below))
within_some (b ∷ bytes) zero below = (b, refl)
within_some (b ∷ bytes) (suc i) below = within_some bytes i (omega (arith, below))

held_if_done : (start : List ℕ) (calls : List Call) (at : ℕ) (bytes : List ℕ) → Holds start calls at bytes → Holds start (last_done calls) at bytes
held_if_done start [] at bytes held = held
held_if_done start (Read a b ∷ calls) at bytes held = held
held_if_done start (FailedRead a n ∷ calls) at bytes held = held
held_if_done start (Wrote a b ∷ calls) at bytes held = held
held_if_done start (FailedWrite a b ∷ calls) at bytes held = λ i below.
    let some = within_some bytes i below in
    pick (covers a (length b) (at + i)) (slice_get b (at + i - a)) (byte_at start calls (at + i)) (slice_get bytes i) some.0 some.1 (held i below)
held_if_done start (Flushed ∷ calls) at bytes held = held
held_if_done start (FailedFlush ∷ calls) at bytes held = held

stood_before : (start : List ℕ) (call : Call) (calls : List Call) (at : ℕ) (bytes : List ℕ) → WritesOnly (λ at bytes. ⊥) call → Holds start (last_done (call ∷ calls)) at bytes → Holds start calls at bytes
stood_before start (Read a b) calls at bytes none held = held
stood_before start (FailedRead a n) calls at bytes none held = held
stood_before start (Wrote a b) calls at bytes none held = absurd none
stood_before start (FailedWrite a b) calls at bytes none held = absurd none
stood_before start Flushed calls at bytes none held = held
stood_before start FailedFlush calls at bytes none held = held

-- what was held behind such a call was before it
held_before : (start : List ℕ) (call : Call) (calls : List Call) (at : ℕ) (bytes : List ℕ) (newer earlier : List Call) → WritesOnly (λ at bytes. ⊥) call → call ∷ calls ≡ newer ++ earlier
    → ¬ Contains newer Flushed → Holds start (last_done earlier) at bytes → HeldSince start calls at bytes
held_before start call calls at bytes [] earlier none is unflushed stood =
    let here : Holds start (last_done (call ∷ calls)) at bytes = subst (λ (them : List Call). Holds start (last_done them) at bytes) (sym is) stood in
    record {
      newer = [];
      earlier = calls;
      is = refl;
      unflushed = λ has. omega (arith, has.1);
      stood = held_if_done start calls at bytes (stood_before start call calls at bytes none here);
    }
held_before start call calls at bytes (first ∷ newer) earlier none is unflushed stood =
    let rest : calls ≡ newer ++ earlier = cc in
    record {
      newer = newer;
      earlier = earlier;
      is = rest;
      unflushed = λ has. unflushed (suc has.0, omega (arith, has.1), has.2);
      stood = stood;
    }

-- ---- one call on one of the disks

module _ (starts : List (List ℕ)) (made : JointCall) (calls : List JointCall) (images : List (List ℕ)) where
  less_if : (same : Bool) (start : List ℕ) (those : List Call) (image : List ℕ) → WritesOnly (λ at bytes. ⊥) made.call → MayLeave start (if same then made.call ∷ those else those) image
      → MayLeave start those image
  less_if true start those image none left = leaves_less start made.call those image none left
  less_if false start those image none left = left

  all_leave_less : WritesOnly (no_write made.which) made.call → MayLeaveAll starts (made ∷ calls) images → MayLeaveAll starts calls images
  all_leave_less none left = record {
    count = left.count;
    each = λ which below. less_if (made.which == which) (bytes_of starts which) (calls_on which calls) (bytes_of images which) none (left.each which below);
  }

  held_if : (same : Bool) (start : List ℕ) (those : List Call) (at : ℕ) (bytes : List ℕ) → WritesOnly (λ at bytes. ⊥) made.call
      → HeldSince start (if same then made.call ∷ those else those) at bytes → HeldSince start those at bytes
  held_if true start those at bytes none it = held_before start made.call those at bytes it.newer it.earlier none it.is it.unflushed it.stood
  held_if false start those at bytes none it = it

  untorn_before : (out : List Bool) → WritesOnly (no_write made.which) made.call → AreUntorn out starts (made ∷ calls) images → AreUntorn out starts calls images
  untorn_before out none untorn = λ which label u used low fits shows.
      held_if (made.which == which) (bytes_of starts which) (calls_on which calls) _ _ none (untorn which label u used low fits shows)

-- ---- what a stop leaves

-- it goes on to hold
abbrev GoesOn : (List JointCall → Type 0) → Type 0
GoesOn Q = (made : JointCall) (calls : List JointCall) → WritesOnly (no_write made.which) made.call → Q calls → Q (made ∷ calls)

leading_goes_on : (trees : Trees) (out : List Bool) (starts : List (List ℕ)) (p : Possible) → GoesOn (LeavesLeading trees out starts p)
leading_goes_on trees out starts p made calls none before images left untorn =
    before images (all_leave_less starts made calls images none left) (untorn_before starts made calls images out none untorn)

marked_goes_on : (out : List Bool) (starts : List (List ℕ)) (claim : ℕ) → GoesOn (LeavesMarked out starts claim)
marked_goes_on out starts claim made calls none before images left = before images (all_leave_less starts made calls images none left)

configured_goes_on : (used : ℕ → Type 0) (starts : List (List ℕ)) (digest : List ℕ) → GoesOn (LeavesConfiguredOn used starts digest)
configured_goes_on used starts digest made calls none before images left = before images (all_leave_less starts made calls images none left)

marks_go_on : (trees : Trees) (out : List Bool) (rewind : ℕ) (old : Disks) (p : Possible) (claim : ℕ) → GoesOn (MarksAt trees out rewind old p claim)
marks_go_on trees out rewind old p claim made calls none (inl it) =
    inl (leading_goes_on trees out old.starts p made calls none it.0, marked_goes_on out old.starts claim made calls none it.1)
marks_go_on trees out rewind old p claim made calls none (inr (u, is, above, leads, marked)) =
    inr (u, is, above, leading_goes_on trees out old.starts (also_begun u p) made calls none leads, marked_goes_on out old.starts u.claim made calls none marked)

-- through some calls, and at each moment
through_some : (Q : List JointCall → Type 0) → GoesOn Q → (made calls : List JointCall) → All (λ it. WritesOnly (no_write it.which) it.call) made → Q calls → Q (made ++ calls)
through_some Q on [] calls none before = before
through_some Q on (one ∷ made) calls none before =
    on one (made ++ calls) (none 0 one (omega arith)) (through_some Q on made calls (All-tail (λ (it : JointCall). WritesOnly (no_write it.which) it.call) one made none) before)

each_goes_on : (Q : List JointCall → Type 0) (n : ℕ) (mid new : Disks) → GoesOn Q → Makes no_write mid new → EachSince n Q mid.calls → EachSince n Q new.calls
each_goes_on Q n mid new on makes before =
    let now : Q mid.calls = before mid.calls (record { newer = []; is = refl; since = inl refl }) in
    let since : EachSince (length mid.calls) Q new.calls = each_of_run no_write Q mid new (λ made none. through_some Q on made mid.calls none now) makes in
    let E : List JointCall → Type 0 = EachSince n Q in
    subst E (sym makes.calls) (each_after Q n mid.calls makes.newer before (subst (λ (them : List JointCall). EachSince (length mid.calls) Q them) makes.calls since))

-- ---- an open

module _ (out : List Bool) (rewind : ℕ) (old mid new : Disks) where
  pub keeps_on : Makes no_write mid new → OpenKeeps out rewind old mid → OpenKeeps out rewind old new
  keeps_on makes keeps = λ trees p can honest. elim (keeps trees p can (honest_before (length old.calls) no_write mid new makes honest)) [
    | inl leads ↦ inl (each_goes_on (LeavesLeading trees out old.starts p) (length old.calls) mid new (leading_goes_on trees out old.starts p) makes leads)
    | inr it ↦ inr (
      it.0,
      it.1,
      each_goes_on (LeavesLeading trees out old.starts (also_begun it.0 p)) (length old.calls) mid new (leading_goes_on trees out old.starts (also_begun it.0 p)) makes it.2,
    )
  ]

  pub marks_on : Makes no_write mid new → OpenMarks out rewind old mid → OpenMarks out rewind old new
  marks_on makes marks = λ trees p claim can marked honest.
      each_goes_on (MarksAt trees out rewind old p claim) (length old.calls) mid new (marks_go_on trees out rewind old p claim) makes
      (marks trees p claim can marked (honest_before (length old.calls) no_write mid new makes honest))

  pub configures_on : Makes no_write mid new → OpenConfigures out rewind old mid → OpenConfigures out rewind old new
  configures_on makes configures = λ known settled four honest. elim (configures known settled four (honest_before (length old.calls) no_write mid new makes honest)) [
    | inl none ↦ inl (both_made no_write old mid new none makes)
    | inr it ↦ inr (
      it.0,
      it.1,
      each_goes_on (LeavesConfiguredOn (ShowsConfig out old it.0.config_digest) old.starts it.0.config_digest) (length old.calls) mid new
          (configured_goes_on (ShowsConfig out old it.0.config_digest) old.starts it.0.config_digest) makes it.2,
    )
  ]

  pub rewrites_on : Makes no_write mid new → OpenRewrites out old mid → OpenRewrites out old new
  rewrites_on makes rewrites = λ known honest. elim (rewrites known (honest_before (length old.calls) no_write mid new makes honest)) [
    | inl none ↦ inl (both_made no_write old mid new none makes)
    | inr it ↦ inr (it.0, it.1, both_made (IsRewrite out old it.0) old mid new it.2 makes)
  ]
