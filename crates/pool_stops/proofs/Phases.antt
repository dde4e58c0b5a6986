-- The phase of a plan goes on with its device calls.
use Rattle.std.proofs.Common.{ℕ, ◌≡◌, ◌⊎◌, ⊎_elim, inl, inr, Bool, true, false, List, [], ◌∷◌, ◌++◌, length, Contains, refl, sym, ap, subst, ◌∙◌, arith}
use Rattle.std.proofs.Common.{All}
use Rattle.std.proofs.lemmas.List.Elements.{All-cons, All-nil}
use Rattle.model_disk.specs.Call.{Call, Read, FailedRead, Wrote, FailedWrite, Flushed, FailedFlush}
use Rattle.std.specs.Prelude.{◌==◌, if◌then◌else◌}
use Rattle.std.specs.List.{AllByRecursion}
use Rattle.std.proofs.lemmas.Bool.Decides.{nat_tests}
use Rattle.model_disk.specs.Contents.{is_dirty}
use Rattle.model_disk.specs.Joint.{Disks, JointCall, bytes_of, calls_on, on}
use Rattle.model_disk.specs.Runs.{IsSettled, Makes, WritesOnly, no_write}
use Rattle.model_disk.proofs.RunLemmas.{Makes-wider}
use Rattle.raidz_io.specs.Reads.{AreReads, IsRead, OnlyReads}
use Rattle.pool_stops.proofs.Filled.{filled_for_blocks, filled_no_more}
use Rattle.pool_stops.proofs.Holding.{get_in_use}
use Rattle.uberblock_ring.specs.Slot.{slot_number}
use Rattle.uberblock_ring.specs.Uberblock.{Fits}
use Rattle.uberblock_ring.specs.declared.uberblock.Uberblock.{Uberblock}
use Rattle.block_store.specs.Spaces.{VdevSpace}
use Rattle.pool_create.specs.CommitPlanned.{Planned}
use Rattle.pool_create.specs.Calls.{IsFlushed, IsWrite}
use Rattle.pool_create.specs.CommitState.{State}
use Rattle.pool_create.specs.CommitWriting.{IsDueSlot, IsDueWrite, may_write}
use Rattle.pool_slots.proofs.Writing.{flush_settles}
use Rattle.pool_slots.specs.PhaseLaws.{ReadsAndFlushesKeep}
use Rattle.pool_slots.specs.Phases.{AreInBlocks, AreInSlots}
use Rattle.pool_slots.specs.Slots.{AreSettled, InUse, slot_at, spelled}
use Rattle.pool_slots.specs.Writes.{IsSlotWrite, in_use}
use Rattle.pool_stops.specs.Phases.{StepGoesOn, IsBeforeSlots, IsInPhase, IsInSlots, IsGoodPlan, PhasesEnd, PhasesGoOn, PlansKeepThePhase, ReadsKeepThePhase, StopsWell}
use Rattle.pool_stops.specs.Standing.{BlocksKeepWhatIsFilled, CommitsEndFilled, LieBesideLabels, SlotsBeginBehindBlocks, SlotsKeepWhatIsForBlocks, block_trees, filled_trees, unfilled_write}

-- ---- which writes

none_among : {A : Type 0} (x : A) → ¬ Contains [] x
none_among x (k, within, is) = absurd (omega (arith, within))

-- a slot of the plan's uberblock that is due
slot_write : (s : State) (plan : Planned) (last : Uberblock) (which at : ℕ) (bytes : List ℕ) → IsGoodPlan s plan last
    → IsDueSlot s.store.disks.starts plan.uberblock plan.behind.slots.items which at bytes → IsSlotWrite s.store.disks.starts plan.uberblock (in_use s.store.out) which at bytes
unfolding slot_at spelled
slot_write s plan last which at bytes may due =
    let used : InUse s.store.out due.write.disk =
    get_in_use s.store.out due.write.disk (omega (arith, due.there, may.count)) (may.slots due.write due.is_due) in
    record {
      label = due.write.label;
      is_label = due.is_label;
      picked = subst (λ (n : ℕ). InUse s.store.out n) (sym due.disk) used;
      place = due.place ∙ ap (λ (n : ℕ). slot_at (length (bytes_of s.store.disks.starts n)) due.write.label (slot_number plan.uberblock.group)) (sym due.disk);
      spells = due.same;
    }

pub is_empty : {A : Type 0} (xs : List A) → (xs ≡ []) ⊎ ¬ (xs ≡ [])
is_empty [] = inl refl
is_empty (x ∷ xs) = inr (λ is. cc)

-- in the slots phase a plan's step writes slots alone
slots_alone : (old new : State) (plan : Planned) (last : Uberblock) (before : List Uberblock) → IsGoodPlan old plan last → IsInSlots old plan last before
    → Makes (may_write old plan) old.store.disks new.store.disks → Makes (IsSlotWrite old.store.disks.starts plan.uberblock (in_use old.store.out)) old.store.disks new.store.disks
slots_alone old new plan last before may phase writes =
    Makes-wider (may_write old plan) (IsSlotWrite old.store.disks.starts plan.uberblock (in_use old.store.out)) old.store.disks new.store.disks
    (λ which at bytes is. ⊎_elim
    (λ block. absurd (none_among block.write (subst (λ xs. Contains xs block.write) phase.written block.is_due)))
    (λ slot. slot_write old plan last which at bytes may slot.2) is) writes

-- ---- flushes

-- a call that is no write makes nothing dirty
clean_call : (call : Call) (earlier : List Call) (i : ℕ) → ¬ IsWrite call → is_dirty earlier i ≡ false → is_dirty (call ∷ earlier) i ≡ false
clean_call (Read at bytes) earlier i none clean = clean
clean_call (FailedRead at n) earlier i none clean = clean
clean_call (Wrote at bytes) earlier i none clean = absurd (none tt)
clean_call (FailedWrite at bytes) earlier i none clean = absurd (none tt)
clean_call Flushed earlier i none clean = refl
clean_call FailedFlush earlier i none clean = clean

clean_if : (b : Bool) (call : Call) (earlier : List Call) (i : ℕ) → (b ≡ true → ¬ IsWrite call) → is_dirty earlier i ≡ false
    → is_dirty (if b then call ∷ earlier else earlier) i ≡ false
clean_if true call earlier i none clean = clean_call call earlier i (none refl) clean
clean_if false call earlier i none clean = clean

-- of calls that are no writes on the disk none makes it dirty
dirty_before : (newer older : List JointCall) (disk i : ℕ) → AllByRecursion (λ (made : JointCall). made.which ≡ disk → ¬ IsWrite made.call) newer
    → is_dirty (calls_on disk older) i ≡ false → is_dirty (calls_on disk (newer ++ older)) i ≡ false
dirty_before [] older disk i none clean = clean
dirty_before (made ∷ newer) older disk i none clean =
    clean_if (made.which == disk) made.call (calls_on disk (newer ++ older)) i (λ same. none.0 (grind (arith, nat_tests, same)))
    (dirty_before newer older disk i none.1 clean)

-- a disk that was flushed behind its last write has nothing unflushed
pub flushed_settled : (disks : Disks) (disk : ℕ) → IsFlushed disks disk → IsSettled (calls_on disk disks.calls)
flushed_settled disks disk flushed i =
    ap (λ calls. is_dirty (calls_on disk calls) i) flushed.calls
    ∙ dirty_before flushed.newer (on disk Flushed ∷ flushed.older) disk i flushed.none
    (flush_settles (record { starts = disks.starts; calls = flushed.older }) (record { starts = disks.starts; calls = on disk Flushed ∷ flushed.older }) disk refl i)

-- ---- the slots phase

in_slots : SlotsKeepWhatIsForBlocks → (old new : State) (plan after : Planned) (last : Uberblock) (before : List Uberblock) → IsGoodPlan old plan last → StepGoesOn old plan new after
    → IsInSlots old plan last before → IsInPhase new after last before × StopsWell old plan new last before
in_slots law old new plan after last before may goes phase =
    let slots = slots_alone old new plan last before may phase (goes.writes.makes plan goes.planned) in
    let went = law old.store.spaces old.store.out old.store.disks new.store.disks last before plan.uberblock may.lie (goes.writes.fits plan goes.planned) phase.slots slots in
    let on = goes.writes.goes_on plan after goes.planned goes.still in
    let same : after.uberblock ≡ plan.uberblock = on.uberblock in (
      inr (record {
        written = on.written phase.written;
        begun = on.begun phase.begun;
        slots = subst (λ (u : Uberblock). AreInSlots (block_trees new.store.spaces new.store.disks) new.store.out new.store.disks last before u) (sym same)
            (subst (λ (out : List Bool). AreInSlots (block_trees new.store.spaces new.store.disks) out new.store.disks last before plan.uberblock) (sym goes.out)
            (subst (λ (spaces : List VdevSpace). AreInSlots (block_trees spaces new.store.disks) old.store.out new.store.disks last before plan.uberblock) (sym on.spaces) went.0));
      }),
      inr (phase.written, went.1),
    )

-- ---- before the slots

-- with nothing due and no disk to be flushed, the slots phase has begun
pub begins : SlotsBeginBehindBlocks → (s : State) (plan : Planned) (last : Uberblock) (before : List Uberblock) → IsGoodPlan s plan last → Fits plan.uberblock → s.store.due ≡ []
    → plan.behind.flushes.items ≡ [] → IsBeforeSlots s plan last before → IsInSlots s plan last before
begins law s plan last before may fits due flushes phase =
    let settled : AreSettled s.store.out s.store.disks.calls = λ disk used. ⊎_elim
    (λ still. absurd (none_among disk (subst (λ xs. Contains xs disk) flushes still))) (λ done. done.1) (phase.flushed disk used) in
    record {
      written = due;
      begun = flushes;
      slots = law s.store.spaces s.store.out s.store.disks last before plan.uberblock may.lie phase.blocks settled may.next fits;
    }

-- blocks are written or disks flushed
in_blocks : BlocksKeepWhatIsFilled → ReadsAndFlushesKeep → (old new : State) (plan after : Planned) (last : Uberblock) (before : List Uberblock) → IsGoodPlan old plan last
    → StepGoesOn old plan new after → ¬ ((old.store.due ≡ []) × (plan.behind.flushes.items ≡ [])) → IsBeforeSlots old plan last before
    → IsInPhase new after last before × StopsWell old plan new last before
in_blocks law keep old new plan after last before may goes early phase =
    let writes : Makes (may_write old plan) old.store.disks new.store.disks = goes.writes.makes plan goes.planned in
    let blocks : Makes (IsDueWrite old.store.due) old.store.disks new.store.disks =
    Makes-wider (may_write old plan) (IsDueWrite old.store.due) old.store.disks new.store.disks
    (λ which at bytes is. ⊎_elim (λ block. block) (λ slot. absurd (early (slot.0, slot.1))) is) writes in
    let unfilled : Makes (unfilled_write old.store.spaces) old.store.disks new.store.disks =
    Makes-wider (IsDueWrite old.store.due) (unfilled_write old.store.spaces) old.store.disks new.store.disks may.unfilled blocks in
    let went = law old.store.spaces old.store.spaces old.store.out old.store.disks new.store.disks last before may.lie (λ disk i is. is) phase.blocks unfilled in
    let on = goes.writes.goes_on plan after goes.planned goes.still in (
      inl (record {
        blocks = subst (λ (out : List Bool). AreInBlocks (filled_trees new.store.spaces new.store.disks) out new.store.disks last before) (sym goes.out)
            (subst (λ (spaces : List VdevSpace). AreInBlocks (filled_trees spaces new.store.disks) old.store.out new.store.disks last before) (sym on.spaces) went.0);
        flushed = λ disk used. ⊎_elim (λ due. ⊎_elim inl (λ done. inr (done.0, flushed_settled new.store.disks disk done.1)) (on.flushes disk due))
            (λ done. inr (
              on.written done.0,
              (keep (filled_trees old.store.spaces old.store.disks) old.store.out old.store.disks new.store.disks last before
                  (Makes-wider (IsDueWrite old.store.due) (λ which at bytes. ⊥) old.store.disks new.store.disks
                  (λ which at bytes block. none_among block.write (subst (λ xs. Contains xs block.write) done.0 block.is_due)) blocks)).settled disk done.1,
            ))
            (phase.flushed disk (subst (λ (out : List Bool). InUse out disk) goes.out used));
      }),
      inl went.1,
    )

pub phases_go_on : BlocksKeepWhatIsFilled → SlotsBeginBehindBlocks → SlotsKeepWhatIsForBlocks → ReadsAndFlushesKeep → PhasesGoOn
phases_go_on blocks begin slots keep old new plan after last before may goes phase = ⊎_elim
    (λ early. ⊎_elim
    (λ due. ⊎_elim
    (λ flushes. in_slots slots old new plan after last before may goes (begins begin old plan last before may (goes.writes.fits plan goes.planned) due flushes early))
    (λ some. in_blocks blocks keep old new plan after last before may goes (λ none. some none.1) early)
    (is_empty plan.behind.flushes.items))
    (λ some. in_blocks blocks keep old new plan after last before may goes (λ none. some none.0) early)
    (is_empty old.store.due))
    (in_slots slots old new plan after last before may goes) phase

-- ---- plans

block_read_made : (call : Call) → IsRead call → WritesOnly (λ at bytes. ⊥) call
block_read_made (Read at bytes) is = tt
block_read_made (FailedRead at n) is = tt
block_read_made (Wrote at bytes) is = absurd is
block_read_made (FailedWrite at bytes) is = absurd is
block_read_made Flushed is = absurd is
block_read_made FailedFlush is = absurd is

reads_made : (calls : List JointCall) → AreReads calls → All (λ made. WritesOnly (λ at bytes. ⊥) made.call) calls
reads_made [] reads = All-nil (λ it. WritesOnly (λ at bytes. ⊥) it.call)
reads_made (made ∷ calls) reads =
    All-cons (λ it. WritesOnly (λ at bytes. ⊥) it.call) made calls (block_read_made made.call reads.0) (reads_made calls reads.1)

pub read_only : (spaces : List VdevSpace) (old new : Disks) → OnlyReads old new → Makes (unfilled_write spaces) old new
read_only spaces old new reads =
    Makes-wider no_write (unfilled_write spaces) old new (λ which at bytes is. absurd is)
    (record { starts = reads.starts; newer = reads.newer; calls = reads.calls; writes = reads_made reads.newer reads.are_reads })

pub plans_keep : BlocksKeepWhatIsFilled → PlansKeepThePhase
plans_keep law old new last before lie from reads phase =
    let went = law old.store.spaces new.store.spaces old.store.out old.store.disks new.store.disks last before lie
    (filled_no_more old.store.spaces new.store.spaces from.shapes from.filled) phase (read_only old.store.spaces old.store.disks new.store.disks reads) in (
      subst (λ (out : List Bool). AreInBlocks (filled_trees new.store.spaces new.store.disks) out new.store.disks last before) (sym from.out) went.0,
      went.1,
    )

-- ---- reads

-- of the same state with other disks
abbrev with_disks : State → Disks → State
with_disks s disks = record s { store = record s.store { disks = disks } }

pub no_writes : (may : ℕ → ℕ → List ℕ → Type 0) (old new : Disks) → OnlyReads old new → Makes may old new
no_writes may old new reads =
    Makes-wider no_write may old new (λ which at bytes is. absurd is)
    (record { starts = reads.starts; newer = reads.newer; calls = reads.calls; writes = reads_made reads.newer reads.are_reads })

read_before : BlocksKeepWhatIsFilled → ReadsAndFlushesKeep → (s : State) (disks : Disks) (plan : Planned) (last : Uberblock) (before : List Uberblock)
    → LieBesideLabels s.store.disks.starts s.store.spaces → OnlyReads s.store.disks disks → IsBeforeSlots s plan last before
    → IsInPhase (with_disks s disks) plan last before × StopsWell s plan (with_disks s disks) last before
read_before law keep s disks plan last before lie reads phase =
    let went = law s.store.spaces s.store.spaces s.store.out s.store.disks disks last before lie (λ disk i is. is) phase.blocks
    (no_writes (unfilled_write s.store.spaces) s.store.disks disks reads) in
    let kept = keep (filled_trees s.store.spaces s.store.disks) s.store.out s.store.disks disks last before (no_writes no_write s.store.disks disks reads) in (
      inl (record {
        blocks = went.0;
        flushed = λ disk used. ⊎_elim inl (λ done. inr (done.0, kept.settled disk done.1)) (phase.flushed disk used);
      }),
      inl went.1,
    )

read_in : SlotsKeepWhatIsForBlocks → (s : State) (disks : Disks) (plan : Planned) (last : Uberblock) (before : List Uberblock)
    → LieBesideLabels s.store.disks.starts s.store.spaces → OnlyReads s.store.disks disks → IsInSlots s plan last before
    → IsInPhase (with_disks s disks) plan last before × StopsWell s plan (with_disks s disks) last before
read_in law s disks plan last before lie reads phase =
    let went = law s.store.spaces s.store.out s.store.disks disks last before plan.uberblock lie phase.slots.could.fits phase.slots
    (no_writes (IsSlotWrite s.store.disks.starts plan.uberblock (in_use s.store.out)) s.store.disks disks reads) in
    (inr (record { written = phase.written; begun = phase.begun; slots = went.0 }), inr (phase.written, went.1))

pub reads_keep : BlocksKeepWhatIsFilled → SlotsKeepWhatIsForBlocks → ReadsAndFlushesKeep → ReadsKeepThePhase
reads_keep blocks slots keep old new plan last before lie reads rest phase =
    subst (λ (s : State). IsInPhase s plan last before × StopsWell old plan s last before) (sym rest)
    (⊎_elim (read_before blocks keep old new.store.disks plan last before lie reads) (read_in slots old new.store.disks plan last before lie reads) phase)

-- ---- the end

pub phases_end : SlotsKeepWhatIsForBlocks → CommitsEndFilled → PhasesEnd
phases_end law end old new plan last before may ends phase =
    let slots = slots_alone old new plan last before may phase (ends.writes.makes plan ends.planned) in
    let went = law old.store.spaces old.store.out old.store.disks new.store.disks last before plan.uberblock may.lie (ends.writes.fits plan ends.planned) phase.slots slots in (
      subst (λ (out : List Bool). AreInBlocks (filled_trees new.store.spaces new.store.disks) out new.store.disks plan.uberblock (last ∷ before)) (sym ends.out)
          (end old.store.spaces new.store.spaces old.store.out new.store.disks last before plan.uberblock
          (λ disk i is. filled_for_blocks old.store.spaces new.store.spaces disk i ends.writes.shapes is) went.0 ends.stand ends.settled),
      went.1,
    )
