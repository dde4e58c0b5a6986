-- The phases of a commit that is made in steps.
use Rattle.std.proofs.Common.{◌≡◌, inl, inr, ◌<◌, ◌≤◌, ◌∙◌, ℕ, ◌+◌, Bool, List, [], ◌∷◌, length, Option, Some, Result, Ok, refl, sym, ap, subst, arith}
use Rattle.std.proofs.lemmas.List.{length-append}
use Rattle.uberblock_ring.specs.declared.uberblock.Uberblock.{Uberblock}
use Rattle.uberblock_ring.specs.Slot.{slot_number}
use Rattle.model_disk.specs.Contents.{covers}
use Rattle.model_disk.specs.Joint.{JointCall, Disks, bytes_of, content}
use Rattle.model_disk.specs.Runs.{Makes, no_write, EachSince, IsOff}
use Rattle.model_disk.proofs.RunLemmas.{off_content, Makes-none, Makes-more, Makes-wider}
use Rattle.pool_slots.specs.Slots.{AreThere, InUse, HaveLabels, MakesOn, is_disk, spelled, slot_at, IsSlot, StayOut}
use Rattle.pool_slots.specs.Possible.{Possible, IsInReach, Trees, IsPossible, Leads, LeavesLeading}
use Rattle.pool_slots.specs.Writes.{IsSlotWrite, in_use, SlotStands, SlotsStand}
use Rattle.pool_slots.specs.Commits.{AreOffLabels, AreAt, LeadAlways, only_last, last_or}
use Rattle.pool_slots.specs.Phases.{if_used, IsFree, IsInSlot, IsRelabel, AreInBlocks, CanWriteSlots, free_writes, slot_writes}
use Rattle.pool_slots.specs.PhaseLaws.{BlocksBegin, BlocksGoOn, RelabelsGoOn, BlocksEnd, UnflushedIsFree, NextIsUnseen, LastTreeStands, SlotsBegin, SlotsGoOn, SlotsEnd, UnflushedIsSlots, SlotsKeepTree, DisksGoOut, ReadsAndFlushesKeep, SlotsStandInTurn}
use Rattle.pool_slots.proofs.Among.{first_in, later_in}
use Rattle.pool_slots.proofs.FreeWrites.{used_off, free_off_slots, free_off_trees, no_free_slot, free_writes_fewer, slot_writes_fewer, relabel_is_free}
use Rattle.pool_slots.proofs.NextUberblock.{last_is_good, more_begun, next_allowed, next_unseen, top_elsewhere}
use Rattle.pool_slots.proofs.OneDisk.{AreAllowed, leads_kept_on}
use Rattle.pool_slots.proofs.Phases.{IsPhase, phase_leaves, leads_fewer, leads_more, none_same, settled_later}
use Rattle.pool_slots.proofs.Places.{length-spelled, same_or_not}
use Rattle.pool_slots.proofs.SlotPhases.{slot_phase, tree_kept, finished}
use Rattle.pool_slots.proofs.Unflushed.{unflushed_is_written}
use Rattle.pool_slots.proofs.Writing.{just, makes_slot, off_slot_writes, stands_written, stays_through}

-- with fewer disks in use
at_fewer : (trees : Trees) (out later : List Bool) (disks : Disks) (u : Uberblock) (before : List Uberblock) → StayOut out later → AreAt trees out disks u before → AreAt trees later disks u before
at_fewer trees out later disks u before stay at =
    record {
      there = λ which used. at.there which (stay which used);
      fits = at.fits;
      settled = λ which used. at.settled which (stay which used);
      leads = leads_fewer trees out later disks.starts (content disks) (only_last u before) stay at.leads;
    }

-- ---- since a later moment

each_later : (Q : List JointCall → Type 0) (n m : ℕ) (calls : List JointCall) → n ≤ m → EachSince n Q calls → EachSince m Q calls
each_later Q n m calls below each earlier moment =
    each earlier (record {
      newer = moment.newer;
      is = moment.is;
      since = elim moment.since [ inl same ↦ inl same | inr longer ↦ inr (omega (arith, below, longer)) ];
    })

always_since : (trees : Trees) (out : List Bool) (settled old new : Disks) (may : ℕ → ℕ → List ℕ → Type 0) (p : Possible) → Makes may settled old → LeadAlways trees out settled new p
    → LeadAlways trees out old new p
always_since trees out settled old new may p makes always =
    let longer : length old.calls ≡ length makes.newer + length settled.calls = ap length makes.calls ∙ length-append makes.newer settled.calls in
    let Q : List (List ℕ) → Type 0 = λ starts. EachSince (length old.calls) (LeavesLeading trees out starts p) new.calls in
    subst Q (sym makes.starts)
    (each_later (LeavesLeading trees out settled.starts p) (length settled.calls) (length old.calls) new.calls (omega (arith, longer)) always)

-- a run that writes neither slots nor trees in reach leaves the disks leading where they led
leads_through : (trees : Trees) (out : List Bool) (old new : Disks) (may : ℕ → ℕ → List ℕ → Type 0) (p : Possible) → Makes may old new
    → ((which label slot i : ℕ) → InUse out which → IsSlot label slot → i < 1024 → IsOff (may which) (slot_at (length (bytes_of old.starts which)) label slot + i))
    → ((v : Uberblock) (which i value : ℕ) → IsInReach p v → InUse out which → trees v.root which i ≡ Some value → IsOff (may which) i)
    → Leads trees out old.starts (content old) p → Leads trees out new.starts (content new) p
leads_through trees out old new may p makes slots off leads =
    let P : List (List ℕ) → Type 0 = λ starts. Leads trees out starts (content new) p in
    subst P (sym makes.starts) (λ which used.
    leads_kept_on (length (bytes_of old.starts which)) (content old which) (content new which) p.last (IsPossible trees out (content old) p) (IsPossible trees out (content new) p)
    (λ v possible. (possible.0, λ d i value there is. off_content may old new d i makes (off v d i value possible.0 there is) ∙ possible.1 d i value there is))
    (λ label slot is i inside. off_content may old new which (slot_at (length (bytes_of old.starts which)) label slot + i) makes (slots which label slot i used is inside))
    (leads which used))

-- ---- the blocks phase

free_phase : (trees : Trees) (out : List Bool) (disks : Disks) (last : Uberblock) (before : List Uberblock) → AreAt trees out disks last before
    → IsPhase trees out disks (free_writes trees out disks.starts last before) (only_last last before)
free_phase trees out disks last before at =
    record {
      whole = λ which label slot used is to bytes write. inr (λ i inside. free_off_slots trees out disks.starts last before which label slot i used is inside to bytes write);
      off = λ v reached which i value used is. free_off_trees trees out disks.starts last before v which i value reached used is;
      written = λ which label slot w used is fits write.
          absurd (no_free_slot trees out disks.starts last before which label slot (spelled w) used is (omega (arith, length-spelled w fits)) write);
      safe = λ which used.
          let top = (at.leads which used).top in
          record { top = top; off = λ i inside. free_off_slots trees out disks.starts last before which top.label top.slot i used top.is_slot inside };
    }

pub blocks_begin : BlocksBegin
blocks_begin trees out disks last before at = record { settled = disks; at = at; makes = Makes-none (free_writes trees out disks.starts last before) disks }

pub blocks_go_on : BlocksGoOn
blocks_go_on trees out old new last before it makes =
    let settled = it.settled in
    let may = free_writes trees out settled.starts last before in
    let p = only_last last before in
    let P : List (List ℕ) → Type 0 = λ starts. Makes (free_writes trees out starts last before) old new in
    let all : Makes may settled new = Makes-more may settled old new it.makes (subst P it.makes.starts makes) in (
      record { settled = settled; at = it.at; makes = all },
      always_since trees out settled old new may p it.makes
          (phase_leaves trees out settled new may p it.at.there it.at.settled it.at.leads (free_phase trees out settled last before it.at) all),
    )

-- whatever says which writes may be made: where each of them is free, they keep the phase
pub writes_go_on : (may : ℕ → ℕ → List ℕ → Type 0) (trees : Trees) (out : List Bool) (old new : Disks) (last : Uberblock) (before : List Uberblock) → AreInBlocks trees out old last before
    → ((which at : ℕ) (bytes : List ℕ) → may which at bytes → free_writes trees out old.starts last before which at bytes) → Makes may old new
    → AreInBlocks trees out new last before × LeadAlways trees out old new (only_last last before)
writes_go_on may trees out old new last before it free makes =
    blocks_go_on trees out old new last before it (Makes-wider may (free_writes trees out old.starts last before) old new free makes)

pub relabels_go_on : RelabelsGoOn
relabels_go_on trees out old new last before it room off makes =
    let T : List (List ℕ) → Type 0 = AreThere out in
    writes_go_on (if_used out (IsRelabel old.starts)) trees out old new last before it
    (relabel_is_free trees out old.starts last before (subst T (sym it.makes.starts) it.at.there) room off) makes

pub unflushed_is_free : UnflushedIsFree
unflushed_is_free trees out disks last before it which i used dirty =
    let written = unflushed_is_written (free_writes trees out it.settled.starts last before) it.settled disks which i it.makes (it.at.settled which used) dirty in
    let P : List (List ℕ) → Type 0 = λ starts. IsFree trees starts (only_last last before) which i in
    subst P (sym it.makes.starts) (written.write used i written.inside)

leads_still : (trees : Trees) (out : List Bool) (disks : Disks) (last : Uberblock) (before : List Uberblock) → AreInBlocks trees out disks last before
    → Leads trees out disks.starts (content disks) (only_last last before)
leads_still trees out disks last before it =
    leads_through trees out it.settled disks (free_writes trees out it.settled.starts last before) (only_last last before) it.makes
    (λ which label slot i used is inside. free_off_slots trees out it.settled.starts last before which label slot i used is inside)
    (λ v which i value reached used is. free_off_trees trees out it.settled.starts last before v which i value reached used is)
    it.at.leads

pub blocks_end : BlocksEnd
blocks_end trees out disks last before it settled =
    let T : List (List ℕ) → Type 0 = AreThere out in
    record { there = subst T (sym it.makes.starts) it.at.there; fits = it.at.fits; settled = settled; leads = leads_still trees out disks last before it }

pub next_is_unseen : NextIsUnseen
next_is_unseen trees out disks last before it which label slot u used is next =
    next_unseen (length (bytes_of disks.starts which)) (content disks which) last u before (IsPossible trees out (content disks) (only_last last before)) label slot (λ v good. good.0) next.0 next.1 is
    (leads_still trees out disks last before it which used)

pub last_tree_stands : LastTreeStands
last_tree_stands trees out disks last before it which used =
    (last_is_good (length (bytes_of disks.starts which)) (content disks which) last before (IsPossible trees out (content disks) (only_last last before)) (λ v good. good.0)
    (leads_still trees out disks last before it which used)).1

-- ---- the slots phase

used_phase : (trees : Trees) (out : List Bool) (disks : Disks) (may : ℕ → ℕ → List ℕ → Type 0) (p : Possible) → IsPhase trees out disks may p → IsPhase trees out disks (if_used out may) p
used_phase trees out disks may p phase =
    record {
      whole = λ which label slot used is to bytes write. phase.whole which label slot used is to bytes (write used);
      off = λ v reached which i value used is. used_off out may which i used (phase.off v reached which i value used is);
      written = λ which label slot w used is fits write. phase.written which label slot w used is fits (write used);
      safe = λ which used.
          let safe = phase.safe which used in
          record { top = safe.top; off = λ i inside. used_off out may which (slot_at (length (bytes_of disks.starts which)) safe.top.label safe.top.slot + i) used (safe.off i inside) };
    }

pub slots_phase : (trees : Trees) (out : List Bool) (disks : Disks) (last : Uberblock) (before : List Uberblock) (u : Uberblock) → CanWriteSlots trees out disks last before u
    → IsPhase trees out disks (slot_writes out disks.starts u) (last_or last before u)
slots_phase trees out disks last before u can =
    let there = can.at.there in
    used_phase trees out disks (IsSlotWrite disks.starts u (in_use out)) (last_or last before u)
    (slot_phase trees out disks (last_or last before u) u (in_use out) there can.labels can.fits can.off_labels (inl (later_in last u (u ∷ []) (first_in u []))) can.tree
    (λ which used.
    let leads = can.at.leads which used in
    record {
      top = leads.top;
      off = off_slot_writes disks.starts u (in_use out) which leads.top.label leads.top.slot can.fits (can.labels which (there which used)) leads.top.is_slot
          (λ label is picked both. top_elsewhere (length (bytes_of disks.starts which)) (content disks which) last u before (IsPossible trees out (content disks) (only_last last before))
          (λ v good. good.0) can.next.1 leads both.1);
    }))

pub slots_begin : SlotsBegin
slots_begin trees out disks last before u can = record { settled = disks; could = can; makes = Makes-none (slot_writes out disks.starts u) disks }

-- the last one alone, or one that was begun since
pub leads_either : (trees : Trees) (out : List Bool) (starts : List (List ℕ)) (held : ℕ → ℕ → Option ℕ) (last : Uberblock) (before : List Uberblock) (u : Uberblock)
    → Leads trees out starts held (only_last last before) → Leads trees out starts held (last_or last before u)
leads_either trees out starts held last before u leads = leads_more trees out starts held last [] (u ∷ []) before (more_begun last u) leads

pub slots_go_on : SlotsGoOn
slots_go_on trees out old new last before u it makes =
    let settled = it.settled in
    let may = slot_writes out settled.starts u in
    let p = last_or last before u in
    let at = it.could.at in
    let P : List (List ℕ) → Type 0 = λ starts. Makes (slot_writes out starts u) old new in
    let all : Makes may settled new = Makes-more may settled old new it.makes (subst P it.makes.starts makes) in (
      record { settled = settled; could = it.could; makes = all },
      always_since trees out settled old new may p it.makes
          (phase_leaves trees out settled new may p at.there at.settled (leads_either trees out settled.starts (content settled) last before u at.leads)
          (slots_phase trees out settled last before u it.could) all),
    )

pub slots_end : SlotsEnd
slots_end trees out disks last before u it stand settled =
    let old = it.settled in
    let at = it.could.at in
    let starts = it.makes.starts in
    let T : List (List ℕ) → Type 0 = AreThere out in
    let S : List (List ℕ) → Type 0 = λ them. SlotsStand (content disks) them u (in_use out) (length them) in
    let Old : Uberblock → Type 0 = IsPossible trees out (content old) (only_last u (last ∷ before)) in
    let below : (which : ℕ) → InUse out which → AreAllowed (length (bytes_of old.starts which)) (content old which) u Old = λ which used.
    next_allowed trees out (content old) (length (bytes_of old.starts which)) which last u before it.could.next.0 it.could.next.1 (at.leads which used) in
    record {
      there = subst T (sym starts) at.there;
      fits = it.could.fits;
      settled = settled;
      leads = finished trees out old disks u (last ∷ before) Old at.there it.could.labels it.could.fits it.could.off_labels it.makes (subst S starts stand) below (λ w good. good) it.could.tree;
    }

pub unflushed_is_slots : UnflushedIsSlots
unflushed_is_slots trees out disks last before u it which i used dirty =
    let written = unflushed_is_written (slot_writes out it.settled.starts u) it.settled disks which i it.makes (it.could.at.settled which used) dirty in
    let write = written.write used in
    let size = length (bytes_of it.settled.starts which) in
    let P : List (List ℕ) → Type 0 = λ starts. IsInSlot (length (bytes_of starts which)) u i in
    subst P (sym it.makes.starts) (record {
      label = write.label;
      is_label = write.is_label;
      inside = sym (ap (λ (place : ℕ). covers place (length written.bytes) i) write.place
          ∙ ap (λ (n : ℕ). covers (slot_at size write.label (slot_number u.group)) n i) (ap length write.spells ∙ length-spelled u it.could.fits)) ∙ written.inside;
    })

pub slots_stand_in_turn : SlotsStandInTurn
slots_stand_in_turn old new u which label room fits is starts calls =
    let stands = stands_written old.starts u old new which label starts calls in
    let ok : Result (Unit {0}) (Unit {0}) = Ok tt in
    let one : MakesOn (is_disk which) (IsSlotWrite old.starts u (just which label)) old new = makes_slot ok old.starts u (just which label) old new which label is (refl, refl) starts calls in
    let kept : (other number : ℕ) → other < length old.starts → number < 4 → ¬ just which label other number → SlotStands (content old) old.starts u other number → SlotStands (content new) old.starts u other number =
    λ other number below there apart before. stays_through old.starts u (just which label) old new other number room fits below there one.makes apart before in
    record {
      stands = stands;
      others = λ other number below there before. elim (same_or_not other which) [
        | inl disk ↦ elim (same_or_not number label) [
          | inl both ↦
              let P : ℕ → Type 0 = λ d. SlotStands (content new) old.starts u d number in
              let Q : ℕ → Type 0 = λ l. SlotStands (content new) old.starts u which l in
              subst P (sym disk) (subst Q (sym both) stands)
          | inr apart ↦ kept other number below there (λ it. apart it.1) before
        ]
        | inr apart ↦ kept other number below there (λ it. apart it.0) before
      ];
    }

pub slots_keep_tree : SlotsKeepTree
slots_keep_tree trees out disks last before u it =
    tree_kept trees out it.settled disks u u (in_use out) it.could.fits it.could.off_labels it.makes it.could.tree

-- ---- with fewer disks

can_fewer : (trees : Trees) (out later : List Bool) (disks : Disks) (last : Uberblock) (before : List Uberblock) (u : Uberblock) → StayOut out later → CanWriteSlots trees out disks last before u
    → CanWriteSlots trees later disks last before u
can_fewer trees out later disks last before u stay can =
    record {
      at = at_fewer trees out later disks last before stay can.at;
      next = can.next;
      fits = can.fits;
      tree = λ which i value used is. can.tree which i value (stay which used) is;
      labels = can.labels;
      off_labels = λ root which i value used is. can.off_labels root which i value (stay which used) is;
    }

pub disks_go_out : DisksGoOut
disks_go_out trees out later disks last before stay =
    record {
      at = at_fewer trees out later disks last before stay;
      blocks = λ it. record {
        settled = it.settled;
        at = at_fewer trees out later it.settled last before stay it.at;
        makes = free_writes_fewer trees out later it.settled.starts last before stay it.settled disks it.makes;
      };
      can = λ u can. can_fewer trees out later disks last before u stay can;
      slots = λ u it. record {
        settled = it.settled;
        could = can_fewer trees out later it.settled last before u stay it.could;
        makes = slot_writes_fewer out later it.settled.starts u stay it.settled disks it.makes;
      };
      settled = λ settled which used. settled which (stay which used);
      stand = λ u stand which label below is used. stand which label below is (stay which used);
    }

-- ---- with nothing written

blocks_unwritten : (trees : Trees) (out : List Bool) (old new : Disks) (last : Uberblock) (before : List Uberblock) → Makes no_write old new → AreInBlocks trees out old last before
    → AreInBlocks trees out new last before
blocks_unwritten trees out old new last before makes it =
    (writes_go_on no_write trees out old new last before it (λ which at bytes none. absurd none) makes).0

at_unwritten : (trees : Trees) (out : List Bool) (old new : Disks) (last : Uberblock) (before : List Uberblock) → Makes no_write old new → AreAt trees out old last before
    → AreAt trees out new last before
at_unwritten trees out old new last before makes at =
    blocks_end trees out new last before (blocks_unwritten trees out old new last before makes (blocks_begin trees out old last before at))
    (λ which used. settled_later old new which makes (at.settled which used))

pub reads_and_flushes_keep : ReadsAndFlushesKeep
reads_and_flushes_keep trees out old new last before makes =
    record {
      at = at_unwritten trees out old new last before makes;
      blocks = blocks_unwritten trees out old new last before makes;
      can = λ u can.
          let R : List (List ℕ) → Type 0 = HaveLabels in
          let O : List (List ℕ) → Type 0 = AreOffLabels trees out in
          record {
            at = at_unwritten trees out old new last before makes can.at;
            next = can.next;
            fits = can.fits;
            tree = λ which i value used is. none_same old new which i makes ∙ can.tree which i value used is;
            labels = subst R (sym makes.starts) can.labels;
            off_labels = subst O (sym makes.starts) can.off_labels;
          };
      slots = λ u it.
          (slots_go_on trees out old new last before u it (Makes-wider no_write (slot_writes out old.starts u) old new (λ which at bytes none. absurd none) makes)).0;
      settled = λ which settled. settled_later old new which makes settled;
      bytes = λ which i. none_same old new which i makes;
    }
