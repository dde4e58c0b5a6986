-- What a stop leaves, at each moment of an export.
use Rattle.std.proofs.Common.{◌≡◌, ◌⊎◌, ◌≤◌, inl, inr, ◌<◌, ◌∙◌, ℕ, ◌+◌, Bool, List, [], length, slice_get, get_or, Option, Some, refl, sym, ap, subst, arith}
use Rattle.std.proofs.lemmas.Option.{slice_get-get_or}
use Rattle.uberblock_ring.specs.declared.uberblock.Uberblock.{Uberblock}
use Rattle.model_disk.specs.Joint.{JointCall, Disks, bytes_of, calls_on, content, MayLeaveAll}
use Rattle.model_disk.specs.Runs.{EachSince, IsOff, IsSettled, Makes, no_write}
use Rattle.model_disk.proofs.RunLemmas.{each_after, each_weaker, off_is_left, Makes-more, Makes-wider}
use Rattle.vdev_label.specs.Plain.{PlainLabel}
use Rattle.pool_slots.specs.Commits.{AreAt, AreOffLabels}
use Rattle.pool_slots.specs.Configs.{LeavesConfigured, of_config}
use Rattle.pool_slots.specs.Labels.{IsLabelShown, area_place, inscribed}
use Rattle.pool_slots.specs.Marks.{LeavesMarked, MarkedAlways}
use Rattle.pool_slots.specs.Phases.{IsRelabel, if_used}
use Rattle.pool_slots.specs.Possible.{Possible, Trees, held_by}
use Rattle.pool_slots.specs.Slots.{AreSettled, AreThere, HaveLabels, InUse, StayOut, slot_at, spelled}
use Rattle.pool_slots.specs.Writes.{InHalf}
use Rattle.pool_slots.proofs.Among.{first_in}
use Rattle.pool_slots.proofs.FreeWrites.{free_off_slots, free_off_trees, no_free_slot, relabel_is_free}
use Rattle.pool_slots.proofs.LabelAreas.{area_len}
use Rattle.pool_slots.proofs.LabelScans.{label_later}
use Rattle.pool_slots.proofs.PhaseSteps as steps
use Rattle.pool_slots.proofs.Phases.{IsPhase, phase_leaves, settled_later}
use Rattle.pool_slots.proofs.Places.{length-spelled}
use Rattle.pool_export.specs.Moments.{AllSpell, ExportLeads, HasEven, HaveEven, IsLeading, of_claim_from}
use Rattle.pool_export.specs.Writes.{AreWhole, Areas, AreasOn, AreasStandOn, HasArea, IsUsedWrite, is_any}
use Rattle.pool_export.proofs.Absence.{used_or_out}
use Rattle.pool_export.proofs.Copies.{off_area_writes}
use Rattle.pool_export.proofs.Halves.{not_both}

pub each_joined : (Q : List JointCall → Type 0) (may : ℕ → ℕ → List ℕ → Type 0) (old mid new : Disks) → Makes may mid new → EachSince (length old.calls) Q mid.calls
    → EachSince (length mid.calls) Q new.calls → EachSince (length old.calls) Q new.calls
each_joined Q may old mid new makes first second =
    let S : List JointCall → Type 0 = EachSince (length mid.calls) Q in
    let T : List JointCall → Type 0 = EachSince (length old.calls) Q in
    subst T (sym makes.calls) (each_after Q (length old.calls) mid.calls makes.newer first (subst S makes.calls second))

-- ---- slots

-- a phase that writes areas of labels alone
area_phase : (may : ℕ → ℕ → List ℕ → Type 0) (trees : Trees) (out : List Bool) (disks : Disks) (p : Possible) → AreThere out disks.starts → HaveLabels disks.starts
    → IsLeading trees out disks p → ((which at : ℕ) (bytes : List ℕ) → may which at bytes → IsRelabel disks.starts which at bytes) → IsPhase trees out disks may p
area_phase may trees out disks p there room leading relabels =
    let free = λ (v : Uberblock) (which at : ℕ) (bytes : List ℕ) (write : may which at bytes). relabel_is_free trees out disks.starts v [] there room leading.off_labels which at bytes
    (λ used. relabels which at bytes write) in
    record {
      whole = λ which label slot used is to bytes write. inr (λ i inside. free_off_slots trees out disks.starts p.last [] which label slot i used is inside to bytes (free p.last which to bytes write));
      off = λ v reached which i value used is at bytes write.
          free_off_trees trees out disks.starts v [] v which i value (inl (first_in v [])) used is at bytes (free v which at bytes write);
      written = λ which label slot w used is fits write. absurd (no_free_slot trees out disks.starts p.last [] which label slot (spelled w) used is (omega (arith, length-spelled w fits))
          (free p.last which (slot_at (length (bytes_of disks.starts which)) label slot) (spelled w) write));
      safe = λ which used.
          let top = (leading.leads which used).top in
          record {
            top = top;
            off = λ i inside at bytes write. free_off_slots trees out disks.starts p.last [] which top.label top.slot i used top.is_slot inside at bytes (free p.last which at bytes write);
          };
    }

pub lead_always : (may : ℕ → ℕ → List ℕ → Type 0) (out : List Bool) (old new : Disks) → AreThere out old.starts → HaveLabels old.starts
    → ((which at : ℕ) (bytes : List ℕ) → may which at bytes → IsRelabel old.starts which at bytes) → Makes may old new → ExportLeads out old new
lead_always may out old new there room relabels makes = λ trees p leading.
    phase_leaves trees out old new may p there leading.settled leading.leads (area_phase may trees out old p there room leading relabels) makes

pub at_later : (may : ℕ → ℕ → List ℕ → Type 0) (trees : Trees) (out : List Bool) (old new : Disks) (u : Uberblock) (before : List Uberblock) → HaveLabels old.starts → AreOffLabels trees out old.starts
    → ((which at : ℕ) (bytes : List ℕ) → may which at bytes → IsRelabel old.starts which at bytes) → Makes may old new → AreSettled out new.calls → AreAt trees out old u before
    → AreAt trees out new u before
at_later may trees out old new u before room off relabels makes settled at =
    steps.blocks_end trees out new u before
    (steps.relabels_go_on trees out old new u before (steps.blocks_begin trees out old u before at) room off
    (Makes-wider may (if_used out (IsRelabel old.starts)) old new (λ which to bytes write used. relabels which to bytes write) makes)).0
    settled

-- ---- labels

-- some label of a disk of this size shows what has P
pub record HasLabel (P : PlainLabel → Type 0) (size : ℕ) (held : ℕ → Option ℕ) : Type 0 where
  pub number : ℕ
  pub label : PlainLabel
  pub shown : IsLabelShown size held number label
  pub has : P label

-- whatever a stop now leaves has one on that disk
abbrev pub LeavesLabelOn : (PlainLabel → Type 0) → ℕ → List (List ℕ) → List JointCall → Type 0
LeavesLabelOn P which starts calls = (images : List (List ℕ)) → MayLeaveAll starts calls images → HasLabel P (length (bytes_of images which)) (held_by images which)

-- on each disk in use
abbrev pub LeavesLabel : (PlainLabel → Type 0) → List Bool → List (List ℕ) → List JointCall → Type 0
LeavesLabel P out starts calls =
    (images : List (List ℕ)) → MayLeaveAll starts calls images → (which : ℕ) → InUse out which → HasLabel P (length (bytes_of images which)) (held_by images which)

-- such a label, off all that the run may write
pub record KeptLabel (may : ℕ → List ℕ → Type 0) (P : PlainLabel → Type 0) (size : ℕ) (held : ℕ → Option ℕ) : Type 0 where
  pub number : ℕ
  pub label : PlainLabel
  pub shown : IsLabelShown size held number label
  pub has : P label
  pub off : (i : ℕ) → i < 114688 → IsOff may (area_place size number + i)

kept_on : (P : PlainLabel → Type 0) (old new : Disks) (may : ℕ → ℕ → List ℕ → Type 0) (which : ℕ) → which < length old.starts → IsSettled (calls_on which old.calls) → Makes may old new
    → KeptLabel (may which) P (length (bytes_of old.starts which)) (content old which) → EachSince (length old.calls) (LeavesLabelOn P which old.starts) new.calls
kept_on P old new may which there settled makes it earlier moment images left =
    let size = length (bytes_of old.starts which) in
    let same_size : length (bytes_of images which) ≡ size = (left.each which there).size in
    let Q : ℕ → Type 0 = λ n. HasLabel P n (held_by images which) in
    subst Q (sym same_size) (record {
      number = it.number;
      label = it.label;
      shown = record {
        is_label = it.shown.is_label;
        valid = it.shown.valid;
        bytes = λ i below.
            let is : slice_get (inscribed it.label) i ≡ Some (get_or (inscribed it.label) i 0) = slice_get-get_or (inscribed it.label) i 0 (omega (arith, below, area_len it.label it.shown.valid)) in
            off_is_left may old new earlier images makes moment left which (area_place size it.number + i) (get_or (inscribed it.label) i 0) there settled (it.off i below)
            (it.shown.bytes i below ∙ is) ∙ sym is;
      };
      has = it.has;
    })

-- each disk by itself
on_all : (P : PlainLabel → Type 0) (out : List Bool) (starts : List (List ℕ)) (n : ℕ) (calls : List JointCall) → ((which : ℕ) → InUse out which → EachSince n (LeavesLabelOn P which starts) calls)
    → EachSince n (LeavesLabel P out starts) calls
on_all P out starts n calls each earlier moment images left which used = each which used earlier moment images left

on_that : (P : PlainLabel → Type 0) (out : List Bool) (starts : List (List ℕ)) (n : ℕ) (calls : List JointCall) (which : ℕ) → InUse out which → EachSince n (LeavesLabel P out starts) calls
    → EachSince n (LeavesLabelOn P which starts) calls
on_that P out starts n calls which used each earlier moment images left = each earlier moment images left which used

-- an even label, off writes that don't reach it
kept_even : (P : PlainLabel → Type 0) (may : ℕ → List ℕ → Type 0) (size : ℕ) (held : ℕ → Option ℕ) → (even : HasEven P size held)
    → ((i : ℕ) → i < 114688 → IsOff may (area_place size even.number + i)) → KeptLabel may P size held
kept_even P may size held even off = record { number = even.number; label = even.label; shown = even.shown; has = even.has; off = off }

-- of a disk to which odd labels are written the even ones stand
off_odd : (out : List Bool) (starts : List (List ℕ)) (areas : Areas) (which number : ℕ) → AreWhole areas → 1048576 ≤ length (bytes_of starts which) → number < 4 → InHalf 0 number
    → (i : ℕ) → i < 114688 → IsOff (IsUsedWrite out starts areas (InHalf 1) which) (area_place (length (bytes_of starts which)) number + i)
off_odd out starts areas which number whole room is even i below at bytes write =
    off_area_writes starts areas (InHalf 1) which number whole room is (λ n odd same. not_both number n even odd (sym same)) i below at bytes write.write

-- what both halves may write to a disk that went out between them
abbrev pub BothWrites : List Bool → List Bool → List (List ℕ) → Areas → ℕ → ℕ → List ℕ → Type 0
BothWrites out later starts areas which at bytes = IsUsedWrite out starts areas (InHalf 1) which at bytes ⊎ IsUsedWrite later starts areas (InHalf 0) which at bytes

-- one that went out while the odd labels were written keeps its even ones
gone_always : (P : PlainLabel → Type 0) (out later : List Bool) (old mid new : Disks) (areas : Areas) (which : ℕ) → which < length old.starts → HaveLabels old.starts → AreWhole areas
    → HaveEven P out old → InUse out which → ¬ InUse later which → Makes (IsUsedWrite out old.starts areas (InHalf 1)) old mid → Makes (IsUsedWrite later old.starts areas (InHalf 0)) mid new
    → EachSince (length old.calls) (LeavesLabelOn P which old.starts) new.calls
gone_always P out later old mid new areas which there room whole even used gone first second =
    let may = BothWrites out later old.starts areas in
    let it = even.each which used in
    kept_on P old new may which there (even.settled which used)
    (Makes-more may old mid new (Makes-wider (IsUsedWrite out old.starts areas (InHalf 1)) may old mid (λ w at bytes write. inl write) first)
    (Makes-wider (IsUsedWrite later old.starts areas (InHalf 0)) may mid new (λ w at bytes write. inr write) second))
    (kept_even P (may which) (length (bytes_of old.starts which)) (content old which) it
    (λ i below at bytes write. elim write [
      | inl odd ↦ off_odd out old.starts areas which it.number whole (room which there) it.shown.is_label it.even i below at bytes odd
      | inr none ↦ absurd (gone none.used)
    ]))

-- one that is in use still keeps its odd ones while the even ones are written
still_always : (P : PlainLabel → Type 0) (out later : List Bool) (old mid new : Disks) (areas : Areas) (which : ℕ) → which < length old.starts → HaveLabels old.starts → AreWhole areas
    → HasArea areas which → HaveEven P out old → AllSpell P areas → InUse out which → InUse later which → Makes (IsUsedWrite out old.starts areas (InHalf 1)) old mid → AreSettled later mid.calls
    → AreasStandOn later (content mid) old.starts areas (InHalf 1) → Makes (IsUsedWrite later old.starts areas (InHalf 0)) mid new
    → EachSince (length old.calls) (LeavesLabelOn P which old.starts) new.calls
still_always P out later old mid new areas which there room whole area even spell used still first settled stand second =
    let it = even.each which used in
    let l = spell which area.0 area.1 in
    let size = length (bytes_of old.starts which) in
    let may = IsUsedWrite later old.starts areas (InHalf 0) in
    let T : List (List ℕ) → Type 0 = λ starts. which < length starts in
    let K : List (List ℕ) → Type 0 = λ starts. KeptLabel (may which) P (length (bytes_of starts which)) (content mid which) in
    let E : List (List ℕ) → Type 0 = λ starts. EachSince (length mid.calls) (LeavesLabelOn P which starts) new.calls in
    each_joined (LeavesLabelOn P which old.starts) may old mid new second
    (kept_on P old mid (IsUsedWrite out old.starts areas (InHalf 1)) which there (even.settled which used) first
    (kept_even P (IsUsedWrite out old.starts areas (InHalf 1) which) size (content old which) it
    (off_odd out old.starts areas which it.number whole (room which there) it.shown.is_label it.even)))
    (subst E first.starts (kept_on P mid new may which (subst T (sym first.starts) there) (settled which still) second
    (subst K (sym first.starts) (record {
      number = 1;
      label = l.label;
      shown = record {
        is_label = omega arith;
        valid = l.valid;
        bytes = λ i below. stand which still area.0 area.1 1 (omega arith) (inl refl) i below ∙ ap (λ (them : List ℕ). slice_get them i) l.spells;
      };
      has = l.has;
      off = λ i below at bytes write.
          off_area_writes old.starts areas (InHalf 0) which 1 whole (room which there) (omega arith) (λ n even_one same. not_both n 1 even_one (inl refl) same) i below at bytes write.write;
    }))))

pub labels_always : (P : PlainLabel → Type 0) (out later : List Bool) (old mid new : Disks) (areas : Areas) → AreThere out old.starts → HaveLabels old.starts → AreWhole areas → AreasOn out areas
    → HaveEven P out old → AllSpell P areas → Makes (IsUsedWrite out old.starts areas (InHalf 1)) old mid → AreSettled later mid.calls → AreasStandOn later (content mid) old.starts areas (InHalf 1)
    → Makes (IsUsedWrite later mid.starts areas (InHalf 0)) mid new → EachSince (length old.calls) (LeavesLabel P out old.starts) new.calls
labels_always P out later old mid new areas there room whole on even spell first settled stand second =
    let M : List (List ℕ) → Type 0 = λ starts. Makes (IsUsedWrite later starts areas (InHalf 0)) mid new in
    let evens = subst M first.starts second in
    on_all P out old.starts (length old.calls) new.calls (λ which used.
    elim (used_or_out later which) [
      | inl still ↦ still_always P out later old mid new areas which (there which used) room whole (on which used) even spell used still first settled stand evens
      | inr gone ↦ gone_always P out later old mid new areas which (there which used) room whole even used gone first evens
    ])

-- ---- in the words of the clauses

pub as_configured : (out : List Bool) (old new : Disks) (digest : List ℕ) → EachSince (length old.calls) (LeavesLabel (of_config digest) out old.starts) new.calls
    → EachSince (length old.calls) (LeavesConfigured out old.starts digest) new.calls
as_configured out old new digest each =
    each_weaker (LeavesLabel (of_config digest) out old.starts) (LeavesConfigured out old.starts digest) (length old.calls) new.calls
    (λ calls leaves images left which used. let it = leaves images left which used in record { number = it.number; label = it.label; shown = it.shown; config = it.has }) each

pub as_marked : (out : List Bool) (old new : Disks) (claim : ℕ) → EachSince (length old.calls) (LeavesLabel (of_claim_from claim) out old.starts) new.calls → MarkedAlways out old new claim
as_marked out old new claim each =
    each_weaker (LeavesLabel (of_claim_from claim) out old.starts) (LeavesMarked out old.starts claim) (length old.calls) new.calls
    (λ calls leaves images left which used. let it = leaves images left which used in record { number = it.number; label = it.label; shown = it.shown; no_less = it.has }) each

pub of_configured : (out : List Bool) (old new : Disks) (digest : List ℕ) → EachSince (length old.calls) (LeavesConfigured out old.starts digest) new.calls
    → EachSince (length old.calls) (LeavesLabel (of_config digest) out old.starts) new.calls
of_configured out old new digest each =
    each_weaker (LeavesConfigured out old.starts digest) (LeavesLabel (of_config digest) out old.starts) (length old.calls) new.calls
    (λ calls leaves images left which used. let it = leaves images left which used in record { number = it.number; label = it.label; shown = it.shown; has = it.config }) each

pub of_marked : (out : List Bool) (old new : Disks) (claim : ℕ) → MarkedAlways out old new claim → EachSince (length old.calls) (LeavesLabel (of_claim_from claim) out old.starts) new.calls
of_marked out old new claim each =
    each_weaker (LeavesMarked out old.starts claim) (LeavesLabel (of_claim_from claim) out old.starts) (length old.calls) new.calls
    (λ calls leaves images left which used. let it = leaves images left which used in record { number = it.number; label = it.label; shown = it.shown; has = it.no_less }) each

-- ---- a run of reads, and what is written then

unwritten_on : (P : PlainLabel → Type 0) (out : List Bool) (old new : Disks) (which : ℕ) → which < length old.starts → InUse out which → HaveEven P out old → Makes no_write old new
    → EachSince (length old.calls) (LeavesLabelOn P which old.starts) new.calls
unwritten_on P out old new which there used even makes =
    let it = even.each which used in
    kept_on P old new no_write which there (even.settled which used) makes
    (kept_even P (no_write which) (length (bytes_of old.starts which)) (content old which) it (λ i below at bytes none. absurd none))

pub unwritten_always : (P : PlainLabel → Type 0) (out : List Bool) (old new : Disks) → AreThere out old.starts → HaveEven P out old → Makes no_write old new
    → EachSince (length old.calls) (LeavesLabel P out old.starts) new.calls
unwritten_always P out old new there even makes =
    on_all P out old.starts (length old.calls) new.calls (λ which used. unwritten_on P out old new which (there which used) used even makes)

-- a disk that went out as labels were read was not written to
unread_on : (P : PlainLabel → Type 0) (out later : List Bool) (old read new : Disks) (areas : Areas) (which : ℕ) → which < length old.starts → InUse out which → ¬ InUse later which
    → HaveEven P out old → Makes no_write old read → Makes (IsUsedWrite later read.starts areas is_any) read new → EachSince (length old.calls) (LeavesLabelOn P which old.starts) new.calls
unread_on P out later old read new areas which there used gone even reads makes =
    let may = IsUsedWrite later read.starts areas is_any in
    let it = even.each which used in
    kept_on P old new may which there (even.settled which used)
    (Makes-more may old read new (Makes-wider no_write may old read (λ w at bytes none. absurd none) reads) makes)
    (kept_even P (may which) (length (bytes_of old.starts which)) (content old which) it (λ i below at bytes write. absurd (gone write.used)))

-- of the disks that were in use before any was read
pub export_always : (P : PlainLabel → Type 0) (out later : List Bool) (old read new : Disks) (areas : Areas) → AreThere out old.starts → HaveEven P out old → Makes no_write old read
    → Makes (IsUsedWrite later read.starts areas is_any) read new → EachSince (length read.calls) (LeavesLabel P later read.starts) new.calls
    → EachSince (length old.calls) (LeavesLabel P out old.starts) new.calls
export_always P out later old read new areas there even reads makes writes =
    let E : List (List ℕ) → Type 0 = λ starts. EachSince (length read.calls) (LeavesLabel P later starts) new.calls in
    let since = subst E reads.starts writes in
    on_all P out old.starts (length old.calls) new.calls (λ which used.
    elim (used_or_out later which) [
      | inl still ↦
          each_joined (LeavesLabelOn P which old.starts) (IsUsedWrite later read.starts areas is_any) old read new makes (unwritten_on P out old read which (there which used) used even reads)
          (on_that P later old.starts (length read.calls) new.calls which still since)
      | inr gone ↦ unread_on P out later old read new areas which (there which used) used gone even reads makes
    ])

-- with fewer disks in use
pub even_fewer : (P : PlainLabel → Type 0) (out later : List Bool) (disks : Disks) → StayOut out later → HaveEven P out disks → HaveEven P later disks
even_fewer P out later disks stay even = record { settled = λ which used. even.settled which (stay which used); each = λ which used. even.each which (stay which used) }

pub even_later : (P : PlainLabel → Type 0) (out : List Bool) (old new : Disks) → Makes no_write old new → HaveEven P out old → HaveEven P out new
even_later P out old new makes even =
    record {
      settled = λ which used. settled_later old new which makes (even.settled which used);
      each = λ which used.
          let it = even.each which used in
          record { number = it.number; even = it.even; label = it.label; shown = label_later old new which it.number it.label makes it.shown; has = it.has };
    }
