-- A claim: the claim labels, the slots, and the other labels.
use Rattle.std.proofs.Common.{◌≡◌, inl, inr, ◌<◌, ◌≤◌, ◌∙◌, ℕ, ◌+◌, Bool, true, false, List, [], length, slice_get, get_or, Option, Some, refl, sym, ap, subst, arith}
use Rattle.std.proofs.lemmas.Option.{slice_get-get_or, slice_get_within}
use Rattle.uberblock_ring.specs.declared.uberblock.Uberblock.{Uberblock}
use Rattle.uberblock_ring.specs.Uberblock.{Fits}
use Rattle.uberblock_ring.specs.Slot.{slot_number}
use Rattle.model_disk.specs.Joint.{JointCall, Disks, bytes_of, calls_on, content}
use Rattle.model_disk.specs.Runs.{EachSince, IsOff, IsSettled, Makes}
use Rattle.model_disk.proofs.RunLemmas.{Makes-wider, each_after, each_weaker, off_content, off_is_left}
use Rattle.vdev_label.specs.Plain.{PlainLabel}
use Rattle.pool_slots.specs.Commits.{AreOffLabels, AreAt, LeadAlways, only_last}
use Rattle.pool_slots.specs.Labels.{AreClaimed, AreSlotted, AreWhole, AreasFit, AreasOn, AreasStand, InAreaTurn, IsAreaWrite, IsClaimWrite, IsInscribed, IsLabelShown, area_place, inscribed}
use Rattle.pool_slots.specs.Configs.{IsConfigured, IsOfConfig, LeavesConfigured, LeavesConfiguredOn, MayConfigure, ShowsConfig, of_config}
use Rattle.pool_slots.specs.Marks.{IsMarked, LeavesMarked, MarkedAlways}
use Rattle.pool_slots.specs.Opens.{ClaimsAt, MayClaim, also_begun}
use Rattle.pool_slots.specs.Possible.{Possible, IsTopped, Trees, TreeStands, IsPossible, Leads, LeavesLeading, AllAreBelow, AreBelow, held_by}
use Rattle.pool_slots.specs.Relabels.{InAllLabels, of_areas}
use Rattle.pool_slots.specs.Slots.{AreThere, AreSettled, HaveLabels, InUse, IsSlot, MakesOn, Shows, slot_at}
use Rattle.pool_slots.specs.Writes.{IsSlotWrite, SlotsStand, in_use}
use Rattle.pool_slots.specs.declared.found.Found.{Found}
use Rattle.pool_slots.specs.declared.labeled.Area.{Area}
use Rattle.pool_slots.proofs.LabelAreas.{area_len}
use Rattle.pool_slots.proofs.LabelWrites.{area_phase, is_turn, off_area_of_slots, off_area_writes, off_slot_of_areas, off_tree_of_areas}
use Rattle.pool_slots.proofs.Places.{length-spelled, same_or_not}
use Rattle.pool_slots.proofs.OneDisk.{kept_allowed, leads_kept_on, shows_same}
use Rattle.pool_slots.proofs.Phases.{MakesOn-wider, phase_leaves}
use Rattle.pool_slots.proofs.Writing.{slot_number_small}

pub each_joined : (Q : List JointCall → Type 0) (may : ℕ → ℕ → List ℕ → Type 0) (old mid new : Disks) → Makes may mid new → EachSince (length old.calls) Q mid.calls
    → EachSince (length mid.calls) Q new.calls → EachSince (length old.calls) Q new.calls
each_joined Q may old mid new makes first second =
    let S : List JointCall → Type 0 = EachSince (length mid.calls) Q in
    let T : List JointCall → Type 0 = EachSince (length old.calls) Q in
    subst T (sym makes.calls) (each_after Q (length old.calls) mid.calls makes.newer first (subst S makes.calls second))

-- ---- what labels show in a run

-- a label that shows no less than the claim, off all that the run may write
pub record KeptMark (may : ℕ → List ℕ → Type 0) (size : ℕ) (held : ℕ → Option ℕ) (claim : ℕ) : Type 0 where
  pub number : ℕ
  pub label : PlainLabel
  pub shown : IsLabelShown size held number label
  pub no_less : claim ≤ label.claim
  pub off : (i : ℕ) → i < 114688 → IsOff may (area_place size number + i)

pub marked_always : (out : List Bool) (old new : Disks) (may : ℕ → ℕ → List ℕ → Type 0) (claim : ℕ) → AreThere out old.starts → AreSettled out old.calls → Makes may old new
    → ((which : ℕ) → InUse out which → KeptMark (may which) (length (bytes_of old.starts which)) (content old which) claim) → MarkedAlways out old new claim
marked_always out old new may claim there settled makes kept earlier moment images left which used =
    let size = length (bytes_of old.starts which) in
    let same_size : length (bytes_of images which) ≡ size = (left.each which (there which used)).size in
    let P : ℕ → Type 0 = λ n. IsMarked n (held_by images which) claim in
    let it = kept which used in
    subst P (sym same_size) (record {
      number = it.number;
      label = it.label;
      shown = record {
        is_label = it.shown.is_label;
        valid = it.shown.valid;
        bytes = λ i below.
            let is : slice_get (inscribed it.label) i ≡ Some (get_or (inscribed it.label) i 0) = slice_get-get_or (inscribed it.label) i 0 (omega (arith, below, area_len it.label it.shown.valid)) in
            off_is_left may old new earlier images makes moment left which (area_place size it.number + i) (get_or (inscribed it.label) i 0) (there which used) (settled which used) (it.off i below)
            (it.shown.bytes i below ∙ is) ∙ sym is;
      };
      no_less = it.no_less;
    })

-- a label of this configuration, off all that the run may write
pub record KeptConfig (may : ℕ → List ℕ → Type 0) (size : ℕ) (held : ℕ → Option ℕ) (digest : List ℕ) : Type 0 where
  pub number : ℕ
  pub label : PlainLabel
  pub shown : IsLabelShown size held number label
  pub config : of_config digest label
  pub off : (i : ℕ) → i < 114688 → IsOff may (area_place size number + i)

pub configured_always : (used : ℕ → Type 0) (old new : Disks) (may : ℕ → ℕ → List ℕ → Type 0) (digest : List ℕ) → ((which : ℕ) → used which → which < length old.starts)
    → ((which : ℕ) → used which → IsSettled (calls_on which old.calls)) → Makes may old new
    → ((which : ℕ) → used which → KeptConfig (may which) (length (bytes_of old.starts which)) (content old which) digest)
    → EachSince (length old.calls) (LeavesConfiguredOn used old.starts digest) new.calls
configured_always on old new may digest there settled makes kept earlier moment images left which used =
    let size = length (bytes_of old.starts which) in
    let same_size : length (bytes_of images which) ≡ size = (left.each which (there which used)).size in
    let P : ℕ → Type 0 = λ n. IsConfigured n (held_by images which) digest in
    let it = kept which used in
    subst P (sym same_size) (record {
      number = it.number;
      label = it.label;
      shown = record {
        is_label = it.shown.is_label;
        valid = it.shown.valid;
        bytes = λ i below.
            let is : slice_get (inscribed it.label) i ≡ Some (get_or (inscribed it.label) i 0) = slice_get-get_or (inscribed it.label) i 0 (omega (arith, below, area_len it.label it.shown.valid)) in
            off_is_left may old new earlier images makes moment left which (area_place size it.number + i) (get_or (inscribed it.label) i 0) (there which used) (settled which used) (it.off i below)
            (it.shown.bytes i below ∙ is) ∙ sym is;
      };
      config = it.config;
    })

-- ---- a phase that writes labels keeps slots and trees

slots_same : (out : List Bool) (old new : Disks) (picks : ℕ → ℕ → List ℕ → Type 0) (which : ℕ) → AreWhole picks → 1048576 ≤ length (bytes_of old.starts which)
    → Makes (IsAreaWrite old.starts picks) old new
    → (label slot : ℕ) → IsSlot label slot → (i : ℕ) → i < 1024 → content new which (slot_at (length (bytes_of old.starts which)) label slot + i) ≡ content old which (slot_at (length (bytes_of old.starts which)) label slot + i)
slots_same out old new picks which whole room makes label slot is i below =
    off_content (IsAreaWrite old.starts picks) old new which (slot_at (length (bytes_of old.starts which)) label slot + i) makes (off_slot_of_areas old.starts picks which label slot whole room is i below)

tree_same : (trees : Trees) (out : List Bool) (old new : Disks) (picks : ℕ → ℕ → List ℕ → Type 0) (v : Uberblock) → AreWhole picks → AreOffLabels trees out old.starts
    → Makes (IsAreaWrite old.starts picks) old new → TreeStands trees out (content old) v.root → TreeStands trees out (content new) v.root
tree_same trees out old new picks v whole off makes stands which i value used is =
    off_content (IsAreaWrite old.starts picks) old new which i makes (off_tree_of_areas trees out old.starts picks v which i value whole off used is) ∙ stands which i value used is

leads_same : (trees : Trees) (out : List Bool) (old new : Disks) (picks : ℕ → ℕ → List ℕ → Type 0) (p : Possible) → AreThere out old.starts → HaveLabels old.starts → AreWhole picks
    → AreOffLabels trees out old.starts → Makes (IsAreaWrite old.starts picks) old new → Leads trees out old.starts (content old) p → Leads trees out new.starts (content new) p
leads_same trees out old new picks p there room whole off makes leads =
    let P : List (List ℕ) → Type 0 = λ starts. Leads trees out starts (content new) p in
    subst P (sym makes.starts) (λ which used.
    leads_kept_on (length (bytes_of old.starts which)) (content old which) (content new which) p.last (IsPossible trees out (content old) p) (IsPossible trees out (content new) p)
    (λ v possible. (possible.0, tree_same trees out old new picks v whole off makes possible.1))
    (slots_same out old new picks which whole (room which (there which used)) makes) (leads which used))

below_same : (out : List Bool) (old new : Disks) (picks : ℕ → ℕ → List ℕ → Type 0) (u : Uberblock) → AreThere out old.starts → HaveLabels old.starts → AreWhole picks
    → Makes (IsAreaWrite old.starts picks) old new → AllAreBelow out old u → AllAreBelow out new u
below_same out old new picks u there room whole makes below which used =
    let size = length (bytes_of old.starts which) in
    let same = slots_same out old new picks which whole (room which (there which used)) makes in
    let P : List (List ℕ) → Type 0 = λ starts. AreBelow (length (bytes_of starts which)) (content new which) u in
    let here : AreBelow size (content new which) u = λ label slot is v shows.
    let before = shows_same (content new which) (content old which) (slot_at size label slot) slot v (λ i inside. sym (same label slot is i inside)) shows in
    kept_allowed (content old which) (content new which) (slot_at size label slot) slot u (λ w. ⊥) (λ w. ⊥) (λ w none. none) (same label slot is) (below which used label slot is v before) in
    subst P (sym makes.starts) here

-- what may be claimed may be so once labels were written
pub may_later : (trees : Trees) (out : List Bool) (old new : Disks) (picks : ℕ → ℕ → List ℕ → Type 0) (p : Possible) (u : Uberblock) (all : List (Option Found))
    → AreThere out old.starts → HaveLabels old.starts → AreWhole picks → Makes (IsAreaWrite old.starts picks) old new → AreSettled out new.calls → MayClaim trees out old p u all
    → MayClaim trees out new p u all
may_later trees out old new picks p u all there room whole makes settled may =
    let O : List (List ℕ) → Type 0 = AreOffLabels trees out in
    let top : (which : ℕ) → InUse out which → IsTopped (length (bytes_of new.starts which)) (content new which) p.last = λ which used.
    let it = may.top which used in
    let same_size : length (bytes_of new.starts which) ≡ length (bytes_of old.starts which) = ap (λ (starts : List (List ℕ)). length (bytes_of starts which)) makes.starts in
    let P : ℕ → Type 0 = λ n. Shows (content new which) (slot_at n it.label it.slot) it.slot it.u in
    record {
      label = it.label;
      slot = it.slot;
      u = it.u;
      is_slot = it.is_slot;
      shows = subst P (sym same_size) (shows_same (content old which) (content new which) (slot_at (length (bytes_of old.starts which)) it.label it.slot) it.slot it.u
          (slots_same out old new picks which whole (room which (there which used)) makes it.label it.slot it.is_slot) it.shows);
      rank = it.rank;
    } in
    record {
      off_labels = subst O (sym makes.starts) may.off_labels;
      settled = settled;
      leads = leads_same trees out old new picks p there room whole may.off_labels makes may.leads;
      below = below_same out old new picks u there room whole makes may.below;
      above = may.above;
      tree = tree_same trees out old new picks u whole may.off_labels makes may.tree;
      top = top;
      spared = λ which used. may.spared which used;
    }

-- the slots that stand stay so
pub slotted_later : (out : List Bool) (old new : Disks) (picks : ℕ → ℕ → List ℕ → Type 0) (u : Uberblock) → Fits u → HaveLabels old.starts → AreWhole picks → Makes (IsAreaWrite old.starts picks) old new
    → AreSlotted out old u → AreSlotted out new u
slotted_later out old new picks u fits room whole makes slotted =
    let P : List (List ℕ) → Type 0 = λ starts. SlotsStand (content new) starts u (in_use out) (length starts) in
    subst P (sym makes.starts) (λ which label below is used i inside.
    slots_same out old new picks which whole (room which below) makes label (slot_number u.group) (record { is_label = is; in_ring = slot_number_small u }) i (omega (arith, inside, length-spelled u fits))
    ∙ slotted which label below is used i inside)

-- what is opened stays so
pub at_later : (trees : Trees) (out : List Bool) (old new : Disks) (picks : ℕ → ℕ → List ℕ → Type 0) (u : Uberblock) → HaveLabels old.starts → AreWhole picks
    → AreOffLabels trees out old.starts → Makes (IsAreaWrite old.starts picks) old new → AreSettled out new.calls → AreAt trees out old u [] → AreAt trees out new u []
at_later trees out old new picks u room whole off makes settled at =
    let T : List (List ℕ) → Type 0 = AreThere out in
    record {
      there = subst T (sym makes.starts) at.there;
      fits = at.fits;
      settled = settled;
      leads = leads_same trees out old new picks (only_last u []) at.there room whole off makes at.leads;
    }

-- ---- phase by phase

-- the claim labels
pub first_claims : (trees : Trees) (out : List Bool) (old new : Disks) (p : Possible) (u : Uberblock) (all : List (Option Found)) (areas : List (Option Area)) → AreThere out old.starts
    → HaveLabels old.starts → AreWhole (InAreaTurn areas true) → AreasOn out areas → MayClaim trees out old p u all → Makes (IsAreaWrite old.starts (InAreaTurn areas true)) old new
    → EachSince (length old.calls) (ClaimsAt trees out old p u areas) new.calls
first_claims trees out old new p u all areas there room whole on may makes earlier moment =
    let picks = InAreaTurn areas true in
    let leads = phase_leaves trees out old new (IsAreaWrite old.starts picks) p there may.settled may.leads
    (area_phase trees out old p picks there room whole may.off_labels may.leads) makes earlier moment in
    inl (
      leads,
      λ claim spared.
          marked_always out old new (IsAreaWrite old.starts picks) claim there may.settled makes
          (λ which used.
          let area = (on which).0 used in
          let it = spared which area.0 used area.1 in
          record {
            number = it.number;
            label = it.label;
            shown = it.shown;
            no_less = it.no_less;
            off = off_area_writes old.starts picks which it.number whole (room which (there which used)) it.shown.is_label
                (λ n b picked same. it.other (sym same ∙ is_turn areas true which area.0 area.1 n b picked));
          })
          earlier moment,
    )

-- each disk's claim label shows the claim
pub record FirstStands (out : List Bool) (old now : Disks) (u : Uberblock) (areas : List (Option Area)) : Type 0 where
  pub starts : now.starts ≡ old.starts
  pub stand : AreasStand (content now) old.starts (InAreaTurn areas true)
  pub settled : AreSettled out now.calls

first_mark : (out : List Bool) (old now : Disks) (u : Uberblock) (areas : List (Option Area)) (may : ℕ → ℕ → List ℕ → Type 0) → AreasOn out areas → AreasFit u areas → FirstStands out old now u areas
    → ((which number : ℕ) (area : Area) → InUse out which → slice_get areas which ≡ Some (Some area) → number < 4 → number ≡ area.first
    → (i : ℕ) → i < 114688 → IsOff (may which) (area_place (length (bytes_of old.starts which)) number + i))
    → (which : ℕ) → InUse out which → KeptMark (may which) (length (bytes_of now.starts which)) (content now which) u.claim
first_mark out old now u areas may on fit first off which used =
    let area = (on which).0 used in
    let it = fit which area.0 area.1 in
    let P : List (List ℕ) → Type 0 = λ starts. KeptMark (may which) (length (bytes_of starts which)) (content now which) u.claim in
    let mine : InAreaTurn areas true which area.0.first area.0.bytes.items = record { area = area.0; has = area.1; turn = refl; same = refl } in
    subst P (sym first.starts) (record {
      number = area.0.first;
      label = it.label;
      shown = record {
        is_label = it.first;
        valid = it.inscribed_as.valid;
        bytes = λ i below. first.stand which area.0.first area.0.bytes.items it.first mine i below ∙ ap (λ (them : List ℕ). slice_get them i) it.inscribed_as.spells;
      };
      no_less = omega (arith, it.inscribed_as.claim);
      off = off which area.0.first area.0 used area.1 it.first refl;
    })

-- beside them another label keeps the configuration
pub first_configured : (out : List Bool) (old new : Disks) (areas : List (Option Area)) (digest : List ℕ) → AreThere out old.starts → HaveLabels old.starts → AreWhole (InAreaTurn areas true) → AreasOn out areas
    → MayConfigure out old areas digest → Makes (IsAreaWrite old.starts (InAreaTurn areas true)) old new
    → EachSince (length old.calls) (LeavesConfiguredOn (ShowsConfig out old digest) old.starts digest) new.calls
first_configured out old new areas digest there room whole on may makes =
    let picks = InAreaTurn areas true in
    configured_always (ShowsConfig out old digest) old new (IsAreaWrite old.starts picks) digest (λ which shows. there which shows.0) (λ which shows. may.settled which shows.0) makes
    (λ which shows.
    let area = (on which).0 shows.0 in
    let it = may.beside which area.0 shows area.1 in
    record {
      number = it.number;
      label = it.label;
      shown = it.shown;
      config = it.config;
      off = off_area_writes old.starts picks which it.number whole (room which (there which shows.0)) it.shown.is_label
          (λ n b picked same. it.other (sym same ∙ is_turn areas true which area.0 area.1 n b picked));
    })

-- so it is of fewer disks
pub fewer_configured : (out : List Bool) (old : Disks) (digest : List ℕ) (n : ℕ) (calls : List JointCall) → EachSince n (LeavesConfigured out old.starts digest) calls
    → EachSince n (LeavesConfiguredOn (ShowsConfig out old digest) old.starts digest) calls
fewer_configured out old digest n calls each =
    each_weaker (LeavesConfigured out old.starts digest) (LeavesConfiguredOn (ShowsConfig out old digest) old.starts digest) n calls
    (λ earlier leaves images left which shows. leaves images left which shows.0) each

-- behind them the claim label does, while the run doesn't write it
later_configured : (out : List Bool) (old now new : Disks) (u : Uberblock) (areas : List (Option Area)) (digest : List ℕ) (may : ℕ → ℕ → List ℕ → Type 0) → AreThere out old.starts → AreasOn out areas
    → AreasFit u areas → ((which : ℕ) (area : Area) → slice_get areas which ≡ Some (Some area) → IsOfConfig digest area) → FirstStands out old now u areas
    → ((which number : ℕ) (area : Area) → InUse out which → slice_get areas which ≡ Some (Some area) → number < 4 → number ≡ area.first
    → (i : ℕ) → i < 114688 → IsOff (may which) (area_place (length (bytes_of old.starts which)) number + i)) → Makes may now new
    → EachSince (length now.calls) (LeavesConfigured out old.starts digest) new.calls
later_configured out old now new u areas digest may there on fit of first off makes =
    let T : List (List ℕ) → Type 0 = AreThere out in
    let E : List (List ℕ) → Type 0 = λ starts. EachSince (length now.calls) (LeavesConfigured out starts digest) new.calls in
    subst E first.starts (configured_always (InUse out) now new may digest (subst T (sym first.starts) there) first.settled makes
    (λ which used.
    let area = (on which).0 used in
    let it = of which area.0 area.1 in
    let is = (fit which area.0 area.1).first in
    let P : List (List ℕ) → Type 0 = λ starts. KeptConfig (may which) (length (bytes_of starts which)) (content now which) digest in
    let mine : InAreaTurn areas true which area.0.first area.0.bytes.items = record { area = area.0; has = area.1; turn = refl; same = refl } in
    subst P (sym first.starts) (record {
      number = area.0.first;
      label = it.label;
      shown = record {
        is_label = is;
        valid = it.valid;
        bytes = λ i below. first.stand which area.0.first area.0.bytes.items is mine i below ∙ ap (λ (them : List ℕ). slice_get them i) it.spells;
      };
      config = it.config;
      off = off which area.0.first area.0 used area.1 is refl;
    })))

pub slots_configured : (out : List Bool) (old mid new : Disks) (u : Uberblock) (areas : List (Option Area)) (digest : List ℕ) → AreThere out old.starts → HaveLabels old.starts → Fits u → AreasOn out areas
    → AreasFit u areas → MayConfigure out old areas digest → FirstStands out old mid u areas → Makes (IsSlotWrite mid.starts u (in_use out)) mid new
    → EachSince (length mid.calls) (LeavesConfigured out old.starts digest) new.calls
slots_configured out old mid new u areas digest there room fits on fit may first makes =
    let M : List (List ℕ) → Type 0 = λ starts. Makes (IsSlotWrite starts u (in_use out)) mid new in
    later_configured out old mid new u areas digest (IsSlotWrite old.starts u (in_use out)) there on fit may.each first
    (λ which number area used at is same. off_area_of_slots old.starts u (in_use out) which number fits (room which (there which used)) is) (subst M first.starts makes)

pub others_configured : (out : List Bool) (old mid new : Disks) (u : Uberblock) (areas : List (Option Area)) (digest : List ℕ) → AreThere out old.starts → HaveLabels old.starts → AreWhole (InAreaTurn areas false)
    → AreasOn out areas → AreasFit u areas → MayConfigure out old areas digest → FirstStands out old mid u areas → Makes (IsAreaWrite mid.starts (InAreaTurn areas false)) mid new
    → EachSince (length mid.calls) (LeavesConfigured out old.starts digest) new.calls
others_configured out old mid new u areas digest there room whole on fit may first makes =
    let picks = InAreaTurn areas false in
    let M : List (List ℕ) → Type 0 = λ starts. Makes (IsAreaWrite starts picks) mid new in
    later_configured out old mid new u areas digest (IsAreaWrite old.starts picks) there on fit may.each first
    (λ which number area used at is same. off_area_writes old.starts picks which number whole (room which (there which used)) is
    (λ n b picked equal. is_turn areas false which area at n b picked (equal ∙ same))) (subst M first.starts makes)

-- the slots
pub slots_claim : (trees : Trees) (out : List Bool) (old mid new : Disks) (p : Possible) (u : Uberblock) (areas : List (Option Area)) → AreThere out old.starts → HaveLabels old.starts → Fits u
    → AreasOn out areas → AreasFit u areas → FirstStands out old mid u areas → Makes (IsSlotWrite mid.starts u (in_use out)) mid new → LeadAlways trees out mid new (also_begun u p)
    → EachSince (length mid.calls) (ClaimsAt trees out old p u areas) new.calls
slots_claim trees out old mid new p u areas there room fits on fit first makes leads earlier moment =
    let P : List (List ℕ) → Type 0 = λ starts. LeavesLeading trees out starts (also_begun u p) earlier × LeavesMarked out starts u.claim earlier in
    let T : List (List ℕ) → Type 0 = AreThere out in
    let there' : AreThere out mid.starts = subst T (sym first.starts) there in
    let O : List (List ℕ) → Type 0 = λ starts. (which number : ℕ) → InUse out which → number < 4 → (i : ℕ) → i < 114688 → IsOff (IsSlotWrite starts u (in_use out) which) (area_place (length (bytes_of old.starts which)) number + i) in
    let off = subst O (sym first.starts) (λ which number used is. off_area_of_slots old.starts u (in_use out) which number fits (room which (there which used)) is) in
    let marked = marked_always out mid new (IsSlotWrite mid.starts u (in_use out)) u.claim there' first.settled makes
    (first_mark out old mid u areas (IsSlotWrite mid.starts u (in_use out)) on fit first (λ which number area used at is same. off which number used is)) earlier moment in
    inr (subst P first.starts (leads earlier moment, marked))

-- the claim labels stand behind the slots
pub first_stays : (out : List Bool) (old mid new : Disks) (u : Uberblock) (areas : List (Option Area)) → HaveLabels old.starts → length areas ≤ length old.starts → Fits u → FirstStands out old mid u areas
    → Makes (IsSlotWrite mid.starts u (in_use out)) mid new → AreSettled out new.calls → FirstStands out old new u areas
first_stays out old mid new u areas room count fits first makes settled =
    record {
      starts = makes.starts ∙ first.starts;
      stand = λ which number bytes is picked i below.
          let M : List (List ℕ) → Type 0 = λ starts. Makes (IsSlotWrite starts u (in_use out)) mid new in
          off_content (IsSlotWrite old.starts u (in_use out)) mid new which (area_place (length (bytes_of old.starts which)) number + i) (subst M first.starts makes)
          (off_area_of_slots old.starts u (in_use out) which number fits (room which (omega (arith, count, slice_get_within areas which (Some picked.area) picked.has))) is i below)
          ∙ first.stand which number bytes is picked i below;
      settled = settled;
    }

-- the other labels
pub others_claim : (trees : Trees) (out : List Bool) (old mid new : Disks) (p : Possible) (u : Uberblock) (areas : List (Option Area)) → AreThere out old.starts → HaveLabels old.starts → AreWhole (InAreaTurn areas false)
    → AreOffLabels trees out old.starts → AreasOn out areas → AreasFit u areas → FirstStands out old mid u areas → Leads trees out mid.starts (content mid) (also_begun u p)
    → Makes (IsAreaWrite mid.starts (InAreaTurn areas false)) mid new → EachSince (length mid.calls) (ClaimsAt trees out old p u areas) new.calls
others_claim trees out old mid new p u areas there room whole off_labels on fit first leads makes earlier moment =
    let picks = InAreaTurn areas false in
    let P : List (List ℕ) → Type 0 = λ starts. LeavesLeading trees out starts (also_begun u p) earlier × LeavesMarked out starts u.claim earlier in
    let T : List (List ℕ) → Type 0 = AreThere out in
    let R : List (List ℕ) → Type 0 = HaveLabels in
    let F : List (List ℕ) → Type 0 = AreOffLabels trees out in
    let there' : AreThere out mid.starts = subst T (sym first.starts) there in
    let room' : HaveLabels mid.starts = subst R (sym first.starts) room in
    let off' : AreOffLabels trees out mid.starts = subst F (sym first.starts) off_labels in
    let O : List (List ℕ) → Type 0 = λ starts. (which number : ℕ) (area : Area) → InUse out which → slice_get areas which ≡ Some (Some area) → number < 4 → number ≡ area.first
    → (i : ℕ) → i < 114688 → IsOff (IsAreaWrite starts picks which) (area_place (length (bytes_of old.starts which)) number + i) in
    let off : O mid.starts = subst O (sym first.starts) (λ which number area used at is same. off_area_writes old.starts picks which number whole (room which (there which used)) is
    (λ n b picked equal. is_turn areas false which area at n b picked (equal ∙ same))) in
    let marked = marked_always out mid new (IsAreaWrite mid.starts picks) u.claim there' first.settled makes
    (first_mark out old mid u areas (IsAreaWrite mid.starts picks) on fit first off) earlier moment in
    let led = phase_leaves trees out mid new (IsAreaWrite mid.starts picks) (also_begun u p) there' first.settled leads
    (area_phase trees out mid (also_begun u p) picks there' room' whole off' leads) makes earlier moment in
    inr (subst P first.starts (led, marked))

-- in the end each area stands in each label of its disk
pub all_stand : (out : List Bool) (old mid new : Disks) (u : Uberblock) (areas : List (Option Area)) → AreThere out old.starts → HaveLabels old.starts → AreWhole (InAreaTurn areas false) → AreasOn out areas
    → FirstStands out old mid u areas → Makes (IsAreaWrite mid.starts (InAreaTurn areas false)) mid new → AreasStand (content new) mid.starts (InAreaTurn areas false)
    → AreasStand (content new) old.starts (InAllLabels areas)
all_stand out old mid new u areas there room whole on first makes stand which number bytes is it =
    let area = it.area in
    let has = it.has in
    let size = length (bytes_of old.starts which) in
    let used = (on which).1 (area, has) in
    let S : List (List ℕ) → Type 0 = λ starts. AreasStand (content new) starts (InAreaTurn areas false) in
    let M : List (List ℕ) → Type 0 = λ starts. Makes (IsAreaWrite starts (InAreaTurn areas false)) mid new in
    let makes' = subst M first.starts makes in
    elim (same_or_not number area.first) [
      | inl same ↦ λ i below.
          off_content (IsAreaWrite old.starts (InAreaTurn areas false)) mid new which (area_place size number + i) makes'
          (off_area_writes old.starts (InAreaTurn areas false) which number whole (room which (there which used)) is
          (λ n b picked equal. is_turn areas false which area has n b picked (equal ∙ same)) i below)
          ∙ first.stand which number bytes is (record { area = area; has = has; turn = same; same = it.same }) i below
      | inr other ↦ (subst S first.starts stand) which number bytes is (record { area = area; has = has; turn = other; same = it.same })
    ]

-- and each label shows the claim
pub all_claimed : (out : List Bool) (old new : Disks) (u : Uberblock) (areas : List (Option Area)) → AreasOn out areas → AreasFit u areas → new.starts ≡ old.starts
    → AreasStand (content new) old.starts (InAllLabels areas) → AreClaimed out new u
all_claimed out old new u areas on fit starts stand which number used is =
    let area = (on which).0 used in
    let it = fit which area.0 area.1 in
    let P : List (List ℕ) → Type 0 = λ starts. (l : PlainLabel) × IsLabelShown (length (bytes_of starts which)) (content new which) number l × (l.claim ≡ u.claim) in
    subst P (sym starts) (
      it.label,
      record {
        is_label = is;
        valid = it.inscribed_as.valid;
        bytes = λ i below. stand which number area.0.bytes.items is (record { area = area.0; has = area.1; same = refl }) i below ∙ ap (λ (them : List ℕ). slice_get them i) it.inscribed_as.spells;
      },
      it.inscribed_as.claim,
    )

-- ---- which writes

area_writes : (starts : List (List ℕ)) (out : List Bool) (u : Uberblock) (areas : List (Option Area)) (first : Bool) → AreasOn out areas → AreasFit u areas → (which at : ℕ) (bytes : List ℕ)
    → IsAreaWrite starts (InAreaTurn areas first) which at bytes → IsClaimWrite starts out u which at bytes
area_writes starts out u areas first on fit which at bytes write =
    let it = fit which write.picked.area write.picked.has in
    let P : List ℕ → Type 0 = λ b. IsInscribed u it.label b in
    inr (record {
      number = write.number;
      is_label = write.is_label;
      used = (on which).1 (write.picked.area, write.picked.has);
      place = write.place;
      label = it.label;
      inscribed_as = subst P (sym write.picked.same) it.inscribed_as;
    })

pub areas_made : (old new : Disks) (starts : List (List ℕ)) (out : List Bool) (u : Uberblock) (areas : List (Option Area)) (first : Bool) → AreasOn out areas → AreasFit u areas → old.starts ≡ starts
    → MakesOn (InUse out) (IsAreaWrite old.starts (InAreaTurn areas first)) old new → MakesOn (InUse out) (IsClaimWrite starts out u) old new
areas_made old new starts out u areas first on fit same makes =
    let M : List (List ℕ) → Type 0 = λ them. MakesOn (InUse out) (IsAreaWrite them (InAreaTurn areas first)) old new in
    MakesOn-wider (InUse out) (InUse out) (IsAreaWrite starts (InAreaTurn areas first)) (IsClaimWrite starts out u) old new (λ which it. it) (area_writes starts out u areas first on fit) (subst M same makes)

pub slots_made : (old new : Disks) (starts : List (List ℕ)) (out : List Bool) (u : Uberblock) → old.starts ≡ starts → MakesOn (InUse out) (IsSlotWrite old.starts u (in_use out)) old new
    → MakesOn (InUse out) (IsClaimWrite starts out u) old new
slots_made old new starts out u same makes =
    let M : List (List ℕ) → Type 0 = λ them. MakesOn (InUse out) (IsSlotWrite them u (in_use out)) old new in
    MakesOn-wider (InUse out) (InUse out) (IsSlotWrite starts u (in_use out)) (IsClaimWrite starts out u) old new (λ which it. it) (λ which at bytes write. inl write) (subst M same makes)

-- of areas alone
pub areas_alone : (old new : Disks) (starts : List (List ℕ)) (out : List Bool) (u : Uberblock) (areas : List (Option Area)) (first : Bool) → old.starts ≡ starts
    → MakesOn (InUse out) (IsAreaWrite old.starts (InAreaTurn areas first)) old new → Makes (of_areas starts out u areas) old new
areas_alone old new starts out u areas first same run =
    let M : List (List ℕ) → Type 0 = λ them. Makes (IsAreaWrite them (InAreaTurn areas first)) old new in
    Makes-wider (IsAreaWrite starts (InAreaTurn areas first)) (of_areas starts out u areas) old new
    (λ which at bytes it. inr (record {
      number = it.number;
      is_label = it.is_label;
      picked = record { area = it.picked.area; has = it.picked.has; same = it.picked.same };
      place = it.place;
    })) (subst M same run.makes)

pub slots_alone : (old new : Disks) (starts : List (List ℕ)) (out : List Bool) (u : Uberblock) (areas : List (Option Area)) → old.starts ≡ starts
    → MakesOn (InUse out) (IsSlotWrite old.starts u (in_use out)) old new → Makes (of_areas starts out u areas) old new
slots_alone old new starts out u areas same run =
    let M : List (List ℕ) → Type 0 = λ them. Makes (IsSlotWrite them u (in_use out)) old new in
    Makes-wider (IsSlotWrite starts u (in_use out)) (of_areas starts out u areas) old new (λ which at bytes it. inl it) (subst M same run.makes)

pub are_whole : (u : Uberblock) (areas : List (Option Area)) → AreasFit u areas → (first : Bool) → AreWhole (InAreaTurn areas first)
are_whole u areas fit first which number bytes picked =
    let it = fit which picked.area picked.has in ap length (picked.same ∙ it.inscribed_as.spells) ∙ area_len it.label it.inscribed_as.valid
