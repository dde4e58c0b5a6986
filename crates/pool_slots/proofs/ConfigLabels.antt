-- Configurations that labels keep in an open.
use Rattle.std.proofs.Common.{◌≡◌, inl, inr, ◌∙◌, ℕ, Bool, List, length, get_or, Option, Some, None, refl, sym, ap, subst}
use Rattle.model_disk.specs.Joint.{Disks, bytes_of, content}
use Rattle.model_disk.specs.Runs.{EachSince, Makes, no_write}
use Rattle.model_disk.proofs.RunLemmas.{each_weaker}
use Rattle.uberblock_ring.specs.declared.uberblock.Uberblock.{Uberblock}
use Rattle.uberblock_ring.specs.Uberblock.{Fits}
use Rattle.vdev_label.specs.Plain.{PlainLabel}
use Rattle.vdev_label.specs.Room.{relabeled}
use Rattle.vdev_label.specs.declared.label.State.TheVariants.{Active}
use Rattle.pool_slots.specs.Configs.{AreNotFour, ClaimConfigures, IsBeside, IsConfigured, IsOfConfig, LeavesConfiguredOn, MayConfigure, ShowsConfig, ShowsFour, of_config}
use Rattle.pool_slots.specs.Labels.{IsClaimWrite, IsLabelShown, IsLabeledAs, IsShownAs, Keeps}
use Rattle.pool_slots.specs.Relabels.{AreMadeOf, IsLabelFor, IsLabeledFor, IsMadeOf}
use Rattle.pool_slots.specs.Slots.{AreSettled, AreThere}
use Rattle.pool_slots.specs.declared.labeled.Area.{Area}
use Rattle.pool_slots.specs.declared.labeled.Labeled.{Labeled}
use Rattle.pool_slots.specs.declared.labeled.Shown.{Shown}
use Rattle.pool_slots.proofs.Choices.{config_beside}
use Rattle.pool_slots.proofs.FourConfigs.{two_of}
use Rattle.pool_slots.proofs.LabelPhases.{configured_always, each_joined}
use Rattle.pool_slots.proofs.LabelPlans.{label_for_valid, relabeled_valid, shown_at}
use Rattle.pool_slots.proofs.LabelScans.{label_earlier, label_later}

-- ---- what the labels of one disk show

-- a label that is shown was read
read_of : (size : ℕ) (held : ℕ → Option ℕ) (number : ℕ) (l : PlainLabel) (o : Option Shown) → IsShownAs size held number o → IsLabelShown size held number l
    → (s : Shown) × (o ≡ Some s) × Keeps l s
read_of size held number l None is shown = absurd (is l shown)
read_of size held number l (Some s) is shown = (s, refl, is.1 l shown)

-- beside the claim label another shows the configuration that is taken
beside_of : (size : ℕ) (held : ℕ → Option ℕ) (digest : List ℕ) (it : Labeled) → IsLabeledAs size held digest it → it.config_digest ≡ digest → ¬ ShowsFour size held → IsBeside size held it.first digest
beside_of size held digest it is same four =
    let beside = config_beside is.shown it is.summary (two_of size held is.shown is.are four) in
    let there = shown_at size held is.shown beside.j beside.s is.are beside.at in
    record { number = beside.j; other = beside.other; label = there.0; shown = there.1; config = sym there.2.1 ∙ beside.has ∙ same }

-- a disk that shows the configuration has it in the label that is written anew
current_of : (size : ℕ) (held : ℕ → Option ℕ) (digest : List ℕ) (it : Labeled) → IsLabeledAs size held digest it → IsConfigured size held digest → it.config_digest ≡ digest
current_of size held digest it is shows =
    elim is.config [
      | inl same ↦ same
      | inr none ↦
          let mine = read_of size held shows.number shows.label (get_or is.shown shows.number None) (is.are.each shows.number shows.shown.is_label) shows.shown in
          absurd (none shows.number mine.0 mine.1 (mine.2.1 ∙ shows.config))
    ]

same_some : (s t : Shown) → Some s ≡ Some t → s ≡ t
same_some s t e = cc

-- the label that is written anew has it
source_config : (size : ℕ) (held : ℕ → Option ℕ) (digest : List ℕ) (it : Labeled) (l : PlainLabel) → IsLabeledAs size held digest it → IsLabelShown size held it.source l → of_config it.config_digest l
source_config size held digest it l is shown =
    let mine = read_of size held it.source l (get_or is.shown it.source None) (is.are.each it.source shown.is_label) shown in
    let source = is.summary.source in
    let one : mine.0 ≡ source.s = same_some mine.0 source.s (sym mine.1 ∙ source.at) in
    sym mine.2.1 ∙ ap (λ (s : Shown). s.config_digest) one ∙ source.config

-- so does what a disk's labels are made of
pub label_for_config : (out : List Bool) (disks : Disks) (u : Uberblock) (which : ℕ) (it : Labeled) (l : PlainLabel) → IsLabeledFor disks u which it → IsLabelFor out disks u which it l
    → of_config u.config_digest l
label_for_config out disks u which it l read from =
    let C : PlainLabel → Type 0 = of_config u.config_digest in
    elim from.from [
      | inl kept ↦ subst C (sym kept.1) (source_config (length (bytes_of disks.starts which)) (content disks which) u.config_digest it from.own read from.shown ∙ kept.0)
      | inr taken ↦ subst C (sym taken.is) taken.config
    ]

-- ---- of all disks

made_config : (out : List Bool) (disks : Disks) (u : Uberblock) (which : ℕ) (area : Area) → Fits u → IsMadeOf out disks u which area → IsOfConfig u.config_digest area
made_config out disks u which area fits made =
    record {
      label = relabeled made.label u.claim u.group Active;
      valid = relabeled_valid made.label u (label_for_valid out disks u which made.it made.label made.source) fits;
      spells = made.spells;
      config = label_for_config out disks u which made.it made.label made.read made.source;
    }

configured_earlier : (old new : Disks) (which : ℕ) (digest : List ℕ) → Makes no_write old new → IsConfigured (length (bytes_of new.starts which)) (content new which) digest
    → IsConfigured (length (bytes_of old.starts which)) (content old which) digest
configured_earlier old new which digest makes it = record { number = it.number; label = it.label; shown = label_earlier old new which it.number it.label makes it.shown; config = it.config }

configured_later : (old new : Disks) (which : ℕ) (digest : List ℕ) → Makes no_write old new → IsConfigured (length (bytes_of old.starts which)) (content old which) digest
    → IsConfigured (length (bytes_of new.starts which)) (content new which) digest
configured_later old new which digest makes it = record { number = it.number; label = it.label; shown = label_later old new which it.number it.label makes it.shown; config = it.config }

may_configure : (out : List Bool) (old disks : Disks) (u : Uberblock) (areas : List (Option Area)) → Makes no_write old disks → AreMadeOf out old u areas → Fits u → AreSettled out disks.calls
    → AreNotFour out old → MayConfigure out disks areas u.config_digest
may_configure out old disks u areas scan made fits settled four =
    record {
      settled = settled;
      each = λ which area at. made_config out old u which area fits (made which area at);
      beside = λ which area shows at.
          let mine = made which area at in
          let same = current_of (length (bytes_of old.starts which)) (content old which) u.config_digest mine.it mine.read (configured_earlier old disks which u.config_digest scan shows.1) in
          let it = beside_of (length (bytes_of old.starts which)) (content old which) u.config_digest mine.it mine.read same (four which shows.0) in
          record {
            number = it.number;
            other = λ same. it.other (same ∙ mine.first);
            label = it.label;
            shown = label_later old disks which it.number it.label scan it.shown;
            config = it.config;
          };
    }

pub open_configures : (out : List Bool) (old disks new : Disks) (u : Uberblock) (areas seen : List (Option Area)) → AreThere out old.starts → AreSettled out old.calls → AreSettled out disks.calls
    → AreNotFour out old → Makes no_write old disks → AreMadeOf out old u areas → Fits u → Makes (IsClaimWrite disks.starts out u) disks new → seen ≡ areas
    → ClaimConfigures out disks seen new → EachSince (length old.calls) (LeavesConfiguredOn (ShowsConfig out old u.config_digest) old.starts u.config_digest) new.calls
open_configures out old disks new u areas seen there settled later four scan made fits makes same configures =
    let digest = u.config_digest in
    let C : List (Option Area) → Type 0 = λ xs. ClaimConfigures out disks xs new in
    let S : ℕ → Type 0 = ShowsConfig out old digest in
    let E : List (List ℕ) → Type 0 = λ starts. EachSince (length disks.calls) (LeavesConfiguredOn S starts digest) new.calls in
    each_joined (LeavesConfiguredOn S old.starts digest) (IsClaimWrite disks.starts out u) old disks new makes
    (configured_always S old disks no_write digest (λ which shows. there which shows.0) (λ which shows. settled which shows.0) scan
    (λ which shows. record {
      number = shows.1.number;
      label = shows.1.label;
      shown = shows.1.shown;
      config = shows.1.config;
      off = λ i below at bytes none. absurd none;
    }))
    (subst E scan.starts
    (each_weaker (LeavesConfiguredOn (ShowsConfig out disks digest) disks.starts digest) (LeavesConfiguredOn S disks.starts digest) (length disks.calls) new.calls
    (λ earlier leaves images left which shows. leaves images left which (shows.0, configured_later old disks which digest scan shows.1))
    (subst C same configures digest (may_configure out old disks u areas scan made fits later four))))
