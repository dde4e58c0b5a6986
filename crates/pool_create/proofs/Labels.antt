-- The labels of a new pool lie beside its blocks.
use Rattle.std.proofs.Common.{◌≡◌, ◌⊎◌, inl, inr, ℕ, ◌+◌, ◌≤◌, ◌<◌, Bool, List, [], length, Some, refl, sym, ap, ◌∙◌, subst, arith}
use Rattle.std.specs.Prelude.{replicate, slice_get}
use Rattle.std.proofs.lemmas.Option.{slice_get_within}
use Rattle.std.proofs.lemmas.List.{length-map}
use Rattle.block_store.specs.Blocks.{Contents}
use Rattle.block_store.specs.Elsewhere.{IsForBlocks, WritesElsewhereKeep}
use Rattle.block_store.specs.Spaces.{VdevSpace}
use Rattle.block_store.specs.Store.{Store}
use Rattle.block_store.specs.declared.shape.VdevShape.{VdevShape}
use Rattle.model_disk.specs.Contents.{covers}
use Rattle.model_disk.specs.Joint.{Disks, bytes_of, content}
use Rattle.model_disk.specs.Runs.{IsOff, Makes, no_write}
use Rattle.model_disk.proofs.ContentsLemmas.{covers-outside}
use Rattle.model_disk.proofs.RunLemmas.{off_content}
use Rattle.pool_open.specs.Slots.{LabelsLieAside}
use Rattle.pool_format.specs.Labels.{AreLabeled, IsLabelWrite, children_of, label_of, labels_of}
use Rattle.pool_format.specs.declared.labeling.PoolIdentity.{PoolIdentity}
use Rattle.pool_open.specs.Held.{HoldOver, IsLaidOver}
use Rattle.pool_open.proofs.Holding.{held_where_same}
use Rattle.pool_slots.specs.Labels.{IsLabelShown, IsValid, area_place}
use Rattle.pool_slots.proofs.LabelAreas.{area_len}
use Rattle.pool_slots.proofs.Phases.{none_same}
use Rattle.vdev_label.specs.Place.{label_at}
use Rattle.vdev_label.specs.Plain.{PlainLabel, config_view}
use Rattle.vdev_label.specs.declared.label.Config.{Config}

-- a byte lies in front of a range, behind it, or in it
sides : (at n i : ℕ) → (i < at) ⊎ ((at + n ≤ i) ⊎ ((at ≤ i) × (i < at + n)))
sides at n i = grind arith

-- a byte that is for blocks lies in no label
off_label : (spaces : List VdevSpace) (starts : List (List ℕ)) (disk i number : ℕ) → LabelsLieAside starts spaces → disk < length starts → IsForBlocks spaces disk i → number < 4
    → (i < label_at (length (bytes_of starts disk)) number) ⊎ (label_at (length (bytes_of starts disk)) number + 262144 ≤ i)
off_label spaces starts disk i number lie there is low =
    elim (sides (label_at (length (bytes_of starts disk)) number) 262144 i) [
      | inl before ↦ inl before
      | inr (inl after) ↦ inr after
      | inr (inr inside) ↦ absurd ((lie disk there).1 number low i inside.0 inside.1 is)
    ]

-- a label's area is in the label
area_in_label : (size number : ℕ) → (label_at size number ≤ area_place size number) × (area_place size number + 114688 ≤ label_at size number + 262144)
unfolding area_place
area_in_label size number = (omega arith, omega arith)

-- of labels that each disk shows no area has the byte
off_area : (spaces : List VdevSpace) (starts : List (List ℕ)) (labels : List PlainLabel) (disk i : ℕ) → LabelsLieAside starts spaces → length labels ≡ length starts
    → ((which : ℕ) (l : PlainLabel) → slice_get labels which ≡ Some l → IsValid l) → IsForBlocks spaces disk i → IsOff (IsLabelWrite starts labels disk) i
off_area spaces starts labels disk i lie count valid is at bytes write =
    let size = length (bytes_of starts disk) in
    let there : disk < length starts = omega (arith, count, slice_get_within labels disk write.l write.is) in
    let aside = off_label spaces starts disk i write.area.number lie there is write.area.is_label in
    let inside = area_in_label size write.area.number in
    ap (λ (place : ℕ). covers place (length bytes) i) write.area.place
    ∙ ap (λ (n : ℕ). covers (area_place size write.area.number) n i) (ap length write.area.spells ∙ area_len write.l (valid disk write.l write.is))
    ∙ covers-outside (area_place size write.area.number) 114688 i
    (elim aside [ inl before ↦ inl (omega (arith, before, inside.0)) | inr after ↦ inr (omega (arith, after, inside.1)) ])

-- what is shown is valid
shown_valid : (disks : Disks) (labels : List PlainLabel) → AreLabeled disks labels → (which : ℕ) (l : PlainLabel) → slice_get labels which ≡ Some l → IsValid l
shown_valid disks labels are which l at = (are which l at 0 (omega arith)).valid

labels_count : (pool : PoolIdentity) (config : Config) (starts : List (List ℕ)) → length (children_of (config_view config)) ≡ length starts → length (labels_of pool config 1 3) ≡ length starts
labels_count pool config starts count = length-map (children_of (config_view config)) (label_of pool config 1 3) ∙ count

-- ---- stores over the same disks later

pub laid_later : (old new : Disks) (shapes : List VdevShape) (out : List Bool) → new.starts ≡ old.starts → IsLaidOver old shapes out → IsLaidOver new shapes out
laid_later old new shapes out starts laid =
    let store : Store = record laid.store { disks = new } in
    record {
      store = store;
      over = record {
        disks_are = refl;
        shapes_are = laid.over.shapes_are;
        out_is = laid.over.out_is;
        since = laid.over.since ∙ ap (λ (them : List (List ℕ)). replicate (length them) 0) (sym starts);
        stale_is = laid.over.stale_is;
      };
      lie = subst (λ (them : List (List ℕ)). LabelsLieAside them laid.store.spaces) (sym starts) laid.lie;
    }

-- what the disks hold they hold behind their labels
pub held_behind_labels : WritesElsewhereKeep → (old new : Disks) (shapes : List VdevShape) (out : List Bool) (pool : PoolIdentity) (config : Config) (stored : Contents)
    → IsLaidOver old shapes out → length (children_of (config_view config)) ≡ length old.starts → Makes (IsLabelWrite old.starts (labels_of pool config 1 3)) old new
    → AreLabeled new (labels_of pool config 1 3) → HoldOver old shapes out [] stored → HoldOver new shapes out [] stored
held_behind_labels keep old new shapes out pool config stored laid count makes are hold =
    let labels = labels_of pool config 1 3 in
    held_where_same keep shapes out [] old new stored laid.store laid.over (hold laid.store laid.over) makes.starts
    (λ disk i is. off_content (IsLabelWrite old.starts labels) old new disk i makes
    (off_area laid.store.spaces old.starts labels disk i laid.lie (labels_count pool config old.starts count) (shown_valid new labels are) is))

-- labels that stand do so behind reads
pub labeled_later : (old new : Disks) (labels : List PlainLabel) → Makes no_write old new → AreLabeled old labels → AreLabeled new labels
labeled_later old new labels makes are which l at number low =
    let it = are which l at number low in
    subst (λ (starts : List (List ℕ)). IsLabelShown (length (bytes_of starts which)) (content new which) number l) (sym makes.starts)
    (record {
      is_label = it.is_label;
      valid = it.valid;
      bytes = λ i within. none_same old new which (area_place (length (bytes_of old.starts which)) number + i) makes ∙ it.bytes i within;
    })
