-- Configurations and the bytes that spell them.
use Rattle.std.proofs.Common.{◌≡◌, ◌≢◌, ◌∙◌, ℕ, List, [], ◌++◌, sym, refl}
use Rattle.std.specs.Prelude.{Result, Ok, Err, IfOk, IfErr}
use Rattle.std.proofs.lemmas.List.{append-nil}
use Rattle.nvlist.specs.Grammar.{Spells, spelling}
use Rattle.nvlist.specs.Plain.{PlainList}
use Rattle.vdev_label.proofs.Unique.{tree_same}
use Rattle.vdev_label.specs.Config.{FindsConfig}
use Rattle.vdev_label.specs.Pairs.{tree_pairs}
use Rattle.vdev_label.specs.Plain.{PlainVdev, config_view}
use Rattle.vdev_label.specs.Refuses.{Refuses}
use Rattle.vdev_label.specs.declared.label.Config.{Config}
use Rattle.vdev_label.specs.declared.refusal.Refusal.{Refusal}
use Rattle.vdev_label.specs.declared.refusal.Refusal.TheVariants.{NoMemory, DiskFault, BadLabel}

-- bytes that are a list are it and nothing behind it
pub with_nothing : (bytes : List ℕ) (l : PlainList) → Spells bytes l → bytes ≡ spelling l ++ []
with_nothing bytes l spells = spells.1 ∙ sym (append-nil (spelling l))

-- the configuration that was found is the one that is spelled
pub only_config : (r : Result Config Refusal) (l : PlainList) (vdevs : List PlainVdev) → l ≡ tree_pairs vdevs → IfOk r (λ config. l ≡ tree_pairs (config_view config))
    → IfErr r (λ refusal. Refuses refusal ((them : List PlainVdev) → l ≢ tree_pairs them)) → FindsConfig r vdevs
only_config (Ok config) l vdevs is found bad = tree_same (config_view config) vdevs (sym found ∙ is)
only_config (Err NoMemory) l vdevs is found bad = refl
only_config (Err DiskFault) l vdevs is found bad = absurd bad
only_config (Err (BadLabel b)) l vdevs is found bad = absurd (bad.1 vdevs is)
