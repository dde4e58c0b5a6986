-- Configurations that have an encoding.
use Rattle.std.proofs.Common.{◌<◌, ◌^◌, ℕ, List, [], ◌∷◌, ◌++◌, subst, arith}
use Rattle.std.specs.Prelude.{All, string_bytes}
use Rattle.std.proofs.lemmas.List.Concat.{flat_map-cons}
use Rattle.std.proofs.lemmas.List.Elements.{All-cons, All-nil, All-tail, All-from_recursion}
use Rattle.pool_format.specs.declared.labeling.PoolIdentity.{PoolIdentity}
use Rattle.vdev_label.specs.Config.{FitsConfig, guids}
use Rattle.vdev_label.specs.Limits.{IsAllowedVdev}
use Rattle.vdev_label.specs.Plain.{PlainLabel, PlainVdev, config_view}
use Rattle.vdev_label.specs.Room.{AllowedHasRoom, ConfigOfLabelFits, IsSmallVdev}
use Rattle.vdev_label.specs.declared.label.Config.{Config}
use Rattle.vdev_label.specs.declared.label.State.TheVariants.{Active}
use Rattle.words.specs.Words.{AreWords}
use Rattle.pool_open.specs.Configs.{FitsTable}
use Rattle.pool_create.specs.Planning.{IsAllowedPool}

pub config_fits : AllowedHasRoom → ConfigOfLabelFits → (pool : PoolIdentity) (config : Config) → IsAllowedPool pool config → pool.guid < 2 ^ 64 → AreWords (guids (config_view config)) → FitsConfig (config_view config)
config_fits room fits pool config allowed word words =
    let l : PlainLabel = record {
      claim = 1;
      guid = 0;
      name = string_bytes pool.name;
      pool_guid = pool.guid;
      state = Active;
      top_guid = 0;
      group = 1;
      vdevs = config_view config;
    } in
    fits l (room l (record { claim_from = omega arith; claim_to = omega arith; group_from = omega arith; group_to = omega arith; name = allowed.0 }) allowed.1 (omega arith, (omega arith, (word, words))))

-- ---- and one that is short enough for a table

words_front : (xs ys : List ℕ) → AreWords (xs ++ ys) → AreWords xs
words_front [] ys words = tt
words_front (x ∷ xs) ys words = (words.0, words_front xs ys words.1)

words_back : (xs ys : List ℕ) → AreWords (xs ++ ys) → AreWords ys
words_back [] ys words = words
words_back (x ∷ xs) ys words = words_back xs ys words.1

small_vdev : (v : PlainVdev) → IsAllowedVdev v → AreWords (v.guid ∷ v.children) → IsSmallVdev v
small_vdev v allowed words = record {
  guid = words.0;
  parity = omega (arith, allowed.parity_to);
  child_sectors = omega (arith, allowed.sectors_to);
  slab_shift = omega (arith, allowed.shift_to);
  meta_slabs = omega (arith, allowed.others, allowed.slabs_to);
  few = omega (arith, allowed.children_to);
  children = All-from_recursion (λ n. n < 2 ^ 64) v.children words.1;
}

small_vdevs : (vdevs : List PlainVdev) → All IsAllowedVdev vdevs → AreWords (guids vdevs) → All IsSmallVdev vdevs
small_vdevs [] all words = All-nil IsSmallVdev
small_vdevs (v ∷ vdevs) all words =
    let apart : AreWords ((v.guid ∷ v.children) ++ guids vdevs) = subst AreWords (flat_map-cons (λ (w : PlainVdev). w.guid ∷ w.children) v vdevs) words in
    All-cons IsSmallVdev v vdevs (small_vdev v (all 0 v (omega arith)) (words_front (v.guid ∷ v.children) (guids vdevs) apart))
    (small_vdevs vdevs (All-tail IsAllowedVdev v vdevs all) (words_back (v.guid ∷ v.children) (guids vdevs) apart))

pub fits_table : (pool : PoolIdentity) (config : Config) → IsAllowedPool pool config → AreWords (guids (config_view config)) → FitsTable (config_view config)
fits_table pool config allowed words = record { few = (allowed.1).vdevs_to; each = small_vdevs (config_view config) (allowed.1).each words }
