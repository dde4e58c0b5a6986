-- Vdevs and guids that are allowed.
use Rattle.std.proofs.Common.{◌≡◌, ◌≢◌, ◌<◌, ◌≤◌, ◌∙◌, ℕ, Bool, List, ◌∷◌, map, length, get_or, sym, ap, subst, arith}
use Rattle.std.specs.Prelude.{All, AllPairs, IsTrue, ◌↔◌}
use Rattle.std.specs.List.{AllWithin}
use Rattle.std.proofs.Math.ListN.{get_or-map}
use Rattle.std.proofs.lemmas.List.{length-map}
use Rattle.std.proofs.lemmas.List.Elements.{All-map}
use Rattle.vdev_label.specs.Config.{guids}
use Rattle.vdev_label.specs.Limits.{IsAllowedVdev, IsAllowed}
use Rattle.vdev_label.specs.Plain.{vdev_view}
use Rattle.vdev_label.specs.declared.label.Vdev.{Vdev}

-- one that is not
pub not_all : (vdevs : List Vdev) (i : ℕ) (v : Vdev) → i < length vdevs → v ≡ get_or vdevs i v → ¬ IsAllowedVdev (vdev_view v) → ¬ All IsAllowedVdev (map vdev_view vdevs)
not_all vdevs i v below is bad all =
    bad (subst IsAllowedVdev (get_or-map vdev_view vdevs i v ∙ ap vdev_view (sym is)) (all i (vdev_view v) (omega (arith, below, length-map vdevs vdev_view))))

pub all_of_them : (vdevs : List Vdev) (n : ℕ) → length vdevs ≤ n → AllWithin (λ v. IsAllowedVdev (vdev_view v)) vdevs 0 n → All IsAllowedVdev (map vdev_view vdevs)
all_of_them vdevs n all within = All-map IsAllowedVdev vdev_view vdevs (λ k d below. within k d (omega arith) (omega (arith, all, below)))

-- the list of guids decides what is left
pub by_guids : (pool_guid : ℕ) (vdevs : List Vdev) (gs : List ℕ) (fine : Bool) → gs ≡ pool_guid ∷ guids (map vdev_view vdevs) → 1 ≤ length vdevs → length vdevs ≤ 8 → All IsAllowedVdev (map vdev_view vdevs)
    → (IsTrue fine ↔ (All (λ guid. guid ≢ 0) gs × AllPairs (λ a b. a ≢ b) gs)) → IsTrue fine ↔ IsAllowed pool_guid (map vdev_view vdevs)
by_guids pool_guid vdevs gs fine are from to each test =
    let Both : List ℕ → Type 0 = λ them. All (λ guid. guid ≢ 0) them × AllPairs (λ a b. a ≢ b) them in (
      λ yes. let both : Both (pool_guid ∷ guids (map vdev_view vdevs)) = subst Both are (test.0 yes) in record {
        vdevs_from = omega (arith, from, length-map vdevs vdev_view);
        vdevs_to = omega (arith, to, length-map vdevs vdev_view);
        each = each;
        not_zero = both.0;
        distinct = both.1;
      },
      λ is. test.1 (subst Both (sym are) (is.not_zero, is.distinct)),
    )
