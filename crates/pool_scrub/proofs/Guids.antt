-- Pools that are opened have disks of different guids.
use Rattle.std.proofs.Common.{ℕ, suc, ◌≡◌, ◌≢◌, inl, inr, List, [], ◌∷◌, ◌++◌, AllPairs, Contains, sym, ap, subst, ◌∙◌, arith}
use Rattle.std.specs.Prelude.{slice_index_or}
use Rattle.std.proofs.lemmas.List.Elements.{Contains-append_cases, Contains-append_left, Contains-append_right, Contains-get_or}
use Rattle.std.proofs.lemmas.List.Kept.{AllPairs-cons}
use Rattle.model_disk.specs.declared.disk.Disk as disk
use Rattle.pool_open.specs.CoreState.{CoreState, config_of}
use Rattle.pool_open.specs.Opens.{IsOpened}
use Rattle.stale_disks.specs.Rules.{guids_in}
use Rattle.uberblock_ring.specs.declared.uberblock.Uberblock.{Uberblock}
use Rattle.vdev_label.specs.Config.{guids}
use Rattle.vdev_label.specs.Plain.{PlainVdev, config_view}
use Rattle.vdev_label.specs.declared.label.Config.{Config}

-- no two disks of the core's pool have the same guid
abbrev pub HaveOwnGuids : CoreState → Type 0
HaveOwnGuids core = AllPairs (λ guid other. guid ≢ other) (guids_in (config_view (config_of core)))

-- ---- lists of different numbers

abbrev AreDifferent : List ℕ → Type 0
AreDifferent xs = AllPairs (λ x other. x ≢ other) xs

behind : (x : ℕ) (xs : List ℕ) (y : ℕ) → Contains xs y → Contains (x ∷ xs) y
behind x xs y (k, within, is) = (suc k, omega (arith, within), is)

rest_differ : (x : ℕ) (xs : List ℕ) → AreDifferent (x ∷ xs) → AreDifferent xs
rest_differ x xs all = λ i j d before within. all (suc i) (suc j) d (omega (arith, before)) (omega (arith, within))

first_differs : (x : ℕ) (xs : List ℕ) (y : ℕ) → AreDifferent (x ∷ xs) → Contains xs y → x ≢ y
first_differs x xs y all held = subst (λ (z : ℕ). x ≢ z) held.2 (all 0 (suc held.0) y (omega arith) (omega (arith, held.1)))

-- the first, with fewer of the others
fewer_differ : (x : ℕ) (xs ys : List ℕ) → ((y : ℕ) → Contains ys y → Contains xs y) → AreDifferent (x ∷ xs) → AreDifferent ys → AreDifferent (x ∷ ys)
fewer_differ x xs ys among all rest =
    AllPairs-cons (λ (y : ℕ) (other : ℕ). y ≢ other) x ys
    (λ k d within. first_differs x xs (slice_index_or ys k d) all (among (slice_index_or ys k d) (Contains-get_or ys k d within))) rest

-- and some in front of fewer
front_differs : (xs ys zs : List ℕ) → ((z : ℕ) → Contains zs z → Contains ys z) → AreDifferent (xs ++ ys) → (AreDifferent ys → AreDifferent zs) → AreDifferent (xs ++ zs)
front_differs [] ys zs among all fewer = fewer all
front_differs (x ∷ xs) ys zs among all fewer =
    fewer_differ x (xs ++ ys) (xs ++ zs)
    (λ z held. elim (Contains-append_cases xs zs z held) [
      | inl here ↦ Contains-append_left xs ys z here
      | inr later ↦ Contains-append_right xs ys z (among z later)
    ])
    all (front_differs xs ys zs among (rest_differ x (xs ++ ys) all) fewer)

-- ---- of vdevs

disks_among : (vdevs : List PlainVdev) (guid : ℕ) → Contains (guids_in vdevs) guid → Contains (guids vdevs) guid
disks_among [] guid held = held
disks_among (vdev ∷ vdevs) guid held = elim (Contains-append_cases vdev.children (guids_in vdevs) guid held) [
  | inl here ↦ behind vdev.guid (vdev.children ++ guids vdevs) guid (Contains-append_left vdev.children (guids vdevs) guid here)
  | inr later ↦
      behind vdev.guid (vdev.children ++ guids vdevs) guid (Contains-append_right vdev.children (guids vdevs) guid (disks_among vdevs guid later))
]

disks_differ : (vdevs : List PlainVdev) → AreDifferent (guids vdevs) → AreDifferent (guids_in vdevs)
disks_differ [] all = all
disks_differ (vdev ∷ vdevs) all =
    front_differs vdev.children (guids vdevs) (guids_in vdevs) (disks_among vdevs) (rest_differ vdev.guid (vdev.children ++ guids vdevs) all) (disks_differ vdevs)

-- ---- of a pool that was opened

pub own_guids : {D : Type 0} (g : disk.Ghosts D) (disks : List D) (rewind : ℕ) (u : Uberblock) (core : CoreState) → IsOpened g disks rewind u core → HaveOwnGuids core
own_guids g disks rewind u core is =
    let found = is.ordered.found in
    let chosen = found.laid_out.chosen in
    let same : config_view (config_of core) ≡ config_view chosen.l.config =
    ap (λ (config : Config). config_view config) (is.configured ∙ found.config_is) ∙ found.laid_out.laid_out.config in
    subst (λ (vdevs : List PlainVdev). AreDifferent (guids_in vdevs)) (sym same)
    (disks_differ (config_view chosen.l.config)
    (rest_differ chosen.l.pool_guid (guids (config_view chosen.l.config)) chosen.configured.fit.allowed.distinct))
