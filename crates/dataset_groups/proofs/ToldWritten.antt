-- Names tell the chains still once writes are made.
use Rattle.std.proofs.Common.{◌≡◌, ℕ, List, [], ◌∷◌, map, Contains, Some, inl, inr, sym, ap, subst, ◌∙◌}
use Rattle.dead_list.specs.Datasets.{Pool}
use Rattle.meta_objset.specs.declared.directory.DirectoryRow.{DirectoryRow}
use Rattle.pool_model.specs.declared.item.Write.{Write}
use Rattle.pool_model.specs.declared.volume.PlainVolume.{PlainVolume}
use Rattle.pool_model.specs.Names.{volume_part}
use Rattle.pool_model.specs.Pools.{PlainPool}
use Rattle.volume_rules.specs.Overlay.{after_writes}
use Rattle.volume_rules.proofs.Overlays.{name_after_writes}
use Rattle.dataset_groups.specs.Names.{BranchesOff, HasClone, IsCalled, NamesTellChains}
use Rattle.dataset_groups.proofs.ListParts.{first_or_later, is_first, is_later, nothing_in}
use Rattle.dataset_groups.proofs.Overwriting.{HaveSameShapes}
use Rattle.dataset_groups.proofs.WrittenVolumes.{origin_after_writes}

in_map : {X Y : Type 0} (f : X → Y) (xs : List X) (x : X) → Contains xs x → Contains (map f xs) (f x)
in_map f [] x held = absurd (nothing_in x held)
in_map f (y ∷ xs) x held = elim (first_or_later y x xs held) [
  | inl one ↦ subst (λ z. Contains (f y ∷ map f xs) (f z)) one (is_first (f y) (map f xs))
  | inr later ↦ is_later (f y) (f x) (map f xs) (in_map f xs x later)
]

of_map : {X Y : Type 0} (f : X → Y) (xs : List X) (y : Y) → Contains (map f xs) y → (x : X) × Contains xs x × (f x ≡ y)
of_map f [] y held = absurd (nothing_in y held)
of_map f (x ∷ xs) y held = elim (first_or_later (f x) y (map f xs) held) [
  | inl one ↦ (x, is_first x xs, one)
  | inr later ↦ let it = of_map f xs y later in (it.0, is_later x it.0 xs it.1, it.2)
]

module _ (pool after : Pool) (rows : List DirectoryRow) (plain : PlainPool) (writes : List Write) (same : HaveSameShapes pool after) (next : (m : ℕ) → after.next m ≡ pool.next m)
    (told : NamesTellChains pool rows plain) where
  abbrev written_volume : PlainVolume → PlainVolume
  written_volume volume = after_writes volume writes

  abbrev later : PlainPool
  later = record plain { volumes = map (λ volume. after_writes volume writes) plain.volumes }

  clone_after : (name origin : List ℕ) → HasClone plain name origin → HasClone later name origin
  clone_after name origin has =
      (after_writes has.0 writes, in_map written_volume plain.volumes has.0 has.1, name_after_writes has.0 writes ∙ has.2, origin_after_writes has.0 writes ∙ has.3)

  off_before : (m : ℕ) → BranchesOff after m → BranchesOff pool m
  off_before m branch = (
    λ first. branch.0 ((same m).before ∙ first),
    λ follows. branch.1 (ap after.next (same m).before ∙ next (pool.datasets m).before ∙ follows),
  )

  off_after : (m : ℕ) → BranchesOff pool m → BranchesOff after m
  off_after m branch = (
    λ first. branch.0 (sym (same m).before ∙ first),
    λ follows. branch.1 (sym (next (pool.datasets m).before) ∙ ap after.next (sym (same m).before) ∙ follows),
  )

  abbrev BranchAfter : PlainVolume → List ℕ → Type 0
  BranchAfter volume origin =
      (m : ℕ) × (called : List ℕ) × BranchesOff after m × IsCalled rows m called × (volume_part called ≡ volume.name) × IsCalled rows (after.datasets m).before origin

  clones_after : (volume : PlainVolume) (origin : List ℕ) → (was : PlainVolume) → Contains plain.volumes was → after_writes was writes ≡ volume → was.origin ≡ Some origin → BranchAfter volume origin
  clones_after volume origin was held is marked =
      let (m, called, branch, one, part, two) = told.clones was origin held marked in (
        m,
        called,
        off_after m branch,
        one,
        part ∙ sym (name_after_writes was writes) ∙ ap (λ (v : PlainVolume). v.name) is,
        subst (λ k. IsCalled rows k origin) (sym (same m).before) two,
      )

  pub told_after : NamesTellChains after rows later
  told_after = record {
    chains = λ m called following kind one two. told.chains m called following (sym (same m).kind ∙ kind) one (subst (λ k. IsCalled rows k following) (next m) two);
    branches = λ m called origin branch one two.
        clone_after (volume_part called) origin (told.branches m called origin (off_before m branch) one (subst (λ k. IsCalled rows k origin) (same m).before two));
    clones = λ volume origin held marked.
        let was = of_map written_volume plain.volumes volume held in
        clones_after volume origin was.0 was.1 was.2 (sym (origin_after_writes was.0 writes) ∙ ap (λ (v : PlainVolume). v.origin) was.2 ∙ marked);
  }
