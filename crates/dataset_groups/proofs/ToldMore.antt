-- Names tell the chains still with a volume or a clone more.
use Rattle.std.proofs.Common.{◌≡◌, ◌≢◌, ℕ, List, Some, None, Contains, inl, inr, sym, ap, subst, ◌∙◌}
use Rattle.std.proofs.lemmas.Bool.{cases_eq}
use Rattle.dataset_destroys.specs.Chains.{Reading}
use Rattle.dead_list.specs.Datasets.{Dataset, Head, Pool}
use Rattle.dead_list.specs.Datasets.{Snapshot as ASnapshot}
use Rattle.dead_list.specs.Operations.{IsSnapshot, with_dataset}
use Rattle.dead_list.proofs.Updates.{other_at, same_at}
use Rattle.meta_objset.specs.declared.directory.DirectoryRow.{DirectoryRow}
use Rattle.pool_model.specs.declared.volume.PlainVolume.{PlainVolume}
use Rattle.pool_model.specs.Names.{volume_part}
use Rattle.pool_model.specs.Pools.{PlainPool, volume_at, with_volume}
use Rattle.dataset_groups.specs.Names.{BranchesOff, HasClone, IsCalled, NamesTellChains}
use Rattle.dataset_groups.proofs.Called.{one_name}
use Rattle.dataset_groups.proofs.PlainClones.{clone_still, volume_added, volume_from}
use Rattle.dataset_groups.proofs.RowMore.{IsRowMore, before_old, name_free, new_called, new_name, next_old, number_old, snapshot_old, snapshot_some, still_called, was_called}

some_same : {X : Type 0} (x y : X) → Some x ≡ Some y → x ≡ y
some_same x y e = cc

module _ (pool : Pool) (readings : ℕ → Reading) (rows : List DirectoryRow) (plain : PlainPool) (n : ℕ) (new_rows : List DirectoryRow) (volume : PlainVolume)
    (more : IsRowMore pool readings rows plain n new_rows volume) (part : volume_part volume.name ≡ volume.name) where
  -- what is behind a snapshot is the clone that the volume is, and no other is one
  module _ (d : Dataset) (head : d.kind ≡ Head) (before_other : d.before ≢ n)
      (marks : (origin : List ℕ) → d.before ≢ 0 → IsCalled rows d.before origin → volume.origin ≡ Some origin)
      (marked : (origin : List ℕ) → volume.origin ≡ Some origin → IsSnapshot pool.datasets d.before × IsCalled rows d.before origin) where
    abbrev after : Pool
    after = with_dataset pool n d

    abbrev new_plain : PlainPool
    new_plain = with_volume volume plain

    none : volume_at volume.name plain ≡ None
    none = name_free pool readings rows plain n new_rows volume more

    was : (m : ℕ) (called : List ℕ) → m ≢ n → IsCalled new_rows m called → IsCalled rows m called
    was = was_called pool readings rows plain n new_rows volume more

    still : (m : ℕ) (called : List ℕ) → IsCalled rows m called → IsCalled new_rows m called
    still = still_called pool readings rows plain n new_rows volume more

    next_other : (m : ℕ) → IsSnapshot pool.datasets m → pool.next m ≢ n
    next_other = next_old pool readings rows plain n new_rows volume more

    at_new : (with_dataset pool n d).datasets n ≡ d
    at_new = same_at pool.datasets n d

    at_other : (m : ℕ) → m ≢ n → (with_dataset pool n d).datasets m ≡ pool.datasets m
    at_other m other = other_at pool.datasets n d m other

    not_it : (m : ℕ) → ((with_dataset pool n d).datasets m).kind ≡ ASnapshot → m ≢ n
    not_it m kind e = let clash : Head ≡ ASnapshot = sym head ∙ ap (λ (x : Dataset). x.kind) (sym at_new) ∙ ap (λ k. (after.datasets k).kind) (sym e) ∙ kind in absurd cc

    chains_with : (m : ℕ) (called later : List ℕ) → (after.datasets m).kind ≡ ASnapshot → IsCalled new_rows m called → IsCalled new_rows (after.next m) later
        → volume_part later ≡ volume_part called
    chains_with m called later kind one two =
        let other = not_it m kind in
        let taken : IsSnapshot pool.datasets m = sym (ap (λ (x : Dataset). x.kind) (at_other m other)) ∙ kind in
        more.names.chains.chains m called later taken (was m called other one) (was (pool.next m) later (next_other m taken) two)

    branches_with : (m : ℕ) (called origin : List ℕ) → BranchesOff after m → IsCalled new_rows m called → IsCalled new_rows (after.datasets m).before origin
        → HasClone new_plain (volume_part called) origin
    branches_with m called origin branch one two = elim (cases_eq m n) [
      | inl e ↦
          let at : (after.datasets m).before ≡ d.before = ap (λ k. (after.datasets k).before) e ∙ ap (λ (x : Dataset). x.before) at_new in
          let name : called ≡ volume.name = new_name pool readings rows plain n new_rows volume more called (subst (λ k. IsCalled new_rows k called) e one) in
          let origin_called = was d.before origin before_other (subst (λ k. IsCalled new_rows k origin) at two) in (
            volume,
            volume_added plain volume none,
            sym (ap volume_part name ∙ part),
            marks origin (λ first. branch.0 (at ∙ first)) origin_called,
          )
      | inr other ↦
          let at : (after.datasets m).before ≡ (pool.datasets m).before = ap (λ (x : Dataset). x.before) (at_other m other) in
          let off : BranchesOff pool m = ((λ first. branch.0 (at ∙ first)), (λ follows. branch.1 (ap pool.next at ∙ follows))) in
          let origin_called = was (pool.datasets m).before origin (before_old pool readings rows plain n new_rows volume more m) (subst (λ k. IsCalled new_rows k origin) at two) in
          clone_still plain volume none (volume_part called) origin (more.names.chains.branches m called origin off (was m called other one) origin_called)
    ]

    abbrev Branch : PlainVolume → List ℕ → Type 0
    Branch v origin =
        (m : ℕ) × (called : List ℕ) × BranchesOff after m × IsCalled new_rows m called × (volume_part called ≡ v.name) × IsCalled new_rows (after.datasets m).before origin

    clones_with : (v : PlainVolume) (origin : List ℕ) → Contains new_plain.volumes v → v.origin ≡ Some origin → Branch v origin
    clones_with v origin there is = elim (volume_from plain volume none v there) [
      | inl old ↦
          let (m, called, branch, one, its_part, two) = more.names.chains.clones v origin old is in
          let other : m ≢ n = number_old pool readings rows plain n new_rows volume more m called one in
          let at : (after.datasets m).before ≡ (pool.datasets m).before = ap (λ (x : Dataset). x.before) (at_other m other) in (
            m,
            called,
            ((λ first. branch.0 (sym at ∙ first)), (λ follows. branch.1 (ap pool.next (sym at) ∙ follows))),
            still m called one,
            its_part,
            subst (λ k. IsCalled new_rows k origin) (sym at) (still (pool.datasets m).before origin two),
          )
      | inr new ↦
          let (taken, called) = marked origin (ap (λ (x : PlainVolume). x.origin) new ∙ is) in
          let at : (after.datasets n).before ≡ d.before = ap (λ (x : Dataset). x.before) at_new in (
            n,
            volume.name,
            (
              (λ first. snapshot_some pool readings rows plain n new_rows volume more d.before taken (sym at ∙ first)),
              (λ follows. next_other d.before taken (ap pool.next (sym at) ∙ follows)),
            ),
            new_called pool readings rows plain n new_rows volume more,
            part ∙ ap (λ (x : PlainVolume). x.name) new,
            subst (λ k. IsCalled new_rows k origin) (sym at) (still d.before origin called),
          )
    ]

    told_with : NamesTellChains (with_dataset pool n d) new_rows (with_volume volume plain)
    told_with = record { chains = chains_with; branches = branches_with; clones = clones_with }

  -- a new volume
  pub told_volume : (d : Dataset) → d.kind ≡ Head → d.before ≡ 0 → volume.origin ≡ None → NamesTellChains (with_dataset pool n d) new_rows (with_volume volume plain)
  told_volume d head first new =
      told_with d head (λ e. more.unused.0 (sym e ∙ first)) (λ origin some called. absurd (some first))
      (λ origin is. let clash : None ≡ Some origin = sym new ∙ is in absurd cc)

  -- a clone of a snapshot
  pub told_clone : (d : Dataset) → d.kind ≡ Head → IsSnapshot pool.datasets d.before → (name : List ℕ) → IsCalled rows d.before name → volume.origin ≡ Some name
      → NamesTellChains (with_dataset pool n d) new_rows (with_volume volume plain)
  told_clone d head taken name called is =
      told_with d head (snapshot_old pool readings rows plain n new_rows volume more d.before taken)
      (λ origin some other. is ∙ ap (λ o. Some o) (one_name pool readings rows plain more.names d.before name origin called other))
      (λ origin also. (taken, subst (IsCalled rows d.before) (some_same name origin (sym is ∙ also)) called))
