-- Names tell the chains still with a snapshot more.
use Rattle.std.proofs.Common.{◌≡◌, ◌≢◌, ◌⊎◌, ℕ, List, Some, None, Contains, inl, inr, refl, sym, ap, subst, ◌∙◌}
use Rattle.std.proofs.lemmas.Bool.{cases_eq}
use Rattle.dataset_destroys.specs.Chains.{Reading}
use Rattle.dead_list.specs.Datasets.{Dataset, Head, Pool, updated}
use Rattle.dead_list.specs.Datasets.{Snapshot as ASnapshot}
use Rattle.dead_list.specs.Operations.{IsHead, IsSnapshot, with_snapshot}
use Rattle.dead_list.proofs.Updates.{other_at, passed_at, passed_not, same_at}
use Rattle.meta_objset.specs.declared.directory.DirectoryRow.{DirectoryRow}
use Rattle.pool_model.specs.declared.volume.PlainVolume.{PlainVolume}
use Rattle.pool_model.specs.Names.{volume_part}
use Rattle.pool_model.specs.Pools.{PlainPool, volume_at, with_volume}
use Rattle.dataset_groups.specs.Names.{BranchesOff, HasClone, IsCalled, NamesTellChains}
use Rattle.dataset_groups.proofs.Called.{one_name}
use Rattle.dataset_groups.proofs.Passed.{passed_cases}
use Rattle.dataset_groups.proofs.PlainClones.{clone_still, volume_from}
use Rattle.dataset_groups.proofs.RowMore.{IsRowMore, before_is_snapshot, before_old, name_free, new_called, new_name, next_old, number_old, still_called, was_called}
use Rattle.dataset_groups.proofs.TakenPools.{at_head, at_new, at_other}

-- the snapshot is of the head of this name
module _ (pool : Pool) (readings : ℕ → Reading) (rows : List DirectoryRow) (plain : PlainPool) (n : ℕ) (new_rows : List DirectoryRow) (volume : PlainVolume)
    (more : IsRowMore pool readings rows plain n new_rows volume) (head : ℕ) (is : IsHead pool.datasets head) (name : List ℕ) (call : IsCalled rows head name)
    (part : volume_part volume.name ≡ volume_part name) (no_clone : volume.origin ≡ None) where
  abbrev after : Pool
  after = with_snapshot pool head n

  abbrev before : ℕ
  before = (pool.datasets head).before

  abbrev new_plain : PlainPool
  new_plain = with_volume volume plain

  none : volume_at volume.name plain ≡ None
  none = name_free pool readings rows plain n new_rows volume more

  was : (m : ℕ) (called : List ℕ) → m ≢ n → IsCalled new_rows m called → IsCalled rows m called
  was = was_called pool readings rows plain n new_rows volume more

  still : (m : ℕ) (called : List ℕ) → IsCalled rows m called → IsCalled new_rows m called
  still = still_called pool readings rows plain n new_rows volume more

  next_other : (m : ℕ) → IsSnapshot pool.datasets m → pool.next m ≢ n
  next_other = next_old pool readings rows plain n new_rows volume more

  before_other : (m : ℕ) → (pool.datasets m).before ≢ n
  before_other = before_old pool readings rows plain n new_rows volume more

  head_other : head ≢ n
  head_other = number_old pool readings rows plain n new_rows volume more head name call

  -- ---- the chains

  taken_at : (m : ℕ) → m ≢ head → m ≢ n → (with_snapshot pool head n).datasets m ≡ pool.datasets m
  taken_at = at_other pool head n is more.unused

  before_new : ((with_snapshot pool head n).datasets n).before ≡ (pool.datasets head).before
  before_new = ap (λ (d : Dataset). d.before) (at_new pool head n is more.unused)

  before_head : ((with_snapshot pool head n).datasets head).before ≡ n
  before_head = ap (λ (d : Dataset). d.before) (at_head pool head n is more.unused)

  not_head : (m : ℕ) → ((with_snapshot pool head n).datasets m).kind ≡ ASnapshot → m ≢ head
  not_head m kind e =
      let clash : Head ≡ ASnapshot = sym is ∙ ap (λ (d : Dataset). d.kind) (sym (at_head pool head n is more.unused)) ∙ ap (λ k. (after.datasets k).kind) (sym e) ∙ kind in
      absurd cc

  next_new : (with_snapshot pool head n).next n ≡ head
  next_new = passed_not (updated pool.next n head) before head n n (λ e. absurd (before_other head (sym e))) ∙ same_at pool.next n head

  followed : pool.next (pool.datasets head).before ≡ head → (with_snapshot pool head n).next (pool.datasets head).before ≡ n
  followed follows = passed_at (updated pool.next n head) before head n before refl (other_at pool.next n head before (before_other head) ∙ follows)

  -- the snapshot comes next where its head did
  next_cases : (m : ℕ) → m ≢ n
      → ((m ≡ before) × (pool.next before ≡ head) × (after.next m ≡ n)) ⊎ ((m ≡ before → pool.next before ≢ head) × (after.next m ≡ pool.next m))
  next_cases m other = elim (passed_cases (updated pool.next n head) before head n m) [
    | inl (here, follows, to) ↦ inl (here, sym (other_at pool.next n head before (before_other head)) ∙ follows, to)
    | inr (not, same) ↦ inr ((λ e follows. not e (other_at pool.next n head before (before_other head) ∙ follows)), same ∙ other_at pool.next n head m other)
  ]

  -- ---- what they are called

  chains_taken : (m : ℕ) (called later : List ℕ) → (after.datasets m).kind ≡ ASnapshot → IsCalled new_rows m called → IsCalled new_rows (after.next m) later
      → volume_part later ≡ volume_part called
  chains_taken m called later kind one two = elim (cases_eq m n) [
    | inl e ↦
        let of_new : called ≡ volume.name = new_name pool readings rows plain n new_rows volume more called (subst (λ k. IsCalled new_rows k called) e one) in
        let head_is : after.next m ≡ head = ap after.next e ∙ next_new in
        let of_head : later ≡ name =
        one_name pool readings rows plain more.names head later name (was head later head_other (subst (λ k. IsCalled new_rows k later) head_is two)) call in
        ap volume_part of_head ∙ sym part ∙ ap volume_part (sym of_new)
    | inr other ↦
        let taken : IsSnapshot pool.datasets m = sym (ap (λ (d : Dataset). d.kind) (taken_at m (not_head m kind) other)) ∙ kind in
        elim (next_cases m other) [
          | inl (here, follows, to) ↦
              let of_new : later ≡ volume.name = new_name pool readings rows plain n new_rows volume more later (subst (λ k. IsCalled new_rows k later) to two) in
              let head_called : IsCalled rows (pool.next m) name = subst (λ k. IsCalled rows k name) (sym (ap pool.next here ∙ follows)) call in
              ap volume_part of_new ∙ part ∙ more.names.chains.chains m called name taken (was m called other one) head_called
          | inr (not, same) ↦
              more.names.chains.chains m called later taken (was m called other one)
              (was (pool.next m) later (next_other m taken) (subst (λ k. IsCalled new_rows k later) same two))
        ]
  ]

  branches_new : (called origin : List ℕ) → BranchesOff after n → IsCalled new_rows n called → IsCalled new_rows (after.datasets n).before origin
      → HasClone new_plain (volume_part called) origin
  branches_new called origin branch one two =
      let of_new : called ≡ volume.name = new_name pool readings rows plain n new_rows volume more called one in
      let off : BranchesOff pool head = ((λ first. branch.0 (before_new ∙ first)), (λ follows. branch.1 (ap after.next before_new ∙ followed follows))) in
      let origin_called = was before origin (before_other head) (subst (λ k. IsCalled new_rows k origin) before_new two) in
      let its_part : volume_part name ≡ volume_part called = sym part ∙ ap volume_part (sym of_new) in
      clone_still plain volume none (volume_part called) origin (subst (λ p. HasClone plain p origin) its_part (more.names.chains.branches head name origin off call origin_called))

  branches_taken : (m : ℕ) (called origin : List ℕ) → BranchesOff after m → IsCalled new_rows m called → IsCalled new_rows (after.datasets m).before origin
      → HasClone new_plain (volume_part called) origin
  branches_taken m called origin branch one two = elim (cases_eq m n) [
    | inl e ↦
        branches_new called origin (subst (BranchesOff after) e branch) (subst (λ k. IsCalled new_rows k called) e one)
        (subst (λ k. IsCalled new_rows (after.datasets k).before origin) e two)
    | inr other ↦ elim (cases_eq m head) [
      | inl e ↦ absurd (branch.1 (ap after.next (ap (λ k. (after.datasets k).before) e ∙ before_head) ∙ next_new ∙ sym e))
      | inr no_head ↦
          let at : (after.datasets m).before ≡ (pool.datasets m).before = ap (λ (d : Dataset). d.before) (taken_at m no_head other) in
          let skips : pool.next (pool.datasets m).before ≢ m = λ follows. elim (next_cases (pool.datasets m).before (before_other m)) [
            | inl (here, from, to) ↦ no_head (sym follows ∙ ap pool.next here ∙ from)
            | inr (not, same) ↦ branch.1 (ap after.next at ∙ same ∙ follows)
          ] in
          let origin_called = was (pool.datasets m).before origin (before_other m) (subst (λ k. IsCalled new_rows k origin) at two) in
          clone_still plain volume none (volume_part called) origin
          (more.names.chains.branches m called origin ((λ first. branch.0 (at ∙ first)), skips) (was m called other one) origin_called)
    ]
  ]

  abbrev Branch : PlainVolume → List ℕ → Type 0
  Branch v origin =
      (m : ℕ) × (called : List ℕ) × BranchesOff after m × IsCalled new_rows m called × (volume_part called ≡ v.name) × IsCalled new_rows (after.datasets m).before origin

  -- where the head branched off, the snapshot does
  branch_of_head : (v : PlainVolume) (called origin : List ℕ) → BranchesOff pool head → IsCalled rows head called → volume_part called ≡ v.name → IsCalled rows before origin → Branch v origin
  branch_of_head v called origin branch one its_part two =
      let same : after.next before ≡ pool.next before = elim (next_cases before (before_other head)) [
        | inl (here, follows, to) ↦ absurd (branch.1 follows)
        | inr (not, same) ↦ same
      ] in
      let next_apart : pool.next before ≢ n = next_other before (before_is_snapshot pool readings rows plain n new_rows volume more head branch.0) in
      let of_head : name ≡ called = one_name pool readings rows plain more.names head name called call one in (
        n,
        volume.name,
        ((λ first. branch.0 (sym before_new ∙ first)), (λ follows. next_apart (sym same ∙ ap after.next (sym before_new) ∙ follows))),
        new_called pool readings rows plain n new_rows volume more,
        part ∙ ap volume_part of_head ∙ its_part,
        subst (λ k. IsCalled new_rows k origin) (sym before_new) (still before origin two),
      )

  clones_taken : (v : PlainVolume) (origin : List ℕ) → Contains new_plain.volumes v → v.origin ≡ Some origin → Branch v origin
  clones_taken v origin there marked = elim (volume_from plain volume none v there) [
    | inr new ↦ absurd (let clash : None ≡ Some origin = sym no_clone ∙ ap (λ (x : PlainVolume). x.origin) new ∙ marked in cc)
    | inl old ↦
        let (m, called, branch, one, its_part, two) = more.names.chains.clones v origin old marked in
        elim (cases_eq m head) [
          | inl e ↦
              branch_of_head v called origin (subst (BranchesOff pool) e branch) (subst (λ k. IsCalled rows k called) e one) its_part
              (subst (λ k. IsCalled rows (pool.datasets k).before origin) e two)
          | inr no_head ↦
              let other : m ≢ n = number_old pool readings rows plain n new_rows volume more m called one in
              let at : (after.datasets m).before ≡ (pool.datasets m).before = ap (λ (d : Dataset). d.before) (taken_at m no_head other) in
              let skips : after.next (pool.datasets m).before ≢ m = λ follows. elim (next_cases (pool.datasets m).before (before_other m)) [
                | inl (here, from, to) ↦ other (sym follows ∙ to)
                | inr (not, same) ↦ branch.1 (sym same ∙ follows)
              ] in (
                m,
                called,
                ((λ first. branch.0 (sym at ∙ first)), (λ follows. skips (ap after.next (sym at) ∙ follows))),
                still m called one,
                its_part,
                subst (λ k. IsCalled new_rows k origin) (sym at) (still (pool.datasets m).before origin two),
              )
        ]
  ]

  pub told_taken : NamesTellChains (with_snapshot pool head n) new_rows (with_volume volume plain)
  told_taken = record { chains = chains_taken; branches = branches_taken; clones = clones_taken }
