-- Datasets that may be destroyed by their names, and what the names tell once they are.
use Rattle.std.proofs.Common.{◌≡◌, ◌≢◌, ◌<◌, ℕ, true, false, true≢false, List, Contains, Some, inl, inr, refl, sym, ap, subst, ◌∙◌, arith}
use Rattle.std.proofs.lemmas.Bool.{cases_eq}
use Rattle.block_pointer.specs.declared.block.Block.{Block}
use Rattle.dataset_destroys.specs.Chains.{Reading}
use Rattle.dataset_destroys.specs.Destroying.{IsDestroyed, MayDestroy, operation_of}
use Rattle.dead_list.specs.Datasets.{Dataset, Datasets, Free, Head, Kind, Pool, nothing, updated}
use Rattle.dead_list.specs.Datasets.{Snapshot as ASnapshot}
use Rattle.dead_list.specs.Operations.{HasNoClones, HasNoSnapshots, IsHead, IsSnapshot, Makes, MayDo, with_dataset, without_snapshot}
use Rattle.dead_list.specs.Sound.{IsSound}
use Rattle.dead_list.proofs.Updates.{other_at, passed_at, same_at}
use Rattle.meta_objset.specs.declared.directory.DirectoryRow.{DirectoryRow}
use Rattle.meta_objset.specs.Directory.{IsDirectory}
use Rattle.meta_objset.specs.Names.{IsNamed}
use Rattle.pool_model.specs.declared.volume.PlainVolume.{PlainVolume}
use Rattle.pool_model.specs.Names.{is_snapshot_name, volume_part}
use Rattle.pool_model.specs.Pools.{PlainPool, has_clones, has_snapshots, without}
use Rattle.dataset_groups.specs.Destroys.{IsRowGone}
use Rattle.dataset_groups.specs.Names.{BranchesOff, HasClone, IsCalled, NamesPool, NamesTellChains}
use Rattle.dataset_groups.proofs.Called.{called_stands, has_name, head_name, one_name, one_number, snapshot_has_at, snapshot_is, volume_called}
use Rattle.dataset_groups.proofs.NameParts.{part_has_none, volume_is_part}
use Rattle.dataset_groups.proofs.Passed.{passed_cases}
use Rattle.dataset_groups.proofs.PlainClones.{clone_left, clone_told, from_without, snapshot_told}
use Rattle.dataset_groups.proofs.WrittenVolumes.{one_row}

-- what has something before it, or is of a kind, is a dataset
stands_behind : (datasets : Datasets) (m n : ℕ) → (datasets m).before ≡ n → n ≢ 0 → datasets m ≢ nothing
stands_behind datasets m n before some none = some (sym before ∙ ap (λ (d : Dataset). d.before) none)

snapshot_stands : (datasets : Datasets) (m : ℕ) → IsSnapshot datasets m → datasets m ≢ nothing
snapshot_stands datasets m is none = let clash : ASnapshot ≡ Free = sym is ∙ ap (λ (d : Dataset). d.kind) none in absurd cc

not_both : (datasets : Datasets) (m : ℕ) → IsSnapshot datasets m → IsHead datasets m → ⊥
not_both datasets m snapshot head = let clash : ASnapshot ≡ Head = sym snapshot ∙ head in absurd cc

-- what is before a dataset is a snapshot
before_is_snapshot : (pool : Pool) → IsSound pool → (m : ℕ) → (pool.datasets m).before ≢ 0 → IsSnapshot pool.datasets (pool.datasets m).before
before_is_snapshot pool sound m some = elim (sound.linked m) [
  | inl first ↦ absurd (some first)
  | inr link ↦ link.0
]

-- and not the dataset itself
before_other : (pool : Pool) → IsSound pool → (m : ℕ) → m ≢ 0 → (pool.datasets m).before ≢ m
before_other pool sound m some e = elim (sound.linked m) [
  | inl first ↦ some (sym e ∙ first)
  | inr link ↦ let low : sound.rank m < sound.rank m = subst (λ k. sound.rank k < sound.rank m) e link.1 in omega (arith, low)
]

module _ (pool : Pool) (readings : ℕ → Reading) (rows : List DirectoryRow) (plain : PlainPool) (row : DirectoryRow) (name : List ℕ) (names : NamesPool pool readings rows plain) (sound : IsSound pool)
    (held : Contains rows row) (named : IsNamed row.name name) (no_snapshots : has_snapshots name plain ≡ false) (no_clones : has_clones name plain ≡ false) where
  abbrev n : ℕ
  n = row.object

  abbrev Called : ℕ → List ℕ → Type 0
  Called m called = IsCalled rows m called

  call : IsCalled rows row.object name
  call = (row, held, refl, named)

  some : row.object ≢ 0
  some e =
      called_stands pool readings rows plain names row.object name call
      (ap (λ k. (pool.datasets k).kind) e ∙ ap (λ (d : Dataset). d.kind) sound.none)

  -- were the snapshot before a head its own, the plain pool would have it
  no_own : IsHead pool.datasets row.object → HasNoSnapshots pool row.object
  no_own is =
      let before : ℕ = (pool.datasets n).before in
      elim (cases_eq before 0) [
        | inl first ↦ inl first
        | inr some_before ↦ inr (λ follows.
            let taken : IsSnapshot pool.datasets before = before_is_snapshot pool sound n some_before in
            let one = has_name pool readings rows plain names before (snapshot_stands pool.datasets before taken) in
            let volume = volume_called pool readings rows plain names before one.0 one.1 in
            let part : volume_part name ≡ volume_part one.0 = names.chains.chains before one.0 name taken one.1 (subst (λ k. Called k name) (sym follows) call) in
            let whole : volume_part name ≡ name = volume_is_part name (head_name pool readings rows plain names n name call is) in
            true≢false
            (sym (snapshot_told plain volume.volume name volume.held (snapshot_is pool readings rows plain names before one.0 one.1 taken) (ap volume_part volume.called ∙ sym part ∙ whole))
            ∙ no_snapshots))
      ]

  -- and of another dataset behind a snapshot it would have a clone
  alone : IsSnapshot pool.datasets row.object → HasNoClones pool row.object
  alone is m behind = elim (cases_eq m (pool.next n)) [
    | inl e ↦ e
    | inr ne ↦
        let one = has_name pool readings rows plain names m (stands_behind pool.datasets m n behind some) in
        let branch : BranchesOff pool m = ((λ first. some (sym behind ∙ first)), (λ e. ne (sym e ∙ ap pool.next behind))) in
        let clone : HasClone plain (volume_part one.0) name = names.chains.branches m one.0 name branch one.1 (subst (λ k. Called k name) (sym behind) call) in
        absurd (true≢false (sym (clone_told plain (volume_part one.0) name clone) ∙ no_clones))
  ]

  -- what the plain pool has no snapshots and no clones of may be destroyed
  pub may_destroy : MayDestroy pool row.object
  may_destroy = by_kind (pool.datasets row.object).kind refl
    where
      by_kind : (kind : Kind) → (pool.datasets row.object).kind ≡ kind → MayDo pool (operation_of kind row.object)
      by_kind Free is = absurd (called_stands pool readings rows plain names row.object name call is)
      by_kind Head is = (is, no_own is)
      by_kind ASnapshot is = (is, alone is)

  -- ---- and the names tell the chains still

  module _ (left : List DirectoryRow) (order : IsDirectory rows) (gone : IsRowGone rows name left) where
    abbrev Left : ℕ → List ℕ → Type 0
    Left m called = IsCalled left m called

    was_called : (m : ℕ) (called : List ℕ) → IsCalled left m called → IsCalled rows m called
    was_called m called it = (it.0, ((gone it.0).0 it.1).0, it.2, it.3)

    not_gone : (m : ℕ) (called : List ℕ) → IsCalled left m called → m ≢ row.object
    not_gone m called it e =
        let there = (gone it.0).0 it.1 in
        let same : it.0 ≡ row = one_row rows it.0 row names.numbers.once there.0 held (it.2 ∙ e) in
        there.1 (subst (λ (r : DirectoryRow). IsNamed r.name name) (sym same) named)

    still_called : (m : ℕ) (called : List ℕ) → m ≢ row.object → IsCalled rows m called → IsCalled left m called
    still_called m called other it = (it.0, (gone it.0).1 (it.1, λ is. other (one_number rows order m n name (it.0, it.1, it.2, is) call)), it.2, it.3)

    -- ---- without a snapshot

    module _ (is : IsSnapshot pool.datasets row.object) (dead : List Block) where
      abbrev next : ℕ
      next = pool.next n

      abbrev before : ℕ
      before = (pool.datasets n).before

      abbrev after : Pool
      after = without_snapshot pool n dead

      abbrev follower : Dataset
      follower = record (pool.datasets next) { before = before; dead = dead }

      behind : (pool.datasets (pool.next row.object)).before ≡ row.object
      behind = sound.followed n is

      next_other : pool.next row.object ≢ row.object
      next_other e = before_other pool sound n some (ap (λ k. (pool.datasets k).before) (sym e) ∙ behind)

      at_next : (without_snapshot pool row.object dead).datasets (pool.next row.object) ≡ follower
      at_next = other_at (updated pool.datasets next follower) n nothing next next_other ∙ same_at pool.datasets next follower

      at_other : (m : ℕ) → m ≢ row.object → m ≢ pool.next row.object → (without_snapshot pool row.object dead).datasets m ≡ pool.datasets m
      at_other m not_it not_next = other_at (updated pool.datasets next follower) n nothing m not_it ∙ other_at pool.datasets next follower m not_next

      kind_kept : (m : ℕ) → m ≢ row.object → ((without_snapshot pool row.object dead).datasets m).kind ≡ (pool.datasets m).kind
      kind_kept m other = elim (cases_eq m next) [
        | inl e ↦ ap (λ k. (after.datasets k).kind) e ∙ ap (λ (d : Dataset). d.kind) at_next ∙ ap (λ k. (pool.datasets k).kind) (sym e)
        | inr ne ↦ ap (λ (d : Dataset). d.kind) (at_other m other ne)
      ]

      before_next : ((without_snapshot pool row.object dead).datasets (pool.next row.object)).before ≡ (pool.datasets row.object).before
      before_next = ap (λ (d : Dataset). d.before) at_next

      chains_left : (m : ℕ) (called later : List ℕ) → (after.datasets m).kind ≡ ASnapshot → IsCalled left m called → IsCalled left (after.next m) later → volume_part later ≡ volume_part called
      chains_left m called later kind one two =
          let taken : IsSnapshot pool.datasets m = sym (kind_kept m (not_gone m called one)) ∙ kind in
          let was = was_called m called one in
          elim (passed_cases pool.next before n next m) [
            | inl (at, follows, to) ↦
                names.chains.chains n name later is call (was_called next later (subst (λ k. Left k later) to two))
                ∙ names.chains.chains m called name taken was (subst (λ k. Called k name) (sym (ap pool.next at ∙ follows)) call)
            | inr (not, same) ↦ names.chains.chains m called later taken was (was_called (pool.next m) later (subst (λ k. Left k later) same two))
          ]

      -- the part of a volume is not the name of a snapshot
      clone_kept : (called origin : List ℕ) → HasClone plain (volume_part called) origin → HasClone (without name plain) (volume_part called) origin
      clone_kept called origin has =
          clone_left plain name (volume_part called) origin
          (λ e. true≢false (sym (snapshot_has_at pool readings rows plain names n name call is) ∙ ap is_snapshot_name (sym e) ∙ part_has_none called)) has

      branches_left : (m : ℕ) (called origin : List ℕ) → BranchesOff after m → IsCalled left m called → IsCalled left (after.datasets m).before origin
          → HasClone (without name plain) (volume_part called) origin
      branches_left m called origin branch one two = elim (cases_eq m next) [
        | inl e ↦
            let at : (after.datasets m).before ≡ before = ap (λ k. (after.datasets k).before) e ∙ before_next in
            let off : BranchesOff pool n = ((λ first. branch.0 (at ∙ first)), (λ follows. branch.1 (ap after.next at ∙ passed_at pool.next before n next before refl follows ∙ sym e))) in
            let has = names.chains.branches n name origin off call (was_called before origin (subst (λ k. Left k origin) at two)) in
            let part : volume_part called ≡ volume_part name = names.chains.chains n name called is call (was_called next called (subst (λ k. Left k called) e one)) in
            clone_kept called origin (subst (λ p. HasClone plain p origin) (sym part) has)
        | inr ne ↦
            let other : m ≢ n = not_gone m called one in
            let at : (after.datasets m).before ≡ (pool.datasets m).before = ap (λ (d : Dataset). d.before) (at_other m other ne) in
            let skips : pool.next (pool.datasets m).before ≢ m = λ follows. elim (passed_cases pool.next before n next (pool.datasets m).before) [
              | inl (here, from, to) ↦ other (sym follows ∙ ap pool.next here ∙ from)
              | inr (not, same) ↦ branch.1 (ap after.next at ∙ same ∙ follows)
            ] in
            clone_kept called origin
            (names.chains.branches m called origin ((λ first. branch.0 (at ∙ first)), skips) (was_called m called one)
            (was_called (pool.datasets m).before origin (subst (λ k. Left k origin) at two)))
      ]

      -- of the clone what comes next to the snapshot branches off, where the snapshot did
      next_branches : BranchesOff pool row.object → BranchesOff (without_snapshot pool row.object dead) (pool.next row.object)
      next_branches branch =
          let taken : IsSnapshot pool.datasets before = before_is_snapshot pool sound n branch.0 in
          let skips : pool.next before ≢ next = λ follows.
          before_other pool sound n some (sym (sound.followed before taken) ∙ ap (λ k. (pool.datasets k).before) follows ∙ behind) in
          let same : after.next before ≡ pool.next before = elim (passed_cases pool.next before n next before) [
            | inl (here, from, to) ↦ absurd (branch.1 from)
            | inr (not, same) ↦ same
          ] in (
            λ first. branch.0 (sym before_next ∙ first),
            λ follows. skips (sym same ∙ ap after.next (sym before_next) ∙ follows),
          )

      abbrev BranchOf : PlainVolume → List ℕ → Type 0
      BranchOf volume origin =
          (m : ℕ) × (called : List ℕ) × BranchesOff after m × IsCalled left m called × (volume_part called ≡ volume.name) × IsCalled left (after.datasets m).before origin

      clones_left : (volume : PlainVolume) (origin : List ℕ) → Contains (without name plain).volumes volume → volume.origin ≡ Some origin → BranchOf volume origin
      clones_left volume origin there marked =
          let (m, called, branch, one, part, two) = names.chains.clones volume origin (from_without plain name volume there).0 marked in
          elim (cases_eq m n) [
            | inl e ↦
                let off : BranchesOff pool n = subst (BranchesOff pool) e branch in
                let later = has_name pool readings rows plain names next (stands_behind pool.datasets next n behind some) in
                let same : volume_part later.0 ≡ volume_part called = names.chains.chains n called later.0 is (subst (λ k. Called k called) e one) later.1 in
                let two_at : IsCalled rows before origin = subst (λ k. Called (pool.datasets k).before origin) e two in (
                  next,
                  later.0,
                  next_branches off,
                  still_called next later.0 next_other later.1,
                  same ∙ part,
                  subst (λ k. Left k origin) (sym before_next) (still_called before origin (before_other pool sound n some) two_at),
                )
            | inr other ↦
                let not_next : m ≢ next = λ e. branch.1 (ap pool.next (ap (λ k. (pool.datasets k).before) e ∙ behind) ∙ sym e) in
                let origin_other : (pool.datasets m).before ≢ n = λ e. not_next (alone is m e) in
                let at : (after.datasets m).before ≡ (pool.datasets m).before = ap (λ (d : Dataset). d.before) (at_other m other not_next) in
                let skips : after.next (pool.datasets m).before ≢ m = λ follows. elim (passed_cases pool.next before n next (pool.datasets m).before) [
                  | inl (here, from, to) ↦ not_next (sym follows ∙ to)
                  | inr (not, same) ↦ branch.1 (sym same ∙ follows)
                ] in (
                  m,
                  called,
                  ((λ first. branch.0 (sym at ∙ first)), (λ follows. skips (ap after.next (sym at) ∙ follows))),
                  still_called m called other one,
                  part,
                  subst (λ k. Left k origin) (sym at) (still_called (pool.datasets m).before origin origin_other two),
                )
          ]

      pub told_without_snapshot : NamesTellChains (without_snapshot pool row.object dead) left (without name plain)
      told_without_snapshot = record { chains = chains_left; branches = branches_left; clones = clones_left }

    -- ---- without a head

    module _ (is : IsHead pool.datasets row.object) where
      abbrev rest : Pool
      rest = with_dataset pool n nothing

      rest_same : (m : ℕ) → m ≢ row.object → (with_dataset pool row.object nothing).datasets m ≡ pool.datasets m
      rest_same m other = other_at pool.datasets n nothing m other

      -- no other dataset is of the head's volume
      part_other : (m : ℕ) (called : List ℕ) → IsCalled rows m called → m ≢ row.object → volume_part called ≢ name
      part_other m called one other e = by_kind (pool.datasets m).kind refl
        where
          by_kind : (kind : Kind) → (pool.datasets m).kind ≡ kind → ⊥
          by_kind Free of = called_stands pool readings rows plain names m called one of
          by_kind Head of =
              let same : called ≡ name = sym (volume_is_part called (head_name pool readings rows plain names m called one of)) ∙ e in
              other (one_number rows order m n name (subst (λ c. Called m c) same one) call)
          by_kind ASnapshot of =
              let volume = volume_called pool readings rows plain names m called one in
              true≢false (sym (snapshot_told plain volume.volume name volume.held (snapshot_is pool readings rows plain names m called one of) (ap volume_part volume.called ∙ e)) ∙ no_snapshots)

      chains_rest : (m : ℕ) (called later : List ℕ) → (rest.datasets m).kind ≡ ASnapshot → IsCalled left m called → IsCalled left (rest.next m) later → volume_part later ≡ volume_part called
      chains_rest m called later kind one two =
          let taken : IsSnapshot pool.datasets m = sym (ap (λ (d : Dataset). d.kind) (rest_same m (not_gone m called one))) ∙ kind in
          names.chains.chains m called later taken (was_called m called one) (was_called (pool.next m) later two)

      branches_rest : (m : ℕ) (called origin : List ℕ) → BranchesOff rest m → IsCalled left m called → IsCalled left (rest.datasets m).before origin
          → HasClone (without name plain) (volume_part called) origin
      branches_rest m called origin branch one two =
          let other : m ≢ n = not_gone m called one in
          let at : (rest.datasets m).before ≡ (pool.datasets m).before = ap (λ (d : Dataset). d.before) (rest_same m other) in
          let was = was_called m called one in
          let off : BranchesOff pool m = ((λ first. branch.0 (at ∙ first)), (λ follows. branch.1 (ap pool.next at ∙ follows))) in
          clone_left plain name (volume_part called) origin (part_other m called was other)
          (names.chains.branches m called origin off was (was_called (pool.datasets m).before origin (subst (λ k. Left k origin) at two)))

      abbrev RestBranch : PlainVolume → List ℕ → Type 0
      RestBranch volume origin =
          (m : ℕ) × (called : List ℕ) × BranchesOff rest m × IsCalled left m called × (volume_part called ≡ volume.name) × IsCalled left (rest.datasets m).before origin

      clones_rest : (volume : PlainVolume) (origin : List ℕ) → Contains (without name plain).volumes volume → volume.origin ≡ Some origin → RestBranch volume origin
      clones_rest volume origin there marked =
          let kept = from_without plain name volume there in
          let (m, called, branch, one, part, two) = names.chains.clones volume origin kept.0 marked in
          let whole : volume_part name ≡ name = volume_is_part name (head_name pool readings rows plain names n name call is) in
          let other : m ≢ n = λ e. kept.1
          (sym part ∙ ap volume_part (one_name pool readings rows plain names m called name one (subst (λ k. Called k name) (sym e) call)) ∙ whole) in
          let at : (rest.datasets m).before ≡ (pool.datasets m).before = ap (λ (d : Dataset). d.before) (rest_same m other) in
          let origin_other : (pool.datasets m).before ≢ n = λ e. not_both pool.datasets n (subst (IsSnapshot pool.datasets) e (before_is_snapshot pool sound m branch.0)) is in (
            m,
            called,
            ((λ first. branch.0 (sym at ∙ first)), (λ follows. branch.1 (ap pool.next (sym at) ∙ follows))),
            still_called m called other one,
            part,
            subst (λ k. Left k origin) (sym at) (still_called (pool.datasets m).before origin origin_other two),
          )

      pub told_without_head : NamesTellChains (with_dataset pool row.object nothing) left (without name plain)
      told_without_head = record { chains = chains_rest; branches = branches_rest; clones = clones_rest }

    -- ---- without either

    pub told_destroyed : (freed : List Block) (after : Pool) → IsDestroyed pool row.object freed after → NamesTellChains after left (without name plain)
    told_destroyed freed after = by_kind (pool.datasets row.object).kind refl
      where
        by_kind : (kind : Kind) → (pool.datasets row.object).kind ≡ kind → Makes pool (operation_of kind row.object) freed after → NamesTellChains after left (without name plain)
        by_kind Free is made = absurd (called_stands pool readings rows plain names row.object name call is)
        by_kind Head is made = subst (λ (p : Pool). NamesTellChains p left (without name plain)) (sym made.new_is) (told_without_head is)
        by_kind ASnapshot is made = subst (λ (p : Pool). NamesTellChains p left (without name plain)) (sym made.new_is) (told_without_snapshot is made.dead)
