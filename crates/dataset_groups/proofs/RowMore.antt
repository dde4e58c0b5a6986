-- What datasets are called by rows with one more.
use Rattle.std.proofs.Common.{◌≡◌, ◌≢◌, ℕ, List, None, inl, inr, refl, sym, ap, subst, ◌∙◌}
use Rattle.dataset_destroys.specs.Chains.{Reading}
use Rattle.dead_list.specs.Datasets.{Dataset, Free, Pool, Snapshot}
use Rattle.dead_list.specs.Operations.{IsSnapshot, IsUnused}
use Rattle.dead_list.specs.Sound.{IsSound}
use Rattle.meta_objset.proofs.Edits.{row_added}
use Rattle.meta_objset.specs.declared.directory.DirectoryRow.{DirectoryRow}
use Rattle.meta_objset.specs.Directory.{IsPlacedAmong, IsWith, LacksName}
use Rattle.meta_objset.specs.Names.{IsNamed}
use Rattle.pool_model.specs.declared.volume.PlainVolume.{PlainVolume}
use Rattle.pool_model.specs.Pools.{PlainPool, volume_at}
use Rattle.dataset_groups.specs.Names.{IsCalled, NamesPool, NamesVolume}
use Rattle.dataset_groups.proofs.Called.{called_stands}
use Rattle.dataset_groups.proofs.Rows.{names_same, no_row}

-- a number that stands for no dataset has a row more, under the name of the volume
pub record IsRowMore (pool : Pool) (readings : ℕ → Reading) (rows : List DirectoryRow) (plain : PlainPool) (n : ℕ) (new_rows : List DirectoryRow) (volume : PlainVolume) : Type 0 where
  pub unused : IsUnused pool.datasets n
  pub sound : IsSound pool
  pub names : NamesPool pool readings rows plain
  pub row : DirectoryRow
  pub among : IsPlacedAmong rows row new_rows
  pub lacks : LacksName rows row.name
  pub at : row.object ≡ n
  pub named : IsNamed row.name volume.name

module _ (pool : Pool) (readings : ℕ → Reading) (rows : List DirectoryRow) (plain : PlainPool) (n : ℕ) (new_rows : List DirectoryRow) (volume : PlainVolume)
    (more : IsRowMore pool readings rows plain n new_rows volume) where
  with_row : IsWith rows more.row new_rows
  with_row = subst (IsWith rows more.row) (sym more.among.placed) (row_added rows more.row more.among.at)

  -- the others have other numbers
  pub number_old : (m : ℕ) (called : List ℕ) → IsCalled rows m called → m ≢ n
  number_old m called one e =
      called_stands pool readings rows plain more.names m called one (ap (λ k. (pool.datasets k).kind) e ∙ ap (λ (d : Dataset). d.kind) more.unused.1)

  pub snapshot_old : (m : ℕ) → IsSnapshot pool.datasets m → m ≢ n
  snapshot_old m is e =
      let clash : Snapshot ≡ Free = sym is ∙ ap (λ k. (pool.datasets k).kind) e ∙ ap (λ (d : Dataset). d.kind) more.unused.1 in
      absurd cc

  pub snapshot_some : (m : ℕ) → IsSnapshot pool.datasets m → m ≢ 0
  snapshot_some m is e =
      let clash : Snapshot ≡ Free = sym is ∙ ap (λ k. (pool.datasets k).kind) e ∙ ap (λ (d : Dataset). d.kind) more.sound.none in
      absurd cc

  -- so has what is before a dataset, and what comes next to a snapshot
  pub before_is_snapshot : (m : ℕ) → (pool.datasets m).before ≢ 0 → IsSnapshot pool.datasets (pool.datasets m).before
  before_is_snapshot m some = elim (more.sound.linked m) [
    | inl first ↦ absurd (some first)
    | inr link ↦ link.0
  ]

  pub before_old : (m : ℕ) → (pool.datasets m).before ≢ n
  before_old m e = elim (more.sound.linked m) [
    | inl first ↦ more.unused.0 (sym e ∙ first)
    | inr link ↦ snapshot_old (pool.datasets m).before link.0 e
  ]

  pub next_old : (m : ℕ) → IsSnapshot pool.datasets m → pool.next m ≢ n
  next_old m is e = snapshot_some m is (sym (more.sound.followed m is) ∙ ap (λ k. (pool.datasets k).before) e ∙ ap (λ (d : Dataset). d.before) more.unused.1)

  -- ---- names

  pub new_called : IsCalled new_rows n volume.name
  new_called = (more.row, (with_row more.row).1 (inr refl), more.at, more.named)

  pub still_called : (m : ℕ) (called : List ℕ) → IsCalled rows m called → IsCalled new_rows m called
  still_called m called one = (one.0, (with_row one.0).1 (inl one.1), one.2, one.3)

  pub was_called : (m : ℕ) (called : List ℕ) → m ≢ n → IsCalled new_rows m called → IsCalled rows m called
  was_called m called other one = elim ((with_row one.0).0 one.1) [
    | inl old ↦ (one.0, old, one.2, one.3)
    | inr new ↦ absurd (other (sym one.2 ∙ ap (λ (r : DirectoryRow). r.object) new ∙ more.at))
  ]

  pub new_name : (called : List ℕ) → IsCalled new_rows n called → called ≡ volume.name
  new_name called one = elim ((with_row one.0).0 one.1) [
    | inl old ↦ absurd (number_old n called (one.0, old, one.2, one.3) refl)
    | inr new ↦ names_same more.row.name called volume.name (subst (λ (r : DirectoryRow). IsNamed r.name called) new one.3) more.named
  ]

  pub name_free : volume_at volume.name plain ≡ None
  name_free = no_row (NamesVolume pool readings) (λ r v is. is.name) more.row.name volume.name more.named rows plain.volumes more.names.volumes more.lacks
