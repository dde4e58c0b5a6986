-- What datasets are called by the rows that name them.
use Rattle.std.proofs.Common.{◌≡◌, ◌≢◌, ℕ, true, List, [], ◌∷◌, AllPairs, Contains, inl, inr, refl, sym, ap, subst, ◌∙◌}
use Rattle.std.specs.List.{AllZip}
use Rattle.std.proofs.lemmas.List.Elements.{All-contains}
use Rattle.dataset_destroys.specs.Chains.{Reading}
use Rattle.dead_list.specs.Datasets.{Free, Head, Kind, Pool, nothing}
use Rattle.dead_list.specs.Datasets.{Snapshot as ASnapshot}
use Rattle.dead_list.specs.Operations.{IsHead, IsSnapshot}
use Rattle.meta_objset.proofs.Edits.{apart, pairs_head, pairs_tail}
use Rattle.meta_objset.specs.declared.directory.DirectoryRow.{DirectoryRow}
use Rattle.meta_objset.specs.Directory.{IsDirectory}
use Rattle.meta_objset.specs.Names.{IsBefore, IsNamed}
use Rattle.pool_model.specs.declared.volume.PlainVolume.{PlainVolume}
use Rattle.pool_model.specs.declared.volume.VolumeKind.{VolumeKind}
use Rattle.pool_model.specs.declared.volume.VolumeKind.TheVariants.{Snapshot, Volume}
use Rattle.pool_model.specs.Names.{is_name, is_name_for, is_snapshot_name}
use Rattle.pool_model.specs.Pools.{PlainPool, is_snapshot}
use Rattle.dataset_groups.specs.Names.{IsCalled, IsOfKind, NamesPool, NamesVolume}
use Rattle.dataset_groups.proofs.KindNames.{has_at}
use Rattle.dataset_groups.proofs.ListParts.{first_or_later, is_first, is_later, nothing_in}
use Rattle.dataset_groups.proofs.MoreNames.{named_stands}
use Rattle.dataset_groups.proofs.MoreNumbers.{of_row}
use Rattle.dataset_groups.proofs.Rows.{names_same, padded_same}
use Rattle.dataset_groups.proofs.WrittenVolumes.{one_row}

-- what is behind a row leads on, to one of these
zip_in : {A B : Type 0} (R : A → B → Type 0) (xs : List A) (ys : List B) (x : A) → AllZip R xs ys → Contains xs x → (y : B) × Contains ys y × R x y
zip_in R [] ys x all held = absurd (nothing_in x held)
zip_in R (first ∷ xs) [] x all held = absurd all
zip_in R (first ∷ xs) (y ∷ ys) x all held = elim (first_or_later first x xs held) [
  | inl is ↦ (y, is_first y ys, subst (λ z. R z y) is all.0)
  | inr later ↦ let it = zip_in R xs ys x all.1 later in (it.0, is_later y it.0 ys it.1, it.2)
]

abbrev Before : DirectoryRow → DirectoryRow → Type 0
Before row later = IsBefore row.name later.name

-- a name is that of one row
one_padded : (rows : List DirectoryRow) (row other : DirectoryRow) → AllPairs Before rows → Contains rows row → Contains rows other → row.name ≡ other.name → row ≡ other
one_padded [] row other order held also e = absurd (nothing_in row held)
one_padded (first ∷ rows) row other order held also e =
    let differ : (r : DirectoryRow) → Contains rows r → first.name ≢ r.name = λ r there same.
    apart first.name r.name (All-contains (Before first) rows r (pairs_head Before first rows order) there) same in
    elim (first_or_later first row rows held) [
      | inl one ↦ elim (first_or_later first other rows also) [
        | inl two ↦ sym one ∙ two
        | inr later ↦ absurd (differ other later (ap (λ (r : DirectoryRow). r.name) one ∙ e))
      ]
      | inr later ↦ elim (first_or_later first other rows also) [
        | inl two ↦ absurd (differ row later (ap (λ (r : DirectoryRow). r.name) two ∙ sym e))
        | inr behind ↦ one_padded rows row other (pairs_tail Before first rows order) later behind e
      ]
    ]

-- a name is that of one dataset
pub one_number : (rows : List DirectoryRow) → IsDirectory rows → (m k : ℕ) (name : List ℕ) → IsCalled rows m name → IsCalled rows k name → m ≡ k
one_number rows order m k name one two =
    let same : one.0 ≡ two.0 = one_padded rows one.0 two.0 order.order one.1 two.1 (padded_same one.0.name two.0.name name name one.3 two.3 refl) in
    sym one.2 ∙ ap (λ (r : DirectoryRow). r.object) same ∙ two.2

-- ---- the volume behind a name

-- the dataset is called as this volume of the plain pool
pub record IsVolumeCalled (pool : Pool) (plain : PlainPool) (m : ℕ) (name : List ℕ) : Type 0 where
  pub volume : PlainVolume
  pub held : Contains plain.volumes volume
  pub called : volume.name ≡ name
  pub good : is_name_for volume.kind name ≡ true
  pub kind : IsOfKind volume.kind (pool.datasets m).kind

head_kind : (kind : VolumeKind) (of : Kind) → IsOfKind kind of → of ≡ Head → kind ≡ Volume
head_kind Volume of is head = refl
head_kind Snapshot of is head = absurd (let clash : ASnapshot ≡ Head = sym is ∙ head in cc)

snapshot_kind : (kind : VolumeKind) (of : Kind) → IsOfKind kind of → of ≡ ASnapshot → kind ≡ Snapshot
snapshot_kind Snapshot of is snapshot = refl
snapshot_kind Volume of is snapshot = absurd (let clash : Head ≡ ASnapshot = sym is ∙ snapshot in cc)

module _ (pool : Pool) (readings : ℕ → Reading) (rows : List DirectoryRow) (plain : PlainPool) (names : NamesPool pool readings rows plain) where
  pub volume_called : (m : ℕ) (name : List ℕ) → IsCalled rows m name → IsVolumeCalled pool plain m name
  volume_called m name call =
      let there = zip_in (NamesVolume pool readings) rows plain.volumes call.0 names.volumes call.1 in
      let called : there.0.name ≡ name = names_same call.0.name there.0.name name there.2.name call.3 in
      record {
        volume = there.0;
        held = there.1;
        called = called;
        good = subst (λ (n : List ℕ). is_name_for there.0.kind n ≡ true) called there.2.good;
        kind = subst (λ k. IsOfKind there.0.kind (pool.datasets k).kind) call.2 there.2.kind;
      }

  -- each dataset has a name
  pub has_name : (m : ℕ) → pool.datasets m ≢ nothing → (name : List ℕ) × IsCalled rows m name
  has_name m some =
      let row = of_row rows m (names.numbers.each m some) in
      let there = zip_in (NamesVolume pool readings) rows plain.volumes row.0 names.volumes row.1 in
      (there.0.name, (row.0, row.1, row.2, there.2.name))

  -- and one alone
  pub one_name : (m : ℕ) (name other : List ℕ) → IsCalled rows m name → IsCalled rows m other → name ≡ other
  one_name m name other one two =
      let same : one.0 ≡ two.0 = one_row rows one.0 two.0 names.numbers.once one.1 two.1 (one.2 ∙ sym two.2) in
      names_same two.0.name name other (subst (λ (r : DirectoryRow). IsNamed r.name name) same one.3) two.3

  pub called_stands : (m : ℕ) (name : List ℕ) → IsCalled rows m name → (pool.datasets m).kind ≢ Free
  called_stands m name call = let it = volume_called m name call in named_stands it.volume.kind (pool.datasets m).kind it.kind

  pub head_name : (m : ℕ) (name : List ℕ) → IsCalled rows m name → IsHead pool.datasets m → is_name name ≡ true
  head_name m name call is =
      let it = volume_called m name call in
      subst (λ (k : VolumeKind). is_name_for k name ≡ true) (head_kind it.volume.kind (pool.datasets m).kind it.kind is) it.good

  pub snapshot_has_at : (m : ℕ) (name : List ℕ) → IsCalled rows m name → IsSnapshot pool.datasets m → is_snapshot_name name ≡ true
  snapshot_has_at m name call is =
      let it = volume_called m name call in
      has_at name (subst (λ (k : VolumeKind). is_name_for k name ≡ true) (snapshot_kind it.volume.kind (pool.datasets m).kind it.kind is) it.good)

  pub snapshot_is : (m : ℕ) (name : List ℕ) → (call : IsCalled rows m name) → IsSnapshot pool.datasets m → is_snapshot (volume_called m name call).volume.kind ≡ true
  snapshot_is m name call is = let it = volume_called m name call in ap is_snapshot (snapshot_kind it.volume.kind (pool.datasets m).kind it.kind is)
