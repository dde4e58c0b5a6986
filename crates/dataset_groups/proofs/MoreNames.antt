-- The names of a pool with a dataset more.
use Rattle.std.proofs.Common.{◌≡◌, ◌≢◌, ℕ, true, List, [], ◌∷◌, Contains, inl, inr, sym, ap, subst, ◌∙◌}
use Rattle.std.specs.Prelude.{insert}
use Rattle.std.specs.List.{AllZip}
use Rattle.std.proofs.lemmas.Bool.{cases_eq}
use Rattle.dataset_destroys.specs.Chains.{Reading}
use Rattle.dead_list.specs.Datasets.{Free, Head, Kind, Pool, updated}
use Rattle.dead_list.specs.Datasets.{Snapshot as ASnapshot}
use Rattle.dead_list.specs.Reach.{AreNumbersOf}
use Rattle.dead_list.proofs.Updates.{other_at, same_at}
use Rattle.meta_objset.specs.declared.directory.DirectoryRow.{DirectoryRow}
use Rattle.meta_objset.specs.Directory.{IsPlacedAmong, LacksName}
use Rattle.meta_objset.specs.Names.{IsNamed}
use Rattle.pool_model.specs.declared.volume.PlainVolume.{PlainVolume}
use Rattle.pool_model.specs.declared.volume.VolumeKind.{VolumeKind}
use Rattle.pool_model.specs.declared.volume.VolumeKind.TheVariants.{Snapshot, Volume}
use Rattle.pool_model.specs.Names.{is_name_for}
use Rattle.pool_model.specs.Pools.{PlainPool, with_volume}
use Rattle.dataset_groups.specs.Names.{IsOfKind, NamesPool, NamesTellChains, NamesVolume, objects_of_rows}
use Rattle.dataset_groups.proofs.ListParts.{first_or_later, nothing_in}
use Rattle.dataset_groups.proofs.MakingVolumes.{volumes_with}
use Rattle.dataset_groups.proofs.MoreNumbers.{has_new, has_old, of_row, once_with}
use Rattle.dataset_groups.proofs.OneMore.{IsOneMore, not_new_number}

-- a row that names a volume or a snapshot names a dataset
pub named_stands : (kind : VolumeKind) (of : Kind) → IsOfKind kind of → of ≢ Free
named_stands Volume of is free = absurd (let clash : Head ≡ Free = sym is ∙ free in cc)
named_stands Snapshot of is free = absurd (let clash : ASnapshot ≡ Free = sym is ∙ free in cc)

zip_on : (R S : DirectoryRow → PlainVolume → Type 0) (rows : List DirectoryRow) (volumes : List PlainVolume)
    → ((row : DirectoryRow) (volume : PlainVolume) → R row volume → S row volume) → AllZip R rows volumes → AllZip S rows volumes
zip_on R S [] [] on all = all
zip_on R S (row ∷ rows) (volume ∷ volumes) on all = (on row volume all.0, zip_on R S rows volumes on all.1)
zip_on R S [] (volume ∷ volumes) on all = absurd all
zip_on R S (row ∷ rows) [] on all = absurd all

row_stands : (pool : Pool) (readings : ℕ → Reading) (rows : List DirectoryRow) (volumes : List PlainVolume) → AllZip (NamesVolume pool readings) rows volumes → (row : DirectoryRow)
    → Contains rows row → (pool.datasets row.object).kind ≢ Free
row_stands pool readings [] volumes all row held = absurd (nothing_in row held)
row_stands pool readings (first ∷ rows) [] all row held = absurd all
row_stands pool readings (first ∷ rows) (volume ∷ volumes) all row held = elim (first_or_later first row rows held) [
  | inl same ↦ subst (λ (r : DirectoryRow). (pool.datasets r.object).kind ≢ Free) same (named_stands volume.kind (pool.datasets first.object).kind all.0.kind)
  | inr later ↦ row_stands pool readings rows volumes all.1 row later
]

module _ (pool after : Pool) (n : ℕ) (of : Kind) (more : IsOneMore pool after n of) (readings : ℕ → Reading) (rows : List DirectoryRow) (plain : PlainPool)
    (names : NamesPool pool readings rows plain) where
  -- none of the rows names what the number stands for now
  pub not_new : (row : DirectoryRow) → Contains rows row → row.object ≢ n
  not_new row held = not_new_number pool n row.object more.unused (row_stands pool readings rows plain.volumes names.volumes row held)

  no_object_new : (m : ℕ) → Contains (objects_of_rows rows) m → m ≢ n
  no_object_new m held e = let it = of_row rows m held in not_new it.0 it.1 (it.2 ∙ e)

  module _ (reading : Reading) where
    abbrev now : ℕ → Reading
    now = updated readings n reading

    stays_named : (row : DirectoryRow) (volume : PlainVolume) → NamesVolume pool readings row volume → NamesVolume after now row volume
    stays_named row volume named =
        let other = not_new_number pool n row.object more.unused (named_stands volume.kind (pool.datasets row.object).kind named.kind) in
        let reads : now row.object ≡ readings row.object = other_at readings n reading row.object other in
        record {
          name = named.name;
          good = named.good;
          kind = subst (IsOfKind volume.kind) (sym (more.kinds row.object other)) named.kind;
          created = more.groups row.object other ∙ named.created;
          array = ap (λ (r : Reading). r.array) reads ∙ named.array;
          block_size = ap (λ (r : Reading). r.block_size) reads ∙ named.block_size;
        }

    -- with a row for it
    pub names_with : (new_rows : List DirectoryRow) (row : DirectoryRow) (volume : PlainVolume) → IsPlacedAmong rows row new_rows → LacksName rows row.name → row.object ≡ n
        → IsNamed row.name volume.name → is_name_for volume.kind volume.name ≡ true → IsOfKind volume.kind of → pool.group ≡ volume.group → reading.array ≡ volume.bytes
        → reading.block_size ≡ volume.block_size → NamesTellChains after new_rows (with_volume volume plain) → NamesPool after now new_rows (with_volume volume plain)
    names_with new_rows row volume among lacks at named good kind group array block_size told =
        let reads : now row.object ≡ reading = ap now at ∙ same_at readings n reading in
        record {
          numbers = subst (λ (rs : List DirectoryRow). AreNumbersOf after.datasets (objects_of_rows rs)) (sym among.placed) (record {
            each = λ m some. elim (cases_eq m n) [
              | inl same ↦ subst (λ k. Contains (objects_of_rows (insert rows among.at row)) k) (at ∙ sym same) (has_new row rows among.at)
              | inr other ↦ has_old row rows among.at m (names.numbers.each m (more.some_before m other some))
            ];
            once = once_with row rows among.at names.numbers.once (λ m held e. no_object_new m held (e ∙ at));
          });
          volumes = volumes_with (NamesVolume after now) (λ r v is. is.name) rows new_rows row plain volume among lacks
              (zip_on (NamesVolume pool readings) (NamesVolume after now) rows plain.volumes stays_named names.volumes)
              (record {
                name = named;
                good = good;
                kind = subst (IsOfKind volume.kind) (sym (ap (λ k. (after.datasets k).kind) at ∙ more.new_kind)) kind;
                created = ap (λ k. (after.datasets k).group) at ∙ more.new_group ∙ group;
                array = ap (λ (r : Reading). r.array) reads ∙ array;
                block_size = ap (λ (r : Reading). r.block_size) reads ∙ block_size;
              });
          chains = told;
        }
