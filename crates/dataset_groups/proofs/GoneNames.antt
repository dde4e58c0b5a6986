-- The names of a pool with a dataset less.
use Rattle.std.proofs.Common.{◌≡◌, ◌≢◌, ℕ, List, [], ◌∷◌, AllPairs, Contains, sym, ap, subst, ◌∙◌, arith}
use Rattle.std.specs.List.{AllZip}
use Rattle.std.proofs.lemmas.List.Elements.{All-contains}
use Rattle.std.proofs.lemmas.List.Kept.{AllPairs-cons, AllPairs-filter}
use Rattle.dataset_destroys.specs.Chains.{Reading}
use Rattle.dead_list.specs.Datasets.{Pool, nothing}
use Rattle.meta_objset.proofs.Edits.{pairs_head, pairs_tail}
use Rattle.meta_objset.specs.declared.directory.DirectoryRow.{DirectoryRow}
use Rattle.meta_objset.specs.Directory.{IsDirectory, IsWithout}
use Rattle.meta_objset.specs.Names.{IsNamed}
use Rattle.pool_model.specs.declared.volume.PlainVolume.{PlainVolume}
use Rattle.pool_model.specs.Pools.{PlainPool, without}
use Rattle.dataset_groups.specs.Destroys.{KeepsNamed}
use Rattle.dataset_groups.specs.Names.{IsOfKind, NamesPool, NamesTellChains, NamesVolume, objects_of_rows}
use Rattle.dataset_groups.proofs.GoneRows.{keeps_row, left_are, one_named, zip_left}
use Rattle.dataset_groups.proofs.ListParts.{all_from, is_first, is_later}
use Rattle.dataset_groups.proofs.MoreNumbers.{of_row}
use Rattle.dataset_groups.proofs.OneLess.{IsOneLess}
use Rattle.dataset_groups.proofs.WrittenVolumes.{object_held, one_row}

-- ---- numbers, each once

abbrev Differ : ℕ → ℕ → Type 0
Differ m later = m ≢ later

abbrev AreApart : DirectoryRow → DirectoryRow → Type 0
AreApart row later = row.object ≢ later.object

rows_apart : (rows : List DirectoryRow) → AllPairs Differ (objects_of_rows rows) → AllPairs AreApart rows
rows_apart [] once = λ i j d less low. absurd (omega (arith, low))
rows_apart (row ∷ rows) once =
    AllPairs-cons AreApart row rows
    (all_from (AreApart row) rows (λ other held. All-contains (Differ row.object) (objects_of_rows rows) other.object (pairs_head Differ row.object (objects_of_rows rows) once) (object_held rows other held)))
    (rows_apart rows (pairs_tail Differ row.object (objects_of_rows rows) once))

objects_apart : (rows : List DirectoryRow) → AllPairs AreApart rows → AllPairs Differ (objects_of_rows rows)
objects_apart [] apart = λ i j d less low. absurd (omega (arith, low))
objects_apart (row ∷ rows) apart =
    AllPairs-cons Differ row.object (objects_of_rows rows)
    (all_from (Differ row.object) (objects_of_rows rows) (λ m held e. let it = of_row rows m held in All-contains (AreApart row) rows it.0 (pairs_head AreApart row rows apart) it.1 (e ∙ sym it.2)))
    (objects_apart rows (pairs_tail AreApart row rows apart))

-- ---- rows

zip_each : (R S : DirectoryRow → PlainVolume → Type 0) (rows : List DirectoryRow) (volumes : List PlainVolume)
    → ((row : DirectoryRow) (volume : PlainVolume) → Contains rows row → R row volume → S row volume) → AllZip R rows volumes → AllZip S rows volumes
zip_each R S [] [] on all = all
zip_each R S [] (volume ∷ volumes) on all = absurd all
zip_each R S (row ∷ rows) [] on all = absurd all
zip_each R S (row ∷ rows) (volume ∷ volumes) on all =
    (on row volume (is_first row rows) all.0, zip_each R S rows volumes (λ other v held is. on other v (is_later row other rows held) is) all.1)

module _ (pool after : Pool) (readings : ℕ → Reading) (rows left : List DirectoryRow) (plain : PlainPool) (row : DirectoryRow) (name : List ℕ) (order : IsDirectory rows) (also : IsDirectory left)
    (are : IsWithout rows row.name left) (held : Contains rows row) (named : IsNamed row.name name) (names : NamesPool pool readings rows plain)
    (less : IsOneLess pool after row.object) where
  abbrev n : ℕ
  n = row.object

  -- the rows that are left name other datasets
  left_other : (other : DirectoryRow) → Contains left other → other.object ≢ n
  left_other other there e =
      let was = (are other).0 there in
      was.1 (ap (λ (r : DirectoryRow). r.name) (one_row rows other row names.numbers.once was.0 held e))

  -- which keep what they are
  pub keeps_named : KeepsNamed pool after left
  keeps_named = record {
    kinds = λ other there. less.kinds other.object (left_other other there);
    groups = λ other there. less.groups other.object (left_other other there);
    blocks = λ other there. less.blocks other.object (left_other other there);
    writable = λ other there may. let early = less.before other.object (left_other other there) in let group = less.group in omega (arith, may, early, group);
  }

  stays_named : (other : DirectoryRow) (volume : PlainVolume) → Contains left other → NamesVolume pool readings other volume → NamesVolume after readings other volume
  stays_named other volume there is =
      let apart = left_other other there in
      record {
        name = is.name;
        good = is.good;
        kind = subst (IsOfKind volume.kind) (sym (less.kinds other.object apart)) is.kind;
        created = less.groups other.object apart ∙ is.created;
        array = is.array;
        block_size = is.block_size;
      }

  module _ (some_before : (m : ℕ) → after.datasets m ≢ nothing → pool.datasets m ≢ nothing) where
    each_left : (m : ℕ) → after.datasets m ≢ nothing → Contains (objects_of_rows left) m
    each_left m some =
        let it = of_row rows m (names.numbers.each m (some_before m some)) in
        let differ : it.0.name ≢ row.name = λ e.
        let same : m ≡ n = sym it.2 ∙ ap (λ (r : DirectoryRow). r.object) (one_named rows it.0 row order.order it.1 held e) in
        some (ap after.datasets same ∙ less.gone) in
        subst (Contains (objects_of_rows left)) it.2 (object_held left it.0 ((are it.0).1 (it.1, differ)))

    -- without the row for it
    pub names_left : NamesTellChains after left (without name plain) → NamesPool after readings left (without name plain)
    names_left chains = record {
      numbers = record {
        each = each_left;
        once = subst (λ (rs : List DirectoryRow). AllPairs Differ (objects_of_rows rs)) (sym (left_are rows left row.name order also are))
            (objects_apart _ (AllPairs-filter AreApart (keeps_row row.name) rows (rows_apart rows names.numbers.once)));
      };
      volumes = zip_each (NamesVolume pool readings) (NamesVolume after readings) left (without name plain).volumes (λ other volume there is. stays_named other volume there is)
          (zip_left (NamesVolume pool readings) (λ r v is. is.name) rows left plain.volumes row.name name order also are named names.volumes);
      chains = chains;
    }
