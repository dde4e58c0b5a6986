-- Rows that name volumes, and the volume that a name leads to.
use Rattle.std.proofs.Common.{◌≡◌, ℕ, List, [], ◌∷◌, Bool, true, false, true≢false, Some, None, AllPairs, Contains, inl, inr, refl, sym, ap, subst, ◌∙◌}
use Rattle.std.specs.Prelude.{cond}
use Rattle.std.specs.List.{AllZip}
use Rattle.std.proofs.lemmas.List.Elements.{All-contains}
use Rattle.dataset_destroys.specs.Chains.{Reading}
use Rattle.dead_list.specs.Datasets.{Pool}
use Rattle.meta_objset.proofs.Edits.{apart, pairs_head, pairs_tail}
use Rattle.meta_objset.specs.declared.directory.DirectoryRow.{DirectoryRow}
use Rattle.meta_objset.specs.Directory.{IsDirectory}
use Rattle.meta_objset.specs.Names.{IsBefore, IsNamed}
use Rattle.pool_model.specs.declared.volume.PlainVolume.{PlainVolume}
use Rattle.pool_model.specs.Names.{is_name_for, same}
use Rattle.pool_model.specs.Pools.{PlainPool, volume_at}
use Rattle.pool_model.proofs.Places.{is_same, same_is}
use Rattle.dataset_groups.specs.Demands.{IsNameThere}
use Rattle.dataset_groups.specs.Names.{NamesPool, NamesVolume}
use Rattle.dataset_groups.proofs.ListParts.{first_or_later, is_first, is_later, nothing_in}
use Rattle.dataset_groups.proofs.Rows.{at, names_same, padded_same}

abbrev Before : DirectoryRow → DirectoryRow → Type 0
Before row later = IsBefore row.name later.name

module _ (R : DirectoryRow → PlainVolume → Type 0) (name_of : (row : DirectoryRow) (volume : PlainVolume) → R row volume → IsNamed row.name volume.name) (name : List ℕ) where
  abbrev Spelled : List DirectoryRow → List PlainVolume → Type 0
  Spelled rows volumes = AllZip R rows volumes

  -- the first volume of that name is the row's
  abbrev Leads : DirectoryRow → List PlainVolume → Type 0
  Leads row volumes = (volume : PlainVolume) × (at name volumes ≡ Some volume) × R row volume

  by_name : (b : Bool) (first row : DirectoryRow) (rows : List DirectoryRow) (volume : PlainVolume) (volumes : List PlainVolume) → same volume.name name ≡ b → AllPairs Before (first ∷ rows)
      → R first volume → (Contains rows row → Leads row volumes) → Contains (first ∷ rows) row → IsNamed row.name name → Leads row (volume ∷ volumes)
  by_name true first row rows volume volumes e order is later held named =
      let padded : first.name ≡ row.name = padded_same first.name row.name volume.name name (name_of first volume is) named (same_is volume.name name e) in
      elim (first_or_later first row rows held) [
        | inl one ↦ (volume, ap (λ t. cond t (Some volume) (at name volumes)) e, subst (λ r. R r volume) one is)
        | inr behind ↦ absurd (apart first.name row.name (All-contains (Before first) rows row (pairs_head Before first rows order) behind) padded)
      ]
  by_name false first row rows volume volumes e order is later held named =
      elim (first_or_later first row rows held) [
        | inl one ↦
            let also : IsNamed first.name name = subst (λ (r : DirectoryRow). IsNamed r.name name) (sym one) named in
            absurd (true≢false (sym (is_same volume.name name (names_same first.name volume.name name (name_of first volume is) also)) ∙ e))
        | inr behind ↦ let leads = later behind in (leads.0, ap (λ t. cond t (Some volume) (at name volumes)) e ∙ leads.1, leads.2)
      ]

  row_leads : (rows : List DirectoryRow) (volumes : List PlainVolume) (row : DirectoryRow) → AllPairs Before rows → Spelled rows volumes → Contains rows row → IsNamed row.name name → Leads row volumes
  row_leads [] volumes row order spells held named = absurd (nothing_in row held)
  row_leads (first ∷ rows) (volume ∷ volumes) row order spells held named =
      by_name (same volume.name name) first row rows volume volumes refl order spells.0
      (λ behind. row_leads rows volumes row (pairs_tail Before first rows order) spells.1 behind named) held named
  row_leads (first ∷ rows) [] row order spells held named = absurd spells

  -- no volume has the name where no row has it
  not_first : (b : Bool) (first : DirectoryRow) (rows : List DirectoryRow) (volume : PlainVolume) (volumes : List PlainVolume) → same volume.name name ≡ b → R first volume
      → ¬ IsNameThere (first ∷ rows) name → at name volumes ≡ None → at name (volume ∷ volumes) ≡ None
  not_first true first rows volume volumes e is none later =
      absurd (none (first, is_first first rows, subst (IsNamed first.name) (same_is volume.name name e) (name_of first volume is)))
  not_first false first rows volume volumes e is none later = ap (λ t. cond t (Some volume) (at name volumes)) e ∙ later

  none_named : (rows : List DirectoryRow) (volumes : List PlainVolume) → Spelled rows volumes → ¬ IsNameThere rows name → at name volumes ≡ None
  none_named [] [] spells none = refl
  none_named (first ∷ rows) (volume ∷ volumes) spells none =
      not_first (same volume.name name) first rows volume volumes refl spells.0 none
      (none_named rows volumes spells.1 (λ (row, held, named). none (row, is_later first row rows held, named)))
  none_named [] (volume ∷ volumes) spells none = absurd spells
  none_named (first ∷ rows) [] spells none = absurd spells

-- ---- the rows of a pool

-- the volume that a row of this name leads to
pub record IsLedTo (pool : Pool) (readings : ℕ → Reading) (plain : PlainPool) (row : DirectoryRow) (name : List ℕ) : Type 0 where
  pub v : PlainVolume
  pub found : volume_at name plain ≡ Some v
  pub names : NamesVolume pool readings row v
  pub good : is_name_for v.kind name ≡ true

pub led_to : (pool : Pool) (readings : ℕ → Reading) (rows : List DirectoryRow) (plain : PlainPool) (row : DirectoryRow) (name : List ℕ) → IsDirectory rows → Contains rows row → IsNamed row.name name
    → NamesPool pool readings rows plain → IsLedTo pool readings plain row name
led_to pool readings rows plain row name order held named names =
    let there = row_leads (NamesVolume pool readings) (λ r v is. is.name) name rows plain.volumes row order.order names.volumes held named in
    let called : there.0.name ≡ name = names_same row.name there.0.name name there.2.name named in
    record { v = there.0; found = there.1; names = there.2; good = subst (λ (n : List ℕ). is_name_for there.0.kind n ≡ true) called there.2.good }

-- where no row has the name there is no volume of that name
pub none_at : (pool : Pool) (readings : ℕ → Reading) (rows : List DirectoryRow) (plain : PlainPool) (name : List ℕ) → ¬ IsNameThere rows name → NamesPool pool readings rows plain
    → volume_at name plain ≡ None
none_at pool readings rows plain name none names = none_named (NamesVolume pool readings) (λ r v is. is.name) name rows plain.volumes names.volumes none
