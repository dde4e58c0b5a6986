use Rattle.std.proofs.Common.{◌≡◌, ◌<◌, ℕ, List, length, get_or, Contains, refl, sym, ap, subst, ◌∙◌}
use Rattle.meta_objset.specs.declared.directory.DirectoryRow.{DirectoryRow}
use Rattle.meta_objset.specs.Directory.{IsDirectory, IsWithout}
use Rattle.meta_objset.proofs.Edits.{without_row, row_taken, row_there}
use Rattle.meta_objset.proofs.Rows.{same_row}
use Rattle.meta_objset.proofs.directory.Directory.remove.Goals as goal

pub invariant_of-self : goal.invariant_of-self
invariant_of-self c =
    let rows : List DirectoryRow = c.self.inside.rows.items in
    let low : c.in_ok-at.at < length rows = subst (λ (all : List DirectoryRow). c.in_ok-at.at < length all) c.deref.ensures.value c.in_ok-at.ensures.0 in
    subst IsDirectory (sym c.remove-row.ensures.items) (without_row rows c.in_ok-at.at c.remove-row.result low c.self.invariant (sym c.remove-row.ensures.value))

pub returns-clause-removed : goal.returns-clause-removed
returns-clause-removed c =
    let rows : List DirectoryRow = c.self.inside.rows.items in
    let row : DirectoryRow = c.remove-row.result in
    let same : rows ≡ c.args.self.now = cc in
    let here : get_or rows c.in_ok-at.at row ≡ row = sym c.remove-row.ensures.value in
    let low : c.in_ok-at.at < length rows = subst (λ (all : List DirectoryRow). c.in_ok-at.at < length all) c.deref.ensures.value c.in_ok-at.ensures.0 in
    let name : (get_or rows c.in_ok-at.at row).name ≡ c.args.name.now =
    subst (λ (all : List DirectoryRow). (get_or all c.in_ok-at.at row).name ≡ c.args.name.now) c.deref.ensures.value (c.in_ok-at.ensures.1 row) in
    let named : row.name ≡ c.args.name.now = ap (λ (r : DirectoryRow). r.name) (sym here) ∙ name in
    subst (λ (all : List DirectoryRow). Contains all (record { name = c.args.name.now; object = row.object }) × IsWithout all c.args.name.now c.remove-row.new.self.items) same (
      subst (λ (r : DirectoryRow). Contains rows r) (sym (same_row row c.args.name.now row.object (sym named) refl)) (row_there rows c.in_ok-at.at row low c.self.invariant here),
      subst (λ (n : List ℕ). IsWithout rows n c.remove-row.new.self.items) named
          (subst (λ (all : List DirectoryRow). IsWithout rows row.name all) (sym c.remove-row.ensures.items) (row_taken rows c.in_ok-at.at row low c.self.invariant here)),
    )
