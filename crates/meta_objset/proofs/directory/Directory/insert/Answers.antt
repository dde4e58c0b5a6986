use Rattle.std.proofs.Common.{◌≡◌, ◌<◌, ◌≤◌, ℕ, Bool, true, false, List, Option, Some, None, length, take, get_or, All, refl, sym, subst, ◌∙◌}
use Rattle.std.specs.Prelude.{is_some}
use Rattle.meta_objset.specs.declared.directory.DirectoryRow.{DirectoryRow}
use Rattle.meta_objset.specs.Directory.{IsDirectory, IsPlacedAmong, LacksName, IsWith}
use Rattle.meta_objset.specs.Names.{IsBefore}
use Rattle.meta_objset.proofs.Edits.{with_row, row_added, row_placed}
use Rattle.meta_objset.proofs.Rows.{Before}
use Rattle.meta_objset.proofs.directory.Directory.insert.Goals as goal

is_none : (found : Option ℕ) (test : Bool) → test ≡ is_some found → test ≡ false → found ≡ None
is_none None test is off = refl
is_none (Some object) test is off = let clash : true ≡ false = sym is ∙ off in absurd cc

pub invariant_of-self-2 : goal.invariant_of-self-2
invariant_of-self-2 c =
    let rows : List DirectoryRow = c.self.inside.rows.items in
    let row : DirectoryRow = record { name = c.args.name.now; object = c.args.object } in
    let same : c.args.self.now ≡ rows = cc in
    let lacks : LacksName rows c.args.name.now = subst (λ (all : List DirectoryRow). LacksName all c.args.name.now) same (c.get.ensures.none (is_none _ _ c.is_some.ensures c.if-is_some.false)) in
    let before : All (λ other. Before other row) (take c.count_before-at.result rows) =
    subst (λ (all : List DirectoryRow). All (λ other. Before other row) (take c.count_before-at.result all)) c.deref.ensures.value c.count_before-at.ensures.before in
    let behind : (other : DirectoryRow) → c.count_before-at.result < length rows → ¬ IsBefore (get_or rows c.count_before-at.result other).name row.name =
    subst (λ (all : List DirectoryRow). (other : DirectoryRow) → c.count_before-at.result < length all → ¬ IsBefore (get_or all c.count_before-at.result other).name row.name) c.deref.ensures.value c.count_before-at.ensures.behind in
    subst IsDirectory (sym c.in_ok-insert.ensures.items)
    (with_row rows row c.count_before-at.result c.self.invariant lacks before behind (record { name = c.requires; object = c.ranges.object.fits }))

pub returns-clause-added : goal.returns-clause-added
returns-clause-added c = λ _.
    let rows : List DirectoryRow = c.self.inside.rows.items in
    let row : DirectoryRow = record { name = c.args.name.now; object = c.args.object } in
    let same : rows ≡ c.args.self.now = cc in (
      c.get.ensures.none (is_none _ _ c.is_some.ensures c.if-is_some.false),
      subst (λ (all : List DirectoryRow). IsWith all row c.insert.new.self.items) same
          (subst (λ (all : List DirectoryRow). IsWith rows row all) (sym c.in_ok-insert.ensures.items) (row_added rows row c.count_before-at.result)),
    )

pub returns-clause-placed : goal.returns-clause-placed
returns-clause-placed c = λ _.
    let rows : List DirectoryRow = c.self.inside.rows.items in
    let row : DirectoryRow = record { name = c.args.name.now; object = c.args.object } in
    let at : ℕ = c.count_before-at.result in
    let same : c.args.self.now ≡ rows = cc in
    let lacks : LacksName rows row.name = subst (λ (all : List DirectoryRow). LacksName all row.name) same (c.get.ensures.none (is_none _ _ c.is_some.ensures c.if-is_some.false)) in
    let within : at ≤ length rows = subst (λ (all : List DirectoryRow). at ≤ length all) c.deref.ensures.value c.count_before-at.ensures.within in
    let before : All (λ other. Before other row) (take at rows) = subst (λ (all : List DirectoryRow). All (λ other. Before other row) (take at all)) c.deref.ensures.value c.count_before-at.ensures.before in
    let behind : (other : DirectoryRow) → at < length rows → ¬ IsBefore (get_or rows at other).name row.name =
    subst (λ (all : List DirectoryRow). (other : DirectoryRow) → at < length all → ¬ IsBefore (get_or all at other).name row.name) c.deref.ensures.value c.count_before-at.ensures.behind in
    subst (λ (all : List DirectoryRow). IsPlacedAmong all row c.insert.new.self.items) (sym same)
    (subst (λ (all : List DirectoryRow). IsPlacedAmong rows row all) (sym c.in_ok-insert.ensures.items) (row_placed rows row at c.self.invariant lacks before behind within))
