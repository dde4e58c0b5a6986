-- A name is looked for among rows in their order.
use Rattle.std.proofs.Common.{◌≡◌, ◌≢◌, ℕ, ◌<◌, ◌≤◌, Bool, true, List, length, take, get_or, All, AllPairs, inl, inr, refl, ap, subst, arith}
use Rattle.std.specs.Cmp.Lexicographic.{slice_cmp}
use Rattle.std.specs.List.Sorted.{IsPartitionedBy}
use Rattle.std.specs.Ordering.{is_lt, nat_cmp}
use Rattle.std.specs.declared.cmp.Ordering.{Ordering}
use Rattle.std.specs.declared.cmp.Ordering.TheVariants.{Equal, Greater, Less}
use Rattle.std.proofs.lemmas.Bool.{cases_lt}
use Rattle.std.proofs.lemmas.Cmp.{nat_list_cmp_total}
use Rattle.std.proofs.lemmas.List.{get_or-take, length-take-le}
use Rattle.meta_objset.specs.declared.directory.DirectoryRow.{DirectoryRow}
use Rattle.meta_objset.specs.Directory.{LacksName}
use Rattle.meta_objset.specs.Names.{IsBefore}
use Rattle.meta_objset.proofs.Edits.{apart}
use Rattle.meta_objset.proofs.Rows.{Before}

abbrev pub is_before : List ℕ → DirectoryRow → Bool
is_before name row = is_lt (slice_cmp nat_cmp row.name name)

pub less : (order : Ordering) → is_lt order ≡ true → order ≡ Less
less Less is = refl
less Equal is = absurd cc
less Greater is = absurd cc

-- the rows before a name stand in front
pub front_is_before : (rows : List DirectoryRow) (name : List ℕ) → AllPairs Before rows → IsPartitionedBy (is_before name) rows
front_is_before rows name order i j d most low before =
    elim (cases_lt i j) [
      | inl lt ↦ ap is_lt (nat_list_cmp_total.trans (get_or rows i d).name (get_or rows j d).name name (order i j d lt low) (less (slice_cmp nat_cmp (get_or rows j d).name name) before))
      | inr long ↦ let at : j ≡ i = omega (arith, most, long) in subst (λ n. is_before name (get_or rows n d) ≡ true) at before
    ]

-- a name that isn't where it would stand is nowhere
pub stands_nowhere : (rows : List DirectoryRow) (name : List ℕ) (at : ℕ) → AllPairs Before rows → at ≤ length rows → All (λ row. IsBefore row.name name) (take at rows)
    → ((other : DirectoryRow) → at < length rows → ¬ IsBefore (get_or rows at other).name name) → ((other : DirectoryRow) → at < length rows → (get_or rows at other).name ≢ name) → LacksName rows name
stands_nowhere rows name at order within front behind there k d low same =
    elim (cases_lt k at) [
      | inl lt ↦ apart (get_or rows k d).name name
          (subst (λ (row : DirectoryRow). IsBefore row.name name) (get_or-take at rows k d lt) (front k d (omega (arith, lt, length-take-le at rows within)))) same
      | inr most ↦ elim (cases_lt at k) [
        | inl gt ↦ behind d (omega (arith, gt, low)) (subst (λ (n : List ℕ). IsBefore (get_or rows at d).name n) same (order at k d gt low))
        | inr long ↦ let is : k ≡ at = omega (arith, most, long) in there d (subst (λ n. n < length rows) is low) (subst (λ n. (get_or rows n d).name ≡ name) is same)
      ]
    ]
