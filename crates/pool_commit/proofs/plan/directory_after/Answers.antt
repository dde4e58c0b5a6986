use Rattle.std.proofs.Common.{◌≡◌, ◌&&◌, nat_eq, ap, sym, ◌∙◌, refl}
use Rattle.std.specs.Bool.{Decides}
use Rattle.std.specs.Cmp.Lexicographic.{pointwise}
use Rattle.std.proofs.lemmas.Bool.Decides.{Decides-and, Decides-eqb}
use Rattle.std.proofs.lemmas.Result.{IfOk-weaker}
use Rattle.std.proofs.lemmas.Slice.Eq.{bytes_eq-Decides, slice_eq-Decides}
use Rattle.meta_objset.specs.declared.directory.DirectoryRow.{DirectoryRow}
use Rattle.pool_commit.proofs.plan.directory_after.Goals as goal

-- `==` of rows tells whether they are the same
row_decides : (a b : DirectoryRow) → Decides (pointwise nat_eq a.name b.name && nat_eq a.object b.object) (a ≡ b)
row_decides a b =
    let both = Decides-and (pointwise nat_eq a.name b.name) (nat_eq a.object b.object) (bytes_eq-Decides a.name b.name) (Decides-eqb a.object b.object) in (
      λ yes. let parts = both.0 yes in let name = parts.0 in let object = parts.1 in (λ i. record { name = name i; object = object i }),
      λ same. both.1 (ap (λ (row : DirectoryRow). row.name) same, ap (λ (row : DirectoryRow). row.object) same),
    )

pub returns-then-eq : goal.returns-then-eq
returns-then-eq c =
    let same = (slice_eq-Decides row_decides _ _ _ c.if-eq.ensures).0 refl in
    IfOk-weaker c.try_clone.result _ _ (λ after is. is ∙ sym c.as_ref.ensures ∙ sym c.rows.ensures.value ∙ same ∙ c.rows-2.ensures.value) c.try_clone.ensures
