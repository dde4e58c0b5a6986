-- An object has one table.
use Rattle.std.proofs.Common.{◌≡◌, ℕ, ◌+◌, ◌-◌, ◌*◌, List, [], ◌∷◌, ◌++◌, replicate, Option, Some, refl, sym, ap, subst, ◌∙◌}
use Rattle.words.specs.Words.{word_bytes}
use Rattle.words.proofs.WordLemmas.{length-word_bytes}
use Rattle.dnode_tree.proofs.Spellings.{at_word, parts_same, words_same}
use Rattle.objset.specs.Objects.{Object}
use Rattle.object_table.specs.declared.kind.TableKind.{TableKind}
use Rattle.object_table.specs.declared.shape.RowShape.{RowShape}
use Rattle.object_table.specs.Rows.{SpellsRows}
use Rattle.object_table.specs.Tables.{HasTable, IsTableTo, bytes_to}

rows_once : (shape : RowShape) (bytes rows others : List ℕ) → SpellsRows shape bytes rows → SpellsRows shape bytes others → rows ≡ others
rows_once shape bytes rows others one two =
    let blank : List ℕ = replicate (shape.first_len - 8) 0 in
    let first = parts_same (word_bytes (one.count ∷ [])) (word_bytes (two.count ∷ [])) (blank ++ (rows ++ replicate one.zeros 0)) (blank ++ (others ++ replicate two.zeros 0))
    (length-word_bytes (one.count ∷ []) ∙ sym (length-word_bytes (two.count ∷ []))) (sym one.spelled ∙ two.spelled) in
    let count : one.count ≡ two.count = at_word 0 (one.count ∷ []) (two.count ∷ []) (words_same (one.count ∷ []) (two.count ∷ []) (one.small, tt) (two.small, tt) first.0) in
    let behind = parts_same blank blank (rows ++ replicate one.zeros 0) (others ++ replicate two.zeros 0) refl first.1 in
    (parts_same rows others (replicate one.zeros 0) (replicate two.zeros 0) (one.are_rows ∙ ap (λ n. n * shape.row_len) count ∙ sym two.are_rows) behind.1).0

pub table_once : (kind : TableKind) (object : Option Object) (rows others : List ℕ) → HasTable kind object rows → HasTable kind object others → rows ≡ others
table_once kind object rows others one two =
    let there : one.there ≡ two.there = let e : Some one.there ≡ Some two.there = sym one.is ∙ two.is in cc in
    let table = subst (λ (o : Object). IsTableTo kind.rows o.highest o.array rows) there one.table in
    rows_once kind.rows (bytes_to two.there.array (two.there.highest + 1)) rows others table.spelled two.table.spelled
