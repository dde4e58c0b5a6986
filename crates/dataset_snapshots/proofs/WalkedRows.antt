-- The datasets of rows, walked one after the other.
use Rattle.std.proofs.Common.{◌≡◌, ℕ, ◌+◌, ◌<◌, ◌≤◌, List, [], ◌∷◌, ◌++◌, length, take, drop, get_or, inl, inr, refl, sym, ap, ◌∙◌, subst, append_assoc, arith}
use Rattle.std.specs.Prelude.{not, ◌==◌}
use Rattle.std.proofs.lemmas.List.{append-nil, length-append, take-append-drop, take_more}
use Rattle.std.proofs.lemmas.List.Sums.{count_by-le-length}
use Rattle.block_pointer.specs.declared.block.Block.{Block}
use Rattle.block_store.specs.Spaces.{VdevSpace}
use Rattle.block_store.specs.Steps.{OnlyReadsBlocks}
use Rattle.block_store.specs.Store.{Store}
use Rattle.dnode.specs.declared.object_set.ObjectSet.{ObjectSet}
use Rattle.meta_objset.specs.declared.directory.DirectoryRow.{DirectoryRow}
use Rattle.object_table.proofs.Tables.{spaces_stay}
use Rattle.objset.specs.Within.{IsSetWalked}
use Rattle.objset.specs.Younger.{IsYoungerSetWalked}
use Rattle.volume.specs.declared.volume.VolumeSet.{VolumeSet}
use Rattle.volume.specs.Younger.{IsYoungerVolumeWalked}
use Rattle.dataset_snapshots.specs.Reach.{AreRowsWalked, IsDatasetWalked}

-- ---- what was walked

module _ (spaces : List VdevSpace) (set : ObjectSet) (birth : ℕ) where
  rows_more : (rows : List DirectoryRow) (row : DirectoryRow) (before mid after : ℕ) (found more : List Block) → AreRowsWalked spaces set birth rows before mid found
      → IsDatasetWalked spaces set birth row.object mid after more → AreRowsWalked spaces set birth (rows ++ row ∷ []) before after (found ++ more)
  rows_more [] row before mid after found more walked next = (
    after,
    more,
    [],
    subst (λ n. IsDatasetWalked spaces set birth row.object n after more) (sym walked.0) next,
    (refl, refl),
    ap (λ front. front ++ more) walked.1 ∙ sym (append-nil more),
  )
  rows_more (first ∷ rows) row before mid after found more (left, part, rest, one, walked, is) next = (
    left,
    part,
    rest ++ more,
    one,
    rows_more rows row left mid after rest more walked next,
    ap (λ front. front ++ more) is ∙ append_assoc part rest more,
  )

  one_row_more : (rows : List DirectoryRow) (k : ℕ) (row other : DirectoryRow) (before mid after : ℕ) (found more now : List Block) → k < length rows → row ≡ get_or rows k other
      → AreRowsWalked spaces set birth (take k rows) before mid found → IsDatasetWalked spaces set birth row.object mid after more → now ≡ found ++ more
      → AreRowsWalked spaces set birth (take (k + 1) rows) before after now
  one_row_more rows k row other before mid after found more now low is walked next now_is =
      let taken : take k rows ++ row ∷ [] ≡ take (k + 1) rows = ap (λ (r : DirectoryRow). take k rows ++ r ∷ []) is ∙ sym (take_more rows k other low) in
      let more_rows : AreRowsWalked spaces set birth (take k rows ++ row ∷ []) before after (found ++ more) = rows_more (take k rows) row before mid after found more walked next in
      subst (λ bs. AreRowsWalked spaces set birth (take (k + 1) rows) before after bs) (sym now_is)
      (subst (λ rs. AreRowsWalked spaces set birth rs before after (found ++ more)) taken more_rows)

  -- no more blocks were read than were found
  pub set_few : (before after : ℕ) (found : List Block) → IsSetWalked spaces set birth before after found → before ≤ after + length found
  set_few before after found walked =
      omega (
        arith,
        walked.count,
        count_by-le-length (λ (b : Block). not (b.property.level == 0)) walked.below,
        length-append walked.own walked.below,
        ap length walked.are,
      )

-- one row more, behind reads
pub next_row : (old mid : Store) (missing : List ℕ) (set : ObjectSet) (birth : ℕ) (rows : List DirectoryRow) (k : ℕ) (row other : DirectoryRow) (before left after : ℕ) (found more now : List Block)
    → OnlyReadsBlocks old mid missing → k < length rows → IsDatasetWalked mid.spaces set birth row.object left after more → row ≡ get_or rows k other
    → AreRowsWalked old.spaces set birth (take k rows) before left found → now ≡ found ++ more → AreRowsWalked old.spaces set birth (take (k + 1) rows) before after now
next_row old mid missing set birth rows k row other before left after found more now reads low next is walked now_is =
    one_row_more old.spaces set birth rows k row other before left after found more now low is walked
    (subst (λ spaces. IsDatasetWalked spaces set birth row.object left after more) (spaces_stay old mid missing reads) next) now_is

younger_few : (since : ℕ) (spaces : List VdevSpace) (set : ObjectSet) (birth before after : ℕ) (found : List Block) → IsYoungerSetWalked since spaces set birth before after found
    → before ≤ after + length found
younger_few since spaces set birth before after found walked =
    omega (
      arith,
      walked.count,
      count_by-le-length (λ (b : Block). not (b.property.level == 0)) walked.below,
      length-append walked.own walked.below,
      ap length walked.are,
    )

pub volume_few : (since : ℕ) (spaces : List VdevSpace) (volume : VolumeSet) (birth before after : ℕ) (found : List Block) → IsYoungerVolumeWalked since spaces volume birth before after found
    → before ≤ after + length found
volume_few since spaces volume birth before after found (inl (older, same, none)) = omega (arith, same)
volume_few since spaces volume birth before after found (inr walked) =
    omega (arith, walked.count, younger_few since spaces walked.set volume.block.birth walked.left after walked.below walked.walked, ap length walked.are)

pub rows_few : (spaces : List VdevSpace) (set : ObjectSet) (birth : ℕ) (rows : List DirectoryRow) (before after : ℕ) (found : List Block)
    → AreRowsWalked spaces set birth rows before after found → before ≤ after + length found
rows_few spaces set birth [] before after found walked = omega (arith, walked.0)
rows_few spaces set birth (row ∷ rows) before after found (left, part, rest, one, walked, is) =
    omega (
      arith,
      volume_few one.since spaces one.dataset.volume birth before left part one.walked,
      rows_few spaces set birth rows left after rest walked,
      length-append part rest,
      ap length is,
    )

-- a list by one of its rows
pub at_row : (rows : List DirectoryRow) (k : ℕ) (row other : DirectoryRow) → k < length rows → row ≡ get_or rows k other → rows ≡ take k rows ++ row ∷ drop (k + 1) rows
at_row rows k row other low is =
    let taken : take k rows ++ row ∷ [] ≡ take (k + 1) rows = ap (λ (r : DirectoryRow). take k rows ++ r ∷ []) is ∙ sym (take_more rows k other low) in
    sym (take-append-drop (k + 1) rows) ∙ ap (λ front. front ++ drop (k + 1) rows) (sym taken) ∙ append_assoc (take k rows) (row ∷ []) (drop (k + 1) rows)
