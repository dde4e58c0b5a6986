-- What is reached once there is a dataset more, all of whose blocks are new.
use Rattle.std.proofs.Common.{◌≡◌, ◌≢◌, ℕ, zero, suc, ◌+◌, ◌<◌, Bool, true, List, [], ◌∷◌, ◌++◌, cond, nat_lt, Contains, inl, inr, refl, sym, ap, ◌∙◌, arith}
use Rattle.std.specs.Prelude.{insert}
use Rattle.std.specs.List.{count_by, flat_map}
use Rattle.std.proofs.lemmas.Bool.Decides.{nat_tests}
use Rattle.block_pointer.specs.declared.block.Block.{Block}
use Rattle.block_store.specs.Blocks.{Contents}
use Rattle.dataset_destroys.specs.ChainMaking.{volume_with}
use Rattle.dead_list.specs.Datasets.{Dataset, Free, Pool, Snapshot, group_before}
use Rattle.dead_list.specs.Operations.{IsUnused, with_dataset}
use Rattle.dead_list.specs.Reach.{born_after, own_of}
use Rattle.dead_list.specs.Sound.{IsSound}
use Rattle.dead_list.proofs.Updates.{other_at, same_at}
use Rattle.dnode_tree.proofs.Exchanging.{count_by-append}
use Rattle.meta_objset.specs.declared.directory.DirectoryRow.{DirectoryRow}
use Rattle.dataset_groups.specs.Leaving.{IsReachExchanged}
use Rattle.dataset_groups.specs.Names.{objects_of_rows, reach_by}
use Rattle.dataset_groups.proofs.Exchanges.{given_as}
use Rattle.dataset_groups.proofs.ListParts.{is_first, is_later}

-- ---- one dataset

is_after : (group birth : ℕ) → group < birth → nat_lt group birth ≡ true
is_after group birth less = grind (arith, nat_tests)

-- all of these were born after the group
all_born : (group : ℕ) (blocks : List Block) → ((block : Block) → Contains blocks block → group < block.birth) → born_after group blocks ≡ blocks
all_born group [] young = refl
all_born group (block ∷ blocks) young =
    ap (λ t. cond t (block ∷ born_after group blocks) (born_after group blocks)) (is_after group block.birth (young block (is_first block blocks)))
    ∙ ap (λ (rest : List Block). block ∷ rest) (all_born group blocks (λ other held. young other (is_later block other blocks held)))

module _ (pool : Pool) (sound : IsSound pool) (n : ℕ) (unused : IsUnused pool.datasets n) (blocks : List Block) where
  abbrev pub with_new : Pool
  with_new = with_dataset pool n (volume_with pool blocks)

  pub there : with_new.datasets n ≡ volume_with pool blocks
  there = same_at pool.datasets n (volume_with pool blocks)

  pub elsewhere : (m : ℕ) → m ≢ n → with_new.datasets m ≡ pool.datasets m
  elsewhere m ne = other_at pool.datasets n (volume_with pool blocks) m ne

  none_before : group_before with_new.datasets n ≡ 0
  none_before =
      ap (λ k. (with_new.datasets k).group) (ap (λ (d : Dataset). d.before) there)
      ∙ ap (λ (d : Dataset). d.group) (elsewhere 0 (λ e. unused.0 (sym e)) ∙ sound.none)

  pub own_there : ((block : Block) → Contains blocks block → 0 < block.birth) → own_of with_new.datasets n ≡ blocks
  own_there young =
      ap (λ g. born_after g (with_new.datasets n).blocks) none_before ∙ ap (λ (d : Dataset). born_after 0 d.blocks) there ∙ all_born 0 blocks young

  not_before : (m : ℕ) → (pool.datasets m).before ≢ n
  not_before m e = elim (sound.linked m) [
    | inl first ↦ unused.0 (sym e ∙ first)
    | inr link ↦
        let clash : Snapshot ≡ Free = sym (ap (λ k. (pool.datasets k).kind) (sym e) ∙ link.0) ∙ ap (λ (d : Dataset). d.kind) unused.1 in
        absurd cc
  ]

  pub own_elsewhere : (m : ℕ) → m ≢ n → own_of with_new.datasets m ≡ own_of pool.datasets m
  own_elsewhere m ne =
      ap (λ (d : Dataset). born_after (with_new.datasets d.before).group d.blocks) (elsewhere m ne)
      ∙ ap (λ (d : Dataset). born_after d.group (pool.datasets m).blocks) (elsewhere (pool.datasets m).before (not_before m))

-- ---- all rows

abbrev listed : (ℕ → List Block) → List DirectoryRow → List Block
listed lists rows = flat_map lists (objects_of_rows rows)

rows_same : (lists new : ℕ → List Block) (rows : List DirectoryRow) → ((row : DirectoryRow) → Contains rows row → new row.object ≡ lists row.object) → listed new rows ≡ listed lists rows
rows_same lists new [] same = refl
rows_same lists new (row ∷ rows) same = λ i. same row (is_first row rows) i ++ rows_same lists new rows (λ other held. same other (is_later row other rows held)) i

-- a row more
listed_with : (lists new : ℕ → List Block) (blocks : List Block) (rows : List DirectoryRow) (row : DirectoryRow) (place : ℕ) → new row.object ≡ blocks
    → ((other : DirectoryRow) → Contains rows other → new other.object ≡ lists other.object) → (test : Block → Bool)
    → count_by test (listed new (insert rows place row)) ≡ count_by test blocks + count_by test (listed lists rows)
listed_with lists new blocks rows row zero is same test =
    omega (arith, count_by-append test (new row.object) (listed new rows), ap (count_by test) is, ap (count_by test) (rows_same lists new rows same))
listed_with lists new blocks [] row (suc place) is same test =
    omega (arith, count_by-append test (new row.object) [], ap (count_by test) is)
listed_with lists new blocks (first ∷ rows) row (suc place) is same test =
    omega (
      arith,
      count_by-append test (new first.object) (listed new (insert rows place row)),
      count_by-append test (lists first.object) (listed lists rows),
      ap (count_by test) (same first (is_first first rows)),
      listed_with lists new blocks rows row place is (λ other held. same other (is_later first other rows held)) test,
    )

pub reach_with : (group : ℕ) (planned later : Contents) (pool : Pool) (sound : IsSound pool) (n : ℕ) (unused : IsUnused pool.datasets n) (blocks : List Block) (rows new_rows : List DirectoryRow)
    (row : DirectoryRow) (place : ℕ) → ((block : Block) → Contains blocks block → 0 < block.birth) → row.object ≡ n → ((other : DirectoryRow) → Contains rows other → other.object ≢ n)
    → new_rows ≡ insert rows place row → IsReachExchanged group planned later [] blocks []
    → IsReachExchanged group planned later (reach_by pool rows) (reach_by (with_new pool sound n unused blocks) new_rows) []
reach_with group planned later pool sound n unused blocks rows new_rows row place young at others are one =
    let new : Pool = with_new pool sound n unused blocks in
    given_as group planned later [] blocks [] (reach_by pool rows) (reach_by new new_rows) [] (reach_by pool rows) [] one
    (λ test. omega arith)
    (λ test.
    ap (λ (rs : List DirectoryRow). count_by test (reach_by new rs)) are
    ∙ listed_with (own_of pool.datasets) (own_of new.datasets) blocks rows row place (ap (own_of new.datasets) at ∙ own_there pool sound n unused blocks young)
    (λ other held. own_elsewhere pool sound n unused blocks other.object (others other held)) test)
    (λ test. omega arith)
