-- A pool with a snapshot more.
use Rattle.std.proofs.Common.{◌≡◌, ◌≢◌, ℕ, inl, inr, sym, ap, ◌∙◌}
use Rattle.std.proofs.lemmas.Bool.{cases_eq}
use Rattle.dead_list.specs.Datasets.{Dataset, Free, Head, Pool, Snapshot, nothing, updated}
use Rattle.dead_list.specs.Operations.{IsHead, IsUnused, head_after, snapshot_of, with_snapshot}
use Rattle.dead_list.proofs.Updates.{other_at, same_at}
use Rattle.dataset_groups.proofs.OneMore.{IsOneMore}

module _ (pool : Pool) (head n : ℕ) (is : IsHead pool.datasets head) (unused : IsUnused pool.datasets n) where
  abbrev pub taken : ℕ → Dataset
  taken = (with_snapshot pool head n).datasets

  abbrev with_new : ℕ → Dataset
  with_new = updated pool.datasets n (snapshot_of pool.group (pool.datasets head))

  not_head : (m : ℕ) → pool.datasets m ≡ nothing → m ≢ head
  not_head m none e =
      let clash : Free ≡ Head = sym (ap (λ (d : Dataset). d.kind) none) ∙ ap (λ k. (pool.datasets k).kind) e ∙ is in
      absurd cc

  -- the snapshot is there
  pub at_new : taken n ≡ snapshot_of pool.group (pool.datasets head)
  at_new =
      other_at with_new head (head_after n (pool.datasets head)) n (not_head n unused.1)
      ∙ same_at pool.datasets n (snapshot_of pool.group (pool.datasets head))

  pub at_head : taken head ≡ head_after n (pool.datasets head)
  at_head = same_at with_new head (head_after n (pool.datasets head))

  pub at_other : (m : ℕ) → m ≢ head → m ≢ n → taken m ≡ pool.datasets m
  at_other m nh nn =
      other_at with_new head (head_after n (pool.datasets head)) m nh
      ∙ other_at pool.datasets n (snapshot_of pool.group (pool.datasets head)) m nn

  -- the others keep their kinds and their groups
  kind_kept : (m : ℕ) → m ≢ n → (taken m).kind ≡ (pool.datasets m).kind
  kind_kept m nn = elim (cases_eq m head) [
    | inl e ↦ ap (λ (k : ℕ). (taken k).kind) e ∙ ap (λ (d : Dataset). d.kind) at_head ∙ ap (λ (k : ℕ). (pool.datasets k).kind) (sym e)
    | inr nh ↦ ap (λ (d : Dataset). d.kind) (at_other m nh nn)
  ]

  group_kept : (m : ℕ) → m ≢ n → (taken m).group ≡ (pool.datasets m).group
  group_kept m nn = elim (cases_eq m head) [
    | inl e ↦ ap (λ (k : ℕ). (taken k).group) e ∙ ap (λ (d : Dataset). d.group) at_head ∙ ap (λ (k : ℕ). (pool.datasets k).group) (sym e)
    | inr nh ↦ ap (λ (d : Dataset). d.group) (at_other m nh nn)
  ]

  pub one_taken : IsOneMore pool (with_snapshot pool head n) n Snapshot
  one_taken = record {
    unused = unused;
    some_before = λ m nn some none. some (at_other m (not_head m none) nn ∙ none);
    kinds = kind_kept;
    groups = group_kept;
    new_kind = ap (λ (d : Dataset). d.kind) at_new;
    new_group = ap (λ (d : Dataset). d.group) at_new;
  }
