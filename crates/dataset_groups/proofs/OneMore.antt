-- A pool with a dataset more.
use Rattle.std.proofs.Common.{◌≡◌, ◌≢◌, ℕ, ap, ◌∙◌}
use Rattle.dead_list.specs.Datasets.{Dataset, Free, Kind, Pool, nothing}
use Rattle.dead_list.specs.Operations.{IsUnused, with_dataset}
use Rattle.dead_list.proofs.Updates.{other_at, same_at}

-- a dataset of this kind came in the pool's group, at a number that stood for none; the others keep their kinds and their groups
pub record IsOneMore (pool after : Pool) (n : ℕ) (kind : Kind) : Type 0 where
  pub unused : IsUnused pool.datasets n
  pub some_before : (m : ℕ) → m ≢ n → after.datasets m ≢ nothing → pool.datasets m ≢ nothing
  pub kinds : (m : ℕ) → m ≢ n → (after.datasets m).kind ≡ (pool.datasets m).kind
  pub groups : (m : ℕ) → m ≢ n → (after.datasets m).group ≡ (pool.datasets m).group
  pub new_kind : (after.datasets n).kind ≡ kind
  pub new_group : (after.datasets n).group ≡ pool.group

-- a dataset doesn't have the new number
pub not_new_number : (pool : Pool) (n m : ℕ) → IsUnused pool.datasets n → (pool.datasets m).kind ≢ Free → m ≢ n
not_new_number pool n m unused some e = some (ap (λ (k : ℕ). (pool.datasets k).kind) e ∙ ap (λ (d : Dataset). d.kind) unused.1)

-- a volume or a clone is put there
pub one_with : (pool : Pool) (n : ℕ) (d : Dataset) → IsUnused pool.datasets n → d.group ≡ pool.group → IsOneMore pool (with_dataset pool n d) n d.kind
one_with pool n d unused in_group =
    let elsewhere : (m : ℕ) → m ≢ n → (with_dataset pool n d).datasets m ≡ pool.datasets m = λ m other. other_at pool.datasets n d m other in
    record {
      unused = unused;
      some_before = λ m other some none. some (elsewhere m other ∙ none);
      kinds = λ m other. ap (λ (x : Dataset). x.kind) (elsewhere m other);
      groups = λ m other. ap (λ (x : Dataset). x.group) (elsewhere m other);
      new_kind = ap (λ (x : Dataset). x.kind) (same_at pool.datasets n d);
      new_group = ap (λ (x : Dataset). x.group) (same_at pool.datasets n d) ∙ in_group;
    }
