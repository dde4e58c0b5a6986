-- The groups above the committed one, and whether a write of theirs covers a range.
use Rattle.std.proofs.Common.{◌≡◌, ◌⊎◌, ⊎_elim, inl, inr, ℕ, suc, ◌-◌, ◌<◌, ◌≤◌, Bool, true, false, true≢false, List, sym, ap, ◌∙◌, subst, arith}
use Rattle.std.specs.Prelude.{◌↔◌, IsTrue, cond, is_some}
use Rattle.std.proofs.lemmas.Bool.{cases_lt}
use Rattle.pool_model.specs.Groups.{taken_upto}
use Rattle.pool_model.specs.Pools.{Entry, is_snapshot}
use Rattle.pool_model.specs.View.{View, is_syncing, waiting_group, open_group}
use Rattle.volume_rules.specs.declared.shape.VolumeShape.{VolumeShape}
use Rattle.volume_rules.specs.Covering.{AreCovering, IsCovered, IsCoveredBetween}
use Rattle.volume_rules.specs.Overlay.{closed_in}
use Rattle.volume_rules.proofs.Pending.{waits_after, opens_after, taken_above, closed_above}

module _ (v : View) (name : List ℕ) (shape : VolumeShape) (offset len : ℕ) where
  abbrev Between : ℕ → ℕ → Type 0
  Between from to = IsCoveredBetween v name shape offset len from to

  -- what is told of the items of a group
  abbrev Covers : ℕ → Entry → Type 0
  Covers before items = (is_snapshot shape.kind ≡ false) × (shape.group ≤ before) × AreCovering name shape.size offset len items.writes

  one_group : (n before : ℕ) (items : Entry) (b : Bool) → before ≡ n → items ≡ v.ledger (suc n) → (IsTrue b ↔ Covers before items) → IsTrue b ↔ Between n (suc n)
  one_group n before items b at is h = (
    λ t. let known = h.0 t in record {
      writable = known.0;
      group = suc n;
      pending = omega arith;
      accepted = omega arith;
      behind = let low = known.1 in omega arith;
      covering = subst (λ (e : Entry). AreCovering name shape.size offset len e.writes) is known.2;
    },
    λ c.
        let same : c.group ≡ suc n = let low = c.pending in let high = c.accepted in omega arith in
        h.1 (c.writable, (let below = c.behind in omega arith), subst (λ (e : Entry). AreCovering name shape.size offset len e.writes) (ap v.ledger same ∙ sym is) c.covering),
  )

  no_group : (n : ℕ) → IsTrue false ↔ Between n n
  no_group n = (λ t. absurd (true≢false (sym t)), λ c. absurd (let low = c.pending in let high = c.accepted in omega arith))

  pub by_syncing : (before : ℕ) (items : Entry) (b : Bool) → is_syncing v.sync ≡ true → before ≡ v.committed → items ≡ v.ledger (suc v.committed) → (IsTrue b ↔ Covers before items)
      → IsTrue b ↔ Between v.committed (taken_upto v)
  by_syncing before items b s at is h = subst (λ t. IsTrue b ↔ Between v.committed (cond t (suc v.committed) v.committed)) (sym s) (one_group v.committed before items b at is h)

  pub by_no_syncing : is_syncing v.sync ≡ false → IsTrue false ↔ Between v.committed (taken_upto v)
  by_no_syncing s = subst (λ t. IsTrue false ↔ Between v.committed (cond t (suc v.committed) v.committed)) (sym s) (no_group v.committed)

  pub by_waiting : (opened before : ℕ) (items : Entry) (b : Bool) → is_some v.waiting ≡ true → opened ≡ open_group v → before ≡ opened - 2 → items ≡ v.ledger (waiting_group v)
      → (IsTrue b ↔ Covers before items) → IsTrue b ↔ Between (taken_upto v) (closed_in v)
  by_waiting opened before items b w o at is h =
      subst (λ t. IsTrue b ↔ Between (taken_upto v) (cond t (suc (taken_upto v)) (taken_upto v))) (sym w)
      (one_group (taken_upto v) before items b
      (let last : open_group v ≡ suc (suc (taken_upto v)) = ap (λ t. cond t (suc (waiting_group v)) (waiting_group v)) w ∙ ap suc (waits_after v) in omega arith)
      (is ∙ ap v.ledger (waits_after v)) h)

  pub by_no_waiting : is_some v.waiting ≡ false → IsTrue false ↔ Between (taken_upto v) (closed_in v)
  by_no_waiting w = subst (λ t. IsTrue false ↔ Between (taken_upto v) (cond t (suc (taken_upto v)) (taken_upto v))) (sym w) (no_group (taken_upto v))

  pub by_open : (opened before : ℕ) (items : Entry) (b : Bool) → opened ≡ open_group v → before ≡ opened - 1 → items ≡ v.ledger (open_group v) → (IsTrue b ↔ Covers before items)
      → IsTrue b ↔ Between (closed_in v) (open_group v)
  by_open opened before items b o at is h =
      let last = opens_after v in
      subst (λ n. IsTrue b ↔ Between (closed_in v) n) (sym last) (one_group (closed_in v) before items b (omega arith) (is ∙ ap v.ledger last) h)

  wider : (from to low high : ℕ) → low ≤ from → to ≤ high → Between from to → Between low high
  wider from to low high le more c = record {
    writable = c.writable;
    group = c.group;
    pending = let p = c.pending in omega arith;
    accepted = let a = c.accepted in omega arith;
    behind = c.behind;
    covering = c.covering;
  }

  part : (from to : ℕ) (c : Between v.committed (open_group v)) → from < c.group → c.group ≤ to → Between from to
  part from to c low high = record { writable = c.writable; group = c.group; pending = low; accepted = high; behind = c.behind; covering = c.covering }

  -- a pending group is the one that is synced, the waiting one or the open one
  pub any_pending : (Between v.committed (taken_upto v) → IsCovered v name shape offset len)
      × (Between (taken_upto v) (closed_in v) → IsCovered v name shape offset len)
      × (Between (closed_in v) (open_group v) → IsCovered v name shape offset len)
      × (IsCovered v name shape offset len → Between v.committed (taken_upto v) ⊎ (Between (taken_upto v) (closed_in v) ⊎ Between (closed_in v) (open_group v)))
  any_pending =
      let taken = taken_above v in
      let closed = closed_above v in
      let opened = opens_after v in (
        wider v.committed (taken_upto v) v.committed (open_group v) (omega arith) (omega arith),
        wider (taken_upto v) (closed_in v) v.committed (open_group v) (omega arith) (omega arith),
        wider (closed_in v) (open_group v) v.committed (open_group v) (omega arith) (omega arith),
        λ c. ⊎_elim
            (λ past. ⊎_elim
            (λ last. inr (inr (part (closed_in v) (open_group v) c last c.accepted)))
            (λ not_last. inr (inl (part (taken_upto v) (closed_in v) c past (let n = not_last in omega arith))))
            (cases_lt (closed_in v) c.group))
            (λ not_past. inl (part v.committed (taken_upto v) c c.pending (let n = not_past in omega arith)))
            (cases_lt (taken_upto v) c.group),
      )
