-- Entries and records that are printed one behind the other.
use Rattle.std.proofs.Common.{◌≡◌, ℕ, zero, suc, List, [], ◌∷◌, ◌++◌, Option, Some, None, Result, Ok, Err, OnOk, refl, ap, ◌∙◌, subst, codes}
use Rattle.std.proofs.lemmas.List.{append_assoc}
use Rattle.std.specs.Io.KnownBytes.{Appends, Keeps}
use Rattle.pool_steps.specs.declared.steps.PoolSteps.{Ghosts}
use Rattle.shared_pool.specs.declared.recorded.Entry.{Entry}
use Rattle.thread_runs.specs.Printing.{IsEntryText, WritesEntries, PrintsRecord, PrintsSoMany, PrintsRecords}

-- a line, and a reply behind it
pub two_lines : (line reply first second third : List ℕ) → first ≡ line ++ codes "\n# " → second ≡ first ++ reply → third ≡ second ++ codes "\n"
    → third ≡ line ++ (codes "\n# " ++ (reply ++ codes "\n"))
two_lines line reply first second third a b c =
    c
    ∙ ap (λ (t : List ℕ). t ++ codes "\n") (b ∙ ap (λ (t : List ℕ). t ++ reply) a)
    ∙ append_assoc (line ++ codes "\n# ") reply (codes "\n")
    ∙ append_assoc line (codes "\n# ") (reply ++ codes "\n")

-- ---- the output

pub keeps_same : (o : Option (List ℕ)) → Keeps o o
keeps_same None = tt
keeps_same (Some xs) = refl

keeps_on : (old between new : Option (List ℕ)) → Keeps old between → Keeps between new → Keeps old new
keeps_on None between new k j = tt
keeps_on (Some xs) None new k j = absurd k
keeps_on (Some xs) (Some ys) None k j = absurd j
keeps_on (Some xs) (Some ys) (Some zs) k j = j ∙ k

keeps_appends : (old between new : Option (List ℕ)) (text : List ℕ) → Keeps old between → Appends between new text → Appends old new text
keeps_appends None between new text k a = tt
keeps_appends (Some xs) None new text k a = absurd k
keeps_appends (Some xs) (Some ys) None text k a = absurd a
keeps_appends (Some xs) (Some ys) (Some zs) text k a = a ∙ ap (λ (b : List ℕ). b ++ text) k

pub on_ok : {T E : Type 0} (r : Result T E) (P Q : Type 0) → (P → Q) → OnOk r P → OnOk r Q
on_ok (Ok x) P Q f h = f h
on_ok (Err e) P Q f h = tt

pub in_any_case : {T E : Type 0} (r : Result T E) (P : Type 0) → P → OnOk r P
in_any_case (Ok x) P h = h
in_any_case (Err e) P h = tt

-- ---- entries

-- an entry more
pub writes_more : (entries : List Entry) (e : Entry) (text : List ℕ) (old between new : Option (List ℕ)) → WritesEntries entries old between → IsEntryText e text → Appends between new text
    → WritesEntries (entries ++ e ∷ []) old new
writes_more [] e text old between new written is told = (new, text, is, keeps_appends old between new text written told, keeps_same new)
writes_more (x ∷ entries) e text old between new written is told =
    (written.0, written.1, written.2, written.3, writes_more entries e text written.0 between new written.4 is told)

-- and no more
pub writes_kept : (entries : List Entry) (old between new : Option (List ℕ)) → WritesEntries entries old between → Keeps between new → WritesEntries entries old new
writes_kept [] old between new written kept = keeps_on old between new written kept
writes_kept (x ∷ entries) old between new written kept = (written.0, written.1, written.2, written.3, writes_kept entries written.0 between new written.4 kept)

-- ---- records

module _ {C : Type 0} (g : Ghosts C) where
  pub prints_none : (old : Option (List ℕ)) → PrintsRecords g old old
  prints_none old = (0, refl)

  pub prints_one : (old new : Option (List ℕ)) → PrintsRecord g old new → PrintsRecords g old new
  prints_one old new printed = (1, (old, refl, printed))

  so_many_more : (count more : ℕ) (old between new : Option (List ℕ)) → PrintsSoMany g count old between → PrintsSoMany g more between new → PrintsRecords g old new
  so_many_more count zero old between new before after = (count, subst (λ (o : Option (List ℕ)). PrintsSoMany g count old o) after before)
  so_many_more count (suc more) old between new before after =
      let upto = so_many_more count more old between after.0 before after.1 in
      (suc upto.0, (after.0, upto.1, after.2))

  pub prints_more : (old between new : Option (List ℕ)) → PrintsRecords g old between → PrintsRecords g between new → PrintsRecords g old new
  prints_more old between new before after = so_many_more before.0 after.0 old between new before.1 after.1
