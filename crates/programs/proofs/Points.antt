-- Numbers of disks, and replies that are counted.
use Rattle.std.proofs.Common.{◌≡◌, ◌+◌, ◌<◌, ◌||◌, ℕ, nat_eq, take, get_or, List, [], ◌∷◌, ◌++◌, length, filter, Bool, true, false, if◌then◌else◌, ap, ◌∙◌, length-append}
use Rattle.std.proofs.lemmas.List.Elements.{filter-append}
use Rattle.std.proofs.lemmas.List.Folds.{list_any_more}
use Rattle.pool_model.specs.declared.step.Phase.{Phase}
use Rattle.pool_model.specs.declared.step.Reply.{Reply}
use Rattle.programs.specs.Stops.{count_moved, is_left_out, is_moved}

one_counted : (phase : Phase) (reply : Reply) (b : Bool) → is_moved phase reply ≡ b → count_moved phase (reply ∷ []) ≡ (if b then 1 else 0)
one_counted phase reply true same = rw same
one_counted phase reply false same = rw same

-- one reply more
pub counts_more : (phase : Phase) (replies : List Reply) (reply : Reply) (b : Bool) → is_moved phase reply ≡ b
    → count_moved phase (replies ++ reply ∷ []) ≡ count_moved phase replies + (if b then 1 else 0)
counts_more phase replies reply b same =
    ap length (filter-append (is_moved phase) replies (reply ∷ []))
    ∙ (length-append (filter (is_moved phase) replies) (filter (is_moved phase) (reply ∷ []))
    ∙ ap (λ n. count_moved phase replies + n) (one_counted phase reply b same))

-- one absent disk more, which is another
pub left_out_more : (absent : List ℕ) (i number : ℕ) → i < length absent → is_left_out (take i absent) number ≡ false → nat_eq (get_or absent i 0) number ≡ false
    → is_left_out (take (i + 1) absent) number ≡ false
left_out_more absent i number below so_far other = list_any_more (λ n. nat_eq n number) absent i 0 below ∙ (let both : (is_left_out (take i absent) number || nat_eq (get_or absent i 0) number) ≡ false = cc in both)
