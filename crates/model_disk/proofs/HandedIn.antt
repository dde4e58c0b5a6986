-- The calls that were made on a disk before it was handed in, in the list of all calls.
use Rattle.std.proofs.Common.{◌≡◌, ◌≢◌, ◌<◌, ◌≤◌, ◌∙◌, ℕ, zero, suc, ◌+◌, ◌==◌, Bool, true, false, List, [], ◌∷◌, ◌++◌, length, get_or, map, take, ap, sym, refl, arith}
use Rattle.std.proofs.Math.Seq.{take-suc}
use Rattle.std.proofs.lemmas.List.{append-nil, map-append, get_or-map, take_all, length-map, length-take-le}
use Rattle.model_disk.proofs.JointLemmas.{calls_on-same, calls_on-other, same_if, apart_if}
use Rattle.model_disk.specs.Call.{Call}
use Rattle.model_disk.specs.Joint.{JointCall, on_each, calls_on, log_of}

-- no call on any disk: no call
pub calls_none : (calls : List JointCall) → ((which : ℕ) → [] ≡ calls_on which calls) → calls ≡ []
calls_none [] none = refl
calls_none (made ∷ calls) none = let e : [] ≡ made.call ∷ calls_on made.which calls = none made.which ∙ calls_on-same made.which made.call calls in cc

calls_on-own : (which : ℕ) (log : List Call) (calls : List JointCall) → calls_on which (on_each which log ++ calls) ≡ log ++ calls_on which calls
calls_on-own which [] calls = refl
calls_on-own which (call ∷ log) calls =
    calls_on-same which call (on_each which log ++ calls) ∙ ap (λ rest. call ∷ rest) (calls_on-own which log calls)

calls_on-others : (which other : ℕ) (log : List Call) (calls : List JointCall) → other ≢ which → calls_on other (on_each which log ++ calls) ≡ calls_on other calls
calls_on-others which other [] calls apart = refl
calls_on-others which other (call ∷ log) calls apart =
    calls_on-other which other call (on_each which log ++ calls) apart ∙ calls_on-others which other log calls apart

log_of-last : (logs : List (List Call)) (log : List Call) → log_of (logs ++ log ∷ []) (length logs) ≡ log
log_of-last [] log = refl
log_of-last (first ∷ logs) log = log_of-last logs log

log_of-past : (logs : List (List Call)) → log_of logs (length logs) ≡ []
log_of-past [] = refl
log_of-past (first ∷ logs) = log_of-past logs

log_of-not_last : (logs : List (List Call)) (log : List Call) (which : ℕ) → which ≢ length logs → log_of (logs ++ log ∷ []) which ≡ log_of logs which
log_of-not_last [] log zero apart = absurd (apart refl)
log_of-not_last [] log (suc which) apart = refl
log_of-not_last (first ∷ logs) log zero apart = refl
log_of-not_last (first ∷ logs) log (suc which) apart = log_of-not_last logs log which (λ same. apart (ap suc same))

by_test : (logs : List (List Call)) (log : List Call) (calls : List JointCall) → ((which : ℕ) → log_of logs which ≡ calls_on which calls)
    → (which : ℕ) (test : Bool) → (which == length logs) ≡ test
    → log_of (logs ++ log ∷ []) which ≡ calls_on which (on_each (length logs) log ++ calls)
by_test logs log calls agree which true tested =
    rw (sym (same_if which (length logs) tested))
    (log_of-last logs log ∙ sym (append-nil log) ∙ ap (λ rest. log ++ rest) (sym (log_of-past logs) ∙ agree (length logs))
    ∙ sym (calls_on-own (length logs) log calls))
by_test logs log calls agree which false tested =
    let apart : which ≢ length logs = λ same. apart_if which (length logs) tested (sym same) in
    log_of-not_last logs log which apart ∙ agree which ∙ sym (calls_on-others (length logs) which log calls apart)

-- one more disk, with its calls
pub handed_in : (logs : List (List Call)) (log : List Call) (calls : List JointCall) → ((which : ℕ) → log_of logs which ≡ calls_on which calls)
    → (which : ℕ) → log_of (logs ++ log ∷ []) which ≡ calls_on which (on_each (length logs) log ++ calls)
handed_in logs log calls agree which = by_test logs log calls agree which (which == length logs) refl

-- the next disk of a list
pub handed_next : {D : Type 0} (calls : D → List Call) (disks : List D) (i : ℕ) (disk : D) (before after : List JointCall)
    → i < length disks → disk ≡ get_or disks i disk → after ≡ on_each i (calls disk) ++ before
    → ((which : ℕ) → log_of (take i (map calls disks)) which ≡ calls_on which before)
    → (which : ℕ) → log_of (take (i + 1) (map calls disks)) which ≡ calls_on which after
handed_next calls disks i disk before after below is grew agree which =
    let logs = map calls disks in
    let inside : i < length logs = omega (arith, length-map disks calls) in
    let count : length (take i logs) ≡ i = length-take-le i logs (omega arith) in
    let sum : i + 1 ≡ suc i = omega arith in
    let next : take (i + 1) logs ≡ take i logs ++ calls disk ∷ [] =
    ap (λ n. take n logs) sum ∙ take-suc logs i [] inside
    ∙ ap (λ log. take i logs ++ log ∷ []) (get_or-map calls disks i disk [] below ∙ ap calls (sym is)) in
    ap (λ l. log_of l which) next ∙ handed_in (take i logs) (calls disk) before agree which
    ∙ ap (λ n. calls_on which (on_each n (calls disk) ++ before)) count ∙ ap (calls_on which) (sym grew)

-- one disk behind the others
pub handed_last : {D : Type 0} (calls : D → List Call) (disks more : List D) (disk : D) (n : ℕ) (before after : List JointCall)
    → more ≡ disks ++ disk ∷ [] → n ≡ length disks → after ≡ on_each n (calls disk) ++ before
    → ((which : ℕ) → log_of (map calls disks) which ≡ calls_on which before)
    → (which : ℕ) → log_of (map calls more) which ≡ calls_on which after
handed_last calls disks more disk n before after are count grew agree which =
    let same : length (map calls disks) ≡ n = length-map disks calls ∙ sym count in
    ap (λ l. log_of (map calls l) which) are ∙ ap (λ l. log_of l which) (map-append calls disks (disk ∷ []))
    ∙ handed_in (map calls disks) (calls disk) before agree which
    ∙ ap (λ k. calls_on which (on_each k (calls disk) ++ before)) same ∙ ap (calls_on which) (sym grew)

-- all of them, of which none was called before
pub handed_none : (logs : List (List Call)) (n : ℕ) (calls : List JointCall) → length logs ≤ n
    → ((which : ℕ) → log_of (take n logs) which ≡ calls_on which calls) → ((which : ℕ) → log_of logs which ≡ []) → calls ≡ []
handed_none logs n calls all agree none =
    calls_none calls (λ which. sym (none which) ∙ ap (λ l. log_of l which) (sym (take_all n logs all)) ∙ agree which)
