-- Disks that are told to fail, and what is kept of them.
use Rattle.std.proofs.Common.{◌≡◌, ◌+◌, ◌<◌, ℕ, suc, List, [], ◌∷◌, ◌++◌, length, Bool, true, false, not, if◌then◌else◌, take, get_or, refl, sym, ap, ◌∙◌, subst, arith}
use Rattle.std.proofs.lemmas.List.Sums.{sum_by-cons}
use Rattle.std.proofs.lemmas.List.{append-nil, length-take, take_more}
use Rattle.model_disk.specs.Call.{Call, failures, is_failed}
use Rattle.model_disk.specs.Faults.{FailsWhenDue, is_due, kind_of, next_number, passed_on}
use Rattle.model_disk.specs.Member.{disk_of}
use Rattle.model_disk.specs.declared.fault.Fault.{Fault}
use Rattle.model_disk.specs.declared.member.Member.{Member}
use Rattle.model_disk.specs.declared.memory.MemDisk.{MemDisk}
use Rattle.programs.specs.ClaimStops.{AreKept, AreTold, IsKept, IsTold, ToldDisk, done}
use Rattle.programs.specs.DisksKept.{present, present_from}
use Rattle.programs.specs.Stops.{is_left_out}
use Rattle.programs.proofs.DisksBack.{present_more}

-- ---- told

-- a disk more
told_more : (reached place : ℕ) (disks : List MemDisk) (all : List ToldDisk) (disk : MemDisk) (told : ToldDisk) → AreTold reached place disks all
    → IsTold reached (place + length all) disk told → AreTold reached place (disks ++ disk ∷ []) (all ++ told ∷ [])
told_more reached place [] [] disk told are one =
    let same : place + 0 ≡ place = omega arith in
    (subst (λ n. IsTold reached n disk told) same one, tt)
told_more reached place (d ∷ disks) (t ∷ all) disk told are one =
    let same : place + suc (length all) ≡ suc place + length all = omega arith in
    (are.0, told_more reached (suc place) disks all disk told are.1 (subst (λ n. IsTold reached n disk told) same one))
told_more reached place [] (t ∷ all) disk told are one = absurd are
told_more reached place (d ∷ disks) [] disk told are one = absurd are

told_then : (reached : ℕ) (disks : List MemDisk) (disk : MemDisk) (all later : List ToldDisk) (b : Bool) → AreTold reached 0 disks all → (b ≡ true → later ≡ all)
    → (b ≡ false → (told : ToldDisk) × IsTold reached (length all) disk told × (later ≡ all ++ told ∷ []))
    → AreTold reached 0 (disks ++ (if b then [] else disk ∷ [])) later
told_then reached disks disk all later true so_far out in_use =
    subst (λ l. AreTold reached 0 l later) (sym (append-nil disks)) (subst (λ l. AreTold reached 0 disks l) (sym (out refl)) so_far)
told_then reached disks disk all later false so_far out in_use =
    let one = in_use refl in
    let same : length all ≡ 0 + length all = omega arith in
    subst (λ l. AreTold reached 0 (disks ++ disk ∷ []) l) (sym one.2)
    (told_more reached 0 disks all disk one.0 so_far (subst (λ n. IsTold reached n disk one.0) same one.1))

-- one place more
pub told_step : (reached : ℕ) (absent : List ℕ) (disks : List MemDisk) (i : ℕ) (disk : MemDisk) (all later : List ToldDisk) (b : Bool) → i < length disks → disk ≡ get_or disks i disk
    → b ≡ is_left_out absent i → AreTold reached 0 (present absent (take i disks)) all
    → (b ≡ true → later ≡ all) → (b ≡ false → (told : ToldDisk) × IsTold reached (length all) disk told × (later ≡ all ++ told ∷ []))
    → AreTold reached 0 (present absent (take (i + 1) disks)) later
told_step reached absent disks i disk all later b below is test so_far out in_use =
    let took : take (i + 1) disks ≡ take i disks ++ disk ∷ [] = take_more disks i disk below ∙ ap (λ d. take i disks ++ d ∷ []) (sym is) in
    let place : i ≡ 0 + length (take i disks) = let counted = length-take i disks in omega (arith, counted, below) in
    let more = ap (present_from 0 absent) took ∙ present_more 0 absent (take i disks) disk
    ∙ ap (λ t. present_from 0 absent (take i disks) ++ (if t then [] else disk ∷ [])) (sym (test ∙ ap (is_left_out absent) place)) in
    subst (λ l. AreTold reached 0 l later) (sym more) (told_then reached (present_from 0 absent (take i disks)) disk all later b so_far out in_use)

-- ---- kept

-- a child more
pub kept_more : (told : List (Member ToldDisk)) (kept : List (Member MemDisk)) (one : Member ToldDisk) (other : Member MemDisk) → AreKept told kept → IsKept (disk_of one) (disk_of other)
    → AreKept (told ++ one ∷ []) (kept ++ other ∷ [])
kept_more [] [] one other are is = (is, tt)
kept_more (t ∷ told) (k ∷ kept) one other are is = (are.0, kept_more told kept one other are.1 is)
kept_more [] (k ∷ kept) one other are is = absurd are
kept_more (t ∷ told) [] one other are is = absurd are

-- what failed was not passed on, and what was passed on didn't fail

counts : (b : Bool) (n : ℕ) → (if b then 1 else 0) + n ≡ 0 → (b ≡ true → ⊥) × (n ≡ 0)
counts true n none = absurd (let no : 1 + n ≡ 0 = none in omega (arith, no))
counts false n none = (λ bad. absurd (let no : false ≡ true = bad in cc), let it : 0 + n ≡ 0 = none in omega (arith, it))

counts_on : (call : Call) (earlier : List Call) → failures (call ∷ earlier) ≡ 0 → (is_failed call ≡ true → ⊥) × (failures earlier ≡ 0)
counts_on call earlier none = counts (is_failed call) (failures earlier) (sym (sum_by-cons (λ c. if is_failed c then 1 else 0) call earlier) ∙ none)

one_more : (call : Call) (earlier passed : List Call) (due failed : Bool) → failed ≡ is_failed call → (due ≡ true → failed ≡ true)
    → failures (if due then passed else call ∷ passed) ≡ 0 → (failures passed ≡ 0 → passed ≡ done earlier)
    → (if due then passed else call ∷ passed) ≡ (if not failed then call ∷ done earlier else done earlier)
one_more call earlier passed true true is fail none rest = rest none
one_more call earlier passed true false is fail none rest = absurd (let no : false ≡ true = fail refl in cc)
one_more call earlier passed false true is fail none rest = absurd ((counts_on call passed none).0 (sym is))
one_more call earlier passed false false is fail none rest = ap (λ (l : List Call). call ∷ l) (rest (counts_on call passed none).1)

pub none_failed : (it : Fault) (calls : List Call) → FailsWhenDue it calls → failures (passed_on it calls) ≡ 0 → passed_on it calls ≡ done calls
none_failed it [] fail none = refl
none_failed it (call ∷ earlier) fail none =
    one_more call earlier (passed_on it earlier) (is_due it (kind_of call) (next_number it earlier)) (is_failed call) refl fail.0 none (none_failed it earlier fail.1)
