-- Disks that are put back, and copied.
use Rattle.std.proofs.Common.{◌≡◌, ◌+◌, ◌≤◌, ◌<◌, ℕ, suc, List, [], ◌∷◌, ◌++◌, length, Bool, true, false, if◌then◌else◌, Option, Some, None, min, take, get_or, refl, sym, ap, ◌∙◌, subst, length-append, arith}
use Rattle.std.proofs.lemmas.List.{append-nil, length-take, take_more}
use Rattle.std.specs.Prelude.{unwrap_or}
use Rattle.model_disk.specs.Member.{disk_of}
use Rattle.model_disk.specs.declared.memory.MemDisk.{MemDisk}
use Rattle.model_disk.specs.declared.member.Member.{Member}
use Rattle.programs.specs.DisksKept.{AreCopies, IsCopyOf, present, present_from, put_back, put_one}
use Rattle.programs.specs.Stops.{is_left_out}

-- ---- put back

pub put_none : (disks : List MemDisk) → put_back disks [] ≡ disks
put_none [] = refl
put_none (disk ∷ disks) = refl

pub put_length : (disks : List MemDisk) (members : List (Member MemDisk)) → length (put_back disks members) ≡ length disks
put_length [] members = refl
put_length (disk ∷ disks) [] = refl
put_length (disk ∷ disks) (member ∷ members) = ap suc (put_length disks members)

first_put : (found : Option MemDisk) (disk : MemDisk) (disks : List MemDisk) → unwrap_or found disk ∷ disks ≡ put_one found 0 (disk ∷ disks)
first_put None disk disks = refl
first_put (Some other) disk disks = refl

later_put : (found : Option MemDisk) (number : ℕ) (disk : MemDisk) (disks : List MemDisk) → disk ∷ put_one found number disks ≡ put_one found (suc number) (disk ∷ disks)
later_put None number disk disks = refl
later_put (Some other) number disk disks = refl

none_put : (found : Option MemDisk) (number : ℕ) → [] ≡ put_one found number []
none_put None number = refl
none_put (Some disk) number = refl

-- a child more
pub put_more : (disks : List MemDisk) (members : List (Member MemDisk)) (member : Member MemDisk)
    → put_back disks (members ++ member ∷ []) ≡ put_one (disk_of member) (length members) (put_back disks members)
put_more [] members member = none_put (disk_of member) (length members)
put_more (disk ∷ disks) [] member = ap (λ rest. unwrap_or (disk_of member) disk ∷ rest) (put_none disks) ∙ first_put (disk_of member) disk disks
put_more (disk ∷ disks) (m ∷ members) member =
    ap (λ rest. unwrap_or (disk_of m) disk ∷ rest) (put_more disks members member)
    ∙ later_put (disk_of member) (length members) (unwrap_or (disk_of m) disk) (put_back disks members)

-- one behind the last place
pub put_past : (disks : List MemDisk) (members more : List (Member MemDisk)) → length disks ≤ length members → put_back disks (members ++ more) ≡ put_back disks members
put_past [] members more past = refl
put_past (disk ∷ disks) [] more past = absurd (let no : 1 ≤ 0 = omega (arith, past) in omega (arith, no))
put_past (disk ∷ disks) (m ∷ members) more past = ap (λ rest. unwrap_or (disk_of m) disk ∷ rest) (put_past disks members more (omega (arith, past)))

-- ---- copied

if_more : {X : Type 0} (b : Bool) (x : X) (xs ys more : List X) → xs ≡ ys ++ more → (if b then xs else x ∷ xs) ≡ (if b then ys else x ∷ ys) ++ more
if_more true x xs ys more same = same
if_more false x xs ys more same = ap (λ (l : List _). x ∷ l) same

-- a disk more
pub present_more : (number : ℕ) (absent : List ℕ) (disks : List MemDisk) (disk : MemDisk)
    → present_from number absent (disks ++ disk ∷ []) ≡ present_from number absent disks ++ (if is_left_out absent (number + length disks) then [] else disk ∷ [])
present_more number absent [] disk = let same : number ≡ number + 0 = omega arith in ap (λ n. if is_left_out absent n then [] else disk ∷ []) same
present_more number absent (d ∷ disks) disk =
    let same : suc number + length disks ≡ number + suc (length disks) = omega arith in
    if_more (is_left_out absent number) d (present_from (suc number) absent (disks ++ disk ∷ [])) (present_from (suc number) absent disks)
    (if is_left_out absent (number + suc (length disks)) then [] else disk ∷ [])
    (present_more (suc number) absent disks disk ∙ ap (λ n. present_from (suc number) absent disks ++ (if is_left_out absent n then [] else disk ∷ [])) same)

pub copies_more : (disks copies : List MemDisk) (disk copy : MemDisk) → AreCopies disks copies → IsCopyOf disk copy → AreCopies (disks ++ disk ∷ []) (copies ++ copy ∷ [])
copies_more [] [] disk copy all one = (one, tt)
copies_more (d ∷ disks) (c ∷ copies) disk copy all one = (all.0, copies_more disks copies disk copy all.1 one)
copies_more [] (c ∷ copies) disk copy all one = absurd all
copies_more (d ∷ disks) [] disk copy all one = absurd all

-- ---- so far

-- one behind the last place, of which each has its disk
pub past_more : (disks now : List MemDisk) (members : List (Member MemDisk)) (number : ℕ) (member : Member MemDisk)
    → (now ≡ put_back disks members) × (length now ≡ length disks) × (number ≡ min (length members) (length disks)) → length now ≤ number
    → (now ≡ put_back disks (members ++ member ∷ [])) × (length now ≡ length disks) × (number ≡ min (length (members ++ member ∷ [])) (length disks))
past_more disks now members number member so_far past =
    let counted = length-append members (member ∷ []) in (
      so_far.0 ∙ sym (put_past disks members (member ∷ []) (omega (arith, so_far.1, so_far.2, past))),
      so_far.1,
      omega (arith, counted, so_far.1, so_far.2, past),
    )

copies_then : (absent : List ℕ) (disks : List MemDisk) (i : ℕ) (disk : MemDisk) (copies later : List MemDisk) (b : Bool)
    → AreCopies (present_from 0 absent disks) copies → (b ≡ true → later ≡ copies) → (b ≡ false → (copy : MemDisk) × IsCopyOf disk copy × (later ≡ copies ++ copy ∷ []))
    → AreCopies (present_from 0 absent disks ++ (if b then [] else disk ∷ [])) later
copies_then absent disks i disk copies later true so_far out in_use =
    subst (λ l. AreCopies l later) (sym (append-nil (present_from 0 absent disks))) (subst (λ l. AreCopies (present_from 0 absent disks) l) (sym (out refl)) so_far)
copies_then absent disks i disk copies later false so_far out in_use =
    let one = in_use refl in
    subst (λ l. AreCopies (present_from 0 absent disks ++ disk ∷ []) l) (sym one.2) (copies_more (present_from 0 absent disks) copies disk one.0 so_far one.1)

-- one place more
pub copies_step : (absent : List ℕ) (disks : List MemDisk) (i : ℕ) (disk : MemDisk) (copies later : List MemDisk) (b : Bool) → i < length disks → disk ≡ get_or disks i disk
    → b ≡ is_left_out absent i → AreCopies (present absent (take i disks)) copies
    → (b ≡ true → later ≡ copies) → (b ≡ false → (copy : MemDisk) × IsCopyOf disk copy × (later ≡ copies ++ copy ∷ []))
    → AreCopies (present absent (take (i + 1) disks)) later
copies_step absent disks i disk copies later b below is test so_far out in_use =
    let took : take (i + 1) disks ≡ take i disks ++ disk ∷ [] = take_more disks i disk below ∙ ap (λ d. take i disks ++ d ∷ []) (sym is) in
    let place : i ≡ 0 + length (take i disks) = let counted = length-take i disks in omega (arith, counted, below) in
    let more = ap (present_from 0 absent) took ∙ present_more 0 absent (take i disks) disk
    ∙ ap (λ t. present_from 0 absent (take i disks) ++ (if t then [] else disk ∷ [])) (sym (test ∙ ap (is_left_out absent) place)) in
    subst (λ l. AreCopies l later) (sym more) (copies_then absent (take i disks) i disk copies later b so_far out in_use)
