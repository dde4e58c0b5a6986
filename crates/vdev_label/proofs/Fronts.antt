-- What stands before the seal of an area that was filled up with zeros.
use Rattle.std.proofs.Common.{◌≡◌, ◌∙◌, ◌≤◌, ℕ, ◌+◌, ◌-◌, List, ◌++◌, length, take, drop, refl, ap, arith}
use Rattle.std.specs.Prelude.{replicate}
use Rattle.std.proofs.Math.Seq.{take-append-add}
use Rattle.std.proofs.lemmas.List.{take_all, take_at, length-append, length-replicate, take-replicate}
use Rattle.nvlist.specs.Grammar.{spelling}
use Rattle.nvlist.specs.Plain.{PlainList}
use Rattle.words.proofs.SealLemmas.{length-sealed}
use Rattle.words.specs.Seal.{sealed}
use Rattle.vdev_label.specs.Area.{front_of, HasRoom}

-- as many zeros as the area without the seal has room for
filled : (items : List ℕ) (whole front : ℕ) → length items ≤ front → front ≤ whole
    → take front (items ++ replicate (whole - length items) 0) ≡ items ++ replicate (front - length items) 0
filled items whole front room le =
    let sum : front ≡ length items + (front - length items) = omega (arith, room) in
    ap (λ n. take n (items ++ replicate (whole - length items) 0)) sum ∙ take-append-add items (replicate (whole - length items) 0) (front - length items)
    ∙ ap (λ rest. items ++ rest) (take-replicate (front - length items) (whole - length items) 0 (omega (arith, room, le)))

resized_length : (items : List ℕ) (whole : ℕ) → length items ≤ whole → length (items ++ replicate (whole - length items) 0) ≡ whole
resized_length items whole room =
    let zeros : List ℕ = replicate (whole - length items) 0 in
    let count : length zeros ≡ whole - length items = length-replicate {A = ℕ} (whole - length items) 0 in
    omega (arith, room, length-append items zeros, count)

pub resized_is : (items resized : List ℕ) (n whole : ℕ) → length items ≤ whole → n ≡ length items
    → resized ≡ take whole items ++ replicate (whole - n) 0 → resized ≡ items ++ replicate (whole - length items) 0
resized_is items resized n whole room count is =
    is ∙ ap (λ front. front ++ replicate (whole - n) 0) (take_all whole items room) ∙ ap (λ k. items ++ replicate (whole - k) 0) count

pub sealed_front : (l : PlainList) (items resized : List ℕ) (whole front : ℕ) → length items ≤ front → front + 40 ≡ whole → items ≡ spelling l
    → resized ≡ items ++ replicate (whole - length items) 0 → take (length resized - 40) resized ≡ spelling l ++ replicate (front - length (spelling l)) 0
sealed_front l items resized whole front room sum are is =
    let len : length resized ≡ whole = ap length is ∙ resized_length items whole (omega (arith, room, sum)) in
    let cut : length resized - 40 ≡ front = omega (arith, len, sum) in
    ap (λ n. take n resized) cut ∙ ap (take front) is ∙ filled items whole front room (omega (arith, sum))
    ∙ ap (λ it. it ++ replicate (front - length it) 0) are

-- what is written back to a vector through a slice of it all
pub written_back : (new items : List ℕ) (n : ℕ) → length new ≡ n → take n (new ++ drop (length new) items) ≡ new
written_back new items n len = take_at new (drop (length new) items) n len

pub sealed_length : (new front : List ℕ) (n : ℕ) → new ≡ sealed front → length front + 40 ≡ n → length new ≡ n
sealed_length new front n is sum = ap length is ∙ length-sealed front ∙ sum

-- the area that is made
pub made_area : (l : PlainList) (items resized old new : List ℕ) (n len whole front : ℕ) → length (spelling l) ≤ front → front + 40 ≡ whole
    → items ≡ spelling l → n ≡ length items → resized ≡ take whole items ++ replicate (whole - n) 0 → len ≡ length resized → old ≡ resized
    → new ≡ sealed (take (length old - 40) old)
    → take len (new ++ drop (length new) resized) ≡ sealed (spelling l ++ replicate (front - length (spelling l)) 0)
made_area l items resized old new n len whole front room sum are count is full same sealed_is =
    let short : length items ≤ front = omega (arith, room, ap length are) in
    let padded : resized ≡ items ++ replicate (whole - length items) 0 = resized_is items resized n whole (omega (arith, short, sum)) count is in
    let behind : List ℕ = spelling l ++ replicate (front - length (spelling l)) 0 in
    let new_is : new ≡ sealed behind =
    sealed_is ∙ ap (λ it. sealed (take (length it - 40) it)) same ∙ ap sealed (sealed_front l items resized whole front short sum are padded) in
    let front_len : length behind ≡ front = resized_length (spelling l) front room in
    let whole_len : length resized ≡ whole = ap length padded ∙ resized_length items whole (omega (arith, short, sum)) in
    let new_len : length new ≡ len = sealed_length new behind len new_is (omega (arith, front_len, whole_len, full, sum)) in
    written_back new resized len new_len ∙ new_is

pub area_length : (l : PlainList) → HasRoom l → length (sealed (front_of l)) ≡ 114688
area_length l room = sealed_length (sealed (front_of l)) (front_of l) 114688 refl (omega (arith, resized_length (spelling l) 114648 room.room))
