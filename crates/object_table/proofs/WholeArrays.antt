-- The bytes of arrays of whole blocks.
use Rattle.std.proofs.Common.{◌≡◌, ◌≢◌, ℕ, zero, suc, ◌+◌, ◌*◌, ◌<◌, ◌≤◌, List, [], ◌++◌, length, take, drop, Option, Some, None, refl, sym, ap, ◌∙◌, append_assoc, append-nil, arith}
use Rattle.std.proofs.lemmas.List.{length-append, take_at, drop_at}
use Rattle.object_table.specs.Tables.{bytes_at, bytes_to, HasWholeBlocks}

-- what an array has below a place alone counts for its front
pub bytes_to_same : (array other : ℕ → Option (List ℕ)) (count : ℕ) → ((id : ℕ) → id < count → other id ≡ array id) → bytes_to other count ≡ bytes_to array count
bytes_to_same array other zero same = refl
bytes_to_same array other (suc count) same =
    ap (λ (front : List ℕ). front ++ bytes_at (other count)) (bytes_to_same array other count (λ id lt. same id (omega (arith, lt))))
    ∙ ap (λ found. bytes_to array count ++ bytes_at found) (same count (omega arith))

block_len : (found : Option (List ℕ)) → ((bytes : List ℕ) → found ≡ Some bytes → length bytes ≡ 4096) → found ≢ None → length (bytes_at found) ≡ 4096
block_len None whole some = absurd (some refl)
block_len (Some bytes) whole some = whole bytes refl

pub bytes_len : (array : ℕ → Option (List ℕ)) (count : ℕ) → HasWholeBlocks array → ((id : ℕ) → id < count → array id ≢ None) → length (bytes_to array count) ≡ count * 4096
bytes_len array zero whole some = omega arith
bytes_len array (suc count) whole some =
    omega (
      arith,
      bytes_len array count whole (λ id lt. some id (omega (arith, lt))),
      block_len (array count) (whole count) (some count (omega arith)),
      length-append (bytes_to array count) (bytes_at (array count)),
    )

-- the bytes of some blocks, and those of the blocks behind them
pub bytes_split : (array : ℕ → Option (List ℕ)) (first count : ℕ) → bytes_to array (first + count) ≡ bytes_to array first ++ bytes_to (λ id. array (first + id)) count
bytes_split array first zero =
    let same : first + zero ≡ first = omega arith in
    ap (bytes_to array) same ∙ sym (append-nil (bytes_to array first))
bytes_split array first (suc count) =
    let next : first + suc count ≡ suc (first + count) = omega arith in
    ap (bytes_to array) next
    ∙ ap (λ (front : List ℕ). front ++ bytes_at (array (first + count))) (bytes_split array first count)
    ∙ append_assoc (bytes_to array first) (bytes_to (λ id. array (first + id)) count) (bytes_at (array (first + count)))

-- the first block, and the bytes of the others
pub bytes_behind : (array : ℕ → Option (List ℕ)) (first : List ℕ) (highest : ℕ) → array 0 ≡ Some first → bytes_to array (highest + 1) ≡ first ++ bytes_to (λ id. array (1 + id)) highest
bytes_behind array first highest is =
    let count : highest + 1 ≡ 1 + highest = omega arith in
    ap (bytes_to array) count ∙ bytes_split array 1 highest ∙ ap (λ found. bytes_at found ++ bytes_to (λ id. array (1 + id)) highest) is

-- the bytes before the last block, and that one
pub bytes_before : (array : ℕ → Option (List ℕ)) (last : List ℕ) (highest : ℕ) → array highest ≡ Some last → bytes_to array (highest + 1) ≡ bytes_to array highest ++ last
bytes_before array last highest is =
    let count : highest + 1 ≡ suc highest = omega arith in
    ap (bytes_to array) count ∙ ap (λ found. bytes_to array highest ++ bytes_at found) is

-- the first and the last block of the bytes
pub first_of : (array : ℕ → Option (List ℕ)) (first : List ℕ) (highest : ℕ) → HasWholeBlocks array → array 0 ≡ Some first → take 4096 (bytes_to array (highest + 1)) ≡ first
first_of array first highest whole is =
    ap (take 4096) (bytes_behind array first highest is) ∙ take_at first (bytes_to (λ id. array (1 + id)) highest) 4096 (whole 0 first is)

pub last_of : (array : ℕ → Option (List ℕ)) (last : List ℕ) (highest : ℕ) → HasWholeBlocks array → ((id : ℕ) → id ≤ highest → array id ≢ None) → array highest ≡ Some last
    → drop (highest * 4096) (bytes_to array (highest + 1)) ≡ last
last_of array last highest whole some is =
    ap (drop (highest * 4096)) (bytes_before array last highest is)
    ∙ drop_at (bytes_to array highest) last (highest * 4096) (bytes_len array highest whole (λ id lt. some id (omega (arith, lt))))
