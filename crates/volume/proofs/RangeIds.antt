-- The ids of the blocks in which a range lies.
use Rattle.std.proofs.Common.{◌≡◌, ⊎_elim, ℕ, ◌+◌, ◌-◌, ◌*◌, ◌/◌, ◌<◌, ◌≤◌, List, Vec, length, get_or, sym, ap, ◌∙◌, arith}
use Rattle.std.specs.Prelude.{All}
use Rattle.std.specs.declared.alloc.Global.{Global}
use Rattle.std.specs.List.{AllZip, range_with_len}
use Rattle.std.specs.List.Sorted.{IsStrictlyIncreasing}
use Rattle.std.proofs.lemmas.List.FromFn.{length-range_with_len, get_or-range_with_len}
use Rattle.std.proofs.lemmas.Bool.{cases_lt}
use Rattle.std.proofs.Math.Nat.{mul-le-mul_left}
use Rattle.volume.specs.declared.volume.VolumeSet.{VolumeSet}
use Rattle.volume.specs.Reading.{LiesIn}
use Rattle.volume.specs.Volume.{part}
use Rattle.volume.proofs.Dividing.{le_div, from_le_div, from_div_le}
use Rattle.volume.proofs.Needed.{zip_at}
use Rattle.volume.proofs.Sizes.{least_size}

pub range_as_long : (first n : ℕ) (ids : List ℕ) → ids ≡ range_with_len first n → ids ≡ range_with_len first (length ids)
range_as_long first n ids are =
    are ∙ ap (range_with_len first) (sym (ap length are ∙ length-range_with_len first n))

pub range_once : (first : ℕ) (ids : List ℕ) → ids ≡ range_with_len first (length ids) → IsStrictlyIncreasing ids
range_once first ids are k low =
    let here : get_or ids k 0 ≡ first + k = ap (λ (xs : List ℕ). get_or xs k 0) are ∙ get_or-range_with_len first (length ids) k 0 (omega (arith, low)) in
    let next : get_or ids (k + 1) 0 ≡ first + (k + 1) = ap (λ (xs : List ℕ). get_or xs (k + 1) 0) are ∙ get_or-range_with_len first (length ids) (k + 1) 0 low in
    omega (arith, here, next)

-- from the block of the range's first byte to that of its last
module _ (offset len block_size : ℕ) (wide : 0 < block_size) (some : 0 < len) where
  low : offset / block_size ≤ (offset + len - 1) / block_size
  low = le_div (offset + len - 1) block_size (offset / block_size) wide
      (let from : offset / block_size * block_size ≤ offset = from_le_div offset block_size (offset / block_size) wide (omega arith) in omega (arith, from, some))

  pub range_lies : (ids : List ℕ) → ids ≡ range_with_len (offset / block_size) ((offset + len - 1) / block_size + 1 - offset / block_size)
      → All (λ id. (offset < id * block_size + block_size) × (id * block_size < offset + len)) ids
  range_lies ids are k d within =
      let count : ℕ = (offset + len - 1) / block_size + 1 - offset / block_size in
      let few : k < count = omega (arith, within, ap length are ∙ length-range_with_len (offset / block_size) count) in
      let id : ℕ = get_or ids k d in
      let is : id ≡ offset / block_size + k = ap (λ (xs : List ℕ). get_or xs k d) are ∙ get_or-range_with_len (offset / block_size) count k d few in
      let ends : id * block_size ≤ offset + len - 1 = from_le_div (offset + len - 1) block_size id wide (omega (arith, is, few)) in
      (from_div_le offset block_size id wide (omega (arith, is)), omega (arith, ends, some))

  pub range_all : (ids : List ℕ) → ids ≡ range_with_len (offset / block_size) ((offset + len - 1) / block_size + 1 - offset / block_size)
      → offset + len ≤ (offset / block_size + length ids) * block_size
  range_all ids are =
      let last : ℕ = (offset + len - 1) / block_size in
      let count : length ids ≡ last + 1 - offset / block_size = ap length are ∙ length-range_with_len (offset / block_size) (last + 1 - offset / block_size) in
      let same : offset / block_size + length ids ≡ last + 1 = omega (arith, count, low) in
      let ends : offset + len - 1 < last * block_size + block_size = from_div_le (offset + len - 1) block_size last wide (omega arith) in
      let size : (offset / block_size + length ids) * block_size ≡ (last + 1) * block_size = ap (λ n. n * block_size) same in
      omega (arith, ends, size, some)

-- ---- the blocks of the ids

below_div : (at m d : ℕ) → 0 < d → at < m * d → at / d < m
below_div at m d wide lt =
    ⊎_elim (λ below. below) (λ past. let more : m * d ≤ at = from_le_div at d m wide past in absurd (omega (arith, more, lt))) (cases_lt (at / d) m)

module _ (offset len done block_size count : ℕ) (wide : 0 < block_size) (lt : done < len) (all : offset + len ≤ (offset / block_size + count) * block_size) where
  from : offset / block_size ≤ (offset + done) / block_size
  from = le_div (offset + done) block_size (offset / block_size) wide
      (let start : offset / block_size * block_size ≤ offset = from_le_div offset block_size (offset / block_size) wide (omega arith) in omega (arith, start))

  -- the block that has a byte of the range is there
  pub place_within : (offset + done) / block_size - offset / block_size < count
  place_within =
      let below : (offset + done) / block_size < offset / block_size + count = below_div (offset + done) (offset / block_size + count) block_size wide (omega (arith, lt, all)) in
      omega (arith, below, from)

  -- and has its part of the array
  pub block_at : (array : List ℕ) (blocks : List (Vec ℕ Global)) (block : Vec ℕ Global) → length blocks ≡ count → block ≡ get_or blocks ((offset + done) / block_size - offset / block_size) block
      → AllZip (λ id bytes. bytes.items ≡ part array block_size id) (range_with_len (offset / block_size) count) blocks
      → block.items ≡ part array block_size ((offset + done) / block_size)
  block_at array blocks block long is zip =
      let k : ℕ = (offset + done) / block_size - offset / block_size in
      let id : get_or (range_with_len (offset / block_size) count) k 0 ≡ offset / block_size + k = get_or-range_with_len (offset / block_size) count k 0 place_within in
      let same : offset / block_size + k ≡ (offset + done) / block_size = omega (arith, from) in
      ap (λ (b : Vec ℕ Global). b.items) is
      ∙ zip_at (λ id (bytes : Vec ℕ Global). bytes.items ≡ part array block_size id) (range_with_len (offset / block_size) count) blocks k 0 block zip (omega (arith, place_within, long))
      ∙ ap (part array block_size) (id ∙ same)

-- each block in which a range of the volume lies is one of the volume's
pub lies_below : (volume : VolumeSet) (offset end id : ℕ) → end ≤ volume.size → LiesIn volume offset end id → id < volume.size / volume.block_size
lies_below volume offset end id within lies =
    let wide : 512 ≤ volume.block_size = least_size volume.block_size volume.block_sized in
    let whole : volume.size / volume.block_size * volume.block_size ≡ volume.size = (let e = volume.whole in omega arith) in
    below id (volume.size / volume.block_size) volume.block_size (omega (arith, whole, lies.1, within))
  where
    below : (a b n : ℕ) → a * n < b * n → a < b
    below a b n lt =
        ⊎_elim (λ less. less) (λ past. let more : n * b ≤ n * a = mul-le-mul_left n past in absurd (omega (arith, more, lt))) (cases_lt a b)
