-- Writes laid over a block.
use Rattle.std.proofs.Common.{◌≡◌, ℕ, ◌+◌, ◌*◌, List, length, sym, ap, ◌∙◌, arith}
use Rattle.std.specs.Prelude.{slice_range}
use Rattle.volume_rules.specs.Overlay.{HasRange}
use Rattle.volume.specs.Volume.{part}

-- a buffer that had a block of the old bytes has that block of the new ones
pub laid_block : (array after buffer new : List ℕ) (id offset block_size : ℕ) → offset ≡ id * block_size → length buffer ≡ block_size → length new ≡ length buffer
    → buffer ≡ part array block_size id → (HasRange buffer array offset → HasRange new after offset) → new ≡ part after block_size id
laid_block array after buffer new id offset block_size at size same is lays =
    lays (is ∙ (let from : id * block_size ≡ offset = sym at in let to : id * block_size + block_size ≡ offset + length buffer = omega arith in
    ap (λ n. slice_range array n (id * block_size + block_size)) from ∙ ap (λ n. slice_range array offset n) to))
    ∙ (let to : offset + length new ≡ id * block_size + block_size = omega arith in
    ap (λ n. slice_range after offset n) to ∙ ap (λ n. slice_range after n (id * block_size + block_size)) at)
