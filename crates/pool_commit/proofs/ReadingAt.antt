-- Reads of what a pool has at a name, or of zeros.
use Rattle.std.proofs.Common.{ℕ, ◌≡◌, ◌+◌, ◌≤◌, ◌^◌, List, [], length, Option, Some, None, sym, ap, ◌∙◌, subst, arith}
use Rattle.std.specs.Prelude.{replicate, slice_range}
use Rattle.pool_model.specs.declared.volume.PlainVolume.{PlainVolume}
use Rattle.pool_model.specs.Machine.{AreBytesOf}
use Rattle.pool_model.specs.Pools.{PlainPool, volume_at}
use Rattle.pool_model.specs.Refusals.{read_refusal}
use Rattle.pool_model.specs.View.{View}
use Rattle.volume_rules.specs.Overlay.{bytes_or_zeros, HasRangeAt, StandsThere}
use Rattle.pool_commit.specs.declared.refusal.Refusal.{Refusal}
use Rattle.pool_commit.specs.Reading.{IsLostAt, IsLostUnder}
use Rattle.pool_commit.specs.State.{State}
use Rattle.pool_commit.proofs.ReadCauses.{no_cause_within, zeros_within}

-- of no name: zeros
pub zeros_there : (pool : PlainPool) (size offset len : ℕ) → offset + len ≤ size → HasRangeAt (replicate {A = ℕ} len 0) None pool size offset
zeros_there pool size offset len within = zeros_within offset len size within

-- of a name that is there: the bytes that it has
pub bytes_there : (pool : PlainPool) (name : List ℕ) (size offset len : ℕ) (bytes : List ℕ) → length bytes ≡ len → AreBytesOf pool name offset len bytes
    → HasRangeAt bytes (Some name) pool size offset
bytes_there pool name size offset len bytes count are =
    are.2 ∙ ap (λ (n : ℕ). slice_range are.0.bytes offset (offset + n)) (sym count)
    ∙ ap (λ (o : Option PlainVolume). slice_range (bytes_or_zeros o size) offset (offset + length bytes)) (sym are.1)

pub no_cause_there : (pool : PlainPool) (name : List ℕ) (size offset len : ℕ) → StandsThere (Some name) pool size → offset + len ≤ size → len ≤ 2 ^ 20
    → read_refusal offset len (volume_at name pool) ≡ None
no_cause_there pool name size offset len there within few =
    let same : length there.0.bytes ≡ size = there.2 in
    no_cause_within offset len name pool there.0 there.1 (omega arith) few

-- a name that is given could not be read
pub lost_at : (v : View) (old new : State) (given : Option (List ℕ)) (name : List ℕ) (offset len : ℕ) (refusal : Refusal) → given ≡ Some name
    → IsLostUnder v old new v.committed name offset len [] refusal → IsLostAt v old new given offset len refusal
lost_at v old new given name offset len refusal is lost =
    subst (λ (o : Option (List ℕ)). IsLostAt v old new o offset len refusal) (sym is) lost
