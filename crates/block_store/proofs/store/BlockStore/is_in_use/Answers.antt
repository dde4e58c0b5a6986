use Rattle.std.proofs.Common.{arith}
use Rattle.block_store.proofs.store.BlockStore.is_in_use.Goals as goal

pub returns-then-sectors-eq0 : goal.returns-then-sectors-eq0
returns-then-sectors-eq0 g c = (λ no. absurd (cc), λ lies. absurd (omega (arith, lies.some, c.if-sectors-eq0.true)))

pub returns-then-not-is_place : goal.returns-then-not-is_place
returns-then-not-is_place g c = (
  λ no. absurd (cc),
  λ lies.
      let yes = c.is_place.ensures.1 (record { space = lies.space; found = lies.found; is_place = lies.is_place }) in
      let no = c.if-not-is_place.true in
      absurd (cc),
)

pub is_place_in_use-requires-clause-place : goal.is_place_in_use-requires-clause-place
is_place_in_use-requires-clause-place g c = c.is_place.ensures.0 c.if-not-is_place.false
