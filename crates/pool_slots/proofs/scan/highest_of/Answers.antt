use Rattle.std.proofs.Common.{ℕ, List, Option, Some, None, subst}
use Rattle.uberblock_ring.specs.Ranking.{Has, IsHighest}
use Rattle.uberblock_ring.specs.declared.uberblock.Uberblock.{Uberblock}
use Rattle.pool_slots.proofs.Finding.{highest_found, index_is, none_found, not_none}
use Rattle.pool_slots.proofs.scan.highest_of.Goals as goal

pub returns-in-Some : goal.returns-in-Some
returns-in-Some c =
    let uberblocks = c.in_ok-uberblocks.uberblocks.items in
    let P : List (Option Uberblock) → Type 0 = λ us. IsHighest us c.in-Some.which in
    let highest = subst P c.deref.ensures.value c.in-Some.ensures.some in
    absurd (not_none uberblocks c.in-Some.which highest (index_is uberblocks c.in-Some.which c.index.result.now None highest c.index.ensures c.in-None-index.is))

pub returns-in-Some-index : goal.returns-in-Some-index
returns-in-Some-index c =
    let uberblocks = c.in_ok-uberblocks.uberblocks.items in
    let u = c.in-Some-index.uberblock in
    let P : List (Option Uberblock) → Type 0 = λ us. IsHighest us c.in-Some.which in
    let highest = subst P c.deref.ensures.value c.in-Some.ensures.some in
    record {
      finds = highest_found c.args.all.now uberblocks c.in-Some.which u c.requires.fits c.in_ok-uberblocks.ensures highest
          (index_is uberblocks c.in-Some.which c.index.result.now (Some u) highest c.index.ensures c.in-Some-index.is);
    }

pub returns : goal.returns
returns c =
    let P : List (Option Uberblock) → Type 0 = λ us. (i : ℕ) (u : Uberblock) → ¬ Has us i u in
    record { finds = none_found c.args.all.now c.in_ok-uberblocks.uberblocks.items c.in_ok-uberblocks.ensures (subst P c.deref.ensures.value c.in-None.ensures.none) }
