use Rattle.std.proofs.Common.{◌+◌, ◌≤◌, arith}
use Rattle.std.proofs.lemmas.Bool.Decides.{nat_tests}
use Rattle.metaslab.specs.Space.{Space}
use Rattle.metaslab.proofs.InUse.{is_run_in_use, shared_free, shared_released, not_shared, not_sharing, releases_have_sectors}
use Rattle.metaslab.proofs.allocating.Metaslab.is_in_use.Goals as goal

pub returns-then-not-shares_sector : goal.returns-then-not-shares_sector
returns-then-not-shares_sector c =
    let space : Space = record { free = c.self.inside.free.free; released = c.self.inside.released.items; pins = c.self.inside.pins.items; ticks = c.self.inside.free.ticks } in
    let short = c.if-run-sectors.false in
    let early = c.if-run-sectors-2.false in
    let sectors = c.sectors-sectors.ensures in
    let within : c.args.run.start + c.args.run.len ≤ c.self.inside.free.free.sectors = grind (arith, nat_tests) in
    let apart = c.if-not-shares_sector.true in
    let free = rw c.by_place.ensures at c.runs.ensures.apart in
    let each = releases_have_sectors _ _ _ c.self.invariant.0 in
    let no_released = rw c.deref.ensures.value at c.shares_released.ensures.no in
    let some_released = rw c.deref.ensures.value at c.shares_released.ensures.yes in
    let no_free = rw (c.runs.ensures.runs, c.by_place.ensures) at (c.shares_sector.ensures.no apart) in
    rw (← c.self.view_is) (
      (λ none. is_run_in_use space c.args.run within (no_free (space.free.sectors + 1) free.1) (no_released (not_shared _ none) c.self.invariant.1 each)),
      λ is. not_sharing _ (λ shares. shared_released space c.args.run
          (some_released shares each) is),
    )

pub returns-else-not-shares_sector : goal.returns-else-not-shares_sector
returns-else-not-shares_sector c =
    let space : Space = record { free = c.self.inside.free.free; released = c.self.inside.released.items; pins = c.self.inside.pins.items; ticks = c.self.inside.free.ticks } in
    let free = rw c.by_place.ensures at c.runs.ensures.apart in
    let some_free = rw (c.runs.ensures.runs, c.by_place.ensures) at c.shares_sector.ensures.yes in
    rw (← c.self.view_is) (
      (λ none. let shares = c.if-not-shares_sector.false in let not_so = not_shared _ none in absurd cc),
      λ is. not_sharing _ (λ shares. shared_free space c.args.run
          (some_free shares (space.free.sectors + 1) free.1) is),
    )
