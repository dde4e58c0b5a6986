use Rattle.std.proofs.Common.{◌∷◌, ◌++◌, take, drop, leb, refl, arith, rules}
use Rattle.std.proofs.lemmas.Bool.Decides.{nat_tests}
use Rattle.std.proofs.lemmas.List.Sorted.{IsPartitionedBy-leb, IsPartitionPoint-from_clause}
use Rattle.space_map.specs.Sectors.{contains}
use Rattle.metaslab.specs.declared.settling.Release.{Release}
use Rattle.metaslab.specs.Released.{AreInOrder}
use Rattle.metaslab.proofs.Holding.{held_after_release, state_after_release, in_use_parts}
use Rattle.metaslab.proofs.InUse.{releases_have_sectors}
use Rattle.metaslab.proofs.Orders.{released_in_order, inserted}
use Rattle.metaslab.proofs.allocating.Metaslab.release.Goals as goal

-- what stands past the end of a list
abbrev none : Release
none = record { group = 0; run = record { start = 0; len = 0 } }

pub invariant_of-self-2 : goal.invariant_of-self-2
invariant_of-self-2 c =
    let free = c.self.inside.free.free in
    let rs = c.self.inside.released.items in
    let index = c.partition_point-index.result in
    let it : Release = record { group = c.args.group; run = c.args.run } in
    let in_use = rw (← c.self.view_is) at c.requires.in_use in
    let each = releases_have_sectors free.sectors (contains free.runs) rs c.self.invariant.0 in
    let by = IsPartitionedBy-leb (λ (r : Release). r.run.start) rs c.args.run.start (released_in_order 0 rs c.self.invariant.1) in
    let point = IsPartitionPoint-from_clause (λ (r : Release). leb r.run.start c.args.run.start) rs index (rw c.deref.ensures.value at c.partition_point-index.ensures.partitioned) by (λ a r f called. search rules) in
    let order : AreInOrder 0 (take index rs ++ it ∷ drop index rs) =
    inserted rs index it none c.self.invariant.1 each c.requires.some
    (λ k less below. let test = point.0 k none (omega arith) less in grind (arith, nat_tests))
    (λ k from below. let test = point.1 k none from below in grind (arith, nat_tests))
    (λ s named. (in_use_parts _ _ (in_use.each s named)).1) in
    rw c.in_ok-insert.ensures.items
    (held_after_release free.sectors (contains free.runs) rs index it c.self.invariant.0 c.requires.some in_use.within (λ s named. in_use_parts _ _ (in_use.each s named)), order)

pub returns-clause-released : goal.returns-clause-released
returns-clause-released c =
    let free = c.self.inside.free.free in
    let in_use = rw (← c.self.view_is) at c.requires.in_use in
    rw (c.in_ok-insert.ensures.items, ← c.self.view_is) (record {
      states = state_after_release (contains free.runs) c.self.inside.released.items c.partition_point-index.result (record { group = c.args.group; run = c.args.run }) (λ s named. in_use_parts _ _ (in_use.each s named));
      sectors = refl;
      pins = refl;
    })
