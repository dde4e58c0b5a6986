use Rattle.std.proofs.Common.{◌≡◌, ◌∙◌, ◌++◌, ◌∷◌, [], List, length, Some, None, ap, sym, subst, arith}
use Rattle.std.proofs.lemmas.List.{append-nil}
use Rattle.pool_members.specs.HandedIn.{AreEachOfOne, disks_back}
use Rattle.pool_members.specs.declared.handed_in.Place.{Place}
use Rattle.pool_members.proofs.Restoring.{rest_each, taken_first}
use Rattle.pool_members.proofs.handed_in.HandedIn.restore.Goals as goal

pub restoring-preserved-in-Some-take_disk : goal.restoring-preserved-in-Some-take_disk
restoring-preserved-in-Some-take_disk g c =
    let place = c.in-Some.place in
    let rest = c.pop_front.new.self.items in
    let later = c.take_disk.new.members.items in
    let d = c.in-Some-take_disk.disk in
    let first : c.restoring.left.items ≡ place ∷ rest = c.in-Some.ensures.items in
    let each : AreEachOfOne (place ∷ rest) = subst (λ (xs : List (Place _)). AreEachOfOne xs) first c.restoring.invariant.once in
    record {
      back = ap (λ xs. xs ++ disks_back later rest) c.push_reserved.ensures.items
          ∙ taken_first c.restoring.members.items later place rest c.restoring.disks.items (disks_back c.args.members.items c.args.self) (Some d) each
          (sym c.in-Some-take_disk.is ∙ c.take_disk.ensures.disk) c.take_disk.ensures.others
          (ap (λ xs. c.restoring.disks.items ++ disks_back c.restoring.members.items xs) (sym first) ∙ c.restoring.invariant.back);
      once = rest_each place rest each;
      room = omega (arith, ap length first, c.push_reserved.ensures.len, c.push_reserved.new.self.ok, c.restoring.disks.ok, c.push_reserved.ensures.capacity, c.restoring.invariant.room);
    }

pub restoring-preserved : goal.restoring-preserved
restoring-preserved g c =
    let place = c.in-Some.place in
    let rest = c.pop_front.new.self.items in
    let later = c.take_disk.new.members.items in
    let first : c.restoring.left.items ≡ place ∷ rest = c.in-Some.ensures.items in
    let each : AreEachOfOne (place ∷ rest) = subst (λ (xs : List (Place _)). AreEachOfOne xs) first c.restoring.invariant.once in
    record {
      back = ap (λ xs. xs ++ disks_back later rest) (sym (append-nil c.restoring.disks.items))
          ∙ taken_first c.restoring.members.items later place rest c.restoring.disks.items (disks_back c.args.members.items c.args.self) None each
          (sym c.in_default-take_disk.is ∙ c.take_disk.ensures.disk) c.take_disk.ensures.others
          (ap (λ xs. c.restoring.disks.items ++ disks_back c.restoring.members.items xs) (sym first) ∙ c.restoring.invariant.back);
      once = rest_each place rest each;
      room = omega (arith, ap length first, c.restoring.invariant.room);
    }
