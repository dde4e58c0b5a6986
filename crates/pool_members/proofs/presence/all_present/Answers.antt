use Rattle.std.proofs.Common.{◌≡◌, ◌∙◌, ◌++◌, ◌∷◌, [], ℕ, suc, List, length, take, Some, ap, sym, subst, arith}
use Rattle.std.proofs.lemmas.List.{take_all}
use Rattle.model_disk.specs.Member.{start_of, calls_of, disk_of}
use Rattle.pool_members.specs.HandedIn.{AreEachOfOne, own_places}
use Rattle.pool_members.specs.declared.handed_in.Place.{Place}
use Rattle.pool_members.proofs.Restoring.{alike_more, one_more, own_each, own_many, own_more}
use Rattle.pool_members.proofs.Turns.{IsTurn, turn, turned}
use Rattle.pool_members.proofs.presence.all_present.Goals as goal

pub push_reserved-requires-in-loop-place : goal.push_reserved-requires-in-loop-place
push_reserved-requires-in-loop-place g c =
    let now : IsTurn c.args.disks.items c.loop-place.yielded c.in-Some.place c.in-Some.disk =
    turn c.args.disks.items c.into_iter.result c.enumerate-place-items.result c.into_iter-place-iterator.result c.loop-place.place-iterator c.next.new.self
    c.loop-place.yielded c.next.result c.in-Some.place c.in-Some.disk c.into_iter.ensures.rest
    (omega (arith, c.into_iter.ensures.len, c.args.disks.ok)) c.enumerate-place-items.ensures.source c.enumerate-place-items.ensures.count
    c.into_iter-place-iterator.ensures.into_iter_gives c.loop-place.yielded_by c.in-Some.is c.next.ensures.steps in
    let front = take (length c.loop-place.yielded) c.args.disks.items in
    let many : length c.loop-place.places.items ≡ length front = ap length c.loop-place.invariant.places ∙ own_many g.row.D.Denot (length front) in
    omega (arith, many, now.inside, now.here, c.loop-place.invariant.room, c.loop-place.places.ok)

pub loop-place-preserved : goal.loop-place-preserved
loop-place-preserved g c =
    let now : IsTurn c.args.disks.items c.loop-place.yielded c.in-Some.place c.in-Some.disk =
    turn c.args.disks.items c.into_iter.result c.enumerate-place-items.result c.into_iter-place-iterator.result c.loop-place.place-iterator c.next.new.self
    c.loop-place.yielded c.next.result c.in-Some.place c.in-Some.disk c.into_iter.ensures.rest
    (omega (arith, c.into_iter.ensures.len, c.args.disks.ok)) c.enumerate-place-items.ensures.source c.enumerate-place-items.ensures.count
    c.into_iter-place-iterator.ensures.into_iter_gives c.loop-place.yielded_by c.in-Some.is c.next.ensures.steps in
    let front = take (length c.loop-place.yielded) c.args.disks.items in
    let members = c.loop-place.members.items in
    let later = c.push_reserved.new.self.items in
    let m = c.present.result in
    let d = c.in-Some.disk in
    let more = take (length (c.loop-place.yielded ++ (c.in-Some.place, d) ∷ [])) c.args.disks.items in
    record {
      disks = alike_more disk_of (λ x. Some x) members later front more m d c.push_reserved.ensures.items now.grown c.present.ensures.disk c.loop-place.invariant.disks;
      starts = alike_more (start_of g.D.Disk) g.D.Disk.start members later front more m d c.push_reserved.ensures.items now.grown c.present.ensures.start c.loop-place.invariant.starts;
      calls = alike_more (calls_of g.D.Disk) g.D.Disk.calls members later front more m d c.push_reserved.ensures.items now.grown c.present.ensures.calls c.loop-place.invariant.calls;
      places = c.push_reserved-in-loop-place.ensures.items
          ∙ own_more g.row.D.Denot c.loop-place.places.items (length front) c.in-Some.place (length more) c.loop-place.invariant.places now.here (ap length now.grown ∙ one_more front d);
      room = omega (arith, c.push_reserved-in-loop-place.ensures.capacity, c.loop-place.invariant.room);
      enough = omega (arith, c.push_reserved.ensures.capacity, c.loop-place.invariant.enough);
    }

pub new-requires-clause-enough : goal.new-requires-clause-enough
new-requires-clause-enough g c =
    let all : length c.args.disks.items ≡ length c.loop-place.yielded =
    turned c.args.disks.items c.into_iter.result c.enumerate-place-items.result c.into_iter-place-iterator.result c.loop-place.place-iterator c.next.new.self
    c.loop-place.yielded c.next.result c.into_iter.ensures.rest
    (omega (arith, c.into_iter.ensures.len, c.args.disks.ok)) c.enumerate-place-items.ensures.source c.enumerate-place-items.ensures.count
    c.into_iter-place-iterator.ensures.into_iter_gives c.loop-place.yielded_by c.in-None.is c.next.ensures.steps in
    let whole : take (length c.loop-place.yielded) c.args.disks.items ≡ c.args.disks.items = take_all (length c.loop-place.yielded) c.args.disks.items (omega arith) in
    let front = take (length c.loop-place.yielded) c.args.disks.items in
    let many : length c.loop-place.places.items ≡ length front = ap length c.loop-place.invariant.places ∙ own_many g.row.D.Denot (length front) in
    omega (arith, many, ap length whole, c.in-Ok.ensures.enough_disks, c.len.ensures, c.args.disks.ok)

pub new-requires-clause-once : goal.new-requires-clause-once
new-requires-clause-once g c =
    let P : List (Place g.row.D.Denot) → Type 0 = λ them. AreEachOfOne them in
    subst P (sym c.loop-place.invariant.places) (own_each g.row.D.Denot (length (take (length c.loop-place.yielded) c.args.disks.items)))
