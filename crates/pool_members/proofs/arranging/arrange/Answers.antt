use Rattle.std.proofs.Common.{◌≡◌, ◌<◌, ◌∙◌, ℕ, ◌++◌, ◌∷◌, [], List, length, get_or, slice_get, slice_set, take, Option, Some, None, ap, sym, subst, refl, arith}
use Rattle.std.proofs.lemmas.List.{take_all}
use Rattle.std.proofs.lemmas.Option.{slice_get_read}
use Rattle.model_disk.specs.Member.{disk_of, start_of, calls_of}
use Rattle.model_disk.specs.declared.disk.Disk as disk
use Rattle.model_disk.specs.declared.member.Member.{Member}
use Rattle.pool_members.proofs.Members.{AreMembers, members_none, members_over, members_put, members_all, member_inside}
use Rattle.pool_members.proofs.Turns.{IsTurn, turn, turned}
use Rattle.pool_members.proofs.arranging.arrange.Goals as goal
use Rattle.pool_members.specs.Arranged.{AreEachOnce}
use Rattle.pool_members.specs.HandedIn.{AreEachOfOne, place_of_disk, places_of_disks}
use Rattle.pool_members.specs.Namers.{AreNamers}
use Rattle.pool_members.specs.declared.arranging.Child.{Child}
use Rattle.pool_members.specs.declared.handed_in.Place.{Place}
use Rattle.pool_members.proofs.Restoring.{each_of_one, places_many, places_more}

-- which child names the place of the next disk
namer_at : {D : Type 0} (disks : List D) (yielded : List (ℕ × D)) (place : ℕ) (d : D) (children : List Child) (namers : List (Option ℕ)) (count : ℕ) (m : Option ℕ)
    → count ≡ length disks → IsTurn disks yielded place d → AreNamers count children namers → m ≡ get_or namers place m → slice_get namers place ≡ Some m
namer_at disks yielded place d children namers count m all now named at =
    slice_get_read namers count place m (sym named.so_many) (omega (arith, all, now.inside)) at

put_next : {D : Type 0} (g : disk.Ghosts D) (disks : List D) (yielded : List (ℕ × D)) (place k : ℕ) (d : D) (children : List Child)
    (members : List (Member D)) (member : Member D) (namers : List (Option ℕ)) (count : ℕ) (m : Option ℕ) → count ≡ length disks → IsTurn disks yielded place d → AreNamers count children namers
    → m ≡ get_or namers place m → m ≡ Some k → disk_of member ≡ Some d → start_of g member ≡ g.start d → calls_of g member ≡ g.calls d
    → AreMembers g (take (length yielded) disks) children members
    → AreMembers g (take (length (yielded ++ (place, d) ∷ [])) disks) children (slice_set members k member)
put_next g disks yielded place k d children members member namers count m all now named at is same start calls were =
    subst (λ front. AreMembers g front children (slice_set members k member)) (sym now.grown)
    (members_put g (take (length yielded) disks) d children members namers count place k member now.here
    (namer_at disks yielded place d children namers count m all now named at ∙ ap Some is) named same start calls were)

next_members : {D : Type 0} (g : disk.Ghosts D) (disks : List D) (yielded : List (ℕ × D)) (place : ℕ) (d : D) (children : List Child)
    (members later : List (Member D)) (namers : List (Option ℕ)) (count : ℕ) (m : Option ℕ) → count ≡ length disks → IsTurn disks yielded place d → AreNamers count children namers
    → m ≡ get_or namers place m → (m ≡ None → later ≡ members)
    → ((k : ℕ) → m ≡ Some k → (member : Member D) × (later ≡ slice_set members k member) × (disk_of member ≡ Some d) × (start_of g member ≡ g.start d) × (calls_of g member ≡ g.calls d))
    → AreMembers g (take (length yielded) disks) children members
    → AreMembers g (take (length (yielded ++ (place, d) ∷ [])) disks) children later
next_members g disks yielded place d children members later namers count None all now named at unnamed is were =
    subst (λ (front : List _). AreMembers g front children later) (sym now.grown)
    (subst (λ (them : List (Member _)). AreMembers g (take (length yielded) disks ++ d ∷ []) children them) (sym (unnamed refl))
    (members_over g (take (length yielded) disks) d children members namers count place now.here
    (namer_at disks yielded place d children namers count None all now named at) named were))
next_members g disks yielded place d children members later namers count (Some k) all now named at unnamed is were =
    let it = is k refl in
    subst (λ (them : List (Member _)). AreMembers g (take (length (yielded ++ (place, d) ∷ [])) disks) children them) (sym it.1)
    (put_next g disks yielded place k d children members it.0 namers count (Some k) all now named at refl it.2 it.3 it.4 were)

next_places : {D : Type 0} (disks : List D) (yielded : List (ℕ × D)) (place : ℕ) (d : D) (children : List Child) (namers : List (Option ℕ)) (count : ℕ) (m : Option ℕ)
    (places : List (Place D)) (here : Place D) → count ≡ length disks → IsTurn disks yielded place d → AreNamers count children namers → m ≡ get_or namers place m
    → here ≡ place_of_disk m d → places ≡ places_of_disks (take (length yielded) disks) namers
    → places ++ here ∷ [] ≡ places_of_disks (take (length (yielded ++ (place, d) ∷ [])) disks) namers
next_places disks yielded place d children namers count m places here all now named at is were =
    let front = take (length yielded) disks in
    let there : slice_get namers (length front) ≡ Some m = ap (slice_get namers) (sym now.here) ∙ namer_at disks yielded place d children namers count m all now named at in
    ap (λ p. places ++ p ∷ []) is ∙ ap (λ ps. ps ++ place_of_disk m d ∷ []) were ∙ sym (places_more front namers d m there)
    ∙ ap (λ (f : List _). places_of_disks f namers) (sym now.grown)

pub loop-place-init : goal.loop-place-init
loop-place-init g c = record {
  members = members_none g.D.Disk c.args.children.now c.in-Ok.plan.members.items c.in-Ok.ensures.disks c.in-Ok.ensures.starts c.in-Ok.ensures.calls;
  places = c.in-Ok.ensures.no_places;
  room = omega (arith, c.in-Ok.ensures.enough_places, c.len.ensures, c.args.disks.ok);
}

pub index-requires : goal.index-requires
index-requires g c =
    let now : IsTurn c.args.disks.items c.loop-place.yielded c.in-Some.place c.in-Some.disk =
    turn c.args.disks.items c.into_iter.result c.enumerate-place-items.result c.into_iter-place-iterator.result c.loop-place.place-iterator c.next.new.self
    c.loop-place.yielded c.next.result c.in-Some.place c.in-Some.disk c.into_iter.ensures.rest
    (omega (arith, c.into_iter.ensures.len, c.args.disks.ok)) c.enumerate-place-items.ensures.source c.enumerate-place-items.ensures.count
    c.into_iter-place-iterator.ensures.into_iter_gives c.loop-place.yielded_by c.in-Some.is c.next.ensures.steps in
    omega (arith, now.inside, c.in-Ok.ensures.named.so_many, c.len.ensures, c.args.disks.ok, c.in-Ok.plan.namers.ok)

pub put-here-requires : goal.put-here-requires
put-here-requires g c child is =
    let now : IsTurn c.args.disks.items c.loop-place.yielded c.in-Some.place c.in-Some.disk =
    turn c.args.disks.items c.into_iter.result c.enumerate-place-items.result c.into_iter-place-iterator.result c.loop-place.place-iterator c.next.new.self
    c.loop-place.yielded c.next.result c.in-Some.place c.in-Some.disk c.into_iter.ensures.rest
    (omega (arith, c.into_iter.ensures.len, c.args.disks.ok)) c.enumerate-place-items.ensures.source c.enumerate-place-items.ensures.count
    c.into_iter-place-iterator.ensures.into_iter_gives c.loop-place.yielded_by c.in-Some.is c.next.ensures.steps in
    member_inside g.D.Disk (take (length c.loop-place.yielded) c.args.disks.items) c.args.children.now c.loop-place.members.items c.in-Ok.plan.namers.items c.len.result
    c.in-Some.place child
    (namer_at c.args.disks.items c.loop-place.yielded c.in-Some.place c.in-Some.disk c.args.children.now c.in-Ok.plan.namers.items c.len.result c.index.result.now
    (omega (arith, c.len.ensures, c.args.disks.ok)) now c.in-Ok.ensures.named c.index.ensures ∙ ap Some is)
    c.in-Ok.ensures.named c.loop-place.invariant.members

pub push_reserved-requires : goal.push_reserved-requires
push_reserved-requires g c =
    let now : IsTurn c.args.disks.items c.loop-place.yielded c.in-Some.place c.in-Some.disk =
    turn c.args.disks.items c.into_iter.result c.enumerate-place-items.result c.into_iter-place-iterator.result c.loop-place.place-iterator c.next.new.self
    c.loop-place.yielded c.next.result c.in-Some.place c.in-Some.disk c.into_iter.ensures.rest
    (omega (arith, c.into_iter.ensures.len, c.args.disks.ok)) c.enumerate-place-items.ensures.source c.enumerate-place-items.ensures.count
    c.into_iter-place-iterator.ensures.into_iter_gives c.loop-place.yielded_by c.in-Some.is c.next.ensures.steps in
    let many : length c.loop-place.places.items ≡ length (take (length c.loop-place.yielded) c.args.disks.items) =
    ap length c.loop-place.invariant.places ∙ places_many (take (length c.loop-place.yielded) c.args.disks.items) c.in-Ok.plan.namers.items
    (omega (arith, now.inside, now.here, c.in-Ok.ensures.named.so_many, c.len.ensures, c.args.disks.ok)) in
    omega (arith, many, now.inside, now.here, c.loop-place.invariant.room, c.loop-place.places.ok)

pub loop-place-preserved : goal.loop-place-preserved
loop-place-preserved g c =
    let now : IsTurn c.args.disks.items c.loop-place.yielded c.in-Some.place c.in-Some.disk =
    turn c.args.disks.items c.into_iter.result c.enumerate-place-items.result c.into_iter-place-iterator.result c.loop-place.place-iterator c.next.new.self
    c.loop-place.yielded c.next.result c.in-Some.place c.in-Some.disk c.into_iter.ensures.rest
    (omega (arith, c.into_iter.ensures.len, c.args.disks.ok)) c.enumerate-place-items.ensures.source c.enumerate-place-items.ensures.count
    c.into_iter-place-iterator.ensures.into_iter_gives c.loop-place.yielded_by c.in-Some.is c.next.ensures.steps in
    let all : c.len.result ≡ length c.args.disks.items = omega (arith, c.len.ensures, c.args.disks.ok) in
    record {
      members = next_members g.D.Disk c.args.disks.items c.loop-place.yielded c.in-Some.place c.in-Some.disk c.args.children.now c.loop-place.members.items c.put-here.new.members.items
          c.in-Ok.plan.namers.items c.len.result c.index.result.now all now c.in-Ok.ensures.named c.index.ensures c.put-here.ensures.unnamed c.put-here.ensures.named c.loop-place.invariant.members;
      places = c.push_reserved.ensures.items ∙ next_places c.args.disks.items c.loop-place.yielded c.in-Some.place c.in-Some.disk c.args.children.now
          c.in-Ok.plan.namers.items c.len.result c.index.result.now c.loop-place.places.items c.put-here.result all now c.in-Ok.ensures.named c.index.ensures c.put-here.ensures.place
          c.loop-place.invariant.places;
      room = omega (arith, c.push_reserved.ensures.capacity, c.loop-place.invariant.room);
    }

pub returns-clause-arranged : goal.returns-clause-arranged
returns-clause-arranged g c =
    let all : length c.args.disks.items ≡ length c.loop-place.yielded =
    turned c.args.disks.items c.into_iter.result c.enumerate-place-items.result c.into_iter-place-iterator.result c.loop-place.place-iterator c.next.new.self
    c.loop-place.yielded c.next.result c.into_iter.ensures.rest
    (omega (arith, c.into_iter.ensures.len, c.args.disks.ok)) c.enumerate-place-items.ensures.source c.enumerate-place-items.ensures.count
    c.into_iter-place-iterator.ensures.into_iter_gives c.loop-place.yielded_by c.in-None.is c.next.ensures.steps in
    let whole : take (length c.loop-place.yielded) c.args.disks.items ≡ c.args.disks.items = take_all (length c.loop-place.yielded) c.args.disks.items (omega arith) in
    let count : c.len.result ≡ length c.args.disks.items = omega (arith, c.len.ensures, c.args.disks.ok) in
    members_all g.D.Disk c.args.disks.items c.args.children.now c.loop-place.members.items c.in-Ok.plan.out.items c.in-Ok.ensures.out
    (subst (λ n. AreEachOnce n c.args.children.now) count c.in-Ok.ensures.once)
    (subst (λ front. AreMembers g.D.Disk front c.args.children.now c.loop-place.members.items) whole c.loop-place.invariant.members)

pub new-requires-clause-enough : goal.new-requires-clause-enough
new-requires-clause-enough g c =
    let all : length c.args.disks.items ≡ length c.loop-place.yielded =
    turned c.args.disks.items c.into_iter.result c.enumerate-place-items.result c.into_iter-place-iterator.result c.loop-place.place-iterator c.next.new.self
    c.loop-place.yielded c.next.result c.into_iter.ensures.rest
    (omega (arith, c.into_iter.ensures.len, c.args.disks.ok)) c.enumerate-place-items.ensures.source c.enumerate-place-items.ensures.count
    c.into_iter-place-iterator.ensures.into_iter_gives c.loop-place.yielded_by c.in-None.is c.next.ensures.steps in
    let whole : take (length c.loop-place.yielded) c.args.disks.items ≡ c.args.disks.items = take_all (length c.loop-place.yielded) c.args.disks.items (omega arith) in
    let many : length c.loop-place.places.items ≡ length (take (length c.loop-place.yielded) c.args.disks.items) =
    ap length c.loop-place.invariant.places ∙ places_many (take (length c.loop-place.yielded) c.args.disks.items) c.in-Ok.plan.namers.items
    (omega (arith, ap length whole, c.in-Ok.ensures.named.so_many, c.len.ensures, c.args.disks.ok)) in
    omega (arith, many, ap length whole, c.in-Ok.ensures.enough_disks, c.len.ensures, c.args.disks.ok)

pub new-requires-clause-once : goal.new-requires-clause-once
new-requires-clause-once g c =
    subst AreEachOfOne (sym c.loop-place.invariant.places)
    (each_of_one c.len.result c.args.children.now (take (length c.loop-place.yielded) c.args.disks.items) c.in-Ok.plan.namers.items c.in-Ok.ensures.named)

pub returns-clause-handed : goal.returns-clause-handed
returns-clause-handed g c =
    let all : length c.args.disks.items ≡ length c.loop-place.yielded =
    turned c.args.disks.items c.into_iter.result c.enumerate-place-items.result c.into_iter-place-iterator.result c.loop-place.place-iterator c.next.new.self
    c.loop-place.yielded c.next.result c.into_iter.ensures.rest
    (omega (arith, c.into_iter.ensures.len, c.args.disks.ok)) c.enumerate-place-items.ensures.source c.enumerate-place-items.ensures.count
    c.into_iter-place-iterator.ensures.into_iter_gives c.loop-place.yielded_by c.in-None.is c.next.ensures.steps in
    let whole : take (length c.loop-place.yielded) c.args.disks.items ≡ c.args.disks.items = take_all (length c.loop-place.yielded) c.args.disks.items (omega arith) in
    record {
      namers = c.in-Ok.plan.namers.items;
      named = subst (λ (n : ℕ). AreNamers n c.args.children.now c.in-Ok.plan.namers.items) (omega (arith, c.len.ensures, c.args.disks.ok)) c.in-Ok.ensures.named;
      are = c.new.ensures ∙ c.loop-place.invariant.places ∙ ap (λ (front : List _). places_of_disks front c.in-Ok.plan.namers.items) whole;
    }
