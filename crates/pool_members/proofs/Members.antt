-- The members, of which those have their disks that were handed in so far.
use Rattle.std.proofs.Common.{◌≡◌, ◌≢◌, ◌<◌, ◌∙◌, ℕ, zero, suc, Bool, List, [], ◌∷◌, ◌++◌, length, map, replicate, slice_get, slice_set, Option, Some, None, is_none, unwrap_or, ap, sym, refl, arith}
use Rattle.std.specs.Option.{option_map, option_and_then}
use Rattle.std.proofs.lemmas.List.{length-map}
use Rattle.std.proofs.lemmas.List.Elements.{All-contains}
use Rattle.std.proofs.lemmas.Option.{slice_get-map}
use Rattle.model_disk.specs.Call.{Call}
use Rattle.model_disk.specs.Joint.{bytes_of, log_of}
use Rattle.model_disk.specs.Member.{disk_of, start_of, calls_of}
use Rattle.model_disk.specs.declared.disk.Disk as disk
use Rattle.model_disk.specs.declared.member.Member.{Member}
use Rattle.pool_members.specs.Arranged.{places, AreEachOnce, AreArranged, disk_for, start_for, calls_for}
use Rattle.pool_members.specs.Namers.{place_of, AreNamers}
use Rattle.pool_members.specs.declared.arranging.Child.{Child}
use Rattle.pool_members.proofs.Naming.{last-at, last-other, named_place, place_of-within, some_apart, one_namer}

-- what a child's disk held at first, and the calls made on it, where it is one of these; else what its stand-in shows
abbrev pub start_among : {D : Type 0} → (D → List ℕ) → List D → Child → List ℕ
start_among start disks child = unwrap_or (option_map start (disk_for disks child)) (replicate child.size 0)

abbrev pub calls_among : {D : Type 0} → (D → List Call) → List D → Child → List Call
calls_among calls disks child = unwrap_or (option_map calls (disk_for disks child)) []

-- each child has its disk where that is one of these, and else its stand-in
pub record AreMembers {D : Type 0} (g : disk.Ghosts D) (disks : List D) (children : List Child) (members : List (Member D)) : Type 0 where
  pub disks_are : map disk_of members ≡ map (disk_for disks) children
  pub starts_are : map (start_of g) members ≡ map (start_among g.start disks) children
  pub calls_are : map (calls_of g) members ≡ map (calls_among g.calls disks) children

-- lists that are alike at each place
alike : {B C : Type 0} (h later : B → C) (ys : List B) → ((j : ℕ) (y : B) → slice_get ys j ≡ Some y → h y ≡ later y) → map h ys ≡ map later ys
alike h later [] same = refl
alike h later (y ∷ ys) same =
    ap (λ z. z ∷ map h ys) (same 0 y refl) ∙ ap (λ zs. later y ∷ zs) (alike h later ys (λ j z at. same (suc j) z at))

-- or at each but one
one_set : {A B C : Type 0} (f : A → C) (h later : B → C) (xs : List A) (ys : List B) (k : ℕ) (x : A) (y : B) → map f xs ≡ map h ys
    → slice_get ys k ≡ Some y → f x ≡ later y → ((j : ℕ) (z : B) → j ≢ k → slice_get ys j ≡ Some z → h z ≡ later z)
    → map f (slice_set xs k x) ≡ map later ys
one_set f h later [] [] k x y are at is others = refl
one_set f h later [] (b ∷ ys) k x y are at is others = cc
one_set f h later (a ∷ xs) [] k x y are at is others = cc
one_set f h later (a ∷ xs) (b ∷ ys) zero x y are at is others =
    let here : b ≡ y = cc in
    let rest : map f xs ≡ map h ys = cc in
    ap (λ z. z ∷ map f xs) (is ∙ ap later (sym here))
    ∙ ap (λ zs. later b ∷ zs) (rest ∙ alike h later ys (λ j z there. others (suc j) z (λ same. absurd (omega (arith, same))) there))
one_set f h later (a ∷ xs) (b ∷ ys) (suc k) x y are at is others =
    let here : f a ≡ h b = cc in
    let rest : map f xs ≡ map h ys = cc in
    ap (λ z. z ∷ map f (slice_set xs k x)) (here ∙ others 0 b (λ same. absurd (omega (arith, same))) refl)
    ∙ ap (λ zs. later b ∷ zs) (one_set f h later xs ys k x y rest at is (λ j z apart there. others (suc j) z (λ same. apart (omega (arith, same))) there))

-- what the children have, with one more disk
among_other : {D : Type 0} (front : List D) (d : D) (m : Option ℕ) → m ≢ Some (length front)
    → option_and_then (slice_get (front ++ d ∷ [])) m ≡ option_and_then (slice_get front) m
among_other front d None apart = refl
among_other front d (Some place) apart = last-other front d place (λ same. apart (ap Some same))

among_last : {D : Type 0} (front : List D) (d : D) (m : Option ℕ) → m ≡ Some (length front) → option_and_then (slice_get (front ++ d ∷ [])) m ≡ Some d
among_last front d m is = ap (option_and_then (slice_get (front ++ d ∷ []))) is ∙ last-at front d

child_at : (children : List Child) (index place : ℕ) → place_of children index ≡ Some place
    → (child : Child) × (slice_get children index ≡ Some child) × (child.disk ≡ Some place)
child_at [] index place is = cc
child_at (child ∷ children) zero place is = (child, refl, is)
child_at (child ∷ children) (suc index) place is = child_at children index place is

-- F is what is looked at in a child with its disk
over_at : {D C : Type 0} (F : Child → Option D → C) (front : List D) (d : D) (children : List Child) (j : ℕ) (child : Child)
    → place_of children j ≢ Some (length front) → slice_get children j ≡ Some child → F child (disk_for front child) ≡ F child (disk_for (front ++ d ∷ []) child)
over_at F front d children j child apart at =
    ap (F child) (sym (among_other front d child.disk (λ same. apart (ap (option_and_then (λ (child : Child). child.disk)) at ∙ same))))

over : {D A C : Type 0} (F : Child → Option D → C) (f : A → C) (front : List D) (d : D) (children : List Child) (members : List A)
    → ((j : ℕ) → place_of children j ≢ Some (length front)) → map f members ≡ map (λ child. F child (disk_for front child)) children
    → map f members ≡ map (λ child. F child (disk_for (front ++ d ∷ []) child)) children
over F f front d children members apart are =
    are ∙ alike (λ child. F child (disk_for front child)) (λ child. F child (disk_for (front ++ d ∷ []) child)) children
    (λ j child at. over_at F front d children j child (apart j) at)

put : {D A C : Type 0} (F : Child → Option D → C) (f : A → C) (front : List D) (d : D) (children : List Child) (members : List A) (k : ℕ) (member : A)
    → place_of children k ≡ Some (length front) → ((j : ℕ) → j ≢ k → place_of children j ≢ Some (length front))
    → ((child : Child) → f member ≡ F child (Some d)) → map f members ≡ map (λ child. F child (disk_for front child)) children
    → map f (slice_set members k member) ≡ map (λ child. F child (disk_for (front ++ d ∷ []) child)) children
put F f front d children members k member named others is are =
    let (child, at, names) = child_at children k (length front) named in
    one_set f (λ child. F child (disk_for front child)) (λ child. F child (disk_for (front ++ d ∷ []) child)) members children k member child are at
    (is child ∙ ap (F child) (sym (among_last front d child.disk names)))
    (λ j other apart there. over_at F front d children j other (others j apart) there)

-- the next disk, which no child names
pub members_over : {D : Type 0} (g : disk.Ghosts D) (front : List D) (d : D) (children : List Child) (members : List (Member D)) (namers : List (Option ℕ)) (count place : ℕ)
    → place ≡ length front → slice_get namers place ≡ Some None → AreNamers count children namers
    → AreMembers g front children members → AreMembers g (front ++ d ∷ []) children members
members_over g front d children members namers count place is free named were =
    let apart : (j : ℕ) → place_of children j ≢ Some (length front) =
    λ j names. absurd (some_apart j (sym free ∙ (named.names place j).1 (names ∙ ap Some (sym is)))) in
    record {
      disks_are = over (λ child held. held) disk_of front d children members apart were.disks_are;
      starts_are = over (λ child held. unwrap_or (option_map g.start held) (replicate child.size 0)) (start_of g) front d children members apart were.starts_are;
      calls_are = over (λ child held. unwrap_or (option_map g.calls held) []) (calls_of g) front d children members apart were.calls_are;
    }

-- or one does
pub members_put : {D : Type 0} (g : disk.Ghosts D) (front : List D) (d : D) (children : List Child) (members : List (Member D)) (namers : List (Option ℕ)) (count place k : ℕ)
    (member : Member D) → place ≡ length front → slice_get namers place ≡ Some (Some k) → AreNamers count children namers
    → disk_of member ≡ Some d → start_of g member ≡ g.start d → calls_of g member ≡ g.calls d
    → AreMembers g front children members → AreMembers g (front ++ d ∷ []) children (slice_set members k member)
members_put g front d children members namers count place k member is at named same start calls were =
    let names : place_of children k ≡ Some (length front) = (named.names place k).0 at ∙ ap Some is in
    let others : (j : ℕ) → j ≢ k → place_of children j ≢ Some (length front) =
    λ j apart it. apart (one_namer j k (sym ((named.names place j).1 (it ∙ ap Some (sym is))) ∙ at)) in
    record {
      disks_are = put (λ child held. held) disk_of front d children members k member names others (λ child. same) were.disks_are;
      starts_are = put (λ child held. unwrap_or (option_map g.start held) (replicate child.size 0)) (start_of g) front d children members k member names others
          (λ child. start) were.starts_are;
      calls_are = put (λ child held. unwrap_or (option_map g.calls held) []) (calls_of g) front d children members k member names others
          (λ child. calls) were.calls_are;
    }

-- at first
none_among : {D : Type 0} (m : Option ℕ) → None ≡ option_and_then (slice_get {X = D} []) m
none_among None = refl
none_among (Some place) = refl

pub members_none : {D : Type 0} (g : disk.Ghosts D) (children : List Child) (members : List (Member D)) → map disk_of members ≡ map (λ _. None) children
    → map (start_of g) members ≡ map (λ child. replicate child.size 0) children → map (calls_of g) members ≡ map (λ _. []) children
    → AreMembers g [] children members
members_none g children members disks starts calls =
    record {
      disks_are = disks ∙ alike (λ _. None) (disk_for []) children (λ j child at. none_among child.disk);
      starts_are = starts ∙ alike (λ child. replicate child.size 0) (start_among g.start []) children
          (λ j child at. ap (λ held. unwrap_or (option_map g.start held) (replicate child.size 0)) (none_among child.disk));
      calls_are = calls ∙ alike (λ _. []) (calls_among g.calls []) children
          (λ j child at. ap (λ held. unwrap_or (option_map g.calls held) []) (none_among child.disk));
    }

-- what the disk at a place shows, in the lists of all
at_inside : {D : Type 0} (disks : List D) (place : ℕ) → place < length disks → (d : D) × (slice_get disks place ≡ Some d)
at_inside [] place inside = absurd (omega (arith, inside))
at_inside (d ∷ disks) zero inside = (d, refl)
at_inside (d ∷ disks) (suc place) inside = at_inside disks place (omega (arith, inside))

start_there : {D : Type 0} (start : D → List ℕ) (disks : List D) (child : Child) (m : Option ℕ) → child.disk ≡ m
    → ((place : ℕ) → m ≡ Some place → place < length disks) → start_among start disks child ≡ start_for (map start disks) child
start_there start disks child None is inside =
    ap (λ m. unwrap_or (option_map start (option_and_then (slice_get disks) m)) (replicate child.size 0)) is
    ∙ ap (λ m. unwrap_or (option_map (bytes_of (map start disks)) m) (replicate child.size 0)) (sym is)
start_there start disks child (Some place) is inside =
    let (d, at) = at_inside disks place (inside place refl) in
    ap (λ m. unwrap_or (option_map start (option_and_then (slice_get disks) m)) (replicate child.size 0)) is
    ∙ ap (λ held. unwrap_or (option_map start held) (replicate child.size 0)) at
    ∙ sym (ap (λ held. unwrap_or held []) (slice_get-map start disks place ∙ ap (option_map start) at))
    ∙ ap (λ m. unwrap_or (option_map (bytes_of (map start disks)) m) (replicate child.size 0)) (sym is)

calls_there : {D : Type 0} (calls : D → List Call) (disks : List D) (child : Child) (m : Option ℕ) → child.disk ≡ m
    → ((place : ℕ) → m ≡ Some place → place < length disks) → calls_among calls disks child ≡ calls_for (map calls disks) child
calls_there calls disks child None is inside =
    ap (λ m. unwrap_or (option_map calls (option_and_then (slice_get disks) m)) []) is
    ∙ ap (λ m. unwrap_or (option_map (log_of (map calls disks)) m) []) (sym is)
calls_there calls disks child (Some place) is inside =
    let (d, at) = at_inside disks place (inside place refl) in
    ap (λ m. unwrap_or (option_map calls (option_and_then (slice_get disks) m)) []) is
    ∙ ap (λ held. unwrap_or (option_map calls held) []) at
    ∙ sym (ap (λ held. unwrap_or held []) (slice_get-map calls disks place ∙ ap (option_map calls) at))
    ∙ ap (λ m. unwrap_or (option_map (log_of (map calls disks)) m) []) (sym is)

-- in the end
pub members_all : {D : Type 0} (g : disk.Ghosts D) (disks : List D) (children : List Child) (members : List (Member D)) (out : List Bool)
    → out ≡ map (λ child. is_none child.disk) children → AreEachOnce (length disks) children → AreMembers g disks children members
    → AreArranged (map g.start disks) (map g.calls disks) children (map (start_of g) members) (map (calls_of g) members) out
members_all g disks children members out marked once are =
    let within : (j : ℕ) (child : Child) → slice_get children j ≡ Some child → (place : ℕ) → child.disk ≡ Some place → place < length disks =
    λ j child at place is. All-contains (λ place. place < length disks) (places children) place once.among
    (named_place children j place (ap (option_and_then (λ (child : Child). child.disk)) at ∙ is)) in
    record {
      same_start = are.starts_are ∙ alike (start_among g.start disks) (start_for (map g.start disks)) children
          (λ j child at. start_there g.start disks child child.disk refl (within j child at));
      same_calls = are.calls_are ∙ alike (calls_among g.calls disks) (calls_for (map g.calls disks)) children
          (λ j child at. calls_there g.calls disks child child.disk refl (within j child at));
      marked = marked;
    }

-- a child that is named is one of the members
pub member_inside : {D : Type 0} (g : disk.Ghosts D) (front : List D) (children : List Child) (members : List (Member D)) (namers : List (Option ℕ)) (count place k : ℕ)
    → slice_get namers place ≡ Some (Some k) → AreNamers count children namers → AreMembers g front children members → k < length members
member_inside g front children members namers count place k at named were =
    let inside : k < length children = place_of-within children k place ((named.names place k).0 at) in
    let same : length (map disk_of members) ≡ length (map (disk_for front) children) = ap length were.disks_are in
    omega (arith, inside, same, length-map members disk_of, length-map children (disk_for front))
