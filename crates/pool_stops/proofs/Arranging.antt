-- The array that an open puts a pool's own disks in: theirs, in order.
use Rattle.std.proofs.Common.{ℕ, suc, ◌≡◌, ⊎_elim, ◌<◌, ◌≤◌, Bool, List, [], ◌∷◌, length, map, slice_get, Option, Some, Contains, is_none, refl, sym, ap, subst, ◌∙◌, arith}
use Rattle.std.specs.Prelude.{option_map, replicate, unwrap_or}
use Rattle.std.proofs.lemmas.List.{length-map}
use Rattle.std.proofs.lemmas.Option.{slice_get-map, slice_get_past, slice_get_within}
use Rattle.model_disk.specs.Call.{Call}
use Rattle.model_disk.specs.Contents.{byte_at}
use Rattle.model_disk.specs.Joint.{Disks, bytes_of, calls_on, content, log_of}
use Rattle.model_disk.specs.Runs.{IsSettled, Makes, no_write}
use Rattle.model_disk.specs.declared.disk.Disk as disk
use Rattle.raidz_io.proofs.Written.{slice_get_some}
use Rattle.block_store.specs.declared.shape.VdevShape.{VdevShape}
use Rattle.vdev_label.specs.Plain.{PlainVdev, config_view}
use Rattle.pool_labels.proofs.Lists.{contains_at}
use Rattle.pool_members.specs.Arranged.{calls_for, start_for}
use Rattle.pool_members.specs.declared.arranging.Child.{Child}
use Rattle.pool_create.specs.OpenFinding.{IsArrayOf}
use Rattle.pool_create.specs.Opens.{AreInOrder}
use Rattle.pool_create.specs.OpenStops.{fresh}
use Rattle.pool_slots.proofs.Phases.{none_same, settled_later}
use Rattle.pool_slots.proofs.ReadRuns.{reads_made}
use Rattle.pool_format.specs.declared.labeling.PoolIdentity.{PoolIdentity}
use Rattle.pool_stops.specs.Found.{AreChildren}
use Rattle.pool_stops.specs.Unhindered.{AnswerTruly}
use Rattle.pool_stops.specs.Absent.{SomeUncalledDisksAreReturned}
use Rattle.pool_stops.specs.Handed.{AllHold, AreHolding, AreSomeHandedIn, away_in}
use Rattle.pool_stops.specs.Own.{AreDisksOf, IsKnownAs}
use Rattle.pool_stops.specs.OwnReopening.{AreReturned, UncalledDisksAreReturned, UnfoundDisksAreReturned}
use Rattle.pool_stops.proofs.FoundDisks.{IsFoundAs, no_flags, own_disks_are_ordered, some_disks_are_ordered}
use Rattle.pool_stops.proofs.Handed.{all_handed, held_handed, size_handed}
use Rattle.pool_stops.proofs.Lists.{below_or, found_in_map, same_some}

-- ---- children

-- each child's disk is the pool's in its place
pub disk_at : (order : List ℕ) (children : List Child) (k place : ℕ) → AreChildren order children → slice_get order k ≡ Some place
    → (child : Child) × (slice_get children k ≡ Some child) × (child.disk ≡ Some place)
disk_at order children k place are at =
    let named : slice_get (map (λ (c : Child). c.disk) children) k ≡ Some (Some place) =
    ap (λ xs. slice_get xs k) are ∙ slice_get-map Some order k ∙ ap (option_map Some) at in
    let below : k < length children = omega (
      arith,
      slice_get_within (map (λ (c : Child). c.disk) children) k (Some place) named,
      length-map children (λ (c : Child). c.disk),
    ) in
    let child = slice_get_some children k below in
    let mine : slice_get (map (λ (c : Child). c.disk) children) k ≡ Some child.0.disk =
    slice_get-map (λ (c : Child). c.disk) children k ∙ ap (option_map (λ (c : Child). c.disk)) child.1 in
    (child.0, child.1, same_some (slice_get (map (λ (c : Child). c.disk) children) k) child.0.disk (Some place) mine named)

-- what stands for it, of disks in the order of places
start_at : (handed : List (List ℕ)) (child : Child) (place : ℕ) → child.disk ≡ Some place → start_for handed child ≡ bytes_of handed place
start_at handed child place is = ap (λ m. unwrap_or (option_map (bytes_of handed) m) (replicate child.size 0)) is

calls_at : (logs : List (List Call)) (child : Child) (place : ℕ) → child.disk ≡ Some place → calls_for logs child ≡ log_of logs place
calls_at logs child place is = ap (λ m. unwrap_or (option_map (log_of logs) m) []) is

-- there is nothing past the end
gone : (xs : List (List ℕ)) (which : ℕ) → length xs ≤ which → bytes_of xs which ≡ []
gone xs which past = ap (λ o. unwrap_or o []) (slice_get_past xs which past)

-- lists of as many, of the same sizes
lengths_of : (xs ys : List (List ℕ)) → length xs ≡ length ys → ((which : ℕ) → length (bytes_of xs which) ≡ length (bytes_of ys which)) → map length xs ≡ map length ys
lengths_of [] [] count sizes = refl
lengths_of [] (y ∷ ys) count sizes = absurd (omega (arith, count))
lengths_of (x ∷ xs) [] count sizes = absurd (omega (arith, count))
lengths_of (x ∷ xs) (y ∷ ys) count sizes = λ j. sizes 0 j ∷ lengths_of xs ys (omega (arith, count)) (λ which. sizes (suc which)) j

-- children with no disk are marked
marks_of : (children : List Child) → map (λ (c : Child). is_none c.disk) children ≡ map is_none (map (λ (c : Child). c.disk) children)
marks_of [] = refl
marks_of (child ∷ children) = ap (λ (rest : List Bool). is_none child.disk ∷ rest) (marks_of children)

-- what only reads leaves nothing unflushed
pub settled_still : (old new : Disks) (which : ℕ) → Makes no_write old new → IsSettled (calls_on which old.calls) → IsSettled (calls_on which new.calls)
settled_still old new which reads settled = settled_later old new which reads settled

-- ---- the array

-- a disk of it is the pool's, with nothing unflushed
pub record IsItsDisk (images : List (List ℕ)) (array : Disks) (which : ℕ) : Type 0 where
  pub size : length (bytes_of array.starts which) ≡ length (bytes_of images which)
  pub held : (i : ℕ) → content array which i ≡ content (fresh images) which i
  pub settled : IsSettled (calls_on which array.calls)

-- it has each that is there in its place, and the others are marked
pub record IsArrangedOf (images : List (List ℕ)) (shapes : List VdevShape) (order : List (Option ℕ)) (array : Disks) (its_shapes : List VdevShape) (its_out : List Bool)
    : Type 0 where
  pub count : length array.starts ≡ length images
  pub each : (which place : ℕ) → slice_get order which ≡ Some (Some place) → IsItsDisk images array which
  pub uncalled : (which : ℕ) → length images ≤ which → calls_on which array.calls ≡ []
  pub shapes_are : its_shapes ≡ shapes
  pub out_is : its_out ≡ away_in order

-- it has the pool's disks in order, with nothing unflushed
pub record IsArranged (images : List (List ℕ)) (shapes : List VdevShape) (out : List Bool) (array : Disks) (its_shapes : List VdevShape) (its_out : List Bool)
    : Type 0 where
  pub lengths : map length array.starts ≡ map length images
  pub sizes : (which : ℕ) → length (bytes_of array.starts which) ≡ length (bytes_of images which)
  pub contents : content array ≡ content (fresh images)
  pub settled : (which : ℕ) → IsSettled (calls_on which array.calls)
  pub shapes_are : its_shapes ≡ shapes
  pub out_is : its_out ≡ out

module _ {D : Type 0} where
  -- an array of disks that hold these bytes holds them
  pub holds_in : (g : disk.Ghosts D) (handed : List (List ℕ)) (disks : List D) (old : Disks) → AllHold g handed disks → IsArrayOf g disks old → AreHolding handed old
  holds_in g handed disks old hold array =
      let count : length old.starts ≡ length handed = ap length array.0 ∙ length-map disks g.start ∙ hold.count in
      let start : (which : ℕ) (d : D) → slice_get disks which ≡ Some d → bytes_of old.starts which ≡ g.start d =
      λ which d at. ap (λ starts. bytes_of starts which) array.0 ∙ ap (λ o. unwrap_or o []) (slice_get-map g.start disks which ∙ ap (option_map g.start) at) in
      let calls : (which : ℕ) (d : D) → slice_get disks which ≡ Some d → calls_on which old.calls ≡ g.calls d =
      λ which d at. array.1 which ∙ ap (λ o. unwrap_or o []) (slice_get-map g.calls disks which ∙ ap (option_map g.calls) at) in
      let none : (which : ℕ) → length disks ≤ which → calls_on which old.calls ≡ [] =
      λ which past. array.1 which ∙ ap (λ o. unwrap_or o []) (slice_get_past (map g.calls disks) which (omega (arith, past, length-map disks g.calls))) in
      let no_bytes : (which : ℕ) → length disks ≤ which → bytes_of old.starts which ≡ [] =
      λ which past. ap (λ o. unwrap_or o []) (slice_get_past old.starts which (omega (arith, past, count, hold.count))) in
      let no_handed : (which : ℕ) → length disks ≤ which → bytes_of handed which ≡ [] =
      λ which past. ap (λ o. unwrap_or o []) (slice_get_past handed which (omega (arith, past, hold.count))) in
      record {
        shown = record {
          count = count;
          sizes = λ which. ⊎_elim
              (λ (below : which < length disks).
              let d = slice_get_some disks which below in
              ap length (start which d.0 d.1) ∙ (hold.each which d.0 d.1).size)
              (λ (past : length disks ≤ which). ap length (no_bytes which past ∙ sym (no_handed which past)))
              (below_or which (length disks));
          held = λ which i. ⊎_elim
              (λ (below : which < length disks).
              let d = slice_get_some disks which below in
              (λ j. byte_at (start which d.0 d.1 j) (calls which d.0 d.1 j) i) ∙ (hold.each which d.0 d.1).held i)
              (λ (past : length disks ≤ which).
              (λ j. byte_at (no_bytes which past j) (none which past j) i) ∙ ap (λ bytes. slice_get bytes i) (sym (no_handed which past)))
              (below_or which (length disks));
        };
        settled = λ which. ⊎_elim
            (λ (below : which < length disks).
            let d = slice_get_some disks which below in
            subst (λ them. IsSettled them) (sym (calls which d.0 d.1)) (hold.each which d.0 d.1).settled)
            (λ (past : length disks ≤ which). subst (λ them. IsSettled them) (sym (none which past)) (λ i. refl))
            (below_or which (length disks));
      }

  -- disks that were returned hold what they should
  pub still_holding : (g : disk.Ghosts D) (images : List (List ℕ)) (disks : List D) (order : List ℕ) (old : Disks) → (returned : AreReturned g images disks order)
      → IsArrayOf g disks old → AreHolding returned.handed old
  still_holding g images disks order old returned array = holds_in g returned.handed disks old returned.hold array

  hold_uncalled : (g : disk.Ghosts D) (disks : List D) → ((d : D) → Contains disks d → g.calls d ≡ []) → AllHold g (map g.start disks) disks
  hold_uncalled g disks none = record {
    count = sym (length-map disks g.start);
    each = λ which d at.
        let bytes : bytes_of (map g.start disks) which ≡ g.start d =
        ap (λ o. unwrap_or o []) (slice_get-map g.start disks which ∙ ap (option_map g.start) at) in
        let calls : g.calls d ≡ [] = none d (contains_at disks which d at) in
        record {
          size = ap length (sym bytes);
          held = λ i. λ j. byte_at (sym bytes j) (calls j) i;
          settled = subst (λ them. IsSettled them) (sym calls) (λ i. refl);
        };
  }

  pub uncalled_disks_are_returned : (g : disk.Ghosts D) → UncalledDisksAreReturned g
  uncalled_disks_are_returned g images disks order is none = record { handed = map g.start disks; handed_in = is; hold = hold_uncalled g disks none }

  pub some_uncalled_disks_are_returned : (g : disk.Ghosts D) → SomeUncalledDisksAreReturned g
  some_uncalled_disks_are_returned g images disks order is none = record { handed = map g.start disks; handed_in = is; hold = hold_uncalled g disks none }

  pub unfound_disks_are_returned : (g : disk.Ghosts D) → UnfoundDisksAreReturned g
  unfound_disks_are_returned g images disks back order rewind cause returned it =
      let holding = still_holding g images disks order it.old returned it.read.before in
      let reads : Makes no_write it.old it.new = reads_made it.read.only in
      record {
        handed = returned.handed;
        handed_in = returned.handed_in;
        hold = record {
          count = sym (length-map back g.start) ∙ ap length (sym it.given.0) ∙ ap length reads.starts ∙ holding.shown.count;
          each = λ which d at.
              let start : bytes_of it.new.starts which ≡ g.start d =
              ap (λ starts. bytes_of starts which) it.given.0 ∙ ap (λ o. unwrap_or o []) (slice_get-map g.start back which ∙ ap (option_map g.start) at) in
              let calls : calls_on which it.new.calls ≡ g.calls d =
              it.given.1 which ∙ ap (λ o. unwrap_or o []) (slice_get-map g.calls back which ∙ ap (option_map g.calls) at) in
              record {
                size = ap length (sym start) ∙ ap (λ s. length (bytes_of s which)) reads.starts ∙ holding.shown.sizes which;
                held = λ i. (λ j. byte_at (sym start j) (sym calls j) i) ∙ none_same it.old it.new which i reads ∙ holding.shown.held which i;
                settled = subst (λ them. IsSettled them) calls (settled_later it.old it.new which reads (holding.settled which));
              };
        };
      }

  -- the configuration that was found is the pool's, and so are the name and the guid
  pub own_found : (g : disk.Ghosts D) (pool : PoolIdentity) (vdevs : List PlainVdev) (images : List (List ℕ)) (shapes : List VdevShape) (out : List Bool) (disks : List D)
      (order : List ℕ) (rewind : ℕ) (array : Disks) (its_shapes : List VdevShape) (its_out : List Bool) → AreDisksOf pool vdevs shapes out (fresh images)
      → AreReturned g images disks order → (ordered : AreInOrder g disks rewind array its_shapes its_out)
      → AnswerTruly ordered.found.old ordered.found.new → (config_view ordered.config ≡ vdevs) × IsKnownAs pool ordered.found.layout.identity
  own_found g pool vdevs images shapes out disks order rewind array its_shapes its_out are returned ordered truly =
      let found = ordered.found in
      let handed : List (List ℕ) = returned.handed in
      let holding : AreHolding handed found.old = still_holding g images disks order found.old returned found.read.before in
      let laid = own_disks_are_ordered pool vdevs shapes out images handed order found.old found.new rewind found.layout are returned.handed_in holding truly found.laid_out in
      (ap config_view found.config_is ∙ laid.2, laid.3)

  -- what was found is the pool's, where some of its disks are away
  pub some_found : (g : disk.Ghosts D) (pool : PoolIdentity) (vdevs : List PlainVdev) (images : List (List ℕ)) (shapes : List VdevShape) (out : List Bool)
      (disks : List D) (handed : List (List ℕ)) (order : List (Option ℕ)) (rewind : ℕ) (array : Disks) (its_shapes : List VdevShape) (its_out : List Bool)
      → AreDisksOf pool vdevs shapes out (fresh images) → AreSomeHandedIn images handed order → AllHold g handed disks
      → (ordered : AreInOrder g disks rewind array its_shapes its_out) → AnswerTruly ordered.found.old ordered.found.new
      → IsFoundAs pool vdevs shapes order ordered.found.layout.children.items ordered.found.layout.shapes.items (config_view ordered.found.layout.config.value) ordered.found.layout.identity
  some_found g pool vdevs images shapes out disks handed order rewind array its_shapes its_out are is hold ordered truly =
      let found = ordered.found in
      some_disks_are_ordered pool vdevs shapes out images handed order found.old found.new rewind found.layout are is
      (holds_in g handed disks found.old hold found.read.before) truly found.laid_out

  -- and the disks that are there stand in their places
  pub some_arranged : (g : disk.Ghosts D) (pool : PoolIdentity) (vdevs : List PlainVdev) (images : List (List ℕ)) (shapes : List VdevShape) (out : List Bool)
      (disks : List D) (handed : List (List ℕ)) (order : List (Option ℕ)) (rewind : ℕ) (array : Disks) (its_shapes : List VdevShape) (its_out : List Bool)
      → AreDisksOf pool vdevs shapes out (fresh images) → AreSomeHandedIn images handed order → AllHold g handed disks
      → (ordered : AreInOrder g disks rewind array its_shapes its_out) → AnswerTruly ordered.found.old ordered.found.new
      → IsArrangedOf images shapes order array its_shapes its_out
  some_arranged g pool vdevs images shapes out disks handed order rewind array its_shapes its_out are is hold ordered truly =
      let found = ordered.found in
      let holding : AreHolding handed found.old = holds_in g handed disks found.old hold found.read.before in
      let laid = some_found g pool vdevs images shapes out disks handed order rewind array its_shapes its_out are is hold ordered truly in
      let children : List Child = found.layout.children.items in
      let many : length children ≡ length order = sym (length-map children (λ (c : Child). c.disk)) ∙ ap length laid.children_are in
      let reads : Makes no_write found.old found.new = reads_made found.read.only in
      let after : map g.start found.after ≡ found.old.starts = sym found.array.0 ∙ reads.starts in
      let starts : array.starts ≡ map (start_for found.old.starts) children =
      ordered.starts ∙ found.arranged.same_start ∙ ap (λ them. map (start_for them) children) after in
      let logs : List (List Call) = map g.calls found.after in
      let each : (which place : ℕ) → slice_get order which ≡ Some (Some place) → IsItsDisk images array which =
      λ which place at.
      let c = found_in_map (λ (c : Child). c.disk) children which (Some place) (ap (λ xs. slice_get xs which) laid.children_are ∙ at) in
      let calls : calls_on which array.calls ≡ calls_on place found.new.calls =
      ordered.calls which ∙ ap (λ them. log_of them which) found.arranged.same_calls
      ∙ ap (λ o. unwrap_or o []) (slice_get-map (calls_for logs) children which ∙ ap (option_map (calls_for logs)) c.1)
      ∙ calls_at logs c.0 place c.2 ∙ sym (found.array.1 place) in
      let mine : bytes_of array.starts which ≡ bytes_of found.new.starts place =
      ap (λ s. bytes_of s which) starts
      ∙ ap (λ o. unwrap_or o []) (slice_get-map (start_for found.old.starts) children which ∙ ap (option_map (start_for found.old.starts)) c.1)
      ∙ start_at found.old.starts c.0 place c.2 ∙ ap (λ s. bytes_of s place) (sym reads.starts) in
      record {
        size = ap length mine ∙ ap (λ s. length (bytes_of s place)) reads.starts ∙ size_handed images handed order found.old which place is holding at;
        held = λ i.
            (λ j. byte_at (mine j) (calls j) i) ∙ none_same found.old found.new place i reads
            ∙ held_handed images handed order found.old which place is holding at i;
        settled = subst (λ them. IsSettled them) (sym calls) (settled_later found.old found.new place reads (holding.settled place));
      } in
      record {
        count = ap length starts ∙ length-map children (start_for found.old.starts) ∙ many ∙ is.count;
        each = each;
        uncalled = λ which past.
            ordered.calls which ∙ ap (λ them. log_of them which) found.arranged.same_calls
            ∙ ap (λ o. unwrap_or o []) (slice_get_past (map (calls_for logs) children) which (omega (arith, past, length-map children (calls_for logs), many, is.count)));
        shapes_are = found.shapes_are ∙ laid.shapes_are;
        out_is = found.arranged.marked ∙ marks_of children ∙ ap (map is_none) laid.children_are;
      }

  pub is_arranged : (g : disk.Ghosts D) (pool : PoolIdentity) (vdevs : List PlainVdev) (images : List (List ℕ)) (shapes : List VdevShape) (out : List Bool) (disks : List D)
      (order : List ℕ) (rewind : ℕ) (array : Disks) (its_shapes : List VdevShape) (its_out : List Bool) → AreDisksOf pool vdevs shapes out (fresh images)
      → AreReturned g images disks order → (ordered : AreInOrder g disks rewind array its_shapes its_out)
      → AnswerTruly ordered.found.old ordered.found.new → IsArranged images shapes out array its_shapes its_out
  is_arranged g pool vdevs images shapes out disks order rewind array its_shapes its_out are returned ordered truly =
      let is = returned.handed_in in
      let it = some_arranged g pool vdevs images shapes out disks returned.handed (map Some order) rewind array its_shapes its_out are
      (all_handed images returned.handed order is) returned.hold ordered truly in
      let there : (which : ℕ) → which < length images → IsItsDisk images array which =
      λ which below.
      let place = slice_get_some order which (omega (arith, below, is.count)) in
      it.each which place.0 (slice_get-map Some order which ∙ ap (option_map Some) place.1) in
      let sizes : (which : ℕ) → length (bytes_of array.starts which) ≡ length (bytes_of images which) =
      λ which. ⊎_elim
      (λ (below : which < length images). (there which below).size)
      (λ (past : length images ≤ which). ap length (gone array.starts which (omega (arith, past, it.count)) ∙ sym (gone images which past)))
      (below_or which (length images)) in
      let same : (which i : ℕ) → content array which i ≡ content (fresh images) which i =
      λ which i. ⊎_elim
      (λ (below : which < length images). (there which below).held i)
      (λ (past : length images ≤ which).
      (λ j. byte_at (gone array.starts which (omega (arith, past, it.count)) j) (it.uncalled which past j) i)
      ∙ ap (λ bytes. slice_get bytes i) (sym (gone images which past)))
      (below_or which (length images)) in
      record {
        lengths = lengths_of array.starts images it.count sizes;
        sizes = sizes;
        contents = λ j. λ which. λ i. same which i j;
        settled = λ which. ⊎_elim
            (λ (below : which < length images). (there which below).settled)
            (λ (past : length images ≤ which). subst (λ them. IsSettled them) (sym (it.uncalled which past)) (λ i. refl))
            (below_or which (length images));
        shapes_are = it.shapes_are;
        out_is = it.out_is ∙ no_flags out order (are.there.may.flags ∙ sym is.count) are.there.none;
      }

  -- its children are the pool's disks in order
  pub children_so : (g : disk.Ghosts D) (pool : PoolIdentity) (vdevs : List PlainVdev) (images : List (List ℕ)) (shapes : List VdevShape) (out : List Bool) (disks : List D)
      (order : List ℕ) (rewind : ℕ) (array : Disks) (its_shapes : List VdevShape) (its_out : List Bool) → AreDisksOf pool vdevs shapes out (fresh images)
      → AreReturned g images disks order → (ordered : AreInOrder g disks rewind array its_shapes its_out)
      → AnswerTruly ordered.found.old ordered.found.new → AreChildren order ordered.found.layout.children.items
  children_so g pool vdevs images shapes out disks order rewind array its_shapes its_out are returned ordered truly =
      let found = ordered.found in
      (own_disks_are_ordered pool vdevs shapes out images returned.handed order found.old found.new rewind found.layout are returned.handed_in
      (still_holding g images disks order found.old returned found.read.before) truly found.laid_out).0

  -- as many disks are found as were handed in
  pub after_so : (g : disk.Ghosts D) (images : List (List ℕ)) (disks : List D) (order : List ℕ) (rewind : ℕ) (array : Disks) (its_shapes : List VdevShape)
      (its_out : List Bool) → (returned : AreReturned g images disks order) → (ordered : AreInOrder g disks rewind array its_shapes its_out)
      → length ordered.found.after ≡ length returned.handed
  after_so g images disks order rewind array its_shapes its_out returned ordered =
      let found = ordered.found in
      let reads : Makes no_write found.old found.new = reads_made found.read.only in
      sym (length-map found.after g.start) ∙ ap length (sym found.array.0 ∙ reads.starts ∙ found.read.before.0) ∙ length-map disks g.start
      ∙ returned.hold.count
