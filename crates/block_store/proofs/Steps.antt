-- Reads and plans one after the other.
use Rattle.std.proofs.Common.{ℕ, ◌≡◌, ◌<◌, ◌≤◌, ◌+◌, inl, inr, Result, Ok, Err, Option, Some, None, Bool, true, false, if◌then◌else◌, List, [], ◌∷◌, ◌++◌, map, length, Contains, refl, sym, ap, ◌∙◌, subst, arith, append_assoc}
use Rattle.std.proofs.lemmas.List.{append-nil}
use Rattle.std.specs.List.{slice_get}
use Rattle.std.specs.Option.{option_map}
use Rattle.std.specs.Prelude.{All, OnOk, OnErr, IfOk, nat_lt}
use Rattle.std.proofs.lemmas.Bool.Decides.{nat_tests}
use Rattle.std.proofs.lemmas.List.Elements.{All-append, All-cons, All-head, All-tail, Contains-append_left, Contains-append_right, Contains-append_cases}
use Rattle.std.proofs.lemmas.Option.{slice_get-map, same_Some}
use Rattle.model_disk.specs.Joint.{JointCall, Disks, calls_on, failed_since, AreHonestSince}
use Rattle.model_disk.proofs.LawLemmas.{parts_are_honest}
use Rattle.block_pointer.specs.declared.block.Block.{Block}
use Rattle.block_pointer.specs.declared.dva.Dva.{Dva}
use Rattle.block_pointer.specs.Copies.{dvas}
use Rattle.raidz_io.specs.Writes.{ColumnWrite}
use Rattle.raidz_io.specs.Reads.{OnlyReads}
use Rattle.raidz_io.proofs.Calls.{length-OnlyReads, OnlyReads-none, failed_since-more}
use Rattle.block_store.specs.declared.block.Asked.{Asked}
use Rattle.block_store.specs.declared.refusal.Refusal.{Refusal}
use Rattle.block_store.specs.declared.shape.VdevShape.{VdevShape}
use Rattle.block_store.specs.Spaces.{VdevSpace}
use Rattle.block_store.specs.Blocks.{Contents, Adds}
use Rattle.block_store.specs.Places.{shapes_of, AreChosen, TookSome, RanOut}
use Rattle.block_store.proofs.Adding.{chosen_stores}
use Rattle.block_store.proofs.Taking.{fills_nothing, places_too}
use Rattle.block_store.specs.Places.{filled as filled_marks}
use Rattle.block_store.specs.Plans.{Plans, KeepsPlans}
use Rattle.block_store.specs.Reading.{FewAreAbsent, AreTolerable, IsReadable, IsReadAs}
use Rattle.block_store.specs.Steps.{OnlyReadsBlocks, Placed, HavePlaced, OnlyReadsAndPlans, AnswersAreTrue, LossIsTolerable, HasNoRoomFor}
use Rattle.block_store.specs.Store.{Store, missed, stale_from, Spans, Keeps, in_group, reaching, outs, outs_from, is_out}
use Rattle.block_store.proofs.ReadingLost.{failed_earlier}
use Rattle.block_store.proofs.ReadingSteps.{reads_on as disk_reads_on, rest_on}

-- ---- reads

same_outs : (old new : Store) → new.out ≡ old.out → outs new ≡ outs old
same_outs old new out = ap (λ flags. outs_from 0 flags) out

pub reads_none : (store : Store) (missing : List ℕ) → OnlyReadsBlocks store store missing
reads_none store missing = record {
  rest = refl;
  reads = OnlyReads-none store.disks;
  untouched = λ disk held. refl;
  keeps = λ stored held. held;
  stores = λ stored held. held;
  plans = λ stored planned held. held;
}

pub reads_on : (old mid new : Store) (missing : List ℕ) → OnlyReadsBlocks old mid missing → OnlyReadsBlocks mid new missing → OnlyReadsBlocks old new missing
reads_on old mid new missing first rest = record {
  rest = rest_on old mid new first.rest rest.rest;
  reads = disk_reads_on old.disks mid.disks new.disks first.reads rest.reads;
  untouched = λ disk held.
      rest.untouched disk (subst (λ disks. Contains (disks ++ missing) disk) (sym (same_outs old mid (ap (λ (s : Store). s.out) first.rest))) held)
      ∙ first.untouched disk held;
  keeps = λ stored held. rest.keeps stored (first.keeps stored held);
  stores = λ stored held. rest.stores stored (first.stores stored held);
  plans = λ stored planned held. rest.plans stored planned (first.plans stored planned held);
}

-- ---- plans

-- places that are chosen fill nothing
pub chosen_fills_nothing : (spaces : List VdevSpace) (taken : List Dva) (sectors copies : ℕ) (places : List Dva) (after : List VdevSpace) → AreChosen spaces taken sectors copies places after
    → map filled_marks after ≡ map filled_marks spaces
chosen_fills_nothing spaces taken sectors copies [] after is = ap (map filled_marks) is
chosen_fills_nothing spaces taken sectors copies (place ∷ places) after (chosen, mid, too, rest) =
    chosen_fills_nothing mid (taken ++ place ∷ []) sectors copies places after rest ∙ fills_nothing spaces mid place too

-- places were taken for one block
placed_once : (spaces : List VdevSpace) (sectors copies birth : ℕ) (places : List Dva) (after : List VdevSpace) → AreChosen spaces [] sectors copies places after
    → HavePlaced spaces (record { sectors = sectors; copies = copies; birth = birth; places = places } ∷ []) after
placed_once spaces sectors copies birth places after chosen = (after, chosen, refl)

placed_on : (spaces mid after : List VdevSpace) (first rest : List Placed) → HavePlaced spaces first mid → HavePlaced mid rest after → HavePlaced spaces (first ++ rest) after
placed_on spaces mid after [] rest same later = subst (λ (s : List VdevSpace). HavePlaced s rest after) same later
placed_on spaces mid after (block ∷ first) rest (between, chosen, more) later = (between, chosen, placed_on between mid after first rest more later)

all_front : (P : Placed → Type 0) (xs ys : List Placed) → All P (xs ++ ys) → All P xs
all_front P [] ys all = λ k d below. absurd (omega arith)
all_front P (x ∷ xs) ys all = All-cons P x xs (All-head P x (xs ++ ys) all) (all_front P xs ys (All-tail P x (xs ++ ys) all))

all_back : (P : Placed → Type 0) (xs ys : List Placed) → All P (xs ++ ys) → All P ys
all_back P [] ys all = all
all_back P (x ∷ xs) ys all = all_back P xs ys (All-tail P x (xs ++ ys) all)

not_below_is : (a b : ℕ) → nat_lt a b ≡ true → ¬ (b ≤ a)
not_below_is a b is le = absurd (let less : a < b = grind (arith, nat_tests) in omega (arith, less, le))

-- a block that is born in the plan's group or later changes no span
not_reaching : (spans : Spans) (birth : ℕ) → spans.group ≤ birth → reaching spans birth ≡ spans
not_reaching spans birth le = cases (nat_lt birth spans.group) refl
  where
    cases : (test : Bool) → nat_lt birth spans.group ≡ test → (if test then in_group spans birth else spans) ≡ spans
    cases true is = absurd (not_below_is birth spans.group is le)
    cases false is = refl

-- which groups disks missed before is the same in any case
stale_reaching : (spans : Spans) (birth : ℕ) → (reaching spans birth).stale ≡ spans.stale
stale_reaching spans birth = cases (nat_lt birth spans.group)
  where
    cases : (test : Bool) → (if test then in_group spans birth else spans).stale ≡ spans.stale
    cases true = refl
    cases false = refl

spans_once : (old new : Store) (sectors copies birth : ℕ) (places : List Dva) → new.spans ≡ reaching old.spans birth
    → All (λ (block : Placed). old.spans.group ≤ block.birth) (record { sectors = sectors; copies = copies; birth = birth; places = places } ∷ []) → new.spans ≡ old.spans
spans_once old new sectors copies birth places spans all =
    let placed : Placed = record { sectors = sectors; copies = copies; birth = birth; places = places } in
    spans ∙ not_reaching old.spans birth (All-head (λ (block : Placed). old.spans.group ≤ block.birth) placed [] all)

pub steps_none : (store : Store) (missing : List ℕ) → OnlyReadsAndPlans store store missing
steps_none store missing = record {
  out = refl;
  shapes = refl;
  filled = refl;
  placed = [];
  were_placed = refl;
  spans = λ all. refl;
  stale = refl;
  reads = OnlyReads-none store.disks;
  untouched = λ disk held. refl;
  keeps = λ stored held. held;
  stores = λ stored held. held;
  added = [];
  due = sym (append-nil store.due);
  in_use = λ k d below. absurd (omega arith);
  plans = λ stored planned held. (planned, held, λ block bytes is. is);
}

pub steps_read : (old new : Store) (missing : List ℕ) → OnlyReadsBlocks old new missing → OnlyReadsAndPlans old new missing
steps_read old new missing reads = record {
  out = ap (λ (s : Store). s.out) reads.rest;
  shapes = ap (λ (s : Store). shapes_of s.spaces) reads.rest;
  filled = ap (λ (s : Store). map filled_marks s.spaces) reads.rest;
  placed = [];
  were_placed = ap (λ (s : Store). s.spaces) reads.rest;
  spans = λ all. ap (λ (s : Store). s.spans) reads.rest;
  stale = ap (λ (s : Store). s.spans.stale) reads.rest;
  reads = reads.reads;
  untouched = reads.untouched;
  keeps = reads.keeps;
  stores = reads.stores;
  added = [];
  due = ap (λ (s : Store). s.due) reads.rest ∙ sym (append-nil old.due);
  in_use = λ k d below. absurd (omega arith);
  plans = λ stored planned held. (planned, reads.plans stored planned held, λ block bytes is. is);
}

no_reads : (old new : Disks) → new ≡ old → OnlyReads old new
no_reads old new same = subst (λ (disks : Disks). OnlyReads old disks) (sym same) (OnlyReads-none old)

-- What `plan_write` says, in this form.
pub steps_plan : (old new : Store) (missing : List ℕ) (sectors birth copies : ℕ) (result : Result Block Refusal) (bytes : List ℕ)
    → new.disks ≡ old.disks → new.out ≡ old.out → new.spans ≡ reaching old.spans birth → shapes_of new.spaces ≡ shapes_of old.spaces → Keeps old new
    → IfOk result (λ block. AreChosen old.spaces [] sectors copies (dvas block.copies) new.spaces) → OnErr result (TookSome old.spaces sectors copies new.spaces)
    → OnOk result ((added : List ColumnWrite) × (new.due ≡ old.due ++ added) × All (λ write. is_out old.out write.disk ≡ false) added)
    → OnErr result (new.due ≡ old.due)
    → IfOk result (λ block. (stored planned : Contents) → Plans old stored planned → (later : Contents) × Plans new stored later × Adds planned later block bytes)
    → OnErr result (KeepsPlans old new) → OnlyReadsAndPlans old new missing
steps_plan old new missing sectors birth copies (Ok block) bytes disks out spans shapes keeps places some due err_due planned err = record {
  out = out;
  shapes = shapes;
  filled = chosen_fills_nothing old.spaces [] sectors copies (dvas block.copies) new.spaces places;
  placed = record { sectors = sectors; copies = copies; birth = birth; places = dvas block.copies } ∷ [];
  were_placed = placed_once old.spaces sectors copies birth (dvas block.copies) new.spaces places;
  spans = spans_once old new sectors copies birth (dvas block.copies) spans;
  stale = ap (λ (s : Spans). s.stale) spans ∙ stale_reaching old.spans birth;
  reads = no_reads old.disks new.disks disks;
  untouched = λ disk held. ap (λ (d : Disks). calls_on disk d.calls) disks;
  keeps = keeps;
  stores = chosen_stores old new sectors copies (dvas block.copies) places keeps;
  added = due.0;
  due = due.1;
  in_use = due.2;
  plans = λ stored before held. let there = planned stored before held in (there.0, there.1, there.2.kept);
}
steps_plan old new missing sectors birth copies (Err refusal) bytes disks out spans shapes keeps places some due err_due planned err = record {
  out = out;
  shapes = shapes;
  filled = chosen_fills_nothing old.spaces [] sectors copies some.0 new.spaces some.2;
  placed = record { sectors = sectors; copies = copies; birth = birth; places = some.0 } ∷ [];
  were_placed = placed_once old.spaces sectors copies birth some.0 new.spaces some.2;
  spans = spans_once old new sectors copies birth some.0 spans;
  stale = ap (λ (s : Spans). s.stale) spans ∙ stale_reaching old.spans birth;
  reads = no_reads old.disks new.disks disks;
  untouched = λ disk held. ap (λ (d : Disks). calls_on disk d.calls) disks;
  keeps = keeps;
  stores = chosen_stores old new sectors copies some.0 some.2 keeps;
  added = [];
  due = let e : old.due ++ [] ≡ old.due = append-nil old.due in err_due ∙ sym e;
  in_use = λ k d below. absurd (omega arith);
  plans = λ stored before held. (before, err stored before held, λ block bytes is. is);
}

pub steps_on : (old mid new : Store) (missing : List ℕ) → OnlyReadsAndPlans old mid missing → OnlyReadsAndPlans mid new missing → OnlyReadsAndPlans old new missing
steps_on old mid new missing first rest = record {
  out = rest.out ∙ first.out;
  shapes = rest.shapes ∙ first.shapes;
  filled = rest.filled ∙ first.filled;
  placed = first.placed ++ rest.placed;
  were_placed = placed_on old.spaces mid.spaces new.spaces first.placed rest.placed first.were_placed rest.were_placed;
  spans = λ all.
      let P : Placed → Type 0 = λ block. old.spans.group ≤ block.birth in
      let before : mid.spans ≡ old.spans = first.spans (all_front P first.placed rest.placed all) in
      rest.spans (subst (λ (s : Spans). All (λ (block : Placed). s.group ≤ block.birth) rest.placed) (sym before) (all_back P first.placed rest.placed all)) ∙ before;
  stale = rest.stale ∙ first.stale;
  reads = disk_reads_on old.disks mid.disks new.disks first.reads rest.reads;
  untouched = λ disk held.
      rest.untouched disk (subst (λ disks. Contains (disks ++ missing) disk) (sym (same_outs old mid first.out)) held)
      ∙ first.untouched disk held;
  keeps = λ stored held. rest.keeps stored (first.keeps stored held);
  stores = λ stored held. rest.stores stored (first.stores stored held);
  added = first.added ++ rest.added;
  due = rest.due ∙ ap (λ writes. writes ++ rest.added) first.due ∙ append_assoc old.due first.added rest.added;
  in_use = All-append (λ write. is_out old.out write.disk ≡ false) first.added rest.added first.in_use
      (subst (λ out. All (λ write. is_out out write.disk ≡ false) rest.added) first.out rest.in_use);
  plans = λ stored planned held.
      let one = first.plans stored planned held in
      let two = rest.plans stored one.0 one.1 in
      (two.0, two.1, λ block bytes is. two.2 block bytes (one.2 block bytes is));
}

-- ---- each part of what is true is true

pub true_before : (old mid new : Store) → OnlyReads mid.disks new.disks → AnswersAreTrue old new → AnswersAreTrue old mid
true_before old mid new rest honest =
    let P : List (List ℕ) → Type 0 = λ starts. AreHonestSince (length old.disks.calls) starts new.disks.calls in
    let Q : List JointCall → Type 0 = AreHonestSince (length old.disks.calls) mid.disks.starts in
    parts_are_honest mid.disks.starts (length old.disks.calls) (length old.disks.calls) rest.newer mid.disks.calls (omega arith)
    (subst Q rest.calls (subst P rest.starts honest))

pub true_after : (old mid new : Store) → OnlyReads old.disks mid.disks → AnswersAreTrue old new → AnswersAreTrue mid new
true_after old mid new first honest =
    parts_are_honest new.disks.starts (length old.disks.calls) (length mid.disks.calls) [] new.disks.calls
    (length-OnlyReads old.disks mid.disks first) honest

-- ---- where few disks are absent, few are in each part

failed_since-append : (n : ℕ) (newer calls : List JointCall) (disk : ℕ) → Contains (failed_since n calls) disk → Contains (failed_since n (newer ++ calls)) disk
failed_since-append n [] calls disk held = held
failed_since-append n (made ∷ newer) calls disk held = failed_since-more n made (newer ++ calls) disk (failed_since-append n newer calls disk held)

pub fewer_absent : (spaces : List VdevSpace) (more fewer : List ℕ) → ((disk : ℕ) → Contains fewer disk → Contains more disk) → AreTolerable spaces more → AreTolerable spaces fewer
fewer_absent spaces more fewer within few v space found =
    let there = few v space found in
    record { disks = there.disks; few = there.few; all = λ child below held. there.all child below (within (space.shape.vdev.first + child) held) }

absent_more : (missing others failed fewer : List ℕ) → others ≡ missing → ((disk : ℕ) → Contains fewer disk → Contains failed disk)
    → (disk : ℕ) → Contains (others ++ fewer) disk → Contains (missing ++ failed) disk
absent_more missing others failed fewer same within disk held =
    elim (Contains-append_cases others fewer disk held) [
      | inl first ↦ Contains-append_left missing failed disk (subst (λ disks. Contains disks disk) same first)
      | inr later ↦ Contains-append_right missing failed disk (within disk later)
    ]

-- only the shapes of the vdevs matter
pub shape_found : (spaces others : List VdevSpace) (v : ℕ) (space : VdevSpace) → shapes_of others ≡ shapes_of spaces → slice_get others v ≡ Some space
    → (there : VdevSpace) × (slice_get spaces v ≡ Some there) × (there.shape ≡ space.shape)
shape_found spaces others v space same found = cases (slice_get spaces v) refl
    (sym (slice_get-map (λ (s : VdevSpace). s.shape) spaces v) ∙ ap (λ shapes. slice_get shapes v) (sym same)
    ∙ slice_get-map (λ (s : VdevSpace). s.shape) others v ∙ ap (λ o. option_map (λ (s : VdevSpace). s.shape) o) found)
  where
    cases : (o : Option VdevSpace) → slice_get spaces v ≡ o → option_map (λ (s : VdevSpace). s.shape) (slice_get spaces v) ≡ Some space.shape
        → (there : VdevSpace) × (slice_get spaces v ≡ Some there) × (there.shape ≡ space.shape)
    cases None e is = let no : None ≡ Some space.shape = ap (λ o. option_map (λ (s : VdevSpace). s.shape) o) (sym e) ∙ is in absurd (cc)
    cases (Some there) e is =
        (there, e, same_Some there.shape space.shape (ap (λ o. option_map (λ (s : VdevSpace). s.shape) o) (sym e) ∙ is))

pub tolerable_shapes : (spaces others : List VdevSpace) (absent : List ℕ) → shapes_of others ≡ shapes_of spaces → AreTolerable spaces absent → AreTolerable others absent
tolerable_shapes spaces others absent same few v space found =
    let there = shape_found spaces others v space same found in
    subst (λ (shape : VdevShape). FewAreAbsent shape.vdev absent) there.2 (few v there.0 there.1)

pub few_before : (old mid new : Store) (missing : List ℕ) → OnlyReads mid.disks new.disks → LossIsTolerable old new missing → LossIsTolerable old mid missing
few_before old mid new missing rest few birth =
    let absent : List ℕ = (outs old ++ missing) ++ missed old birth in
    let failed : List ℕ = failed_since (length old.disks.calls) new.disks.calls in
    let fewer : List ℕ = failed_since (length old.disks.calls) mid.disks.calls in
    fewer_absent old.spaces (absent ++ failed) (absent ++ fewer)
    (absent_more absent absent failed fewer refl (λ disk held.
    subst (λ calls. Contains (failed_since (length old.disks.calls) calls) disk) (sym rest.calls)
    (failed_since-append (length old.disks.calls) rest.newer mid.disks.calls disk held))) (few birth)

pub few_after : (old mid new : Store) (missing : List ℕ) → OnlyReads old.disks mid.disks → mid.out ≡ old.out → mid.spans.stale ≡ old.spans.stale
    → shapes_of mid.spaces ≡ shapes_of old.spaces → LossIsTolerable old new missing → LossIsTolerable mid new missing
few_after old mid new missing first out stale shapes few birth =
    let absent : List ℕ = (outs old ++ missing) ++ missed old birth in
    let later : List ℕ = (outs mid ++ missing) ++ missed mid birth in
    let same : later ≡ absent =
    ap (λ disks. (disks ++ missing) ++ missed mid birth) (same_outs old mid out) ∙ ap (λ them. (outs old ++ missing) ++ stale_from 0 them birth) stale in
    let failed : List ℕ = failed_since (length old.disks.calls) new.disks.calls in
    let fewer : List ℕ = failed_since (length mid.disks.calls) new.disks.calls in
    tolerable_shapes old.spaces mid.spaces (later ++ fewer) shapes
    (fewer_absent old.spaces (absent ++ failed) (later ++ fewer)
    (absent_more absent later failed fewer same
    (λ disk held. failed_earlier (length old.disks.calls) (length mid.disks.calls) new.disks.calls disk (length-OnlyReads old.disks mid.disks first) held)) (few birth))

-- ---- there is no room

pub no_room_now : (store new : Store) (missing : List ℕ) (sectors copies : ℕ) → RanOut store.spaces sectors copies new.spaces
    → HasNoRoomFor store new missing sectors copies
no_room_now store new missing sectors copies out = record { mid = store; before = steps_none store missing; ran_out = out }

pub no_room_on : (old mid new : Store) (missing : List ℕ) (sectors copies : ℕ) → OnlyReadsAndPlans old mid missing → HasNoRoomFor mid new missing sectors copies
    → HasNoRoomFor old new missing sectors copies
no_room_on old mid new missing sectors copies steps none =
    record { mid = none.mid; before = steps_on old mid none.mid missing steps none.before; ran_out = none.ran_out }

-- ---- what may be read depends on the shapes alone

pub readable_in : (spaces others : List VdevSpace) (asked : Asked) (block : Block) → shapes_of others ≡ shapes_of spaces → IsReadable others asked block
    → IsReadable spaces asked block
readable_in spaces others asked block same readable = record {
  some = readable.some;
  asks = readable.asks;
  places = places_too others spaces block.property.sectors (dvas block.copies) (sym same) readable.places;
}

pub read_in : (spaces others : List VdevSpace) (asked : Asked) (block : Block) (bytes : List ℕ) → shapes_of others ≡ shapes_of spaces
    → IsReadAs others asked block bytes → IsReadAs spaces asked block bytes
read_in spaces others asked block bytes same read =
    record { readable = readable_in spaces others asked block same read.readable; size = read.size; digest = read.digest }
