-- Disks that have every block again.
use Rattle.std.proofs.Common.{ℕ, zero, suc, ◌≡◌, ◌≢◌, ◌<◌, ◌≤◌, ◌+◌, ◌*◌, ◌/◌, ◌%◌, ◌==◌, inl, inr, Bool, true, false, Option, Some, None, List, [], ◌∷◌, ◌++◌, length, filter, nat_le, Contains, replicate, refl, sym, ap, subst, ◌∙◌, arith, if◌then◌else◌, length-append, mul-le-mul_right}
use Rattle.std.proofs.lemmas.Nat.{div-add-mod'}
use Rattle.std.specs.List.{slice_get, find, slice_index}
use Rattle.std.specs.Prelude.{cond, option_map, slice_index_or}
use Rattle.std.proofs.Math.Dec.{leb-zero}
use Rattle.std.proofs.lemmas.Bool.Decides.{Decides-eqb}
use Rattle.std.proofs.lemmas.List.Elements.{Contains-append_left}
use Rattle.std.proofs.lemmas.Option.{slice_get_within}
use Rattle.model_disk.specs.Joint.{JointCall, Disks, content, AreHonestSince}
use Rattle.block_pointer.specs.declared.block.Block.{Block}
use Rattle.block_pointer.specs.Copies.{dvas}
use Rattle.block_store.specs.Places.{ArePlacesIn, IsCopy, IsPlaceIn, shapes_of}
use Rattle.block_store.specs.Shapes.{vdev_sectors, metaslab_sectors}
use Rattle.block_store.specs.Spaces.{VdevSpace}
use Rattle.block_store.specs.Store.{Store, is_out, is_stale, lost, missed, outs, outs_from}
use Rattle.block_store.specs.declared.shape.VdevShape.{VdevShape}
use Rattle.disk_set.specs.Outs.{is_in}
use Rattle.disk_set.specs.declared.stale.GroupSpan.{GroupSpan}
use Rattle.meta_objset.specs.declared.stale_spans.StaleSpan.{StaleSpan}
use Rattle.raidz_map.specs.Layout.{asize}
use Rattle.raidz_io.specs.declared.vdev.Extent.{Extent}
use Rattle.raidz_io.specs.Places.{Content}
use Rattle.raidz_io.specs.Reads.{IsHonestSince, OnlyReads}
use Rattle.raidz_io.specs.Stands.{ExtentStands}
use Rattle.stale_disks.specs.Rules.{AreSpansWithout, groups_of, stale_groups}
use Rattle.scrub_resilver.specs.Checking.{AreChecked}
use Rattle.scrub_resilver.specs.Copies.{IsCopyOn}
use Rattle.scrub_resilver.specs.Mending.{GoesOn}
use Rattle.scrub_resilver.specs.declared.fault.Finding.{Finding}
use Rattle.pool_scrub.specs.Healing.{IsHealed}
use Rattle.pool_scrub.specs.declared.healing.Healed.{Healed}

same_some : {X : Type 0} (x y : X) → Some x ≡ Some y → x ≡ y
same_some x y same = cc

pub not_true : (b : Bool) → (b ≡ true → ⊥) → b ≡ false
not_true true not = absurd (not refl)
not_true false not = refl

-- ---- calls, one behind the other

pub grew_by_reads : (old new : Disks) → OnlyReads old new → GoesOn old new
grew_by_reads old new reads = record { starts = reads.starts; newer = reads.newer; calls = reads.calls }

append_assoc : (xs ys zs : List JointCall) → (xs ++ ys) ++ zs ≡ xs ++ (ys ++ zs)
append_assoc [] ys zs = refl
append_assoc (x ∷ xs) ys zs = ap (λ (rest : List JointCall). x ∷ rest) (append_assoc xs ys zs)

pub grew_on : (old mid new : Disks) → GoesOn old mid → GoesOn mid new → GoesOn old new
grew_on old mid new first rest = record {
  starts = rest.starts ∙ first.starts;
  newer = rest.newer ++ first.newer;
  calls = rest.calls ∙ ap (λ (calls : List JointCall). rest.newer ++ calls) first.calls ∙ sym (append_assoc rest.newer first.newer old.calls);
}

honest_earlier : (n : ℕ) (starts : List (List ℕ)) (newer calls : List JointCall) → AreHonestSince n starts (newer ++ calls) → AreHonestSince n starts calls
honest_earlier n starts [] calls honest = honest
honest_earlier n starts (made ∷ newer) calls honest = honest_earlier n starts newer calls honest.1

honest_later : (n m : ℕ) (starts : List (List ℕ)) (calls : List JointCall) → n ≤ m → AreHonestSince n starts calls → AreHonestSince m starts calls
honest_later n m starts [] le honest = tt
honest_later n m starts (made ∷ calls) le honest = (λ since. honest.0 (omega (arith, le, since)), honest_later n m starts calls le honest.1)

-- answers that are true throughout are true between two moments
pub honest_part : (old mid read new : Disks) → GoesOn old mid → GoesOn read new → IsHonestSince old new → IsHonestSince mid read
honest_part old mid read new first last honest =
    let all : AreHonestSince (length old.calls) read.starts (last.newer ++ read.calls) =
    subst (λ (starts : List (List ℕ)). AreHonestSince (length old.calls) starts (last.newer ++ read.calls)) last.starts
    (subst (λ (calls : List JointCall). AreHonestSince (length old.calls) new.starts calls) last.calls honest) in
    let longer : length old.calls ≤ length mid.calls = omega (arith, ap (λ (calls : List JointCall). length calls) first.calls, length-append first.newer old.calls) in
    honest_later (length old.calls) (length mid.calls) read.starts read.calls longer
    (honest_earlier (length old.calls) read.starts last.newer read.calls all)

-- ---- what was looked at last

-- all blocks were looked at by these reads, and just this was left
pub record IsLastLook (shapes : List VdevShape) (blocks : List Block) (missing : List ℕ) (old new : Disks) (left : List Finding) : Type 0 where
  pub from : Disks
  pub before : GoesOn old from
  pub reads : OnlyReads from new
  pub checked : AreChecked shapes from new missing blocks left

pub no_calls : (disks : Disks) → GoesOn disks disks
no_calls disks = record { starts = refl; newer = []; calls = refl }

pub last_look : (shapes : List VdevShape) (blocks : List Block) (missing : List ℕ) (old new : Disks) (healed : Healed)
    → IsHealed shapes blocks missing old new healed → IsLastLook shapes blocks missing old new healed.left.items
last_look shapes blocks missing old new healed is = elim is.rest [
  | inl (none, left, flushed, same) ↦ record {
    from = old;
    before = no_calls old;
    reads = subst (λ (d : Disks). OnlyReads old d) (sym same) is.reads;
    checked =
        subst (λ (d : Disks). AreChecked shapes old d missing blocks healed.left.items) (sym same)
        (subst (λ (found : List Finding). AreChecked shapes old is.mid missing blocks found) (none ∙ sym left) is.found);
  }
  | inr mended ↦ record {
    from = mended.mended;
    before = grew_on old is.mid mended.mended (grew_by_reads old is.mid is.reads)
        (record { starts = mended.mends.makes.starts; newer = mended.mends.makes.newer; calls = mended.mends.makes.calls });
    reads = mended.reads;
    checked = mended.left;
  }
]

pub healed_grew : (shapes : List VdevShape) (blocks : List Block) (missing : List ℕ) (old new : Disks) (healed : Healed)
    → IsHealed shapes blocks missing old new healed → GoesOn old new
healed_grew shapes blocks missing old new healed is =
    let look = last_look shapes blocks missing old new healed is in
    grew_on old look.from new look.before (grew_by_reads look.from new look.reads)

-- ---- columns

-- what stands without some disks stands without more
pub stands_without : (content : Content) (absent more : List ℕ) (extent : Extent) (bytes : List ℕ) → ((disk : ℕ) → Contains absent disk → Contains more disk)
    → ExtentStands content absent extent bytes → ExtentStands content more extent bytes
stands_without content absent more extent bytes among stands = record {
  layout = stands.layout;
  columns = stands.columns;
  is_layout = stands.is_layout;
  are_bytes = stands.are_bytes;
  stand = λ i column part at at' there. stands.stand i column part at at' (λ held. there (among _ held));
}

zero_at : (k m : ℕ) → slice_index (replicate m 0) k ≡ 0
zero_at k zero = refl
zero_at zero (suc m) = refl
zero_at (suc k) (suc m) = zero_at k m

-- disks that are out from the start are lost for each block
pub kept_all : (since : List ℕ) (n birth : ℕ) (disks : List ℕ) → since ≡ replicate n 0 → filter (λ disk. nat_le (slice_index since disk) birth) disks ≡ disks
kept_all since n birth [] is = refl
kept_all since n birth (disk ∷ disks) is =
    let rest : List ℕ = filter (λ d. nat_le (slice_index since d) birth) disks in
    let test : nat_le (slice_index since disk) birth ≡ true =
    ap (λ (s : List ℕ). nat_le (slice_index s disk) birth) is ∙ ap (λ (k : ℕ). nat_le k birth) (zero_at disk n) ∙ leb-zero birth in
    ap (λ (b : Bool). if b then disk ∷ rest else rest) test ∙ ap (λ (more : List ℕ). disk ∷ more) (kept_all since n birth disks is)

pub out_is_lost : (store : Store) (out : List Bool) (n birth disk : ℕ) → store.out ≡ out → store.spans.since ≡ replicate n 0
    → Contains (outs_from 0 out) disk → Contains (lost store birth) disk
out_is_lost store out n birth disk out_is since held =
    Contains-append_left (filter (λ d. nat_le (slice_index store.spans.since d) birth) (outs store)) (missed store birth) disk
    (subst (λ (disks : List ℕ). Contains disks disk) (sym (kept_all store.spans.since n birth (outs store) since))
    (subst (λ (flags : List Bool). Contains (outs_from 0 flags) disk) (sym out_is) held))

element_at : {X : Type 0} (xs : List X) (i : ℕ) (x : X) → slice_get xs i ≡ Some x → slice_index_or xs i x ≡ x
element_at [] i x at = absurd (cc)
element_at (y ∷ xs) zero x at = same_some y x at
element_at (y ∷ xs) (suc i) x at = element_at xs i x at

pub contained_at : {X : Type 0} (xs : List X) (i : ℕ) (x : X) → slice_get xs i ≡ Some x → Contains xs x
contained_at xs i x at = (i, slice_get_within xs i x at, element_at xs i x at)

pub shape_at : (spaces : List VdevSpace) (v : ℕ) (space : VdevSpace) → slice_get spaces v ≡ Some space → slice_get (shapes_of spaces) v ≡ Some space.shape
shape_at [] v space at = absurd (cc)
shape_at (first ∷ spaces) zero space at = ap (λ (found : Option VdevSpace). option_map (λ s. s.shape) found) at
shape_at (first ∷ spaces) (suc v) space at = shape_at spaces v space at

-- what lies in one metaslab that ends within the vdev ends within it
ends_before : (a b n size : ℕ) → a / size < b / size → a % size + n ≤ size → a + n ≤ b
ends_before a b n size less fits =
    let split : a / size * size + a % size ≡ a = div-add-mod' a size in
    let split' : b / size * size + b % size ≡ b = div-add-mod' b size in
    let next : (suc (a / size)) * size ≤ (b / size) * size = mul-le-mul_right size less in
    omega (arith, split, split', fits, next)

-- a copy that lies in its place lies there by the shapes of the vdevs
pub copy_on : (spaces : List VdevSpace) (shapes : List VdevShape) (block : Block) (i : ℕ) (extent : Extent) → shapes_of spaces ≡ shapes
    → ArePlacesIn spaces block.property.sectors (dvas block.copies) → IsCopy spaces block i extent → IsCopyOn shapes block i extent
copy_on spaces shapes block i extent same places copy =
    let at = copy.extent_is in
    let there : IsPlaceIn spaces block.property.sectors copy.place = (places copy.place (contained_at (dvas block.copies) i copy.place copy.is_copy)).is_in in
    let one : there.space ≡ at.space = same_some there.space at.space (sym there.found ∙ at.found) in
    let shape = at.space.shape in
    let size = subst (λ (s : VdevSpace). copy.place.allocated ≡ asize s.shape.vdev.geometry block.property.sectors) one there.is_place.allocated in
    let within = subst (λ (s : VdevSpace). copy.place.offset + copy.place.allocated ≤ vdev_sectors s.shape) one
    (ends_before copy.place.offset (vdev_sectors there.space.shape) copy.place.allocated (metaslab_sectors there.space.shape) there.is_place.metaslab there.is_place.one) in
    record {
      place = copy.place;
      is_copy = copy.is_copy;
      extent_is = record {
        shape = shape;
        found = subst (λ (them : List VdevShape). slice_get them copy.place.vdev ≡ Some shape) same (shape_at spaces copy.place.vdev at.space at.found);
        vdev = at.vdev;
        start = at.start;
        sectors_are = at.sectors_are;
        within = omega (arith, size, within);
      };
    }

-- ---- spans

other_number : (a b : ℕ) → a ≢ b → (a == b) ≡ false
other_number a b apart = not_true (a == b) (λ is. apart ((Decides-eqb a b).0 is))

behind : (first : StaleSpan) (spans : List StaleSpan) (span : StaleSpan) → Contains spans span → Contains (first ∷ spans) span
behind first spans span (k, within, is) = (suc k, omega (arith, within), is)

-- a disk of which no span is known missed no group
not_found : (spans : List StaleSpan) (guid : ℕ) → ((span : StaleSpan) → Contains spans span → span.disk ≢ guid) → find (λ span. span.disk == guid) spans ≡ None
not_found [] guid none = refl
not_found (span ∷ spans) guid none =
    ap (λ (b : Bool). cond b (Some span) (find (λ s. s.disk == guid) spans)) (other_number span.disk guid (none span (0, omega arith, refl)))
    ∙ not_found spans guid (λ s held. none s (behind span spans s held))

missed_none : (spans : List StaleSpan) (guids : List ℕ) (disk birth : ℕ) → ((guid : ℕ) → slice_get guids disk ≡ Some guid → groups_of spans guid ≡ None)
    → is_stale (stale_groups spans guids) disk birth ≡ false
missed_none spans [] disk birth none = refl
missed_none spans (guid ∷ guids) zero birth none = ap (λ (span : Option GroupSpan). is_in span birth) (none guid refl)
missed_none spans (guid ∷ guids) (suc disk) birth none = missed_none spans guids disk birth none

-- and so it is of each disk whose spans are gone
pub whole_missed_none : (guids : List ℕ) (whole : List Bool) (before after : List StaleSpan) (disk birth : ℕ) → AreSpansWithout guids whole before after
    → is_out whole disk ≡ true → is_stale (stale_groups after guids) disk birth ≡ false
whole_missed_none guids whole before after disk birth cleared marked =
    missed_none after guids disk birth (λ guid at.
    ap (λ (found : Option StaleSpan). option_map (λ span. record { from = span.from; to = span.to }) found)
    (not_found after guid (λ span held same.
    ((cleared span).0 held).0 (disk, subst (λ (g : ℕ). slice_get guids disk ≡ Some g) (sym same) at, marked))))
