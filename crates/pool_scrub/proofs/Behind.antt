-- What a pool goes on with behind a scrub, whatever is left to be mended.
use Rattle.std.proofs.Common.{ℕ, zero, suc, ◌≡◌, ◌<◌, inl, inr, Bool, true, false, Option, Some, List, [], ◌∷◌, ◌++◌, length, replicate, Contains, refl, sym, ap, subst, ◌∙◌, arith}
use Rattle.std.specs.List.{slice_get}
use Rattle.std.proofs.lemmas.Option.{slice_get-get_or}
use Rattle.std.proofs.lemmas.List.Elements.{Contains-append_cases, Contains-append_left, Contains-append_right}
use Rattle.block_pointer.specs.declared.block.Block.{Block}
use Rattle.block_pointer.specs.declared.dva.Dva.{Dva}
use Rattle.block_store.specs.Blocks.{AreStored, Contents}
use Rattle.block_store.specs.Opened.{AreBlocksApart}
use Rattle.block_store.specs.Places.{IsPlaceIn, shapes_of}
use Rattle.block_store.specs.Spaces.{VdevSpace}
use Rattle.block_store.specs.Store.{Store, Holds, is_out, is_stale, lost, outs_from}
use Rattle.block_store.specs.declared.shape.VdevShape.{VdevShape}
use Rattle.dataset_snapshots.specs.Laws.{ReachIsKnown}
use Rattle.disk_set.specs.declared.stale.GroupSpan.{GroupSpan}
use Rattle.model_disk.specs.Joint.{Disks, content}
use Rattle.model_disk.specs.declared.disk.Disk as disk
use Rattle.pool_model.specs.Pools.{PlainPool}
use Rattle.pool_open.specs.CoreState.{CoreState, config_of, disks_of, spans_of}
use Rattle.pool_open.specs.Held.{HoldOver, IsStoreOver, TellOver}
use Rattle.raidz_io.specs.Elsewhere.{StandsWhileKept}
use Rattle.raidz_io.specs.Reads.{AreUntouched, GivesTruly, HonestDisksGiveTruly, IsHonestSince, OnlyReads, ReadsKeepContents}
use Rattle.raidz_io.specs.Stands.{ExtentStands}
use Rattle.raidz_io.specs.declared.vdev.Extent.{Extent}
use Rattle.raidz_map.specs.Layout.{asize}
use Rattle.scrub_resilver.specs.Checking.{AreChecked}
use Rattle.scrub_resilver.specs.Copies.{IsCopyOn}
use Rattle.scrub_resilver.specs.Laws.{ApartBlocksShareNoByte, AreCopiesApart, AreKnown, AreTold, BlocksLookedAtStand, ChosenAreOwn, HonestChoicesAreOwn, MendsSpareBlocks, MendsSpareToldBlocks}
use Rattle.scrub_resilver.specs.Mending.{AreMendedFirst, GoesOn}
use Rattle.scrub_resilver.specs.declared.fault.Finding.{Finding}
use Rattle.stale_disks.specs.Rules.{guids_in, stale_groups}
use Rattle.uberblock_ring.specs.declared.uberblock.Uberblock.{Uberblock}
use Rattle.vdev_label.specs.Plain.{config_view}
use Rattle.vdev_label.specs.declared.label.Config.{Config}
use Rattle.pool_scrub.specs.Healing.{IsHealed}
use Rattle.pool_scrub.specs.Laws.{AreToldThroughout, HasPoolOn, ScrubsGoOn, TellThroughout}
use Rattle.pool_scrub.specs.Scrubbing.{IsScrubbedOver}
use Rattle.pool_scrub.specs.declared.healing.Healed.{Healed}
use Rattle.pool_scrub.specs.declared.scrubbing.ScrubCounts.{ScrubCounts}
use Rattle.pool_scrub.proofs.Clean.{honest_again, looked_grew, none_whole_stale, represents_behind}
use Rattle.pool_scrub.proofs.Cleared.{gone_is_whole}
use Rattle.pool_scrub.proofs.Guids.{HaveOwnGuids, own_guids}
use Rattle.pool_scrub.proofs.Left.{disk_among, disks_left, finding_of, lost_is, out_of, stale_is_lost}
use Rattle.pool_scrub.proofs.Whole.{copy_on, grew_by_reads, grew_on, healed_grew, honest_part, no_calls, not_true, out_is_lost, shape_at}

-- what is proved of blocks and roots below
pub record Laws : Type 0 where
  pub spare : MendsSpareBlocks
  pub spare_told : MendsSpareToldBlocks
  pub own : HonestChoicesAreOwn
  pub stand : BlocksLookedAtStand
  pub share : ApartBlocksShareNoByte
  pub keep : ReadsKeepContents
  pub give : HonestDisksGiveTruly
  pub still : StandsWhileKept
  pub reach : ReachIsKnown

-- ---- disks of the same bytes

abbrev HaveSameBytes : Disks → Disks → Type 0
HaveSameBytes old new = (disk x : ℕ) → content new disk x ≡ content old disk x

stands_too : Laws → (old new : Disks) (absent : List ℕ) (extent : Extent) (bytes : List ℕ) → HaveSameBytes old new
    → ExtentStands (content old) absent extent bytes → ExtentStands (content new) absent extent bytes
stands_too laws old new absent extent bytes same = laws.still (content old) (content new) absent extent bytes (λ disk x of. same disk x)

known_too : (shapes : List VdevShape) (old new : Disks) (missing : List ℕ) (stored : Contents) → HaveSameBytes old new → AreKnown shapes old missing stored
    → AreKnown shapes new missing stored
known_too shapes old new missing stored same known block bytes i extent is_stored copy disk x there of =
    let (value, is) = known block bytes i extent is_stored copy disk x there of in
    (value, same disk x ∙ is)

told_too : Laws → (shapes : List VdevShape) (old new : Disks) (missing : List ℕ) (stored : Contents) → HaveSameBytes old new → AreTold shapes old missing stored
    → AreTold shapes new missing stored
told_too laws shapes old new missing stored same told = record {
  known = known_too shapes old new missing stored same told.known;
  one = λ block bytes others wrong i extent is_stored copy few stands digest.
      told.one block bytes others wrong i extent is_stored copy few (stands_too laws new old wrong extent others (λ disk x. sym (same disk x)) stands) digest;
}

-- ---- what is known by answers

-- each column of these blocks that stood before stands, but for those on missing disks
abbrev Spares : List VdevShape → List Block → List ℕ → Contents → Disks → Disks → Type 0
Spares shapes blocks missing stored old new =
    (block : Block) (bytes : List ℕ) (i : ℕ) (extent : Extent) (absent : List ℕ) → Contains blocks block → stored block ≡ Some bytes
    → IsCopyOn shapes block i extent → ((disk : ℕ) → Contains missing disk → Contains absent disk)
    → ExtentStands (content old) absent extent bytes → ExtentStands (content new) absent extent bytes

-- What is known of a scrub, whether its answers were true, or tell though some disks lie: the walk tells the blocks; mending them spares what stood; of none
-- other bytes could be chosen as they are looked at last, and then the disks that come back gave what stood there; and they are told as the core is begun anew.
record IsToldBy (before : CoreState) (u : Uberblock) (core : CoreState) (counts : ScrubCounts) (is : IsScrubbedOver before u core counts) (stored : Contents) : Type 0 where
  pub walk : TellOver (disks_of before) is.looked_is.mid is.layout.shapes.items is.layout.out.items is.layout.stale.items
  pub known : AreKnown is.layout.shapes.items is.mid (outs_from 0 is.layout.out.items) stored
  pub spares : (from mended : Disks) → OnlyReads is.looked_is.mid from → AreMendedFirst is.layout.shapes.items (outs_from 0 is.layout.out.items) is.looked_is.blocks from mended
      → OnlyReads mended is.mid → AreCopiesApart is.layout.shapes.items is.looked_is.blocks → AreStored stored is.looked_is.blocks
      → Spares is.layout.shapes.items is.looked_is.blocks (outs_from 0 is.layout.out.items) stored from mended
  pub own : (from : Disks) → GoesOn is.looked_is.mid from → OnlyReads from is.mid → AreUntouched (outs_from 0 is.layout.out.items) from is.mid
      → ChosenAreOwn is.layout.shapes.items from is.mid stored
  pub truly : (from : Disks) → GoesOn is.looked_is.mid from → OnlyReads from is.mid → (disk birth : ℕ) → is_stale is.layout.stale.items disk birth ≡ true
      → is_out is.looked.whole.items disk ≡ true → GivesTruly from is.mid disk
  pub again : TellOver is.mid (disks_of core) is.layout.shapes.items is.layout.out.items core.commit.store.spans.stale

told_honestly : Laws → (before : CoreState) (u : Uberblock) (core : CoreState) (counts : ScrubCounts) (is : IsScrubbedOver before u core counts) (stored : Contents)
    → AreToldThroughout (disks_of before) is.mid is.layout stored → IsHonestSince (disks_of before) (disks_of core) → IsToldBy before u core counts is stored
told_honestly laws before u core counts is stored told honest =
    let it = is.looked_is in
    let shapes = is.layout.shapes.items in
    let missing = outs_from 0 is.layout.out.items in
    let walked = grew_by_reads (disks_of before) it.mid it.walked.reads in
    let rest = grew_by_reads is.mid (disks_of core) is.begun.again.reads.only in
    let healed = healed_grew shapes it.blocks missing it.mid is.mid is.looked.healed it.healed in
    let last : (from : Disks) → GoesOn it.mid from → IsHonestSince from is.mid =
    λ from later. honest_part (disks_of before) from is.mid (disks_of core) (grew_on (disks_of before) it.mid from walked later) rest honest in
    record {
      walk = inl (honest_part (disks_of before) (disks_of before) it.mid (disks_of core) (no_calls (disks_of before)) (grew_on it.mid is.mid (disks_of core) healed rest) honest);
      known = told.last.known;
      spares = λ from mended first mends after apart are.
          laws.spare shapes from mended missing it.blocks stored mends
          (honest_part from from mended is.mid (no_calls from) (grew_by_reads mended is.mid after) (last from (grew_by_reads it.mid from first)))
          it.walked.once apart are
          (told_too laws shapes (disks_of before) from missing stored
          (λ disk x. laws.keep it.mid from first disk x ∙ laws.keep (disks_of before) it.mid it.walked.reads disk x) told.first)
          (known_too shapes is.mid mended missing stored (λ disk x. sym (laws.keep mended is.mid after disk x)) told.last.known);
      own = λ from later reads untouched. laws.own shapes from is.mid missing stored reads untouched (last from later) told.last;
      truly = λ from later reads disk birth stale whole. laws.give from is.mid reads (last from later) disk;
      again = honest_again before core u counts is honest;
    }

told_though_some_lie : Laws → (before : CoreState) (u : Uberblock) (core : CoreState) (counts : ScrubCounts) (is : IsScrubbedOver before u core counts) (stored : Contents)
    → TellThroughout before u core counts is stored → IsToldBy before u core counts is stored
told_though_some_lie laws before u core counts is stored tell =
    let it = is.looked_is in
    let shapes = is.layout.shapes.items in
    let missing = outs_from 0 is.layout.out.items in
    record {
      walk = tell.walk;
      known = tell.known;
      spares = λ from mended first mends after apart are.
          laws.spare_told shapes from mended missing it.blocks stored mends
          (λ one other before' reads behind.
          tell.chosen one other (grew_on it.mid from one (grew_by_reads it.mid from first) before') reads
          (grew_on other mended is.mid behind (grew_by_reads mended is.mid after)))
          apart are (known_too shapes is.mid mended missing stored (λ disk x. sym (laws.keep mended is.mid after disk x)) tell.known);
      own = λ from later reads untouched. tell.chosen from is.mid later reads (no_calls is.mid);
      truly = tell.truly;
      again = tell.again;
    }

-- ---- the last look

-- all blocks were looked at by these reads, and just this was left; before that each column that had stood stood
pub record IsLookBehind (shapes : List VdevShape) (blocks : List Block) (missing : List ℕ) (stored : Contents) (old new : Disks) (left : List Finding) : Type 0 where
  pub from : Disks
  pub before : GoesOn old from
  pub reads : OnlyReads from new
  pub untouched : AreUntouched missing from new
  pub checked : AreChecked shapes from new missing blocks left
  pub spares : Spares shapes blocks missing stored old from

look_behind : Laws → (shapes : List VdevShape) (blocks : List Block) (missing : List ℕ) (stored : Contents) (old new : Disks) (healed : Healed)
    → IsHealed shapes blocks missing old new healed
    → ((from mended : Disks) → OnlyReads old from → AreMendedFirst shapes missing blocks from mended → OnlyReads mended new → Spares shapes blocks missing stored from mended)
    → IsLookBehind shapes blocks missing stored old new healed.left.items
look_behind laws shapes blocks missing stored old new healed is spares = elim is.rest [
  | inl (none, left, flushed, same) ↦ record {
    from = old;
    before = no_calls old;
    reads = subst (λ (d : Disks). OnlyReads old d) (sym same) is.reads;
    untouched = subst (λ (d : Disks). AreUntouched missing old d) (sym same) is.untouched;
    checked =
        subst (λ (d : Disks). AreChecked shapes old d missing blocks healed.left.items) (sym same)
        (subst (λ (found : List Finding). AreChecked shapes old is.mid missing blocks found) (none ∙ sym left) is.found);
    spares = λ block bytes i extent absent held is_stored copy among stands. stands;
  }
  | inr mended ↦
      let written : GoesOn is.mid mended.mended =
      record { starts = mended.mends.makes.starts; newer = mended.mends.makes.newer; calls = mended.mends.makes.calls } in
      record {
        from = mended.mended;
        before = grew_on old is.mid mended.mended (grew_by_reads old is.mid is.reads) written;
        reads = mended.reads;
        untouched = mended.untouched;
        checked = mended.left;
        spares = λ block bytes i extent absent held is_stored copy among stands.
            spares is.mid mended.mended is.reads mended.in_turn mended.reads block bytes i extent absent held is_stored copy among
            (stands_too laws old is.mid absent extent bytes (laws.keep old is.mid is.reads) stands);
      }
]

-- ---- the blocks of the pool

same_some : {X : Type 0} (x y : X) → Some x ≡ Some y → x ≡ y
same_some x y same = cc

-- a place that a store has for a block is of its size
sized : (spaces : List VdevSpace) (shapes : List VdevShape) (sectors : ℕ) (place : Dva) (shape : VdevShape) → shapes_of spaces ≡ shapes → IsPlaceIn spaces sectors place
    → slice_get shapes place.vdev ≡ Some shape → place.allocated ≡ asize shape.vdev.geometry sectors
sized spaces shapes sectors place shape same is at =
    let one : is.space.shape ≡ shape =
    same_some is.space.shape shape
    (sym (shape_at spaces place.vdev is.space is.found) ∙ ap (λ (them : List VdevShape). slice_get them place.vdev) same ∙ at) in
    is.is_place.allocated ∙ ap (λ (s : VdevShape). asize s.vdev.geometry sectors) one

marked_within : (marks : List Bool) (disk : ℕ) → is_out marks disk ≡ true → disk < length marks
marked_within [] disk is = absurd (cc)
marked_within (mark ∷ marks) zero is = omega arith
marked_within (mark ∷ marks) (suc disk) is = let within = marked_within marks disk is in omega (arith, within)

never : (b : Bool) → b ≡ true → b ≡ false → ⊥
never b is not = cc

there : {X : Type 0} (xs : List X) (x : X) → Contains xs x → (i : ℕ) × (slice_get xs i ≡ Some x)
there xs x (i, within, is) = (i, slice_get-get_or xs i x within ∙ ap (λ y. Some y) is)

-- a disk that missed a group before, and misses it no more, is whole: it isn't out, and nothing is left of it
is_aside : (before core : CoreState) (u : Uberblock) (counts : ScrubCounts) (is : IsScrubbedOver before u core counts) → HaveOwnGuids before → (disk birth : ℕ)
    → is_stale is.layout.stale.items disk birth ≡ true → is_stale core.commit.store.spans.stale disk birth ≡ false
    → (¬ Contains (outs_from 0 is.layout.out.items ++ disks_left is.looked.healed) disk) × (is_out is.looked.whole.items disk ≡ true)
is_aside before core u counts is own disk birth was isnt =
    let guids : Config → List ℕ = λ config. guids_in (config_view config) in
    let whole = is.looked.whole.items in
    let out = is.layout.out.items in
    let was' : is_stale (stale_groups (spans_of before) (guids (config_of before))) disk birth ≡ true =
    subst (λ (stale : List (Option GroupSpan)). is_stale stale disk birth ≡ true) is.is_layout.stale was in
    let isnt' : is_stale (stale_groups (spans_of core) (guids (config_of before))) disk birth ≡ false =
    ap (λ (config : Config). is_stale (stale_groups (spans_of core) (guids config)) disk birth) (sym is.begun.again.configured) ∙ sym (is.begun.again.stale disk birth) ∙ isnt in
    let marked : is_out whole disk ≡ true =
    gone_is_whole (guids (config_of before)) whole (spans_of before) (spans_of core) disk birth own is.begun.once is.begun.cleared was' isnt' in
    let within : disk < length out = omega (arith, marked_within whole disk marked, is.looked_is.whole.count) in
    let (present, clean, flushed) = (is.looked_is.whole.marked disk within).0 marked in (
      λ held. elim (Contains-append_cases (outs_from 0 out) (disks_left is.looked.healed) disk held) [
        | inl gone ↦ never (is_out out disk) (out_of out disk gone) present
        | inr left ↦
            let (one, found, same) = finding_of is.looked.healed.left.items disk left in
            let (at, at') = there is.looked.healed.left.items one found in
            clean at one at' same
      ],
      marked,
    )

held_whatever : Laws → (before core : CoreState) (u : Uberblock) (counts : ScrubCounts) (stored : Contents) (pool : PlainPool) → (is : IsScrubbedOver before u core counts)
    → HasPoolOn before is.layout u stored pool → HaveOwnGuids before → IsToldBy before u core counts is stored
    → HoldOver is.mid is.layout.shapes.items is.layout.out.items core.commit.store.spans.stale stored
held_whatever laws before core u counts stored pool is has own told store over =
    let it = is.looked_is in
    let shapes = is.layout.shapes.items in
    let out = is.layout.out.items in
    let missing = outs_from 0 out in
    let left = disks_left is.looked.healed in
    let grew = looked_grew before core u counts is in
    -- the store that was over the disks before
    let first : Store = record store { disks = disks_of before; spans = record store.spans { stale = is.layout.stale.items } } in
    let since : first.spans.since ≡ replicate (length (disks_of before).starts) 0 =
    over.since ∙ ap (λ (starts : List (List ℕ)). replicate (length starts) 0) grew.starts in
    let was : IsStoreOver (disks_of before) shapes out is.layout.stale.items first =
    record { disks_are = refl; shapes_are = over.shapes_are; out_is = over.out_is; since = since; stale_is = refl } in
    let held : Holds first stored = has.held first was in
    let blocks : it.blocks ≡ _ = it.walked.reach stored pool has.held has.spells.0 told.walk in
    let are : AreStored stored it.blocks =
    λ block is_one. laws.reach.known stored u.group u.root pool has.spells.0 block (subst (λ (them : List Block). Contains them block) blocks is_one) in
    let apart : AreCopiesApart shapes it.blocks =
    laws.share (disks_of before).starts shapes it.blocks it.walked.may.lie
    (subst (λ (them : List Block). AreBlocksApart them) (sym blocks) (has.spells.1 store.spaces over.shapes_are).apart)
    (λ block place shape is_one is_place at.
    let (bytes, is_stored) = are block is_one in
    sized store.spaces shapes block.property.sectors place shape over.shapes_are (held.places block bytes is_stored place is_place).is_in at) in
    let same : HaveSameBytes (disks_of before) it.mid = laws.keep (disks_of before) it.mid it.walked.reads in
    let look : IsLookBehind shapes it.blocks missing stored it.mid is.mid is.looked.healed.left.items =
    look_behind laws shapes it.blocks missing stored it.mid is.mid is.looked.healed it.healed
    (λ from mended first mends after. told.spares from mended first mends after apart are) in
    record {
      blocks = held.blocks;
      places = held.places;
      stand = λ block bytes i extent is_stored copy.
          let birth = block.birth in
          let on : IsCopyOn shapes block i extent =
          copy_on store.spaces shapes block i extent over.shapes_are (held.places block bytes is_stored) copy in
          let is_one : Contains it.blocks block = subst (λ (them : List Block). Contains them block) (sym blocks) (has.reached block bytes is_stored) in
          let lost_before : (disk : ℕ) → Contains missing disk → Contains (lost first birth) disk =
          λ disk gone. out_is_lost first out (length (disks_of before).starts) birth disk over.out_is since gone in
          let lost_behind : (disk : ℕ) → Contains missing disk → Contains (lost store birth) disk =
          λ disk gone. out_is_lost store out (length is.mid.starts) birth disk over.out_is over.since gone in
          let stood : ExtentStands (content look.from) (lost first birth) extent bytes =
          look.spares block bytes i extent (lost first birth) is_one is_stored on lost_before
          (stands_too laws (disks_of before) it.mid (lost first birth) extent bytes same (held.stand block bytes i extent is_stored copy)) in
          let stands : ExtentStands (content is.mid) (lost first birth) extent bytes =
          stands_too laws look.from is.mid (lost first birth) extent bytes (laws.keep look.from is.mid look.reads) stood in
          subst (λ (d : Disks). ExtentStands (content d) (lost store birth) extent bytes) (sym over.disks_are)
          (laws.stand shapes look.from is.mid missing (missing ++ left) it.blocks is.looked.healed.left.items stored look.checked look.reads
          (λ one found. Contains-append_right missing left one.disk (disk_among is.looked.healed.left.items one found))
          (λ disk gone. Contains-append_left missing left disk gone) (told.own look.from look.before look.reads look.untouched) told.known
          block bytes i extent (lost first birth) (lost store birth) is_one is_stored on
          (λ disk was_lost isnt_lost. elim (lost_is first (length (disks_of before).starts) birth disk since was_lost) [
            | inl gone ↦ absurd (isnt_lost (lost_behind disk (subst (λ (marks : List Bool). Contains (outs_from 0 marks) disk) over.out_is gone)))
            | inr stale ↦
                let (aside, whole) =
                is_aside before core u counts is own disk birth stale
                (subst (λ (spans : List (Option GroupSpan)). is_stale spans disk birth ≡ false) over.stale_is
                (not_true (is_stale store.spans.stale disk birth) (λ is_stale_now. isnt_lost (stale_is_lost store birth disk is_stale_now)))) in
                (aside, told.truly look.from look.before look.reads disk birth stale whole)
          ]) stands);
    }

pub goes_on : Laws → {D : Type 0} (g : disk.Ghosts D) → ScrubsGoOn g
goes_on laws g disks u core from counts stored pool is has answers =
    let own : HaveOwnGuids is.before = own_guids g disks 0 u is.before is.opened.0 in
    let told : IsToldBy is.before u core counts is.over stored = elim answers [
      | inl (told, honest) ↦ told_honestly laws is.before u core counts is.over stored told honest
      | inr tell ↦ told_though_some_lie laws is.before u core counts is.over stored tell
    ] in (
      represents_behind is.before core u counts stored pool is.over has told.again (held_whatever laws is.before core u counts stored pool is.over has own told),
      none_whole_stale is.before core u counts is.over,
    )
