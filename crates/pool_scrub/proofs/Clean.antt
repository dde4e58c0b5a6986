-- What a pool goes on with behind a scrub.
use Rattle.std.proofs.Common.{ℕ, ◌≡◌, inl, Bool, true, false, List, [], length, Contains, replicate, refl, sym, ap, subst, ◌∙◌, arith}
use Rattle.block_pointer.specs.declared.block.Block.{Block}
use Rattle.block_store.specs.Blocks.{Contents}
use Rattle.block_store.specs.Store.{Store, Holds, is_out, is_stale, lost, outs_from}
use Rattle.model_disk.specs.Joint.{Disks, content}
use Rattle.pool_model.specs.Pools.{PlainPool}
use Rattle.pool_open.specs.CoreState.{CoreState, config_of, disks_of, spans_of}
use Rattle.pool_open.specs.Held.{HoldOver, IsStoreOver, TellOver}
use Rattle.pool_open.specs.Slots.{IsStampOf}
use Rattle.pool_open.specs.Words.{stamp_of}
use Rattle.sha2.specs.Sha256.{sha256}
use Rattle.raidz_io.specs.Reads.{IsHonestSince}
use Rattle.raidz_io.specs.Stands.{ExtentStands}
use Rattle.scrub_resilver.specs.Copies.{IsCopyOn}
use Rattle.scrub_resilver.specs.Laws.{CheckedBlocksStand}
use Rattle.scrub_resilver.specs.Mending.{GoesOn}
use Rattle.scrub_resilver.specs.declared.fault.Finding.{Finding}
use Rattle.stale_disks.specs.Rules.{guids_in, stale_groups}
use Rattle.uberblock_ring.specs.declared.uberblock.Uberblock.{Uberblock}
use Rattle.vdev_label.specs.Plain.{config_view}
use Rattle.vdev_label.specs.declared.label.Config.{Config}
use Rattle.pool_scrub.specs.Counting.{IsClean}
use Rattle.pool_model.specs.View.{opened_as}
use Rattle.pool_open.specs.Represents.{Represents}
use Rattle.pool_open.specs.Words.{vdevs_in}
use Rattle.pool_scrub.specs.Laws.{CleanScrubsGoOnWhole, HasPoolOn, IsCleanEnd, NonePresentIsStale, NoWholeIsStale, StandAlone}
use Rattle.pool_scrub.specs.Scrubbing.{IsScrubbedOver}
use Rattle.pool_scrub.specs.declared.scrubbing.ScrubCounts.{ScrubCounts}
use Rattle.pool_scrub.proofs.Left.{out_among}
use Rattle.pool_scrub.proofs.Whole.{contained_at, copy_on, grew_by_reads, grew_on, healed_grew, honest_part, last_look, no_calls, out_is_lost, stands_without, whole_missed_none}

never : (b : Bool) → b ≡ true → b ≡ false → ⊥
never b is not = cc

-- ---- which disks are stale no more

pub none_whole_stale : (before core : CoreState) (u : Uberblock) (counts : ScrubCounts) (is : IsScrubbedOver before u core counts)
    → NoWholeIsStale is.looked.whole.items core
none_whole_stale before core u counts is disk birth marked =
    let guids : Config → List ℕ = λ config. guids_in (config_view config) in
    is.begun.again.stale disk birth
    ∙ ap (λ (config : Config). is_stale (stale_groups (spans_of core) (guids config)) disk birth) is.begun.again.configured
    ∙ whole_missed_none (guids (config_of before)) is.looked.whole.items (spans_of before) (spans_of core) disk birth is.begun.cleared marked

none_of_it : (out : List Bool) (left : List Finding) (disk : ℕ) → ((one : Finding) → Contains left one → is_out out one.disk ≡ true)
    → is_out out disk ≡ false → IsClean left disk
none_of_it out left disk all there at one is same =
    never (is_out out disk) (subst (λ (d : ℕ). is_out out d ≡ true) same (all one (contained_at left at one is))) there

empty : (items : List ℕ) (disk : ℕ) → items ≡ [] → ¬ Contains items disk
empty items disk none (k, within, is) = omega (arith, within, ap (λ (them : List ℕ). length them) none)

none_stale : (before core : CoreState) (u : Uberblock) (counts : ScrubCounts) (is : IsScrubbedOver before u core counts)
    → IsCleanEnd is.layout.out.items is.looked.healed → NonePresentIsStale is.layout.out.items core
none_stale before core u counts is clean disk birth within there =
    none_whole_stale before core u counts is disk birth
    ((is.looked_is.whole.marked disk within).1 (
      there,
      none_of_it is.layout.out.items is.looked.healed.left.items disk clean.left there,
      empty is.looked.healed.unflushed.items disk clean.flushed,
    ))

-- ---- what stands

-- each call up to the last look, and what it was
pub looked_grew : (before core : CoreState) (u : Uberblock) (counts : ScrubCounts) (is : IsScrubbedOver before u core counts) → GoesOn (disks_of before) is.mid
looked_grew before core u counts is =
    let it = is.looked_is in
    grew_on (disks_of before) it.mid is.mid (grew_by_reads (disks_of before) it.mid it.walked.reads)
    (healed_grew is.layout.shapes.items it.blocks (outs_from 0 is.layout.out.items) it.mid is.mid is.looked.healed it.healed)

held_clean : CheckedBlocksStand → (before core : CoreState) (u : Uberblock) (counts : ScrubCounts) (stored : Contents) (pool : PlainPool)
    → (is : IsScrubbedOver before u core counts) → IsCleanEnd is.layout.out.items is.looked.healed → HasPoolOn before is.layout u stored pool
    → StandAlone is.mid is.layout stored → IsHonestSince (disks_of before) (disks_of core)
    → HoldOver is.mid is.layout.shapes.items is.layout.out.items core.commit.store.spans.stale stored
held_clean law before core u counts stored pool is clean has known honest store over =
    let it = is.looked_is in
    let shapes = is.layout.shapes.items in
    let out = is.layout.out.items in
    let missing = outs_from 0 out in
    let grew = looked_grew before core u counts is in
    let rest = grew_by_reads is.mid (disks_of core) is.begun.again.reads.only in
    let look = last_look shapes it.blocks missing it.mid is.mid is.looked.healed it.healed in
    let walked = grew_by_reads (disks_of before) it.mid it.walked.reads in
    -- the store that was over the disks before
    let first : Store = record store { disks = disks_of before; spans = record store.spans { stale = is.layout.stale.items } } in
    let was : IsStoreOver (disks_of before) shapes out is.layout.stale.items first = record {
      disks_are = refl;
      shapes_are = over.shapes_are;
      out_is = over.out_is;
      since = over.since ∙ ap (λ (starts : List (List ℕ)). replicate (length starts) 0) grew.starts;
      stale_is = refl;
    } in
    let held : Holds first stored = has.held first was in
    let blocks : it.blocks ≡ _ = it.walked.reach stored pool has.held has.spells.0
    (inl (honest_part (disks_of before) (disks_of before) it.mid (disks_of core) (no_calls (disks_of before))
    (grew_on it.mid is.mid (disks_of core) (healed_grew shapes it.blocks missing it.mid is.mid is.looked.healed it.healed) rest) honest)) in
    record {
      blocks = held.blocks;
      places = held.places;
      stand = λ block bytes i extent is_stored copy.
          let on : IsCopyOn shapes block i extent =
          copy_on store.spaces shapes block i extent over.shapes_are (held.places block bytes is_stored) copy in
          let digest : sha256 bytes ≡ block.checksum = (held.blocks block bytes is_stored).digest in
          let (right, is_right, again) =
          law shapes look.from is.mid missing missing it.blocks is.looked.healed.left.items look.checked look.reads
          (honest_part (disks_of before) look.from is.mid (disks_of core) (grew_on (disks_of before) it.mid look.from walked look.before) rest honest)
          (λ one found. out_among out one.disk (clean.left one found))
          block bytes (subst (λ (them : List Block). Contains them block) (sym blocks) (has.reached block bytes is_stored)) digest in
          let found : ExtentStands (content is.mid) missing extent right =
          again i extent (content (disks_of before)) (lost first block.birth) on (held.stand block bytes i extent is_stored copy)
          (known.known block bytes i extent is_stored on) in
          let stands : ExtentStands (content is.mid) missing extent bytes =
          subst (λ (b : List ℕ). ExtentStands (content is.mid) missing extent b) (known.alone block bytes right i extent is_stored on found is_right) found in
          subst (λ (d : Disks). ExtentStands (content d) (lost store block.birth) extent bytes) (sym over.disks_are)
          (stands_without (content is.mid) missing (lost store block.birth) extent bytes
          (λ disk gone. out_is_lost store out (length is.mid.starts) block.birth disk over.out_is over.since gone) stands);
    }

-- ---- the core

pub represents_behind : (before core : CoreState) (u : Uberblock) (counts : ScrubCounts) (stored : Contents) (pool : PlainPool)
    → (is : IsScrubbedOver before u core counts) → HasPoolOn before is.layout u stored pool
    → TellOver is.mid (disks_of core) is.layout.shapes.items is.layout.out.items core.commit.store.spans.stale
    → HoldOver is.mid is.layout.shapes.items is.layout.out.items core.commit.store.spans.stale stored
    → Represents core (opened_as (vdevs_in is.layout.shapes.items) (is_out is.layout.out.items) (is_stale core.commit.store.spans.stale) u.group pool)
represents_behind before core u counts stored pool is has tell hold =
    is.begun.again.represents stored pool hold has.spells has.configured
    (subst (λ (config : Config). IsStampOf (config_view config) u.claim (stamp_of u)) (sym is.begun.again.configured) has.named) tell has.made

-- answers that are true throughout are so as the core is begun anew
pub honest_again : (before core : CoreState) (u : Uberblock) (counts : ScrubCounts) → (is : IsScrubbedOver before u core counts)
    → IsHonestSince (disks_of before) (disks_of core)
    → TellOver is.mid (disks_of core) is.layout.shapes.items is.layout.out.items core.commit.store.spans.stale
honest_again before core u counts is honest =
    inl (honest_part (disks_of before) is.mid (disks_of core) (disks_of core) (looked_grew before core u counts is) (no_calls (disks_of core)) honest)

-- ---- clean ends

pub clean_goes_on : CheckedBlocksStand → CleanScrubsGoOnWhole
clean_goes_on law before core u counts stored pool is clean has known honest = (
  represents_behind before core u counts stored pool is has (honest_again before core u counts is honest)
      (held_clean law before core u counts stored pool is clean has known honest),
  none_stale before core u counts is clean,
)
