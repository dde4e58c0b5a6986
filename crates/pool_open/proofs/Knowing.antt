-- What is known of a root by reading it once more.
use Rattle.std.proofs.Common.{◌≡◌, ◌≢◌, inl, inr, ℕ, Bool, Option, List, [], ◌∷◌, length, refl, sym, ap, ◌∙◌, subst, arith}
use Rattle.std.specs.Prelude.{map, replicate}
use Rattle.model_disk.specs.Joint.{Disks, JointCall, AreHonestSince}
use Rattle.model_disk.proofs.LawLemmas.{parts_are_honest}
use Rattle.raidz_io.specs.Reads.{IsHonestSince, OnlyReads}
use Rattle.raidz_io.proofs.Calls.{length-OnlyReads}
use Rattle.raidz_io.proofs.Given.{parts_give_truly, parts_tell}
use Rattle.block_pointer.specs.declared.block.Block.{Block}
use Rattle.disk_set.specs.declared.stale.GroupSpan.{GroupSpan}
use Rattle.block_store.specs.Blocks.{Contents}
use Rattle.block_store.specs.Elsewhere.{WritesElsewhereKeep}
use Rattle.block_store.specs.Places.{AreEmpty, shapes_of}
use Rattle.block_store.specs.Spaces.{VdevSpace}
use Rattle.block_store.specs.Store.{Store, is_stale, outs_from}
use Rattle.block_store.specs.Steps.{FewLie}
use Rattle.block_store.proofs.ReadingSteps.{reads_on, untouched_on}
use Rattle.block_store.proofs.Steps.{few_before, few_after}
use Rattle.block_store.specs.declared.shape.VdevShape.{VdevShape}
use Rattle.objset.specs.Objects.{Object}
use Rattle.meta_objset.specs.Reading.{HasStaleSpans}
use Rattle.meta_objset.specs.declared.stale_spans.StaleSpan.{StaleSpan}
use Rattle.pool_core.specs.Pools.{SpellsPool}
use Rattle.pool_core.specs.RootContents.{RootContents}
use Rattle.pool_core.proofs.SnapshotsReadings.{roots_spell_one_pool}
use Rattle.pool_model.specs.Pools.{PlainPool}
use Rattle.pool_slots.proofs.Phases.{none_same}
use Rattle.space_map_objects.specs.declared.refusal.Refusal.{Refusal}
use Rattle.stale_disks.proofs.NoSpans.{none_stale}
use Rattle.stale_disks.proofs.Tables.{empty_once}
use Rattle.stale_disks.specs.Rules.{AreSpansOpened, guids_in, stale_groups}
use Rattle.vdev_label.specs.Plain.{config_view}
use Rattle.vdev_label.specs.declared.label.Config.{Config}
use Rattle.pool_open.specs.Known.{IsKnownBy}
use Rattle.pool_open.specs.declared.known.KnownRoot.{KnownRoot}
use Rattle.pool_open.specs.Held.{HoldOver, IsStoreOver, TellOver}
use Rattle.pool_open.specs.Roots.{AreMissedBy, AreReadBeside, IsKnownRoot, IsReadOfRoot, IsRefusedAgain}
use Rattle.pool_open.proofs.Holding.{held_on}
use Rattle.pool_open.proofs.Through.{block_reads_made}

-- ---- stores

-- a store that was opened over disks, and told which groups they missed
pub over_disks : (disks : Disks) (shapes : List VdevShape) (out : List Bool) (stale : List (Option GroupSpan)) (opened store : Store) → opened.disks ≡ disks
    → shapes_of opened.spaces ≡ shapes → opened.out ≡ out → opened.spans.since ≡ replicate (length disks.starts) 0
    → store ≡ record opened { spans = record opened.spans { stale = stale } } → IsStoreOver disks shapes out stale store
over_disks disks shapes out stale opened store at are marks since told = record {
  disks_are = ap (λ (s : Store). s.disks) told ∙ at;
  shapes_are = ap (λ (s : Store). shapes_of s.spaces) told ∙ are;
  out_is = ap (λ (s : Store). s.out) told ∙ marks;
  since = ap (λ (s : Store). s.spans.since) told ∙ since;
  stale_is = ap (λ (s : Store). s.spans.stale) told;
}

pub marked_empty : (opened store : Store) (stale : List (Option GroupSpan)) → store ≡ record opened { spans = record opened.spans { stale = stale } } → AreEmpty opened.spaces
    → AreEmpty store.spaces
marked_empty opened store stale told empty = subst (λ (spaces : List VdevSpace). AreEmpty spaces) (sym (ap (λ (s : Store). s.spaces) told)) empty

-- vdevs of these shapes
spaces_of : List VdevShape → List VdevSpace
spaces_of shapes = map (λ shape. record { shape = shape; kept = []; planned = []; pins = [] }) shapes

of_shapes : (shapes : List VdevShape) → shapes_of (spaces_of shapes) ≡ shapes
unfolding spaces_of
of_shapes [] = refl
of_shapes (shape ∷ shapes) = ap (λ (rest : List VdevShape). shape ∷ rest) (of_shapes shapes)

-- ---- what two reads gave

first_honest : (old mid new : Disks) → OnlyReads mid new → IsHonestSince old new → IsHonestSince old mid
first_honest old mid new rest honest =
    let P : List (List ℕ) → Type 0 = λ starts. AreHonestSince (length old.calls) starts new.calls in
    let Q : List JointCall → Type 0 = AreHonestSince (length old.calls) mid.starts in
    parts_are_honest mid.starts (length old.calls) (length old.calls) rest.newer mid.calls (omega arith) (subst Q rest.calls (subst P rest.starts honest))

later_honest : (old mid new : Disks) → OnlyReads old mid → IsHonestSince old new → IsHonestSince mid new
later_honest old mid new first honest = parts_are_honest new.starts (length old.calls) (length mid.calls) [] new.calls (length-OnlyReads old mid first) honest

-- where both tell the blocks, the first one does
pub first_tells : (old mid new : Disks) (shapes : List VdevShape) (out : List Bool) (stale : List (Option GroupSpan)) → OnlyReads old mid → OnlyReads mid new
    → TellOver old new shapes out stale → TellOver old mid shapes out stale
first_tells old mid new shapes out stale first rest tell = elim tell [
  | inl honest ↦ inl (first_honest old mid new rest honest)
  | inr few ↦ inr (λ store later over same.
      let last : Store = record later { disks = new } in
      let lie : FewLie store last [] = few store last over refl in
      let begun : OnlyReads store.disks later.disks = subst (λ (d : Disks). OnlyReads d later.disks) (sym over.disks_are) (subst (λ (d : Disks). OnlyReads old d) (sym same) first) in
      let goes_on : OnlyReads later.disks new = subst (λ (d : Disks). OnlyReads d new) (sym same) rest in
      record {
        liars = lie.liars;
        few = few_before store later last lie.liars goes_on lie.few;
        truly = λ disk there. (parts_give_truly store.disks later.disks new begun goes_on disk (lie.truly disk there)).0;
        told = (parts_tell store.disks later.disks new begun goes_on lie.told).0;
      })
]

-- and so does the one behind it
pub later_tells : (old mid new : Disks) (shapes : List VdevShape) (out : List Bool) (stale : List (Option GroupSpan)) → OnlyReads old mid → OnlyReads mid new
    → TellOver old new shapes out stale → TellOver mid new shapes out stale
later_tells old mid new shapes out stale first rest tell = elim tell [
  | inl honest ↦ inl (later_honest old mid new first honest)
  | inr few ↦ inr (λ store later over same.
      let before : Store = record store { disks = old } in
      let over_first : IsStoreOver old shapes out stale before = record {
        disks_are = refl;
        shapes_are = over.shapes_are;
        out_is = over.out_is;
        since = over.since ∙ ap (λ (starts : List (List ℕ)). replicate (length starts) 0) first.starts;
        stale_is = over.stale_is;
      } in
      let lie : FewLie before later [] = few before later over_first same in
      let begun : OnlyReads old store.disks = subst (λ (d : Disks). OnlyReads old d) (sym over.disks_are) first in
      let goes_on : OnlyReads store.disks later.disks = subst (λ (d : Disks). OnlyReads d later.disks) (sym over.disks_are) (subst (λ (d : Disks). OnlyReads mid d) (sym same) rest) in
      record {
        liars = lie.liars;
        few = few_after before store later lie.liars begun refl refl refl lie.few;
        truly = λ disk there. (parts_give_truly old store.disks later.disks begun goes_on disk (lie.truly disk there)).1;
        told = (parts_tell old store.disks later.disks begun goes_on lie.told).1;
      })
]

-- of other disks that are the same
pub beside_of : (out others : List Bool) (old before new : Disks) → out ≡ others → old ≡ before → AreReadBeside out old new → AreReadBeside others before new
beside_of out others old before new flags disks it = subst (λ (o : List Bool). AreReadBeside o before new) flags (subst (λ (d : Disks). AreReadBeside out d new) disks it)

-- one read behind the other
pub beside_on : (out : List Bool) (old mid new : Disks) → AreReadBeside out old mid → AreReadBeside out mid new → AreReadBeside out old new
beside_on out old mid new first rest = record {
  only = reads_on old mid new first.only rest.only;
  untouched = untouched_on (outs_from 0 out) old mid new first.untouched rest.untouched;
}

-- ---- what is known

-- what was read once more is so of the disks before the first read
read_twice : WritesElsewhereKeep → (old mid new : Disks) (shapes : List VdevShape) (out : List Bool) (stale : List (Option GroupSpan)) (group : ℕ) (root : Block) (contents : RootContents)
    → OnlyReads old mid → OnlyReads mid new → IsReadOfRoot mid new shapes out stale group root contents → IsReadOfRoot old new shapes out stale group root contents
read_twice keep old mid new shapes out stale group root contents first rest read = record {
  are = λ stored pool hold spells tell.
      read.are stored pool
      (held_on keep shapes out stale old mid stored first.starts (λ disk i. none_same old mid disk i (block_reads_made old mid first)) hold)
      spells (later_tells old mid new shapes out stale first rest tell);
  sets = read.sets;
}

-- of a pool whose table has no span a first read tells none
pub told_none : (old new : Disks) (shapes : List VdevShape) (out : List Bool) (group : ℕ) (root : Block) (contents : RootContents)
    → IsReadOfRoot old new shapes out [] group root contents → (stored : Contents) (pool : PlainPool) → HoldOver old shapes out [] stored
    → (is : SpellsPool stored group root pool) → is.stale ≡ [] → TellOver old new shapes out [] → contents.spans ≡ []
told_none old new shapes out group root contents read stored pool hold is none tell =
    let are = read.are stored pool hold is tell (spaces_of shapes) (of_shapes shapes) in
    let same : is.objects ≡ are.is.objects = (roots_spell_one_pool stored group group root pool pool is are.is).4 in
    let empty : HasStaleSpans (is.objects 3) [] = subst (λ (spans : List StaleSpan). HasStaleSpans (is.objects 3) spans) none is.spans in
    are.spans ∙ empty_once (are.is.objects 3) are.is.stale (subst (λ (objects : ℕ → Option Object). HasStaleSpans (objects 3) []) same empty) are.is.spans

-- so its root isn't refused once more
pub never_again : (guids : List ℕ) (old new : Disks) (shapes : List VdevShape) (out : List Bool) (group : ℕ) (root : Block) (most : ℕ) (refusal : Refusal)
    → IsRefusedAgain guids old new shapes out group root most refusal → (stored : Contents) (pool : PlainPool) → HoldOver old shapes out [] stored
    → (is : SpellsPool stored group root pool) → is.stale ≡ [] → TellOver old new shapes out [] → ⊥
never_again guids old new shapes out group root most refusal again stored pool hold is none tell =
    again.tells.some (told_none old again.mid shapes out group root again.first again.tells.read stored pool hold is none
    (first_tells old again.mid new shapes out [] again.before.only again.after.only tell))

pub known_at_once : (old new : Disks) (shapes : List VdevShape) (out : List Bool) (group : ℕ) (root : Block) (contents : RootContents)
    → IsReadOfRoot old new shapes out [] group root contents → IsKnownRoot old new shapes out group root contents []
known_at_once old new shapes out group root contents read = record { read = read; fresh = λ stored pool hold is none tell. refl }

-- what is known of the disks follows from the spans that were opened
pub known_spans : (out : List Bool) (group : ℕ) (root : KnownRoot) (config : Config) (table : List StaleSpan) → config ≡ root.disks.config.value → table ≡ root.contents.spans
    → AreSpansOpened (guids_in (config_view config)) out group table root.disks.spans
    → root.stale.items ≡ stale_groups root.disks.spans (guids_in (config_view config)) → IsKnownBy out group root
known_spans out group root config table same table_is spans stale = record {
  spans = subst (λ (c : Config). AreSpansOpened (guids_in (config_view c)) out group root.contents.spans root.disks.spans) same
      (subst (λ (rows : List StaleSpan). AreSpansOpened (guids_in (config_view config)) out group rows root.disks.spans) table_is spans);
  stale = λ disk birth. ap (λ (them : List (Option GroupSpan)). is_stale them disk birth) stale
      ∙ ap (λ (c : Config). is_stale (stale_groups root.disks.spans (guids_in (config_view c))) disk birth) same;
}

-- no spans come of a table without rows
none_opened : (guids : List ℕ) (out : List Bool) (group : ℕ) → AreSpansOpened guids out group [] []
none_opened guids out group span = (λ held. absurd (omega (arith, held.1)), λ it. absurd (omega (arith, it.1.1)))

-- so the groups that disks missed are those of its table
pub missed_by : (out : List Bool) (group : ℕ) (root : KnownRoot) (config : Config) → root.disks.config.value ≡ config → IsKnownBy out group root
    → AreMissedBy (guids_in (config_view config)) out group root.contents.spans root.stale.items
missed_by out group root config same known =
    subst (λ (c : Config). AreMissedBy (guids_in (config_view c)) out group root.contents.spans root.stale.items) same
    (record { spans = root.disks.spans; opened = known.spans; same = known.stale })

-- of another configuration that is the same
pub missed_of : (out : List Bool) (group : ℕ) (table spans : List StaleSpan) (stale others : List (Option GroupSpan)) (config other : Config) → config ≡ other → others ≡ stale
    → AreSpansOpened (guids_in (config_view config)) out group table spans → stale ≡ stale_groups spans (guids_in (config_view config))
    → AreMissedBy (guids_in (config_view other)) out group table others
missed_of out group table spans stale others config other same again opened is =
    subst (λ (c : Config). AreMissedBy (guids_in (config_view c)) out group table others) same (record {
      spans = spans;
      opened = opened;
      same = λ disk birth. ap (λ (them : List (Option GroupSpan)). is_stale them disk birth) (again ∙ is);
    })

-- where the table has no rows none is known, and no disk missed a group
pub known_none : (out : List Bool) (group : ℕ) (root : KnownRoot) → root.contents.spans ≡ [] → root.disks.spans ≡ [] → root.stale.items ≡ [] → IsKnownBy out group root
known_none out group root table known stale =
    let guids : List ℕ = guids_in (config_view root.disks.config.value) in
    let S : List StaleSpan → List StaleSpan → Type 0 = λ rows spans. AreSpansOpened guids out group rows spans in
    record {
      spans = subst (λ (rows : List StaleSpan). S rows root.disks.spans) (sym table) (subst (λ (spans : List StaleSpan). S [] spans) (sym known) (none_opened guids out group));
      stale = λ disk birth. ap (λ (them : List (Option GroupSpan)). is_stale them disk birth) stale
          ∙ sym (ap (λ (spans : List StaleSpan). is_stale (stale_groups spans guids) disk birth) known ∙ none_stale guids disk birth);
    }

pub known_again : WritesElsewhereKeep → (old mid new : Disks) (shapes : List VdevShape) (out : List Bool) (stale : List (Option GroupSpan)) (group : ℕ) (root : Block)
    (first contents : RootContents) → OnlyReads old mid → OnlyReads mid new → IsReadOfRoot old mid shapes out [] group root first → first.spans ≢ []
    → IsReadOfRoot mid new shapes out stale group root contents → IsKnownRoot old new shapes out group root contents stale
known_again keep old mid new shapes out stale group root first contents before after told some read = record {
  read = read_twice keep old mid new shapes out stale group root contents before after read;
  fresh = λ stored pool hold is none tell.
      absurd (some (told_none old mid shapes out group root first told stored pool hold is none (first_tells old mid new shapes out [] before after tell)));
}
