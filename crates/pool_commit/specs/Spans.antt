-- The stale spans of the groups that are kept.
use Rattle.std.specs.Prelude.{ℕ, ◌≡◌, ◌↔◌, Bool, false, Some, List, [], Contains}
use Rattle.block_store.specs.Store.{is_stale}
use Rattle.meta_objset.specs.declared.stale_spans.StaleSpan.{StaleSpan}
use Rattle.stale_disks.specs.Rules.{AreSpansAfter, AreSpansOpened, guids_in, stale_groups}
use Rattle.vdev_label.specs.Plain.{config_view}
use Rattle.pool_commit.specs.State.{State}
use Rattle.pool_commit.specs.declared.kept.KeptGroup.{KeptGroup}
use Rattle.pool_commit.specs.declared.kept.Planned.{Planned}

-- the table of the group behind the last one has the spans that were known by then, and of each disk that is out one without an end
pub record HasSpansAfter (last : KeptGroup) (out : List Bool) (group : ℕ) (after : KeptGroup) : Type 0 where
  pub table : AreSpansAfter (guids_in (config_view last.config.value)) out group last.spans.value after.spans_under.value
  pub known : after.spans.value ≡ after.spans_under.value

-- what is known as the group is opened are the spans of its table: those of disks that are back end with the group
abbrev pub HasSpansOpened : List Bool → ℕ → KeptGroup → Type 0
HasSpansOpened out group last = AreSpansOpened (guids_in (config_view last.config.value)) out group last.spans_under.value last.spans.value

-- these spans, and no others
abbrev pub AreSameSpans : List StaleSpan → List StaleSpan → Type 0
AreSameSpans before after = (span : StaleSpan) → Contains after span ↔ Contains before span

-- a store leaves each disk out for the blocks of the groups that it missed, by the spans that are known
abbrev pub LeavesOutStale : State → Type 0
LeavesOutStale s = (disk birth : ℕ) → is_stale s.store.spans.stale disk birth
    ≡ is_stale (stale_groups s.kept.last.spans.value (guids_in (config_view s.kept.last.config.value))) disk birth

-- by what the store was told no disk missed a group
abbrev pub NoneIsStale : State → Type 0
NoneIsStale s = (disk birth : ℕ) → is_stale s.store.spans.stale disk birth ≡ false

-- the group has no stale span, neither in its table nor by what is known
pub record HasNoSpan (it : KeptGroup) : Type 0 where
  pub table : it.spans_under.value ≡ []
  pub known : it.spans.value ≡ []

-- no group that is kept, and none that is planned, has one
pub record HaveNoSpans (s : State) : Type 0 where
  pub last : HasNoSpan s.kept.last
  pub before : (it : KeptGroup) → s.kept.before ≡ Some it → HasNoSpan it
  pub earliest : (it : KeptGroup) → s.kept.earliest ≡ Some it → HasNoSpan it
  pub planned : (plan : Planned) → s.planned ≡ Some plan → HasNoSpan plan.after
