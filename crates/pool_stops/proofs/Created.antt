-- A pool that was just made runs.
use Rattle.std.proofs.Common.{ℕ, zero, suc, ◌≡◌, inr, ◌<◌, Bool, false, List, [], length, Option, None, refl, sym, ap, subst, ◌∙◌, arith}
use Rattle.model_disk.specs.Joint.{Disks, bytes_of, content}
use Rattle.block_store.specs.Opened.{MayBeOpened}
use Rattle.block_store.specs.Store.{is_out}
use Rattle.uberblock_ring.specs.declared.uberblock.Uberblock.{Uberblock}
use Rattle.pool_create.specs.CommitPlanned.{Planned}
use Rattle.pool_create.specs.Backs.{Backs}
use Rattle.pool_create.specs.CommitState.{State}
use Rattle.pool_create.specs.Creating.{IsShownAlone}
use Rattle.pool_create.specs.Planning.{nobody, none_out}
use Rattle.pool_model.specs.Pools.{no_volumes}
use Rattle.pool_model.specs.View.{View, none_stale, opened_as}
use Rattle.pool_create.specs.Words.{vdevs_in}
use Rattle.pool_slots.specs.Commits.{AreAt, only_last}
use Rattle.pool_slots.specs.PhaseLaws.{BlocksBegin}
use Rattle.pool_slots.specs.Phases.{AreInBlocks}
use Rattle.pool_slots.specs.Possible.{IsInReach, IsPossible, LeadsOn, TreeStands, Trees}
use Rattle.pool_slots.specs.Slots.{AreSettled, InUse}
use Rattle.volume_rules.specs.NowMoves.{IsMadeBy}
use Rattle.pool_stops.specs.Created.{CreatedPoolsRun}
use Rattle.pool_stops.specs.Filled.{is_filled}
use Rattle.pool_stops.specs.Running.{IsOfKept, IsWhole, StandAt}
use Rattle.pool_stops.specs.Standing.{filled_trees}
use Rattle.pool_stops.proofs.Commits.{group_at_last}
use Rattle.pool_stops.proofs.Reopening.{alone, no_plan, whole_opened}
use Rattle.pool_stops.proofs.Steps.{last_in_reach, used_below}
use Rattle.pool_stops.proofs.Trees.{picked_stand}

none_of : (n disk : ℕ) → is_out (none_out n) disk ≡ false
none_of zero disk = refl
none_of (suc n) zero = refl
none_of (suc n) (suc disk) = none_of n disk

count_of : (n : ℕ) → length (none_out n) ≡ n
count_of zero = refl
count_of (suc n) = ap suc (count_of n)

-- a disk that shows one uberblock and no other leads to it alone
leads_alone : (trees : Trees) (out : List Bool) (disks : Disks) (count which : ℕ) (u : Uberblock) → which < count → IsShownAlone count disks u
    → ((w : Uberblock) → TreeStands trees out (content disks) w.root)
    → LeadsOn (length (bytes_of disks.starts which)) (content disks which) u (IsPossible trees out (content disks) (only_last u []))
leads_alone trees out disks count which u below shown stand =
    let on = shown.each which below in
    record {
      only = λ label slot is w shows. record {
        u = w;
        shows = shows;
        rank = inr (subst (λ (x : Uberblock). IsInReach (only_last u []) x) (sym (shown.only which label slot w below is shows)) (last_in_reach u []), stand w);
      };
      top = record { label = on.label; slot = on.slot; u = u; is_slot = on.is_slot; shows = on.shows; rank = inr (refl, omega arith) };
    }

pub created_pools_run : BlocksBegin → CreatedPoolsRun
created_pools_run begin old pool config u core is known honest some few =
    let s : State = core.commit in
    let trees : Trees = filled_trees s.store.spaces s.store.disks in
    let out : List Bool = nobody old.starts in
    let v : View = opened_as (vdevs_in is.shapes) (is_out out) none_stale 3 no_volumes in
    let represents = is.represents honest in
    let backs : Backs s v = represents.backs in
    let starts : s.store.disks.starts ≡ old.starts = is.grew.starts in
    let lies : MayBeOpened s.store.disks.starts is.shapes s.store.out =
    subst (λ (them : List (List ℕ)). MayBeOpened them is.shapes s.store.out) (sym starts)
    (subst (λ (flags : List Bool). MayBeOpened old.starts is.shapes flags) (sym is.outs) (is.may.lie is.shapes is.shapes_are)) in
    let whole : IsWhole s =
    whole_opened s is.shapes is.vdevs lies (omega (arith, few, ap length starts))
    (λ disk. ap (λ flags. is_out flags disk) is.outs ∙ none_of (length old.starts) disk) (omega (arith, some, ap length starts)) is.fresh
    (is.untouched honest) in
    let stand : (w : Uberblock) → TreeStands trees out (content s.store.disks) w.root =
    λ w. picked_stand (is_filled s.store.spaces) out (content s.store.disks) w.root in
    let there : (which : ℕ) → InUse out which → which < length old.starts = λ which used. omega (arith, used_below out which used, count_of (length old.starts)) in
    let at : AreAt trees out s.store.disks u [] = record {
      there = λ which used. omega (arith, there which used, ap length starts);
      fits = is.fits;
      settled = λ which used. is.settled which (omega (arith, there which used, ap length starts));
      leads = λ which used. leads_alone trees out s.store.disks (length old.starts) which u (there which used) (is.alone known honest) stand;
    } in
    let unplanned : s.planned ≡ None = no_plan s v s.planned backs refl refl in
    let phase : AreInBlocks trees s.store.out s.store.disks u [] =
    subst (λ (them : List Bool). AreInBlocks trees them s.store.disks u []) (sym is.outs) (begin trees out s.store.disks u [] at) in
    let settled : AreSettled s.store.out s.store.disks.calls = subst (λ (them : List Bool). AreSettled them s.store.disks.calls) (sym is.outs) at.settled in
    record {
      represents = represents;
      whole = whole;
      claim = ap (λ st. st.claim) (sym is.stamped);
      group = is.first.group_is;
      lower = λ w among. absurd (omega (arith, among.1));
      kept = λ w reach. subst (λ (x : Uberblock). IsOfKept s v x) (sym (alone u w reach)) (record {
        kept = s.kept.last;
        is = group_at_last s.kept u.group (is.first.group_is ∙ sym backs.committed);
        root = is.root;
        stamped = sym is.stamped;
        made = subst (λ n. IsMadeBy n no_volumes) (sym is.first.group_is) represents.follows.made;
      });
      stand = subst (λ (o : Option Planned). StandAt s o u []) (sym unplanned) (record { blocks = phase; settled = settled });
    }
