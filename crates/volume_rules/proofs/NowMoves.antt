-- How each step moves NOW.
use Rattle.std.proofs.Common.{◌≡◌, ℕ, zero, suc, ◌≤◌, Bool, true, false, true≢false, List, [], ◌∷◌, ◌++◌, map, Option, Some, None, refl, sym, ap, ◌∙◌, subst, arith}
use Rattle.std.specs.Prelude.{cond, fold, is_some, nat_le, not, ◌==◌, ◌&&◌, ◌||◌, if◌then◌else◌}
use Rattle.pool_model.specs.declared.group.Stage.{Stage}
use Rattle.pool_model.specs.declared.group.Stage.TheVariants.{Quiescing, Quiesced as QuiescedStage}
use Rattle.pool_model.specs.declared.item.Action.{Action}
use Rattle.pool_model.specs.declared.item.Item.TheVariants.{Write as WriteItem, Action as ActionItem}
use Rattle.pool_model.specs.declared.item.Write.{Write}
use Rattle.pool_model.specs.declared.refusal.Refusal.{Refusal}
use Rattle.pool_model.specs.declared.step.Step.{Step}
use Rattle.pool_model.specs.declared.step.Step.TheVariants.{Hold, Write as WriteStep, Act}
use Rattle.pool_model.specs.declared.step.Reply.{Reply}
use Rattle.pool_model.specs.declared.step.Reply.TheVariants.{Receipt, Refused}
use Rattle.pool_model.specs.Pools.{PlainPool, Ledger, no_items, written, changed, applied, upto}
use Rattle.pool_model.specs.View.{View, Given, Sync, Idle, Unplanned, Due, is_syncing, is_planned, is_quiesced, waiting_after, open_after, open_group, now_of}
use Rattle.pool_model.specs.Refusals.{may_plan}
use Rattle.pool_model.specs.Flow.{flow_of, added, ledger_accepted, with_hold, without_hold, with_accepted}
use Rattle.pool_model.specs.Machine.{with_flow, taken, dropped, committed_next, StepOf}
use Rattle.pool_model.specs.Sound.{IsSound}
use Rattle.pool_model.proofs.Answering.{syncs_without_plan}
use Rattle.pool_model.proofs.Moves.{EachMove, by_move}
use Rattle.pool_model.proofs.Told.{stays}
use Rattle.pool_model.proofs.Uptos.{upto_above, upto_agree, upto_from, itself}
use Rattle.volume_rules.specs.declared.index.NameIndex.{NameIndex}
use Rattle.volume_rules.specs.Shapes.{outline, HaveSameShapes}
use Rattle.volume_rules.specs.Index.{Knows}
use Rattle.volume_rules.specs.NowMoves.{MovesNow, is_action_taken}
use Rattle.volume_rules.proofs.Volumes.{ascending_alike, same_entries, shapes_applied, shapes_self}

-- ---- writes

pub shapes_upto : (c : ℕ) (pool other : PlainPool) (ledger also : Ledger) (n : ℕ) → HaveSameShapes pool other → ((group : ℕ) → (ledger group).actions ≡ (also group).actions) → HaveSameShapes (upto c pool ledger n) (upto c other also n)
shapes_upto c pool other ledger also zero h f = h
shapes_upto c pool other ledger also (suc n) h f =
    let rest = shapes_applied (suc n) (upto c pool ledger n) (upto c other also n) (ledger (suc n)) (also (suc n)) (f (suc n)) (shapes_upto c pool other ledger also n h f) in
    elim (nat_le (suc n) c) as (λ b. HaveSameShapes (cond b pool (applied (suc n) (upto c pool ledger n) (ledger (suc n)))) (cond b other (applied (suc n) (upto c other also n) (also (suc n))))) [ true ↦ h | false ↦ rest ]

pub actions_stay : (ledger : Ledger) (group : ℕ) (x : Write) (g : ℕ) → (ledger_accepted ledger group (WriteItem x) g).actions ≡ (ledger g).actions
actions_stay ledger group x g = elim (g == group) as (λ b. (cond b (added (ledger g) (WriteItem x)) (ledger g)).actions ≡ (ledger g).actions) [ true ↦ refl | false ↦ refl ]

-- a write that is accepted leaves every shape
pub now_wrote : (v : View) (writer group : ℕ) (x : Write) → HaveSameShapes (now_of (with_flow v (with_accepted (flow_of v) writer group (WriteItem x)))) (now_of v)
now_wrote v writer group x = shapes_upto v.committed (v.pools v.committed) (v.pools v.committed) (ledger_accepted v.ledger group (WriteItem x)) v.ledger (open_group v) (shapes_self (v.pools v.committed)) (actions_stay v.ledger group x)

-- ---- actions

pub fold_push : {A B : Type 0} (f : B → A → B) (z : B) (xs : List A) (y : A) → fold f z (xs ++ y ∷ []) ≡ f (fold f z xs) y
fold_push f z [] y = refl
fold_push f z (x ∷ xs) y = fold_push f (f z x) xs y

upto_acted : (c n : ℕ) (pool : PlainPool) (ledger : Ledger) (a : Action) → c ≤ n → upto c pool (ledger_accepted ledger (suc n) (ActionItem a)) (suc n) ≡ changed (suc n) (upto c pool ledger (suc n)) a.change
upto_acted c n pool ledger a le =
    upto_above c n pool (ledger_accepted ledger (suc n) (ActionItem a)) le
    ∙ ((λ i. applied (suc n) (below i) (cond (itself (suc n) i) (added (ledger (suc n)) (ActionItem a)) (ledger (suc n))))
    ∙ (fold_push (λ p (x : Action). changed (suc n) p x.change) (fold written (upto c pool ledger n) (ledger (suc n)).writes) (ledger (suc n)).actions a
    ∙ ap (λ p. changed (suc n) p a.change) (sym (upto_above c n pool ledger le))))
  where
    below : upto c pool (ledger_accepted ledger (suc n) (ActionItem a)) n ≡ upto c pool ledger n
    below = upto_agree c pool (ledger_accepted ledger (suc n) (ActionItem a)) ledger n (λ g h. stays ledger g (suc n) (added (ledger g) (ActionItem a)) (λ e. absurd (omega arith)))

open_acted : (c : ℕ) (pool : PlainPool) (ledger : Ledger) (a : Action) (s w : Bool) → upto c pool (ledger_accepted ledger (open_after c s w) (ActionItem a)) (open_after c s w) ≡ changed (open_after c s w) (upto c pool ledger (open_after c s w)) a.change
open_acted c pool ledger a true true = upto_acted c (suc (suc c)) pool ledger a (omega arith)
open_acted c pool ledger a true false = upto_acted c (suc c) pool ledger a (omega arith)
open_acted c pool ledger a false true = upto_acted c (suc c) pool ledger a (omega arith)
open_acted c pool ledger a false false = upto_acted c c pool ledger a (omega arith)

-- an action that the open group accepts takes effect
pub now_acted : (v : View) (writer : ℕ) (a : Action) → now_of (with_flow v (with_accepted (flow_of v) writer (open_group v) (ActionItem a))) ≡ changed (open_group v) (now_of v) a.change
now_acted v writer a = open_acted v.committed (v.pools v.committed) v.ledger a (is_syncing v.sync) (is_some v.waiting)

-- ---- holds and groups

pub now_held : (v : View) (writer group : ℕ) → now_of (with_flow v (with_hold (flow_of v) writer group)) ≡ now_of v
now_held v writer group = refl

pub now_released : (v : View) (writer : ℕ) → now_of (with_flow v (without_hold (flow_of v) writer)) ≡ now_of v
now_released v writer = refl

waiting_above : (c : ℕ) (s : Bool) → c ≤ waiting_after c s
waiting_above c true = omega arith
waiting_above c false = omega arith

-- the group that opens has nothing
pub now_closed : (v : View) → IsSound v → v.waiting ≡ None → now_of (record v { waiting = Some Quiescing }) ≡ now_of v
now_closed v s e =
    upto_above v.committed last (v.pools v.committed) v.ledger (waiting_above v.committed (is_syncing v.sync))
    ∙ (ap (applied (suc last) (upto v.committed (v.pools v.committed) v.ledger last)) nothing
    ∙ ap (upto v.committed (v.pools v.committed) v.ledger) (sym opened))
  where
    last : ℕ
    last = waiting_after v.committed (is_syncing v.sync)

    opened : open_group v ≡ waiting_after v.committed (is_syncing v.sync)
    opened = ap (λ o. open_after v.committed (is_syncing v.sync) (is_some o)) e

    nothing : v.ledger (suc (waiting_after v.committed (is_syncing v.sync))) ≡ no_items
    nothing = s.flow.beyond (suc (waiting_after v.committed (is_syncing v.sync))) (let o = opened in omega arith)

pub now_quiesced : (v : View) → v.waiting ≡ Some Quiescing → now_of (record v { waiting = Some QuiescedStage }) ≡ now_of v
now_quiesced v e = ap (λ o. upto v.committed (v.pools v.committed) v.ledger (open_after v.committed (is_syncing v.sync) (is_some o))) (sym e)

open_taken : (c : ℕ) (sync s : Sync) (o : Option Stage) → is_syncing sync ≡ true → (not (is_planned s) && (is_syncing s || is_quiesced o)) ≡ true → open_after c (is_syncing sync) (is_some (if is_syncing s then o else None)) ≡ open_after c (is_syncing s) (is_some o)
open_taken c sync Idle None e t = absurd (true≢false (sym t))
open_taken c sync Idle (Some Quiescing) e t = absurd (true≢false (sym t))
open_taken c sync Idle (Some QuiescedStage) e t = ap (λ b. open_after c b false) e
open_taken c sync Unplanned o e t = ap (λ b. open_after c b (is_some o)) e
open_taken c sync (Due calls) o e t = absurd (true≢false (sym t))

-- a group that may be planned is taken to be synced
pub now_taken : (v : View) (sync : Sync) → may_plan v ≡ true → is_syncing sync ≡ true → now_of (taken v sync) ≡ now_of v
now_taken v sync m e = ap (upto v.committed (v.pools v.committed) v.ledger) (open_taken v.committed sync v.sync v.waiting e m)

-- a sync goes on
pub now_synced : (v : View) (sync : Sync) → is_syncing v.sync ≡ true → is_syncing sync ≡ true → now_of (record v { sync = sync }) ≡ now_of v
now_synced v sync e f = ap (λ b. upto v.committed (v.pools v.committed) v.ledger (open_after v.committed b (is_some v.waiting))) (f ∙ sym e)

pub now_dropped : (v : View) (disk : ℕ) → now_of (dropped v disk) ≡ now_of v
now_dropped v disk = ap (λ b. upto v.committed (v.pools v.committed) v.ledger (open_after v.committed b (is_some v.waiting))) (syncs_without_plan v.sync)

open_above : (c : ℕ) (w : Bool) → suc c ≤ open_after c true w
open_above c true = omega arith
open_above c false = omega arith

-- the group that is synced takes effect, which NOW has
pub now_committed : (v : View) → is_syncing v.sync ≡ true → now_of (committed_next v) ≡ now_of v
now_committed v e =
    ap (λ t. upto (suc v.committed) (cond t (applied (suc v.committed) (v.pools v.committed) (v.ledger (suc v.committed))) (v.pools (suc v.committed))) v.ledger (open_after v.committed true (is_some v.waiting))) (itself (suc v.committed))
    ∙ (upto_from v.committed (v.pools v.committed) v.ledger (open_after v.committed true (is_some v.waiting)) (open_above v.committed (is_some v.waiting))
    ∙ ap (λ b. upto v.committed (v.pools v.committed) v.ledger (open_after v.committed b (is_some v.waiting))) (sym e))

-- ---- each step

refused_now : (v : View) (step : Step) (cause : Refusal) → MovesNow v step (Refused cause) v
refused_now v (Act a) cause = refl
refused_now v (WriteStep x) cause = refl
refused_now v (Hold writer) cause = refl
refused_now v step cause = refl

abbrev Moves : View → Given → Step → Reply → View → Type 0
Moves v given step reply w = IsSound v → MovesNow v step reply w

now_moves : EachMove Moves
now_moves = record {
  stays = λ v given step cause may e s. refused_now v step cause;
  begun = λ v given t cause is s. refl;
  again = λ v given t cause is s. refl;
  failed = λ v given disk left e s. refl;
  replanned = λ v given disk left e s. refl;
  out_unplanned = λ v given disk e s. refl;
  out_early = λ v given disk left s. refl;
  out_late = λ v given disk left s. refl;
  moved = λ v given phase left rest out e s. refl;
  read = λ v given name offset len bytes a s. refl;
  read_under = λ v given g name offset len bytes k a s. refl;
  held = λ v given by n s. refl;
  wrote = λ v given x g h n le s. now_wrote v x.writer g x;
  acted = λ v given a g h n le op s. (op, subst (λ k. now_of (with_flow v (with_accepted (flow_of v) a.writer k (ActionItem a))) ≡ changed k (now_of v) a.change) (sym op) (now_acted v a.writer a));
  released = λ v given by s. refl;
  closed = λ v given b s. now_closed (record v { waiting = None }) s refl;
  quiesced = λ v given e s. refl;
  planned = λ v given t calls s. refl;
  replanned_group = λ v given t calls s. refl;
  committed = λ v given left out e s. now_committed (record v { sync = Due left }) refl;
}

pub moves_now : (v : View) (given : Given) (step : Step) (reply : Reply) (w : View) → IsSound v → StepOf v given step reply w → MovesNow v step reply w
moves_now v given step reply w s h = by_move Moves now_moves v given step reply w h s

-- ---- what an index knows

pub knows_along : (index : NameIndex) (pool other : PlainPool) → HaveSameShapes other pool → Knows index pool → Knows index other
knows_along index pool other h k = record {
  entries = λ name. k.entries name ∙ sym (same_entries name other pool h);
  ascending = ascending_alike other pool h k.ascending;
}

same_shapes : (v w : View) (step : Step) (reply : Reply) → is_action_taken step reply ≡ false → MovesNow v step reply w → HaveSameShapes (now_of w) (now_of v)
same_shapes v w (Act a) (Receipt group) e m = absurd (true≢false e)
same_shapes v w (WriteStep x) (Receipt group) e m = m
same_shapes v w step reply e m = record { outlines = ap (λ (p : PlainPool). map outline p.volumes) m }

pub knows_step : (v : View) (given : Given) (step : Step) (reply : Reply) (w : View) (index : NameIndex) → IsSound v → StepOf v given step reply w → is_action_taken step reply ≡ false → Knows index (now_of v) → Knows index (now_of w)
knows_step v given step reply w index s h e k = knows_along index (now_of v) (now_of w) (same_shapes v w step reply e (moves_now v given step reply w s h)) k
