-- A read gives the pool after all that was accepted before it.
use Rattle.std.proofs.Common.{◌≡◌, ⊎_elim, ℕ, suc, ◌<◌, ◌≤◌, List, [], ◌∷◌, true, false, sym, ap, ◌∙◌, subst, arith}
use Rattle.std.specs.Prelude.{cond, is_some}
use Rattle.pool_model.specs.declared.item.Item.{Item}
use Rattle.pool_model.specs.declared.item.Item.TheVariants.{Write as WriteItem, Action as ActionItem}
use Rattle.pool_model.specs.declared.step.Step.{Step}
use Rattle.pool_model.specs.declared.step.Step.TheVariants.{Hold, Read}
use Rattle.pool_model.specs.declared.step.Reply.{Reply}
use Rattle.pool_model.specs.declared.step.Reply.TheVariants.{Refused}
use Rattle.pool_model.specs.declared.refusal.Refusal.{Refusal}
use Rattle.pool_model.specs.Pools.{PlainPool, Ledger, applied, upto, volume_at}
use Rattle.pool_model.specs.View.{View, Given, is_syncing, waiting_group, open_group, now_of}
use Rattle.pool_model.specs.Machine.{with_flow, committed_next, Run}
use Rattle.pool_model.specs.Flow.{opened, flow_of, with_accepted, Takes}
use Rattle.pool_model.specs.Sound.{IsSound}
use Rattle.pool_model.specs.Accepted.{ledger_with}
use Rattle.pool_model.specs.Headline.{ReadsNow}
use Rattle.pool_model.proofs.Moves.{EachMove, by_move}
use Rattle.pool_model.proofs.Sounds.{sound_step}
use Rattle.pool_model.proofs.SoundFlows.{taken_hold}
use Rattle.pool_model.proofs.Told.{no_more, ledger_moves, stays}
use Rattle.pool_model.proofs.Uptos.{upto_above, upto_chain, upto_agree, itself}

-- the view's pools and items are made from the pool of group c by this ledger
pub record IsBased (v : View) (c : ℕ) (pool : PlainPool) (ledger : Ledger) : Type 0 where
  pub below : c ≤ v.committed
  pub same : (group : ℕ) → ledger group ≡ v.ledger group
  pub made : upto c pool ledger v.committed ≡ v.pools v.committed

waiting_above : (v : View) → v.committed < waiting_group v
waiting_above v = elim (is_syncing v.sync) as (λ b. v.committed < cond b (suc (suc v.committed)) (suc v.committed)) [ true ↦ omega arith | false ↦ omega arith ]

open_above : (v : View) → v.committed < open_group v
open_above v = let w = waiting_above v in elim (is_some v.waiting) as (λ b. v.committed < cond b (suc (waiting_group v)) (waiting_group v)) [ true ↦ omega arith | false ↦ w ]

takes_above : (v : View) (group : ℕ) → Takes (flow_of v) group → v.committed < group
takes_above v group t = let w = waiting_above v in let o = open_above v in ⊎_elim (λ e. omega arith) (λ q. let e = q.1 in omega arith) t

-- what is read now is made from the base
now_from : (v : View) (c : ℕ) (pool : PlainPool) (ledger : Ledger) → IsBased v c pool ledger → upto c pool ledger (open_group v) ≡ now_of v
now_from v c pool ledger b = sym (upto_chain c v.committed pool ledger (open_group v) b.below (let o = open_above v in omega arith)) ∙ (λ i. upto v.committed (b.made i) (λ group. b.same group i) (open_group v))

-- the base with no item more, which is the same for a view with the same pools and items
based_on : (v : View) (c : ℕ) (pool : PlainPool) (ledger : Ledger) → IsBased v c pool ledger → IsBased v c pool (ledger_with ledger [])
based_on v c pool ledger b = subst (λ (l : Ledger). IsBased v c pool l) (λ i group. no_more ledger group i) b

-- the base with one more item
based_took : (v : View) (c : ℕ) (pool : PlainPool) (ledger : Ledger) (writer g : ℕ) (item : Item) → ((group : ℕ) → ledger_with (with_flow v (with_accepted (flow_of v) writer g item)).ledger [] group ≡ ledger_with v.ledger (record { item = item; group = g } ∷ []) group) → v.committed < g → IsBased v c pool ledger → IsBased (with_flow v (with_accepted (flow_of v) writer g item)) c pool (ledger_with ledger (record { item = item; group = g } ∷ []))
based_took v c pool ledger writer g item joins above b = record {
  below = b.below;
  same = same;
  made = upto_agree c pool (ledger_with ledger (record { item = item; group = g } ∷ [])) ledger v.committed (λ group le. same group ∙ (stays v.ledger group g _ (λ e. absurd (omega arith)) ∙ sym (b.same group))) ∙ b.made;
}
  where
    same : (group : ℕ) → ledger_with ledger (record { item = item; group = g } ∷ []) group ≡ (with_flow v (with_accepted (flow_of v) writer g item)).ledger group
    same group = (λ i. ledger_with (λ n. b.same n i) (record { item = item; group = g } ∷ []) group) ∙ (sym (joins group) ∙ sym (no_more (with_flow v (with_accepted (flow_of v) writer g item)).ledger group))

-- the base after a commit
based_next : (v : View) (c : ℕ) (pool : PlainPool) (ledger : Ledger) → IsBased v c pool ledger → IsBased (committed_next v) c pool ledger
based_next v c pool ledger b = record {
  below = let low = b.below in omega arith;
  same = b.same;
  made = upto_above c v.committed pool ledger b.below ∙ ((λ i. applied (suc v.committed) (b.made i) (b.same (suc v.committed) i)) ∙ sym (ap (λ t. cond t (applied (suc v.committed) (v.pools v.committed) (v.ledger (suc v.committed))) (v.pools (suc v.committed))) (itself (suc v.committed))));
}

now_refused : (c : ℕ) (pool : PlainPool) (ledger : Ledger) (opened : ℕ) (step : Step) (given : Given) (cause : Refusal) (steps : List Step) (givens : List Given) (replies : List Reply)
    → ReadsNow c pool (ledger_with ledger []) opened steps givens replies → ReadsNow c pool ledger opened (step ∷ steps) (given ∷ givens) (Refused cause ∷ replies)
now_refused c pool ledger opened (Hold writer) given cause steps givens replies h = h
now_refused c pool ledger opened (Read name offset len) given cause steps givens replies h = h
now_refused c pool ledger opened step given cause steps givens replies h = h

abbrev NowsOn : View → Given → Step → Reply → View → Type 0
NowsOn v given step reply w = (c : ℕ) (pool : PlainPool) (ledger : Ledger) (steps : List Step) (givens : List Given) (replies : List Reply) → IsSound v → IsBased v c pool ledger
    → ((ledger : Ledger) → IsBased w c pool ledger → ReadsNow c pool ledger (open_group w) steps givens replies) → ReadsNow c pool ledger (open_group v) (step ∷ steps) (given ∷ givens) (reply ∷ replies)

now_moves : EachMove NowsOn
now_moves = record {
  stays = λ v given step cause may e c pool ledger steps givens replies s b f. now_refused c pool ledger (open_group v) step given cause steps givens replies (f (ledger_with ledger []) (based_on v c pool ledger b));
  begun = λ v given t cause is c pool ledger steps givens replies s b f. let d = based_on _ c pool ledger b in f (ledger_with ledger []) (record { below = d.below; same = d.same; made = d.made });
  again = λ v given t cause is c pool ledger steps givens replies s b f. let d = based_on _ c pool ledger b in f (ledger_with ledger []) (record { below = d.below; same = d.same; made = d.made });
  failed = λ v given disk left e c pool ledger steps givens replies s b f. let d = based_on _ c pool ledger b in f (ledger_with ledger []) (record { below = d.below; same = d.same; made = d.made });
  replanned = λ v given disk left e c pool ledger steps givens replies s b f. let d = based_on _ c pool ledger b in f (ledger_with ledger []) (record { below = d.below; same = d.same; made = d.made });
  out_unplanned = λ v given disk e c pool ledger steps givens replies s b f. let d = based_on _ c pool ledger b in f (ledger_with ledger []) (record { below = d.below; same = d.same; made = d.made });
  out_early = λ v given disk left c pool ledger steps givens replies s b f. let d = based_on _ c pool ledger b in f (ledger_with ledger []) (record { below = d.below; same = d.same; made = d.made });
  out_late = λ v given disk left c pool ledger steps givens replies s b f. let d = based_on _ c pool ledger b in f (ledger_with ledger []) (record { below = d.below; same = d.same; made = d.made });
  moved = λ v given phase left rest out e c pool ledger steps givens replies s b f. let d = based_on _ c pool ledger b in f (ledger_with ledger []) (record { below = d.below; same = d.same; made = d.made });
  read = λ v given name offset len bytes a c pool ledger steps givens replies s b f. ((λ trusted. let x = a trusted in (x.0, ap (volume_at name) (now_from v c pool ledger b) ∙ x.1, x.2)), f ledger b);
  read_under = λ v given g name offset len bytes k a c pool ledger steps givens replies s b f. f (ledger_with ledger []) (based_on v c pool ledger b);
  held = λ v given by n c pool ledger steps givens replies s b f. let d = based_on v c pool ledger b in f (ledger_with ledger []) (record { below = d.below; same = d.same; made = d.made });
  wrote = λ v given x g h n le c pool ledger steps givens replies s b f. f (ledger_with ledger (record { item = WriteItem x; group = g } ∷ [])) (based_took v c pool ledger x.writer g (WriteItem x) (λ group. ledger_moves.wrote (flow_of v) x g h n le [] group) (takes_above v g (taken_hold (flow_of v) x.writer g v.holds s.flow.holds h)) b);
  acted = λ v given a g h n le op c pool ledger steps givens replies s b f. f (ledger_with ledger (record { item = ActionItem a; group = g } ∷ [])) (based_took v c pool ledger a.writer g (ActionItem a) (λ group. ledger_moves.acted (flow_of v) a g h n le [] group) (takes_above v g (taken_hold (flow_of v) a.writer g v.holds s.flow.holds h)) b);
  released = λ v given by c pool ledger steps givens replies s b f. let d = based_on v c pool ledger b in f (ledger_with ledger []) (record { below = d.below; same = d.same; made = d.made });
  closed = λ v given lt c pool ledger steps givens replies s b f. let d = based_on _ c pool ledger b in f (ledger_with ledger []) (record { below = d.below; same = d.same; made = d.made });
  quiesced = λ v given e c pool ledger steps givens replies s b f. let d = based_on _ c pool ledger b in f (ledger_with ledger []) (record { below = d.below; same = d.same; made = d.made });
  planned = λ v given t calls c pool ledger steps givens replies s b f. let d = based_on _ c pool ledger b in f (ledger_with ledger []) (record { below = d.below; same = d.same; made = d.made });
  replanned_group = λ v given t calls c pool ledger steps givens replies s b f. let d = based_on _ c pool ledger b in f (ledger_with ledger []) (record { below = d.below; same = d.same; made = d.made });
  committed = λ v given left out e c pool ledger steps givens replies s k f. let d = based_on _ c pool ledger k in f (ledger_with ledger []) (based_next (record v { out = out }) c pool (ledger_with ledger []) (record { below = d.below; same = d.same; made = d.made }));
}

pub told_now : (v : View) (steps : List Step) (givens : List Given) (replies : List Reply) (w : View) → Run v steps givens replies w → IsSound v → (c : ℕ) (pool : PlainPool) (ledger : Ledger) → IsBased v c pool ledger → ReadsNow c pool ledger (open_group v) steps givens replies
told_now v [] [] [] w r s c pool ledger b = tt
told_now v (step ∷ steps) (given ∷ givens) (reply ∷ replies) w r s c pool ledger b =
    by_move NowsOn now_moves v given step reply r.0 r.1 c pool ledger steps givens replies s b (told_now r.0 steps givens replies w r.2 (sound_step v given step reply r.0 s r.1) c pool)
told_now v steps givens replies w r s c pool ledger b = absurd r
