-- Changes that take effect.
use Rattle.std.proofs.Common.{◌≡◌, ◌≢◌, ⊎_elim, ℕ, suc, ◌≤◌, Bool, List, [], ◌∷◌, ◌++◌, Option, Some, None, refl, sym, ap, ◌∙◌, subst, arith}
use Rattle.std.specs.Prelude.{◌%◌, ◌^◌, ◌==◌, ◌&&◌, cond, fold, is_none, nat_le, not}
use Rattle.std.specs.Option.{option_map}
use Rattle.std.proofs.lemmas.Bool.{cases_lt}
use Rattle.pool_model.specs.declared.item.Action.{Action}
use Rattle.pool_model.specs.declared.item.Change.{Change}
use Rattle.pool_model.specs.declared.item.Change.TheVariants.{Clone, Create, Destroy, Snapshot}
use Rattle.pool_model.specs.declared.item.Item.TheVariants.{Action as ActionItem, Write as WriteItem}
use Rattle.pool_model.specs.declared.refusal.Refusal.TheVariants.{BadName, Exists, HasClones, HasSnapshots, Misaligned, NoSuchName, OutOfRange}
use Rattle.pool_model.specs.declared.step.Step.{Step}
use Rattle.pool_model.specs.declared.step.Step.TheVariants.{Act}
use Rattle.pool_model.specs.declared.step.Reply.{Reply}
use Rattle.pool_model.specs.declared.step.Reply.TheVariants.{Receipt}
use Rattle.pool_model.specs.declared.volume.PlainVolume.{PlainVolume}
use Rattle.pool_model.specs.Names.{is_block_size, is_name, is_whole_name, snapshot_name}
use Rattle.pool_model.specs.Pools.{PlainPool, Entry, Ledger, no_items, volume_at, written, changed, applied, upto}
use Rattle.pool_model.specs.Refusals.{act_refusal, change_refusal, first_cause, is_snapshot_there, is_volume}
use Rattle.pool_model.specs.View.{View, Given, Vdev, now_of, opened_as, started}
use Rattle.pool_model.specs.Flow.{added, ledger_accepted}
use Rattle.pool_model.specs.Machine.{StepOf}
use Rattle.pool_model.specs.Sound.{IsSound}
use Rattle.pool_model.proofs.Causes.{or_none}
use Rattle.pool_model.proofs.Moves.{EachMove, by_move}
use Rattle.pool_model.proofs.Told.{stays}
use Rattle.pool_model.proofs.Uptos.{upto_above, upto_agree, upto_from, itself}
use Rattle.volume_rules.specs.Effects.{GroupTakesEffect, PendingTakeEffect, TakeEffect}
use Rattle.volume_rules.specs.Overlay.{closed_in}
use Rattle.volume_rules.specs.Shapes.{outline, HaveSameShapes}
use Rattle.volume_rules.proofs.NowMoves.{actions_stay, shapes_upto}
use Rattle.volume_rules.proofs.Pending.{opens_after, taken_above, closed_above}
use Rattle.volume_rules.proofs.Volumes.{clones_outlined, outlined, outlined_at, outlined_by, shapes_back, shapes_chain, shapes_changed, shapes_of_writes, shapes_self, snapshots_outlined, some_outlined}

-- ---- a change is refused by outlines alone

same_refusal : (change : Change) (pool other : PlainPool) → HaveSameShapes pool other → change_refusal change pool ≡ change_refusal change other
same_refusal change pool other h = sym (outlined_refusal change pool) ∙ (ap (change_refusal change) (outlined_by pool other h) ∙ outlined_refusal change other)
  where
    volumes : (o : Option PlainVolume) → is_volume (option_map outline o) ≡ is_volume o
    volumes None = refl
    volumes (Some volume) = refl

    snapshots : (o : Option PlainVolume) → is_snapshot_there (option_map outline o) ≡ is_snapshot_there o
    snapshots None = refl
    snapshots (Some volume) = refl

    none : (o : Option PlainVolume) → is_none (option_map outline o) ≡ is_none o
    none None = refl
    none (Some volume) = refl

    outlined_refusal : (change : Change) (p : PlainPool) → change_refusal change (outlined p) ≡ change_refusal change p
    outlined_refusal (Create name size block_size) p =
        ap (λ b. first_cause ((not (is_name name), BadName) ∷ (b, Exists) ∷ (not (is_block_size block_size && (size % block_size == 0)), Misaligned) ∷ (not (nat_le block_size size && nat_le size (2 ^ 40)), OutOfRange) ∷ [])) (some_outlined name p)
    outlined_refusal (Snapshot volume part) p =
        let found : is_volume (volume_at volume (outlined p)) ≡ is_volume (volume_at volume p) = ap is_volume (outlined_at volume p) ∙ volumes (volume_at volume p) in
        λ i. first_cause ((not (is_name part), BadName) ∷ (not (found i), NoSuchName) ∷ (some_outlined (snapshot_name volume part) p i, Exists) ∷ [])
    outlined_refusal (Clone snapshot name) p =
        let found : is_snapshot_there (volume_at snapshot (outlined p)) ≡ is_snapshot_there (volume_at snapshot p) = ap is_snapshot_there (outlined_at snapshot p) ∙ snapshots (volume_at snapshot p) in
        λ i. first_cause ((not (is_name name), BadName) ∷ (not (found i), NoSuchName) ∷ (some_outlined name p i, Exists) ∷ [])
    outlined_refusal (Destroy name) p =
        let absent : is_none (volume_at name (outlined p)) ≡ is_none (volume_at name p) = ap is_none (outlined_at name p) ∙ none (volume_at name p) in
        λ i. first_cause ((not (is_whole_name name), BadName) ∷ (absent i, NoSuchName) ∷ (snapshots_outlined name p i, HasSnapshots) ∷ (clones_outlined name p i, HasClones) ∷ [])

-- ---- the actions of a group

effect_along : (group : ℕ) (pool other : PlainPool) (actions : List Action) → HaveSameShapes pool other → TakeEffect group pool actions → TakeEffect group other actions
effect_along group pool other [] h effect = tt
effect_along group pool other (a ∷ actions) h effect = (
  sym (same_refusal a.change pool other h) ∙ effect.0,
  effect_along group (changed group pool a.change) (changed group other a.change) actions (shapes_changed group pool other a.change h) effect.1,
)

effect_more : (group : ℕ) (pool : PlainPool) (actions : List Action) (a : Action) → TakeEffect group pool actions → change_refusal a.change (fold (λ p x. changed group p x.change) pool actions) ≡ None → TakeEffect group pool (actions ++ a ∷ [])
effect_more group pool [] a effect e = (e, tt)
effect_more group pool (x ∷ actions) a effect e = (effect.0, effect_more group (changed group pool x.change) actions a effect.1 e)

-- ---- the groups behind a base one

abbrev pub AllTakeEffect : ℕ → PlainPool → Ledger → Type 0
AllTakeEffect c pool ledger = (n : ℕ) → c ≤ n → GroupTakesEffect (suc n) (upto c pool ledger n) (ledger (suc n))

-- neither the bytes of the base nor writes make a difference
pub effects_along : (c : ℕ) (pool other : PlainPool) (ledger also : Ledger) → HaveSameShapes pool other → ((group : ℕ) → (ledger group).actions ≡ (also group).actions) → AllTakeEffect c pool ledger → AllTakeEffect c other also
effects_along c pool other ledger also h f effects n le =
    subst (TakeEffect (suc n) (fold written (upto c other also n) (also (suc n)).writes)) (f (suc n))
    (effect_along (suc n) (fold written (upto c pool ledger n) (ledger (suc n)).writes) (fold written (upto c other also n) (also (suc n)).writes) (ledger (suc n)).actions
    (shapes_chain (fold written (upto c pool ledger n) (ledger (suc n)).writes) (upto c pool ledger n) (fold written (upto c other also n) (also (suc n)).writes)
    (shapes_of_writes (upto c pool ledger n) (ledger (suc n)).writes)
    (shapes_chain (upto c pool ledger n) (upto c other also n) (fold written (upto c other also n) (also (suc n)).writes)
    (shapes_upto c pool other ledger also n h f)
    (shapes_back (fold written (upto c other also n) (also (suc n)).writes) (upto c other also n) (shapes_of_writes (upto c other also n) (also (suc n)).writes))))
    (effects n le))

-- the last group that has actions takes one more
effects_more : (c m : ℕ) (pool : PlainPool) (ledger : Ledger) (a : Action) → c ≤ m → ((group : ℕ) → suc m ≤ group → ledger (suc group) ≡ no_items) → change_refusal a.change (upto c pool ledger (suc m)) ≡ None → AllTakeEffect c pool ledger
    → AllTakeEffect c pool (ledger_accepted ledger (suc m) (ActionItem a))
effects_more c m pool ledger a low beyond e effects n le = ⊎_elim before (λ ge. ⊎_elim behind (λ le. at (let x = ge in let y = le in omega arith)) (cases_lt m n)) (cases_lt n m)
  where
    others : (g : ℕ) → suc m ≢ g → ledger_accepted ledger (suc m) (ActionItem a) g ≡ ledger g
    others g apart = stays ledger g (suc m) (added (ledger g) (ActionItem a)) apart

    below : (n : ℕ) → n ≤ m → upto c pool (ledger_accepted ledger (suc m) (ActionItem a)) n ≡ upto c pool ledger n
    below n le = upto_agree c pool (ledger_accepted ledger (suc m) (ActionItem a)) ledger n (λ g h. others g (λ e. omega arith))

    before : suc n ≤ m → GroupTakesEffect (suc n) (upto c pool (ledger_accepted ledger (suc m) (ActionItem a)) n) (ledger_accepted ledger (suc m) (ActionItem a) (suc n))
    before lt = let same = others (suc n) (λ e. omega arith) in let under = below n (omega arith) in subst (λ (x : PlainPool × Entry). GroupTakesEffect (suc n) x.0 x.1) (λ i. (sym under i, sym same i)) (effects n le)

    behind : suc m ≤ n → GroupTakesEffect (suc n) (upto c pool (ledger_accepted ledger (suc m) (ActionItem a)) n) (ledger_accepted ledger (suc m) (ActionItem a) (suc n))
    behind lt = subst (GroupTakesEffect (suc n) (upto c pool (ledger_accepted ledger (suc m) (ActionItem a)) n)) (sym (others (suc n) (λ e. omega arith) ∙ beyond n lt)) tt

    here : GroupTakesEffect (suc m) (upto c pool (ledger_accepted ledger (suc m) (ActionItem a)) m) (ledger_accepted ledger (suc m) (ActionItem a) (suc m))
    here =
        let under = below m (omega arith) in
        subst (λ (x : PlainPool × Entry). GroupTakesEffect (suc m) x.0 x.1) (λ i. (sym under i, cond (sym (itself (suc m)) i) (added (ledger (suc m)) (ActionItem a)) (ledger (suc m))))
        (effect_more (suc m) (fold written (upto c pool ledger m) (ledger (suc m)).writes) (ledger (suc m)).actions a (effects m low)
        (ap (change_refusal a.change) (sym (upto_above c m pool ledger low)) ∙ e))

    at : n ≡ m → GroupTakesEffect (suc n) (upto c pool (ledger_accepted ledger (suc m) (ActionItem a)) n) (ledger_accepted ledger (suc m) (ActionItem a) (suc n))
    at same = subst (λ k. GroupTakesEffect (suc k) (upto c pool (ledger_accepted ledger (suc m) (ActionItem a)) k) (ledger_accepted ledger (suc m) (ActionItem a) (suc k))) (sym same) here

-- the first group is committed
effects_committed : (c : ℕ) (pool : PlainPool) (ledger : Ledger) → AllTakeEffect c pool ledger → AllTakeEffect (suc c) (applied (suc c) pool (ledger (suc c))) ledger
effects_committed c pool ledger effects n le = subst (λ (p : PlainPool). GroupTakesEffect (suc n) p (ledger (suc n))) (sym (upto_from c pool ledger n le)) (effects n (omega arith))

-- ---- each step

-- an action that is accepted was refused by nothing in NOW
abbrev GoesUnrefused : View → Step → Reply → Type 0
GoesUnrefused v (Act a) (Receipt group) = change_refusal a.change (now_of v) ≡ None
GoesUnrefused v step reply = Unit {0}

unrefused_act : (a : Action) (expected opened : ℕ) (now : PlainPool) (hold : Option ℕ) → act_refusal a expected opened now hold ≡ None → change_refusal a.change now ≡ None
unrefused_act a expected opened now None e = absurd (cc)
unrefused_act a expected opened now (Some group) e = (or_none _ _ (or_none _ _ e).1).1

unrefused : (v : View) (given : Given) (step : Step) (reply : Reply) (w : View) → StepOf v given step reply w → GoesUnrefused v step reply
unrefused v given (Act a) (Receipt group) w s =
    ⊎_elim (λ r. absurd (let e = r.answer in cc)) (λ rest. ⊎_elim (λ l. absurd (let e = l.answer in cc)) (λ g. unrefused_act a _ _ _ _ (or_none _ _ g.none).1) rest) s
unrefused v given step reply w s = tt

abbrev KeepsEffects : View → Given → Step → Reply → View → Type 0
KeepsEffects v given step reply w = IsSound v → GoesUnrefused v step reply → PendingTakeEffect v → PendingTakeEffect w

effect_moves : EachMove KeepsEffects
effect_moves = record {
  stays = λ v given step cause may e s u effects. effects;
  begun = λ v given t cause is s u effects. effects;
  again = λ v given t cause is s u effects. effects;
  failed = λ v given disk left e s u effects. effects;
  replanned = λ v given disk left e s u effects. effects;
  out_unplanned = λ v given disk e s u effects. effects;
  out_early = λ v given disk left s u effects. effects;
  out_late = λ v given disk left s u effects. effects;
  moved = λ v given phase left rest out e s u effects. effects;
  read = λ v given name offset len bytes a s u effects. effects;
  read_under = λ v given g name offset len bytes k a s u effects. effects;
  held = λ v given by n s u effects. effects;
  wrote = λ v given x g h n le s u effects. effects_along v.committed (v.pools v.committed) (v.pools v.committed) v.ledger (ledger_accepted v.ledger g (WriteItem x)) (shapes_self (v.pools v.committed)) (λ group. sym (actions_stay v.ledger g x group)) effects;
  acted = λ v given a g h n le op s u effects.
      let last = opens_after v in
      let low : v.committed ≤ closed_in v = let x = taken_above v in let y = closed_above v in omega arith in
      subst (λ k. AllTakeEffect v.committed (v.pools v.committed) (ledger_accepted v.ledger k (ActionItem a))) (sym (op ∙ last))
      (effects_more v.committed (closed_in v) (v.pools v.committed) v.ledger a low (λ group le. s.flow.beyond (suc group) (omega arith))
      (subst (λ k. change_refusal a.change (upto v.committed (v.pools v.committed) v.ledger k) ≡ None) last u) effects);
  released = λ v given by s u effects. effects;
  closed = λ v given b s u effects. effects;
  quiesced = λ v given e s u effects. effects;
  planned = λ v given t calls s u effects. effects;
  replanned_group = λ v given t calls s u effects. effects;
  committed = λ v given left out e s u effects.
      subst (λ b. AllTakeEffect (suc v.committed) (cond b (applied (suc v.committed) (v.pools v.committed) (v.ledger (suc v.committed))) (v.pools (suc v.committed))) v.ledger) (sym (itself (suc v.committed)))
      (effects_committed v.committed (v.pools v.committed) v.ledger effects);
}

pub effects_step : (v : View) (given : Given) (step : Step) (reply : Reply) (w : View) → IsSound v → StepOf v given step reply w → PendingTakeEffect v → PendingTakeEffect w
effects_step v given step reply w s h effects = by_move KeepsEffects effect_moves v given step reply w h s (unrefused v given step reply w h) effects

pub effects_start : (vdevs : List Vdev) → PendingTakeEffect (started vdevs)
effects_start vdevs n le = tt

pub effects_opened : (vdevs : List Vdev) (out : ℕ → Bool) (stale : ℕ → ℕ → Bool) (group : ℕ) (pool : PlainPool) → PendingTakeEffect (opened_as vdevs out stale group pool)
effects_opened vdevs out stale group pool n le = tt
