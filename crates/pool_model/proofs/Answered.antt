-- Refusals and disks that are out.
use Rattle.std.proofs.Common.{◌≡◌, ⊎_elim, inl, inr, ℕ, List, [], ◌∷◌, Bool, None, refl, sym, ap, ◌∙◌, subst}
use Rattle.pool_model.specs.declared.step.Step.{Step}
use Rattle.pool_model.specs.declared.step.Step.TheVariants.{Hold, Device, DiskOut}
use Rattle.pool_model.specs.declared.step.Reply.{Reply}
use Rattle.pool_model.specs.declared.step.Reply.TheVariants.{Replan, Refused}
use Rattle.pool_model.specs.declared.refusal.Refusal.{Refusal}
use Rattle.pool_model.specs.declared.refusal.Refusal.TheVariants.{Suspended}
use Rattle.pool_model.specs.View.{View, Given}
use Rattle.pool_model.specs.Refusals.{refusal_of}
use Rattle.pool_model.specs.Machine.{MayAnswer, StepOf, Run}
use Rattle.pool_model.specs.Headline.{IsRightlyAnswered, RightlyAnswered, OutsBy, OutsMove}
use Rattle.pool_model.proofs.Moves.{NoFault, EachMove, none_out, goes_out, by_move}

answered_rightly : (v : View) (given : Given) (step : Step) (reply : Reply) (w : View) → refusal_of v step ≡ None → MayAnswer v given step reply w → IsRightlyAnswered v given step reply w
answered_rightly v given step (Refused cause) w n g = inr (inr (n, g))
answered_rightly v given step reply w n g = n

pub rightly : (v : View) (given : Given) (step : Step) (reply : Reply) (w : View) → StepOf v given step reply w → IsRightlyAnswered v given step reply w
rightly v given step reply w s = ⊎_elim
    (λ r. subst (λ x. IsRightlyAnswered v given step x w) (sym r.answer) (inl (r.first, r.unchanged)))
    (λ s. ⊎_elim
    (λ l. subst (λ x. IsRightlyAnswered v given step x w) (sym l.answer) (inr (inl (refl, l.may))))
    (λ g. answered_rightly v given step reply w g.none g.answered)
    s)
    s

pub told_refusals : (v : View) (steps : List Step) (givens : List Given) (replies : List Reply) (w : View) → Run v steps givens replies w → RightlyAnswered v steps givens replies w
told_refusals v [] [] [] w r = r
told_refusals v (step ∷ steps) (given ∷ givens) (reply ∷ replies) w r = (r.0, r.1, rightly v given step reply r.0 r.1, told_refusals r.0 steps givens replies w r.2)
told_refusals v steps givens replies w r = absurd r

-- ---- disks that are out

stays_out : (out : ℕ → Bool) (step : Step) (given : Given) (cause : Refusal) → NoFault step given → OutsBy out step given (Refused cause) out
stays_out out Device given cause e = none_out out given (Refused cause) e
stays_out out (DiskOut gone) given cause e = λ disk. refl
stays_out out (Hold writer) given cause e = λ disk. refl
stays_out out step given cause e = λ disk. refl

pub out_moves : EachMove (λ v given step reply w. OutsBy v.out step given reply w.out)
out_moves = record {
  stays = λ v given step cause may e. stays_out v.out step given cause e;
  begun = λ v given t cause is d. refl;
  again = λ v given t cause is d. refl;
  failed = λ v given disk left e. goes_out v.out given (Refused Suspended) disk e;
  replanned = λ v given disk left e. goes_out v.out given (Replan disk) disk e;
  out_unplanned = λ v given disk e d. refl;
  out_early = λ v given disk left d. refl;
  out_late = λ v given disk left d. refl;
  moved = λ v given phase left rest out e. e;
  read = λ v given name offset len bytes a d. refl;
  read_under = λ v given g name offset len bytes e a d. refl;
  held = λ v given by n d. refl;
  wrote = λ v given x g e n le d. refl;
  acted = λ v given a g e n le op d. refl;
  released = λ v given by d. refl;
  closed = λ v given b d. refl;
  quiesced = λ v given e d. refl;
  planned = λ v given t calls d. refl;
  replanned_group = λ v given t calls d. refl;
  committed = λ v given left out e. e;
}

pub told_outs : (v : View) (steps : List Step) (givens : List Given) (replies : List Reply) (w : View) → Run v steps givens replies w → OutsMove v.out steps givens replies w.out
told_outs v [] [] [] w r = λ disk. ap (λ (x : View). x.out disk) r
told_outs v (step ∷ steps) (given ∷ givens) (reply ∷ replies) w r = (r.0.out, by_move (λ v given step reply w. OutsBy v.out step given reply w.out) out_moves v given step reply r.0 r.1, told_outs r.0 steps givens replies w r.2)
told_outs v steps givens replies w r = absurd r

-- ---- slots

slots_stay : EachMove (λ v given step reply w. w.slots ≡ v.slots)
slots_stay = record {
  stays = λ v given step cause may e. refl;
  begun = λ v given t cause is. refl;
  again = λ v given t cause is. refl;
  failed = λ v given disk left e. refl;
  replanned = λ v given disk left e. refl;
  out_unplanned = λ v given disk e. refl;
  out_early = λ v given disk left. refl;
  out_late = λ v given disk left. refl;
  moved = λ v given phase left rest out e. refl;
  read = λ v given name offset len bytes a. refl;
  read_under = λ v given g name offset len bytes e a. refl;
  held = λ v given by n. refl;
  wrote = λ v given x g e n le. refl;
  acted = λ v given a g e n le op. refl;
  released = λ v given by. refl;
  closed = λ v given b. refl;
  quiesced = λ v given e. refl;
  planned = λ v given t calls. refl;
  replanned_group = λ v given t calls. refl;
  committed = λ v given left out e. refl;
}

pub told_slots : (v : View) (steps : List Step) (givens : List Given) (replies : List Reply) (w : View) → Run v steps givens replies w → w.slots ≡ v.slots
told_slots v [] [] [] w r = ap (λ (x : View). x.slots) r
told_slots v (step ∷ steps) (given ∷ givens) (reply ∷ replies) w r =
    told_slots r.0 steps givens replies w r.2 ∙ by_move (λ v given step reply w. w.slots ≡ v.slots) slots_stay v given step reply r.0 r.1
told_slots v steps givens replies w r = absurd r
