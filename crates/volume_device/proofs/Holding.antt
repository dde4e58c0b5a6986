-- What a device shows once it holds the open group, and has written a piece.
use Rattle.std.proofs.Common.{◌≡◌, inr, ℕ, suc, ◌+◌, ◌<◌, ◌≤◌, length, true, false, Option, Ok, Err, None, refl, sym, ap, ◌∙◌, subst, arith}
use Rattle.std.specs.Prelude.{min, IfErr}
use Rattle.std.specs.Result.{IsErrAnd}
use Rattle.std.specs.declared.result.Result.{Result}
use Rattle.pool_model.specs.declared.item.Write.{Write}
use Rattle.pool_model.specs.declared.refusal.Refusal.{Refusal}
use Rattle.pool_model.specs.declared.step.Step.{Step}
use Rattle.pool_model.specs.declared.step.Step.TheVariants as step
use Rattle.pool_model.specs.declared.step.Reply.{Reply}
use Rattle.pool_model.specs.declared.step.Reply.TheVariants as reply
use Rattle.pool_model.specs.Machine.{StepOf}
use Rattle.pool_model.specs.Pools.{PlainPool}
use Rattle.pool_model.specs.Refusals.{greatest}
use Rattle.pool_model.specs.View.{View, Given, now_of}
use Rattle.pool_steps.specs.declared.steps.PoolSteps.{Ghosts}
use Rattle.volume_device.specs.Causes.{IsCaused, cause_of}
use Rattle.volume_device.specs.Contents.{FitsIn, IsSame, IsWrittenOn, overwritten}
use Rattle.volume_device.specs.Devices.{GoesOnFrom, Leads, MayGoOn}
use Rattle.volume_device.specs.declared.device.Device.{Device}
use Rattle.volume_device.proofs.Flushing.{AreSound, EachGoes, caused_by, on_from}
use Rattle.volume_device.proofs.Nows.{now_between, on_between, safe_between}
use Rattle.volume_device.proofs.Writing.{is_no_hold, is_no_receipt, not_held, not_wrote, was_held, write_of, wrote}

-- ---- numbers

pub next_number : (n sum : ℕ) → n ≤ greatest → sum ≡ min (n + 1) 18446744073709551615 → sum ≡ suc n
next_number n sum below e = omega arith

pub still_some : (n len sum : ℕ) → sum ≡ min (n + len) 18446744073709551615 → 0 < len → sum ≡ 0 → ⊥
still_some n len sum e some none = omega arith

-- ---- causes

pub passed_on : {T : Type 0} (r : Result T Refusal) (cause : Refusal) (caused : Refusal → Type 0) → IsErrAnd r (λ e. e ≡ cause) → caused cause → IfErr r caused
passed_on (Ok x) cause caused is c = tt
passed_on (Err e) cause caused is c = subst caused (sym is) c

-- ---- devices

module _ {P : Type 0} (g : Ghosts P) where
  -- a step that changes no view
  pub unchanged : (old : Device P) (new : P) (s : Step) (r : Reply) → ((v : View) (given : Given) (w : View) → StepOf v given s r w → w ≡ v) → EachGoes g old.core s r new → Leads g old (record old { core = new }) IsSame
  unchanged old new s r same goes c shows tell =
      let one = goes shows.view shows.represents tell in
      let e = same shows.view one.given one.after one.is_step in (
        c,
        record {
          view = one.after;
          represents = one.represents_after;
          now = ap now_of e ∙ shows.now;
          safe = ap (λ (v : View). v.pools v.committed) e ∙ shows.safe;
          goes_on = subst (λ (v : View). MayGoOn old.refused v old.number old.pending old.held) (sym e) shows.goes_on;
        },
        refl,
      )

  -- a step of a write that was not taken
  pub not_held_leads : (old : Device P) (new : P) (r : Reply) → ((group : ℕ) → r ≡ reply.Held group → ⊥) → EachGoes g old.core (step.Hold 1) r new → Leads g old (record old { core = new }) IsSame
  not_held_leads old new r not goes = unchanged old new (step.Hold 1) r (λ v given w is. not_held v given r w (is_no_hold r not) is) goes

  pub not_taken_leads : (old : Device P) (new : P) (x : Write) (r : Reply) → ((group : ℕ) → r ≡ reply.Receipt group → ⊥) → EachGoes g old.core (step.Write x) r new → Leads g old (record old { core = new }) IsSame
  not_taken_leads old new x r not goes = unchanged old new (step.Write x) r (λ v given w is. not_wrote v given x r w (is_no_receipt r not) is) goes

  -- why
  pub caused_at : ((core : P) → g.came_from core core) → (takes : Step → Type 0) (old : Device P) (new : P) (s : Step) (r : Reply) (cause : Refusal) → cause ≡ cause_of r → takes s → EachGoes g old.core s r new → IsCaused g takes old (record old { core = new }) cause
  caused_at itself takes old new s r cause is kind goes =
      subst (IsCaused g takes old (record old { core = new })) (sym is) (caused_by g itself takes old (record old { core = new }) old.core s r kind (itself old.core) goes)

  module _ (sound : AreSound g) where
    pub hold_leads : (old : Device P) (new : P) (group : ℕ) → old.refused ≡ None → old.held ≡ false → EachGoes g old.core (step.Hold 1) (reply.Held group) new → Leads g old (record old { core = new; held = true }) IsSame
    hold_leads old new group goes_on free goes c shows tell =
        let one = goes shows.view shows.represents tell in
        let v = shows.view in
        let w = one.after in
        let on = on_from g sound old c goes_on shows in
        let is_sound = sound old.core v shows.represents in
        let is = was_held v one.given old.number old.pending group w (subst (GoesOnFrom v old.number old.pending) free on) one.is_step in (
          c,
          record {
            view = w;
            represents = one.represents_after;
            now = now_between v old.number old.pending old.held is_sound on w is.same ∙ shows.now;
            safe = safe_between v old.number old.pending old.held is_sound on w is.same ∙ shows.safe;
            goes_on = subst (λ (o : Option Refusal). MayGoOn o w old.number old.pending true) (sym goes_on) (on_between v old.number old.pending old.held is_sound on w true is.same is.sync is.waiting is.holds);
          },
          refl,
        )

    pub take_leads : (old : Device P) (new : P) (x : Write) (group number pending : ℕ) → old.refused ≡ None → old.held ≡ true → x.writer ≡ 1 → x.number ≡ old.number → (old.number ≤ greatest → number ≡ suc old.number) → (pending ≡ 0 → ⊥)
        → EachGoes g old.core (step.Write x) (reply.Receipt group) new → Leads g old (record old { core = new; number = number; pending = pending }) (IsWrittenOn x.volume x.offset x.bytes)
    take_leads old new x group number pending goes_on held writer numbered counts some goes c shows tell =
        let one = goes shows.view shows.represents tell in
        let v = shows.view in
        let w = one.after in
        let on = subst (GoesOnFrom v old.number old.pending) held (on_from g sound old c goes_on shows) in
        let is_sound = sound old.core v shows.represents in
        let same : x ≡ write_of old.number x.volume x.offset x.bytes = λ i. record x { writer = writer i; number = numbered i } in
        let is = wrote v one.given old.number old.pending x.volume x.offset x.bytes group w is_sound on (subst (λ (y : Write). StepOf v one.given (step.Write y) (reply.Receipt group) w) same one.is_step) in (
          record { now = overwritten x.volume x.offset x.bytes c.now; safe = c.safe },
          record {
            view = w;
            represents = one.represents_after;
            now = is.now ∙ ap (λ (p : PlainPool). overwritten x.volume x.offset x.bytes p) shows.now;
            safe = is.safe ∙ shows.safe;
            goes_on = subst (λ (o : Option Refusal). MayGoOn o w number pending old.held) (sym goes_on)
                (subst (GoesOnFrom w number pending) (sym held) (subst (λ (n : ℕ). GoesOnFrom w n pending true) (sym (counts is.below)) (is.on pending some)));
          },
          record {
            fits = inr (subst (λ (p : PlainPool). FitsIn p x.volume x.offset (length x.bytes)) shows.now is.fits);
            now = record { each = λ other. refl; whole = λ up. refl };
            safe = refl;
          },
        )
