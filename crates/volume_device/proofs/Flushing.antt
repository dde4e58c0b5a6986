-- What a device shows once its hold is given back, or its group committed.
use Rattle.std.proofs.Common.{◌≡◌, inl, inr, ℕ, suc, Bool, false, Option, Some, None, refl, sym, ap, ◌∙◌, subst}
use Rattle.pool_model.specs.declared.refusal.Refusal.{Refusal}
use Rattle.pool_model.specs.declared.step.Step.{Step}
use Rattle.pool_model.specs.declared.step.Step.TheVariants as step
use Rattle.pool_model.specs.declared.step.Reply.{Reply}
use Rattle.pool_model.specs.declared.step.Reply.TheVariants as reply
use Rattle.pool_model.specs.Sound.{IsSound}
use Rattle.pool_model.specs.View.{View}
use Rattle.pool_steps.specs.declared.steps.PoolSteps.{Ghosts}
use Rattle.pool_steps.specs.Goes.{Goes}
use Rattle.volume_device.specs.Causes.{IsCaused, cause_of, flushing}
use Rattle.volume_device.specs.Commits.{Commits, IsBetween, IsCommitted, Reaches}
use Rattle.volume_device.specs.Contents.{Contents, IsFlushed, IsSame}
use Rattle.volume_device.specs.Devices.{GoesOnFrom, Leads, MayGoOn, Shows, holds_of}
use Rattle.volume_device.specs.declared.device.Device.{Device}
use Rattle.volume_device.proofs.Committing.{release_frees, release_keeps}
use Rattle.volume_device.proofs.Nows.{all_safe, now_between, now_committed, on_between, on_committed, safe_between, safe_committed}

-- ---- replies

is_committed : (u : View) (group : ℕ) (w : View) → Reaches u (reply.Committed group) w → IsCommitted u w
is_committed u group w reaches = reaches

-- a reply to a commit that isn't its end
abbrev pub IsOther : Reply → Type 0
IsOther (reply.Committed group) = ⊥
IsOther r = Unit {0}

pub is_other : (r : Reply) → ((group : ℕ) → r ≡ reply.Committed group → ⊥) → IsOther r
is_other (reply.Committed group) not = absurd (not group refl)
is_other r not = tt

between : (u : View) (r : Reply) (w : View) → IsOther r → Reaches u r w → IsBetween u w
between u (reply.Committed group) w other reaches = absurd other
between u r w other reaches = reaches.0

module _ {P : Type 0} (g : Ghosts P) where
  abbrev pub EachGoes : P → Step → Reply → P → Type 0
  EachGoes = Goes g.represents g.answers_tell g.links

  abbrev pub CameFurther : Type 0
  CameFurther = (first mid last : P) → g.came_from first mid → g.came_from mid last → g.came_from first last

  abbrev pub PartsTell : Type 0
  PartsTell = (first mid last : P) → g.came_from first mid → g.came_from mid last → g.answers_tell first last → g.answers_tell first mid × g.answers_tell mid last

  abbrev pub AreSound : Type 0
  AreSound = (core : P) (v : View) → g.represents core v → IsSound v

  -- ---- calls, one after another

  pub same_then : PartsTell → (old mid new : Device P) (becomes : Contents → Contents → Type 0) → g.came_from old.core mid.core → g.came_from mid.core new.core → Leads g old mid IsSame → Leads g mid new becomes → Leads g old new becomes
  same_then parts old mid new becomes first second leads more c shows tell =
      let both = parts old.core mid.core new.core first second tell in
      let one = leads c shows both.0 in
      let two = more one.0 one.1 both.1 in
      (two.0, two.1, subst (λ (x : Contents). becomes x two.0) one.2 two.2)

  -- a hold changes nothing else of the session
  pub refused_kept : (old new : Device P) (core : P) (held : Bool) → new ≡ record old { core = core; held = held } → new.refused ≡ old.refused
  refused_kept old new core held is = ap (λ (d : Device P). d.refused) is

  pub caused_then : CameFurther → (takes : Step → Type 0) (old mid new : Device P) (cause : Refusal) → g.came_from old.core mid.core → mid.refused ≡ old.refused → IsCaused g takes mid new cause → IsCaused g takes old new cause
  caused_then further takes old mid new cause first same (inl lacks) = inl lacks
  caused_then further takes old mid new cause first same (inr (inl before)) = inr (inl (sym same ∙ before))
  caused_then further takes old mid new cause first same (inr (inr is)) = inr (inr (record {
    before = is.before;
    after = is.after;
    from_old = further old.core mid.core is.before first is.from_old;
    to_new = is.to_new;
    step = is.step;
    kind = is.kind;
    goes = is.goes;
  }))

  -- what the first call asks for the second one asks too
  pub caused_in : (takes more : Step → Type 0) (old new : Device P) (cause : Refusal) → ((s : Step) → takes s → more s) → IsCaused g takes old new cause → IsCaused g more old new cause
  caused_in takes more old new cause wider (inl lacks) = inl lacks
  caused_in takes more old new cause wider (inr (inl before)) = inr (inl before)
  caused_in takes more old new cause wider (inr (inr is)) = inr (inr (record {
    before = is.before;
    after = is.after;
    from_old = is.from_old;
    to_new = is.to_new;
    step = is.step;
    kind = wider is.step is.kind;
    goes = is.goes;
  }))

  -- a step was not answered as it should be
  pub caused_by : ((core : P) → g.came_from core core) → (takes : Step → Type 0) (old new : Device P) (before : P) (s : Step) (r : Reply) → takes s → g.came_from old.core before → EachGoes before s r new.core → IsCaused g takes old new (cause_of r)
  caused_by itself takes old new before s (reply.Refused cause) kind from goes = inr (inr (record {
    before = before;
    after = new.core;
    from_old = from;
    to_new = itself new.core;
    step = s;
    kind = kind;
    goes = goes;
  }))
  caused_by itself takes old new before s r kind from goes = inl refl

  -- ---- what a device shows

  module _ (sound : AreSound) where
    pub on_from : (device : Device P) (c : Contents) → device.refused ≡ None → (shows : Shows g device c) → GoesOnFrom shows.view device.number device.pending device.held
    on_from device c goes_on shows = subst (λ (o : Option Refusal). MayGoOn o shows.view device.number device.pending device.held) goes_on shows.goes_on

    -- with nothing pending all is committed
    pub shows_safe : (device : Device P) (c : Contents) → device.refused ≡ None → device.pending ≡ 0 → Shows g device c → c.safe ≡ c.now
    shows_safe device c goes_on none shows =
        let on = on_from device c goes_on shows in
        sym shows.safe ∙ (sym (all_safe shows.view device.number device.pending device.held (sound device.core shows.view shows.represents) on none) ∙ shows.now)

    -- a session that ends has what it had
    stops : (old : Device P) (new : P) (cause : Refusal) (c : Contents) (w : View) → old.refused ≡ None → (shows : Shows g old c) → g.represents new w → IsBetween shows.view w → Shows g (record old { core = new; refused = Some cause }) c
    stops old new cause c w goes_on shows represents same =
        let on = on_from old c goes_on shows in
        let is_sound = sound old.core shows.view shows.represents in record {
          view = w;
          represents = represents;
          now = now_between shows.view old.number old.pending old.held is_sound on w same ∙ shows.now;
          safe = safe_between shows.view old.number old.pending old.held is_sound on w same ∙ shows.safe;
          goes_on = tt;
        }

    release_stops : (old : Device P) (r : Reply) (new : P) (cause : Refusal) → old.refused ≡ None → EachGoes old.core (step.Release 1) r new → Leads g old (record old { core = new; refused = Some cause }) IsSame
    release_stops old r new cause goes_on goes c shows tell =
        let one = goes shows.view shows.represents tell in
        (c, stops old new cause c one.after goes_on shows one.represents_after (release_keeps shows.view one.given r one.after one.is_step), refl)

    pub release_leads : (old : Device P) (new : P) → old.refused ≡ None → EachGoes old.core (step.Release 1) reply.Released new → Leads g old (record old { core = new; held = false }) IsSame
    release_leads old new goes_on goes c shows tell =
        let one = goes shows.view shows.represents tell in
        let v = shows.view in
        let w = one.after in
        let on = on_from old c goes_on shows in
        let is_sound = sound old.core v shows.represents in
        let same = release_keeps v one.given reply.Released w one.is_step in
        let freed = release_frees v one.given w old.held on.holds one.is_step in (
          c,
          record {
            view = w;
            represents = one.represents_after;
            now = now_between v old.number old.pending old.held is_sound on w same ∙ shows.now;
            safe = safe_between v old.number old.pending old.held is_sound on w same ∙ shows.safe;
            goes_on = subst (λ (o : Option Refusal). MayGoOn o w old.number old.pending false) (sym goes_on) (on_between v old.number old.pending old.held is_sound on w false same freed.0 freed.1 freed.2);
          },
          refl,
        )

    -- how a session ends at a step of a commit
    pub record HasStopped (old new : Device P) (cause : Refusal) : Type 0 where
      pub follows : g.came_from old.core new.core
      pub name : new.name ≡ old.name
      pub same : Leads g old new IsSame
      pub caused : IsCaused g flushing old new cause

    has_stopped : ((core : P) → g.came_from core core) → (old : Device P) (mid : P) (cause : Refusal) (before : P) (s : Step) (r : Reply) → cause ≡ cause_of r → g.came_from old.core mid → Leads g old (record old { core = mid; refused = Some cause }) IsSame
        → flushing s → g.came_from old.core before → EachGoes before s r mid → HasStopped old (record old { core = mid; refused = Some cause }) cause
    has_stopped itself old mid cause before s r is follows same kind from goes = record {
      follows = follows;
      name = refl;
      same = same;
      caused = subst (IsCaused g flushing old (record old { core = mid; refused = Some cause })) (sym is) (caused_by itself flushing old (record old { core = mid; refused = Some cause }) before s r kind from goes);
    }

    pub release_stopped : ((core : P) → g.came_from core core) → (old : Device P) (r : Reply) (mid : P) (new : Device P) (cause : Refusal) → new ≡ record old { core = mid; refused = Some cause } → cause ≡ cause_of r → old.refused ≡ None → g.came_from old.core mid
        → EachGoes old.core (step.Release 1) r mid → HasStopped old new cause
    release_stopped itself old r mid new cause stopped is goes_on follows goes =
        subst (λ (d : Device P). HasStopped old d cause) (sym stopped)
        (has_stopped itself old mid cause old.core (step.Release 1) r is follows (release_stops old r mid cause goes_on goes) refl (itself old.core) goes)

    commits : (old : Device P) (r : Reply) (new : P) (c : Contents) → old.refused ≡ None → old.held ≡ false → Commits g old.core r new → (shows : Shows g old c) → g.answers_tell old.core new → (w : View) × g.represents new w × Reaches shows.view r w
    commits old r new c goes_on free run shows tell =
        let on = on_from old c goes_on shows in
        run.reaches shows.view shows.represents tell (record {
          idle = on.idle;
          none_waits = on.none_waits;
          no_holds = on.holds ∙ ap (holds_of (suc shows.view.committed)) free;
        })

    commit_stops : (old : Device P) (r : Reply) (new : P) (cause : Refusal) → old.refused ≡ None → old.held ≡ false → IsOther r → Commits g old.core r new → Leads g old (record old { core = new; refused = Some cause }) IsSame
    commit_stops old r new cause goes_on free other run c shows tell =
        let it = commits old r new c goes_on free run shows tell in
        (c, stops old new cause c it.0 goes_on shows it.1 (between shows.view r it.0 other it.2), refl)

    pub commit_leads : (old : Device P) (group : ℕ) (new : P) → old.refused ≡ None → old.held ≡ false → Commits g old.core (reply.Committed group) new → Leads g old (record old { core = new; pending = 0 }) IsFlushed
    commit_leads old group new goes_on free run c shows tell =
        let it = commits old (reply.Committed group) new c goes_on free run shows tell in
        let v = shows.view in
        let w = it.0 in
        let on = on_from old c goes_on shows in
        let is_sound = sound old.core v shows.represents in
        let made = is_committed v group w it.2 in (
          record { now = c.now; safe = c.now },
          record {
            view = w;
            represents = it.1;
            now = now_committed v old.number old.pending old.held is_sound on w made ∙ shows.now;
            safe = safe_committed v old.number old.pending old.held is_sound on w made ∙ shows.now;
            goes_on = subst (λ (o : Option Refusal). MayGoOn o w old.number 0 old.held) (sym goes_on)
                (subst (GoesOnFrom w old.number 0) (sym free) (on_committed v old.number old.pending old.held is_sound on w made));
          },
          record { now = refl; safe = refl },
        )

    pub commit_stopped : ((core : P) → g.came_from core core) → (old : Device P) (r : Reply) (mid : P) (new : Device P) (cause : Refusal) → new ≡ record old { core = mid; refused = Some cause } → cause ≡ cause_of r → old.refused ≡ None → old.held ≡ false → IsOther r
        → Commits g old.core r mid → HasStopped old new cause
    commit_stopped itself old r mid new cause stopped is goes_on free other run =
        subst (λ (d : Device P). HasStopped old d cause) (sym stopped)
        (has_stopped itself old mid cause run.last.before run.last.step r is run.follows (commit_stops old r mid cause goes_on free other run) run.last.kind run.last.from_old run.last.goes)
