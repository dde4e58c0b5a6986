-- What comes of a whole volume that is read or written.
use Rattle.std.proofs.Common.{◌≡◌, inl, ℕ, Bool, List, [], ◌++◌, take, drop, Option, None, Some, Result, Ok, Err, IfErr, OnOk, refl, sym, ap, ◌∙◌, subst}
use Rattle.std.proofs.Math.Seq.{take-length}
use Rattle.std.proofs.lemmas.List.{take-append-drop}
use Rattle.command_steps.specs.Made.{IsAtRest}
use Rattle.pool_model.specs.Pools.{volume_at}
use Rattle.pool_model.specs.View.{View, now_of}
use Rattle.pool_steps.specs.declared.steps.PoolSteps.{Ghosts as StepGhosts}
use Rattle.volume_device.specs.Contents.{Contents, at_rest}
use Rattle.volume_device.specs.Devices.{Has, Leads, Shows, core_of, name_of}
use Rattle.volume_device.specs.declared.device.Device.{Device}
use Rattle.commands.proofs.Leading.{appends_nothing}
use Rattle.commands.specs.Pouring.{AreFront, IfKnown, IsFrontIn, IsPouredIn, IsPouredInPart, IsPouredOut, IsPouredOutInPart, IsWhollyIn}
use Rattle.commands.specs.Rows.{HasOfSize}
use Rattle.commands.specs.Streams.{AreAll, AreFirst, FromRest, HasAll, HasFront, IsFilledFrom, IsFilledOf, IsNotFilled, IsPoured, IsPrinted}
use Rattle.commands.specs.declared.pools.Pools.{Ghosts}
use Rattle.commands.specs.declared.stop.Stop.{Stop}
use Rattle.commands.specs.declared.stop.Stop.TheVariants as stop

module _ {P : Type 0} (g : StepGhosts P) where
  -- nothing was read
  pub none_printed : (pool : P) (name : List ℕ) (now : Option (List ℕ)) → IsPrinted g pool pool (AreFirst name) now now
  none_printed pool name now = record { bytes = []; appends = appends_nothing now; are = λ v rep rest one tell volume there. (volume.bytes, refl) }

  -- a device over a pool, and what became of it
  module _ (pool : P) (name : List ℕ) (old new : Device P) (core : core_of old ≡ pool) (named : name_of old ≡ name)
      (shows : (v : View) → g.represents pool v → IsAtRest v → v.next 1 ≡ 1 → Shows g old (at_rest v)) where
    -- from a pool at rest
    led : (becomes : Contents → Contents → Type 0) → Leads g old new becomes → (v : View) → g.represents pool v → IsAtRest v → v.next 1 ≡ 1 → g.answers_tell pool (core_of new) → (d : Contents) × Shows g new d × becomes (at_rest v) d
    led becomes leads v rep rest one tell = leads (at_rest v) (shows v rep rest one) (subst (λ x. g.answers_tell x (core_of new)) (sym core) tell)

    first_of : (n : ℕ) (before after : Option (List ℕ)) → IsPouredOut g old new n before after → IsPrinted g pool (core_of new) (AreFirst name) before after
    first_of n before after poured = record {
      bytes = poured.bytes;
      appends = poured.appends;
      are = λ v rep rest one tell volume there.
          let all = led (AreFront (name_of old) n poured.bytes) poured.reads v rep rest one tell in
          let front : poured.bytes ≡ take n volume.bytes = all.2.1 volume (ap (λ l. volume_at l (v.pools v.committed)) named ∙ there) in
          (drop n volume.bytes, sym (take-append-drop n volume.bytes) ∙ ap (λ l. l ++ drop n volume.bytes) (sym front));
    }

    whole_of : (size : ℕ) (before after : Option (List ℕ)) → ((v : View) → g.represents pool v → HasOfSize name size (now_of v)) → IsPouredOut g old new size before after → IsPrinted g pool (core_of new) (AreAll name) before after
    whole_of size before after sized poured = record {
      bytes = poured.bytes;
      appends = poured.appends;
      are = λ v rep rest one tell.
          let shown = shows v rep rest one in
          let found = subst (HasOfSize name size) shown.now (sized shown.view (subst (λ x. g.represents x shown.view) core shown.represents)) in
          let all = led (AreFront (name_of old) size poured.bytes) poured.reads v rep rest one tell in
          let front : poured.bytes ≡ take size found.0.bytes = all.2.1 found.0 (ap (λ l. volume_at l (v.pools v.committed)) named ∙ found.1) in
          (found.0, found.1, front ∙ (ap (λ n. take n found.0.bytes) found.2 ∙ take-length found.0.bytes));
    }

    pub poured_by : {R : Type 0} (r : Result (Unit {0}) (Stop R)) (size : ℕ) (before after : Option (List ℕ)) → ((v : View) → g.represents pool v → HasOfSize name size (now_of v)) → OnOk r (IsPouredOut g old new size before after)
        → IfErr r (IsPouredOutInPart g old new before after) → IsPoured g pool (core_of new) name before after r
    poured_by (Ok done) size before after sized ok err = whole_of size before after sized ok
    poured_by (Err (stop.Pool cause)) size before after sized ok err = first_of err.0 before after err.1
    poured_by (Err stop.Output) size before after sized ok err = tt
    poured_by (Err s) size before after sized ok err = absurd err

    module _ (has : (c : Contents) → Shows g new c → Has g (core_of new) c) where
      all_in : (all : List ℕ) → Leads g old new (IsWhollyIn (name_of old) all) → FromRest g pool (core_of new) (HasAll g (core_of new) name all)
      all_in all leads = λ v rep rest one tell.
          let d = led (IsWhollyIn (name_of old) all) leads v rep rest one tell in
          let whole = subst (λ l. IsWhollyIn l all (at_rest v) d.0) named d.2 in
          record { contents = d.0; has = has d.0 d.1; now = whole.now; safe = whole.safe }

      front_in : (all : List ℕ) → Leads g old new (IsFrontIn (name_of old) all) → FromRest g pool (core_of new) (HasFront g (core_of new) name all)
      front_in all leads = λ v rep rest one tell.
          let d = led (IsFrontIn (name_of old) all) leads v rep rest one tell in
          let part = subst (λ l. IsFrontIn l all (at_rest v) d.0) named d.2 in
          record { contents = d.0; has = has d.0 d.1; front = part.front; back = part.back; parts = part.parts; safe = part.safe refl }

      known : (input : Option (List ℕ)) (f h : List ℕ → Type 0) → ((all : List ℕ) → f all → h all) → IfKnown input f → IfKnown input h
      known None f h to is = tt
      known (Some all) f h to is = to all is

      pub filled_by : {R : Type 0} (r : Result (Unit {0}) (Stop R)) (input : Option (List ℕ)) → OnOk r (IsPouredIn g old new input) → IfErr r (IsPouredInPart g old new input) → IsFilledFrom g pool (core_of new) name input r
      filled_by (Ok done) input ok err = known input (λ all. Leads g old new (IsWhollyIn (name_of old) all)) (λ all. FromRest g pool (core_of new) (HasAll g (core_of new) name all)) all_in ok
      filled_by (Err (stop.Pool cause)) input ok err = known input (λ all. Leads g old new (IsFrontIn (name_of old) all)) (λ all. FromRest g pool (core_of new) (HasFront g (core_of new) name all)) front_in err
      filled_by (Err stop.Input) input ok err = known input (λ all. Leads g old new (IsFrontIn (name_of old) all)) (λ all. FromRest g pool (core_of new) (HasFront g (core_of new) name all)) front_in err
      filled_by (Err s) input ok err = absurd err

-- ---- how the writing of an input ended

module _ {S P F R : Type 0} (pools : Ghosts S P F R) (steps : StepGhosts P) (old : S) (files : List (List ℕ)) (name : List ℕ) (input : Option (List ℕ)) (new : S) where
  -- it was stopped
  pub not_filled : (s : Stop R) → ((ended : Result (Unit {0}) (Stop R)) → ended ≡ Err s → (lost : Bool) × IsFilledOf pools steps old files name input ended lost new) → IsNotFilled pools steps old files name input new s
  not_filled (stop.Pools cause) of = absurd (of (Err (stop.Pools cause)) refl).1.filled
  not_filled (stop.Pool cause) of = (Err (stop.Pool cause), inl refl, of (Err (stop.Pool cause)) refl)
  not_filled stop.DiskLost of = absurd (of (Err stop.DiskLost) refl).1.filled
  not_filled stop.Input of = of (Err stop.Input) refl
  not_filled stop.Protocol of = absurd (of (Err stop.Protocol) refl).1.filled
  not_filled stop.Output of = absurd (of (Err stop.Output) refl).1.filled
  not_filled stop.NotThere of = absurd (of (Err stop.NotThere) refl).1.filled
