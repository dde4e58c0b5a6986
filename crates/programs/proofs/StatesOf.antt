-- Steps of what a machine shows, and what a pool on disks shows.
use Rattle.std.proofs.Common.{◌≡◌, ℕ, List, [], ◌∷◌, Bool, true, false, Option, Some, None, MatchOption, Result, Ok, Err}
use Rattle.std.specs.Result.{IfOk}
use Rattle.model_disk.specs.declared.memory.MemDisk.{MemDisk}
use Rattle.pool_create.specs.CoreState.{CoreState}
use Rattle.pool_model.specs.declared.step.Step.{Step}
use Rattle.pool_model.specs.declared.step.Reply.{Reply}
use Rattle.schedule_lines.specs.declared.command.Command.{Command}
use Rattle.schedule_lines.specs.declared.command.StopPoint.{StopPoint}
use Rattle.programs.specs.declared.stopping.Point.{Point}
use Rattle.programs.specs.Answers.{Answers, Goes, Leads, runs_on}
use Rattle.programs.specs.OnDisks.{PoolState}
use Rattle.programs.specs.Stops.{FallsShort, StopsAt}

module _ {M N : Type 0} (show : M → N) (Steps : N → Step → Reply → N → Type 0) where
  abbrev pub Shown : M → Step → Reply → M → Type 0
  Shown old step reply new = Steps (show old) step reply (show new)

  leads_shown : (replies : List Reply) (old new : M) (s : Step) (last : Reply) → Leads Shown old s replies last new → Leads Steps (show old) s replies last (show new)
  leads_shown [] old new s last leads = leads
  leads_shown (reply ∷ replies) old new s last leads = (show leads.0, leads.1, leads.2, leads.3, leads_shown replies leads.0 new leads.1 last leads.4)

  goes_shown : (b : Bool) (old new : M) (s : Step) (last : Reply) → Goes Shown b old s last new → Goes Steps b (show old) s last (show new)
  goes_shown true old new s last goes = (goes.0, leads_shown goes.0 old new s last goes.1, goes.2)
  goes_shown false old new s last goes = goes

  pub answers_shown : (old new : M) (command : Command) (last : Reply) → Answers Shown old command last new → Answers Steps (show old) command last (show new)
  answers_shown old new command last answers = (answers.0, answers.1, goes_shown (runs_on command) old new answers.0 last answers.2)

  pub stops_shown : (point : Point) (old new : M) (s : Step) → StopsAt Shown point old s new → StopsAt Steps point (show old) s (show new)
  stops_shown point old new s stops = record { replies = stops.replies; leads = leads_shown stops.replies old new s _ stops.leads; before = stops.before }

  pub short_shown : (point : Point) (old new : M) (s : Step) (last : Reply) → FallsShort Shown point old s last new → FallsShort Steps point (show old) s last (show new)
  short_shown point old new s last short =
      record { replies = short.replies; leads = leads_shown short.replies old new s last short.leads; ends = short.ends; before = short.before }

abbrev pub state_with : Option CoreState → List MemDisk → List ℕ → Option StopPoint → PoolState
state_with core disks absent stop = record { core = core; disks = disks; absent = absent; stop = stop }

pub same_state : (one other : Option CoreState) (disks : List MemDisk) (out absent : List ℕ) (stop : Option StopPoint) → one ≡ other → out ≡ absent
    → state_with one disks out stop ≡ state_with other disks absent stop
same_state one other disks out absent stop same alike = λ i. state_with (same i) disks (alike i) stop

pub if_found : {T E : Type 0} (r : Result (Option T) E) (P : Type 0) (Q R : T → Type 0) → ((x : T) → Q x → R x) → IfOk r (λ o. MatchOption o P Q) → IfOk r (λ o. MatchOption o P R)
if_found (Ok None) P Q R map h = h
if_found (Ok (Some x)) P Q R map h = map x h
if_found (Err e) P Q R map h = tt
