-- What the pool was asked for, and how it is answered.
use Rattle.std.proofs.Common.{◌≡◌, [], length, Bool, true, false, Option, Some, None, refl, sym, ap, ◌∙◌, subst}
use Rattle.std.specs.Prelude.{IfSome, nat_le, if◌then◌else◌}
use Rattle.nbd_wire.specs.Requests.{command_of}
use Rattle.nbd_wire.specs.declared.errors.ErrorCode.{ErrorCode}
use Rattle.nbd_wire.specs.declared.errors.ErrorCode.TheVariants.{Invalid}
use Rattle.nbd_wire.specs.declared.requests.Command.{Command}
use Rattle.nbd_wire.specs.declared.requests.Command.TheVariants.{Disconnect, Flush, Read, Write}
use Rattle.nbd_wire.specs.declared.requests.RequestHead.{RequestHead}
use Rattle.pool_steps.specs.declared.steps.PoolSteps.{Ghosts}
use Rattle.volume_device.specs.Devices.{Leads, core_of, name_of}
use Rattle.volume_device.specs.declared.device.Device.{Device}
use Rattle.nbd_serve.specs.Answers.{Fails, Performs, Responds}
use Rattle.nbd_serve.specs.Exchanges.{BecomesOf, Exchange, reply_len}
use Rattle.nbd_serve.specs.Verdicts.{judged, judged_as}
use Rattle.nbd_serve.specs.declared.export.Export.{Export}

reply_len-failed : (command : Option Command) (head : RequestHead) (code : ErrorCode) → reply_len command head (Some code) ≡ 0
reply_len-failed None head code = refl
reply_len-failed (Some Read) head code = refl
reply_len-failed (Some Write) head code = refl
reply_len-failed (Some Flush) head code = refl
reply_len-failed (Some Disconnect) head code = refl

module _ {P : Type 0} (steps : Ghosts P) where
  -- it failed
  pub failed : (command : Option Command) (old new : Device P) (e : Exchange) (code : ErrorCode) → e.error ≡ Some code → e.bytes ≡ [] → steps.came_from (core_of old) (core_of new) → name_of new ≡ name_of old
      → Leads steps old new (BecomesOf (name_of old) e command (Some code)) → Fails steps command e old code new → Performs steps command old e new
  failed command old new e code error bytes follows named leads fails = record {
    follows = follows;
    named = named;
    bytes_are = ap length bytes ∙ sym (reply_len-failed command e.head code) ∙ ap (reply_len command e.head) (sym error);
    leads = subst (λ (x : Option ErrorCode). Leads steps old new (BecomesOf (name_of old) e command x)) (sym error) leads;
    fails = subst (λ (x : Option ErrorCode). IfSome x (λ code. Fails steps command e old code new)) (sym error) fails;
  }

  -- it was done, and there are no bytes to tell
  pub done : (command : Option Command) (old new : Device P) (e : Exchange) → e.error ≡ None → e.bytes ≡ [] → reply_len command e.head None ≡ 0 → steps.came_from (core_of old) (core_of new) → name_of new ≡ name_of old
      → Leads steps old new (BecomesOf (name_of old) e command None) → Performs steps command old e new
  done command old new e error bytes none follows named leads = record {
    follows = follows;
    named = named;
    bytes_are = ap length bytes ∙ sym none ∙ ap (reply_len command e.head) (sym error);
    leads = subst (λ (x : Option ErrorCode). Leads steps old new (BecomesOf (name_of old) e command x)) (sym error) leads;
    fails = subst (λ (x : Option ErrorCode). IfSome x (λ code. Fails steps command e old code new)) (sym error) tt;
  }

  -- the pool was asked by that command
  pub asked_for : (export : Export) (old new : Device P) (e : Exchange) (command : Option Command) → judged export e.head ≡ None → command_of e.head.kind ≡ command → Performs steps command old e new → Responds steps export old e new
  asked_for export old new e command none is performs =
      rw none (subst (λ (x : Option Command). Performs steps x old e new) (sym is) performs)

  -- it wasn't
  pub not_asked : (export : Export) (old new : Device P) (e : Exchange) (code : ErrorCode) → judged export e.head ≡ Some code → e.error ≡ Some code → e.bytes ≡ [] → new ≡ old → Responds steps export old e new
  not_asked export old new e code is error bytes same = rw is (error, bytes, same)

-- what is no READ, WRITE or FLUSH is judged
pub judged-unknown : (export : Export) (head : RequestHead) (command : Option Command) → command_of head.kind ≡ command → judged_as export head command ≡ Some Invalid → judged export head ≡ Some Invalid
judged-unknown export head command is unknown =
    let inner : judged_as export head (command_of head.kind) ≡ Some Invalid = ap (judged_as export head) is ∙ unknown in
    elim (nat_le head.flags 1) as (λ (b : Bool). (if b then judged_as export head (command_of head.kind) else Some Invalid) ≡ Some Invalid) [ true ↦ inner | false ↦ refl ]
