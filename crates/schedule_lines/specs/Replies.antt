-- What is printed of a reply.
use Rattle.std.specs.Prelude.{◌≡◌, ℕ, List, [], ◌∷◌, ◌++◌, codes}
use Rattle.std.specs.Fmt.{decimal}
use Rattle.pool_model.specs.declared.step.Phase.{Phase}
use Rattle.pool_model.specs.declared.step.Phase.TheVariants.{Blocks, BlocksFlush, Slots, SlotsFlush}
use Rattle.pool_model.specs.declared.step.Reply.{Reply}
use Rattle.pool_model.specs.declared.step.Reply.TheVariants.{Held, Receipt, Released, Closed, Quiesced, Planned, Moved, Replan, Committed, Out, Bytes, Refused}
use Rattle.pool_model.specs.declared.refusal.Refusal.{Refusal}
use Rattle.pool_model.specs.declared.refusal.Refusal.TheVariants.{OutOfOrder}
use Rattle.pool_model.specs.Causes.{number_of_cause, name_of_cause}
use Rattle.schedule_lines.specs.declared.equal_bytes.Run.{Run}
use Rattle.schedule_lines.specs.Runs.{AreRuns, runs_text}

-- the name of a phase of a plan's device calls
abbrev pub phase_text : Phase → List ℕ
phase_text Blocks = codes "Blocks"
phase_text BlocksFlush = codes "BlocksFlush"
phase_text Slots = codes "Slots"
phase_text SlotsFlush = codes "SlotsFlush"

-- a space and the argument, if there is one
abbrev pub argument_text : Refusal → List ℕ
argument_text (OutOfOrder expected) = 32 ∷ decimal expected
argument_text _ = []

-- the number, the name and the argument
abbrev pub refusal_text : Refusal → List ℕ
refusal_text refusal = codes "refused " ++ (decimal (number_of_cause refusal) ++ (32 ∷ (name_of_cause refusal ++ argument_text refusal)))

-- these bytes, the number of a group, and that of a claim
abbrev pub group_and_claim : List ℕ → ℕ → ℕ → List ℕ
group_and_claim front group claim = front ++ (decimal group ++ (codes " claim " ++ decimal claim))

-- what is told of a pool that was opened again: its group, and the number of its claim
abbrev pub opened_text : ℕ → ℕ → List ℕ
opened_text group claim = group_and_claim (codes "opened ") group claim

-- what is told of a new pool: its first group, and the number of its claim
abbrev pub made_text : ℕ → ℕ → List ℕ
made_text group claim = group_and_claim (codes "pool ") group claim

-- the text of a reply, without a line feed
abbrev pub IsReplyText : Reply → List ℕ → Type 0
IsReplyText (Held group) text = text ≡ codes "held " ++ decimal group
IsReplyText (Receipt group) text = text ≡ codes "receipt " ++ decimal group
IsReplyText Released text = text ≡ codes "released"
IsReplyText (Closed group) text = text ≡ codes "closed " ++ decimal group
IsReplyText (Quiesced group) text = text ≡ codes "quiesced " ++ decimal group
IsReplyText (Planned group) text = text ≡ codes "planned " ++ decimal group
IsReplyText (Moved phase) text = text ≡ codes "moved " ++ phase_text phase
IsReplyText (Replan disk) text = text ≡ codes "replan " ++ decimal disk
IsReplyText (Committed group) text = text ≡ codes "committed " ++ decimal group
IsReplyText Out text = text ≡ codes "out"
IsReplyText (Bytes bytes) text = (runs : List Run) × AreRuns bytes runs × (text ≡ runs_text runs)
IsReplyText (Refused refusal) text = text ≡ refusal_text refusal
