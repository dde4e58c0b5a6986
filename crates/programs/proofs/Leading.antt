-- Steps that lead on.
use Rattle.std.proofs.Common.{◌≡◌, List, [], ◌∷◌, ◌++◌, Some}
use Rattle.pool_model.specs.declared.step.Step.{Step}
use Rattle.pool_model.specs.declared.step.Reply.{Reply}
use Rattle.programs.specs.Answers.{Leads, next_of}

-- one more step
pub leads_more : {M : Type 0} (Steps : M → Step → Reply → M → Type 0) (replies : List Reply) (old between new : M) (s next : Step) (last reply : Reply) → Leads Steps old s replies last between → next_of last ≡ Some next → Steps between next reply new → Leads Steps old s (replies ++ last ∷ []) reply new
leads_more Steps [] old between new s next last reply led follows taken = (between, next, led, follows, taken)
leads_more Steps (r ∷ replies) old between new s next last reply led follows taken = (led.0, led.1, led.2, led.3, leads_more Steps replies led.0 between new led.1 next last reply led.4 follows taken)
