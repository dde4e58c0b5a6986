-- A run of calls goes on by a call, and is once and in order.
use Rattle.std.proofs.Common.{◌≡◌, ◌++◌, List, [], ◌∷◌, drop, length, arith, refl, sym, ap, ◌∙◌, subst, append_assoc}
use Rattle.std.specs.Prelude.{map, Result, Ok, Err, OnErr}
use Rattle.pool_model.specs.Flow.{Flow, FlowStep, FlowRun}
use Rattle.pool_model.proofs.Falls.{once_in_order}
use Rattle.txg_pipeline.specs.declared.calls.Answer.{Answer}
use Rattle.txg_pipeline.specs.declared.calls.Call.{Call}
use Rattle.txg_pipeline.specs.declared.pipeline.Pipeline.{Pipeline}
use Rattle.txg_pipeline.specs.Calls.{step_of, reply_of, HasCause, CallRun, IsCall, Runs, Ran}

pub map_snoc : {A B : Type 0} (f : A → B) (xs : List A) (x : A) → map f (xs ++ x ∷ []) ≡ map f xs ++ f x ∷ []
map_snoc f [] x = refl
map_snoc f (y ∷ ys) x = ap (λ zs. f y ∷ zs) (map_snoc f ys x)

pub append_none : {A : Type 0} (xs : List A) → xs ++ [] ≡ xs
append_none [] = refl
append_none (x ∷ xs) = ap (λ ys. x ∷ ys) (append_none xs)

pub runs_none : (old : Pipeline) (before : List Answer) → Runs old [] before old before
runs_none old before = ([], sym (append_none before), λ f k. (f, k, refl))

call_snoc : (f : Flow) (calls : List Call) (answers : List Answer) (mid : Flow) (call : Call) (answer : Answer) (g : Flow) → CallRun f calls answers mid
    → HasCause mid call answer → FlowStep mid (step_of call) (reply_of answer) g → CallRun f (calls ++ call ∷ []) (answers ++ answer ∷ []) g
call_snoc f [] [] mid call answer g r c s = subst (λ (x : Flow). HasCause x call answer × ((mid : Flow) × FlowStep x (step_of call) (reply_of answer) mid × (g ≡ mid))) r (c, (g, s, refl))
call_snoc f (x ∷ calls) (y ∷ answers) mid call answer g r c s = (r.0, (r.1.0, r.1.1, call_snoc r.1.0 calls answers mid call answer g r.1.2 c s))
call_snoc f calls answers mid call answer g r c s = absurd r

flow_of_calls : (f : Flow) (calls : List Call) (answers : List Answer) (g : Flow) → CallRun f calls answers g → FlowRun f (map step_of calls) (map reply_of answers) g
flow_of_calls f [] [] g r = r
flow_of_calls f (call ∷ calls) (answer ∷ answers) g r = (r.1.0, r.1.1, flow_of_calls r.1.0 calls answers g r.1.2)
flow_of_calls f calls answers g r = absurd r

pub runs_on : (old : Pipeline) (calls : List Call) (before : List Answer) (mid : Pipeline) (now : List Answer) (call : Call) (answer : Answer) (new : Pipeline) → Runs old calls before mid now → IsCall mid call answer new → Runs old (calls ++ call ∷ []) before new (now ++ answer ∷ [])
runs_on old calls before mid now call answer new r s = (
  r.0 ++ answer ∷ [],
  ap (λ xs. xs ++ answer ∷ []) r.1 ∙ append_assoc before r.0 (answer ∷ []),
  λ f k.
      let g = r.2 f k in
      let m = s g.0 g.1 in
      (m.1.0, m.1.2, call_snoc f calls r.0 g.0 call answer m.1.0 g.2 m.0 m.1.1),
)

pub ran : (old : Pipeline) (calls : List Call) (before : List Answer) (new : Pipeline) (now : List Answer) → Runs old calls before new now → Ran old calls before new now
ran old calls before new now r = (
  r.0,
  r.1,
  λ f k.
      let g = r.2 f k in
      (g.0, g.1, g.2, once_in_order f (map step_of calls) (map reply_of r.0) g.0 k.sound (flow_of_calls f calls r.0 g.0 g.2)),
)

pub on_err : {T E P : Type 0} (r : Result T E) → P → OnErr r P
on_err (Ok x) p = tt
on_err (Err e) p = p

-- what stays when its first element is taken away has none
pub drops_nothing : {A : Type 0} (xs : List A) → xs ≡ drop 1 xs → xs ≡ []
drops_nothing [] e = refl
drops_nothing (x ∷ xs) e = let h = ap length e in absurd (omega arith)
