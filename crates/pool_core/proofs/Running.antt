-- A run goes on by a step, and tells what the headline says.
use Rattle.std.proofs.Common.{◌≡◌, Bool, true, List, map, [], ◌∷◌, ◌++◌, refl, sym, ap, ◌∙◌, subst, append_assoc}
use Rattle.std.proofs.lemmas.List.{append-nil}
use Rattle.pool_model.specs.declared.step.Step.{Step}
use Rattle.pool_model.specs.declared.step.Reply.{Reply}
use Rattle.pool_model.specs.View.{View, Given}
use Rattle.pool_model.specs.Machine.{Run}
use Rattle.pool_model.proofs.Whole.{headline}
use Rattle.pool_commit.specs.Calls.{GrewTo}
use Rattle.pool_commit.proofs.Accounted.{no_room_is_lost}
use Rattle.pool_core.specs.Runs.{Chain, GiveTrust, Links, Passes, Ran, RunsTo, TellIn, states_linked, states_passed}
use Rattle.pool_core.specs.Moves.{Moves}
use Rattle.pool_core.specs.State.{CoreState, disks_of}
use Rattle.pool_core.specs.Steps.{AnswersTellThroughout, CameFrom, IsPlanned, Link, TakesStep}
use Rattle.pool_core.specs.Represents.{Represents}
use Rattle.pool_core.specs.Parts.{came_none, came_on, tell_first, tell_rest}
use Rattle.pool_core.proofs.Telling.{came_by}

-- ---- chains

chain_more : (old : CoreState) (v : View) (steps : List Step) (givens : List Given) (replies : List Reply) (mid : CoreState) (between : View) (step : Step) (given : Given) (reply : Reply) (new : CoreState) (w : View)
    → Chain old v steps givens replies mid between → GrewTo (disks_of mid) (disks_of new) → Link mid between step given reply new w
    → Moves step mid.commit new.commit
    → Chain old v (steps ++ step ∷ []) (givens ++ given ∷ []) (replies ++ reply ∷ []) new w
chain_more old v [] [] [] mid between step given reply new w chain grew link moves = (
  new,
  w,
  subst (λ (s : CoreState). GrewTo (disks_of s) (disks_of new)) (sym chain.0) grew,
  subst (λ (p : CoreState × View). Link p.0 p.1 step given reply new w) (λ i. (sym chain.0 i, sym chain.1 i)) link,
  subst (λ (s : CoreState). Moves step s.commit new.commit) (sym chain.0) moves,
  (refl, refl),
)
chain_more old v (x ∷ steps) (y ∷ givens) (z ∷ replies) mid between step given reply new w chain grew link moves =
    (chain.0, chain.1, chain.2, chain.3, chain.4, chain_more chain.0 chain.1 steps givens replies mid between step given reply new w chain.5 grew link moves)
chain_more old v steps givens replies mid between step given reply new w chain grew link moves = absurd chain

-- its states are those of the chain before, and the new one
linked_more : (old : CoreState) (v : View) (steps : List Step) (givens : List Given) (replies : List Reply) (mid : CoreState) (between : View) (step : Step) (given : Given) (reply : Reply) (new : CoreState) (w : View)
    (chain : Chain old v steps givens replies mid between) (grew : GrewTo (disks_of mid) (disks_of new)) (link : Link mid between step given reply new w) (moves : Moves step mid.commit new.commit)
    → states_linked old v (steps ++ step ∷ []) (givens ++ given ∷ []) (replies ++ reply ∷ []) new w (chain_more old v steps givens replies mid between step given reply new w chain grew link moves)
    ≡ states_linked old v steps givens replies mid between chain ++ new ∷ []
unfolding chain_more
linked_more old v [] [] [] mid between step given reply new w chain grew link moves = refl
linked_more old v (x ∷ steps) (y ∷ givens) (z ∷ replies) mid between step given reply new w chain grew link moves =
    ap (λ (them : List CoreState). chain.0 ∷ them) (linked_more chain.0 chain.1 steps givens replies mid between step given reply new w chain.5 grew link moves)
linked_more old v steps givens replies mid between step given reply new w chain grew link moves = absurd chain

pub run_of : (old : CoreState) (v : View) (steps : List Step) (givens : List Given) (replies : List Reply) (new : CoreState) (w : View) → Chain old v steps givens replies new w → Run v steps givens replies w
run_of old v [] [] [] new w chain = sym chain.1
run_of old v (step ∷ steps) (given ∷ givens) (reply ∷ replies) new w chain = (chain.1, chain.3.is_step, run_of chain.0 chain.1 steps givens replies new w chain.5)
run_of old v steps givens replies new w chain = absurd chain

-- ---- the states that a run passed

passes_more : (old : CoreState) (steps : List Step) (replies : List Reply) (mid : CoreState) (step : Step) (reply : Reply) (new : CoreState) → Passes old steps replies mid
    → CameFrom mid new → Moves step mid.commit new.commit → Passes old (steps ++ step ∷ []) (replies ++ reply ∷ []) new
passes_more old [] [] mid step reply new passes came moves = (
  new,
  subst (λ (s : CoreState). CameFrom s new) (sym passes) came,
  subst (λ (s : CoreState). Moves step s.commit new.commit) (sym passes) moves,
  refl,
)
passes_more old (x ∷ steps) (z ∷ replies) mid step reply new passes came moves =
    (passes.0, passes.1, passes.2, passes_more passes.0 steps replies mid step reply new passes.3 came moves)
passes_more old steps replies mid step reply new passes came moves = absurd passes

passed_more : (old : CoreState) (steps : List Step) (replies : List Reply) (mid : CoreState) (step : Step) (reply : Reply) (new : CoreState) (passes : Passes old steps replies mid)
    (came : CameFrom mid new) (moves : Moves step mid.commit new.commit)
    → states_passed old (steps ++ step ∷ []) (replies ++ reply ∷ []) new (passes_more old steps replies mid step reply new passes came moves)
    ≡ states_passed old steps replies mid passes ++ new ∷ []
unfolding passes_more
passed_more old [] [] mid step reply new passes came moves = refl
passed_more old (x ∷ steps) (z ∷ replies) mid step reply new passes came moves =
    ap (λ (them : List CoreState). passes.0 ∷ them) (passed_more passes.0 steps replies mid step reply new passes.3 came moves)
passed_more old steps replies mid step reply new passes came moves = absurd passes

pub came_through : (old : CoreState) (steps : List Step) (replies : List Reply) (new : CoreState) → Passes old steps replies new → CameFrom old new
came_through old [] [] new passes = subst (λ (s : CoreState). CameFrom old s) passes (came_none old)
came_through old (step ∷ steps) (reply ∷ replies) new passes = came_on old passes.0 new passes.1 (came_through passes.0 steps replies new passes.3)
came_through old steps replies new passes = absurd passes

-- the flags of a run and of one more step
record IsParted (old : CoreState) (steps : List Step) (replies : List Reply) (mid : CoreState) (passes : Passes old steps replies mid) (reply : Reply) (new : CoreState)
    (flags : List Bool) : Type 0 where
  front : List Bool
  last : Bool
  are : flags ≡ front ++ last ∷ []
  before : TellIn old steps replies mid passes front
  tell : last ≡ true → AnswersTellThroughout mid new
  planned : IsPlanned reply → last ≡ true

parted : (old : CoreState) (steps : List Step) (replies : List Reply) (mid : CoreState) (step : Step) (reply : Reply) (new : CoreState) (passes : Passes old steps replies mid)
    (came : CameFrom mid new) (moves : Moves step mid.commit new.commit) (flags : List Bool)
    → TellIn old (steps ++ step ∷ []) (replies ++ reply ∷ []) new (passes_more old steps replies mid step reply new passes came moves) flags
    → IsParted old steps replies mid passes reply new flags
unfolding passes_more
parted old [] [] mid step reply new passes came moves (trusted ∷ []) tell = record {
  front = [];
  last = trusted;
  are = refl;
  before = tt;
  tell = λ e. subst (λ (s : CoreState). AnswersTellThroughout s new) passes (tell.0 e);
  planned = tell.1;
}
parted old [] [] mid step reply new passes came moves [] tell = absurd tell
parted old [] [] mid step reply new passes came moves (trusted ∷ other ∷ flags) tell = absurd tell.2
parted old (x ∷ steps) (z ∷ replies) mid step reply new passes came moves (trusted ∷ flags) tell =
    let rest = parted passes.0 steps replies mid step reply new passes.3 came moves flags tell.2 in
    record {
      front = trusted ∷ rest.front;
      last = rest.last;
      are = ap (λ (them : List Bool). trusted ∷ them) rest.are;
      before = (tell.0, tell.1, rest.before);
      tell = rest.tell;
      planned = rest.planned;
    }
parted old (x ∷ steps) (z ∷ replies) mid step reply new passes came moves [] tell = absurd tell
parted old [] (z ∷ replies) mid step reply new passes came moves flags tell = absurd passes
parted old (x ∷ steps) [] mid step reply new passes came moves flags tell = absurd passes

-- where answers tell throughout, each step may be trusted
pub trusts : List Reply → List Bool
trusts replies = map (λ reply. true) replies

pub tell_in : (old : CoreState) (steps : List Step) (replies : List Reply) (new : CoreState) (passes : Passes old steps replies new) → AnswersTellThroughout old new
    → TellIn old steps replies new passes (trusts replies)
unfolding trusts
tell_in old [] [] new passes tell = tt
tell_in old (step ∷ steps) (reply ∷ replies) new passes tell =
    let rest = came_through passes.0 steps replies new passes.3 in
    (λ e. tell_first old passes.0 new rest tell, λ planned. refl, tell_in passes.0 steps replies new passes.3 (tell_rest old passes.0 new passes.1 tell))
tell_in old [] (reply ∷ replies) new passes tell = absurd passes
tell_in old (step ∷ steps) [] new passes tell = absurd passes

-- ---- whole runs

trust_more : (flags : List Bool) (givens : List Given) (trusted : Bool) (given : Given) → GiveTrust flags givens → (trusted ≡ true → given.trusted ≡ true)
    → GiveTrust (flags ++ trusted ∷ []) (givens ++ given ∷ [])
trust_more [] [] trusted given all one = (one, tt)
trust_more (flag ∷ flags) (x ∷ givens) trusted given all one = (all.0, trust_more flags givens trusted given all.1 one)
trust_more [] (x ∷ givens) trusted given all one = absurd all
trust_more (flag ∷ flags) [] trusted given all one = absurd all

pub runs_none : (old : CoreState) (before : List Reply) → RunsTo old [] before old before
runs_none old before = ([], sym (append-nil before), refl, none)
  where
    none : (v : View) (flags : List Bool) → Represents old v → TellIn old [] [] old refl flags → Links old v flags [] [] old refl
    none v [] r tell = record { givens = []; trust = tt; after = v; chain = (refl, refl); through = refl; represents = r }
    none v (flag ∷ flags) r tell = absurd tell

pub runs_on : (old : CoreState) (steps : List Step) (before : List Reply) (mid : CoreState) (now : List Reply) (step : Step) (reply : Reply) (new : CoreState)
    → RunsTo old steps before mid now → GrewTo (disks_of mid) (disks_of new) → TakesStep mid step reply new → Moves step mid.commit new.commit → RunsTo old (steps ++ step ∷ []) before new (now ++ reply ∷ [])
runs_on old steps before mid now step reply new runs grew goes moves =
    let came = came_by step mid new grew moves in (
      runs.0 ++ reply ∷ [],
      ap (λ xs. xs ++ reply ∷ []) runs.1 ∙ append_assoc before runs.0 (reply ∷ []),
      passes_more old steps runs.0 mid step reply new runs.2 came moves,
      λ v flags r tell.
          let parts = parted old steps runs.0 mid step reply new runs.2 came moves flags tell in
          let so_far = runs.3 v parts.front r parts.before in
          let one = goes so_far.after parts.last so_far.represents parts.tell parts.planned in
          record {
            givens = so_far.givens ++ one.given ∷ [];
            trust = subst (λ (them : List Bool). GiveTrust them (so_far.givens ++ one.given ∷ [])) (sym parts.are)
                (trust_more parts.front so_far.givens parts.last one.given so_far.trust one.trust);
            after = one.after;
            chain = chain_more old v steps so_far.givens runs.0 mid so_far.after step one.given reply new one.after so_far.chain grew one.link moves;
            through =
                linked_more old v steps so_far.givens runs.0 mid so_far.after step one.given reply new one.after so_far.chain grew one.link moves
                ∙ ap (λ (them : List CoreState). them ++ new ∷ []) so_far.through
                ∙ sym (passed_more old steps runs.0 mid step reply new runs.2 came moves);
            represents = one.link.represents;
          },
    )

pub ran : (old : CoreState) (steps : List Step) (before : List Reply) (new : CoreState) (now : List Reply) → RunsTo old steps before new now → Ran old steps before new now
ran old steps before new now runs = (
  runs.0,
  runs.1,
  runs.2,
  λ v flags r tell.
      let all = runs.3 v flags r tell in
      let run = run_of old v steps all.givens runs.0 new all.after all.chain in
      (all, run, headline v steps all.givens runs.0 all.after r.follows.sound run, no_room_is_lost new.commit all.after all.represents.backs),
)
