use Rattle.model_disk.proofs.Ghost.{[], ◌∷◌, refl, usize, ftrue, yes, owns, shr_vals, shr_Tells, plain, named_lft, types_at, alive, proved, Stays, walk_of, says, stay_none_ref, Goes-none_ref, ends_at, named, alloc_all, pass_all, free_all, look_at, sets, raw, ‵, ◌⊛◌, ◌$◌, ◌∵◌, !, qed, done, move, suffices, fjoin, split, drop, agg, enter, no_more, returns, nothing, no_bytes, fields_made}
use Rattle.model_disk.specs.Answered.{call_of}
use Rattle.model_disk.specs.Joint.{on}
use Rattle.model_disk.specs.contracts.log.Answered as answered
use Rattle.model_disk.specs.contracts.log.Log as log
use Rattle.model_disk.specs.contracts.log.Log.then as f
use Rattle.model_disk.proofs.log.Log.then.Statement.{statement}
use Rattle.model_disk.proofs.log.Log.then.Code as code

abbrev stayed : Stays f.ended.signature.params f.ended.kept
stayed = (
  stay_none_ref (0 ∷ []) tt (plain (λ κs. log.the_row)) yes,
  (stay_none_ref (1 ∷ []) tt (plain (λ κs. usize)) yes, (stay_none_ref (2 ∷ []) tt (plain (λ κs. answered.the_row (named_lft 4 3 tt κs))) yes, tt)),
)

pub then_spec : {M : Type 1} → statement M
then_spec 𝓤 𝓛 𝓜 𝓡 wired =
    let c = f.clauses 𝓛 𝓜.mem 𝓡.returns in let W = walk_of 𝓛 f.ended stayed c in
    proved 𝓛 f.ended stayed c 𝓜 𝓡 (
      Goes-none_ref 𝓛 4 (0 ∷ []) tt (plain (λ κs. log.the_row)) yes,
      (Goes-none_ref 𝓛 4 (1 ∷ []) tt (plain (λ κs. usize)) yes, (Goes-none_ref 𝓛 4 (2 ∷ []) tt (plain (λ κs. answered.the_row (named_lft 4 3 tt κs))) yes, tt)),
    )
    f.Key.name code.function (code.unfolded 𝓤 𝓛.H 𝓜 𝓡 wired)
    (λ κs. (shr_vals, (shr_vals, (shr_vals, tt))))
    (λ κs. (shr_Tells (named 0) κs.0 log.the_row, (shr_Tells (named 1) κs.1.0 usize, (shr_Tells (named 2) κs.1.1.0 (answered.the_row (named_lft 4 3 tt κs)), tt))))
    (λ κs qs bounds a _ are.
    let y : W.Ghost = ((κs, qs, bounds, a, (shr_vals a.0, (shr_vals a.1.0, (shr_vals a.1.1.0, tt)))), tt) in
    let more = on a.1.0.now (call_of a.1.1.0.now) ∷ a.0.now.calls in
    qed 𝓛 ((raw (alive 𝓛 f.signature κs qs) ⊛ ‵ (owns (types_at f.signature.params κs) a y.0.4)) ∷ ‵ ftrue ∷ []) ∵
    split ! $ move ! (2 ∷ []) $ drop ! $ enter ! _ _ _ _ _ $ alloc_all ! (λ l. pass_all ! refl ((tt, tt), ((tt, tt), ((tt, tt), tt))) $
    sets ! (agg ! (no_more !)) refl (tt, tt) $ returns ! (look_at ! 0 refl) $ free_all ! refl $
    suffices ! _ (ends_at 𝓛 f.ended stayed c y no_bytes (record { start = a.0.now.start; calls = more }) (tt, (tt, (tt, tt))) (tt, (tt, (tt, tt)))) $
    says ! (refl, refl) $ nothing ! $ fields_made ! $ fjoin ! $ move ! (1 ∷ 2 ∷ 0 ∷ []) $ done !))
