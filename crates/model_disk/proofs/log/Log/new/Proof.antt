use Rattle.model_disk.proofs.Ghost.{[], ◌∷◌, refl, ftrue, yes, owns, shr_vals, shr_Tells, plain, named_lft, types_at, alive, proved, Stays, walk_of, says, stay_none_ref, Goes-none_ref, ends_at, named, alloc_all, pass_all, free_all, look_at, sets, raw, ‵, ◌⊛◌, ◌$◌, ◌∵◌, !, qed, done, move, suffices, fjoin, split, drop, agg, enter, no_more, returns, nothing, no_bytes, fields_made}
use Rattle.model_disk.proofs.Starts.{some_bytes, are_meant}
use Rattle.model_disk.specs.contracts.log.Log.new as f
use Rattle.model_disk.specs.contracts.log.Start as start
use Rattle.model_disk.proofs.log.Log.new.Statement.{statement}
use Rattle.model_disk.proofs.log.Log.new.Code as code

abbrev stayed : Stays f.ended.signature.params f.ended.kept
stayed = (stay_none_ref (0 ∷ []) tt (plain (λ κs. start.the_row (named_lft 2 1 tt κs))) yes, tt)

pub new_spec : {M : Type 1} → statement M
new_spec 𝓤 𝓛 𝓜 𝓡 wired =
    let c = f.clauses 𝓛 𝓜.mem 𝓡.returns in let W = walk_of 𝓛 f.ended stayed c in
    proved 𝓛 f.ended stayed c 𝓜 𝓡 (Goes-none_ref 𝓛 2 (0 ∷ []) tt (plain (λ κs. start.the_row (named_lft 2 1 tt κs))) yes, tt)
    f.Key.name code.function (code.unfolded 𝓤 𝓛.H 𝓜 𝓡 wired)
    (λ κs. (shr_vals, tt)) (λ κs. (shr_Tells (named 0) κs.0 (start.the_row (named_lft 2 1 tt κs)), tt)) (λ κs qs bounds a _ are.
    let y : W.Ghost = ((κs, qs, bounds, a, (shr_vals a.0, tt)), tt) in
    let bytes = some_bytes a.0.now in
    qed 𝓛 ((raw (alive 𝓛 f.signature κs qs) ⊛ ‵ (owns (types_at f.signature.params κs) a y.0.4)) ∷ ‵ ftrue ∷ []) ∵
    split ! $ move ! (2 ∷ []) $ drop ! $ enter ! _ _ _ _ _ $ alloc_all ! (λ l. pass_all ! refl ((tt, tt), tt) $
    sets ! (agg ! (no_more !)) refl (tt, tt) $ returns ! (look_at ! 0 refl) $ free_all ! refl $
    suffices ! _ (ends_at 𝓛 f.ended stayed c y no_bytes (record { start = bytes; calls = [] }) (tt, tt) (tt, tt)) $
    says ! (are_meant a.0.now, refl) $ nothing ! $ fields_made ! $ fjoin ! $ move ! (1 ∷ 2 ∷ 0 ∷ []) $ done !))
