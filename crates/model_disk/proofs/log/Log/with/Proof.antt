use Rattle.model_disk.proofs.Ghost.{[], ◌∷◌, ◌++◌, refl, usize, yes, owns, shr_vals, shr_Tells, plain, types_at, alive, proved, Stays, walk_of, says, stay_none_ref, Goes-none_ref, ends_at, named, a_type, dcons, dnil, bounded, inst_fn, alloc_all, pass_all, free_all, look_at, sets, raw, ‵, ◌⊛◌, ◌$◌, ◌∵◌, !, qed, done, move, suffices, fjoin, split, drop, agg, enter, no_more, returns, nothing, no_bytes, fields_made}
use Rattle.model_disk.specs.Joint.{on_each}
use Rattle.model_disk.specs.contracts.log.Log as log
use Rattle.model_disk.specs.contracts.log.Log.with as f
use Rattle.model_disk.proofs.log.Log.with.Statement.{statement}
use Rattle.model_disk.proofs.log.Log.with.Code as code

pub with_spec : {M : Type 1} → statement M
with_spec 𝓤 𝓛 𝓜 𝓡 wired D laws ghosts dict met =
    let types = bounded (a_type ∷ []) (D, tt) (dcons dict dnil) in let T = f.ended D ghosts dict in
    let c = f.clauses D ghosts dict 𝓛 𝓜.mem 𝓡.returns in
    let stayed : Stays T.signature.params T.kept = (
      stay_none_ref (0 ∷ []) tt (plain (λ κs. log.the_row)) yes,
      (stay_none_ref (1 ∷ []) tt (plain (λ κs. usize)) yes, (stay_none_ref (2 ∷ []) tt (plain (λ κs. f.D-row D)) yes, tt)),
    ) in
    let W = walk_of 𝓛 T stayed c in
    proved 𝓛 T stayed c 𝓜 𝓡 (
      Goes-none_ref 𝓛 4 (0 ∷ []) tt (plain (λ κs. log.the_row)) yes,
      (Goes-none_ref 𝓛 4 (1 ∷ []) tt (plain (λ κs. usize)) yes, (Goes-none_ref 𝓛 4 (2 ∷ []) tt (plain (λ κs. f.D-row D)) yes, tt)),
    )
    (f.Key.name types) (inst_fn types code.function) (code.unfolded 𝓤 𝓛.H 𝓜 𝓡 wired (D, tt) dict)
    (λ κs. (shr_vals, (shr_vals, (shr_vals, tt))))
    (λ κs. (shr_Tells (named 0) κs.0 log.the_row, (shr_Tells (named 1) κs.1.0 usize, (shr_Tells (named 2) κs.1.1.0 (f.D-row D), tt))))
    (λ κs qs bounds a g are.
    let y : W.Ghost = ((κs, qs, bounds, a, (shr_vals a.0, (shr_vals a.1.0, (shr_vals a.1.1.0, tt)))), tt) in
    let more = on_each a.1.0.now (ghosts.calls a.1.1.0.now) ++ a.0.now.calls in
    qed 𝓛 ((raw (alive 𝓛 T.signature κs qs) ⊛ ‵ (owns (types_at T.signature.params κs) a y.0.4)) ∷ raw ((c κs a).requires g) ∷ []) ∵
    split ! $ move ! (2 ∷ []) $ drop ! $ enter ! _ _ _ _ _ $ alloc_all ! (λ l. pass_all ! refl ((tt, tt), ((tt, tt), ((tt, tt), tt))) $
    sets ! (agg ! (no_more !)) refl (tt, tt) $ returns ! (look_at ! 0 refl) $ free_all ! refl $
    suffices ! _ (ends_at 𝓛 T stayed c y no_bytes (record { start = a.0.now.start; calls = more }) (tt, (tt, (tt, tt))) (tt, (tt, (tt, tt)))) $
    says ! (refl, refl) $ nothing ! $ fields_made ! $ fjoin ! $ move ! (1 ∷ 2 ∷ 0 ∷ []) $ done !))
