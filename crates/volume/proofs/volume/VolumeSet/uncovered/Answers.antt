use Rattle.std.proofs.Common.{◌≡◌, ◌+◌, ◌++◌, ◌∷◌, [], ℕ, List, take, get_or, true≢false, refl, sym, ap, ◌∙◌, subst}
use Rattle.std.proofs.lemmas.List.{take_more}
use Rattle.std.proofs.lemmas.Slice.{pushed}
use Rattle.volume.specs.InTurn.{HaveInTurn}
use Rattle.volume.specs.Writing.{IsCovered}
use Rattle.volume.proofs.Needed.{in_turn_out, in_turn_more}
use Rattle.volume.proofs.volume.VolumeSet.uncovered.Goals as goal
use Rattle.volume.proofs.volume.VolumeSet.uncovered.Goals.{then-not-is_covered+in_ok-push, else-not-is_covered}

pub loop-id-preserved : goal.loop-id-preserved
loop-id-preserved c =
    let IsOut : ℕ → Type 0 = IsCovered c.args.self.now c.args.changes.now.name.now c.args.changes.now.items.now.writes in
    let id : ℕ = get_or c.args.ids.now c.loop-id.id-index 0 in
    let ids : take (c.loop-id.id-index + 1) c.args.ids.now ≡ take c.loop-id.id-index c.args.ids.now ++ id ∷ [] = take_more c.args.ids.now c.loop-id.id-index 0 c.loop-id-test.true in
    let Have : List ℕ → List ℕ → Type 0 = HaveInTurn IsOut (λ id same. same ≡ id) in
    elim c.if-not-is_covered.branch [
      | then-not-is_covered+in_ok-push w ↦
          let items = ap (λ v. v.items) w.needed-is ∙ pushed (id ∷ []) refl w.in_ok-push.was w.push.ensures.items in
          subst (λ xs. Have xs c.if-not-is_covered.needed.items) (sym ids)
          (subst (Have (take c.loop-id.id-index c.args.ids.now ++ id ∷ [])) (sym items)
          (in_turn_more IsOut (λ id same. same ≡ id) (take c.loop-id.id-index c.args.ids.now) c.loop-id.needed.items id id c.loop-id.invariant
          (λ covered. true≢false (sym (c.is_covered.ensures.1 covered) ∙ w.if-not-is_covered.true)) refl))
      | else-not-is_covered w ↦
          subst (λ xs. Have xs c.if-not-is_covered.needed.items) (sym ids)
          (subst (λ v. Have (take c.loop-id.id-index c.args.ids.now ++ id ∷ []) v.items) (sym w.needed-is)
          (in_turn_out IsOut (λ id same. same ≡ id) (take c.loop-id.id-index c.args.ids.now) c.loop-id.needed.items id c.loop-id.invariant
          (c.is_covered.ensures.0 w.if-not-is_covered.false)))
    ]
