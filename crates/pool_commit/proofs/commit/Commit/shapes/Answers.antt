use Rattle.std.proofs.Common.{◌≡◌, ◌++◌, ◌∷◌, [], List, ap, sym, subst, take, ◌∙◌}
use Rattle.std.proofs.lemmas.Option.{slice_get-map}
use Rattle.block_store.specs.Places.{shapes_of}
use Rattle.block_store.specs.Spaces.{VdevSpace}
use Rattle.block_store.specs.declared.shape.VdevShape.{VdevShape}
use Rattle.pool_commit.proofs.Disks.{suc_is, take_next}
use Rattle.pool_commit.proofs.commit.Commit.shapes.Goals as goal

pub loop-index-preserved : goal.loop-index-preserved
loop-index-preserved g c =
    let spaces = c.args.self.now.store.spaces in
    subst (λ n. c.push.new.self.items ≡ take n (shapes_of spaces)) (suc_is c.loop-index.index)
    (c.in_ok-push.ensures.items ∙ ap (λ (xs : List VdevShape). xs ++ c.shape.result ∷ []) c.loop-index.invariant
    ∙ sym (take_next (shapes_of spaces) c.loop-index.index c.shape.result (slice_get-map (λ (s : VdevSpace). s.shape) spaces c.loop-index.index ∙ c.shape.ensures.shape)))
