use Rattle.std.proofs.Common.{◌∷◌, ◌+◌, ◌≡◌, suc, ℕ, List, drop, map, arith, subst}
use Rattle.words.specs.Words.{AreWords}
use Rattle.pool_format.proofs.Words.{words_more}
use Rattle.vdev_label.specs.Config.{guids}
use Rattle.vdev_label.specs.Plain.{vdev_view}
use Rattle.pool_create.proofs.guids.guids_are_words.Goals as goal

next : (i : ℕ) → i + 1 ≡ suc i
next i = omega arith

pub loop-i-preserved : goal.loop-i-preserved
loop-i-preserved c = λ rest. c.loop-i.invariant
    (words_more c.args.config.now.vdevs.items c.loop-i.i c.index-vdev.result.now (omega (arith, c.loop-i-test.true)) c.index-vdev.ensures
    (subst (λ (them : List ℕ). AreWords (c.index-vdev.result.now.guid ∷ them)) c.deref.ensures.value c.are_words.ensures)
    (subst (λ (n : ℕ). AreWords (guids (map vdev_view (drop n c.args.config.now.vdevs.items)))) (next c.loop-i.i) rest))
