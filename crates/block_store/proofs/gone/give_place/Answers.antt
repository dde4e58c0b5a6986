use Rattle.std.proofs.Common.{◌≡◌, [], ◌∷◌, ◌%◌, sym, subst, ◌∙◌}
use Rattle.std.specs.Prelude.{OnOk}
use Rattle.std.proofs.lemmas.Result.{on_ok_weaker}
use Rattle.space_map.specs.declared.entry.Kind.TheVariants.{Freed}
use Rattle.space_map.specs.declared.entry.Run.{Run}
use Rattle.space_map.specs.FreeRuns.{IsEntered, entry_of}
use Rattle.block_store.specs.Places.{run_at}
use Rattle.block_store.specs.Releases.{copy_of_at}
use Rattle.block_store.proofs.Giving.{elsewhere, here}
use Rattle.block_store.proofs.gone.give_place.Goals.{then-place-at-via-then-place-at, then-place-at-via-else-place-at+then-metaslab_of-at}
use Rattle.block_store.proofs.gone.give_place.Goals as goal

pub returns-then-place-at-clause-given : goal.returns-then-place-at-clause-given
returns-then-place-at-clause-given c =
    elsewhere c.args.at (copy_of_at c.args.block.now c.args.place) c.args.free.now
    (λ is. elim c.then-place-at.branch [
      | then-place-at-via-then-place-at w ↦ w.if-place-at.true is.0
      | then-place-at-via-else-place-at+then-metaslab_of-at w ↦ w.if-metaslab_of-at.true (w.metaslab_of.ensures ∙ is.1)
    ])

pub returns-clause-given : goal.returns-clause-given
returns-clause-given c =
    let run : Run = record { start = c.args.place.offset % c.metaslab_sectors.result; len = c.from-len.result } in
    let run_is : run ≡ run_at c.args.at.shape c.args.place = (let size = c.metaslab_sectors.ensures.value in let len = c.from-len.ensures in cc) in
    on_ok_weaker c.add.result
    (λ entered. here c.args.at (copy_of_at c.args.block.now c.args.place) c.args.free.now c.add.new.free c.if-place-at.false (sym c.metaslab_of.ensures ∙ c.if-metaslab_of-at.false)
    (subst (λ (r : Run). IsEntered c.args.free.now c.add.new.free (entry_of Freed r)) run_is entered))
    c.add.ensures.added
