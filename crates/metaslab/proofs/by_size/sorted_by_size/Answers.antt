use Rattle.std.proofs.Common.{ℕ, inl, inr, ◌<◌, length, get_or, ap, subst, sym, ◌∙◌, arith}
use Rattle.std.proofs.lemmas.Bool.{cases_eq}
use Rattle.std.proofs.lemmas.List.{get_or_default}
use Rattle.space_map.specs.declared.entry.Run.{Run}
use Rattle.space_map.specs.Sectors.{contains}
use Rattle.metaslab.specs.Fits.{HasRun, IsWhole}
use Rattle.metaslab.proofs.Wholes.{same_run, whole_at_index, whole_is_at}
use Rattle.metaslab.proofs.by_size.sorted_by_size.Goals as goal

-- what stands past the end of a list
abbrev none : Run
none = record { start = 0; len = 0 }

pub loop-run-preserved : goal.loop-run-preserved
loop-run-preserved c =
    let rs = c.args.runs.now in
    let i = c.loop-run.run-index in
    let gained = c.in_ok-add.ensures.ok in
    let before = c.loop-run.invariant in
    let below = c.loop-run-test.true in
    record {
      each = λ start len has. elim (gained.only start len has) [
        | inl had ↦ let at = before.each start len had in (at.0, omega arith, at.2)
        | inr (here, long) ↦ (i, omega arith, λ d. get_or_default rs i d none below ∙ same_run (get_or rs i none) start len (sym here) (sym long))
      ];
      all = λ j start len within is. elim (cases_eq j i) [
        | inl last ↦ subst (λ (r : Run). HasRun c.add.new.sizes r.start r.len) (ap (λ (n : ℕ). get_or rs n none) (sym last) ∙ is none) gained.gained
        | inr differ ↦ gained.stay start len (before.all j start len (omega arith) is)
      ];
    }

pub returns : goal.returns
returns c = λ to between.
    let rs = c.args.runs.now in
    let end = c.loop-run-test.false in
    let so_far = c.loop-run.invariant in
    record {
      each = λ start len has.
          let at = so_far.each start len has in
          let is = at.2 none in
          let inside : at.0 < length rs = omega arith in
          let whole = whole_at_index 0 to rs at.0 none between inside in
          subst (λ (r : Run). IsWhole (contains rs) r.start r.len) is whole;
      all = λ start len whole.
          let at = whole_is_at 0 to rs start len between whole in
          let below = at.below in
          so_far.all at.index start len (omega arith) at.is;
    }
