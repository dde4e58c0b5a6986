use Rattle.std.proofs.Common.{◌≡◌, ℕ, true≢false, ◌<◌, List, get_or, length, sym, subst, ◌∙◌}
use Rattle.std.proofs.lemmas.List.{get_or_default, take_all}
use Rattle.meta_objset.specs.declared.space_maps.MetaslabMap.{MetaslabMap}
use Rattle.pool_maps.proofs.Judged.{JudgedTo, all_judged, none_names, one_judged}
use Rattle.pool_maps.proofs.judging.are_rows.Goals.{then-not-is_row-via-then-not-is_row, then-not-is_row-via-else-not-is_row+then-is_named}
use Rattle.pool_maps.proofs.judging.are_rows.Goals as goal

-- what stands past the end of a list
abbrev none : MetaslabMap
none = record { metaslab = record { vdev = 0; index = 0 }; object = 0 }

same_row : (rows : List MetaslabMap) (i : ℕ) → i < length rows → get_or rows i (get_or rows i none) ≡ get_or rows i none
same_row rows i low = get_or_default rows i (get_or rows i none) none low

pub returns-then-not-is_row-clause-none : goal.returns-then-not-is_row-clause-none
returns-then-not-is_row-clause-none g c = λ are.
    let i = c.loop-i.i in
    let rows = c.args.rows.now in
    let low = c.loop-i-test.true in
    elim c.then-not-is_row.branch [
      | then-not-is_row-via-then-not-is_row w ↦ true≢false (sym (c.is_row.ensures.1 (are.places i none low, are.behind i none low)) ∙ w.if-not-is_row.true)
      | then-not-is_row-via-else-not-is_row+then-is_named w ↦
          w.if-is_named.ensures.named (none_names c.args.store.now.spaces rows i (get_or rows i none) low (same_row rows i low) c.requires are)
    ]

pub loop-i-preserved : goal.loop-i-preserved
loop-i-preserved g c =
    let i = c.loop-i.i in
    let rows = c.args.rows.now in
    let low = c.loop-i-test.true in
    let is = c.is_row.ensures.0 c.if-not-is_row.false in
    one_judged c.args.store.now.spaces rows i (get_or rows i none) low (same_row rows i low) c.loop-i.invariant is.0 is.1 c.if-is_named.ensures.none

pub returns-clause-are : goal.returns-clause-are
returns-clause-are g c =
    let rows = c.args.rows.now in
    all_judged c.args.store.now.spaces rows (subst (JudgedTo c.args.store.now.spaces) (take_all c.loop-i.i rows c.loop-i-test.false) c.loop-i.invariant)
