use Rattle.std.proofs.Common.{◌≡◌, ℕ, ◌+◌, ◌-◌, ◌≤◌, List, ◌++◌, subst, sym, ◌∙◌, arith}
use Rattle.space_map.specs.declared.entry.Entry.{Entry}
use Rattle.space_map.specs.Entry.{spelling}
use Rattle.space_map.specs.Sectors.{contains, AreBetween}
use Rattle.space_map.specs.Updates.{IsUpdate}
use Rattle.space_map.proofs.Stretches.{ahead_again}
use Rattle.space_map.proofs.Updates.{updates_go_on, both_stretches, is_update}
use Rattle.space_map.proofs.updating.append_update.Goals as goal

pub loop-at-preserved : goal.loop-at-preserved
loop-at-preserved c =
    let old = c.args.old.now in
    let new = c.args.new.now in
    let sectors = c.sectors-sectors.result in
    let at = c.loop-at.at in
    let end = c.min-end.result in
    let before = c.stretch_at-before in
    let later = c.stretch_at-after in
    let inv = c.loop-at.invariant in
    let ps = c.in_ok-append_change.ensures in
    let g : AreBetween 0 (sectors + 1) old.runs = subst (λ (n : ℕ). AreBetween 0 (n + 1) old.runs) (sym c.sectors-sectors.ensures) c.runs-old_rest.ensures.apart.1 in
    let h : AreBetween 0 (sectors + 1) new.runs = subst (λ (n : ℕ). AreBetween 0 (n + 1) new.runs) (sym (c.sectors-sectors.ensures ∙ c.requires)) c.runs-new_rest.ensures.apart.1 in
    let both = both_stretches sectors at end old.runs new.runs c.loop-at.old_rest.now c.loop-at.new_rest.now before.result later.result g h inv.olds inv.news before.ensures later.ensures c.min-end.ensures in
    let past : at ≤ end = omega (arith, both.some) in record {
      within = both.within;
      olds = ahead_again sectors old.runs c.loop-at.old_rest.now c.ahead-old_rest.result.now at end inv.olds past (c.ahead-old_rest.ensures sectors inv.olds.apart);
      news = ahead_again sectors new.runs c.loop-at.new_rest.now c.ahead-new_rest.result.now at end inv.news past (c.ahead-new_rest.ensures sectors inv.news.apart);
      updated = updates_go_on before.result.free later.result.free sectors at (end - at) end (contains old.runs) (contains new.runs) c.args.out.now.items c.loop-at.out.items c.append_change.new.out.items ps.0 (omega (arith, c.sectors-sectors.ensures, c.runs-old_rest.ensures.apart.0)) (omega arith) both ps.1 ps.2 inv.updated;
    }

pub returns : goal.returns
returns c =
    let old = c.args.old.now in
    let new = c.args.new.now in
    let sectors = c.sectors-sectors.result in
    let g : AreBetween 0 (sectors + 1) old.runs = subst (λ (n : ℕ). AreBetween 0 (n + 1) old.runs) (sym c.sectors-sectors.ensures) c.runs-old_rest.ensures.apart.1 in
    let h : AreBetween 0 (sectors + 1) new.runs = subst (λ (n : ℕ). AreBetween 0 (n + 1) new.runs) (sym (c.sectors-sectors.ensures ∙ c.requires)) c.runs-new_rest.ensures.apart.1 in
    let done = is_update sectors c.loop-at.at old.runs new.runs c.args.out.now.items c.loop-at.out.items g h c.loop-at-test.false c.loop-at.invariant.updated in
    subst (λ (n : ℕ). (es : List Entry) × IsUpdate n (contains old.runs) (contains new.runs) es × (c.loop-at.out.items ≡ c.args.out.now.items ++ spelling es)) c.sectors-sectors.ensures done
