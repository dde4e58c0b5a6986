use Rattle.std.proofs.Common.{◌≡◌, ◌+◌, List, ℕ, [], ◌∷◌, ◌++◌, take, sym, ap, ◌∙◌, subst, arith}
use Rattle.std.proofs.lemmas.List.{take_more, take_all}
use Rattle.std.specs.Io.KnownBytes.{Appends}
use Rattle.shared_pool.specs.declared.recorded.Entry.{Entry}
use Rattle.thread_runs.specs.Printing.{IsEntryText, WritesEntries}
use Rattle.thread_runs.proofs.Printed.{keeps_same, on_ok, writes_more, writes_kept}
use Rattle.thread_runs.proofs.printing.print_entries.Goals as goal

pub loop-entry-init : goal.loop-entry-init
loop-entry-init g c = keeps_same (g.W.Write.contents c.args.output.now)

pub loop-entry-preserved : goal.loop-entry-preserved
loop-entry-preserved g c =
    let entries = c.args.entries.now in
    let i = c.loop-entry.entry-index in
    let e = c.entry-item.result in
    let old = g.W.Write.contents c.args.output.now in
    let between = g.W.Write.contents c.loop-entry.output in
    let new = g.W.Write.contents c.print.new.output in
    let is : IsEntryText e c.in-Some.text.items = rw c.in-Some.is at c.in_ok-text.ensures in
    let told : Appends between new c.in-Some.text.items = subst (λ (t : List ℕ). Appends between new t) c.as_slice.ensures.value c.in_ok-print.ensures in
    let longer = writes_more (take i entries) e c.in-Some.text.items old between new c.loop-entry.invariant is told in
    let same : take i entries ++ e ∷ [] ≡ take (i + 1) entries = sym (take_more entries i e (omega arith) ∙ ap (λ (x : Entry). take i entries ++ x ∷ []) (sym c.entry-item.is)) in
    subst (λ (es : List Entry). WritesEntries es old new) same longer

pub returns : goal.returns
returns g c =
    let entries = c.args.entries.now in
    let old = g.W.Write.contents c.args.output.now in
    let between = g.W.Write.contents c.loop-entry.output in
    let all = subst (λ (es : List Entry). WritesEntries es old between) (take_all c.loop-entry.entry-index entries (omega arith)) c.loop-entry.invariant in
    on_ok c.flush.result _ _ (λ kept. writes_kept entries old between (g.W.Write.contents c.flush.new.output) all kept) c.flush.ensures
