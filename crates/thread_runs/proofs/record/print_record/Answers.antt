use Rattle.std.proofs.Common.{List, subst}
use Rattle.shared_pool.specs.declared.recorded.Entry.{Entry}
use Rattle.thread_runs.specs.Printing.{WritesEntries}
use Rattle.thread_runs.proofs.Printed.{in_any_case}
use Rattle.thread_runs.proofs.record.print_record.Goals as goal

pub returns-clause-printed : goal.returns-clause-printed
returns-clause-printed g c =
    let old = g.W.Write.contents c.args.output.now in
    let new = g.W.Write.contents c.print_entries.new.output in
    in_any_case c.seal.result _ (record {
      history = c.audit.new.self;
      is_record = c.audit.ensures.record;
      tells = c.audit.ensures.tells;
      written = subst (λ (es : List Entry). WritesEntries es old new) c.entries.ensures c.in_ok-print_entries.ensures;
    })
