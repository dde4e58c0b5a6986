use Rattle.std.proofs.Common.{Ok, map, sym, ap, ◌∙◌, subst}
use Rattle.pool_command.specs.declared.command.Command.TheVariants.{Zfs}
use Rattle.pool_command.specs.declared.command.ZfsCommand.TheVariants as zfs
use Rattle.commands.proofs.EndedLines.{plain_ends, serve_streams, streamed_ends}
use Rattle.commands.specs.Performs.{IsPlain}
use Rattle.commands.proofs.running.command.Goals as goal

pub returns-in-Plain : goal.returns-in-Plain
returns-in-Plain g c =
    let run = c.perform_and_print-ended in
    plain_ends g.S.Pools g.S.Pool.PoolSteps (map (λ w. w.now) c.args.words.now) c.args.timestamp (g.R.Read.remaining c.args.input.now) c.args.pools.now run.new.pools (g.W.Write.contents c.args.output.now) (g.W.Write.contents run.new.output) c.end.result
    c.in-Plain.command (c.in-Ok.ensures ∙ ap Ok (sym c.in-Plain.ensures.0)) run.result (subst IsPlain (sym c.in-Plain.ensures.0) c.in-Plain.ensures.1) run.ensures.done run.ensures.stopped c.end.ensures

pub returns-in-Serve : goal.returns-in-Serve
returns-in-Serve g c =
    let run = c.serve_volume-ended in
    let input = g.R.Read.remaining c.args.input.now in
    let before = g.W.Write.contents c.args.output.now in
    let after = g.W.Write.contents run.new.output in
    streamed_ends g.S.Pools g.S.Pool.PoolSteps (map (λ w. w.now) c.args.words.now) c.args.timestamp input c.args.pools.now run.new.pools before after c.end-in-Serve.result
    (Zfs (zfs.Serve c.in-Serve.name c.in-Serve.files)) (c.in-Ok.ensures ∙ ap Ok c.in-Serve.ensures) run.result
    (serve_streams g.S.Pools g.S.Pool.PoolSteps c.args.pools.now run.new.pools c.in-Serve.files c.in-Serve.name input (g.R.Read.remaining run.new.input) before after run.result run.ensures.done run.ensures.stopped) c.end-in-Serve.ensures
