use Rattle.std.proofs.Common.{◌∙◌, refl}
use Rattle.nbd_serve.specs.Exchanges.{exchange}
use Rattle.nbd_serve.proofs.Stepping.{sent_or_not}
use Rattle.nbd_serve.proofs.transmission.answer_one.Goals as goal

pub returns : goal.returns
returns g c =
    let read = c.in_ok-payload.ensures.read in
    let head = c.args.head.now in
    sent_or_not g.P.PoolSteps c.args.export.now head c.args.device.now c.respond-answer.new.device (g.R.Read.remaining c.args.input.now) (g.R.Read.remaining c.read_payload.new.input)
    (g.W.Write.contents c.args.output.now) (g.W.Write.contents c.reply.new.output) (record {
      exchange = exchange head read.0 c.respond-answer.result;
      head_is = refl;
      answers = record { spelled = c.requires.spelled; stays = c.requires.stays; payload_is = read.1 ∙ c.payload_len-len.ensures; responds = c.respond-answer.ensures read.0 read.3 };
      consumed = read.2;
    }) c.reply.result c.reply.ensures.sent c.reply.ensures.failed
