-- What was played is a transcript.
use Rattle.std.proofs.lemmas.Result.{IfOk-weaker}
use Rattle.drive.specs.Transcripts.{IsTranscript}
use Rattle.drive.specs.Forms.{lines_as}
use Rattle.drive.proofs.driving.transcript.Goals as goal

pub returns-in-Ok-clause-ok : goal.returns-in-Ok-clause-ok
returns-in-Ok-clause-ok c =
    IfOk-weaker c.transcribe-text.result _ (λ text. IsTranscript (lines_as c.args.form) c.args.setup c.args.events.now text.items)
    (λ text played. record {
      first = c.in-Ok.server;
      new = c.in-Ok.ensures;
      outputs = played.0;
      last = c.transcribe-text.new.server;
      happens = played.2;
      reports = played.1;
      reported = played.4;
      whole = played.3;
    })
    c.transcribe-text.ensures.ok
