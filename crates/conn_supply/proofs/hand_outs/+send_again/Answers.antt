-- One message, and then the others.
use Rattle.std.proofs.lemmas.Result.{on_err_weaker}
use Rattle.conn_supply.proofs.Again.{one_more_again}
use Rattle.conn_supply.proofs.hand_outs.+send_again.Goals as goal

pub returns-in-Ok-Some-clause-begun : goal.returns-in-Ok-Some-clause-begun
returns-in-Ok-Some-clause-begun t c =
    let sent = rw c.in-Ok-Some.field-0-is at c.in-Ok-Some.ensures.sent in
    on_err_weaker c.send_again.result
    (λ begun. one_more_again c.args.window.now c.next_again.new.window c.send_again.new.window sent.0 begun.0 sent.1 sent.2 begun.1) c.send_again.ensures.begun
