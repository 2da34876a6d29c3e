-- What the run of a client's stream wrote is the output for its input.
use Rattle.std.proofs.Common.{◌≡◌, ◌≤◌, ℕ, List, length, subst}
use Rattle.std.proofs.lemmas.Option.{IfSome_then}
use Rattle.std.proofs.lemmas.Result.{on_ok_weaker}
use Rattle.mqtt_topic.specs.Names.{Share}
use Rattle.conn_rules.specs.Setups.{most_capacity}
use Rattle.solo_output.proofs.Brokers.{FitsBroker}
use Rattle.solo_output.proofs.Streams.{bad_lines}
use Rattle.solo_output.proofs.Output.{written, begun}
use Rattle.solo_output.proofs.run.solo.Goals as goal

fits_of : (shares groups : List Share) (number capacity : ℕ) → shares ≡ groups → length shares ≤ 8 → number ≡ capacity → number ≤ most_capacity → FitsBroker capacity groups
fits_of shares groups number capacity are few is small =
    record { few = subst (λ (those : List Share). length those ≤ 8) are few; small = subst (λ (n : ℕ). n ≤ most_capacity) is small }

pub returns-clause-ended : goal.returns-clause-ended
returns-clause-ended g c =
    let fits = fits_of c.shares.result.now c.args.setup.groups c.get.result c.args.setup.capacity c.shares.ensures.value c.shares.ensures.few c.get.ensures.value c.get.ensures.within.1 in
    on_ok_weaker c.drive_client.result
    (λ wrote.
    IfSome_then (g.R.Read.remaining c.args.reader.now) wrote
    (λ input writes. written c.args.setup input (g.W.Write.contents c.args.writer.now) (g.W.Write.contents c.drive_client.new.writer) fits writes))
    c.drive_client.ensures.ended

pub returns-clause-bad_line : goal.returns-clause-bad_line
returns-clause-bad_line g c line is =
    IfSome_then (g.R.Read.remaining c.args.reader.now) (c.drive_client.ensures.bad_line line is) (λ input named. (bad_lines input line).0 named)

pub returns-clause-begun : goal.returns-clause-begun
returns-clause-begun g c fault is =
    let fits = fits_of c.shares.result.now c.args.setup.groups c.get.result c.args.setup.capacity c.shares.ensures.value c.shares.ensures.few c.get.ensures.value c.get.ensures.within.1 in
    IfSome_then (g.R.Read.remaining c.args.reader.now) (c.drive_client.ensures.begun fault is)
    (λ input begins. begun c.args.setup input (g.W.Write.contents c.args.writer.now) (g.W.Write.contents c.drive_client.new.writer) fits begins)
