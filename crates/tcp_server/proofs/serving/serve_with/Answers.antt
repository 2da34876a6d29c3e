-- What is written by how the broker ended.
use Rattle.std.proofs.Common.{◌≡◌, Err, inr, sym, ap, subst, ◌∙◌}
use Rattle.std.specs.Io.KnownBytes.{Appends}
use Rattle.text_io.proofs.Failures.{write_failed}
use Rattle.text_io.specs.Passing.{Begins}
use Rattle.tcp_server.specs.Serving.{listening_line, IsServed}
use Rattle.broker_groups.specs.Openings.{named_by}
use Rattle.tcp_server.proofs.Served.{all, begun, of_capacity, opened_with, same_capacity}
use Rattle.tcp_server.proofs.serving.serve_with.Goals as goal

pub returns-clause-written : goal.returns-clause-written
returns-clause-written g c =
    let line : c.as_bytes.result.now ≡ listening_line c.args.listeners.source.port = c.as_bytes.ensures.value ∙ c.in-Ok-line.ensures.ok ∙ ap listening_line c.port-port.ensures in
    let opened = opened_with _ c.args.settings.capacity c.args.settings.workers c.in-Ok-open-2.opened c.in-Ok-open-2.ensures.opened in
    let told = c.in_ok-reported-in-Ok-line.reported in
    let reports = of_capacity told.end (named_by c.in-Ok-open-2.opened.groups.items) c.args.settings.capacity c.args.settings.workers c.args.settings.limits c.args.groups.now told.text.items opened c.in_ok-reported-in-Ok-line.ensures.reported in
    subst (λ error. IsServed (listening_line c.args.listeners.source.port) c.args.settings.capacity c.args.settings.workers c.args.settings.limits c.args.groups.now (Err error) (g.O.Write.contents c.args.output.now) (g.O.Write.contents c.write_all.new.writer))
    (sym (write_failed c.in-Err-write_all.error c.in-Err-write_all.ensures.cause).1)
    (inr (begun (listening_line c.args.listeners.source.port) c.args.settings.capacity c.args.settings.workers c.args.settings.limits c.args.groups.now (g.O.Write.contents c.args.output.now) (g.O.Write.contents c.live.new.output) (g.O.Write.contents c.write_all.new.writer)
    told.text.items reports.reports
    (subst (λ text. Appends (g.O.Write.contents c.args.output.now) (g.O.Write.contents c.live.new.output) text) line c.in_ok-reported-in-Ok-line.ensures.written)
    (subst (λ text. Begins (g.O.Write.contents c.live.new.output) (g.O.Write.contents c.write_all.new.writer) text) c.deref.ensures.value c.in-Err-write_all.ensures.err)))

pub returns-in-Ok-write_all-clause-written : goal.returns-in-Ok-write_all-clause-written
returns-in-Ok-write_all-clause-written g c =
    let line : c.as_bytes.result.now ≡ listening_line c.args.listeners.source.port = c.as_bytes.ensures.value ∙ c.in-Ok-line.ensures.ok ∙ ap listening_line c.port-port.ensures in
    let opened = opened_with _ c.args.settings.capacity c.args.settings.workers c.in-Ok-open-2.opened c.in-Ok-open-2.ensures.opened in
    let told = c.in_ok-reported-in-Ok-line.reported in
    let reports = of_capacity told.end (named_by c.in-Ok-open-2.opened.groups.items) c.args.settings.capacity c.args.settings.workers c.args.settings.limits c.args.groups.now told.text.items opened c.in_ok-reported-in-Ok-line.ensures.reported in
    all (listening_line c.args.listeners.source.port) c.args.settings.capacity c.args.settings.workers c.args.settings.limits c.args.groups.now told.end c.answer_of.result
    (g.O.Write.contents c.args.output.now) (g.O.Write.contents c.live.new.output) (g.O.Write.contents c.write_all.new.writer) told.text.items c.answer_of.ensures.ends reports
    (subst (λ text. Appends (g.O.Write.contents c.args.output.now) (g.O.Write.contents c.live.new.output) text) line c.in_ok-reported-in-Ok-line.ensures.written)
    (subst (λ text. Appends (g.O.Write.contents c.live.new.output) (g.O.Write.contents c.write_all.new.writer) text) c.deref.ensures.value c.in-Ok-write_all.ensures.ok)

pub live-requires-clause-capacity : goal.live-requires-clause-capacity
live-requires-clause-capacity g c _ _ =
    same_capacity (named_by c.in-Ok-open-2.opened.groups.items) c.args.settings.capacity (opened_with _ c.args.settings.capacity c.args.settings.workers c.in-Ok-open-2.opened c.in-Ok-open-2.ensures.opened)
