use Rattle.std.proofs.Common.{◌++◌, take, drop, Some, ap, ◌∙◌, arith}
use Rattle.scripted_transport.proofs.Copied.{copied}
use Rattle.scripted_transport.proofs.scripted.ScriptedTransport.read.Goals as goal

pub returns-in-Bytes-clause-given : goal.returns-in-Bytes-clause-given
returns-in-Bytes-clause-given c =
    let i = c.self.inside in
    let count = c.in-Bytes.count in
    let rest = drop count c.args.buffer.now in
    let filled = c.copy_from_slice.new.self in
    ap Some
    (copied i.input.items c.deref-in-Bytes.result.now filled rest i.given count (let w = c.in-Bytes.ensures.within.2 in let n = c.len.ensures in let inv = c.self.invariant.0 in omega arith) c.deref-in-Bytes.ensures.value c.copy_from_slice.ensures.after
    ∙ ap (λ s. take s.given s.input ++ take count (filled ++ rest)) c.self.view_is)
