-- None of those before is too long.
use Rattle.std.proofs.Common.{◌≡◌, drop}
use Rattle.std.specs.List.{list_any}
use Rattle.member_window.specs.Contents.{held_of}
use Rattle.conn_rules.specs.HandOuts.{is_message_too_long}
use Rattle.conn_engine.specs.Connecting.{holds_message_too_long}
use Rattle.conn_engine.proofs.connecting.holds_message_too_long.Given as goal

abbrev pub invariant-held : goal.invariant-held
invariant-held l =
    holds_message_too_long l.terms.maximum_packet_size l.window
    ≡ list_any (λ entry. is_message_too_long l.terms.maximum_packet_size entry.1.subscription entry.1.message) (drop l.place (held_of l.window))
