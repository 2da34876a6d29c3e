-- A session with another window, another membership or another Subscription Identifier.
use Rattle.std.specs.Prelude.{ℕ, Option}
use Rattle.member_window.specs.Contents.{Contents}
use Rattle.session_desk.specs.declared.session.Session.{Session}
use Rattle.session_desk.specs.declared.session.Membership.{Membership}

abbrev pub with_window : {E P : Type 0} → Session E P → Contents E → Session E P
with_window session window = record { identity = session.identity; expiry = session.expiry; window = window; membership = session.membership; subscription = session.subscription }

abbrev pub with_membership : {E P : Type 0} → Session E P → Membership P → Session E P
with_membership session membership = record { identity = session.identity; expiry = session.expiry; window = session.window; membership = membership; subscription = session.subscription }

abbrev pub with_subscription : {E P : Type 0} → Session E P → Option ℕ → Session E P
with_subscription session subscription =
    record { identity = session.identity; expiry = session.expiry; window = session.window; membership = session.membership; subscription = subscription }
