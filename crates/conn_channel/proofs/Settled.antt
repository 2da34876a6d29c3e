-- What the sender knows that has all ends.
use Rattle.std.proofs.Common.{◌≡◌, ℕ, List, [], ◌∷◌, ◌++◌, length, length-append, refl, sym, ap, subst, ◌∙◌, arith, append-nil}
use Rattle.std.specs.Prelude.{sum_by}
use Rattle.std.proofs.lemmas.List.Sums.{sum_by-cons}
use Rattle.conn_channel.specs.declared.sent.Sent.{Sent}
use Rattle.conn_channel.specs.declared.view.PassView.{PassView}
use Rattle.conn_channel.specs.Interleavings.{IsInterleaving}
use Rattle.conn_channel.specs.Rule.{pass_view, joined, connections_in, end_marks_in, KnowsAll}
use Rattle.conn_channel.specs.Ends.{ReceiverState, SenderState, IsBalanced, IsSettled, lists_of, received_by, end_marks_received_by}
use Rattle.conn_channel.proofs.Interleavings.{as_many}

module _ {T : Type 0} where
  -- the sender with every part knows what became of what it sent
  pub settles : (sender : SenderState T) (n : ℕ) (first v : PassView T) (receivers : List (ReceiverState T)) (items : List (Sent T)) → sender.sent ≡ first.sent → sender.end_marks_sent ≡ first.end_marks_sent
      → first.received ≡ [] → first.end_marks_received ≡ 0 → v ≡ joined first (pass_view n 0 [] 0 (lists_of receivers) (end_marks_received_by receivers)) → KnowsAll v items → IsSettled sender receivers
  settles sender n first v receivers items sent_is marks_are no_lists no_ended all knows =
      let lists : v.received ≡ lists_of receivers = ap (λ (u : PassView T). u.received) all ∙ ap (λ l. lists_of receivers ++ l) no_lists ∙ append-nil (lists_of receivers) in
      let sent = ap (λ (u : PassView T). u.sent) all in
      let marks = ap (λ (u : PassView T). u.end_marks_sent) all in
      let ended = ap (λ (u : PassView T). u.end_marks_received) all in
      record {
        past = knows.past;
        left = connections_in items;
        sent = sent_is ∙ sym sent ∙ knows.sent;
        received = subst (λ l. IsInterleaving knows.past l) lists knows.received;
        last = λ some. knows.last (omega (arith, ended, no_ended, some));
        end_marks_left = end_marks_in items;
        end_marks = omega (arith, marks_are, marks, ended, no_ended, knows.end_marks);
      }

  lengths : (receivers : List (ReceiverState T)) → sum_by length (lists_of receivers) ≡ received_by receivers
  lengths [] = refl
  lengths (receiver ∷ rest) =
      omega (arith, lengths rest, sum_by-cons length receiver.received (lists_of rest), sum_by-cons (λ (r : ReceiverState T). length r.received) receiver rest)

  -- and in numbers
  pub balances : (sender : SenderState T) (receivers : List (ReceiverState T)) → IsSettled sender receivers → IsBalanced (length sender.sent) receivers
  balances sender receivers h =
      let sent : length sender.sent ≡ length (h.past ++ h.left) = ap length h.sent in
      record {
        left = length h.left;
        balance = omega (arith, sent, length-append h.past h.left, as_many h.past (lists_of receivers) h.received, lengths receivers);
        last = λ some. ap length (h.last some);
      }
