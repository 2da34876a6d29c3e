-- Each step keeps the rule of the channel.
use Rattle.std.proofs.Common.{◌≡◌, ℕ, zero, suc, ◌+◌, ◌-◌, ◌≤◌, List, [], ◌∷◌, ◌++◌, set, refl, sym, ap, subst, ◌∙◌, ⊎_elim, arith, append_assoc, append-nil}
use Rattle.std.specs.Prelude.{sum_by}
use Rattle.std.proofs.lemmas.List.Sums.{sum_by_push, sum_by-cons}
use mathlib.Core.Option.{some, some-injective, some-ne-none}
use lib.ListN.{get_elem?}
use Rattle.crossbeam_channel.specs.Fifo.{Pushes, Pops, Forks, Merges, Learns}
use Rattle.atomic_table.proofs.Lists.{at_set, at_snoc, set_else}
use Rattle.conn_channel.specs.declared.sent.Sent.{Sent}
use Rattle.conn_channel.specs.declared.sent.Sent.TheVariants.{Connection, EndMark}
use Rattle.conn_channel.specs.declared.view.PassView.{PassView}
use Rattle.conn_channel.specs.Interleavings.{IsInterleaving}
use Rattle.conn_channel.specs.Rule.{first_pass_view, receiving_pass_view, no_pass_view, joined, connections_in, end_marks_in, end_marks_in_one, received_lists, Conserves, IsWithinRights, KnowsAll, MaySend, MayReceive, sending, receiving, longer}
use Rattle.conn_channel.proofs.Sums.{sum_at, only, no_other, some_left, connections_push, connections_mark, ordered_connection, ordered_mark, ordered_rest}
use Rattle.conn_channel.proofs.Interleavings.{rearranged, one_more, none_behind, back}
use Rattle.conn_channel.proofs.Views.{without, first_of, first_of_new, same_lists, lists_push, joins_lists, no_lists}

module _ {T : Type 0} where
  abbrev mark : Sent T
  mark = EndMark

  abbrev parts_of : PassView T → ℕ
  parts_of v = v.parts

  abbrev sends_of : PassView T → ℕ
  sends_of v = v.sends

  abbrev marks_sent_of : PassView T → ℕ
  marks_sent_of v = v.end_marks_sent

  abbrev marks_received_of : PassView T → ℕ
  marks_received_of v = v.end_marks_received

  abbrev Rights : List (PassView T) → Type 0
  Rights views = (pass : ℕ) (v : PassView T) → get_elem? views pass ≡ some v → IsWithinRights v

  -- who sends knows that this was sent
  abbrev Sent_is : List (PassView T) → List T → Type 0
  Sent_is views all = (pass : ℕ) (v : PassView T) → get_elem? views pass ≡ some v → v.sends ≡ 1 → v.sent ≡ all

  rights_set : (views : List (PassView T)) (pass : ℕ) (w : PassView T) → IsWithinRights w → Rights views → Rights (set views pass w)
  rights_set views pass w own rights j u e = ⊎_elim (λ t. subst IsWithinRights t.1 own) (λ t. rights j u t.1) (at_set views pass j w u e)

  sent_set : (views : List (PassView T)) (pass : ℕ) (w : PassView T) (all : List T) → (w.sends ≡ 1 → w.sent ≡ all) → Sent_is views all → Sent_is (set views pass w) all
  sent_set views pass w all own others j u e right =
      ⊎_elim (λ t. subst (λ (x : PassView T). x.sends ≡ 1 → x.sent ≡ all) t.1 own right) (λ t. others j u t.1 right) (at_set views pass j w u e)

  -- where this pass sends, no other does
  sent_alone : (items : List (Sent T)) (views : List (PassView T)) (pass : ℕ) (v w : PassView T) (all : List T) → Conserves items views → get_elem? views pass ≡ some v → v.sends ≡ 1 → w.sent ≡ all
      → Sent_is (set views pass w) all
  sent_alone items views pass v w all h at right own j u e sends =
      ⊎_elim (λ t. subst (λ (x : PassView T). x.sent ≡ all) t.1 own)
      (λ t.
      let zero_of = no_other sends_of views pass v no_pass_view at (omega (arith, right, h.sends)) refl j u (set_else views pass j no_pass_view t.0 ∙ t.1) in
      absurd (omega (arith, zero_of, sends)))
      (at_set views pass j w u e)

  -- who may send and has a part is within rights, whatever it sent
  sender_rights : (w : PassView T) → 1 ≤ w.parts → w.sends ≡ 1 → IsWithinRights w
  sender_rights w part right = record { no_part = λ none. absurd (omega (arith, part, none)); no_right = λ none. absurd (omega (arith, right, none)) }

  -- the one who sends made all end marks
  marks_of_sender : (items : List (Sent T)) (views : List (PassView T)) (pass : ℕ) (v : PassView T) → Conserves items views → get_elem? views pass ≡ some v → v.sends ≡ 1
      → sum_by marks_sent_of views ≡ v.end_marks_sent
  marks_of_sender items views pass v h at right =
      only marks_sent_of sends_of views pass v at (omega (arith, right, h.sends)) (λ j u e none. (h.rights j u e).no_right none)

  pub begins : Conserves {T = T} [] (first_pass_view ∷ [])
  begins = record { parts = refl; sends = refl; rights = rights; past = []; received = none; sent = sent; end_marks = refl; ordered = tt; last = λ some. refl }
    where
      rights : Rights (first_pass_view ∷ [])
      rights zero v at = subst IsWithinRights (some-injective first_pass_view v at) (sender_rights first_pass_view (omega arith) refl)
      rights (suc pass) v at = absurd (some-ne-none v (sym at))

      none : IsInterleaving {T = T} [] []
      none i l at = absurd (some-ne-none l (sym at))

      sent : Sent_is (first_pass_view ∷ []) []
      sent zero v at right = ap (λ (x : PassView T). x.sent) (sym (some-injective first_pass_view v at))
      sent (suc pass) v at right = absurd (some-ne-none v (sym at))

  pub sends : (n pass : ℕ) (v : PassView T) (x : Sent T) → 1 ≤ v.parts → v.sends ≡ 1 → MaySend v x → Pushes Conserves n pass v x (λ w. w ≡ sending v x)
  sends n pass v (Connection x) part right may items views room h at =
      let w : PassView T = sending v (Connection x) in
      let marked = marks_of_sender items views pass v h at right in
      let no_marks : end_marks_in items ≡ 0 = omega (arith, h.end_marks, marked, may) in
      let no_ends : sum_by marks_received_of views ≡ 0 = omega (arith, h.end_marks, marked, may) in
      let all : v.sent ++ x ∷ [] ≡ h.past ++ connections_in (items ++ Connection x ∷ []) =
      ap (λ l. l ++ x ∷ []) (h.sent pass v at right) ∙ append_assoc h.past (connections_in items) (x ∷ []) ∙ ap (λ l. h.past ++ l) (sym (connections_push items x)) in (
        w,
        record {
          parts = omega (arith, sum_at parts_of views pass v w at, h.parts);
          sends = omega (arith, sum_at sends_of views pass v w at, h.sends);
          rights = rights_set views pass w (sender_rights w part right) h.rights;
          past = h.past;
          received = rearranged h.past (received_lists views) (received_lists (set views pass w)) (same_lists views pass v w at refl) h.received;
          sent = sent_alone items views pass v w (h.past ++ connections_in (items ++ Connection x ∷ [])) h at right all;
          end_marks = omega (arith, h.end_marks, sum_by_push end_marks_in_one items (Connection x), sum_at marks_sent_of views pass v w at, sum_at marks_received_of views pass v w at);
          ordered = ordered_connection items x h.ordered no_marks;
          last = λ some. absurd (omega (arith, some, no_ends, sum_at marks_received_of views pass v w at));
        },
        refl,
      )
  sends n pass v EndMark part right may items views room h at =
      let w : PassView T = record v { end_marks_sent = v.end_marks_sent + 1 } in
      let all : h.past ++ connections_in items ≡ h.past ++ connections_in (items ++ mark ∷ []) = ap (λ l. h.past ++ l) (sym (connections_mark items)) in (
        w,
        record {
          parts = omega (arith, sum_at parts_of views pass v w at, h.parts);
          sends = omega (arith, sum_at sends_of views pass v w at, h.sends);
          rights = rights_set views pass w (sender_rights w part right) h.rights;
          past = h.past;
          received = rearranged h.past (received_lists views) (received_lists (set views pass w)) (same_lists views pass v w at refl) h.received;
          sent = sent_alone items views pass v w (h.past ++ connections_in (items ++ mark ∷ [])) h at right (h.sent pass v at right ∙ all);
          end_marks = omega (arith, h.end_marks, sum_by_push end_marks_in_one items mark, sum_at marks_sent_of views pass v w at, sum_at marks_received_of views pass v w at);
          ordered = ordered_mark items h.ordered;
          last = λ some. connections_mark items ∙ h.last (omega (arith, some, sum_at marks_received_of views pass v w at));
        },
        refl,
      )

  -- who has a part is within rights where it was so before and sent no more
  receiver_rights : (v w : PassView T) → 1 ≤ v.parts → IsWithinRights v → w.parts ≡ v.parts → w.sends ≡ v.sends → w.end_marks_sent ≡ v.end_marks_sent → IsWithinRights w
  receiver_rights v w part own parts right marked = record {
    no_part = λ none. absurd (omega (arith, part, parts, none));
    no_right = λ none. let was = own.no_right (omega (arith, right, none)) in omega (arith, marked, was);
  }

  -- the end that received a connection has it in its list
  takes : (past : List T) (views : List (PassView T)) (pass : ℕ) (v : PassView T) (x : T) (list : List T) → v.received ≡ list ∷ [] → get_elem? views pass ≡ some v → IsInterleaving past (received_lists views)
      → IsInterleaving (past ++ x ∷ []) (received_lists (set views pass (receiving v (Connection x))))
  takes past views pass v x list is at h =
      let w : PassView T = receiving v (Connection x) in
      let others = received_lists (without views pass) in
      let here = rearranged past (received_lists views) (v.received ++ others) (first_of views pass v at) h in
      let one : IsInterleaving past (list ∷ others) = subst (λ l. IsInterleaving past (l ++ others)) is here in
      let grown : IsInterleaving (past ++ x ∷ []) (longer v.received x ++ others) =
      subst (λ l. IsInterleaving (past ++ x ∷ []) (longer l x ++ others)) (sym is) (one_more x past list others one) in
      rearranged (past ++ x ∷ []) (w.received ++ others) (received_lists (set views pass w)) (back (received_lists (set views pass w)) (w.received ++ others) (first_of_new views pass v w at)) grown

  pub receives : (pass : ℕ) (v : PassView T) → 1 ≤ v.parts → MayReceive v → Pops (Conserves {T = T}) pass v (λ x w. w ≡ receiving v x)
  receives pass v part may (Connection x) items views h at =
      let w : PassView T = receiving v (Connection x) in
      let all : h.past ++ x ∷ connections_in items ≡ (h.past ++ x ∷ []) ++ connections_in items = sym (append_assoc h.past (x ∷ []) (connections_in items)) in
      let others : Sent_is views ((h.past ++ x ∷ []) ++ connections_in items) = λ j u e right. h.sent j u e right ∙ all in (
        w,
        record {
          parts = omega (arith, sum_at parts_of views pass v w at, h.parts);
          sends = omega (arith, sum_at sends_of views pass v w at, h.sends);
          rights = rights_set views pass w (receiver_rights v w part (h.rights pass v at) refl refl refl) h.rights;
          past = h.past ++ x ∷ [];
          received = takes h.past views pass v x may.0 may.1 at h.received;
          sent = sent_set views pass w ((h.past ++ x ∷ []) ++ connections_in items) (others pass v at) others;
          end_marks = omega (arith, h.end_marks, sum_by-cons end_marks_in_one (Connection x) items, sum_at marks_sent_of views pass v w at, sum_at marks_received_of views pass v w at);
          ordered = ordered_rest (Connection x) items h.ordered;
          last = λ some. absurd (some_left x (connections_in items) (h.last (omega (arith, some, sum_at marks_received_of views pass v w at))));
        },
        refl,
      )
  receives pass v part may EndMark items views h at =
      let w : PassView T = record v { end_marks_received = v.end_marks_received + 1 } in (
        w,
        record {
          parts = omega (arith, sum_at parts_of views pass v w at, h.parts);
          sends = omega (arith, sum_at sends_of views pass v w at, h.sends);
          rights = rights_set views pass w (receiver_rights v w part (h.rights pass v at) refl refl refl) h.rights;
          past = h.past;
          received = rearranged h.past (received_lists views) (received_lists (set views pass w)) (same_lists views pass v w at refl) h.received;
          sent = sent_set views pass w (h.past ++ connections_in items) (h.sent pass v at) h.sent;
          end_marks = omega (arith, h.end_marks, sum_by-cons end_marks_in_one mark items, sum_at marks_sent_of views pass v w at, sum_at marks_received_of views pass v w at);
          ordered = ordered_rest EndMark items h.ordered;
          last = λ some. h.ordered;
        },
        refl,
      )

  pub cuts : (pass : ℕ) (v : PassView T) → 2 ≤ v.parts → Forks (Conserves {T = T}) pass v (record v { parts = v.parts - 1 }) (receiving_pass_view [] 0)
  cuts pass v two items views h at =
      let w : PassView T = record v { parts = v.parts - 1 } in
      let new : PassView T = receiving_pass_view [] 0 in
      let vs : List (PassView T) = set views pass w in
      let own : IsWithinRights w = record { no_part = λ none. absurd (omega (arith, two, none)); no_right = (h.rights pass v at).no_right } in
      let fresh : IsWithinRights new = record { no_part = λ none. absurd (omega (arith, none)); no_right = λ none. refl } in
      let old = rearranged h.past (received_lists views) (received_lists vs) (same_lists views pass v w at refl) h.received in
      let sent = sent_set views pass w (h.past ++ connections_in items) (h.sent pass v at) h.sent in
      record {
        parts = omega (arith, two, sum_at parts_of views pass v w at, h.parts, sum_by_push parts_of vs new);
        sends = omega (arith, sum_at sends_of views pass v w at, h.sends, sum_by_push sends_of vs new);
        rights = λ j u e. ⊎_elim (λ t. rights_set views pass w own h.rights j u t) (λ is. subst IsWithinRights is fresh) (at_snoc vs new u j e);
        past = h.past;
        received = subst (λ l. IsInterleaving h.past l) (sym (lists_push vs new)) (none_behind h.past (received_lists vs) old);
        sent = λ j u e right. ⊎_elim (λ t. sent j u t right) (λ is. absurd (let none : 0 ≡ u.sends = ap sends_of is in omega (arith, none, right))) (at_snoc vs new u j e);
        end_marks = omega (
          arith,
          h.end_marks,
          sum_at marks_sent_of views pass v w at,
          sum_at marks_received_of views pass v w at,
          sum_by_push marks_sent_of vs new,
          sum_by_push marks_received_of vs new,
        );
        ordered = h.ordered;
        last = λ some. h.last (omega (arith, some, sum_at marks_received_of views pass v w at, sum_by_push marks_received_of vs new));
      }

  pub joins : (pass : ℕ) (v : PassView T) (other : ℕ) (w : PassView T) → 1 ≤ v.parts → w.sends ≡ 0 → Merges (Conserves {T = T}) pass v other w (joined v w) no_pass_view
  joins pass v other w part no_right items views h at apart at' =
      let all : PassView T = joined v w in
      let none : PassView T = no_pass_view in
      let vs : List (PassView T) = set views pass all in
      let was : get_elem? views other ≡ some w = ⊎_elim (λ t. absurd (apart t.0)) (λ t. t.1) (at_set views pass other all w at') in
      let no_marks = (h.rights other w was).no_right no_right in
      let own : IsWithinRights all = record { no_part = λ no_part. absurd (omega (arith, part, no_part)); no_right = (h.rights pass v at).no_right } in
      let empty : IsWithinRights none = record { no_part = λ no_part. (refl, refl); no_right = λ no_right. refl } in
      let sent = h.past ++ connections_in items in
      record {
        parts = omega (arith, h.parts, sum_at parts_of views pass v all at, sum_at parts_of vs other w none at');
        sends = omega (arith, no_right, h.sends, sum_at sends_of views pass v all at, sum_at sends_of vs other w none at');
        rights = rights_set vs other none empty (rights_set views pass all own h.rights);
        past = h.past;
        received = rearranged h.past (received_lists views) (received_lists (set vs other none)) (joins_lists views pass other v w at was apart) h.received;
        sent = sent_set vs other none sent (λ right. absurd (omega (arith, right))) (sent_set views pass all sent (h.sent pass v at) h.sent);
        end_marks = omega (
          arith,
          no_marks,
          h.end_marks,
          sum_at marks_sent_of views pass v all at,
          sum_at marks_sent_of vs other w none at',
          sum_at marks_received_of views pass v all at,
          sum_at marks_received_of vs other w none at',
        );
        ordered = h.ordered;
        last = λ some. h.last (omega (arith, some, sum_at marks_received_of views pass v all at, sum_at marks_received_of vs other w none at'));
      }

  pub learns : (pass : ℕ) (v : PassView T) → v.parts ≡ 128 → v.sends ≡ 1 → Learns (Conserves {T = T}) pass v (KnowsAll v)
  learns pass v all right items views h at =
      let whole : sum_by parts_of views ≡ v.parts = omega (arith, all, h.parts) in
      let ended = only marks_received_of parts_of views pass v at whole (λ j u e none. ((h.rights j u e).no_part none).1) in
      let marked = marks_of_sender items views pass v h at right in
      let idle : IsWithinRights {T = T} no_pass_view = record { no_part = λ no_part. (refl, refl); no_right = λ no_right. refl } in
      let no_lists_else : received_lists (without views pass) ≡ [] =
      no_lists (without views pass) (λ j u e. ((rights_set views pass no_pass_view idle h.rights j u e).no_part (no_other parts_of views pass v no_pass_view at whole refl j u e)).0) in
      let own = rearranged h.past (received_lists views) (v.received ++ received_lists (without views pass)) (first_of views pass v at) h.received in
      record {
        past = h.past;
        received = subst (λ l. IsInterleaving h.past l) (ap (λ l. v.received ++ l) no_lists_else ∙ append-nil v.received) own;
        sent = h.sent pass v at right;
        end_marks = omega (arith, ended, marked, h.end_marks);
        last = λ some. h.last (omega (arith, ended, some));
      }
