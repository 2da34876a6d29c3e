-- What a step of its pass makes of a port.
use Rattle.std.proofs.Common.{◌≡◌, ◌≢◌, ℕ, ◌+◌, [], ◌∷◌, ◌++◌, length, sym, ap, ◌∙◌, subst, arith, length-append}
use Rattle.crossbeam_queue.specs.Fifo.{Held}
use Rattle.crossbeam_queue.specs.Passes.{Pass, view}
use Rattle.group_jobs.specs.declared.message.Message.{Message}
use Rattle.group_queue.specs.declared.posted.Posted.{Posted}
use Rattle.group_queue.specs.declared.view.Name.{Name}
use Rattle.group_queue.specs.declared.view.Name.TheVariants.{Port}
use Rattle.group_queue.specs.declared.view.View.{View}
use Rattle.group_queue.specs.Views.{one, list_in, grown, IsOf}
use Rattle.group_queue.specs.Past.{Stands, Adds}
use Rattle.group_queue.specs.Ports.{PortState}
use Rattle.group_queue.specs.Senders.{sent_by, IsCounted}
use Rattle.group_queue.specs.Offers.{Accepts}

abbrev pub Sender : Type 0
Sender = Pass Posted View

-- a view of one name that grew is one of that name
pub list-grown : (name : Name) (v w : View) (x : Posted) → IsOf name v → w ≡ grown v x → list_in w ≡ list_in v ++ x ∷ []
list-grown name v w x of is = ap list_in (is ∙ ap (λ u. grown u x) of)

pub of-grown : (name : Name) (v w : View) (x : Posted) → IsOf name v → w ≡ grown v x → IsOf name w
of-grown name v w x of is = (is ∙ ap (λ u. grown u x) of) ∙ ap (one name) (sym (list-grown name v w x of is))

abbrev pub port_at : ℕ → ℕ → ℕ → Sender → PortState
port_at group number accepted sender = record { group = group; number = number; accepted = accepted; sent = sent_by sender; queue = sender.table_id }

module _ (group number accepted : ℕ) (s t : Sender) (message : Message) (h : IsCounted number accepted s)
    (adds : Adds (view s) (record { job = record { port = number; number = accepted }; message = message }) (view t)) where
  pub keeps_sender : t.me.1 ≡ [] → accepted ≢ 1099511627776 → IsCounted number (accepted + 1) t
  keeps_sender bare few =
      let grew = list-grown (Port number) (view s) (view t) (record { job = record { port = number; number = accepted }; message = message }) h.sender_is.of adds.is in
      let most = h.few in
      record {
        few = omega arith;
        sender_is = record { of = of-grown (Port number) (view s) (view t) (record { job = record { port = number; number = accepted }; message = message }) h.sender_is.of adds.is; bare = bare };
        many = rw grew (omega (arith, length-append (list_in (view s)) ((record { job = record { port = number; number = accepted }; message = message }) ∷ []), h.many));
      }

  pub accepts : t.table_id ≡ s.table_id → accepted ≢ 1099511627776
      → Accepts (port_at group number accepted s) message (record { group = group; port = number; number = accepted }) (port_at group number (accepted + 1) t)
  accepts table few = record {
    stamp_is = λ i. record { group = group; port = number; number = len i };
    few = few;
    back = subst (λ (q : View × ℕ × View). Adds q.0 (record { job = record { port = number; number = q.1 }; message = message }) q.2)
        (λ i. (h.sender_is.of i, len i, of-grown (Port number) (view s) (view t) (record { job = record { port = number; number = accepted }; message = message }) h.sender_is.of adds.is i)) adds;
    is = λ i. record { group = group; number = number; accepted = accepted + 1; sent = grew i; queue = table i };
  }
    where
      len : accepted ≡ length (list_in (view s))
      len = sym h.many

      grew : list_in (view t) ≡ list_in (view s) ++ record { job = record { port = number; number = length (list_in (view s)) }; message = message } ∷ []
      grew = list-grown (Port number) (view s) (view t) (record { job = record { port = number; number = accepted }; message = message }) h.sender_is.of adds.is ∙ ap (λ n. list_in (view s) ++ record { job = record { port = number; number = n }; message = message } ∷ []) len

-- a port whose pass learned something is as it was
pub refuses : (group number accepted : ℕ) (s t : Sender) (capacity : ℕ) → IsCounted number accepted s
    → t.table_id ≡ s.table_id → view t ≡ view s → Held capacity (Stands (view s))
    → (port_at group number accepted t ≡ port_at group number accepted s) × Held capacity (Stands (one (Port number) (sent_by s)))
refuses group number accepted s t capacity h table same held = (
  (λ i. record { group = group; number = number; accepted = accepted; sent = list_in (same i); queue = table i }),
  (held.0, held.1, subst (λ v. Stands v held.0) h.sender_is.of held.2),
)

pub keeps_tie : (number accepted : ℕ) (s t : Sender) → IsCounted number accepted s → view t ≡ view s → t.me.1 ≡ [] → IsCounted number accepted t
keeps_tie number accepted s t h same bare = record {
  few = h.few;
  sender_is = record { of = subst (IsOf (Port number)) (sym same) h.sender_is.of; bare = bare };
  many = ap (λ v. length (list_in v)) same ∙ h.many;
}
