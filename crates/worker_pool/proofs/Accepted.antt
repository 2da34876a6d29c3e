-- What was accepted goes on.
use Rattle.std.proofs.Common.{◌≡◌, ◌≢◌, ◌+◌, List, [], ◌∷◌, ◌++◌, length, Option, Some, None, refl, sym, ap, subst, inl, inr, ◌∙◌, append-nil, append_assoc, length-append, arith}
use Rattle.std.specs.Prelude.{option_map}
use Rattle.transport.specs.declared.answers.Arrival.TheVariants.{Came}
use Rattle.transport.specs.declared.counts.Tally.{Tally}
use Rattle.transport.specs.Counting.{after_arrival, after_came}
use Rattle.conn_channel.specs.Ends.{SenderState}
use Rattle.conn_rules.specs.declared.client_limits.ClientLimits.{ClientLimits}
use Rattle.worker_connections.specs.Arrivals.{ArrivedState}
use Rattle.worker_pool.specs.declared.accepting.SourceEnd.{SourceEnd}
use Rattle.worker_pool.specs.declared.accepting.SourceEnd.TheVariants as ends
use Rattle.worker_pool.specs.Accepting.{AcceptorState, EndedAs, HasAccepted, OnlyMarks, TellsEnd, arrivals}

arrivals-append : {T : Type 0} (limits : ClientLimits) (these those : List T) → arrivals limits (these ++ those) ≡ arrivals limits these ++ arrivals limits those
arrivals-append limits [] those = refl
arrivals-append {T} limits (one ∷ these) those =
    ap (λ (l : List (ArrivedState T)). record { transport = one; limits = limits } ∷ l) (arrivals-append limits these those)

arrivals-length : {T : Type 0} (limits : ClientLimits) (these : List T) → length (arrivals limits these) ≡ length these
arrivals-length limits [] = refl
arrivals-length limits (one ∷ these) = let rest = arrivals-length limits these in omega (arith, rest)

-- where nothing was sent before, what was sent is what came
pub sent_is : {T : Type 0} (came : List T) (first last : List (ArrivedState T)) (limits its : ClientLimits) → first ≡ [] → limits ≡ its → last ≡ first ++ arrivals limits came → last ≡ arrivals its came
sent_is {T} came first last limits its none same sent =
    sent ∙ ap (λ (l : List (ArrivedState T)). l ++ arrivals limits came) none ∙ ap (λ granted. arrivals granted came) same

pub came_count : {T : Type 0} (limits : ClientLimits) (came : List T) (first last : List (ArrivedState T)) → first ≡ [] → last ≡ first ++ arrivals limits came → length last ≡ length came
came_count limits came first last none sent = ap length (sent_is came first last limits limits none refl sent) ∙ arrivals-length limits came

none_given : {T : Type 0} (known : Option (List T)) → known ≡ option_map (λ those. those ++ []) known
none_given None = refl
none_given (Some those) = ap (λ (l : List _). Some l) (sym (append-nil those))

more_given : {T : Type 0} (known : Option (List T)) (these those : List T)
    → option_map (λ all. all ++ those) (option_map (λ all. all ++ these) known) ≡ option_map (λ all. all ++ (these ++ those)) known
more_given None these those = refl
more_given (Some all) these those = ap (λ (l : List _). Some l) (append_assoc all these those)

module _ {T S : Type 0} (tally : S → Tally) (arrived : S → Option (List T)) where
  -- nothing was taken
  pub none : (old new : AcceptorState T S) → new.source ≡ old.source → OnlyMarks old.sender new.sender → new.limits ≡ old.limits
      → HasAccepted tally arrived old new
  none old new source marks limits = record {
    channel = ap (λ (s : SenderState (ArrivedState T)). s.channel) marks;
    receivers = ap (λ (s : SenderState (ArrivedState T)). s.receivers) marks;
    limits = limits;
    came = [];
    sent = ap (λ (s : SenderState (ArrivedState T)). s.sent) marks ∙ sym (append-nil old.sender.sent);
    gave = ap arrived source ∙ none_given (arrived old.source);
    each = omega (arith, ap (λ (s : S). (tally s).arrivals) source);
  }

  -- one came, and was sent
  pub one : (old : AcceptorState T S) (source : S) (sender : SenderState (ArrivedState T)) (transport : T) → tally source ≡ after_arrival (Came transport) (tally old.source)
      → arrived source ≡ after_came (Came transport) (arrived old.source)
      → sender ≡ record old.sender { sent = old.sender.sent ++ record { transport = transport; limits = old.limits } ∷ [] }
      → HasAccepted tally arrived old (record { source = source; sender = sender; limits = old.limits; end = old.end })
  one old source sender transport counted told is = record {
    channel = ap (λ (s : SenderState (ArrivedState T)). s.channel) is;
    receivers = ap (λ (s : SenderState (ArrivedState T)). s.receivers) is;
    limits = refl;
    came = transport ∷ [];
    sent = ap (λ (s : SenderState (ArrivedState T)). s.sent) is;
    gave = told;
    each = ap (λ (t : Tally). t.arrivals) counted;
  }

  -- and after that more
  pub more : (old mid new : AcceptorState T S) → HasAccepted tally arrived old mid → HasAccepted tally arrived mid new → HasAccepted tally arrived old new
  more old mid new one two =
      let theirs : arrivals mid.limits two.came ≡ arrivals old.limits two.came = ap (λ granted. arrivals granted two.came) one.limits in
      record {
        channel = two.channel ∙ one.channel;
        receivers = two.receivers ∙ one.receivers;
        limits = two.limits ∙ one.limits;
        came = one.came ++ two.came;
        sent = two.sent ∙ ap (λ (l : List (ArrivedState T)). l ++ arrivals mid.limits two.came) one.sent
            ∙ append_assoc old.sender.sent (arrivals old.limits one.came) (arrivals mid.limits two.came)
            ∙ ap (λ (l : List (ArrivedState T)). old.sender.sent ++ (arrivals old.limits one.came ++ l)) theirs
            ∙ ap (λ (l : List (ArrivedState T)). old.sender.sent ++ l) (sym (arrivals-append old.limits one.came two.came));
        gave = two.gave ∙ ap (λ known. option_map (λ all. all ++ two.came) known) one.gave ∙ more_given (arrived old.source) one.came two.came;
        each = omega (arith, one.each, two.each, length-append one.came two.came);
      }

  -- it ended so after a while in which it did not fail
  pub after : (end : SourceEnd) (old mid new : S) → end ≢ ends.Untouched → (tally mid).failures ≡ (tally old).failures → EndedAs tally end mid new → EndedAs tally end old new
  after ends.Ended old mid new asked none ended = ended ∙ none
  after ends.Failed old mid new asked none (inl once) = inl (once ∙ ap (λ n. n + 1) none)
  after ends.Failed old mid new asked none (inr limit) = inr (limit.0 ∙ none, limit.1)
  after ends.Untouched old mid new asked none ended = absurd (asked refl)

  -- who tells the same of the same source tells it too
  pub still : (old mid new : AcceptorState T S) → new.source ≡ mid.source → new.end ≡ mid.end → TellsEnd tally old mid → TellsEnd tally old new
  still old mid new source end tells first =
      subst (λ (s : S). EndedAs tally new.end old.source s) (sym source) (subst (λ (e : SourceEnd). EndedAs tally e old.source mid.source) (sym end) (tells first))
