-- What a step adds to the transcript of its connection's session: what the input makes of it, and then what is handed out.
use Rattle.std.proofs.Common.{◌≡◌, ℕ, List, [], ◌∷◌, ◌++◌, Option, Some, None, refl, sym, ap, subst, ◌∙◌, append-nil, inl, inr}
use Rattle.std.specs.List.{AllByRecursion}
use Rattle.std.specs.Option.{option_to_list}
use Rattle.std.proofs.lemmas.List.Elements.{filter_map-append}
use Rattle.mqtt_packet.specs.declared.packet.Packet.{Packet}
use Rattle.group_jobs.specs.declared.fate.Fate.{Fate}
use Rattle.group_jobs.specs.Stamps.{Held}
use Rattle.member_window.specs.Contents.{Contents, after_up}
use Rattle.member_window.specs.Marks.{Mark, Up}
use Rattle.member_window.specs.Calls.{Call}
use Rattle.member_window.specs.Runs.{transcript_of}
use Rattle.member_window.specs.Runs as windows
use Rattle.member_window.proofs.Law.{made_append, transcript_append}
use Rattle.session_desk.specs.declared.session.Membership.{Membership}
use Rattle.conn_supply.specs.declared.reply.Then.{Then}
use Rattle.conn_supply.specs.SupplyCalls.{SupplyCall}
use Rattle.conn_engine.specs.declared.input.Input.{Input}
use Rattle.conn_engine.specs.declared.phase.ConnectedClient.{ConnectedClient}
use Rattle.conn_engine.specs.declared.phase.ConnPhase.{ConnPhase}
use Rattle.conn_engine.specs.declared.phase.ConnPhase.TheVariants.{Unconnected, Waiting, Connected, Ended}
use Rattle.conn_engine.specs.Step.{after_hand_out, hand_out_terms, Hands, Steps}
use Rattle.conn_laws.specs.Calls.{settlement_of, hand_out_of, settled, discards_of, AreSentIfFit, MakesAll}
use Rattle.conn_laws.specs.Marks.{as_publish, publishes_in, publish_of, publishes_of, fresh_in, fresh_of, acknowledged_in, acknowledged_of, IsWithin}
use Rattle.conn_laws.specs.Transcripts.{connected_of, IsNotEnding, IsAside, LeadsAside, SessionSteps, Transcribes}
use Rattle.conn_laws.proofs.Aside.{all_of_both, joins}
use Rattle.conn_laws.proofs.HandingOut.{all_discarded, discarded_in, Handed, handed_out}
use Rattle.conn_laws.proofs.Reacting.{SettlesAs, SessionStepped, reacted}
use Rattle.conn_laws.proofs.Replying.{replied}

-- the calls of a window, and of the one that comes of it
within_both : (these those : List (Call Held)) → AllByRecursion IsWithin (transcript_of these) → AllByRecursion IsWithin (transcript_of those)
    → AllByRecursion IsWithin (transcript_of (these ++ those))
within_both these those within more = subst (AllByRecursion IsWithin) (sym (transcript_append these those)) (all_of_both IsWithin (transcript_of these) (transcript_of those) within more)

-- nothing more is acknowledged
none_more : (marks more : List (Mark Held)) (acked : List (ℕ × ℕ)) → acknowledged_of marks ≡ acked → acknowledged_of more ≡ [] → acknowledged_of (marks ++ more) ≡ acked
none_more marks more acked these none = filter_map-append acknowledged_in marks more ∙ (λ i. these i ++ none i) ∙ append-nil acked

module _ {S P : Type 0} (call : S → SupplyCall P → S → Type 0) where
  leads_on : (old mid new : S) → LeadsAside call old mid → LeadsAside call mid new → LeadsAside call old new
  leads_on old mid new these those =
      record {
        supply_calls = these.supply_calls ++ those.supply_calls;
        made = joins call these.supply_calls those.supply_calls old mid new these.made those.made;
        aside = all_of_both IsAside these.supply_calls those.supply_calls these.aside those.aside;
      }

  -- the session of a connection that begins or goes on, with what its window does after that
  session_steps_on : (before : Option (ConnectedClient P)) (old mid new : S) (number : ℕ) (connected : ConnectedClient P) (membership : Membership P) (window : Contents Held) (marks : List (Mark Held))
      (calls : List (Call Held)) → SessionSteps call old number before (Some connected) marks mid → LeadsAside call mid new → windows.MakesAll connected.session.window calls window
      → AllByRecursion IsWithin (transcript_of calls) → SessionSteps call old number before (Some (after_hand_out connected membership window)) (marks ++ transcript_of calls) new
  session_steps_on None old mid new number connected membership window marks calls begins later made within =
      record {
        answer = begins.answer;
        session = begins.session;
        mid = begins.mid;
        asks = begins.asks;
        given = begins.given;
        aside = leads_on begins.mid mid new begins.aside later;
        same = begins.same;
        calls = begins.calls ++ calls;
        made = made_append (after_up begins.session.window connected.terms.receive_maximum) connected.session.window window begins.calls calls begins.made made;
        marks_are =
            ap (λ (ms : List (Mark Held)). ms ++ transcript_of calls) begins.marks_are
            ∙ ap (λ (ms : List (Mark Held)). Up connected.terms.receive_maximum ∷ ms) (sym (transcript_append begins.calls calls));
        within = within_both begins.calls calls begins.within within;
      }
  session_steps_on (Some earlier) old mid new number connected membership window marks calls goes later made within =
      record {
        aside = leads_on old mid new goes.aside later;
        same = goes.same;
        calls = goes.calls ++ calls;
        made = made_append earlier.session.window connected.session.window window goes.calls calls goes.made made;
        marks_are = ap (λ (ms : List (Mark Held)). ms ++ transcript_of calls) goes.marks_are ∙ sym (transcript_append goes.calls calls);
        within = all_of_both IsWithin marks (transcript_of calls) goes.within within;
      }

  -- these are discarded after it, and nothing is acknowledged
  settles_on : (phase : ConnPhase P) (input : Input) (next : Then) (marks more : List (Mark Held)) (supply_calls others : List (SupplyCall P)) (discards : List (Held × Fate))
      → SettlesAs call phase input next marks supply_calls [] → acknowledged_of more ≡ [] → settled others ≡ discards → SettlesAs call phase input next (marks ++ more) (supply_calls ++ others) discards
  settles_on phase input next marks more supply_calls others discards (inl only) none_acked discarded =
      let one = only.0 in
      inl (
        record {
          envelope = one.envelope;
          fate = one.fate;
          confirmed = one.confirmed;
          settles = filter_map-append settlement_of supply_calls others ∙ (λ i. one.settles i ++ discarded i);
        },
        (only.1.0, none_more marks more _ only.1.1 none_acked, only.1.2),
      )
  settles_on phase input next marks more supply_calls others discards (inr none) none_acked discarded =
      inr (
        record { settles = filter_map-append settlement_of supply_calls others ∙ (λ i. none.0.settles i ++ discarded i); unless = none.0.unless },
        none_more marks more _ none.1 none_acked,
      )

  -- of nothing that is handed out all is fit
  none_fit : (phase : ConnPhase P) (now : ℕ) → AreSentIfFit phase now []
  none_fit (Unconnected opened) now = refl
  none_fit (Waiting request ticks) now = refl
  none_fit (Connected connected) now = tt
  none_fit Ended now = refl

  -- what is discarded where messages go out after an answer
  abbrev pub discarded_by : (slot_of : P → ℕ) (between : ConnPhase P) (now : ℕ) (old new : S) (sent : List Packet) (phase : ConnPhase P) → Hands call slot_of old between now sent phase new → List Held
  discarded_by slot_of (Unconnected opened) now old new sent phase hands = []
  discarded_by slot_of (Waiting request ticks) now old new sent phase hands = []
  discarded_by slot_of (Connected connected) now old new sent phase hands =
      let out = hands.2 in discarded_in call (hand_out_terms connected now) connected.session.membership old new out.between out.fresh hands.0 hands.1 out.sent_fresh
  discarded_by slot_of Ended now old new sent phase hands = []

  -- the calls of the answer, before anything is handed out, by which what is acknowledged is settled
  pub record RepliesFirst (old : S) (phase : ConnPhase P) (input : Input) (next : Then) (marks : List (Mark Held)) (mid : S) : Type 0 where
    pub supply_calls : List (SupplyCall P)
    pub made : MakesAll call old supply_calls mid
    pub settles : SettlesAs call phase input next marks supply_calls []

  -- a step whose answer comes that far, and in which these are discarded after it
  pub record TranscribesWith (discarded : List Held) (mid : S) (old : S) (number : ℕ) (phase : ConnPhase P) (now : ℕ) (input : Input) (sent : List Packet) (next : Then) (phase' : ConnPhase P) (new : S) : Type 0 where
    pub step : Transcribes call old number phase now input sent next phase' new
    pub discards : discards_of step.outcomes ≡ all_discarded discarded
    pub replies : RepliesFirst old phase input next step.marks mid

  -- nothing is handed out
  hands_none : (old new : S) (number : ℕ) (phase : ConnPhase P) (now : ℕ) (input : Input) (next : Then) (phase' : ConnPhase P) → SessionStepped call old number phase input next phase' new
      → TranscribesWith [] new old number phase now input [] next phase' new
  hands_none old new number phase now input next phase' turned =
      record {
        step = record {
          marks = turned.marks;
          session = turned.session;
          publishes = sym (turned.no_publish now);
          supply_calls = turned.supply_calls;
          made = turned.made;
          outcomes = [];
          handed_out = turned.hands;
          fit = none_fit phase' now;
          hands = sym turned.none_fresh;
          own = λ of keeps. tt;
          settles = turned.settles;
        };
        discards = refl;
        replies = record { supply_calls = turned.supply_calls; made = turned.made; settles = turned.settles };
      }

  -- and where the phase, the packets and the supply are what they were
  stays : (old mid new : S) (number : ℕ) (phase : ConnPhase P) (now : ℕ) (input : Input) (sent : List Packet) (next : Then) (between phase' : ConnPhase P)
      → SessionStepped call old number phase input next between mid → sent ≡ [] → phase' ≡ between → new ≡ mid → TranscribesWith [] mid old number phase now input sent next phase' new
  stays old mid new number phase now input sent next between phase' turned none is same =
      subst (λ packets. TranscribesWith [] mid old number phase now input packets next phase' new) (sym none)
      (subst (λ s. TranscribesWith [] mid old number phase now input [] next s new) (sym is)
      (subst (λ s. TranscribesWith [] mid old number phase now input [] next between s) (sym same) (hands_none old mid number phase now input next between turned)))

  -- this is handed out
  hands : {places : List P} (discarded : List Held) (old mid new : S) (number : ℕ) (phase : ConnPhase P) (now : ℕ) (input : Input) (sent : List Packet) (next : Then) (connected : ConnectedClient P) (membership : Membership P)
      (window : Contents Held) → SessionStepped call old number phase input next (Connected connected) mid → Handed call (hand_out_terms connected now) discarded mid places connected.session.window sent membership window new
      → TranscribesWith discarded mid old number phase now input sent next (Connected (after_hand_out connected membership window)) new
  hands discarded old mid new number phase now input sent next connected membership window turned out =
      let more : List (Mark Held) = transcript_of out.sends.calls in
      record {
        step = record {
          marks = turned.marks ++ more;
          session =
              session_steps_on (connected_of phase) old mid new number connected membership window turned.marks out.sends.calls turned.session
              (record { supply_calls = out.calls.supply_calls; made = out.calls.made; aside = out.calls.aside }) out.sends.made out.sends.within;
          publishes = out.sends.publishes ∙ sym (filter_map-append (publish_of now) turned.marks more ∙ ap (λ (ps : List Packet). ps ++ publishes_of now more) (turned.no_publish now));
          supply_calls = turned.supply_calls ++ out.calls.supply_calls;
          made = joins call turned.supply_calls out.calls.supply_calls old mid new turned.made out.calls.made;
          outcomes = out.outcomes;
          handed_out = filter_map-append hand_out_of turned.supply_calls out.calls.supply_calls ∙ (λ i. turned.hands i ++ out.calls.hands i);
          fit = out.fit;
          hands =
              out.sends.fresh_are
              ∙ sym (filter_map-append fresh_in turned.marks more ∙ ap (λ (items : List Held). items ++ fresh_of more) turned.none_fresh);
          own = out.own;
          settles = settles_on phase input next turned.marks more turned.supply_calls out.calls.supply_calls (discards_of out.outcomes) turned.settles out.sends.none_acked out.calls.settles;
        };
        discards = out.discards;
        replies = record {
          supply_calls = turned.supply_calls ++ [];
          made = subst (λ (l : List (SupplyCall P)). MakesAll call old l mid) (sym (append-nil turned.supply_calls)) turned.made;
          settles = settles_on phase input next turned.marks more turned.supply_calls [] [] turned.settles out.sends.none_acked refl;
        };
      }

  module _ (slot_of : P → ℕ) where
    handed_behind : (between : ConnPhase P) (old mid new : S) (number : ℕ) (phase : ConnPhase P) (now : ℕ) (input : Input) (sent : List Packet) (next : Then) (phase' : ConnPhase P)
        → SessionStepped call old number phase input next between mid → (does : Hands call slot_of mid between now sent phase' new)
        → TranscribesWith (discarded_by slot_of between now mid new sent phase' does) mid old number phase now input sent next phase' new
    handed_behind (Unconnected opened) old mid new number phase now input sent next phase' turned does = stays old mid new number phase now input sent next _ phase' turned does.0 does.1 does.2
    handed_behind (Waiting request ticks) old mid new number phase now input sent next phase' turned does = stays old mid new number phase now input sent next _ phase' turned does.0 does.1 does.2
    handed_behind (Connected connected) old mid new number phase now input sent next phase' turned does =
        let out = does.2 in
        let discarded = discarded_in call (hand_out_terms connected now) connected.session.membership mid new out.between out.fresh does.0 does.1 out.sent_fresh in
        subst (λ s. TranscribesWith discarded mid old number phase now input sent next s new) (sym does.3)
        (hands discarded old mid new number phase now input sent next connected does.0 does.1 turned
        (handed_out call (hand_out_terms connected now) mid new connected.session.membership connected.session.window sent does.0 does.1 does.2))
    handed_behind Ended old mid new number phase now input sent next phase' turned does = stays old mid new number phase now input sent next _ phase' turned does.0 does.1 does.2

    pub transcribed_with : (old new : S) (number now : ℕ) (phase phase' : ConnPhase P) (input : Input) (packets : List Packet) (next : Then)
        (steps : Steps call slot_of old number phase now input packets next phase' new) → IsNotEnding phase
        → TranscribesWith (discarded_by slot_of steps.between now steps.mid new steps.sent phase' steps.hands) steps.mid old number phase now input packets next phase' new
    transcribed_with old new number now phase phase' input packets next steps sound =
        let turned =
        subst (λ (n : Then). SessionStepped call old number phase input n steps.between steps.mid) (sym steps.followed)
        (reacted call slot_of phase input old steps.mid number now steps.between steps.reply sound steps.reacts) in
        let both = handed_behind steps.between old steps.mid new number phase now input steps.sent next phase' turned steps.hands in
        let all = both.step in
        record {
          step = record {
            marks = all.marks;
            session = all.session;
            publishes =
                ap publishes_in steps.written ∙ filter_map-append as_publish (option_to_list steps.reply.packet) steps.sent
                ∙ ap (λ (ps : List Packet). ps ++ publishes_in steps.sent) (replied call slot_of phase input old steps.mid number now steps.between steps.reply steps.reacts)
                ∙ all.publishes;
            supply_calls = all.supply_calls;
            made = all.made;
            outcomes = all.outcomes;
            handed_out = all.handed_out;
            fit = all.fit;
            hands = all.hands;
            own = all.own;
            settles = all.settles;
          };
          discards = both.discards;
          replies = both.replies;
        }

    pub transcribed : (old new : S) (number now : ℕ) (phase phase' : ConnPhase P) (input : Input) (packets : List Packet) (next : Then)
        → Steps call slot_of old number phase now input packets next phase' new → IsNotEnding phase → Transcribes call old number phase now input packets next phase' new
    transcribed old new number now phase phase' input packets next steps sound = (transcribed_with old new number now phase phase' input packets next steps sound).step
