-- One event more, the text of what is said in it, and that it can be written.
use Rattle.std.proofs.Common.{◌≡◌, ℕ, ◌+◌, ◌<◌, List, [], ◌∷◌, ◌++◌, length, get_or, take, refl, sym, ap, subst, ◌∙◌, Ok}
use Rattle.std.proofs.lemmas.List.{take_more}
use Rattle.std.proofs.lemmas.List.Concat.{flat_map-append}
use Rattle.client_table.specs.Clients.{StepOutput}
use Rattle.local_server.specs.declared.event.TimedEvent.{TimedEvent}
use Rattle.local_server.specs.Servers.{ServerState}
use Rattle.local_server.specs.Happening.{Happens, HappensAll}
use Rattle.conn_rules.specs.declared.setup.Setup.{Setup}
use Rattle.local_server.specs.Servers.{IsNewServer}
use Rattle.local_server.specs.Sizes.{AllWritable}
use Rattle.local_server.proofs.Light.{writable}
use Rattle.local_server.proofs.Runs.{more_happens}
use Rattle.local_server.proofs.Transcripts.{shortness}
use Rattle.std.specs.List.{flat_map}

-- what is told of the events so far
abbrev pub IsTextOf : (StepOutput → List ℕ) → ServerState → List TimedEvent → List ℕ → ServerState → Type 0
IsTextOf lines old events text new = (outputs : List StepOutput) × (text ≡ flat_map lines outputs) × HappensAll old events outputs new

pub nothing_told : (lines : StepOutput → List ℕ) (server : ServerState) (events : List TimedEvent) → IsTextOf lines server (take 0 events) [] server
nothing_told lines server events = ([], refl, (refl, refl))

pub more_told : (lines : StepOutput → List ℕ) (events : List TimedEvent) (index : ℕ) (event : TimedEvent) (old mid new : ServerState) (text text' : List ℕ) (more : List StepOutput)
    → index < length events → event ≡ get_or events index event → IsTextOf lines old (take index events) text mid → Happens mid event.moment event.event more (Ok tt) new → text' ≡ text ++ flat_map lines more
    → IsTextOf lines old (take (index + 1) events) text' new
more_told lines events index event old mid new text text' more within is so_far happens longer = (
  so_far.0 ++ more,
  longer ∙ ap (λ xs. xs ++ flat_map lines more) so_far.1 ∙ sym (flat_map-append lines so_far.0 more),
  subst (λ xs. HappensAll old xs (so_far.0 ++ more) new) (sym (take_more events index event within ∙ ap (λ x. take index events ++ x ∷ []) (sym is)))
      (more_happens (take index events) event old mid new so_far.0 more so_far.2 happens),
)

writable_behind : (earlier more : List StepOutput) → AllWritable (earlier ++ more) → AllWritable more
writable_behind [] more all = all
writable_behind (one ∷ earlier) more all = writable_behind earlier more all.1

-- whatever is said in one event more can be written
pub next_writable : (lines : StepOutput → List ℕ) (setup : Setup) (earlier : List TimedEvent) (first mid : ServerState) (text : List ℕ) → IsNewServer setup first → IsTextOf lines first earlier text mid
    → (event : TimedEvent) (more : List StepOutput) (new : ServerState) → Happens mid event.moment event.event more (Ok tt) new → AllWritable more
next_writable lines setup earlier first mid text is_new so_far event more new happens =
    let run = more_happens earlier event first mid new so_far.0 more so_far.2 happens in
    writable_behind so_far.0 more (writable (so_far.0 ++ more) (shortness setup (earlier ++ event ∷ []) (so_far.0 ++ more) first new is_new run))
