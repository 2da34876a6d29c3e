-- What a connection gets that asks for a session of a client, in each case with its whole condition.
use Rattle.std.specs.Prelude.{◌≡◌, ◌≢◌, ◌⊎◌, ℕ, ◌<◌, Bool, true, List, [], ◌∷◌, Option, Some, None, Result, Ok, Err}
use Rattle.std.specs.FinMap as map
use Rattle.session_desk.specs.declared.attached.Attached.{Attached}
use Rattle.session_desk.specs.declared.attached.Attached.TheVariants.{New, Resumed, Replace, Busy}
use Rattle.session_desk.specs.declared.error.DeskError.{DeskError}
use Rattle.session_desk.specs.declared.error.DeskError.TheVariants as errors
use Rattle.session_desk.specs.declared.newcomers.Newcomers.{Newcomers}
use Rattle.session_desk.specs.declared.session.Session.{Session}
use Rattle.session_desk.specs.declared.row.Row.{Row}
use Rattle.session_desk.specs.declared.row.Holder.{Holder}
use Rattle.session_desk.specs.declared.row.Holder.TheVariants.{Lent, Parked}
use Rattle.session_desk.specs.Sessions.{IsOver}
use Rattle.session_desk.specs.Rows.{HasRow, NoneLivesAs, most_rows}
use Rattle.session_desk.specs.Names.{assigned_name, IsNextName, NoNameLeft}
use Rattle.session_desk.specs.Newcomers.{HasRoom, BeginsFirst, Displaces, Begins}
use Rattle.session_desk.specs.Books.{Books, IsWaiting, new_session, after_new, after_name, after_lend, after_replace, after_end}

-- what a connection asks for: its number, its client's identifier, Clean Start (3.1.2.4), and the moment in milliseconds
pub record Request : Type 0 where
  pub connection : ℕ
  pub client : List ℕ
  pub clean : Bool
  pub now : ℕ

-- what is asked for with these arguments
abbrev pub asked : ℕ → List ℕ → Bool → ℕ → Request
asked connection client clean now = record { connection = connection; client = client; clean = clean; now = now }

-- the client's session, in this row
pub record IsClients {E P : Type 0} (b : Books E P) (client : List ℕ) (number : ℕ) (row : Row E P) (held_by : Holder E P) : Type 0 where
  pub has : HasRow b.rows number row
  pub its : row.client ≡ client
  pub stands : row.held_by ≡ held_by

-- a new session is wanted in the place of a parked one: Clean Start is 1, or the parked one's time is over
abbrev pub IsStale : {E P : Type 0} → Session E P → Bool → ℕ → Type 0
IsStale session clean now = (clean ≡ true) ⊎ IsOver session.expiry now

-- the client has a parked session that is to end
pub record HasStale {E P : Type 0} (b : Books E P) (client : List ℕ) (request : Request) : Type 0 where
  pub number : ℕ
  pub row : Row E P
  pub session : Session E P
  pub its : IsClients b client number row (Parked session)
  pub stale : IsStale session request.clean request.now

-- a new session is wanted, and has room: the client has none, and there is room for a newcomer's, or it has a parked one that is to end
abbrev pub WantsNew : {E P : Type 0} → Newcomers → Books E P → List ℕ → Request → Type 0
WantsNew newcomers b client request = (NoneLivesAs b.rows client × HasRoom newcomers b.rows) ⊎ HasStale b client request

-- the client had this session, which ends
pub record BeginsOver {E P : Type 0} (old : Books E P) (client : List ℕ) (request : Request) (session ended : Session E P) (new : Books E P) : Type 0 where
  pub number : ℕ
  pub row : Row E P
  pub its : IsClients old client number row (Parked ended)
  pub stale : IsStale ended request.clean request.now
  pub fits : map.len old.rows < most_rows
  pub is : session ≡ new_session (record { number = old.made; client = client })
  pub after : new ≡ after_new (after_end old number row) client request.connection

-- the client has this session back
pub record Resumes {E P : Type 0} (old : Books E P) (client : List ℕ) (request : Request) (session : Session E P) (new : Books E P) : Type 0 where
  pub number : ℕ
  pub row : Row E P
  pub its : IsClients old client number row (Parked session)
  pub fresh : ¬ IsStale session request.clean request.now
  pub after : new ≡ after_lend old number row request.connection

-- the connection waits for the client's session, for which no other waits
pub record Replaces {E P : Type 0} (old : Books E P) (client : List ℕ) (request : Request) (holder : ℕ) (new : Books E P) : Type 0 where
  pub number : ℕ
  pub row : Row E P
  pub its : IsClients old client number row (Lent holder)
  pub alone : (other : ℕ) → IsWaiting old number row other → other ≡ request.connection
  pub after : new ≡ after_replace old number row request.connection holder

-- another connection waits for the client's session
pub record IsBusy {E P : Type 0} (old : Books E P) (client : List ℕ) (request : Request) : Type 0 where
  pub number : ℕ
  pub row : Row E P
  pub holder : ℕ
  pub its : IsClients old client number row (Lent holder)
  pub other : ℕ
  pub waits : IsWaiting old number row other
  pub another : other ≢ request.connection

-- for a client with an identifier
abbrev pub AttachesClient : {E P : Type 0} → Newcomers → Books E P → List ℕ → Request → Result (Attached E P) DeskError → Books E P → Type 0
AttachesClient newcomers old client request (Ok (New session None)) new = BeginsFirst newcomers old client request.connection session new
AttachesClient newcomers old client request (Ok (New session (Some ended))) new =
    BeginsOver old client request session ended new ⊎ Displaces newcomers old client request.connection session ended new
AttachesClient newcomers old client request (Ok (Resumed session)) new = Resumes old client request session new
AttachesClient newcomers old client request (Ok (Replace holder)) new = Replaces old client request holder new
AttachesClient newcomers old client request (Ok Busy) new = IsBusy old client request × (new ≡ old)
AttachesClient newcomers old client request (Err errors.Full) new = NoneLivesAs old.rows client × (¬ HasRoom newcomers old.rows) × (new ≡ old)
AttachesClient newcomers old client request (Err errors.Memory) new = WantsNew newcomers old client request × (new ≡ old)
AttachesClient newcomers old client request (Err errors.NoPlace) new = ⊥
AttachesClient newcomers old client request (Err errors.NoName) new = ⊥

-- the client is given the next name, and a new session
pub record Names {E P : Type 0} (newcomers : Newcomers) (old : Books E P) (connection : ℕ) (session : Session E P) (ended : Option (Session E P)) (new : Books E P) : Type 0 where
  pub number : ℕ
  pub next : IsNextName old.rows old.assigned number
  pub mid : Books E P
  pub begins : Begins newcomers old (assigned_name number) connection (Ok (New session ended)) mid
  pub after : new ≡ after_name mid number

abbrev pub HasNextName : {E P : Type 0} → Books E P → Type 0
HasNextName old = (number : ℕ) × IsNextName old.rows old.assigned number

-- for a client without an identifier (3.1.3.1)
abbrev pub AttachesUnnamed : {E P : Type 0} → Newcomers → Books E P → ℕ → Result (Attached E P) DeskError → Books E P → Type 0
AttachesUnnamed newcomers old connection (Ok (New session ended)) new = Names newcomers old connection session ended new
AttachesUnnamed newcomers old connection (Ok (Resumed session)) new = ⊥
AttachesUnnamed newcomers old connection (Ok (Replace holder)) new = ⊥
AttachesUnnamed newcomers old connection (Ok Busy) new = ⊥
AttachesUnnamed newcomers old connection (Err errors.NoName) new = NoNameLeft old.rows old.assigned × (new ≡ old)
AttachesUnnamed newcomers old connection (Err errors.Full) new = HasNextName old × (¬ HasRoom newcomers old.rows) × (new ≡ old)
AttachesUnnamed newcomers old connection (Err errors.Memory) new = HasNextName old × HasRoom newcomers old.rows × (new ≡ old)
AttachesUnnamed newcomers old connection (Err errors.NoPlace) new = ⊥

abbrev pub attaches_by : {E P : Type 0} → Newcomers → List ℕ → Books E P → Request → Result (Attached E P) DeskError → Books E P → Type 0
attaches_by newcomers [] old request answer new = AttachesUnnamed newcomers old request.connection answer new
attaches_by newcomers (byte ∷ bytes) old request answer new = AttachesClient newcomers old (byte ∷ bytes) request answer new

abbrev pub Attaches : {E P : Type 0} → Newcomers → Books E P → Request → Result (Attached E P) DeskError → Books E P → Type 0
Attaches newcomers old request answer new = attaches_by newcomers request.client old request answer new
