-- What an answer with a new session makes of the rows, whoever asked.
use Rattle.std.proofs.Common.{◌≡◌, ℕ, ◌+◌, List, [], ◌∷◌, Some, None, Ok, ap, ◌∙◌, inl, inr}
use Rattle.std.specs.FinMap as map
use Rattle.session_desk.specs.declared.attached.Attached.TheVariants.{New}
use Rattle.session_desk.specs.declared.newcomers.Newcomers.{Newcomers}
use Rattle.session_desk.specs.declared.session.Session.{Session}
use Rattle.session_desk.specs.declared.row.Row.{Row}
use Rattle.session_desk.specs.declared.row.Holder.TheVariants.{Parked}
use Rattle.session_desk.specs.Rows.{HasRow, away, new_row}
use Rattle.session_desk.specs.Books.{Books, new_session}
use Rattle.session_desk.specs.Names.{assigned_name}
use Rattle.session_desk.specs.Attaching.{Request, attaches_by}

-- none ends for it
pub record Begun {E P : Type 0} (old : Books E P) (connection : ℕ) (session : Session E P) (new : Books E P) : Type 0 where
  pub client : List ℕ
  pub is : session ≡ new_session (record { number = old.made; client = client })
  pub rows : new.rows ≡ map.insert old.rows old.made (new_row client connection)
  pub made : new.made ≡ old.made + 1
  pub free : new.free ≡ old.free

-- this one ends for it
pub record BegunOver {E P : Type 0} (old : Books E P) (connection : ℕ) (session ended : Session E P) (new : Books E P) : Type 0 where
  pub client : List ℕ
  pub number : ℕ
  pub row : Row E P
  pub has : HasRow old.rows number row
  pub stands : row.held_by ≡ Parked ended
  pub is : session ≡ new_session (record { number = old.made; client = client })
  pub rows : new.rows ≡ map.insert (map.insert old.rows number (away row.client)) old.made (new_row client connection)
  pub made : new.made ≡ old.made + 1
  pub free : new.free ≡ old.free

module _ {E P : Type 0} (newcomers : Newcomers) (old new : Books E P) (request : Request) (session : Session E P) where
  pub begun : (client : List ℕ) → attaches_by newcomers client old request (Ok (New session None)) new → Begun old request.connection session new
  begun [] h = record {
    client = assigned_name h.number;
    is = h.begins.is;
    rows = ap (λ b. b.rows) h.after ∙ ap (λ b. b.rows) h.begins.after;
    made = ap (λ b. b.made) h.after ∙ ap (λ b. b.made) h.begins.after;
    free = ap (λ b. b.free) h.after ∙ ap (λ b. b.free) h.begins.after;
  }
  begun (byte ∷ bytes) h = record { client = byte ∷ bytes; is = h.is; rows = ap (λ b. b.rows) h.after; made = ap (λ b. b.made) h.after; free = ap (λ b. b.free) h.after }

  pub begun_over : (client : List ℕ) (ended : Session E P) → attaches_by newcomers client old request (Ok (New session (Some ended))) new → BegunOver old request.connection session ended new
  begun_over [] ended h = record {
    client = assigned_name h.number;
    number = h.begins.number;
    row = h.begins.row;
    has = h.begins.goes.longest.has;
    stands = h.begins.goes.longest.stands;
    is = h.begins.is;
    rows = ap (λ b. b.rows) h.after ∙ ap (λ b. b.rows) h.begins.after;
    made = ap (λ b. b.made) h.after ∙ ap (λ b. b.made) h.begins.after;
    free = ap (λ b. b.free) h.after ∙ ap (λ b. b.free) h.begins.after;
  }
  begun_over (byte ∷ bytes) ended (inl h) = record {
    client = byte ∷ bytes;
    number = h.number;
    row = h.row;
    has = h.its.has;
    stands = h.its.stands;
    is = h.is;
    rows = ap (λ b. b.rows) h.after;
    made = ap (λ b. b.made) h.after;
    free = ap (λ b. b.free) h.after;
  }
  begun_over (byte ∷ bytes) ended (inr h) = record {
    client = byte ∷ bytes;
    number = h.number;
    row = h.row;
    has = h.goes.longest.has;
    stands = h.goes.longest.stands;
    is = h.is;
    rows = ap (λ b. b.rows) h.after;
    made = ap (λ b. b.made) h.after;
    free = ap (λ b. b.free) h.after;
  }
