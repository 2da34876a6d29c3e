-- Refusals to clients without an identifier.
use Rattle.std.proofs.Common.{◌≡◌, List, ℕ, Result, Ok, Err, refl, subst, inl, arith}
use Rattle.session_desk.specs.declared.attached.Attached.{Attached}
use Rattle.session_desk.specs.declared.attached.Attached.TheVariants.{New, Resumed, Replace, Busy}
use Rattle.session_desk.specs.declared.error.DeskError.{DeskError}
use Rattle.session_desk.specs.declared.error.DeskError.TheVariants.{Full, NoPlace, Memory, NoName}
use Rattle.session_desk.specs.Rows.{Rows}
use Rattle.session_desk.specs.Names.{assigned_name, IsNextName}
use Rattle.session_desk.specs.Books.{Books, after_name}
use Rattle.session_desk.specs.declared.newcomers.Newcomers.{Newcomers}
use Rattle.session_desk.specs.Newcomers.{Begins}
use Rattle.session_desk.specs.Attaching.{Request, HasNextName, AttachesClient, AttachesUnnamed}

-- where no session begins under the next name
pub refused_unnamed : {E P : Type 0} (newcomers : Newcomers) (old new : Books E P) (name : List ℕ) (connection : ℕ) (error : DeskError) → HasNextName old → Begins newcomers old name connection (Err error) new
    → AttachesUnnamed newcomers old connection (Err error) new
refused_unnamed newcomers old new name connection Full next begins = (next, begins.1, begins.2)
refused_unnamed newcomers old new name connection NoPlace next begins = absurd begins
refused_unnamed newcomers old new name connection Memory next begins = (next, begins.1, begins.2)
refused_unnamed newcomers old new name connection NoName next begins = absurd begins

-- where one begins
pub named_begun : {E P : Type 0} (newcomers : Newcomers) (old mid new : Books E P) (name : List ℕ) (number connection : ℕ) (attached : Attached E P) → IsNextName old.rows old.assigned number
    → name ≡ assigned_name number → Begins newcomers old name connection (Ok attached) mid → new ≡ after_name mid number → AttachesUnnamed newcomers old connection (Ok attached) new
named_begun newcomers old mid new name number connection (New session ended) next named begins after =
    record { number = number; next = next; mid = mid; begins = subst (λ n. Begins newcomers old n connection (Ok (New session ended)) mid) named begins; after = after }
named_begun newcomers old mid new name number connection (Resumed session) next named begins after = absurd begins
named_begun newcomers old mid new name number connection (Replace holder) next named begins after = absurd begins
named_begun newcomers old mid new name number connection Busy next named begins after = absurd begins

-- and for a client with an identifier
pub refused_client : {E P : Type 0} (newcomers : Newcomers) (old new : Books E P) (client : List ℕ) (request : Request) (error : DeskError) → Begins newcomers old client request.connection (Err error) new
    → AttachesClient newcomers old client request (Err error) new
refused_client newcomers old new client request Full begins = begins
refused_client newcomers old new client request NoPlace begins = absurd begins
refused_client newcomers old new client request Memory begins = (inl (begins.0, begins.1), begins.2)
refused_client newcomers old new client request NoName begins = absurd begins

-- where the last name was given, there is no next one
none_left : {E P : Type 0} (rows : Rows E P) (assigned number : ℕ) → assigned ≡ 99999999 → IsNextName rows assigned number → ⊥
none_left rows assigned number all next = let above = next.above in let last = next.last in omega arith

-- so each answer is that refusal
pub refused_at_end : {E P : Type 0} (newcomers : Newcomers) (old new : Books E P) (connection : ℕ) (answer : Result (Attached E P) DeskError) → old.assigned ≡ 99999999 → AttachesUnnamed newcomers old connection answer new
    → (answer ≡ Err NoName) × (new ≡ old)
refused_at_end newcomers old new connection (Ok (New session ended)) all h = absurd (none_left old.rows old.assigned h.number all h.next)
refused_at_end newcomers old new connection (Ok (Resumed session)) all h = absurd h
refused_at_end newcomers old new connection (Ok (Replace holder)) all h = absurd h
refused_at_end newcomers old new connection (Ok Busy) all h = absurd h
refused_at_end newcomers old new connection (Err NoName) all h = (refl, h.1)
refused_at_end newcomers old new connection (Err Full) all h = absurd (none_left old.rows old.assigned h.0.0 all h.0.1)
refused_at_end newcomers old new connection (Err Memory) all h = absurd (none_left old.rows old.assigned h.0.0 all h.0.1)
refused_at_end newcomers old new connection (Err NoPlace) all h = absurd h
