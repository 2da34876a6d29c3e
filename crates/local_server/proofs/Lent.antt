-- In whose hands the sessions of a desk are, before and after its calls.
use Rattle.std.proofs.Common.{◌≡◌, ◌≢◌, ℕ, Option, Some, None, sym, ap, subst, ◌∙◌, ⊎_elim}
use Rattle.std.specs.FinMap as map
use Rattle.session_desk.specs.declared.session.Session.{Session}
use Rattle.session_desk.specs.declared.row.Row.{Row}
use Rattle.session_desk.specs.declared.row.Holder.TheVariants.{Lent, Parked, Kept, Away}
use Rattle.session_desk.specs.Rows.{Rows, HasRow, IsKept, away, with_holder}
use Rattle.session_desk.specs.Books.{Books}
use Rattle.session_desk.specs.Keeping.{Keeps, Buries}
use Rattle.session_desk.specs.Sweeping.{Sweeps, HandsOut}
use Rattle.session_desk.proofs.Seen.{after_insert, insert_other, after_remove, remove_other}

-- the session with this number is lent to this connection
pub record IsLentTo {E P : Type 0} (rows : Rows E P) (number connection : ℕ) : Type 0 where
  pub row : Row E P
  pub has : HasRow rows number row
  pub lent : row.held_by ≡ Lent connection

-- the session with this number is parked
pub record IsParkedAs {E P : Type 0} (rows : Rows E P) (number : ℕ) (session : Session E P) : Type 0 where
  pub row : Row E P
  pub has : HasRow rows number row
  pub parked : row.held_by ≡ Parked session

pub one_holder : {E P : Type 0} (rows : Rows E P) (number one other : ℕ) → IsLentTo rows number one → IsLentTo rows number other → one ≡ other
one_holder rows number one other these those = (let a = these.has in let b = those.has in let c = these.lent in let d = those.lent in cc)

pub not_both : {E P : Type 0} (rows : Rows E P) (number connection : ℕ) (session : Session E P) → IsLentTo rows number connection → IsParkedAs rows number session → ⊥
not_both rows number connection session lent parked = (let a = lent.has in let b = parked.has in let c = lent.lent in let d = parked.parked in cc)

-- what is lent stays lent, what is parked was parked, and no session is new
pub record KeepsRows {E P : Type 0} (old new : Books E P) : Type 0 where
  pub lent : (number connection : ℕ) → IsLentTo old.rows number connection → IsLentTo new.rows number connection
  pub parked : (number : ℕ) (session : Session E P) → IsParkedAs new.rows number session → IsParkedAs old.rows number session
  pub made : new.made ≡ old.made

pub same_rows : {E P : Type 0} (old new : Books E P) → new.rows ≡ old.rows → new.made ≡ old.made → KeepsRows old new
same_rows {E} {P} old new same made =
    record {
      lent = λ number connection is. subst (λ (r : Rows E P). IsLentTo r number connection) (sym same) is;
      parked = λ number session is. subst (λ (r : Rows E P). IsParkedAs r number session) same is;
      made = made;
    }

pub same_books : {E P : Type 0} (old new : Books E P) → new ≡ old → KeepsRows old new
same_books old new same = same_rows old new (ap (λ b. b.rows) same) (ap (λ b. b.made) same)

pub then_keeps : {E P : Type 0} (old mid new : Books E P) → KeepsRows old mid → KeepsRows mid new → KeepsRows old new
then_keeps old mid new these those =
    record {
      lent = λ number connection is. those.lent number connection (these.lent number connection is);
      parked = λ number session is. these.parked number session (those.parked number session is);
      made = those.made ∙ these.made;
    }

-- a row is written: each other stays
pub lent_beside : {E P : Type 0} (rows : Rows E P) (k number connection : ℕ) (row : Row E P) → (number ≡ k → ⊥) → IsLentTo rows number connection
    → IsLentTo (map.insert rows k row) number connection
lent_beside rows k number connection row other is = record { row = is.row; has = insert_other rows k number row other ∙ is.has; lent = is.lent }

pub not_parked : {E P : Type 0} (rows : Rows E P) (k number : ℕ) (row : Row E P) (session : Session E P) → (row.held_by ≡ Parked session → ⊥)
    → IsParkedAs (map.insert rows k row) number session
    → (number ≢ k) × IsParkedAs rows number session
not_parked {E} {P} rows k number row session isnt is =
    ⊎_elim
    (λ (here : (number ≡ k) × (row ≡ is.row)). absurd (isnt (ap (λ (r : Row E P). r.held_by) here.1 ∙ is.parked)))
    (λ (other : (number ≢ k) × HasRow rows number is.row). (other.0, record { row = is.row; has = other.1; parked = is.parked }))
    (after_insert rows k number row is.row is.has)

-- a row that is not lent becomes one that is not parked
pub replaces : {E P : Type 0} (old new : Books E P) (k : ℕ) (before after : Row E P) → HasRow old.rows k before → ((connection : ℕ) → before.held_by ≡ Lent connection → ⊥)
    → ((session : Session E P) → after.held_by ≡ Parked session → ⊥) → new.rows ≡ map.insert old.rows k after → new.made ≡ old.made → KeepsRows old new
replaces {E} {P} old new k before after has not_lent isnt is made =
    record {
      lent = λ number connection lent.
          subst (λ (r : Rows E P). IsLentTo r number connection) (sym is)
          (lent_beside old.rows k number connection after (λ same. not_lent connection (let a = lent.has in let b = lent.lent in cc)) lent);
      parked = λ number session parked. (not_parked old.rows k number after session (isnt session) (subst (λ (r : Rows E P). IsParkedAs r number session) is parked)).1;
      made = made;
    }

-- a row that is not lent is no more
pub removes : {E P : Type 0} (old new : Books E P) (k : ℕ) (before : Row E P) → HasRow old.rows k before → ((connection : ℕ) → before.held_by ≡ Lent connection → ⊥)
    → new.rows ≡ map.remove old.rows k → new.made ≡ old.made → KeepsRows old new
removes {E} {P} old new k before has not_lent is made =
    record {
      lent = λ number connection lent.
          subst (λ (r : Rows E P). IsLentTo r number connection) (sym is)
          (record {
            row = lent.row;
            has = remove_other old.rows k number (λ same. not_lent connection (let a = lent.has in let b = lent.lent in cc)) ∙ lent.has;
            lent = lent.lent;
          });
      parked = λ number session parked.
          let there = subst (λ (r : Rows E P). IsParkedAs r number session) is parked in
          record { row = there.row; has = (after_remove old.rows k number there.row there.has).1; parked = there.parked };
      made = made;
    }

-- calls of a desk that ask for no session, and hand none in that may be asked for again
away_not_lent : {E P : Type 0} (row : Row E P) → row.held_by ≡ Away → (connection : ℕ) → row.held_by ≡ Lent connection → ⊥
away_not_lent row gone connection lent = cc

pub keeps : {E P : Type 0} (old new : Books E P) (session : Session E P) (answer : Option (Session E P)) → Keeps old session answer new → KeepsRows old new
keeps old new session None does =
    let gone = does.gone in
    replaces old new session.identity.number gone.row (with_holder gone.row (Kept session)) gone.is_row.has (away_not_lent gone.row gone.is_row.stands) (λ s is. cc)
    (ap (λ b. b.rows) does.after) (ap (λ b. b.made) does.after)
keeps old new session (Some back) does = same_books old new does.2

pub buries : {E P : Type 0} (cell : P → ℕ) (old new : Books E P) (session : Session E P) (answer : Option (Session E P)) → Buries cell old session answer new → KeepsRows old new
buries cell old new session None does =
    let gone = does.0.gone in
    removes old new session.identity.number gone.row gone.is_row.has (away_not_lent gone.row gone.is_row.stands) (ap (λ b. b.rows) does.1) (ap (λ b. b.made) does.1)
buries cell old new session (Some back) does = same_books old new does.2

swept : {E P : Type 0} (old new : Books E P) (number : ℕ) (row : Row E P) → HasRow old.rows number row → ((connection : ℕ) → row.held_by ≡ Lent connection → ⊥)
    → new.rows ≡ map.insert old.rows number (away row.client) → new.made ≡ old.made → KeepsRows old new
swept old new number row has not_lent is made = replaces old new number row (away row.client) has not_lent (λ s gone. cc) is made

pub sweeps : {E P : Type 0} (old new : Books E P) (now : ℕ) (answer : Option (Session E P)) → Sweeps old.rows now answer new.rows → new.made ≡ old.made → KeepsRows old new
sweeps old new now None does made = same_rows old new does.2 made
sweeps {E} {P} old new now (Some session) does made =
    ⊎_elim
    (λ (kept : HandsOut old.rows IsKept (Kept session) new.rows).
    swept old new kept.number kept.oldest.row kept.oldest.has (λ connection lent. (let a = kept.stood in cc)) kept.after made)
    (λ parked. swept old new parked.1.number parked.1.oldest.row parked.1.oldest.has (λ connection lent. (let a = parked.1.stood in cc)) parked.1.after made)
    does
