-- A map's entries as a table of users.
use Rattle.std.proofs.Common.{◌≡◌, ℕ, zero, suc, Bool, true, false, true≢false, cond, bytes_eq, map, slice_get, List, [], ◌∷◌, ◌++◌, Option, Some, None, refl, sym, ap, ◌∙◌}
use Rattle.std.specs.declared.vec.Vec.{Vec}
use Rattle.std.specs.Map.{lookup}
use Rattle.std.specs.Option.{is_some}
use Rattle.indexmap.proofs.CallerLemmas.{insert_entry-new}
use Rattle.indexmap.specs.IndexMap.{IndexMap, insert_entry}
use Rattle.users.specs.Layout.{rights_at, seen}
use Rattle.users.specs.Lines.{with_user}
use Rattle.users.specs.Rights.{rights_from}
use Rattle.users.specs.Table.{StoredUser, UserTable, admits, is_password, is_password_of, stored_of}

-- what a map has under a name is what its table has of that user
pub stored_of-seen : {A : Type 0} (name : List ℕ) (entries : List (Vec ℕ A × StoredUser))
    → stored_of (seen entries) name ≡ lookup (λ key. bytes_eq name key.items) entries
stored_of-seen name [] = refl
stored_of-seen name (entry ∷ entries) = ap (cond (bytes_eq name entry.0.items) (Some entry.1)) (stored_of-seen name entries)

pub admits_known : (table : UserTable) (name password : List ℕ) (stored : StoredUser) → stored_of table name ≡ Some stored → admits table name password ≡ is_password stored.password password
unfolding admits
admits_known table name password stored e = ap (λ found. is_password_of found password) e

pub admits_unknown : (table : UserTable) (name password : List ℕ) → stored_of table name ≡ None → admits table name password ≡ false
unfolding admits
admits_unknown table name password e = ap (λ found. is_password_of found password) e

pub none_is : {X : Type 0} (found : Option X) → false ≡ is_some found → found ≡ None
none_is None e = refl
none_is (Some x) e = absurd (true≢false (sym e))

pub seen-push : {A : Type 0} (entries : List (Vec ℕ A × StoredUser)) (entry : Vec ℕ A × StoredUser) → seen (entries ++ entry ∷ []) ≡ seen entries ++ (entry.0.items, entry.1) ∷ []
seen-push [] entry = refl
seen-push (first ∷ entries) entry = ap (λ (users : UserTable). (first.0.items, first.1) ∷ users) (seen-push entries entry)

-- a map in which a name is found has a user of it
pub known_user : {A : Type 0} (entries : List (Vec ℕ A × StoredUser)) (name : List ℕ) (stored : StoredUser)
    → true ≡ is_some (lookup (λ key. bytes_eq name key.items) entries) → with_user (seen entries) (Some (name, stored)) ≡ None
known_user entries name stored e =
    ap (λ (b : Bool). cond b None (Some (seen entries ++ (name, stored) ∷ []))) (ap is_some (stored_of-seen name entries) ∙ sym e)

-- a name that is not found in a map goes behind the others
pub new_user : {A S : Type 0} (map : IndexMap (Vec ℕ A) StoredUser S) (key : Vec ℕ A) (name : List ℕ) (stored : StoredUser) (after : List (Vec ℕ A × StoredUser))
    → false ≡ is_some (lookup (λ known. bytes_eq name known.items) map.entries) → key.items ≡ name
    → after ≡ insert_entry (λ x y. bytes_eq x.items y.items) map.entries key stored
    → with_user (seen map.entries) (Some (name, stored)) ≡ Some (seen after)
new_user map key name stored after e items put =
    let none = ap (λ (n : List ℕ). lookup (λ known. bytes_eq n known.items) map.entries) items ∙ none_is _ e in
    let last = insert_entry-new (λ x y. bytes_eq x.items y.items) map key stored none in
    ap (λ (b : Bool). cond b None (Some (seen map.entries ++ (name, stored) ∷ []))) (ap is_some (stored_of-seen name map.entries) ∙ sym e)
    ∙ ap Some (sym (ap seen (put ∙ last) ∙ seen-push map.entries (key, stored) ∙ ap (λ (n : List ℕ). seen map.entries ++ (n, stored) ∷ []) items))

-- the value at a place is that of the user there
pub rights_at-seen : {A : Type 0} (entries : List (Vec ℕ A × StoredUser)) (index : ℕ) → rights_at (seen entries) index ≡ rights_from (slice_get (map (λ entry. entry.1) entries) index)
rights_at-seen [] index = refl
rights_at-seen (entry ∷ entries) zero = refl
rights_at-seen (entry ∷ entries) (suc index) = rights_at-seen entries index
