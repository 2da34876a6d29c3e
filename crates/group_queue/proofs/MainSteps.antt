-- A push and a pop keep the rule of the main queue: the past goes on, and only the list of the name that made the step grows.
use Rattle.std.proofs.Common.{◌≡◌, ◌≢◌, ℕ, ◌<◌, Bool, true, false, true≢false, List, [], ◌∷◌, ◌++◌, length, set, refl, sym, ap, ◌∙◌, subst, ⊎_elim}
use mathlib.Core.Option.{some}
use lib.ListN.{get_elem?}
use Rattle.crossbeam_queue.specs.Fifo.{Pushes, Pops, Learns}
use Rattle.crossbeam_queue.proofs.Lists.{at_set, set_here}
use Rattle.group_queue.specs.declared.posted.Posted.{Posted}
use Rattle.group_queue.specs.declared.view.Name.{Name}
use Rattle.group_queue.specs.declared.view.Name.TheVariants.{Port, Place, Finisher}
use Rattle.group_queue.specs.declared.view.Entry.{Entry}
use Rattle.group_queue.specs.declared.view.View.{View}
use Rattle.group_queue.specs.Views.{entry, one, ending, list_in, others_in, grown, IsOf, IsEnding, Each}
use Rattle.group_queue.specs.Past.{Pop, all_of, through, list_of, AreNumbered, Fits, HasPast, Stands, Adds, Takes}
use Rattle.group_queue.proofs.Lists.{through-push, through-other, popped-same, popped-other, all_of-pop, all_of-push, numbered-push, within}

-- a view whose first name is this one
abbrev pub with_first : Bool → ℕ → ℕ → Name → List Posted → List Entry → View
with_first keeps ports places name list es = record { keeps = keeps; ports = ports; places = places; entries = entry name list ∷ es }

-- the list of one name grows, and no other
module _ (past past' : List Pop) (items items' : List Posted) (owner : Name → ℕ) (views : List View) (pass : ℕ)
    (keeps : Bool) (a b : ℕ) (name : Name) (list : List Posted) (es : List Entry) (x : Posted)
    (fits : (j : ℕ) (u : View) → get_elem? views j ≡ some u → Fits past items owner j u)
    (at : get_elem? views pass ≡ some (with_first keeps a b name list es))
    (last : keeps ≡ true → name ≡ Finisher)
    (mine : list_of name past' items' ≡ list_of name past items ++ x ∷ [])
    (others : (other : Name) → other ≢ name → list_of other past' items' ≡ list_of other past items) where
  was : Fits past items owner pass (with_first keeps a b name list es)
  was = fits pass (with_first keeps a b name list es) at

  owned : owner name ≡ pass
  owned = was.entries.0.0

  each_else : (j : ℕ) → j ≢ pass → (fs : List Entry) → Each (λ e. (owner e.name ≡ j) × (e.list ≡ list_of e.name past items)) fs
      → Each (λ e. (owner e.name ≡ j) × (e.list ≡ list_of e.name past' items')) fs
  each_else j ne [] all = tt
  each_else j ne (e ∷ fs) all = ((all.0.0, all.0.1 ∙ sym (others e.name (λ same. ne (sym all.0.0 ∙ ap owner same ∙ owned)))), each_else j ne fs all.1)

  each_here : (fs : List Entry) → Each (λ e. e.name ≢ name) fs → Each (λ e. (owner e.name ≡ pass) × (e.list ≡ list_of e.name past items)) fs
      → Each (λ e. (owner e.name ≡ pass) × (e.list ≡ list_of e.name past' items')) fs
  each_here [] apart all = tt
  each_here (e ∷ fs) apart all = ((all.0.0, all.0.1 ∙ sym (others e.name apart.0)), each_here fs apart.1 all.1)

  fits_else : (j : ℕ) → j ≢ pass → (u : View) → Fits past items owner j u → Fits past' items' owner j u
  fits_else j ne u f = record {
    entries = each_else j ne u.entries f.entries;
    apart = f.apart;
    ports = (λ k p le. let is = f.ports k p le in (is.0, others (Port p) (λ same. ne (sym is.0 ∙ ap owner same ∙ owned)) ∙ is.1));
    places = (λ k p le. let is = f.places k p le in (is.0, others (Place p) (λ same. ne (sym is.0 ∙ ap owner same ∙ owned)) ∙ is.1));
  }

  fits_here : Fits past' items' owner pass (with_first keeps a b name (list ++ x ∷ []) es)
  fits_here = record {
    entries = ((owned, ap (λ l. l ++ x ∷ []) was.entries.0.1 ∙ sym mine), each_here es was.apart.0 was.entries.1);
    apart = was.apart;
    ports = (λ k p le. let is = was.ports k p le in let f = last k in (is.0, others (Port p) (λ same. cc) ∙ is.1));
    places = (λ k p le. let is = was.places k p le in let f = last k in (is.0, others (Place p) (λ same. cc) ∙ is.1));
  }

  pub grows : (j : ℕ) (u : View) → get_elem? (set views pass (with_first keeps a b name (list ++ x ∷ []) es)) j ≡ some u → Fits past' items' owner j u
  grows j u e = ⊎_elim
      (λ t. let F : ℕ × View → Type 0 = λ q. Fits past' items' owner q.0 q.1 in subst F (λ i. (sym t.0 i, t.1 i)) fits_here)
      (λ t. fits_else j t.0 u (fits j u t.1))
      (at_set views pass j (with_first keeps a b name (list ++ x ∷ []) es) u e)

-- a port's next message is pushed
adds_one : (pass : ℕ) (sent : List Posted) (x : Posted) → x.job.number ≡ length sent → x.job.number < 1099511627776
    → (items : List Posted) (views : List View) → HasPast items views → get_elem? views pass ≡ some (one (Port x.job.port) sent)
    → HasPast (items ++ x ∷ []) (set views pass (one (Port x.job.port) (sent ++ x ∷ [])))
adds_one pass sent x next few items views h at =
    let name = Port x.job.port in
    let mine : sent ≡ through x.job.port (all_of h.past items) = (h.fits pass (one name sent) at).entries.0.1 in
    let all' = all_of-push h.past items x in
    record {
      past = h.past;
      owner = h.owner;
      numbered = subst AreNumbered (sym all') (numbered-push (all_of h.past items) x h.numbered (next ∙ ap length mine) few);
      no_port = h.no_port;
      fits = grows h.past h.past items (items ++ x ∷ []) h.owner views pass false 0 0 name sent [] x h.fits at (λ k. absurd (true≢false (sym k)))
          (ap (through x.job.port) all' ∙ through-push x.job.port (all_of h.past items) x refl)
          (λ other ne. others other ne);
    }
  where
    others : (other : Name) → other ≢ Port x.job.port → list_of other h.past (items ++ x ∷ []) ≡ list_of other h.past items
    others (Port q) ne = ap (through q) (all_of-push h.past items x) ∙ through-other q (all_of h.past items) x (λ e. ne (ap Port (sym e)))
    others (Place m) ne = refl
    others Finisher ne = refl

-- the front is popped by this name
takes_one : (pass : ℕ) (keeps : Bool) (a b : ℕ) (name : Name) (list : List Posted) (es : List Entry) (x : Posted) → ((p : ℕ) → name ≢ Port p) → (keeps ≡ true → name ≡ Finisher)
    → (items : List Posted) (views : List View) → HasPast (x ∷ items) views → get_elem? views pass ≡ some (with_first keeps a b name list es)
    → HasPast items (set views pass (with_first keeps a b name (list ++ x ∷ []) es))
takes_one pass keeps a b name list es x pops last items views h at =
    let past' = h.past ++ record { by = name; posted = x } ∷ [] in
    let all' = all_of-pop h.past name x items in
    record {
      past = past';
      owner = h.owner;
      numbered = subst AreNumbered (sym all') h.numbered;
      no_port = (λ port. popped-other h.past name x (Port port) (λ same. pops port (sym same)) ∙ h.no_port port);
      fits = grows h.past past' (x ∷ items) items h.owner views pass keeps a b name list es x h.fits at last (mine name pops) (λ other ne. others other ne);
    }
  where
    mine : (n : Name) → ((p : ℕ) → n ≢ Port p) → list_of n (h.past ++ record { by = n; posted = x } ∷ []) items ≡ list_of n h.past (x ∷ items) ++ x ∷ []
    mine (Port p) pops = absurd (pops p refl)
    mine (Place m) pops = popped-same h.past (Place m) x
    mine Finisher pops = popped-same h.past Finisher x

    others : (other : Name) → other ≢ name → list_of other (h.past ++ record { by = name; posted = x } ∷ []) items ≡ list_of other h.past (x ∷ items)
    others (Port q) ne = ap (through q) (all_of-pop h.past name x items)
    others (Place m) ne = popped-other h.past name x (Place m) ne
    others Finisher ne = popped-other h.past name x Finisher ne

pub learns : (pass : ℕ) (v : View) → Learns HasPast pass v (Stands v)
learns pass v items views h at = record { views = views; pass = pass; there = at; holds = h }

pub pushes : (capacity pass : ℕ) (v : View) (x : Posted) → IsOf (Port x.job.port) v → x.job.number ≡ length (list_in v) → x.job.number < 1099511627776
    → Pushes HasPast capacity pass v x (Adds v x)
pushes capacity pass v x is next few items views room h at =
    let sent = list_in v in
    let w : View = one (Port x.job.port) (sent ++ x ∷ []) in
    let at' = at ∙ ap some is in
    let h' = adds_one pass sent x next few items views h at' in (
      w,
      h',
      record {
        items = items;
        before = record { views = views; pass = pass; there = at; holds = h };
        after = record { views = set views pass w; pass = pass; there = set_here views pass w (within views pass v at); holds = h' };
        is = sym (ap (λ u. grown u x) is);
      },
    )

pub pops : (pass : ℕ) (v : View) (place : ℕ) → IsOf (Place place) v → Pops HasPast pass v (Takes v)
pops pass v place is x items views h at =
    let got = list_in v in
    let w : View = one (Place place) (got ++ x ∷ []) in
    let h' = takes_one pass false 0 0 (Place place) got [] x (λ p e. cc) (λ k. absurd (true≢false (sym k))) items views h (at ∙ ap some is) in (
      w,
      h',
      record {
        items = items;
        before = record { views = views; pass = pass; there = at; holds = h };
        after = record { views = set views pass w; pass = pass; there = set_here views pass w (within views pass v at); holds = h' };
        is = sym (ap (λ u. grown u x) is);
      },
    )

-- the front is popped by who ends the group
pub pops_left : (pass : ℕ) (v : View) → IsEnding v → Pops HasPast pass v (Takes v)
pops_left pass v is x items views h at =
    let left = list_in v in
    let w : View = ending v.ports v.places (left ++ x ∷ []) (others_in v) in
    let h' = takes_one pass true v.ports v.places Finisher left (others_in v) x (λ p e. cc) (λ k. refl) items views h (at ∙ ap some is) in (
      w,
      h',
      record {
        items = items;
        before = record { views = views; pass = pass; there = at; holds = h };
        after = record { views = set views pass w; pass = pass; there = set_here views pass w (within views pass v at); holds = h' };
        is = sym (ap (λ u. grown u x) is);
      },
    )
