-- Who opened the main queue gives a name away.
use Rattle.std.proofs.Common.{◌≡◌, ◌≢◌, ℕ, ◌+◌, ◌≤◌, true≢false, cond, zero, suc, List, [], ◌∷◌, ◌++◌, length, set, refl, sym, ap, ◌∙◌, subst, ⊎_elim, arith}
use mathlib.Core.Option.{some, some-injective, some-ne-none}
use Rattle.std.proofs.Math.ListN.{length-set}
use lib.ListN.{get_elem?}
use Rattle.crossbeam_queue.specs.Fifo.{Forks}
use Rattle.crossbeam_queue.proofs.Lists.{at_set}
use Rattle.group_queue.specs.declared.posted.Posted.{Posted}
use Rattle.group_queue.specs.declared.view.Name.{Name}
use Rattle.group_queue.specs.declared.view.Name.TheVariants.{Port, Place, Finisher}
use Rattle.group_queue.specs.declared.view.Entry.{Entry}
use Rattle.group_queue.specs.declared.view.View.{View}
use Rattle.group_queue.specs.Views.{same_name, one, keeper, Each}
use Rattle.group_queue.specs.Past.{list_of, Fits, HasPast}
use Rattle.group_queue.proofs.Lists.{same_name-refl, same_name-other, at_push}

none_in_empty : (front : List Posted) (posted : Posted) (behind : List Posted) → [] ≢ front ++ posted ∷ behind
none_in_empty [] posted behind e = cc
none_in_empty (f ∷ front) posted behind e = cc

only : (v u : View) (pass : ℕ) → get_elem? (v ∷ []) pass ≡ some u → (pass ≡ 0) × (v ≡ u)
only v u zero at = (refl, some-injective v u at)
only v u (suc pass) at = absurd (some-ne-none u (sym at))

pub starts : HasPast [] (keeper 0 0 ∷ [])
starts = record {
  past = [];
  owner = (λ name. 0);
  numbered = (λ front behind posted e. absurd (none_in_empty front posted behind e));
  no_port = (λ port. refl);
  fits = (λ pass v at.
      let is = only (keeper 0 0) v pass at in
      let F : ℕ × View → Type 0 = λ q. Fits [] [] (λ name. 0) q.0 q.1 in
      subst F (λ i. (sym is.0 i, is.1 i)) (record { entries = ((refl, refl), tt); apart = (tt, tt); ports = (λ k port le. (refl, refl)); places = (λ k place le. (refl, refl)) }));
}

-- a name that nobody used goes to a new pass
module _ (items : List Posted) (views : List View) (h : HasPast items views) (pass a b a' b' : ℕ) (name : Name)
    (at : get_elem? views pass ≡ some (keeper a b))
    (unused : (h.owner name ≡ pass) × (list_of name h.past items ≡ []))
    (not_last : Finisher ≢ name)
    (ports : (port : ℕ) → a' ≤ port → (a ≤ port) × (Port port ≢ name))
    (places : (place : ℕ) → b' ≤ place → (b ≤ place) × (Place place ≢ name)) where
  owner' : Name → ℕ
  owner' n = cond (same_name n name) (length views) (h.owner n)

  owner-other : (n : Name) → n ≢ name → owner' n ≡ h.owner n
  unfolding owner'
  owner-other n ne = ap (λ b. cond b (length views) (h.owner n)) (same_name-other n name ne)

  owner-new : owner' name ≡ length views
  unfolding owner'
  owner-new = ap (λ b. cond b (length views) (h.owner name)) (same_name-refl name)

  each_else : (j : ℕ) → j ≢ pass → (fs : List Entry) → Each (λ e. (h.owner e.name ≡ j) × (e.list ≡ list_of e.name h.past items)) fs
      → Each (λ e. (owner' e.name ≡ j) × (e.list ≡ list_of e.name h.past items)) fs
  each_else j ne [] all = tt
  each_else j ne (e ∷ fs) all = ((owner-other e.name (λ same. ne (sym all.0.0 ∙ ap h.owner same ∙ unused.0)) ∙ all.0.0, all.0.1), each_else j ne fs all.1)

  fits_else : (j : ℕ) → j ≢ pass → (u : View) → Fits h.past items h.owner j u → Fits h.past items owner' j u
  fits_else j ne u f = record {
    entries = each_else j ne u.entries f.entries;
    apart = f.apart;
    ports = (λ k p le. let is = f.ports k p le in (owner-other (Port p) (λ same. ne (sym is.0 ∙ ap h.owner same ∙ unused.0)) ∙ is.0, is.1));
    places = (λ k p le. let is = f.places k p le in (owner-other (Place p) (λ same. ne (sym is.0 ∙ ap h.owner same ∙ unused.0)) ∙ is.0, is.1));
  }

  was : Fits h.past items h.owner pass (keeper a b)
  was = h.fits pass (keeper a b) at

  fits_here : Fits h.past items owner' pass (keeper a' b')
  fits_here = record {
    entries = ((owner-other Finisher not_last ∙ was.entries.0.0, was.entries.0.1), tt);
    apart = (tt, tt);
    ports = (λ k p le. let ok = ports p le in let is = was.ports refl p ok.0 in (owner-other (Port p) ok.1 ∙ is.0, is.1));
    places = (λ k p le. let ok = places p le in let is = was.places refl p ok.0 in (owner-other (Place p) ok.1 ∙ is.0, is.1));
  }

  fits_new : Fits h.past items owner' (length views) (one name [])
  fits_new = record {
    entries = ((owner-new, sym unused.1), tt);
    apart = (tt, tt);
    ports = (λ k. absurd (true≢false (sym k)));
    places = (λ k. absurd (true≢false (sym k)));
  }

  fits_set : (j : ℕ) (u : View) → get_elem? (set views pass (keeper a' b')) j ≡ some u → Fits h.past items owner' j u
  fits_set j u e = ⊎_elim
      (λ t. let F : ℕ × View → Type 0 = λ q. Fits h.past items owner' q.0 q.1 in subst F (λ i. (sym t.0 i, t.1 i)) fits_here)
      (λ t. fits_else j t.0 u (h.fits j u t.1))
      (at_set views pass j (keeper a' b') u e)

  pub cut : HasPast items (set views pass (keeper a' b') ++ one name [] ∷ [])
  cut = record {
    past = h.past;
    owner = owner';
    numbered = h.numbered;
    no_port = h.no_port;
    fits = (λ j u e. ⊎_elim
        (λ t. fits_set j u t.1)
        (λ t. let F : ℕ × View → Type 0 = λ q. Fits h.past items owner' q.0 q.1 in subst F (λ i. ((ap (λ n. n) (sym (length-set views pass (keeper a' b'))) ∙ sym t.0) i, t.1 i)) fits_new)
        (at_push (set views pass (keeper a' b')) (one name []) u j e));
  }

pub cuts_port : (pass : ℕ) (v : View) → v ≡ keeper v.ports v.places → Forks HasPast pass v (keeper (v.ports + 1) v.places) (one (Port v.ports) [])
cuts_port pass v is items views h at =
    let at' = at ∙ ap some is in
    cut items views h pass v.ports v.places (v.ports + 1) v.places (Port v.ports) at' ((h.fits pass (keeper v.ports v.places) at').ports refl v.ports (omega arith)) (λ e. cc)
    (λ p le. (omega arith, λ same. let n : p ≡ v.ports = cc in omega arith))
    (λ p le. (omega arith, λ same. cc))

pub cuts_place : (pass : ℕ) (v : View) → v ≡ keeper v.ports v.places → Forks HasPast pass v (keeper v.ports (v.places + 1)) (one (Place v.places) [])
cuts_place pass v is items views h at =
    let at' = at ∙ ap some is in
    cut items views h pass v.ports v.places v.ports (v.places + 1) (Place v.places) at' ((h.fits pass (keeper v.ports v.places) at').places refl v.places (omega arith)) (λ e. cc)
    (λ p le. (omega arith, λ same. cc))
    (λ p le. (omega arith, λ same. let n : p ≡ v.places = cc in omega arith))
