-- One pass of the main queue takes in another: their names become those of one.
use Rattle.std.proofs.Common.{◌≡◌, ◌≢◌, ℕ, cond, eqb, eq-eqb, ne_eqb, false, true≢false, List, [], ◌∷◌, ◌++◌, set, sym, ap, ◌∙◌, subst, ⊎_elim}
use mathlib.Core.Option.{some}
use lib.ListN.{get_elem?}
use Rattle.crossbeam_queue.specs.Fifo.{Merges}
use Rattle.crossbeam_queue.proofs.Lists.{at_set}
use Rattle.group_queue.specs.declared.posted.Posted.{Posted}
use Rattle.group_queue.specs.declared.view.Name.{Name}
use Rattle.group_queue.specs.declared.view.Name.TheVariants.{Port, Place}
use Rattle.group_queue.specs.declared.view.Entry.{Entry}
use Rattle.group_queue.specs.declared.view.View.{View}
use Rattle.group_queue.specs.Views.{Each, AreApart, joined, nobody}
use Rattle.group_queue.specs.Past.{list_of, Fits, HasPast}

Each-append : (P : Entry → Type 0) (es fs : List Entry) → Each P es → Each P fs → Each P (es ++ fs)
Each-append P [] fs all others = others
Each-append P (e ∷ es) fs all others = (all.0, Each-append P es fs all.1 others)

module _ (items : List Posted) (views : List View) (h : HasPast items views) (pass other : ℕ) (v w : View) (plain : w.keeps ≡ false)
    (ne : other ≢ pass) (at : get_elem? views pass ≡ some v) (at' : get_elem? views other ≡ some w) where
  owner' : Name → ℕ
  owner' n = cond (eqb (h.owner n) other) pass (h.owner n)

  -- who had a name of the other pass has it no more
  owner-other : (n : Name) → h.owner n ≡ other → owner' n ≡ pass
  unfolding owner'
  owner-other n is = ap (λ b. cond b pass (h.owner n)) (eq-eqb (h.owner n) other is)

  owner-same : (n : Name) → h.owner n ≢ other → owner' n ≡ h.owner n
  unfolding owner'
  owner-same n is = ap (λ b. cond b pass (h.owner n)) (ne_eqb (h.owner n) other is)

  owner-at : (j : ℕ) → j ≢ other → (n : Name) → h.owner n ≡ j → owner' n ≡ j
  owner-at j ne' n is = owner-same n (λ same. ne' (sym is ∙ same)) ∙ is

  mine : Fits h.past items h.owner pass v
  mine = h.fits pass v at

  theirs : Fits h.past items h.owner other w
  theirs = h.fits other w at'

  each_at : (j k : ℕ) → ((n : Name) → h.owner n ≡ j → owner' n ≡ k) → (es : List Entry) → Each (λ e. (h.owner e.name ≡ j) × (e.list ≡ list_of e.name h.past items)) es
      → Each (λ e. (owner' e.name ≡ k) × (e.list ≡ list_of e.name h.past items)) es
  each_at j k moves [] all = tt
  each_at j k moves (e ∷ es) all = ((moves e.name all.0.0, all.0.1), each_at j k moves es all.1)

  fits_else : (j : ℕ) → j ≢ other → (u : View) → Fits h.past items h.owner j u → Fits h.past items owner' j u
  fits_else j ne' u f = record {
    entries = each_at j j (owner-at j ne') u.entries f.entries;
    apart = f.apart;
    ports = (λ k p le. let is = f.ports k p le in (owner-at j ne' (Port p) is.0, is.1));
    places = (λ k p le. let is = f.places k p le in (owner-at j ne' (Place p) is.0, is.1));
  }

  apart_from : (e : Entry) → h.owner e.name ≡ pass → (fs : List Entry) → Each (λ f. (h.owner f.name ≡ other) × (f.list ≡ list_of f.name h.past items)) fs → Each (λ f. f.name ≢ e.name) fs
  apart_from e is [] all = tt
  apart_from e is (f ∷ fs) all = ((λ same. ne (sym all.0.0 ∙ (ap h.owner same ∙ is))), apart_from e is fs all.1)

  apart_all : (es : List Entry) → Each (λ e. (h.owner e.name ≡ pass) × (e.list ≡ list_of e.name h.past items)) es → AreApart es → AreApart (es ++ w.entries)
  apart_all [] all apart = theirs.apart
  apart_all (e ∷ es) all apart = (Each-append (λ f. f.name ≢ e.name) es w.entries apart.0 (apart_from e all.0.0 w.entries theirs.entries), apart_all es all.1 apart.1)

  fits_both : Fits h.past items owner' pass (joined v w)
  fits_both = record {
    entries = Each-append _ v.entries w.entries (each_at pass pass (owner-at pass (λ same. ne (sym same))) v.entries mine.entries) (each_at other pass owner-other w.entries theirs.entries);
    apart = apart_all v.entries mine.entries mine.apart;
    ports = (fits_else pass (λ same. ne (sym same)) v mine).ports;
    places = (fits_else pass (λ same. ne (sym same)) v mine).places;
  }

  fits_spent : Fits h.past items owner' other nobody
  fits_spent = record { entries = tt; apart = tt; ports = (λ k. absurd (true≢false (sym k))); places = (λ k. absurd (true≢false (sym k))) }

  fits_set : (j : ℕ) (u : View) → j ≢ other → get_elem? (set views pass (joined v w)) j ≡ some u → Fits h.past items owner' j u
  fits_set j u ne' e = ⊎_elim
      (λ t. let F : ℕ × View → Type 0 = λ q. Fits h.past items owner' q.0 q.1 in subst F (λ i. (sym t.0 i, t.1 i)) fits_both)
      (λ t. fits_else j ne' u (h.fits j u t.1))
      (at_set views pass j (joined v w) u e)

  pub merged : HasPast items (set (set views pass (joined v w)) other nobody)
  merged = record {
    past = h.past;
    owner = owner';
    numbered = h.numbered;
    no_port = h.no_port;
    fits = (λ j u e. ⊎_elim
        (λ t. let F : ℕ × View → Type 0 = λ q. Fits h.past items owner' q.0 q.1 in subst F (λ i. (sym t.0 i, t.1 i)) fits_spent)
        (λ t. fits_set j u t.0 t.1)
        (at_set (set views pass (joined v w)) other j nobody u e));
  }

pub joins : (pass : ℕ) (v : View) (other : ℕ) (w : View) → w.keeps ≡ false → Merges HasPast pass v other w (joined v w) nobody
joins pass v other w plain items views h at ne at' =
    merged items views h pass other v w plain ne at (⊎_elim (λ t. absurd (ne t.0)) (λ t. t.1) (at_set views pass other (joined v w) w at'))
