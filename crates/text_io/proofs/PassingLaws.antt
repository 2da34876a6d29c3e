-- Writes one after another.
use Rattle.std.proofs.Common.{◌≡◌, ℕ, List, [], ◌++◌, take, drop, take-append-drop, subst, refl, ap, sym, ◌∙◌, Option, Some, None, Result, Ok, Err, OnErr, append_assoc, append-nil, IfSome}
use Rattle.std.specs.Io.KnownBytes.{Appends, Keeps, Consumes, IsAtEnd}
use Rattle.text_io.specs.Passing.{Begins}

pub Appends-then : (old mid new : Option (List ℕ)) (a b : List ℕ) → Appends old mid a → Appends mid new b → Appends old new (a ++ b)
Appends-then None mid new a b first second = tt
Appends-then (Some xs) None new a b first second = absurd first
Appends-then (Some xs) (Some ys) None a b first second = absurd second
Appends-then (Some xs) (Some ys) (Some zs) a b first second = second ∙ ap (λ s. s ++ b) first ∙ append_assoc xs a b

pub Appends-nothing : (old new : Option (List ℕ)) → Keeps old new → Appends old new []
Appends-nothing None new keeps = tt
Appends-nothing (Some xs) None keeps = keeps
Appends-nothing (Some xs) (Some ys) keeps = keeps ∙ sym (append-nil xs)

pub Consumes-then : (old mid new : Option (List ℕ)) (a b : List ℕ) → Consumes old mid a → Consumes mid new b → Consumes old new (a ++ b)
Consumes-then None mid new a b first second = tt
Consumes-then (Some xs) None new a b first second = absurd first
Consumes-then (Some xs) (Some ys) None a b first second = absurd second
Consumes-then (Some xs) (Some ys) (Some zs) a b first second = first ∙ ap (λ s. a ++ s) second ∙ sym (append_assoc a b zs)

pub Consumes-nothing : (old new : Option (List ℕ)) → Keeps old new → Consumes old new []
Consumes-nothing None new keeps = tt
Consumes-nothing (Some xs) None keeps = keeps
Consumes-nothing (Some xs) (Some ys) keeps = sym keeps

-- what was consumed up to the end is all that there was
pub Consumes-all : (old new : Option (List ℕ)) (a : List ℕ) → Consumes old new a → IsAtEnd new → IfSome old (λ xs. a ≡ xs)
Consumes-all None new a consumed end = tt
Consumes-all (Some xs) None a consumed end = absurd consumed
Consumes-all (Some xs) (Some ys) a consumed end = sym (consumed ∙ ap (λ s. a ++ s) end ∙ append-nil a)

-- The writer got the bytes of a text in front of this rest.
pub record Passes (old new : Option (List ℕ)) (text rest : List ℕ) : Type 0 where
  pub part : List ℕ
  pub written : Appends old new part
  pub whole : part ++ rest ≡ text

-- One write more: the writer takes the first n bytes of what is left.
pub Passes-write : (old mid new : Option (List ℕ)) (text rest : List ℕ) (n : ℕ) → Passes old mid text rest → Appends mid new (take n rest) → Passes old new text (drop n rest)
Passes-write old mid new text rest n before write = record {
  part = before.part ++ take n rest;
  written = Appends-then old mid new before.part (take n rest) before.written write;
  whole = append_assoc before.part (take n rest) (drop n rest) ∙ ap (λ s. before.part ++ s) (take-append-drop n rest) ∙ before.whole;
}

-- A write that wrote nothing.
pub Passes-keeps : (old mid new : Option (List ℕ)) (text rest : List ℕ) → Passes old mid text rest → Keeps mid new → Passes old new text rest
Passes-keeps old mid new text rest before keeps = record {
  part = before.part;
  written = subst (Appends old new) (append-nil before.part) (Appends-then old mid new before.part [] before.written (Appends-nothing mid new keeps));
  whole = before.whole;
}

-- Nothing is left.
pub Passes-all : (old new : Option (List ℕ)) (text : List ℕ) → Passes old new text [] → Appends old new text
Passes-all old new text p = subst (Appends old new) (sym (append-nil p.part) ∙ p.whole) p.written

-- Something may be left.
pub Passes-begins : (old new : Option (List ℕ)) (text rest : List ℕ) → Passes old new text rest → Begins old new text
Passes-begins old new text rest p = record { part = p.part; rest = rest; written = p.written; whole = p.whole }

pub Keeps-refl : (known : Option (List ℕ)) → Keeps known known
Keeps-refl None = tt
Keeps-refl (Some xs) = refl

pub Passes-nothing : (known : Option (List ℕ)) → Passes known known [] []
Passes-nothing known = record { part = []; written = Appends-nothing known known (Keeps-refl known); whole = refl }

-- Nothing was written.
pub Begins-nothing : (known : Option (List ℕ)) (text : List ℕ) → Begins known known text
Begins-nothing known text = record { part = []; rest = text; written = Appends-nothing known known (Keeps-refl known); whole = refl }

pub Begins-nothing-at : {T E : Type 0} (result : Result T E) (known : Option (List ℕ)) (text : List ℕ) → OnErr result (Begins known known text)
Begins-nothing-at (Ok value) known text = tt
Begins-nothing-at (Err error) known text = Begins-nothing known text
