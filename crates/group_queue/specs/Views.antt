-- What the holders of the passes of a main queue know: what each port sent, and what each place was the first to be handed.
use Rattle.std.specs.Prelude.{◌≡◌, ◌≢◌, ℕ, ◌==◌, Bool, true, false, List, [], ◌∷◌, ◌++◌}
use Rattle.group_queue.specs.declared.posted.Posted.{Posted}
use Rattle.group_queue.specs.declared.view.Name.{Name}
use Rattle.group_queue.specs.declared.view.Name.TheVariants.{Port, Place, Finisher}
use Rattle.group_queue.specs.declared.view.Entry.{Entry}
use Rattle.group_queue.specs.declared.view.View.{View}

abbrev pub same_name : Name → Name → Bool
same_name (Port p) (Port q) = p == q
same_name (Port p) (Place q) = false
same_name (Port p) Finisher = false
same_name (Place p) (Port q) = false
same_name (Place p) (Place q) = p == q
same_name (Place p) Finisher = false
same_name Finisher (Port q) = false
same_name Finisher (Place q) = false
same_name Finisher Finisher = true

abbrev pub entry : Name → List Posted → Entry
entry name list = record { name = name; list = list }

-- the view of who has one name, and of who opened the queue and has given so many ports and places away
abbrev pub one : Name → List Posted → View
one name list = record { keeps = false; ports = 0; places = 0; entries = entry name list ∷ [] }

abbrev pub keeper : ℕ → ℕ → View
keeper ports places = record { keeps = true; ports = ports; places = places; entries = entry Finisher [] ∷ [] }

-- the list of the first name of a view
abbrev pub first_list : List Entry → List Posted
first_list [] = []
first_list (e ∷ es) = e.list

abbrev pub list_in : View → List Posted
list_in v = first_list v.entries

-- the entries of its other names
abbrev pub other_entries : List Entry → List Entry
other_entries [] = []
other_entries (e ∷ es) = es

abbrev pub others_in : View → List Entry
others_in v = other_entries v.entries

-- the view of who ends the group: what it popped, and what those did whose passes it took in
abbrev pub ending : ℕ → ℕ → List Posted → List Entry → View
ending ports places left es = record { keeps = true; ports = ports; places = places; entries = entry Finisher left ∷ es }

abbrev pub IsEnding : View → Type 0
IsEnding v = v ≡ ending v.ports v.places (list_in v) (others_in v)

-- one view with another's names after its own, and the view of who has no name
abbrev pub joined : View → View → View
joined v w = record v { entries = v.entries ++ w.entries }

abbrev pub with_entries : View → List Entry → View
with_entries v es = record v { entries = v.entries ++ es }

-- the view of who ends the group, once it has popped this
abbrev pub popping : View → List Posted → View
popping v left = ending v.ports v.places left (others_in v)

abbrev pub nobody : View
nobody = record { keeps = false; ports = 0; places = 0; entries = [] }

-- it is the view of this one name
abbrev pub IsOf : Name → View → Type 0
IsOf name v = v ≡ one name (list_in v)

-- the list of the first name of a view grows by a message
abbrev pub grow_first : Posted → List Entry → List Entry
grow_first posted [] = []
grow_first posted (e ∷ es) = entry e.name (e.list ++ posted ∷ []) ∷ es

abbrev pub grown : View → Posted → View
grown v posted = record v { entries = grow_first posted v.entries }

-- each entry is so, and no two have one name
abbrev pub Each : (Entry → Type 0) → List Entry → Type 0
Each P [] = Unit {0}
Each P (e ∷ es) = P e × Each P es

abbrev pub AreApart : List Entry → Type 0
AreApart [] = Unit {0}
AreApart (e ∷ es) = Each (λ other. other.name ≢ e.name) es × AreApart es
