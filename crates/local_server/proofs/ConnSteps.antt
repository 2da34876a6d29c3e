-- The steps of a run, and one more.
use Rattle.std.proofs.Common.{◌≡◌, ◌≢◌, ℕ, Bool, true, false, nat_eq, if◌then◌else◌, List, [], ◌∷◌, ◌++◌, Option, None, refl, sym, ap, subst, ◌∙◌, append-nil}
use Rattle.std.proofs.lemmas.Bool.{eq-eqb, ne_eqb}
use Rattle.std.proofs.lemmas.Grind.{flat_map-append}
use Rattle.std.proofs.lemmas.List.Elements.{filter-append}
use Rattle.group_jobs.specs.Stamps.{Held}
use Rattle.member_window.specs.Marks.{Mark}
use Rattle.client_table.specs.Clients.{StepOutput}
use Rattle.local_server.specs.ConnSteps.{ConnStep, AllTell, conn_steps_of}
use Rattle.local_server.specs.Transcripts.{marks_for, transcript_of, IsStepOf, AreStepsOf, last_place, handed_in_step, all_handed}

-- the transcripts after one more step
more_marks : (number : ℕ) (conn_steps : List ConnStep) (conn_step : ConnStep) → transcript_of number (conn_steps ++ conn_step ∷ []) ≡ transcript_of number conn_steps ++ marks_for number conn_step
more_marks number conn_steps conn_step =
    flat_map-append (marks_for number) conn_steps (conn_step ∷ []) ∙ ap (λ (m : List (Mark Held)). transcript_of number conn_steps ++ m) (append-nil (marks_for number conn_step))

no_more_marks : (number : ℕ) (conn_steps : List ConnStep) (conn_step : ConnStep) → marks_for number conn_step ≡ [] → transcript_of number (conn_steps ++ conn_step ∷ []) ≡ transcript_of number conn_steps
no_more_marks number conn_steps conn_step none =
    more_marks number conn_steps conn_step ∙ ap (λ (m : List (Mark Held)). transcript_of number conn_steps ++ m) none ∙ append-nil (transcript_of number conn_steps)

pub own_marks : (number : ℕ) (conn_steps : List ConnStep) (conn_step : ConnStep) → conn_step.session ≡ number → transcript_of number (conn_steps ++ conn_step ∷ []) ≡ transcript_of number conn_steps ++ conn_step.marks
own_marks number conn_steps conn_step is =
    more_marks number conn_steps conn_step ∙ ap (λ (b : Bool). transcript_of number conn_steps ++ (if b then conn_step.marks else [])) (eq-eqb conn_step.session number is)

pub other_marks : (number : ℕ) (conn_steps : List ConnStep) (conn_step : ConnStep) → number ≢ conn_step.session → transcript_of number (conn_steps ++ conn_step ∷ []) ≡ transcript_of number conn_steps
other_marks number conn_steps conn_step other =
    no_more_marks number conn_steps conn_step (ap (λ (b : Bool). if b then conn_step.marks else []) (ne_eqb conn_step.session number (λ e. other (sym e))))

nothing : (b : Bool) (m : List (Mark Held)) → m ≡ [] → (if b then m else []) ≡ []
nothing true m none = none
nothing false m none = refl

pub quiet_marks : (number : ℕ) (conn_steps : List ConnStep) (conn_step : ConnStep) → conn_step.marks ≡ [] → transcript_of number (conn_steps ++ conn_step ∷ []) ≡ transcript_of number conn_steps
quiet_marks number conn_steps conn_step none = no_more_marks number conn_steps conn_step (nothing (nat_eq conn_step.session number) conn_step.marks none)

pub more_handed : (conn_steps : List ConnStep) (conn_step : ConnStep) → all_handed (conn_steps ++ conn_step ∷ []) ≡ all_handed conn_steps ++ handed_in_step conn_step
more_handed conn_steps conn_step =
    flat_map-append handed_in_step conn_steps (conn_step ∷ []) ∙ ap (λ (m : List Held). all_handed conn_steps ++ m) (append-nil (handed_in_step conn_step))

-- the steps of a connection after one more
lead_on : (conn_steps : List ConnStep) (before between after : Option ℕ) (conn_step : ConnStep) → AreStepsOf before conn_steps between → IsStepOf between conn_step after
    → AreStepsOf before (conn_steps ++ conn_step ∷ []) after
lead_on [] before between after conn_step are is = (after, subst (λ (o : Option ℕ). IsStepOf o conn_step after) are is, refl)
lead_on (first ∷ others) before between after conn_step are is = (are.0, are.1, lead_on others are.0 between after conn_step are.2 is)

conn_steps_with : (connection : ℕ) (conn_steps : List ConnStep) (conn_step : ConnStep) → conn_step.connection ≡ connection → conn_steps_of connection (conn_steps ++ conn_step ∷ []) ≡ conn_steps_of connection conn_steps ++ conn_step ∷ []
conn_steps_with connection conn_steps conn_step its =
    filter-append (λ (t : ConnStep). nat_eq t.connection connection) conn_steps (conn_step ∷ [])
    ∙ ap (λ (b : Bool). conn_steps_of connection conn_steps ++ (if b then conn_step ∷ [] else [])) (eq-eqb conn_step.connection connection its)

pub own_steps : (connection : ℕ) (conn_steps : List ConnStep) (conn_step : ConnStep) (between after : Option ℕ) → conn_step.connection ≡ connection → AreStepsOf None (conn_steps_of connection conn_steps) between
    → IsStepOf between conn_step after → AreStepsOf None (conn_steps_of connection (conn_steps ++ conn_step ∷ [])) after
own_steps connection conn_steps conn_step between after its are is =
    subst (λ (ts : List ConnStep). AreStepsOf None ts after) (sym (conn_steps_with connection conn_steps conn_step its)) (lead_on (conn_steps_of connection conn_steps) None between after conn_step are is)

pub other_steps : (connection : ℕ) (conn_steps : List ConnStep) (conn_step : ConnStep) → connection ≢ conn_step.connection → conn_steps_of connection (conn_steps ++ conn_step ∷ []) ≡ conn_steps_of connection conn_steps
other_steps connection conn_steps conn_step other =
    filter-append (λ (t : ConnStep). nat_eq t.connection connection) conn_steps (conn_step ∷ [])
    ∙ ap (λ (b : Bool). conn_steps_of connection conn_steps ++ (if b then conn_step ∷ [] else [])) (ne_eqb conn_step.connection connection (λ e. other (sym e)))
    ∙ append-nil (conn_steps_of connection conn_steps)

-- where the steps of a connection lead, after one more
last_of : (conn_steps : List ConnStep) (conn_step : ConnStep) → last_place (conn_steps ++ conn_step ∷ []) ≡ conn_step.place
last_of [] conn_step = refl
last_of (first ∷ []) conn_step = refl
last_of (first ∷ second ∷ others) conn_step = last_of (second ∷ others) conn_step

pub own_place : (connection : ℕ) (conn_steps : List ConnStep) (conn_step : ConnStep) → conn_step.connection ≡ connection → last_place (conn_steps_of connection (conn_steps ++ conn_step ∷ [])) ≡ conn_step.place
own_place connection conn_steps conn_step its = ap last_place (conn_steps_with connection conn_steps conn_step its) ∙ last_of (conn_steps_of connection conn_steps) conn_step

-- what is said first, and then
pub told_on : (outputs more : List StepOutput) (conn_steps others : List ConnStep) → AllTell outputs conn_steps → AllTell more others → AllTell (outputs ++ more) (conn_steps ++ others)
told_on [] more [] others told those = those
told_on [] more (conn_step ∷ conn_steps) others told those = absurd told
told_on (first ∷ outputs) more [] others told those = absurd told
told_on (first ∷ outputs) more (conn_step ∷ conn_steps) others told those = (told.0, told_on outputs more conn_steps others told.1 those)
