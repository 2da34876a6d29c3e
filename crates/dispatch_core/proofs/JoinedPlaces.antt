-- What is written at a place of sorted runs.
use Rattle.std.proofs.Common.{◌≡◌, ℕ, suc, ◌+◌, ◌-◌, ◌≤◌, true, List, [], ◌∷◌, ◌++◌, length, take, drop, set, get_or, remove, Some, sym, ap, ◌∙◌, arith, append_assoc, length-append, take-append-drop}
use Rattle.std.proofs.lemmas.List.{get_or_at, set_at, take_at, drop_at, length-take-le, drop-drop, length_push}
use Rattle.dispatch_core.specs.declared.event.Job.{Job}
use Rattle.dispatch_core.specs.declared.runs.Run.{Run}
use Rattle.dispatch_core.specs.Joining.{EndsBefore, BeginsBehind}
use Rattle.dispatch_core.specs.Merging.{TakesBehind, Lengthens}

-- what stands at a place, and a write there
there : (front back : List Run) (run r : Run) (place : ℕ) → length front ≡ place → r ≡ get_or (front ++ run ∷ back) place r → r ≡ run
there front back run r place long read = read ∙ get_or_at front run back r place long

-- the last of the runs before a place
pub last_there : (front back : List Run) (job : Job) (r : Run) (place : ℕ) → (ends : EndsBefore front job) → length front ≡ place → r ≡ get_or (front ++ back) (place - 1) r → r ≡ ends.run
last_there front back job r place ends long read =
    let whole : front ++ back ≡ ends.front ++ ends.run ∷ back = ap (λ rs. rs ++ back) ends.there ∙ append_assoc ends.front (ends.run ∷ []) back in
    let one = ap length ends.there in
    let short : length ends.front ≡ place - 1 = omega (arith, length_push ends.front ends.run) in
    there ends.front back ends.run r (place - 1) short (read ∙ ap (λ rs. get_or rs (place - 1) r) whole)

pub last_written : (front back : List Run) (job : Job) (x : Run) (place : ℕ) → (ends : EndsBefore front job) → length front ≡ place → set (front ++ back) (place - 1) x ≡ ends.front ++ x ∷ back
last_written front back job x place ends long =
    let whole : front ++ back ≡ ends.front ++ ends.run ∷ back = ap (λ rs. rs ++ back) ends.there ∙ append_assoc ends.front (ends.run ∷ []) back in
    let one = ap length ends.there in
    let short : length ends.front ≡ place - 1 = omega (arith, length_push ends.front ends.run) in
    ap (λ rs. set rs (place - 1) x) whole ∙ set_at ends.front ends.run back x (place - 1) short

module _ (old : List Run) (job : Job) (place : ℕ) (within : place ≤ length old) where
  long : length (take place old) ≡ place
  long = length-take-le place old within

  behind_there : (begins : BeginsBehind (drop place old) job) (r : Run) → r ≡ get_or old place r → r ≡ begins.run
  behind_there begins r read =
      there (take place old) begins.back begins.run r place long (read ∙ ap (λ rs. get_or rs place r) (sym (take-append-drop place old) ∙ ap (λ rs. take place old ++ rs) begins.there))

  pub taken_behind : (new : List Run) (r : Run) → BeginsBehind (drop place old) job → r ≡ get_or old place r → new ≡ remove old place → TakesBehind old place job (Some r.last) new
  taken_behind new r begins read removed =
      let more : suc place ≡ place + 1 = omega arith in
      let back : drop (suc place) old ≡ begins.back = ap (λ n. drop n old) more ∙ sym (drop-drop 1 place old) ∙ ap (drop 1) begins.there in
      let left : new ≡ take place old ++ begins.back = removed ∙ ap (λ rs. take place old ++ rs) back in (
        begins,
        ap (λ run. run.last) (behind_there begins r read),
        ap (take place) left ∙ take_at (take place old) begins.back place long,
        ap (drop place) left ∙ drop_at (take place old) begins.back place long,
        let n = ap length left in omega (arith, length-append (take place old) begins.back, long),
      )

  pub lengthened : (last : ℕ) (r : Run) → EndsBefore (take place old) job → r ≡ get_or old (place - 1) r → Lengthens old place job last true (set old (place - 1) (record { port = r.port; from = r.from; last = last }))
  lengthened last r ends read =
      let whole = take-append-drop place old in
      let is : r ≡ ends.run = last_there (take place old) (drop place old) job r place ends long (read ∙ ap (λ rs. get_or rs (place - 1) r) (sym whole)) in
      let longer : Run = record { port = r.port; from = r.from; last = last } in (
        ends,
        ap (λ rs. set rs (place - 1) longer) (sym whole) ∙ last_written (take place old) (drop place old) job longer place ends long ∙ ap (λ q. ends.front ++ record { port = q.port; from = q.from; last = last } ∷ drop place old) is,
      )
