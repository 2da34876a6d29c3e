-- How a broker ends with one report more.
use Rattle.std.proofs.Common.{◌≡◌, ◌⊎◌, suc, List, ◌∷◌, All, Contains, IsOk, Result, Ok, Err, refl, sym, subst, inl, inr, arith}
use Rattle.std.specs.Prelude.{Any}
use Rattle.std.proofs.lemmas.Bool.{false≢true}
use Rattle.std.proofs.lemmas.List.Elements.{All-cons}
use Rattle.text_io.specs.declared.error.RunError.{RunError}
use Rattle.text_io.specs.declared.error.RunError.TheVariants.{ReadFailed, TooManyReads, WriteFailed, Network, UsersUnread, NoRandomBytes, Memory, TooFewDescriptors, Unfinished, Line, UsersLine}
use Rattle.group_jobs.specs.declared.report.Report.{Report}
use Rattle.group_queue.specs.declared.error.FinishError.{FinishError}
use Rattle.group_queue.specs.declared.error.FinishError.TheVariants as refusals
use Rattle.tcp_server.specs.Lines.{EndsBy, IsRefused}

abbrev Reports : Type 0
Reports = List (Result Report FinishError)

abbrev IsNotRefused : Result Report FinishError → Type 0
IsNotRefused report = ¬ IsRefused report

any_more : (x : Result Report FinishError) (reports : Reports) → Any IsRefused reports → Any IsRefused (x ∷ reports)
any_more x reports (k, y, less, is, refused) = (suc k, y, omega (arith, less), is, refused)

contains_more : (x y : Result Report FinishError) (reports : Reports) → Contains reports y → Contains (x ∷ reports) y
contains_more x y reports (k, less, is) = (suc k, omega (arith, less), is)

none_refused : (report : Result Report FinishError) → IsOk report → IsNotRefused report
none_refused (Ok report) is refused = refused
none_refused (Err error) is refused = false≢true is

-- a report that is there
pub with_report : (end : Result (Unit {0}) RunError) (report : Report) (reports : Reports) → EndsBy end reports → EndsBy end (Ok report ∷ reports)
with_report (Ok done) report reports ends = All-cons IsOk (Ok report) reports refl ends
with_report (Err ReadFailed) report reports ends = All-cons IsOk (Ok report) reports refl ends
with_report (Err TooManyReads) report reports ends = ends
with_report (Err (WriteFailed fault)) report reports ends = ends
with_report (Err (Network fault)) report reports ends = All-cons IsOk (Ok report) reports refl ends
with_report (Err Memory) report reports ends = (contains_more (Ok report) (Err refusals.Memory) reports ends.0, All-cons IsNotRefused (Ok report) reports (λ refused. refused) ends.1)
with_report (Err TooFewDescriptors) report reports ends = ends
with_report (Err Unfinished) report reports ends = any_more (Ok report) reports ends
with_report (Err (Line number)) report reports ends = ends
with_report (Err UsersUnread) report reports ends = ends
with_report (Err NoRandomBytes) report reports ends = ends
with_report (Err (UsersLine number)) report reports ends = ends

-- one for which there was no memory
pub without_memory : (reports : Reports) → All IsOk reports → EndsBy {X = Unit {0}} (Err Memory) (Err refusals.Memory ∷ reports)
without_memory reports all =
    ((0, omega arith, refl), All-cons IsNotRefused (Err refusals.Memory) reports (λ refused. refused) (λ k d less. none_refused _ (all k d less)))

pub without_more : (error : RunError) (reports : Reports) → (error ≡ Memory) ⊎ (error ≡ Unfinished) → EndsBy {X = Unit {0}} (Err error) reports → EndsBy {X = Unit {0}} (Err error) (Err refusals.Memory ∷ reports)
without_more error reports (inl is) ends =
    let before = subst (λ e. EndsBy {X = Unit {0}} (Err e) reports) is ends in
    subst (λ e. EndsBy {X = Unit {0}} (Err e) (Err refusals.Memory ∷ reports)) (sym is)
    (contains_more (Err refusals.Memory) (Err refusals.Memory) reports before.0, All-cons IsNotRefused (Err refusals.Memory) reports (λ refused. refused) before.1)
without_more error reports (inr is) ends =
    let before = subst (λ e. EndsBy {X = Unit {0}} (Err e) reports) is ends in
    subst (λ e. EndsBy {X = Unit {0}} (Err e) (Err refusals.Memory ∷ reports)) (sym is) (any_more (Err refusals.Memory) reports before)

-- one of a group whose end was refused
pub refused : (report : Result Report FinishError) (reports : Reports) → IsRefused report → EndsBy {X = Unit {0}} (Err Unfinished) (report ∷ reports)
refused report reports is = (0, report, omega arith, refl, is)
