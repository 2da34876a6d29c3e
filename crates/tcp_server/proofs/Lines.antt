-- The lines of reports, from the first slot on.
use Rattle.std.proofs.Common.{◌≡◌, List, [], ◌∷◌, ◌++◌, length, Result, refl, ap, ◌∙◌}
use Rattle.mqtt_topic.specs.Names.{Share}
use Rattle.group_jobs.specs.declared.report.Report.{Report}
use Rattle.group_queue.specs.declared.error.FinishError.{FinishError}
use Rattle.tcp_server.specs.Lines.{line_of, lines_of}

pub no_shares : (shares : List Share) (reports : List (Result Report FinishError)) → length shares ≡ 0 → lines_of shares reports ≡ []
no_shares [] reports none = refl
no_shares (share ∷ shares) reports none = cc

pub no_reports : (shares : List Share) (reports : List (Result Report FinishError)) → length reports ≡ 0 → lines_of shares reports ≡ []
no_reports [] [] none = refl
no_reports (share ∷ shares) [] none = refl
no_reports shares (report ∷ reports) none = cc

pub one_line : (shares : List Share) (reports : List (Result Report FinishError)) (share : Share) (report : Result Report FinishError) (others : List Share) (rest : List (Result Report FinishError))
    → shares ≡ share ∷ others → reports ≡ report ∷ rest → lines_of shares reports ≡ line_of share report ++ lines_of others rest
one_line shares reports share report others rest first second = ap (λ xs. lines_of xs reports) first ∙ ap (λ ys. lines_of (share ∷ others) ys) second
