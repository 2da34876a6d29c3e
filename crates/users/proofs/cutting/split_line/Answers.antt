use Rattle.std.proofs.Common.{◌∷◌, sym, ap, ◌∙◌, List, ℕ}
use Rattle.users.proofs.Cuts.{an_end, no_end, no_lines}
use Rattle.users.proofs.cutting.split_line.Goals as goal

pub returns-in-Some-clause-lines : goal.returns-in-Some-clause-lines
returns-in-Some-clause-lines c = an_end c.args.text.now c.in-Some.end c.requires c.in-Some.ensures.place

pub returns-in-None-clause-lines : goal.returns-in-None-clause-lines
returns-in-None-clause-lines c =
    no_end c.args.text.now c.requires c.in-None.ensures.place
    ∙ ap (λ (lines : List (List ℕ)). c.args.text.now ∷ lines) (sym no_lines)
