use Rattle.std.proofs.Common.{◌-◌, length, slice_get, sym, ap, ◌∙◌}
use Rattle.std.proofs.lemmas.Bool.{false≢true}
use Rattle.dispatch_core.proofs.Stored.{found_last, found_none}
use Rattle.dispatch_core.proofs.joining.has_at.Goals as goal

pub returns-in-Some : goal.returns-in-Some
returns-in-Some c =
    let runs = c.args.runs.now in
    let found = found_last runs c.args.job c.args.place c.requires.place c.requires.apart c.in-Some.run'.now (sym (c.in-Some.ensures.value ∙ ap (λ rs. slice_get rs (length rs - 1)) c.split_at.ensures.front)) in
    (λ is. found.0 (sym c.contains.ensures ∙ is), λ has. c.contains.ensures ∙ found.1 has)

pub returns-in-None : goal.returns-in-None
returns-in-None c =
    let runs = c.args.runs.now in
    let none = found_none runs c.args.job c.args.place c.requires.place c.requires.apart (sym (c.in-None.ensures.value ∙ ap (λ rs. slice_get rs (length rs - 1)) c.split_at.ensures.front)) in
    (λ is. absurd (false≢true is), λ has. absurd (none has))
