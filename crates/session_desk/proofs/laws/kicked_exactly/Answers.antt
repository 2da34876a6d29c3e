use Rattle.std.proofs.Common.{false, inl, ⊎_elim, arith}
use Rattle.std.proofs.lemmas.List.{length-replicate}
use Rattle.session_desk.specs.Books.{new_books}
use Rattle.session_desk.proofs.Marked.{marked_all, none_marked}
use Rattle.session_desk.proofs.laws.kicked_exactly.Goals as goal

pub returns : goal.returns
returns g c cell calls b connection within made =
    let all = marked_all cell new_books b calls connection (let blank = length-replicate 1024 false in omega arith) made in (
      λ is. ⊎_elim (λ asked. asked) (λ was. absurd (none_marked connection within was.0)) (all.0 is),
      λ asked. all.1 (inl asked),
    )
