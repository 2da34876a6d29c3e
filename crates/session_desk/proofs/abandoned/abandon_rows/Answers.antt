use Rattle.std.proofs.Common.{[], length, ap, ◌∙◌, arith, length-append}
use Rattle.std.proofs.lemmas.Bool.{false≢true}
use Rattle.session_desk.proofs.Seen.{no_length}
use Rattle.session_desk.proofs.TakenOut.{none_left}
use Rattle.session_desk.proofs.abandoned.abandon_rows.Goals as goal

pub destroy_empty-requires : goal.destroy_empty-requires
destroy_empty-requires g c =
    no_length c.pop.new.self.entries (let old = ap length c.in_default.ensures.entries ∙ length-append c.pop.new.self.entries [] in let none = none_left (length c.rows.rows.entries) (λ some. false≢true (c.in_default.ensures.found.1 some)) in omega arith)
