use Rattle.std.proofs.Common.{slice_get, refl, sym, ap, ◌∙◌}
use Rattle.std.proofs.lemmas.Option.{slice_get_read}
use Rattle.local_broker.proofs.supply.LocalSupply.line.Goals as goal

pub returns : goal.returns
returns c =
    let found = c.in-Some.ensures.lookup in
    let routes = c.shares.ensures.value ∙ ap (λ b. b.routes) c.self.view_is in
    record {
      share = c.in-Some.share.now;
      bound = (λ i. slice_get (sym routes i) (sym c.from.ensures i)) ∙ slice_get_read c.shares.result.now _ c.from.result c.in-Some.share.now refl found.3.0 found.1;
      group = c.group.result.now;
      there = c.group.ensures;
      is_line = c.in_ok-line.ensures;
    }
