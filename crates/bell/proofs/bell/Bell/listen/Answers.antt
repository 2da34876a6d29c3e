use Rattle.std.proofs.Common.{◌∷◌, ◌++◌, ap, ◌∙◌}
use Rattle.atomic_table.specs.Table.{Me}
use Rattle.bell.specs.declared.step.BellStep.TheVariants.{Listened}
use Rattle.bell.specs.declared.step.BellView.{BellView}
use Rattle.bell.specs.Handles.{ListenerState}
use Rattle.bell.proofs.Counts.{rang_since}
use Rattle.bell.proofs.bell.Bell.listen.Goals as goal

pub returns : goal.returns
returns c =
    let told = c.listen-found.ensures.told in (
      c.listen-found.ensures.same ∙ ap (λ (e : ListenerState). e.bell) c.listener.view_is,
      ap (λ (e : ListenerState). e.worker) c.listener.view_is,
      (
        told.0,
        ap (λ (me : Me (Unit {0}) BellView). me.0.history) told.2 ∙ ap (λ (e : ListenerState). Listened e.worker ∷ (told.0 ++ e.history)) c.listener.view_is,
        rang_since told.0 c.listener.inside.pass.me.0.history _ _ (c.count_of-listener-inside.ensures ∙ told.1.rung) c.listener.invariant.2,
      ),
    )
