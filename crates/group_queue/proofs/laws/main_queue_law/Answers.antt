-- What each pass knows is read off the one past.
use Rattle.std.proofs.Common.{◌++◌, ◌≢◌, sym, ap, ◌∙◌, subst, eqb, [], Contains}
use Rattle.std.proofs.lemmas.List.Elements.{filter-append}
use Rattle.dispatch_core.specs.Lawful.{RisesByPort}
use Rattle.group_queue.specs.declared.posted.Posted.{Posted}
use Rattle.group_queue.specs.declared.view.Name.TheVariants.{Port, Place}
use Rattle.group_queue.specs.Views.{one}
use Rattle.group_queue.specs.Past.{through}
use Rattle.group_queue.specs.Places.{jobs_in}
use Rattle.group_queue.proofs.MainLaws.{posts, popped_rise, popped_apart, popped_in, split_apart, front_rise, all_rise}
use Rattle.group_queue.proofs.Carried.{carried_one, with_one}
use Rattle.group_queue.proofs.laws.main_queue_law.Goals as goal

pub returns-clause-end : goal.returns-clause-end
returns-clause-end c = λ port sent items stands.
    let h = stands.holds in
    let mine = (h.fits stands.pass (one (Port port) sent) stands.there).entries.0.1 in
    (through port (posts h.past), mine ∙ filter-append (λ (posted : Posted). eqb posted.job.port port) (posts h.past) items)

pub returns-clause-order : goal.returns-clause-order
returns-clause-order c = λ place firsts items stands.
    let h = stands.holds in
    let mine = (h.fits stands.pass (one (Place place) firsts) stands.there).entries.0.1 in
    subst (λ l. RisesByPort (jobs_in l)) (sym mine) (popped_rise (Place place) h.past (front_rise (posts h.past) items h.numbered))

pub returns-clause-one_place : goal.returns-clause-one_place
returns-clause-one_place c = λ items views h pass other m n firsts others apart at at' job here there.
    let mine = (h.fits pass (one (Place m) firsts) at).entries.0 in
    let theirs = (h.fits other (one (Place n) others) at').entries.0 in
    let ne : Place m ≢ Place n = λ same. apart (sym mine.0 ∙ (ap h.owner same ∙ theirs.0)) in
    popped_apart (Place m) (Place n) ne h.past (front_rise (posts h.past) items h.numbered) job (subst (λ l. Contains (jobs_in l) job) mine.1 here) (subst (λ l. Contains (jobs_in l) job) theirs.1 there)

pub returns-clause-left : goal.returns-clause-left
returns-clause-left c = λ place firsts items stands job here there.
    let h = stands.holds in
    let mine = (h.fits stands.pass (one (Place place) firsts) stands.there).entries.0.1 in
    split_apart (posts h.past) items (all_rise [] (posts h.past ++ items) h.numbered) job (popped_in (Place place) h.past job (subst (λ l. Contains (jobs_in l) job) mine here)) there

pub returns-clause-carried : goal.returns-clause-carried
returns-clause-carried c = λ items views h place port firsts sent at at' posted there same. carried_one items views h place port firsts sent at at' posted there same

pub returns-clause-none_lost : goal.returns-clause-none_lost
returns-clause-none_lost c = λ items views h ports places kept each port sent at number posted there less. with_one items views h ports places kept each posted port sent at number there less
