use Rattle.std.proofs.Common.{bytes_eq, slice_get, sym, ap, ◌∙◌}
use Rattle.std.specs.Map.{lookup}
use Rattle.indexmap.specs.IndexMap.{values}
use Rattle.users.specs.Layout.{rights_at}
use Rattle.users.specs.Rights.{rights_from}
use Rattle.users.specs.Table.{stored_of}
use Rattle.users.proofs.Seen.{stored_of-seen, none_is, rights_at-seen}
use Rattle.users.proofs.shared.SharedUsers.into_rights.Goals as goal

pub returns-in-Some : goal.returns-in-Some
returns-in-Some c =
    let entries = c.self.inside.users.value.entries in
    let name = c.args.name.now in
    let found = ap (λ map. slice_get (values map) c.in-Some.index) (sym c.deref.ensures) ∙ c.in-Some.ensures.value ∙ ap (λ map. lookup (λ key. bytes_eq name key.items) map.entries) c.deref.ensures ∙ sym (stored_of-seen name entries) in
    c.at.ensures
    ∙ ap (λ table. rights_at table c.in-Some.index) (sym c.self.view_is)
    ∙ rights_at-seen entries c.in-Some.index
    ∙ ap rights_from found ∙ ap (λ table. rights_from (stored_of table name)) c.self.view_is

pub returns-in-None : goal.returns-in-None
returns-in-None c =
    let entries = c.self.inside.users.value.entries in
    let name = c.args.name.now in
    let none = ap (λ map. lookup (λ key. bytes_eq name key.items) map.entries) (sym c.deref.ensures) ∙ none_is _ c.in-None.ensures.found in
    c.all.ensures ∙ sym (ap rights_from (ap (λ table. stored_of table name) (sym c.self.view_is) ∙ stored_of-seen name entries ∙ none))
