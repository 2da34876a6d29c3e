-- Two new brokers of the same shares are alike, and so is what alike brokers tell.
use Rattle.std.proofs.Common.{◌≡◌, ℕ, ◌<◌, List, slice_get, Some, sym, ap, ◌∙◌, arith}
use Rattle.std.proofs.lemmas.List.{same_lists}
use Rattle.std.proofs.lemmas.Option.{same_Some, get_or_from_slice_get}
use Rattle.mqtt_topic.specs.Names.{Share}
use Rattle.group_jobs.specs.Stamps.{Held}
use Rattle.group_jobs.specs.Reports.{report_line}
use Rattle.session_desk.specs.Books.{Books, new_books, with_free}
use Rattle.local_group.proofs.Alike.{fresh}
use Rattle.local_broker.specs.Places.{GroupPlace, place_at}
use Rattle.local_broker.specs.Broker.{Broker, HasAllPlaces, IsNewBroker}
use Rattle.local_broker.specs.Alike.{AreAlike}
use Rattle.local_broker.specs.Reporting.{TellsLine}
use Rattle.local_broker.proofs.OneReport.{one_line}

one_desk : (one other : Books Held GroupPlace) → HasAllPlaces one → HasAllPlaces other → one ≡ other
one_desk one other a b =
    let free : one.free ≡ other.free =
    same_lists one.free other.free (a.cells ∙ sym b.cells)
    (λ cell d less.
    (let small : cell < 256 = (let many = a.cells in omega arith) in
    get_or_from_slice_get one.free cell (Some (place_at cell)) d (a.free cell small) ∙ sym (get_or_from_slice_get other.free cell (Some (place_at cell)) d (b.free cell small)))) in
    a.books ∙ ap (with_free new_books) free ∙ sym b.books

pub one_new : (capacity : ℕ) (shares : List Share) (one other : Broker) → IsNewBroker capacity shares one → IsNewBroker capacity shares other → AreAlike one other
one_new capacity shares one other a b =
    record {
      desk = one_desk one.desk other.desk a.desk b.desk;
      routes = a.routes ∙ sym b.routes;
      groups = record {
        as_many = a.eight ∙ sym b.eight;
        each = λ slot g h there here.
            (let is = a.groups slot g there in
            let was = b.groups slot h here in
            fresh g h is.fresh was.fresh (is.numbered ∙ sym was.numbered) (is.fits ∙ sym was.fits));
      };
    }

-- one line is told of a slot
pub one_told : (one other : Broker) (slot : ℕ) (line line' : List ℕ) → AreAlike one other → TellsLine one slot line → TellsLine other slot line' → line ≡ line'
one_told one other slot line line' alike a b =
    let share : a.share ≡ b.share = same_Some a.share b.share (sym a.bound ∙ ap (λ routes. slice_get routes slot) alike.routes ∙ b.bound) in
    a.is_line.told ∙ one_line a.group b.group a.share a.is_line.report b.is_line.report (alike.groups.each slot a.group b.group a.there b.there) a.is_line.reports b.is_line.reports
    ∙ ap (λ s. report_line s b.is_line.report) share ∙ sym b.is_line.told
