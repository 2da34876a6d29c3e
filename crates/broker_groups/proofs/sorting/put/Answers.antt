-- It stands at the end of its row.
use Rattle.std.proofs.Common.{refl}
use Rattle.std.proofs.lemmas.Option.{slice_get_read}
use Rattle.broker_groups.proofs.sorting.put.Goals as goal

pub returns : goal.returns
returns g c = record {
  before = c.index_mut.result.now;
  there = slice_get_read c.args.rows.now.items _ c.args.at c.index_mut.result.now refl c.requires.within c.index_mut.ensures.value;
  after = c.push_reserved.new.self;
  items_are = c.push_reserved.ensures.items;
  longer = c.push_reserved.ensures.len;
  room_is = c.push_reserved.ensures.capacity;
  becomes = refl;
}
