-- There is room for the rooms that are not there yet.
use Rattle.std.proofs.Common.{◌≡◌, ◌≤◌, vec_len, vec_capacity}
use Rattle.sharing_tests.proofs.tcp.echo.free_rooms.Given as goal

abbrev pub invariant-rooms : goal.invariant-rooms
invariant-rooms l = (vec_len l.rooms ≡ l.counter) × (1025 ≤ vec_capacity l.rooms)
