-- How a reader keeps what contracts see of it.
use Rattle.std.specs.Prelude.{◌+◌, ◌-◌, ◌^◌, ◌<◌, ◌≤◌, ◌==◌, length, drop}
use Rattle.std.specs.List.{position_or_len}
use Rattle.event_file.specs.Known.{IsNumbered}
use Rattle.event_file.specs.Reader.{Reader}
use Rattle.event_file.specs.declared.reader.EventReader.TheInside.{Inside}

abbrev pub reader_of : Inside → Reader
reader_of reader = record {
  known = reader.known;
  kept = drop reader.start reader.buffer.items;
  lines = reader.lines;
  fed = reader.fed;
  finished = reader.finished;
  bad = reader.bad;
}

-- the names can be told by their numbers, the bytes kept begin in the buffer, no line feed is among the first of them,
-- and each line used had a byte
pub record IsSound (reader : Inside) : Type 0 where
  pub numbered : IsNumbered reader.known
  pub begins : reader.start + reader.searched ≤ length reader.buffer.items
  pub no_end : reader.searched ≤ position_or_len (λ byte. byte == 10) (drop reader.start reader.buffer.items)
  pub counted : reader.lines + (length reader.buffer.items - reader.start) ≤ reader.fed
  pub few : reader.fed < 2 ^ 62
