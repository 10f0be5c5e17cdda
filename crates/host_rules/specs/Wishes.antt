-- What a host call asks for: its sources from the left, and then its name. No store is looked at.
use Rattle.std.specs.Prelude.{ℕ, List, Option, Some, None, Result, Ok, ok_or, slice_index}
use Rattle.trapeze_io.specs.Answers.{◌>>=◌}
use Rattle.labelled_channel.specs.declared.channels.Channel.{Channel}
use Rattle.wasm_ast.specs.declared.hosts.HostName.{HostName}
use Rattle.wasm_ast.specs.declared.hosts.HostName.TheVariants as host
use Rattle.gate_rules.specs.declared.gate.Gate.{Gate}
use Rattle.trapeze_lines.specs.declared.outcome.Cause.{Cause}
use Rattle.trapeze_lines.specs.declared.outcome.Cause.TheVariants.{Unknown}
use Rattle.host_rules.specs.Guests.{Asked}
use Rattle.host_rules.specs.Ranges.{key_at, name_at, bytes_at}
use Rattle.host_rules.specs.Rules.{Rules, label_named, channel_named, gate_named}

pub data Wish : Type 0 where
  -- the input, into a range
  Inputs : ℕ → ℕ → Wish
  -- the value of a key, into a range
  Reads : List ℕ → ℕ → ℕ → Wish
  -- a write of a value or of absent under a key
  Writes : List ℕ → Option (List ℕ) → Wish
  -- a message into a channel, by its name
  Sends : List ℕ → Channel → List ℕ → Wish
  -- another label
  Raises : ℕ → Wish
  Replies : List ℕ → Wish
  -- the name of the label, into a range
  OwnLabels : ℕ → ℕ → Wish
  -- bytes through a gate
  Releases : Gate → List ℕ → Wish

-- what a call asks for, by its four operands: a name that nothing has traps
abbrev pub wish_of : Rules → List ℕ → HostName → ℕ → ℕ → ℕ → ℕ → Result Wish Cause
wish_of P m host.Input x y z w = Ok (Inputs x y)
wish_of P m host.Read x y z w = do
  key ← key_at m x y
  Ok (Reads key z w)
wish_of P m host.Write x y z w = do
  key ← key_at m x y
  value ← bytes_at m z w
  Ok (Writes key (Some value))
wish_of P m host.Delete x y z w = do
  key ← key_at m x y
  Ok (Writes key None)
wish_of P m host.Send x y z w = do
  name ← name_at m x y
  bytes ← bytes_at m z w
  channel ← ok_or (channel_named P name) Unknown
  Ok (Sends name channel bytes)
wish_of P m host.Raise x y z w = do
  name ← name_at m x y
  label ← ok_or (label_named P name) Unknown
  Ok (Raises label)
wish_of P m host.Reply x y z w = do
  bytes ← bytes_at m x y
  Ok (Replies bytes)
wish_of P m host.OwnLabel x y z w = Ok (OwnLabels x y)
wish_of P m host.Release x y z w = do
  name ← name_at m x y
  bytes ← bytes_at m z w
  gate ← ok_or (gate_named P name) Unknown
  Ok (Releases gate bytes)

-- what is asked for over a memory
abbrev pub wish : Rules → List ℕ → Asked → Result Wish Cause
wish P memory a = wish_of P memory a.name (slice_index a.args 0) (slice_index a.args 1) (slice_index a.args 2) (slice_index a.args 3)
