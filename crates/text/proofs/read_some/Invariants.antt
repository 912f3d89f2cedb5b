-- `read_some`: the bytes keep their number, and an interrupted read has taken nothing.
use Rattle.std.proofs.Common.{◌≡◌, length}
use Rattle.std.specs.Io.KnownBytes.{Keeps}
use Rattle.text.proofs.read_some.Given as goal

abbrev pub invariant-loop : goal.invariant-loop
invariant-loop g l = record {
  same_length : length l.bytes ≡ length l.initial.bytes;
  kept : Keeps (g.R.Read.remaining l.initial.input) (g.R.Read.remaining l.input);
}
