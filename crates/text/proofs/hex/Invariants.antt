-- `text::hex` writes the digits of one byte after another: so far those of the bytes before this one.
use Rattle.std.proofs.Common.{take}
use Rattle.std.specs.Io.KnownBytes.{Appends}
use Rattle.text.specs.Written.{hex_of}
use Rattle.text.proofs.hex.Given as goal

abbrev pub invariant-loop-byte : goal.invariant-loop-byte
invariant-loop-byte g l = Appends (g.W.Write.contents l.initial.out) (g.W.Write.contents l.out) (hex_of (take l.byte-index l.bytes))
