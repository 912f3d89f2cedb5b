-- Entries as bytes: which byte each kind of entry gives, and that an entry's byte is one.
use Prim.Native.Nat.{ℕ}
use mathlib.Core.Path.{◌≡◌, refl, sym, ap, ◌∙◌}
use Rattle.graph.specs.Network.{Network, WellFormed, link}
use Rattle.graph.specs.Entries.{here, onward, nowhere, Entry, at_destination}
use Rattle.graph.proofs.Entries.{entry_one}
use Rattle.net.specs.Entry.{here_byte, nowhere_byte, byte_of, EntryByte}

module _ {N : Network} {X : ℕ → Type 0} {i d : ℕ} where
  -- one entry, one byte
  pub byte_one : WellFormed N → {a b : ℕ} → EntryByte N X i d a → EntryByte N X i d b → a ≡ b
  byte_one W s t = s.is ∙ ap byte_of (entry_one N W s.entry t.entry) ∙ sym t.is

  pub here_byte_lem : i ≡ d → EntryByte N X i d here_byte
  unfolding byte_of
  here_byte_lem e = record { hop = here; entry = at_destination e; is = refl }

  pub onward_byte : {f : ℕ} → Entry N X i d (onward f) → EntryByte N X i d (link f)
  unfolding byte_of
  onward_byte {f} entry = record { hop = onward f; entry = entry; is = refl }

  pub nowhere_byte_lem : Entry N X i d nowhere → EntryByte N X i d nowhere_byte
  unfolding byte_of
  nowhere_byte_lem entry = record { hop = nowhere; entry = entry; is = refl }
