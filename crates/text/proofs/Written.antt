-- The digits of the bytes up to a place: of none there are none, and with one byte more there are that byte's two more.
use Rattle.std.proofs.Common.{◌≡◌, ℕ, ◌+◌, ◌<◌, List, [], ◌∷◌, ◌++◌, refl, add-one, length, take, get_or}
use Rattle.std.proofs.Math.Seq.{take-suc}
pub use Rattle.std.proofs.KnownBytes.{Appends-nil, Appends-trans}
use Rattle.text.specs.Written.{hex_of_byte, hex_of}

pub hex_none : hex_of [] ≡ []
unfolding hex_of
hex_none = refl

hex_append : (xs ys : List ℕ) → hex_of (xs ++ ys) ≡ hex_of xs ++ hex_of ys
unfolding hex_of
hex_append [] ys = refl
hex_append (x ∷ xs) ys = rw (hex_append xs ys)

hex_one : (byte : ℕ) → hex_of (byte ∷ []) ≡ hex_of_byte byte
unfolding hex_of
hex_one byte = refl

pub hex_more : (bytes : List ℕ) (i : ℕ) → i < length bytes → hex_of (take (i + 1) bytes) ≡ hex_of (take i bytes) ++ hex_of_byte (get_or bytes i 0)
hex_more bytes i h = rw (add-one, take-suc bytes i 0 h, hex_append (take i bytes) (get_or bytes i 0 ∷ []), hex_one (get_or bytes i 0))

-- what a turn of the loop in `hex` needs: the digits of one byte more, and that a writer which has got one text and then another has got both
pub ruleset digits_so_far = (hex_none, hex_more, Appends-nil, Appends-trans)
