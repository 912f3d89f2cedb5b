-- The number of the bytes, low byte first, as a fold from the last byte to the first.
use Prim.Native.Nat.{ℕ}
use mathlib.Core.Path.{◌≡◌, refl, ap, ◌∙◌}
use mathlib.Core.List.{List, [], ◌∷◌, reverse}
use Rattle.std.specs.List.{fold}
use Rattle.std.proofs.lemmas.List.{reverse-append}
use Rattle.std.proofs.lemmas.List.Sums.{fold-append}
use Rattle.text.specs.Bytes.{shifted_by, number_of}

pub number_from_last : (bytes : List ℕ) → fold shifted_by 0 (reverse bytes) ≡ number_of bytes
unfolding number_of
number_from_last [] = refl
number_from_last (byte ∷ above) =
    ap (fold shifted_by 0) (reverse-append (byte ∷ []) above) ∙ fold-append shifted_by 0 (reverse above) (byte ∷ [])
    ∙ ap (λ v. shifted_by v byte) (number_from_last above)
