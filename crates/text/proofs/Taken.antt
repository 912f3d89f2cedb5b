-- What stands at the front of the bytes after one read more: what stood there, and then what this read put.
use Rattle.std.proofs.Common.{◌≡◌, ℕ, ◌+◌, ◌≤◌, List, ◌++◌, length, take}
use Rattle.std.proofs.lemmas.List.{take_at, drop_at, take-append-le, length-take-le}
use Rattle.std.proofs.Math.Seq.{take-add}
pub use Rattle.std.proofs.KnownBytes.{Consumes-trans}
use borrow.Rule.Slice.PartMut.{put_mid, post_of}

pub taken_more : (a n k : ℕ) (xs ys : List ℕ) → a ≤ length xs → n ≤ length ys → take (a + n) (put_mid a k xs ys) ≡ take a xs ++ take n ys
taken_more a n k xs ys within fits =
    let after = post_of a k xs in
    let front : length (take a xs) ≡ a = length-take-le a xs within in
    rw (take-add a n (put_mid a k xs ys), take_at (take a xs) (ys ++ after) a front, drop_at (take a xs) (ys ++ after) a front, take-append-le n ys after fits)

pub ruleset taken_so_far = (taken_more, Consumes-trans)
