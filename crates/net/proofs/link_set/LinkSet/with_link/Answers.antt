-- `with_link` sets the bit of the link, one of at most `most_links`: it is not shifted out of a word of 64 bits.
use Prim.Native.Nat.{◌*◌, ◌^◌, ◌%◌}
use mathlib.Core.Path.{◌≡◌, ◌∙◌}
use native.Mathlib.Nat.{one-mul}
use native.Mathlib.Omega.{arith}
use lib.Dec.{lit<}
use lib.Pow.{shl_exact}
use Rattle.net.specs.inner.LinkSet.{with_link}
use Rattle.net.proofs.link_set.LinkSet.with_link.Goals as goal

pub returns : goal.returns
unfolding with_link
returns c =
    let k = c.args.link.0 in
    let bit : 1 * 2 ^ k % 2 ^ 64 ≡ 2 ^ k = shl_exact {a = 1} 1 k 64 (lit< tt) (omega arith) ∙ one-mul (2 ^ k) in
    rw bit
