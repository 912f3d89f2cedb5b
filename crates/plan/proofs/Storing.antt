-- The links of an accepted network can be stored: the limits of document 01 are below what three groups hold.
use Prim.Native.Nat.{ℕ, ◌<◌}
use native.Mathlib.Omega.{arith}
use lib.ListN.{length, get_or}
use Rattle.net.specs.Rows.{Rows}
use Rattle.net.specs.Check.{Accepted}
use Rattle.plan.specs.inner.Put.{Storable}

pub link_storable : {R : Rows} → Accepted R → (k : ℕ) → k < length R.low
    → Storable (get_or R.low k 0) (get_or R.high k 0) (get_or R.weight k 0)
link_storable network k h =
    let link = network.joins k h in
    record { ordered = omega (arith, link); short = omega (arith, link); light = omega (arith, link) }
