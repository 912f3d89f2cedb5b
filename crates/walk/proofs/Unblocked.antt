-- What the look past the failed link tells: the entry leads over a link that stands; or nowhere, or over one that has failed too.
use mathlib.Core.Bool.{Bool, true, false}
use mathlib.Core.Path.{◌≡◌, refl, sym}
use mathlib.Core.Logic.{◌⊎◌, inl, inr}
use Rattle.std.specs.Prelude.{Option, Some, None}
use Rattle.graph.specs.Network.{link}
use Rattle.net.specs.Choice.{pick}
use Rattle.net.specs.Failure.{fails}
use Rattle.net.specs.declared.failure.Failure.{Failure}
use Rattle.net.specs.declared.interface.Interface.{Interface}
use Rattle.net.specs.declared.interface.Node.{Node}
use Rattle.walk.specs.inner.Steps.{unblocked}
use Rattle.walk.proofs.Hops.{found_one}

module _ (failure : Failure) where
  -- over a link that stands
  pub record Open (found : Option (Node × Interface)) (v : Node) (g : Interface) : Type 0 where
    pub is : found ≡ Some (v, g)
    pub stands : fails failure (link g.0) ≡ false

  -- over one that has failed
  pub record Shut (found : Option (Node × Interface)) : Type 0 where
    pub node : Node
    pub over : Interface
    pub is : found ≡ Some (node, over)
    pub down : fails failure (link over.0) ≡ true

  opened : (down : Bool) (x y : Node × Interface) → Some y ≡ pick down None (Some x) → (x ≡ y) × (down ≡ false)
  opened true x y e = cc
  opened false x y e = (sym (found_one e), refl)

  pub around_open : (found : Option (Node × Interface)) {v : Node} {g : Interface} → Some (v, g) ≡ unblocked failure found → Open found v g
  unfolding unblocked
  around_open None e = cc
  around_open (Some (w, h)) {v} {g} e =
      let (same, up) = opened (fails failure (link h.0)) (w, h) (v, g) e in
      record { is = λ t. Some (same t); stands = rw (sym (λ t. fails failure (link (same t).1.0))) up }

  shut : (down : Bool) (x : Node × Interface) → None ≡ pick down None (Some x) → down ≡ true
  shut true x e = refl
  shut false x e = cc

  pub around_shut : (found : Option (Node × Interface)) → None ≡ unblocked failure found → (found ≡ None) ⊎ Shut found
  unfolding unblocked
  around_shut None e = inl refl
  around_shut (Some (w, h)) e = inr (record { node = w; over = h; is = refl; down = shut _ (w, h) e })
