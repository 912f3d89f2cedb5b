-- The key links of an interface, by what is kept for its head once all links were tried. A key link asks that the head's best path leads
-- straight back over the interface: where the head is the destination, has no path, or routes elsewhere, there is none, and the code's
-- set is empty; else the set kept is that of the key links. And an empty set says that no link is key.
use Prim.Native.Nat.{ℕ, ◌^◌, ◌≤◌, ◌<◌}
use mathlib.Core.Bool.{true}
use mathlib.Core.Path.{◌≡◌, refl, ap, ◌∙◌}
use mathlib.Core.Logic.{◌≢◌}
use mathlib.Core.List.{List, ◌∷◌}
use native.Mathlib.Nat.{zero-div}
use native.Mathlib.Decide.{ℕ_discrete, dec_lt}
use native.Mathlib.Omega.{arith}
use borrow.Author.Tests.{ne_eqb, eq-eqb}
use Rattle.graph.specs.Network.{Network, WellFormed, link, reverse, head}
use Rattle.graph.specs.Path.{All}
use Rattle.graph.specs.Set.{SetOf}
use Rattle.graph.specs.Entries.{KeyLink, Free}
use Rattle.graph.proofs.Interfaces.{link_reverse, reverse_reverse, head_reverse}
use Rattle.graph.proofs.Chain.{Best, first_present, first_tail}
use Rattle.graph.proofs.Agreement.{path_best}
use Rattle.graph.proofs.Sets.{set_empty, set_whole}
use Rattle.net.specs.inner.LinkSet.{value, no_links, is_empty}
use Rattle.net.specs.declared.link_set.LinkSet.{LinkSet}
use Rattle.net.proofs.LinkSets.{value_none, empty_value}
use Rattle.paths.specs.inner.Cost.{unknown}
use Rattle.paths.specs.inner.Column.{Shows}
use Rattle.paths.specs.declared.cost.Cost.{Cost}
use Rattle.paths.proofs.ColumnEntry.{known_true, known_false, shown_best, shown_onward}
use Rattle.tables.specs.declared.kept.Kept.{Kept}
use Rattle.tables.specs.inner.Detours.{keys_for, KeysBelow, Keeps}
use Rattle.tables.proofs.KeyTest.{key_not_at_destination}

-- the code's set, case by case
module _ (h : ℕ) (whole : Cost) (kept : Kept) where
  keys_unknown : unknown ≤ whole.sum → keys_for h whole kept ≡ no_links
  unfolding keys_for
  keys_unknown lacks = simp ((known_false whole).1 lacks)

  module _ (known : whole.sum < unknown) where
    keys_elsewhere : whole.first ≢ reverse h → keys_for h whole kept ≡ no_links
    unfolding keys_for
    keys_elsewhere other = simp ((known_true whole).1 known, ne_eqb whole.first (reverse h) other)

    keys_back : whole.first ≡ reverse h → keys_for h whole kept ≡ kept.keys
    unfolding keys_for
    keys_back returns = simp ((known_true whole).1 known, eq-eqb whole.first (reverse h) returns)

-- The interface that a node with a way on would send straight back over: it enters the node, and its link is present.
module _ (N : Network) (W : WellFormed N) {X : ℕ → Type 0} {i d : ℕ} {whole : Cost}
    (shown : Shows N X i d whole) (away : i ≢ d) (known : whole.sum < unknown) where
  leads : (p : List ℕ) × Best N X i (whole.first ∷ p) d
  leads = let (p, m) = shown_onward N W shown away known in (p, m.best)

  pub back_enters : head N (reverse whole.first) ≡ i
  back_enters = head_reverse N whole.first ∙ first_tail N leads.1.chain

  pub back_present : N.Present (link (reverse whole.first))
  back_present = rw (link_reverse whole.first) (first_present N leads.1.chain)

module _ (N : Network) (W : WellFormed N) {d : ℕ} (h : ℕ) where
  -- a set that has a key link is not 0
  pub key_in_set : {k set : ℕ} → SetOf N.links (KeyLink N d h) set → KeyLink N d h k → set ≢ 0
  key_in_set {k} are key z = omega (arith, zero-div (2 ^ k), rw z at ((are.bits k (W.numbered k key.present)).1 key))

  -- so an empty set says that no link is key; and it is right where none is
  empty_free : (keys : LinkSet) → SetOf N.links (KeyLink N d h) (value keys) → is_empty keys ≡ true → (k : ℕ) → Free N d h k
  empty_free keys are empty k key = key_in_set are key ((empty_value keys).0 empty)

  free_empty : (keys : LinkSet) → ((k : ℕ) → Free N d h k) → keys ≡ no_links → SetOf N.links (KeyLink N d h) (value keys)
  free_empty keys free is = rw (is, value_none) (set_empty free)

  -- where a link is key, the cost of the head is that of a path straight back
  module _ {whole : Cost} (shown : Shows N All (head N h) d whole) {k : ℕ} (key : KeyLink N d h k) where
    pub key_known : whole.sum < unknown
    key_known = (shown_best N W shown (path_best N W key.routing)).known

    pub key_returns : whole.first ≡ reverse h
    key_returns = (shown_best N W shown (path_best N W key.routing)).first _ _ refl

  module _ (whole : Cost) (kept : Kept) (shown : Shows N All (head N h) d whole) (keeps : Keeps N (head N h) d N.links whole kept) where
    pub kept_keys : SetOf N.links (KeyLink N d h) (value (keys_for h whole kept))
    kept_keys =
        elim (dec_lt whole.sum unknown) [
          | no apart ↦ free_empty _ (λ k key. apart (key_known shown key)) (keys_unknown h whole kept (omega arith))
          | yes known ↦ elim (ℕ_discrete whole.first (reverse h)) [
            | no other ↦ free_empty _ (λ k key. other (key_returns shown key)) (keys_elsewhere h whole kept known other)
            | yes returns ↦ rw (keys_back h whole kept known returns) (by_destination known returns)
          ]
        ]
      where
        by_destination : whole.sum < unknown → whole.first ≡ reverse h → SetOf N.links (KeyLink N d h) (value kept.keys)
        by_destination known returns =
            elim (ℕ_discrete (head N h) d) [
              | yes here ↦ free_empty _ (λ k key. key_not_at_destination N W here key) (keeps.none_here here)
              | no away ↦
                  let back : reverse whole.first ≡ h = ap reverse returns ∙ reverse_reverse h in
                  let below : KeysBelow N d h N.links kept.keys = rw back at (keeps.keys away known) in
                  set_whole below
            ]

    -- so where nothing is kept no link is key
    pub none_kept_free : is_empty kept.keys ≡ true → (k : ℕ) → Free N d h k
    none_kept_free empty k key =
        empty_free _ kept_keys (rw (keys_back h whole kept (key_known shown key) (key_returns shown key)) empty) k key
