-- What the check of an interface and a destination answers, one refusal after the other.
use Prim.Native.Nat.{ℕ, ◌*◌, ◌≤◌, ◌<◌}
use mathlib.Core.Bool.{true}
use mathlib.Core.Path.{◌≡◌, sym, ap, ◌∙◌}
use mathlib.Core.Logic.{◌≢◌}
use native.Mathlib.Omega.{arith}
use borrow.Author.Tests.{le-leb, lt-leb, leb-false}
use lib.Dec.{leb}
use lib.ListN.{length}
use Rattle.graph.specs.Network.{link}
use Rattle.net.specs.Refusals.{accepted, interface_number, node_number}
use Rattle.net.specs.Check.{verdict, check_network, refused_if}
use Rattle.net.specs.Rows.{Rows}
use Rattle.net.specs.Verdict.{Verdict}
use Rattle.net.proofs.Accepted.{accepts_check, check_accepts}
use Rattle.net.proofs.Told.{number_refuses}
use Rattle.net.proofs.Verdicts.{or_else_first, or_else_second, first_accepted, second_accepted, is_refused, not_refused, passed_test}
use Rattle.tables.specs.Key.{key_links_verdict}
use Rattle.tables.specs.inner.Given.{Asked}

-- a verdict that the code finds to refuse nothing, as the definition's
pub none_refused : {found said : Verdict} → found ≡ said → found.number ≡ accepted → said.number ≡ accepted
none_refused is free = rw is at free

module _ (R : Rows) (h d : ℕ) where
  open R use {nodes as n, low}

  pub network_refused : (check_network R).number ≢ accepted → key_links_verdict R h d ≡ check_network R
  unfolding key_links_verdict
  network_refused refused = or_else_first _ _ refused

  module _ (passed : (check_network R).number ≡ accepted) where
    pub interface_refused : length low ≤ link h → key_links_verdict R h d ≡ verdict interface_number
    unfolding key_links_verdict link
    interface_refused past =
        let test : leb (2 * length low) h ≡ true = le-leb (2 * length low) h (omega arith) in
        let refusal = is_refused interface_number test in
        let refuses : (refused_if (leb (2 * length low) h) interface_number).number ≢ accepted =
        λ e. omega (arith, ap (λ v. v.number) refusal, e) in
        or_else_second _ _ passed ∙ or_else_first _ _ refuses ∙ refusal

    module _ (interface : link h < length low) where
      interface_passed : refused_if (leb (2 * length low) h) interface_number ≡ verdict accepted
      unfolding link
      interface_passed = not_refused interface_number (lt-leb (2 * length low) h (omega arith))

      -- the destination decides
      destination_left : key_links_verdict R h d ≡ refused_if (leb n d) node_number
      unfolding key_links_verdict
      destination_left = or_else_second _ _ passed ∙ or_else_second _ _ (ap (λ v. v.number) interface_passed)

      pub destination_refused : n ≤ d → key_links_verdict R h d ≡ verdict node_number
      destination_refused past = destination_left ∙ is_refused node_number (le-leb _ _ past)

      pub keys_accepted : d < n → key_links_verdict R h d ≡ check_network R
      keys_accepted node =
          destination_left ∙ not_refused node_number (lt-leb _ _ node) ∙ sym (accepts_check R (check_accepts R passed))

  -- what an accepted call may rely on
  pub accepted_asked : (key_links_verdict R h d).number ≡ accepted → Asked R h d
  unfolding key_links_verdict
  accepted_asked e =
      let rest = second_accepted _ _ e in
      record {
        interface = leb-false _ _ (passed_test _ interface_number (λ z. omega arith) (first_accepted _ _ rest));
        destination = leb-false _ _ (passed_test _ node_number (λ z. omega arith) (second_accepted _ _ rest));
      }

  -- and its verdict names no place
  pub accepted_verdict : (key_links_verdict R h d).number ≡ accepted → key_links_verdict R h d ≡ verdict accepted
  unfolding link key_links_verdict
  accepted_verdict e =
      let asked = accepted_asked e in
      let below = asked.interface in
      let checked = accepts_check R (check_accepts R (first_accepted _ _ e)) in
      keys_accepted (ap (λ v. v.number) checked) (omega arith) asked.destination ∙ checked

-- what the code's check of a question needs
pub ruleset key_verdicts = (network_refused, interface_refused, destination_refused, keys_accepted, number_refuses)
