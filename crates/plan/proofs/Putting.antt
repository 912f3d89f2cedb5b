-- Three parts put one after the other, each at the place after the one before it: where there is room for all, each fits where it is
-- put, and together they are all. A link is its three numbers, and a plan its two counts and its links.
use Prim.Native.Nat.{ℕ, ◌+◌, ◌-◌, ◌≤◌}
use mathlib.Core.Path.{◌≡◌, refl, ap, ◌∙◌}
use mathlib.Core.List.{List, ◌++◌}
use native.Mathlib.Omega.{arith}
use lib.ListN.{length, length-append}
use Rattle.net.specs.Rows.{Rows}
use Rattle.net.specs.Check.{Accepted}
use Rattle.net.specs.inner.Overwritten.{overwritten}
use Rattle.net.proofs.Overwrite.{over_three, length_over}
use Rattle.plan.specs.Number.{stored}
use Rattle.plan.specs.Plan.{link_bytes, links_bytes, plan_start, plan_of}
use Rattle.plan.specs.inner.Put.{NumberFits, LinkFits, Put}

-- bytes that fit leave the room as long as it was
pub kept : {bytes before after : List ℕ} {at next : ℕ} → Put bytes at before after next → at + length bytes ≤ length before
    → length after ≡ length before
kept {bytes} {before} {at} put fits = ap length put.room ∙ length_over before at bytes fits

module _ (first second third : List ℕ) (at : ℕ) (room : List ℕ) (fits : at + length (first ++ (second ++ third)) ≤ length room) where
  all_length : length (first ++ (second ++ third)) ≡ length first + length second + length third
  all_length = simp length-append (omega arith)

  first_fits : at + length first ≤ length room
  first_fits = omega (arith, all_length)

  module _ {room₁ : List ℕ} {at₂ : ℕ} (one : Put first at room room₁ at₂) where
    second_fits : at₂ + length second ≤ length room₁
    second_fits = omega (arith, all_length, one.place, kept one first_fits)

    module _ {room₂ : List ℕ} {at₃ : ℕ} (two : Put second at₂ room₁ room₂ at₃) where
      third_fits : at₃ + length third ≤ length room₂
      third_fits = omega (arith, all_length, one.place, two.place, kept one first_fits, kept two second_fits)

      three_put : {room₃ : List ℕ} {next : ℕ} → Put third at₃ room₂ room₃ next → Put (first ++ (second ++ third)) at room room₃ next
      three_put three =
          record {
            room = over_three room at first second third fits one.place one.room two.place two.room three.room;
            place = omega (arith, all_length, one.place, two.place, three.place);
          }

-- a link's three numbers
module _ {low high weight at : ℕ} {room : List ℕ} (link : LinkFits low high weight at room) where
  abbrev difference : List ℕ
  difference = stored (high - low)

  whole_link : at + length (stored low ++ (difference ++ stored weight)) ≤ length room
  unfolding link_bytes
  whole_link = link.fits

  pub low_fits : NumberFits low at room
  low_fits =
      record {
        storable = omega (arith, link.storable);
        fits = first_fits (stored low) difference (stored weight) at room whole_link;
      }

  module _ {room₁ : List ℕ} {second : ℕ} (low_put : Put (stored low) at room room₁ second) where
    pub difference_fits : NumberFits (high - low) second room₁
    difference_fits =
        record {
          storable = omega (arith, link.storable);
          fits = second_fits (stored low) difference (stored weight) at room whole_link low_put;
        }

    module _ {room₂ : List ℕ} {third : ℕ} (difference_put : Put difference second room₁ room₂ third) where
      pub weight_fits : NumberFits weight third room₂
      weight_fits =
          record {
            storable = link.storable.light;
            fits = third_fits (stored low) difference (stored weight) at room whole_link low_put difference_put;
          }

      pub link_put : {room₃ : List ℕ} {next : ℕ} → Put (stored weight) third room₂ room₃ next
          → Put (link_bytes low high weight) at room room₃ next
      unfolding link_bytes
      link_put = three_put (stored low) difference (stored weight) at room whole_link low_put difference_put

-- a plan's two counts and its links, put at the start of the room
abbrev links : Rows → List ℕ
links R = links_bytes (length R.low) R 0

module _ {R : Rows} (room : List ℕ) (network : Accepted R) (plan_fits : length (plan_of R) ≤ length room) where
  open R use {nodes as n, low}

  whole_plan : 0 + length (stored n ++ (stored (length low) ++ links R)) ≤ length room
  unfolding plan_of plan_start
  whole_plan = omega (arith, plan_fits)

  pub nodes_fit : NumberFits n 0 room
  nodes_fit =
      record {
        storable = omega (arith, network);
        fits = first_fits (stored n) (stored (length low)) (links R) 0 room whole_plan;
      }

  module _ {room₁ : List ℕ} {second : ℕ} (nodes_put : Put (stored n) 0 room room₁ second) where
    pub count_fits : NumberFits (length low) second room₁
    count_fits =
        record {
          storable = omega (arith, network);
          fits = second_fits (stored n) (stored (length low)) (links R) 0 room whole_plan nodes_put;
        }

    module _ {room₂ : List ℕ} {third : ℕ} (count_put : Put (stored (length low)) second room₁ room₂ third) where
      pub links_fit : third + length (links R) ≤ length room₂
      links_fit = third_fits (stored n) (stored (length low)) (links R) 0 room whole_plan nodes_put count_put

      pub plan_put : {room₃ : List ℕ} → room₃ ≡ overwritten room₂ third (links R) → room₃ ≡ overwritten room 0 (plan_of R)
      unfolding plan_of plan_start
      plan_put links_put =
          let three : Put (links R) third room₂ _ _ = record { room = links_put; place = refl } in
          (three_put (stored n) (stored (length low)) (links R) 0 room whole_plan nodes_put count_put three).room
