-- What `key_links` promises, in graph's words: "every link u-v, in either of its directions taken as u to v, such that with all links
-- present j is the routing entry of i for d, and without that link the best path from u to d crosses from j to i. Given as a 64-bit set
-- by link number."
use Rattle.std.specs.Prelude.{ℕ, ◌*◌, ◌≡◌, ◌≢◌, Result, Ok, Err, length, leb}
use Rattle.graph.specs.Set.{SetOf}
use Rattle.graph.specs.Entries.{KeyLink}
use Rattle.net.specs.Refusals.{accepted, interface_number, node_number}
use Rattle.net.specs.Check.{check_network, or_else, refused_if}
use Rattle.net.specs.Rows.{Rows, network_of}
use Rattle.net.specs.Told.{number_of}
use Rattle.net.specs.Verdict.{Verdict}
use Rattle.net.specs.declared.refusal.PlacedRefusal.{PlacedRefusal}

-- What the entry answers: the set of key links by link number, bit k for link k; or a refusal with its place and the empty set.
pub record KeyLinks : Type 0 where
  pub number : ℕ
  pub place : ℕ
  pub links : ℕ

-- what its answer tells of the three
abbrev pub key_links_told : Result ℕ PlacedRefusal → KeyLinks
key_links_told (Ok links) = record { number = accepted; place = 0; links = links }
key_links_told (Err refused) = record { number = number_of refused.refusal; place = refused.place; links = 0 }

-- the network's refusals, then 13, "interface number not below twice the link count", then 11, "destination not below the node count"
unfoldable pub key_links_verdict : Rows → ℕ → ℕ → Verdict
key_links_verdict R h d =
    or_else (check_network R) (or_else (refused_if (leb (2 * length R.low) h) interface_number) (refused_if (leb R.nodes d) node_number))

-- What `key_links` promises: the refusal, with the empty set; or the key links of the interface, as a set by link number.
pub record KeyLinksAnswer (R : Rows) (h d : ℕ) (r : KeyLinks) : Type 0 where
  pub number : r.number ≡ (key_links_verdict R h d).number
  pub place : r.place ≡ (key_links_verdict R h d).place
  pub refused : r.number ≢ accepted → r.links ≡ 0
  pub keys : r.number ≡ accepted → SetOf (length R.low) (KeyLink (network_of R) d h) r.links
