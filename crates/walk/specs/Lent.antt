-- Three tables as they are lent to a step or a walk, filled by whomever: what their bytes say, and which are accepted (refusal 16).
use Rattle.std.specs.Prelude.{ℕ, zero, suc, ◌+◌, ◌*◌, ◌<◌, Bool, true, false, not, ◌≡◌, ◌≢◌, ◌⊎◌, List, length, get_or, eqb, leb}
use Rattle.graph.specs.Network.{Network, tail, head}
use Rattle.graph.specs.Entries.{Hop, here, onward, nowhere}
use Rattle.graph.specs.Walk.{Tables}
use Rattle.net.specs.Choice.{pick, either, both}
use Rattle.net.specs.Refusals.{table_length, table_entry}
use Rattle.net.specs.Rows.{Rows, network_of, tail_of, head_of}
use Rattle.net.specs.Check.{check_network, verdict, or_else, refused_if}
use Rattle.net.specs.Entry.{here_byte, nowhere_byte}
use Rattle.net.specs.Verdict.{Verdict}
use Rattle.tables.specs.Lent.{LentTables, tables_short}

-- "Interface 2k is link k entered from the low end towards the high end; interface 2k + 1 is the other direction": the one by which
-- link k leaves node i. What is no link, or not a link at i, leads nowhere; refusal 16 shuts that out.
unfoldable pub leaving : List ℕ → List ℕ → ℕ → ℕ → Hop
leaving low high i k =
    pick (leb (length low) k) nowhere
    (pick (eqb (get_or low k 0) i) (onward (2 * k))
    (pick (eqb (get_or high k 0) i) (onward (2 * k + 1)) nowhere))

-- what a byte says at the deciding node i, by the rows of low and of high ends
unfoldable pub hop_at : List ℕ → List ℕ → ℕ → ℕ → Hop
hop_at low high i byte = pick (eqb byte here_byte) here (pick (eqb byte nowhere_byte) nowhere (leaving low high i byte))

-- the entries for one destination: a routing row is a node's, a forwarding or backwarding row an interface's. A forwarding entry is
-- decided at the head of its interface, a backwarding entry at the tail.
unfoldable pub tables_for : Rows → LentTables → ℕ → Tables
tables_for R T d =
    record {
      routing = λ i. hop_at R.low R.high i (get_or T.routing (i * R.nodes + d) 0);
      forwarding = λ h. hop_at R.low R.high (head (network_of R) h) (get_or T.forwarding (h * R.nodes + d) 0);
      backwarding = λ h. hop_at R.low R.high (tail (network_of R) h) (get_or T.backwarding (h * R.nodes + d) 0);
    }

-- k is a link at node i, failed or not
pub record LinkAt (N : Network) (i k : ℕ) : Type 0 where
  pub numbered : k < N.links
  pub joins : (N.low k ≡ i) ⊎ (N.high k ≡ i)

-- One entry that passes 16: "some entry for the deciding node itself isn't 254, or some other entry is neither 255 nor a neighbour of
-- the deciding node" does not hold of it, and "Refusal 16 asks for a link at the deciding node in place of a neighbour" (document 02, L5).
pub record Passes (N : Network) (i d byte : ℕ) : Type 0 where
  pub own : d ≡ i → byte ≡ here_byte
  pub other : d ≢ i → (byte ≡ nowhere_byte) ⊎ LinkAt N i byte

-- a table of rows of n bytes, each row with its deciding node
abbrev pub TablePasses : Network → ℕ → (ℕ → ℕ) → List ℕ → Type 0
TablePasses N rows deciding table = (row d : ℕ) → row < rows → d < N.nodes → Passes N (deciding row) d (get_or table (row * N.nodes + d) 0)

-- all three
pub record TablesPass (N : Network) (T : LentTables) : Type 0 where
  pub routes : TablePasses N N.nodes (λ i. i) T.routing
  pub forwards : TablePasses N (2 * N.links) (head N) T.forwarding
  pub backwards : TablePasses N (2 * N.links) (tail N) T.backwarding

-- the same as a test
unfoldable pub all_below : ℕ → (ℕ → Bool) → Bool
all_below zero test = true
all_below (suc count) test = both (all_below count test) (test count)

unfoldable pub leads_on : Hop → Bool
leads_on here = false
leads_on (onward f) = true
leads_on nowhere = false

unfoldable pub byte_passes : List ℕ → List ℕ → ℕ → ℕ → ℕ → Bool
byte_passes low high i d byte = pick (eqb d i) (eqb byte here_byte) (either (eqb byte nowhere_byte) (leads_on (hop_at low high i byte)))

unfoldable pub table_passes : ℕ → List ℕ → List ℕ → ℕ → (ℕ → ℕ) → List ℕ → Bool
table_passes n low high rows deciding table =
    all_below rows (λ row. all_below n (λ d. byte_passes low high (deciding row) d (get_or table (row * n + d) 0)))

unfoldable pub tables_pass : ℕ → List ℕ → List ℕ → LentTables → Bool
tables_pass n low high T =
    both (table_passes n low high n (λ i. i) T.routing)
    (both (table_passes n low high (2 * length low) (head_of low high) T.forwarding)
    (table_passes n low high (2 * length low) (tail_of low high) T.backwarding))

-- 14, then 16, of tables lent beside an accepted network
unfoldable pub tables_verdict : Rows → LentTables → Verdict
tables_verdict R T =
    or_else (refused_if (tables_short R.nodes (length R.low) T) table_length)
    (refused_if (not (tables_pass R.nodes R.low R.high T)) table_entry)

-- Every entry that reads tables checks the network, then what it is asked (the number of that refusal, or 0), then the tables: "9, 3, 4,
-- then link by link 5, 7, 6" (and 7: document 02, L5) "[..] Then its own in the order 13, 12, 11 (source, then destination), 10, 14, 16".
unfoldable pub lent_verdict : Rows → LentTables → ℕ → Verdict
lent_verdict R T question = or_else (check_network R) (or_else (verdict question) (tables_verdict R T))
