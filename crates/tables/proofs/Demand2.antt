-- Demand 2 holds of whatever the contracts of the builder and of `key_links` allow. An accepted network passes the check, tables that
-- are long enough and numbers in range pass theirs, so neither refuses; then the contracts say that each byte is an entry's and each
-- set that of the key links, and entries are unique.
use Prim.Native.Nat.{ℕ, ◌*◌, ◌<◌}
use mathlib.Core.Path.{◌≡◌, ap, ◌∙◌}
use borrow.Author.Tests.{lt-leb}
use lib.ListN.{length}
use lib.Dec.{leb}
use Rattle.graph.specs.Network.{Network, WellFormed}
use Rattle.graph.specs.Set.{SetOf}
use Rattle.graph.specs.Entries.{Entry, KeyLink}
use Rattle.graph.proofs.Entries.{entry_one}
use Rattle.net.specs.Refusals.{accepted, table_length, interface_number, node_number}
use Rattle.net.specs.Check.{Accepted, verdict, check_network, or_else, refused_if}
use Rattle.net.specs.Rows.{Rows, network_of}
use Rattle.net.specs.Entry.{EntryByte}
use Rattle.net.specs.Verdict.{Verdict}
use Rattle.net.proofs.Accepted.{accepts_check, well_formed}
use Rattle.net.proofs.Verdicts.{or_else_second, not_refused}
use Rattle.tables.specs.Key.{KeyLinks, key_links_verdict, KeyLinksAnswer}
use Rattle.tables.specs.Build.{build_verdict, BuildAnswer}
use Rattle.tables.specs.Lent.{LentTables, LongEnough}
use Rattle.tables.specs.Demand2.{TheEntry, Demand2}
use Rattle.tables.proofs.Lengths.{long_tables}

-- a byte that is an entry's is the byte of the only one
the_entry : {N : Network} → WellFormed N → {X : ℕ → Type 0} {i d byte : ℕ} → EntryByte N X i d byte → TheEntry (Entry N X i d) byte
the_entry {N} W t = record { hop = t.hop; defined = t.entry; only = λ other e. entry_one N W e t.entry; is = t.is }

module _ (R : Rows) (A : Accepted R) where
  open R use {nodes as n, low}

  -- after the check of an accepted network the next check decides
  check_passed : (next : Verdict) → or_else (check_network R) next ≡ next
  check_passed next = or_else_second _ next (ap (λ (v : Verdict). v.number) (accepts_check R A))

  tables_pass_lem : {T : LentTables} → LongEnough n (length low) T → build_verdict R T ≡ verdict accepted
  unfolding build_verdict
  tables_pass_lem room = check_passed _ ∙ not_refused table_length (long_tables room)

  numbers_pass : {h d : ℕ} → h < 2 * length low → d < n → key_links_verdict R h d ≡ verdict accepted
  unfolding key_links_verdict
  numbers_pass {h} {d} interface destination =
      let passed : refused_if (leb (2 * length low) h) interface_number ≡ verdict accepted =
      not_refused interface_number (lt-leb _ _ interface) in
      check_passed _
      ∙ or_else_second _ _ (ap (λ (v : Verdict). v.number) passed)
      ∙ not_refused node_number (lt-leb _ _ destination)

  -- the answer of `key_links` on an interface and a node of the network
  pub key_links_found : {h d : ℕ} {keys : KeyLinks} → h < 2 * length low → d < n → KeyLinksAnswer R h d keys
      → (keys.number ≡ accepted) × SetOf (length low) (KeyLink (network_of R) d h) keys.links
  key_links_found {keys = keys} interface destination answer =
      let accepts : keys.number ≡ accepted = answer.number ∙ ap (λ (v : Verdict). v.number) (numbers_pass interface destination) in
      (accepts, answer.keys accepts)

  pub demand_2 : {before after : LentTables} {r : Verdict} → LongEnough n (length low) before → BuildAnswer R before r after
      → Demand2 R r after
  demand_2 {r = r} room answer =
      let W = well_formed R A in
      let number : r.number ≡ accepted = ap (λ (v : Verdict). v.number) (answer.verdict ∙ tables_pass_lem room) in
      let built = answer.built number in
      record {
        number = number;
        routing_entries = λ i d node destination. the_entry W (built.routes.bytes i d node destination);
        forwarding_entries = λ h d interface destination. the_entry W (built.forwards.bytes h d interface destination);
        backwarding_entries = λ h d interface destination. the_entry W (built.backwards.bytes h d interface destination);
        key_links = λ h d keys interface destination answers. key_links_found interface destination answers;
      }
