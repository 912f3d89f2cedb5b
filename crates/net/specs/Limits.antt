-- The limits of document 01, here and nowhere else in the contracts. src/limit.rt says the same numbers to the code.
use Rattle.std.specs.Prelude.{ℕ}

-- "1 to 32 nodes, numbered from 0. 0 to 64 links." "one weight for both directions, 1 to 65,535"
abbrev pub most_nodes : ℕ
most_nodes = 32

abbrev pub most_links : ℕ
most_links = 64

abbrev pub most_weight : ℕ
most_weight = 65535

-- "It walks every ordered pair of different nodes, without failure and for each failed link, with hop limit 64."
abbrev pub report_hops : ℕ
report_hops = 64
