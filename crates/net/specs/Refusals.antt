-- The refusal numbers of document 01 by name, here and nowhere else in the contracts.
use Rattle.std.specs.Prelude.{ℕ}

abbrev pub accepted : ℕ
accepted = 0

-- "the bytes end inside a number or before one that is due"
abbrev pub bytes_end : ℕ
bytes_end = 1

-- "a third group has its top bit set, or a number of several groups ends in a zero group"
abbrev pub number_form : ℕ
number_form = 2

-- "node count 0 or above 32"
abbrev pub node_count : ℕ
node_count = 3

-- "link count above 64"
abbrev pub link_count : ℕ
link_count = 4

-- "low end not a node, low end not below high end, or high end not a node"
abbrev pub link_ends : ℕ
link_ends = 5

-- "weight 0 or above 65,535"
abbrev pub link_weight : ℕ
link_weight = 6

-- "Refusal 7 is then given only for a descending pair, or an equal pair with a smaller weight" (document 02, L5)
abbrev pub link_order : ℕ
link_order = 7

-- "bytes left after the last link"
abbrev pub bytes_left : ℕ
bytes_left = 8

-- "the three rows differ in length"
abbrev pub row_lengths : ℕ
row_lengths = 9

-- "the room for the plan is shorter than the plan"
abbrev pub room : ℕ
room = 10

-- "source (a step's start node too) or destination not below the node count"
abbrev pub node_number : ℕ
node_number = 11

-- "failed link not below the link count"
abbrev pub failed_link : ℕ
failed_link = 12

-- "interface number not below twice the link count; in the row look-up instead, a row not wholly in the lent table"
abbrev pub interface_number : ℕ
interface_number = 13

-- "a lent table, to be filled or to be read, is shorter than its rows"
abbrev pub table_length : ℕ
table_length = 14

-- "the trace is shorter than the hop limit plus 1"
abbrev pub trace_length : ℕ
trace_length = 15

-- "in a table lent to a step or walk, some entry for the deciding node itself isn't 254, or some other entry is neither 255 nor a
-- neighbour of the deciding node"; "Refusal 16 asks for a link at the deciding node in place of a neighbour" (document 02, L5)
abbrev pub table_entry : ℕ
table_entry = 16
