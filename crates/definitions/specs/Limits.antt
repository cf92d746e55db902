-- The limits and sizes of document 01, each named once; the words of a book, the largest costs and the longest stream are document 02's (W-205,
-- W-207), and so is the most walkers (W-206).
use Rattle.std.specs.Prelude.{ℕ, ◌*◌, ◌-◌}

-- how many machines, nodes and commands there are: each is a number under its limit
abbrev pub machines : ℕ
machines = 64

abbrev pub nodes : ℕ
nodes = 256

abbrev pub commands : ℕ
commands = 16

-- costs of transitions, and of leaving a machine, are under this
abbrev pub costs : ℕ
costs = 65536

-- the root is at level 1, and no machine is lower than this level
abbrev pub levels : ℕ
levels = 8

-- the words of a book and of a sheet
abbrev pub book_length : ℕ
book_length = 5057

abbrev pub sheet_length : ℕ
sheet_length = 2880

-- the word for a number that is not there (document 01: "none"; a blank node or command)
abbrev pub absent : ℕ
absent = 65535

-- the word for a transition that is not there (document 01: no arrow), and for a cost that is not there (a blank charge or cost)
abbrev pub blank : ℕ
blank = 4294967295

-- how many steps of names at most lead back to a start node
abbrev pub longest_chain : ℕ
longest_chain = 255

-- the largest cost of a step (document 02, W-207: a transition, and leaving at most 7 machines), and of a plan
abbrev pub largest_step_cost : ℕ
largest_step_cost = levels * (costs - 1)

abbrev pub largest_plan_cost : ℕ
largest_plan_cost = 255 * largest_step_cost

-- the longest stream that Write gives
abbrev pub longest_stream : ℕ
longest_stream = 34938

-- how many commands of a lent list Choose looks at, and how many bytes of its input the session reads
abbrev pub longest_list : ℕ
longest_list = 65536

abbrev pub longest_input : ℕ
longest_input = 65536

-- the length of the plan buffer of demand 3
abbrev pub plan_buffer : ℕ
plan_buffer = 255

-- the most walkers of one call, and their highest limit (document 02, W-206)
abbrev pub most_walkers : ℕ
most_walkers = 8
