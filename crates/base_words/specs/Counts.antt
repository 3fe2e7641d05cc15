-- "Greatest counts" of document 01, each once. Whatever is counted from 0 has its count here: names 0 to 15 are 16. (RULES: limits)
use Rattle.std.specs.Prelude.{ℕ, ◌+◌}

-- bytes of a text
abbrev pub text_most : ℕ
text_most = 65536

-- pools of a model
abbrev pub pools : ℕ
pools = 4

-- elements of a pool
abbrev pub elements : ℕ
elements = 32

-- edges of a list, and branches: from
abbrev pub fewest : ℕ
fewest = 2

-- to
abbrev pub branches : ℕ
branches = 8

-- pool numbers, from 1
abbrev pub pool_numbers : ℕ
pool_numbers = 9

-- edges of a pool, from 1
abbrev pub edges : ℕ
edges = 48

-- tasks of a pool, from 1
abbrev pub tasks : ℕ
tasks = 16

-- message names, from 0
abbrev pub names : ℕ
names = 16

-- instances of a pool
abbrev pub instances : ℕ
instances = 16

-- fields of an instance, from 0
abbrev pub fields : ℕ
fields = 16

-- stores of a collaboration, from 0
abbrev pub stores : ℕ
stores = 16

-- fields that a table may name: an instance's own, then the stores
abbrev pub fields_named : ℕ
fields_named = fields + stores

-- values of a message
abbrev pub values : ℕ
values = 4

-- assignments of a task
abbrev pub assignments : ℕ
assignments = 4

-- messages of a queue
abbrev pub messages : ℕ
messages = 64

-- tokens of an edge, and each of the two counts of a task
abbrev pub count_most : ℕ
count_most = 255
