-- The numbers of document 01, by the number of the refusal that each decides.
use Rattle.std.specs.Prelude.{ℕ}

-- 1: the cells of scratch, of 16 bits, that must be lent
abbrev pub scratch_cells : ℕ
scratch_cells = 16384

-- 2: the bytes of a file
abbrev pub max_file : ℕ
max_file = 49152

-- 3: the digits of a line
abbrev pub max_digits : ℕ
max_digits = 1280

-- 4: the bytes of a name; a name has at least 1
abbrev pub max_name : ℕ
max_name = 32

-- 4: the bytes of a decimal text or of a byte string
abbrev pub max_text : ℕ
max_text = 64

-- 4: the fields of a constructor
abbrev pub max_arity : ℕ
max_arity = 16

-- 4: the parts of a tuple type, at least
abbrev pub min_tuple : ℕ
min_tuple = 2

-- 4: the parts of a tuple type, at most
abbrev pub max_tuple : ℕ
max_tuple = 16

-- 6: the types of a file
abbrev pub max_types : ℕ
max_types = 64

-- 6: the constructors of a file
abbrev pub max_constructors : ℕ
max_constructors = 256

-- 6: the constructors of one type
abbrev pub max_in_type : ℕ
max_in_type = 32

-- 6: the clauses of a file
abbrev pub max_clauses : ℕ
max_clauses = 64

-- 9: the constructors, literals and wildcards in the simplified clauses
abbrev pub max_nodes : ℕ
max_nodes = 4096

-- 10: the calls of either walk
abbrev pub max_calls : ℕ
max_calls = 65536

-- 10: the cells held by open calls
abbrev pub max_cells : ℕ
max_cells = 16384

-- 10: the constructors and wildcards in the final missing rows
abbrev pub max_missing : ℕ
max_missing = 4096

-- 11: the bytes of the program's report buffer
abbrev pub report_bytes : ℕ
report_bytes = 32768
