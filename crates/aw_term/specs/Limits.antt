-- How large a specification and a choice may be: each limit by its name. The constants of the same names stand in src/limits.rt.
use Rattle.std.specs.Prelude.{ℕ}

-- roles
abbrev pub most_roles : ℕ
most_roles = 64

-- constructors
abbrev pub most_cons : ℕ
most_cons = 1024

-- parts of a constructor
abbrev pub most_parts : ℕ
most_parts = 8

-- sorts
abbrev pub most_sorts : ℕ
most_sorts = 256

-- values that a sort inherits, and patterns of a rule
abbrev pub most_inherited : ℕ
most_inherited = 8

-- results of a sort, and of a rule
abbrev pub most_results : ℕ
most_results = 8

-- rules
abbrev pub most_rules : ℕ
most_rules = 1024

-- parameters of a rule
abbrev pub most_params : ℕ
most_params = 8

-- arguments of a choice
abbrev pub most_arguments : ℕ
most_arguments = 8

-- children of a rule
abbrev pub most_children : ℕ
most_children = 8

-- variables of a rule
abbrev pub most_variables : ℕ
most_variables = 64

-- levels of a term
abbrev pub most_levels : ℕ
most_levels = 32

-- symbols in all terms of a rule, or in all arguments of a choice
abbrev pub most_symbols : ℕ
most_symbols = 256

-- parts of a node, each with a reference of its own
abbrev pub most_node_parts : ℕ
most_node_parts = 512

-- references behind one another in a message: the parts of a constructor, or what a node inherits
abbrev pub most_references : ℕ
most_references = 8

-- equations of one message
abbrev pub most_of_load : ℕ
most_of_load = 64
