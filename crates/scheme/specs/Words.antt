-- The process table as words: its counts, sections and fields (document 01, Process table).
-- Every accessor means something on any list of words: a word past the end reads 0.
use Rattle.std.specs.Prelude.{◌≡◌, Bool, ◌&&◌, List, [], map, ℕ, ◌+◌, ◌-◌, ◌*◌, ◌<◌, ltb, leb}
use Rattle.lists.specs.Lists.{pick, same, word, from}

-- r is the number, and fits a word
pub record Number (n r : ℕ) : Type 0 where
  pub is : r ≡ n
  pub small : r < 65536

-- Entry i of a section of single words, and word k of entry i of a section with 3 or 4 words an entry. The header's word s holds where the
-- section starts.
abbrev pub field1 : List ℕ → ℕ → ℕ → ℕ
field1 w s i = word w (word w s + i)

abbrev pub field3 : List ℕ → ℕ → ℕ → ℕ → ℕ
field3 w s i k = word w (word w s + 3 * i + k)

abbrev pub field4 : List ℕ → ℕ → ℕ → ℕ → ℕ
field4 w s i k = word w (word w s + 4 * i + k)

-- "The header has 13 words: counts P (public names), B (bound names), D (definitions), T (threads), M (nodes), C (branches),
-- A (arguments), then the offsets, in words, of six sections that follow one another without gaps"
module _ (w : List ℕ) where
  abbrev pub publics : ℕ
  publics = word w 0

  abbrev pub bounds : ℕ
  bounds = word w 1

  abbrev pub definitions : ℕ
  definitions = word w 2

  abbrev pub threads : ℕ
  threads = word w 3

  abbrev pub nodes : ℕ
  nodes = word w 4

  abbrev pub branches : ℕ
  branches = word w 5

  abbrev pub arguments : ℕ
  arguments = word w 6

  -- "Public names are numbered 0 to P−1, bound names from P"; names counts both
  abbrev pub names : ℕ
  names = publics + bounds

  abbrev pub is_public : ℕ → Bool
  is_public x = ltb x publics

  abbrev pub is_bound_name : ℕ → Bool
  is_bound_name x = leb publics x && ltb x names

  -- "names: B words, 0 restricted, 1 input, 2 formal"
  abbrev pub name_kind_of : ℕ → ℕ
  name_kind_of x = field1 w 7 (x - publics)

  -- "definitions: 4 words: thread, root node, first formal (a name number), formal count"
  abbrev pub definition_thread : ℕ → ℕ
  definition_thread d = field4 w 8 d 0

  abbrev pub root : ℕ → ℕ
  root d = field4 w 8 d 1

  abbrev pub first_formal : ℕ → ℕ
  first_formal d = field4 w 8 d 2

  abbrev pub formal_count : ℕ → ℕ
  formal_count d = field4 w 8 d 3

  -- a definition's formals, in order
  unfoldable pub formals : ℕ → List ℕ
  formals d = from (first_formal d) (formal_count d)

  -- "threads: the entry definition"
  abbrev pub entry : ℕ → ℕ
  entry t = field1 w 9 t

  -- "nodes: 3 words. 0 Stop 0 0; 1 Choice, first branch, count; 2 New, name, child; 3 Call, definition, first argument"
  abbrev pub node_kind : ℕ → ℕ
  node_kind n = field3 w 10 n 0

  abbrev pub node_first : ℕ → ℕ
  node_first n = field3 w 10 n 1

  abbrev pub node_second : ℕ → ℕ
  node_second n = field3 w 10 n 2

  abbrev pub is_stop_node : ℕ → Bool
  is_stop_node n = same (node_kind n) 0

  abbrev pub is_choice : ℕ → Bool
  is_choice n = same (node_kind n) 1

  abbrev pub is_new : ℕ → Bool
  is_new n = same (node_kind n) 2

  abbrev pub is_call_node : ℕ → Bool
  is_call_node n = same (node_kind n) 3

  -- the branches of a Choice; no other node has any
  unfoldable pub branches_of : ℕ → List ℕ
  branches_of n = pick (is_choice n) (from (node_first n) (node_second n)) []

  -- "branches: 4 words: kind, channel, name, next node. 0 silent (channel and name 0), 1 send, 2 receive"
  abbrev pub branch_kind : ℕ → ℕ
  branch_kind b = field4 w 11 b 0

  abbrev pub channel : ℕ → ℕ
  channel b = field4 w 11 b 1

  abbrev pub branch_name : ℕ → ℕ
  branch_name b = field4 w 11 b 2

  abbrev pub next : ℕ → ℕ
  next b = field4 w 11 b 3

  abbrev pub is_silent : ℕ → Bool
  is_silent b = same (branch_kind b) 0

  abbrev pub is_send : ℕ → Bool
  is_send b = same (branch_kind b) 1

  abbrev pub is_receive : ℕ → Bool
  is_receive b = same (branch_kind b) 2

  -- "arguments: names, one per formal of the definition called"
  abbrev pub argument : ℕ → ℕ
  argument a = field1 w 12 a

  -- the arguments of a Call, one per formal of the definition called
  unfoldable pub arguments_of : ℕ → List ℕ
  arguments_of n = map argument (from (node_second n) (formal_count (node_first n)))

  -- how many branches, or arguments, a node has
  abbrev pub branch_count_of : ℕ → ℕ
  branch_count_of n = pick (is_choice n) (node_second n) 0

  abbrev pub argument_count_of : ℕ → ℕ
  argument_count_of n = pick (is_call_node n) (formal_count (node_first n)) 0
