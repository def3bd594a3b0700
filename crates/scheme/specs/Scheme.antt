-- A table's words decoded once. What other crates define stands over a Scheme and looks at no word.
-- Numbers outside their section have harmless meanings: a node there is a Stop that holds nothing, a branch there is absent.
use Rattle.std.specs.Prelude.{Bool, true, false, ◌&&◌, List, [], ◌∷◌, ℕ, ltb, length}
use Rattle.lists.specs.Lists.{pick, same, member, first_from}
use Rattle.scheme.specs.Words
use Rattle.scheme.specs.Words.{is_bound_name, name_kind_of, node_first, node_second, is_choice, is_new, is_call_node, is_silent, is_send, is_receive, channel, branch_name, next, definition_thread, arguments_of}
use Rattle.scheme.specs.Owners
use Rattle.scheme.specs.Owners.{Owner}

-- a Choice has its first branch and its count of branches, a New its name and its child, a Call the definition called
pub data Node : Type 0 where
  stop : Node
  choice : ℕ → ℕ → Node
  new : ℕ → ℕ → Node
  call : ℕ → Node

-- a send has its channel, the name sent and the next node, a receive its channel, the name bound and the next node
pub data Branch : Type 0 where
  absent : Branch
  silent : ℕ → Branch
  send : ℕ → ℕ → ℕ → Branch
  receive : ℕ → ℕ → ℕ → Branch

abbrev pub present : Branch → Bool
present absent = false
present (silent l) = true
present (send a z l) = true
present (receive a y l) = true

abbrev pub next_node : Branch → ℕ
next_node absent = 0
next_node (silent l) = l
next_node (send a z l) = l
next_node (receive a y l) = l

-- the names that a branch binds
abbrev pub binds : Branch → List ℕ
binds absent = []
binds (silent l) = []
binds (send a z l) = []
binds (receive a y l) = y ∷ []

-- what binds a name: a New, a receive, or a definition of which it is a formal
pub data Binder : Type 0 where
  by_new : ℕ → Binder
  by_receive : ℕ → Binder
  by_formal : ℕ → Binder
  unbound : Binder

pub record Scheme : Type 0 where
  -- the table's length, and its counts
  pub size : ℕ
  pub publics : ℕ
  pub bounds : ℕ
  pub definitions : ℕ
  pub threads : ℕ
  pub nodes : ℕ
  pub branches : ℕ
  -- by name
  pub restricted : ℕ → Bool
  pub binder : ℕ → Binder
  pub thread_of_name : ℕ → ℕ
  -- by definition
  pub root : ℕ → ℕ
  pub formals : ℕ → List ℕ
  -- by thread
  pub entry : ℕ → ℕ
  -- by node
  pub node : ℕ → Node
  pub owner : ℕ → Owner
  pub arguments : ℕ → List ℕ
  pub held : ℕ → List ℕ
  pub definition : ℕ → ℕ
  pub thread : ℕ → ℕ
  -- by branch
  pub branch : ℕ → Branch
  pub home : ℕ → ℕ

module _ (w : List ℕ) where
  unfoldable pub node_at : ℕ → Node
  node_at n =
      pick (ltb n (Words.nodes w))
      (pick (is_choice w n) (choice (node_first w n) (node_second w n))
      (pick (is_new w n) (new (node_first w n) (node_second w n))
      (pick (is_call_node w n) (call (node_first w n)) stop)))
      stop

  unfoldable pub branch_at : ℕ → Branch
  branch_at b =
      pick (ltb b (Words.branches w))
      (pick (is_silent w b) (silent (next w b))
      (pick (is_send w b) (send (channel w b) (branch_name w b) (next w b))
      (pick (is_receive w b) (receive (channel w b) (branch_name w b) (next w b)) absent)))
      absent

  unfoldable pub arguments_from : ℕ → List ℕ
  arguments_from n = pick (ltb n (Words.nodes w) && is_call_node w n) (arguments_of w n) []

  -- the first New, receive or definition that binds a name, in this order
  unfoldable pub pick_binder : ℕ → ℕ → ℕ → Binder
  pick_binder n b d =
      pick (ltb n (Words.nodes w)) (by_new n) (pick (ltb b (Words.branches w)) (by_receive b) (pick (ltb d (Words.definitions w)) (by_formal d) unbound))

  unfoldable pub binder_of : ℕ → Binder
  unfolding pick_binder
  binder_of x =
      pick_binder (first_from (Words.nodes w) (λ n. is_new w n && same (node_first w n) x) 0 (Words.nodes w))
      (first_from (Words.branches w) (λ b. is_receive w b && same (branch_name w b) x) 0 (Words.branches w))
      (first_from (Words.definitions w) (λ d. member x (Words.formals w d)) 0 (Words.definitions w))

  -- the thread of what binds a name; a name that nothing binds has none, told by the count of threads
  abbrev pub binder_thread : Binder → ℕ
  binder_thread (by_new n) = Owners.thread w n
  binder_thread (by_receive b) = Owners.branch_thread_of w b
  binder_thread (by_formal d) = definition_thread w d
  binder_thread unbound = Words.threads w

  unfoldable pub scheme : Scheme
  scheme = record {
    size = length w;
    publics = Words.publics w;
    bounds = Words.bounds w;
    definitions = Words.definitions w;
    threads = Words.threads w;
    nodes = Words.nodes w;
    branches = Words.branches w;
    restricted = λ x. is_bound_name w x && same (name_kind_of w x) 0;
    binder = binder_of;
    thread_of_name = λ x. binder_thread (binder_of x);
    root = Words.root w;
    formals = λ d. pick (ltb d (Words.definitions w)) (Words.formals w d) [];
    entry = Words.entry w;
    node = node_at;
    owner = Owners.owner w;
    arguments = arguments_from;
    held = Owners.held w;
    definition = Owners.definition w;
    thread = Owners.thread w;
    branch = branch_at;
    home = Owners.home w;
  }
