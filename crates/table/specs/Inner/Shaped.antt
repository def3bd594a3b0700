-- What a table's words tell once causes 1 to 6 do not apply: the nodes form trees, each child above its parent.
use Rattle.std.specs.Prelude.{◌≡◌, true, false, List, [], ◌∷◌, ◌++◌, ℕ, ◌+◌, ◌≤◌, ◌<◌}
use Rattle.lists.specs.Lists.{member}
use Rattle.scheme.specs.Words.{publics, bounds, definitions, threads, nodes, branches, arguments, names, root, formals, formal_count, node_first, node_second, is_choice, is_new, is_call_node, branch_name, channel, next, is_silent, arguments_of}
use Rattle.scheme.specs.Owners.{held, binds_of}

-- why node k is there, with what leads to it
pub data Reached (w : List ℕ) (k : ℕ) : Type 0 where
  from-root : (d : ℕ) → d < definitions w → root w d ≡ k → Reached w k
  from-new : (n : ℕ) → n < k → is_new w n ≡ true → node_second w n ≡ k → Reached w k
  from-branch : (n b : ℕ) → n < k → is_choice w n ≡ true → node_first w n ≤ b → b < node_first w n + node_second w n → next w b ≡ k → Reached w k

-- branch b is one of those that node n chooses among
pub record BranchOf (w : List ℕ) (n b : ℕ) : Type 0 where
  pub inside : n < nodes w
  pub choice : is_choice w n ≡ true
  pub low : node_first w n ≤ b
  pub high : b < node_first w n + node_second w n

pub record Shaped (w : List ℕ) : Type 0 where
  pub few-publics : publics w ≤ 32
  pub few-bounds : bounds w ≤ 32
  pub few-definitions : definitions w ≤ 32
  pub few-threads : threads w ≤ 8
  pub some-node : 1 ≤ nodes w
  pub few-nodes : nodes w ≤ 256
  pub few-branches : branches w ≤ 256
  pub few-arguments : arguments w ≤ 256
  pub root-inside : (d : ℕ) → d < definitions w → root w d < nodes w
  pub root-held : (d : ℕ) → d < definitions w → held w (root w d) ≡ formals w d
  pub new-inside : (n : ℕ) → n < nodes w → is_new w n ≡ true → (n < node_second w n) × (node_second w n < nodes w)
  pub new-name : (n : ℕ) → n < nodes w → is_new w n ≡ true → (publics w ≤ node_first w n) × (node_first w n < names w)
  pub new-held : (n : ℕ) → n < nodes w → is_new w n ≡ true → held w (node_second w n) ≡ held w n ++ (node_first w n ∷ [])
  pub choice-inside : (n : ℕ) → n < nodes w → is_choice w n ≡ true → node_first w n + node_second w n ≤ branches w
  pub next-inside : (n b : ℕ) → n < nodes w → is_choice w n ≡ true → node_first w n ≤ b → b < node_first w n + node_second w n → (n < next w b) × (next w b < nodes w)
  pub next-held : (n b : ℕ) → n < nodes w → is_choice w n ≡ true → node_first w n ≤ b → b < node_first w n + node_second w n → held w (next w b) ≡ held w n ++ binds_of w b
  pub channel-inside : (b : ℕ) → b < branches w → is_silent w b ≡ false → channel w b < names w
  pub name-inside : (b : ℕ) → b < branches w → is_silent w b ≡ false → branch_name w b < names w
  pub call-inside : (n : ℕ) → n < nodes w → is_call_node w n ≡ true → (node_first w n < definitions w) × (node_second w n + formal_count w (node_first w n) ≤ arguments w)
  pub argument-inside : (n x : ℕ) → n < nodes w → is_call_node w n ≡ true → member x (arguments_of w n) ≡ true → x < names w
  pub reached : (k : ℕ) → k < nodes w → Reached w k
