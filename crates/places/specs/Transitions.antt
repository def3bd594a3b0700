-- The transitions of a net (document 01, Transitions), described as in document 000, section 5.3: a label, control moves, tests and one command.
-- Arcs come from the description once, as in its section 5.4.
use Rattle.std.specs.Prelude.{ℕ, suc, Bool, false, ◌&&◌, ◌||◌, List, [], ◌∷◌, ◌++◌, map, length, nat_lt}
use Rattle.lists.specs.Lists.{pick, same, from, range, flat, some}
use Rattle.scheme.specs.Scheme.{Scheme, Node, stop, choice, new, call, Branch, absent, silent, send, receive}
use Rattle.net.specs.Image.{Label, label_of}
use Rattle.places.specs.Values.{Values, private_value_list, values_of}
use Rattle.places.specs.Places.{Place, equals, differs, free, control, controls, common}

-- from one control place of a thread to another, each by its node and its index
pub record Move : Type 0 where
  pub from_node : ℕ
  pub from_index : ℕ
  pub to_node : ℕ
  pub to_index : ℕ

abbrev pub move : ℕ → ℕ → ℕ → ℕ → Move
move n k m j = record { from_node = n; from_index = k; to_node = m; to_index = j }

-- a name that has a value
pub record Test : Type 0 where
  pub name : ℕ
  pub value : ℕ

abbrev pub test : ℕ → ℕ → Test
test x v = record { name = x; value = v }

-- nothing, a name takes a value, a name gives its value up
pub data Command : Type 0 where
  skip : Command
  take : ℕ → ℕ → Command
  release : ℕ → ℕ → Command

pub record Description : Type 0 where
  pub label : Label
  pub moves : List Move
  pub tests : List Test
  pub command : Command

module _ (S : Scheme) where
  -- ---- arcs. "A read is both input and output." Only places that the net has are listed, so "if private" and "if bound" need no word here.

  -- "give [f=v]", "[y≠j] is taken"; New takes [*≠n] and reads every [x≠n]
  abbrev pub command_takes : Command → Place → Bool
  command_takes skip p = false
  command_takes (take y v) (equals x u) = false
  command_takes (take y v) (differs x u) = (same x y || S.restricted y) && same u v
  command_takes (take y v) (free u) = S.restricted y && same u v
  command_takes (take y v) (control n k) = false
  command_takes (release z v) (equals x u) = same x z && same u v
  command_takes (release z v) (differs x u) = false
  command_takes (release z v) (free u) = false
  command_takes (release z v) (control n k) = false

  -- "release z=v: take [z=v]; give [z≠v] (v private), or [*≠v] if z is restricted"
  abbrev pub command_gives : Command → Place → Bool
  command_gives skip p = false
  command_gives (take y v) (equals x u) = same x y && same u v
  command_gives (take y v) (differs x u) = S.restricted y && same u v
  command_gives (take y v) (free u) = false
  command_gives (take y v) (control n k) = false
  command_gives (release z v) (equals x u) = false
  command_gives (release z v) (differs x u) = same x z && same u v
  command_gives (release z v) (free u) = S.restricted z && same u v
  command_gives (release z v) (control n k) = false

  abbrev pub is_tested : List Test → Place → Bool
  is_tested ts (equals x v) = some (λ t. same t.name x && same t.value v) ts
  is_tested ts (differs x v) = false
  is_tested ts (free v) = false
  is_tested ts (control n k) = false

  abbrev pub is_left : List Move → Place → Bool
  is_left ms (equals x v) = false
  is_left ms (differs x v) = false
  is_left ms (free v) = false
  is_left ms (control n k) = some (λ m. same m.from_node n && same m.from_index k) ms

  abbrev pub is_reached : List Move → Place → Bool
  is_reached ms (equals x v) = false
  is_reached ms (differs x v) = false
  is_reached ms (free v) = false
  is_reached ms (control n k) = some (λ m. same m.to_node n && same m.to_index k) ms

  unfoldable pub is_input : Description → Place → Bool
  is_input d p = is_left d.moves p || (is_tested d.tests p || command_takes d.command p)

  unfoldable pub is_output : Description → Place → Bool
  is_output d p = is_reached d.moves p || (is_tested d.tests p || command_gives d.command p)

  -- ---- "'On' means the next place of the chain or the first place of the next node."

  -- from place k of node n, after whose last place node m begins
  abbrev pub on : ℕ → ℕ → ℕ → Move
  on n k m = pick (nat_lt (suc k) (controls S n)) (move n k n (suc k)) (move n k m 0)

module _ (S : Scheme) (U : Values) where
  -- "release z=v: take [z=v]; …; on." At node n, whose chain leads to node m
  abbrev pub releasing : ℕ → ℕ → ℕ → ℕ → ℕ → Description
  releasing n m k z v = record { label = label_of 1 n z; moves = on S n k m ∷ []; tests = []; command = release z v }

  -- the releases of a list of names, the first at place k
  unfoldable pub releases : ℕ → ℕ → ℕ → List ℕ → List Description
  releases n m k [] = []
  releases n m k (z ∷ zs) = map (releasing n m k z) (values_of S U z) ++ releases n m (suc k) zs

  -- "then copy f from a, by value v of a: read [a=v] if a is bound, take [f≠v] if private, give [f=v]; on."
  abbrev pub copying : ℕ → ℕ → ℕ → ℕ → ℕ → ℕ → Description
  copying n m k f a v = record { label = label_of 0 n f; moves = on S n k m ∷ []; tests = test a v ∷ []; command = take f v }

  unfoldable pub copies : ℕ → ℕ → ℕ → List ℕ → List ℕ → List Description
  copies n m k [] args = []
  copies n m k (f ∷ fs) [] = []
  copies n m k (f ∷ fs) (a ∷ args) = map (copying n m k f a) (values_of S U a) ++ copies n m (suc k) fs args

  -- "New r=n: take [*≠n], read [x≠n] for every input and formal; give [r=n]; on."
  abbrev pub making : ℕ → ℕ → ℕ → ℕ → Description
  making n r l v = record { label = label_of 2 n r; moves = move n 0 l 0 ∷ []; tests = []; command = take r v }

  -- "Choice: each silent branch."
  abbrev pub going : ℕ → ℕ → ℕ → Description
  going n b l = record { label = label_of 3 b 0; moves = move n 0 l 0 ∷ []; tests = []; command = skip }

  abbrev pub silents : ℕ → ℕ → Branch → List Description
  silents n b absent = []
  silents n b (silent l) = going n b l ∷ []
  silents n b (send a z l) = []
  silents n b (receive a y l) = []

  -- "Call: one transition on; …Copies precede releases; the last goes to the called root."
  abbrev pub calling : ℕ → ℕ → Description
  calling n m = record { label = label_of 5 n 0; moves = on S n 0 m ∷ []; tests = []; command = skip }

  abbrev pub from_node_descriptions : ℕ → Node → List Description
  from_node_descriptions n stop = releases n n 0 (S.held n)
  from_node_descriptions n (choice f c) = flat (λ b. silents n b (S.branch b)) (from f c)
  from_node_descriptions n (new r l) = map (making n r l) (private_value_list S U)
  from_node_descriptions n (call d) =
      calling n (S.root d) ∷
      (copies n (S.root d) 1 (S.formals d) (S.arguments n) ++ releases n (S.root d) (suc (length (S.formals d))) (S.held n))

  -- "communications by send branch, receive branch of another thread, channel value i common to both, sent value j. Bound channels are read at i, a bound sent
  -- name at j, [y≠j] is taken for private j, [y=j] given."
  abbrev pub communicating : ℕ → ℕ → ℕ → ℕ → ℕ → ℕ → ℕ → ℕ → ℕ → ℕ → Description
  communicating s a z l r e y m i j = record {
    label = label_of 4 s r;
    moves = move (S.home s) 0 l 0 ∷ move (S.home r) 0 m 0 ∷ [];
    tests = test a i ∷ test e i ∷ test z j ∷ [];
    command = take y j;
  }

  -- "A name sent on itself has only j=i."
  abbrev pub sent_on : ℕ → ℕ → ℕ → List ℕ
  sent_on a z i = pick (same z a) (i ∷ []) (values_of S U z)

  abbrev pub of_pair : ℕ → Branch → ℕ → Branch → List Description
  of_pair s absent r β = []
  of_pair s (silent l) r β = []
  of_pair s (send a z l) r absent = []
  of_pair s (send a z l) r (silent m) = []
  of_pair s (send a z l) r (send e y m) = []
  of_pair s (send a z l) r (receive e y m) =
      pick (same (S.thread (S.home s)) (S.thread (S.home r))) [] (flat (λ i. map (communicating s a z l r e y m i) (sent_on a z i)) (common S U a e))
  of_pair s (receive a y l) r β = []

  -- "By node", "Then communications"
  unfoldable pub descriptions : List Description
  descriptions =
      flat (λ n. from_node_descriptions n (S.node n)) (range S.nodes) ++
      flat (λ s. flat (λ r. of_pair s (S.branch s) r (S.branch r)) (range S.branches)) (range S.branches)
