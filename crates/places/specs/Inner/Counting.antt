-- Counts of transitions and of their arcs, by multiplication.
use Rattle.std.specs.Prelude.{◌≡◌, ℕ, ◌+◌, ◌*◌, ◌<◌, ◌≤◌, not, ◌&&◌, ltb, List, [], ◌∷◌, map, length, nat_le, nat_lt}
use Rattle.lists.specs.Lists.{pick, bit, same, word, range, from, keep}
use Rattle.scheme.specs.Words.{publics, nodes, branches, is_stop_node, is_choice, is_new, is_silent, is_send, is_receive}
use Rattle.scheme.specs.Words.{node_first, node_second, channel, branch_name, arguments_of}
use Rattle.scheme.specs.Owners.{held, branch_thread_of}
use Rattle.scheme.specs.Index.{branch_thread_at}
use Rattle.scheme.specs.Scheme.{scheme}
use Rattle.net.specs.Net.{Transition}
use Rattle.places.specs.Places.{common}
use Rattle.places.specs.Inner.Plan.{today, privates_word, values, read_names_word}
use Rattle.places.specs.Plan.{reach_in}
use Rattle.places.specs.Sides.{side_in, side_at, receives_of, partner_set, sets_at}
use Rattle.places.specs.Sets.{bit_at}
use Rattle.places.specs.Answers.{Sums, sums}
use Rattle.places.specs.declared.count.Sending.{Sending}

-- every count is below 2³²
pub record Few (s : Sums) : Type 0 where
  pub few-transitions : s.transitions < 4294967296
  pub few-inputs : s.inputs < 4294967296
  pub few-outputs : s.outputs < 4294967296

-- with the transitions of all elements of a list
abbrev pub add_one : Sums → Transition → Sums
add_one s t = sums (s.transitions + 1) (s.inputs + length t.inputs) (s.outputs + length t.outputs)

unfoldable pub count_all : {A : Type 0} → (A → Transition) → Sums → List A → Sums
count_all f s [] = s
count_all f s (x ∷ xs) = count_all f (add_one s (f x)) xs

-- `times` transitions more, each with as many arcs
abbrev pub add_times : Sums → ℕ → ℕ → ℕ → Sums
add_times s times i o = sums (s.transitions + times) (s.inputs + times * i) (s.outputs + times * o)

-- as many for public and for private values: the arcs of the latter are one number
abbrev pub add_both : Sums → ℕ → ℕ → ℕ → ℕ → ℕ → Sums
add_both s publics i o privates arcs = add_times (add_times s publics i o) privates arcs arcs

-- a step for each number of a list
unfoldable pub over : (Sums → ℕ → Sums) → Sums → List ℕ → Sums
over step s [] = s
over step s (x ∷ xs) = over step (step s x) xs

module _ (w : List ℕ) where
  -- 1 for a bound name, 0 for a public one
  abbrev pub bound_bit : ℕ → ℕ
  bound_bit x = bit (not (nat_lt x (publics w)))

  -- how many of the values are public, and how many private
  abbrev pub public_count : List ℕ → ℕ
  public_count vs = length (keep (λ v. ltb v (publics w)) vs)

  abbrev pub private_count : List ℕ → ℕ
  private_count vs = length (keep (λ v. nat_le (publics w) v) vs)

  -- a transition for each value of a name
  abbrev pub value_sums : Sums → ℕ → ℕ → ℕ → ℕ → Sums
  value_sums s x i o arcs = add_both s (public_count (values w x)) i o (private_count (values w x)) arcs

  -- the releases of a name
  unfoldable pub release_sums : Sums → ℕ → Sums
  release_sums s z = add_times (add_times s (public_count (values w z)) 2 1) (private_count (values w z)) 2 2

  -- the copies of an argument
  unfoldable pub copy_sums : Sums → ℕ → Sums
  copy_sums s a =
      add_times (add_times s (public_count (values w a)) (bound_bit a + 1) (bound_bit a + 2)) (private_count (values w a)) (bound_bit a + 2) (bound_bit a + 2)

  unfoldable pub silent_sums : Sums → ℕ → Sums
  silent_sums s b = pick (is_silent w b) (add_times s 1 1 1) s

  unfoldable pub node_sums : Sums → ℕ → Sums
  node_sums s n =
      pick (is_stop_node w n) (over release_sums s (held w n))
      (pick (is_choice w n) (over silent_sums s (from (node_first w n) (node_second w n)))
      (pick (is_new w n) (add_times s (privates_word w) (read_names_word w + 2) (read_names_word w + 2))
      (over release_sums (over copy_sums (add_times s 1 1 1) (arguments_of w n)) (held w n))))

  -- the communications of send b and receive r
  unfoldable pub pair_sums : ℕ → Sums → ℕ → Sums
  pair_sums b s r =
      let a = channel w b in
      let z = branch_name w b in
      let e = channel w r in
      let vs = common (scheme w) (today w) a e in
      let c = bound_bit a + bound_bit e in
      pick (same z a) (add_times (add_times s (public_count vs) (c + 2) (c + 3)) (private_count vs) (c + 3) (c + 3))
      (add_times (add_times s (length vs * public_count (values w z)) (c + bound_bit z + 2) (c + bound_bit z + 3))
      (length vs * private_count (values w z)) (c + bound_bit z + 3) (c + bound_bit z + 3))

  unfoldable pub partner_sums : ℕ → Sums → ℕ → Sums
  partner_sums b s r = pick (is_receive w r && not (same (branch_thread_of w r) (branch_thread_of w b))) (pair_sums b s r) s

  unfoldable pub send_sums : Sums → ℕ → Sums
  send_sums s b = pick (is_send w b) (over (partner_sums b) s (range (branches w))) s

  unfoldable pub all_sums : Sums
  all_sums = over send_sums (over node_sums (sums 0 0 0) (range (nodes w))) (range (branches w))

-- the communications of send b with the receives of a set
unfoldable pub set_sums : List ℕ → ℕ → Sums → ℕ → Sums
set_sums w b s set = over (pair_sums w b) s (map (word (receives_of w)) (keep (bit_at set) (range 64)))

-- what the code has read of a send
pub record Sends (w index : List ℕ) (b : ℕ) (s : Sending) : Type 0 where
  pub branch-is : s.branch ≡ b
  pub thread-is : s.thread ≡ branch_thread_at w index b
  pub channel-is : s.channel ≡ channel w b
  pub name-is : s.name ≡ branch_name w b
  pub values-are : s.values ≡ reach_in index (channel w b)
  pub channels-are : s.channels ≡ bound_bit w (channel w b)
  pub names-are : s.names ≡ bound_bit w (branch_name w b)
  pub publics-are : s.publics ≡ public_count w (values w (branch_name w b))
  pub privates-are : s.privates ≡ private_count w (values w (branch_name w b))
  pub few-publics : s.publics ≤ 64
  pub few-privates : s.privates ≤ 32

-- the list tells of the receives of the table, and which of them each branch can meet
pub record Pairs (w index list : List ℕ) : Type 0 where
  pub few : length (receives_of w) ≤ 32
  pub sides-are : (k : ℕ) → k < length (receives_of w) → side_at list k ≡ side_in w index (word (receives_of w) k)
  pub sets-are : (s : ℕ) → s < branches w → word list (sets_at + s) ≡ partner_set w index s
