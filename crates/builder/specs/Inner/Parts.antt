-- What is written of a table's net: the heads, the transitions in turn, the chain of a node, and a send with a receive.
use Rattle.std.specs.Prelude.{◌≡◌, true, not, ◌⊎◌, List, [], ◌∷◌, map, ℕ, ◌+◌, ◌*◌, ◌≤◌, ◌<◌, length, take}
use Rattle.lists.specs.Lists.{pick, same, word, from, range, flat, member, ascends}
use Rattle.scheme.specs.Words.{publics, bounds, names, nodes, branches, channel, branch_name, next, node_first, node_second, argument, is_send, is_receive}
use Rattle.scheme.specs.Owners.{home, branch_thread_of}
use Rattle.scheme.specs.Scheme.{scheme}
use Rattle.net.specs.Image.{label_of}
use Rattle.net.specs.Net.{Transition}
use Rattle.places.specs.Values.{private_values_of}
use Rattle.places.specs.Places.{Place, equals, differs, controls, common}
use Rattle.places.specs.Rows.{number_of}
use Rattle.places.specs.Transitions.{Description, making, communicating, sent_on, of_pair}
use Rattle.places.specs.Image.{transition_of}
use Rattle.places.specs.Inner.Arcs.{insert, exists, numbers_for, starts_at, all_differ}
use Rattle.places.specs.Inner.Plan.{today, privates_word, values, control_of, row_of, reached, Reads}
use Rattle.builder.specs.Inner.Writing
use Rattle.builder.specs.Inner.Writing.{heads, put_all, rise}
use Rattle.builder.specs.Inner.Spans.{Narrow, Parted, values_in}
use Rattle.places.specs.declared.reach.Reach.{Reach}
use Rattle.places.specs.declared.count.Side.{Side}
use Rattle.builder.specs.declared.write.Heads.{Heads}
use Rattle.builder.specs.declared.write.Arcs.{Arcs}
use Rattle.builder.specs.declared.communications.Starts.{Starts}
use Rattle.builder.specs.declared.spans.Values.{Values}
use Rattle.builder.specs.declared.chain.Chain.{Chain}
use Rattle.builder.specs.declared.communications.Pair.{Pair}
use Rattle.builder.specs.declared.communications.Spots.{Spots}
use Rattle.builder.specs.declared.communications.Way.{Way}
use Rattle.builder.specs.declared.communications.Course.{Course}

abbrev pub of_table : List ℕ → Description → Transition
of_table w d = transition_of (scheme w) (today w) d

-- the buffer with its heads
abbrev pub state : List ℕ → Heads → Writing.Heads
state out h = heads out h.place h.arc

-- after the transitions of the descriptions are written
abbrev pub put : List ℕ → List ℕ → Heads → List Description → Writing.Heads
put w out h ds = put_all (of_table w) (state out h) ds

-- a chain of the control places of a node, which leads to another
pub record Chained (w : List ℕ) (c : Chain) : Type 0 where
  pub node-inside : c.node < nodes w
  pub to_inside : c.to < nodes w
  pub first-is : c.first ≡ control_of w c.node
  pub controls-are : c.controls ≡ controls (scheme w) c.node
  pub last-is : c.last ≡ control_of w c.to

-- the initial places of rows
unfoldable pub initial_row_places : List ℕ → List ℕ
initial_row_places w =
    flat (λ x. pick ((scheme w).restricted x) [] (from (row_of w x + length (values w x)) (length (private_values_of (scheme w) (today w) x))))
    (from (publics w) (bounds w))

-- the initial places of entries
unfoldable pub initial_spot_places : List ℕ → List ℕ
initial_spot_places w = flat (λ n. pick (starts_at (scheme w) (today w) n) (control_of w n ∷ []) []) (range (nodes w))

-- a New with one value
abbrev pub made : List ℕ → ℕ → ℕ → Description
made w n v = making (scheme w) (today w) n (node_first w n) (node_second w n) v

-- a communication of send s and receive r
abbrev pub told : List ℕ → ℕ → ℕ → ℕ → ℕ → Description
told w s r i j =
    communicating (scheme w) (today w) s (channel w s) (branch_name w s) (next w s) r (channel w r) (branch_name w r) (next w r) i j

-- the communications of a branch with another one, with all, and of all
abbrev pub with_branch : List ℕ → ℕ → ℕ → List Description
with_branch w s r = of_pair (scheme w) (today w) s ((scheme w).branch s) r ((scheme w).branch r)

abbrev pub with_all_of : List ℕ → ℕ → List Description
with_all_of w s = flat (with_branch w s) (range (branches w))

abbrev pub all_told : List ℕ → List Description
all_told w = flat (with_all_of w) (range (branches w))

-- where the row of a name starts, if it is bound
abbrev pub Begins : List ℕ → ℕ → ℕ → Type 0
Begins w x row = publics w ≤ x → x < names w → row ≡ row_of w x

-- where the rows of the channel and of the name of each of the branches start, in two words each, 32 at the most
abbrev pub StartsOf : List ℕ → List ℕ → List ℕ → Type 0
StartsOf w rows bs = (k : ℕ) → k < length bs → k < 32
    → Begins w (channel w (word bs k)) (word rows (2 * k)) × Begins w (branch_name w (word bs k)) (word rows (2 * k + 1))

-- a send and a receive, the names that they use, the places before and after them, and where the rows of the names start
pub record Paired (w : List ℕ) (p : Pair) : Type 0 where
  pub send-inside : p.send < branches w
  pub receive_inside : p.receive < branches w
  pub sends : is_send w p.send ≡ true
  pub receives : is_receive w p.receive ≡ true
  pub apart : branch_thread_of w p.receive ≡ branch_thread_of w p.send → ⊥
  pub channel-is : p.channel ≡ channel w p.send
  pub sent_is : p.sent ≡ branch_name w p.send
  pub heard-is : p.heard ≡ channel w p.receive
  pub bound-is : p.bound ≡ branch_name w p.receive
  pub sender-is : p.sender ≡ control_of w (home w p.send)
  pub onsend-is : p.onsend ≡ control_of w (next w p.send)
  pub receiver-is : p.receiver ≡ control_of w (home w p.receive)
  pub onreceive-is : p.onreceive ≡ control_of w (next w p.receive)
  pub channel-row : Begins w p.channel p.own.channel
  pub sent-row : Begins w p.sent p.own.name
  pub heard-row : Begins w p.heard p.other.channel
  pub bound-row : Begins w p.bound p.other.name

-- a transition by its label and arcs
abbrev pub arrow : ℕ → ℕ → ℕ → List ℕ → List ℕ → Transition
arrow kind a b ins outs = record { label = label_of kind a b; inputs = ins; outputs = outs }

-- the numbers of arcs, in eight words each
abbrev pub arcs : List ℕ → ℕ → List ℕ → ℕ → Arcs
arcs ins inputs outs outputs = record { ins = ins; inputs = inputs; outs = outs; outputs = outputs }

abbrev pub ins_of : Arcs → List ℕ
ins_of t = take t.inputs t.ins

abbrev pub outs_of : Arcs → List ℕ
outs_of t = take t.outputs t.outs

pub record Short (t : Arcs) : Type 0 where
  pub ins-eight : length t.ins ≡ 8
  pub outs-eight : length t.outs ≡ 8
  pub ins-fit : t.inputs ≤ 8
  pub outs-fit : t.outputs ≤ 8
  pub ins-small : (x : ℕ) → member x (ins_of t) ≡ true → x < 65536
  pub outs-small : (x : ℕ) → member x (outs_of t) ≡ true → x < 65536

-- transition t of those that follow one another
abbrev pub risen : ℕ → ℕ → ℕ → Arcs → List ℕ → ℕ → Transition
risen kind a b arcs ms t = arrow kind a b (map (rise ms t) (ins_of arcs)) (map (rise ms t) (outs_of arcs))

-- the arcs of a communication
pub record Tells (w : List ℕ) (p : Pair) (i j : ℕ) (t : Arcs) : Type 0 where
  pub short : Short t
  pub ins-are : ins_of t ≡ (of_table w (told w p.send p.receive i j)).inputs
  pub outs-are : outs_of t ≡ (of_table w (told w p.send p.receive i j)).outputs

-- the receive may hear at channel value i, which both channels may have in common
pub record Hears (w : List ℕ) (p : Pair) (i : ℕ) : Type 0 where
  pub reads : Reads w (channel w p.receive) i
  pub shared : member i (common (scheme w) (today w) (channel w p.send) (channel w p.receive)) ≡ true

-- both channels may have channel value i, and the sent name sent value j
pub record Can (w : List ℕ) (p : Pair) (i j : ℕ) : Type 0 where
  pub channel : Reads w (channel w p.send) i
  pub heard : Hears w p i
  pub sent : Reads w (branch_name w p.send) j

-- ---- the places of names

-- the number of a place, and of none where the net does not have it
abbrev pub no_spot : ℕ
no_spot = 4294967295

unfoldable pub spot_of : List ℕ → Place → ℕ
spot_of w p = pick (exists (scheme w) (today w) p) (number_of (scheme w) (today w) p) no_spot

pub record Spotted (w : List ℕ) (p : Pair) (i j : ℕ) (t : Spots) : Type 0 where
  pub channel-is : t.channel ≡ spot_of w (equals p.channel i)
  pub heard-is : t.heard ≡ spot_of w (equals p.heard i)
  pub sent_is : t.sent ≡ spot_of w (equals p.sent j)
  pub bound-is : t.bound ≡ spot_of w (equals p.bound j)
  pub free-is : t.free ≡ spot_of w (differs p.bound j)

-- ---- runs of values

-- the channel value and the sent value of value v of a run
abbrev pub channel_at : Way → ℕ → ℕ
channel_at way v = pick way.channels v way.other

abbrev pub sent_at : Way → ℕ → ℕ
sent_at way v = pick way.sents v way.other

abbrev pub told_by : List ℕ → Pair → Way → ℕ → Description
told_by w p way v = told w p.send p.receive (channel_at way v) (sent_at way v)

-- the numbers that rise
abbrev pub risers_of : Way → Spots → List ℕ
risers_of way t =
    pick way.channels t.channel no_spot ∷ pick way.channels t.heard no_spot ∷ pick way.sents t.sent no_spot
    ∷ pick way.sents t.bound no_spot ∷ pick way.sents t.free no_spot ∷ []

-- a name sent on itself goes with its channel
abbrev pub Together : Pair → Way → Type 0
Together p way = p.sent ≡ p.channel → (way.channels ≡ true) × (way.sents ≡ true)

-- values that follow one another, all public or all private, and can all be told
pub record Telling (w : List ℕ) (p : Pair) (way : Way) (low count : ℕ) : Type 0 where
  pub some : 0 < count
  pub few : low + count ≤ 64
  pub kind : (low + count ≤ publics w) ⊎ (publics w ≤ low)
  pub together : Together p way
  pub can : (v : ℕ) → low ≤ v → v < low + count → Can w p (channel_at way v) (sent_at way v)

-- values that can all be told
pub record Told (w : List ℕ) (p : Pair) (way : Way) (x : Values) : Type 0 where
  pub narrow : Narrow x
  pub parted : Parted (publics w) x
  pub together : Together p way
  pub can : (v : ℕ) → member v (values_in x) ≡ true → Can w p (channel_at way v) (sent_at way v)

-- how the communications of a send of name z on channel a are gone through
pub record Coursed (w : List ℕ) (a z : ℕ) (c : Course) : Type 0 where
  pub narrow : Narrow c.values
  pub single : c.channels ≡ true → length (values_in c.values) ≡ 1
  pub own : z ≡ a → (c.channels ≡ true) × (c.sents ≡ true)
  pub others : (z ≡ a → ⊥) → (c.sents ≡ not c.channels) × Parted (publics w) c.values × (values_in c.values ≡ values w z)

-- a pair by what is told of both branches
abbrev pub pair_of : Side → Starts → Side → Starts → Pair
pair_of s own r other = record {
  send = s.branch;
  receive = r.branch;
  channel = s.channel;
  sent = s.name;
  heard = r.channel;
  bound = r.name;
  sender = s.place;
  onsend = s.on;
  receiver = r.place;
  onreceive = r.on;
  own = own;
  other = other;
}

-- formal f may hold what argument a may hold; so each of `count` formals
abbrev pub Takes : List ℕ → ℕ → ℕ → Type 0
Takes w f a = (v : ℕ) → member v (values w a) ≡ true → member v (values w f) ≡ true

abbrev pub TakesAll : List ℕ → ℕ → ℕ → ℕ → Type 0
TakesAll w f a count = (i : ℕ) → i < count → Takes w (f + i) (argument w (a + i))

-- the first words of a list, which ascend
pub record Rising (list : List ℕ) (count : ℕ) : Type 0 where
  pub room : count < length list
  pub rises : ascends 4294967296 0 (take count list) ≡ true

-- x put into the first `count` words
pub record Inserted (x count : ℕ) (before : List ℕ) (r : ℕ) (after : List ℕ) : Type 0 where
  pub size : r ≡ length (insert x (take count before))
  pub first : take r after ≡ insert x (take count before)

-- so, where there is a number to put in
pub record Entered (x count : ℕ) (before : List ℕ) (r : ℕ) (after : List ℕ) : Type 0 where
  pub size : r ≡ pick (same x no_spot) count (length (insert x (take count before)))
  pub first : take r after ≡ pick (same x no_spot) (take count before) (insert x (take count before))

-- the first `count` words are the numbers of those of the places that the net has
pub record Filled (w list : List ℕ) (count : ℕ) (ps : List Place) : Type 0 where
  pub holds : take count list ≡ numbers_for (scheme w) (today w) ps
  pub size : count ≡ length (numbers_for (scheme w) (today w) ps)

-- the list has the numbers of every [x≠v] for the first private value, if there is one
pub record ReadsAll (w list : List ℕ) (count : ℕ) : Type 0 where
  pub room : 40 ≤ length list
  pub filled : 0 < privates_word w → Filled w list count (all_differ (scheme w) (publics w))

-- place p put in besides any such places
abbrev pub Placed : List ℕ → Place → ℕ → List ℕ → ℕ → List ℕ → Type 0
Placed w p count before r after = (ps : List Place) → Filled w before count ps → Filled w after r (p ∷ ps)

-- the communications of a send and a receive
unfoldable pub pair_told : List ℕ → ℕ → ℕ → List Description
pair_told w s r =
    flat (λ i. map (told w s r i) (sent_on (scheme w) (today w) (channel w s) (branch_name w s) i)) (common (scheme w) (today w) (channel w s) (channel w r))

-- value k of a reach with p public values, however many private ones there are
abbrev pub ValueAt : ℕ → Reach → ℕ → ℕ → Type 0
ValueAt p r k v = (n : ℕ) → k < length (reached p n r) → v ≡ word (reached p n r) k

-- how many values a reach with p public and n private values has
abbrev pub CountOf : ℕ → ℕ → Reach → ℕ → Type 0
CountOf p n r k = k ≡ length (reached p n r)
