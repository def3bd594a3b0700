-- The starred cases of document 01 (Table E and its listing), a definition that calls itself, the number of private values, the values that can arrive,
-- summaries and runs that settle first (document 02, Items 1 and 3 to 6), as one table, and what is asked in each, by the definitions that the promises cite.
use Rattle.std.specs.Prelude.{◌≡◌, List, [], ◌∷◌, ◌++◌, ℕ, ◌/◌, ◌%◌, take, replicate}
use Rattle.std.proofs.Math.Option.{Option, none, some}
use Rattle.lists.specs.Lists.{flat}
use Rattle.scheme.specs.Scheme.{scheme}
use Rattle.table.specs.Causes.{cause}
use Rattle.net.specs.Image.{transition_count}
use Rattle.net.specs.Firing as Firing
use Rattle.net.specs.Firing.{Ending, limit_reached, nothing_enabled, stopped, RunOutcome, initial_marking}
use Rattle.summary.specs.Summary.{summary, set_length, summary_of}
use Rattle.summary.specs.Calls.{make_summary, fire_with}
use Rattle.places.specs.Reach.{values_for}
use Rattle.places.specs.Places as Places
use Rattle.places.specs.Places.{Place, equals, differs, free, control}
use Rattle.places.specs.Image.{image_of}
use Rattle.builder.specs.Answer.{build_outcome}
use Rattle.readback.specs.Answers.{read_outcome}
use Rattle.rewriting.specs.Outcomes.{rewrite_outcome, node_origin, branch_origin}
use Rattle.print.specs.Program.{program_text}

-- what is asked of a table: its cause; a build into so many words; a firing after others from the initial marking; reading back after firings, into four
-- words; a run from the initial marking, with its limit and the words of its history, by the old rule and one that settles first; a rewriting into so many
-- words; what a node or a branch of the rewritten table was; what the listing program prints; its N; the places of its net; the summary of the initial
-- marking; a firing with that summary
pub data Question : Type 0 where
  checks : Question
  builds : ℕ → Question
  fires : List ℕ → ℕ → Question
  reads : List ℕ → Question
  runs : ℕ → ℕ → Question
  settles : ℕ → ℕ → Question
  rewrites : ℕ → Question
  was_node : ℕ → Question
  was_branch : ℕ → Question
  lists : Question
  privates : Question
  places : Question
  summarises : Question
  keeps : ℕ → Question

-- a cause, 0 for none, or another number; a cause with the words of the lent buffer afterwards; a run's reason, count and history; a cause and the number read
-- back, if any; a text; places in order; a cause with the counts and the set of a summary afterwards, and with the marking too
pub data Reply : Type 0 where
  number : ℕ → Reply
  buffer : ℕ → List ℕ → Reply
  ran : Ending → ℕ → List ℕ → Reply
  was : ℕ → Option ℕ → Reply
  text : List ℕ → Reply
  listed : List Place → Reply
  summed : ℕ → List ℕ → List ℕ → Reply
  kept : ℕ → List ℕ → List ℕ → List ℕ → Reply

-- the bytes of a table file, the low byte of each word first
abbrev pub bytes_of : List ℕ → List ℕ
bytes_of words = flat (λ x. (x % 256) ∷ (x / 256) ∷ []) words

abbrev pub ran_of : RunOutcome → Reply
ran_of r = ran r.reason r.firings r.history

module _ (w : List ℕ) where
  abbrev pub marking_after : List ℕ → List ℕ
  marking_after numbers = (Firing.replay (image_of w) (initial_marking (image_of w)) numbers).marking

  abbrev pub reply : Question → Reply
  reply checks = number (cause w)
  reply (builds room) = let o = build_outcome w (replicate room 0) in buffer o.number o.buffer
  reply (fires numbers n) = number (Firing.fire (image_of w) (marking_after numbers) n).cause
  reply (reads numbers) = let o = read_outcome w (marking_after numbers) (replicate 4 0) in buffer o.number o.left
  reply (runs limit room) = ran_of (Firing.run_of_lowest (image_of w) (initial_marking (image_of w)) limit room)
  reply (settles limit room) = ran_of (Firing.run (image_of w) (initial_marking (image_of w)) limit room)
  reply (rewrites room) = let o = rewrite_outcome w (replicate room 0) in buffer o.number o.left
  reply (was_node n) = let o = node_origin w n in was o.number o.value
  reply (was_branch b) = let o = branch_origin w b in was o.number o.value
  reply lists = text (program_text (bytes_of w))
  reply privates = number (values_for (scheme w)).privates
  reply places = listed (Places.places (scheme w) (values_for (scheme w)))
  reply summarises =
      let n = transition_count (image_of w) in
      let o = make_summary (image_of w) (initial_marking (image_of w)) (summary (replicate n 0) (replicate (set_length (image_of w)) 0)) in
      summed o.cause o.left.counts o.left.enabled
  reply (keeps n) =
      let m = initial_marking (image_of w) in
      let o = fire_with (image_of w) m (summary_of (image_of w) m) n in
      kept o.cause o.marking o.left.counts o.left.enabled

-- a table's words, what is asked of it, and the answer
pub record Case : Type 0 where
  pub words : List ℕ
  pub question : Question
  pub answer : Reply

abbrev pub case : List ℕ → Question → Reply → Case
case words question answer = record { words = words; question = question; answer = answer }

-- "Table E", in its sections
abbrev pub after_names : List ℕ → List ℕ
after_names branches =
    0 ∷ 0 ∷ 0 ∷ 0 ∷ 1 ∷ 3 ∷ 0 ∷ 0 ∷ 0 ∷ 1 ∷ 2 ∷ 1 ∷ 1 ∷ 1 ∷ 0 ∷ 1 ∷ 0 ∷ 0 ∷ 0 ∷ 1 ∷ 1 ∷ 1 ∷ 0 ∷ 0 ∷ 0 ∷ branches

abbrev pub with_publics : ℕ → List ℕ → List ℕ
with_publics P branches = P ∷ 2 ∷ 2 ∷ 2 ∷ 5 ∷ 2 ∷ 0 ∷ 13 ∷ 15 ∷ 23 ∷ 25 ∷ 40 ∷ 48 ∷ 0 ∷ 1 ∷ after_names branches

-- the branches with branch 0's name and next node
abbrev pub sending : ℕ → ℕ → List ℕ
sending name next = 1 ∷ 0 ∷ name ∷ next ∷ 2 ∷ 0 ∷ 2 ∷ 4 ∷ []

abbrev pub table_e : List ℕ
table_e = with_publics 1 (sending 1 2)

-- its image; document 01's listing has a place and a transition more, of a value that cannot arrive
abbrev pub image_e : List ℕ
image_e =
    15 ∷ 8 ∷ 22 ∷ 22 ∷ 6 ∷ 8 ∷ 14 ∷ 62 ∷ 4 ∷ 5 ∷ 6 ∷ 7 ∷ 8 ∷ 12
    ∷ 2 ∷ 0 ∷ 1 ∷ 62 ∷ 3 ∷ 3 ∷ 2 ∷ 0 ∷ 1 ∷ 68 ∷ 3 ∷ 3 ∷ 1 ∷ 2 ∷ 1 ∷ 74 ∷ 2 ∷ 2 ∷ 1 ∷ 2 ∷ 1 ∷ 78 ∷ 2 ∷ 2
    ∷ 1 ∷ 4 ∷ 2 ∷ 82 ∷ 2 ∷ 2 ∷ 1 ∷ 4 ∷ 2 ∷ 86 ∷ 2 ∷ 2 ∷ 4 ∷ 0 ∷ 1 ∷ 90 ∷ 4 ∷ 4 ∷ 4 ∷ 0 ∷ 1 ∷ 98 ∷ 4 ∷ 4
    ∷ 4 ∷ 6 ∷ 8 ∷ 0 ∷ 4 ∷ 9 ∷ 5 ∷ 7 ∷ 8 ∷ 1 ∷ 5 ∷ 9 ∷ 0 ∷ 10 ∷ 6 ∷ 11 ∷ 1 ∷ 10 ∷ 7 ∷ 11 ∷ 2 ∷ 13 ∷ 4 ∷ 14 ∷ 3 ∷ 13 ∷ 5 ∷ 14
    ∷ 0 ∷ 4 ∷ 9 ∷ 12 ∷ 0 ∷ 2 ∷ 10 ∷ 13 ∷ 1 ∷ 5 ∷ 9 ∷ 12 ∷ 1 ∷ 3 ∷ 10 ∷ 13 ∷ []

-- "`0 0 1 1 1 0 0 13 13 17 18 21 21 0 0 0 0 0 0 0 0`", with its node
abbrev pub one_node : ℕ → List ℕ
one_node kind = 0 ∷ 0 ∷ 1 ∷ 1 ∷ 1 ∷ 0 ∷ 0 ∷ 13 ∷ 13 ∷ 17 ∷ 18 ∷ 21 ∷ 21 ∷ 0 ∷ 0 ∷ 0 ∷ 0 ∷ 0 ∷ kind ∷ 0 ∷ 0 ∷ []

-- the last of these rewritten: its definition, and a copy of it, which call each other
abbrev pub in_turns : List ℕ
in_turns =
    0 ∷ 0 ∷ 2 ∷ 1 ∷ 2 ∷ 0 ∷ 0 ∷ 13 ∷ 13 ∷ 21 ∷ 22 ∷ 28 ∷ 28 ∷ 0 ∷ 0 ∷ 0 ∷ 0 ∷ 0 ∷ 1 ∷ 0 ∷ 0 ∷ 0 ∷ 3 ∷ 1 ∷ 0 ∷ 3 ∷ 0 ∷ 0 ∷ []

-- its image: two places, and two transitions, the calls, each of which moves the token from one place to the other
abbrev pub image_in_turns : List ℕ
image_in_turns = 2 ∷ 2 ∷ 2 ∷ 2 ∷ 1 ∷ 8 ∷ 9 ∷ 21 ∷ 0 ∷ 5 ∷ 0 ∷ 0 ∷ 21 ∷ 1 ∷ 1 ∷ 5 ∷ 1 ∷ 0 ∷ 23 ∷ 1 ∷ 1 ∷ 0 ∷ 1 ∷ 1 ∷ 0 ∷ []

-- its listing, in ASCII: `2 2 2 2 1`, `0 5 0 0 : 0 > 1` and `1 5 1 0 : 1 > 0`, each with a line feed
abbrev pub listing_in_turns : List ℕ
listing_in_turns =
    50 ∷ 32 ∷ 50 ∷ 32 ∷ 50 ∷ 32 ∷ 50 ∷ 32 ∷ 49 ∷ 10
    ∷ 48 ∷ 32 ∷ 53 ∷ 32 ∷ 48 ∷ 32 ∷ 48 ∷ 32 ∷ 58 ∷ 32 ∷ 48 ∷ 32 ∷ 62 ∷ 32 ∷ 49 ∷ 10
    ∷ 49 ∷ 32 ∷ 53 ∷ 32 ∷ 49 ∷ 32 ∷ 48 ∷ 32 ∷ 58 ∷ 32 ∷ 49 ∷ 32 ∷ 62 ∷ 32 ∷ 48 ∷ 10
    ∷ []

-- a definition that calls itself (document 02, Item 1)
abbrev pub rewriting_cases : List Case
rewriting_cases =
    -- "Self-calls of the original go to the copy, those of the copy to the original." "one that doesn't fit the lent table with 10"
    case (one_node 3) (rewrites 28) (buffer 0 in_turns)
    ∷ case (one_node 3) (rewrites 27) (buffer 10 (replicate 27 0))
    ∷ case in_turns (builds 25) (buffer 0 image_in_turns)
    -- "the listing, which rewrites first"
    ∷ case (one_node 3) lists (text listing_in_turns)
    -- "a copy's nodes, branches and names can be read back as their originals, others as themselves; a number the rewritten table doesn't have is refused
    -- with 5"
    ∷ case (one_node 3) (was_node 0) (was 0 (some 0))
    ∷ case (one_node 3) (was_node 1) (was 0 (some 0))
    ∷ case (one_node 3) (was_node 2) (was 5 none)
    ∷ case (one_node 3) (was_branch 0) (was 5 none)
    ∷ []

-- p⟨p⟩.0 beside p(x).0: no restricted name
abbrev pub unrestricted : List ℕ
unrestricted =
    1 ∷ 1 ∷ 2 ∷ 2 ∷ 4 ∷ 2 ∷ 0 ∷ 13 ∷ 14 ∷ 22 ∷ 24 ∷ 36 ∷ 44 ∷ 1 ∷ 0 ∷ 0 ∷ 0 ∷ 0 ∷ 1 ∷ 2 ∷ 0 ∷ 0 ∷ 0 ∷ 1 ∷ 1 ∷ 0 ∷ 1 ∷ 0 ∷ 0 ∷ 0 ∷ 1 ∷ 1 ∷ 1
    ∷ 0 ∷ 0 ∷ 0 ∷ 1 ∷ 0 ∷ 0 ∷ 1 ∷ 2 ∷ 0 ∷ 1 ∷ 3 ∷ []

-- its image: x has the value p or none
abbrev pub image_unrestricted : List ℕ
image_unrestricted =
    6 ∷ 2 ∷ 4 ∷ 4 ∷ 2 ∷ 8 ∷ 10 ∷ 22 ∷ 1 ∷ 3 ∷ 1 ∷ 3 ∷ 1 ∷ 22 ∷ 2 ∷ 1 ∷ 4 ∷ 0 ∷ 1 ∷ 25 ∷ 2 ∷ 3 ∷ 0 ∷ 4 ∷ 5 ∷ 1 ∷ 3 ∷ 0 ∷ 2 ∷ 4 ∷ []

-- τ.ν r.0 + τ.ν s.0: two restricted names, of which one is held at a time
abbrev pub either_name : List ℕ
either_name =
    0 ∷ 2 ∷ 1 ∷ 1 ∷ 5 ∷ 2 ∷ 0 ∷ 13 ∷ 15 ∷ 19 ∷ 20 ∷ 35 ∷ 43 ∷ 0 ∷ 0 ∷ 0 ∷ 0 ∷ 0 ∷ 0 ∷ 0 ∷ 1 ∷ 0 ∷ 2 ∷ 2 ∷ 0 ∷ 3 ∷ 2 ∷ 1 ∷ 4 ∷ 0 ∷ 0 ∷ 0 ∷ 0
    ∷ 0 ∷ 0 ∷ 0 ∷ 0 ∷ 0 ∷ 1 ∷ 0 ∷ 0 ∷ 0 ∷ 2 ∷ []

-- ν r. D(r) with D(f) = τ.0: r and f are both held while r is released
abbrev pub handed_on : List ℕ
handed_on =
    0 ∷ 2 ∷ 2 ∷ 1 ∷ 4 ∷ 1 ∷ 1 ∷ 13 ∷ 15 ∷ 23 ∷ 24 ∷ 36 ∷ 40 ∷ 0 ∷ 2 ∷ 0 ∷ 0 ∷ 0 ∷ 0 ∷ 0 ∷ 2 ∷ 1 ∷ 1 ∷ 0 ∷ 2 ∷ 0 ∷ 1 ∷ 3 ∷ 1 ∷ 0 ∷ 1 ∷ 0 ∷ 1
    ∷ 0 ∷ 0 ∷ 0 ∷ 0 ∷ 0 ∷ 0 ∷ 3 ∷ 0 ∷ []

-- ν r.0, beside a definition that nothing calls, ν s.ν t.0
abbrev pub never_called : List ℕ
never_called =
    0 ∷ 3 ∷ 2 ∷ 1 ∷ 5 ∷ 0 ∷ 0 ∷ 13 ∷ 16 ∷ 24 ∷ 25 ∷ 40 ∷ 40 ∷ 0 ∷ 0 ∷ 0 ∷ 0 ∷ 0 ∷ 0 ∷ 0 ∷ 0 ∷ 2 ∷ 0 ∷ 0 ∷ 0 ∷ 2 ∷ 0 ∷ 1 ∷ 0 ∷ 0 ∷ 0 ∷ 2 ∷ 1
    ∷ 3 ∷ 2 ∷ 2 ∷ 4 ∷ 0 ∷ 0 ∷ 0 ∷ []

-- how many private values there are (document 02, Item 3)
abbrev pub private_cases : List Case
private_cases =
    -- "Table E keeps N = 2."
    case table_e privates (number 2)
    -- "With no restricted names N is now 0.": there is no [x≠n] and no [*≠n]
    ∷ case unrestricted checks (number 0)
    ∷ case unrestricted privates (number 0)
    ∷ case unrestricted places (listed (equals 1 0 ∷ control 0 0 ∷ control 1 0 ∷ control 2 0 ∷ control 3 0 ∷ control 3 1 ∷ []))
    ∷ case unrestricted (builds 30) (buffer 0 image_unrestricted)
    -- "Otherwise N is the sum, over threads, of the largest number of names held at any one of the thread's control places, chain places included."
    ∷ case either_name checks (number 0)
    ∷ case either_name privates (number 1)
    ∷ case handed_on checks (number 0)
    ∷ case handed_on privates (number 2)
    ∷ case never_called checks (number 0)
    ∷ case never_called privates (number 2)
    ∷ []

-- p(x).0 alone: nothing is sent, so x has no value
abbrev pub unheard : List ℕ
unheard =
    1 ∷ 1 ∷ 1 ∷ 1 ∷ 2 ∷ 1 ∷ 0 ∷ 13 ∷ 14 ∷ 18 ∷ 19 ∷ 25 ∷ 29 ∷ 1 ∷ 0 ∷ 0 ∷ 0 ∷ 0 ∷ 0 ∷ 1 ∷ 0 ∷ 1 ∷ 0 ∷ 0 ∷ 0 ∷ 2 ∷ 0 ∷ 1 ∷ 1 ∷ []

-- p⟨p⟩.0 + p(x).0: what its own thread sends does not come to x
abbrev pub own_thread : List ℕ
own_thread =
    1 ∷ 1 ∷ 1 ∷ 1 ∷ 3 ∷ 2 ∷ 0 ∷ 13 ∷ 14 ∷ 18 ∷ 19 ∷ 28 ∷ 36 ∷ 1 ∷ 0 ∷ 0 ∷ 0 ∷ 0 ∷ 0 ∷ 1 ∷ 0 ∷ 2 ∷ 0 ∷ 0 ∷ 0 ∷ 0 ∷ 0 ∷ 0 ∷ 1 ∷ 0 ∷ 0 ∷ 1
    ∷ 2 ∷ 0 ∷ 1 ∷ 2 ∷ []

-- ν r.r⟨p⟩.0 beside ν s.s(x).0: r and s are never one name
abbrev pub never_meet : List ℕ
never_meet =
    1 ∷ 3 ∷ 2 ∷ 2 ∷ 6 ∷ 2 ∷ 0 ∷ 13 ∷ 16 ∷ 24 ∷ 26 ∷ 44 ∷ 52 ∷ 0 ∷ 0 ∷ 1 ∷ 0 ∷ 0 ∷ 0 ∷ 0 ∷ 1 ∷ 3 ∷ 0 ∷ 0 ∷ 0 ∷ 1 ∷ 2 ∷ 1 ∷ 1 ∷ 1 ∷ 0 ∷ 1 ∷ 0 ∷ 0 ∷ 0
    ∷ 2 ∷ 2 ∷ 4 ∷ 1 ∷ 1 ∷ 1 ∷ 0 ∷ 0 ∷ 0 ∷ 1 ∷ 1 ∷ 0 ∷ 2 ∷ 2 ∷ 2 ∷ 3 ∷ 5 ∷ []

-- which values can arrive (document 02, Item 4)
abbrev pub arriving_cases : List Case
arriving_cases =
    -- no place for a value outside a name's reach: x has no row, and its control and release places stay
    case unheard (builds 9) (buffer 0 (3 ∷ 0 ∷ 0 ∷ 0 ∷ 1 ∷ 8 ∷ 9 ∷ 9 ∷ 0 ∷ []))
    ∷ case own_thread places (listed (control 0 0 ∷ control 1 0 ∷ control 2 0 ∷ control 2 1 ∷ []))
    ∷ case own_thread (builds 9) (buffer 0 (4 ∷ 0 ∷ 0 ∷ 0 ∷ 1 ∷ 8 ∷ 9 ∷ 9 ∷ 0 ∷ []))
    -- channels meet on private values only where a restricted name is in both reaches; [*≠n] keeps its N places
    ∷ case never_meet privates (number 3)
    ∷ case never_meet places (listed (equals 1 1 ∷ equals 1 2 ∷ equals 1 3 ∷ equals 2 1 ∷ equals 2 2 ∷ equals 2 3 ∷ free 1 ∷ free 2 ∷ free 3 ∷ control 0 0
    ∷ control 1 0 ∷ control 2 0 ∷ control 2 1 ∷ control 3 0 ∷ control 4 0 ∷ control 5 0 ∷ control 5 1 ∷ control 5 2 ∷ []))
    -- a formal has the values of its argument
    ∷ case handed_on places (listed (equals 0 0 ∷ equals 0 1 ∷ equals 1 0 ∷ equals 1 1 ∷ differs 1 0 ∷ differs 1 1 ∷ free 0 ∷ free 1 ∷ control 0 0 ∷ control 1 0
    ∷ control 1 1 ∷ control 1 2 ∷ control 2 0 ∷ control 3 0 ∷ control 3 1 ∷ []))
    ∷ []

-- what can be done next (document 02, Item 5): at first 0 and 1 are enabled; after 0 it is 6 alone
abbrev pub summary_cases : List Case
summary_cases =
    case table_e summarises (summed 0 (0 ∷ 0 ∷ 2 ∷ 2 ∷ 2 ∷ 2 ∷ 2 ∷ 2 ∷ []) (3 ∷ []))
    ∷ case table_e (keeps 0) (kept 0 (1 ∷ 0 ∷ 0 ∷ 0 ∷ 1 ∷ 1 ∷ 0 ∷ 1 ∷ 0 ∷ 1 ∷ 0 ∷ 0 ∷ 1 ∷ 0 ∷ 0 ∷ []) (2 ∷ 1 ∷ 1 ∷ 2 ∷ 2 ∷ 2 ∷ 0 ∷ 1 ∷ []) (64 ∷ []))
    ∷ case table_e (keeps 6) (kept 15 (0 ∷ 0 ∷ 0 ∷ 0 ∷ 1 ∷ 1 ∷ 1 ∷ 1 ∷ 1 ∷ 0 ∷ 0 ∷ 0 ∷ 1 ∷ 0 ∷ 0 ∷ []) (0 ∷ 0 ∷ 2 ∷ 2 ∷ 2 ∷ 2 ∷ 2 ∷ 2 ∷ []) (3 ∷ []))
    ∷ []

-- E by the rule that settles first (document 02, Item 6)
abbrev pub settling_cases : List Case
settling_cases =
    case table_e (settles 5 5) (ran nothing_enabled 4 (0 ∷ 6 ∷ 2 ∷ 4 ∷ []))
    ∷ case table_e (settles 4 5) (ran limit_reached 4 (0 ∷ 6 ∷ 2 ∷ 4 ∷ []))
    ∷ []

-- two foreign nets, each of two transitions without arcs: a silent step (3 0 0), then a release (1 0 0), whose record is malformed in the second net
abbrev pub quiet_last : List ℕ
quiet_last = 0 ∷ 2 ∷ 0 ∷ 0 ∷ 0 ∷ 8 ∷ 8 ∷ 20 ∷ 3 ∷ 0 ∷ 0 ∷ 20 ∷ 0 ∷ 0 ∷ 1 ∷ 0 ∷ 0 ∷ 20 ∷ 0 ∷ 0 ∷ []

abbrev pub malformed_last : List ℕ
malformed_last = 0 ∷ 2 ∷ 0 ∷ 0 ∷ 0 ∷ 8 ∷ 8 ∷ 20 ∷ 3 ∷ 0 ∷ 0 ∷ 20 ∷ 0 ∷ 0 ∷ 1 ∷ 0 ∷ 0 ∷ 0 ∷ 0 ∷ 0 ∷ []

-- an image's words, and what a run of two firings gives from its initial marking by the rule that settles first, and by the old one
pub record ForeignRun : Type 0 where
  pub image : List ℕ
  pub settled : Reply
  pub old : Reply

abbrev pub foreign_runs : List ForeignRun
foreign_runs =
    -- the rules differ
    record { image = quiet_last; settled = ran limit_reached 2 (1 ∷ 1 ∷ []); old = ran limit_reached 2 (0 ∷ 0 ∷ []) }
    -- "All records up to an enabled bookkeeping one are met in its search."
    ∷ record { image = malformed_last; settled = ran (stopped 12) 0 []; old = ran limit_reached 2 (0 ∷ 0 ∷ []) }
    ∷ []

abbrev pub ForeignRight : List ForeignRun → Type 0
ForeignRight [] = Unit {0}
ForeignRight (f ∷ fs) =
    (ran_of (Firing.run f.image (initial_marking f.image) 2 2) ≡ f.settled)
    × (ran_of (Firing.run_of_lowest f.image (initial_marking f.image) 2 2) ≡ f.old)
    × ForeignRight fs

-- all of them: those of document 01, then the others
abbrev pub cases : List Case
cases =
    -- "E in 115 words builds, in 114 gives 10.": with only the values that can arrive (document 02, Item 4) 106 and 105
    case table_e (builds 106) (buffer 0 image_e)
    ∷ case table_e (builds 105) (buffer 10 (replicate 105 0))
    -- "Its first 12 words 1, first 13 words 3."
    ∷ case (take 12 table_e) checks (number 1)
    ∷ case (take 13 table_e) checks (number 3)
    -- "P set to 33: 2; to 32: 5."
    ∷ case (with_publics 33 (sending 1 2)) checks (number 2)
    ∷ case (with_publics 32 (sending 1 2)) checks (number 5)
    -- "Branch 0 sending name 2: 8." "Its next node 0: 6."
    ∷ case (with_publics 1 (sending 2 2)) checks (number 8)
    ∷ case (with_publics 1 (sending 1 0)) checks (number 6)
    -- "gives `1 0 0 0 1 8 9 9 0`; its node made 3 0 0: 9."
    ∷ case (one_node 0) (builds 9) (buffer 0 (1 ∷ 0 ∷ 0 ∷ 0 ∷ 1 ∷ 8 ∷ 9 ∷ 9 ∷ 0 ∷ []))
    ∷ case (one_node 3) checks (number 9)
    -- "E at first: 7 gives 15, 9 gives 14.": the transition that was 7 is 6, and there are 8
    ∷ case table_e (fires [] 6) (number 15)
    ∷ case table_e (fires [] 8) (number 14)
    -- "After 0, or 1, the state reads 1 3 1 65535."
    ∷ case table_e (reads (0 ∷ [])) (buffer 0 (1 ∷ 3 ∷ 1 ∷ 65535 ∷ []))
    ∷ case table_e (reads (1 ∷ [])) (buffer 0 (1 ∷ 3 ∷ 1 ∷ 65535 ∷ []))
    -- "Run from the initial marking with limit 5 and 5 history words: 0 7 2 5, count 4, nothing enabled; limit 4: limit reached.": 0 6 2 4 by the new numbers,
    -- and by the old rule, which the case now names (document 02, Item 6)
    ∷ case table_e (runs 5 5) (ran nothing_enabled 4 (0 ∷ 6 ∷ 2 ∷ 4 ∷ []))
    ∷ case table_e (runs 4 5) (ran limit_reached 4 (0 ∷ 6 ∷ 2 ∷ 4 ∷ []))
    ∷ rewriting_cases ++ (private_cases ++ (arriving_cases ++ (summary_cases ++ settling_cases)))

-- every case has its answer
abbrev pub AllRight : List Case → Type 0
AllRight [] = Unit {0}
AllRight (c ∷ cs) = (reply c.words c.question ≡ c.answer) × AllRight cs
