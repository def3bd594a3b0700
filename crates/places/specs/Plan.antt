-- The plan of a table: one list of 1221 words, its index and behind it the reaches of names, where the control places of nodes start, N, where [*≠n]
-- starts, and how many places and initial tokens the net has (document 01, Places; document 02, Items 3 and 4). Where rows start is told from the reaches
-- (specs/Starts.antt).
use Rattle.std.specs.Prelude.{◌≡◌, ℕ, List, [], ◌∷◌, ◌++◌, map, length, take}
use Rattle.std.proofs.Math.Seq.{slice}
use Rattle.lists.specs.Lists.{word, range}
use Rattle.scheme.specs.Words.{nodes}
use Rattle.scheme.specs.Scheme.{scheme}
use Rattle.scheme.specs.Index.{index_words}
use Rattle.table.specs.Causes.{cause}
use Rattle.places.specs.Reach.{values_for}
use Rattle.places.specs.Rows.{free_start_of, control_start}
use Rattle.places.specs.Image.{net_of}
use Rattle.places.specs.Reaches.{reach, public_set_word, restricted_set_word, least}
use Rattle.places.specs.declared.reach.Reach.{Reach}

-- where the two sets of reaches, the starts of control places and each count stand, and where the plan ends; the index stands at 0
abbrev pub publics_at : ℕ
publics_at = 832

abbrev pub restricted_at : ℕ
restricted_at = 896

abbrev pub nodes_offset : ℕ
nodes_offset = 960

abbrev pub privates_at : ℕ
privates_at = 1217

abbrev pub free_at : ℕ
free_at = 1218

abbrev pub places_at : ℕ
places_at = 1219

abbrev pub tokens_at : ℕ
tokens_at = 1220

abbrev pub plan_end : ℕ
plan_end = 1221

-- the parts of lent words that tell the reaches and where control places start
unfoldable pub publics_in : List ℕ → List ℕ
publics_in x = slice publics_at restricted_at x

unfoldable pub restricted_in : List ℕ → List ℕ
restricted_in x = slice restricted_at nodes_offset x

abbrev pub reach_in : List ℕ → ℕ → Reach
reach_in x name = reach (word (publics_in x) name) (word (restricted_in x) name)

unfoldable pub nodes_in : List ℕ → List ℕ
nodes_in x = slice nodes_offset privates_at x

module _ (w : List ℕ) where
  -- the public names in the reach of each name, and the restricted ones; none past the names
  unfoldable pub public_words : List ℕ
  public_words = map (public_set_word w) (range 64)

  unfoldable pub restricted_words : List ℕ
  restricted_words = map (restricted_set_word w) (range 64)

  -- "Then control places by node": where a node's control places start; past the nodes where they end
  abbrev pub node_word : ℕ → ℕ
  node_word n = control_start (scheme w) (values_for (scheme w)) (least n (nodes w))

  unfoldable pub node_words : List ℕ
  node_words = map node_word (range 257)

  -- N, "Then [*≠n] for N", and two of the header's words: "places", "initial tokens m"
  unfoldable pub count_words : List ℕ
  count_words =
      (values_for (scheme w)).privates
      ∷ free_start_of (scheme w) (values_for (scheme w))
      ∷ (net_of (scheme w)).places
      ∷ length (net_of (scheme w)).initial
      ∷ []

  -- the index with the reaches, and the whole
  unfoldable pub reached_words : List ℕ
  reached_words = index_words w ++ public_words ++ restricted_words

  unfoldable pub plan_words : List ℕ
  plan_words = reached_words ++ node_words ++ count_words

-- the table is accepted, and the words begin with its index and the reaches
pub record Reached (w index : List ℕ) : Type 0 where
  pub accepted : cause w ≡ 0
  pub front : take nodes_offset index ≡ reached_words w

-- the table is accepted, and the words begin with its plan
pub record Laid (w index : List ℕ) : Type 0 where
  pub accepted : cause w ≡ 0
  pub front : take plan_end index ≡ plan_words w
