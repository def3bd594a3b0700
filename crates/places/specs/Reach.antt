-- The reach of a name (document 02, Item 4; document 000, section 7.3): the public and restricted names that can arrive at it. The least sets that are closed
-- under the flow of names, found by rounds; and the values in force.
use Rattle.std.specs.Prelude.{◌≡◌, ℕ, zero, suc, ◌+◌, ◌*◌, ◌<◌, Bool, true, false, not, ◌&&◌, ◌||◌, List, [], ◌∷◌, map, nat_lt, slice_index_or}
use Rattle.lists.specs.Lists.{pick, same, from, range, some}
use Rattle.scheme.specs.Scheme.{Scheme, Node, stop, choice, new, call, Branch, absent, silent, send, receive}
use Rattle.places.specs.Values.{Values}
use Rattle.places.specs.Held.{private_count}

module _ (S : Scheme) where
  abbrev pub name_count : ℕ
  name_count = S.publics + S.bounds

  -- R x o: name o is in the reach of name x. Two reaches overlap
  unfoldable pub overlaps : (ℕ → ℕ → Bool) → ℕ → ℕ → Bool
  overlaps R a e = some (λ o. R a o && R e o) (range name_count)

  -- "A public reaches itself, a restricted name itself."
  abbrev pub is_source_name : ℕ → Bool
  is_source_name x = nat_lt x S.publics || S.restricted x

  -- "An input takes in the reach of every name sent on a channel in another thread whose reach overlaps its own channel's"
  abbrev pub sends_to : (ℕ → ℕ → Bool) → ℕ → ℕ → ℕ → Branch → ℕ → Branch → Bool
  sends_to R x o s absent r ρ = false
  sends_to R x o s (silent l) r ρ = false
  sends_to R x o s (send a z l) r absent = false
  sends_to R x o s (send a z l) r (silent m) = false
  sends_to R x o s (send a z l) r (send e y m) = false
  sends_to R x o s (send a z l) r (receive e y m) =
      same x y && (R z o && (not (same (S.thread (S.home s)) (S.thread (S.home r))) && overlaps R a e))
  sends_to R x o s (receive a y l) r ρ = false

  unfoldable pub is_sent : (ℕ → ℕ → Bool) → ℕ → ℕ → Bool
  is_sent R x o = some (λ s. some (λ r. sends_to R x o s (S.branch s) r (S.branch r)) (range S.branches)) (range S.branches)

  -- "a formal takes in its arguments' reaches"
  unfoldable pub passes : (ℕ → ℕ → Bool) → ℕ → ℕ → List ℕ → List ℕ → Bool
  passes R x o [] args = false
  passes R x o (f ∷ fs) [] = false
  passes R x o (f ∷ fs) (a ∷ args) = (same x f && R a o) || passes R x o fs args

  abbrev pub passes_at : (ℕ → ℕ → Bool) → ℕ → ℕ → ℕ → Node → Bool
  passes_at R x o n stop = false
  passes_at R x o n (choice f c) = false
  passes_at R x o n (new r l) = false
  passes_at R x o n (call d) = passes R x o (S.formals d) (S.arguments n)

  unfoldable pub is_passed : (ℕ → ℕ → Bool) → ℕ → ℕ → Bool
  is_passed R x o = some (λ n. passes_at R x o n (S.node n)) (range S.nodes)

  -- o comes into the reach of x, given these reaches
  unfoldable pub comes : (ℕ → ℕ → Bool) → ℕ → ℕ → Bool
  comes R x o = (is_source_name x && same x o) || (is_sent R x o || is_passed R x o)

  -- the reaches are closed: nothing comes in that is not there
  abbrev pub Closed : (ℕ → ℕ → Bool) → Type 0
  Closed R = (x o : ℕ) → x < name_count → o < name_count → comes R x o ≡ true → R x o ≡ true

  -- "becomes the least one": closed, and in every closed one
  pub record Least (R : ℕ → ℕ → Bool) : Type 0 where
    pub closed : Closed R
    pub least : (Q : ℕ → ℕ → Bool) → Closed Q → (x o : ℕ) → R x o ≡ true → Q x o ≡ true

  -- ---- found by rounds, each over what is known so far, until nothing new comes in

  unfoldable pub tabled : (ℕ → ℕ → Bool) → List (List Bool)
  tabled R = map (λ x. map (R x) (range name_count)) (range name_count)

  unfoldable pub look : List (List Bool) → ℕ → ℕ → Bool
  look t x o = slice_index_or (slice_index_or t x []) o false

  unfoldable pub is_new : (ℕ → ℕ → Bool) → Bool
  is_new R = some (λ x. some (λ o. not (R x o) && comes R x o) (range name_count)) (range name_count)

  unfoldable pub rounds : ℕ → List (List Bool) → List (List Bool)
  rounds zero t = t
  rounds (suc k) t = elim (is_new (look t)) [ true ↦ rounds k (tabled (λ x o. look t x o || comes (look t) x o)) | false ↦ t ]

  -- there are at most as many rounds as pairs of names
  unfoldable pub reach_table : List (List Bool)
  reach_table = rounds (name_count * name_count) (tabled (λ x o. false))

  -- "A restricted name in a reach stands for all private values."
  abbrev pub value_reach : (ℕ → ℕ → Bool) → ℕ → ℕ → Bool
  value_reach R x v = pick (nat_lt v S.publics) (R x v) (some (λ o. S.restricted o && R x o) (from S.publics S.bounds))

  -- the values in force: those of the image, of reading back and of every claim
  unfoldable pub values_for : Values
  values_for =
      let t = reach_table in
      record { privates = private_count S; origins = look t; reach = value_reach (look t) }

  -- a restricted name is in the reach in force: the name may hold every private value, else none
  unfoldable pub has_private_values : ℕ → Bool
  has_private_values x = some (λ o. S.restricted o && values_for.origins x o) (from S.publics S.bounds)
