-- The state that a marking shows, by the words that hold where threads stand and the values of names; and what reading answers.
use mathlib.Core.Path.{◌≡◌, refl, sym, ap, ◌∙◌}
use mathlib.Core.Logic.{◌⊎◌, inl, inr}
use mathlib.Core.Bool.{Bool, true, false}
use mathlib.Core.Option.{Option, none, some}
use mathlib.Core.List.{List, [], ◌∷◌, map}
use Prim.Native.Nat.{ℕ, zero, suc, ◌+◌, ◌≤◌, ◌<◌}
use native.Mathlib.Decide.{dec_lt}
use native.Mathlib.Omega.{arith}
use lib.Dec.{ltb}
use lib.ListN.{length, take, drop}
use lib.Seq.{sets}
use borrow.Author.Tests.{lt-ltb, le-ltb}
use Rattle.lists.specs.Lists.{pick, same, from, range, member}
use Rattle.lists.proofs.Tests.{same_self, same-no}
use Rattle.lists.proofs.Ranges.{from_member}
use Rattle.lists.proofs.Members.{member-here, member-there, member-drop}
use Rattle.scheme.specs.Words.{publics, bounds, names, threads}
use Rattle.scheme.specs.Scheme.{Scheme, Node, stop, choice, new, call, scheme}
use Rattle.scheme.specs.Kinds.{is_stop_node}
use Rattle.table.specs.Accepted.{Accepted}
use Rattle.table.specs.Causes.{cause}
use Rattle.table.proofs.Accepted.{accepted}
use Rattle.net.specs.Firing.{is_marking}
use Rattle.process.specs.States.{State, value_of}
use Rattle.process.specs.Steps.{passed}
use Rattle.process.specs.StateWords.{state_words, value_words}
use Rattle.process.specs.Outcomes.{Outcome, refusal, answered}
use Rattle.process.proofs.Sets.{sets-whole}
use Rattle.process.proofs.Stepping.{state-words-length, state-written}
use Rattle.places.specs.Places
use Rattle.places.specs.Inner.Plan.{today}
use Rattle.places.proofs.Controls.{publics-are, bounds-are}
use Rattle.readback.specs.Configurations.{Spot, Configuration, shown_node_of, name_shown_at, shown_name, state_shown}
use Rattle.readback.specs.Reading.{marked, configuration, reading_back}
use Rattle.std.specs.Prelude.{Result, Ok, Err, ⊤, IsErrAnd}
use Rattle.places.specs.Plan.{plan_end}
use Rattle.places.specs.Answers as places
use Rattle.places.specs.declared.Refusal as planned
use Rattle.places.specs.declared.Refusal.TheVariants as planned_as
use Rattle.places.proofs.Outcomes.{plan-refused, plan-short}
use Rattle.readback.specs.declared.Refusal.{Refusal}
use Rattle.readback.specs.Answers.{of_plan, outcome_of, laid_outcome, read_outcome}
use Rattle.readback.specs.Inner.Showing.{spot_at, value_found_in}
use Rattle.readback.specs.Inner.Settling.{Settled, stands_in}
use Rattle.readback.proofs.Stands.{read_at, read-value, read-public}

map-within : {A : Type 0} (f g : ℕ → A) (xs : List ℕ) → ((x : ℕ) → member x xs ≡ true → f x ≡ g x) → map f xs ≡ map g xs
map-within f g [] h = refl
map-within f g (x ∷ xs) h = rw (h x (member-here x xs), map-within f g xs (λ y m. h y (member-there y x xs m)))

-- what is passed is an argument
passed-member : (fs args : List ℕ) (x y : ℕ) → passed fs args x ≡ some y → member y args ≡ true
unfolding passed
passed-member [] args x y h = let z : ◌≡◌ {A = ℕ} 0 1 = cc in absurd (omega arith)
passed-member (f ∷ fs) [] x y h = let z : ◌≡◌ {A = ℕ} 0 1 = cc in absurd (omega arith)
passed-member (f ∷ fs) (a ∷ args) x y h = go (same x f) refl (passed-member fs args x y)
  where
    go : (b : Bool) → same x f ≡ b → (passed fs args x ≡ some y → member y args ≡ true) → member y (a ∷ args) ≡ true
    go true e ih = let q : some a ≡ some y = rw (passed, e) at h in let r : a ≡ y = cc in rw r (member-here y args)
    go false e ih = let q : passed fs args x ≡ some y = rw (passed, e) at h in member-there y a args (ih q)

-- the name that is shown for a bound name is a name
module _ (S : Scheme) (A : Accepted S) (x : ℕ) (hi : x < S.publics + S.bounds) where
  itself : (y : ℕ) → some x ≡ some y → y < S.publics + S.bounds
  itself y h = let q : x ≡ y = cc in rw (← q) hi

  nothing : (y : ℕ) → ◌≡◌ {A = Option ℕ} none (some y) → y < S.publics + S.bounds
  nothing y h = let z : ◌≡◌ {A = ℕ} 0 1 = cc in absurd (omega arith)

  called : (n d y j : ℕ) → S.node n ≡ call d → passed (drop j (S.formals d)) (drop j (S.arguments n)) x ≡ some y → y < S.publics + S.bounds
  called n d y j e h =
      go (A.argument-usable n d y e (member-drop y j (S.arguments n) (passed-member (drop j (S.formals d)) (drop j (S.arguments n)) x y h)))
    where
      go : (y < S.publics) ⊎ (member y (S.held n) ≡ true) → y < S.publics + S.bounds
      go (inl l) = omega arith
      go (inr i) = (A.held-name n y i).high

  chain : (n d y j : ℕ) → S.node n ≡ call d → (a b : Bool)
      → pick a none (pick b (some x) (passed (drop j (S.formals d)) (drop j (S.arguments n)) x)) ≡ some y → y < S.publics + S.bounds
  chain n d y j e true b h = nothing y h
  chain n d y j e false true h = itself y h
  chain n d y j e false false h = called n d y j e h

  at-node : (n k y : ℕ) (ν : Node) → S.node n ≡ ν → name_shown_at S ν n k x ≡ some y → y < S.publics + S.bounds
  at-node n k y stop e h = nothing y h
  at-node n k y (choice f c) e h = itself y h
  at-node n k y (new r l) e h = itself y h
  at-node n zero y (call d) e h = itself y h
  at-node n (suc j) y (call d) e h = chain n d y j e (is_stop_node (S.node (S.root d))) (member x (take j (S.formals d))) h

  pub shown-name : (at : ℕ → Spot) (y : ℕ) → shown_name S at x ≡ some y → y < S.publics + S.bounds
  shown-name at y h = go (ltb (S.thread_of_name x) S.threads) h
    where
      p : Spot
      p = at (S.thread_of_name x)

      go : (b : Bool) → pick b (name_shown_at S (S.node p.node) p.node p.index x) (some x) ≡ some y → y < S.publics + S.bounds
      go true h = at-node p.node p.index y (S.node p.node) refl h
      go false h = itself y h

module _ (w m places indexes values : List ℕ) (ok : cause w ≡ 0) (h : is_marking (length (Places.places (scheme w) (today w))) m ≡ true)
    (Z : Settled w m places indexes values) where
  abbrev S : Scheme
  S = scheme w

  abbrev found : Configuration
  found = configuration S (today w) (marked (Places.places S (today w)) m)

  at_same : (t : ℕ) → t < threads w → spot_at places indexes t ≡ found.at t
  at_same t l = Z.spots-found t l ∙ sym (read_at S (accepted w ok) m h t)

  value_same : (y : ℕ) → y < names w → value_found_in w values y ≡ found.value y
  value_same y l = go (dec_lt y (publics w))
    where
      go : Dec (y < publics w) → value_found_in w values y ≡ found.value y
      go (yes p) = rw (lt-ltb y (publics w) p) (sym (read-public S (accepted w ok) m h y (lt-ltb y S.publics (omega (arith, publics-are w)))))
      go (no d) =
          rw (le-ltb y (publics w) (omega arith))
          (sym (Z.values-found y (omega arith) l)
          ∙ sym (read-value S (accepted w ok) m h y (omega (arith, publics-are w)) (omega (arith, publics-are w, bounds-are w))))

  thread-in : (x : ℕ) → publics w ≤ x → x < names w → S.thread_of_name x < threads w
  unfolding scheme
  thread-in x lo hi = (accepted w ok).name-thread x lo hi

  abbrev shown_from : ℕ → Spot → Option ℕ
  shown_from x p = pick (ltb (S.thread_of_name x) S.threads) (name_shown_at S (S.node p.node) p.node p.index x) (some x)

  name-same : (x : ℕ) → publics w ≤ x → x < names w → shown_name S (spot_at places indexes) x ≡ shown_name S found.at x
  name-same x lo hi = ap (shown_from x) (at_same (S.thread_of_name x) (thread-in x lo hi))

  shown-same : (x : ℕ) → publics w ≤ x → x < names w
      → value_of (value_found_in w values) (shown_name S (spot_at places indexes) x) ≡ value_of found.value (shown_name S found.at x)
  shown-same x lo hi = ap (value_of (value_found_in w values)) (name-same x lo hi) ∙ go (shown_name S found.at x) refl
    where
      go : (o : Option ℕ) → shown_name S found.at x ≡ o → value_of (value_found_in w values) o ≡ value_of found.value o
      go none e = refl
      go (some y) e =
          value_same y (omega (
            arith,
            publics-are w,
            bounds-are w,
            shown-name S (accepted w ok) x (omega (arith, publics-are w, bounds-are w)) found.at y e,
          ))

  abbrev shown : State
  shown = state_shown S (S.publics + (today w).privates) found

  nodes-same : map (λ t. shown_node_of S (spot_at places indexes t)) (range (threads w)) ≡ map shown.node (range (threads w))
  unfolding state_shown
  nodes-same =
      map-within (λ t. shown_node_of S (spot_at places indexes t)) (λ t. shown_node_of S (found.at t)) (range (threads w))
      (λ t i. ap (shown_node_of S) (at_same t (omega (arith, from_member t 0 (threads w) i))))

  values_same : map (λ x. value_of (value_found_in w values) (shown_name S (spot_at places indexes) x)) (from (publics w) (bounds w))
      ≡ map shown.value (from (publics w) (bounds w))
  unfolding state_shown
  values_same =
      map-within (λ x. value_of (value_found_in w values) (shown_name S (spot_at places indexes) x)) (λ x. value_of found.value (shown_name S found.at x))
      (from (publics w) (bounds w))
      (λ x i. let b = from_member x (publics w) (bounds w) i in shown-same x b.0 b.1)

  -- what is written is the state
  pub state-is : (lent middle left : List ℕ) → middle ≡ sets lent 0 (map (λ t. shown_node_of S (spot_at places indexes t)) (range (threads w)))
      → left ≡ sets middle (threads w)
      (value_words (publics w) [] (map (λ x. value_of (value_found_in w values) (shown_name S (spot_at places indexes) x)) (from (publics w) (bounds w))))
      → left ≡ sets lent 0 (state_words S shown)
  state-is lent middle left f g =
      state-written w shown lent middle left (f ∙ ap (sets lent 0) nodes-same)
      (g ∙ ap (λ (os : List (Option ℕ)). sets middle (threads w) (value_words (publics w) [] os)) values_same)

-- ---- answers

module _ (w m lent : List ℕ) (n : ℕ) (n-is : n ≡ length (Places.places (scheme w) (today w))) where
  pub no-marking : is_marking n m ≡ false → refusal 13 lent ≡ laid_outcome w m lent
  unfolding reading_back
  no-marking e = rw (← n-is, e)

  module _ (h : is_marking n m ≡ true) where
    pub no-state : stands_in w m ≡ false → refusal 17 lent ≡ laid_outcome w m lent
    unfolding reading_back
    no-state e = rw (← n-is, h, e)

    module _ (e : stands_in w m ≡ true) (size : ℕ) (size_is : size ≡ threads w + bounds w) where
      abbrev state : State
      state =
          state_shown (scheme w) ((scheme w).publics + (today w).privates)
          (configuration (scheme w) (today w) (marked (Places.places (scheme w) (today w)) m))

      state-length : length (state_words (scheme w) state) ≡ size
      state-length = state-words-length w state ∙ sym size_is

      pub no_room : length lent < size → refusal 10 lent ≡ laid_outcome w m lent
      unfolding reading_back answered
      no_room l = rw (← n-is, h, e, state-length, lt-ltb (length lent) size l)

      pub done : (left : List ℕ) → size ≤ length lent → left ≡ sets lent 0 (state_words (scheme w) state)
          → record { number = 0; value = some size; left = left } ≡ laid_outcome w m lent
      unfolding reading_back answered
      done left l q =
          let k : length (state_words (scheme w) state) ≤ length lent = omega (arith, state-length) in
          rw (← n-is, h, e, le-ltb (length lent) (length (state_words (scheme w) state)) k, q, ← sets-whole lent (state_words (scheme w) state) k, state-length)

-- ---- the table's own cause first

module _ (w m lent before index : List ℕ) (r : Result ⊤ planned.Refusal) (right : places.planned r index ≡ places.plan_outcome w before) (long : plan_end ≤ length before) where
  refused : (q : planned.Refusal) → r ≡ Err q → outcome_of (Err (of_plan q)) lent ≡ read_outcome w m lent
  unfolding read_outcome
  refused (planned_as.Table v) e = let t = plan-refused w before index r right v e in rw (t.0, same-no (cause w) 0 t.1)
  refused planned_as.NoRoom e = absurd (plan-short w before index r right e long)

  pub read-refused : (q : planned.Refusal) → r ≡ Err q → (s : Result ℕ Refusal) → IsErrAnd s (λ p. p ≡ of_plan q) → outcome_of s lent ≡ read_outcome w m lent
  read-refused q e (Ok n) h = absurd h
  read-refused q e (Err p) h = rw h (refused q e)

pub read-laid-out : (w m lent : List ℕ) (o : Outcome) → cause w ≡ 0 → o ≡ laid_outcome w m lent → o ≡ read_outcome w m lent
unfolding read_outcome
read-laid-out w m lent o ok e = e ∙ rw (ok, same_self 0)
