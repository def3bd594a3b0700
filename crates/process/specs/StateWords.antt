-- States as words (document 01, Process rules): "State words: T nodes, then B values, 65535 for a name not held. Private values are numbered from P
-- by first appearance in name order."
use Rattle.std.specs.Prelude.{◌≡◌, Bool, true, false, not, ◌&&◌, ◌||◌, List, [], ◌∷◌, ◌++◌, map, ℕ, suc, ◌+◌, ◌-◌, ltb, leb, length}
use Rattle.std.proofs.Math.Option.{Option, none, some}
use Rattle.std.proofs.Math.ListN
use Rattle.std.proofs.lemmas.List.Edits.{sets}
use Rattle.lists.specs.Lists.{pick, same, word, from, range, every, member}
use Rattle.scheme.specs.Scheme.{Scheme}
use Rattle.process.specs.States.{State, is_one_value}
use Rattle.scheme.specs.Kinds.{is_stop_node}

-- where v stands in a list, its length where it does not
unfoldable pub place : ℕ → List ℕ → ℕ
place v [] = 0
place v (u ∷ us) = elim (same v u) [ true ↦ 0 | false ↦ suc (place v us) ]

-- the list with v, at its end if v is not there
unfoldable pub noted : ℕ → List ℕ → List ℕ
noted v us = pick (member v us) us (us ++ (v ∷ []))

-- the words of a list of values; `seen` has the private ones that came before, in order of their first appearance
unfoldable pub value_words : ℕ → List ℕ → List (Option ℕ) → List ℕ
value_words P seen [] = []
value_words P seen (none ∷ vs) = 65535 ∷ value_words P seen vs
value_words P seen (some v ∷ vs) = elim (ltb v P) [ true ↦ v ∷ value_words P seen vs | false ↦ (P + place v (noted v seen)) ∷ value_words P (noted v seen) vs ]

-- the value that a word stands for
abbrev pub value_at : ℕ → Option ℕ
value_at v = pick (same v 65535) none (some v)

-- P public names and the first n of the words can be numbered: they are few, and there are so many words
abbrev pub numberable : ℕ → List ℕ → ℕ → Bool
numberable P vs n = leb P 32 && (leb n 32 && leb n (length vs))

-- numbering the values of the first n words: whether they can be, and the words written from word i on
pub record Numbered (P : ℕ) (vs : List ℕ) (n i : ℕ) (before : List ℕ) (r : Bool) (after : List ℕ) : Type 0 where
  pub answer : r ≡ numberable P vs n
  pub words : after ≡ pick (numberable P vs n) (sets before i (value_words P [] (map value_at (ListN.take n vs)))) before

module _ (S : Scheme) where
  unfoldable pub state_words : State → List ℕ
  state_words s = map s.node (range S.threads) ++ value_words S.publics [] (map s.value (from S.publics S.bounds))

  -- the state that words stand for; a new private value is one that no word can name
  unfoldable pub state_of : List ℕ → State
  state_of ws = record {
    node = λ t. word ws t;
    value = λ x. pick (ltb x S.publics) (some x) (pick (ltb x (S.publics + S.bounds)) (value_at (word ws (S.threads + (x - S.publics)))) none);
    counter = S.publics + S.bounds;
  }

  -- "Malformed (18): wrong length, a node of another thread, held names not the node's (none at Stop), a value not below P+B or not so numbered, a restricted
  -- name holding a public value, or two restricted names holding one value."
  abbrev pub has_value : Option ℕ → Bool
  has_value none = false
  has_value (some v) = true

  -- thread t is to hold x at its node
  abbrev pub holds_at : State → ℕ → Bool
  holds_at s x =
      let n = s.node (S.thread_of_name x) in
      not (is_stop_node (S.node n)) && member x (S.held n)

  abbrev pub is_node_right : State → ℕ → Bool
  is_node_right s t = ltb (s.node t) S.nodes && same (S.thread (s.node t)) t

  abbrev pub value_below : ℕ → Option ℕ → Bool
  value_below n none = true
  value_below n (some v) = ltb v n

  abbrev pub value_private : Option ℕ → Bool
  value_private none = true
  value_private (some v) = leb S.publics v

  abbrev pub same_bool : Bool → Bool → Bool
  same_bool true b = b
  same_bool false b = not b

  abbrev pub is_name_right : State → ℕ → Bool
  is_name_right s x = same_bool (has_value (s.value x)) (holds_at s x) && value_below (S.publics + S.bounds) (s.value x)

  abbrev pub is_restricted_right : State → ℕ → Bool
  is_restricted_right s x =
      not (S.restricted x) ||
      (value_private (s.value x) && every (λ y. not (S.restricted y) || (same x y || not (is_one_value (s.value x) (s.value y)))) (from S.publics S.bounds))

  unfoldable pub same_list : List ℕ → List ℕ → Bool
  same_list [] [] = true
  same_list [] (y ∷ ys) = false
  same_list (x ∷ xs) [] = false
  same_list (x ∷ xs) (y ∷ ys) = same x y && same_list xs ys

  unfoldable pub is_well_formed : List ℕ → Bool
  is_well_formed ws =
      same (length ws) (S.threads + S.bounds) &&
      (every (is_node_right (state_of ws)) (range S.threads) &&
      (every (is_name_right (state_of ws)) (from S.publics S.bounds) &&
      (same_list (state_words (state_of ws)) ws && every (is_restricted_right (state_of ws)) (from S.publics S.bounds))))
