-- The open labels are those that the code lists: the steps of nodes where threads stand, and the pairs of the sends and receives there that can meet.
use mathlib.Core.Path.{◌≡◌, refl, sym, ◌∙◌}
use mathlib.Core.Bool.{Bool, true, false, not, ◌&&◌, true≢false, false≢true}
use mathlib.Core.List.{List, [], ◌∷◌, ◌++◌, map, append-nil, append_assoc}
use Prim.Native.Nat.{ℕ, ◌*◌}
use native.Mathlib.Omega.{arith}
use lib.Dec.{ltb}
use lib.ListN.{length, length-append}
use Rattle.lists.specs.Lists.{pick, same, from, range, keep, flat, member}
use Rattle.lists.proofs.Tests.{not-true-false, and_left, and_right, and_intro, or_left, or_right, same_self}
use Rattle.lists.proofs.Ranges.{flat_append, from_member}
use Rattle.scheme.specs.Words.{nodes, branches, branch_kind}
use Rattle.table.specs.Causes.{cause}
use Rattle.scheme.specs.Scheme.{Scheme, scheme, Node, stop, choice, new, call, Branch, absent, silent, send, receive}
use Rattle.scheme.specs.Kinds.{is_new, is_call_node, is_silent, is_send, is_receive}
use Rattle.table.proofs.Accepted.{accepted}
use Rattle.process.specs.States.{State, is_one_value}
use Rattle.process.specs.Steps.{Step, new_step, silent_step, communication, step_call, no_step, is_step_open, is_standing_at, can_communicate}
use Rattle.process.specs.Labels.{label_of, steps_of_node, steps, is_partner, open_step_list, open_labels}
use Rattle.process.specs.Inner.Listed.{silent_words, step_words, node_words, pair_words, pairs_words, meeting_words, list_words, standing}
use Rattle.process.proofs.Decoding.{send-there, receive-there}
use Rattle.process.proofs.Listed.{silent-yes, silent-no, silent-labels, pair-no}

-- ---- lists put one after the other, of elements kept

module _ {A B : Type 0} (p : A → Bool) (g : A → List B) where
  sift-cons : (x : A) (xs : List A) → flat g (keep p (x ∷ xs)) ≡ pick (p x) (g x) [] ++ flat g (keep p xs)
  unfolding keep flat
  sift-cons x xs = go (p x)
    where
      go : (b : Bool) → flat g (pick b (x ∷ keep p xs) (keep p xs)) ≡ pick b (g x) [] ++ flat g (keep p xs)
      go true = refl
      go false = refl

  sift-append : (xs ys : List A) → flat g (keep p (xs ++ ys)) ≡ flat g (keep p xs) ++ flat g (keep p ys)
  unfolding keep flat
  sift-append [] ys = refl
  sift-append (x ∷ xs) ys =
      sift-cons x (xs ++ ys) ∙ rw (sift-append xs ys, sift-cons x xs) (sym (append_assoc (pick (p x) (g x) []) (flat g (keep p xs)) (flat g (keep p ys))))

  sift-map : {C : Type 0} (f : C → A) (xs : List C) → flat g (keep p (map f xs)) ≡ flat (λ x. pick (p (f x)) (g (f x)) []) xs
  unfolding keep flat
  sift-map f [] = refl
  sift-map f (x ∷ xs) = sift-cons (f x) (map f xs) ∙ rw (sift-map f xs)

  sift-flat : {C : Type 0} (f : C → List A) (xs : List C) → flat g (keep p (flat f xs)) ≡ flat (λ x. flat g (keep p (f x))) xs
  unfolding keep flat
  sift-flat f [] = refl
  sift-flat f (x ∷ xs) = sift-append (f x) (flat f xs) ∙ rw (sift-flat f xs)

  -- what gives nothing need not be kept out
  sift-all : ((x : A) → p x ≡ false → g x ≡ []) → (xs : List A) → flat g (keep p xs) ≡ flat g xs
  unfolding keep flat
  sift-all h [] = refl
  sift-all h (x ∷ xs) = sift-cons x xs ∙ rw (sift-all h xs) (go (p x) refl)
    where
      go : (b : Bool) → p x ≡ b → pick (p x) (g x) [] ++ flat g xs ≡ g x ++ flat g xs
      go true e = rw e
      go false e = rw (e, h x e)

flat-like : {A B : Type 0} (f g : A → List B) → ((x : A) → f x ≡ g x) → (xs : List A) → flat f xs ≡ flat g xs
unfolding flat
flat-like f g h [] = refl
flat-like f g h (x ∷ xs) = rw (h x, flat-like f g h xs)

flat-same : (f g : ℕ → List ℕ) (xs : List ℕ) → ((x : ℕ) → member x xs ≡ true → f x ≡ g x) → flat f xs ≡ flat g xs
unfolding flat member
flat-same f g [] h = refl
flat-same f g (y ∷ ys) h =
    rw (h y (or_left (same y y) (member y ys) (same_self y)), flat-same f g ys (λ x m. h x (or_right (same x y) (member x ys) m)))

flat-none : (f : ℕ → List ℕ) (xs : List ℕ) → ((x : ℕ) → f x ≡ []) → flat f xs ≡ []
unfolding flat
flat-none f [] h = refl
flat-none f (x ∷ xs) h = rw (h x, flat-none f xs h)

-- a number that is left out gives nothing
flat-through : (g f : ℕ → List ℕ) → ((x : ℕ) → flat g (f x) ≡ g x) → (xs : List ℕ) → flat g (flat f xs) ≡ flat g xs
unfolding flat
flat-through g f h [] = refl
flat-through g f h (x ∷ xs) = flat_append g (f x) (flat f xs) ∙ rw (h x, flat-through g f h xs)

-- ---- the steps of nodes

module _ (S : Scheme) (s : State) where
  -- the labels of the steps that are open
  abbrev open_of : List Step → List ℕ
  open_of xs = flat (label_of S) (keep (is_step_open S s) xs)

  abbrev silents : List ℕ → List ℕ
  silents xs = keep (λ b. is_silent (S.branch b)) xs

  abbrev silent_open : ℕ → List ℕ
  silent_open b = pick (is_step_open S s (silent_step b)) (label_of S (silent_step b)) []

  silent-open : (b : ℕ) → is_step_open S s (silent_step b) ≡ (is_silent (S.branch b) && is_standing_at S s (S.home b))
  unfolding is_step_open
  silent-open b = refl

  silent-shut : (b : ℕ) → is_silent (S.branch b) ≡ false → silent_open b ≡ []
  silent-shut b h = rw (silent-open b, h)

  silent-here : (n b : ℕ) → S.home b ≡ n → silent_open b ≡ pick (is_standing_at S s n) (silent_words S b) []
  silent-here n b e = rw (silent-open b, e) (go (is_silent (S.branch b)) refl (is_standing_at S s n))
    where
      go : (d : Bool) → is_silent (S.branch b) ≡ d → (t : Bool) → pick (is_silent (S.branch b) && t) (3 ∷ b ∷ 0 ∷ []) [] ≡ pick t (silent_words S b) []
      go true h true = rw (h, silent-yes S b h)
      go true h false = rw h
      go false h true = rw (h, silent-no S b h)
      go false h false = rw h

  gate : (t : Bool) (xs : List ℕ) → flat (λ b. pick t (silent_words S b) []) xs ≡ pick t (flat (silent_words S) xs) []
  gate true xs = refl
  gate false xs = flat-none (λ b. []) xs (λ b. refl)

  choice-steps : (n : ℕ) (xs : List ℕ) → ((b : ℕ) → member b xs ≡ true → S.home b ≡ n)
      → open_of (map silent_step (silents xs)) ≡ pick (is_standing_at S s n) (flat (label_of S) (map silent_step (silents xs))) []
  choice-steps n xs h =
      sift-map (is_step_open S s) (label_of S) silent_step (silents xs)
      ∙ sift-all (λ b. is_silent (S.branch b)) silent_open silent-shut xs
      ∙ flat-same silent_open (λ b. pick (is_standing_at S s n) (silent_words S b) []) xs (λ b m. silent-here n b (h b m))
      ∙ gate (is_standing_at S s n) xs
      ∙ rw (silent-labels S xs)

  -- the open steps of a node are all its steps where its thread stands there, none elsewhere
  node-steps : (n : ℕ) (ν : Node) → S.node n ≡ ν → ((f c b : ℕ) → ν ≡ choice f c → member b (from f c) ≡ true → S.home b ≡ n)
      → open_of (steps_of_node S n ν) ≡ pick (is_standing_at S s n) (flat (label_of S) (steps_of_node S n ν)) []
  unfolding keep flat is_step_open
  node-steps n stop e h = go (is_standing_at S s n)
    where
      go : (t : Bool) → ◌≡◌ {A = List ℕ} [] (pick t [] [])
      go true = refl
      go false = refl
  node-steps n (choice f c) e h = choice-steps n (from f c) (λ b m. h f c b refl m)
  node-steps n (new r l) e h = let k : is_new (S.node n) ≡ true = rw e in rw k (go (is_standing_at S s n))
    where
      go : (t : Bool) → flat (label_of S) (pick t (new_step n ∷ []) []) ≡ pick t (flat (label_of S) (new_step n ∷ [])) []
      go true = refl
      go false = refl
  node-steps n (call d) e h = let k : is_call_node (S.node n) ≡ true = rw e in rw k (go (is_standing_at S s n))
    where
      go : (t : Bool) → flat (label_of S) (pick t (step_call n ∷ []) []) ≡ pick t (flat (label_of S) (step_call n ∷ [])) []
      go true = refl
      go false = refl

  -- ---- communications

  abbrev apart_from : ℕ → ℕ → Bool
  apart_from b c = not (same (S.thread (S.home b)) (S.thread (S.home c)))

  -- what an open communication says
  record Meets (b c : ℕ) (β γ : Branch) : Type 0 where
    sends : is_send β ≡ true
    receives : is_receive γ ≡ true
    apart : apart_from b c ≡ true
    sender : is_standing_at S s (S.home b) ≡ true
    receiver : is_standing_at S s (S.home c) ≡ true

  meets : (b c : ℕ) (β γ : Branch) → can_communicate S s b β c γ ≡ true → Meets b c β γ
  meets b c absent γ h = absurd (false≢true h)
  meets b c (silent l) γ h = absurd (false≢true h)
  meets b c (send a z l) absent h = absurd (false≢true h)
  meets b c (send a z l) (silent m) h = absurd (false≢true h)
  meets b c (send a z l) (send e y m) h = absurd (false≢true h)
  meets b c (send a z l) (receive e y m) h =
      let one = is_one_value (s.value a) (s.value e) in
      let there = is_standing_at S s (S.home b) && (is_standing_at S s (S.home c) && one) in
      let k = and_right (apart_from b c) there h in
      record {
        sends = refl;
        receives = refl;
        apart = and_left (apart_from b c) there h;
        sender = and_left (is_standing_at S s (S.home b)) (is_standing_at S s (S.home c) && one) k;
        receiver = and_left (is_standing_at S s (S.home c)) one (and_right (is_standing_at S s (S.home b)) (is_standing_at S s (S.home c) && one) k);
      }
  meets b c (receive a y l) γ h = absurd (false≢true h)

  open-meets : (b c : ℕ) → is_step_open S s (communication b c) ≡ true → Meets b c (S.branch b) (S.branch c)
  unfolding is_step_open
  open-meets b c h = meets b c (S.branch b) (S.branch c) h

  no-pair : (b c : ℕ) → (Meets b c (S.branch b) (S.branch c) → ⊥) → pair_words S s b c ≡ []
  no-pair b c h = pair-no S s b c (not-true-false (is_step_open S s (communication b c)) (λ o. h (open-meets b c o)))

  abbrev pair_open : ℕ → ℕ → List ℕ
  pair_open b c = pick (is_step_open S s (communication b c)) (label_of S (communication b c)) []

  pair-label : (b c : ℕ) → pair_open b c ≡ pair_words S s b c
  unfolding pair_words
  pair-label b c = refl

  abbrev partners : ℕ → List ℕ → List ℕ
  partners b xs = keep (is_partner S b) xs

  -- the receives that a send can meet are partners, wherever they stand
  send-pairs : (b : ℕ) (xs : List ℕ) → open_of (map (communication b) (partners b xs)) ≡ flat (pair_words S s b) xs
  send-pairs b xs =
      sift-map (is_step_open S s) (label_of S) (communication b) (partners b xs)
      ∙ flat-like (pair_open b) (pair_words S s b) (pair-label b) (partners b xs)
      ∙ sift-all (is_partner S b) (pair_words S s b) away xs
    where
      away : (c : ℕ) → is_partner S b c ≡ false → pair_words S s b c ≡ []
      away c h = no-pair b c (λ m. true≢false (sym (and_intro (is_receive (S.branch c)) _ m.receives m.apart) ∙ h))

  -- the pairs of a branch with each of a list
  abbrev pairs_of : List ℕ → ℕ → List ℕ
  pairs_of ys b = flat (pair_words S s b) ys

  no-send : (ys : List ℕ) (b : ℕ) → is_send (S.branch b) ≡ false → pairs_of ys b ≡ []
  no-send ys b h = flat-none (pair_words S s b) ys (λ c. no-pair b c (λ m. true≢false (sym m.sends ∙ h)))

  all-pairs : (xs ys : List ℕ)
      → open_of (flat (λ b. map (communication b) (partners b ys)) (keep (λ b. is_send (S.branch b)) xs)) ≡ flat (pairs_of ys) xs
  all-pairs xs ys =
      let sends = keep (λ b. is_send (S.branch b)) xs in
      sift-flat (is_step_open S s) (label_of S) (λ b. map (communication b) (partners b ys)) sends
      ∙ flat-like (λ b. open_of (map (communication b) (partners b ys))) (pairs_of ys) (λ b. send-pairs b ys) sends
      ∙ sift-all (λ b. is_send (S.branch b)) (pairs_of ys) (no-send ys) xs

  -- ---- three words a label

  -- an open step has a label of three words
  label-words : (x : Step) → is_step_open S s x ≡ true → length (label_of S x) ≡ 3
  unfolding is_step_open
  label-words (new_step n) h = refl
  label-words (silent_step b) h = refl
  label-words (communication b c) h = refl
  label-words (step_call n) h = refl
  label-words no_step h = absurd (false≢true h)

  three-each : (xs : List Step) → length (open_of xs) ≡ 3 * length (keep (is_step_open S s) xs)
  unfolding keep flat
  three-each [] = refl
  three-each (x ∷ xs) = go (is_step_open S s x) refl (three-each xs)
    where
      go : (d : Bool) → is_step_open S s x ≡ d → length (open_of xs) ≡ 3 * length (keep (is_step_open S s) xs)
          → length (open_of (x ∷ xs)) ≡ 3 * length (keep (is_step_open S s) (x ∷ xs))
      go true h ih = rw (h, length-append (label_of S x) (open_of xs), label-words x h, ih) (omega arith)
      go false h ih = rw h ih

  pub labels_length : length (open_labels S s) ≡ 3 * length (open_step_list S s)
  unfolding open_labels open_step_list
  labels_length = three-each (steps S)

-- ---- the branches gathered

module _ (w : List ℕ) (s : State) where
  abbrev stands : ℕ → ℕ → Bool
  stands kind b = (ltb b (branches w) && same (branch_kind w b) kind) && is_standing_at (scheme w) s ((scheme w).home b)

  abbrev pairs : List ℕ → ℕ → List ℕ
  pairs ys b = flat (pair_words (scheme w) s b) ys

  -- a branch left out gives nothing
  through-standing : (g : ℕ → List ℕ) (kind b : ℕ) → (stands kind b ≡ false → g b ≡ []) → flat g (standing w s kind b) ≡ g b
  unfolding standing flat
  through-standing g kind b h = go (stands kind b) refl
    where
      go : (d : Bool) → stands kind b ≡ d → flat g (pick d (b ∷ []) []) ≡ g b
      go true e = append-nil (g b)
      go false e = sym (h e)

  module _ (b c : ℕ) (m : Meets (scheme w) s b c ((scheme w).branch b) ((scheme w).branch c)) where
    sender-stands : stands 1 b ≡ true
    sender-stands = and_intro (ltb b (branches w) && same (branch_kind w b) 1) _ (sym (send-there w b) ∙ m.sends) m.sender

    receiver-stands : stands 2 c ≡ true
    receiver-stands = and_intro (ltb c (branches w) && same (branch_kind w c) 2) _ (sym (receive-there w c) ∙ m.receives) m.receiver

  no-receiver : (b c : ℕ) → stands 2 c ≡ false → pair_words (scheme w) s b c ≡ []
  no-receiver b c e = no-pair (scheme w) s b c (λ m. true≢false (sym (receiver-stands b c m) ∙ e))

  no-sender : (ys : List ℕ) (b : ℕ) → stands 1 b ≡ false → pairs ys b ≡ []
  no-sender ys b e = flat-none (pair_words (scheme w) s b) ys (λ c. no-pair (scheme w) s b c (λ m. true≢false (sym (sender-stands b c m) ∙ e)))

  gathered-pairs : (xs : List ℕ) (b : ℕ) → pairs (flat (standing w s 2) xs) b ≡ pairs xs b
  gathered-pairs xs b =
      flat-through (pair_words (scheme w) s b) (standing w s 2) (λ c. through-standing (pair_words (scheme w) s b) 2 c (no-receiver b c)) xs

  gathered-sends : (ys xs : List ℕ) → flat (pairs ys) (flat (standing w s 1) xs) ≡ flat (pairs ys) xs
  gathered-sends ys xs = flat-through (pairs ys) (standing w s 1) (λ b. through-standing (pairs ys) 1 b (no-sender ys b)) xs

  meeting-words : (xs : List ℕ) → meeting_words (scheme w) s (flat (standing w s 1) xs) (flat (standing w s 2) xs) ≡ flat (pairs xs) xs
  unfolding meeting_words pairs_words
  meeting-words xs =
      flat-like (pairs (flat (standing w s 2) xs)) (pairs xs) (gathered-pairs xs) (flat (standing w s 1) xs) ∙ gathered-sends xs xs

  abbrev node_steps : ℕ → List Step
  node_steps n = steps_of_node (scheme w) n ((scheme w).node n)

  node-words : cause w ≡ 0 → (n : ℕ) → open_of (scheme w) s (node_steps n) ≡ node_words (scheme w) s n
  unfolding node_words step_words
  node-words ok n =
      node-steps (scheme w) s n ((scheme w).node n) refl (λ f c b e m. let k = from_member b f c m in (accepted w ok).choice-home n f c b e k.0 k.1)

  all-nodes : cause w ≡ 0 → (xs : List ℕ) → open_of (scheme w) s (flat node_steps xs) ≡ flat (node_words (scheme w) s) xs
  all-nodes ok xs =
      sift-flat (is_step_open (scheme w) s) (label_of (scheme w)) node_steps xs
      ∙ flat-like (λ n. open_of (scheme w) s (node_steps n)) (node_words (scheme w) s) (node-words ok) xs

  -- the law of the listing
  pub listed-open : cause w ≡ 0
      → open_labels (scheme w) s ≡ list_words (scheme w) s (flat (standing w s 1) (range (branches w))) (flat (standing w s 2) (range (branches w)))
  unfolding open_labels open_step_list steps list_words scheme
  listed-open ok =
      sift-append (is_step_open (scheme w) s) (label_of (scheme w)) (flat node_steps (range (nodes w)))
      (flat (λ b. map (communication b) (partners (scheme w) s b (range (branches w)))) (keep (λ b. is_send ((scheme w).branch b)) (range (branches w))))
      ∙ rw (all-nodes ok (range (nodes w)), all-pairs (scheme w) s (range (branches w)) (range (branches w)), meeting-words (range (branches w)))
