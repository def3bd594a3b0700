-- What the search and one turn of a run give, case by case.
use mathlib.Core.Path.{◌≡◌, refl, sym, ap, subst, ◌∙◌}
use mathlib.Core.Bool.{Bool, true, false, not}
use mathlib.Core.Logic.{◌⊎◌, inl, inr, ⊎_elim}
use mathlib.Core.List.{List, [], ◌∷◌, ◌++◌, append-nil}
use Prim.Native.Nat.{ℕ, zero, suc, ◌+◌, ◌-◌, ◌≤◌, ◌<◌}
use native.Mathlib.Numerals.{add-one}
use native.Mathlib.Omega.{arith}
use lib.ListN.{length, take, drop, set, length-append, take-append-drop}
use lib.Seq.{length-take-le, take-suc-set, append_snoc, drop-set-lt, drop-drop}
use Rattle.lists.specs.Lists.{pick}
use Rattle.net.specs.declared.Ran.{Ran}
use Rattle.net.specs.Image.{place_count_of, transition_count, is_header_right, inputs_at, record_right}
use Rattle.net.specs.Firing.{is_marking, is_enabled, Step, made, refused, step, Search, lowest, malformed, nothing, search_from}
use Rattle.net.specs.Firing.{lowest_enabled, Ending, limit_reached, history_full, nothing_enabled, stopped, RunOutcome, ended, preceded, run_by, run_of}
use Rattle.net.specs.declared.Cause.{Cause}
use Rattle.net.specs.Answers.{cause_number, ending, Leaves}
use Rattle.net.specs.declared.Cause.TheVariants.{RecordWrong}
use Rattle.net.specs.declared.Reason.{Reason}
use Rattle.net.specs.declared.Reason.TheVariants.{Stopped}
use Rattle.std.specs.Prelude.{Result, Err}
use Rattle.std.specs.Result.{IsErrAnd}
use Rattle.std.proofs.lemmas.Result.{err_from_is_err_and}
use Rattle.net.specs.Lent.{lent_cause}
use Rattle.net.specs.Inner.Passes.{rule_of, Turned}
use Rattle.net.proofs.Lent.{refused_first}

-- ---- what a search of the old rule found

-- what is known where the search has found the lowest: it is enabled, none below it is, and every record met is right
pub record Met (w m : List ℕ) (n a t : ℕ) : Type 0 where
  pub low : a ≤ t
  pub high : t < a + n
  pub enabled : is_enabled m (inputs_at w t) ≡ true
  pub lower : (k : ℕ) → a ≤ k → k < t → is_enabled m (inputs_at w k) ≡ false
  pub right : (k : ℕ) → a ≤ k → k ≤ t → record_right w k ≡ true

no-lowest : (t : ℕ) → nothing ≡ lowest t → ⊥
no-lowest t p = let z : ◌≡◌ {A = ℕ} 0 1 = cc in omega arith

wrong-lowest : (t : ℕ) → malformed ≡ lowest t → ⊥
wrong-lowest t p = let z : ◌≡◌ {A = ℕ} 0 1 = cc in omega arith

same-lowest : (a t : ℕ) → lowest a ≡ lowest t → a ≡ t
same-lowest a t p = cc

first-or-later : (a k : ℕ) → a ≤ k → (a ≡ k) ⊎ (a + 1 ≤ k)
first-or-later zero zero h = inl refl
first-or-later zero (suc k) h = inr (omega arith)
first-or-later (suc a) zero h = absurd (omega arith)
first-or-later (suc a) (suc k) h = ⊎_elim (λ p. inl (ap suc p)) (λ p. inr (omega arith)) (first-or-later a k (omega arith))

met-here : (w m : List ℕ) (n a t : ℕ) → record_right w a ≡ true → is_enabled m (inputs_at w a) ≡ true → a ≡ t → Met w m (suc n) a t
met-here w m n a t r e p =
    record {
      low = omega arith;
      high = omega arith;
      enabled = ap (λ (k : ℕ). is_enabled m (inputs_at w k)) (sym p) ∙ e;
      lower = λ k x y. absurd (omega arith);
      right = λ k x y. let q : k ≡ a = omega arith in ap (record_right w) q ∙ r;
    }

met-later : (w m : List ℕ) (n a t : ℕ) → record_right w a ≡ true → is_enabled m (inputs_at w a) ≡ false → Met w m n (a + 1) t → Met w m (suc n) a t
met-later w m n a t r d s =
    record {
      low = omega arith;
      high = omega arith;
      enabled = s.enabled;
      lower = λ k x y. ⊎_elim (λ p. ap (λ (j : ℕ). is_enabled m (inputs_at w j)) (sym p) ∙ d) (λ p. s.lower k p y) (first-or-later a k x);
      right = λ k x y. ⊎_elim (λ p. ap (record_right w) (sym p) ∙ r) (λ p. s.right k p y) (first-or-later a k x);
    }

pub met : (w m : List ℕ) (n a t : ℕ) → search_from w m n a ≡ lowest t → Met w m n a t
unfolding search_from
met w m zero a t e = absurd (no-lowest t e)
met w m (suc n) a t e = go (record_right w a) refl e (λ p. met w m n (a + 1) t p)
  where
    go2 : (b : Bool) → is_enabled m (inputs_at w a) ≡ b → record_right w a ≡ true → pick b (lowest a) (search_from w m n (a + 1)) ≡ lowest t
        → (search_from w m n (a + 1) ≡ lowest t → Met w m n (a + 1) t) → Met w m (suc n) a t
    go2 true q r p f = met-here w m n a t r q (same-lowest a t p)
    go2 false q r p f = met-later w m n a t r q (f p)

    go : (b : Bool) → record_right w a ≡ b → pick (not b) malformed (pick (is_enabled m (inputs_at w a)) (lowest a) (search_from w m n (a + 1))) ≡ lowest t
        → (search_from w m n (a + 1) ≡ lowest t → Met w m n (a + 1) t) → Met w m (suc n) a t
    go true r p f = go2 (is_enabled m (inputs_at w a)) refl r p f
    go false r p f = absurd (wrong-lowest t p)

pub lowest-met : (w m : List ℕ) (t : ℕ) → lowest_enabled w m ≡ lowest t → Met w m (transition_count w) 0 t
unfolding lowest_enabled
lowest-met w m t e = met w m (transition_count w) 0 t e

-- where it has found nothing, no transition is enabled
none_from : (w m : List ℕ) (n a : ℕ) → search_from w m n a ≡ nothing → (k : ℕ) → a ≤ k → k < a + n → is_enabled m (inputs_at w k) ≡ false
unfolding search_from
none_from w m zero a e k x y = absurd (omega arith)
none_from w m (suc n) a e k x y = go (record_right w a) (is_enabled m (inputs_at w a)) refl e (λ p z. none_from w m n (a + 1) p k z (omega arith))
  where
    go : (b d : Bool) → is_enabled m (inputs_at w a) ≡ d → pick (not b) malformed (pick d (lowest a) (search_from w m n (a + 1))) ≡ nothing
        → (search_from w m n (a + 1) ≡ nothing → a + 1 ≤ k → is_enabled m (inputs_at w k) ≡ false) → is_enabled m (inputs_at w k) ≡ false
    go true true q p f = let z : ◌≡◌ {A = ℕ} 0 1 = cc in absurd (omega arith)
    go true false q p f = ⊎_elim (λ z. ap (λ (j : ℕ). is_enabled m (inputs_at w j)) (sym z) ∙ q) (λ z. f p z) (first-or-later a k x)
    go false d q p f = let z : ◌≡◌ {A = ℕ} 0 1 = cc in absurd (omega arith)

pub none-enabled : (w m : List ℕ) → lowest_enabled w m ≡ nothing → (k : ℕ) → k < transition_count w → is_enabled m (inputs_at w k) ≡ false
unfolding lowest_enabled
none-enabled w m e k h = none_from w m (transition_count w) 0 e k (omega arith) (omega arith)

-- ---- a run

module _ (w : List ℕ) (rule : List ℕ → Search) (m : List ℕ) (limit room : ℕ) where
  pub run_refused : (x : Cause) → cause_number x ≡ lent_cause w m → run_of w rule m limit room ≡ ended (stopped (cause_number x)) m
  unfolding run_of
  run_refused x e = sym (refused_first w m x e (λ c. ended (stopped c) m) (run_by w rule limit room m))

  pub run-as : is_header_right w ≡ true → is_marking (place_count_of w) m ≡ true → run_of w rule m limit room ≡ run_by w rule limit room m
  unfolding run_of
  run-as a b = rw (a, b)

-- a turn that neither limit nor history ends
module _ (w : List ℕ) (rule : List ℕ → Search) (m : List ℕ) (limit room : ℕ) where
  abbrev go_on : Step → ℕ → RunOutcome
  go_on (made next) t = preceded (t ∷ []) (run_by w rule limit room next)
  go_on (refused cause) t = ended (stopped cause) m

  abbrev found : Search → RunOutcome
  found nothing = ended nothing_enabled m
  found malformed = ended (stopped 12) m
  found (lowest t) = go_on (step w m t) t

  by-search : run_by w rule (suc limit) (suc room) m ≡ found (rule m)
  unfolding run_by
  by-search = same (rule m)
    where
      same2 : (s : Step) (t : ℕ) → elim s [ made next ↦ preceded (t ∷ []) (run_by w rule limit room next) | refused cause ↦ ended (stopped cause) m ] ≡ go_on s t
      same2 (made next) t = refl
      same2 (refused cause) t = refl

      same : (s : Search) → elim s [
        | nothing ↦ ended nothing_enabled m
        | malformed ↦ ended (stopped 12) m
        | lowest t ↦ elim
            (step w m t) [ made next ↦ preceded (t ∷ []) (run_by w rule limit room next) | refused cause ↦ ended (stopped cause) m ]
      ] ≡ found s
      same nothing = refl
      same malformed = refl
      same (lowest t) = same2 (step w m t) t

  pub run-nothing : rule m ≡ nothing → run_by w rule (suc limit) (suc room) m ≡ ended nothing_enabled m
  run-nothing e = by-search ∙ ap found e

  pub run-malformed : rule m ≡ malformed → run_by w rule (suc limit) (suc room) m ≡ ended (stopped 12) m
  run-malformed e = by-search ∙ ap found e

  pub run-refused : (t c : ℕ) → rule m ≡ lowest t → step w m t ≡ refused c → run_by w rule (suc limit) (suc room) m ≡ ended (stopped c) m
  run-refused t c e s = by-search ∙ ap found e ∙ ap (λ (x : Step). go_on x t) s

  pub run-made : (t : ℕ) (next : List ℕ) → rule m ≡ lowest t → step w m t ≡ made next
      → run_by w rule (suc limit) (suc room) m ≡ preceded (t ∷ []) (run_by w rule limit room next)
  run-made t next e s = by-search ∙ ap found e ∙ ap (λ (x : Step). go_on x t) s

-- why a turn ends a run
module _ (w : List ℕ) (settle : Bool) (m after : List ℕ) where
  pub turned-err : (r : Result ℕ Reason) (e : Reason) → IsErrAnd r (λ x. x ≡ e) → Turned w settle m after (Err e) → Turned w settle m after r
  turned-err r e h t = let x = err_from_is_err_and r h in subst (λ (q : Result ℕ Reason). Turned w settle m after q) (sym (x.1 ∙ ap Err x.2)) t

  pub turned-malformed : (c : Cause) → (rule_of settle w m ≡ malformed) × (c ≡ RecordWrong) → after ≡ m → Turned w settle m after (Err (Stopped c))
  turned-malformed c h e =
      λ limit room. run-malformed w (rule_of settle w) m limit room h.0 ∙ rw (h.1, e) refl

  pub turned-refused : (t : ℕ) (c : Cause) → rule_of settle w m ≡ lowest t → step w m t ≡ refused (cause_number c) → after ≡ m
      → Turned w settle m after (Err (Stopped c))
  turned-refused t c f s e = λ limit room. run-refused w (rule_of settle w) m limit room t (cause_number c) f s ∙ rw e refl

-- what is left, k firings made
module _ (w : List ℕ) (rule : List ℕ → Search) (m : List ℕ) (limit room k : ℕ) where
  pub run-limit : limit ≤ k → run_by w rule (limit - k) (room - k) m ≡ ended limit_reached m
  unfolding run_by
  run-limit h = let e : limit - k ≡ 0 = omega arith in rw e

  module _ (l : k < limit) where
    more : limit - k ≡ suc (limit - (k + 1))
    more = omega arith

    pub run-full : room ≤ k → run_by w rule (limit - k) (room - k) m ≡ ended history_full m
    unfolding run_by
    run-full h = let e : room - k ≡ 0 = omega arith in rw (more, e)

    pub run-turn : k < room → run_by w rule (limit - k) (room - k) m ≡ run_by w rule (suc (limit - (k + 1))) (suc (room - (k + 1))) m
    run-turn r = let e : room - k ≡ suc (room - (k + 1)) = omega arith in rw (more, e)

-- ---- the run from its beginning, k numbers made

abbrev outcome_of : Ending → ℕ → List ℕ → List ℕ → RunOutcome
outcome_of reason firings marking history = record { reason = reason; firings = firings; marking = marking; history = history }

preceded-more : (done : List ℕ) (t : ℕ) (r : RunOutcome) → preceded done (preceded (t ∷ []) r) ≡ preceded (done ++ (t ∷ [])) r
preceded-more done t r =
    let f : length done + (1 + r.firings) ≡ length (done ++ (t ∷ [])) + r.firings = omega (arith, length-append done (t ∷ [])) in
    let h : done ++ (t ∷ r.history) ≡ (done ++ (t ∷ [])) ++ r.history = sym (append_snoc done t r.history) in
    ap (λ (n : ℕ). outcome_of r.reason n r.marking (done ++ (t ∷ r.history))) f
    ∙ ap (λ (l : List ℕ). outcome_of r.reason (length (done ++ (t ∷ [])) + r.firings) r.marking l) h

pub run-start : (w : List ℕ) (rule : List ℕ → Search) (m h : List ℕ) (limit room : ℕ)
    → run_by w rule limit room m ≡ preceded (take 0 h) (run_by w rule (limit - 0) (room - 0) m)
run-start w rule m h limit room =
    let a : limit - 0 ≡ limit = omega arith in
    let b : room - 0 ≡ room = omega arith in
    let r = run_by w rule limit room m in
    let f : r.firings ≡ 0 + r.firings = omega arith in
    rw (a, b) (ap (λ (n : ℕ). outcome_of r.reason n r.marking r.history) f)

pub run_on : (w : List ℕ) (rule : List ℕ → Search) (m h : List ℕ) (limit room k : ℕ) (o : RunOutcome)
    → o ≡ preceded (take k h) (run_by w rule (limit - k) (room - k) m) → k < limit → k < room
    → length h ≡ room → (t : ℕ) (next : List ℕ) → rule m ≡ lowest t → step w m t ≡ made next
    → o ≡ preceded (take (k + 1) (set h k t)) (run_by w rule (limit - (k + 1)) (room - (k + 1)) next)
run_on w rule m h limit room k o e l r len t next s p =
    let x = run_by w rule (limit - (k + 1)) (room - (k + 1)) next in
    let d : take (k + 1) (set h k t) ≡ take k h ++ (t ∷ []) = rw add-one (take-suc-set h k t (omega arith)) in
    e ∙ ap (preceded (take k h)) (run-turn w rule m limit room k l r ∙ run-made w rule m (limit - (k + 1)) (room - (k + 1)) t next s p) ∙ preceded-more (take k h) t x ∙ ap (λ (y : List ℕ). preceded y x) (sym d)

-- the rest of the history stays as it was
pub rest-kept : (h lent : List ℕ) (k t : ℕ) → drop k h ≡ drop k lent → drop (k + 1) (set h k t) ≡ drop (k + 1) lent
rest-kept h lent k t e =
    drop-set-lt (k + 1) h k t (omega arith)
    ∙ sym (drop-drop 1 k h)
    ∙ ap (drop 1) e
    ∙ drop-drop 1 k lent

pub leaves : (o : RunOutcome) (a : Ran) (m m' h lent : List ℕ) (k : ℕ) → o ≡ preceded (take k h) (ended (ending a.reason) m) → a.firings ≡ k → m' ≡ m
    → k ≤ length h → drop k h ≡ drop k lent → Leaves o a m' h lent
leaves o a m m' h lent k e f g l d =
    let n : length (take k h) + 0 ≡ k = omega (arith, length-take-le k h l) in
    let q : o.firings ≡ k = ap (λ (r : RunOutcome). r.firings) e ∙ n in
    record {
      reason = ap (λ (r : RunOutcome). r.reason) (sym e);
      firings = f ∙ sym q;
      marking-is = g ∙ ap (λ (r : RunOutcome). r.marking) (sym e);
      history-is =
          sym (take-append-drop k h)
          ∙ ap (λ (x : List ℕ). take k h ++ x) d
          ∙ ap (λ (x : List ℕ). x ++ drop k lent) (sym (ap (λ (r : RunOutcome). r.history) e ∙ append-nil (take k h)))
          ∙ ap (λ (x : ℕ). o.history ++ drop x lent) (sym q);
    }

-- a run that ends in this turn
pub leaves-ended : (o x : RunOutcome) (a : Ran) (m m' h lent : List ℕ) (k : ℕ) → o ≡ preceded (take k h) x → x ≡ ended (ending a.reason) m → a.firings ≡ k
    → m' ≡ m → k ≤ length h → drop k h ≡ drop k lent → Leaves o a m' h lent
leaves-ended o x a m m' h lent k d e f g l q = leaves o a m m' h lent k (d ∙ ap (preceded (take k h)) e) f g l q

-- a run that is refused before its first turn, and one that is as another
pub leaves-at-once : (o : RunOutcome) (a : Ran) (m lent : List ℕ) → o ≡ ended (ending a.reason) m → a.firings ≡ 0 → Leaves o a m lent lent
leaves-at-once o a m lent e f =
    let q : o.firings ≡ 0 = ap (λ (r : RunOutcome). r.firings) e in
    record {
      reason = ap (λ (r : RunOutcome). r.reason) (sym e);
      firings = f ∙ sym q;
      marking-is = ap (λ (r : RunOutcome). r.marking) (sym e);
      history-is = sym (ap (λ (r : RunOutcome). r.history ++ drop r.firings lent) e);
    }

pub leaves-as : (o x : RunOutcome) (a : Ran) (m h lent : List ℕ) → o ≡ x → Leaves x a m h lent → Leaves o a m h lent
leaves-as o x a m h lent e l = subst (λ (r : RunOutcome). Leaves r a m h lent) (sym e) l
