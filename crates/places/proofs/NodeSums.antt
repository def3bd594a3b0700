-- What the code counts for the nodes of an accepted table are the transitions of its nodes and their arcs.
use Rattle.std.proofs.Common.{◌≡◌, ℕ, suc, ◌+◌, ◌*◌, ◌<◌, ◌≤◌, Bool, true, false, not, ltb, leb, List, [], ◌∷◌, ◌++◌, map, length, get_or, sym, refl, ap, ◌∙◌, inl, inr, arith, length-append, le-ltb, lt-ltb, le-leb}
use native.Mathlib.Decide.{dec_lt, ℕ_discrete}
use lib.ListN.{length-map}
use borrow.Author.Tests.{lt-leb}
use Rattle.lists.specs.Lists.{pick, bit, from, keep, flat, member, positions, total}
use Rattle.lists.proofs.Tests.{false-true, same-no}
use Rattle.lists.proofs.Ranges.{from-length, from_member}
use Rattle.lists.proofs.Members.{member-here, member-there, member-get_or}
use Rattle.lists.proofs.Sums.{sum-append}
use Rattle.scheme.specs.Words.{publics, nodes, branches, branch_kind, node_kind, node_first, node_second, channel, branch_name, next, is_send, is_receive}
use Rattle.scheme.specs.Words.{arguments_of}
use Rattle.scheme.specs.Owners.{held}
use Rattle.scheme.specs.Scheme.{Scheme, Node, new, call, absent, send, receive, branch_at, scheme}
use Rattle.table.specs.Causes.{cause}
use Rattle.table.specs.Accepted.{Accepted, Usable}
use Rattle.table.proofs.Accepted.{accepted}
use Rattle.places.specs.Values.{Values, private_value_list, values_of}
use Rattle.places.specs.Places.{control, controls, places}
use Rattle.places.specs.Rows.{IsBound, Exists, has-control}
use Rattle.places.specs.Transitions.{Description, is_input, is_output, releasing, releases, copying, copies, making, going, silents, calling, from_node_descriptions}
use Rattle.places.specs.Inner.Plan.{today, privates_word, read_names_word}
use Rattle.places.specs.Answers.{Sums, sums}
use Rattle.places.specs.Inner.Counting.{add_times, over, bound_bit, public_count, private_count, release_sums, copy_sums, silent_sums, node_sums}
use Rattle.places.proofs.Arriving.{carried, copied}
use Rattle.places.proofs.Initial.{some-control}
use Rattle.places.proofs.Explicit.{going-inputs, going-outputs, calling-inputs, calling-outputs}
use Rattle.places.proofs.ArcCounts.{next_place, read_rows, new-inputs, new-outputs}
use Rattle.places.proofs.Totals.{input_sum, output_sum, privates_among, total-same, total-each, sum-of-map}
use Rattle.places.proofs.Totals
use Rattle.places.proofs.Totals.{release-input-sum, release-output-sum, copy-input-sum, copy-output-sum}
use Rattle.places.proofs.Controls.{nodes-are, publics-are}
use Rattle.places.proofs.ByWords.{other-call, stop-node, choice-node, new-node, call-node, silent-branch, held_of, arguments-of, choice-inside}
use Rattle.places.proofs.Adding.{over-one, over_none, silent-yes, silent-no}
use Rattle.places.proofs.NodeCounts.{stop-sums, choice-sums, new-sums, call-sums}

same-sums : (a a' b b' c c' : ℕ) → a ≡ a' → b ≡ b' → c ≡ c' → sums a b c ≡ sums a' b' c'
same-sums a a' b b' c c' p q r = rw (p, q, r)

-- ---- how many numbers pass a test

total-keep : (q : ℕ → Bool) (xs : List ℕ) → total (map (λ v. bit (q v)) xs) ≡ length (keep q xs)
unfolding total keep
total-keep q [] = refl
total-keep q (x ∷ xs) = go (q x) (total-keep q xs)
  where
    go : (b : Bool) → total (map (λ v. bit (q v)) xs) ≡ length (keep q xs)
        → bit b + total (map (λ v. bit (q v)) xs) ≡ length (pick b (x ∷ keep q xs) (keep q xs))
    go true e = omega (arith, e)
    go false e = omega (arith, e)

keep-both : (p : ℕ) (xs : List ℕ) → length (keep (λ v. ltb v p) xs) + length (keep (λ v. leb p v) xs) ≡ length xs
unfolding keep
keep-both p [] = refl
keep-both p (x ∷ xs) = go (dec_lt x p) (keep-both p xs)
  where
    go : Dec (x < p) → length (keep (λ v. ltb v p) xs) + length (keep (λ v. leb p v) xs) ≡ length xs
        → length (pick (ltb x p) (x ∷ keep (λ v. ltb v p) xs) (keep (λ v. ltb v p) xs))
        + length (pick (leb p x) (x ∷ keep (λ v. leb p v) xs) (keep (λ v. leb p v) xs))
        ≡ length (x ∷ xs)
    go (yes l) e = rw (lt-ltb x p l, lt-leb p x l) (omega (arith, e))
    go (no l) e = let u : p ≤ x = omega arith in rw (le-ltb x p u, le-leb p x u) (omega (arith, e))

-- ---- products

-- P public and Q private values, with e where the argument is bound
copy-inputs : (s P Q e : ℕ) → s + P * (e + 1) + Q * (e + 2) ≡ s + ((P + Q) * (1 + e) + Q)
copy-inputs s P Q e = omega arith

copy-outputs : (s P Q e : ℕ) → s + P * (e + 2) + Q * (e + 2) ≡ s + (P + Q) * (2 + e)
copy-outputs s P Q e = omega arith

module _ (w : List ℕ) (h : cause w ≡ 0) where
  abbrev S : Scheme
  S = scheme w

  abbrev U : Values
  U = today w

  abbrev ok : Accepted S
  ok = accepted w h

  pub bit_is : (x : ℕ) → Totals.bound_bit S ok x ≡ bound_bit w x
  bit_is x = rw (publics-are w) (go (dec_lt x (publics w)))
    where
      go : Dec (x < publics w) → bit (leb (publics w) x) ≡ bit (not (ltb x (publics w)))
      go (yes l) = rw (lt-ltb x (publics w) l, lt-leb (publics w) x l)
      go (no l) = let u : publics w ≤ x = omega arith in rw (le-ltb x (publics w) u, le-leb (publics w) x u)

  pub among-is : (vs : List ℕ) → privates_among S ok vs ≡ private_count w vs
  among-is vs = rw (publics-are w) (total-keep (λ v. leb (publics w) v) vs)

  pub parts : (vs : List ℕ) → public_count w vs + private_count w vs ≡ length vs
  parts vs = keep-both (publics w) vs

  -- with the transitions of the descriptions
  unfoldable pub plus : Sums → List Description → Sums
  plus s ds = sums (s.transitions + length ds) (s.inputs + input_sum S ok ds) (s.outputs + output_sum S ok ds)

  pub plus-is : (s : Sums) (ds : List Description) (t i o : ℕ) → s.transitions + length ds ≡ t → s.inputs + input_sum S ok ds ≡ i
      → s.outputs + output_sum S ok ds ≡ o → sums t i o ≡ plus s ds
  unfolding plus
  plus-is s ds t i o a b c = sym (same-sums _ t _ i _ o a b c)

  pub plus_none : (s : Sums) → plus s [] ≡ s
  unfolding plus total
  plus_none s = same-sums _ s.transitions _ s.inputs _ s.outputs (omega arith) (omega arith) (omega arith)

  pub plus-append : (s : Sums) (xs ys : List Description) → plus (plus s xs) ys ≡ plus s (xs ++ ys)
  unfolding plus
  plus-append s xs ys =
      same-sums _ _ _ _ _ _ (omega (arith, length-append xs ys)) (omega (arith, sum-append (λ d. length (positions (is_input S d) (places S U))) xs ys))
      (omega (arith, sum-append (λ d. length (positions (is_output S d) (places S U))) xs ys))

  pub over-plus : (step : Sums → ℕ → Sums) (g : ℕ → List Description) (xs : List ℕ)
      → ((x : ℕ) → member x xs ≡ true → (s : Sums) → step s x ≡ plus s (g x)) → (s : Sums) → over step s xs ≡ plus s (flat g xs)
  unfolding flat
  over-plus step g [] f s = over_none step s ∙ sym (plus_none s)
  over-plus step g (x ∷ xs) f s =
      over-one step s x xs ∙ ap (λ (t : Sums). over step t xs) (f x (member-here x xs) s)
      ∙ over-plus step g xs (λ z m. f z (member-there z x xs m)) (plus s (g x))
      ∙ plus-append s (g x) (flat g xs)

  -- ---- releases

  module _ (n m : ℕ) (l : n < S.nodes) (u : m < S.nodes) where
    release-one : (k z : ℕ) → k < controls S n → IsBound S U z → (s : Sums)
        → release_sums w s z ≡ plus s (map (releasing S U n m k z) (values_of S U z))
    unfolding release_sums
    release-one k z c b s =
        let vs = values_of S U z in
        let P = public_count w vs in
        let Q = private_count w vs in
        let q = parts vs in
        let ds = map (releasing S U n m k z) vs in
        plus-is s ds _ _ _
        (rw (length-map vs (releasing S U n m k z), sym q) (omega arith))
        (rw (release-input-sum S ok n m k z l u c b, sym q) (omega arith))
        (rw (release-output-sum S ok n m k z l u c b, among-is vs, sym q) (omega arith))

    releases-sum : (zs : List ℕ) (k : ℕ) → ((z : ℕ) → member z zs ≡ true → IsBound S U z) → k + length zs ≤ controls S n → (s : Sums)
        → over (release_sums w) s zs ≡ plus s (releases S U n m k zs)
    unfolding releases
    releases-sum [] k b c s = over_none (release_sums w) s ∙ sym (plus_none s)
    releases-sum (z ∷ zs) k b c s =
        over-one (release_sums w) s z zs
        ∙ ap (λ (t : Sums). over (release_sums w) t zs) (release-one k z (omega arith) (b z (member-here z zs)) s)
        ∙ releases-sum zs (suc k) (λ x q. b x (member-there x z zs q)) (omega arith) (plus s (map (releasing S U n m k z) (values_of S U z)))
        ∙ plus-append s (map (releasing S U n m k z) (values_of S U z)) (releases S U n m (suc k) zs)

    -- ---- copies

    copy-one : (k f a : ℕ) → k < controls S n → IsBound S U f → S.restricted f ≡ false → a < S.publics + S.bounds → (a ≡ f → ⊥)
        → ((v : ℕ) → member v (values_of S U a) ≡ true → member v (values_of S U f) ≡ true) → (s : Sums)
        → copy_sums w s a ≡ plus s (map (copying S U n m k f a) (values_of S U a))
    unfolding copy_sums
    copy-one k f a c b r low d flow s =
        let vs = values_of S U a in
        let P = public_count w vs in
        let Q = private_count w vs in
        let e = bound_bit w a in
        let q = parts vs in
        let ds = map (copying S U n m k f a) vs in
        plus-is s ds _ _ _
        (rw (length-map vs (copying S U n m k f a), sym q) (omega arith))
        (rw (copy-input-sum S ok n m k f a l u c b r low d flow, bit_is a, among-is vs, sym q) (sym (copy-inputs s.inputs P Q e)))
        (rw (copy-output-sum S ok n m k f a l u c b r low d flow, bit_is a, sym q) (sym (copy-outputs s.outputs P Q e)))

    copies-sum : (fs as' : List ℕ) (k : ℕ) → length as' ≡ length fs → k + length fs ≤ controls S n
        → ((f : ℕ) → member f fs ≡ true → IsBound S U f × (S.restricted f ≡ false))
        → ((a : ℕ) → member a as' ≡ true → (a < S.publics + S.bounds) × ((f : ℕ) → member f fs ≡ true → a ≡ f → ⊥))
        → ((j : ℕ) → j < length fs → (v : ℕ) → member v (values_of S U (get_or as' j 0)) ≡ true → member v (values_of S U (get_or fs j 0)) ≡ true) → (s : Sums)
        → over (copy_sums w) s as' ≡ plus s (copies S U n m k fs as')
    unfolding copies
    copies-sum [] [] k e c b d flow s = over_none (copy_sums w) s ∙ sym (plus_none s)
    copies-sum [] (a ∷ as') k e c b d flow s = absurd (omega arith)
    copies-sum (f ∷ fs) [] k e c b d flow s = absurd (omega arith)
    copies-sum (f ∷ fs) (a ∷ as') k e c b d flow s =
        over-one (copy_sums w) s a as'
        ∙ ap (λ (t : Sums). over (copy_sums w) t as')
        (copy-one k f a (omega arith) (b f (member-here f fs)).0 (b f (member-here f fs)).1 (d a (member-here a as')).0
        ((d a (member-here a as')).1 f (member-here f fs)) (flow 0 (omega arith)) s)
        ∙ copies-sum fs as' (suc k) (omega arith) (omega arith) (λ x q. b x (member-there x f fs q))
        (λ x q. ((d x (member-there x a as' q)).0, λ z o. (d x (member-there x a as' q)).1 z (member-there z f fs o)))
        (λ j u. flow (suc j) (omega arith))
        (plus s (map (copying S U n m k f a) (values_of S U a)))
        ∙ plus-append s (map (copying S U n m k f a) (values_of S U a)) (copies S U n m (suc k) fs as')

  -- ---- one transition with one input and one output

  plus_one : (s : Sums) (d : Description) → length (positions (is_input S d) (places S U)) ≡ 1 → length (positions (is_output S d) (places S U)) ≡ 1
      → add_times s 1 1 1 ≡ plus s (d ∷ [])
  unfolding total
  plus_one s d i o = plus-is s (d ∷ []) _ _ _ (omega arith) (omega (arith, i)) (omega (arith, o))

  first-has : (n : ℕ) → n < S.nodes → Exists S U (control n 0)
  first-has n l = has-control {n = n} {k = 0} l (omega (arith, some-control S U n))

  inside : (n : ℕ) → n < nodes w → n < S.nodes
  inside n l = omega (arith, nodes-are w)

  held-bound : (n z : ℕ) → member z (S.held n) ≡ true → IsBound S U z
  held-bound n z q = let r = ok.held-name n z q in (r.low, r.high)

  read_names : read_rows S ok ≡ read_names_word w
  unfolding scheme
  read_names = refl

  -- ---- nodes

  module _ (n : ℕ) (l : n < nodes w) (s : Sums) where
    stop-sum : node_kind w n ≡ 0 → node_sums w s n ≡ plus s (from_node_descriptions S U n (S.node n))
    unfolding controls
    stop-sum e =
        let at = stop-node w h n l e in
        stop-sums w h n l s e ∙ ap (over (release_sums w) s) (sym (held_of w h n))
        ∙ rw at (releases-sum n n (inside n l) (inside n l) (S.held n) 0 (held-bound n) (rw at (omega arith)) s)

    new-sum : node_kind w n ≡ 2 → node_sums w s n ≡ plus s (from_node_descriptions S U n (S.node n))
    new-sum e =
        let at = new-node w h n l e in
        new-sums w h n l s e ∙ rw at (plus-is s ds _ _ _ (omega (arith, size)) (rw (ins at) (omega arith)) (rw (outs at) (omega arith)))
      where
        r : ℕ
        r = node_first w n

        m : ℕ
        m = node_second w n

        ds : List Description
        ds = map (making S U n r m) (private_value_list S U)

        count : length (private_value_list S U) ≡ privates_word w
        count = from-length S.publics U.privates

        size : length ds ≡ privates_word w
        size = length-map (private_value_list S U) (making S U n r m) ∙ count

        private : (v : ℕ) → member v (private_value_list S U) ≡ true → (S.publics ≤ v) × (v < S.publics + U.privates)
        private v q = let b = from_member v S.publics U.privates q in (b.0, b.1)

        bound : S.node n ≡ new r m → IsBound S U r
        bound at = let q = ok.new-name n r m at in (q.low, q.high)

        ins : S.node n ≡ new r m → input_sum S ok ds ≡ privates_word w * (read_names_word w + 2)
        ins at =
            sum-of-map (λ d. length (positions (is_input S d) (places S U))) (making S U n r m) (private_value_list S U)
            ∙ total-same (λ v. length (positions (is_input S (making S U n r m v)) (places S U))) (λ v. read_rows S ok + 2) (private_value_list S U)
            (λ v q. new-inputs S ok n r m v (inside n l) (ok.new-inside n r m at).1 (ok.new-restricted n r m at) (bound at) (private v q).0
            (private v q).1)
            ∙ total-each (read_rows S ok + 2) (private_value_list S U) ∙ rw (count, read_names)

        outs : S.node n ≡ new r m → output_sum S ok ds ≡ privates_word w * (read_names_word w + 2)
        outs at =
            sum-of-map (λ d. length (positions (is_output S d) (places S U))) (making S U n r m) (private_value_list S U)
            ∙ total-same (λ v. length (positions (is_output S (making S U n r m v)) (places S U))) (λ v. read_rows S ok + 2) (private_value_list S U)
            (λ v q. new-outputs S ok n r m v (inside n l) (ok.new-inside n r m at).1 (ok.new-restricted n r m at) (bound at) (private v q).0
            (private v q).1)
            ∙ total-each (read_rows S ok + 2) (private_value_list S U) ∙ rw (count, read_names)

    -- a branch that is not silent has no transition of its own
    loud : (b : ℕ) → (branch_kind w b ≡ 0 → ⊥) → silents S U n b (S.branch b) ≡ []
    unfolding scheme branch_at
    loud b e = rw (same-no (branch_kind w b) 0 e) (go (ltb b (branches w)) (is_send w b) (is_receive w b))
      where
        x : ℕ
        x = channel w b

        y : ℕ
        y = branch_name w b

        go : (i j k : Bool) → silents S U n b (pick i (pick j (send x y (next w b)) (pick k (receive x y (next w b)) absent)) absent) ≡ []
        go true true k = refl
        go true false true = refl
        go true false false = refl
        go false j k = refl

    silent-sum : (b : ℕ) → b < branches w → (t : Sums) → silent_sums w t b ≡ plus t (silents S U n b (S.branch b))
    silent-sum b u t = go (ℕ_discrete (branch_kind w b) 0)
      where
        go : Dec (branch_kind w b ≡ 0) → silent_sums w t b ≡ plus t (silents S U n b (S.branch b))
        go (yes e) =
            let at = silent-branch w h b u e in
            let m : next w b < S.nodes = rw at at (ok.next-inside b (rw at)) in
            silent-yes w t b e ∙ rw at (plus_one t (going S U n b (next w b))
            (ap (λ (xs : List ℕ). length xs) (going-inputs S U n b (next w b) (first-has n (inside n l))))
            (ap (λ (xs : List ℕ). length xs) (going-outputs S U n b (next w b) (first-has (next w b) m))))
        go (no e) = silent-no w t b e ∙ rw (loud b e) (sym (plus_none t))

    choice-sum : node_kind w n ≡ 1 → node_sums w s n ≡ plus s (from_node_descriptions S U n (S.node n))
    choice-sum e =
        let at = choice-node w h n l e in
        let f = node_first w n in
        let c = node_second w n in
        choice-sums w h n l s e ∙ rw at (over-plus (silent_sums w) (λ b. silents S U n b (S.branch b)) (from f c)
        (λ b q. silent-sum b (omega (arith, from_member b f c q, choice-inside w h n l e))) s)

    call-controls : (d : ℕ) → S.node n ≡ call d → controls S n ≡ suc (length (S.formals d) + length (S.held n))
    unfolding controls
    call-controls d at = rw at

    call-sum : (node_kind w n ≡ 0 → ⊥) → (node_kind w n ≡ 1 → ⊥) → (node_kind w n ≡ 2 → ⊥) → node_sums w s n ≡ plus s (from_node_descriptions S U n (S.node n))
    call-sum a b c =
        let e = other-call w h n l a b c in
        let at = call-node w h n l e in
        let d = node_first w n in
        let u = (ok.call-inside n d at).1 in
        let m = ok.root-inside d u in
        let size = call-controls d at in
        let np = next_place S U n 0 (S.root d) (inside n l) m in
        let cs = copies S U n (S.root d) 1 (S.formals d) (S.arguments n) in
        let rs = releases S U n (S.root d) (suc (length (S.formals d))) (S.held n) in
        let one = plus_one s (calling S U n (S.root d))
        (ap (λ (xs : List ℕ). length xs) (calling-inputs S U n (S.root d) (first-has n (inside n l))))
        (ap (λ (xs : List ℕ). length xs) (calling-outputs S U n (S.root d) np.place np.goes np.has)) in
        call-sums w h n l s a b c
        ∙ ap (λ (t : Sums). over (release_sums w) (over (copy_sums w) t (arguments_of w n)) (held w n)) one
        ∙ rw (sym (arguments-of w h n l e), sym (held_of w h n))
        (ap (λ (t : Sums). over (release_sums w) t (S.held n))
        (copies-sum n (S.root d) (inside n l) m (S.formals d) (S.arguments n) 1 (ok.call-arguments n d at) (omega (arith, size)) (formal d)
        (argument-facts d at) (flows d at) (plus s (calling S U n (S.root d) ∷ [])))
        ∙ releases-sum n (S.root d) (inside n l) m (S.held n) (suc (length (S.formals d))) (held-bound n) (omega (arith, size))
        (plus (plus s (calling S U n (S.root d) ∷ [])) cs)
        ∙ plus-append (plus s (calling S U n (S.root d) ∷ [])) cs rs ∙ plus-append s (calling S U n (S.root d) ∷ []) (cs ++ rs)
        ∙ ap (λ (ν : Node). plus s (from_node_descriptions S U n ν)) (sym at))
      where
        flows : (d : ℕ) → S.node n ≡ call d → (j : ℕ) → j < length (S.formals d) → (v : ℕ) → member v (values_of S U (get_or (S.arguments n) j 0)) ≡ true
            → member v (values_of S U (get_or (S.formals d) j 0)) ≡ true
        flows d at j k v =
            carried S (get_or (S.arguments n) j 0) (get_or (S.formals d) j 0) v
            (ok.formal-name d (get_or (S.formals d) j 0) (member-get_or (S.formals d) j k)).low (λ o. copied S ok n d j o at k)

        formal : (d f : ℕ) → member f (S.formals d) ≡ true → IsBound S U f × (S.restricted f ≡ false)
        formal d f q = let r = ok.formal-name d f q in ((r.low, r.high), ok.formal-free d f q)

        argument-facts : (d : ℕ) → S.node n ≡ call d → (x : ℕ) → member x (S.arguments n) ≡ true
            → (x < S.publics + S.bounds) × ((f : ℕ) → member f (S.formals d) ≡ true → x ≡ f → ⊥)
        argument-facts d at x q = go (ok.argument-usable n d x at q)
          where
            go : Usable S n x → (x < S.publics + S.bounds) × ((f : ℕ) → member f (S.formals d) ≡ true → x ≡ f → ⊥)
            go (inl p) = (omega arith, λ f m e. omega (arith, (formal d f m).0.0))
            go (inr p) = ((held-bound n x p).1, λ f m e. false-true (ok.call-fresh n d f at m) (rw (sym e) p))

    pub node-sum : node_sums w s n ≡ plus s (from_node_descriptions S U n (S.node n))
    node-sum = go (ℕ_discrete (node_kind w n) 0) (ℕ_discrete (node_kind w n) 1) (ℕ_discrete (node_kind w n) 2)
      where
        go : Dec (node_kind w n ≡ 0) → Dec (node_kind w n ≡ 1) → Dec (node_kind w n ≡ 2) → node_sums w s n ≡ plus s (from_node_descriptions S U n (S.node n))
        go (yes e) b c = stop-sum e
        go (no a) (yes e) c = choice-sum e
        go (no a) (no b) (yes e) = new-sum e
        go (no a) (no b) (no c) = call-sum a b c
